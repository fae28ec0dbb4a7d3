-- To an index of another locale nothing is put.
-- These are the answers to the goals of `own_strip`.
use Rattle.std.proofs.Common.{◌≡◌, ◌==◌, false, Ok, arith, sym, ap, ◌∙◌, FitsSigned, w64, rules}
use Rattle.std.specs.Prelude.{if◌then◌else◌}
use Rattle.std.proofs.lemmas.Bool.Decides.{nat_tests}
use Rattle.std.proofs.lemmas.Int.{to_z-of_z}
use Rattle.dpl_array.specs.Elements.{behind}
use Rattle.dpl_map.specs.Maps.{owner}
use Rattle.dpl_language.specs.Arithmetic.{unit_of}
use Rattle.dpl_workers.proofs.OwnFolds.{repeated}
use Rattle.dpl_workers.proofs.fold_owned.own_strip.Goals as goal

pub returns-then-owner-locale-clause-holds : goal.returns-then-owner-locale-clause-holds
returns-then-owner-locale-clause-holds g c meaning tells k below few =
    let op = g.O.Operator.op c.args.operator.now in
    let value = g.O.Operator.value in
    let owns = owner c.args.map.now in
    let t = behind k c.args.row in
    let unlike = c.if-owner-locale.true in
    let other : (c.owner.result == c.args.locale) ≡ false = grind (arith, nat_tests, unlike) in
    let same = c.steady-size.ensures.same k below ∙ sym (c.owner.ensures.owner ∙ ap owns c.first.ensures) in
    let fits : FitsSigned w64 c.over_none.result = search rules in
    let word = repeated 64 k _ few ∙ to_z-of_z w64 c.over_none.result fits in
    ap (λ b. if b then meaning t else Ok (unit_of op)) (ap (λ n. n == c.args.locale) same ∙ other) ∙ ap Ok (sym c.over_none.ensures) ∙ ap (λ w. Ok (value w)) (sym word)

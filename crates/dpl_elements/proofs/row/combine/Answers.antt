-- One word more is what the operator makes of the old one and of the int.
-- These are the answers to the goals of `combine`.
use Rattle.std.proofs.Common.{◌≡◌, pos, None, get_or, length-set, sym, ap, ◌∙◌, arith, FitsSigned, w64, rules}
use Rattle.std.proofs.lemmas.Int.{to_z-of_z}
use Rattle.std.proofs.lemmas.List.{get_or-set_other}
use Rattle.dpl_language.specs.Values.{Int}
use Rattle.dpl_language.specs.Arithmetic.{assigned}
use Rattle.dpl_strips.proofs.Strips.{written}
use Rattle.dpl_elements.proofs.row.combine.Goals as goal

pub loop-k-preserved : goal.loop-k-preserved
loop-k-preserved c =
    let k = c.loop-k.k in
    let op = c.args.op in
    let old = c.args.old.now in
    let strip = c.args.strip.now.words in
    let words = c.loop-k.strip.words in
    let old_fits : FitsSigned w64 (get_or old k (pos 0)) = search rules in
    let word_fits : FitsSigned w64 (get_or words k (pos 0)) = search rules in
    let made_fits : FitsSigned w64 c.assigned.result = search rules in
    let makes = simp to_z-of_z at c.assigned.ensures in
    record {
      row = c.loop-k.invariant.row;
      size = c.loop-k.invariant.size;
      long = length-set words k _ ∙ c.loop-k.invariant.long;
      made = written (λ j w. assigned op None (Int (get_or old j (pos 0))) (Int (get_or strip j (pos 0))) ≡ Int w) words k _ (search rules) c.loop-k.invariant.made
          (ap (λ n. assigned op None (Int (get_or old k (pos 0))) (Int n)) (sym (c.loop-k.invariant.left k (omega arith))) ∙ sym makes ∙ ap Int (sym (to_z-of_z w64 c.assigned.result made_fits)));
      left = λ j below. get_or-set_other words k j _ (pos 0) (λ is. omega (arith, below, is)) ∙ c.loop-k.invariant.left j (omega (arith, below));
    }

pub returns-clause-words : goal.returns-clause-words
returns-clause-words c k below cap = c.loop-k.invariant.made k (search rules)

-- The next word lies a step further.
-- These are the answers to the goals of `count`.
use Rattle.std.proofs.Common.{◌≡◌, ◌+ℤ◌, ◌*ℤ◌, pos, length-set, ap, ◌∙◌, FitsSigned, w64, to_z, of_z, rules}
use Rattle.std.proofs.lemmas.Int.{to_z-of_z, int_wrap-add_left}
use Rattle.dpl_language.specs.Arithmetic.{wrap}
use Rattle.dpl_strips.proofs.Strips.{written}
use Rattle.dpl_strips.proofs.Paces.{further}
use Rattle.dpl_strips.proofs.turn_strips.count.Goals as goal

pub loop-k-preserved : goal.loop-k-preserved
loop-k-preserved c =
    let k = c.loop-k.k in
    let words = c.loop-k.strip.words in
    let from = to_z w64 (of_z w64 c.args.from) in
    let step = to_z w64 (of_z w64 c.step-step.result) in
    let sum_fits : FitsSigned w64 c.sum-next.result = search rules in
    record {
      row = c.loop-k.invariant.row;
      long = length-set words k _ ∙ c.loop-k.invariant.long;
      counted = written (λ j w. w ≡ wrap (from +ℤ step *ℤ pos j)) words k _ (search rules) c.loop-k.invariant.counted
          c.loop-k.invariant.next;
      next = to_z-of_z w64 c.sum-next.result sum_fits ∙ c.sum-next.ensures ∙ ap (λ n. wrap (n +ℤ step)) c.loop-k.invariant.next
          ∙ int_wrap-add_left w64 (from +ℤ step *ℤ pos k) step ∙ ap wrap (further from step k);
    }

-- One word more is 0 where the mask's is.
-- These are the answers to the goals of `narrow`.
use Rattle.std.proofs.Common.{◌≡◌, pos, if◌then◌else◌, get_or, length-set, ap, ◌∙◌, arith, FitsSigned, w64, rules}
use Rattle.std.specs.Ordering.{int_eq}
use Rattle.std.proofs.lemmas.Int.{to_z-of_z}
use Rattle.std.proofs.lemmas.List.{get_or-set_other}
use Rattle.dpl_strips.proofs.Strips.{written}
use Rattle.dpl_batches.proofs.keep.narrow.Goals as goal

pub loop-k-preserved : goal.loop-k-preserved
loop-k-preserved c =
    let k = c.loop-k.k in
    let masks = c.in-Some.mask.now in
    let holds = c.args.holds.now.words in
    let words = c.loop-k.holds.words in
    let mask_fits : FitsSigned w64 (get_or masks k (pos 0)) = search rules in
    let word_fits : FitsSigned w64 (get_or words k (pos 0)) = search rules in
    let made_fits : FitsSigned w64 c.chosen.result = search rules in
    let makes = simp to_z-of_z at c.chosen.ensures in
    record {
      long = length-set words k _ ∙ c.loop-k.invariant.long;
      made = written (λ j w. w ≡ (if int_eq (get_or masks j (pos 0)) (pos 0) then pos 0 else get_or holds j (pos 0))) words k _ (search rules) c.loop-k.invariant.made
          (to_z-of_z w64 c.chosen.result made_fits ∙ makes ∙ ap (λ n. if int_eq (get_or masks k (pos 0)) (pos 0) then pos 0 else n) (c.loop-k.invariant.left k (omega arith)));
      left = λ j below. get_or-set_other words k j _ (pos 0) (λ is. omega (arith, below, is)) ∙ c.loop-k.invariant.left j (omega (arith, below));
    }

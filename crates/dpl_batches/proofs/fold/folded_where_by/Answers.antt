-- One int more counts where the mask says so.
-- These are the answers to the goals of `folded_where_by`.
use Rattle.std.proofs.Common.{◌≡◌, suc, ◌+◌, pos, if◌then◌else◌, get_or, sym, ap, ◌∙◌, arith, FitsSigned, w64, rules}
use Rattle.std.specs.Ordering.{int_eq}
use mir.Val.{to_z}
use Rattle.std.proofs.lemmas.Int.{to_z-of_z}
use Rattle.dpl_batches.specs.Folded.{folded_one_where, folded_where}
use Rattle.dpl_batches.proofs.fold.folded_where_by.Goals as goal

pub loop-k-preserved : goal.loop-k-preserved
loop-k-preserved c =
    let k = c.loop-k.k in
    let fold = c.args.fold in
    let masks = c.args.mask.now in
    let words = c.args.words.now in
    let mask_fits : FitsSigned w64 (get_or masks k (pos 0)) = search rules in
    let word_fits : FitsSigned w64 (get_or words k (pos 0)) = search rules in
    let made_fits : FitsSigned w64 c.loop-k.made = search rules in
    let next_fits : FitsSigned w64 c.folded_one-next.result = search rules in
    let chosen_fits : FitsSigned w64 c.chosen-made.result = search rules in
    let next = simp to_z-of_z at c.folded_one-next.ensures in
    let chosen = simp to_z-of_z at c.chosen-made.ensures in
    let same : k + 1 ≡ suc k = omega arith in
    to_z-of_z w64 c.chosen-made.result chosen_fits
    ∙ chosen
    ∙ ap (λ n. if int_eq (get_or masks k (pos 0)) (pos 0) then to_z w64 c.loop-k.made-bits else n) next
    ∙ ap (λ n. folded_one_where fold n (get_or masks k (pos 0)) (get_or words k (pos 0))) c.loop-k.invariant
    ∙ ap (folded_where fold _ masks words) (sym same)

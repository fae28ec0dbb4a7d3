-- Neither sum wraps.
-- These are the answers to the goals of `keeps`.
use Rattle.std.proofs.Common.{refl, rules, FitsSigned, w64, pos, slice_index_or, ◌+ℤ◌, subst, ℤ}
use Rattle.std.proofs.lemmas.Int.{to_z-of_z}
use Rattle.dpl_halo.proofs.TurnLemmas.{subscript-keeps}
use Rattle.dpl_halo.proofs.shift.keeps.Goals as goal

pub returns : goal.returns
returns c = λ yes.
    let s = c.args.subscript in
    let a_fits : FitsSigned w64 c.coordinate.result = search rules in
    let b_fits : FitsSigned w64 c.coordinate-2.result = search rules in
    let c_fits : FitsSigned w64 s.offset = search rules in
    let under : FitsSigned w64 (c.coordinate.result +ℤ s.offset) = simp to_z-of_z at (c.if-not-fits.ensures refl) in
    let over : FitsSigned w64 (c.coordinate-2.result +ℤ s.offset) = simp to_z-of_z at (c.fits-2.ensures yes) in
    let first : FitsSigned w64 (slice_index_or c.args.low s.coordinate (pos 0) +ℤ s.offset) = subst (λ (i : ℤ). FitsSigned w64 (i +ℤ s.offset)) c.coordinate.ensures under in
    let last : FitsSigned w64 (slice_index_or c.args.high s.coordinate (pos 0) +ℤ s.offset) = subst (λ (i : ℤ). FitsSigned w64 (i +ℤ s.offset)) c.coordinate-2.ensures over in
    subscript-keeps s c.args.low c.args.high first last

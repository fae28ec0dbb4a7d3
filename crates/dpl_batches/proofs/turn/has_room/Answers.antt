-- What a whole strip leaves room for, each part of it does.
-- These are the answers to the goals of `has_room`.
use Rattle.std.proofs.Common.{◌≡◌, ◌≤◌, pos, ◌+ℤ◌, ◌*ℤ◌, length, FitsSigned, w64, subst, sym, ap, ◌∙◌, arith, rules}
use Rattle.std.proofs.lemmas.Int.{to_z-of_z}
use Rattle.dpl_domain.specs.Ranks.{last_of}
use Rattle.dpl_batches.proofs.Rooms.{word_of, has-room}
use Rattle.dpl_batches.proofs.turn.has_room.Goals as goal

pub returns : goal.returns
returns c told =
    let row = c.args.row in
    let at = c.numbers-inner.result in
    let more = c.in-Some.more in
    let coordinates : row.first ≡ last_of (length row.first) at.0 at.1 at.2 = subst (λ t. t ≡ last_of (length t) at.0 at.1 at.2) c.first-first.ensures c.numbers-inner.ensures.coordinates in
    let least : 1 ≤ length row.first = omega (arith, ap length c.first-first.ensures, c.rank.ensures.limits) in
    let most : length row.first ≤ 3 = omega (arith, ap length c.first-first.ensures, c.rank.ensures.limits) in
    let z_fits : FitsSigned w64 at.2 = search rules in
    let s_fits : FitsSigned w64 c.step.result = search rules in
    let step = to_z-of_z w64 c.step.result s_fits ∙ c.step.ensures.step in
    let far : FitsSigned w64 (row.step *ℤ pos 64) = subst (λ s. FitsSigned w64 (s *ℤ pos 64)) step c.in-Some.ensures.0 in
    let more_fits : FitsSigned w64 more = subst (FitsSigned w64) (sym c.in-Some.ensures.1) c.in-Some.ensures.0 in
    let more_is : word_of more ≡ row.step *ℤ pos 64 = to_z-of_z w64 more more_fits ∙ c.in-Some.ensures.1 ∙ ap (λ s. s *ℤ pos 64) step in
    let last : FitsSigned w64 (at.2 +ℤ row.step *ℤ pos 64) =
    subst (FitsSigned w64) (ap (λ n. n +ℤ word_of more) (to_z-of_z w64 at.2 z_fits) ∙ ap (λ n. at.2 +ℤ n) more_is) c.in-Some-checked_add.ensures.0 in
    has-room row at.0 at.1 at.2 least most coordinates z_fits far last

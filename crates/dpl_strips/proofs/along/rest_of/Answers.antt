-- The rest's first index, by its coordinates.
-- These are the answers to the goals of `rest_of`.
use Rattle.std.proofs.Common.{◌≡◌, ℤ, pos, ◌+ℤ◌, ◌*ℤ◌, List, [], ◌∷◌, length, FitsSigned, w64, to_z, of_z, subst, sym, ap, ◌∙◌, arith, rules}
use Rattle.std.proofs.lemmas.Int.{to_z-of_z}
use Rattle.dpl_domain.specs.Ranks.{last_of}
use Rattle.dpl_array.specs.Elements.{Row}
use Rattle.dpl_strips.proofs.RowParts.{behind-at}
use Rattle.dpl_strips.proofs.along.rest_of.Goals as goal

pub returns-in_default-rank : goal.returns-in_default-rank
returns-in_default-rank c =
    let row = c.args.row in
    let k = c.args.size in
    let at = c.numbers-outer.result in
    let last = c.in-Some-checked_add.last in
    let coordinates : row.first ≡ last_of (length row.first) at.0 at.1 at.2 = subst (λ t. t ≡ last_of (length t) at.0 at.1 at.2) c.first-first.ensures c.numbers-outer.ensures.coordinates in
    let x_fits : FitsSigned w64 at.0 = search rules in
    let y_fits : FitsSigned w64 at.1 = search rules in
    let last_fits : FitsSigned w64 last = search rules in
    let last_is : last ≡ at.2 +ℤ row.step *ℤ pos k = search rules in
    let three : length row.first ≡ 3 = ap length (sym c.first-first.ensures) ∙ omega (arith, c.rank.ensures.rank, c.rank.ensures.limits, c.in_default-rank) in
    c.begun_at-in_default-rank.ensures
    ∙ ap {A = List ℤ} {B = Row} (λ first. record { first = first; step = row.step })
    (c.space.ensures
    ∙ ap (λ i. i ∷ to_z w64 (of_z w64 at.1) ∷ to_z w64 (of_z w64 last) ∷ []) (to_z-of_z w64 at.0 x_fits)
    ∙ ap (λ i. at.0 ∷ i ∷ to_z w64 (of_z w64 last) ∷ []) (to_z-of_z w64 at.1 y_fits)
    ∙ ap (λ i. at.0 ∷ at.1 ∷ i ∷ []) (to_z-of_z w64 last last_fits ∙ last_is)
    ∙ behind-at row k at.0 at.1 at.2 3 coordinates three)

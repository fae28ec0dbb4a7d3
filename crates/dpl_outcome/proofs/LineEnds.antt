-- Where a text ends.
-- It is within a line where its last byte is no newline.
use Rattle.std.proofs.Common.{◌≡◌, ℕ, suc, ◌-◌, ◌≤◌, List, [], ◌∷◌, length, refl, ap, ◌∙◌, not, nat_eq, slice_index_or, true, false, arith}
use Rattle.std.specs.Prelude.{if◌then◌else◌}
use Rattle.dpl_language.specs.Program.{line_ended}

abbrev mid_line : ℕ → List ℕ
mid_line c = if not (nat_eq c 10) then 10 ∷ [] else []

by_test : (c : ℕ) → line_ended (c ∷ []) ≡ mid_line c
by_test c =
    let none : List ℕ = [] in
    let newline : List ℕ = 10 ∷ [] in
    elim (nat_eq c 10) as (λ b. (if b then none else newline) ≡ (if not b then newline else none)) [ true ↦ refl | false ↦ refl ]

-- by the last byte of a text that has one
pub line_ended-at : (text : List ℕ) → 1 ≤ length text → line_ended text ≡ mid_line (slice_index_or text (length text - 1) 0)
line_ended-at [] some = absurd (omega (arith, some))
line_ended-at (c ∷ []) some = by_test c
line_ended-at (c ∷ d ∷ cs) some =
    let last : suc (length (d ∷ cs) - 1) ≡ length (c ∷ d ∷ cs) - 1 = omega arith in
    line_ended-at (d ∷ cs) (omega arith) ∙ ap (λ k. mid_line (slice_index_or (c ∷ d ∷ cs) k 0)) last

-- What stands behind lines of a text, and from a place on, is what the text ends with.
use Rattle.std.proofs.Common.{◌≡◌, refl, append_assoc, min, ap, sym, ◌∙◌, ℕ, zero, suc, ◌+◌, ◌-◌, ◌≤◌, true, false, ◌==◌, if◌then◌else◌, List, [], ◌∷◌, ◌++◌, length, drop, take, arith}
use Rattle.std.proofs.Math.Seq.{drop-append_seam}
use Rattle.std.proofs.lemmas.List.{take-append-drop, drop_min}
use Rattle.std.proofs.Math.ListN.{length-append}
use Rattle.dpl_explain.specs.Excerpt.{behind_line, behind_lines, behind_place}

-- the text ends with the rest
pub record EndsWith (text rest : List ℕ) : Type 0 where
  pub front : List ℕ
  pub parts : text ≡ front ++ rest

ends-later : (b : ℕ) (bs rest : List ℕ) → EndsWith bs rest → EndsWith (b ∷ bs) rest
ends-later b bs rest e = record { front = b ∷ e.front; parts = ap (λ t. b ∷ t) e.parts }

ends-both : (text middle rest : List ℕ) → EndsWith text middle → EndsWith middle rest → EndsWith text rest
ends-both text middle rest e d = record {
  front = e.front ++ d.front;
  parts = e.parts ∙ ap (λ t. e.front ++ t) d.parts ∙ sym (append_assoc e.front d.front rest);
}

behind_line-ends : (text : List ℕ) → EndsWith text (behind_line text)
behind_line-ends [] = record { front = []; parts = refl }
behind_line-ends (b ∷ bs) =
    elim (b == 10) as (λ v. EndsWith (b ∷ bs) (if v then bs else behind_line bs)) [
      | true ↦ record { front = b ∷ []; parts = refl }
      | false ↦ ends-later b bs (behind_line bs) (behind_line-ends bs)
    ]

behind_lines-ends : (n : ℕ) (text : List ℕ) → EndsWith text (behind_lines n text)
behind_lines-ends zero text = record { front = []; parts = refl }
behind_lines-ends (suc n) text =
    ends-both text (behind_line text) (behind_lines n (behind_line text)) (behind_line-ends text) (behind_lines-ends n (behind_line text))

pub behind_place-ends : (line column : ℕ) (text : List ℕ) → EndsWith text (behind_place line column text)
behind_place-ends line column text =
    let from : List ℕ = behind_lines (line - 1) text in
    let cut : EndsWith from (drop (column - 1) from) = record { front = take (column - 1) from; parts = sym (take-append-drop (column - 1) from) } in
    ends-both text from (drop (column - 1) from) (behind_lines-ends (line - 1) text) cut

pub ends-length : (text rest : List ℕ) → EndsWith text rest → length rest ≤ length text
ends-length text rest e = let l : length text ≡ length e.front + length rest = ap length e.parts ∙ length-append e.front rest in omega arith

-- what is left behind as much as stands before the rest is the rest
pub drop-ends : (text rest : List ℕ) → EndsWith text rest → drop (length text - length rest) text ≡ rest
drop-ends text rest e =
    let l : length text ≡ length e.front + length rest = ap length e.parts ∙ length-append e.front rest in
    let n : length text - length rest ≡ length e.front = omega arith in
    ap (λ k. drop k text) n ∙ ap (drop (length e.front)) e.parts ∙ drop-append_seam e.front rest

-- the cut of a line at the column, or at its end where that is before
pub behind_place-cut : (line column k : ℕ) (text from back : List ℕ) → from ≡ behind_lines (line - 1) text → k ≡ min (column - 1) (length from) → back ≡ drop k from
    → back ≡ behind_place line column text
behind_place-cut line column k text from back f m b =
    b ∙ ap (λ n. drop n from) m ∙ drop_min (column - 1) from ∙ ap (drop (column - 1)) f

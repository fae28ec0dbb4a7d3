-- Bytes that a writer takes part by part.
-- What it took before, and what it takes then, it has taken together.
use Rattle.std.proofs.Common.{◌≡◌, ℕ, ◌+◌, ◌-◌, ◌≤◌, List, ◌++◌, length, take, drop, Option, Some, None, sym, ap, ◌∙◌, append_assoc, subst, arith, length-drop, drop-drop}
use Rattle.std.proofs.Math.Seq.{take-add}
use Rattle.std.specs.Io.KnownBytes.{Appends}

pub Appends-append : (a b c : Option (List ℕ)) (xs ys : List ℕ) → Appends a b xs → Appends b c ys → Appends a c (xs ++ ys)
Appends-append None b c xs ys p q = tt
Appends-append (Some held) None c xs ys p q = absurd p
Appends-append (Some held) (Some bs) None xs ys p q = q
Appends-append (Some held) (Some bs) (Some cs) xs ys p q = q ∙ ap (λ r. r ++ ys) p ∙ append_assoc held xs ys

-- what is taken and what is left behind one more write
pub taken_more : (old mid new : Option (List ℕ)) (bytes rest : List ℕ) (n count : ℕ) → n ≤ length bytes → rest ≡ drop n bytes → count ≤ length rest
    → Appends old mid (take n bytes) → Appends mid new (take count rest)
    → (k : ℕ) × (k ≤ length bytes) × (drop count rest ≡ drop k bytes) × Appends old new (take k bytes)
taken_more old mid new bytes rest n count within is less before then =
    let len : length rest ≡ length bytes - n = ap length is ∙ length-drop n bytes in
    let last : take count rest ≡ take count (drop n bytes) = ap (take count) is in (
      n + count,
      omega (arith, len, within, less),
      ap (drop count) is ∙ drop-drop count n bytes,
      subst (Appends old new) (ap (λ t. take n bytes ++ t) last ∙ sym (take-add n count bytes)) (Appends-append old mid new (take n bytes) (take count rest) before then),
    )

-- No two names in sight have one slot: a scope's slots stand behind those of the scopes outside.
-- Two names with one slot are one name.
use Rattle.std.proofs.Common.{◌≡◌, ℕ, suc, ◌+◌, ◌<◌, ◌≤◌, Bool, true, false, [], ◌∷◌, length, Option, Some, None, refl, sym, ap, ◌∙◌, arith}
use Rattle.std.specs.Prelude.{bytes_eq, if◌then◌else◌}
use Rattle.std.proofs.lemmas.Slice.Eq.{bytes_eq-Decides}
use Rattle.dpl_language.specs.Names.{Text}
use Rattle.dpl_rules.specs.Sights.{Scope, Scopes}
use Rattle.dpl_scopes.specs.Slots.{count_in, place_in, slot_or, slot_in}

-- the slots of a scope's names
record IsWithin (n low high : ℕ) : Type 0 where
  from : low ≤ n
  below : n < high

place_in-within : (s : Scope) (x : Text) (begin n : ℕ) → place_in s x begin ≡ Some n → IsWithin n begin (length s + begin)
place_in-within [] x begin n e = absurd cc
place_in-within (d ∷ ds) x begin n e = by (bytes_eq x d.origin.name) e (place_in-within ds x begin n)
  where
    by : (b : Bool) → (if b then Some (length ds + begin) else place_in ds x begin) ≡ Some n → (place_in ds x begin ≡ Some n → IsWithin n begin (length ds + begin)) → IsWithin n begin (length (d ∷ ds) + begin)
    by true f others =
        let is : length ds + begin ≡ n = cc in
        record { from = omega (arith, is); below = omega (arith, is) }
    by false f others =
        let inner = others f in
        record { from = inner.from; below = omega (arith, inner.below) }

place_in-one : (s : Scope) (x y : Text) (begin n : ℕ) → place_in s x begin ≡ Some n → place_in s y begin ≡ Some n → x ≡ y
place_in-one [] x y begin n e f = absurd cc
place_in-one (d ∷ ds) x y begin n e f = by (bytes_eq x d.origin.name) refl (bytes_eq y d.origin.name) refl e f (place_in-one ds x y begin n)
  where
    by : (b : Bool) → bytes_eq x d.origin.name ≡ b → (c : Bool) → bytes_eq y d.origin.name ≡ c
        → (if b then Some (length ds + begin) else place_in ds x begin) ≡ Some n → (if c then Some (length ds + begin) else place_in ds y begin) ≡ Some n
        → (place_in ds x begin ≡ Some n → place_in ds y begin ≡ Some n → x ≡ y) → x ≡ y
    by true p true q e f others = (bytes_eq-Decides x d.origin.name).0 p ∙ sym ((bytes_eq-Decides y d.origin.name).0 q)
    by true p false q e f others =
        let is : length ds + begin ≡ n = cc in
        let other = place_in-within ds y begin n f in
        absurd (omega (arith, is, other.below))
    by false p true q e f others =
        let is : length ds + begin ≡ n = cc in
        let other = place_in-within ds x begin n e in
        absurd (omega (arith, is, other.below))
    by false p false q e f others = others e f

slot_in-below : (ss : Scopes) (x : Text) (n : ℕ) → slot_in ss x ≡ Some n → n < count_in ss
slot_in-below [] x n e = absurd cc
slot_in-below (s ∷ ss) x n e = by (place_in s x (suc (count_in ss))) refl e (slot_in-below ss x n)
  where
    by : (o : Option ℕ) → place_in s x (suc (count_in ss)) ≡ o → slot_or o (slot_in ss x) ≡ Some n → (slot_in ss x ≡ Some n → n < count_in ss) → n < count_in (s ∷ ss)
    by None p f others =
        let outer = others f in
        omega (arith, outer)
    by (Some m) p f others =
        let is : m ≡ n = cc in
        let inner = place_in-within s x (suc (count_in ss)) m p in
        omega (arith, is, inner.below)

pub slot_in-one : (ss : Scopes) (x y : Text) (n : ℕ) → slot_in ss x ≡ Some n → slot_in ss y ≡ Some n → x ≡ y
slot_in-one [] x y n e f = absurd cc
slot_in-one (s ∷ ss) x y n e f = by (place_in s x (suc (count_in ss))) refl (place_in s y (suc (count_in ss))) refl e f (slot_in-one ss x y n)
  where
    by : (o : Option ℕ) → place_in s x (suc (count_in ss)) ≡ o → (q : Option ℕ) → place_in s y (suc (count_in ss)) ≡ q
        → slot_or o (slot_in ss x) ≡ Some n → slot_or q (slot_in ss y) ≡ Some n → (slot_in ss x ≡ Some n → slot_in ss y ≡ Some n → x ≡ y) → x ≡ y
    by None p None q e f others = others e f
    by None p (Some m) q e f others =
        let is : m ≡ n = cc in
        let outer = slot_in-below ss x n e in
        let inner = place_in-within s y (suc (count_in ss)) m q in
        absurd (omega (arith, is, outer, inner.from))
    by (Some m) p None q e f others =
        let is : m ≡ n = cc in
        let outer = slot_in-below ss y n f in
        let inner = place_in-within s x (suc (count_in ss)) m p in
        absurd (omega (arith, is, outer, inner.from))
    by (Some l) p (Some m) q e f others =
        let first : l ≡ n = cc in
        let second : m ≡ n = cc in
        place_in-one s x y (suc (count_in ss)) n (p ∙ ap Some first) (q ∙ ap Some second)

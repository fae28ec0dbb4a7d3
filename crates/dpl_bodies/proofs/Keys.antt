-- Arrays in a set, each by its depth and its name: which are there, and what the set is with one more.
-- Each has the set's keys on its left side.
use Rattle.std.proofs.Common.{◌≡◌, ℕ, true, false, ◌&&◌, ◌||◌, List, [], ◌∷◌, ◌++◌, map, refl, ap}
use Rattle.std.proofs.lemmas.List.{map-append}
use Rattle.std.specs.List.{list_any}
use Rattle.std.specs.Prelude.{Bool, nat_eq, bytes_eq, if◌then◌else◌}
use Rattle.std.specs.Borrow.{Bor}
use Rattle.dpl_language.specs.Names.{Text}
use Rattle.dpl_rules.specs.Bodies.{is_in}
use Rattle.dpl_bodies.specs.Written.{key_origin, with_origin}

abbrev same_key : ℕ × Bor Text → ℕ × Bor Text → Bool
same_key a b = nat_eq a.0 b.0 && bytes_eq a.1.now b.1.now

pub list_any-keys : (k : ℕ × Bor Text) (ks : List (ℕ × Bor Text)) → list_any (same_key k) ks ≡ is_in (key_origin k) (map key_origin ks)
list_any-keys k [] = refl
list_any-keys k (x ∷ ks) = ap (λ b. same_key k x || b) (list_any-keys k ks)

pub map-insert_key : (k : ℕ × Bor Text) (ks : List (ℕ × Bor Text)) →
    map key_origin (if list_any (same_key k) ks then ks else ks ++ k ∷ []) ≡ with_origin (map key_origin ks) (key_origin k)
map-insert_key k ks =
    rw (list_any-keys k ks) (
    elim (is_in (key_origin k) (map key_origin ks)) as (λ t. map key_origin (if t then ks else ks ++ k ∷ []) ≡ (if t then map key_origin ks else map key_origin ks ++ key_origin k ∷ []))
    [ true ↦ refl | false ↦ map-append key_origin ks (k ∷ []) ])

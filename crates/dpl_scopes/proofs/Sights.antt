-- What scopes are once a name is added: what is found in them, how many they are, and what is left when one is closed.
-- The definitions go by cases on whether a scope is open; these lemmas don't.
use Rattle.std.proofs.Common.{◌≡◌, max, true, false, [], ◌∷◌, length, drop, Some, None, is_some, refl, arith}
use Rattle.std.specs.Prelude.{bytes_eq, if◌then◌else◌}
use Rattle.std.specs.Option.{option_or}
use Rattle.dpl_language.specs.Names.{Text}
use Rattle.dpl_rules.specs.Sights.{Declared, Scopes, find, lookup, declared_here, add}

pub lookup-add : (d : Declared) (ss : Scopes) (x : Text) → lookup (add d ss) x ≡ (if bytes_eq x d.origin.name then Some d else lookup ss x)
lookup-add d [] x =
    elim (bytes_eq x d.origin.name) as (λ t. option_or (if t then Some d else None) None ≡ (if t then Some d else None)) [ true ↦ refl | false ↦ refl ]
lookup-add d (s ∷ ss) x =
    elim (bytes_eq x d.origin.name) as (λ t. option_or (if t then Some d else find s x) (lookup ss x) ≡ (if t then Some d else option_or (find s x) (lookup ss x)))
    [ true ↦ refl | false ↦ refl ]

pub declared_here-add : (d : Declared) (ss : Scopes) (x : Text) → declared_here (add d ss) x ≡ (if bytes_eq x d.origin.name then true else declared_here ss x)
declared_here-add d [] x =
    elim (bytes_eq x d.origin.name) as (λ t. is_some (if t then Some d else None) ≡ (if t then true else false)) [ true ↦ refl | false ↦ refl ]
declared_here-add d (s ∷ ss) x =
    elim (bytes_eq x d.origin.name) as (λ t. is_some (if t then Some d else find s x) ≡ (if t then true else is_some (find s x))) [ true ↦ refl | false ↦ refl ]

pub length-add : (d : Declared) (ss : Scopes) → length (add d ss) ≡ max (length ss) 1
length-add d [] = refl
length-add d (s ∷ ss) = omega arith

pub drop-add : (d : Declared) (ss : Scopes) → drop 1 (add d ss) ≡ drop 1 ss
drop-add d [] = refl
drop-add d (s ∷ ss) = refl

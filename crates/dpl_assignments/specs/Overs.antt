-- The arrays in sight that are declared over a domain by its bare name, as far as the scopes are gone through.
-- Those of the innermost scope come first.
use Rattle.std.specs.Prelude.{◌≡◌, ℕ, List, [], ◌∷◌, length}
use Rattle.dpl_rules.specs.Sights.{Scopes, enter, add}
use Rattle.dpl_scopes.specs.declared.scopes.Mark.{Mark}
use Rattle.dpl_scopes.specs.declared.scopes.Mark.TheVariants.{Opens, Declares}
use Rattle.dpl_scopes.specs.View.{declared_view}
use Rattle.dpl_memory.specs.Resolved.{Bound, Sight, arrays_in, arrays_over}
use Rattle.dpl_bound.specs.Sights.{sight_of}

abbrev pub slot_of_bound : Bound → ℕ
slot_of_bound y = y.variable.slot

-- those of the innermost scope
abbrev pub innermost_arrays : ℕ → Sight → List ℕ
innermost_arrays slot [] = []
innermost_arrays slot (f ∷ fs) = arrays_in slot f

pub record IsFoundBy (slot : ℕ) (ss : Scopes) (found : List ℕ) (inner : ℕ) : Type 0 where
  pub all : found ≡ arrays_over slot (sight_of ss)
  pub first : inner ≡ length (innermost_arrays slot (sight_of ss))

-- behind a mark; what is declared is as deep as the scopes before it
abbrev pub passed : Mark → Scopes → Scopes
passed Opens ss = enter ss
passed (Declares e) ss = add (declared_view e.declared) ss

abbrev pub IsAsDeep : Mark → Scopes → Type 0
IsAsDeep Opens ss = Unit {0}
IsAsDeep (Declares e) ss = e.declared.origin.depth ≡ length ss

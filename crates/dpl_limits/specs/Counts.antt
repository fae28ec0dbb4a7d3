-- How many names and cells may still be declared behind a list of declarations, and where the first past each limit stands.
-- The limits themselves are those of the language's check.
use Rattle.std.specs.Prelude.{ℕ, zero, suc, Bool, true, false, List, [], ◌∷◌, ◌++◌, Option, Some, None}
use Rattle.dpl_syntax.specs.declared.place.Place.{Place}
use Rattle.dpl_syntax.specs.declared.refusal.Breach.{Breach}
use Rattle.dpl_syntax.specs.declared.refusal.Code.TheVariants.{TooMany}
use Rattle.dpl_language.specs.Tree.{TypeTree, ScalarType, SyncType, DomainType, ArrayType, DeclareTree}
use Rattle.dpl_language.specs.Names.{Text}
use Rattle.dpl_language.specs.Declarations.{type_of as written_type}
use Rattle.dpl_rules.specs.Verdicts.{breach}
use Rattle.dpl_rules.specs.Breaches.{of_cell}
use Rattle.dpl_limits.specs.declared.count.Count.{Count}
use Rattle.dpl_limits.specs.declared.count.Counts.{Counts}

-- the first that was told, or else one here
abbrev pub or_here : Option Place → Place → Option Place
or_here None at = Some at
or_here (Some first) at = Some first

abbrev pub count_of : ℕ → Option Place → Place → Count
count_of zero first at = record { left = 0; past = or_here first at }
count_of (suc n) first at = record { left = n; past = first }

-- one more is declared at a place
abbrev pub one_more : Count → Place → Count
one_more c at = count_of c.left c.past at

abbrev pub all_more : Count → List (DeclareTree Text) → Count
all_more c [] = c
all_more c (d ∷ ds) = all_more (one_more c d.name.at) ds

-- with one declaration, and with several
abbrev pub counted : Counts → DeclareTree Text → Counts
counted c d = record { names = one_more c.names d.name.at; cells = all_more c.cells (of_cell d (written_type d.typed)) }

abbrev pub counts_after : Counts → List (DeclareTree Text) → Counts
counts_after c [] = c
counts_after c (d ∷ ds) = counts_after (counted c d) ds

-- before any declaration
abbrev pub none_yet : Counts
none_yet = record { names = record { left = 4096; past = None }; cells = record { left = 64; past = None } }

abbrev pub is_of_cell : Option (TypeTree Text) → Bool
is_of_cell None = false
is_of_cell (Some (ScalarType at k)) = false
is_of_cell (Some (SyncType at kind_at k)) = true
is_of_cell (Some (DomainType t)) = false
is_of_cell (Some (ArrayType t)) = false

-- what is told of a count, and of both
abbrev pub told : Option Place → List Breach
told None = []
told (Some at) = breach at TooMany

abbrev pub all_told : Counts → List Breach
all_told c = told c.names.past ++ told c.cells.past

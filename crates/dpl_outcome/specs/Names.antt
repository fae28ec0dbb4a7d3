-- The names in sight, in the order of their declarations.
-- A scope has its latest declaration first; marks are in the order in which they were made.
use Rattle.std.specs.Prelude.{List, [], ◌∷◌, ◌++◌}
use Rattle.dpl_language.specs.Names.{Text}
use Rattle.dpl_rules.specs.Sights.{Scope, Scopes}
use Rattle.dpl_scopes.specs.declared.scopes.Mark.{Mark}
use Rattle.dpl_scopes.specs.declared.scopes.Mark.TheVariants.{Opens, Declares}

abbrev pub names_in : Scope → List Text
names_in [] = []
names_in (d ∷ ds) = names_in ds ++ d.origin.name ∷ []

abbrev pub names_of : Scopes → List Text
names_of [] = []
names_of (s ∷ ss) = names_of ss ++ names_in s

-- those that marks declare
abbrev pub marked_by : Mark → List Text
marked_by Opens = []
marked_by (Declares e) = e.declared.origin.name.now ∷ []

abbrev pub marked_names : List Mark → List Text
marked_names [] = []
marked_names (m ∷ ms) = marked_by m ++ marked_names ms

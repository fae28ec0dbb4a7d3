-- What one argument of a print does, by itself.
-- A text does nothing.
use Rattle.std.specs.Prelude.{List, [], ◌∷◌}
use Rattle.dpl_language.specs.Tree.{ArgumentTree}
use Rattle.dpl_language.specs.Names.{Text}
use Rattle.dpl_rules.specs.Sights.{Scopes}
use Rattle.dpl_rules.specs.Deeds.{Deed}
use Rattle.dpl_rules.specs.Doings.{arguments_deeds}

abbrev pub argument_deeds : Scopes → ArgumentTree Text → List Deed
argument_deeds ss a = arguments_deeds ss (a ∷ [])

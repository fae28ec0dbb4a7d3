-- Prints that run, as far as no rule says so: what is in sight is known, and each argument is a text, or an expression that is
-- simple by its form, whose names are found and whose places are near.
use Rattle.std.specs.Prelude.{List, [], ◌∷◌}
use Rattle.dpl_language.specs.Names.{Text}
use Rattle.dpl_language.specs.Tree.{ArgumentTree, TextArgument, ExprArgument, WriteTree}
use Rattle.dpl_language.specs.Writing.{arguments_of}
use Rattle.dpl_rules.specs.Sights.{Scopes}
use Rattle.dpl_nodes.specs.Spots.{IsNear}
use Rattle.dpl_spelling.specs.Spelt.{ExprSpelt}
use Rattle.dpl_typed.specs.Leaves.{IsFound}
use Rattle.dpl_typed.specs.Simple.{IsSimple}
use Rattle.dpl_bound.specs.Sights.{AreKnownScopes}

abbrev pub IsPlainArgument : Scopes → ArgumentTree Text → Type 0
IsPlainArgument ss (TextArgument at cs) = Unit {0}
IsPlainArgument ss (ExprArgument e) = IsSimple (IsFound ss) e × ExprSpelt IsNear ⊥ e

abbrev pub ArePlainArguments : Scopes → List (ArgumentTree Text) → Type 0
ArePlainArguments ss [] = Unit {0}
ArePlainArguments ss (a ∷ rest) = IsPlainArgument ss a × ArePlainArguments ss rest

abbrev pub IsPlainPrint : Scopes → WriteTree Text → Type 0
IsPlainPrint ss w = AreKnownScopes ss × ArePlainArguments ss (arguments_of w.arguments)

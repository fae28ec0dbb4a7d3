-- Heads of statements that run, as far as no rule says so: what is in sight is known, the parts are simple by their form, their
-- names are found and their places are near; and a loop has two variables or more where they stand in brackets.
use Rattle.std.specs.Prelude.{◌≢◌, []}
use Rattle.dpl_language.specs.Tree.{ExprTree, ItemTree, VariablesTree, OneVariable, ManyVariables}
use Rattle.dpl_language.specs.Names.{Text}
use Rattle.dpl_rules.specs.Sights.{Scopes}
use Rattle.dpl_nodes.specs.Spots.{IsNear}
use Rattle.dpl_spelling.specs.Spelt.{ExprSpelt, ItemSpelt}
use Rattle.dpl_typed.specs.Leaves.{IsFound}
use Rattle.dpl_typed.specs.Simple.{IsSimple, IsSimpleItem}
use Rattle.dpl_bound.specs.Sights.{AreKnownScopes}

pub record IsPlainExpr (ss : Scopes) (e : ExprTree Text) : Type 0 where
  pub known : AreKnownScopes ss
  pub simple : IsSimple (IsFound ss) e
  pub near : ExprSpelt IsNear ⊥ e

-- as each text has them
abbrev pub HasSeveral : VariablesTree Text → Type 0
HasSeveral (OneVariable x) = Unit {0}
HasSeveral (ManyVariables from xs upto) = xs.others ≢ []

pub record IsPlainHead (ss : Scopes) (xs : VariablesTree Text) (item : ItemTree Text) : Type 0 where
  pub known : AreKnownScopes ss
  pub simple : IsSimpleItem (IsFound ss) item
  pub near : ItemSpelt IsNear ⊥ item
  pub several : HasSeveral xs

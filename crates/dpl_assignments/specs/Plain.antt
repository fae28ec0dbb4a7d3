-- Assignments that run, as far as no rule says so: what is in sight is known, the parts are simple by their form, their names
-- are found and their places are near; and `reduce=` gives a value to an int or a truth value, as each intent of a forall does.
use Rattle.std.specs.Prelude.{◌≡◌, true, Option}
use Rattle.dpl_language.specs.Tree.{Placed, Assign, Set, SetAdd, SetSubtract, SetMultiply, SetDivide, SetRemainder, SetReduce, AssignTree, ItemTree, Exprs, TargetTree, Whole, Element}
use Rattle.dpl_language.specs.Names.{Text}
use Rattle.dpl_rules.specs.Types.{ValueType, is_any_scalar, has}
use Rattle.dpl_rules.specs.Sights.{Scopes}
use Rattle.dpl_nodes.specs.Spots.{IsNear}
use Rattle.dpl_spelling.specs.Spelt.{ItemSpelt, ExprsSpelt}
use Rattle.dpl_typed.specs.Leaves.{type_in, IsFound}
use Rattle.dpl_typed.specs.Simple.{IsSimpleItem, AreSimpleExprs}
use Rattle.dpl_bound.specs.Sights.{AreKnownScopes}

-- of whatever other operator nothing is asked
abbrev pub IsReducible : Assign → Option ValueType → Type 0
IsReducible Set o = Unit {0}
IsReducible SetAdd o = Unit {0}
IsReducible SetSubtract o = Unit {0}
IsReducible SetMultiply o = Unit {0}
IsReducible SetDivide o = Unit {0}
IsReducible SetRemainder o = Unit {0}
IsReducible SetReduce o = has is_any_scalar o ≡ true

-- what both forms have: a name, an operator and a right side
pub record IsPlainSide (ss : Scopes) (x : Placed Text) (sign : AssignTree) (item : ItemTree Text) : Type 0 where
  pub known : AreKnownScopes ss
  pub found : IsFound ss x.name
  pub simple : IsSimpleItem (IsFound ss) item
  pub near : ItemSpelt IsNear ⊥ item
  pub named : IsNear x.at
  pub signed : IsNear sign.at

abbrev pub IsPlainWhole : Scopes → Placed Text → AssignTree → ItemTree Text → Type 0
IsPlainWhole ss x sign item = IsPlainSide ss x sign item × IsReducible sign.op (type_in ss x.name)

abbrev pub IsPlainElement : Scopes → Placed Text → Exprs Text → AssignTree → ItemTree Text → Type 0
IsPlainElement ss x es sign item = IsPlainSide ss x sign item × AreSimpleExprs (IsFound ss) es × ExprsSpelt IsNear ⊥ es

abbrev pub IsPlain : Scopes → TargetTree Text → AssignTree → ItemTree Text → Type 0
IsPlain ss (Whole x) sign item = IsPlainWhole ss x sign item
IsPlain ss (Element x shape from es upto) sign item = IsPlainElement ss x es sign item

-- That a typed expression stands for a tree: of what has no type nothing is said, and locales and cells stand for none.
-- Where its parts stand for trees, a form stands for the tree of the same form.
use Rattle.std.specs.Prelude.{◌≡◌, true, List, [], ◌∷◌, Option, Some, None}
use Rattle.dpl_language.specs.Tree.{ExprTree, ItemTree, Items, FirstItem, MoreItems, NoItems, NextItem, Exprs, FirstExpr, MoreExprs, NoExprs, NextExpr}
use Rattle.dpl_lowered.specs.Shapes.{nowhere}
use Rattle.dpl_lowered.specs.LoweredExpressions.{Times, Once}
use Rattle.dpl_memory.specs.Memory.{Variable}
use Rattle.dpl_typed.specs.declared.typed.Typed.{Typed}
use Rattle.dpl_typed.specs.declared.part.Part.{Part as PartNode}
use Rattle.dpl_typed.specs.Typed.{type_of_typed, typed_view, typed_item, has_node}

-- by how often it is evaluated
abbrev pub StandsFor : Option Typed → (Times → ExprTree Variable) → Type 0
StandsFor None f = Unit {0}
StandsFor (Some t) f = ((m : Times) → typed_view m t ≡ f m) × (has_node (type_of_typed t) ≡ true)

-- as an item
abbrev pub StandsForItem : Option Typed → (Times → ItemTree Variable) → Type 0
StandsForItem None f = Unit {0}
StandsForItem (Some t) f = ((m : Times) → typed_item m t ≡ f m) × (has_node (type_of_typed t) ≡ true)

-- a part of a form, which is evaluated once
abbrev pub IsArgument : Option Typed → ExprTree Variable → Type 0
IsArgument None e = Unit {0}
IsArgument (Some t) e = (typed_view Once t ≡ e) × (has_node (type_of_typed t) ≡ true)

abbrev pub IsItem : Option Typed → ItemTree Variable → Type 0
IsItem None i = Unit {0}
IsItem (Some t) i = (typed_item Once t ≡ i) × (has_node (type_of_typed t) ≡ true)

-- parts between commas, one by one
abbrev pub AreMoreItems : List PartNode → MoreItems Variable → Type 0
AreMoreItems [] NoItems = Unit {0}
AreMoreItems [] (NextItem comma i more) = ⊥
AreMoreItems (p ∷ ps) NoItems = ⊥
AreMoreItems (p ∷ ps) (NextItem comma i more) = (comma ≡ nowhere) × IsItem p.found i × AreMoreItems ps more

abbrev pub AreItems : List PartNode → Items Variable → Type 0
AreItems [] (FirstItem i more) = ⊥
AreItems (p ∷ ps) (FirstItem i more) = IsItem p.found i × AreMoreItems ps more

abbrev pub AreMoreArguments : List PartNode → MoreExprs Variable → Type 0
AreMoreArguments [] NoExprs = Unit {0}
AreMoreArguments [] (NextExpr comma e more) = ⊥
AreMoreArguments (p ∷ ps) NoExprs = ⊥
AreMoreArguments (p ∷ ps) (NextExpr comma e more) = (comma ≡ nowhere) × IsArgument p.found e × AreMoreArguments ps more

abbrev pub AreArguments : List PartNode → Exprs Variable → Type 0
AreArguments [] (FirstExpr e more) = ⊥
AreArguments (p ∷ ps) (FirstExpr e more) = IsArgument p.found e × AreMoreArguments ps more

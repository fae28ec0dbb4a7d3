-- What loops along the parts of a form have made so far: with what is left, it is what is made of all.
-- What holds of all parts holds of those that are left.
use Rattle.std.specs.Prelude.{◌≡◌, List, ◌++◌, Option}
use Rattle.dpl_language.specs.Phrases.{Base}
use Rattle.dpl_language.specs.Spelled.{HasPosts}
use Rattle.dpl_language.specs.Tree.{ExprTree, Links, Posts, NoPosts, Post, MoreItems, MoreExprs}
use Rattle.dpl_language.specs.Names.{Text}
use Rattle.dpl_rules.specs.Sights.{Scopes}
use Rattle.dpl_lowered.specs.Shapes.{grouped}
use Rattle.dpl_lowered.specs.LoweredExpressions.{Times, Once, EachTurn}
use Rattle.dpl_memory.specs.Memory.{Variable}
use Rattle.dpl_nodes.specs.Spots.{IsNear}
use Rattle.dpl_spelling.specs.Spelt.{LinksSpelt, PostsSpelt, MoreItemsSpelt, MoreExprsSpelt}
use Rattle.dpl_typed.specs.declared.typed.Typed.{Typed}
use Rattle.dpl_typed.specs.declared.part.Part.{Part as PartNode}
use Rattle.dpl_typed.specs.Leaves.{IsFound}
use Rattle.dpl_typed.specs.Simple.{AreSimpleLinks, AreSimplePosts, AreSimpleMoreItems, AreSimpleMoreExprs}
use Rattle.dpl_typed.specs.Lowered.{links_leaves, more_items_leaves, more_exprs_leaves}
use Rattle.dpl_typed.specs.Stands.{StandsFor, AreMoreItems, AreMoreArguments}
use Rattle.dpl_elaborator.specs.Built.{StandsAt, built}

-- ---- a chain, whose first operand stands for a tree
pub record IsChained (scopes : Scopes) (whole : Times → ExprTree Variable) (t : Option Typed) (left : Links Text) : Type 0 where
  pub tree : Times → ExprTree Variable
  pub stands : StandsFor t tree
  pub same : (m : Times) → grouped (tree m) (links_leaves scopes m left) ≡ whole m
  pub simple : AreSimpleLinks (IsFound scopes) left
  pub near : LinksSpelt IsNear ⊥ left

abbrev pub IsChainSoFar : Scopes → Option Typed → Links Text → Option Typed → Links Text → Type 0
IsChainSoFar scopes first all t left =
    (f : Times → ExprTree Variable) → StandsFor first f → AreSimpleLinks (IsFound scopes) all → LinksSpelt IsNear ⊥ all
    → IsChained scopes (λ m. grouped (f m) (links_leaves scopes m all)) t left

-- ---- what stands behind a base
-- behind posts it makes no difference how often an expression is evaluated
abbrev pub IsSteady : (Times → ExprTree Variable) → Posts Text → Posts Text → Type 0
IsSteady f all NoPosts = HasPosts all → f EachTurn ≡ f Once
IsSteady f all (Post p rest) = Unit {0}

pub record IsBuilt (scopes : Scopes) (whole : ExprTree Variable) (all : Posts Text) (t : Option Typed) (left : Posts Text) : Type 0 where
  pub tree : Times → ExprTree Variable
  pub at : Base Variable
  pub stands : StandsFor t tree
  pub told : StandsAt tree at
  pub same : built scopes at left (tree Once) ≡ whole
  pub steady : IsSteady tree all left
  pub simple : AreSimplePosts (IsFound scopes) left
  pub near : PostsSpelt IsNear ⊥ left

abbrev pub ArePostsSoFar : Scopes → Option Typed → Posts Text → Option Typed → Posts Text → Type 0
ArePostsSoFar scopes base all t left =
    (f : Times → ExprTree Variable) (b : Base Variable) → StandsFor base f → StandsAt f b → AreSimplePosts (IsFound scopes) all → PostsSpelt IsNear ⊥ all
    → IsBuilt scopes (built scopes b all (f Once)) all t left

-- ---- parts between commas, behind the first
pub record AreItemsSoFar (scopes : Scopes) (begun : List PartNode) (all : MoreItems Text) (ps : List PartNode) (left : MoreItems Text) : Type 0 where
  pub more : List PartNode
  pub same : ps ≡ begun ++ more
  pub simple : AreSimpleMoreItems (IsFound scopes) all → AreSimpleMoreItems (IsFound scopes) left
  pub near : MoreItemsSpelt IsNear ⊥ all → MoreItemsSpelt IsNear ⊥ left
  pub node : AreSimpleMoreItems (IsFound scopes) all → MoreItemsSpelt IsNear ⊥ all
      → (rest : List PartNode) → AreMoreItems rest (more_items_leaves scopes left) → AreMoreItems (more ++ rest) (more_items_leaves scopes all)

pub record AreExprsSoFar (scopes : Scopes) (begun : List PartNode) (all : MoreExprs Text) (ps : List PartNode) (left : MoreExprs Text) : Type 0 where
  pub more : List PartNode
  pub same : ps ≡ begun ++ more
  pub simple : AreSimpleMoreExprs (IsFound scopes) all → AreSimpleMoreExprs (IsFound scopes) left
  pub near : MoreExprsSpelt IsNear ⊥ all → MoreExprsSpelt IsNear ⊥ left
  pub node : AreSimpleMoreExprs (IsFound scopes) all → MoreExprsSpelt IsNear ⊥ all
      → (rest : List PartNode) → AreMoreArguments rest (more_exprs_leaves scopes left) → AreMoreArguments (more ++ rest) (more_exprs_leaves scopes all)

-- further parts, behind those that were there
pub record AreItemsBehind (scopes : Scopes) (begun : List PartNode) (all : MoreItems Text) (ps : List PartNode) : Type 0 where
  pub more : List PartNode
  pub same : ps ≡ begun ++ more
  pub node : AreSimpleMoreItems (IsFound scopes) all → MoreItemsSpelt IsNear ⊥ all → AreMoreItems more (more_items_leaves scopes all)

pub record AreExprsBehind (scopes : Scopes) (begun : List PartNode) (all : MoreExprs Text) (ps : List PartNode) : Type 0 where
  pub more : List PartNode
  pub same : ps ≡ begun ++ more
  pub node : AreSimpleMoreExprs (IsFound scopes) all → MoreExprsSpelt IsNear ⊥ all → AreMoreArguments more (more_exprs_leaves scopes all)

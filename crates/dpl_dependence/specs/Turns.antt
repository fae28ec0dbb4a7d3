-- What may stand in each turn of a forall, so that its turns may be made apart.
use Rattle.std.specs.Prelude.{Option, Some, None, [], map}
use Rattle.dpl_language.specs.Tree.{ExprTree, ItemTree, One, Links, Posts, Items, Stride, StmtTree, Stmts, Else}
use Rattle.dpl_language.specs.Values.{Index}
use Rattle.dpl_language.specs.Phrases.{OtherBase}
use Rattle.dpl_memory.specs.Memory.{Variable, intents_by_slot}
use Rattle.dpl_agreement.specs.Scopes.{Scoping, fits_expr, fits_links, fits_posts, fits_item, fits_items, fits_stride, fits, fits_all, fits_else}
use Rattle.dpl_nodes.specs.declared.step.Names.{Names}
use Rattle.dpl_nodes.specs.declared.tree.IntExpr.{IntExpr}
use Rattle.dpl_nodes.specs.declared.tree.BoolExpr.{BoolExpr}
use Rattle.dpl_nodes.specs.Typed.{int_view, truth_view}
use Rattle.dpl_nodes.specs.Steps.{intent_view}
use Rattle.dpl_apart.specs.Memories.{Changes}
use Rattle.dpl_turns.specs.Bodies.{OwnNames, NoNames, body_changes, turn_scoping, IsSilent, AreSilent, IsSilentElse}
use Rattle.dpl_turns.specs.Typed.{own_of}
use Rattle.dpl_dependence.specs.declared.turn.TurnRules.{TurnRules}

-- the forall's variables, and what its turns change
abbrev pub own_by : Option Names → OwnNames
own_by None = NoNames
own_by (Some names) = own_of names

abbrev pub own_in : TurnRules → OwnNames
own_in rules = own_by rules.names

abbrev pub changes_by : TurnRules → Changes
changes_by rules = body_changes rules.rank (own_in rules) [] rules.written.now (intents_by_slot (map intent_view rules.reduced.now))

module _ (rules : TurnRules) where
  -- what the turn of an index may do with names
  abbrev pub allowed : Index → Scoping Variable (Unit {0})
  allowed t = turn_scoping (changes_by rules) (own_in rules) t

  -- an expression that each turn may evaluate once, and one that it may evaluate at each index
  abbrev pub MayEvaluate : ExprTree Variable → Type 0
  MayEvaluate e = (t : Index) → fits_expr (allowed t) None e tt

  abbrev pub MayEvaluateEach : ExprTree Variable → Type 0
  MayEvaluateEach e = (t i : Index) → fits_expr (allowed t) (Some i) e tt

  -- and one that each turn may evaluate at its own index
  abbrev pub MayEvaluateOwn : ExprTree Variable → Type 0
  MayEvaluateOwn e = (t : Index) → fits_expr (allowed t) (Some t) e tt

  -- the further operands of a chain that each turn may evaluate once, at each index, or at its own one
  abbrev pub MayLink : Links Variable → Type 0
  MayLink links = (t : Index) → fits_links (allowed t) None links tt

  abbrev pub MayLinkEach : Links Variable → Type 0
  MayLinkEach links = (t i : Index) → fits_links (allowed t) (Some i) links tt

  abbrev pub MayLinkOwn : Links Variable → Type 0
  MayLinkOwn links = (t : Index) → fits_links (allowed t) (Some t) links tt

  -- posts that each turn may evaluate behind what is no array
  abbrev pub MayPost : Posts Variable → Type 0
  MayPost posts = (t : Index) → fits_posts (allowed t) posts OtherBase tt

  abbrev pub MayEvaluateItem : ItemTree Variable → Type 0
  MayEvaluateItem item = (t : Index) → fits_item (allowed t) None item tt

  abbrev pub MayEvaluateItems : Items Variable → Type 0
  MayEvaluateItems items = (t : Index) → fits_items (allowed t) items tt

  abbrev pub MayStride : Stride Variable → Type 0
  MayStride by = (t : Index) → fits_stride (allowed t) by tt

  -- a statement that may stand in each turn
  abbrev pub MayStand : StmtTree Variable → Type 0
  MayStand s = (t : Index) → fits (allowed t) s tt × IsSilent s

  -- a statement that may stand so with whichever int, or truth value, that each turn may evaluate
  abbrev pub MayTakeInts : (ItemTree Variable → StmtTree Variable) → Type 0
  MayTakeInts stated = (e : IntExpr) → MayEvaluate (int_view e) → MayStand (stated (One (int_view e)))

  abbrev pub MayTakeTruths : (ExprTree Variable → StmtTree Variable) → Type 0
  MayTakeTruths stated = (e : BoolExpr) → MayEvaluate (truth_view e) → MayStand (stated (truth_view e))

  abbrev pub AllMayStand : Stmts Variable → Type 0
  AllMayStand ts = (t : Index) → fits_all (allowed t) ts tt × AreSilent ts

  abbrev pub ElseMayStand : Else Variable → Type 0
  ElseMayStand o = (t : Index) → fits_else (allowed t) o tt × IsSilentElse o

-- Parts between commas: one more behind those so far, and all of them behind the first.
-- Arguments behind an array are the items of an index.
use Rattle.std.proofs.Common.{List, [], ◌∷◌, ◌++◌, refl, sym, ap, subst, ◌∙◌, append_assoc, append-nil}
use Rattle.dpl_syntax.specs.declared.place.Place.{Place}
use Rattle.dpl_language.specs.Tree.{ExprTree, ItemTree, FirstItem, MoreItems, NoItems, NextItem, Exprs, FirstExpr, MoreExprs, NoExprs, NextExpr}
use Rattle.dpl_language.specs.Names.{Text}
use Rattle.dpl_rules.specs.Sights.{Scopes}
use Rattle.dpl_lowered.specs.Shapes.{as_items, as_more_items}
use Rattle.dpl_lowered.specs.LoweredExpressions.{Once}
use Rattle.dpl_memory.specs.Memory.{Variable}
use Rattle.dpl_nodes.specs.Spots.{IsNear}
use Rattle.dpl_spelling.specs.Spelt.{ExprSpelt, ItemSpelt, ItemsSpelt}
use Rattle.dpl_typed.specs.declared.part.Part.{Part as PartNode}
use Rattle.dpl_typed.specs.Leaves.{IsFound}
use Rattle.dpl_typed.specs.Simple.{IsSimple, IsSimpleItem, AreSimpleItems}
use Rattle.dpl_typed.specs.Lowered.{leaves_of, item_leaves, items_leaves, more_items_leaves, more_exprs_leaves}
use Rattle.dpl_typed.specs.Stands.{IsArgument, IsItem, AreArguments, AreMoreArguments, AreItems, AreMoreItems}
use Rattle.dpl_typed.proofs.Standing.{argument-item}
use Rattle.dpl_elaborator.specs.SoFar.{AreItemsSoFar, AreExprsSoFar, AreItemsBehind, AreExprsBehind}

-- ---- arguments as items
more_arguments-items : (ps : List PartNode) (es : MoreExprs Variable) → AreMoreArguments ps es → AreMoreItems ps (as_more_items es)
more_arguments-items [] NoExprs h = tt
more_arguments-items [] (NextExpr comma e more) h = absurd h
more_arguments-items (p ∷ ps) NoExprs h = absurd h
more_arguments-items (p ∷ ps) (NextExpr comma e more) h = (h.0, argument-item p.found e h.1, more_arguments-items ps more h.2)

pub arguments-items : (ps : List PartNode) (es : Exprs Variable) → AreArguments ps es → AreItems ps (as_items es)
arguments-items [] (FirstExpr e more) h = absurd h
arguments-items (p ∷ ps) (FirstExpr e more) h = (argument-item p.found e h.0, more_arguments-items ps more h.1)

-- ---- one part more
module _ (scopes : Scopes) where
  pub items-step : (begun : List PartNode) (all : MoreItems Text) (ps : List PartNode) (comma : Place) (i : ItemTree Text) (left : MoreItems Text) (p : PartNode)
      → AreItemsSoFar scopes begun all ps (NextItem comma i left)
      → (IsSimpleItem (IsFound scopes) i → ItemSpelt IsNear ⊥ i → IsItem p.found (item_leaves scopes Once i))
      → AreItemsSoFar scopes begun all (ps ++ p ∷ []) left
  items-step begun all ps comma i left p so_far made = record {
    more = so_far.more ++ p ∷ [];
    same = ap (λ qs. qs ++ p ∷ []) so_far.same ∙ append_assoc begun so_far.more (p ∷ []);
    simple = λ h. (so_far.simple h).1;
    near = λ h. (so_far.near h).2;
    node = λ s n rest h.
        subst (λ qs. AreMoreItems qs (more_items_leaves scopes all)) (sym (append_assoc so_far.more (p ∷ []) rest))
        (so_far.node s n (p ∷ rest) (refl, made (so_far.simple s).0 (so_far.near n).1, h));
  }

  pub items-end : (begun : List PartNode) (all : MoreItems Text) (ps : List PartNode) → AreItemsSoFar scopes begun all ps NoItems → AreItemsBehind scopes begun all ps
  items-end begun all ps so_far = record {
    more = so_far.more;
    same = so_far.same;
    node = λ s n. subst (λ qs. AreMoreItems qs (more_items_leaves scopes all)) (append-nil so_far.more) (so_far.node s n [] tt);
  }

  pub exprs-step : (begun : List PartNode) (all : MoreExprs Text) (ps : List PartNode) (comma : Place) (e : ExprTree Text) (left : MoreExprs Text) (p : PartNode)
      → AreExprsSoFar scopes begun all ps (NextExpr comma e left)
      → (IsSimple (IsFound scopes) e → ExprSpelt IsNear ⊥ e → IsArgument p.found (leaves_of scopes Once e))
      → AreExprsSoFar scopes begun all (ps ++ p ∷ []) left
  exprs-step begun all ps comma e left p so_far made = record {
    more = so_far.more ++ p ∷ [];
    same = ap (λ qs. qs ++ p ∷ []) so_far.same ∙ append_assoc begun so_far.more (p ∷ []);
    simple = λ h. (so_far.simple h).1;
    near = λ h. (so_far.near h).2;
    node = λ s n rest h.
        subst (λ qs. AreMoreArguments qs (more_exprs_leaves scopes all)) (sym (append_assoc so_far.more (p ∷ []) rest))
        (so_far.node s n (p ∷ rest) (refl, made (so_far.simple s).0 (so_far.near n).1, h));
  }

  pub exprs-end : (begun : List PartNode) (all : MoreExprs Text) (ps : List PartNode) → AreExprsSoFar scopes begun all ps NoExprs → AreExprsBehind scopes begun all ps
  exprs-end begun all ps so_far = record {
    more = so_far.more;
    same = so_far.same;
    node = λ s n. subst (λ qs. AreMoreArguments qs (more_exprs_leaves scopes all)) (append-nil so_far.more) (so_far.node s n [] tt);
  }

  -- ---- all parts
  pub items-whole : (p : PartNode) (i : ItemTree Text) (all : MoreItems Text) (ps : List PartNode)
      → (IsSimpleItem (IsFound scopes) i → ItemSpelt IsNear ⊥ i → IsItem p.found (item_leaves scopes Once i)) → AreItemsBehind scopes (p ∷ []) all ps
      → AreSimpleItems (IsFound scopes) (FirstItem i all) → ItemsSpelt IsNear ⊥ (FirstItem i all) → AreItems ps (items_leaves scopes (FirstItem i all))
  items-whole p i all ps made so s n =
      subst (λ qs. AreItems qs (items_leaves scopes (FirstItem i all))) (sym so.same) (made s.0 n.0, so.node s.1 n.1)

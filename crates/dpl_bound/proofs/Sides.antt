-- What stands for an item: what is typed is no cell read, so that it stands as it is where it is a right side.
-- Resolving names and taking their variables is taking their leaves.
use Rattle.std.proofs.Common.{◌≡◌, Option, Some, None, refl, sym, ap, ◌∙◌}
use Rattle.dpl_language.specs.Tree.{ExprTree, ItemTree}
use Rattle.dpl_language.specs.Names.{Text}
use Rattle.dpl_language.specs.Phrases.{ReadTree, item_read}
use Rattle.dpl_agreement.specs.Renamed.{renamed_expr, renamed_item}
use Rattle.dpl_agreement.proofs.RenamedTwice.{renamed_expr-twice, renamed_item-twice}
use Rattle.dpl_rules.specs.Sights.{Scopes}
use Rattle.dpl_lowered.specs.Shapes.{hidden_item}
use Rattle.dpl_lowered.specs.LoweredExpressions.{Times, lowered_expr, lowered_item}
use Rattle.dpl_memory.specs.Memory.{Variable, known_variable}
use Rattle.dpl_memory.specs.Resolved.{variable_of}
use Rattle.dpl_nodes.proofs.Unread.{cell_read-int, cell_read-truth, item_read-range, cell_read-domain}
use Rattle.dpl_nodes.proofs.Promotions.{cell_read-promoted_int, cell_read-promoted_truth}
use Rattle.dpl_typed.specs.declared.typed.Typed.{Typed}
use Rattle.dpl_typed.specs.declared.typed.Typed.TheVariants as typed
use Rattle.dpl_typed.specs.Typed.{typed_item}
use Rattle.dpl_typed.specs.Lowered.{leaves_of, item_leaves}
use Rattle.dpl_typed.specs.Stands.{StandsForItem}
use Rattle.dpl_bound.specs.Sights.{bound_in}
use Rattle.dpl_bound.specs.Run.{side_leaves}

-- ---- typed items are no cell reads
item_read-typed : (m : Times) (t : Typed) → item_read (typed_item m t) ≡ None
item_read-typed m (typed.Int e) = cell_read-int e.now
item_read-typed m (typed.Truth e) = cell_read-truth e.now
item_read-typed m (typed.Range strided e) = item_read-range e.now
item_read-typed m (typed.Domain rank strided e) = cell_read-domain e.now
item_read-typed m (typed.Array k over slot at) = refl
item_read-typed m (typed.Ints over e) = cell_read-promoted_int m e.now
item_read-typed m (typed.Truths over e) = cell_read-promoted_truth m e.now
item_read-typed m (typed.Tuple rank slot) = refl
item_read-typed m typed.Locale = refl
item_read-typed m typed.AllLocales = refl
item_read-typed m (typed.Cell k) = refl

-- what is no cell read stands as it is
not_hidden : (r : Option (ReadTree Variable)) (i : ItemTree Variable) → item_read i ≡ None → hidden_item r (item_read i) i ≡ i
not_hidden None i e = rw e refl
not_hidden (Some x) i e = refl

-- ---- names, resolved
pub expr-leaves : (ss : Scopes) (m : Times) (e : ExprTree Text) → lowered_expr known_variable m (renamed_expr variable_of (renamed_expr (bound_in ss) e)) ≡ leaves_of ss m e
expr-leaves ss m e = ap (lowered_expr known_variable m) (renamed_expr-twice variable_of (bound_in ss) e)

pub items-leaves : (ss : Scopes) (m : Times) (i : ItemTree Text) → lowered_item known_variable m (renamed_item variable_of (renamed_item (bound_in ss) i)) ≡ item_leaves ss m i
items-leaves ss m i = ap (lowered_item known_variable m) (renamed_item-twice variable_of (bound_in ss) i)

-- ---- right sides
side-typed : (ss : Scopes) (m : Times) (i : ItemTree Text) (t : Typed) → typed_item m t ≡ item_leaves ss m i → typed_item m t ≡ side_leaves ss m i
side-typed ss m i t is =
    let node = items-leaves ss m i ∙ sym is in
    let read = item_read (renamed_item variable_of (renamed_item (bound_in ss) i)) in
    sym (ap (λ j. hidden_item read (item_read j) j) node ∙ not_hidden read (typed_item m t) (item_read-typed m t))

pub stands_side : (ss : Scopes) (i : ItemTree Text) (r : Option Typed) → StandsForItem r (λ m. item_leaves ss m i) → StandsForItem r (λ m. side_leaves ss m i)
stands_side ss i None h = tt
stands_side ss i (Some t) h = (λ m. side-typed ss m i t (h.0 m), h.1)

-- The plain declaration that one in memory stands for.
-- Maps, types and initial values, each by its fields.
use Rattle.std.specs.Prelude.{map, Option, Some, None}
use Rattle.dpl_language.specs.Phrases.{natural}
use Rattle.dpl_tree.specs.View.{Spelled, name_view, expr_view, item_view, items_view, next_expr_view}
use Rattle.dpl_tree.specs.declared.declaration.ArgumentName.{ArgumentName as ArgumentNode}
use Rattle.dpl_tree.specs.declared.declaration.Start.{Start}
use Rattle.dpl_tree.specs.declared.declaration.Start.TheVariants.{Expr, Tuple}
use Rattle.dpl_tree.specs.declared.declaration.BlockMap.{BlockMap as BlockNode}
use Rattle.dpl_tree.specs.declared.declaration.CyclicMap.{CyclicMap as CyclicNode}
use Rattle.dpl_tree.specs.declared.declaration.BlockCyclicMap.{BlockCyclicMap as BlockCyclicNode}
use Rattle.dpl_tree.specs.declared.declaration.Map.{Map}
use Rattle.dpl_tree.specs.declared.declaration.Map.TheVariants.{Block, Cyclic, BlockCyclic}
use Rattle.dpl_tree.specs.declared.declaration.Mapped.{Mapped}
use Rattle.dpl_tree.specs.declared.declaration.DomainType.{DomainType as DomainNode}
use Rattle.dpl_tree.specs.declared.declaration.ArrayType.{ArrayType as ArrayNode}
use Rattle.dpl_tree.specs.declared.declaration.DeclaredType.{DeclaredType}
use Rattle.dpl_tree.specs.declared.declaration.DeclaredType.TheVariants.{Scalar, Sync, Domain, Array}
use Rattle.dpl_tree.specs.declared.declaration.Create.{Create as CreateNode}
use Rattle.dpl_tree.specs.declared.declaration.Init.{Init}
use Rattle.dpl_tree.specs.declared.declaration.Init.TheVariants.{Item, Create}
use Rattle.dpl_tree.specs.declared.declaration.Typed.{Typed}
use Rattle.dpl_tree.specs.declared.declaration.Initial.{Initial}
use Rattle.dpl_tree.specs.declared.declaration.Declare.{Declare}
use Rattle.dpl_language.specs.Tree.{ArgumentName, StartTree, StartExpr, StartTuple, BlockTree, CyclicTree, BlockCyclicTree, MapTree, BlockMap, CyclicMap, BlockCyclicMap, MappedTree, DomainTypeTree, ArrayTypeTree, TypeTree, ScalarType, SyncType, DomainType, ArrayType, CreateTree, InitTree, ItemInit, CreateInit, TypedTree, InitialTree, DeclareTree}

-- what may be missing, by the view of what is there
abbrev pub optional : {A B : Type 0} → (A → B) → Option A → Option B
optional view None = None
optional view (Some x) = Some (view x)

abbrev pub argument_name_view : ArgumentNode → ArgumentName
argument_name_view a = record { at = a.at; equals = a.equals }

abbrev pub start_view : Start → Spelled StartTree
start_view (Expr e) = StartExpr (expr_view e.now)
start_view (Tuple from first others upto) = StartTuple from (record { first = expr_view first.now; others = map next_expr_view others.now }) upto

abbrev pub block_view : BlockNode → Spelled BlockTree
block_view m = record { new = m.new; word = m.word; from = m.from; argument = optional argument_name_view m.argument; box = item_view m.bounding_box; upto = m.upto }

abbrev pub cyclic_view : CyclicNode → Spelled CyclicTree
cyclic_view m = record { new = m.new; word = m.word; from = m.from; argument = optional argument_name_view m.argument; start = start_view m.start; upto = m.upto }

abbrev pub block_cyclic_view : BlockCyclicNode → Spelled BlockCyclicTree
block_cyclic_view m = record {
  new = m.new;
  word = m.word;
  from = m.from;
  start_argument = optional argument_name_view m.start_argument;
  start = start_view m.start;
  comma = m.comma;
  size_argument = optional argument_name_view m.size_argument;
  size = start_view m.size;
  upto = m.upto;
}

abbrev pub map_view : Map → Spelled MapTree
map_view (Block m) = BlockMap (block_view m)
map_view (Cyclic m) = CyclicMap (cyclic_view m)
map_view (BlockCyclic m) = BlockCyclicMap (block_cyclic_view m)

abbrev pub mapped_view : Mapped → Spelled MappedTree
mapped_view m = record { at = m.at; map = map_view m.map }

abbrev pub domain_type_view : DomainNode → Spelled DomainTypeTree
domain_type_view t = record { at = t.at; from = t.from; rank_at = t.rank_at; rank = natural t.rank; upto = t.upto; mapped = optional mapped_view t.mapped }

abbrev pub array_type_view : ArrayNode → Spelled ArrayTypeTree
array_type_view t = record { from = t.from; over = items_view t.over; upto = t.upto; kind_at = t.kind_at; kind = t.kind }

abbrev pub type_view : DeclaredType → Spelled TypeTree
type_view (Scalar at kind) = ScalarType at kind
type_view (Sync at kind_at kind) = SyncType at kind_at kind
type_view (Domain t) = DomainType (domain_type_view t)
type_view (Array t) = ArrayType (array_type_view t)

abbrev pub created_view : CreateNode → Spelled CreateTree
created_view c = record { at = c.at; word = c.word; dot = c.dot; method = c.method; from = c.from; items = items_view c.items; upto = c.upto }

abbrev pub init_view : Init → Spelled InitTree
init_view (Item item mapped) = ItemInit (item_view item) (optional mapped_view mapped)
init_view (Create c) = CreateInit (created_view c)

abbrev pub typed_view : Typed → Spelled TypedTree
typed_view t = record { colon = t.colon; type = type_view t.declared }

abbrev pub initial_view : Initial → Spelled InitialTree
initial_view i = record { equals = i.equals; init = init_view i.init }

abbrev pub declare_view : Declare → Spelled DeclareTree
declare_view d = record {
  config = d.config;
  at = d.at;
  constant = d.constant;
  name = name_view d.name;
  typed = optional typed_view d.typed;
  initial = optional initial_view d.initial;
  semicolon = d.semicolon;
}

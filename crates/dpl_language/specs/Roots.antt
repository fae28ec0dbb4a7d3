-- Which root a declaration gives a domain or an array.
-- A map is never the cause of a fault: where an argument of `dmapped` has no value, no map is named.
use Rattle.std.specs.Prelude.{if◌then◌else◌, Bool, true, false, Option, Some, None, Result, Ok, Err, List, [], ◌∷◌}
use Rattle.dpl_sets.specs.TextRanges.{TextRange}
use Rattle.dpl_language.specs.Tree.{DomainOf, ExprTree, Named, Grouped, Postfixed, ItemTree, One, Posts, NoPosts, Post, PostTree, Dotted, Plainly, Expand, Items, FirstItem, NoItems, StartTree, StartExpr, StartTuple, MapTree, BlockMap, CyclicMap, BlockCyclicMap, MappedTree, ArrayTypeTree, TypeTree, DomainType, ArrayType, CreateWord, CreateBlock, CreateCyclic, CreateTree, InitTree, ItemInit, CreateInit, InitialTree, DeclareTree}
use Rattle.dpl_language.specs.Values.{Value, Domain, Array, Index, ranges_in, coordinates, index_of, is_distributed, Fault}
use Rattle.dpl_language.specs.Distributions.{Distribution, NoMap, BlockOver, CyclicFrom, BlockCyclicFrom, Root}
use Rattle.dpl_language.specs.Ranges.{least_in}
use Rattle.dpl_language.specs.Outcome.{with_ok}
use Rattle.dpl_language.specs.Environment.{Environment, Limits}
use Rattle.dpl_language.specs.Phrases.{parts}
use Rattle.dpl_language.specs.Expressions.{value_of, item_of, domain_of}
use Rattle.dpl_language.specs.Declarations.{type_of}

-- DERIVED VALUES: the name from which a value is derived, as `D` or `A.domain`, sliced or expanded. A literal is derived
-- from none. In brackets stand the ranges of a slice, or the indices of an element, which is no domain.
abbrev pub by_post : {N : Type 0} → PostTree N → Option N → Option N
by_post (Dotted dot (Plainly at DomainOf)) name = name
by_post (Dotted dot (Expand at from e upto)) name = name
by_post (Dotted dot m) name = None
by_post _ name = name

abbrev pub by_posts : {N : Type 0} → Posts N → Option N → Option N
by_posts NoPosts name = name
by_posts (Post p ps) name = by_posts ps (by_post p name)

abbrev mutual
  pub derived_from : {N : Type 0} → ExprTree N → Option N
  derived_from (Named x) = Some x.name
  derived_from (Grouped from item upto) = derived_item item
  derived_from (Postfixed e ps) = by_posts ps (derived_from e)
  derived_from _ = None

  pub derived_item : {N : Type 0} → ItemTree N → Option N
  derived_item (One e) = derived_from e
  derived_item _ = None

-- what stands between an array's brackets: one item alone may be a domain
abbrev pub derived_over : {N : Type 0} → Items N → Option N
derived_over (FirstItem item NoItems) = derived_item item
derived_over _ = None

-- the map of the type goes before that of the initial value
abbrev pub type_map : {N : Type 0} → Option (TypeTree N) → Option (MappedTree N)
type_map (Some (DomainType d)) = d.mapped
type_map _ = None

abbrev pub is_typed_domain : {N : Type 0} → Option (TypeTree N) → Bool
is_typed_domain (Some (DomainType d)) = true
is_typed_domain _ = false

-- what is named, or no map where an argument has no value
abbrev pub or_no_map : Result Distribution Fault → Distribution
or_no_map (Ok d) = d
or_no_map (Err f) = NoMap

-- a root, by what is named for it
abbrev pub root_by : Distribution → List TextRange → Root
root_by named rs = record { named = named; domain = rs }

-- from the least members of a domain
abbrev pub cyclic_or_none : Option Index → Distribution
cyclic_or_none None = NoMap
cyclic_or_none (Some t) = CyclicFrom t

-- `blockDist.createDomain(X)` has the box X, and `cyclicDist.createDomain(X)` starts at X's least members
abbrev pub created_by : CreateWord → List TextRange → Distribution
created_by CreateBlock rs = BlockOver rs
created_by CreateCyclic rs = cyclic_or_none (least_in rs)

module _ {N S : Type 0} (limits : Limits) (env : Environment N S) where
  -- MAPS THAT ARE NAMED: where one starts, or how large its blocks are: an int, a tuple of ints, or `X.low`
  abbrev pub each_value : List (ExprTree N) → S → Result (List Value) Fault
  each_value [] s = Ok []
  each_value (e ∷ es) s = with_ok (value_of limits env e None s) (λ v. with_ok (each_value es s) (λ vs. Ok (v ∷ vs)))

  abbrev pub start_of : StartTree N → S → Result Index Fault
  start_of (StartExpr e) s = with_ok (value_of limits env e None s) (λ v. Ok (coordinates v))
  start_of (StartTuple from es upto) s = with_ok (each_value (parts es) s) (λ vs. Ok (index_of vs))

  abbrev pub map_of : MapTree N → S → Result Distribution Fault
  map_of (BlockMap m) s = with_ok (item_of limits env m.box None s) (λ v. Ok (BlockOver (ranges_in v)))
  map_of (CyclicMap m) s = with_ok (start_of m.start s) (λ t. Ok (CyclicFrom t))
  map_of (BlockCyclicMap m) s =
      with_ok (start_of m.start s) (λ t. with_ok (start_of m.size s) (λ sizes. Ok (BlockCyclicFrom t sizes)))

  abbrev pub named_by : MappedTree N → S → Distribution
  named_by m s = or_no_map (map_of m.map s)

  abbrev pub created : CreateTree N → S → Distribution
  created c s = or_no_map (with_ok (domain_of limits env c.from c.items s) (λ v. Ok (created_by c.word (ranges_in v))))

  -- ROOTS, of what is declared with some ranges. What is derived from a domain or an array has the root of that.
  abbrev pub derived_root : Option N → List TextRange → S → Root
  derived_root None rs s = root_by NoMap rs
  derived_root (Some x) rs s = if is_distributed (env.get x s) then env.root x s else root_by NoMap rs

  -- an initial value with a map, or a created one, makes a root; and so does a type that is written
  abbrev pub init_root : Bool → InitTree N → List TextRange → S → Root
  init_root typed (ItemInit item (Some m)) rs s = root_by (named_by m s) rs
  init_root true (ItemInit item None) rs s = root_by NoMap rs
  init_root false (ItemInit item None) rs s = derived_root (derived_item item) rs s
  init_root typed (CreateInit c) rs s = root_by (created c s) rs

  abbrev pub initial_root : Bool → Option (InitialTree N) → List TextRange → S → Root
  initial_root typed None rs s = root_by NoMap rs
  initial_root typed (Some i) rs s = init_root typed i.init rs s

  abbrev pub domain_root : Option (MappedTree N) → Bool → Option (InitialTree N) → List TextRange → S → Root
  domain_root None typed i rs s = initial_root typed i rs s
  domain_root (Some m) typed i rs s = root_by (named_by m s) rs

  -- a domain gets its root by what was declared, evaluated before it was
  abbrev pub deal_domain : Option (TypeTree N) → Option (InitialTree N) → N → Value → S → S → S
  deal_domain type i x (Domain rs) s after = env.deal x (domain_root (type_map type) (is_typed_domain type) i rs s) after
  deal_domain type i x _ s after = after

  -- An array has the root of its domain; over ranges, or over a literal or a slice or expand of one, it is a root.
  abbrev pub deal_array : ArrayTypeTree N → N → Value → S → S → S
  deal_array a x (Array k rs) s after = env.deal x (derived_root (derived_over a.over) rs s) after
  deal_array a x _ s after = after

  abbrev pub deal_by : Option (TypeTree N) → Option (InitialTree N) → N → Value → S → S → S
  deal_by (Some (ArrayType a)) i x v s after = deal_array a x v s after
  deal_by type i x v s after = deal_domain type i x v s after

  -- the state behind a declaration, with the root of what was declared
  abbrev pub dealt : DeclareTree N → S → S → S
  dealt d s after = deal_by (type_of d.typed) d.initial d.name.name (env.get d.name.name after) s after

-- Where any name may be used in any way, each tree fits.
-- For environments that agree of all names, wherever they stand.
use Rattle.std.proofs.Common.{pos, List, [], ◌∷◌, refl, Some, None, Option}
use Rattle.dpl_syntax.specs.declared.place.Place.{Place}
use Rattle.dpl_language.specs.Tree.{Placed, Kind, ExprTree, Named, Grouped, DomainLiteral, Prefixed, Reduced, Chain, Postfixed, ItemTree, One, RangeItem, Stride, NoStride, By, Links, NoLinks, Link, Posts, NoPosts, Post, PostTree, Brackets, Rounds, Dotted, MethodTree, Plainly, Dim, Contains, Expand, CellRead, Items, FirstItem, MoreItems, NoItems, NextItem, Exprs, FirstExpr, MoreExprs, NoExprs, NextExpr}
use Rattle.dpl_language.specs.Tree.{StartTree, StartExpr, StartTuple, MapTree, BlockMap, CyclicMap, BlockCyclicMap, MappedTree, TypeTree, ScalarType, SyncType, DomainType, ArrayType, InitTree, ItemInit, CreateInit, InitialTree, DeclareTree, ArgumentTree, TextArgument, ExprArgument, WithTree, VariablesTree, OneVariable, ManyVariables, TargetTree, Whole, Element, CallTree, ReadCall, ResetCall, WriteCall, HeadWord, OnWord, LoopWord, ForWord, StmtTree, Nothing, Declare, Assigned, Call, Write, Block, If, Headed, Loop, Body, WordBody, BlockBody, Stmts, NoStmts, Then, Else, NoElse, ElseDo}
use Rattle.dpl_language.specs.Values.{Value, Int, Domain, Index, default}
use Rattle.dpl_language.specs.Ranges.{empty_domain}
use Rattle.dpl_language.specs.Phrases.{Base, BaseName, BaseLocales, OtherBase, base_of, bare_name, ReadTree, item_read, parts}
use Rattle.dpl_language.specs.Declarations.{type_of}
use Rattle.dpl_language.specs.Writing.{arguments_of}
use Rattle.dpl_agreement.specs.Scopes.{Form, form_by, Scoping, IsLawful, items_in, fits_name, fits_element, fits_expr, fits_item, fits_stride, fits_links, fits_posts, fits_post, fits_method, fits_items, fits_more_items, fits_exprs, fits_more_exprs, fits_read, fits_side, fits_whole_side, fits_type, side_by, fits_init, fits_initial, fits_given, initial_map, fits_each_value, fits_start, fits_map, fits_mapped, fits_maps, suits_init, suits_initial, suits_elements, suits_array, suits_declared, fits_declare, fits_target, side_for, suits_target, fits_call, fits_shown, fits_arguments, fits_each, fits_variables, fits_loop, fits_head, holds_ints, suits_turns, fits, fits_body, fits_all, fits_else}

-- any name may be used in any way, and nothing is kept of what is in sight
abbrev pub anything : {N : Type 0} → Scoping N (Unit {0})
anything = record {
  reads = λ x g. Unit {0};
  reads_at = λ x t g. Unit {0};
  reads_element = λ x items g. Unit {0};
  assigns = λ x op g. Unit {0};
  assigns_at = λ x t g. Unit {0};
  assigns_element = λ x items g. Unit {0};
  calls = λ x g. Unit {0};
  declares = λ x form g. Unit {0};
  gives = λ x g. Unit {0};
  holds = λ x c. Unit {0};
  suits = λ x item g. Unit {0};
  suits_element = λ x item g. Unit {0};
  turns = λ x item g. Unit {0};
  spans = λ x items g. Unit {0};
  spans_array = λ x k items g. Unit {0};
  intends = λ is g. Unit {0};
  coforalls = λ x g. Unit {0};
  moves = λ g. Unit {0};
  add = λ x form g. g;
  enter = λ g. g;
  leave = λ g. g;
  intend = λ is g. g;
  begin = λ g. g;
}

pub anything-lawful : {N : Type 0} → IsLawful (anything {N = N})
anything-lawful = record { leave-enter = λ g. refl; leave-add = λ x form g. refl; reads-add = λ x form g d. tt }

head_fits : (N : Type 0) (word : HeadWord) → fits_head (anything {N = N}) word tt
head_fits N OnWord = tt
head_fits N _ = tt

module _ {N : Type 0} where
  name_fits : (t : Option Index) (x : N) → fits_name anything t x tt
  name_fits None x = tt
  name_fits (Some t) x = (tt, tt)

  element_fits : (b : Base N) (items : Items N) → fits_element anything b items tt
  element_fits (BaseName x) items = tt
  element_fits (BaseLocales at) items = tt
  element_fits OtherBase items = tt

  mutual
    expr_fits : (e : ExprTree N) (t : Option Index) → fits_expr anything t e tt
    expr_fits (Named x) t = name_fits t x.name
    expr_fits (Grouped from item upto) t = item_fits item t
    expr_fits (DomainLiteral from items upto) t = items_fit items
    expr_fits (Prefixed at op e) t = expr_fits e t
    expr_fits (Reduced at op word e) t = λ i. expr_fits e (Some i)
    expr_fits (Chain e rest) t = (expr_fits e t, links_fit rest t)
    expr_fits (Postfixed e posts) t = (expr_fits e None, posts_fit posts (base_of e))
    expr_fits _ t = tt

    pub item_fits : (i : ItemTree N) (t : Option Index) → fits_item anything t i tt
    item_fits (One e) t = expr_fits e t
    item_fits (RangeItem low at dots high by) t = (expr_fits low None, expr_fits high None, stride_fits by)

    stride_fits : (by : Stride N) → fits_stride anything by tt
    stride_fits NoStride = tt
    stride_fits (By at e) = expr_fits e None

    links_fit : (l : Links N) (t : Option Index) → fits_links anything t l tt
    links_fit NoLinks t = tt
    links_fit (Link at op e rest) t = (expr_fits e t, links_fit rest t)

    posts_fit : (ps : Posts N) (b : Base N) → fits_posts anything ps b tt
    posts_fit NoPosts b = tt
    posts_fit (Post p rest) b = (post_fits p b, posts_fit rest OtherBase)

    post_fits : (p : PostTree N) (b : Base N) → fits_post anything p b tt
    post_fits (Brackets from items upto) b = (items_fit items, element_fits b items)
    post_fits (Rounds from es upto) b = (exprs_fit es, element_fits b (items_in es))
    post_fits (Dotted dot m) b = method_fits m

    method_fits : (m : MethodTree N) → fits_method anything m tt
    method_fits (Plainly at w) = tt
    method_fits (Dim at from rank_at d upto) = tt
    method_fits (Contains at from es upto) = exprs_fit es
    method_fits (Expand at from e upto) = expr_fits e None
    method_fits (CellRead at w from upto) = tt

    pub items_fit : (is : Items N) → fits_items anything is tt
    items_fit (FirstItem i more) = (item_fits i None, more_items_fit more)

    more_items_fit : (is : MoreItems N) → fits_more_items anything is tt
    more_items_fit NoItems = tt
    more_items_fit (NextItem comma i more) = (item_fits i None, more_items_fit more)

    exprs_fit : (es : Exprs N) → fits_exprs anything es tt
    exprs_fit (FirstExpr e more) = (expr_fits e None, more_exprs_fit more)

    more_exprs_fit : (es : MoreExprs N) → fits_more_exprs anything es tt
    more_exprs_fit NoExprs = tt
    more_exprs_fit (NextExpr comma e more) = (expr_fits e None, more_exprs_fit more)

  read_fits : (o : Option (ReadTree N)) → fits_read anything o tt
  read_fits None = tt
  read_fits (Some r) = (tt, tt)

  side_fits : (i : ItemTree N) → fits_side anything i tt
  side_fits i = (item_fits i None, read_fits (item_read i))

  whole_side_fits : (i : ItemTree N) → fits_whole_side anything i tt
  whole_side_fits i = (λ t. item_fits i (Some t), read_fits (item_read i))

  type_fits : (t : Option (TypeTree N)) → fits_type anything t tt
  type_fits (Some (ArrayType a)) = items_fit a.over
  type_fits _ = tt

  side_by_fits : (t : Option (TypeTree N)) (i : ItemTree N) → side_by anything t i tt
  side_by_fits (Some (ArrayType a)) i = whole_side_fits i
  side_by_fits _ i = side_fits i

  init_fits : (t : Option (TypeTree N)) (i : InitTree N) → fits_init anything (side_by anything t) i tt
  init_fits t (ItemInit item mapped) = side_by_fits t item
  init_fits t (CreateInit c) = items_fit c.items

  initial_fits : (t : Option (TypeTree N)) (i : Option (InitialTree N)) → fits_initial anything (side_by anything t) i tt
  initial_fits t None = tt
  initial_fits t (Some i) = init_fits t i.init

  given_fits : (c : Option Place) (x : N) (form : Form N) → fits_given anything c x form tt
  given_fits None x form = tt
  given_fits (Some config) x form = (tt, tt, refl)

  init_suits : (x : N) (i : InitTree N) → suits_init anything x i tt
  init_suits x (ItemInit item mapped) = tt
  init_suits x (CreateInit c) = tt

  initial_suits : (x : N) (v : Value) (i : Option (InitialTree N)) → suits_initial anything x v i tt
  initial_suits x v None = tt
  initial_suits x v (Some i) = init_suits x i.init

  elements_suit : (x : N) (k : Kind) (i : InitTree N) → suits_elements anything x k i tt
  elements_suit x k (ItemInit item mapped) = tt
  elements_suit x k (CreateInit c) = tt

  array_suits : (x : N) (k : Kind) (i : Option (InitialTree N)) → suits_array anything x k i tt
  array_suits x k None = tt
  array_suits x k (Some i) = elements_suit x k i.init

  declared_suits : (x : N) (t : Option (TypeTree N)) (i : Option (InitialTree N)) → suits_declared anything x t i tt
  declared_suits x None i = initial_suits x (Int (pos 0)) i
  declared_suits x (Some (ScalarType at k)) i = initial_suits x (default k) i
  declared_suits x (Some (SyncType at kind_at k)) i = λ c. tt
  declared_suits x (Some (DomainType d)) i = initial_suits x (Domain (empty_domain d.rank)) i
  declared_suits x (Some (ArrayType a)) i = (tt, array_suits x a.kind i)

  each_value_fits : (es : List (ExprTree N)) → fits_each_value anything es tt
  each_value_fits [] = tt
  each_value_fits (e ∷ es) = (expr_fits e None, each_value_fits es)

  start_fits : (s : StartTree N) → fits_start anything s tt
  start_fits (StartExpr e) = expr_fits e None
  start_fits (StartTuple from es upto) = each_value_fits (parts es)

  map_fits : (m : MapTree N) → fits_map anything m tt
  map_fits (BlockMap m) = item_fits m.box None
  map_fits (CyclicMap m) = start_fits m.start
  map_fits (BlockCyclicMap m) = (start_fits m.start, start_fits m.size)

  mapped_fits : (o : Option (MappedTree N)) → fits_mapped anything o tt
  mapped_fits None = tt
  mapped_fits (Some m) = map_fits m.map

  maps_fit : (type : Option (TypeTree N)) (i : Option (InitialTree N)) → fits_maps anything type i tt
  maps_fit None i = (tt, mapped_fits (initial_map i))
  maps_fit (Some (ScalarType at k)) i = (tt, mapped_fits (initial_map i))
  maps_fit (Some (SyncType at kind_at k)) i = (tt, mapped_fits (initial_map i))
  maps_fit (Some (DomainType d)) i = (mapped_fits d.mapped, mapped_fits (initial_map i))
  maps_fit (Some (ArrayType a)) i = tt

  declare_fits : (d : DeclareTree N) → fits_declare anything d tt
  declare_fits d =
      (type_fits (type_of d.typed), initial_fits (type_of d.typed) d.initial, tt, given_fits d.config d.name.name (form_by (type_of d.typed)), declared_suits d.name.name (type_of d.typed) d.initial, maps_fit (type_of d.typed) d.initial)

  target_fits : (t : TargetTree N) (op : _) → fits_target anything t op tt
  target_fits (Whole x) op = (tt, λ t. (tt, tt))
  target_fits (Element x shape from es upto) op = (exprs_fit es, tt, tt, tt)

  side_for_fits : (t : TargetTree N) (i : ItemTree N) → side_for anything t i tt
  side_for_fits (Whole x) i = whole_side_fits i
  side_for_fits (Element x shape from es upto) i = side_fits i

  target_suits : (t : TargetTree N) (i : ItemTree N) → suits_target anything t i tt
  target_suits (Whole x) i = tt
  target_suits (Element x shape from es upto) i = tt

  call_fits : (c : CallTree N) → fits_call anything c tt
  call_fits (ReadCall at w from upto) = tt
  call_fits (ResetCall at from upto) = tt
  call_fits (WriteCall at w from e upto) = expr_fits e None

  shown_fits : (o : Option (Placed N)) → fits_shown anything o tt
  shown_fits None = tt
  shown_fits (Some x) = λ t. tt

  arguments_fit : (xs : List (ArgumentTree N)) → fits_arguments anything xs tt
  arguments_fit [] = tt
  arguments_fit (TextArgument at cs ∷ rest) = arguments_fit rest
  arguments_fit (ExprArgument e ∷ rest) = (side_fits (One e), shown_fits (bare_name e), arguments_fit rest)

  each_fits : (xs : List (Placed N)) → fits_each anything xs tt
  each_fits [] = tt
  each_fits (x ∷ xs) = (tt, each_fits xs)

  variables_fit : (xs : VariablesTree N) → fits_variables anything xs tt
  variables_fit (OneVariable x) = tt
  variables_fit (ManyVariables from xs upto) = each_fits (parts xs)

  ints_hold : (xs : List (Placed N)) → holds_ints anything xs
  ints_hold [] = tt
  ints_hold (x ∷ xs) = (λ i. tt, ints_hold xs)

  turns_suit : (xs : VariablesTree N) (i : ItemTree N) → suits_turns anything xs i tt
  turns_suit (OneVariable x) i = tt
  turns_suit (ManyVariables from xs upto) i = ints_hold (parts xs)

  loop_fits : (word : LoopWord) (xs : VariablesTree N) (intents : Option (WithTree N)) → fits_loop anything word xs intents tt
  loop_fits ForWord xs intents = tt
  loop_fits _ xs intents = tt

  mutual
    pub stmt_fits : (t : StmtTree N) → fits anything t tt
    stmt_fits (Nothing at) = tt
    stmt_fits (Declare d) = declare_fits d
    stmt_fits (Assigned target sign item semicolon) = (target_fits target sign.op, side_for_fits target item, target_suits target item)
    stmt_fits (Call x dot call semicolon) = (call_fits call, tt, tt)
    stmt_fits (Write w) = arguments_fit (arguments_of w.arguments)
    stmt_fits (Block from body upto) = stmts_fit body
    stmt_fits (If at e first second) = (expr_fits e None, body_fits first, else_fits second)
    stmt_fits (Headed word at e body) = (expr_fits e None, body_fits body, head_fits N word)
    stmt_fits (Loop word at xs within item intents body) = (item_fits item None, turns_suit xs item, loop_fits word xs intents, variables_fit xs, body_fits body)

    body_fits : (b : Body N) → fits_body anything b tt
    body_fits (WordBody at t) = stmt_fits t
    body_fits (BlockBody from ts upto) = stmts_fit ts

    pub stmts_fit : (ts : Stmts N) → fits_all anything ts tt
    stmts_fit NoStmts = tt
    stmts_fit (Then t rest) = (stmt_fits t, stmts_fit rest)

    else_fits : (o : Else N) → fits_else anything o tt
    else_fits NoElse = tt
    else_fits (ElseDo at t) = stmt_fits t

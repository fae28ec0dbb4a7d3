-- Which names a tree may use where, over any way to keep what is in sight.
-- A tree fits where each of its names is read, assigned, called and declared as that way allows, and holds what it may.
use Rattle.std.specs.Prelude.{◌≡◌, ℤ, pos, Option, Some, None, List, [], ◌∷◌}
use Rattle.dpl_syntax.specs.declared.place.Place.{Place}
use Rattle.dpl_history.specs.declared.cell.CellState.{CellState}
use Rattle.dpl_language.specs.Tree.{Placed, Op, Assign, Kind, ExprTree, Number, TruthWord, Named, LocalesWord, LocaleCount, HereWord, Grouped, DomainLiteral, Prefixed, Reduced, Chain, Postfixed, ItemTree, One, RangeItem, Stride, NoStride, By, Links, NoLinks, Link, Posts, NoPosts, Post, PostTree, Brackets, Rounds, Dotted, MethodTree, Plainly, Dim, Contains, Expand, CellRead, Items, FirstItem, MoreItems, NoItems, NextItem, Exprs, FirstExpr, MoreExprs, NoExprs, NextExpr}
use Rattle.dpl_language.specs.Tree.{StartTree, StartExpr, StartTuple, MapTree, BlockMap, CyclicMap, BlockCyclicMap, MappedTree, TypeTree, ScalarType, SyncType, DomainType, ArrayType, InitTree, ItemInit, CreateInit, InitialTree, DeclareTree, ArgumentTree, TextArgument, ExprArgument, WithTree, VariablesTree, OneVariable, ManyVariables, TargetTree, Whole, Element, CallTree, ReadCall, ResetCall, WriteCall, HeadWord, OnWord, LoopWord, ForWord, ForallWord, CoforallWord, StmtTree, Nothing, Declare, Assigned, Call, Write, Block, If, Headed, Loop, Body, WordBody, BlockBody, Stmts, NoStmts, Then, Else, NoElse, ElseDo}
use Rattle.dpl_language.specs.Values.{Value, Int, Domain, Index, default}
use Rattle.dpl_language.specs.Ranges.{empty_domain}
use Rattle.dpl_language.specs.Environment.{Content, Plain, ArrayOf, CellOf}
use Rattle.dpl_language.specs.Phrases.{Base, BaseName, BaseLocales, OtherBase, base_of, bare_name, ReadTree, item_read, declared_over, intents_of, first_name, parts}
use Rattle.dpl_language.specs.Declarations.{type_of}
use Rattle.dpl_language.specs.Roots.{type_map}
use Rattle.dpl_language.specs.Writing.{arguments_of}

-- what a name is declared as: a plain variable, an array and over which bare domain name, or a cell
pub data Form (N : Type 0) : Type 0 where
  PlainForm : Form N
  ArrayForm : Option N → Form N
  CellForm : Form N

abbrev pub form_of : {N : Type 0} → Content N → Form N
form_of (Plain v) = PlainForm
form_of (ArrayOf over k rs vs) = ArrayForm over
form_of (CellOf k c) = CellForm

-- the same, as a declaration's type tells it
abbrev pub form_by : {N : Type 0} → Option (TypeTree N) → Form N
form_by None = PlainForm
form_by (Some (ScalarType at k)) = PlainForm
form_by (Some (SyncType at kind_at k)) = CellForm
form_by (Some (DomainType d)) = PlainForm
form_by (Some (ArrayType a)) = ArrayForm (declared_over a.over)

-- A way to keep what is in sight in a G, and what may be done with a name there.
pub record Scoping (N G : Type 0) : Type 1 where
  -- a name's value is read: of an array its domain alone
  pub reads : N → G → Type 0
  -- an element of a whole array is read, at an index; and the element at the index that these items give
  pub reads_at : N → Index → G → Type 0
  pub reads_element : N → Items N → G → Type 0
  -- a name is assigned; an element of a whole array, at an index; and the element at the index that these items give
  pub assigns : N → Assign → G → Type 0
  pub assigns_at : N → Index → G → Type 0
  pub assigns_element : N → Items N → G → Type 0
  -- a name's cell is operated on
  pub calls : N → G → Type 0
  -- a name is declared
  pub declares : N → Form N → G → Type 0
  -- the command line is asked for a name's value
  pub gives : N → G → Type 0
  -- a name may be declared with this content, and be assigned its value; of a whole array a value is one that each of its
  -- elements may be
  pub holds : N → Content N → Type 0
  -- A name may hold the value of this right side; of a whole array each element that which it has in whatever turn, or once
  -- where there is no whole array in it. An element of a name may hold its value. And in each turn of a loop over this item
  -- a name may hold the value of the turn.
  pub suits : N → ItemTree N → G → Type 0
  pub suits_element : N → ItemTree N → G → Type 0
  pub turns : N → ItemTree N → G → Type 0
  -- a name may hold the domain of these ranges, and may be an array of this kind over it
  pub spans : N → Items N → G → Type 0
  pub spans_array : N → Kind → Items N → G → Type 0
  -- a forall with these reduce variables is run, and a coforall with this variable; and a body on a locale
  pub intends : List (N × Op) → G → Type 0
  pub coforalls : N → G → Type 0
  pub moves : G → Type 0
  -- what is in sight behind a declaration, in a scope, and behind the scope
  pub add : N → Form N → G → G
  pub enter : G → G
  pub leave : G → G
  -- what is in sight in a forall with these reduce variables, and in a task
  pub intend : List (N × Op) → G → G
  pub begin : G → G

-- a scope is left as it was entered, whatever was declared in it; and a name may be read behind its declaration
pub record IsLawful {N G : Type 0} (scoping : Scoping N G) : Type 0 where
  pub leave-enter : (g : G) → scoping.leave (scoping.enter g) ≡ g
  pub leave-add : (x : N) (form : Form N) (g : G) → scoping.leave (scoping.add x form g) ≡ scoping.leave g
  pub reads-add : (x : N) (form : Form N) (g : G) → scoping.declares x form g → scoping.reads x (scoping.add x form g)

-- expressions between round brackets, as the items that they are
abbrev pub more_items_in : {N : Type 0} → MoreExprs N → MoreItems N
more_items_in NoExprs = NoItems
more_items_in (NextExpr comma e more) = NextItem comma (One e) (more_items_in more)

abbrev pub items_in : {N : Type 0} → Exprs N → Items N
items_in (FirstExpr e more) = FirstItem (One e) (more_items_in more)

-- the map of an initial value
abbrev pub init_map : {N : Type 0} → InitTree N → Option (MappedTree N)
init_map (ItemInit item mapped) = mapped
init_map (CreateInit c) = None

abbrev pub initial_map : {N : Type 0} → Option (InitialTree N) → Option (MappedTree N)
initial_map None = None
initial_map (Some i) = init_map i.init

module _ {N G : Type 0} (scoping : Scoping N G) where
  -- a bare name: its value, and at an index of a promoted expression its element
  abbrev pub fits_name : Option Index → N → G → Type 0
  fits_name None x g = scoping.reads x g
  fits_name (Some t) x g = scoping.reads x g × scoping.reads_at x t g

  -- a name before indices
  abbrev pub fits_element : Base N → Items N → G → Type 0
  fits_element (BaseName x) items g = scoping.reads_element x.name items g
  fits_element (BaseLocales at) items g = Unit {0}
  fits_element OtherBase items g = Unit {0}

  -- an expression that is evaluated once, or at an index
  abbrev mutual
    pub fits_expr : Option Index → ExprTree N → G → Type 0
    fits_expr t (Number at n) g = Unit {0}
    fits_expr t (TruthWord at b) g = Unit {0}
    fits_expr t (Named x) g = fits_name t x.name g
    fits_expr t (LocalesWord at) g = Unit {0}
    fits_expr t (LocaleCount at) g = Unit {0}
    fits_expr t (HereWord at) g = Unit {0}
    fits_expr t (Grouped from item upto) g = fits_item t item g
    fits_expr t (DomainLiteral from items upto) g = fits_items items g
    fits_expr t (Prefixed at op e) g = fits_expr t e g
    fits_expr t (Reduced at op word e) g = (i : Index) → fits_expr (Some i) e g
    fits_expr t (Chain e rest) g = fits_expr t e g × fits_links t rest g
    fits_expr t (Postfixed e posts) g = fits_expr None e g × fits_posts posts (base_of e) g

    pub fits_item : Option Index → ItemTree N → G → Type 0
    fits_item t (One e) g = fits_expr t e g
    fits_item t (RangeItem low at dots high by) g = fits_expr None low g × fits_expr None high g × fits_stride by g

    pub fits_stride : Stride N → G → Type 0
    fits_stride NoStride g = Unit {0}
    fits_stride (By at e) g = fits_expr None e g

    pub fits_links : Option Index → Links N → G → Type 0
    fits_links t NoLinks g = Unit {0}
    fits_links t (Link at op e rest) g = fits_expr t e g × fits_links t rest g

    pub fits_posts : Posts N → Base N → G → Type 0
    fits_posts NoPosts b g = Unit {0}
    fits_posts (Post p rest) b g = fits_post p b g × fits_posts rest OtherBase g

    pub fits_post : PostTree N → Base N → G → Type 0
    fits_post (Brackets from items upto) b g = fits_items items g × fits_element b items g
    fits_post (Rounds from es upto) b g = fits_exprs es g × fits_element b (items_in es) g
    fits_post (Dotted dot m) b g = fits_method m g

    pub fits_method : MethodTree N → G → Type 0
    fits_method (Plainly at w) g = Unit {0}
    fits_method (Dim at from rank_at d upto) g = Unit {0}
    fits_method (Contains at from es upto) g = fits_exprs es g
    fits_method (Expand at from e upto) g = fits_expr None e g
    fits_method (CellRead at w from upto) g = Unit {0}

    pub fits_items : Items N → G → Type 0
    fits_items (FirstItem i more) g = fits_item None i g × fits_more_items more g

    pub fits_more_items : MoreItems N → G → Type 0
    fits_more_items NoItems g = Unit {0}
    fits_more_items (NextItem comma i more) g = fits_item None i g × fits_more_items more g

    pub fits_exprs : Exprs N → G → Type 0
    fits_exprs (FirstExpr e more) g = fits_expr None e g × fits_more_exprs more g

    pub fits_more_exprs : MoreExprs N → G → Type 0
    fits_more_exprs NoExprs g = Unit {0}
    fits_more_exprs (NextExpr comma e more) g = fits_expr None e g × fits_more_exprs more g

  -- a right side may be a cell read as a whole
  abbrev pub fits_read : Option (ReadTree N) → G → Type 0
  fits_read None g = Unit {0}
  fits_read (Some r) g = scoping.reads r.name.name g × scoping.calls r.name.name g

  abbrev pub fits_side : ItemTree N → G → Type 0
  fits_side item g = fits_item None item g × fits_read (item_read item) g

  -- the right side of a whole array is evaluated at each index, where it is promoted
  abbrev pub fits_whole_side : ItemTree N → G → Type 0
  fits_whole_side item g = ((t : Index) → fits_item (Some t) item g) × fits_read (item_read item) g

  -- MAPS. Their arguments are evaluated once; of an array's declaration no map is.
  abbrev pub fits_each_value : List (ExprTree N) → G → Type 0
  fits_each_value [] g = Unit {0}
  fits_each_value (e ∷ es) g = fits_expr None e g × fits_each_value es g

  abbrev pub fits_start : StartTree N → G → Type 0
  fits_start (StartExpr e) g = fits_expr None e g
  fits_start (StartTuple from es upto) g = fits_each_value (parts es) g

  abbrev pub fits_map : MapTree N → G → Type 0
  fits_map (BlockMap m) g = fits_item None m.box g
  fits_map (CyclicMap m) g = fits_start m.start g
  fits_map (BlockCyclicMap m) g = fits_start m.start g × fits_start m.size g

  abbrev pub fits_mapped : Option (MappedTree N) → G → Type 0
  fits_mapped None g = Unit {0}
  fits_mapped (Some m) g = fits_map m.map g

  abbrev pub fits_maps : Option (TypeTree N) → Option (InitialTree N) → G → Type 0
  fits_maps (Some (ArrayType a)) i g = Unit {0}
  fits_maps type i g = fits_mapped (type_map type) g × fits_mapped (initial_map i) g

  -- DECLARATIONS. Of a type the domain of an array is evaluated.
  abbrev pub fits_type : Option (TypeTree N) → G → Type 0
  fits_type None g = Unit {0}
  fits_type (Some (ScalarType at k)) g = Unit {0}
  fits_type (Some (SyncType at kind_at k)) g = Unit {0}
  fits_type (Some (DomainType d)) g = Unit {0}
  fits_type (Some (ArrayType a)) g = fits_items a.over g

  -- an initial value is a right side, of an array that of a whole array
  abbrev pub side_by : Option (TypeTree N) → ItemTree N → G → Type 0
  side_by None = fits_side
  side_by (Some (ScalarType at k)) = fits_side
  side_by (Some (SyncType at kind_at k)) = fits_side
  side_by (Some (DomainType d)) = fits_side
  side_by (Some (ArrayType a)) = fits_whole_side

  abbrev pub fits_init : (ItemTree N → G → Type 0) → InitTree N → G → Type 0
  fits_init side (ItemInit item mapped) g = side item g
  fits_init side (CreateInit c) g = fits_items c.items g

  abbrev pub fits_initial : (ItemTree N → G → Type 0) → Option (InitialTree N) → G → Type 0
  fits_initial side None g = Unit {0}
  fits_initial side (Some i) g = fits_init side i.init g

  -- The command line gives a plain variable. What is in sight behind a `config const` is the same either way, as it is
  -- where the declared type is that of a plain variable.
  abbrev pub fits_given : Option Place → N → Form N → G → Type 0
  fits_given None x form g = Unit {0}
  fits_given (Some config) x form g =
      scoping.gives x g × scoping.declares x PlainForm g × (scoping.add x PlainForm g ≡ scoping.add x form g)

  -- What a declaration makes is what its name may hold: of a plain variable its initial value, or where it has none what
  -- its type gives; of a cell each state of one of its kind; of an array one over the domain that its type gives, with elements
  -- that it may hold: those of its initial value, or where it has none what its kind gives.
  abbrev pub holds_cells : N → Kind → Type 0
  holds_cells x k = (c : CellState) → scoping.holds x (CellOf k c)

  abbrev pub suits_init : N → InitTree N → G → Type 0
  suits_init x (ItemInit item mapped) g = scoping.suits x item g
  suits_init x (CreateInit c) g = scoping.spans x c.items g

  abbrev pub suits_initial : N → Value → Option (InitialTree N) → G → Type 0
  suits_initial x v None g = scoping.holds x (Plain v)
  suits_initial x v (Some i) g = suits_init x i.init g

  abbrev pub suits_elements : N → Kind → InitTree N → G → Type 0
  suits_elements x k (ItemInit item mapped) g = scoping.suits x item g
  suits_elements x k (CreateInit c) g = scoping.holds x (Plain (default k))

  abbrev pub suits_array : N → Kind → Option (InitialTree N) → G → Type 0
  suits_array x k None g = scoping.holds x (Plain (default k))
  suits_array x k (Some i) g = suits_elements x k i.init g

  abbrev pub suits_declared : N → Option (TypeTree N) → Option (InitialTree N) → G → Type 0
  suits_declared x None initial g = suits_initial x (Int (pos 0)) initial g
  suits_declared x (Some (ScalarType at k)) initial g = suits_initial x (default k) initial g
  suits_declared x (Some (SyncType at kind_at k)) initial g = holds_cells x k
  suits_declared x (Some (DomainType d)) initial g = suits_initial x (Domain (empty_domain d.rank)) initial g
  suits_declared x (Some (ArrayType a)) initial g = scoping.spans_array x a.kind a.over g × suits_array x a.kind initial g

  abbrev pub fits_declare : DeclareTree N → G → Type 0
  fits_declare d g =
      fits_type (type_of d.typed) g × fits_initial (side_by (type_of d.typed)) d.initial g
      × scoping.declares d.name.name (form_by (type_of d.typed)) g
      × fits_given d.config d.name.name (form_by (type_of d.typed)) g
      × suits_declared d.name.name (type_of d.typed) d.initial g
      × fits_maps (type_of d.typed) d.initial g

  -- ASSIGNMENTS, CALLS AND WRITES
  abbrev pub fits_target : TargetTree N → Assign → G → Type 0
  fits_target (Whole x) op g =
      scoping.assigns x.name op g × ((t : Index) → scoping.reads_at x.name t g × scoping.assigns_at x.name t g)
  fits_target (Element x shape from es upto) op g =
      fits_exprs es g × scoping.reads_element x.name (items_in es) g × scoping.assigns_element x.name (items_in es) g
      × scoping.assigns x.name op g

  -- a name may be that of a whole array
  abbrev pub side_for : TargetTree N → ItemTree N → G → Type 0
  side_for (Whole x) = fits_whole_side
  side_for (Element x shape from es upto) = fits_side

  -- a name may hold what is assigned to it, or to an element of it
  abbrev pub suits_target : TargetTree N → ItemTree N → G → Type 0
  suits_target (Whole x) item g = scoping.suits x.name item g
  suits_target (Element x shape from es upto) item g = scoping.suits_element x.name item g

  abbrev pub fits_call : CallTree N → G → Type 0
  fits_call (ReadCall at w from upto) g = Unit {0}
  fits_call (ResetCall at from upto) g = Unit {0}
  fits_call (WriteCall at w from e upto) g = fits_expr None e g

  -- a bare name that is an array is shown as a whole
  abbrev pub fits_shown : Option (Placed N) → G → Type 0
  fits_shown None g = Unit {0}
  fits_shown (Some x) g = (t : Index) → scoping.reads_at x.name t g

  abbrev pub fits_arguments : List (ArgumentTree N) → G → Type 0
  fits_arguments [] g = Unit {0}
  fits_arguments (TextArgument at cs ∷ rest) g = fits_arguments rest g
  fits_arguments (ExprArgument e ∷ rest) g =
      fits_side (One e) g × fits_shown (bare_name e) g × fits_arguments rest g

  -- LOOPS. Their variables stand in a scope of their own, and the body in another inside it.
  abbrev pub add_each : List (Placed N) → G → G
  add_each [] g = g
  add_each (x ∷ xs) g = add_each xs (scoping.add x.name PlainForm g)

  abbrev pub add_variables : VariablesTree N → G → G
  add_variables (OneVariable x) g = scoping.add x.name PlainForm g
  add_variables (ManyVariables from xs upto) g = add_each (parts xs) g

  abbrev pub inside : VariablesTree N → G → G
  inside xs g = scoping.enter (add_variables xs (scoping.enter g))

  abbrev pub fits_each : List (Placed N) → G → Type 0
  fits_each [] g = Unit {0}
  fits_each (x ∷ xs) g =
      scoping.declares x.name PlainForm g × fits_each xs (scoping.add x.name PlainForm g)

  abbrev pub fits_variables : VariablesTree N → G → Type 0
  fits_variables (OneVariable x) g = scoping.declares x.name PlainForm g
  fits_variables (ManyVariables from xs upto) g = fits_each (parts xs) g

  -- one variable may hold the values of its turns, and of several each may hold every int
  abbrev pub holds_ints : List (Placed N) → Type 0
  holds_ints [] = Unit {0}
  holds_ints (x ∷ xs) = ((i : ℤ) → scoping.holds x.name (Plain (Int i))) × holds_ints xs

  abbrev pub suits_turns : VariablesTree N → ItemTree N → G → Type 0
  suits_turns (OneVariable x) item g = scoping.turns x.name item g
  suits_turns (ManyVariables from xs upto) item g = holds_ints (parts xs)

  -- a forall's reduce variables, and what is in sight in its turns; a coforall's variable, and what is in sight in its tasks
  abbrev pub fits_loop : LoopWord → VariablesTree N → Option (WithTree N) → G → Type 0
  fits_loop ForWord xs intents g = Unit {0}
  fits_loop ForallWord xs intents g = scoping.intends (intents_of intents) g
  fits_loop CoforallWord xs intents g = scoping.coforalls (first_name xs) g

  abbrev pub begun : LoopWord → Option (WithTree N) → G → G
  begun ForWord intents g = g
  begun ForallWord intents g = scoping.intend (intents_of intents) g
  begun CoforallWord intents g = scoping.begin g

  -- a body on a locale
  abbrev pub fits_head : HeadWord → G → Type 0
  fits_head OnWord g = scoping.moves g
  fits_head _ g = Unit {0}

  -- STATEMENTS
  -- what is in sight behind a statement
  abbrev pub after : StmtTree N → G → G
  after (Declare d) g = scoping.add d.name.name (form_by (type_of d.typed)) g
  after _ g = g

  abbrev pub after_all : Stmts N → G → G
  after_all NoStmts g = g
  after_all (Then t rest) g = after_all rest (after t g)

  abbrev pub after_body : Body N → G → G
  after_body (WordBody at t) g = after t g
  after_body (BlockBody from ts upto) g = after_all ts g

  abbrev mutual
    pub fits : StmtTree N → G → Type 0
    fits (Nothing at) g = Unit {0}
    fits (Declare d) g = fits_declare d g
    fits (Assigned target sign item semicolon) g =
        fits_target target sign.op g × side_for target item g × suits_target target item g
    fits (Call x dot call semicolon) g = fits_call call g × scoping.reads x.name g × scoping.calls x.name g
    fits (Write w) g = fits_arguments (arguments_of w.arguments) g
    fits (Block from body upto) g = fits_all body (scoping.enter g)
    fits (If at e first second) g = fits_expr None e g × fits_body first (scoping.enter g) × fits_else second g
    fits (Headed word at e body) g = fits_expr None e g × fits_body body (scoping.enter g) × fits_head word g
    fits (Loop word at xs within item intents body) g =
        fits_item None item g × suits_turns xs item g × fits_loop word xs intents g
        × fits_variables xs (scoping.enter (begun word intents g))
        × fits_body body (inside xs (begun word intents g))

    pub fits_body : Body N → G → Type 0
    fits_body (WordBody at t) g = fits t g
    fits_body (BlockBody from ts upto) g = fits_all ts g

    pub fits_all : Stmts N → G → Type 0
    fits_all NoStmts g = Unit {0}
    fits_all (Then t rest) g = fits t g × fits_all rest (after t g)

    pub fits_else : Else N → G → Type 0
    fits_else NoElse g = Unit {0}
    fits_else (ElseDo at t) g = fits t (scoping.enter g)

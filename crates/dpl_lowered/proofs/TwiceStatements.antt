-- A lowered statement, and a lowered program, is lowered to itself.
-- A phrase that stands in brackets stays in one pair of them, and what is written where it was left out is written once.
use Rattle.std.proofs.Common.{◌≡◌, Bool, false, List, [], ◌∷◌, refl, sym, ap, ◌∙◌, Some, None, Option, map}
use Rattle.std.specs.Prelude.{◌||◌, option_map}
use Rattle.dpl_syntax.specs.declared.place.Place.{Place}
use Rattle.dpl_language.specs.Tree.{Placed, AfterComma, Listed, Kind, IntKind, BoolKind, AssignTree, ExprTree, Grouped, DomainLiteral, ItemTree, One, Items, FirstItem, NoItems, NextItem, StartTree, StartExpr, StartTuple, MapTree, BlockMap, CyclicMap, BlockCyclicMap, MappedTree, CreateWord, CreateBlock, CreateCyclic, TypeTree, ScalarType, SyncType, DomainType, ArrayType, InitTree, ItemInit, CreateInit, InitialTree, DeclareTree}
use Rattle.dpl_language.specs.Tree.{ArgumentTree, TextArgument, ExprArgument, WriteTree, WithTree, VariablesTree, OneVariable, ManyVariables, TargetTree, Whole, Element, Square, CallTree, ReadCall, ResetCall, WriteCall, LoopWord, ForWord, ForallWord, CoforallWord, StmtTree, Nothing, Declare, Assigned, Call, Write, Block, If, Headed, Loop, Body, WordBody, BlockBody, Stmts, NoStmts, Then, Else, NoElse, ElseDo, ProgramTree}
use Rattle.dpl_language.specs.Arithmetic.{assign_divides}
use Rattle.dpl_language.specs.Phrases.{bare_name, cell_read, ReadTree, item_read, item_over, intents_of}
use Rattle.dpl_language.specs.Declarations.{type_of}
use Rattle.dpl_lowered.specs.Known.{Known, may_be_array, may_be_whole}
use Rattle.dpl_lowered.specs.Shapes.{nowhere, kept, placed, unplaced, relisted, as_expr, as_item, hidden, hidden_item, item_in_brackets}
use Rattle.dpl_lowered.specs.LoweredExpressions.{Times, Once, EachTurn, lowered_expr, lowered_item, lowered_items}
use Rattle.dpl_lowered.specs.LoweredStatements.{mapped_initial, written_initial, ranked_type, root_type, block_map, cyclic_map, block_cyclic_map, mapped_by, low_tree, created_map, lowered_start, lowered_map, lowered_mapped, lowered_init_map, lowered_with, map_by, default_tree, written_type, tells_name, unplaced_word, lowered_variables, with_intents, lowered_intents, tells_head, lowered_sign, times_by, lowered_side, lowered_over, lowered_init, plain_initial, lowered_initial, array_init, array_initial, declared_type, declared_initial, lowered_declare, lowered_target, target_sign, target_times, lowered_call, array_name, lowered_shown, lowered_argument, lowered_write, lowered_stmt, lowered_body, lowered_stmts, lowered_else, lowered_program}
use Rattle.dpl_lowered.proofs.Seen.{Either, NoRead, NoName, either, array_name-none}
use Rattle.dpl_lowered.proofs.Parts.{intents_of-made, type_of-written}
use Rattle.dpl_lowered.proofs.Formed.{IsFormed, as_expr-as_item, as_item-as_expr, lowered-formed, item-formed}
use Rattle.dpl_lowered.proofs.Twice.{kept-kept, expr-twice, item-twice, items-twice, exprs-twice}

-- PARTS
relisted-twice : {A : Type 0} (f : A → A) → ((x : A) → f (f x) ≡ f x) → (xs : Listed A) → relisted f (relisted f xs) ≡ relisted f xs
relisted-twice {A} f p xs =
    ap (λ y. record { first = y; others = map change (map change xs.others) }) (p xs.first)
    ∙ ap (λ ys. record { first = f xs.first; others = ys }) (others-twice xs.others)
  where
    change : AfterComma A → AfterComma A
    change c = record { comma = nowhere; part = f c.part }

    others-twice : (cs : List (AfterComma A)) → map change (map change cs) ≡ map change cs
    others-twice [] = refl
    others-twice (c ∷ cs) =
        ap (λ y. record { comma = nowhere; part = y } ∷ map change (map change cs)) (p c.part) ∙ ap (λ ds. change c ∷ ds) (others-twice cs)

option-twice : {A : Type 0} (f : A → A) → ((x : A) → f (f x) ≡ f x) → (o : Option A) → option_map f (option_map f o) ≡ option_map f o
option-twice f p None = refl
option-twice f p (Some x) = ap (λ y. Some y) (p x)

word-twice : (config : Option Place) → unplaced_word (unplaced_word config) ≡ unplaced_word config
word-twice None = refl
word-twice (Some at) = refl

sign-twice : (b : Bool) (sign : AssignTree) → lowered_sign b (lowered_sign b sign) ≡ lowered_sign b sign
sign-twice b sign = ap (λ at. record { at = at; op = sign.op; last = nowhere }) (kept-kept b sign.at)

hidden-same : {A N : Type 0} (o : Option A) (e : ExprTree N) → hidden o o e ≡ e
hidden-same None e = refl
hidden-same (Some x) e = refl

hidden_item-same : {A N : Type 0} (o : Option A) (i : ItemTree N) → hidden_item o o i ≡ i
hidden_item-same None i = refl
hidden_item-same (Some x) i = refl

hidden-nothing : {A B N : Type 0} (o : Option A) (p : Option B) (e : ExprTree N) → p ≡ None → hidden o p e ≡ e
hidden-nothing None None e n = refl
hidden-nothing None (Some y) e n = absurd (let no : Some y ≡ None = n in cc)
hidden-nothing (Some x) p e n = refl

module _ {N : Type 0} where
  placed-placed : (b : Bool) (x : Placed N) → placed b (placed b x) ≡ placed b x
  placed-placed b x = ap (λ at. record { at = at; name = x.name }) (kept-kept b x.at)

  variables-twice : (xs : VariablesTree N) → lowered_variables (lowered_variables xs) ≡ lowered_variables xs
  variables-twice (OneVariable x) = refl
  variables-twice (ManyVariables from xs upto) = ap (λ xs. ManyVariables nowhere xs nowhere) (relisted-twice unplaced (λ x. refl) xs)

module _ {N : Type 0} (known : N → Known) where
  -- RIGHT SIDES, and what an array is declared over: phrases that are seen in an item
  hidden-twice : {A : Type 0} (see : ItemTree N → Option A) → ((from : Place) (i : ItemTree N) (upto : Place) → see (One (Grouped from i upto)) ≡ None)
      → (m : Times) (i : ItemTree N) (o p : Option A) → see (lowered_item known m i) ≡ p
      → hidden_item (see (hidden_item o p (lowered_item known m i))) (see (lowered_item known m (hidden_item o p (lowered_item known m i)))) (lowered_item known m (hidden_item o p (lowered_item known m i)))
      ≡ hidden_item o p (lowered_item known m i)
  hidden-twice see blind m i None None e =
      ap (λ j. hidden_item (see (lowered_item known m i)) (see j) j) (item-twice known m i) ∙ hidden_item-same (see (lowered_item known m i)) (lowered_item known m i)
  hidden-twice see blind m i None (Some y) e =
      ap (λ o. hidden_item o (see (as_item (as_expr (lowered_item known m (lowered_item known m i))))) (as_item (as_expr (lowered_item known m (lowered_item known m i))))) (blind nowhere (lowered_item known m i) nowhere)
      ∙ ap (λ j. item_in_brackets (see j) j) (as_item-as_expr (lowered_item known m (lowered_item known m i)) (item-formed known m (lowered_item known m i)) ∙ item-twice known m i)
      ∙ ap (λ o. item_in_brackets o (lowered_item known m i)) e
  hidden-twice see blind m i (Some x) p e =
      ap (λ j. hidden_item (see (lowered_item known m i)) (see j) j) (item-twice known m i) ∙ hidden_item-same (see (lowered_item known m i)) (lowered_item known m i)

  side-twice : (m : Times) (i : ItemTree N) → lowered_side known m (lowered_side known m i) ≡ lowered_side known m i
  side-twice m i = hidden-twice item_read (λ from i upto. refl) m i (item_read i) (item_read (lowered_item known m i)) refl

  over-twice : (is : Items N) → lowered_over known (lowered_over known is) ≡ lowered_over known is
  over-twice (FirstItem i NoItems) =
      ap (λ j. FirstItem j NoItems) (hidden-twice item_over (λ from i upto. refl) Once i (item_over i) (item_over (lowered_item known Once i)) refl)
  over-twice (FirstItem i (NextItem comma j more)) = items-twice known (FirstItem i (NextItem comma j more))

  -- DECLARATIONS
  init-twice : (i : InitTree N) → lowered_side known Once (lowered_init known i) ≡ lowered_init known i
  init-twice (ItemInit item mapped) = side-twice Once item
  init-twice (CreateInit c) = ap (λ is. One (DomainLiteral c.from is nowhere)) (items-twice known c.items)

  -- MAPS
  start-twice : (t : StartTree N) → lowered_start known (lowered_start known t) ≡ lowered_start known t
  start-twice (StartExpr e) = ap StartExpr (expr-twice known Once e)
  start-twice (StartTuple from es upto) = ap (λ es. StartTuple nowhere es nowhere) (relisted-twice (lowered_expr known Once) (expr-twice known Once) es)

  map-twice : (m : MapTree N) → lowered_map known (lowered_map known m) ≡ lowered_map known m
  map-twice (BlockMap m) = ap block_map (item-twice known Once m.box)
  map-twice (CyclicMap m) = ap cyclic_map (start-twice m.start)
  map-twice (BlockCyclicMap m) = ap (λ t. block_cyclic_map t (lowered_start known (lowered_start known m.size))) (start-twice m.start) ∙ ap (block_cyclic_map (lowered_start known m.start)) (start-twice m.size)

  mapped-twice : (m : MappedTree N) → lowered_mapped known (lowered_mapped known m) ≡ lowered_mapped known m
  mapped-twice m = ap mapped_by (map-twice m.map)

  created-twice : (w : CreateWord) (from : Place) (is : Items N) → lowered_items known is ≡ is → lowered_mapped known (created_map w (DomainLiteral from is nowhere)) ≡ created_map w (DomainLiteral from is nowhere)
  created-twice CreateBlock from is e = ap (λ is. mapped_by (block_map (One (DomainLiteral from is nowhere)))) e
  created-twice CreateCyclic from is e = ap (λ is. mapped_by (cyclic_map (StartExpr (low_tree (DomainLiteral from is nowhere))))) e

  init_map-twice : (i : InitTree N) → option_map (lowered_mapped known) (lowered_init_map known i) ≡ lowered_init_map known i
  init_map-twice (ItemInit item mapped) = option-twice (lowered_mapped known) mapped-twice mapped
  init_map-twice (CreateInit c) = ap (λ m. Some m) (created-twice c.word c.from (lowered_items known c.items) (items-twice known c.items))

  map_by-twice : (m : Option (MappedTree N)) (i : InitTree N) → option_map (lowered_mapped known) (map_by known m i) ≡ map_by known m i
  map_by-twice None i = init_map-twice i
  map_by-twice (Some m) i = ap (λ m. Some m) (mapped-twice m)

  -- an initial value with a map that is lowered to itself
  with-twice : (i : InitTree N) (o : Option (MappedTree N)) → option_map (lowered_mapped known) o ≡ o
      → mapped_initial nowhere (lowered_side known Once (lowered_init known i)) (option_map (lowered_mapped known) o) ≡ lowered_with known i o
  with-twice i o e = ap (λ j. mapped_initial nowhere j (option_map (lowered_mapped known) o)) (init-twice i) ∙ ap (mapped_initial nowhere (lowered_init known i)) e

  rooted-twice : (i : InitTree N) (o : Option (MappedTree N)) → option_map (lowered_mapped known) o ≡ o → declared_initial known (root_type o) (Some (lowered_with known i o)) ≡ Some (lowered_with known i o)
  rooted-twice i None e = ap (λ j. Some j) (with-twice i None e)
  rooted-twice i (Some m) e = ap (λ j. Some j) (with-twice i (Some m) e)

  root_type-twice : (i : InitTree N) (o : Option (MappedTree N)) → declared_type known (root_type o) (Some (lowered_with known i o)) ≡ root_type o
  root_type-twice i None = refl
  root_type-twice i (Some m) = refl

  root_type-untold : (o : Option (MappedTree N)) → tells_name (root_type o) ≡ false
  root_type-untold None = refl
  root_type-untold (Some m) = refl

  plain-twice : (k l : Kind) (i : Option (InitialTree N)) → plain_initial known (default_tree k) (plain_initial known (default_tree l) i) ≡ plain_initial known (default_tree l) i
  plain-twice k IntKind None = refl
  plain-twice k BoolKind None = refl
  plain-twice k l (Some i) = ap (λ j. Some j) (with-twice i.init (lowered_init_map known i.init) (init_map-twice i.init))

  initial-twice : (i : Option (InitialTree N)) → lowered_initial known (lowered_initial known i) ≡ lowered_initial known i
  initial-twice None = refl
  initial-twice (Some i) = ap (λ j. Some j) (with-twice i.init (lowered_init_map known i.init) (init_map-twice i.init))

  array_init-twice : (equals : Place) (i : InitTree N) → array_initial known (array_init known equals i) ≡ array_init known equals i
  array_init-twice equals (ItemInit item mapped) = ap (λ j. Some (written_initial equals j)) (side-twice EachTurn item)
  array_init-twice equals (CreateInit c) = refl

  array_initial-twice : (i : Option (InitialTree N)) → array_initial known (array_initial known i) ≡ array_initial known i
  array_initial-twice None = refl
  array_initial-twice (Some i) = array_init-twice i.equals i.init

  type-twice : (type : Option (TypeTree N)) (i : Option (InitialTree N)) → declared_type known (declared_type known type i) (declared_initial known type i) ≡ declared_type known type i
  type-twice None i = refl
  type-twice (Some (ScalarType at k)) i = refl
  type-twice (Some (SyncType at kind_at k)) i = refl
  type-twice (Some (DomainType d)) None = ap (λ m. Some (ranked_type d.rank m)) (option-twice (lowered_mapped known) mapped-twice d.mapped)
  type-twice (Some (DomainType d)) (Some i) = root_type-twice i.init (map_by known d.mapped i.init)
  type-twice (Some (ArrayType a)) i =
      ap (λ is. Some (ArrayType (record { from = a.from; over = is; upto = nowhere; kind_at = nowhere; kind = a.kind }))) (over-twice a.over)

  declared_initial-twice : (type : Option (TypeTree N)) (i : Option (InitialTree N)) → declared_initial known (declared_type known type i) (declared_initial known type i) ≡ declared_initial known type i
  declared_initial-twice None i = plain-twice IntKind IntKind i
  declared_initial-twice (Some (ScalarType at k)) i = plain-twice IntKind k i
  declared_initial-twice (Some (SyncType at kind_at k)) i = initial-twice i
  declared_initial-twice (Some (DomainType d)) None = refl
  declared_initial-twice (Some (DomainType d)) (Some i) = rooted-twice i.init (map_by known d.mapped i.init) (map_by-twice d.mapped i.init)
  declared_initial-twice (Some (ArrayType a)) i = array_initial-twice i

  tells_name-twice : (type : Option (TypeTree N)) (i : Option (InitialTree N)) → tells_name (declared_type known type i) ≡ tells_name type
  tells_name-twice (Some (DomainType d)) None = refl
  tells_name-twice (Some (DomainType d)) (Some i) = root_type-untold (map_by known d.mapped i.init)
  tells_name-twice _ i = refl

  -- a lowered declaration, of its parts
  abbrev declaration : Option Place → Placed N → Option (TypeTree N) → Option (InitialTree N) → DeclareTree N
  declaration config x type i =
      record { config = config; at = nowhere; constant = false; name = x; typed = option_map written_type type; initial = i; semicolon = nowhere }

  -- the type and the initial value of a lowered declaration, lowered once more
  abbrev type_again : Option (TypeTree N) → Option (InitialTree N) → Option (TypeTree N)
  type_again type i = declared_type known (declared_type known type i) (declared_initial known type i)

  abbrev initial_again : Option (TypeTree N) → Option (InitialTree N) → Option (InitialTree N)
  initial_again type i = declared_initial known (declared_type known type i) (declared_initial known type i)

  declared-twice : (config : Option Place) (x : Placed N) (type : Option (TypeTree N)) (i : Option (InitialTree N))
      → declaration (unplaced_word (unplaced_word config)) (placed (tells_name (declared_type known type i)) (placed (tells_name type) x)) (type_again type i) (initial_again type i)
      ≡ declaration (unplaced_word config) (placed (tells_name type) x) (declared_type known type i) (declared_initial known type i)
  declared-twice config x type i =
      ap (λ config. declaration config (placed (tells_name (declared_type known type i)) (placed (tells_name type) x)) (type_again type i) (initial_again type i)) (word-twice config)
      ∙ ap (λ b. declaration (unplaced_word config) (placed b (placed (tells_name type) x)) (type_again type i) (initial_again type i)) (tells_name-twice type i)
      ∙ ap (λ x. declaration (unplaced_word config) x (type_again type i) (initial_again type i)) (placed-placed (tells_name type) x)
      ∙ ap (λ t. declaration (unplaced_word config) (placed (tells_name type) x) t (initial_again type i)) (type-twice type i)
      ∙ ap (declaration (unplaced_word config) (placed (tells_name type) x) (declared_type known type i)) (declared_initial-twice type i)

  -- the lowered declaration's type is seen through the colon before it
  abbrev declared_again : DeclareTree N → Option (TypeTree N) → DeclareTree N
  declared_again d type =
      declaration (unplaced_word (unplaced_word d.config)) (placed (tells_name type) (placed (tells_name (type_of d.typed)) d.name))
      (declared_type known type (declared_initial known (type_of d.typed) d.initial)) (declared_initial known type (declared_initial known (type_of d.typed) d.initial))

  declare-twice : (d : DeclareTree N) → lowered_declare known (lowered_declare known d) ≡ lowered_declare known d
  declare-twice d =
      ap (declared_again d) (type_of-written (declared_type known (type_of d.typed) d.initial)) ∙ declared-twice d.config d.name (type_of d.typed) d.initial

  -- ASSIGNMENTS AND CALLS
  target-twice : (t : TargetTree N) → lowered_target known (lowered_target known t) ≡ lowered_target known t
  target-twice (Whole x) = ap Whole (placed-placed (may_be_whole (known x.name)) x)
  target-twice (Element x shape from es upto) = ap (λ es. Element x Square nowhere es nowhere) (exprs-twice known es)

  target_sign-twice : (t : TargetTree N) (sign : AssignTree) → target_sign known (lowered_target known t) (target_sign known t sign) ≡ target_sign known t sign
  target_sign-twice (Whole x) sign = sign-twice (may_be_array (known x.name) || assign_divides sign.op) sign
  target_sign-twice (Element x shape from es upto) sign = sign-twice (assign_divides sign.op) sign

  abbrev side_again : TargetTree N → ItemTree N → ItemTree N
  side_again t i = lowered_side known (target_times known (lowered_target known t)) (lowered_side known (target_times known t) i)

  target_side-twice : (t : TargetTree N) (i : ItemTree N) → side_again t i ≡ lowered_side known (target_times known t) i
  target_side-twice (Whole x) i = side-twice (times_by (may_be_array (known x.name))) i
  target_side-twice (Element x shape from es upto) i = side-twice Once i

  call-twice : (c : CallTree N) → lowered_call known (lowered_call known c) ≡ lowered_call known c
  call-twice (ReadCall at w from upto) = refl
  call-twice (ResetCall at from upto) = refl
  call-twice (WriteCall at w from e upto) = ap (λ e. WriteCall nowhere w nowhere e nowhere) (expr-twice known Once e)

  -- WRITES
  lowered-hidden : {A B : Type 0} (o : Option A) (p : Option B) (e l : ExprTree N) → lowered_expr known Once e ≡ l → IsFormed l → lowered_expr known Once (hidden o p e) ≡ l
  lowered-hidden None None e l h f = h
  lowered-hidden None (Some y) e l h f = ap (λ l. as_expr (as_item l)) h ∙ as_expr-as_item l f
  lowered-hidden (Some x) p e l h f = h

  hidden-array : (b : Option (Placed N)) (e : ExprTree N) → hidden b (array_name known b) e ≡ e
  hidden-array None e = refl
  hidden-array (Some x) e = refl

  bare-again : (l : ExprTree N) → lowered_shown known l l ≡ l
  bare-again l = hidden-array (bare_name l) (hidden (cell_read l) (cell_read l) l) ∙ hidden-same (cell_read l) l

  read-again : (o p : Option (ReadTree N)) (l : ExprTree N) → cell_read l ≡ p → Either l → lowered_shown known (hidden o p l) l ≡ hidden o p l
  read-again None None l e w = bare-again l
  read-again None (Some y) l e (NoRead d) = absurd (let no : None ≡ Some y = sym d ∙ e in cc)
  read-again None (Some y) l e (NoName d) =
      ap (λ b. hidden {A = Placed N} None (array_name known b) (hidden {A = ReadTree N} None (cell_read l) l)) d ∙ ap (λ o. hidden {A = ReadTree N} None o l) e
  read-again (Some r) p l e w = bare-again l

  shown-again : (b c : Option (Placed N)) (o p : Option (ReadTree N)) (l : ExprTree N) → array_name known (bare_name l) ≡ c → cell_read l ≡ p → Either l → lowered_shown known (hidden b c (hidden o p l)) l ≡ hidden b c (hidden o p l)
  shown-again None None o p l n e w = read-again o p l e w
  shown-again None (Some y) o p l n e (NoRead d) =
      ap (λ b. hidden {A = Placed N} None b (hidden {A = ReadTree N} None (cell_read l) l)) n
      ∙ ap (λ l. Grouped nowhere (One l) nowhere) (hidden-nothing {A = ReadTree N} None (cell_read l) l d ∙ sym (hidden-nothing o p l (sym e ∙ d)))
  shown-again None (Some y) o p l n e (NoName d) = absurd (let no : None ≡ Some y = sym (array_name-none known (bare_name l) d) ∙ n in cc)
  shown-again (Some x) c o p l n e w = read-again o p l e w

  argument-twice : (a : ArgumentTree N) → lowered_argument known (lowered_argument known a) ≡ lowered_argument known a
  argument-twice (TextArgument at cs) = refl
  argument-twice (ExprArgument e) =
      ap (λ l. ExprArgument (lowered_shown known (lowered_shown known e (lowered_expr known Once e)) l))
      (lowered-hidden (bare_name e) (array_name known (bare_name (lowered_expr known Once e))) (hidden (cell_read e) (cell_read (lowered_expr known Once e)) (lowered_expr known Once e)) (lowered_expr known Once e)
      (lowered-hidden (cell_read e) (cell_read (lowered_expr known Once e)) (lowered_expr known Once e) (lowered_expr known Once e) (expr-twice known Once e) (lowered-formed known Once e)) (lowered-formed known Once e))
      ∙ ap ExprArgument (shown-again (bare_name e) _ (cell_read e) _ (lowered_expr known Once e) refl refl (either (lowered_expr known Once e)))

  write-twice : (w : WriteTree N) → lowered_write known (lowered_write known w) ≡ lowered_write known w
  write-twice w =
      ap (λ xs. record { at = nowhere; ends_line = w.ends_line; from = nowhere; arguments = xs; upto = nowhere; semicolon = nowhere })
      (option-twice (relisted (lowered_argument known)) (relisted-twice (lowered_argument known) argument-twice) w.arguments)

  -- STATEMENTS
  intents-twice : (word : LoopWord) (w : Option (WithTree N)) → lowered_intents word (lowered_intents word w) ≡ lowered_intents word w
  intents-twice ForWord w = refl
  intents-twice ForallWord w = ap with_intents (intents_of-made (intents_of w))
  intents-twice CoforallWord w = refl

  mutual
    pub stmt-twice : (t : StmtTree N) → lowered_stmt known (lowered_stmt known t) ≡ lowered_stmt known t
    stmt-twice (Nothing at) = refl
    stmt-twice (Declare d) = ap Declare (declare-twice d)
    stmt-twice (Assigned target sign item semicolon) =
        ap (λ t. Assigned t (target_sign known (lowered_target known target) (target_sign known target sign)) (side_again target item) nowhere) (target-twice target)
        ∙ ap (λ s. Assigned (lowered_target known target) s (side_again target item) nowhere) (target_sign-twice target sign)
        ∙ ap (λ i. Assigned (lowered_target known target) (target_sign known target sign) i nowhere) (target_side-twice target item)
    stmt-twice (Call x dot call semicolon) = ap (λ c. Call x nowhere c nowhere) (call-twice call)
    stmt-twice (Write w) = ap Write (write-twice w)
    stmt-twice (Block from body upto) = ap (λ b. Block nowhere b nowhere) (stmts-twice body)
    stmt-twice (If at e first second) =
        ap (λ e. If nowhere e (lowered_body known (lowered_body known first)) (lowered_else known (lowered_else known second))) (expr-twice known Once e)
        ∙ ap (λ b. If nowhere (lowered_expr known Once e) b (lowered_else known (lowered_else known second))) (body-twice first)
        ∙ ap (If nowhere (lowered_expr known Once e) (lowered_body known first)) (else-twice second)
    stmt-twice (Headed word at e body) =
        let there = kept (tells_head word) at in
        ap (λ p. Headed word p (lowered_expr known Once (lowered_expr known Once e)) (lowered_body known (lowered_body known body))) (kept-kept (tells_head word) at)
        ∙ ap (λ e. Headed word there e (lowered_body known (lowered_body known body))) (expr-twice known Once e)
        ∙ ap (Headed word there (lowered_expr known Once e)) (body-twice body)
    stmt-twice (Loop word at xs within item intents body) =
        let with = lowered_intents word intents in
        ap (λ xs. Loop word at xs nowhere (lowered_item known Once (lowered_item known Once item)) (lowered_intents word with) (lowered_body known (lowered_body known body))) (variables-twice xs)
        ∙ ap (λ i. Loop word at (lowered_variables xs) nowhere i (lowered_intents word with) (lowered_body known (lowered_body known body))) (item-twice known Once item)
        ∙ ap (λ w. Loop word at (lowered_variables xs) nowhere (lowered_item known Once item) w (lowered_body known (lowered_body known body))) (intents-twice word intents)
        ∙ ap (Loop word at (lowered_variables xs) nowhere (lowered_item known Once item) with) (body-twice body)

    body-twice : (b : Body N) → lowered_body known (lowered_body known b) ≡ lowered_body known b
    body-twice (WordBody at t) = ap (λ t. BlockBody nowhere (Then t NoStmts) nowhere) (stmt-twice t)
    body-twice (BlockBody from ts upto) = ap (λ ts. BlockBody nowhere ts nowhere) (stmts-twice ts)

    pub stmts-twice : (ts : Stmts N) → lowered_stmts known (lowered_stmts known ts) ≡ lowered_stmts known ts
    stmts-twice NoStmts = refl
    stmts-twice (Then t rest) = ap (λ t. Then t (lowered_stmts known (lowered_stmts known rest))) (stmt-twice t) ∙ ap (Then (lowered_stmt known t)) (stmts-twice rest)

    else-twice : (o : Else N) → lowered_else known (lowered_else known o) ≡ lowered_else known o
    else-twice NoElse = refl
    else-twice (ElseDo at t) = ap (ElseDo nowhere) (stmt-twice t)

  pub program-twice : (t : ProgramTree N) → lowered_program known (lowered_program known t) ≡ lowered_program known t
  program-twice t = ap (λ ts. record { uses = []; stmts = ts; end = nowhere }) (stmts-twice t.stmts)

-- What a statement without statements in it does, it does whatever foralls are on record, and leaves the record as it is.
-- First what is put together of such runs; then assignments, operations on cells, writes and declarations.
use Rattle.std.proofs.Common.{◌≡◌, ℕ, Bool, true, false, List, [], ◌∷◌, ◌++◌, refl, ap, ◌∙◌, Ok, Err, Some, None, Result, Option, nat_lt}
use Rattle.std.specs.Prelude.{◌&&◌}
use Rattle.dpl_syntax.specs.declared.place.Place.{Place}
use Rattle.dpl_history.specs.declared.cell.CellOp.{CellOp}
use Rattle.dpl_history.specs.declared.cell.CellOp.TheVariants.{Reset}
use Rattle.dpl_sets.specs.TextRanges.{TextRange}
use Rattle.dpl_language.specs.Tree.{Placed, Kind, AssignTree, ItemTree, One, TargetTree, Whole, Element, CallTree, ReadCall, ResetCall, WriteCall, ArgumentTree, TextArgument, ExprArgument, WriteTree, TypeTree, ArrayType, InitTree, ItemInit, CreateInit, InitialTree, DeclareTree}
use Rattle.dpl_language.specs.Values.{Value, Index, index_of, ranges_in, array_domain, is_domain, cell_kind, kept_number, Fault, fault, Budget, ArrayTooLarge}
use Rattle.dpl_language.specs.Arithmetic.{assign_divides, tested_divisor}
use Rattle.dpl_language.specs.Ranges.{indices_in, size_in, too_large}
use Rattle.dpl_language.specs.Outcome.{LoopRun, Deeds, with_operation, Outcome, Done, Stop, Waits, Run, with_value, then_do, unless, in_order, naming}
use Rattle.dpl_language.specs.Environment.{Content, Answer, Replied, Unanswered, Environment, Limits}
use Rattle.dpl_language.specs.Phrases.{ReadTree, item_read, read_op, write_op, bare_name, declared_over}
use Rattle.dpl_language.specs.Expressions.{found, value_of, item_of, values_of, whole_item, domain_of}
use Rattle.dpl_language.specs.Assignments.{reply_value, and_no_more, answered, called, read_or, evaluated, change, assign_array, assign_name, assign, cell_call}
use Rattle.dpl_language.specs.Loops.{within_budget, named_turn}
use Rattle.dpl_language.specs.Declarations.{gathered, Shell, type_of, initial_then, declare_with, array_of_item, array_of_init, array_of, declare_typed, given_or, declare_by, declare}
use Rattle.dpl_language.specs.Writing.{arguments_of, shown, arguments_then, write}
use Rattle.dpl_run.specs.Recorded.{with_loops, on_record}

-- ---- what is put together of runs that keep the record
module _ {S : Type 0} where
  -- a run keeps the record: with any foralls on it the run ends the same, with the same ones on it
  abbrev pub Keeps : Run S → Type 0
  Keeps run = (s : S) (done : Deeds) (loops : List LoopRun) → run s (with_loops loops done) ≡ on_record loops (run s done)

  pub then_do-kept : (o : Outcome S) (go : Run S) → Keeps go → (loops : List LoopRun) → then_do (on_record loops o) go ≡ on_record loops (then_do o go)
  then_do-kept (Done s done) go p loops = p s done loops
  then_do-kept (Stop f done) go p loops = refl
  then_do-kept (Waits at c op done) go p loops = refl

  pub with_value-kept : {A : Type 0} (a : Result A Fault) (go : A → Run S) → ((v : A) → Keeps (go v)) → Keeps (with_value a go)
  with_value-kept (Ok v) go p s done loops = p v s done loops
  with_value-kept (Err f) go p s done loops = refl

  unless-kept : (c : Bool) (f : Fault) (run : Run S) → Keeps run → Keeps (unless c f run)
  unless-kept true f run p s done loops = refl
  unless-kept false f run p s done loops = p s done loops

  in_order-kept : (turn : Index → Run S) → ((t : Index) → Keeps (turn t)) → (ts : List Index) → Keeps (in_order turn ts)
  in_order-kept turn p [] s done loops = refl
  in_order-kept turn p (t ∷ ts) s done loops =
      ap (λ o. then_do o (in_order turn ts)) (p t s done loops) ∙ then_do-kept (turn t s done) (in_order turn ts) (in_order-kept turn p ts) loops

  pub naming-kept : (t : Index) (o : Outcome S) (loops : List LoopRun) → naming t (on_record loops o) ≡ on_record loops (naming t o)
  naming-kept t (Done s done) loops = refl
  naming-kept t (Stop f done) loops = refl
  naming-kept t (Waits at c op done) loops = refl

  turns-kept : (limits : Limits) (at : Place) (rs : List TextRange) (turn : Index → Run S) → ((t : Index) → Keeps (turn t))
      → Keeps (within_budget limits at rs (named_turn turn))
  turns-kept limits at rs turn p =
      unless-kept (nat_lt limits.budget (size_in rs)) (fault Budget at) (in_order (named_turn turn) (indices_in rs))
      (in_order-kept (named_turn turn) (λ t s done loops. ap (naming t) (p t s done loops) ∙ naming-kept t (turn t s done) loops) (indices_in rs))

module _ {N S : Type 0} (limits : Limits) (env : Environment N S) where
  -- ---- operations on cells, and right sides
  answered-kept : (x : Placed N) (op : CellOp) (k : Kind) (go : Value → Run S) → ((v : Value) → Keeps (go v))
      → (a : Answer S) (done : Deeds) (loops : List LoopRun)
      → answered limits env x op k go a (with_loops loops done) ≡ on_record loops (answered limits env x op k go a done)
  answered-kept x op k go p (Replied c r s) done loops = p (reply_value k r) s (with_operation c op r done) loops
  answered-kept x op k go p (Unanswered c) done loops = refl

  called-kept : (x : Placed N) (op : CellOp) (go : Value → Run S) → ((v : Value) → Keeps (go v)) → Keeps (called limits env x op go)
  called-kept x op go p s = answered-kept x op (cell_kind (env.get x.name s)) go p (env.call x.name op s)

  read_or-kept : (o : Option (ReadTree N)) (item : ItemTree N) (go : Value → Run S) → ((v : Value) → Keeps (go v))
      → Keeps (read_or limits env o item go)
  read_or-kept None item go p s done loops = with_value-kept (item_of limits env item None s) go p s done loops
  read_or-kept (Some r) item go p s done loops = called-kept r.name r.op go p s done loops

  evaluated-kept : (item : ItemTree N) (go : Value → Run S) → ((v : Value) → Keeps (go v)) → Keeps (evaluated limits env item go)
  evaluated-kept item = read_or-kept (item_read item) item

  -- ---- assignments
  change-kept : (x : Placed N) (sign : AssignTree) (t : Index) (w : Value) → Keeps (change limits env x sign t w)
  change-kept x sign t w s done loops =
      with_value-kept (found x.at (env.element x.name t s)) _
      (λ old. with_value-kept (tested_divisor (assign_divides sign.op) sign.at w) _ (λ w s done loops. refl)) s done loops

  assign_array-kept : (x : Placed N) (sign : AssignTree) (item : ItemTree N) (rs : List TextRange) (o : Option (List TextRange))
      → Keeps (assign_array limits env x sign item rs o)
  assign_array-kept x sign item rs None s done loops =
      evaluated-kept item _ (λ w. turns-kept limits sign.at rs (λ t. change limits env x sign t w) (λ t. change-kept x sign t w)) s done loops
  assign_array-kept x sign item rs (Some arrays) s done loops =
      turns-kept limits sign.at rs (λ t s done. with_value (item_of limits env item (Some t) s) (change limits env x sign t) s done)
      (λ t s. with_value-kept (item_of limits env item (Some t) s) (change limits env x sign t) (change-kept x sign t) s) s done loops

  assign_name-kept : (x : Placed N) (sign : AssignTree) (item : ItemTree N) (o : Option (List TextRange)) (b : Bool)
      → Keeps (assign_name limits env x sign item o b)
  assign_name-kept x sign item (Some rs) b s done loops = assign_array-kept x sign item rs (whole_item limits env item s) s done loops
  assign_name-kept x sign item None true s done loops =
      evaluated-kept item _
      (λ v s. unless-kept (too_large (ranges_in v) && env.has_arrays x.name s) (fault ArrayTooLarge x.at) _ (λ s done loops. refl) s) s done loops
  assign_name-kept x sign item None false s done loops =
      evaluated-kept item _ (λ v. with_value-kept (tested_divisor (assign_divides sign.op) sign.at v) _ (λ w s done loops. refl)) s done loops

  pub assign-kept : (target : TargetTree N) (sign : AssignTree) (item : ItemTree N) → Keeps (assign limits env target sign item)
  assign-kept (Whole x) sign item s done loops =
      assign_name-kept x sign item (array_domain (env.get x.name s)) (is_domain (env.get x.name s)) s done loops
  assign-kept (Element x shape from es upto) sign item s done loops =
      evaluated-kept item _
      (λ w s. with_value-kept (values_of limits env es s) _ (λ is. change-kept x sign (index_of is) w) s) s done loops

  pub cell_call-kept : (x : Placed N) (call : CallTree N) → Keeps (cell_call limits env x call)
  cell_call-kept x (ReadCall at w from upto) s done loops = called-kept x (read_op w) and_no_more (λ v s done loops. refl) s done loops
  cell_call-kept x (ResetCall at from upto) s done loops = called-kept x Reset and_no_more (λ v s done loops. refl) s done loops
  cell_call-kept x (WriteCall at w from e upto) s done loops =
      with_value-kept (value_of limits env e None s) _
      (λ v. called-kept x (write_op w (kept_number v)) and_no_more (λ v s done loops. refl)) s done loops

  -- ---- writes
  arguments_then-kept : (xs : List (ArgumentTree N)) (text : List ℕ) (go : List ℕ → Run S) → ((text : List ℕ) → Keeps (go text))
      → Keeps (arguments_then limits env xs text go)
  arguments_then-kept [] text go p s done loops = p text s done loops
  arguments_then-kept (TextArgument at cs ∷ rest) text go p s done loops = arguments_then-kept rest (text ++ cs) go p s done loops
  arguments_then-kept (ExprArgument e ∷ rest) text go p s done loops =
      evaluated-kept (One e) _ (λ v s. arguments_then-kept rest (text ++ shown limits env (bare_name e) v s) go p s) s done loops

  pub write-kept : (w : WriteTree N) → Keeps (write limits env w)
  write-kept w = arguments_then-kept (arguments_of w.arguments) [] _ (λ text s done loops. refl)

  -- ---- declarations
  initial_then-kept : (i : InitTree N) (go : Value → Run S) → ((v : Value) → Keeps (go v)) → Keeps (initial_then limits env i go)
  initial_then-kept (ItemInit item mapped) go p s done loops = evaluated-kept item go p s done loops
  initial_then-kept (CreateInit c) go p s done loops = with_value-kept (domain_of limits env c.from c.items s) go p s done loops

  declare_with-kept : (x : Placed N) (d : Content N) (make : Value → Content N) (i : Option (InitialTree N)) → Keeps (declare_with limits env x d make i)
  declare_with-kept x d make None s done loops = refl
  declare_with-kept x d make (Some i) s done loops = initial_then-kept i.init _ (λ v s done loops. refl) s done loops

  array_of_item-kept : (x : Placed N) (a : Shell N) (at : Place) (item : ItemTree N) (o : Option (List TextRange))
      → Keeps (array_of_item limits env x a at item o)
  array_of_item-kept x a at item None s done loops =
      evaluated-kept item _ (λ v. unless-kept (nat_lt limits.budget (size_in a.ranges)) (fault Budget at) _ (λ s done loops. refl)) s done loops
  array_of_item-kept x a at item (Some arrays) s done loops =
      unless-kept (nat_lt limits.budget (size_in a.ranges)) (fault Budget at) _
      (λ s. with_value-kept (gathered (λ t. item_of limits env item (Some t) s) (indices_in a.ranges)) _ (λ vs s done loops. refl) s) s done loops

  array_of_init-kept : (x : Placed N) (a : Shell N) (at : Place) (init : InitTree N) → Keeps (array_of_init limits env x a at init)
  array_of_init-kept x a at (ItemInit item mapped) s done loops = array_of_item-kept x a at item (whole_item limits env item s) s done loops
  array_of_init-kept x a at (CreateInit c) s done loops = refl

  array_of-kept : (x : Placed N) (a : Shell N) (i : Option (InitialTree N)) → Keeps (array_of limits env x a i)
  array_of-kept x a None s done loops = refl
  array_of-kept x a (Some i) s done loops = array_of_init-kept x a i.equals i.init s done loops

  declare_typed-kept : (x : Placed N) (type : Option (TypeTree N)) (i : Option (InitialTree N)) → Keeps (declare_typed limits env x type i)
  declare_typed-kept x (Some (ArrayType a)) i s done loops =
      with_value-kept (domain_of limits env a.from a.over s) _
      (λ d. unless-kept (too_large (ranges_in d)) (fault ArrayTooLarge x.at) _
      (array_of-kept x (record { over = declared_over a.over; kind = a.kind; ranges = ranges_in d }) i)) s done loops
  declare_typed-kept x _ i s done loops = declare_with-kept x _ _ i s done loops

  given_or-kept : (x : Placed N) (o : Option Value) (go : Run S) → Keeps go → Keeps (given_or limits env x o go)
  given_or-kept x None go p s done loops = p s done loops
  given_or-kept x (Some v) go p s done loops = refl

  declare_by-kept : (o : Option Place) (d : DeclareTree N) → Keeps (declare_by limits env o d)
  declare_by-kept None d s done loops = declare_typed-kept d.name (type_of d.typed) d.initial s done loops
  declare_by-kept (Some config) d s done loops =
      given_or-kept d.name (env.given d.name.name s) _ (declare_typed-kept d.name (type_of d.typed) d.initial) s done loops

  pub declare-kept : (d : DeclareTree N) → Keeps (declare limits env d)
  declare-kept d = declare_by-kept d.config d

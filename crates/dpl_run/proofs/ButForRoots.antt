-- Each part of a statement does the same in states that are the same but for their roots.
-- Two environments keep variables by their names, and deal roots each in its own way; no part asks which.
use Rattle.std.proofs.Common.{◌≡◌, ℕ, ◌+◌, pos, Bool, true, false, ◌&&◌, nat_lt, List, [], ◌∷◌, ◌++◌, map, refl, sym, ap, ◌∙◌, subst, Some, None, Option}
use Rattle.std.specs.Prelude.{unwrap_or}
use mathlib.Core.Path.{fun_ext}
use Rattle.dpl_syntax.specs.declared.place.Place.{Place}
use Rattle.dpl_sets.specs.TextRanges.{TextRange}
use Rattle.dpl_history.specs.declared.cell.CellState.{CellState}
use Rattle.dpl_history.specs.declared.cell.CellState.TheVariants.{Empty, Full}
use Rattle.dpl_history.specs.declared.cell.CellOp.{CellOp}
use Rattle.dpl_history.specs.declared.cell.CellOp.TheVariants.{Reset}
use Rattle.dpl_history.specs.declared.cell.Reply.{Reply}
use Rattle.dpl_history.specs.declared.history.Event.{Event}
use Rattle.dpl_history.specs.Cells.{effect}
use Rattle.dpl_language.specs.Tree.{Placed, Kind, AssignTree, ExprTree, ItemTree, One, Items, Exprs, TypeTree, ScalarType, SyncType, DomainType, ArrayType, ArrayTypeTree, InitTree, ItemInit, CreateInit, InitialTree, DeclareTree, ArgumentTree, TextArgument, ExprArgument, WriteTree, VariablesTree, OneVariable, ManyVariables, TargetTree, Whole, Element, CallTree, ReadCall, ResetCall, WriteCall}
use Rattle.dpl_language.specs.Values.{Value, Int, Domain, Index, default, ranges_in, index_of, array_domain, is_domain, cell_kind, kept_number, fault, Budget, ArrayTooLarge}
use Rattle.dpl_language.specs.Distributions.{Root}
use Rattle.dpl_language.specs.Arithmetic.{assigned, assign_divides, tested_divisor}
use Rattle.dpl_language.specs.Ranges.{indices_in, size_in, loop_value, too_large, empty_domain}
use Rattle.dpl_language.specs.Printing.{printed_array}
use Rattle.dpl_language.specs.Outcome.{Deeds, Solo, no_deeds, with_operation, with_entered, Done, Run, unless}
use Rattle.dpl_language.specs.Environment.{Content, Plain, CellOf, Answer, Replied, Unanswered, Environment, Limits}
use Rattle.dpl_language.specs.Phrases.{ReadTree, item_read, read_op, write_op, bare_name, declared_over, parts}
use Rattle.dpl_language.specs.Expressions.{found, value_of, item_of, values_of, whole_item, domain_of}
use Rattle.dpl_language.specs.Loops.{within_budget, scoped, declare_each, bound_to, turn_of}
use Rattle.dpl_language.specs.Assignments.{reply_value, and_no_more, answered, called, read_or, evaluated, change, assign_array, assign_domain, assign_plain, assign_name, assign, cell_call}
use Rattle.dpl_language.specs.Declarations.{gathered, filled, Shell, array_with, type_of, declaring, initial_then, declare_with, array_of_item, array_of_init, array_of, declare_array, declare_typed, given_or, declare_by, declare}
use Rattle.dpl_language.specs.Writing.{arguments_of, name_shown, shown, arguments_then, write}
use Rattle.dpl_language.specs.Tasks.{replies_of, solo_of, first_fault, solos, tasks_end, tasks_of}
use Rattle.dpl_language.specs.Names.{Text, State, state_in, look_up, effect_on, call_in, by_name}
use Rattle.dpl_agreement.specs.Agreement.{AnswersAlike, EndsAlike, RunAlike}
use Rattle.dpl_agreement.proofs.RunsAlike.{All-every, then_do-alike, with_value-alike, unless-alike, named_turn-alike, within_budget-alike, solo_of-alike, stop_or-alike}
use Rattle.dpl_run.specs.Unmapped.{bare}
use Rattle.dpl_run.proofs.SeenAlike.{SeenAlike, value_of-seen, item_of-seen, values_of-seen, whole_item-seen, domain_of-seen}

-- variables by their names, and roots dealt in some way that leaves all else as it is
abbrev pub dealing : (Text → Root → State → State) → Environment Text State
dealing deal = record by_name { deal = deal }

abbrev pub KeepsRest : (Text → Root → State → State) → Type 0
KeepsRest deal = (x : Text) (root : Root) (s : State) → bare (deal x root s) ≡ bare s

-- the same state but for roots, and runs that do the same from such states
abbrev pub Alike : State → State → Type 0
Alike s u = bare s ≡ bare u

abbrev pub SameRun : Run State → Run State → Type 0
SameRun a b = RunAlike Alike Alike a b

-- AN OPERATION ON A CELL is answered by the store and the replies alone
abbrev bare_answer : Answer State → Answer State
bare_answer (Replied c r s) = Replied c r (bare s)
bare_answer (Unanswered c) = Unanswered c

effect_on-bare : (x : Text) (s : State) (o : Option (CellState × Reply)) → bare_answer (effect_on x (bare s) o) ≡ bare_answer (effect_on x s o)
effect_on-bare x s None = refl
effect_on-bare x s (Some a) = refl

call_in-bare : (x : Text) (op : CellOp) (s : State) (o : Option (List Reply)) → bare_answer (call_in x op (bare s) o) ≡ bare_answer (call_in x op s o)
call_in-bare x op s None = effect_on-bare x s (effect op (state_in (look_up x s.store)))
call_in-bare x op s (Some []) = refl
call_in-bare x op s (Some (r ∷ rs)) = refl

answers-alike : (a b : Answer State) → bare_answer a ≡ bare_answer b → AnswersAlike Alike a b
answers-alike (Replied c r s) (Replied d q u) e =
    let state : bare s ≡ bare u = cc in
    let same : Replied d q u ≡ Replied c r u = cc in
    (u, state, same)
answers-alike (Replied c r s) (Unanswered d) e = absurd cc
answers-alike (Unanswered c) (Replied d q u) e = absurd cc
answers-alike (Unanswered c) (Unanswered d) e = sym e

pub call-alike : (x : Text) (op : CellOp) (s u : State) → Alike s u → AnswersAlike Alike (by_name.call x op s) (by_name.call x op u)
call-alike x op s u r =
    answers-alike (by_name.call x op s) (by_name.call x op u)
    (sym (call_in-bare x op s s.replies) ∙ ap (λ s. bare_answer (by_name.call x op s)) r ∙ call_in-bare x op u u.replies)

module _ (limits : Limits) (deal other : Text → Root → State → State) where
  abbrev first : Environment Text State
  first = dealing deal

  abbrev second : Environment Text State
  second = dealing other

  -- VALUES
  seen : (s u : State) → Alike s u → SeenAlike first second s u
  seen s u r = record { gets = λ x. ap (by_name.get x) r; elements = λ x t. ap (by_name.element x t) r; heres = ap by_name.here r }

  pub value-alike : (e : ExprTree Text) (t : Option Index) (s u : State) → Alike s u → value_of limits first e t s ≡ value_of limits second e t u
  value-alike e t s u r = value_of-seen limits first second s u (seen s u r) e t

  pub item-alike : (item : ItemTree Text) (t : Option Index) (s u : State) → Alike s u → item_of limits first item t s ≡ item_of limits second item t u
  item-alike item t s u r = item_of-seen limits first second s u (seen s u r) item t

  values-alike : (es : Exprs Text) (s u : State) → Alike s u → values_of limits first es s ≡ values_of limits second es u
  values-alike es s u r = values_of-seen limits first second s u (seen s u r) es

  whole-alike : (item : ItemTree Text) (s u : State) → Alike s u → whole_item limits first item s ≡ whole_item limits second item u
  whole-alike item s u r = whole_item-seen limits first second s u (seen s u r) item

  domain-alike : (from : Place) (items : Items Text) (s u : State) → Alike s u → domain_of limits first from items s ≡ domain_of limits second from items u
  domain-alike from items s u r = domain_of-seen limits first second s u (seen s u r) from items

  -- SCOPES, TURNS AND TASKS
  pub scoped-alike : (a b : Run State) → SameRun a b → SameRun (scoped first a) (scoped second b)
  scoped-alike a b p s u done r =
      then_do-alike Alike Alike (a (by_name.enter s) done) (b (by_name.enter u) done) _ _
      (p (by_name.enter s) (by_name.enter u) done (ap (λ s. bare (by_name.enter s)) r))
      (λ v w done q. (by_name.leave w, ap (λ s. bare (by_name.leave s)) q, refl))

  declare_each-alike : (xs : List (Placed Text)) (t : Index) (s u : State) → Alike s u → Alike (declare_each first xs t s) (declare_each second xs t u)
  declare_each-alike [] t s u r = r
  declare_each-alike (x ∷ xs) [] s u r = declare_each-alike xs [] _ _ (ap (λ s. bare (by_name.declare x.name (Plain (Int (pos 0))) s)) r)
  declare_each-alike (x ∷ xs) (i ∷ t) s u r = declare_each-alike xs t _ _ (ap (λ s. bare (by_name.declare x.name (Plain (Int i)) s)) r)

  bound_to-alike : (xs : VariablesTree Text) (over : Value) (t : Index) (s u : State) → Alike s u → Alike (bound_to first xs over t s) (bound_to second xs over t u)
  bound_to-alike (OneVariable x) over t s u r = ap (λ s. bare (by_name.declare x.name (Plain (loop_value over t)) s)) r
  bound_to-alike (ManyVariables from xs upto) over t s u r = declare_each-alike (parts xs) t s u r

  pub turn_of-alike : (xs : VariablesTree Text) (over : Value) (a b : Run State) → SameRun a b → (t : Index) → SameRun (turn_of first xs over a t) (turn_of second xs over b t)
  turn_of-alike xs over a b p t =
      scoped-alike _ _ (λ s u done r. scoped-alike a b p (bound_to first xs over t s) (bound_to second xs over t u) done (bound_to-alike xs over t s u r))

  pub turns-alike : (at : Place) (rs : List TextRange) (a b : Index → Run State) → ((t : Index) → SameRun (a t) (b t)) → SameRun (within_budget limits at rs a) (within_budget limits at rs b)
  turns-alike at rs a b p = within_budget-alike limits at rs Alike a b (All-every (λ t. SameRun (a t) (b t)) p (indices_in rs))

  solos-alike : (h : List Event) (a b : Index → Run State) → ((t : Index) → SameRun (a t) (b t)) → (n : ℕ) (ts : List Index) (s u : State) → Alike s u → solos first h a n ts s ≡ solos second h b n ts u
  solos-alike h a b p n [] s u r = refl
  solos-alike h a b p n (t ∷ ts) s u r =
      ap (λ (x : Solo). x ∷ solos first h a (n + 1) ts s)
      (solo_of-alike Alike (a t (by_name.begin (replies_of n h) s) no_deeds) (b t (by_name.begin (replies_of n h) u) no_deeds)
      (p t (by_name.begin (replies_of n h) s) (by_name.begin (replies_of n h) u) no_deeds (ap (λ s. bare (by_name.begin (replies_of n h) s)) r)))
      ∙ ap (λ xs. solo_of (b t (by_name.begin (replies_of n h) u) no_deeds) ∷ xs) (solos-alike h a b p (n + 1) ts s u r)

  tasks_end-alike : (x : Text) (cs : List CellState) (h : List Event) (tasks : List Solo) → SameRun (tasks_end first x cs h tasks) (tasks_end second x cs h tasks)
  tasks_end-alike x cs h tasks s u done r =
      stop_or-alike (first_fault 0 tasks) Alike Alike _ _ (λ s u done r. (by_name.settle x h u, ap (λ s. bare (by_name.settle x h s)) r, refl)) s u
      (with_entered (record { cells = cs; tasks = tasks; history = h }) done) r

  pub tasks_of-alike : (x : Text) (a b : Index → Run State) → ((t : Index) → SameRun (a t) (b t)) → (ts : List Index) → SameRun (tasks_of first x a ts) (tasks_of second x b ts)
  tasks_of-alike x a b p ts s u done r =
      subst (λ o. EndsAlike Alike (tasks_of first x a ts s done) o)
      (ap (λ cs. tasks_end second x cs (by_name.history s) (solos first (by_name.history s) a 0 ts s) u done) (ap (by_name.cells x) r)
      ∙ ap (λ tasks. tasks_end second x (by_name.cells x u) (by_name.history s) tasks u done) (solos-alike (by_name.history s) a b p 0 ts s u r)
      ∙ ap (λ h. tasks_end second x (by_name.cells x u) h (solos second h b 0 ts u) u done) (ap by_name.history r))
      (tasks_end-alike x (by_name.cells x s) (by_name.history s) (solos first (by_name.history s) a 0 ts s) s u done r)

  -- RIGHT SIDES: a cell read as a whole, or an expression
  answered-alike : (x : Placed Text) (op : CellOp) (k : Kind) (go next : Value → Run State) → ((v : Value) → SameRun (go v) (next v)) → (a b : Answer State) (done : Deeds)
      → AnswersAlike Alike a b → EndsAlike Alike (answered limits first x op k go a done) (answered limits second x op k next b done)
  answered-alike x op k go next p (Replied c r s) b done al =
      subst (λ b. EndsAlike Alike (go (reply_value k r) s (with_operation c op r done)) (answered limits second x op k next b done)) (sym al.2)
      (p (reply_value k r) s al.0 (with_operation c op r done) al.1)
  answered-alike x op k go next p (Unanswered c) b done al = ap (λ b. answered limits second x op k next b done) al

  called-alike : (x : Placed Text) (op : CellOp) (go next : Value → Run State) → ((v : Value) → SameRun (go v) (next v)) → SameRun (called limits first x op go) (called limits second x op next)
  called-alike x op go next p s u done r =
      subst (λ k. EndsAlike Alike (called limits first x op go s done) (answered limits second x op k next (by_name.call x.name op u) done)) (ap (λ s. cell_kind (by_name.get x.name s)) r)
      (answered-alike x op (cell_kind (by_name.get x.name s)) go next p (by_name.call x.name op s) (by_name.call x.name op u) done (call-alike x.name op s u r))

  read_or-alike : (o : Option (ReadTree Text)) (item : ItemTree Text) (go next : Value → Run State) → ((v : Value) → SameRun (go v) (next v)) → SameRun (read_or limits first o item go) (read_or limits second o item next)
  read_or-alike None item go next p = λ s u done r. with_value-alike Alike _ _ go next s u done (item-alike item None s u r) (λ v. p v s u done r)
  read_or-alike (Some c) item go next p = called-alike c.name c.op go next p

  evaluated-alike : (item : ItemTree Text) (go next : Value → Run State) → ((v : Value) → SameRun (go v) (next v)) → SameRun (evaluated limits first item go) (evaluated limits second item next)
  evaluated-alike item go next p = read_or-alike (item_read item) item go next p

  -- ASSIGNMENTS
  change-alike : (x : Placed Text) (sign : AssignTree) (t : Index) (w : Value) → SameRun (change limits first x sign t w) (change limits second x sign t w)
  change-alike x sign t w s u done r =
      with_value-alike Alike _ _ _ _ s u done (ap (λ s. found x.at (by_name.element x.name t s)) r)
      (λ old. with_value-alike Alike (tested_divisor (assign_divides sign.op) sign.at w) _ _ _ s u done refl
      (λ w. (by_name.put_element x.name t (assigned sign.op None old w) u, ap (λ s. bare (by_name.put_element x.name t (assigned sign.op None old w) s)) r, refl)))

  assign_array-alike : (x : Placed Text) (sign : AssignTree) (item : ItemTree Text) (rs : List TextRange) (o : Option (List TextRange)) → SameRun (assign_array limits first x sign item rs o) (assign_array limits second x sign item rs o)
  assign_array-alike x sign item rs None =
      evaluated-alike item _ _ (λ w. turns-alike sign.at rs _ _ (named_turn-alike Alike _ _ (λ t. change-alike x sign t w)))
  assign_array-alike x sign item rs (Some arrays) =
      turns-alike sign.at rs _ _
      (named_turn-alike Alike _ _ (λ t s u done r. with_value-alike Alike _ _ _ _ s u done (item-alike item (Some t) s u r) (λ w. change-alike x sign t w s u done r)))

  assign_domain-alike : (x : Placed Text) (item : ItemTree Text) → SameRun (assign_domain limits first x item) (assign_domain limits second x item)
  assign_domain-alike x item =
      evaluated-alike item _ _ (λ v s u done r.
      subst (λ b. EndsAlike Alike
      (unless (too_large (ranges_in v) && by_name.has_arrays x.name s) (fault ArrayTooLarge x.at) (λ s done. Done (by_name.redomain x.name (ranges_in v) s) done) s done)
      (unless (too_large (ranges_in v) && b) (fault ArrayTooLarge x.at) (λ s done. Done (by_name.redomain x.name (ranges_in v) s) done) u done))
      (ap (by_name.has_arrays x.name) r)
      (unless-alike (too_large (ranges_in v) && by_name.has_arrays x.name s) (fault ArrayTooLarge x.at) Alike Alike _ _
      (λ s u done r. (by_name.redomain x.name (ranges_in v) u, ap (λ s. bare (by_name.redomain x.name (ranges_in v) s)) r, refl)) s u done r))

  assign_plain-alike : (x : Placed Text) (sign : AssignTree) (item : ItemTree Text) → SameRun (assign_plain limits first x sign item) (assign_plain limits second x sign item)
  assign_plain-alike x sign item =
      evaluated-alike item _ _ (λ v s u done r.
      with_value-alike Alike (tested_divisor (assign_divides sign.op) sign.at v) _ _ _ s u done refl
      (λ w. (by_name.update x.name sign.op w u, ap (λ s. bare (by_name.update x.name sign.op w s)) r, refl)))

  assign_name-alike : (x : Placed Text) (sign : AssignTree) (item : ItemTree Text) (o : Option (List TextRange)) (b : Bool) → SameRun (assign_name limits first x sign item o b) (assign_name limits second x sign item o b)
  assign_name-alike x sign item (Some rs) b = λ s u done r.
      subst (λ o. EndsAlike Alike (assign_array limits first x sign item rs (whole_item limits first item s) s done) (assign_array limits second x sign item rs o u done)) (whole-alike item s u r)
      (assign_array-alike x sign item rs (whole_item limits first item s) s u done r)
  assign_name-alike x sign item None true = assign_domain-alike x item
  assign_name-alike x sign item None false = assign_plain-alike x sign item

  pub assign-alike : (target : TargetTree Text) (sign : AssignTree) (item : ItemTree Text) → SameRun (assign limits first target sign item) (assign limits second target sign item)
  assign-alike (Whole x) sign item = λ s u done r.
      subst (λ v. EndsAlike Alike (assign limits first (Whole x) sign item s done) (assign_name limits second x sign item (array_domain v) (is_domain v) u done)) (ap (by_name.get x.name) r)
      (assign_name-alike x sign item (array_domain (by_name.get x.name s)) (is_domain (by_name.get x.name s)) s u done r)
  assign-alike (Element x shape from es upto) sign item =
      evaluated-alike item _ _ (λ w s u done r. with_value-alike Alike _ _ _ _ s u done (values-alike es s u r) (λ is. change-alike x sign (index_of is) w s u done r))

  -- A CELL'S CALL
  no_more-alike : (v : Value) → SameRun (and_no_more v) (and_no_more v)
  no_more-alike v s u done r = (u, r, refl)

  pub cell_call-alike : (x : Placed Text) (call : CallTree Text) → SameRun (cell_call limits first x call) (cell_call limits second x call)
  cell_call-alike x (ReadCall at w from upto) = called-alike x (read_op w) and_no_more and_no_more no_more-alike
  cell_call-alike x (ResetCall at from upto) = called-alike x Reset and_no_more and_no_more no_more-alike
  cell_call-alike x (WriteCall at w from e upto) = λ s u done r.
      with_value-alike Alike _ _ _ _ s u done (value-alike e None s u r) (λ v. called-alike x (write_op w (kept_number v)) and_no_more and_no_more no_more-alike s u done r)

  -- A WRITE
  name_shown-alike : (x : Placed Text) (v : Value) (o : Option (List TextRange)) (s u : State) → Alike s u → name_shown limits first x v o s ≡ name_shown limits second x v o u
  name_shown-alike x v None s u r = refl
  name_shown-alike x v (Some rs) s u r = ap (λ s. printed_array rs (map (λ t. unwrap_or (by_name.element x.name t s) (Int (pos 0))) (indices_in rs))) r

  shown-alike : (o : Option (Placed Text)) (v : Value) (s u : State) → Alike s u → shown limits first o v s ≡ shown limits second o v u
  shown-alike None v s u r = refl
  shown-alike (Some x) v s u r = name_shown-alike x v (array_domain v) s u r

  arguments_then-alike : (xs : List (ArgumentTree Text)) (text : List ℕ) (go : List ℕ → Run State) → ((text : List ℕ) → SameRun (go text) (go text))
      → SameRun (arguments_then limits first xs text go) (arguments_then limits second xs text go)
  arguments_then-alike [] text go p = p text
  arguments_then-alike (TextArgument at cs ∷ rest) text go p = arguments_then-alike rest (text ++ cs) go p
  arguments_then-alike (ExprArgument e ∷ rest) text go p =
      evaluated-alike (One e) _ _ (λ v s u done r.
      subst (λ more. EndsAlike Alike (arguments_then limits first rest (text ++ shown limits first (bare_name e) v s) go s done) (arguments_then limits second rest (text ++ more) go u done))
      (shown-alike (bare_name e) v s u r) (arguments_then-alike rest (text ++ shown limits first (bare_name e) v s) go p s u done r))

  pub write-alike : (w : WriteTree Text) → SameRun (write limits first w) (write limits second w)
  write-alike w = arguments_then-alike (arguments_of w.arguments) [] _ (λ text s u done r. (u, r, refl))

  -- DECLARATIONS
  declaring-alike : (x : Placed Text) (c : Content Text) → SameRun (declaring limits first x c) (declaring limits second x c)
  declaring-alike x c s u done r = (by_name.declare x.name c u, ap (λ s. bare (by_name.declare x.name c s)) r, refl)

  initial_then-alike : (i : InitTree Text) (go next : Value → Run State) → ((v : Value) → SameRun (go v) (next v)) → SameRun (initial_then limits first i go) (initial_then limits second i next)
  initial_then-alike (ItemInit item mapped) go next p = evaluated-alike item go next p
  initial_then-alike (CreateInit c) go next p = λ s u done r. with_value-alike Alike _ _ go next s u done (domain-alike c.from c.items s u r) (λ v. p v s u done r)

  declare_with-alike : (x : Placed Text) (c : Content Text) (make : Value → Content Text) (i : Option (InitialTree Text)) → SameRun (declare_with limits first x c make i) (declare_with limits second x c make i)
  declare_with-alike x c make None = declaring-alike x c
  declare_with-alike x c make (Some i) = initial_then-alike i.init _ _ (λ v. declaring-alike x (make v))

  array_of_item-alike : (x : Placed Text) (a : Shell Text) (at : Place) (item : ItemTree Text) (o : Option (List TextRange)) → SameRun (array_of_item limits first x a at item o) (array_of_item limits second x a at item o)
  array_of_item-alike x a at item None =
      evaluated-alike item _ _ (λ v. unless-alike (nat_lt limits.budget (size_in a.ranges)) (fault Budget at) Alike Alike _ _ (declaring-alike x (array_with a (filled v a.ranges))))
  array_of_item-alike x a at item (Some arrays) =
      unless-alike (nat_lt limits.budget (size_in a.ranges)) (fault Budget at) Alike Alike _ _
      (λ s u done r. with_value-alike Alike _ _ _ _ s u done (ap (λ value. gathered value (indices_in a.ranges)) (fun_ext (λ t. item-alike item (Some t) s u r)))
      (λ vs. declaring-alike x (array_with a vs) s u done r))

  array_of_init-alike : (x : Placed Text) (a : Shell Text) (at : Place) (i : InitTree Text) → SameRun (array_of_init limits first x a at i) (array_of_init limits second x a at i)
  array_of_init-alike x a at (ItemInit item mapped) = λ s u done r.
      subst (λ o. EndsAlike Alike (array_of_item limits first x a at item (whole_item limits first item s) s done) (array_of_item limits second x a at item o u done)) (whole-alike item s u r)
      (array_of_item-alike x a at item (whole_item limits first item s) s u done r)
  array_of_init-alike x a at (CreateInit c) = declaring-alike x (array_with a (filled (default a.kind) a.ranges))

  array_of-alike : (x : Placed Text) (a : Shell Text) (i : Option (InitialTree Text)) → SameRun (array_of limits first x a i) (array_of limits second x a i)
  array_of-alike x a None = declaring-alike x (array_with a (filled (default a.kind) a.ranges))
  array_of-alike x a (Some i) = array_of_init-alike x a i.equals i.init

  declare_array-alike : (x : Placed Text) (a : ArrayTypeTree Text) (i : Option (InitialTree Text)) → SameRun (declare_array limits first x a i) (declare_array limits second x a i)
  declare_array-alike x a i s u done r =
      with_value-alike Alike _ _ _ _ s u done (domain-alike a.from a.over s u r)
      (λ v. unless-alike (too_large (ranges_in v)) (fault ArrayTooLarge x.at) Alike Alike _ _
      (array_of-alike x (record { over = declared_over a.over; kind = a.kind; ranges = ranges_in v }) i) s u done r)

  declare_typed-alike : (x : Placed Text) (type : Option (TypeTree Text)) (i : Option (InitialTree Text)) → SameRun (declare_typed limits first x type i) (declare_typed limits second x type i)
  declare_typed-alike x None i = declare_with-alike x (Plain (Int (pos 0))) (λ v. Plain v) i
  declare_typed-alike x (Some (ScalarType at k)) i = declare_with-alike x (Plain (default k)) (λ v. Plain v) i
  declare_typed-alike x (Some (SyncType at kind_at k)) i = declare_with-alike x (CellOf k Empty) (λ v. CellOf k (Full (kept_number v))) i
  declare_typed-alike x (Some (DomainType d)) i = declare_with-alike x (Plain (Domain (empty_domain d.rank))) (λ v. Plain v) i
  declare_typed-alike x (Some (ArrayType a)) i = declare_array-alike x a i

  given_or-alike : (x : Placed Text) (o : Option Value) (a b : Run State) → SameRun a b → SameRun (given_or limits first x o a) (given_or limits second x o b)
  given_or-alike x None a b p = p
  given_or-alike x (Some v) a b p = declaring-alike x (Plain v)

  declare_by-alike : (config : Option Place) (d : DeclareTree Text) → SameRun (declare_by limits first config d) (declare_by limits second config d)
  declare_by-alike None d = declare_typed-alike d.name (type_of d.typed) d.initial
  declare_by-alike (Some config) d = λ s u done r.
      subst (λ o. EndsAlike Alike (declare_by limits first (Some config) d s done) (given_or limits second d.name o (declare_typed limits second d.name (type_of d.typed) d.initial) u done))
      (ap (by_name.given d.name.name) r)
      (given_or-alike d.name (by_name.given d.name.name s) _ _ (declare_typed-alike d.name (type_of d.typed) d.initial) s u done r)

  pub declare-alike : (d : DeclareTree Text) → SameRun (declare limits first d) (declare limits second d)
  declare-alike d = declare_by-alike d.config d

-- Statements without the words of tasks do the same whatever the number of locales, and no variable becomes `Locales`.
-- One lemma for each form, over any way to keep variables that holds no `Locales`.
use Rattle.std.proofs.Common.{◌≡◌, ℕ, pos, List, [], ◌∷◌, ◌++◌, refl, sym, ap, ◌∙◌, subst, Ok, Err, Some, None, Result, Option, Bool, true, false, nat_lt, map}
use Rattle.std.specs.Prelude.{All, ◌&&◌, IfOk, IfSome}
use Rattle.std.specs.Ordering.{int_eq}
use Rattle.std.proofs.lemmas.List.Elements.{All-nil, All-cons, All-map}
use Rattle.dpl_syntax.specs.declared.place.Place.{Place}
use Rattle.dpl_history.specs.declared.cell.CellOp.{CellOp}
use Rattle.dpl_history.specs.declared.cell.CellOp.TheVariants.{Reset}
use Rattle.dpl_history.specs.declared.cell.Reply.{Reply}
use Rattle.dpl_history.specs.declared.cell.Reply.TheVariants.{Value as Given, Done as NoValue}
use Rattle.dpl_sets.specs.TextRanges.{TextRange}
use Rattle.dpl_language.specs.Tree.{Placed, AfterComma, Listed, Op, Kind, IntKind, BoolKind, Assign, Set, SetReduce, AssignTree, ExprTree, ItemTree, One, Exprs, TypeTree, ScalarType, SyncType, DomainType, ArrayType, ArrayTypeTree, InitTree, ItemInit, CreateInit, TypedTree, InitialTree, DeclareTree, ArgumentTree, TextArgument, ExprArgument, WriteTree, WithTree, VariablesTree, OneVariable, ManyVariables, TargetTree, Whole, Element, CallTree, ReadCall, ResetCall, WriteCall}
use Rattle.dpl_language.specs.Tree.{LoopWord, ForWord, ForallWord, CoforallWord, StmtTree, Nothing, Declare, Assigned, Call, Write, Block, If, Headed, Loop, Body, WordBody, BlockBody, Stmts, NoStmts, Then, Else, NoElse, ElseDo}
use Rattle.dpl_language.specs.Values.{Value, Int, Domain, AllLocales, Index, number, index_of, ranges_in, array_domain, is_domain, cell_kind, kept_number, default, Fault, fault, Budget, ZeroDivisor, ArrayTooLarge}
use Rattle.dpl_language.specs.Arithmetic.{assigned, assign_divides, tested_divisor}
use Rattle.dpl_language.specs.Ranges.{indices_in, size_in, too_large, empty_domain, loop_ranges, index_value, loop_value}
use Rattle.dpl_language.specs.Outcome.{Deeds, Outcome, Done, Stop, Waits, Run, with_operation, with_text, with_value, naming_value}
use Rattle.dpl_language.specs.Environment.{Content, Plain, Answer, Replied, Unanswered, Environment, Limits}
use Rattle.dpl_language.specs.Phrases.{parts, bare_name, ReadTree, item_read, read_op, write_op, declared_over, intents_of}
use Rattle.dpl_language.specs.Expressions.{found, value_of, item_of, values_of, whole_item, domain_of}
use Rattle.dpl_language.specs.Loops.{within_budget, named_turn, scoped, declare_each, bound_to, turn_of}
use Rattle.dpl_language.specs.Assignments.{reply_value, and_no_more, answered, called, read_or, evaluated, change, assign_array, assign_domain, assign_plain, assign_name, assign_element, assign, cell_call}
use Rattle.dpl_language.specs.Declarations.{gathered, filled, Shell, array_with, type_of, declaring, initial_then, declare_with, array_of_item, array_of_init, array_of, declare_array, declare_typed, given_or, declare_by}
use Rattle.dpl_language.specs.Roots.{dealt}
use Rattle.dpl_language.specs.Writing.{line_end, arguments_of, shown, arguments_then, write}
use Rattle.dpl_language.specs.Statements.{holds, looped, exec, exec_body, exec_all, exec_else}
use Rattle.dpl_agreement.specs.Untasked.{UntaskedIf, UntaskedOthers, UntaskedList, UntaskedExpr, UntaskedItem, UntaskedItems, UntaskedExprs, UntaskedType, UntaskedInit, UntaskedTyped, UntaskedInitial, UntaskedDeclare, UntaskedArgument, UntaskedWrite, UntaskedTarget, UntaskedCall, UntaskedHead, UntaskedLoop, UntaskedStmt, UntaskedBody, UntaskedStmts, UntaskedElse}
use Rattle.dpl_agreement.specs.Agreement.{EndsAlike, RunAlike}
use Rattle.dpl_agreement.proofs.RunsAlike.{All-every, with_ok-same, then_do-alike, with_value-alike_by, choose-alike, unless-alike, named_turn-alike, within_budget-alike, headed-alike}
use Rattle.dpl_agreement.proofs.UntaskedValues.{NotLocales, NoLocalesIn, HoldsBehind, HoldsNoLocales, combined-free, tested-free, found-free, SameOk, SameFree, with_ok-of, value_of-free, item_of-free, values_of-same, domain_of-free}
use Rattle.dpl_agreement.proofs.UntaskedRoots.{dealt-same, dealt-free}

-- WHAT IS STORED
pub assigned-free : (op : Assign) (intent : Option Op) (old v : Value) → NotLocales v → NotLocales (assigned op intent old v)
assigned-free Set intent old v h = h
assigned-free SetReduce None old v h = h
assigned-free SetReduce (Some op) old v h = combined-free op old v
assigned-free _ intent old v h = tt

pub default-free : (k : Kind) → NotLocales (default k)
default-free IntKind = tt
default-free BoolKind = tt

reply-free : (k : Kind) (r : Reply) → NotLocales (reply_value k r)
reply-free IntKind (Given z) = tt
reply-free BoolKind (Given z) = tt
reply-free IntKind NoValue = tt
reply-free BoolKind NoValue = tt

filled-free : (v : Value) (rs : List TextRange) → NotLocales v → All NotLocales (filled v rs)
filled-free v rs h = All-map NotLocales (λ t. v) (indices_in rs) (All-every (λ t. NotLocales v) (λ t. h) (indices_in rs))

naming-free : (t : Index) (a b : Result Value Fault) → SameFree a b → SameFree (naming_value t a) (naming_value t b)
naming-free t (Ok v) b e = (ap (naming_value t) e.0, e.1)
naming-free t (Err f) b e = (ap (naming_value t) e.0, tt)

gathered-free : (a b : Index → Result Value Fault) (ts : List Index) → ((t : Index) → SameFree (a t) (b t)) → SameOk (All NotLocales) (gathered a ts) (gathered b ts)
gathered-free a b [] p = (refl, All-nil NotLocales)
gathered-free a b (t ∷ ts) p =
    with_ok-of NotLocales (All NotLocales) _ _ _ _ (naming-free t (a t) (b t) (p t))
    (λ v h. with_ok-of (All NotLocales) (All NotLocales) _ _ _ _ (gathered-free a b ts p) (λ vs hs. (refl, All-cons NotLocales v vs h hs)))

-- LOOPS: what one runs over is by the number of locales only where it is `Locales`
loop_ranges-same : (l m : ℕ) (v : Value) → NotLocales v → loop_ranges l v ≡ loop_ranges m v
loop_ranges-same l m AllLocales h = absurd h
loop_ranges-same l m _ h = refl

index_value-free : (t : Index) → NotLocales (index_value t)
index_value-free [] = tt
index_value-free (i ∷ []) = tt
index_value-free (i ∷ j ∷ is) = tt

loop_value-free : (over : Value) (t : Index) → NotLocales (loop_value over t)
loop_value-free AllLocales t = tt
loop_value-free _ t = index_value-free t

-- PARTS
abbrev UntaskedEach : {A : Type 0} → (A → Type 0) → List A → Type 0
UntaskedEach P [] = Unit {0}
UntaskedEach P (x ∷ xs) = P x × UntaskedEach P xs

others-untasked : {A : Type 0} (P : A → Type 0) (xs : List (AfterComma A)) → UntaskedOthers P xs → UntaskedEach P (map {A = AfterComma A} {B = A} (λ x. x.part) xs)
others-untasked P [] u = tt
others-untasked P (x ∷ xs) u = (u.0, others-untasked P xs u.1)

arguments-untasked : {N : Type 0} (o : Option (Listed (ArgumentTree N))) → UntaskedIf (UntaskedList UntaskedArgument) o → UntaskedEach UntaskedArgument (arguments_of o)
arguments-untasked None u = tt
arguments-untasked (Some xs) u = (u.0, others-untasked UntaskedArgument xs.others u.1)

type-untasked : {N : Type 0} (o : Option (TypedTree N)) → UntaskedIf UntaskedTyped o → UntaskedIf UntaskedType (type_of o)
type-untasked None u = tt
type-untasked (Some t) u = u

module _ {N S : Type 0} (budget l m : ℕ) (env : Environment N S) (P : S → Type 0) (laws : HoldsNoLocales env P) where
  -- two numbers of locales
  abbrev one : Limits
  one = record { budget = budget; locales = l }

  abbrev other : Limits
  other = record { budget = budget; locales = m }

  -- one state, of which P holds; and two runs that end alike from each such state, in such a state
  abbrev pub Kept : S → S → Type 0
  Kept s1 s2 = P s1 × (s1 ≡ s2)

  abbrev pub Alike : Run S → Run S → Type 0
  Alike = RunAlike Kept Kept

  from_one : (a b : Run S) → ((s : S) (done : Deeds) → P s → EndsAlike Kept (a s done) (b s done)) → Alike a b
  from_one a b p s1 s2 done r = subst (λ s. EndsAlike Kept (a s1 done) (b s done)) r.1 (p s1 done r.0)

  -- a step
  step : (f : S → S) → ((s : S) → P s → P (f s)) → Alike (λ s done. Done (f s) done) (λ s done. Done (f s) done)
  step f p s1 s2 done r = (f s2, (p s1 r.0, ap f r.1), refl)

  with_value-of : {A : Type 0} (Q : A → Type 0) (a b : S → Result A Fault) (f h : A → Run S) → ((s : S) → P s → SameOk Q (a s) (b s)) → ((v : A) → Q v → Alike (f v) (h v))
      → Alike (λ s done. with_value (a s) f s done) (λ s done. with_value (b s) h s done)
  with_value-of Q a b f h e p =
      from_one _ _ (λ s done k. with_value-alike_by Kept (a s) (b s) f h s s done (e s k).0
      (λ v is. p v (subst (λ r. IfOk r Q) ((e s k).0 ∙ is) (e s k).1) s s done (k, refl)))

  -- the same, where nothing is asked of the value
  with_value-any : {A : Type 0} (a b : S → Result A Fault) (f h : A → Run S) → ((s : S) → P s → a s ≡ b s) → ((v : A) → Alike (f v) (h v))
      → Alike (λ s done. with_value (a s) f s done) (λ s done. with_value (b s) h s done)
  with_value-any a b f h e p =
      from_one _ _ (λ s done k. with_value-alike_by Kept (a s) (b s) f h s s done (e s k) (λ v is. p v s s done (k, refl)))

  -- SCOPES AND TURNS
  scoped-same : (a b : Run S) → Alike a b → Alike (scoped env a) (scoped env b)
  scoped-same a b p s1 s2 done r =
      then_do-alike Kept Kept _ _ _ _ (p (env.enter s1) (env.enter s2) done (laws.enters s1 r.0, ap env.enter r.1)) (step env.leave laws.leaves)

  declare_each-kept : (xs : List (Placed N)) (t : Index) (s : S) → P s → P (declare_each env xs t s)
  declare_each-kept [] t s k = k
  declare_each-kept (x ∷ xs) [] s k = declare_each-kept xs [] _ (laws.declares x.name (Plain (Int (pos 0))) s k tt)
  declare_each-kept (x ∷ xs) (i ∷ t) s k = declare_each-kept xs t _ (laws.declares x.name (Plain (Int i)) s k tt)

  bound_to-kept : (xs : VariablesTree N) (over : Value) (t : Index) (s : S) → P s → P (bound_to env xs over t s)
  bound_to-kept (OneVariable x) over t s k = laws.declares x.name (Plain (loop_value over t)) s k (loop_value-free over t)
  bound_to-kept (ManyVariables from xs upto) over t s k = declare_each-kept (parts xs) t s k

  turn_of-same : (xs : VariablesTree N) (over : Value) (a b : Run S) → Alike a b → (t : Index) → Alike (turn_of env xs over a t) (turn_of env xs over b t)
  turn_of-same xs over a b p t =
      scoped-same _ _ (λ s1 s2 done r. scoped-same a b p _ _ done (bound_to-kept xs over t s1 r.0, ap (bound_to env xs over t) r.1))

  -- a loop's turns, over what it runs over by each number of locales
  turns-same : (at : Place) (v : Value) (a b : Index → Run S) → NotLocales v → ((t : Index) → Alike (a t) (b t)) → Alike (within_budget one at (loop_ranges l v) a) (within_budget other at (loop_ranges m v) b)
  turns-same at v a b h p =
      subst (λ rs. Alike (within_budget one at (loop_ranges l v) a) (within_budget other at rs b)) (loop_ranges-same l m v h)
      (within_budget-alike one at (loop_ranges l v) Kept a b (All-every (λ t. Alike (a t) (b t)) p (indices_in (loop_ranges l v))))

  named_turns-same : (at : Place) (rs : List TextRange) (a b : Index → Run S) → ((t : Index) → Alike (a t) (b t)) → Alike (within_budget one at rs (named_turn a)) (within_budget other at rs (named_turn b))
  named_turns-same at rs a b p =
      within_budget-alike one at rs Kept (named_turn a) (named_turn b)
      (All-every (λ t. Alike (named_turn a t) (named_turn b t)) (named_turn-alike Kept a b p) (indices_in rs))

  -- RIGHT SIDES
  answered-same : (x : Placed N) (op : CellOp) (kind : Kind) (f h : Value → Run S) → ((v : Value) → NotLocales v → Alike (f v) (h v)) → (a : Answer S) (done : Deeds) → HoldsBehind P a
      → EndsAlike Kept (answered one env x op kind f a done) (answered other env x op kind h a done)
  answered-same x op kind f h p (Replied c r s) done k = p (reply_value kind r) (reply-free kind r) s s (with_operation c op r done) (k, refl)
  answered-same x op kind f h p (Unanswered c) done k = refl

  called-same : (x : Placed N) (op : CellOp) (f h : Value → Run S) → ((v : Value) → NotLocales v → Alike (f v) (h v)) → Alike (called one env x op f) (called other env x op h)
  called-same x op f h p = from_one _ _ (λ s done k. answered-same x op (cell_kind (env.get x.name s)) f h p (env.call x.name op s) done (laws.calls x.name op s k))

  read_or-same : (o : Option (ReadTree N)) (item : ItemTree N) (f h : Value → Run S) → UntaskedItem item → ((v : Value) → NotLocales v → Alike (f v) (h v)) → Alike (read_or one env o item f) (read_or other env o item h)
  read_or-same None item f h u p =
      with_value-of NotLocales (λ s. item_of one env item None s) (λ s. item_of other env item None s) f h (λ s k. item_of-free budget l m env P laws item None s u k) p
  read_or-same (Some r) item f h u p = called-same r.name r.op f h p

  evaluated-same : (item : ItemTree N) (f h : Value → Run S) → UntaskedItem item → ((v : Value) → NotLocales v → Alike (f v) (h v)) → Alike (evaluated one env item f) (evaluated other env item h)
  evaluated-same item f h u p = read_or-same (item_read item) item f h u p

  -- ASSIGNMENTS
  -- a right side that is no wrong divisor, and a step with it
  divided-same : (op : Assign) (at : Place) (w : Value) (f : Value → S → S) → NotLocales w → ((v : Value) (s : S) → P s → NotLocales v → P (f v s))
      → Alike (with_value (tested_divisor (assign_divides op) at w) (λ v s done. Done (f v s) done)) (with_value (tested_divisor (assign_divides op) at w) (λ v s done. Done (f v s) done))
  divided-same op at w f h p =
      with_value-of NotLocales (λ s. tested_divisor (assign_divides op) at w) (λ s. tested_divisor (assign_divides op) at w) _ _
      (λ s k. (refl, tested-free (assign_divides op && int_eq (number w) (pos 0)) (fault ZeroDivisor at) w h)) (λ v e. step (f v) (λ s k. p v s k e))

  change-same : (x : Placed N) (sign : AssignTree) (t : Index) (w : Value) → NotLocales w → Alike (change one env x sign t w) (change other env x sign t w)
  change-same x sign t w h =
      with_value-of NotLocales (λ s. found x.at (env.element x.name t s)) (λ s. found x.at (env.element x.name t s)) _ _
      (λ s k. (refl, found-free x.at (env.element x.name t s) (laws.elements x.name t s k)))
      (λ old e. divided-same sign.op sign.at w (λ v. env.put_element x.name t (assigned sign.op None old v)) h
      (λ v s k e. laws.puts x.name t (assigned sign.op None old v) s k (assigned-free sign.op None old v e)))

  assign_array-same : (x : Placed N) (sign : AssignTree) (item : ItemTree N) (rs : List TextRange) (o : Option (List TextRange)) → UntaskedItem item
      → Alike (assign_array one env x sign item rs o) (assign_array other env x sign item rs o)
  assign_array-same x sign item rs None u = evaluated-same item _ _ u (λ w h. named_turns-same sign.at rs _ _ (λ t. change-same x sign t w h))
  assign_array-same x sign item rs (Some arrays) u =
      named_turns-same sign.at rs _ _
      (λ t. with_value-of NotLocales (λ s. item_of one env item (Some t) s) (λ s. item_of other env item (Some t) s) _ _
      (λ s k. item_of-free budget l m env P laws item (Some t) s u k) (change-same x sign t))

  assign_domain-same : (x : Placed N) (item : ItemTree N) → UntaskedItem item → Alike (assign_domain one env x item) (assign_domain other env x item)
  assign_domain-same x item u =
      evaluated-same item _ _ u (λ v h. from_one _ _ (λ s done k.
      unless-alike (too_large (ranges_in v) && env.has_arrays x.name s) (fault ArrayTooLarge x.at) Kept Kept _ _
      (step (env.redomain x.name (ranges_in v)) (laws.redomains x.name (ranges_in v))) s s done (k, refl)))

  assign_plain-same : (x : Placed N) (sign : AssignTree) (item : ItemTree N) → UntaskedItem item → Alike (assign_plain one env x sign item) (assign_plain other env x sign item)
  assign_plain-same x sign item u =
      evaluated-same item _ _ u (λ v h. divided-same sign.op sign.at v (λ w. env.update x.name sign.op w) h (laws.updates x.name sign.op))

  assign_name-same : (x : Placed N) (sign : AssignTree) (item : ItemTree N) (o : Option (List TextRange)) (b : Bool) → UntaskedItem item
      → Alike (assign_name one env x sign item o b) (assign_name other env x sign item o b)
  assign_name-same x sign item (Some rs) b u = from_one _ _ (λ s done k. assign_array-same x sign item rs (whole_item one env item s) u s s done (k, refl))
  assign_name-same x sign item None true u = assign_domain-same x item u
  assign_name-same x sign item None false u = assign_plain-same x sign item u

  assign_element-same : (x : Placed N) (sign : AssignTree) (item : ItemTree N) (es : Exprs N) → UntaskedItem item → UntaskedExprs es
      → Alike (assign_element one env x sign item es) (assign_element other env x sign item es)
  assign_element-same x sign item es u ues =
      evaluated-same item _ _ u (λ w h. with_value-any (λ s. values_of one env es s) (λ s. values_of other env es s) _ _
      (λ s k. values_of-same budget l m env P laws es s ues k) (λ is. change-same x sign (index_of is) w h))

  assign-same : (target : TargetTree N) (sign : AssignTree) (item : ItemTree N) → UntaskedTarget target × UntaskedItem item → Alike (assign one env target sign item) (assign other env target sign item)
  assign-same (Whole x) sign item u =
      from_one _ _ (λ s done k. assign_name-same x sign item (array_domain (env.get x.name s)) (is_domain (env.get x.name s)) u.1 s s done (k, refl))
  assign-same (Element x shape from es upto) sign item u = assign_element-same x sign item es u.1 u.0

  cell_call-same : (x : Placed N) (call : CallTree N) → UntaskedCall call → Alike (cell_call one env x call) (cell_call other env x call)
  cell_call-same x (ReadCall at w from upto) u = called-same x (read_op w) and_no_more and_no_more (λ v h. step (λ s. s) (λ s k. k))
  cell_call-same x (ResetCall at from upto) u = called-same x Reset and_no_more and_no_more (λ v h. step (λ s. s) (λ s k. k))
  cell_call-same x (WriteCall at w from e upto) u =
      with_value-of NotLocales (λ s. value_of one env e None s) (λ s. value_of other env e None s) _ _ (λ s k. value_of-free budget l m env P laws e None s u k)
      (λ v h. called-same x (write_op w (kept_number v)) and_no_more and_no_more (λ v h. step (λ s. s) (λ s k. k)))

  -- WRITES
  arguments_then-same : (xs : List (ArgumentTree N)) (text : List ℕ) (go : List ℕ → Run S) → UntaskedEach UntaskedArgument xs → ((text : List ℕ) → Alike (go text) (go text))
      → Alike (arguments_then one env xs text go) (arguments_then other env xs text go)
  arguments_then-same [] text go u p = p text
  arguments_then-same (TextArgument at cs ∷ rest) text go u p = arguments_then-same rest (text ++ cs) go u.1 p
  arguments_then-same (ExprArgument e ∷ rest) text go u p =
      evaluated-same (One e) _ _ u.0 (λ v h. from_one _ _ (λ s done k. arguments_then-same rest (text ++ shown one env (bare_name e) v s) go u.1 p s s done (k, refl)))

  write-same : (w : WriteTree N) → UntaskedWrite w → Alike (write one env w) (write other env w)
  write-same w u =
      arguments_then-same (arguments_of w.arguments) [] (λ text s done. Done s (with_text (text ++ line_end w.ends_line) done)) (arguments-untasked w.arguments u)
      (λ text s1 s2 done r. (s2, r, refl))

  -- DECLARATIONS
  declaring-same : (x : Placed N) (c : Content N) → NoLocalesIn c → Alike (declaring one env x c) (declaring other env x c)
  declaring-same x c h = step (env.declare x.name c) (λ s k. laws.declares x.name c s k h)

  initial_then-same : (i : InitTree N) (f h : Value → Run S) → UntaskedInit i → ((v : Value) → NotLocales v → Alike (f v) (h v)) → Alike (initial_then one env i f) (initial_then other env i h)
  initial_then-same (ItemInit item mapped) f h u p = evaluated-same item f h u.0 p
  initial_then-same (CreateInit c) f h u p =
      with_value-of NotLocales (λ s. domain_of one env c.from c.items s) (λ s. domain_of other env c.from c.items s) f h (λ s k. domain_of-free budget l m env P laws c.from c.items s u k) p

  declare_with-same : (x : Placed N) (c : Content N) (make : Value → Content N) (i : Option (InitialTree N)) → NoLocalesIn c → ((v : Value) → NotLocales v → NoLocalesIn (make v)) → UntaskedIf UntaskedInitial i
      → Alike (declare_with one env x c make i) (declare_with other env x c make i)
  declare_with-same x c make None h p u = declaring-same x c h
  declare_with-same x c make (Some i) h p u = initial_then-same i.init _ _ u (λ v e. declaring-same x (make v) (p v e))

  array_of_item-same : (x : Placed N) (a : Shell N) (at : Place) (item : ItemTree N) (o : Option (List TextRange)) → UntaskedItem item
      → Alike (array_of_item one env x a at item o) (array_of_item other env x a at item o)
  array_of_item-same x a at item None u =
      evaluated-same item _ _ u (λ v h. unless-alike (nat_lt budget (size_in a.ranges)) (fault Budget at) Kept Kept _ _
      (declaring-same x (array_with a (filled v a.ranges)) (filled-free v a.ranges h)))
  array_of_item-same x a at item (Some arrays) u =
      unless-alike (nat_lt budget (size_in a.ranges)) (fault Budget at) Kept Kept _ _
      (with_value-of (All NotLocales) (λ s. gathered (λ t. item_of one env item (Some t) s) (indices_in a.ranges)) (λ s. gathered (λ t. item_of other env item (Some t) s) (indices_in a.ranges)) _ _
      (λ s k. gathered-free _ _ (indices_in a.ranges) (λ t. item_of-free budget l m env P laws item (Some t) s u k))
      (λ vs h. declaring-same x (array_with a vs) h))

  -- an array of its kind's default
  default-same : (x : Placed N) (a : Shell N) → Alike (declaring one env x (array_with a (filled (default a.kind) a.ranges))) (declaring other env x (array_with a (filled (default a.kind) a.ranges)))
  default-same x a = declaring-same x (array_with a (filled (default a.kind) a.ranges)) (filled-free (default a.kind) a.ranges (default-free a.kind))

  array_of_init-same : (x : Placed N) (a : Shell N) (at : Place) (i : InitTree N) → UntaskedInit i → Alike (array_of_init one env x a at i) (array_of_init other env x a at i)
  array_of_init-same x a at (ItemInit item mapped) u = from_one _ _ (λ s done k. array_of_item-same x a at item (whole_item one env item s) u.0 s s done (k, refl))
  array_of_init-same x a at (CreateInit c) u = default-same x a

  array_of-same : (x : Placed N) (a : Shell N) (i : Option (InitialTree N)) → UntaskedIf UntaskedInitial i → Alike (array_of one env x a i) (array_of other env x a i)
  array_of-same x a None u = default-same x a
  array_of-same x a (Some i) u = array_of_init-same x a i.equals i.init u

  declare_array-same : (x : Placed N) (a : ArrayTypeTree N) (i : Option (InitialTree N)) → UntaskedItems a.over → UntaskedIf UntaskedInitial i → Alike (declare_array one env x a i) (declare_array other env x a i)
  declare_array-same x a i u v =
      with_value-of NotLocales (λ s. domain_of one env a.from a.over s) (λ s. domain_of other env a.from a.over s) _ _ (λ s k. domain_of-free budget l m env P laws a.from a.over s u k)
      (λ d h. unless-alike (too_large (ranges_in d)) (fault ArrayTooLarge x.at) Kept Kept _ _
      (array_of-same x (record { over = declared_over a.over; kind = a.kind; ranges = ranges_in d }) i v))

  declare_typed-same : (x : Placed N) (o : Option (TypeTree N)) (i : Option (InitialTree N)) → UntaskedIf UntaskedType o → UntaskedIf UntaskedInitial i → Alike (declare_typed one env x o i) (declare_typed other env x o i)
  declare_typed-same x None i u v = declare_with-same x (Plain (Int (pos 0))) (λ v. Plain v) i tt (λ v h. h) v
  declare_typed-same x (Some (ScalarType at k)) i u v = declare_with-same x (Plain (default k)) (λ v. Plain v) i (default-free k) (λ v h. h) v
  declare_typed-same x (Some (SyncType at kind_at k)) i u v = absurd u
  declare_typed-same x (Some (DomainType d)) i u v = declare_with-same x (Plain (Domain (empty_domain d.rank))) (λ v. Plain v) i tt (λ v h. h) v
  declare_typed-same x (Some (ArrayType a)) i u v = declare_array-same x a i u v

  given_or-same : (x : Placed N) (o : Option Value) (a b : Run S) → IfSome o NotLocales → Alike a b → Alike (given_or one env x o a) (given_or other env x o b)
  given_or-same x None a b h p = p
  given_or-same x (Some v) a b h p = declaring-same x (Plain v) h

  declare_by-same : (config : Option Place) (d : DeclareTree N) → UntaskedDeclare d → Alike (declare_by one env config d) (declare_by other env config d)
  declare_by-same None d u = declare_typed-same d.name (type_of d.typed) d.initial (type-untasked d.typed u.0) u.1
  declare_by-same (Some config) d u =
      from_one _ _ (λ s done k. given_or-same d.name (env.given d.name.name s) _ _ (laws.gives d.name.name s k)
      (declare_typed-same d.name (type_of d.typed) d.initial (type-untasked d.typed u.0) u.1) s s done (k, refl))

  dealt-alike : (d : DeclareTree N) (s : S) → UntaskedDeclare d → P s → Alike (λ after done. Done (dealt one env d s after) done) (λ after done. Done (dealt other env d s after) done)
  dealt-alike d s u k s1 s2 done r =
      (dealt other env d s s2, (dealt-free budget l m env P laws d s s1 r.0, dealt-same budget l m env P laws d s s1 u k ∙ ap (dealt other env d s) r.1), refl)

  -- STATEMENTS
  holds-same : (e : ExprTree N) (s : S) → UntaskedExpr e → P s → holds one env e s ≡ holds other env e s
  holds-same e s u k = with_ok-same _ _ _ _ (value_of-free budget l m env P laws e None s u k).0 (λ v. refl)

  -- by the word of a loop
  loop-same : (word : LoopWord) (at : Place) (xs : VariablesTree N) (intents : Option (WithTree N)) (v : Value) (a b : Index → Run S) → NotLocales v → UntaskedLoop word → ((t : Index) → Alike (a t) (b t))
      → Alike (looped one env word at xs intents (loop_ranges l v) a) (looped other env word at xs intents (loop_ranges m v) b)
  loop-same ForWord at xs intents v a b h w p = turns-same at v a b h p
  loop-same ForallWord at xs intents v a b h w p = λ s1 s2 done r. then_do-alike Kept Kept _ _ _ _
      (subst (λ noted. EndsAlike Kept
      (within_budget one at (loop_ranges l v) (named_turn a) (env.intend (intents_of intents) s1) (env.note at (loop_ranges l v) s1 done))
      (within_budget other at (loop_ranges m v) (named_turn b) (env.intend (intents_of intents) s2) noted))
      (ap (λ rs. env.note at rs s1 done) (loop_ranges-same l m v h) ∙ ap (λ s. env.note at (loop_ranges m v) s done) r.1)
      (turns-same at v _ _ h (named_turn-alike Kept _ _ p)
      (env.intend (intents_of intents) s1) (env.intend (intents_of intents) s2) (env.note at (loop_ranges l v) s1 done) (laws.intends (intents_of intents) s1 r.0, ap (env.intend (intents_of intents)) r.1)))
      (step (env.intend []) (laws.intends []))
  loop-same CoforallWord at xs intents v a b h w p = absurd w

  mutual
    exec-same : (t : StmtTree N) → UntaskedStmt t → Alike (exec one env t) (exec other env t)
    exec-same (Nothing at) u = step (λ s. s) (λ s k. k)
    exec-same (Declare d) u = from_one _ _ (λ s done k. then_do-alike Kept Kept _ _ _ _ (declare_by-same d.config d u s s done (k, refl)) (dealt-alike d s u k))
    exec-same (Assigned target sign item semicolon) u = assign-same target sign item u
    exec-same (Call x dot call semicolon) u = cell_call-same x call u
    exec-same (Write w) u = write-same w u
    exec-same (Block from body upto) u = scoped-same _ _ (exec_all-same body u)
    exec-same (If at e first second) u =
        with_value-any (λ s. holds one env e s) (λ s. holds other env e s) _ _ (λ s k. holds-same e s u.0 k)
        (λ b. choose-alike b Kept Kept _ _ _ _ (scoped-same _ _ (exec_body-same first u.1)) (exec_else-same second u.2))
    exec-same (Headed word at e body) u =
        headed-alike one other env env Kept word at e e _ _ refl (λ s1 s2 r. (value_of-free budget l m env P laws e None s1 u.0 r.0).0 ∙ ap (value_of other env e None) r.1)
        (scoped-same _ _ (exec_body-same body u.1)) (λ is. absurd (subst UntaskedHead is u.2))
    exec-same (Loop word at xs within item intents body) u =
        with_value-of NotLocales (λ s. item_of one env item None s) (λ s. item_of other env item None s) _ _ (λ s k. item_of-free budget l m env P laws item None s u.0 k)
        (λ v h. loop-same word at xs intents v _ _ h u.2 (turn_of-same xs v _ _ (exec_body-same body u.1)))

    exec_body-same : (b : Body N) → UntaskedBody b → Alike (exec_body one env b) (exec_body other env b)
    exec_body-same (WordBody at t) u = exec-same t u
    exec_body-same (BlockBody from ts upto) u = exec_all-same ts u

    pub exec_all-same : (ts : Stmts N) → UntaskedStmts ts → Alike (exec_all one env ts) (exec_all other env ts)
    exec_all-same NoStmts u = step (λ s. s) (λ s k. k)
    exec_all-same (Then t rest) u = λ s1 s2 done r. then_do-alike Kept Kept _ _ _ _ (exec-same t u.0 s1 s2 done r) (exec_all-same rest u.1)

    exec_else-same : (o : Else N) → UntaskedElse o → Alike (exec_else one env o) (exec_else other env o)
    exec_else-same NoElse u = step (λ s. s) (λ s k. k)
    exec_else-same (ElseDo at t) u = scoped-same _ _ (exec-same t u)

  -- so they are the same runs, from a state that holds no `Locales`
  ends-same : (a b : Outcome S) → EndsAlike Kept a b → a ≡ b
  ends-same (Done s done) b e = ap (λ s. Done s done) e.1.1 ∙ sym e.2
  ends-same (Stop f done) b e = sym e
  ends-same (Waits at c op done) b e = sym e

  pub run-same : (ts : Stmts N) (s : S) (done : Deeds) → UntaskedStmts ts → P s → exec_all one env ts s done ≡ exec_all other env ts s done
  run-same ts s done u k = ends-same _ _ (exec_all-same ts u s s done (k, refl))

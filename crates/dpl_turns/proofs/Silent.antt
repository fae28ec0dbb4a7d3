-- Silent statements are quiet runs.
use Rattle.std.proofs.Common.{◌≡◌, ℕ, pos, Bool, true, false, List, [], ◌∷◌, Option, Some, None, Result, Ok, Err, nat_lt, refl, sym, ap, ◌∙◌, subst}
use Rattle.std.specs.Prelude.{◌&&◌}
use Rattle.dpl_syntax.specs.declared.place.Place.{Place}
use Rattle.dpl_sets.specs.TextRanges.{TextRange}
use Rattle.dpl_language.specs.Tree.{Placed, AssignTree, ItemTree, TypeTree, ScalarType, SyncType, DomainType, ArrayType, InitTree, ItemInit, CreateInit, InitialTree, DeclareTree, VariablesTree, OneVariable, ManyVariables, TargetTree, Whole, Element, WhileWord, OnWord, ForWord, ForallWord, CoforallWord, StmtTree, Nothing, Declare, Assigned, Call, Write, Block, If, Headed, Loop, Body, WordBody, BlockBody, Stmts, NoStmts, Then, Else, NoElse, ElseDo}
use Rattle.dpl_language.specs.Values.{Value, Int, Index, index_of, ranges_in, array_domain, is_domain, Fault, fault, Budget, ArrayTooLarge, InTurn, in_the_turn, default}
use Rattle.dpl_language.specs.Arithmetic.{assign_divides, tested_divisor}
use Rattle.dpl_language.specs.Ranges.{indices_in, size_in, loop_ranges, loop_value, too_large}
use Rattle.dpl_language.specs.Outcome.{Deeds, Done, Run, with_value, choose, unless, in_order, naming}
use Rattle.dpl_language.specs.Environment.{Plain, Limits}
use Rattle.dpl_language.specs.Phrases.{item_read, parts}
use Rattle.dpl_language.specs.Expressions.{item_of, values_of, whole_item}
use Rattle.dpl_language.specs.Loops.{within_budget, named_turn, scoped, declare_each, bound_to, turn_of}
use Rattle.dpl_language.specs.Assignments.{read_or, evaluated, change, assign_array, assign_name, assign}
use Rattle.dpl_language.specs.Declarations.{type_of, declaring, initial_then, declare_with, declare_typed, declare_by, declare}
use Rattle.dpl_language.specs.Roots.{deal_by, dealt}
use Rattle.dpl_language.specs.Statements.{holds, exec, exec_body, exec_all, exec_else}
use Rattle.dpl_words.specs.Words.{IntLeaf, TruthLeaf, RangeLeaf, LocaleLeaf}
use Rattle.dpl_memory.specs.Memory.{VariableKind, PlainKind, DomainKind, TupleKind, CellKind, ArrayKind, Memory, rest_of, Variable, value_in, with_value_in, undealt, anew, declared, in_memory}
use Rattle.dpl_apart.specs.Workers.{worker_end}
use Rattle.dpl_turns.specs.Alongside.{KeepsRest, IsQuiet}
use Rattle.dpl_turns.specs.Bodies.{is_plain, ArePlain, HasPlain, IsScalar, IsSilentInit, IsSilentInitial, IsSilentDeclare, IsSilent, IsSilentBody, AreSilent, IsSilentElse}
use Rattle.dpl_turns.proofs.Quiet.{quiet-value, quiet-then, quiet-done, quiet-choose, quiet-unless, quiet-order, quiet-repeated, quiet-change, value-rest}

-- ---- what is no variable's
anew-rest : (along : List ℕ) (s : Memory) → rest_of (anew along s) ≡ rest_of s
anew-rest [] s = refl
anew-rest (slot ∷ slots) s = anew-rest slots s

undealt-rest : (k : VariableKind) (slot : ℕ) (s : Memory) → is_plain k ≡ true → rest_of (undealt k slot s) ≡ rest_of s
undealt-rest (PlainKind k) slot s plain = refl
undealt-rest DomainKind slot s plain = absurd cc
undealt-rest TupleKind slot s plain = refl
undealt-rest (ArrayKind k) slot s plain = absurd cc
undealt-rest (CellKind c) slot s plain = refl

pub declared-rest : (x : Variable) (v : Value) (s : Memory) → is_plain x.kind ≡ true → rest_of (declared x (Plain v) s) ≡ rest_of s
declared-rest x v s plain = undealt-rest x.kind x.slot (with_value_in x.kind x.slot v (anew x.along s)) plain ∙ value-rest x.kind x.slot v (anew x.along s) ∙ anew-rest x.along s

each-rest : (xs : List (Placed Variable)) (t : Index) (s : Memory) → ArePlain xs → rest_of (declare_each in_memory xs t s) ≡ rest_of s
each-rest [] t s plain = refl
each-rest (x ∷ xs) [] s plain = each-rest xs [] (declared x.name (Plain (Int (pos 0))) s) plain.1 ∙ declared-rest x.name (Int (pos 0)) s plain.0
each-rest (x ∷ xs) (i ∷ t) s plain = each-rest xs t (declared x.name (Plain (Int i)) s) plain.1 ∙ declared-rest x.name (Int i) s plain.0

pub bound-rest : (xs : VariablesTree Variable) (over : Value) (t : Index) (s : Memory) → HasPlain xs → rest_of (bound_to in_memory xs over t s) ≡ rest_of s
bound-rest (OneVariable x) over t s plain = declared-rest x.name (loop_value over t) s plain
bound-rest (ManyVariables from xs upto) over t s plain = each-rest (parts xs) t s plain

-- ---- loops
quiet-named : (turn : Index → Run Memory) (t : Index) → IsQuiet (turn t) → IsQuiet (named_turn turn t)
quiet-named turn t quiet s = by (quiet s).0 (quiet s).1 (quiet s).2 where
  by : (r : Result Memory Fault) → ((done : Deeds) → turn t s done ≡ worker_end r done) → KeepsRest s r
      → (e : Result Memory Fault) × ((done : Deeds) → naming t (turn t s done) ≡ worker_end e done) × KeepsRest s e
  by (Ok u) ends kept = (Ok u, (λ done. ap (naming t) (ends done)), kept)
  by (Err f) ends kept = (Err (in_the_turn (InTurn t) f), (λ done. ap (naming t) (ends done)), tt)

quiet-scoped : (body : Run Memory) → IsQuiet body → IsQuiet (scoped in_memory body)
quiet-scoped body quiet = quiet-then body (λ s done. Done s done) quiet (quiet-done (λ s. s) (λ s. refl))

pub quiet-bound : (xs : VariablesTree Variable) (over : Value) (t : Index) (body : Run Memory) → HasPlain xs → IsQuiet body → IsQuiet (λ s done. body (bound_to in_memory xs over t s) done)
quiet-bound xs over t body plain quiet =
    quiet-then (λ s done. Done (bound_to in_memory xs over t s) done) body (quiet-done (bound_to in_memory xs over t) (λ s. bound-rest xs over t s plain)) quiet

quiet-turn : (xs : VariablesTree Variable) (over : Value) (body : Run Memory) → HasPlain xs → IsQuiet body → (t : Index) → IsQuiet (turn_of in_memory xs over body t)
quiet-turn xs over body plain quiet t =
    quiet-scoped (λ s done. scoped in_memory body (bound_to in_memory xs over t s) done) (quiet-bound xs over t (scoped in_memory body) plain (quiet-scoped body quiet))

module _ (limits : Limits) where
  quiet-within : (at : Place) (rs : List TextRange) (turn : Index → Run Memory) → ((t : Index) → IsQuiet (turn t)) → IsQuiet (within_budget limits at rs turn)
  quiet-within at rs turn quiet = quiet-unless (nat_lt limits.budget (size_in rs)) (fault Budget at) (in_order turn (indices_in rs)) (quiet-order turn quiet (indices_in rs))

  -- ---- right sides
  quiet-evaluated : (item : ItemTree Variable) (go : Value → Run Memory) → item_read item ≡ None → ((v : Value) → IsQuiet (go v)) → IsQuiet (evaluated limits in_memory item go)
  quiet-evaluated item go unread quiet =
      subst (λ o. IsQuiet (read_or limits in_memory o item go)) (sym unread) (quiet-value (λ s. item_of limits in_memory item None s) go quiet)

  -- ---- assignments
  module _ (x : Placed Variable) (sign : AssignTree) (item : ItemTree Variable) (unread : item_read item ≡ None) where
    quiet-array : (rs : List TextRange) (o : Option (List TextRange)) → IsQuiet (assign_array limits in_memory x sign item rs o)
    quiet-array rs None =
        quiet-evaluated item (λ w. within_budget limits sign.at rs (named_turn (λ t. change limits in_memory x sign t w))) unread
        (λ w. quiet-within sign.at rs (named_turn (λ t. change limits in_memory x sign t w)) (λ t. quiet-named (λ t. change limits in_memory x sign t w) t (quiet-change limits x sign t w)))
    quiet-array rs (Some arrays) =
        let turn : Index → Run Memory = λ t s done. with_value (item_of limits in_memory item (Some t) s) (change limits in_memory x sign t) s done in
        quiet-within sign.at rs (named_turn turn) (λ t. quiet-named turn t (quiet-value (λ s. item_of limits in_memory item (Some t) s) (change limits in_memory x sign t) (quiet-change limits x sign t)))

    quiet-name : (o : Option (List TextRange)) (d : Bool) → IsQuiet (assign_name limits in_memory x sign item o d)
    quiet-name (Some rs) d s = quiet-array rs (whole_item limits in_memory item s) s
    quiet-name None true s =
        quiet-evaluated item
        (λ v s done. unless (too_large (ranges_in v) && in_memory.has_arrays x.name s) (fault ArrayTooLarge x.at) (λ s done. Done (in_memory.redomain x.name (ranges_in v) s) done) s done) unread
        (λ v s. quiet-unless (too_large (ranges_in v) && in_memory.has_arrays x.name s) (fault ArrayTooLarge x.at) (λ s done. Done (in_memory.redomain x.name (ranges_in v) s) done)
        (quiet-done (in_memory.redomain x.name (ranges_in v)) (λ s. value-rest x.name.kind x.name.slot _ s)) s) s
    quiet-name None false s =
        quiet-evaluated item (λ v. with_value (tested_divisor (assign_divides sign.op) sign.at v) (λ w s done. Done (in_memory.update x.name sign.op w s) done)) unread
        (λ v. quiet-value (λ s. tested_divisor (assign_divides sign.op) sign.at v) (λ w s done. Done (in_memory.update x.name sign.op w s) done)
        (λ w. quiet-done (in_memory.update x.name sign.op w) (λ s. value-rest x.name.kind x.name.slot _ s))) s

  quiet-assign : (target : TargetTree Variable) (sign : AssignTree) (item : ItemTree Variable) → item_read item ≡ None → IsQuiet (assign limits in_memory target sign item)
  quiet-assign (Whole x) sign item unread s = quiet-name x sign item unread (array_domain (in_memory.get x.name s)) (is_domain (in_memory.get x.name s)) s
  quiet-assign (Element x shape from es upto) sign item unread s =
      quiet-evaluated item (λ w s done. with_value (values_of limits in_memory es s) (λ is. change limits in_memory x sign (index_of is) w) s done) unread
      (λ w. quiet-value (values_of limits in_memory es) (λ is. change limits in_memory x sign (index_of is) w) (λ is. quiet-change limits x sign (index_of is) w)) s

  -- ---- declarations
  quiet-with : (x : Placed Variable) (v : Value) (initial : Option (InitialTree Variable)) → is_plain x.name.kind ≡ true → IsSilentInitial initial → IsQuiet (declare_with limits in_memory x (Plain v) (λ v. Plain v) initial)
  quiet-with x v None plain silent = quiet-done (declared x.name (Plain v)) (λ s. declared-rest x.name v s plain)
  quiet-with x v (Some i) plain silent = by i.init silent where
    by : (init : InitTree Variable) → IsSilentInit init → IsQuiet (initial_then limits in_memory init (λ v. declaring limits in_memory x (Plain v)))
    by (ItemInit item mapped) unread =
        quiet-evaluated item (λ v. declaring limits in_memory x (Plain v)) unread (λ v. quiet-done (declared x.name (Plain v)) (λ s. declared-rest x.name v s plain))
    by (CreateInit c) silent = absurd silent

  quiet-typed : (x : Placed Variable) (type : Option (TypeTree Variable)) (initial : Option (InitialTree Variable)) → is_plain x.name.kind ≡ true → IsScalar type → IsSilentInitial initial
      → IsQuiet (declare_typed limits in_memory x type initial)
  quiet-typed x None initial plain scalar silent = quiet-with x (Int (pos 0)) initial plain silent
  quiet-typed x (Some (ScalarType at k)) initial plain scalar silent = quiet-with x (default k) initial plain silent
  quiet-typed x (Some (SyncType at kind_at k)) initial plain scalar silent = absurd scalar
  quiet-typed x (Some (DomainType d)) initial plain scalar silent = absurd scalar
  quiet-typed x (Some (ArrayType a)) initial plain scalar silent = absurd scalar

  -- a plain variable has no root
  undistributed : (type : Option (TypeTree Variable)) (i : Option (InitialTree Variable)) (x : Variable) (k : VariableKind) (slot : ℕ) (s after : Memory) → is_plain k ≡ true → IsScalar type
      → deal_by limits in_memory type i x (value_in k slot after) s after ≡ after
  undistributed None i x (PlainKind IntLeaf) slot s after plain scalar = refl
  undistributed None i x (PlainKind TruthLeaf) slot s after plain scalar = refl
  undistributed None i x (PlainKind RangeLeaf) slot s after plain scalar = refl
  undistributed None i x (PlainKind LocaleLeaf) slot s after plain scalar = refl
  undistributed None i x DomainKind slot s after plain scalar = absurd cc
  undistributed None i x TupleKind slot s after plain scalar = refl
  undistributed None i x (ArrayKind k) slot s after plain scalar = absurd cc
  undistributed None i x (CellKind c) slot s after plain scalar = refl
  undistributed (Some (ScalarType at kind)) i x (PlainKind IntLeaf) slot s after plain scalar = refl
  undistributed (Some (ScalarType at kind)) i x (PlainKind TruthLeaf) slot s after plain scalar = refl
  undistributed (Some (ScalarType at kind)) i x (PlainKind RangeLeaf) slot s after plain scalar = refl
  undistributed (Some (ScalarType at kind)) i x (PlainKind LocaleLeaf) slot s after plain scalar = refl
  undistributed (Some (ScalarType at kind)) i x DomainKind slot s after plain scalar = absurd cc
  undistributed (Some (ScalarType at kind)) i x TupleKind slot s after plain scalar = refl
  undistributed (Some (ScalarType at kind)) i x (ArrayKind k) slot s after plain scalar = absurd cc
  undistributed (Some (ScalarType at kind)) i x (CellKind c) slot s after plain scalar = refl
  undistributed (Some (SyncType at kind_at kind)) i x k slot s after plain scalar = absurd scalar
  undistributed (Some (DomainType d)) i x k slot s after plain scalar = absurd scalar
  undistributed (Some (ArrayType a)) i x k slot s after plain scalar = absurd scalar

  quiet-declare : (d : DeclareTree Variable) → IsSilentDeclare d → IsQuiet (exec limits in_memory (Declare d))
  quiet-declare d silent s =
      quiet-then (declare limits in_memory d) (λ after done. Done (dealt limits in_memory d s after) done)
      (subst (λ config. IsQuiet (declare_by limits in_memory config d)) (sym silent.0) (quiet-typed d.name (type_of d.typed) d.initial silent.1 silent.2 silent.3))
      (quiet-done (dealt limits in_memory d s) (λ after. ap rest_of (undistributed (type_of d.typed) d.initial d.name.name d.name.name.kind d.name.name.slot s after silent.1 silent.2))) s

  -- ---- statements
  mutual
    pub quiet-exec : (t : StmtTree Variable) → IsSilent t → IsQuiet (exec limits in_memory t)
    quiet-exec (Nothing at) silent = quiet-done (λ s. s) (λ s. refl)
    quiet-exec (Declare d) silent = quiet-declare d silent
    quiet-exec (Assigned target sign item semicolon) silent = quiet-assign target sign item silent
    quiet-exec (Call x dot call semicolon) silent = absurd silent
    quiet-exec (Write w) silent = absurd silent
    quiet-exec (Block from body upto) silent = quiet-scoped (exec_all limits in_memory body) (quiet-exec_all body silent)
    quiet-exec (If at e a b) silent =
        quiet-value (holds limits in_memory e) (λ c. choose c (scoped in_memory (exec_body limits in_memory a)) (exec_else limits in_memory b))
        (λ c. quiet-choose c (scoped in_memory (exec_body limits in_memory a)) (exec_else limits in_memory b) (quiet-scoped (exec_body limits in_memory a) (quiet-exec_body a silent.0)) (quiet-exec_else b silent.1))
    quiet-exec (Headed WhileWord at e body) silent = quiet-repeated limits.budget at (holds limits in_memory e) (scoped in_memory (exec_body limits in_memory body)) (quiet-scoped (exec_body limits in_memory body) (quiet-exec_body body silent.0))
    quiet-exec (Headed OnWord at e body) silent = absurd silent.1
    quiet-exec (Loop ForWord at xs within item intents body) silent =
        quiet-value (λ s. item_of limits in_memory item None s) (λ v. within_budget limits at (loop_ranges limits.locales v) (turn_of in_memory xs v (exec_body limits in_memory body)))
        (λ v. quiet-within at (loop_ranges limits.locales v) (turn_of in_memory xs v (exec_body limits in_memory body)) (quiet-turn xs v (exec_body limits in_memory body) silent.0 (quiet-exec_body body silent.1)))
    quiet-exec (Loop ForallWord at xs within item intents body) silent = absurd silent.2
    quiet-exec (Loop CoforallWord at xs within item intents body) silent = absurd silent.2

    quiet-exec_body : (b : Body Variable) → IsSilentBody b → IsQuiet (exec_body limits in_memory b)
    quiet-exec_body (WordBody at t) silent = quiet-exec t silent
    quiet-exec_body (BlockBody from ts upto) silent = quiet-exec_all ts silent

    pub quiet-exec_all : (ts : Stmts Variable) → AreSilent ts → IsQuiet (exec_all limits in_memory ts)
    quiet-exec_all NoStmts silent = quiet-done (λ s. s) (λ s. refl)
    quiet-exec_all (Then t rest) silent = quiet-then (exec limits in_memory t) (exec_all limits in_memory rest) (quiet-exec t silent.0) (quiet-exec_all rest silent.1)

    quiet-exec_else : (o : Else Variable) → IsSilentElse o → IsQuiet (exec_else limits in_memory o)
    quiet-exec_else NoElse silent = quiet-done (λ s. s) (λ s. refl)
    quiet-exec_else (ElseDo at t) silent = quiet-scoped (exec limits in_memory t) (quiet-exec t silent)

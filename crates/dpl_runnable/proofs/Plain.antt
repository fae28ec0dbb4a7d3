-- Programs that run are plain: what is in sight is known where each statement stands, its parts are simple, their names are found and
-- their places are near. So the walk over such a program makes its steps.
use Rattle.std.proofs.Common.{◌≡◌, ℕ, true, List, [], ◌∷◌, Option, Some, None, is_some, refl, sym, ap, ◌∙◌, subst}
use Rattle.std.proofs.lemmas.Option.{none-some}
use Rattle.dpl_syntax.specs.declared.place.Place.{Place}
use Rattle.dpl_language.specs.Tree.{Op, WithTree, Assign, SetReduce, Kind, IntKind, BoolKind, ExprTree, ItemTree, VariablesTree, TypeTree, ScalarType, SyncType, DomainType, ArrayType, MappedTree, InitTree, ItemInit, CreateInit, InitialTree, DeclareTree}
use Rattle.dpl_language.specs.Tree.{ArgumentTree, TextArgument, ExprArgument, Whole, Element, OnWord, LoopWord, ForWord, ForallWord, CoforallWord, StmtTree, Nothing, Declare, Assigned, Call, Write, Block, If, Headed, Loop, Body, WordBody, BlockBody, Stmts, NoStmts, Then, Else, NoElse, ElseDo}
use Rattle.dpl_language.specs.Names.{Text}
use Rattle.dpl_language.specs.Writing.{arguments_of}
use Rattle.dpl_language.specs.Declarations.{type_of as written_type}
use Rattle.dpl_language.specs.Roots.{type_map}
use Rattle.dpl_language.specs.Spelled.{SaysType}
use Rattle.dpl_agreement.specs.Untasked.{UntaskedLoop}
use Rattle.dpl_agreement.specs.Scopes.{init_map, initial_map}
use Rattle.dpl_rules.specs.Types.{ValueType, Scalar, has, is_any_scalar}
use Rattle.dpl_rules.specs.Sights.{Scopes, lookup, type_declared, enter}
use Rattle.dpl_rules.specs.Loops.{in_loop, behind}
use Rattle.dpl_scopes.specs.Slots.{slot_in}
use Rattle.dpl_scopes.proofs.Slots.{slot_in-lookup}
use Rattle.dpl_memory.specs.Memory.{VariableKind, DomainKind, TupleKind, ArrayKind}
use Rattle.dpl_memory.specs.Resolved.{Bound, Start}
use Rattle.dpl_typed.specs.Leaves.{value_kind, kind_by, kind_in, type_in, IsFound}
use Rattle.dpl_nodes.specs.Spots.{IsNear}
use Rattle.dpl_bound.specs.Sights.{AreKnownScopes}
use Rattle.dpl_assignments.specs.Plain.{IsReducible}
use Rattle.dpl_declarations.specs.Plain.{IsSimpleMapped, IsPlainType, IsPlainInit, IsPlainInitial, IsOpen, IsPlain as IsPlainDeclare}
use Rattle.dpl_heads.specs.Plain.{HasSeveral, IsPlainExpr, IsPlainHead}
use Rattle.dpl_prints.specs.Plain.{IsPlainArgument, ArePlainArguments}
use Rattle.dpl_checker.specs.Plain.{IsPlainStmt, IsPlainBody, ArePlainStmts, IsPlainElse}
use Rattle.dpl_runnable.specs.Kinds.{IsScalarKind}
use Rattle.dpl_runnable.specs.Runnable.{IsExprOf, IsRunnableType, IsFoundType, IsInitOf, IsInitialOf, IsFoundMap, IsRunnableDeclare, IsReducedBy, IsRunnableArgument, AreRunnableArguments, IsRunnableHeader, reduced_in, IsRunnableStmt, IsRunnableBody, AreRunnableStmts, IsRunnableElse, IsRunnableTop, AreRunnableTops}
use Rattle.dpl_runnable.specs.Written.{IsWrittenStmt, IsWrittenBody, AreWrittenStmts, IsWrittenElse, IsWrittenTop, AreWrittenTops}
use Rattle.dpl_runnable.specs.InSight.{AreOpen}
use Rattle.dpl_runnable.proofs.Kept.{kind-cases, kind-same, kind_if-some}
use Rattle.dpl_runnable.proofs.Scoped.{open-known}
use Rattle.dpl_runnable.proofs.Resolving.{stmt-open, top-open, loop-open}

-- ---- names: one that has a kind is in sight
found : (ss : Scopes) (x : Text) (k : VariableKind) → kind_in ss x ≡ Some k → IsFound ss x
found ss x k kind = by (lookup ss x) refl
  where
    slot : (o : Option ℕ) → is_some o ≡ true → (slot : ℕ) × (o ≡ Some slot)
    slot None e = absurd cc
    slot (Some n) e = (n, refl)

    by : (o : _) → lookup ss x ≡ o → IsFound ss x
    by None e = absurd (none-some k (sym (ap (λ o. kind_by (type_declared o)) e) ∙ kind))
    by (Some d) e = let at = slot (slot_in ss x) (slot_in-lookup ss x ∙ ap is_some e) in (k, at.0, kind, at.1)

-- ---- declarations
module _ (ss : Scopes) where
  mapped-simple : (o : Option (MappedTree Text)) → IsFoundMap ss o → IsSimpleMapped ss o
  mapped-simple None h = tt
  mapped-simple (Some m) h = h

  type-plain : (o : Option (TypeTree Text)) → IsRunnableType ss o → IsFoundType ss o → IsFoundMap ss (type_map o) → IsPlainType ss o
  type-plain None r f m = tt
  type-plain (Some (ScalarType at k)) r f m = tt
  type-plain (Some (SyncType at kind_at k)) r f m = absurd r
  type-plain (Some (DomainType d)) r f m = mapped-simple d.mapped m
  type-plain (Some (ArrayType a)) r f m = (f, r.0, r.1)

  init-plain : (i : InitTree Text) (k : VariableKind) → IsInitOf ss i k → IsFoundMap ss (init_map i) → IsPlainInit ss i
  init-plain (ItemInit item mapped) k r m = (r.1.found, r.1.near, mapped-simple mapped m)
  init-plain (CreateInit c) k r m = (r.0.found, r.0.near, r.0.from)

  initial-plain : (t : Option (TypeTree Text)) (i : Option (InitialTree Text)) (k : VariableKind) → IsInitialOf ss t i k → IsFoundMap ss (initial_map i) → IsPlainInitial ss i
  initial-plain t None k r m = tt
  initial-plain t (Some i) k r m = (init-plain i.init k r.0 m, r.1)

  -- a type or an initial value is written
  says : (t : Option (TypeTree Text)) (i : Option (InitialTree Text)) (k : VariableKind) → IsInitialOf ss t i k → SaysType t i
  says None None k r = absurd r
  says None (Some i) k r = tt
  says (Some t) i k r = tt

open-is : (ss : Scopes) → AreOpen ss → IsOpen ss
open-is [] h = absurd h
open-is (s ∷ ss) h = tt

declare-plain : (ss : Scopes) (d : DeclareTree Text) → AreOpen ss → IsRunnableDeclare ss d → IsPlainDeclare ss d
declare-plain ss d h r = record {
  known = open-known ss h;
  inside = open-is ss h;
  says = says ss (written_type d.typed) d.initial r.kind r.initial;
  near = r.near;
  type = type-plain ss (written_type d.typed) r.type r.over r.found.0;
  initial = initial-plain ss (written_type d.typed) d.initial r.kind r.initial r.found.1;
}

-- ---- assignments: what `reduce=` is to is an int or a truth value
scalar : (l : Kind) → is_any_scalar (Scalar l) ≡ true
scalar IntKind = refl
scalar BoolKind = refl

scalar-any : (t : ValueType) (k : VariableKind) → value_kind t ≡ Some k → IsScalarKind k → is_any_scalar t ≡ true
scalar-any t k e h = kind-cases (λ t. value_kind t ≡ Some k → is_any_scalar t ≡ true) (λ l e. scalar l) (λ s e. absurd (subst IsScalarKind (sym (kind-same _ k e)) h)) (λ rank s r e. absurd (subst IsScalarKind (sym (kind_if-some _ DomainKind k e).1) h))
    (λ l over r e. absurd (subst IsScalarKind (sym (kind_if-some _ (ArrayKind l) k e).1) h)) (λ l over r e. absurd (subst IsScalarKind (sym (kind_if-some _ (ArrayKind l) k e).1) h))
    (λ rank r e. absurd (subst IsScalarKind (sym (kind_if-some _ TupleKind k e).1) h)) t k e e

reducible-type : (o : Option ValueType) (k : VariableKind) → kind_by o ≡ Some k → IsScalarKind k → has is_any_scalar o ≡ true
reducible-type None k e h = absurd (none-some k e)
reducible-type (Some t) k e h = scalar-any t k e h

reducible : (ss : Scopes) (is : List (Bound × Op)) (x : Text) (op : Assign) (k : VariableKind) → kind_in ss x ≡ Some k → IsReducedBy ss is x op k → IsReducible op (type_in ss x)
reducible ss is x SetReduce k e h = reducible-type (type_in ss x) k e h.1
reducible ss is x _ k e h = tt

-- ---- heads
expr-plain : (ss : Scopes) (e : ExprTree Text) (k : VariableKind) → AreKnownScopes ss → IsExprOf ss e k → IsPlainExpr ss e
expr-plain ss e k known h = record { known = known; simple = h.found; near = h.near }

head-plain : (ss : Scopes) (xs : VariablesTree Text) (item : ItemTree Text) → AreKnownScopes ss → IsRunnableHeader ss xs item → HasSeveral xs → IsPlainHead ss xs item
head-plain ss xs item known r several = record { known = known; simple = r.over.found; near = r.over.near; several = several }

-- ---- prints
argument-plain : (ss : Scopes) (a : ArgumentTree Text) → IsRunnableArgument ss a → IsPlainArgument ss a
argument-plain ss (TextArgument at cs) r = tt
argument-plain ss (ExprArgument e) r = (r.expr.found, r.expr.near)

arguments-plain : (ss : Scopes) (xs : List (ArgumentTree Text)) → AreRunnableArguments ss xs → ArePlainArguments ss xs
arguments-plain ss [] r = tt
arguments-plain ss (a ∷ rest) r = (argument-plain ss a r.0, arguments-plain ss rest r.1)

-- ---- STATEMENTS
-- what is in sight in a loop is the same whatever a run begins with
no_start : Start
no_start = record { slots = 0; cells = 0; texts = []; words = []; histories = None }

-- a loop that runs without tasks
loop-plain : (ss : Scopes) (word : LoopWord) (at : Place) (xs : VariablesTree Text) (within : Place) (item : ItemTree Text) (intents : Option (WithTree Text)) (body : Body Text) → UntaskedLoop word
    → IsNear at → IsPlainHead ss xs item → IsPlainBody (in_loop ss word xs item) body → IsPlainStmt ss (Loop word at xs within item intents body)
loop-plain ss ForWord at xs within item intents body untasked near head inner = (near, head, inner)
loop-plain ss ForallWord at xs within item intents body untasked near head inner = (near, head, inner)
loop-plain ss CoforallWord at xs within item intents body untasked near head inner = absurd untasked

mutual
  stmt-plain : (t : StmtTree Text) (ss : Scopes) (is : List (Bound × Op)) → AreOpen ss → IsRunnableStmt ss is t → IsWrittenStmt t → IsPlainStmt ss t
  stmt-plain (Nothing at) ss is h r w = tt
  stmt-plain (Declare d) ss is h r w = declare-plain ss d h r.1
  stmt-plain (Assigned (Whole x) sign item semicolon) ss is h r w = (
    record { known = open-known ss h; found = found ss x.name r.0.kind r.0.target; simple = r.0.item.found; near = r.0.item.near; named = r.2; signed = r.1 },
    reducible ss is x.name sign.op r.0.kind r.0.target r.0.reduced,
  )
  stmt-plain (Assigned (Element x shape from es upto) sign item semicolon) ss is h r w = (
    record { known = open-known ss h; found = found ss x.name _ r.0.target; simple = r.0.item.found; near = r.0.item.near; named = r.2; signed = r.1 },
    r.0.found,
    r.0.near,
  )
  stmt-plain (Call x dot call semicolon) ss is h r w = absurd r
  stmt-plain (Write wr) ss is h r w = (open-known ss h, arguments-plain ss (arguments_of wr.arguments) r)
  stmt-plain (Block from ts upto) ss is h r w = stmts-plain ts (enter ss) is (tt, open-known ss h) r w
  stmt-plain (If at e first second) ss is h r w = (
    expr-plain ss e _ (open-known ss h) r.0,
    body-plain first (enter ss) is (tt, open-known ss h) r.1 w.0,
    else-plain second ss is h r.2 w.1,
  )
  stmt-plain (Headed OnWord at e body) ss is h r w = absurd r.3
  stmt-plain (Headed _ at e body) ss is h r w = (r.2, expr-plain ss e _ (open-known ss h) r.0, body-plain body (enter ss) is (tt, open-known ss h) r.1 w)
  stmt-plain (Loop word at xs within item intents body) ss is h r w =
      loop-plain ss word at xs within item intents body r.3 r.2 (head-plain ss xs item (open-known ss h) r.0 w.0)
      (body-plain body (in_loop ss word xs item) (reduced_in ss is word intents) (loop-open no_start ss h word r.3 xs item r.0 is) r.1 w.1)

  body-plain : (b : Body Text) (ss : Scopes) (is : List (Bound × Op)) → AreOpen ss → IsRunnableBody ss is b → IsWrittenBody b → IsPlainBody ss b
  body-plain (WordBody at t) ss is h r w = stmt-plain t ss is h r w
  body-plain (BlockBody from ts upto) ss is h r w = stmts-plain ts ss is h r w

  stmts-plain : (ts : Stmts Text) (ss : Scopes) (is : List (Bound × Op)) → AreOpen ss → AreRunnableStmts ss is ts → AreWrittenStmts ts → ArePlainStmts ss ts
  stmts-plain NoStmts ss is h r w = tt
  stmts-plain (Then t rest) ss is h r w = (stmt-plain t ss is h r.0 w.0, stmts-plain rest (behind ss t) is (stmt-open t ss is r.0 h) r.1 w.1)

  else-plain : (o : Else Text) (ss : Scopes) (is : List (Bound × Op)) → AreOpen ss → IsRunnableElse ss is o → IsWrittenElse o → IsPlainElse ss o
  else-plain NoElse ss is h r w = tt
  else-plain (ElseDo at t) ss is h r w = stmt-plain t (enter ss) is (tt, open-known ss h) r w

-- ---- THE TOP LEVEL
top-plain : (t : StmtTree Text) (ss : Scopes) → AreOpen ss → IsRunnableTop ss t → IsWrittenTop t → IsPlainStmt ss t
top-plain (Declare d) ss h r w = declare-plain ss d h r
top-plain t ss h r w = stmt-plain t ss [] h r w

pub tops-plain : (ts : Stmts Text) (ss : Scopes) → AreOpen ss → AreRunnableTops ss ts → AreWrittenTops ts → ArePlainStmts ss ts
tops-plain NoStmts ss h r w = tt
tops-plain (Then t rest) ss h r w = (top-plain t ss h r.0 w.0, tops-plain rest (behind ss t) (top-open t ss r.0 h) r.1 w.1)

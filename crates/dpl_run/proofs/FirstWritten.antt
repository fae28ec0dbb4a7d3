-- By which array's map the turns of a forall are dealt out: where no rule is broken, the first array that the rules have its body write is the
-- first of which its text writes an element, and the slot by which a run goes is that name's. The walk keeps that arrays in sight are outer ones.
use Rattle.std.proofs.Common.{◌≡◌, ℕ, ◌≤◌, ◌==◌, Bool, true, false, List, [], ◌∷◌, ◌++◌, length, Option, Some, None, refl, sym, ap, ◌∙◌, subst, arith, leb-true, le-leb}
use Rattle.std.specs.Prelude.{not, ◌&&◌, bytes_eq, if◌then◌else◌, option_map}
use Rattle.std.specs.List.{AllByRecursion}
use Rattle.std.specs.Option.{option_or}
use Rattle.std.proofs.lemmas.Option.{none-some, same_Some}
use Rattle.dpl_syntax.specs.declared.place.Place.{Place}
use Rattle.dpl_syntax.specs.declared.refusal.Breach.{Breach}
use Rattle.dpl_syntax.specs.declared.refusal.Code.TheVariants.{WrongType, WrittenElsewhere}
use Rattle.dpl_language.specs.Tree.{Placed, Kind, IntKind, BoolKind, Assign, TypeTree, ScalarType, SyncType, DomainType, ArrayType, InitTree, ItemInit, CreateInit, InitialTree, DeclareTree, Exprs, VariablesTree, OneVariable, ManyVariables, ItemTree, WithTree, Whole, Element}
use Rattle.dpl_language.specs.Tree.{OnWord, LoopWord, ForWord, ForallWord, CoforallWord, StmtTree, Nothing, Declare, Assigned, Call, Write, Block, If, Headed, Loop, Body, WordBody, BlockBody, Stmts, NoStmts, Then, Else, NoElse, ElseDo}
use Rattle.dpl_language.specs.Names.{Text}
use Rattle.dpl_language.specs.Phrases.{parts}
use Rattle.dpl_language.specs.Declarations.{type_of as written_type}
use Rattle.dpl_spelling.specs.Spelt.{StmtSpelt, BodySpelt, StmtsSpelt, ElseSpelt}
use Rattle.dpl_agreement.specs.Untasked.{UntaskedStmt, UntaskedBody, UntaskedStmts, UntaskedElse}
use Rattle.dpl_rules.specs.Types.{Origin, ValueType, Scalar, Range, Domain, Array, Promoted, Tuple, Locale, AllLocales, Cell, is_array, is_all_locales, has}
use Rattle.dpl_rules.specs.Verdicts.{owed, owed_type}
use Rattle.dpl_rules.specs.Places.{first_of_item, first_of_declaration}
use Rattle.dpl_rules.specs.Sights.{LoopVariable, Declared, Scopes, find, lookup, type_declared, origin_in, is_outside, enter, add}
use Rattle.dpl_rules.specs.Expressions.{side_part, side_breaches}
use Rattle.dpl_rules.specs.Maps.{mapped_breaches}
use Rattle.dpl_rules.specs.Declarations.{type_rank, is_kept, is_untyped, unless_refused, init_part, untyped_breaches, written_breaches, type_given, config_breaches, declaration_breaches, declared_by}
use Rattle.dpl_rules.specs.Assignments.{assignment_breaches, condition_breaches}
use Rattle.dpl_rules.specs.Loops.{turn_rank, one_type, variable_type, typed_variable, runs_over, over_type, variables_of, add_variables, header_breaches, with_breaches, in_loop, behind}
use Rattle.dpl_rules.specs.Deeds.{Deed, Holds, ADeclaration, held_if, expr_deeds, item_deeds, exprs_deeds, each}
use Rattle.dpl_rules.specs.Doings.{is_apart_init, is_apart, type_deeds, initial_deeds, declaration_deeds, written, element_written, with_deeds, stmt_deeds, body_deeds, stmts_deeds, else_deeds}
use Rattle.dpl_rules.specs.Bodies.{ForallScope, forall_scope, is_outer_array, written_arrays, deed_breaches, forall_breaches, promoted_breaches}
use Rattle.dpl_rules.specs.Breaches.{top, top_sight, in_turn, head_breaches, stmt_breaches, body_breaches, stmts_breaches, else_breaches}
use Rattle.dpl_rules.specs.Foralls.{ForallIn, scope_in, deeds_in, foralls, body_foralls, all_foralls, else_foralls}
use Rattle.dpl_rules.proofs.Admission.{first_empty, second_empty}
use Rattle.dpl_standing.specs.Written.{first_written, first_in_body, first_among, first_in_else}
use Rattle.dpl_standing.proofs.FirstWritten.{body-renamed, body-lowered, body-told}
use Rattle.dpl_standing.proofs.Reading.{first_name, first-both, behind-reads, both-read, ReadsAlone, with-reads, expr-reads, item-reads, exprs-read, declaration-reads, call-reads}
use Rattle.dpl_nodes.specs.Spots.{IsNear}
use Rattle.dpl_lowered.specs.Known.{Known}
use Rattle.dpl_lowered.specs.LoweredStatements.{lowered_body}
use Rattle.dpl_agreement.specs.Renamed.{renamed_body}
use Rattle.dpl_memory.specs.Memory.{DomainKind, TupleKind, ArrayKind, Variable}
use Rattle.dpl_memory.specs.Resolved.{Bound, text_of, variable_of}
use Rattle.dpl_readings.specs.Written.{slot_of}
use Rattle.dpl_typed.specs.Leaves.{kind_if, value_kind, kind_by}
use Rattle.dpl_typed.specs.Typed.{is_rank, is_tuple_rank}
use Rattle.dpl_bound.specs.Sights.{is_promoted_type}
use Rattle.dpl_runnable.specs.Kinds.{IsNamed, AreVariables}
use Rattle.dpl_runnable.proofs.Scopes.{top-variables, in_loop-variables}
use Rattle.dpl_runnable.proofs.Changes.{runnable_element}
use Rattle.dpl_runnable.proofs.Owed.{owed-holds}
use Rattle.dpl_runnable.proofs.Reduced.{inside-outer, inside-loop}
use Rattle.dpl_runnable.proofs.Sights.{lookup-name}
use Rattle.dpl_runnable.proofs.Around.{Turning, forall_by, sight_by, Stands, MayDoIn, first-done, second-done, forall-refuted, enter-stands, loop-stands, behind-stands}

-- ---- what is told first is the same
abbrev pub itself : Text → Text
itself x = x

-- the first of a forall's written arrays is the first of which its text writes an element
abbrev pub IsFirst : ForallIn → Type 0
IsFirst f = first_name (written_arrays (scope_in f) (deeds_in f)) ≡ first_in_body itself f.body

-- ---- each array in sight is declared where at most so many scopes are open
abbrev pub IsWithin : ℕ → Declared → Type 0
IsWithin depth d = has is_array d.type ≡ true → is_outside depth d ≡ true

abbrev pub AreWithin : ℕ → Scopes → Type 0
AreWithin depth ss = (x : Text) (d : Declared) → lookup ss x ≡ Some d → IsWithin depth d

no-array : (d : Declared) (depth : ℕ) → has is_array d.type ≡ false → IsWithin depth d
no-array d depth h a = absurd (never (has is_array d.type) h a)
  where
    never : (b : Bool) → b ≡ false → b ≡ true → ⊥
    never true p q = absurd cc
    never false p q = absurd cc

weaker : (n m : ℕ) → n ≤ m → (ss : Scopes) → AreWithin n ss → AreWithin m ss
weaker n m more ss within x d e a =
    let low : d.origin.depth ≤ n = leb-true d.origin.depth n (within x d e a) in
    le-leb d.origin.depth m (omega (arith, low, more))

within-found : (depth : ℕ) (b : Bool) (d : Declared) (o p : Option Declared) → IsWithin depth d → ((c : Declared) → option_or o p ≡ Some c → IsWithin depth c)
    → (c : Declared) → option_or (if b then Some d else o) p ≡ Some c → IsWithin depth c
within-found depth true d o p own others c e = subst (IsWithin depth) (same_Some d c e) own
within-found depth false d o p own others c e = others c e

within-add : (depth : ℕ) (d : Declared) (ss : Scopes) → AreWithin depth ss → IsWithin depth d → AreWithin depth (add d ss)
within-add depth d [] within own x c e = within-found depth (bytes_eq x d.origin.name) d None None own (within x) c e
within-add depth d (s ∷ ss) within own x c e = within-found depth (bytes_eq x d.origin.name) d (find s x) (lookup ss x) own (within x) c e

-- ---- a loop's variables are no arrays
one_type-plain : (t : ValueType) → is_array (one_type t) ≡ false
one_type-plain t = by (is_all_locales t) (turn_rank t == 1)
  where
    by : (b c : Bool) → is_array (if b then Locale else (if c then Scalar IntKind else Tuple (turn_rank t))) ≡ false
    by true c = refl
    by false true = refl
    by false false = refl

variable_type-plain : (xs : VariablesTree Text) (t : ValueType) → has is_array (variable_type xs t) ≡ false
variable_type-plain (OneVariable x) t = one_type-plain t
variable_type-plain (ManyVariables from xs upto) t = by (length (parts xs) == turn_rank t)
  where
    by : (b : Bool) → has is_array (if b then Some (Scalar IntKind) else None) ≡ false
    by true = refl
    by false = refl

typed_variable-plain : (word : LoopWord) (xs : VariablesTree Text) (o : Option ValueType) → has is_array (typed_variable word xs o) ≡ false
typed_variable-plain word xs None = refl
typed_variable-plain word xs (Some t) = by (runs_over word t)
  where
    by : (b : Bool) → has is_array (if b then variable_type xs t else None) ≡ false
    by true = variable_type-plain xs t
    by false = refl

within-variables : (depth : ℕ) (o : Option ValueType) → has is_array o ≡ false → (xs : List (Placed Text)) (ss : Scopes) → AreWithin depth ss → AreWithin depth (add_variables o xs ss)
within-variables depth o plain [] ss within = within
within-variables depth o plain (x ∷ xs) ss within =
    let d : Declared = record { origin = origin_in ss x.name; sort = LoopVariable; type = o } in
    within-variables depth o plain xs (add d ss) (within-add depth d ss within (no-array d depth plain))

pub within-loop : (depth : ℕ) (word : LoopWord) (xs : VariablesTree Text) (item : ItemTree Text) (ss : Scopes) → AreWithin depth ss → AreWithin depth (in_loop ss word xs item)
within-loop depth word xs item ss within =
    within-variables depth (typed_variable word xs (over_type ss item)) (typed_variable-plain word xs (over_type ss item)) (variables_of xs) (enter ss) within

-- ---- a declaration in a forall's body is of no array
kept-plain : (t : ValueType) → is_kept t ≡ true → is_array t ≡ false
kept-plain (Array k over) h = absurd cc
kept-plain _ h = refl

owed-kept : (at : Place) (o : Option ValueType) → owed_type (is_untyped None) at o ≡ [] → has is_array o ≡ false
owed-kept at None h = refl
owed-kept at (Some t) h = kept-plain t (owed-holds (is_kept t) at WrongType h)

module _ (ss : Scopes) where
  init-plain : (i : InitTree Text) → is_apart_init ss i ≡ false → untyped_breaches ss i ≡ [] → has is_array (init_part ss i).type ≡ false
  init-plain (ItemInit item None) apart h =
      let side = side_breaches ss item in
      let kept = owed_type (is_untyped None) (first_of_item item) (side_part ss item).type in
      owed-kept (first_of_item item) (side_part ss item).type (second_empty side kept (first_empty (side ++ kept) (mapped_breaches ss (type_rank (side_part ss item).type) None) h))
  init-plain (ItemInit item (Some m)) apart h = absurd cc
  init-plain (CreateInit c) apart h = absurd cc

  given-plain : (self : Origin) (o : Option (TypeTree Text)) (i : Option (InitialTree Text)) → is_apart ss o i ≡ false → written_breaches ss self o i ≡ [] → has is_array (type_given ss self o i) ≡ false
  given-plain self None None apart h = refl
  given-plain self None (Some i) apart h = init-plain i.init apart h
  given-plain self (Some (ScalarType at k)) i apart h = refl
  given-plain self (Some (SyncType at kind_at k)) i apart h = absurd cc
  given-plain self (Some (DomainType d)) i apart h = absurd cc
  given-plain self (Some (ArrayType a)) i apart h = absurd cc

  unbroken-given : (bs : List Breach) (o : Option ValueType) → bs ≡ [] → has is_array o ≡ false → has is_array (unless_refused bs o) ≡ false
  unbroken-given [] o e h = h
  unbroken-given (b ∷ bs) o e h = refl

  declared-plain : (d : DeclareTree Text) → is_apart ss (written_type d.typed) d.initial ≡ false → declaration_breaches ss d ≡ [] → has is_array (declared_by ss d).type ≡ false
  declared-plain d apart h =
      let self = origin_in ss d.name.name in
      let all = declaration_breaches ss d in
      let own = written_breaches ss self (written_type d.typed) d.initial in
      let config = config_breaches ss d.config d in
      let told = first_empty _ config h in
      unbroken-given all (type_given ss self (written_type d.typed) d.initial) h (given-plain self (written_type d.typed) d.initial apart (second_empty _ own told))

-- ---- what an element is written of is an array
array-typed : (t : ValueType) (l : Kind) → value_kind t ≡ Some (ArrayKind l) → is_promoted_type t ≡ false → is_array t ≡ true
array-typed (Scalar IntKind) l e p = absurd cc
array-typed (Scalar BoolKind) l e p = absurd cc
array-typed (Range strided) l e p = absurd cc
array-typed (Domain rank strided) l e p = absurd (by (is_rank rank) e)
  where
    by : (b : Bool) → kind_if b DomainKind ≡ Some (ArrayKind l) → ⊥
    by true e = absurd cc
    by false e = absurd cc
array-typed (Array k over) l e p = refl
array-typed (Promoted k over) l e p = absurd cc
array-typed (Tuple rank) l e p = absurd (by (is_tuple_rank rank) e)
  where
    by : (b : Bool) → kind_if b TupleKind ≡ Some (ArrayKind l) → ⊥
    by true e = absurd cc
    by false e = absurd cc
array-typed Locale l e p = absurd cc
array-typed AllLocales l e p = absurd cc
array-typed (Cell k) l e p = absurd cc

pub named-array : (d : Declared) (l : Kind) → IsNamed d.type → kind_by d.type ≡ Some (ArrayKind l) → has is_array d.type ≡ true
named-array d l named e =
    ap (has is_array) named.is ∙ array-typed named.type l (subst (λ o. kind_by o ≡ Some (ArrayKind l)) named.is e) named.single

-- ---- in a forall's body
apart-held : (g : Deed → List Breach) (b : Bool) (at : Place) (h : g (Holds at ADeclaration) ≡ [] → ⊥) → each g (held_if b at ADeclaration) ≡ [] → b ≡ false
apart-held g true at h e = absurd (h (first_empty (g (Holds at ADeclaration)) [] e))
apart-held g false at h e = refl

module _ (f : Turning) where
  abbrev loop_of : ForallScope
  loop_of = forall_scope f.outer f.variables f.intents

  abbrev depth_of : ℕ
  depth_of = length f.outer

  abbrev first_deed : List Deed → Option Text
  first_deed ds = first_name (written_arrays loop_of ds)

  -- no declaration is of an array
  turn-declared : (ss : Scopes) (d : DeclareTree Text) → declaration_breaches ss d ≡ [] → MayDoIn (Some f) (declaration_deeds ss d) → has is_array (declared_by ss d).type ≡ false
  turn-declared ss d h m =
      let type = written_type d.typed in
      let held = held_if (is_apart ss type d.initial) (first_of_declaration d) ADeclaration in
      let own = second-done (Some f) (type_deeds ss type ++ initial_deeds ss d.initial) held m in
      declared-plain ss d (apart-held (deed_breaches loop_of f.written) (is_apart ss type d.initial) (first_of_declaration d) (λ e. absurd cc) own) h

  pub within-behind : (ss : Scopes) (t : StmtTree Text) → AreWithin depth_of ss → stmt_breaches (sight_by (Some f) ss) t ≡ [] → MayDoIn (Some f) (stmt_deeds ss t) → AreWithin depth_of (behind ss t)
  within-behind ss (Declare d) within h m = within-add depth_of (declared_by ss d) ss within (no-array (declared_by ss d) depth_of (turn-declared ss d h m))
  within-behind ss _ within h m = within

  -- a whole array isn't written
  whole-first : (at : Place) (o : Option Declared) (op : Assign) → MayDoIn (Some f) (written at o op) → first_deed (written at o op) ≡ None
  whole-first at None op m = refl
  whole-first at (Some d) op m = by (is_outer_array loop_of d) (first_empty _ _ (first_empty _ _ (first_empty _ _ (first_empty _ [] m))))
    where
      by : (b : Bool) → owed (not b) at WrittenElsewhere ≡ [] → first_name ((if b then d.origin ∷ [] else []) ++ []) ≡ None
      by true e = absurd cc
      by false e = refl

  -- an element is one of an array outside
  element-first : (at : Place) (x : Text) (ss : Scopes) (es : Exprs Text) (op : Assign) (l : Kind) → AreVariables ss → AreWithin depth_of ss
      → kind_by (type_declared (lookup ss x)) ≡ Some (ArrayKind l) → first_deed (element_written ss at (lookup ss x) es op) ≡ Some x
  element-first at x ss es op l names within kind = by (lookup ss x) refl kind
    where
      outer : (d : Declared) → lookup ss x ≡ Some d → has is_array d.type ≡ true → (b c : Bool) → b ≡ true → c ≡ true → first_name ((if b && c then d.origin ∷ [] else []) ++ []) ≡ Some x
      outer d e a true true p q = ap Some (sym (lookup-name ss x d e))
      outer d e a true false p q = absurd cc
      outer d e a false c p q = absurd cc

      by : (o : Option Declared) → lookup ss x ≡ o → kind_by (type_declared o) ≡ Some (ArrayKind l) → first_deed (element_written ss at o es op) ≡ Some x
      by None e k = absurd cc
      by (Some d) e k =
          let array = named-array d l (names x d e) k in
          outer d e array (is_outside depth_of d) (has is_array d.type) (within x d e array) array

  -- two lists of deeds, one behind the other
  two-first : (ds es : List Deed) (a b : Option Text) → first_deed ds ≡ a → first_deed es ≡ b → first_deed (ds ++ es) ≡ option_or a b
  two-first ds es a b p q = first-both loop_of ds es ∙ ap (λ o. option_or o (first_deed es)) p ∙ ap (option_or a) q

  behind-first : (ds es : List Deed) (b : Option Text) → ReadsAlone loop_of ds → first_deed es ≡ b → first_deed (ds ++ es) ≡ b
  behind-first ds es b r q = ap first_name (behind-reads loop_of ds es r) ∙ q

  mutual
    turn-first : (t : StmtTree Text) (ss : Scopes) → Stands (Some f) ss → AreWithin depth_of ss → StmtSpelt IsNear ⊥ t → UntaskedStmt t → stmt_breaches (sight_by (Some f) ss) t ≡ []
        → MayDoIn (Some f) (stmt_deeds ss t) → first_deed (stmt_deeds ss t) ≡ first_written itself t
    turn-first (Nothing at) ss stands within s c h m = refl
    turn-first (Declare d) ss stands within s c h m = ap first_name (declaration-reads loop_of ss d)
    turn-first (Assigned (Whole x) sign item semicolon) ss stands within s c h m =
        let read = item_deeds ss item in
        behind-first read (written x.at (lookup ss x.name) sign.op) None (item-reads loop_of ss item)
        (whole-first x.at (lookup ss x.name) sign.op (second-done (Some f) read (written x.at (lookup ss x.name) sign.op) m))
    turn-first (Assigned (Element x shape from es upto) sign item semicolon) ss stands within s c h m =
        let read = item_deeds ss item in
        let index = exprs_deeds ss es in
        let own = element_written ss x.at (lookup ss x.name) es sign.op in
        let element = runnable_element ss stands.names (forall_by (Some f)) x shape from es upto sign item s.0.2 s.2 c.0 c.1
        (first_empty (assignment_breaches (sight_by (Some f) ss) (Element x shape from es upto) sign item) (promoted_breaches ss (Element x shape from es upto) item) h) in
        behind-first (index ++ read) own (Some x.name) (both-read loop_of index read (exprs-read loop_of ss es) (item-reads loop_of ss item))
        (element-first x.at x.name ss es sign.op element.kind stands.names within element.target)
    turn-first (Call x dot call semicolon) ss stands within s c h m = ap first_name (call-reads loop_of ss x call)
    turn-first (Write t) ss stands within s c h m = absurd cc
    turn-first (Block from ts upto) ss stands within s c h m = turn_stmts-first ts (enter ss) (enter-stands (Some f) ss stands) within s.1 c h m
    turn-first (If at e first second) ss stands within s c h m =
        let inner = enter ss in
        let test = condition_breaches (sight_by (Some f) ss) e in
        let one = body_breaches (sight_by (Some f) inner) first in
        let other = else_breaches (sight_by (Some f) inner) second in
        let tested = expr_deeds ss e in
        let first_deeds = body_deeds inner first in
        let second_deeds = else_deeds inner second in
        two-first (tested ++ first_deeds) second_deeds (first_in_body itself first) (first_in_else itself second)
        (behind-first tested first_deeds (first_in_body itself first) (expr-reads loop_of ss e)
        (turn_body-first first inner (enter-stands (Some f) ss stands) within s.2 c.1 (second_empty test one (first_empty (test ++ one) other h))
        (second-done (Some f) tested first_deeds (first-done (Some f) (tested ++ first_deeds) second_deeds m))))
        (turn_else-first second ss stands within s.3 c.2 (second_empty (test ++ one) other h) (second-done (Some f) (tested ++ first_deeds) second_deeds m))
    turn-first (Headed OnWord at e body) ss stands within s c h m = absurd c.2
    turn-first (Headed word at e body) ss stands within s c h m =
        let inner = enter ss in
        let tested = expr_deeds ss e in
        behind-first tested (body_deeds inner body) (first_in_body itself body) (expr-reads loop_of ss e)
        (turn_body-first body inner (enter-stands (Some f) ss stands) within s.2 c.1
        (second_empty (head_breaches (sight_by (Some f) ss) word e) (body_breaches (sight_by (Some f) inner) body) h)
        (second-done (Some f) tested (body_deeds inner body) m))
    turn-first (Loop ForWord at xs in_word item intents body) ss stands within s c h m =
        let inner = in_loop ss ForWord xs item in
        let head = header_breaches ss ForWord xs item in
        let intended = with_breaches ss intents in
        let others = body_breaches (sight_by (Some f) inner) body in
        let headed = first_empty head intended (first_empty (head ++ intended) [] (first_empty (head ++ intended ++ []) others h)) in
        let read = item_deeds ss item ++ with_deeds intents in
        behind-first read (body_deeds inner body) (first_in_body itself body) (both-read loop_of (item_deeds ss item) (with_deeds intents) (item-reads loop_of ss item) (with-reads loop_of intents))
        (turn_body-first body inner (loop-stands IsNear ss (Some f) ForWord xs item stands s.3 c.0 headed) (within-loop depth_of ForWord xs item ss within)
        s.5 c.1 (second_empty (head ++ intended ++ []) others h) (second-done (Some f) read (body_deeds inner body) m))
    turn-first (Loop ForallWord at xs in_word item intents body) ss stands within s c h m = absurd (forall-refuted f at (item_deeds ss item ++ with_deeds intents ++ body_deeds (in_loop ss ForallWord xs item) body) m)
    turn-first (Loop CoforallWord at xs in_word item intents body) ss stands within s c h m = absurd c.2

    turn_body-first : (t : Body Text) (ss : Scopes) → Stands (Some f) ss → AreWithin depth_of ss → BodySpelt IsNear ⊥ t → UntaskedBody t → body_breaches (sight_by (Some f) ss) t ≡ []
        → MayDoIn (Some f) (body_deeds ss t) → first_deed (body_deeds ss t) ≡ first_in_body itself t
    turn_body-first (WordBody at t) ss stands within s c h m = turn-first t ss stands within s.1 c h m
    turn_body-first (BlockBody from ts upto) ss stands within s c h m = turn_stmts-first ts ss stands within s.1 c h m

    turn_stmts-first : (ts : Stmts Text) (ss : Scopes) → Stands (Some f) ss → AreWithin depth_of ss → StmtsSpelt IsNear ⊥ ts → UntaskedStmts ts → stmts_breaches (sight_by (Some f) ss) ts ≡ []
        → MayDoIn (Some f) (stmts_deeds ss ts) → first_deed (stmts_deeds ss ts) ≡ first_among itself ts
    turn_stmts-first NoStmts ss stands within s c h m = refl
    turn_stmts-first (Then t rest) ss stands within s c h m =
        let own = stmt_breaches (sight_by (Some f) ss) t in
        let others = stmts_breaches (sight_by (Some f) (behind ss t)) rest in
        let done = stmt_deeds ss t in
        let more = stmts_deeds (behind ss t) rest in
        let unbroken = first_empty own others h in
        let may = first-done (Some f) done more m in
        two-first done more (first_written itself t) (first_among itself rest) (turn-first t ss stands within s.0 c.0 unbroken may)
        (turn_stmts-first rest (behind ss t) (behind-stands IsNear ss (Some f) t stands s.0 c.0 unbroken) (within-behind ss t within unbroken may) s.1 c.1
        (second_empty own others h) (second-done (Some f) done more m))

    turn_else-first : (t : Else Text) (ss : Scopes) → Stands (Some f) ss → AreWithin depth_of ss → ElseSpelt IsNear ⊥ t → UntaskedElse t → else_breaches (sight_by (Some f) (enter ss)) t ≡ []
        → MayDoIn (Some f) (else_deeds (enter ss) t) → first_deed (else_deeds (enter ss) t) ≡ first_in_else itself t
    turn_else-first NoElse ss stands within s c h m = refl
    turn_else-first (ElseDo at t) ss stands within s c h m = turn-first t (enter ss) (enter-stands (Some f) ss stands) within s.1 c h m

-- ---- a forall outside of others
pub forall-first : (ss : Scopes) → Stands None ss → AreWithin (length ss) ss → (at : Place) (xs : VariablesTree Text) (word : Place) (item : ItemTree Text) (intents : Option (WithTree Text)) (body : Body Text)
    → StmtSpelt IsNear ⊥ (Loop ForallWord at xs word item intents body) → UntaskedStmt (Loop ForallWord at xs word item intents body) → stmt_breaches (sight_by None ss) (Loop ForallWord at xs word item intents body) ≡ []
    → IsFirst (record { at = at; scopes = ss; variables = xs; over = item; intents = intents; body = body })
forall-first ss stands within at xs word item intents body s c h =
    let inner = in_loop ss ForallWord xs item in
    let ds = body_deeds inner body in
    let loop = forall_scope ss xs intents in
    let head = header_breaches ss ForallWord xs item in
    let intended = with_breaches ss intents in
    let told = forall_breaches loop ds in
    let others = body_breaches (in_turn (sight_by None ss) ForallWord xs item intents) body in
    let front = first_empty (head ++ intended ++ told) others h in
    let heads = first_empty (head ++ intended) told front in
    let none = second_empty head intended heads in
    let f : Turning = record { outer = ss; variables = xs; intents = intents; written = written_arrays loop ds } in
    turn_body-first f body inner
    (record {
      names = in_loop-variables ss IsNear stands.names ForallWord xs item s.3 c.0 (first_empty head intended heads);
      around = record { names = stands.names; told = none; inside = inside-loop ss ss ForallWord xs item (inside-outer ss) };
    })
    (within-loop (length ss) ForallWord xs item ss within)
    s.5 c.1 (second_empty (head ++ intended ++ told) others h) (second_empty (head ++ intended) told front)

-- ---- in a forall's body stands no other
none-both : (fs gs : List ForallIn) → fs ≡ [] → gs ≡ [] → fs ++ gs ≡ []
none-both [] gs p q = q
none-both (f ∷ fs) gs p q = absurd cc

module _ (f : Turning) where
  mutual
    turn-none : (t : StmtTree Text) (ss : Scopes) → MayDoIn (Some f) (stmt_deeds ss t) → foralls ss t ≡ []
    turn-none (Block from ts upto) ss m = turn_stmts-none ts (enter ss) m
    turn-none (If at e first second) ss m =
        let tested = expr_deeds ss e in
        let one = body_deeds (enter ss) first in
        let other = else_deeds (enter ss) second in
        none-both (body_foralls (enter ss) first) (else_foralls (enter ss) second)
        (turn_body-none first (enter ss) (second-done (Some f) tested one (first-done (Some f) (tested ++ one) other m)))
        (turn_else-none second (enter ss) (second-done (Some f) (tested ++ one) other m))
    turn-none (Headed OnWord at e body) ss m = absurd cc
    turn-none (Headed _ at e body) ss m = turn_body-none body (enter ss) (second-done (Some f) (expr_deeds ss e) (body_deeds (enter ss) body) m)
    turn-none (Loop ForWord at xs within item intents body) ss m =
        let inner = in_loop ss ForWord xs item in
        turn_body-none body inner (second-done (Some f) (item_deeds ss item ++ with_deeds intents) (body_deeds inner body) m)
    turn-none (Loop ForallWord at xs within item intents body) ss m =
        absurd (forall-refuted f at (item_deeds ss item ++ with_deeds intents ++ body_deeds (in_loop ss ForallWord xs item) body) m)
    turn-none (Loop CoforallWord at xs within item intents body) ss m = absurd cc
    turn-none _ ss m = refl

    turn_body-none : (t : Body Text) (ss : Scopes) → MayDoIn (Some f) (body_deeds ss t) → body_foralls ss t ≡ []
    turn_body-none (WordBody at t) ss m = turn-none t ss m
    turn_body-none (BlockBody from ts upto) ss m = turn_stmts-none ts ss m

    turn_stmts-none : (ts : Stmts Text) (ss : Scopes) → MayDoIn (Some f) (stmts_deeds ss ts) → all_foralls ss ts ≡ []
    turn_stmts-none NoStmts ss m = refl
    turn_stmts-none (Then t rest) ss m =
        let done = stmt_deeds ss t in
        let more = stmts_deeds (behind ss t) rest in
        none-both (foralls ss t) (all_foralls (behind ss t) rest) (turn-none t ss (first-done (Some f) done more m)) (turn_stmts-none rest (behind ss t) (second-done (Some f) done more m))

    turn_else-none : (t : Else Text) (ss : Scopes) → MayDoIn (Some f) (else_deeds ss t) → else_foralls ss t ≡ []
    turn_else-none NoElse ss m = refl
    turn_else-none (ElseDo at t) ss m = turn-none t ss m

-- ---- a program
all-both : (P : ForallIn → Type 0) (fs gs : List ForallIn) → AllByRecursion P fs → AllByRecursion P gs → AllByRecursion P (fs ++ gs)
all-both P [] gs p q = q
all-both P (f ∷ fs) gs p q = (p.0, all-both P fs gs p.1 q)

within-enter : (ss : Scopes) → AreWithin (length ss) ss → AreWithin (length (enter ss)) (enter ss)
within-enter ss within = weaker (length ss) (length (enter ss)) (omega arith) ss within

within-inner : (ss : Scopes) (word : LoopWord) (xs : VariablesTree Text) (item : ItemTree Text) → AreWithin (length ss) ss → AreWithin (length (in_loop ss word xs item)) (in_loop ss word xs item)
within-inner ss word xs item within =
    let inner = in_loop ss word xs item in
    let deeper = (inside-loop ss ss word xs item (inside-outer ss)).deeper in
    weaker (length ss) (length inner) (omega (arith, deeper)) inner (within-loop (length ss) word xs item ss within)

within-declared : (ss : Scopes) (d : Declared) → d.origin.depth ≡ length ss → AreWithin (length ss) ss → AreWithin (length (add d ss)) (add d ss)
within-declared [] d depth within = within-add 1 d [] (weaker 0 1 (omega arith) [] within) (λ a. le-leb d.origin.depth 1 (omega (arith, depth)))
within-declared (s ∷ ss) d depth within = within-add (length (s ∷ ss)) d (s ∷ ss) within (λ a. le-leb d.origin.depth (length (s ∷ ss)) (omega (arith, depth)))

within-after : (ss : Scopes) (t : StmtTree Text) → AreWithin (length ss) ss → AreWithin (length (behind ss t)) (behind ss t)
within-after ss (Declare d) within = within-declared ss (declared_by ss d) refl within
within-after ss _ within = within

-- what is so of each forall outside of others, where it stands, is so of each of a program's
abbrev pub IsLaw : (ForallIn → Type 0) → Type 0
IsLaw P =
    (ss : Scopes) → Stands None ss → AreWithin (length ss) ss → (at : Place) (xs : VariablesTree Text) (word : Place) (item : ItemTree Text) (intents : Option (WithTree Text)) (body : Body Text)
    → StmtSpelt IsNear ⊥ (Loop ForallWord at xs word item intents body) → UntaskedStmt (Loop ForallWord at xs word item intents body) → stmt_breaches (sight_by None ss) (Loop ForallWord at xs word item intents body) ≡ []
    → P (record { at = at; scopes = ss; variables = xs; over = item; intents = intents; body = body })

module _ (P : ForallIn → Type 0) (law : IsLaw P) where
  mutual
    laws : (t : StmtTree Text) (ss : Scopes) → Stands None ss → AreWithin (length ss) ss → StmtSpelt IsNear ⊥ t → UntaskedStmt t → stmt_breaches (sight_by None ss) t ≡ [] → AllByRecursion P (foralls ss t)
    laws (Block from ts upto) ss stands within s c h = stmts-laws ts (enter ss) (enter-stands None ss stands) (within-enter ss within) s.1 c h
    laws (If at e first second) ss stands within s c h =
        let inner = enter ss in
        let test = condition_breaches (sight_by None ss) e in
        let one = body_breaches (sight_by None inner) first in
        let other = else_breaches (sight_by None inner) second in
        all-both P (body_foralls inner first) (else_foralls inner second)
        (body-laws first inner (enter-stands None ss stands) (within-enter ss within) s.2 c.1 (second_empty test one (first_empty (test ++ one) other h)))
        (else-laws second inner (enter-stands None ss stands) (within-enter ss within) s.3 c.2 (second_empty (test ++ one) other h))
    laws (Headed word at e body) ss stands within s c h =
        body-laws body (enter ss) (enter-stands None ss stands) (within-enter ss within) s.2 c.1
        (second_empty (head_breaches (sight_by None ss) word e) (body_breaches (sight_by None (enter ss)) body) h)
    laws (Loop ForWord at xs in_word item intents body) ss stands within s c h =
        let inner = in_loop ss ForWord xs item in
        let head = header_breaches ss ForWord xs item in
        let intended = with_breaches ss intents in
        let others = body_breaches (sight_by None inner) body in
        let headed = first_empty head intended (first_empty (head ++ intended) [] (first_empty (head ++ intended ++ []) others h)) in
        body-laws body inner (loop-stands IsNear ss None ForWord xs item stands s.3 c.0 headed) (within-inner ss ForWord xs item within) s.5 c.1 (second_empty (head ++ intended ++ []) others h)
    laws (Loop ForallWord at xs in_word item intents body) ss stands within s c h =
        let inner = in_loop ss ForallWord xs item in
        let ds = body_deeds inner body in
        let loop = forall_scope ss xs intents in
        let heads = header_breaches ss ForallWord xs item ++ with_breaches ss intents in
        let told = forall_breaches loop ds in
        let others = body_breaches (in_turn (sight_by None ss) ForallWord xs item intents) body in
        let may = second_empty heads told (first_empty (heads ++ told) others h) in
        let f : Turning = record { outer = ss; variables = xs; intents = intents; written = written_arrays loop ds } in (
          law ss stands within at xs in_word item intents body s c h,
          subst (AllByRecursion P) (sym (turn_body-none f body inner may)) tt,
        )
    laws (Loop CoforallWord at xs in_word item intents body) ss stands within s c h = absurd c.2
    laws _ ss stands within s c h = tt

    body-laws : (t : Body Text) (ss : Scopes) → Stands None ss → AreWithin (length ss) ss → BodySpelt IsNear ⊥ t → UntaskedBody t → body_breaches (sight_by None ss) t ≡ [] → AllByRecursion P (body_foralls ss t)
    body-laws (WordBody at t) ss stands within s c h = laws t ss stands within s.1 c h
    body-laws (BlockBody from ts upto) ss stands within s c h = stmts-laws ts ss stands within s.1 c h

    stmts-laws : (ts : Stmts Text) (ss : Scopes) → Stands None ss → AreWithin (length ss) ss → StmtsSpelt IsNear ⊥ ts → UntaskedStmts ts → stmts_breaches (sight_by None ss) ts ≡ [] → AllByRecursion P (all_foralls ss ts)
    stmts-laws NoStmts ss stands within s c h = tt
    stmts-laws (Then t rest) ss stands within s c h =
        let own = stmt_breaches (sight_by None ss) t in
        let others = stmts_breaches (sight_by None (behind ss t)) rest in
        let unbroken = first_empty own others h in
        all-both P (foralls ss t) (all_foralls (behind ss t) rest) (laws t ss stands within s.0 c.0 unbroken)
        (stmts-laws rest (behind ss t) (behind-stands IsNear ss None t stands s.0 c.0 unbroken) (within-after ss t within) s.1 c.1 (second_empty own others h))

    else-laws : (t : Else Text) (ss : Scopes) → Stands None ss → AreWithin (length ss) ss → ElseSpelt IsNear ⊥ t → UntaskedElse t → else_breaches (sight_by None ss) t ≡ [] → AllByRecursion P (else_foralls ss t)
    else-laws NoElse ss stands within s c h = tt
    else-laws (ElseDo at t) ss stands within s c h = laws t ss stands within s.1 c h

  pub program-laws : (ts : Stmts Text) → StmtsSpelt IsNear ⊥ ts → UntaskedStmts ts → stmts_breaches top_sight ts ≡ [] → AllByRecursion P (all_foralls top ts)
  program-laws ts s c h = stmts-laws ts top (record { names = top-variables; around = tt }) (λ x d e a. absurd (none-some d e)) s c h

-- of each forall of a program that breaks no rule
pub program-firsts : (ts : Stmts Text) → StmtsSpelt IsNear ⊥ ts → UntaskedStmts ts → stmts_breaches top_sight ts ≡ [] → AllByRecursion IsFirst (all_foralls top ts)
program-firsts ts s c h = program-laws IsFirst forall-first ts s c h

-- ---- with resolved names: what is written first in the tree that runs is the slot of a name, whose text is the one that the text writes first
abbrev pub bound_itself : Bound → Bound
bound_itself x = x

abbrev pub bound_slot : Bound → ℕ
bound_slot x = (variable_of x).slot

module _ (body : Body Text) (bound : Body Bound) (spelled : renamed_body text_of bound ≡ body) where
  pub first-spelled : option_map text_of (first_in_body bound_itself bound) ≡ first_in_body itself body
  first-spelled = body-told bound_itself text_of bound ∙ sym (body-renamed text_of itself bound) ∙ ap (first_in_body itself) spelled

  pub first-slot : (known : Variable → Known) → first_in_body slot_of (lowered_body known (renamed_body variable_of bound)) ≡ option_map bound_slot (first_in_body bound_itself bound)
  first-slot known =
      body-lowered known slot_of (renamed_body variable_of bound) ∙ body-renamed variable_of slot_of bound ∙ sym (body-told bound_itself bound_slot bound)

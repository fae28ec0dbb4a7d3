-- What is in sight behind a part of a program: names resolved as the check's scopes have them.
-- A scope is left as it was entered; an array in sight is over the domain whose bare name its declaration has.
use Rattle.std.proofs.Common.{◌≡◌, ℕ, Bool, true, false, List, [], ◌∷◌, ◌++◌, length, drop, Option, Some, None, is_some, refl, sym, ap, ◌∙◌, subst, arith}
use Rattle.std.specs.Prelude.{not, option_map}
use Rattle.std.proofs.lemmas.Option.{none-some}
use Rattle.dpl_syntax.specs.declared.place.Place.{Place}
use Rattle.dpl_syntax.specs.declared.refusal.Breach.{Breach}
use Rattle.dpl_syntax.specs.declared.refusal.Code.TheVariants.{NameTwice}
use Rattle.dpl_language.specs.Tree.{Op, Kind, IntKind, BoolKind, ArrayTypeTree, TypeTree, ScalarType, SyncType, DomainType, ArrayType, TypedTree, InitTree, ItemInit, CreateInit, InitialTree, DeclareTree, StmtTree, Declare, Body, WordBody, BlockBody, Stmts, NoStmts, Then}
use Rattle.dpl_language.specs.Names.{Text}
use Rattle.dpl_language.specs.Phrases.{declared_over}
use Rattle.dpl_language.specs.Declarations.{type_of}
use Rattle.dpl_agreement.specs.Renamed.{renamed_type, renamed_typed}
use Rattle.dpl_agreement.specs.Scopes.{PlainForm, form_by, after, after_all}
use Rattle.dpl_agreement.proofs.RenamedParts.{declared_over-renamed}
use Rattle.dpl_rules.specs.Types.{Origin, ValueType, Scalar, Range, Domain, Array, Promoted, Tuple, Locale, AllLocales, Cell, is_domain, domain_of}
use Rattle.dpl_rules.specs.Verdicts.{Part, type_by, all_known, owed, owed_type, where_given}
use Rattle.dpl_rules.specs.Places.{first_of_item}
use Rattle.dpl_rules.specs.Sights.{Declared, Scope, Scopes, find, declared_here, origin_in, add}
use Rattle.dpl_rules.specs.Operators.{any_strided, ranges_breaches, ranges_verdict, domain_or, over_verdict}
use Rattle.dpl_rules.specs.Expressions.{item_parts, side_part, side_breaches}
use Rattle.dpl_rules.specs.Maps.{mapped_breaches}
use Rattle.dpl_rules.specs.Declarations.{domain_in, type_rank, is_kept, is_untyped, base_over, over_domain, init_part, untyped_breaches, initial_type, config_breaches, written_breaches, type_given, unless_refused, declaration_breaches, declared_by}
use Rattle.dpl_rules.specs.Loops.{behind}
use Rattle.dpl_rules.specs.Sound.{behind_all}
use Rattle.dpl_rules.proofs.Admission.{first_empty, second_empty}
use Rattle.dpl_rules.proofs.Left.{leave_behind, leave_behind_all}
use Rattle.dpl_sound.proofs.Given.{some-same, judged-gives, with_type-gives}
use Rattle.dpl_scopes.specs.Slots.{count_in, next_slot_in}
use Rattle.dpl_words.specs.Words.{IntLeaf, TruthLeaf, RangeLeaf}
use Rattle.dpl_memory.specs.Memory.{VariableKind, PlainKind, DomainKind, ArrayKind}
use Rattle.dpl_memory.specs.Resolved.{Bound, Start, sighted, bind, domain_among, over_of, IsWhole, resolving}
use Rattle.dpl_runnable.specs.Kinds.{is_promoted}
use Rattle.dpl_typed.specs.Leaves.{kind_if, value_kind, kind_by, leaf_by}
use Rattle.dpl_typed.specs.Typed.{is_rank}
use Rattle.dpl_bound.specs.Sights.{bound_in, bound_at, over_by, sighted_at, sight_of, is_promoted_type, is_promoted_by, AreKnownScopes}
use Rattle.dpl_runnable.proofs.Kept.{kind_if-some, kind-same}
use Rattle.dpl_runnable.proofs.Sights.{HasKnownKind}
use Rattle.dpl_runnable.proofs.Overs.{over-declared}
use Rattle.dpl_runnable.proofs.Owed.{owed_type-holds}
use Rattle.dpl_runnable.proofs.Scopes.{is_domain-kept, is_untyped-kept}
use Rattle.dpl_bound.specs.Bounds.{bound_new, bound_declare, bound_stmt, bound_stmts}
use Rattle.dpl_runnable.specs.InSight.{seen_of, AreOpen, behind_body}

-- ONE MORE NAME
pub next_open : (s : Scope) (ss : Scopes) → count_in (s ∷ ss) ≡ next_slot_in (s ∷ ss)
next_open s ss = omega arith

-- an empty scope has no domain in sight
over_by-empty : (self : Origin) (t : Option ValueType) → over_by ([] ∷ []) self t ≡ over_by [] self t
over_by-empty self None = refl
over_by-empty self _ = refl

pub sight_of-next : (d : Declared) (ss : Scopes) → sight_of (add d ss) ≡ bind (sighted_at ss d (next_slot_in ss)) (sight_of ss)
sight_of-next d [] = ap (λ o. (record (sighted (bound_at d 1) PlainForm) { over = o } ∷ []) ∷ []) (over_by-empty d.origin d.type)
sight_of-next d (s ∷ ss) = ap (λ n. bind (sighted_at (s ∷ ss) d n) (sight_of (s ∷ ss))) (next_open s ss)

-- a name that is over no domain
pub sight_of-plain : (d : Declared) (ss : Scopes) → over_by ss d.origin d.type ≡ None → sight_of (add d ss) ≡ bind (sighted (bound_new ss d) PlainForm) (sight_of ss)
sight_of-plain d ss e = sight_of-next d ss ∙ ap (λ o. bind (record (sighted (bound_new ss d) PlainForm) { over = o }) (sight_of ss)) e

pub unfound : (d : Option Declared) → is_some d ≡ false → d ≡ None
unfound None e = refl
unfound (Some d) e = absurd (let f : true ≡ false = e in cc)

-- where a scope is open, a name is declared as deep as it is
pub plain-add : (d : Declared) (ss : Scopes) (k : VariableKind) → kind_by d.type ≡ Some k → is_promoted_by d.type ≡ false → d.origin.depth ≡ length ss → declared_here ss d.origin.name ≡ false → AreOpen ss → AreOpen (add d ss)
plain-add d [] k kind single deep fresh h = absurd h
plain-add d (s ∷ ss) k kind single deep fresh h = (((k, kind, deep, single), unfound (find s d.origin.name) fresh, h.0), h.1)

pub open-known : (ss : Scopes) → AreOpen ss → AreKnownScopes ss
open-known [] h = absurd h
open-known (s ∷ ss) h = h

-- the latest declaration and those before it are
added-plain : (d : Declared) (ss : Scopes) → AreKnownScopes (add d ss) → HasKnownKind (Some d)
added-plain d [] h = (h.0.0.0, h.0.0.1, h.0.0.3)
added-plain d (s ∷ ss) h = (h.0.0.0, h.0.0.1, h.0.0.3)

before-plain : (d : Declared) (ss : Scopes) → AreKnownScopes (add d ss) → AreKnownScopes ss
before-plain d [] h = tt
before-plain d (s ∷ ss) h = (h.0.2, h.1)

pub added-new : (d : Declared) (ss : Scopes) → AreKnownScopes (add d ss) → declared_here ss d.origin.name ≡ false
added-new d [] h = refl
added-new d (s ∷ ss) h = ap is_some h.0.1

-- A NAME THAT IS NO ARRAY'S is declared as a plain variable, and is over no domain.
pub single-no_array : (k : VariableKind) → is_promoted k ≡ false → IsWhole k → ⊥
single-no_array (ArrayKind k) e h = let f : true ≡ false = e in cc
single-no_array _ e h = h

pub new-no_array : (ss : Scopes) (d : Declared) (k : VariableKind) → kind_by d.type ≡ Some k → is_promoted k ≡ false → IsWhole (bound_new ss d).variable.kind → ⊥
new-no_array ss d k kind single = subst (λ o. IsWhole (leaf_by o (Some (next_slot_in ss))).kind → ⊥) (sym kind) (single-no_array k single)

-- what is no array's
abbrev pub IsOverNone : Option ValueType → Type 0
IsOverNone t = (ss : Scopes) (self : Origin) → over_by ss self t ≡ None

array-promoted : (b : Bool) (l : Kind) (k : VariableKind) → kind_if b (ArrayKind l) ≡ Some k → is_promoted k ≡ false → ⊥
array-promoted b l k e single = let f : true ≡ false = ap is_promoted (kind_if-some b (ArrayKind l) k e).1 ∙ single in cc

pub single-over : (t : ValueType) (k : VariableKind) → value_kind t ≡ Some k → is_promoted k ≡ false → IsOverNone (Some t)
single-over (Array l over) k e single = absurd (array-promoted (is_rank over.rank) l k e single)
single-over _ k e single = λ ss self. refl

pub single-type : (t : ValueType) (k : VariableKind) → value_kind t ≡ Some k → is_promoted k ≡ false → is_promoted_type t ≡ false
single-type (Promoted l over) k e single = absurd (array-promoted (is_rank over.rank) l k e single)
single-type _ k e single = refl

-- ---- DECLARATIONS: a name without a type is no array's
pub unless-both : (bs : List Breach) (o : Option ValueType) (t : ValueType) → unless_refused bs o ≡ Some t → (bs ≡ []) × (o ≡ Some t)
unless-both [] o t e = (refl, e)
unless-both (b ∷ bs) o t e = absurd (none-some t e)

pub kept-single : (t : ValueType) (k : VariableKind) → is_kept t ≡ true → value_kind t ≡ Some k → is_promoted k ≡ false
kept-single (Scalar IntKind) k h e = ap is_promoted (sym (kind-same (PlainKind IntLeaf) k e))
kept-single (Scalar BoolKind) k h e = ap is_promoted (sym (kind-same (PlainKind TruthLeaf) k e))
kept-single (Range strided) k h e = ap is_promoted (sym (kind-same (PlainKind RangeLeaf) k e))
kept-single (Domain rank strided) k h e = ap is_promoted (sym (kind_if-some (is_rank rank) DomainKind k e).1)
kept-single (Array l over) k h e = absurd (let f : false ≡ true = h in cc)
kept-single (Promoted l over) k h e = absurd (let f : false ≡ true = h in cc)
kept-single (Tuple rank) k h e = absurd (let f : false ≡ true = h in cc)
kept-single Locale k h e = absurd (none-some k e)
kept-single AllLocales k h e = absurd (none-some k e)
kept-single (Cell l) k h e = absurd (none-some k e)

kept-over : (ss : Scopes) (self : Origin) (t : ValueType) → is_kept t ≡ true → over_by ss self (Some t) ≡ None
kept-over ss self (Array l over) h = absurd (let f : false ≡ true = h in cc)
kept-over ss self _ h = refl

pub kind-typed : (o : Option ValueType) (k : VariableKind) → kind_by o ≡ Some k → (t : ValueType) × (o ≡ Some t)
kind-typed None k e = absurd (none-some k e)
kind-typed (Some t) k e = (t, refl)

-- what stands between an array's brackets is of a domain's type
ranges-domain : (from : Place) (ps : List Part) (t : ValueType) → type_by (ranges_verdict from ps) ≡ Some t → is_domain t ≡ true
ranges-domain from ps t e = ap is_domain (sym (judged-gives (all_known ps) (ranges_breaches from ps) (Domain (length ps) (any_strided ps)) t e).2)

or-domain : (from : Place) (ps : List Part) (o : Option (ℕ × Bool)) (t : ValueType) → type_by (domain_or o (ranges_verdict from ps)) ≡ Some t → is_domain t ≡ true
or-domain from ps None t e = ranges-domain from ps t e
or-domain from ps (Some d) t e = ap is_domain (sym (some-same (Domain d.0 d.1) t e))

pub over-domain : (from : Place) (ps : List Part) (t : ValueType) → type_by (over_verdict from ps) ≡ Some t → is_domain t ≡ true
over-domain from [] t e = ranges-domain from [] t e
over-domain from (p ∷ []) t e =
    let given = with_type-gives p.type (λ t. domain_or (domain_of t) (ranges_verdict from (p ∷ []))) t e in
    or-domain from (p ∷ []) (domain_of given.0) t given.2
over-domain from (p ∷ q ∷ ps) t e = ranges-domain from (p ∷ q ∷ ps) t e

module _ (ss : Scopes) where
  init-kept : (init : InitTree Text) (t : ValueType) → untyped_breaches ss init ≡ [] → (init_part ss init).type ≡ Some t → is_kept t ≡ true
  init-kept (ItemInit item mapped) t h e =
      let side = side_breaches ss item in
      let kept = owed_type (is_untyped mapped) (first_of_item item) (side_part ss item).type in
      let told = second_empty side kept (first_empty (side ++ kept) (mapped_breaches ss (type_rank (side_part ss item).type) mapped) h) in
      is_untyped-kept mapped t (owed_type-holds (is_untyped mapped) (first_of_item item) (side_part ss item).type t e told)
  init-kept (CreateInit c) t h e = is_domain-kept t (over-domain c.from (item_parts ss c.items) t e)

  initial-kept : (i : Option (InitialTree Text)) (t : ValueType) → where_given i (λ i. untyped_breaches ss i.init) ≡ [] → initial_type ss i ≡ Some t → is_kept t ≡ true
  initial-kept None t h e = absurd (none-some t e)
  initial-kept (Some i) t h e = init-kept i.init t h e

  pub untyped-declared : (d : DeclareTree Text) (t : ValueType) → type_of d.typed ≡ None → (declared_by ss d).type ≡ Some t → is_kept t ≡ true
  untyped-declared d t none e =
      let self = origin_in ss d.name.name in
      let once = owed (not (declared_here ss d.name.name)) d.name.at NameTwice in
      let written = written_breaches ss self (type_of d.typed) d.initial in
      let both = unless-both (declaration_breaches ss d) (type_given ss self (type_of d.typed) d.initial) t e in
      let told = second_empty once written (first_empty (once ++ written) (config_breaches ss d.config d) both.0) in
      initial-kept d.initial t (subst (λ o. written_breaches ss self o d.initial ≡ []) none told) (subst (λ o. type_given ss self o d.initial ≡ Some t) none both.1)

  -- ---- what is in sight of a declared name
  -- an array's type, by the domain that is found
  pub array-typed : (self : Origin) (a : ArrayTypeTree Text) (o : Option (ℕ × Bool)) (t : ValueType) → over_domain ss self a o ≡ Some t
      → (rank : ℕ) × (strided : Bool) × (o ≡ Some (rank, strided)) × (Array a.kind (record { rank = rank; strided = strided; base = base_over ss self (declared_over a.over) }) ≡ t)
  array-typed self a None t e = absurd (none-some t e)
  array-typed self a (Some d) t e = (d.0, d.1, refl, some-same (Array a.kind (record { rank = d.0; strided = d.1; base = base_over ss self (declared_over a.over) })) t e)

  module _ (d : DeclareTree Text) (known : AreKnownScopes ss) (alone : declared_here ss d.name.name ≡ false) where
    abbrev self : Origin
    self = origin_in ss d.name.name

    abbrev new_type : Option (TypeTree Text) → Option ValueType
    new_type y = unless_refused (declaration_breaches ss d) (type_given ss self y d.initial)

    by_type : (y : TypeTree Text) (t : ValueType) → new_type (Some y) ≡ Some t → over_of (form_by (Some (renamed_type (bound_in ss) y))) ≡ over_by ss self (Some t)
    by_type (ScalarType at k) t e = ap (over_by ss self) (unless-both (declaration_breaches ss d) (Some (Scalar k)) t e).1
    by_type (SyncType at kind_at k) t e = ap (over_by ss self) (unless-both (declaration_breaches ss d) (Some (Cell k)) t e).1
    by_type (DomainType y) t e = ap (over_by ss self) (unless-both (declaration_breaches ss d) (Some (Domain y.rank false)) t e).1
    by_type (ArrayType a) t e =
        let domain = domain_in (type_by (over_verdict a.from (item_parts ss a.over))) in
        let given = (unless-both (declaration_breaches ss d) (over_domain ss self a domain) t e).1 in
        let (rank, strided, found, is) = array-typed self a domain t given in
        ap domain_among (declared_over-renamed (bound_in ss) a.over)
        ∙ over-declared ss known d.name.name alone (declared_over a.over) a.kind (record { rank = rank; strided = strided; base = base_over ss self (declared_over a.over) }) refl
        ∙ ap (λ t. over_by ss self (Some t)) is

    by_typed : (w : Option (TypedTree Text)) (t : ValueType) → new_type (type_of w) ≡ Some t → (type_of w ≡ None → is_kept t ≡ true) → over_of (form_by (type_of (option_map (renamed_typed (bound_in ss)) w))) ≡ over_by ss self (Some t)
    by_typed None t e kept = sym (kept-over ss self t (kept refl))
    by_typed (Some w) t e kept = by_type w.type t e

    pub declared-over : HasKnownKind (Some (declared_by ss d)) → over_of (form_by (type_of (bound_declare ss d).typed)) ≡ over_by ss self (declared_by ss d).type
    declared-over kind =
        let typed = kind-typed (declared_by ss d).type kind.0 kind.1 in
        by_typed d.typed typed.0 typed.1 (λ none. untyped-declared d typed.0 none typed.1) ∙ sym (ap (over_by ss self) typed.1)

-- ---- BEHIND A STATEMENT stands one more name or none.
pub behind-cases : (P : Scopes → Type 0) (t : StmtTree Text) (ss : Scopes) → P ss → ((d : Declared) → P (add d ss)) → P (behind ss t)
behind-cases P (Declare d) ss same more = more (declared_by ss d)
behind-cases P _ ss same more = same

-- what is in sight before statements is plain where it is so behind them
stmt-plain : (t : StmtTree Text) (ss : Scopes) → AreKnownScopes (behind ss t) → AreKnownScopes ss
stmt-plain t ss = behind-cases (λ to. AreKnownScopes to → AreKnownScopes ss) t ss (λ h. h) (λ d. before-plain d ss)

stmts-plain : (ts : Stmts Text) (ss : Scopes) → AreKnownScopes (behind_all ss ts) → AreKnownScopes ss
stmts-plain NoStmts ss h = h
stmts-plain (Then t rest) ss h = stmt-plain t ss (stmts-plain rest (behind ss t) h)

-- BEHIND STATEMENTS
module _ (start : Start) where
  pub after-stmt : (t : StmtTree Text) (ss : Scopes) (is : List (Bound × Op)) → AreKnownScopes (behind ss t) → after (resolving start) (bound_stmt ss t) (seen_of ss is) ≡ seen_of (behind ss t) is
  after-stmt (Declare d) ss is plain =
      let new = declared_by ss d in
      let over = declared-over ss d (before-plain new ss plain) (added-new new ss plain) (added-plain new ss plain) in
      ap (λ o. record { frames = bind (record (sighted (bound_new ss new) PlainForm) { over = o }) (sight_of ss); intents = is }) over
      ∙ ap (λ fs. record { frames = fs; intents = is }) (sym (sight_of-next new ss))
  after-stmt _ ss is plain = refl

pub after-stmts : (start : Start) (ts : Stmts Text) (ss : Scopes) (is : List (Bound × Op)) → AreKnownScopes (behind_all ss ts) → after_all (resolving start) (bound_stmts ss ts) (seen_of ss is) ≡ seen_of (behind_all ss ts) is
after-stmts start NoStmts ss is plain = refl
after-stmts start (Then t rest) ss is plain =
    ap (after_all (resolving start) (bound_stmts (behind ss t) rest)) (after-stmt start t ss is (stmts-plain rest (behind ss t) plain)) ∙ after-stmts start rest (behind ss t) is plain

-- SCOPES THAT ARE LEFT
pub left-body : (s : Scope) (ss : Scopes) (b : Body Text) → drop 1 (behind_body (s ∷ ss) b) ≡ ss
left-body s ss (WordBody at t) = leave_behind s ss t
left-body s ss (BlockBody from ts upto) = leave_behind_all s ss ts

-- What is left at a program's end: the names of its top level, each with its kind and slot, are what is in sight there.
-- A scope has its latest declaration first, and names are told in order.
use Rattle.std.proofs.Common.{◌≡◌, ◌+◌, Bool, true, false, ℕ, List, [], ◌∷◌, ◌++◌, map, length, Option, Some, None, refl, sym, ap, ◌∙◌, subst}
use Rattle.std.specs.Prelude.{bytes_eq, if◌then◌else◌}
use Rattle.std.proofs.lemmas.List.{map-append}
use Rattle.std.proofs.lemmas.Option.{none-some}
use Rattle.std.proofs.lemmas.Slice.Eq.{bytes_eq-Decides}
use Rattle.dpl_language.specs.Tree.{Kind, IntKind, BoolKind, StmtTree, Stmts, NoStmts, Then}
use Rattle.dpl_language.specs.Names.{Text, Entry}
use Rattle.dpl_agreement.specs.Scopes.{PlainForm}
use Rattle.dpl_rules.specs.Sights.{Declared, Scope, Scopes, find, lookup, type_declared}
use Rattle.dpl_rules.specs.Types.{Over, ValueType, Scalar, Range, Domain, Array, Promoted, Tuple}
use Rattle.dpl_rules.specs.Loops.{behind}
use Rattle.dpl_rules.specs.Breaches.{top}
use Rattle.dpl_rules.specs.Sound.{behind_all}
use Rattle.dpl_scopes.specs.Slots.{slot_in}
use Rattle.dpl_memory.specs.Memory.{VariableKind, DomainKind, TupleKind, ArrayKind, Memory}
use Rattle.dpl_memory.specs.Resolved.{names_in_order, sighted, entry_in, frame_in}
use Rattle.dpl_runnable.specs.Kinds.{IsDeclaredKind}
use Rattle.dpl_typed.specs.Typed.{is_rank, is_tuple_rank}
use Rattle.dpl_typed.specs.Leaves.{kind_by, leaf_by}
use Rattle.dpl_bound.specs.Shapes.{shape_by}
use Rattle.dpl_runnable.proofs.Kept.{kind_if-some}
use Rattle.dpl_bound.specs.Sights.{bound_at, sighted_at, frame_from, sight_of, is_promoted_by, IsKnownScope, AreKnownScopes}
use Rattle.dpl_runnable.proofs.Sights.{HasKnownKind, lookup-known}
use Rattle.dpl_runnable.proofs.Scoped.{behind-cases}
use Rattle.dpl_outcome.specs.Names.{names_in, names_of}
use Rattle.dpl_outcome.specs.Leaving.{held_by, held_frame}
use Rattle.dpl_run.specs.TopLevel.{sighted_in, IsLeft, AreLeft}

-- ---- no scope is opened at the top
abbrev IsOne : Scopes → Type 0
IsOne ss = (s : Scope) × (ss ≡ s ∷ [])

behind-one : (s : Scope) (t : StmtTree Text) → IsOne (behind (s ∷ []) t)
behind-one s t = behind-cases IsOne t (s ∷ []) (s, refl) (λ d. (d ∷ s, refl))

behind_all-one : (s : Scope) (ts : Stmts Text) → IsOne (behind_all (s ∷ []) ts)
behind_all-one s NoStmts = (s, refl)
behind_all-one s (Then t rest) =
    let first = behind-one s t in
    let more = behind_all-one first.0 rest in
    (more.0, ap (λ ss. behind_all ss rest) first.1 ∙ more.1)

-- ---- a scope's names with their kinds and slots
-- a name that is found in a scope isn't the name of one more declaration
abbrev AreOther : Text → List Text → Type 0
AreOther y [] = Unit {0}
AreOther y (x ∷ xs) = (bytes_eq x y ≡ false) × AreOther y xs

AreOther-append : (y : Text) (xs : List Text) (x : Text) → AreOther y xs → bytes_eq x y ≡ false → AreOther y (xs ++ x ∷ [])
AreOther-append y [] x h e = (e, tt)
AreOther-append y (z ∷ xs) x h e = (h.0, AreOther-append y xs x h.1 e)

same_bytes : (x : Text) → bytes_eq x x ≡ true
same_bytes x = (bytes_eq-Decides x x).1 refl

differs : (x y : Text) (b : Bool) → bytes_eq x y ≡ b → (x ≡ y → ⊥) → bytes_eq x y ≡ false
differs x y true e n = absurd (n ((bytes_eq-Decides x y).0 e))
differs x y false e n = e

names-other : (y : Text) (ds : Scope) → find ds y ≡ None → AreOther y (names_in ds)
names-other y [] e = tt
names-other y (d ∷ ds) e = by (bytes_eq y d.origin.name) refl e (names-other y ds)
  where
    by : (b : Bool) → bytes_eq y d.origin.name ≡ b → (if b then Some d else find ds y) ≡ None → (find ds y ≡ None → AreOther y (names_in ds)) → AreOther y (names_in ds ++ d.origin.name ∷ [])
    by true f e others = absurd cc
    by false f e others =
        AreOther-append y (names_in ds) d.origin.name (others e)
        (differs d.origin.name y (bytes_eq d.origin.name y) refl (λ same. (let clash : true ≡ false = sym (same_bytes y) ∙ ap (bytes_eq y) (sym same) ∙ f in cc)))

-- what is in sight of a name that one more declaration has not
name-later : (d : Declared) (ds : Scope) (x : Text) → bytes_eq x d.origin.name ≡ false → sighted_in ((d ∷ ds) ∷ []) x ≡ sighted_in (ds ∷ []) x
name-later d ds x e = rw e refl

names-later : (d : Declared) (ds : Scope) (xs : List Text) → AreOther d.origin.name xs → map (sighted_in ((d ∷ ds) ∷ [])) xs ≡ map (sighted_in (ds ∷ [])) xs
names-later d ds [] h = refl
names-later d ds (x ∷ xs) h = ap (λ b. b ∷ map (sighted_in ((d ∷ ds) ∷ [])) xs) (name-later d ds x h.0) ∙ ap (λ bs. sighted_in (ds ∷ []) x ∷ bs) (names-later d ds xs h.1)

name-latest : (d : Declared) (ds : Scope) → sighted_in ((d ∷ ds) ∷ []) d.origin.name ≡ sighted (bound_at d (length ds + 1)) PlainForm
name-latest d ds = rw (same_bytes d.origin.name) refl

-- what they hold in a memory; over which domain an array is makes no difference
frame-names : (s : Memory) (ds : Scope) → IsKnownScope 1 ds → frame_in s (frame_from 1 [] ds) ≡ frame_in s (map (sighted_in (ds ∷ [])) (names_in ds))
frame-names s [] h = refl
frame-names s (d ∷ ds) h =
    map-append (entry_in s) (frame_from 1 [] ds) (sighted_at (ds ∷ []) d (length ds + 1) ∷ [])
    ∙ ap (λ es. es ++ entry_in s (sighted (bound_at d (length ds + 1)) PlainForm) ∷ []) (frame-names s ds h.2 ∙ ap (frame_in s) (sym (names-later d ds (names_in ds) (names-other d.origin.name ds h.1))))
    ∙ ap (λ b. frame_in s (map (sighted_in ((d ∷ ds) ∷ [])) (names_in ds)) ++ entry_in s b ∷ []) (sym (name-latest d ds))
    ∙ sym (map-append (entry_in s) (map (sighted_in ((d ∷ ds) ∷ [])) (names_in ds)) (sighted_in ((d ∷ ds) ∷ []) d.origin.name ∷ []))
    ∙ ap (frame_in s) (sym (map-append (sighted_in ((d ∷ ds) ∷ [])) (names_in ds) (d.origin.name ∷ [])))

-- ---- what is in sight at the end
names_in_order-one : (m : Memory) (ss : Scopes) (s : Scope) → ss ≡ s ∷ [] → AreKnownScopes ss → frame_in m (names_in_order (sight_of ss)) ≡ frame_in m (map (sighted_in ss) (names_of ss))
names_in_order-one m ss s one known =
    let scope : IsKnownScope 1 s = (subst AreKnownScopes one known).0 in
    ap (λ ss. frame_in m (names_in_order (sight_of ss))) one
    ∙ frame-names m s scope
    ∙ ap (λ ss. frame_in m (map (sighted_in ss) (names_of ss))) (sym one)

pub names_in_order-top : (m : Memory) (ts : Stmts Text) → AreKnownScopes (behind_all top ts) → frame_in m (names_in_order (sight_of (behind_all top ts))) ≡ frame_in m (map (sighted_in (behind_all top ts)) (names_of (behind_all top ts)))
names_in_order-top m ts known =
    let one = behind_all-one [] ts in
    names_in_order-one m (behind_all top ts) one.0 one.1 known

-- ---- what variables hold
abbrev HoldsAlike : Memory → Text → Option ℕ → Option ValueType → Type 0
HoldsAlike s x slot t = record { name = x; content = held_by t slot s } ≡ entry_in s (sighted (record { text = x; variable = leaf_by (kind_by t) slot; shape = shape_by t }) PlainForm)

scalar-held : (s : Memory) (x : Text) (slot : Option ℕ) (l : Kind) → HoldsAlike s x slot (Some (Scalar l))
scalar-held s x None IntKind = refl
scalar-held s x None BoolKind = refl
scalar-held s x (Some slot) IntKind = refl
scalar-held s x (Some slot) BoolKind = refl

range-held : (s : Memory) (x : Text) (slot : Option ℕ) (strided : Bool) → HoldsAlike s x slot (Some (Range strided))
range-held s x None strided = refl
range-held s x (Some slot) strided = refl

domain-held : (s : Memory) (x : Text) (slot : Option ℕ) (rank : ℕ) (strided : Bool) → is_rank rank ≡ true → HoldsAlike s x slot (Some (Domain rank strided))
domain-held s x None rank strided r = rw r refl
domain-held s x (Some slot) rank strided r = rw r refl

array-held : (s : Memory) (x : Text) (slot : Option ℕ) (l : Kind) (over : Over) → is_rank over.rank ≡ true → HoldsAlike s x slot (Some (Array l over))
array-held s x None l over r = rw r refl
array-held s x (Some slot) l over r = rw r refl

type-held : (s : Memory) (x : Text) (slot : Option ℕ) (t : Option ValueType) (k : VariableKind) → kind_by t ≡ Some k → IsDeclaredKind k → is_promoted_by t ≡ false → HoldsAlike s x slot t
type-held s x slot (Some (Scalar l)) k e kept single = scalar-held s x slot l
type-held s x slot (Some (Range strided)) k e kept single = range-held s x slot strided
type-held s x slot (Some (Domain rank strided)) k e kept single = domain-held s x slot rank strided (kind_if-some (is_rank rank) DomainKind k e).0
type-held s x slot (Some (Array l over)) k e kept single = array-held s x slot l over (kind_if-some (is_rank over.rank) (ArrayKind l) k e).0
type-held s x slot (Some (Promoted l over)) k e kept single = absurd (let f : true ≡ false = single in cc)
type-held s x slot (Some (Tuple rank)) k e kept single = absurd (subst IsDeclaredKind (sym (kind_if-some (is_tuple_rank rank) TupleKind k e).1) kept)
type-held s x slot _ k e kept single = absurd (none-some k e)

declared-held : (s : Memory) (x : Text) (slot : Option ℕ) (o : Option Declared) → HasKnownKind o → IsLeft o → HoldsAlike s x slot (type_declared o)
declared-held s x slot None known is = refl
declared-held s x slot (Some d) known is = type-held s x slot d.type is.0 is.1 is.2 known.2

pub held-frame : (scopes : Scopes) (s : Memory) → AreKnownScopes scopes → AreLeft scopes → (xs : List Text) → held_frame scopes s xs ≡ frame_in s (map (sighted_in scopes) xs)
held-frame scopes s known are [] = refl
held-frame scopes s known are (x ∷ xs) =
    ap (λ (e : Entry). e ∷ held_frame scopes s xs) (declared-held s x (slot_in scopes x) (lookup scopes x) (lookup-known scopes x known) (are x))
    ∙ ap (λ es. entry_in s (sighted_in scopes x) ∷ es) (held-frame scopes s known are xs)

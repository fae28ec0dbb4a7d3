-- Names in sight, resolved: a name has the kind and the slot of its innermost declaration, and the next slot is no one's.
-- Scopes that are opened, closed and added to are sights that are.
use Rattle.std.proofs.Common.{◌≡◌, ◌≢◌, ℕ, suc, ◌+◌, ◌≤◌, Bool, true, false, List, [], ◌∷◌, ◌++◌, length, Option, Some, None, refl, sym, ap, ◌∙◌, subst, arith}
use Rattle.std.specs.Prelude.{bytes_eq, if◌then◌else◌}
use Rattle.std.specs.Option.{option_or}
use Rattle.std.proofs.lemmas.Slice.Eq.{bytes_eq-Decides}
use Rattle.dpl_language.specs.Names.{Text}
use Rattle.dpl_rules.specs.Sights.{Declared, Scope, Scopes, find, lookup, type_declared, enter, add}
use Rattle.dpl_sound.proofs.Given.{some-same}
use Rattle.dpl_scopes.specs.Slots.{count_in, next_slot_in, place_in, slot_or, slot_in}
use Rattle.dpl_memory.specs.Memory.{Variable, VariableKind}
use Rattle.dpl_memory.specs.Resolved.{Shape, Sighted, Known, known_in, innermost, IsUnusedIn, IsUnused, bind}
use Rattle.dpl_typed.specs.Leaves.{kind_by, leaf_by, leaf_in, IsFound}
use Rattle.dpl_bound.specs.Shapes.{shape_by, shape_in}
use Rattle.dpl_bound.specs.Sights.{sighted_at, frame_from, sight_of, is_promoted_by, IsKnownScope, AreKnownScopes}

-- A NAME'S KIND, SLOT AND SHAPE
abbrev known_of : Variable → Shape → Known
known_of x shape = (x.kind, x.slot, shape)

-- the latest of a frame counts
known_in-append : (x : Text) (bs : List Sighted) (b : Sighted) → known_in x (bs ++ b ∷ []) ≡ (if bytes_eq x b.text then Some (b.kind, b.slot, b.shape) else known_in x bs)
known_in-append x [] b = refl
known_in-append x (c ∷ bs) b =
    ap (λ o. option_or o (if bytes_eq x c.text then Some (c.kind, c.slot, c.shape) else None)) (known_in-append x bs b) ∙ by (bytes_eq x b.text)
  where
    by : (t : Bool) → option_or (if t then Some (b.kind, b.slot, b.shape) else known_in x bs) (if bytes_eq x c.text then Some (c.kind, c.slot, c.shape) else None)
        ≡ (if t then Some (b.kind, b.slot, b.shape) else known_in x (c ∷ bs))
    by true = refl
    by false = refl

-- what a declaration that is found is, by its type and its place
abbrev known_found : Option Declared → Option ℕ → Option Known
known_found None slot = None
known_found (Some d) slot = Some (known_of (leaf_by (kind_by d.type) slot) (shape_by d.type))

-- the latest declaration is found, or else one before it
latest_found : (d : Declared) (slot : ℕ) (k : Option Known) (o : Option Declared) (p : Option ℕ) → k ≡ known_found o p → (t : Bool)
    → (if t then Some (known_of (leaf_by (kind_by d.type) (Some slot)) (shape_by d.type)) else k) ≡ known_found (if t then Some d else o) (if t then Some slot else p)
latest_found d slot k o p others true = refl
latest_found d slot k o p others false = others

known_in-frame_from : (begin : ℕ) (outside : Scopes) (x : Text) (ds : Scope) → known_in x (frame_from begin outside ds) ≡ known_found (find ds x) (place_in ds x begin)
known_in-frame_from begin outside x [] = refl
known_in-frame_from begin outside x (d ∷ ds) =
    known_in-append x (frame_from begin outside ds) (sighted_at (ds ∷ outside) d (length ds + begin))
    ∙ latest_found d (length ds + begin) (known_in x (frame_from begin outside ds)) (find ds x) (place_in ds x begin) (known_in-frame_from begin outside x ds) (bytes_eq x d.origin.name)

-- a declaration is found where its place is
abbrev FoundAlike : Option Declared → Option ℕ → Type 0
FoundAlike None None = Unit {0}
FoundAlike None (Some n) = ⊥
FoundAlike (Some d) None = ⊥
FoundAlike (Some d) (Some n) = Unit {0}

found_alike : (begin : ℕ) (x : Text) (ds : Scope) → FoundAlike (find ds x) (place_in ds x begin)
found_alike begin x [] = tt
found_alike begin x (d ∷ ds) =
    elim (bytes_eq x d.origin.name) as (λ t. FoundAlike (if t then Some d else find ds x) (if t then Some (length ds + begin) else place_in ds x begin))
    [ true ↦ tt | false ↦ found_alike begin x ds ]

known_found-or : (f g : Option Declared) (p q : Option ℕ) → FoundAlike f p → option_or (known_found f p) (known_found g q) ≡ known_found (option_or f g) (slot_or p q)
known_found-or None g None q h = refl
known_found-or None g (Some n) q h = absurd h
known_found-or (Some d) g None q h = absurd h
known_found-or (Some d) g (Some n) q h = refl

innermost-sight_of : (x : Text) (ss : Scopes) → innermost x (sight_of ss) ≡ known_found (lookup ss x) (slot_in ss x)
innermost-sight_of x [] = refl
innermost-sight_of x (s ∷ ss) =
    ap (λ o. option_or o (innermost x (sight_of ss))) (known_in-frame_from (suc (count_in ss)) ss x s)
    ∙ ap (option_or (known_found (find s x) (place_in s x (suc (count_in ss))))) (innermost-sight_of x ss)
    ∙ known_found-or (find s x) (lookup ss x) (place_in s x (suc (count_in ss))) (slot_in ss x) (found_alike (suc (count_in ss)) x s)

known_found-kind : (o : Option Declared) (p : Option ℕ) (k : VariableKind) → kind_by (type_declared o) ≡ Some k → known_found o p ≡ Some (known_of (leaf_by (kind_by (type_declared o)) p) (shape_by (type_declared o)))
known_found-kind None p k e = absurd cc
known_found-kind (Some d) p k e = refl

-- a name in sight has those of its leaf, and its type's shape
pub innermost-found : (x : Text) (ss : Scopes) → AreKnownScopes ss → IsFound ss x → innermost x (sight_of ss) ≡ Some ((leaf_in ss x).kind, (leaf_in ss x).slot, shape_in ss x)
innermost-found x ss h (k, slot, kind, at) = innermost-sight_of x ss ∙ known_found-kind (lookup ss x) (slot_in ss x) k kind

-- WHAT IS IN SIGHT HAS A KIND
abbrev pub HasKnownKind : Option Declared → Type 0
HasKnownKind None = Unit {0}
HasKnownKind (Some d) = (k : VariableKind) × (kind_by d.type ≡ Some k) × (is_promoted_by d.type ≡ false)

find-known : (depth : ℕ) (s : Scope) (x : Text) → IsKnownScope depth s → HasKnownKind (find s x)
find-known depth [] x h = tt
find-known depth (d ∷ ds) x h = elim (bytes_eq x d.origin.name) as (λ b. HasKnownKind (if b then Some d else find ds x)) [ true ↦ (h.0.0, h.0.1, h.0.3) | false ↦ find-known depth ds x h.2 ]

or-known : (a b : Option Declared) → HasKnownKind a → HasKnownKind b → HasKnownKind (option_or a b)
or-known None b p q = q
or-known (Some d) b p q = p

pub lookup-known : (ss : Scopes) (x : Text) → AreKnownScopes ss → HasKnownKind (lookup ss x)
lookup-known [] x h = tt
lookup-known (s ∷ ss) x h = or-known (find s x) (lookup ss x) (find-known (suc (length ss)) s x h.0) (lookup-known ss x h.1)

-- A DECLARATION THAT IS FOUND has the name
pub find-name : (s : Scope) (x : Text) (d : Declared) → find s x ≡ Some d → x ≡ d.origin.name
find-name [] x d e = absurd cc
find-name (c ∷ cs) x d e = by (bytes_eq x c.origin.name) refl e (find-name cs x d)
  where
    by : (b : Bool) → bytes_eq x c.origin.name ≡ b → (if b then Some c else find cs x) ≡ Some d → (find cs x ≡ Some d → x ≡ d.origin.name) → x ≡ d.origin.name
    by true q e more = (bytes_eq-Decides x c.origin.name).0 q ∙ ap (λ (d : Declared). d.origin.name) (some-same c d e)
    by false q e more = more e

pub lookup-name : (ss : Scopes) (x : Text) (d : Declared) → lookup ss x ≡ Some d → x ≡ d.origin.name
lookup-name [] x d e = absurd cc
lookup-name (s ∷ ss) x d e = by (find s x) e (find-name s x d) (lookup-name ss x d)
  where
    by : (o : Option Declared) → option_or o (lookup ss x) ≡ Some d → (o ≡ Some d → x ≡ d.origin.name) → (lookup ss x ≡ Some d → x ≡ d.origin.name) → x ≡ d.origin.name
    by None e own others = others e
    by (Some c) e own others = own e

-- THE NEXT SLOT
IsUnusedIn-append : (slot : ℕ) (bs : List Sighted) (b : Sighted) → IsUnusedIn slot bs → slot ≢ b.slot → IsUnusedIn slot (bs ++ b ∷ [])
IsUnusedIn-append slot [] b h n = (n, tt)
IsUnusedIn-append slot (c ∷ bs) b h n = (h.0, IsUnusedIn-append slot bs b h.1 n)

unused_frame : (slot begin depth : ℕ) (outside : Scopes) (ds : Scope) → IsKnownScope depth ds → length ds + begin ≤ slot → IsUnusedIn slot (frame_from begin outside ds)
unused_frame slot begin depth outside [] h le = tt
unused_frame slot begin depth outside (d ∷ ds) h le =
    let others : length ds + begin ≤ slot = omega (arith, le) in
    IsUnusedIn-append slot (frame_from begin outside ds) (sighted_at (ds ∷ outside) d (length ds + begin)) (unused_frame slot begin depth outside ds h.2 others)
    (subst (λ o. slot ≢ (leaf_by o (Some (length ds + begin))).slot) (sym h.0.1) (λ e. omega (arith, le, e)))

unused_sight : (slot : ℕ) (ss : Scopes) → AreKnownScopes ss → count_in ss ≤ slot → IsUnused slot (sight_of ss)
unused_sight slot [] h le = tt
unused_sight slot (s ∷ ss) h le =
    let outer : count_in ss ≤ slot = omega (arith, le) in
    (unused_frame slot (suc (count_in ss)) (suc (length ss)) ss s h.0 le, unused_sight slot ss h.1 outer)

pub unused_next : (ss : Scopes) → AreKnownScopes ss → IsUnused (next_slot_in ss) (sight_of ss)
unused_next ss h = unused_sight (next_slot_in ss) ss h (omega arith)

-- SCOPES
pub sight_of-enter : (ss : Scopes) → sight_of (enter ss) ≡ [] ∷ sight_of ss
sight_of-enter ss = refl

pub sight_of-add : (d : Declared) (s : Scope) (ss : Scopes) → sight_of (add d (s ∷ ss)) ≡ bind (sighted_at (s ∷ ss) d (count_in (s ∷ ss))) (sight_of (s ∷ ss))
sight_of-add d s ss = refl

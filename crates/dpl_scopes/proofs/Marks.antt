-- What marks say of names: which declaration is at a name's place, and whether it is in the innermost scope.
-- Marks are the latest first here, as in their definition, and in order where a lemma says `reverse`.
use Rattle.std.proofs.Common.{◌≡◌, ℕ, zero, suc, ◌<◌, ◌≤◌, max, Bool, true, false, nat_eq, List, [], ◌∷◌, ◌++◌, length, reverse, Option, Some, None, IfSome, slice_get, refl, sym, ap, subst, ◌∙◌, eq-eqb, arith}
use Rattle.std.proofs.lemmas.List.{length-reverse, reverse-append, reverse-reverse}
use Rattle.std.proofs.lemmas.Bool.{ne_eqb}
use Rattle.std.specs.Prelude.{bytes_eq, if◌then◌else◌}
use Rattle.dpl_language.specs.Names.{Text}
use Rattle.dpl_rules.specs.Sights.{Declared, lookup, declared_here}
use Rattle.dpl_scopes.specs.declared.scopes.Mark.{Mark}
use Rattle.dpl_scopes.specs.declared.scopes.Mark.TheVariants.{Opens, Declares}
use Rattle.dpl_scopes.specs.View.{declared_view}
use Rattle.dpl_scopes.specs.Marks.{scopes_by, place, AreKept}
use Rattle.dpl_scopes.proofs.Sights.{lookup-add, declared_here-add, length-add}

-- ---- how many scopes
pub length-scopes_by : (ms : List Mark) → length (scopes_by ms) ≤ length ms
length-scopes_by [] = omega arith
length-scopes_by (Opens ∷ ms) = omega (arith, length-scopes_by ms)
length-scopes_by (Declares e ∷ ms) =
    let more = length-add (declared_view e.declared) (scopes_by ms) in
    omega (arith, more, length-scopes_by ms)

-- ---- the declaration at a place
abbrev pub declaration : Option Mark → Option Declared
declaration None = None
declaration (Some Opens) = None
declaration (Some (Declares e)) = Some (declared_view e.declared)

-- what is read of the mark at a place
abbrev pub read_at : {A : Type 0} → (Option Mark → Option A) → List Mark → Option ℕ → Option A
read_at read ms None = None
read_at read ms (Some k) = read (slice_get ms k)

slice_get-before : {A : Type 0} (xs : List A) (x : A) (k : ℕ) → k < length xs → slice_get (xs ++ x ∷ []) k ≡ slice_get xs k
slice_get-before [] x k h = absurd (omega (arith, h))
slice_get-before (y ∷ xs) x zero h = refl
slice_get-before (y ∷ xs) x (suc k) h = slice_get-before xs x k (omega (arith, h))

slice_get-last : {A : Type 0} (xs : List A) (x : A) → slice_get (xs ++ x ∷ []) (length xs) ≡ Some x
slice_get-last [] x = refl
slice_get-last (y ∷ xs) x = slice_get-last xs x

below-more : (k : Option ℕ) (n : ℕ) → IfSome k (λ k. k < n) → IfSome k (λ k. k < suc n)
below-more None n h = tt
below-more (Some k) n h = omega (arith, h)

pub place-below : (ms : List Mark) (x : Text) → IfSome (place ms x) (λ k. k < length ms)
place-below [] x = tt
place-below (Opens ∷ ms) x = below-more (place ms x) (length ms) (place-below ms x)
place-below (Declares e ∷ ms) x =
    elim (bytes_eq x e.declared.origin.name.now) as (λ t. IfSome (if t then Some (length ms) else place ms x) (λ k. k < suc (length ms)))
    [ true ↦ omega arith | false ↦ below-more (place ms x) (length ms) (place-below ms x) ]

pub earlier : {A : Type 0} (read : Option Mark → Option A) (ms : List Mark) (m : Mark) (k : Option ℕ) → IfSome k (λ k. k < length ms) → read_at read (reverse ms ++ m ∷ []) k ≡ read_at read (reverse ms) k
earlier read ms m None h = refl
earlier read ms m (Some k) h = ap read (slice_get-before (reverse ms) m k (subst (λ n. k < n) (sym (length-reverse ms)) h))

pub latest : {A : Type 0} (read : Option Mark → Option A) (ms : List Mark) (m : Mark) → read_at read (reverse ms ++ m ∷ []) (Some (length ms)) ≡ read (Some m)
latest read ms m = ap (λ n. read (slice_get (reverse ms ++ m ∷ []) n)) (sym (length-reverse ms)) ∙ ap read (slice_get-last (reverse ms) m)

-- what was declared last is at the place of the name
lookup-scopes_by : (ms : List Mark) (x : Text) → read_at declaration (reverse ms) (place ms x) ≡ lookup (scopes_by ms) x
lookup-scopes_by [] x = refl
lookup-scopes_by (Opens ∷ ms) x =
    ap (λ l. read_at declaration l (place ms x)) (reverse-append (Opens ∷ []) ms)
    ∙ earlier declaration ms Opens (place ms x) (place-below ms x)
    ∙ lookup-scopes_by ms x
lookup-scopes_by (Declares e ∷ ms) x =
    ap (λ l. read_at declaration l (place (Declares e ∷ ms) x)) (reverse-append (Declares e ∷ []) ms)
    ∙ (elim (bytes_eq x e.declared.origin.name.now) as (λ t. read_at declaration (reverse ms ++ Declares e ∷ []) (if t then Some (length ms) else place ms x) ≡ (if t then Some (declared_view e.declared) else lookup (scopes_by ms) x))
    [ true ↦ latest declaration ms (Declares e) | false ↦ earlier declaration ms (Declares e) (place ms x) (place-below ms x) ∙ lookup-scopes_by ms x ])
    ∙ sym (lookup-add (declared_view e.declared) (scopes_by ms) x)

-- the same of marks in order
pub lookup-marks : (ms : List Mark) (x : Text) → read_at declaration ms (place (reverse ms) x) ≡ lookup (scopes_by (reverse ms)) x
lookup-marks ms x = ap (λ l. read_at declaration l (place (reverse ms) x)) (sym (reverse-reverse ms)) ∙ lookup-scopes_by (reverse ms) x

-- ---- whether a name is declared in the innermost scope
-- a declaration in sight is in the innermost scope, if it is as deep as that; what no scope was open around, is in the first
abbrev pub IsDeepIn : ℕ → Bool → Option Declared → Type 0
IsDeepIn depth here None = here ≡ false
IsDeepIn depth here (Some d) = (max d.origin.depth 1 ≤ depth) × (here ≡ nat_eq (max d.origin.depth 1) depth)

entered : (depth : ℕ) (here : Bool) (found : Option Declared) → IsDeepIn depth here found → IsDeepIn (suc depth) false found
entered depth here None h = refl
entered depth here (Some d) h = (omega (arith, h.0), sym (ne_eqb (max d.origin.depth 1) (suc depth) (λ e. omega (arith, h.0, e))))

added : (depth : ℕ) (here : Bool) (found : Option Declared) → IsDeepIn depth here found → IsDeepIn (max depth 1) here found
added depth here None h = h
added depth here (Some d) h = subst (λ n. IsDeepIn n here (Some d)) (omega (arith, h.0)) h

pub declared_here-deep : (ms : List Mark) → AreKept ms → (x : Text) → IsDeepIn (length (scopes_by ms)) (declared_here (scopes_by ms) x) (lookup (scopes_by ms) x)
declared_here-deep [] kept x = refl
declared_here-deep (Opens ∷ ms) kept x = entered (length (scopes_by ms)) (declared_here (scopes_by ms) x) (lookup (scopes_by ms) x) (declared_here-deep ms kept x)
declared_here-deep (Declares e ∷ ms) kept x =
    let d = declared_view e.declared in
    let ss = scopes_by ms in
    let rest = added (length ss) (declared_here ss x) (lookup ss x) (declared_here-deep ms kept.3 x) in
    let one = subst (λ n. IsDeepIn (max n 1) true (Some d)) kept.0 (omega arith, sym (eq-eqb (max d.origin.depth 1) (max d.origin.depth 1) refl)) in
    rw (length-add d ss, declared_here-add d ss x, lookup-add d ss x)
    (elim (bytes_eq x e.declared.origin.name.now) as (λ t. IsDeepIn (max (length ss) 1) (if t then true else declared_here ss x) (if t then Some d else lookup ss x))
    [ true ↦ one | false ↦ rest ])

-- the declaration that is found, is in the innermost scope or isn't
pub declared_here-found : (ms : List Mark) → AreKept ms → (x : Text) (d : Declared) → Some d ≡ lookup (scopes_by ms) x
    → nat_eq (max d.origin.depth 1) (length (scopes_by ms)) ≡ declared_here (scopes_by ms) x
declared_here-found ms kept x d found =
    let ss = scopes_by ms in
    sym (subst (IsDeepIn (length ss) (declared_here ss x)) (sym found) (declared_here-deep ms kept x)).1

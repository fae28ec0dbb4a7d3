-- Where a store has what the scopes declare, the environment by names fits these scopes; declarations, scopes that are
-- opened and closed, assignments of values of the declared type and stores of elements of the kind keep it so.
use Rattle.std.proofs.Common.{◌≡◌, Bool, true, false, List, [], ◌∷◌, Option, Some, refl, sym, subst}
use Rattle.std.specs.Prelude.{bytes_eq, if◌then◌else◌}
use Rattle.std.specs.Option.{option_or}
use Rattle.dpl_sets.specs.TextRanges.{TextRange}
use Rattle.dpl_language.specs.Tree.{Kind}
use Rattle.dpl_language.specs.Values.{Value, Array, Index}
use Rattle.dpl_language.specs.Ranges.{same_index, indices_in}
use Rattle.dpl_language.specs.Environment.{Content, Plain, ArrayOf, CellOf}
use Rattle.dpl_language.specs.Names.{Text, Opened, Declared as Kept, Store, State, look_up, without_innermost, element_at, element_in, by_name}
use Rattle.dpl_rules.specs.Types.{Over, ValueType, Array as ArrayType}
use Rattle.dpl_rules.specs.Sights.{Declared, Scope, Scopes, find, lookup, declared_here, enter, add, type_declared}
use Rattle.dpl_sound.proofs.Given.{some-same}
use Rattle.dpl_sound.specs.Typed.{OfKind, AreRanked, HasType, Fits}
use Rattle.dpl_sound.specs.Runs.{Keeps}
use Rattle.dpl_sound.specs.Stores.{AllOfKind, ContentFits, StoreFits}

-- ---- what is found
-- by whether the latest declaration has the name
found_fits : (b : Bool) (d : Declared) (c : Content Text) (o ds : Option Declared) (cs : Content Text) (t : ValueType) → ContentFits d.type c
    → (type_declared (option_or o ds) ≡ Some t → ContentFits (Some t) cs) → type_declared (option_or (if b then Some d else o) ds) ≡ Some t → ContentFits (Some t) (if b then c else cs)
found_fits true d c o ds cs t h others e = subst (λ o. ContentFits o c) e h
found_fits false d c o ds cs t h others e = others e

-- a name with a type holds what is of that type
pub look_up-fits : (ss : Scopes) (es : Store) → StoreFits ss es → (x : Text) (t : ValueType) → type_declared (lookup ss x) ≡ Some t → ContentFits (Some t) (look_up x es)
look_up-fits [] [] h x t e = absurd cc
look_up-fits [] (i ∷ es) h x t e = elim h [ ]
look_up-fits ([] ∷ ss) [] h x t e =
    let none : type_declared (lookup [] x) ≡ Some t = subst (λ ss. type_declared (lookup ss x) ≡ Some t) h e in
    absurd cc
look_up-fits ([] ∷ ss) (Opened ∷ es) h x t e = look_up-fits ss es h x t e
look_up-fits ([] ∷ ss) (Kept i ∷ es) h x t e = elim h [ ]
look_up-fits ((d ∷ ds) ∷ ss) [] h x t e = elim h [ ]
look_up-fits ((d ∷ ds) ∷ ss) (Opened ∷ es) h x t e = elim h [ ]
look_up-fits ((d ∷ ds) ∷ ss) (Kept i ∷ es) h x t e =
    subst (λ n. ContentFits (Some t) (if bytes_eq x n then i.content else look_up x es)) h.0
    (found_fits (bytes_eq x d.origin.name) d i.content (find ds x) (lookup ss x) (look_up x es) t h.1 (look_up-fits (ds ∷ ss) es h.2 x t) e)

element_at-if : (k : Kind) (t i : Index) (is : List Index) (v w : Value) (vs : List Value) (b : Bool) → OfKind k v → (element_at t is vs ≡ Some w → OfKind k w)
    → (if b then Some v else element_at t is vs) ≡ Some w → OfKind k w
element_at-if k t i is v w vs true hv others e = subst (OfKind k) (some-same v w e) hv
element_at-if k t i is v w vs false hv others e = others e

element_at-kind : (k : Kind) (t : Index) (is : List Index) (vs : List Value) (w : Value) → AllOfKind k vs → element_at t is vs ≡ Some w → OfKind k w
element_at-kind k t [] vs w h e = absurd cc
element_at-kind k t (i ∷ is) [] w h e = absurd cc
element_at-kind k t (i ∷ is) (v ∷ vs) w h e = element_at-if k t i is v w vs (same_index t i) h.0 (element_at-kind k t is vs w h.1) e

pub array_kind : (l k : Kind) (rs qs : List TextRange) → Array l rs ≡ Array k qs → l ≡ k
array_kind l k rs qs e = cc

-- what an array's name holds has elements of the array's kind
element_in-kind : (c : Content Text) (k : Kind) (over : Over) (i : Index) (w : Value) → ContentFits (Some (ArrayType k over)) c → element_in i c ≡ Some w → OfKind k w
element_in-kind (Plain v) k over i w h e = absurd cc
element_in-kind (ArrayOf name l rs vs) k over i w h e = subst (λ j. OfKind j w) (array_kind l k rs h.0.0 h.0.1) (element_at-kind l i (indices_in rs) vs w h.1 e)
element_in-kind (CellOf l c) k over i w h e = absurd cc

-- the environment by names fits
pub by_name-fits : (scopes : Scopes) (s : State) → StoreFits scopes s.store → Fits by_name scopes s
by_name-fits scopes s h = record {
  values = λ x t e. (look_up-fits scopes s.store h x t e).0;
  elements = λ x k over e i w p. element_in-kind (look_up x s.store) k over i w (look_up-fits scopes s.store h x (ArrayType k over) e) p;
}

-- ---- one more name, with a content of its type
pub declared-fits : (ss : Scopes) (es : Store) (d : Declared) (c : Content Text) → StoreFits ss es → ContentFits d.type c
    → StoreFits (add d ss) (Kept (record { name = d.origin.name; content = c }) ∷ es)
declared-fits [] [] d c h fits = (refl, fits, refl)
declared-fits [] (e ∷ es) d c h fits = elim h [ ]
declared-fits (ds ∷ ss) es d c h fits = (refl, fits, h)

-- a scope opened, and closed again
pub enter-fits : (ss : Scopes) (es : Store) → StoreFits ss es → StoreFits (enter ss) (Opened ∷ es)
enter-fits ss es h = h

pub leave-fits : (ds : Scope) (ss : Scopes) (es : Store) → StoreFits (ds ∷ ss) es → StoreFits ss (without_innermost es)
leave-fits [] ss [] h = subst (λ ss. StoreFits ss []) (sym h) tt
leave-fits [] ss (Opened ∷ es) h = h
leave-fits [] ss (Kept e ∷ es) h = elim h [ ]
leave-fits (d ∷ ds) ss [] h = elim h [ ]
leave-fits (d ∷ ds) ss (Opened ∷ es) h = elim h [ ]
leave-fits (d ∷ ds) ss (Kept e ∷ es) h = leave-fits ds ss es h.2

-- ---- the environment by names: a declared name, of a plain value and of an array
pub plain-fits : (scopes : Scopes) (s : State) (d : Declared) (t : ValueType) (v : Value) → Keeps scopes s → declared_here scopes d.origin.name ≡ false → d.type ≡ Some t
    → HasType v t → Keeps (add d scopes) (by_name.declare d.origin.name (Plain v) s)
plain-fits scopes s d t v h new e hv =
    declared-fits scopes s.store d (Plain v) h (subst (λ o. ContentFits o (Plain v)) (sym e) (hv, tt))

pub array-fits : (scopes : Scopes) (s : State) (d : Declared) (k : Kind) (over : Over) (name : Option Text) (rs : List TextRange) (vs : List Value) → Keeps scopes s
    → declared_here scopes d.origin.name ≡ false → d.type ≡ Some (ArrayType k over) → AreRanked over.rank over.strided rs → AllOfKind k vs
    → Keeps (add d scopes) (by_name.declare d.origin.name (ArrayOf name k rs vs) s)
array-fits scopes s d k over name rs vs h new e hr hv =
    declared-fits scopes s.store d (ArrayOf name k rs vs) h
    (subst (λ o. ContentFits o (ArrayOf name k rs vs)) (sym e) ((rs, refl, hr), hv))

-- Elements that are gathered index by index, and what they are in the end.
-- An index that is looked at adds what the array holds there, if it is wanted.
use Rattle.std.proofs.Common.{◌≡◌, ◌⊎◌, ◌&&◌, ◌||◌, ◌+◌, ℕ, zero, suc, ℤ, List, [], ◌∷◌, ◌++◌, map, take, slice_get, append_assoc, append-nil, arith, filter, Bool, true, false, cond, Option, Some, None, inl, inr, refl, ap, sym, subst, ◌∙◌, ⊎_elim}
use Rattle.std.specs.List.{flat_map}
use Rattle.std.proofs.lemmas.Option.{none-some, same_Some}
use Rattle.dpl_sets.specs.Ranges.{RangeValue}
use Rattle.dpl_range.proofs.Lists.{filter-alike}
use Rattle.dpl_sets.specs.Indices.{indices}
use Rattle.dpl_array.specs.Elements.{Elements, same_index, value_at, element_before, tabulated}
use Rattle.dpl_array.specs.Arrays.{ArrayValue, IsArray}
use Rattle.dpl_array.specs.Rows.{StandsIn}
use Rattle.dpl_array.proofs.ElementLemmas.{index-cases, not-same, same_index-refl, tabulated-same}
use Rattle.dpl_halo.specs.Gathering.{GatheredValue, IsGathered, every}
use Rattle.dpl_halo.specs.Loans.{LoanValue, lent}
use Rattle.dpl_halo.specs.Listed.{is_listed}
use Rattle.dpl_halo.proofs.ListedLemmas.{listed-push, or-true, or-false}

and-false : (b : Bool) → (b && false) ≡ false
and-false true = refl
and-false false = refl

nothing : {T : Type 0} (b : Bool) → cond {A = Option T} b None None ≡ None
nothing true = refl
nothing false = refl

module _ {T : Type 0} (a : ArrayValue T) (wants : List ℤ → Bool) (seen : List (List ℤ)) (g h : GatheredValue T) (u : List ℤ) (gathered : IsGathered a wants seen g) where
  -- an index that is another one
  elsewhere : (t : List ℤ) → same_index t u ≡ false → value_at t g.elements ≡ cond (is_listed (seen ++ u ∷ []) t && wants t) (value_at t a.elements) None
  elsewhere t other =
      gathered.values t
      ∙ ap (λ b. cond (b && wants t) (value_at t a.elements) None) (sym (listed-push seen u t ∙ ap (λ b. is_listed seen t || b) other ∙ or-false (is_listed seen t)))

  -- an index at which nothing is added, since it is not wanted or the array has nothing there
  pub gather-nothing : (wants u ≡ false) ⊎ (value_at u a.elements ≡ None) → IsGathered a wants (seen ++ u ∷ []) g
  gather-nothing none = record { domain = gathered.domain; values = values }
    where
      empty : (o : Option T) (b c : Bool) → (c ≡ false) ⊎ (o ≡ None) → cond (b && c) o None ≡ None
      empty o b c (inl lacks) = ap (λ x. cond (b && x) o None) lacks ∙ ap (λ x. cond x o None) (and-false b)
      empty o b c (inr lacks) = ap (λ x. cond (b && c) x None) lacks ∙ nothing (b && c)

      values : (t : List ℤ) → value_at t g.elements ≡ cond (is_listed (seen ++ u ∷ []) t && wants t) (value_at t a.elements) None
      values t =
          ⊎_elim
          (λ (here : t ≡ u).
          let lacks : (wants t ≡ false) ⊎ (value_at t a.elements ≡ None) = subst (λ s. (wants s ≡ false) ⊎ (value_at s a.elements ≡ None)) (sym here) none in
          gathered.values t ∙ empty (value_at t a.elements) (is_listed seen t) (wants t) lacks ∙ sym (empty (value_at t a.elements) (is_listed (seen ++ u ∷ []) t) (wants t) lacks))
          (elsewhere t)
          (index-cases t u)

  -- an index at which the array's element is added
  pub gather-some : (v : T) → wants u ≡ true → value_at u a.elements ≡ Some v → h.domain ≡ g.domain → ((t : List ℤ) → value_at t h.elements ≡ cond (same_index u t) (Some v) (value_at t g.elements)) → IsGathered a wants (seen ++ u ∷ []) h
  gather-some v wanted some domain put = record { domain = domain ∙ gathered.domain; values = values }
    where
      values : (t : List ℤ) → value_at t h.elements ≡ cond (is_listed (seen ++ u ∷ []) t && wants t) (value_at t a.elements) None
      values t =
          ⊎_elim
          (λ (here : t ≡ u).
          let first : same_index u t ≡ true = ap (same_index u) here ∙ same_index-refl u in
          let second : same_index t u ≡ true = ap (same_index t) (sym here) ∙ same_index-refl t in
          put t ∙ ap (λ b. cond b (Some v) (value_at t g.elements)) first ∙ sym (ap (λ s. value_at s a.elements) here ∙ some)
          ∙ sym (ap (λ b. cond (b && wants t) (value_at t a.elements) None) (listed-push seen u t ∙ ap (λ b. is_listed seen t || b) second ∙ or-true (is_listed seen t)) ∙ ap (λ b. cond b (value_at t a.elements) None) (ap wants here ∙ wanted)))
          (λ (other : same_index t u ≡ false).
          let apart : same_index u t ≡ false = not-same u t (λ same. absurd (let yes : same_index t u ≡ true = ap (same_index t) same ∙ same_index-refl t in let no : true ≡ false = sym yes ∙ other in cc)) in
          put t ∙ ap (λ b. cond b (Some v) (value_at t g.elements)) apart ∙ elsewhere t other)
          (index-cases t u)

-- ONE AFTER ANOTHER
map-push : {X Y : Type 0} (f : X → Y) (xs : List X) (x : X) → map f (xs ++ x ∷ []) ≡ map f xs ++ f x ∷ []
map-push f [] x = refl
map-push f (y ∷ xs) x = ap (λ ys. f y ∷ ys) (map-push f xs x)

module _ {T : Type 0} (a : ArrayValue T) (wants : List ℤ → Bool) (g : GatheredValue T) where
  pub gather-mapped : (seen gone : List (List ℤ)) (f : List ℤ → List ℤ) (t : List ℤ) → IsGathered a wants ((seen ++ map f gone) ++ f t ∷ []) g → IsGathered a wants (seen ++ map f (gone ++ t ∷ [])) g
  gather-mapped seen gone f t gathered = subst (λ ts. IsGathered a wants ts g) (append_assoc seen (map f gone) (f t ∷ []) ∙ ap (λ us. seen ++ us) (sym (map-push f gone t))) gathered

  pub gather-onto : (seen before more : List (List ℤ)) (all : List (List ℤ)) → all ≡ before ++ more → IsGathered a wants ((seen ++ before) ++ more) g → IsGathered a wants (seen ++ all) g
  gather-onto seen before more all is gathered = subst (λ ts. IsGathered a wants ts g) (append_assoc seen before more ∙ ap (λ us. seen ++ us) (sym is)) gathered

  pub gather-more : (before more all : List (List ℤ)) → all ≡ before ++ more → IsGathered a wants (before ++ more) g → IsGathered a wants all g
  gather-more before more all is gathered = subst (λ ts. IsGathered a wants ts g) (sym is) gathered

  pub gather-start : (seen : List (List ℤ)) → IsGathered a wants seen g → IsGathered a wants (seen ++ []) g
  gather-start seen gathered = subst (λ ts. IsGathered a wants ts g) (sym (append-nil seen)) gathered

-- the lists of the first elements, and of one more
pub flat-take : {X Y : Type 0} (f : X → List Y) (xs : List X) (k : ℕ) (x : X) → slice_get xs k ≡ Some x → flat_map f (take (k + 1) xs) ≡ flat_map f (take k xs) ++ f x
flat-take f [] k x found = absurd (none-some x found)
flat-take f (y ∷ xs) zero x found = append-nil (f y) ∙ ap f (same_Some y x found)
flat-take f (y ∷ xs) (suc k) x found =
    let e : suc k + 1 ≡ suc (k + 1) = omega arith in
    ap (λ n. flat_map f (take n (y ∷ xs))) e ∙ ap (λ ys. f y ++ ys) (flat-take f xs k x found) ∙ sym (append_assoc (f y) (flat_map f (take k xs)) (f x))

-- NOTHING AND ALL
pub gather-first : {T : Type 0} (a : ArrayValue T) (wants : List ℤ → Bool) (g : GatheredValue T) → g.domain ≡ a.domain → g.elements ≡ [] → IsGathered a wants [] g
gather-first a wants g domain none = record { domain = domain; values = λ t. ap (value_at t) none }

filter-tabulated : {T : Type 0} (p : List ℤ → Bool) (ts : List (List ℤ)) (f : List ℤ → Option T) → filter (λ e. p e.0) (tabulated ts f) ≡ tabulated ts (λ t. cond (p t) (f t) None)
filter-tabulated p [] f = refl
filter-tabulated {T = T} p (t ∷ ts) f = by (f t) (p t) refl (filter-tabulated p ts f)
  where
    rest : Elements T
    rest = tabulated ts (λ s. cond (p s) (f s) None)

    by : (o : Option T) (b : Bool) → p t ≡ b → filter (λ e. p e.0) (tabulated ts f) ≡ rest → filter (λ e. p e.0) (element_before t o (tabulated ts f)) ≡ element_before t (cond b o None) rest
    by None true is others = others
    by None false is others = others
    by (Some v) true is others = rw is (ap (λ es. (t, v) ∷ es) others)
    by (Some v) false is others = rw is others

pub gather-last :
    {T : Type 0} (a : ArrayValue T) (wants : List ℤ → Bool) (seen names : List (List ℤ)) (g : GatheredValue T) → IsArray a → IsGathered a wants seen g → tabulated (indices g.domain) (λ t. value_at t g.elements) ≡ g.elements
    → ((t : List ℤ) → is_listed seen t ≡ is_listed names t) → g.elements ≡ filter (λ e. is_listed names e.0 && wants e.0) a.elements
gather-last {T = T} a wants seen names g over gathered formed same =
    sym formed ∙ ap (λ d. tabulated (indices d) (λ t. value_at t g.elements)) gathered.domain
    ∙ tabulated-same (indices a.domain) (λ t. value_at t g.elements) kept each
    ∙ sym (filter-tabulated (λ t. is_listed names t && wants t) (indices a.domain) (λ t. value_at t a.elements))
    ∙ ap (filter (λ e. is_listed names e.0 && wants e.0)) over.values
  where
    kept : List ℤ → Option T
    kept t = cond (is_listed names t && wants t) (value_at t a.elements) None

    each : (t : List ℤ) → StandsIn (indices a.domain) t → value_at t g.elements ≡ kept t
    each t at = gathered.values t ∙ ap (λ b. cond (b && wants t) (value_at t a.elements) None) (same t)

-- A LOAN
-- where each index is wanted, the elements are those whose index is listed
pub lent-is : {T : Type 0} (a : ArrayValue T) (domains : List (List RangeValue)) (g : GatheredValue T) → IsGathered a every (flat_map indices domains) g → g.elements ≡ filter (λ e. is_listed (flat_map indices domains) e.0 && every e.0) a.elements → ◌≡◌ {A = LoanValue T} (record { domain = g.domain; elements = g.elements }) (lent a domains)
lent-is {T = T} a domains g gathered elements =
    ap {A = List RangeValue} {B = LoanValue T} (λ d. record { domain = d; elements = g.elements }) gathered.domain
    ∙ ap {A = Elements T} {B = LoanValue T} (λ es. record { domain = a.domain; elements = es }) (elements ∙ filter-alike (λ e. is_listed (flat_map indices domains) e.0 && every e.0) (λ e. is_listed (flat_map indices domains) e.0) a.elements (λ k e found. and-true (is_listed (flat_map indices domains) e.0)))
  where
    and-true : (b : Bool) → (b && true) ≡ b
    and-true true = refl
    and-true false = refl

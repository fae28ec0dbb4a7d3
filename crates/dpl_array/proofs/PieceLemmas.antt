-- What the row of a piece says of its elements.
-- They take the invariant of a piece, and serve its calls one by one.
use Rattle.std.proofs.Common.{◌≡◌, ◌↔◌, ◌≤◌, ◌==◌, filter, ◌<◌, ℕ, ℤ, List, [], ◌∷◌, ◌++◌, drop, length, slice_get, slice_set, replicate, Option, Some, None, refl, ap, sym, subst, ◌∙◌, arith}
use Rattle.std.specs.List.{zip}
use Rattle.std.proofs.lemmas.Option.{none-some, same_Some, slice_get_within}
use Rattle.dpl_sets.specs.Ranges.{RangeValue}
use Rattle.dpl_sets.specs.Indices.{indices}
use Rattle.dpl_map.specs.Maps.{AxisValue, owner}
use Rattle.dpl_map.specs.Parts.{part}
use Rattle.dpl_array.specs.Elements.{Elements, value_at, with_value, keys_of, IsOver, filled, tabulated}
use Rattle.dpl_array.specs.Arrays.{PieceValue}
use Rattle.dpl_array.specs.PieceFields.{kept_at, IsKept}
use Rattle.dpl_array.specs.Rows.{row_of, StandsIn, IsDistinct}
use Rattle.dpl_array.proofs.DistinctLemmas.{row-one, tabulated-zip}
use Rattle.dpl_array.proofs.ElementLemmas.{changed, zip-there, zip-absent, zip-some, zip-replicate, zip-set, tabulated-none, tabulated-there, tabulated-same, tabulated-filled, tabulated-over, with_value-tabulated}

-- what a search for an index in the row of some domains answers
abbrev pub Places : List (List RangeValue) → List ℤ → Option ℕ → Type 0
Places ds t r = (k : ℕ) → (r ≡ Some k) ↔ (slice_get (row_of ds) k ≡ Some t)

-- where an index stands at a place alone, a search answers that place
pub places-alone : (ds : List (List RangeValue)) (t : List ℤ) (o : ℕ) → IsDistinct (row_of ds) → slice_get (row_of ds) o ≡ Some t → Places ds t (Some o)
places-alone ds t o distinct found k = (
  (λ is. ap (slice_get (row_of ds)) (sym (same_Some o k is)) ∙ found),
  (λ there. ap Some (distinct o k t found there)),
)

module _ {T : Type 0} (domain : List RangeValue) (axes : List AxisValue) (locale : ℕ) (parts : List (List RangeValue)) (starts : List ℕ) (values : List T) (kept : IsKept domain axes locale parts starts (length values)) where
  -- there is a value for each index of the part
  pub kept-some : (t : List ℤ) → StandsIn (part domain axes locale) t → (v : T) × (kept_at parts values t ≡ Some v)
  kept-some t at = zip-some (row_of parts) values t kept.long ((kept.same t).1 at)

  pub kept-over : IsOver (part domain axes locale) (tabulated (part domain axes locale) (kept_at parts values))
  kept-over = tabulated-over (part domain axes locale) (kept_at parts values) kept-some

  -- what the piece holds at an index of its row
  pub kept-value : (t : List ℤ) → StandsIn (row_of parts) t → value_at t (tabulated (part domain axes locale) (kept_at parts values)) ≡ kept_at parts values t
  kept-value t at = tabulated-there (part domain axes locale) (kept_at parts values) t ((kept.same t).0 at)

  -- indices and values side by side are the elements in the order of the row
  pub kept-row : zip (row_of parts) values ≡ tabulated (row_of parts) (λ t. value_at t (tabulated (part domain axes locale) (kept_at parts values)))
  kept-row =
      sym (tabulated-zip (row_of parts) values kept.long kept.distinct)
      ∙ tabulated-same (row_of parts) (kept_at parts values) (λ t. value_at t (tabulated (part domain axes locale) (kept_at parts values))) (λ t at. sym (kept-value t at))

  -- where the part is one domain, in their own order
  pub kept-one : length parts ≤ 1 → zip (row_of parts) values ≡ tabulated (part domain axes locale) (kept_at parts values)
  kept-one few = sym (tabulated-zip (row_of parts) values kept.long kept.distinct) ∙ ap (λ ts. tabulated ts (kept_at parts values)) (row-one (part domain axes locale) parts kept.cut few)

  -- and the value at a place among them is the value at the index there
  pub kept-place : length parts ≤ 1 → (o : ℕ) (t : List ℤ) → slice_get (keys_of (tabulated (part domain axes locale) (kept_at parts values))) o ≡ Some t → value_at t (tabulated (part domain axes locale) (kept_at parts values)) ≡ slice_get values o
  kept-place few o t at =
      let found : slice_get (row_of parts) o ≡ Some t = ap (λ ts. slice_get ts o) (row-one (part domain axes locale) parts kept.cut few ∙ sym kept-over.keys) ∙ at in
      kept-value t (o, found) ∙ zip-there (row_of parts) values o t found (λ j here. kept.distinct j o t here found)

  pub kept-within : (o : ℕ) (t : List ℤ) → slice_get (keys_of (tabulated (part domain axes locale) (kept_at parts values))) o ≡ Some t → length parts ≤ 1 → o < length values
  kept-within o t at few =
      let found : slice_get (row_of parts) o ≡ Some t = ap (λ ts. slice_get ts o) (row-one (part domain axes locale) parts kept.cut few ∙ sym kept-over.keys) ∙ at in
      let within = slice_get_within (row_of parts) o t found in
      omega (arith, within, kept.long)

  module _ (ds : List (List RangeValue)) (same : ds ≡ parts) (t : List ℤ) where
    pub piece-absent : Places ds t None → value_at t (tabulated (part domain axes locale) (kept_at parts values)) ≡ None
    piece-absent finds =
        let places = subst (λ ds. Places ds t None) same finds in
        tabulated-none (part domain axes locale) (kept_at parts values) t (zip-absent (row_of parts) values t (λ j found. none-some j ((places j).1 found)))

    module _ (o : ℕ) (finds : Places ds t (Some o)) where
      places : Places parts t (Some o)
      places = subst (λ ds. Places ds t (Some o)) same finds

      found : slice_get (row_of parts) o ≡ Some t
      found = (places o).0 refl

      one : (j : ℕ) → slice_get (row_of parts) j ≡ Some t → j ≡ o
      one j at = sym (same_Some o j ((places j).1 at))

      pub place-within : o < length values
      place-within = let within = slice_get_within (row_of parts) o t found in omega (arith, within, kept.long)

      pub piece-there : value_at t (tabulated (part domain axes locale) (kept_at parts values)) ≡ slice_get values o
      unfolding found one places
      piece-there =
          tabulated-there (part domain axes locale) (kept_at parts values) t ((kept.same t).0 (o, found))
          ∙ zip-there (row_of parts) values o t found one

      -- a value that is written there
      pub piece-set : (v : T) → tabulated (part domain axes locale) (kept_at parts (slice_set values o v)) ≡ with_value t v (tabulated (part domain axes locale) (kept_at parts values))
      piece-set v =
          tabulated-same (part domain axes locale) (kept_at parts (slice_set values o v)) (changed t v (kept_at parts values)) (λ s at. zip-set (row_of parts) values o t v found one s)
          ∙ sym (with_value-tabulated t v (part domain axes locale) (kept_at parts values))

-- WALKS ALONG THE ROW
zip-nothing : {T : Type 0} (ts : List (List ℤ)) → zip {K = List ℤ} {X = T} ts [] ≡ []
zip-nothing [] = refl
zip-nothing (t ∷ ts) = refl

module _ {T : Type 0} (vs : List T) where
  -- a walk begins with the first domain, and goes on with the others
  pub walk-some : (ds : List (List RangeValue)) (d : List RangeValue) → slice_get ds 0 ≡ Some d → zip (indices d ++ row_of (drop 1 ds)) (drop 0 vs) ≡ zip (row_of ds) vs
  walk-some [] d found = absurd (none-some d found)
  walk-some (e ∷ ds) d found = ap (λ x. zip (indices x ++ row_of ds) vs) (sym (same_Some e d found))

  -- where there is no domain, there is no value either
  pub walk-none : (ds : List (List RangeValue)) (ts : List (List ℤ)) → ds ≡ [] → length vs ≡ length (row_of ds) → zip (ts ++ row_of (drop 0 ds)) (drop 0 vs) ≡ zip (row_of ds) vs
  walk-none ds ts none long = let nothing : vs ≡ [] = no-values vs (long ∙ ap (λ es. length (row_of es)) none) in rw nothing (zip-nothing {T = T} (ts ++ row_of (drop 0 ds)) ∙ sym (zip-nothing {T = T} (row_of ds)))
    where
      no-values : (ws : List T) → length ws ≡ 0 → ws ≡ []
      no-values [] none = refl
      no-values (w ∷ ws) none = absurd (omega (arith, none))

  -- at the end of the values nothing is left
  pub walk-end : (ts : List (List ℤ)) → vs ≡ [] → zip (drop 1 ts) vs ≡ drop 1 (zip ts vs)
  walk-end [] none = refl
  walk-end (t ∷ ts) none = rw none (zip-nothing {T = T} ts)

-- one value everywhere
pub piece-filled : {T : Type 0} (ts : List (List ℤ)) (parts : List (List RangeValue)) (v : T) → ((t : List ℤ) → StandsIn (row_of parts) t ↔ StandsIn ts t) → tabulated ts (kept_at parts (replicate (length (row_of parts)) v)) ≡ filled ts v
piece-filled ts parts v same =
    tabulated-same ts (kept_at parts (replicate (length (row_of parts)) v)) (λ _. Some v) (λ t at. zip-replicate (row_of parts) t v ((same t).1 at))
    ∙ tabulated-filled ts v

-- a part is told by the indices of the domain
pub part-same : (d e : List RangeValue) (axes : List AxisValue) (l : ℕ) → indices d ≡ indices e → part d axes l ≡ part e axes l
unfolding part
part-same d e axes l same = ap (filter (λ t. owner axes t == l)) same

-- the piece of an array over another domain
abbrev pub with_domain : {T : Type 0} → List RangeValue → PieceValue T → PieceValue T
with_domain domain p = record p { domain = domain }

pub in-domain : {T : Type 0} (domain : List RangeValue) (axes : List AxisValue) (locale : ℕ) (elements : List (List ℤ) → Elements T) (ts us : List (List ℤ)) → ts ≡ us → ◌≡◌ {A = PieceValue T} (record { domain = domain; map = axes; locale = locale; elements = elements us }) (record { domain = domain; map = axes; locale = locale; elements = elements ts })
in-domain {T = T} domain axes locale elements ts us same = ap {A = List (List ℤ)} {B = PieceValue T} (λ vs. record { domain = domain; map = axes; locale = locale; elements = elements vs }) (sym same)

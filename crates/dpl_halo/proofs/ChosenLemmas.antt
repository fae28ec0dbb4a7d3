-- What a function from places gives of the indices of a list.
-- Each index stands at one place, so what the list of elements holds there is what the function gives of it.
use Rattle.std.proofs.Common.{◌≡◌, ◌<◌, ◌≤◌, ◌+◌, Less, Greater, is_eq, ℕ, zero, suc, ℤ, List, [], ◌∷◌, length, slice_get, true, false, cond, Option, Some, None, is_some, refl, ap, sym, subst, ◌∙◌, arith, ⊎_elim}
use Rattle.std.specs.Option.{option_map}
use Rattle.std.specs.Ordering.{nat_cmp}
use Rattle.std.specs.BTreeMap.{BTreeMap, get, is_at, Updates}
use Rattle.std.specs.Map.{lookup}
use Rattle.std.specs.Cmp.{nat_cmp_is}
use Rattle.std.proofs.lemmas.Bool.{cases_eq, cases_lt}
use Rattle.std.proofs.lemmas.Option.{none-some, same_Some}
use Rattle.dpl_sets.specs.Ranges.{RangeValue}
use Rattle.dpl_sets.specs.Indices.{indices}
use Rattle.dpl_array.specs.Elements.{Elements, same_index, value_at, with_value, element_before, tabulated}
use Rattle.dpl_array.specs.Rows.{IsDistinct, StandsIn}
use Rattle.dpl_array.proofs.DistinctLemmas.{distinct-head, distinct-tail}
use Rattle.dpl_array.proofs.ElementLemmas.{changed, not-same, same_index-refl, stands-later, with_value-tabulated}
use Rattle.dpl_halo.specs.Gathering.{GatheredValue, IsTaken, chosen}
use Rattle.dpl_halo.proofs.ListedLemmas.{stands-cases}

-- another value at one place of a function
pub record IsChanged {T : Type 0} (k : ℕ) (v : T) (f g : ℕ → Option T) : Type 0 where
  pub here : g k ≡ Some v
  pub others : (q : ℕ) → (q ≡ k → ⊥) → g q ≡ f q

later-changed : {T : Type 0} (k : ℕ) (v : T) (f g : ℕ → Option T) → IsChanged (suc k) v f g → IsChanged k v (λ q. f (suc q)) (λ q. g (suc q))
later-changed k v f g change = record { here = change.here; others = λ q other. change.others (suc q) (λ e. other (omega (arith, e))) }

module _ {T : Type 0} where
  pub chosen-none : (ts : List (List ℤ)) (f : ℕ → Option T) (t : List ℤ) → (StandsIn ts t → ⊥) → value_at t (chosen ts f) ≡ None
  chosen-none [] f t none = refl
  chosen-none (s ∷ ts) f t none = by (f 0) (chosen-none ts (λ k. f (suc k)) t (λ at. none (stands-later s ts t at)))
    where
      other : same_index t s ≡ false
      other = not-same t s (λ same. none (0, ap Some (sym same)))

      by : (o : Option T) → value_at t (chosen ts (λ k. f (suc k))) ≡ None → value_at t (element_before s o (chosen ts (λ k. f (suc k)))) ≡ None
      by None rest = rest
      by (Some v) rest = rw other rest

  pub chosen-at : (ts : List (List ℤ)) (f : ℕ → Option T) (k : ℕ) (t : List ℤ) → IsDistinct ts → slice_get ts k ≡ Some t → value_at t (chosen ts f) ≡ f k
  chosen-at [] f k t distinct found = absurd (none-some t found)
  chosen-at (s ∷ ts) f zero t distinct found = by (f 0) refl
    where
      same : same_index t s ≡ true
      same = ap (same_index t) (same_Some s t found) ∙ same_index-refl t

      gone : StandsIn ts t → ⊥
      gone at = distinct-head s ts distinct (subst (StandsIn ts) (sym (same_Some s t found)) at)

      by : (o : Option T) → f 0 ≡ o → value_at t (element_before s o (chosen ts (λ k. f (suc k)))) ≡ o
      by None is = chosen-none ts (λ k. f (suc k)) t gone
      by (Some v) is = rw same refl
  chosen-at (s ∷ ts) f (suc k) t distinct found = by (f 0) (chosen-at ts (λ q. f (suc q)) k t (distinct-tail s ts distinct) found)
    where
      other : same_index t s ≡ false
      other = not-same t s (λ same. distinct-head s ts distinct (subst (StandsIn ts) same (k, found)))

      by : (o : Option T) → value_at t (chosen ts (λ q. f (suc q))) ≡ f (suc k) → value_at t (element_before s o (chosen ts (λ q. f (suc q)))) ≡ f (suc k)
      by None rest = rest
      by (Some v) rest = rw other rest

  -- it is what a function of the indices gives, where the two agree
  pub chosen-tabulated : (ts : List (List ℤ)) (f : ℕ → Option T) (g : List ℤ → Option T) → ((k : ℕ) (t : List ℤ) → slice_get ts k ≡ Some t → f k ≡ g t) → chosen ts f ≡ tabulated ts g
  chosen-tabulated [] f g same = refl
  chosen-tabulated (t ∷ ts) f g same =
      ap (λ o. element_before t o (chosen ts (λ k. f (suc k)))) (same 0 t refl)
      ∙ ap (element_before t (g t)) (chosen-tabulated ts (λ k. f (suc k)) g (λ k s found. same (suc k) s found))

  pub chosen-formed : (ts : List (List ℤ)) (f : ℕ → Option T) → IsDistinct ts → tabulated ts (λ t. value_at t (chosen ts f)) ≡ chosen ts f
  chosen-formed ts f distinct = sym (chosen-tabulated ts f (λ t. value_at t (chosen ts f)) (λ k t found. sym (chosen-at ts f k t distinct found)))

  pub chosen-nothing : (ts : List (List ℤ)) (f : ℕ → Option T) → ((k : ℕ) → f k ≡ None) → chosen ts f ≡ []
  chosen-nothing [] f none = refl
  chosen-nothing (t ∷ ts) f none =
      ap (λ o. element_before t o (chosen ts (λ k. f (suc k)))) (none 0) ∙ chosen-nothing ts (λ k. f (suc k)) (λ k. none (suc k))

  pub chosen-short : (ts : List (List ℤ)) (f : ℕ → Option T) → length (chosen ts f) ≤ length ts
  chosen-short [] f = omega arith
  chosen-short (t ∷ ts) f = by (f 0) (chosen-short ts (λ k. f (suc k)))
    where
      by : (o : Option T) → length (chosen ts (λ k. f (suc k))) ≤ length ts → length (element_before t o (chosen ts (λ k. f (suc k)))) ≤ length (t ∷ ts)
      by None rest = omega (arith, rest)
      by (Some v) rest = omega (arith, rest)

  -- ANOTHER VALUE AT ONE PLACE
  chosen-same : (ts : List (List ℤ)) (f g : ℕ → Option T) → ((k : ℕ) → f k ≡ g k) → chosen ts f ≡ chosen ts g
  chosen-same [] f g same = refl
  chosen-same (t ∷ ts) f g same =
      ap (λ o. element_before t o (chosen ts (λ k. f (suc k)))) (same 0)
      ∙ ap (element_before t (g 0)) (chosen-same ts (λ k. f (suc k)) (λ k. g (suc k)) (λ k. same (suc k)))

  longer : (t : List ℤ) (o p : Option T) (es : Elements T) (v : T) → p ≡ Some v → length (element_before t p es) ≡ length (element_before t o es) + cond (is_some o) 0 1
  longer t None p es v is = rw is (omega arith)
  longer t (Some w) p es v is = rw is (omega arith)

  pub chosen-count : (ts : List (List ℤ)) (f g : ℕ → Option T) (k : ℕ) (t : List ℤ) (v : T) → slice_get ts k ≡ Some t → IsChanged k v f g → length (chosen ts g) ≡ length (chosen ts f) + cond (is_some (f k)) 0 1
  chosen-count [] f g k t v found change = absurd (none-some t found)
  chosen-count (s ∷ ts) f g zero t v found change =
      longer s (f 0) (g 0) (chosen ts (λ q. g (suc q))) v change.here
      ∙ ap (λ es. length (element_before s (f 0) es) + cond (is_some (f 0)) 0 1) (chosen-same ts (λ q. g (suc q)) (λ q. f (suc q)) (λ q. change.others (suc q) (λ e. absurd (omega (arith, e)))))
  chosen-count (s ∷ ts) f g (suc k) t v found change =
      ap (λ o. length (element_before s o (chosen ts (λ q. g (suc q))))) (change.others 0 (λ e. absurd (omega (arith, e))))
      ∙ by (f 0) (chosen-count ts (λ q. f (suc q)) (λ q. g (suc q)) k t v found (later-changed k v f g change))
    where
      by : (o : Option T) → length (chosen ts (λ q. g (suc q))) ≡ length (chosen ts (λ q. f (suc q))) + cond (is_some (f (suc k))) 0 1 → length (element_before s o (chosen ts (λ q. g (suc q)))) ≡ length (element_before s o (chosen ts (λ q. f (suc q)))) + cond (is_some (f (suc k))) 0 1
      by None rest = rest
      by (Some w) rest = omega (arith, rest)

  module _ (ts : List (List ℤ)) (f g : ℕ → Option T) (k : ℕ) (t : List ℤ) (v : T) (distinct : IsDistinct ts) (found : slice_get ts k ≡ Some t) (change : IsChanged k v f g) where
    -- what it holds at an index now
    pub chosen-put : (s : List ℤ) → value_at s (chosen ts g) ≡ cond (same_index t s) (Some v) (value_at s (chosen ts f))
    chosen-put s = ⊎_elim there absent (stands-cases ts s)
      where
        absent : (StandsIn ts s → ⊥) → value_at s (chosen ts g) ≡ cond (same_index t s) (Some v) (value_at s (chosen ts f))
        absent none =
            let other : same_index t s ≡ false = not-same t s (λ same. none (k, found ∙ ap Some same)) in
            chosen-none ts g s none ∙ sym (ap (λ b. cond b (Some v) (value_at s (chosen ts f))) other ∙ chosen-none ts f s none)

        there : StandsIn ts s → value_at s (chosen ts g) ≡ cond (same_index t s) (Some v) (value_at s (chosen ts f))
        there at =
            ⊎_elim
            (λ (same : at.0 ≡ k).
            let e : s ≡ t = same_Some s t (sym at.1 ∙ ap (slice_get ts) same ∙ found) in
            let yes : same_index t s ≡ true = ap (same_index t) e ∙ same_index-refl t in
            chosen-at ts g at.0 s distinct at.1 ∙ ap g same ∙ change.here ∙ sym (ap (λ b. cond b (Some v) (value_at s (chosen ts f))) yes))
            (λ (other : at.0 ≡ k → ⊥).
            let no : same_index t s ≡ false = not-same t s (λ same. other (distinct at.0 k s at.1 (found ∙ ap Some same))) in
            chosen-at ts g at.0 s distinct at.1 ∙ change.others at.0 other
            ∙ sym (ap (λ b. cond b (Some v) (value_at s (chosen ts f))) no ∙ chosen-at ts f at.0 s distinct at.1))
            (cases_eq at.0 k)

    -- where it held one before, that is another value in its place
    pub chosen-set : (w : T) → f k ≡ Some w → chosen ts g ≡ with_value t v (chosen ts f)
    chosen-set w was =
        chosen-tabulated ts g (changed t v (λ s. value_at s (chosen ts f))) same
        ∙ sym (with_value-tabulated t v ts (λ s. value_at s (chosen ts f)))
        ∙ ap (with_value t v) (chosen-formed ts f distinct)
      where
        same : (j : ℕ) (s : List ℤ) → slice_get ts j ≡ Some s → g j ≡ changed t v (λ r. value_at r (chosen ts f)) s
        same j s at =
            ⊎_elim
            (λ (here : j ≡ k).
            let e : s ≡ t = same_Some s t (sym at ∙ ap (slice_get ts) here ∙ found) in
            let yes : same_index t s ≡ true = ap (same_index t) e ∙ same_index-refl t in
            let old : value_at s (chosen ts f) ≡ Some w = chosen-at ts f j s distinct at ∙ ap f here ∙ was in
            ap g here ∙ change.here ∙ sym (ap (λ b. cond b (option_map (λ _. v) (value_at s (chosen ts f))) (value_at s (chosen ts f))) yes ∙ ap (option_map (λ _. v)) old))
            (λ (other : j ≡ k → ⊥).
            let no : same_index t s ≡ false = not-same t s (λ is. other (distinct j k s at (found ∙ ap Some is))) in
            change.others j other ∙ sym (ap (λ b. cond b (option_map (λ _. v) (value_at s (chosen ts f))) (value_at s (chosen ts f))) no ∙ chosen-at ts f j s distinct at))
            (cases_eq j k)

-- THE MAP FROM PLACES TO VALUES
-- an empty map gives nothing
pub entry-none : {T : Type 0} (m : BTreeMap ℕ T) → m.entries ≡ [] → (k : ℕ) → get nat_cmp m k ≡ None
entry-none m none k = ap (lookup (is_at (nat_cmp k))) none

apart : (k q : ℕ) → (q ≡ k → ⊥) → is_at (nat_cmp k) q ≡ false
apart k q other =
    ⊎_elim
    (λ (below : k < q). ap is_eq (sym (nat_cmp_is k q Less below)))
    (λ (above : q ≤ k). ap is_eq (sym (nat_cmp_is k q Greater (strictly above))))
    (cases_lt k q)
  where
    strictly : q ≤ k → q < k
    strictly above = ⊎_elim (λ (same : q ≡ k). absurd (other same)) (λ (less : q ≡ k → ⊥). omega (arith, above, less)) (cases_eq q k)

-- an entry that is put at a place
pub entry-put : {T : Type 0} (m n : BTreeMap ℕ T) (k : ℕ) (v : T) → Updates nat_cmp m n k (Some v) → IsChanged k v (get nat_cmp m) (get nat_cmp n)
entry-put m n k v updates = record { here = updates.1; others = λ q other. updates.2 q (apart k q other) }

-- what is kept now, where it was kept before
pub put-elements : {T : Type 0} (d : List RangeValue) (t : List ℤ) (v : T) (es : Elements T) (g h : GatheredValue T) → g ≡ h → es ≡ with_value t v g.elements → ◌≡◌ {A = GatheredValue T} (record { domain = g.domain; elements = es }) (record h { elements = with_value t v h.elements })
put-elements {T = T} d t v es g h same put =
    ap {A = Elements T} {B = GatheredValue T} (λ fs. record { domain = g.domain; elements = fs }) put
    ∙ ap {A = GatheredValue T} {B = GatheredValue T} (λ q. record q { elements = with_value t v q.elements }) same

-- an entry that is taken out: it is what is put to have the map of before
pub entry-taken : {T : Type 0} (m n : BTreeMap ℕ T) (k : ℕ) (v : T) → get nat_cmp m k ≡ Some v → Updates nat_cmp m n k None → IsChanged k v (get nat_cmp n) (get nat_cmp m)
entry-taken m n k v was updates = record { here = was; others = λ q other. sym (updates.2 q (apart k q other)) }

-- each key is a place still
module _ {T : Type 0} (n k : ℕ) (v : T) (f g : ℕ → Option T) (change : IsChanged k v f g) where
  pub within-put : k < n → ((q : ℕ) (w : T) → f q ≡ Some w → q < n) → (q : ℕ) (w : T) → g q ≡ Some w → q < n
  within-put below within q w some =
      ⊎_elim
      (λ (same : q ≡ k). omega (arith, same, below))
      (λ (other : q ≡ k → ⊥). within q w (sym (change.others q other) ∙ some))
      (cases_eq q k)

  pub within-taken : ((q : ℕ) (w : T) → g q ≡ Some w → q < n) → (q : ℕ) (w : T) → f q ≡ Some w → q < n
  within-taken within q w some =
      ⊎_elim
      (λ (same : q ≡ k). let below = within k v change.here in omega (arith, same, below))
      (λ (other : q ≡ k → ⊥). within q w (change.others q other ∙ some))
      (cases_eq q k)

pub none-left : {X : Type 0} (xs : List X) → length xs ≡ 0 → xs ≡ []
none-left [] none = refl
none-left (x ∷ xs) none = absurd (omega (arith, none))

-- the elements without the one that is taken out
pub chosen-taken :
    {T : Type 0} (d : List RangeValue) (f g : ℕ → Option T) (k : ℕ) (t : List ℤ) (v : T) → IsDistinct (indices d) → slice_get (indices d) k ≡ Some t → g k ≡ None → IsChanged k v g f
    → IsTaken t v (record { domain = d; elements = chosen (indices d) f }) (record { domain = d; elements = chosen (indices d) g })
chosen-taken d f g k t v distinct found gone change = record {
  domain = refl;
  value = chosen-at (indices d) f k t distinct found ∙ change.here;
  gone = chosen-at (indices d) g k t distinct found ∙ gone;
  others = λ s other. sym (chosen-put (indices d) g f k t v distinct found change s ∙ ap (λ b. cond b (Some v) (value_at s (chosen (indices d) g))) other);
  fewer = sym (chosen-count (indices d) g f k t v found change ∙ ap (λ o. length (chosen (indices d) g) + cond (is_some o) 0 1) gone);
}

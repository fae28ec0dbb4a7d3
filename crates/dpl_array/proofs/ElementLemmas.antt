-- What elements hold at an index.
-- Keys and values side by side, functions read at some indices, and elements over some indices.
use Rattle.std.proofs.Common.{◌≡◌, ◌==◌, ℕ, zero, suc, ℤ, List, [], ◌∷◌, length, filter, slice_get, slice_set, replicate, Bool, true, false, cond, Option, Some, None, refl, ap, sym, subst, ◌∙◌, arith, ⊎_elim, ◌⊎◌, inl, inr}
use Rattle.std.specs.List.{zip}
use Rattle.std.specs.Option.{option_map}
use Rattle.std.specs.Ordering.{int_eq}
use Rattle.std.proofs.lemmas.Bool.{cases_Bool, and_parts}
use Rattle.std.proofs.lemmas.Bool.Decides.{Decides-int_eq}
use Rattle.std.proofs.lemmas.Option.{none-some, same_Some}
use Rattle.dpl_map.specs.Maps.{AxisValue, owner}
use Rattle.dpl_array.specs.Elements.{Elements, same_index, value_at, with_value, keys_of, filled, owned, element_before, tabulated, IsOver}
use Rattle.dpl_array.specs.Rows.{StandsIn}

pub same_index-refl : (t : List ℤ) → same_index t t ≡ true
same_index-refl [] = refl
same_index-refl (i ∷ is) = let e : int_eq i i ≡ true = (Decides-int_eq i i).1 refl in rw e (same_index-refl is)

pub same_index-true : (s t : List ℤ) → same_index s t ≡ true → s ≡ t
same_index-true [] [] same = refl
same_index-true [] (j ∷ js) same = cc
same_index-true (i ∷ is) [] same = cc
same_index-true (i ∷ is) (j ∷ js) same =
    let both = and_parts (int_eq i j) (same_index is js) same in
    let heads : i ≡ j = (Decides-int_eq i j).0 both.0 in
    let tails : is ≡ js = same_index-true is js both.1 in
    cc

-- an index is another one, or the test says so
pub index-cases : (s t : List ℤ) → (s ≡ t) ⊎ (same_index s t ≡ false)
index-cases s t =
    ⊎_elim
    (λ yes. inl (same_index-true s t yes))
    (λ no. inr no)
    (cases_Bool (same_index s t))

pub not-same : (s t : List ℤ) → (s ≡ t → ⊥) → same_index s t ≡ false
not-same s t other =
    ⊎_elim
    (λ (same : s ≡ t). absurd (other same))
    (λ no. no)
    (index-cases s t)

-- what stands in the rest of a list stands in the list
pub stands-later : {X : Type 0} (y : X) (xs : List X) (x : X) → StandsIn xs x → StandsIn (y ∷ xs) x
stands-later y xs x at = (suc at.0, at.1)

-- another value at one index of a function
abbrev pub changed : {T : Type 0} → List ℤ → T → (List ℤ → Option T) → List ℤ → Option T
changed t v f s = cond (same_index t s) (option_map (λ _. v) (f s)) (f s)

module _ {T : Type 0} where
  -- KEYS AND VALUES SIDE BY SIDE
  pub zip-there : (ks : List (List ℤ)) (vs : List T) (o : ℕ) (t : List ℤ) → slice_get ks o ≡ Some t → ((j : ℕ) → slice_get ks j ≡ Some t → j ≡ o) → value_at t (zip ks vs) ≡ slice_get vs o
  zip-there [] vs o t found one = absurd (none-some t found)
  zip-there (k ∷ ks) [] o t found one = refl
  zip-there (k ∷ ks) (v ∷ vs) zero t found one =
      let e : k ≡ t = same_Some k t found in
      let same : same_index t k ≡ true = ap (same_index t) e ∙ same_index-refl t in
      rw same
  zip-there (k ∷ ks) (v ∷ vs) (suc o) t found one =
      ⊎_elim
      (λ (here : t ≡ k). absurd (let e : 0 ≡ suc o = one 0 (ap Some (sym here)) in cc))
      (λ (other : same_index t k ≡ false). rw other (zip-there ks vs o t found (λ j at. let e : suc j ≡ suc o = one (suc j) at in omega (arith, e))))
      (index-cases t k)

  pub zip-absent : (ks : List (List ℤ)) (vs : List T) (t : List ℤ) → ((j : ℕ) → slice_get ks j ≡ Some t → ⊥) → value_at t (zip ks vs) ≡ None
  zip-absent [] vs t none = refl
  zip-absent (k ∷ ks) [] t none = refl
  zip-absent (k ∷ ks) (v ∷ vs) t none =
      ⊎_elim
      (λ (here : t ≡ k). absurd (none 0 (ap Some (sym here))))
      (λ (other : same_index t k ≡ false). rw other (zip-absent ks vs t (λ j at. none (suc j) at)))
      (index-cases t k)

  -- where there are as many values as keys, each key has one
  pub zip-some : (ks : List (List ℤ)) (vs : List T) (t : List ℤ) → length vs ≡ length ks → StandsIn ks t → (v : T) × (value_at t (zip ks vs) ≡ Some v)
  zip-some [] vs t long at = absurd (none-some t at.1)
  zip-some (k ∷ ks) [] t long at = absurd (omega (arith, long))
  zip-some (k ∷ ks) (v ∷ vs) t long (zero, found) =
      let same : same_index t k ≡ true = ap (same_index t) (same_Some k t found) ∙ same_index-refl t in
      (v, rw same)
  zip-some (k ∷ ks) (v ∷ vs) t long (suc o, found) =
      let rest = zip-some ks vs t (omega (arith, long)) (o, found) in
      ⊎_elim
      (λ (here : same_index t k ≡ true). (v, rw here))
      (λ (other : same_index t k ≡ false). (rest.0, rw other rest.1))
      (cases_Bool (same_index t k))

  -- one value that stands everywhere
  pub zip-replicate : (ks : List (List ℤ)) (t : List ℤ) (v : T) → StandsIn ks t → value_at t (zip ks (replicate (length ks) v)) ≡ Some v
  zip-replicate [] t v at = absurd (none-some t at.1)
  zip-replicate (k ∷ ks) t v (zero, found) =
      let same : same_index t k ≡ true = ap (same_index t) (same_Some k t found) ∙ same_index-refl t in
      rw same
  zip-replicate (k ∷ ks) t v (suc o, found) =
      ⊎_elim
      (λ (here : same_index t k ≡ true). rw here)
      (λ (other : same_index t k ≡ false). rw other (zip-replicate ks t v (o, found)))
      (cases_Bool (same_index t k))

  -- one value is replaced
  pub zip-set : (ks : List (List ℤ)) (vs : List T) (o : ℕ) (t : List ℤ) (v : T) → slice_get ks o ≡ Some t → ((j : ℕ) → slice_get ks j ≡ Some t → j ≡ o) → (s : List ℤ) → value_at s (zip ks (slice_set vs o v)) ≡ changed t v (λ r. value_at r (zip ks vs)) s
  zip-set [] vs o t v found one s = absurd (none-some t found)
  zip-set (k ∷ ks) [] o t v found one s = unchanged (same_index t s)
    where
      unchanged : (b : Bool) → None ≡ cond b (option_map {T = T} {U = T} (λ _. v) None) None
      unchanged true = refl
      unchanged false = refl
  zip-set (k ∷ ks) (w ∷ vs) zero t v found one s =
      let e : k ≡ t = same_Some k t found in
      ⊎_elim
      (λ (here : s ≡ k).
      let first : same_index s k ≡ true = ap (same_index s) (sym here) ∙ same_index-refl s in
      let second : same_index t s ≡ true = ap (same_index t) (here ∙ e) ∙ same_index-refl t in
      rw (first, second))
      (λ (other : same_index s k ≡ false).
      let apart : same_index t s ≡ false = not-same t s (λ same. absurd (let yes : same_index s k ≡ true = ap (same_index s) (e ∙ same) ∙ same_index-refl s in let no : true ≡ false = sym yes ∙ other in cc)) in
      rw (other, apart))
      (index-cases s k)
  zip-set (k ∷ ks) (w ∷ vs) (suc o) t v found one s =
      ⊎_elim
      (λ (here : s ≡ k).
      let first : same_index s k ≡ true = ap (same_index s) (sym here) ∙ same_index-refl s in
      let apart : same_index t s ≡ false = not-same t s (λ same. absurd (let e : 0 ≡ suc o = one 0 (ap Some (sym here ∙ sym same)) in cc)) in
      rw (first, apart))
      (λ (other : same_index s k ≡ false). rw other (zip-set ks vs o t v found (λ j at. let e : suc j ≡ suc o = one (suc j) at in omega (arith, e)) s))
      (index-cases s k)

  -- A FUNCTION READ AT SOME INDICES
  pub tabulated-none : (ts : List (List ℤ)) (f : List ℤ → Option T) (t : List ℤ) → f t ≡ None → value_at t (tabulated ts f) ≡ None
  tabulated-none [] f t none = refl
  tabulated-none (s ∷ ts) f t none = by (f s) refl (tabulated-none ts f t none)
    where
      by : (o : Option T) → f s ≡ o → value_at t (tabulated ts f) ≡ None → value_at t (element_before s o (tabulated ts f)) ≡ None
      by None e rest = rest
      by (Some v) e rest =
          ⊎_elim
          (λ (here : t ≡ s). absurd (none-some v (sym none ∙ ap f here ∙ e)))
          (λ (other : same_index t s ≡ false). rw other rest)
          (index-cases t s)

  pub tabulated-there : (ts : List (List ℤ)) (f : List ℤ → Option T) (t : List ℤ) → StandsIn ts t → value_at t (tabulated ts f) ≡ f t
  tabulated-there [] f t at = absurd (none-some t at.1)
  tabulated-there (s ∷ ts) f t at = by (f s) refl (index-cases t s) (λ other. tabulated-there ts f t (later at.0 at.1 other))
    where
      later : (k : ℕ) → slice_get (s ∷ ts) k ≡ Some t → same_index t s ≡ false → StandsIn ts t
      later zero found other = absurd (let yes : same_index t s ≡ true = ap (same_index t) (same_Some s t found) ∙ same_index-refl t in let no : true ≡ false = sym yes ∙ other in cc)
      later (suc k) found other = (k, found)

      by : (o : Option T) → f s ≡ o → (t ≡ s) ⊎ (same_index t s ≡ false) → (same_index t s ≡ false → value_at t (tabulated ts f) ≡ f t) → value_at t (element_before s o (tabulated ts f)) ≡ f t
      by None e (inl here) rest = let none : f t ≡ None = ap f here ∙ e in tabulated-none ts f t none ∙ sym none
      by None e (inr other) rest = rest other
      by (Some v) e (inl here) rest = let same : same_index t s ≡ true = ap (same_index t) (sym here) ∙ same_index-refl t in rw same (sym (ap f here ∙ e))
      by (Some v) e (inr other) rest = rw other (rest other)

  -- two functions that agree at these indices
  pub tabulated-same : (ts : List (List ℤ)) (f g : List ℤ → Option T) → ((t : List ℤ) → StandsIn ts t → f t ≡ g t) → tabulated ts f ≡ tabulated ts g
  tabulated-same [] f g same = refl
  tabulated-same (t ∷ ts) f g same =
      ap (λ o. element_before t o (tabulated ts f)) (same t (0, refl))
      ∙ ap (element_before t (g t)) (tabulated-same ts f g (λ s at. same s (stands-later t ts s at)))

  -- one value everywhere
  pub tabulated-filled : (ts : List (List ℤ)) (v : T) → tabulated ts (λ _. Some v) ≡ filled ts v
  tabulated-filled [] v = refl
  tabulated-filled (t ∷ ts) v = ap (λ es. (t, v) ∷ es) (tabulated-filled ts v)

  -- there is an element for each index, where the function has a value at each
  keys-tabulated : (ts : List (List ℤ)) (f : List ℤ → Option T) → ((t : List ℤ) → StandsIn ts t → (v : T) × (f t ≡ Some v)) → keys_of (tabulated ts f) ≡ ts
  keys-tabulated [] f some = refl
  keys-tabulated (t ∷ ts) f some =
      let here = some t (0, refl) in
      ap (λ o. keys_of (element_before t o (tabulated ts f))) here.1
      ∙ ap (λ ks. t ∷ ks) (keys-tabulated ts f (λ s at. some s (stands-later t ts s at)))

  pub tabulated-over : (ts : List (List ℤ)) (f : List ℤ → Option T) → ((t : List ℤ) → StandsIn ts t → (v : T) × (f t ≡ Some v)) → IsOver ts (tabulated ts f)
  tabulated-over ts f some = record {
    keys = keys-tabulated ts f some;
    values = tabulated-same ts (λ t. value_at t (tabulated ts f)) f (λ t at. tabulated-there ts f t at);
  }

  -- those of a locale
  pub owned-tabulated : (axes : List AxisValue) (l : ℕ) (ts : List (List ℤ)) (f : List ℤ → Option T) → owned axes l (tabulated ts f) ≡ tabulated (filter (λ t. owner axes t == l) ts) f
  owned-tabulated axes l [] f = refl
  owned-tabulated axes l (t ∷ ts) f = by (f t) (owner axes t == l) refl refl (owned-tabulated axes l ts f)
    where
      rest : List (List ℤ)
      rest = filter (λ s. owner axes s == l) ts

      by : (o : Option T) (b : Bool) → f t ≡ o → (owner axes t == l) ≡ b → owned axes l (tabulated ts f) ≡ tabulated rest f → owned axes l (element_before t o (tabulated ts f)) ≡ tabulated (cond b (t ∷ rest) rest) f
      by None true e is others = others ∙ ap (λ o. element_before t o (tabulated rest f)) (sym e)
      by None false e is others = others
      by (Some v) true e is others = rw is (ap (λ es. (t, v) ∷ es) others ∙ ap (λ o. element_before t o (tabulated rest f)) (sym e))
      by (Some v) false e is others = rw is others

  -- another value at one index
  pub with_value-tabulated : (t : List ℤ) (v : T) (ts : List (List ℤ)) (f : List ℤ → Option T) → with_value t v (tabulated ts f) ≡ tabulated ts (changed t v f)
  with_value-tabulated t v [] f = refl
  with_value-tabulated t v (s ∷ ts) f = by (f s) (same_index t s) refl refl (with_value-tabulated t v ts f)
    where
      by : (o : Option T) (b : Bool) → f s ≡ o → same_index t s ≡ b → with_value t v (tabulated ts f) ≡ tabulated ts (changed t v f) → with_value t v (element_before s o (tabulated ts f)) ≡ element_before s (cond b (option_map (λ _. v) o) o) (tabulated ts (changed t v f))
      by None true e is rest = rest
      by None false e is rest = rest
      by (Some w) true e is rest = rw is (ap (λ es. (s, v) ∷ es) rest)
      by (Some w) false e is rest = rw is (ap (λ es. (s, w) ∷ es) rest)

  pub value_at-with_value : (t : List ℤ) (v : T) (es : Elements T) (s : List ℤ) → value_at s (with_value t v es) ≡ changed t v (λ r. value_at r es) s
  value_at-with_value t v [] s = unchanged (same_index t s)
    where
      unchanged : (b : Bool) → None ≡ cond b (option_map {T = T} {U = T} (λ _. v) None) None
      unchanged true = refl
      unchanged false = refl
  value_at-with_value t v (e ∷ es) s = by (same_index t e.0) refl (index-cases s e.0) (value_at-with_value t v es s)
    where
      by : (b : Bool) → same_index t e.0 ≡ b → (s ≡ e.0) ⊎ (same_index s e.0 ≡ false) → value_at s (with_value t v es) ≡ changed t v (λ r. value_at r es) s → value_at s ((cond b (e.0, v) e) ∷ with_value t v es) ≡ changed t v (λ r. value_at r (e ∷ es)) s
      by true is (inl here) rest =
          let first : same_index s e.0 ≡ true = ap (same_index s) (sym here) ∙ same_index-refl s in
          let second : same_index t s ≡ true = ap (same_index t) here ∙ is in
          rw (first, second)
      by true is (inr other) rest = rw other rest
      by false is (inl here) rest =
          let first : same_index s e.0 ≡ true = ap (same_index s) (sym here) ∙ same_index-refl s in
          let second : same_index t s ≡ false = ap (same_index t) here ∙ is in
          rw (first, second)
      by false is (inr other) rest = rw other rest

  -- where there is no such index, nothing changes
  pub with_value-absent : (t : List ℤ) (v : T) (es : Elements T) → value_at t es ≡ None → with_value t v es ≡ es
  with_value-absent t v [] none = refl
  with_value-absent t v (e ∷ es) none = by (same_index t e.0) none (with_value-absent t v es)
    where
      by : (b : Bool) → cond b (Some e.1) (value_at t es) ≡ None → (value_at t es ≡ None → with_value t v es ≡ es) → (cond b (e.0, v) e) ∷ with_value t v es ≡ e ∷ es
      by true absent rest = absurd (none-some e.1 (sym absent))
      by false absent rest = ap (λ fs. e ∷ fs) (rest absent)

  -- ELEMENTS OVER SOME INDICES
  -- there is a value at each key
  pub value-some : (es : Elements T) (t : List ℤ) → StandsIn (keys_of es) t → (v : T) × (value_at t es ≡ Some v)
  value-some [] t at = absurd (none-some t at.1)
  value-some (e ∷ es) t (zero, found) =
      let same : same_index t e.0 ≡ true = ap (same_index t) (same_Some e.0 t found) ∙ same_index-refl t in
      (e.1, rw same)
  value-some (e ∷ es) t (suc o, found) =
      let rest = value-some es t (o, found) in
      ⊎_elim
      (λ (here : same_index t e.0 ≡ true). (e.1, rw here))
      (λ (other : same_index t e.0 ≡ false). (rest.0, rw other rest.1))
      (cases_Bool (same_index t e.0))

  -- and at no other index
  pub value-stands : (es : Elements T) (t : List ℤ) (v : T) → value_at t es ≡ Some v → StandsIn (keys_of es) t
  value-stands [] t v some = absurd (none-some v some)
  value-stands (e ∷ es) t v some = by (index-cases t e.0) (value-stands es t v)
    where
      by : (t ≡ e.0) ⊎ (same_index t e.0 ≡ false) → (value_at t es ≡ Some v → StandsIn (keys_of es) t) → StandsIn (keys_of (e ∷ es)) t
      by (inl here) rest = (0, ap Some (sym here))
      by (inr other) rest = let later : value_at t es ≡ Some v = rw other at some in stands-later e.0 (keys_of es) t (rest later)

  pub over-some : (ts : List (List ℤ)) (es : Elements T) (t : List ℤ) → IsOver ts es → StandsIn ts t → (v : T) × (value_at t es ≡ Some v)
  over-some ts es t over at = value-some es t (subst (λ ks. StandsIn ks t) (sym over.keys) at)

  pub over-stands : (ts : List (List ℤ)) (es : Elements T) (t : List ℤ) (v : T) → IsOver ts es → value_at t es ≡ Some v → StandsIn ts t
  over-stands ts es t v over some = subst (λ ks. StandsIn ks t) over.keys (value-stands es t v some)

  -- another value at one index leaves them over the same indices
  pub over-with_value : (ts : List (List ℤ)) (es : Elements T) (t : List ℤ) (v : T) → IsOver ts es → IsOver ts (with_value t v es)
  over-with_value ts es t v over =
      let f : List ℤ → Option T = λ s. value_at s es in
      let is : with_value t v es ≡ tabulated ts (changed t v f) = ap (with_value t v) (sym over.values) ∙ with_value-tabulated t v ts f in
      subst (IsOver ts) (sym is) (tabulated-over ts (changed t v f) (λ s at. some (same_index t s) (f s) (over-some ts es s over at)))
    where
      some : (b : Bool) (o : Option T) → (w : T) × (o ≡ Some w) → (w : T) × (cond b (option_map (λ _. v) o) o ≡ Some w)
      some true o at = (v, ap (option_map (λ _. v)) at.1)
      some false o at = at

  -- one value everywhere
  pub over-filled : (ts : List (List ℤ)) (v : T) → IsOver ts (filled ts v)
  over-filled ts v = subst (IsOver ts) (tabulated-filled ts v) (tabulated-over ts (λ _. Some v) (λ t at. (v, refl)))

  pub owned-filled : (axes : List AxisValue) (l : ℕ) (ts : List (List ℤ)) (v : T) → owned axes l (filled ts v) ≡ filled (filter (λ t. owner axes t == l) ts) v
  owned-filled axes l ts v =
      ap (owned axes l) (sym (tabulated-filled ts v)) ∙ owned-tabulated axes l ts (λ _. Some v) ∙ tabulated-filled (filter (λ t. owner axes t == l) ts) v

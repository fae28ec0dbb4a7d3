-- A search for a tuple in domains that stand row by row.
use Rattle.std.proofs.Common.{◌≡◌, ◌≢◌, ◌↔◌, ◌<◌, ◌≤◌, ℕ, zero, suc, ℤ, pos, List, [], ◌∷◌, length, slice_get, Option, Some, None, IfSome, IsNone, inr, refl, ap, sym, subst, ◌∙◌, arith, ⊎_elim}
use Rattle.std.proofs.lemmas.Int.{ints}
use Rattle.std.proofs.lemmas.Option.{none-some, same_Some}
use Rattle.dpl_sets.specs.Ranges.{RangeValue}
use Rattle.dpl_sets.specs.Indices.{indices}
use Rattle.dpl_domain.specs.Ranks.{last_of, IsPadded}
use Rattle.dpl_map.specs.Maps.{RuleValue, Block, Cyclic, BlockCyclic, AxisValue}
use Rattle.dpl_map.specs.Axes.{IsSingle, cut_rule}
use Rattle.dpl_map.specs.declared.find.Order.{Order}
use Rattle.dpl_map.specs.declared.find.Order.TheVariants.{Blocks, Offsets}
use Rattle.dpl_map.specs.Orders.{three, rule_key, keys, IsBefore, IsAt, AreRowByRow, ArePart, HasNone}
use Rattle.dpl_map.proofs.ListLemmas.{All-slice_get}
use Rattle.dpl_map.proofs.OrderLemmas.{keys-last_of, first-some, length-index}

-- a dimension in which two tuples agree says nothing of their order
agreed : (f : ℤ → ℤ) (fs : List (ℤ → ℤ)) (x u : ℤ) (xs us : List ℤ) → x ≡ u → IsBefore fs xs us ↔ IsBefore (f ∷ fs) (x ∷ xs) (u ∷ us)
agreed f fs x u xs us same =
    ((λ before. inr (ap f same, before)), (λ before. ⊎_elim (λ less. absurd (let e = ap f same in omega (arith, ints, less, e))) (λ (rest : (f x ≡ f u) × IsBefore fs xs us). rest.1) before))

-- so the dimensions in front may be compared that tuples do not have
pub before-padded : (rank : ℕ) (f g h : ℤ → ℤ) (x y z u v w : ℤ) → IsPadded (pos 0) rank x y → IsPadded (pos 0) rank u v → IsBefore (last_of rank f g h) (last_of rank x y z) (last_of rank u v w) ↔ IsBefore (f ∷ g ∷ h ∷ []) (x ∷ y ∷ z ∷ []) (u ∷ v ∷ w ∷ [])
before-padded zero f g h x y z u v w first second = absurd (omega (arith, first.from_one))
before-padded (suc zero) f g h x y z u v w first second =
    let outer : x ≡ u = first.first (omega arith) ∙ sym (second.first (omega arith)) in
    let middle : y ≡ v = first.second (omega arith) ∙ sym (second.second (omega arith)) in
    let inner = agreed g (h ∷ []) y v (z ∷ []) (w ∷ []) middle in
    let all = agreed f (g ∷ h ∷ []) x u (y ∷ z ∷ []) (v ∷ w ∷ []) outer in
    ((λ before. all.0 (inner.0 before)), (λ before. inner.1 (all.1 before)))
before-padded (suc (suc zero)) f g h x y z u v w first second =
    agreed f (g ∷ h ∷ []) x u (y ∷ z ∷ []) (v ∷ w ∷ []) (first.first (omega arith) ∙ sym (second.first (omega arith)))
before-padded (suc (suc (suc zero))) f g h x y z u v w first second = ((λ before. before), (λ before. before))
before-padded (suc (suc (suc (suc n)))) f g h x y z u v w first second = absurd (omega (arith, first.to_three))

-- the keys of two tuples of a map's rank, dimension by dimension
pub before-keys : (axes : List AxisValue) (o m i : AxisValue) (a b c : Order) (s t : List ℤ) (x y z u v w : ℤ) → axes ≡ last_of (length axes) o m i → s ≡ last_of (length s) x y z → t ≡ last_of (length t) u v w → IsPadded (pos 0) (length s) x y → IsPadded (pos 0) (length t) u v → length s ≡ length axes → length t ≡ length axes → IsBefore three (rule_key a (cut_rule o) x ∷ rule_key b (cut_rule m) y ∷ rule_key c (cut_rule i) z ∷ []) (rule_key a (cut_rule o) u ∷ rule_key b (cut_rule m) v ∷ rule_key c (cut_rule i) w ∷ []) ↔ IsBefore (keys (last_of (length axes) a b c) axes) s t
before-keys axes o m i a b c s t x y z u v w axes-is s-is t-is s-padded t-padded s-rank t-rank =
    let n = length axes in
    let fs = last_of n (rule_key a (cut_rule o)) (rule_key b (cut_rule m)) (rule_key c (cut_rule i)) in
    let by : fs ≡ keys (last_of n a b c) axes = keys-last_of n a b c o m i ∙ ap (λ (d : List AxisValue). keys (last_of n a b c) d) (sym axes-is) in
    let first : s ≡ last_of n x y z = s-is ∙ ap (λ (r : ℕ). last_of r x y z) s-rank in
    let second : t ≡ last_of n u v w = t-is ∙ ap (λ (r : ℕ). last_of r u v w) t-rank in
    let padded = before-padded n (rule_key a (cut_rule o)) (rule_key b (cut_rule m)) (rule_key c (cut_rule i)) x y z u v w (subst (λ (r : ℕ). IsPadded (pos 0) r x y) s-rank s-padded) (subst (λ (r : ℕ). IsPadded (pos 0) r u v) t-rank t-padded) in
    let same : IsBefore fs (last_of n x y z) (last_of n u v w) ≡ IsBefore (keys (last_of n a b c) axes) s t =
    ap (λ (ks : List (ℤ → ℤ)). IsBefore ks (last_of n x y z) (last_of n u v w)) by ∙ ap (λ (r : List ℤ). IsBefore (keys (last_of n a b c) axes) r (last_of n u v w)) (sym first) ∙ ap (λ (r : List ℤ). IsBefore (keys (last_of n a b c) axes) s r) (sym second) in
    ((λ before. subst (λ (X : Type 0). X) same (padded.1 before)), (λ before. padded.0 (subst (λ (X : Type 0). X) (sym same) before)))

-- by a rule that gives one range, either order is the other
pub single-key : (order : Order) (rule : RuleValue) → IsSingle rule → rule_key order rule ≡ rule_key Blocks rule
single-key Blocks rule single = refl
single-key Offsets (Block low high) single = refl
single-key Offsets (Cyclic start) single = refl
single-key Offsets (BlockCyclic start size) single = absurd single

-- what holds of either order holds of each
pub each-order : (P : Order → Type 0) → P Blocks → P Offsets → (order : Order) → P order
each-order P blocks offsets Blocks = blocks
each-order P blocks offsets Offsets = offsets

-- domains that do not have a tuple do not have it by orders that are the same
pub none-same : (axes : List AxisValue) (o m i : AxisValue) (a b c a' b' c' : Order) (domains : List (List RangeValue)) (t : List ℤ) → axes ≡ last_of (length axes) o m i → rule_key a (cut_rule o) ≡ rule_key a' (cut_rule o) → rule_key b (cut_rule m) ≡ rule_key b' (cut_rule m) → rule_key c (cut_rule i) ≡ rule_key c' (cut_rule i) → HasNone (last_of (length axes) a' b' c') axes domains t → HasNone (last_of (length axes) a b c) axes domains t
none-same axes o m i a b c a' b' c' domains t is first second third none =
    λ rows.
    let n = length axes in
    let by : keys (last_of n a b c) axes ≡ keys (last_of n a' b' c') axes =
    ap (keys (last_of n a b c)) is ∙ sym (keys-last_of n a b c o m i)
    ∙ ap (λ f. last_of n f (rule_key b (cut_rule m)) (rule_key c (cut_rule i))) first
    ∙ ap (λ g. last_of n (rule_key a' (cut_rule o)) g (rule_key c (cut_rule i))) second
    ∙ ap (λ h. last_of n (rule_key a' (cut_rule o)) (rule_key b' (cut_rule m)) h) third
    ∙ keys-last_of n a' b' c' o m i ∙ ap (keys (last_of n a' b' c')) (sym is) in
    none (record { rank = rows.rank; some = rows.some; sorted = λ k l i j s u s-at u-at. subst (λ ks. (k < l) ↔ IsBefore ks s u) by (rows.sorted k l i j s u s-at u-at) })

-- orders of a map of one to three dimensions are those of three, of which it has the last ones
pub orders-padded : (orders : List Order) → 1 ≤ length orders → length orders ≤ 3 → (a : Order) × (b : Order) × (c : Order) × (orders ≡ last_of (length orders) a b c)
orders-padded [] some few = absurd (omega (arith, some))
orders-padded (c ∷ []) some few = (Blocks, Blocks, c, refl)
orders-padded (b ∷ c ∷ []) some few = (Blocks, b, c, refl)
orders-padded (a ∷ b ∷ c ∷ []) some few = (a, b, c, refl)
orders-padded (a ∷ b ∷ c ∷ d ∷ orders) some few = absurd (omega (arith, few))

module _ (orders : List Order) (axes : List AxisValue) (domains : List (List RangeValue)) (rows : AreRowByRow orders axes domains) (k j : ℕ) (t : List ℤ) (at : IsAt domains k j t) where
  -- a domain in front of the one that has a tuple has its first index before the tuple, and no other domain has
  pub half-before : (half : ℕ) (domain : List RangeValue) → slice_get domains half ≡ Some domain → (s : List ℤ) × (slice_get (indices domain) 0 ≡ Some s) × (length s ≡ length axes) × ((half < k) ↔ IsBefore (keys orders axes) s t)
  half-before half domain found =
      let first = first-some (indices domain) (All-slice_get (λ d. indices d ≢ []) domains half domain rows.some found) in (
        first.0,
        first.1,
        length-index domain 0 first.0 first.1 ∙ All-slice_get (λ d. length d ≡ length axes) domains half domain rows.rank found,
        rows.sorted half k 0 j first.0 t (domain, found, first.1) at,
      )

  -- a tuple stands in one domain
  pub one-domain : (l i : ℕ) → IsAt domains l i t → k ≡ l
  one-domain l i other =
      let first = rows.sorted k l j i t t at other in
      let second = rows.sorted l k i j t t other at in
      let none : IsBefore (keys orders axes) t t → ⊥ = not-before (keys orders axes) t in
      let no_less : k < l → ⊥ = λ less. none (first.0 less) in
      let no_more : l < k → ⊥ = λ more. none (second.0 more) in
      grind (arith, no_less, no_more)
    where
      not-before : (fs : List (ℤ → ℤ)) (s : List ℤ) → IsBefore fs s s → ⊥
      not-before [] s before = before
      not-before (f ∷ fs) [] before = before
      not-before (f ∷ fs) (x ∷ s) before = ⊎_elim (λ less. absurd (omega (arith, ints, less))) (λ (rest : (f x ≡ f x) × IsBefore fs s s). not-before fs s rest.1) before

-- what an answer says by each pair that it may be
pub found-at : (r : Option (ℕ × ℕ)) (P : ℕ → ℕ → Type 0) → ((k j : ℕ) → r ≡ Some (k, j) → P k j) → IfSome r (λ at. P at.0 at.1)
found-at None P each = tt
found-at (Some at) P each = each at.0 at.1 refl

pub none-at : (r : Option (ℕ × ℕ)) (k j : ℕ) → IsNone r → r ≡ Some (k, j) → ⊥
none-at None k j none some = none-some (k, j) some
none-at (Some at) k j none some = absurd cc

-- of a domain's places an answer names the only one
pub same-place : (r : Option (ℕ × ℕ)) (P : ℕ → ℕ → Type 0) (number : ℕ) → ((k j : ℕ) → (r ≡ Some (k, j)) ↔ ((k ≡ number) × P k j)) → (k place : ℕ) → r ≡ Some (k, place) → (j : ℕ) → (place ≡ j) ↔ P k j
same-place r P number each k place is j = (
  (λ here. subst (P k) here ((each k place).0 is).1),
  (λ there.
      let other = (each k j).1 (((each k place).0 is).0, there) in
      let same : (k, place) ≡ (k, j) = same_Some (k, place) (k, j) (sym is ∙ other) in
      ap (λ (at : ℕ × ℕ). at.1) same),
)

-- what is found in domains that stand row by row is all that there is to find
pub found-only : (orders : List Order) (axes : List AxisValue) (domains : List (List RangeValue)) (t : List ℤ) → AreRowByRow orders axes domains → (at : ℕ × ℕ) → ((j : ℕ) → (at.1 ≡ j) ↔ IsAt domains at.0 j t) → (k j : ℕ) → (Some at ≡ Some (k, j)) ↔ IsAt domains k j t
found-only orders axes domains t rows at found k j = (
  (λ is. subst (λ (here : ℕ × ℕ). IsAt domains here.0 here.1 t) (same_Some at (k, j) is) ((found at.1).0 refl)),
  (λ there.
      let same : k ≡ at.0 = one-domain orders axes domains rows k j t there at.0 at.1 ((found at.1).0 refl) in
      let place : at.1 ≡ j = (found j).1 (subst (λ (l : ℕ). IsAt domains l j t) same there) in
      ap (λ (l : ℕ). Some (l, at.1)) (sym same) ∙ ap (λ (i : ℕ). Some (k, i)) place),
)

-- and where no order shows a tuple, there is none
pub none-only : (axes : List AxisValue) (domains : List (List RangeValue)) (t : List ℤ) → 1 ≤ length axes → length axes ≤ 3 → ((a b c : Order) → HasNone (last_of (length axes) a b c) axes domains t) → (orders : List Order) → length orders ≡ length axes → AreRowByRow orders axes domains → (k j : ℕ) → IsAt domains k j t → ⊥
none-only axes domains t some few none orders long rows k j at =
    let three = orders-padded orders (omega (arith, long, some)) (omega (arith, long, few)) in
    let is : orders ≡ last_of (length axes) three.0 three.1 three.2 = three.3 ∙ ap (λ (n : ℕ). last_of n three.0 three.1 three.2) long in
    none three.0 three.1 three.2 (subst (λ (os : List Order). AreRowByRow os axes domains) is rows) k j at

pub either-only : (r : Option (ℕ × ℕ)) (P : ℕ → ℕ → Type 0) → ((at : ℕ × ℕ) → r ≡ Some at → (k j : ℕ) → (Some at ≡ Some (k, j)) ↔ P k j) → (r ≡ None → (k j : ℕ) → P k j → ⊥) → (k j : ℕ) → (r ≡ Some (k, j)) ↔ P k j
either-only None P some none k j = ((λ is. absurd (none-some (k, j) is)), (λ there. absurd (none refl k j there)))
either-only (Some at) P some none k j = some at refl k j

-- a part of more than one domain stands row by row
pub part-rows : (axes : List AxisValue) (domains : List (List RangeValue)) → ArePart axes domains → 1 < length domains → (orders : List Order) × (length orders ≡ length axes) × AreRowByRow orders axes domains
part-rows axes domains part more = ⊎_elim (λ (few : length domains ≤ 1). absurd (omega (arith, few, more))) (λ rows. rows) part

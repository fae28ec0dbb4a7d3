-- The domains of a part stand row by row.
use Rattle.std.proofs.Common.{◌≡◌, ◌≢◌, ◌==◌, ℕ, zero, suc, List, [], ◌∷◌, ℤ, map, filter, length, slice_get, Some, All, Contains, IfSome, refl, sym, subst, ◌∙◌, arith, eqb-true}
use Rattle.std.proofs.lemmas.List.{length-map}
use Rattle.dpl_sets.specs.Ranges.{RangeValue, members_of}
use Rattle.dpl_range.proofs.Ends.{Contains-slice_get, slice_get-Contains}
use Rattle.dpl_sets.specs.Indices.{tuples, indices}
use Rattle.dpl_domain.specs.Ranks.{last_of}
use Rattle.dpl_map.specs.Maps.{AxisValue}
use Rattle.dpl_map.specs.Axes.{cut_rule}
use Rattle.dpl_map.specs.Parts.{part}
use Rattle.dpl_map.specs.Cuts.{AreCut, AreSorted}
use Rattle.dpl_map.specs.declared.find.Order.{Order}
use Rattle.dpl_map.specs.Orders.{rule_key, keys, IsBefore, IsAt, AreRowByRow}
use Rattle.dpl_map.proofs.ListLemmas.{All-members, All-slice_get, Contains-filter_parts}
use Rattle.dpl_map.proofs.PartLemmas.{each-at, each-length}

-- the keys of three axes, of which a map has the last ones
pub keys-last_of : (rank : ℕ) (a b c : Order) (o m i : AxisValue) → last_of rank (rule_key a (cut_rule o)) (rule_key b (cut_rule m)) (rule_key c (cut_rule i)) ≡ keys (last_of rank a b c) (last_of rank o m i)
keys-last_of zero a b c o m i = refl
keys-last_of (suc zero) a b c o m i = refl
keys-last_of (suc (suc zero)) a b c o m i = refl
keys-last_of (suc (suc (suc n))) a b c o m i = refl

pub same-length : {A B : Type 0} (rank : ℕ) (a b c : A) (o m i : B) → length (last_of rank a b c) ≡ length (last_of rank o m i)
same-length zero a b c o m i = refl
same-length (suc zero) a b c o m i = refl
same-length (suc (suc zero)) a b c o m i = refl
same-length (suc (suc (suc n))) a b c o m i = refl

-- an index of a domain has its rank
pub length-index : (ranges : List RangeValue) (k : ℕ) (t : List ℤ) → slice_get (indices ranges) k ≡ Some t → length t ≡ length ranges
unfolding indices
length-index ranges k t at =
    each-at (λ t. length t ≡ length (map members_of ranges)) (tuples (map members_of ranges)) (each-length (map members_of ranges)) k t at ∙ length-map ranges members_of

-- a list with an element has a first one
pub first-some : {X : Type 0} (xs : List X) → xs ≢ [] → (x : X) × (slice_get xs 0 ≡ Some x)
first-some [] some = absurd (some refl)
first-some (x ∷ xs) some = (x, refl)

-- an index of a domain that is cut out of a list is in the list, and has the domain's number
pub cut-at : (ts : List (List ℤ)) (domains : List (List RangeValue)) (cut : AreCut indices ts domains) (k i : ℕ) (t : List ℤ) → IsAt domains k i t → Contains ts t × (cut.number t ≡ k)
cut-at ts domains cut k i t at =
    let lists : indices at.0 ≡ filter (λ u. cut.number u == k) ts = subst (λ o. IfSome o (λ d. indices d ≡ filter (λ u. cut.number u == k) ts)) at.1 (cut.listed k) in
    let member = subst (λ us. Contains us t) lists (Contains-slice_get (indices at.0) i t at.2) in
    let parts = Contains-filter_parts (λ u. cut.number u == k) ts t member in
    (parts.0, eqb-true (cut.number t) k parts.1)

module _ (orders : List Order) (axes : List AxisValue) (ranges : List RangeValue) (locale : ℕ) (domains : List (List RangeValue)) (same : length ranges ≡ length axes) (some : All (λ d. indices d ≢ []) domains) (are : AreSorted indices (IsBefore (keys orders axes)) (part ranges axes locale) domains) where
  ranked : (domain : List RangeValue) → Contains domains domain → length domain ≡ length axes
  unfolding part
  ranked domain member =
      let at = slice_get-Contains domains domain member in
      let first = first-some (indices domain) (All-slice_get (λ d. indices d ≢ []) domains at.0 domain some at.1) in
      let owned = (cut-at (part ranges axes locale) domains are.cut at.0 0 first.0 (domain, at.1, first.1)).0 in
      let index = slice_get-Contains (indices ranges) first.0 (Contains-filter_parts _ (indices ranges) first.0 owned).0 in
      sym (length-index domain 0 first.0 first.1) ∙ length-index ranges index.0 first.0 index.1 ∙ same

  pub rows : AreRowByRow orders axes domains
  rows = record {
    rank = All-members (λ domain. length domain ≡ length axes) domains ranked;
    some = some;
    sorted = λ k l i j s t s-at t-at.
        let first = cut-at (part ranges axes locale) domains are.cut k i s s-at in
        let second = cut-at (part ranges axes locale) domains are.cut l j t t-at in
        let sorted = are.sorted s t first.0 second.0 in
        ((λ less. sorted.0 (omega (arith, less, first.1, second.1))), (λ before. let less = sorted.1 before in omega (arith, less, first.1, second.1)));
  }

-- A root gets one map alone: what `IsRootMap` says of it leaves no choice.
use Rattle.std.proofs.Common.{◌≡◌, ◌≤ℤ◌, ◌⊎◌, inl, inr, ⊎_elim, ℕ, zero, suc, ℤ, pos, negsuc, List, [], ◌∷◌, All, length, true, refl, ap, sym, subst, ◌∙◌, arith}
use Rattle.std.proofs.lemmas.Bool.{cases_Bool, cases_eq}
use Rattle.std.proofs.lemmas.Int.{ints}
use Rattle.std.proofs.lemmas.List.Elements.{All-nil, All-cons, All-head, All-tail, All-contains}
use Rattle.dpl_sets.specs.Ranges.{RangeValue, members_of, IsBound, is_bound}
use Rattle.dpl_range.proofs.LimitLemmas.{is_bound-IsBound}
use Rattle.dpl_sets.specs.Indices.{indices}
use Rattle.dpl_map.specs.Maps.{AxisValue, Block as BlockRule, IsBox, IsBlockMap, IsBlocksize}
use Rattle.dpl_layout.specs.declared.maps.Maps.{Maps}
use Rattle.dpl_layout.specs.declared.maps.Maps.TheVariants as roots
use Rattle.dpl_layout.specs.declared.named.Named.{Named}
use Rattle.dpl_layout.specs.declared.named.Named.TheVariants.{Whole, Block, Cyclic, BlockCyclic}
use Rattle.dpl_layout.specs.Layouts.{LayoutValue}
use Rattle.dpl_layout.specs.Roots.{AreBlocks, IsBlockOf, IsCyclicFrom, IsBlockCyclicFrom, IsLeast, IsLeastOf, IsCyclicOf, IsNamed, IsChosen, IsRootMap}

-- a range has one box
IsBox-same : (r : RangeValue) (a b c d : ℤ) → IsBox r a b → IsBox r c d → (a ≡ c) × (b ≡ d)
IsBox-same r a b c d one other =
    let below = All-contains (λ i. a ≤ℤ i) (members_of r) c one.low_is_least other.low_is_member in
    let above = All-contains (λ i. c ≤ℤ i) (members_of r) a other.low_is_least one.low_is_member in
    let under = All-contains (λ i. i ≤ℤ b) (members_of r) d one.high_is_greatest other.high_is_member in
    let over = All-contains (λ i. i ≤ℤ d) (members_of r) b other.high_is_greatest one.high_is_member in
    (omega (arith, ints, below, above), omega (arith, ints, under, over))

pub IsBlockMap-same : (rs : List RangeValue) (ns : List ℕ) (x y : List AxisValue) → IsBlockMap rs ns x → IsBlockMap rs ns y → x ≡ y
IsBlockMap-same [] [] [] [] one other = refl
IsBlockMap-same [] [] [] (b ∷ y) one other = absurd other
IsBlockMap-same [] [] (a ∷ x) y one other = absurd one
IsBlockMap-same [] (n ∷ ns) x y one other = absurd one
IsBlockMap-same (r ∷ rs) [] x y one other = absurd one
IsBlockMap-same (r ∷ rs) (n ∷ ns) [] y one other = absurd one
IsBlockMap-same (r ∷ rs) (n ∷ ns) (a ∷ x) [] one other = absurd other
IsBlockMap-same (r ∷ rs) (n ∷ ns) (a ∷ x) (b ∷ y) one other =
    let ends = IsBox-same r one.0.0 one.0.1 other.0.0 other.0.1 one.0.2 other.0.2 in
    let low = ap (λ (low : ℤ). let axis : AxisValue = record { rule = BlockRule low one.0.1; extent = n } in axis) ends.0 in
    let high = ap (λ (high : ℤ). let axis : AxisValue = record { rule = BlockRule other.0.0 high; extent = n } in axis) ends.1 in
    ap (λ (c : AxisValue). c ∷ x) (one.0.3 ∙ low ∙ high ∙ sym other.0.3) ∙ ap (λ (z : List AxisValue). b ∷ z) (IsBlockMap-same rs ns x y one.1 other.1)

IsLeast-same : (r : RangeValue) (i j : ℤ) → IsLeast r i → IsLeast r j → i ≡ j
IsLeast-same r i j one other =
    let below = All-contains (λ k. i ≤ℤ k) (members_of r) j one.is_least other.is_member in
    let above = All-contains (λ k. j ≤ℤ k) (members_of r) i other.is_least one.is_member in
    omega (arith, ints, below, above)

-- a domain has the least members once
pub IsLeastOf-same : (rs : List RangeValue) (s t : List ℤ) → IsLeastOf rs s → IsLeastOf rs t → s ≡ t
IsLeastOf-same [] [] [] one other = refl
IsLeastOf-same [] [] (j ∷ t) one other = absurd other
IsLeastOf-same [] (i ∷ s) t one other = absurd one
IsLeastOf-same (r ∷ rs) [] t one other = absurd one
IsLeastOf-same (r ∷ rs) (i ∷ s) [] one other = absurd other
IsLeastOf-same (r ∷ rs) (i ∷ s) (j ∷ t) one other =
    ap (λ (k : ℤ). k ∷ s) (IsLeast-same r i j one.0 other.0) ∙ ap (λ (u : List ℤ). j ∷ u) (IsLeastOf-same rs s t one.1 other.1)

-- what is held of each element, or not
all-or-not : {X : Type 0} (P : X → Type 0) → ((x : X) → P x ⊎ (¬ P x)) → (xs : List X) → All P xs ⊎ (¬ All P xs)
all-or-not P each [] = inl (All-nil P)
all-or-not P each (x ∷ xs) =
    ⊎_elim
    (λ here. ⊎_elim (λ later. inl (All-cons P x xs here later)) (λ not_later. inr (λ all. not_later (All-tail P x xs all))) (all-or-not P each xs))
    (λ not_here. inr (λ all. not_here (All-head P x xs all)))
    (each x)

bound-or-not : (i : ℤ) → IsBound i ⊎ (¬ IsBound i)
bound-or-not i =
    let bound = is_bound-IsBound i in
    ⊎_elim (λ yes. inl (bound.0 yes)) (λ no. inr (λ is. let yes : is_bound i ≡ true = bound.1 is in cc)) (cases_Bool (is_bound i))

size-or-not : (size : ℤ) → IsBlocksize size ⊎ (¬ IsBlocksize size)
size-or-not (pos zero) = inr (λ is. omega (arith, ints, is))
size-or-not (pos (suc n)) = inl (omega (arith, ints))
size-or-not (negsuc n) = inr (λ is. omega (arith, ints, is))

blocks-or-not : (start sizes : List ℤ) → AreBlocks start sizes ⊎ (¬ AreBlocks start sizes)
blocks-or-not start sizes =
    ⊎_elim
    (λ within.
    ⊎_elim
    (λ as_many.
    ⊎_elim (λ some. inl (within, as_many, some)) (λ none. inr (λ are. none are.2)) (all-or-not IsBlocksize size-or-not sizes))
    (λ more. inr (λ are. more are.1))
    (cases_eq (length sizes) (length start)))
    (λ past. inr (λ are. past are.0))
    (all-or-not IsBound bound-or-not start)

nothing-or-not : {X : Type 0} (xs : List X) → (xs ≡ []) ⊎ (xs ≡ [] → ⊥)
nothing-or-not [] = inl refl
nothing-or-not (x ∷ xs) = inr (λ e. cc)

module _ (l : LayoutValue) (x y : List AxisValue) where
  pub IsBlockOf-same : (box : List RangeValue) → IsBlockOf l box x → IsBlockOf l box y → x ≡ y
  IsBlockOf-same box one other =
      ⊎_elim (λ none. one.empty none ∙ sym (other.empty none)) (λ some. IsBlockMap-same box _ x y (one.some some) (other.some some)) (nothing-or-not (indices box))

  pub IsCyclicFrom-same : (start : List ℤ) → IsCyclicFrom l start x → IsCyclicFrom l start y → x ≡ y
  IsCyclicFrom-same start one other =
      ⊎_elim (λ within. one.within within ∙ sym (other.within within)) (λ past. one.past past ∙ sym (other.past past)) (all-or-not IsBound bound-or-not start)

  pub IsBlockCyclicFrom-same : (start sizes : List ℤ) → IsBlockCyclicFrom l start sizes x → IsBlockCyclicFrom l start sizes y → x ≡ y
  IsBlockCyclicFrom-same start sizes one other =
      ⊎_elim (λ blocks. one.blocks blocks ∙ sym (other.blocks blocks)) (λ none. one.none none ∙ sym (other.none none)) (blocks-or-not start sizes)

  pub IsCyclicOf-same : (d : List RangeValue) → IsCyclicOf l d x → IsCyclicOf l d y → x ≡ y
  IsCyclicOf-same d one other =
      ⊎_elim
      (λ none. one.empty none ∙ sym (other.empty none))
      (λ some.
      let from = one.some some in
      let to = other.some some in
      let start = IsLeastOf-same d to.0 from.0 to.1 from.1 in
      IsCyclicFrom-same from.0 from.2 (subst (λ (s : List ℤ). IsCyclicFrom l s y) start to.2))
      (nothing-or-not (indices d))

  pub IsNamed-same : (named : Named) → IsNamed l named x → IsNamed l named y → x ≡ y
  IsNamed-same Whole one other = one ∙ sym other
  IsNamed-same (Block box) one other = IsBlockOf-same box one other
  IsNamed-same (Cyclic start) one other = IsCyclicFrom-same start one other
  IsNamed-same (BlockCyclic start sizes) one other = IsBlockCyclicFrom-same start sizes one other

  IsChosen-same : (maps : Maps) (named : Named) (d : List RangeValue) → IsChosen maps l named d x → IsChosen maps l named d y → x ≡ y
  IsChosen-same roots.AsIs named d one other = IsNamed-same named one other
  IsChosen-same roots.Block named d one other = IsBlockOf-same d one other
  IsChosen-same roots.Cyclic named d one other = IsCyclicOf-same d one other

  -- two maps that a root may get are one
  pub IsRootMap-same : (named : Named) (d : List RangeValue) → IsRootMap l named d x → IsRootMap l named d y → x ≡ y
  IsRootMap-same named d one other = IsChosen-same l.maps named d one other

-- Whose map deals out the indices of a reduction: that of the first whole array, from left to right, in what it folds.
use Rattle.std.specs.Prelude.{ℕ, List, [], ◌∷◌, Option, Some, None}
use Rattle.dpl_nodes.specs.declared.tree.PromotedIntLink.{PromotedIntLink}
use Rattle.dpl_nodes.specs.declared.tree.PromotedInt.{PromotedInt, Scalar' as IntScalar', Element as IntsElement, Negative', Chain' as IntsChain', Row_of-PromotedIntLink, end_of-PromotedIntLink, more_of-PromotedIntLink}
use Rattle.dpl_nodes.specs.declared.tree.PromotedTruthLink.{PromotedTruthLink}
use Rattle.dpl_nodes.specs.declared.tree.PromotedTruth.{PromotedTruth, Scalar' as TruthScalar', Element as TruthsElement, Not', Chain' as TruthsChain', Row_of-PromotedTruthLink, end_of-PromotedTruthLink, more_of-PromotedTruthLink, Compare}

-- the first of two, if there is one
abbrev pub or_slot : Option ℕ → Option ℕ → Option ℕ
or_slot (Some slot) other = Some slot
or_slot None other = other

abbrev mutual
  pub first_of_ints : PromotedInt → Option ℕ
  first_of_ints (IntScalar' p e) = None
  first_of_ints (IntsElement slot at) = Some slot
  first_of_ints (Negative' p e) = first_of_ints e
  first_of_ints (IntsChain' p first q shape row) = or_slot (first_of_ints first) (first_in_ints row)

  -- the further operands of a chain
  pub first_in_ints : {m : _} → Row_of-PromotedIntLink m → Option ℕ
  first_in_ints end_of-PromotedIntLink = None
  first_in_ints (more_of-PromotedIntLink op p e row) = or_slot (first_of_ints e) (first_in_ints row)

abbrev mutual
  pub first_of_truths : PromotedTruth → Option ℕ
  first_of_truths (TruthScalar' p e) = None
  first_of_truths (TruthsElement slot at) = Some slot
  first_of_truths (Not' p e) = first_of_truths e
  first_of_truths (TruthsChain' p first q shape row) = or_slot (first_of_truths first) (first_in_truths row)
  first_of_truths (Compare c a b) = or_slot (first_of_ints a.now) (first_of_ints b.now)

  pub first_in_truths : {m : _} → Row_of-PromotedTruthLink m → Option ℕ
  first_in_truths end_of-PromotedTruthLink = None
  first_in_truths (more_of-PromotedTruthLink op p e row) = or_slot (first_of_truths e) (first_in_truths row)

-- the same for lists of operands
abbrev pub first_in_list : {A : Type 0} → (A → Option ℕ) → List A → Option ℕ
first_in_list first_of [] = None
first_in_list first_of (x ∷ xs) = or_slot (first_of x) (first_in_list first_of xs)

abbrev pub first_of_int_links : List PromotedIntLink → Option ℕ
first_of_int_links links = first_in_list (λ (l : PromotedIntLink). first_of_ints l.right.now) links

abbrev pub first_of_truth_links : List PromotedTruthLink → Option ℕ
first_of_truth_links links = first_in_list (λ (l : PromotedTruthLink). first_of_truths l.right.now) links

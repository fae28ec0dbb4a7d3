-- The domain of a promoted expression is that of its first whole array.
use Rattle.std.proofs.Common.{◌≡◌, ℕ, List, Option, Some, None, refl, ap, ◌∙◌}
use Rattle.std.specs.Option.{option_or}
use Rattle.std.specs.Option.{option_map}
use Rattle.dpl_sets.specs.TextRanges.{TextRange}
use Rattle.dpl_language.specs.Environment.{Limits}
use Rattle.dpl_language.specs.Expressions.{whole_in}
use Rattle.dpl_language.specs.Tree.{ExprTree}
use Rattle.dpl_lowered.specs.Shapes.{nowhere, two, grouped}
use Rattle.dpl_lowered.specs.LoweredExpressions.{EachTurn}
use Rattle.dpl_memory.specs.Memory.{Variable, Memory, array_at, in_memory}
use Rattle.dpl_nodes.specs.declared.tree.PromotedInt.{PromotedInt, Scalar' as IntScalar', Element as IntsElement, Negative', Chain' as IntsChain', Row_of-PromotedIntLink, end_of-PromotedIntLink, more_of-PromotedIntLink}
use Rattle.dpl_nodes.specs.declared.tree.PromotedTruth.{PromotedTruth, Scalar' as TruthScalar', Element as TruthsElement, Not', Chain' as TruthsChain', Row_of-PromotedTruthLink, end_of-PromotedTruthLink, more_of-PromotedTruthLink, Compare}
use Rattle.dpl_nodes.specs.Typed.{int_infix, int_place, junction_view, promoted_int, promoted_int_links, promoted_truth, promoted_truth_links}
use Rattle.dpl_nodes.proofs.Promotions.{int_view-whole, truth_view-whole}
use Rattle.dpl_values.specs.Reducing.{or_slot, first_of_ints, first_in_ints, first_of_truths, first_in_truths}

module _ (limits : Limits) (s : Memory) where
  abbrev domain_in : Option ℕ → Option (List TextRange)
  domain_in o = option_map (λ slot. (array_at slot s).ranges) o

  option_or-first : (a b : Option ℕ) (d e : Option (List TextRange)) → d ≡ domain_in a → e ≡ domain_in b → option_or d (option_or e None) ≡ domain_in (or_slot a b)
  option_or-first (Some k) b d e first second = ap (λ d. option_or d (option_or e None)) first
  option_or-first None (Some k) d e first second = ap (λ d. option_or d (option_or e None)) first ∙ ap (λ e. option_or e None) second
  option_or-first None None d e first second = ap (λ d. option_or d (option_or e None)) first ∙ ap (λ e. option_or e None) second

  -- the first of three is by the first of two
  or_slot-again : (a b c : Option ℕ) → or_slot (or_slot a b) c ≡ or_slot a (or_slot b c)
  or_slot-again (Some k) b c = refl
  or_slot-again None b c = refl

  or_slot-none : (a : Option ℕ) → a ≡ or_slot a None
  or_slot-none (Some k) = refl
  or_slot-none None = refl

  -- a chain's is that of what came so far, or of what is left
  mutual
    pub ints_whole : (e : PromotedInt) → whole_in limits in_memory (promoted_int EachTurn e) s ≡ domain_in (first_of_ints e)
    ints_whole (IntScalar' p e) = int_view-whole limits s e
    ints_whole (IntsElement slot at) = refl
    ints_whole (Negative' p e) = ints_whole e
    ints_whole (IntsChain' p first q shape row) = ints_links_whole row (promoted_int EachTurn first) (first_of_ints first) (ints_whole first)

    ints_links_whole : {m : _} (row : Row_of-PromotedIntLink m) (a : ExprTree Variable) (o : Option ℕ) → whole_in limits in_memory a s ≡ domain_in o
        → whole_in limits in_memory (grouped a (promoted_int_links EachTurn row)) s ≡ domain_in (or_slot o (first_in_ints row))
    ints_links_whole end_of-PromotedIntLink a o h = h ∙ ap domain_in (or_slot-none o)
    ints_links_whole (more_of-PromotedIntLink op p e row) a o h =
        ints_links_whole row (two a (int_place op) (int_infix op) (promoted_int EachTurn e)) (or_slot o (first_of_ints e)) (option_or-first o (first_of_ints e) _ _ h (ints_whole e))
        ∙ ap domain_in (or_slot-again o (first_of_ints e) (first_in_ints row))

  mutual
    pub truths_whole : (e : PromotedTruth) → whole_in limits in_memory (promoted_truth EachTurn e) s ≡ domain_in (first_of_truths e)
    truths_whole (TruthScalar' p e) = truth_view-whole limits s e
    truths_whole (TruthsElement slot at) = refl
    truths_whole (Not' p e) = truths_whole e
    truths_whole (TruthsChain' p first q shape row) = truths_links_whole row (promoted_truth EachTurn first) (first_of_truths first) (truths_whole first)
    truths_whole (Compare c a b) = option_or-first (first_of_ints a.now) (first_of_ints b.now) _ _ (ints_whole a.now) (ints_whole b.now)

    truths_links_whole : {m : _} (row : Row_of-PromotedTruthLink m) (a : ExprTree Variable) (o : Option ℕ) → whole_in limits in_memory a s ≡ domain_in o
        → whole_in limits in_memory (grouped a (promoted_truth_links EachTurn row)) s ≡ domain_in (or_slot o (first_in_truths row))
    truths_links_whole end_of-PromotedTruthLink a o h = h ∙ ap domain_in (or_slot-none o)
    truths_links_whole (more_of-PromotedTruthLink op p e row) a o h =
        truths_links_whole row (two a nowhere (junction_view op) (promoted_truth EachTurn e)) (or_slot o (first_of_truths e)) (option_or-first o (first_of_truths e) _ _ h (truths_whole e))
        ∙ ap domain_in (or_slot-again o (first_of_truths e) (first_in_truths row))

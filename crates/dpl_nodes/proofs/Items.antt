-- A typed expression as an expression and as an item: the brackets round a range with bounds come and go.
-- Each lemma has what the typed expression stands for on its left side.
use Rattle.std.proofs.Common.{◌≡◌, refl}
use Rattle.dpl_language.specs.Tree.{One}
use Rattle.dpl_lowered.specs.Shapes.{as_expr, as_item, stacked_on}
use Rattle.dpl_lowered.specs.LoweredExpressions.{Times}
use Rattle.dpl_nodes.specs.declared.tree.IntExpr.{IntExpr, Number as NumberNode, Chain'}
use Rattle.dpl_nodes.specs.declared.tree.BoolExpr.{BoolExpr, Truth as TruthNode, Chain' as TruthChain'}
use Rattle.dpl_nodes.specs.declared.tree.RangeExpr.{RangeExpr, Row_of-RangeCut, Local as RangeLocal, Slice'}
use Rattle.dpl_nodes.specs.declared.tree.DomainExpr.{DomainExpr, Local as DomainLocal, Posts'}
use Rattle.dpl_nodes.specs.declared.tree.PromotedInt.{PromotedInt, Scalar' as IntScalar', Chain' as IntsChain'}
use Rattle.dpl_nodes.specs.declared.tree.PromotedTruth.{PromotedTruth, Scalar' as TruthScalar', Chain' as TruthsChain'}
use Rattle.dpl_nodes.specs.Typed.{bracketed, int_view, truth_view, range_view, range_item, range_cuts, domain_view, promoted_int, promoted_truth}
use Rattle.dpl_nodes.proofs.Chains.{int_links-hold, truth_links-hold, promoted_int_links-hold, promoted_truth_links-hold, range_cuts-hold, domain_posts-hold}

pub int_view-item : (e : IntExpr) → One (int_view e) ≡ as_item (int_view e)
int_view-item (NumberNode n) = refl
int_view-item (Chain' p first q shape row) = int_links-hold (λ a. One a ≡ as_item a) (λ a b op. refl) row (int_view first) (int_view-item first)
int_view-item _ = refl

pub truth_view-item : (e : BoolExpr) → One (truth_view e) ≡ as_item (truth_view e)
truth_view-item (TruthNode b) = refl
truth_view-item (TruthChain' p first q shape row) = truth_links-hold (λ a. One a ≡ as_item a) (λ a b op. refl) row (truth_view first) (truth_view-item first)
truth_view-item _ = refl

pub range_view-item : (r : RangeExpr) → range_view r ≡ as_expr (range_item r)
range_view-item (RangeLocal slot) = refl
range_view-item _ = refl

sliced-item : {m : _} (row : Row_of-RangeCut m) (r cut : RangeExpr) → One (stacked_on (bracketed (range_view r) (range_item cut)) (range_cuts row)) ≡ as_item (stacked_on (bracketed (range_view r) (range_item cut)) (range_cuts row))
sliced-item row r cut = range_cuts-hold (λ a. One a ≡ as_item a) (λ a c h. refl) row (bracketed (range_view r) (range_item cut)) refl

pub range_item-view : (r : RangeExpr) → range_item r ≡ as_item (range_view r)
range_item-view (RangeLocal slot) = refl
range_item-view (Slice' p r q cut w shape row) = sliced-item row r cut
range_item-view _ = refl

pub domain_view-item : (e : DomainExpr) → One (domain_view e) ≡ as_item (domain_view e)
domain_view-item (DomainLocal slot) = refl
domain_view-item (Posts' p d q shape row) = domain_posts-hold (λ a. One a ≡ as_item a) (λ a c h. refl) row (domain_view d) (domain_view-item d)
domain_view-item _ = refl

pub promoted_int-item : (m : Times) (e : PromotedInt) → One (promoted_int m e) ≡ as_item (promoted_int m e)
promoted_int-item m (IntScalar' p e) = int_view-item e
promoted_int-item m (IntsChain' p first q shape row) =
    promoted_int_links-hold m (λ a. One a ≡ as_item a) (λ a b op. refl) row (promoted_int m first) (promoted_int-item m first)
promoted_int-item m _ = refl

pub promoted_truth-item : (m : Times) (e : PromotedTruth) → One (promoted_truth m e) ≡ as_item (promoted_truth m e)
promoted_truth-item m (TruthScalar' p e) = truth_view-item e
promoted_truth-item m (TruthsChain' p first q shape row) =
    promoted_truth_links-hold m (λ a. One a ≡ as_item a) (λ a b op. refl) row (promoted_truth m first) (promoted_truth-item m first)
promoted_truth-item m _ = refl

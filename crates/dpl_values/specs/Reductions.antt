-- The reductions in an expression, each by the slot of its array; and that a gate may refuse an entry of one of them.
-- An entry of a reduction is that of the owner of an index of its array, with the place of the index.
use Rattle.std.specs.Prelude.{ℕ, List, [], ◌∷◌, Option, Some, None}
use Rattle.dpl_memory.specs.Memory.{array_at}
use Rattle.dpl_nodes.specs.declared.tree.IntLink.{IntLink}
use Rattle.dpl_nodes.specs.declared.tree.IntExpr.{IntExpr, Chain', Row_of-IntLink, end_of-IntLink, more_of-IntLink, Number, Local as IntLocal, Negative', Sum', Difference', Product', Quotient', Remainder', OfRange', OfDomain', Element', Reduced' as IntReduced'}
use Rattle.dpl_nodes.specs.declared.tree.TruthLink.{TruthLink}
use Rattle.dpl_nodes.specs.declared.tree.BoolExpr.{BoolExpr, Truth, Local as TruthLocal, Not', Chain' as TruthChain', Row_of-TruthLink, end_of-TruthLink, more_of-TruthLink, Compare, Contains, HasIndex, Element as TruthElement, Reduced' as TruthReduced'}
use Rattle.dpl_nodes.specs.declared.tree.RangeCut.{RangeCut}
use Rattle.dpl_nodes.specs.declared.tree.RangeExpr.{RangeExpr, Local as RangeLocal, Between', Slice', Row_of-RangeCut, end_of-RangeCut, more_of-RangeCut, Dimension'}
use Rattle.dpl_nodes.specs.declared.tree.Stride.{Stride, Absent, By'}
use Rattle.dpl_nodes.specs.declared.tree.RangesExpr.{RangesExpr, Line' as LineRange', Plane' as PlaneRanges', Space' as SpaceRanges'}
use Rattle.dpl_nodes.specs.declared.tree.IndexExpr.{IndexExpr, Line' as LineIndex', Plane' as PlaneIndex', Space' as SpaceIndex', Tuple}
use Rattle.dpl_nodes.specs.declared.tree.DomainPost.{DomainPost, Slice' as SlicePost', Expanded' as ExpandedPost'}
use Rattle.dpl_nodes.specs.declared.tree.DomainExpr.{DomainExpr, Local as DomainLocal, OfArray, Literal', Posts', Row_of-DomainPost, end_of-DomainPost, more_of-DomainPost, Created'}
use Rattle.dpl_nodes.specs.declared.tree.PromotedIntLink.{PromotedIntLink}
use Rattle.dpl_nodes.specs.declared.tree.PromotedInt.{PromotedInt, Scalar' as IntScalar', Element as IntsElement, Negative' as Negatives', Chain' as IntsChain', Row_of-PromotedIntLink, end_of-PromotedIntLink, more_of-PromotedIntLink}
use Rattle.dpl_nodes.specs.declared.tree.PromotedTruthLink.{PromotedTruthLink}
use Rattle.dpl_nodes.specs.declared.tree.PromotedTruth.{PromotedTruth, Scalar' as TruthScalar', Element as TruthsElement, Not' as Nots', Chain' as TruthsChain', Row_of-PromotedTruthLink, end_of-PromotedTruthLink, more_of-PromotedTruthLink, Compare as Compares}
use Rattle.dpl_frame.specs.Frames.{Framed, owned_by}
use Rattle.dpl_loop.specs.Entries.{MayRefuse, MayRefuseSome}
use Rattle.dpl_values.specs.Reducing.{first_of_ints, first_of_truths}

-- what is said of slots holds of this one, if there is one
abbrev pub OfSlot : Option ℕ → (ℕ → Type 0) → Type 0
OfSlot (Some slot) Holds = Holds slot
OfSlot None Holds = Unit {0}

-- what is said of slots holds of the array of each reduction in an expression
abbrev mutual
  pub EachInInt : IntExpr → (ℕ → Type 0) → Type 0
  EachInInt (Number n) Holds = Unit {0}
  EachInInt (IntLocal slot) Holds = Unit {0}
  EachInInt (Negative' p e) Holds = EachInInt e Holds
  EachInInt (Sum' p a q b) Holds = EachInInt a Holds × EachInInt b Holds
  EachInInt (Difference' p a q b) Holds = EachInInt a Holds × EachInInt b Holds
  EachInInt (Product' p a q b) Holds = EachInInt a Holds × EachInInt b Holds
  EachInInt (Quotient' p a q b at) Holds = EachInInt a Holds × EachInInt b Holds
  EachInInt (Remainder' p a q b at) Holds = EachInInt a Holds × EachInInt b Holds
  EachInInt (Chain' p first q shape row) Holds = EachInInt first Holds × EachInLinks row Holds
  EachInInt (OfRange' m p r at) Holds = EachInRange r Holds
  EachInInt (OfDomain' m p d) Holds = EachInDomain d Holds
  EachInInt (Element' slot p t at) Holds = EachInIndex t Holds
  EachInInt (IntReduced' f p e at) Holds = OfSlot (first_of_ints e) Holds × EachInInts e Holds

  pub EachInLinks : {m : _} → Row_of-IntLink m → (ℕ → Type 0) → Type 0
  EachInLinks end_of-IntLink Holds = Unit {0}
  EachInLinks (more_of-IntLink op p e row) Holds = EachInInt e Holds × EachInLinks row Holds

  pub EachInRange : RangeExpr → (ℕ → Type 0) → Type 0
  EachInRange (RangeLocal slot) Holds = Unit {0}
  EachInRange (Between' p low at dots q high stride) Holds = EachInInt low Holds × EachInInt high Holds × EachInStride stride Holds
  EachInRange (Slice' p r q cut w shape row) Holds = EachInRange r Holds × EachInRange cut Holds × EachInCuts row Holds
  EachInRange (Dimension' p d n) Holds = EachInDomain d Holds

  pub EachInCuts : {m : _} → Row_of-RangeCut m → (ℕ → Type 0) → Type 0
  EachInCuts end_of-RangeCut Holds = Unit {0}
  EachInCuts (more_of-RangeCut p cut row) Holds = EachInRange cut Holds × EachInCuts row Holds

  pub EachInStride : Stride → (ℕ → Type 0) → Type 0
  EachInStride Absent Holds = Unit {0}
  EachInStride (By' at p e) Holds = EachInInt e Holds

  pub EachInRanges : RangesExpr → (ℕ → Type 0) → Type 0
  EachInRanges (LineRange' p a) Holds = EachInRange a Holds
  EachInRanges (PlaneRanges' p a q b) Holds = EachInRange a Holds × EachInRange b Holds
  EachInRanges (SpaceRanges' p a q b r c) Holds = EachInRange a Holds × EachInRange b Holds × EachInRange c Holds

  pub EachInIndex : IndexExpr → (ℕ → Type 0) → Type 0
  EachInIndex (LineIndex' p a) Holds = EachInInt a Holds
  EachInIndex (PlaneIndex' p a q b) Holds = EachInInt a Holds × EachInInt b Holds
  EachInIndex (SpaceIndex' p a q b r c) Holds = EachInInt a Holds × EachInInt b Holds × EachInInt c Holds
  EachInIndex (Tuple slot) Holds = Unit {0}

  pub EachInDomain : DomainExpr → (ℕ → Type 0) → Type 0
  EachInDomain (DomainLocal slot) Holds = Unit {0}
  EachInDomain (OfArray k slot) Holds = Unit {0}
  EachInDomain (Literal' at p rs) Holds = EachInRanges rs Holds
  EachInDomain (Posts' p d q shape row) Holds = EachInDomain d Holds × EachInPosts row Holds
  EachInDomain (Created' at p d) Holds = EachInDomain d Holds

  pub EachInPost : DomainPost → (ℕ → Type 0) → Type 0
  EachInPost (SlicePost' p rs) Holds = EachInRanges rs Holds
  EachInPost (ExpandedPost' at p e) Holds = EachInInt e Holds

  pub EachInPosts : {m : _} → Row_of-DomainPost m → (ℕ → Type 0) → Type 0
  EachInPosts end_of-DomainPost Holds = Unit {0}
  EachInPosts (more_of-DomainPost post row) Holds = EachInPost post Holds × EachInPosts row Holds

  pub EachInInts : PromotedInt → (ℕ → Type 0) → Type 0
  EachInInts (IntScalar' p e) Holds = EachInInt e Holds
  EachInInts (IntsElement slot at) Holds = Unit {0}
  EachInInts (Negatives' p e) Holds = EachInInts e Holds
  EachInInts (IntsChain' p first q shape row) Holds = EachInInts first Holds × EachInIntsLinks row Holds

  pub EachInIntsLinks : {m : _} → Row_of-PromotedIntLink m → (ℕ → Type 0) → Type 0
  EachInIntsLinks end_of-PromotedIntLink Holds = Unit {0}
  EachInIntsLinks (more_of-PromotedIntLink op p e row) Holds = EachInInts e Holds × EachInIntsLinks row Holds

abbrev mutual
  pub EachInTruth : BoolExpr → (ℕ → Type 0) → Type 0
  EachInTruth (Truth b) Holds = Unit {0}
  EachInTruth (TruthLocal slot) Holds = Unit {0}
  EachInTruth (Not' p e) Holds = EachInTruth e Holds
  EachInTruth (TruthChain' p first q shape row) Holds = EachInTruth first Holds × EachInTruthLinks row Holds
  EachInTruth (Compare c a b) Holds = EachInInt a.now Holds × EachInInt b.now Holds
  EachInTruth (Contains r i) Holds = EachInRange r.now Holds × EachInInt i.now Holds
  EachInTruth (HasIndex d t) Holds = EachInDomain d.now Holds × EachInIndex t.now Holds
  EachInTruth (TruthElement slot t at) Holds = EachInIndex t.now Holds
  EachInTruth (TruthReduced' f p e at) Holds = OfSlot (first_of_truths e) Holds × EachInTruths e Holds

  pub EachInTruthLinks : {m : _} → Row_of-TruthLink m → (ℕ → Type 0) → Type 0
  EachInTruthLinks end_of-TruthLink Holds = Unit {0}
  EachInTruthLinks (more_of-TruthLink op p e row) Holds = EachInTruth e Holds × EachInTruthLinks row Holds

  pub EachInTruths : PromotedTruth → (ℕ → Type 0) → Type 0
  EachInTruths (TruthScalar' p e) Holds = EachInTruth e Holds
  EachInTruths (TruthsElement slot at) Holds = Unit {0}
  EachInTruths (Nots' p e) Holds = EachInTruths e Holds
  EachInTruths (TruthsChain' p first q shape row) Holds = EachInTruths first Holds × EachInTruthsLinks row Holds
  EachInTruths (Compares c a b) Holds = EachInInts a.now Holds × EachInInts b.now Holds

  pub EachInTruthsLinks : {m : _} → Row_of-PromotedTruthLink m → (ℕ → Type 0) → Type 0
  EachInTruthsLinks end_of-PromotedTruthLink Holds = Unit {0}
  EachInTruthsLinks (more_of-PromotedTruthLink op p e row) Holds = EachInTruths e Holds × EachInTruthsLinks row Holds

-- of a list, by what is said of each of its entries
abbrev pub EachInList : {A : Type 0} → (A → (ℕ → Type 0) → Type 0) → List A → (ℕ → Type 0) → Type 0
EachInList each [] Holds = Unit {0}
EachInList each (x ∷ xs) Holds = each x Holds × EachInList each xs Holds

-- of chains, slices and posts, by the lists of what follows the first
abbrev pub EachInChain : IntExpr → List IntLink → (ℕ → Type 0) → Type 0
EachInChain first links Holds = EachInInt first Holds × EachInList (λ (l : IntLink). EachInInt l.right.now) links Holds

abbrev pub EachInTruthChain : BoolExpr → List TruthLink → (ℕ → Type 0) → Type 0
EachInTruthChain first links Holds = EachInTruth first Holds × EachInList (λ (l : TruthLink). EachInTruth l.right.now) links Holds

abbrev pub EachInSlices : RangeExpr → RangeExpr → List RangeCut → (ℕ → Type 0) → Type 0
EachInSlices r cut cuts Holds = EachInRange r Holds × EachInRange cut Holds × EachInList (λ (c : RangeCut). EachInRange c.by.now) cuts Holds

abbrev pub EachInPosted : DomainExpr → List DomainPost → (ℕ → Type 0) → Type 0
EachInPosted d posts Holds = EachInDomain d Holds × EachInList EachInPost posts Holds

abbrev pub EachInIntsChain : PromotedInt → List PromotedIntLink → (ℕ → Type 0) → Type 0
EachInIntsChain first links Holds = EachInInts first Holds × EachInList (λ (l : PromotedIntLink). EachInInts l.right.now) links Holds

abbrev pub EachInTruthsChain : PromotedTruth → List PromotedTruthLink → (ℕ → Type 0) → Type 0
EachInTruthsChain first links Holds = EachInTruths first Holds × EachInList (λ (l : PromotedTruthLink). EachInTruths l.right.now) links Holds

-- of the two methods that are truth values, by their parts
abbrev pub EachInContained : RangeExpr → IntExpr → (ℕ → Type 0) → Type 0
EachInContained r i Holds = EachInRange r Holds × EachInInt i Holds

abbrev pub EachInHasIndex : DomainExpr → IndexExpr → (ℕ → Type 0) → Type 0
EachInHasIndex d t Holds = EachInDomain d Holds × EachInIndex t Holds

-- a gate may refuse some entry, and it isn't so that it refuses none of the reductions
abbrev pub MayRefuseReduction : (ℕ → ℕ → Type 0) → Framed → ((ℕ → Type 0) → Type 0) → Type 0
MayRefuseReduction may f each =
    MayRefuseSome may × (each (λ slot. MayRefuse may (owned_by f slot) (array_at slot f.memory).ranges → ⊥) → ⊥)

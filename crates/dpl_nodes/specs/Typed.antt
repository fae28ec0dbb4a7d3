-- The plain tree that a typed tree stands for.
-- It is a lowered tree over slots: two operands to an operator, no brackets, and the places of faults alone.
use Rattle.std.specs.Prelude.{ℕ, List, [], ◌∷◌, Option, Some, None}
use Rattle.dpl_syntax.specs.declared.place.Place.{Place}
use Rattle.dpl_language.specs.Tree.{Kind, IntKind, BoolKind, Minus, Not, Infix, Add, Subtract, Multiply, Divide, Remainder, Less, LessEqual, Greater, GreaterEqual, Equal, NotEqual, And, Or, Dots, Closed, HalfOpen, Counted, Word, Size, First, Last, Low, High, DomainOf, Op, Sum, Product, AllOf, AnyOf, BitAnd, BitOr, BitXor, Least, Greatest, ExprTree, Number, TruthWord, Named, Grouped, DomainLiteral, Prefixed, Reduced, Postfixed, ItemTree, One, RangeItem, Stride, NoStride, By, Links, NoLinks, Link, PostTree, Posts, NoPosts, Post, Brackets, Dotted, MethodTree, Plainly, Dim, Contains, Expand, Items, FirstItem, NoItems, NextItem, Exprs, FirstExpr, NoExprs, NextExpr}
use Rattle.dpl_lowered.specs.Shapes.{nowhere, kept, two, grouped, stacked_on}
use Rattle.dpl_lowered.specs.LoweredExpressions.{Times, EachTurn, each_turn, is_end}
use Rattle.dpl_memory.specs.Memory.{DomainKind, TupleKind, ArrayKind, Variable, variable, int_leaf, truth_leaf, range_leaf}
use Rattle.dpl_nodes.specs.declared.tree.Dots.{Dots as DotsNode}
use Rattle.dpl_nodes.specs.declared.tree.Dots.TheVariants as dots
use Rattle.dpl_nodes.specs.declared.tree.RangeMethod.{RangeMethod}
use Rattle.dpl_nodes.specs.declared.tree.RangeMethod.TheVariants as of_range
use Rattle.dpl_nodes.specs.declared.tree.DomainMethod.{DomainMethod}
use Rattle.dpl_nodes.specs.declared.tree.DomainMethod.TheVariants as of_domain
use Rattle.dpl_nodes.specs.declared.tree.Comparison.{Comparison}
use Rattle.dpl_nodes.specs.declared.tree.Comparison.TheVariants as comparison
use Rattle.dpl_nodes.specs.declared.tree.IntOperator.{IntOperator}
use Rattle.dpl_nodes.specs.declared.tree.IntOperator.TheVariants as operator
use Rattle.dpl_nodes.specs.declared.tree.IntLink.{IntLink}
use Rattle.dpl_nodes.specs.declared.tree.Junction.{Junction}
use Rattle.dpl_nodes.specs.declared.tree.Junction.TheVariants as junction
use Rattle.dpl_nodes.specs.declared.tree.TruthLink.{TruthLink}
use Rattle.dpl_nodes.specs.declared.tree.RangeCut.{RangeCut}
use Rattle.dpl_nodes.specs.declared.tree.DomainPost.{DomainPost, Slice' as SlicePost', Expanded' as ExpandedPost'}
use Rattle.dpl_nodes.specs.declared.tree.PromotedIntLink.{PromotedIntLink}
use Rattle.dpl_nodes.specs.declared.tree.PromotedTruthLink.{PromotedTruthLink}
use Rattle.dpl_nodes.specs.declared.tree.IntExpr.{IntExpr, Number as NumberNode, Local as IntLocal, Negative', Sum', Difference', Product', Quotient', Remainder', Chain', Row_of-IntLink, end_of-IntLink, more_of-IntLink, OfRange', OfDomain', Element', Reduced' as IntReduced'}
use Rattle.dpl_nodes.specs.declared.tree.BoolExpr.{BoolExpr, Truth as TruthNode, Local as TruthLocal, Not', Chain' as TruthChain', Row_of-TruthLink, end_of-TruthLink, more_of-TruthLink, Compare as CompareNode, Contains as ContainsNode, HasIndex as HasIndexNode, Element as TruthElement, Reduced' as TruthReduced'}
use Rattle.dpl_nodes.specs.declared.tree.RangeExpr.{RangeExpr, Local as RangeLocal, Between', Slice', Row_of-RangeCut, end_of-RangeCut, more_of-RangeCut, Dimension'}
use Rattle.dpl_nodes.specs.declared.tree.Stride.{Stride as StrideNode, Absent, By'}
use Rattle.dpl_nodes.specs.declared.tree.RangesExpr.{RangesExpr, Line' as LineRange', Plane' as PlaneRanges', Space' as SpaceRanges'}
use Rattle.dpl_nodes.specs.declared.tree.IndexExpr.{IndexExpr, Line' as LineIndex', Plane' as PlaneIndex', Space' as SpaceIndex', Tuple as TupleIndex}
use Rattle.dpl_nodes.specs.declared.tree.DomainExpr.{DomainExpr, Local as DomainLocal, OfArray, Literal', Posts', Row_of-DomainPost, end_of-DomainPost, more_of-DomainPost, Created'}
use Rattle.dpl_nodes.specs.declared.tree.PromotedInt.{PromotedInt, Scalar' as IntScalar', Element as IntsElement, Negative' as Negatives', Chain' as IntsChain', Row_of-PromotedIntLink, end_of-PromotedIntLink, more_of-PromotedIntLink}
use Rattle.dpl_nodes.specs.declared.tree.PromotedTruth.{PromotedTruth, Scalar' as TruthScalar', Element as TruthsElement, Not' as Nots', Chain' as TruthsChain', Row_of-PromotedTruthLink, end_of-PromotedTruthLink, more_of-PromotedTruthLink, Compare as Compares}
use Rattle.dpl_nodes.specs.declared.fold.IntFold.{IntFold}
use Rattle.dpl_nodes.specs.declared.fold.IntFold.TheVariants as ints
use Rattle.dpl_nodes.specs.declared.fold.TruthFold.{TruthFold}
use Rattle.dpl_nodes.specs.declared.fold.TruthFold.TheVariants as truths
use Rattle.dpl_nodes.specs.declared.fold.Fold.{Fold}
use Rattle.dpl_nodes.specs.declared.fold.Fold.TheVariants as fold

abbrev pub leaf_named : Variable → ExprTree Variable
leaf_named x = Named (record { at = nowhere; name = x })

-- posts: a method, and what stands in square brackets
abbrev pub method_post : MethodTree Variable → PostTree Variable
method_post m = Dotted nowhere m

abbrev pub square_post : Items Variable → PostTree Variable
square_post items = Brackets nowhere items nowhere

abbrev pub dotted : ExprTree Variable → MethodTree Variable → ExprTree Variable
dotted e m = Postfixed e (Post (method_post m) NoPosts)

abbrev pub in_square : ExprTree Variable → Items Variable → ExprTree Variable
in_square e items = Postfixed e (Post (square_post items) NoPosts)

abbrev pub bracketed : ExprTree Variable → ItemTree Variable → ExprTree Variable
bracketed e item = in_square e (FirstItem item NoItems)

-- an array's name, where an index outside the array is told at it
abbrev pub array_named : Kind → ℕ → Place → ExprTree Variable
array_named k slot at = Named (record { at = at; name = variable (ArrayKind k) slot })

abbrev pub tuple_named : ℕ → ExprTree Variable
tuple_named slot = leaf_named (variable TupleKind slot)

-- one, two or three of something
abbrev pub items_one : ItemTree Variable → Items Variable
items_one a = FirstItem a NoItems

abbrev pub items_two : ItemTree Variable → ItemTree Variable → Items Variable
items_two a b = FirstItem a (NextItem nowhere b NoItems)

abbrev pub items_three : ItemTree Variable → ItemTree Variable → ItemTree Variable → Items Variable
items_three a b c = FirstItem a (NextItem nowhere b (NextItem nowhere c NoItems))

abbrev pub exprs_one : ExprTree Variable → Exprs Variable
exprs_one a = FirstExpr a NoExprs

abbrev pub exprs_two : ExprTree Variable → ExprTree Variable → Exprs Variable
exprs_two a b = FirstExpr a (NextExpr nowhere b NoExprs)

abbrev pub exprs_three : ExprTree Variable → ExprTree Variable → ExprTree Variable → Exprs Variable
exprs_three a b c = FirstExpr a (NextExpr nowhere b (NextExpr nowhere c NoExprs))

abbrev pub dots_view : DotsNode → Dots
dots_view dots.Closed = Closed
dots_view dots.HalfOpen = HalfOpen
dots_view dots.Counted = Counted nowhere

abbrev pub range_word : RangeMethod → Word
range_word of_range.Size = Size
range_word of_range.First = First
range_word of_range.Last = Last
range_word of_range.Low = Low
range_word of_range.High = High

abbrev pub domain_word : DomainMethod → Word
domain_word of_domain.Size = Size

-- the method that a word names
abbrev pub range_method : Word → Option RangeMethod
range_method Size = Some of_range.Size
range_method First = Some of_range.First
range_method Last = Some of_range.Last
range_method Low = Some of_range.Low
range_method High = Some of_range.High
range_method _ = None

abbrev pub domain_method : Word → Option DomainMethod
domain_method Size = Some of_domain.Size
domain_method _ = None

abbrev pub comparison_view : Comparison → Infix
comparison_view comparison.Equal = Equal
comparison_view comparison.Unequal = NotEqual
comparison_view comparison.Less = Less
comparison_view comparison.AtMost = LessEqual
comparison_view comparison.Greater = Greater
comparison_view comparison.AtLeast = GreaterEqual

abbrev pub int_fold_view : IntFold → Op
int_fold_view ints.Sum = Sum
int_fold_view ints.Product = Product
int_fold_view ints.BitAnd = BitAnd
int_fold_view ints.BitOr = BitOr
int_fold_view ints.BitXor = BitXor
int_fold_view ints.Least = Least
int_fold_view ints.Greatest = Greatest

abbrev pub truth_fold_view : TruthFold → Op
truth_fold_view truths.AllOf = AllOf
truth_fold_view truths.AnyOf = AnyOf

abbrev pub fold_view : Fold → Op
fold_view (fold.Ints f) = int_fold_view f
fold_view (fold.Truths f) = truth_fold_view f

-- an operator of a chain, and the place that is kept of it
abbrev pub int_infix : IntOperator → Infix
int_infix operator.Sum = Add
int_infix operator.Difference = Subtract
int_infix operator.Product = Multiply
int_infix (operator.Quotient at) = Divide
int_infix (operator.Remainder at) = Remainder

abbrev pub int_place : IntOperator → Place
int_place operator.Sum = nowhere
int_place operator.Difference = nowhere
int_place operator.Product = nowhere
int_place (operator.Quotient at) = at.now
int_place (operator.Remainder at) = at.now

abbrev pub junction_view : Junction → Infix
junction_view junction.And = And
junction_view junction.Or = Or
junction_view junction.Same = Equal
junction_view junction.Differ = NotEqual

abbrev mutual
  pub int_view : IntExpr → ExprTree Variable
  int_view (NumberNode n) = Number nowhere n
  int_view (IntLocal slot) = leaf_named (int_leaf slot)
  int_view (Negative' p e) = Prefixed nowhere Minus (int_view e)
  int_view (Sum' p a q b) = two (int_view a) nowhere Add (int_view b)
  int_view (Difference' p a q b) = two (int_view a) nowhere Subtract (int_view b)
  int_view (Product' p a q b) = two (int_view a) nowhere Multiply (int_view b)
  int_view (Quotient' p a q b at) = two (int_view a) at.now Divide (int_view b)
  int_view (Remainder' p a q b at) = two (int_view a) at.now Remainder (int_view b)
  int_view (Chain' p first q shape row) = grouped (int_view first) (int_links row)
  int_view (OfRange' m p r at) = dotted (range_view r) (Plainly (kept (is_end (range_word m)) at.now) (range_word m))
  int_view (OfDomain' m p d) = dotted (domain_view d) (Plainly nowhere (domain_word m))
  int_view (Element' slot p t at) = in_square (array_named IntKind slot at.now) (index_items t)
  int_view (IntReduced' f p e at) = Reduced nowhere (int_fold_view f) at.now (promoted_int EachTurn e)

  -- the further operands of a chain
  pub int_links : {m : _} → Row_of-IntLink m → Links Variable
  int_links end_of-IntLink = NoLinks
  int_links (more_of-IntLink op p e row) = Link (int_place op) (int_infix op) (int_view e) (int_links row)

  -- a range as an item
  pub range_item : RangeExpr → ItemTree Variable
  range_item (RangeLocal slot) = One (leaf_named (range_leaf slot))
  range_item (Between' p low at dots q high stride) = RangeItem (int_view low) at.now (dots_view dots) (int_view high) (stride_view stride)
  range_item (Slice' p r q cut w shape row) = One (stacked_on (bracketed (range_view r) (range_item cut)) (range_cuts row))
  range_item (Dimension' p d n) = One (dotted (domain_view d) (Dim nowhere nowhere nowhere n nowhere))

  -- and as an expression, which stands in brackets where it has bounds
  pub range_view : RangeExpr → ExprTree Variable
  range_view (RangeLocal slot) = leaf_named (range_leaf slot)
  range_view (Between' p low at dots q high stride) = Grouped nowhere (RangeItem (int_view low) at.now (dots_view dots) (int_view high) (stride_view stride)) nowhere
  range_view (Slice' p r q cut w shape row) = stacked_on (bracketed (range_view r) (range_item cut)) (range_cuts row)
  range_view (Dimension' p d n) = dotted (domain_view d) (Dim nowhere nowhere nowhere n nowhere)

  -- the further slices of a range
  pub range_cuts : {m : _} → Row_of-RangeCut m → Posts Variable
  range_cuts end_of-RangeCut = NoPosts
  range_cuts (more_of-RangeCut p cut row) = Post (square_post (items_one (range_item cut))) (range_cuts row)

  pub stride_view : StrideNode → Stride Variable
  stride_view Absent = NoStride
  stride_view (By' at p e) = By at.now (int_view e)

  -- the ranges of a domain
  pub ranges_items : RangesExpr → Items Variable
  ranges_items (LineRange' p a) = items_one (range_item a)
  ranges_items (PlaneRanges' p a q b) = items_two (range_item a) (range_item b)
  ranges_items (SpaceRanges' p a q b r c) = items_three (range_item a) (range_item b) (range_item c)

  -- the coordinates of an index
  pub index_items : IndexExpr → Items Variable
  index_items (LineIndex' p a) = items_one (One (int_view a))
  index_items (PlaneIndex' p a q b) = items_two (One (int_view a)) (One (int_view b))
  index_items (SpaceIndex' p a q b r c) = items_three (One (int_view a)) (One (int_view b)) (One (int_view c))
  index_items (TupleIndex slot) = items_one (One (tuple_named slot))

  pub domain_view : DomainExpr → ExprTree Variable
  domain_view (DomainLocal slot) = leaf_named (variable DomainKind slot)
  domain_view (OfArray k slot) = dotted (leaf_named (variable (ArrayKind k) slot)) (Plainly nowhere DomainOf)
  domain_view (Literal' at p rs) = DomainLiteral at.now (ranges_items rs) nowhere
  domain_view (Posts' p d q shape row) = stacked_on (domain_view d) (domain_posts row)
  domain_view (Created' at p d) = DomainLiteral at.now (items_one (One (domain_view d))) nowhere

  -- what is made of a domain
  pub domain_post : DomainPost → PostTree Variable
  domain_post (SlicePost' p rs) = square_post (ranges_items rs)
  domain_post (ExpandedPost' at p e) = method_post (Expand at.now nowhere (int_view e) nowhere)

  pub domain_posts : {m : _} → Row_of-DomainPost m → Posts Variable
  domain_posts end_of-DomainPost = NoPosts
  domain_posts (more_of-DomainPost post row) = Post (domain_post post) (domain_posts row)

  -- A promoted expression: a whole array is its name. Where the expression is evaluated at each index, the name has its
  -- place, for there it is told that the array hasn't the index.
  pub promoted_int : Times → PromotedInt → ExprTree Variable
  promoted_int m (IntScalar' p e) = int_view e
  promoted_int m (IntsElement slot at) = array_named IntKind slot (kept (each_turn m) at.now)
  promoted_int m (Negatives' p e) = Prefixed nowhere Minus (promoted_int m e)
  promoted_int m (IntsChain' p first q shape row) = grouped (promoted_int m first) (promoted_int_links m row)

  pub promoted_int_links : {n : _} → Times → Row_of-PromotedIntLink n → Links Variable
  promoted_int_links m end_of-PromotedIntLink = NoLinks
  promoted_int_links m (more_of-PromotedIntLink op p e row) = Link (int_place op) (int_infix op) (promoted_int m e) (promoted_int_links m row)

-- the same for lists of operands, slices and posts
abbrev pub int_links_of : List IntLink → Links Variable
int_links_of [] = NoLinks
int_links_of (l ∷ ls) = Link (int_place l.op) (int_infix l.op) (int_view l.right.now) (int_links_of ls)

abbrev pub promoted_int_links_of : Times → List PromotedIntLink → Links Variable
promoted_int_links_of m [] = NoLinks
promoted_int_links_of m (l ∷ ls) = Link (int_place l.op) (int_infix l.op) (promoted_int m l.right.now) (promoted_int_links_of m ls)

abbrev pub range_cuts_of : List RangeCut → Posts Variable
range_cuts_of [] = NoPosts
range_cuts_of (c ∷ cs) = Post (square_post (items_one (range_item c.by.now))) (range_cuts_of cs)

abbrev pub domain_posts_of : List DomainPost → Posts Variable
domain_posts_of [] = NoPosts
domain_posts_of (p ∷ ps) = Post (domain_post p) (domain_posts_of ps)

-- the coordinates of an index, as arguments
abbrev pub index_exprs : IndexExpr → Exprs Variable
index_exprs (LineIndex' p a) = exprs_one (int_view a)
index_exprs (PlaneIndex' p a q b) = exprs_two (int_view a) (int_view b)
index_exprs (SpaceIndex' p a q b r c) = exprs_three (int_view a) (int_view b) (int_view c)
index_exprs (TupleIndex slot) = exprs_one (tuple_named slot)

abbrev mutual
  pub truth_view : BoolExpr → ExprTree Variable
  truth_view (TruthNode b) = TruthWord nowhere b
  truth_view (TruthLocal slot) = leaf_named (truth_leaf slot)
  truth_view (Not' p e) = Prefixed nowhere Not (truth_view e)
  truth_view (TruthChain' p first q shape row) = grouped (truth_view first) (truth_links row)
  truth_view (CompareNode c a b) = two (int_view a.now) nowhere (comparison_view c) (int_view b.now)
  truth_view (ContainsNode r i) = dotted (range_view r.now) (Contains nowhere nowhere (FirstExpr (int_view i.now) NoExprs) nowhere)
  truth_view (HasIndexNode d t) = dotted (domain_view d.now) (Contains nowhere nowhere (index_exprs t.now) nowhere)
  truth_view (TruthElement slot t at) = in_square (array_named BoolKind slot at.now) (index_items t.now)
  truth_view (TruthReduced' f p e at) = Reduced nowhere (truth_fold_view f) at.now (promoted_truth EachTurn e)

  -- the further operands of a chain
  pub truth_links : {m : _} → Row_of-TruthLink m → Links Variable
  truth_links end_of-TruthLink = NoLinks
  truth_links (more_of-TruthLink op p e row) = Link nowhere (junction_view op) (truth_view e) (truth_links row)

  pub promoted_truth : Times → PromotedTruth → ExprTree Variable
  promoted_truth m (TruthScalar' p e) = truth_view e
  promoted_truth m (TruthsElement slot at) = array_named BoolKind slot (kept (each_turn m) at.now)
  promoted_truth m (Nots' p e) = Prefixed nowhere Not (promoted_truth m e)
  promoted_truth m (TruthsChain' p first q shape row) = grouped (promoted_truth m first) (promoted_truth_links m row)
  promoted_truth m (Compares c a b) = two (promoted_int m a.now) nowhere (comparison_view c) (promoted_int m b.now)

  pub promoted_truth_links : {n : _} → Times → Row_of-PromotedTruthLink n → Links Variable
  promoted_truth_links m end_of-PromotedTruthLink = NoLinks
  promoted_truth_links m (more_of-PromotedTruthLink op p e row) = Link nowhere (junction_view op) (promoted_truth m e) (promoted_truth_links m row)

abbrev pub truth_links_of : List TruthLink → Links Variable
truth_links_of [] = NoLinks
truth_links_of (l ∷ ls) = Link nowhere (junction_view l.op) (truth_view l.right.now) (truth_links_of ls)

abbrev pub promoted_truth_links_of : Times → List PromotedTruthLink → Links Variable
promoted_truth_links_of m [] = NoLinks
promoted_truth_links_of m (l ∷ ls) = Link nowhere (junction_view l.op) (promoted_truth m l.right.now) (promoted_truth_links_of m ls)

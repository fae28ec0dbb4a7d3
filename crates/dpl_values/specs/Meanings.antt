-- The language's meaning of each kind of expression over a frame: its value, or its fault.
-- An expression is read as the plain tree that it stands for, and its names as the slots of the frame's memory.
use Rattle.std.specs.Prelude.{ℕ, ℤ, Bool, List, [], ◌∷◌, None, Some, Result, Ok}
use Rattle.dpl_syntax.specs.declared.place.Place.{Place}
use Rattle.dpl_sets.specs.TextRanges.{TextRange}
use Rattle.dpl_language.specs.Tree.{Plainly, Contains, FirstExpr, NoExprs, NoLinks, Link}
use Rattle.dpl_language.specs.Values.{Value, Int, Truth, Range, Domain, Index, Fault, all_ranges, index_of}
use Rattle.dpl_language.specs.Ranges.{sized, range_sliced, all_sliced}
use Rattle.dpl_language.specs.Outcome.{with_ok}
use Rattle.dpl_language.specs.Phrases.{OtherBase}
use Rattle.dpl_language.specs.Expressions.{value_of, chained, item_of, items_of, values_of, post_of, stridden}
use Rattle.dpl_lowered.specs.Shapes.{nowhere, kept, grouped, stacked_on}
use Rattle.dpl_lowered.specs.LoweredExpressions.{EachTurn, is_end}
use Rattle.dpl_memory.specs.Memory.{array_at, held_at, in_memory}
use Rattle.dpl_nodes.specs.declared.tree.RangeMethod.{RangeMethod}
use Rattle.dpl_nodes.specs.declared.tree.DomainMethod.{DomainMethod}
use Rattle.dpl_nodes.specs.declared.tree.IntExpr.{IntExpr}
use Rattle.dpl_nodes.specs.declared.tree.IntLink.{IntLink}
use Rattle.dpl_nodes.specs.declared.tree.TruthLink.{TruthLink}
use Rattle.dpl_nodes.specs.declared.tree.BoolExpr.{BoolExpr}
use Rattle.dpl_nodes.specs.declared.tree.RangeCut.{RangeCut}
use Rattle.dpl_nodes.specs.declared.tree.RangeExpr.{RangeExpr}
use Rattle.dpl_nodes.specs.declared.tree.RangesExpr.{RangesExpr}
use Rattle.dpl_nodes.specs.declared.tree.Stride.{Stride}
use Rattle.dpl_nodes.specs.declared.tree.DomainPost.{DomainPost}
use Rattle.dpl_nodes.specs.declared.tree.DomainExpr.{DomainExpr}
use Rattle.dpl_nodes.specs.declared.tree.IndexExpr.{IndexExpr}
use Rattle.dpl_nodes.specs.declared.tree.PromotedIntLink.{PromotedIntLink}
use Rattle.dpl_nodes.specs.declared.tree.PromotedInt.{PromotedInt}
use Rattle.dpl_nodes.specs.declared.tree.PromotedTruthLink.{PromotedTruthLink}
use Rattle.dpl_nodes.specs.declared.tree.PromotedTruth.{PromotedTruth}
use Rattle.dpl_nodes.specs.Typed.{range_word, domain_word, int_view, int_links_of, int_infix, int_place, truth_view, truth_links_of, junction_view, range_item, range_view, range_cuts_of, stride_view, dotted, bracketed, ranges_items, index_items, index_exprs, domain_view, domain_post, domain_posts_of, promoted_int, promoted_int_links_of, promoted_truth, promoted_truth_links_of}
use Rattle.dpl_frame.specs.Frames.{Framed}
use Rattle.dpl_values.specs.Elements.{word_found}

module _ (f : Framed) where
  -- an int
  abbrev pub int_in : IntExpr → Result Value Fault
  int_in e = value_of f.limits in_memory (int_view e) None f.memory

  -- a further operand of a chain, behind the int so far; and a chain
  abbrev pub linked_in : ℤ → IntLink → Result Value Fault
  linked_in n l = chained f.limits in_memory (Link (int_place l.op) (int_infix l.op) (int_view l.right.now) NoLinks) None f.memory (Int n)

  abbrev pub chain_in : IntExpr → List IntLink → Result Value Fault
  chain_in first links = value_of f.limits in_memory (grouped (int_view first) (int_links_of links)) None f.memory

  -- the same of truth values
  abbrev pub truth_in : BoolExpr → Result Value Fault
  truth_in e = value_of f.limits in_memory (truth_view e) None f.memory

  abbrev pub truth_linked_in : Bool → TruthLink → Result Value Fault
  truth_linked_in b l = chained f.limits in_memory (Link nowhere (junction_view l.op) (truth_view l.right.now) NoLinks) None f.memory (Truth b)

  abbrev pub truth_chain_in : BoolExpr → List TruthLink → Result Value Fault
  truth_chain_in first links = value_of f.limits in_memory (grouped (truth_view first) (truth_links_of links)) None f.memory

  -- whether a range has an int, and a domain an index
  abbrev pub contained_in : RangeExpr → IntExpr → Result Value Fault
  contained_in r i = value_of f.limits in_memory (dotted (range_view r) (Contains nowhere nowhere (FirstExpr (int_view i) NoExprs) nowhere)) None f.memory

  abbrev pub has_index_in : DomainExpr → IndexExpr → Result Value Fault
  has_index_in d t = value_of f.limits in_memory (dotted (domain_view d) (Contains nowhere nowhere (index_exprs t) nowhere)) None f.memory

  -- a range; one cut by another, and by further ones; what its stride makes of its bounds; and a method of it, with the place where it is told
  -- that there is no end
  abbrev pub range_in : RangeExpr → Result Value Fault
  range_in r = item_of f.limits in_memory (range_item r) None f.memory

  abbrev pub cut_in : TextRange → RangeExpr → Result Value Fault
  cut_in range cut = with_ok (range_in cut) (λ v. Ok (Range (range_sliced range (all_ranges (v ∷ [])))))

  abbrev pub slices_in : RangeExpr → RangeExpr → List RangeCut → Result Value Fault
  slices_in r cut cuts = value_of f.limits in_memory (stacked_on (bracketed (range_view r) (range_item cut)) (range_cuts_of cuts)) None f.memory

  abbrev pub strided_in : Stride → Result TextRange Fault → Result Value Fault
  strided_in stride bounds = stridden f.limits in_memory (stride_view stride) bounds f.memory

  abbrev pub range_method_in : RangeMethod → RangeExpr → Place → Result Value Fault
  range_method_in m r at = value_of f.limits in_memory (dotted (range_view r) (Plainly (kept (is_end (range_word m)) at) (range_word m))) None f.memory

  -- a domain: as it is written, by its ranges, cut by ranges, what a post makes of it, and what all posts do; and a method of it
  abbrev pub domain_in : DomainExpr → Result Value Fault
  domain_in d = value_of f.limits in_memory (domain_view d) None f.memory

  abbrev pub literal_in : Place → RangesExpr → Result Value Fault
  literal_in at ranges = with_ok (items_of f.limits in_memory (ranges_items ranges) f.memory) (λ vs. sized at (all_ranges vs))

  abbrev pub sliced_in : List TextRange → RangesExpr → Result Value Fault
  sliced_in domain ranges = with_ok (items_of f.limits in_memory (ranges_items ranges) f.memory) (λ vs. Ok (Domain (all_sliced domain (all_ranges vs))))

  abbrev pub made_in : List TextRange → DomainPost → Result Value Fault
  made_in domain post = post_of f.limits in_memory (domain_post post) OtherBase f.memory (Domain domain)

  abbrev pub posts_in : DomainExpr → List DomainPost → Result Value Fault
  posts_in d posts = value_of f.limits in_memory (stacked_on (domain_view d) (domain_posts_of posts)) None f.memory

  abbrev pub domain_method_in : DomainMethod → DomainExpr → Result Value Fault
  domain_method_in m d = value_of f.limits in_memory (dotted (domain_view d) (Plainly nowhere (domain_word m))) None f.memory

  -- an index, and the word of the element at it of the array in a slot
  abbrev pub index_in : IndexExpr → Result Index Fault
  index_in t = with_ok (values_of f.limits in_memory (index_exprs t) f.memory) (λ vs. Ok (index_of vs))

  abbrev pub element_in : ℕ → IndexExpr → Place → Result ℤ Fault
  element_in slot t at = with_ok (items_of f.limits in_memory (index_items t) f.memory) (λ vs. word_found at (held_at (index_of vs) (array_at slot f.memory)))

  -- a promoted expression at an index of its arrays; a further operand of a chain, behind the value so far; and a chain
  abbrev pub int_at : PromotedInt → Index → Result Value Fault
  int_at e t = value_of f.limits in_memory (promoted_int EachTurn e) (Some t) f.memory

  abbrev pub linked_at : ℤ → PromotedIntLink → Index → Result Value Fault
  linked_at n l t = chained f.limits in_memory (Link (int_place l.op) (int_infix l.op) (promoted_int EachTurn l.right.now) NoLinks) (Some t) f.memory (Int n)

  abbrev pub chain_at : PromotedInt → List PromotedIntLink → Index → Result Value Fault
  chain_at first links t = value_of f.limits in_memory (grouped (promoted_int EachTurn first) (promoted_int_links_of EachTurn links)) (Some t) f.memory

  abbrev pub truth_at : PromotedTruth → Index → Result Value Fault
  truth_at e t = value_of f.limits in_memory (promoted_truth EachTurn e) (Some t) f.memory

  abbrev pub truth_linked_at : Bool → PromotedTruthLink → Index → Result Value Fault
  truth_linked_at b l t = chained f.limits in_memory (Link nowhere (junction_view l.op) (promoted_truth EachTurn l.right.now) NoLinks) (Some t) f.memory (Truth b)

  abbrev pub truth_chain_at : PromotedTruth → List PromotedTruthLink → Index → Result Value Fault
  truth_chain_at first links t = value_of f.limits in_memory (grouped (promoted_truth EachTurn first) (promoted_truth_links_of EachTurn links)) (Some t) f.memory

-- A typed expression evaluates to a fault or to a value of its type, in every frame.
-- So what is put into a slot is of the slot's kind.
use Rattle.std.proofs.Common.{ℕ, ℤ, pos, Bool, true, false, not, List, [], ◌∷◌, get_or, Result, Ok, Err, Option, Some, None, refl, sym, subst}
use Rattle.std.specs.Prelude.{◌&&◌, ◌||◌, ◌+ℤ◌, ◌-ℤ◌, ◌*ℤ◌, neg_ℤ, nat_lt, int_lt, int_le, int_div, int_rem, if◌then◌else◌, option_map}
use Rattle.std.specs.Int.{int_min, int_max, int_bit_and, int_bit_or, int_bit_xor}
use mir.Syntax.{w64}
use Rattle.std.specs.Ordering.{int_eq}
use Rattle.dpl_language.specs.Arithmetic.{wrap, infix_of, decides, divides, combined, unit_of}
use Rattle.dpl_syntax.specs.declared.place.Place.{Place}
use Rattle.dpl_sets.specs.TextRanges.{TextRange}
use Rattle.dpl_language.specs.Tree.{Op, IntKind, BoolKind, ExprTree, FirstItem, NoItems, FirstExpr, NoExprs}
use Rattle.dpl_language.specs.Values.{Value, Int, Truth, Range, number, truth, kept_number, ranges_in, all_ranges, Index, index_of, Fault, fault, Budget}
use Rattle.dpl_language.specs.Arithmetic.{tested_divisor}
use Rattle.dpl_language.specs.Ranges.{indices_in, size_in, bounded, strided_by, range_sliced, contains_index, dimension, members_of_first, end_of, low_of, method_of, members_in, first_of, last_of, least_of, greatest_of}
use Rattle.dpl_language.specs.Outcome.{with_ok, naming_value}
use Rattle.dpl_language.specs.Environment.{Limits}
use Rattle.dpl_language.specs.Expressions.{folded, fold_over, reduction, found, unless_decided, bracketed, whole_in, value_of, item_of, stridden, items_of, values_of}
use Rattle.dpl_language.specs.Phrases.{Base, base_of}
use Rattle.dpl_lowered.specs.Shapes.{nowhere, kept, two, grouped}
use Rattle.dpl_lowered.specs.LoweredExpressions.{EachTurn, is_end}
use Rattle.dpl_words.specs.Words.{LeafKind, IntLeaf, TruthLeaf, RangeLeaf, no_range, IsOfKind}
use Rattle.dpl_memory.specs.Memory.{Variable, Memory, element_as, array_at, held_at, in_memory}
use Rattle.dpl_nodes.specs.declared.tree.RangeMethod.{RangeMethod}
use Rattle.dpl_nodes.specs.declared.tree.RangeMethod.TheVariants as range_method
use Rattle.dpl_nodes.specs.declared.tree.DomainMethod.{DomainMethod}
use Rattle.dpl_nodes.specs.declared.tree.DomainMethod.TheVariants as domain_method
use Rattle.dpl_nodes.specs.declared.tree.Comparison.{Comparison}
use Rattle.dpl_nodes.specs.declared.tree.Comparison.TheVariants as comparison
use Rattle.dpl_nodes.specs.declared.fold.IntFold.{IntFold}
use Rattle.dpl_nodes.specs.declared.fold.IntFold.TheVariants as ints
use Rattle.dpl_nodes.specs.declared.fold.TruthFold.{TruthFold}
use Rattle.dpl_nodes.specs.declared.fold.TruthFold.TheVariants as truths
use Rattle.dpl_nodes.specs.declared.tree.Junction.{Junction}
use Rattle.dpl_nodes.specs.declared.tree.Junction.TheVariants as junction
use Rattle.dpl_nodes.specs.declared.tree.IntOperator.{IntOperator}
use Rattle.dpl_nodes.specs.declared.tree.IntOperator.TheVariants as operator
use Rattle.dpl_nodes.specs.declared.tree.IntExpr.{IntExpr, Chain', Number as NumberNode, Local as IntLocal, Negative', Sum', Difference', Product', Quotient', Remainder', OfRange', OfDomain', Element', Reduced' as IntReduced'}
use Rattle.dpl_nodes.specs.declared.tree.BoolExpr.{BoolExpr, Truth as TruthNode, Local as TruthLocal, Not', Chain' as TruthChain', Row_of-TruthLink, end_of-TruthLink, more_of-TruthLink, Compare as CompareNode, Contains as ContainsNode, HasIndex as HasIndexNode, Element as TruthElement, Reduced' as TruthReduced'}
use Rattle.dpl_nodes.specs.declared.tree.RangeExpr.{RangeExpr, Local as RangeLocal, Between', Slice', Dimension'}
use Rattle.dpl_nodes.specs.declared.tree.Stride.{Stride as StrideNode, Absent, By'}
use Rattle.dpl_nodes.specs.Typed.{bracketed as bracketed_view, junction_view, comparison_view, dots_view, range_word, domain_word, int_view, int_infix, int_place, truth_view, truth_links, range_view, range_item, stride_view, index_items, index_exprs, domain_view, promoted_int, promoted_truth, int_fold_view, truth_fold_view}
use Rattle.dpl_nodes.proofs.Chains.{int_links-hold, range_cuts-hold}

-- a value of a kind, or a fault
abbrev pub Gives : LeafKind → Result Value Fault → Type 0
Gives k (Ok v) = IsOfKind k v
Gives k (Err f) = Unit {0}

-- operators: an operand, and two, of which the second may be tested as a divisor
int_one : (f : Value → ℤ) (r : Result Value Fault) → Gives IntLeaf (with_ok r (λ v. Ok (Int (f v))))
int_one f (Ok v) = (f v, refl)
int_one f (Err e) = tt

int_two : (f : Value → Value → ℤ) (r q : Result Value Fault) (b : Bool) (at : Place) → Gives IntLeaf (with_ok r (λ v. with_ok q (λ w. with_ok (tested_divisor b at w) (λ w. Ok (Int (f v w))))))
int_two f (Ok v) (Ok w) b at = int_one (f v) (tested_divisor b at w)
int_two f (Ok v) (Err e) b at = tt
int_two f (Err e) q b at = tt

truth_one : (f : Value → Bool) (r : Result Value Fault) → Gives TruthLeaf (with_ok r (λ v. Ok (Truth (f v))))
truth_one f (Ok v) = (f v, refl)
truth_one f (Err e) = tt

truth_two : (f : Value → Value → Bool) (r q : Result Value Fault) → Gives TruthLeaf (with_ok r (λ v. with_ok q (λ w. Ok (Truth (f v w)))))
truth_two f (Ok v) q = truth_one (f v) q
truth_two f (Err e) q = tt

-- an operator that a truth value may decide
decided : (f : Value → Value → Bool) (b : Value → Bool) (r q : Result Value Fault) → Gives TruthLeaf r → Gives TruthLeaf (with_ok r (λ v. unless_decided (b v) v (with_ok q (λ w. Ok (Truth (f v w))))))
decided f b (Ok v) q h = by (b v)
  where
    by : (c : Bool) → Gives TruthLeaf (unless_decided c v (with_ok q (λ w. Ok (Truth (f v w)))))
    by true = h
    by false = truth_one (f v) q
decided f b (Err e) q h = tt

-- a comparison of two ints
compared : (c : Comparison) (r q : Result Value Fault)
    → Gives TruthLeaf (with_ok r (λ v. unless_decided (decides (comparison_view c) v) v (with_ok q (λ w. with_ok (tested_divisor (divides (comparison_view c)) nowhere w) (λ w. Ok (infix_of (comparison_view c) v w))))))
compared comparison.Equal r q = truth_two (λ v w. int_eq (kept_number v) (kept_number w)) r q
compared comparison.Unequal r q = truth_two (λ v w. not (int_eq (kept_number v) (kept_number w))) r q
compared comparison.Less r q = truth_two (λ v w. int_lt (number v) (number w)) r q
compared comparison.AtMost r q = truth_two (λ v w. int_le (number v) (number w)) r q
compared comparison.Greater r q = truth_two (λ v w. int_lt (number w) (number v)) r q
compared comparison.AtLeast r q = truth_two (λ v w. int_le (number w) (number v)) r q

-- an end of a range, and whether it has a number
end-gives : (at : Place) (end : ℤ → List ℤ → ℤ) (ms : List ℤ) → Gives IntLeaf (with_ok (end_of at end ms) (λ w. Ok w))
end-gives at end [] = tt
end-gives at end (m ∷ ms) = (end m ms, refl)

ended : (at : Place) (end : ℤ → List ℤ → ℤ) (r : Result Value Fault) → Gives IntLeaf (with_ok r (λ v. with_ok (end_of at end (members_of_first (ranges_in v))) (λ w. Ok w)))
ended at end (Ok v) = end-gives at end (members_of_first (ranges_in v))
ended at end (Err e) = tt

-- the least member of a range
least : (at : Place) (r : Result Value Fault) → Gives RangeLeaf r → Gives IntLeaf (with_ok r (λ v. with_ok (low_of at v) (λ w. Ok w)))
least at (Ok v) (x, e) = subst (λ v. Gives IntLeaf (with_ok (low_of at v) (λ w. Ok w))) (sym e) (end-gives at least_of (members_in x))
least at (Err e) h = tt

-- the methods of a range and of a domain
of_range : (m : RangeMethod) (at : Place) (r : Result Value Fault) → Gives RangeLeaf r
    → Gives IntLeaf (with_ok r (λ v. with_ok (method_of (range_word m) (kept (is_end (range_word m)) at) v) (λ w. Ok w)))
of_range range_method.Size at r h = int_one (λ v. pos (size_in (ranges_in v))) r
of_range range_method.First at r h = ended at first_of r
of_range range_method.Last at r h = ended at last_of r
of_range range_method.Low at r h = least at r h
of_range range_method.High at r h = ended at greatest_of r

of_domain : (m : DomainMethod) (r : Result Value Fault) → Gives IntLeaf (with_ok r (λ v. with_ok (method_of (domain_word m) nowhere v) (λ w. Ok w)))
of_domain domain_method.Size r = int_one (λ v. pos (size_in (ranges_in v))) r

contained : (f : Value → List Value → Bool) (r : Result Value Fault) (q : Result (List Value) Fault) → Gives TruthLeaf (with_ok r (λ v. with_ok (with_ok q (λ vs. Ok (Truth (f v vs)))) (λ w. Ok w)))
contained f (Ok v) (Ok vs) = (f v vs, refl)
contained f (Ok v) (Err e) = tt
contained f (Err e) q = tt

-- a range of two bounds
of_bounds : (go : Value → Value → Result Value Fault) (r q : Result Value Fault) → ((v w : Value) → Gives RangeLeaf (go v w)) → Gives RangeLeaf (with_ok r (λ v. with_ok q (λ w. go v w)))
of_bounds go (Ok v) (Ok w) h = h v w
of_bounds go (Ok v) (Err e) h = tt
of_bounds go (Err e) q h = tt

bounded-gives : (range : Result TextRange Fault) → Gives RangeLeaf (with_ok range (λ r. Ok (Range r)))
bounded-gives (Ok r) = (r, refl)
bounded-gives (Err e) = tt

strided-gives : (stride : Result Value Fault) (range : Result TextRange Fault) (by : Value → TextRange → Result TextRange Fault)
    → Gives RangeLeaf (with_ok stride (λ v. with_ok range (λ r. with_ok (by v r) (λ q. Ok (Range q)))))
strided-gives (Ok v) (Ok r) by = bounded-gives (by v r)
strided-gives (Ok v) (Err e) by = tt
strided-gives (Err e) range by = tt

-- a dimension, and an element
dimensioned : (n : ℕ) (r : Result Value Fault) → Gives RangeLeaf (with_ok r (λ v. with_ok (Ok (Range (dimension n (ranges_in v)))) (λ w. Ok w)))
dimensioned n (Ok v) = (dimension n (ranges_in v), refl)
dimensioned n (Err e) = tt

int_found : (at : Place) (o : Option ℤ) → Gives IntLeaf (with_ok (found at (option_map (element_as IntKind) o)) (λ w. Ok w))
int_found at None = tt
int_found at (Some w) = (w, refl)

truth_found : (at : Place) (o : Option ℤ) → Gives TruthLeaf (with_ok (found at (option_map (element_as BoolKind) o)) (λ w. Ok w))
truth_found at None = tt
truth_found at (Some w) = (not (int_eq w (pos 0)), refl)

elements : (k : LeafKind) (at : List Value → Result Value Fault) → ((vs : List Value) → Gives k (with_ok (at vs) (λ w. Ok w))) → (q : Result (List Value) Fault) → Gives k (with_ok (with_ok q at) (λ w. Ok w))
elements k at h (Ok vs) = h vs
elements k at h (Err e) = tt

-- ---- reductions: what an operator gives over nothing, and of two values, and so of however many
int_unit : (f : IntFold) → IsOfKind IntLeaf (unit_of (int_fold_view f))
int_unit ints.Sum = (pos 0, refl)
int_unit ints.Product = (pos 1, refl)
int_unit ints.BitAnd = (neg_ℤ (pos 1), refl)
int_unit ints.BitOr = (pos 0, refl)
int_unit ints.BitXor = (pos 0, refl)
int_unit ints.Least = (pos 9223372036854775807, refl)
int_unit ints.Greatest = (neg_ℤ (pos 9223372036854775808), refl)

ints_combined : (f : IntFold) (v w : Value) → IsOfKind IntLeaf (combined (int_fold_view f) v w)
ints_combined ints.Sum v w = (wrap (number v +ℤ number w), refl)
ints_combined ints.Product v w = (wrap (number v *ℤ number w), refl)
ints_combined ints.BitAnd v w = (int_bit_and w64 (number v) (number w), refl)
ints_combined ints.BitOr v w = (int_bit_or w64 (number v) (number w), refl)
ints_combined ints.BitXor v w = (int_bit_xor w64 (number v) (number w), refl)
ints_combined ints.Least v w = (int_min (number v) (number w), refl)
ints_combined ints.Greatest v w = (int_max (number v) (number w), refl)

truth_unit : (f : TruthFold) → IsOfKind TruthLeaf (unit_of (truth_fold_view f))
truth_unit truths.AllOf = (true, refl)
truth_unit truths.AnyOf = (false, refl)

truths_combined : (f : TruthFold) (v w : Value) → IsOfKind TruthLeaf (combined (truth_fold_view f) v w)
truths_combined truths.AllOf v w = (truth v && truth w, refl)
truths_combined truths.AnyOf v w = (truth v || truth w, refl)

module _ (k : LeafKind) (op : Op) (unit : IsOfKind k (unit_of op)) (both : (v w : Value) → IsOfKind k (combined op v w)) where
  folded-gives : (value : Index → Result Value Fault) (ts : List Index) (so_far : Value) → IsOfKind k so_far → Gives k (folded op value ts so_far)
  folded-gives value [] so_far h = h
  folded-gives value (t ∷ ts) so_far h = by (value t) (λ v. folded-gives value ts (combined op so_far v) (both so_far v))
    where
      by : (r : Result Value Fault) → ((v : Value) → Gives k (folded op value ts (combined op so_far v))) → Gives k (with_ok r (λ v. folded op value ts (combined op so_far v)))
      by (Ok v) more = more v
      by (Err f) more = tt

  reduction-gives : (budget : ℕ) (at : Place) (value : Index → Result Value Fault) (domain : Option (List TextRange)) → Gives k (reduction budget at op value domain)
  reduction-gives budget at value None = unit
  reduction-gives budget at value (Some rs) = by (nat_lt budget (size_in rs))
    where
      by : (b : Bool) → Gives k (if b then Err (fault Budget at) else fold_over op value rs)
      by true = tt
      by false = folded-gives (λ t. naming_value t (value t)) (indices_in rs) (unit_of op) unit

module _ (limits : Limits) (s : Memory) where
  abbrev value : ExprTree Variable → Result Value Fault
  value e = value_of limits in_memory e None s

  sliced : (b : Base Variable) (r : Result Value Fault) (q : Result (List Value) Fault) → Gives RangeLeaf r → Gives RangeLeaf (with_ok r (λ v. with_ok (with_ok q (λ vs. bracketed limits in_memory b vs v s)) (λ w. Ok w)))
  sliced b (Ok v) q (x, e) = subst (λ v. Gives RangeLeaf (with_ok (with_ok q (λ vs. bracketed limits in_memory b vs v s)) (λ w. Ok w))) (sym e) (by q)
    where
      by : (q : Result (List Value) Fault) → Gives RangeLeaf (with_ok (with_ok q (λ vs. bracketed limits in_memory b vs (Range x) s)) (λ w. Ok w))
      by (Ok vs) = (range_sliced x (all_ranges vs), refl)
      by (Err f) = tt
  sliced b (Err e) q h = tt

  stridden-gives : (by : StrideNode) (range : Result TextRange Fault) → Gives RangeLeaf (stridden limits in_memory (stride_view by) range s)
  stridden-gives Absent range = bounded-gives range
  stridden-gives (By' at p e) range = strided-gives (value (int_view e)) range (λ v r. strided_by at.now (number v) r)

  cut-gives : (a : ExprTree Variable) (cut : RangeExpr) → Gives RangeLeaf (value a) → Gives RangeLeaf (value (bracketed_view a (range_item cut)))
  cut-gives a cut h = sliced (base_of a) (value a) (items_of limits in_memory (FirstItem (range_item cut) NoItems) s) h

  pub range_gives : (e : RangeExpr) → Gives RangeLeaf (value (range_view e))
  range_gives (RangeLocal slot) = (get_or s.words.ranges slot no_range, refl)
  range_gives (Between' p low at dots q high by) =
      of_bounds (λ l h. stridden limits in_memory (stride_view by) (bounded at.now (dots_view dots) (number l) (number h)) s) (value (int_view low)) (value (int_view high))
      (λ l h. stridden-gives by (bounded at.now (dots_view dots) (number l) (number h)))
  range_gives (Slice' p r q cut w shape row) = range_cuts-hold (λ a. Gives RangeLeaf (value a)) cut-gives row (bracketed_view (range_view r) (range_item cut)) (cut-gives (range_view r) cut (range_gives r))
  range_gives (Dimension' p d n) = dimensioned n (value (domain_view d))

  -- a chain with one operand more
  int_linked : (op : IntOperator) (a b : ExprTree Variable) → Gives IntLeaf (value (two a (int_place op) (int_infix op) b))
  int_linked operator.Sum a b = int_two (λ v w. wrap (number v +ℤ number w)) (value a) (value b) false nowhere
  int_linked operator.Difference a b = int_two (λ v w. wrap (number v -ℤ number w)) (value a) (value b) false nowhere
  int_linked operator.Product a b = int_two (λ v w. wrap (number v *ℤ number w)) (value a) (value b) false nowhere
  int_linked (operator.Quotient at) a b = int_two (λ v w. wrap (int_div (number v) (number w))) (value a) (value b) true at.now
  int_linked (operator.Remainder at) a b = int_two (λ v w. wrap (int_rem (number v) (number w))) (value a) (value b) true at.now

  pub int_gives : (e : IntExpr) → Gives IntLeaf (value (int_view e))
  int_gives (NumberNode n) = (n, refl)
  int_gives (IntLocal slot) = (get_or s.words.numbers slot (pos 0), refl)
  int_gives (Negative' p e) = int_one (λ v. wrap (neg_ℤ (number v))) (value (int_view e))
  int_gives (Sum' p a q b) = int_two (λ v w. wrap (number v +ℤ number w)) (value (int_view a)) (value (int_view b)) false nowhere
  int_gives (Difference' p a q b) = int_two (λ v w. wrap (number v -ℤ number w)) (value (int_view a)) (value (int_view b)) false nowhere
  int_gives (Product' p a q b) = int_two (λ v w. wrap (number v *ℤ number w)) (value (int_view a)) (value (int_view b)) false nowhere
  int_gives (Quotient' p a q b at) = int_two (λ v w. wrap (int_div (number v) (number w))) (value (int_view a)) (value (int_view b)) true at.now
  int_gives (Remainder' p a q b at) = int_two (λ v w. wrap (int_rem (number v) (number w))) (value (int_view a)) (value (int_view b)) true at.now
  int_gives (Chain' p first q shape row) = int_links-hold (λ a. Gives IntLeaf (value a)) (λ a b op. int_linked op a b) row (int_view first) (int_gives first)
  int_gives (OfRange' m p r at) = of_range m at.now (value (range_view r)) (range_gives r)
  int_gives (OfDomain' m p d) = of_domain m (value (domain_view d))
  int_gives (Element' slot p t at) =
      elements IntLeaf (λ vs. found at.now (option_map (element_as IntKind) (held_at (index_of vs) (array_at slot s))))
      (λ vs. int_found at.now (held_at (index_of vs) (array_at slot s))) (items_of limits in_memory (index_items t) s)
  int_gives (IntReduced' f p e at) =
      reduction-gives IntLeaf (int_fold_view f) (int_unit f) (ints_combined f) limits.budget at.now (λ t. value_of limits in_memory (promoted_int EachTurn e) (Some t) s)
      (whole_in limits in_memory (promoted_int EachTurn e) s)

  pub item_gives : (e : RangeExpr) → Gives RangeLeaf (item_of limits in_memory (range_item e) None s)
  item_gives (RangeLocal slot) = range_gives (RangeLocal slot)
  item_gives (Between' p low at dots q high by) = range_gives (Between' p low at dots q high by)
  item_gives (Slice' p r q cut w shape row) = range_gives (Slice' p r q cut w shape row)
  item_gives (Dimension' p d n) = range_gives (Dimension' p d n)

  joined-gives : (op : Junction) (a b : ExprTree Variable) → Gives TruthLeaf (value a) → Gives TruthLeaf (value (two a nowhere (junction_view op) b))
  joined-gives junction.And a b h = decided (λ v w. truth v && truth w) (λ v. not (truth v)) (value a) (value b) h
  joined-gives junction.Or a b h = decided (λ v w. truth v || truth w) (λ v. truth v) (value a) (value b) h
  joined-gives junction.Same a b h = truth_two (λ v w. int_eq (kept_number v) (kept_number w)) (value a) (value b)
  joined-gives junction.Differ a b h = truth_two (λ v w. not (int_eq (kept_number v) (kept_number w))) (value a) (value b)

  truth_links-give : {m : _} (row : Row_of-TruthLink m) (a : ExprTree Variable) → Gives TruthLeaf (value a) → Gives TruthLeaf (value (grouped a (truth_links row)))
  truth_links-give end_of-TruthLink a h = h
  truth_links-give (more_of-TruthLink op p e row) a h = truth_links-give row (two a nowhere (junction_view op) (truth_view e)) (joined-gives op a (truth_view e) h)

  pub truth_gives : (e : BoolExpr) → Gives TruthLeaf (value (truth_view e))
  truth_gives (TruthNode b) = (b, refl)
  truth_gives (TruthLocal slot) = (not (int_eq (get_or s.words.numbers slot (pos 0)) (pos 0)), refl)
  truth_gives (Not' p e) = truth_one (λ v. not (truth v)) (value (truth_view e))
  truth_gives (TruthChain' p first q shape row) = truth_links-give row (truth_view first) (truth_gives first)
  truth_gives (CompareNode c a b) = compared c (value (int_view a.now)) (value (int_view b.now))
  truth_gives (ContainsNode r i) =
      contained (λ v vs. contains_index (ranges_in v) (index_of vs)) (value (range_view r.now)) (values_of limits in_memory (FirstExpr (int_view i.now) NoExprs) s)
  truth_gives (HasIndexNode d t) =
      contained (λ v vs. contains_index (ranges_in v) (index_of vs)) (value (domain_view d.now)) (values_of limits in_memory (index_exprs t.now) s)
  truth_gives (TruthElement slot t at) =
      elements TruthLeaf (λ vs. found at.now (option_map (element_as BoolKind) (held_at (index_of vs) (array_at slot s))))
      (λ vs. truth_found at.now (held_at (index_of vs) (array_at slot s))) (items_of limits in_memory (index_items t.now) s)
  truth_gives (TruthReduced' f p e at) =
      reduction-gives TruthLeaf (truth_fold_view f) (truth_unit f) (truths_combined f) limits.budget at.now (λ t. value_of limits in_memory (promoted_truth EachTurn e) (Some t) s)
      (whole_in limits in_memory (promoted_truth EachTurn e) s)

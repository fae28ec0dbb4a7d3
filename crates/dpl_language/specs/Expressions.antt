-- What expressions mean: a value or a fault, in a state that they don't change.
-- Operands go from left to right, and a fault is told at its own place.
use Rattle.std.specs.Prelude.{ℕ, nat_lt, ℤ, pos, int_lt, int_le, Bool, true, false, ◌&&◌, if◌then◌else◌, Option, Some, None, Result, Ok, Err, List, [], ◌∷◌}
use Rattle.std.specs.Option.{option_or}
use Rattle.dpl_syntax.specs.declared.place.Place.{Place}
use Rattle.dpl_language.specs.Tree.{Placed, Op, ExprTree, Number, TruthWord, Named, LocalesWord, LocaleCount, HereWord, Grouped, DomainLiteral, Prefixed, Reduced, Chain, Postfixed, ItemTree, One, RangeItem, Stride, NoStride, By, Links, NoLinks, Link, Posts, NoPosts, Post, PostTree, Brackets, Rounds, Dotted, MethodTree, Plainly, Dim, Contains, Expand, CellRead, Items, FirstItem, MoreItems, NoItems, NextItem, Exprs, FirstExpr, MoreExprs, NoExprs, NextExpr}
use Rattle.dpl_sets.specs.TextRanges.{TextRange}
use Rattle.dpl_language.specs.Values.{Value, Int, Truth, Range, Domain, Array, Locale, AllLocales, Index, number, ranges_in, all_ranges, index_of, array_domain, Fault, fault, Outside, Budget, NoLocale}
use Rattle.dpl_language.specs.Arithmetic.{prefix_of, infix_of, divides, tested_divisor, decides, combined, unit_of}
use Rattle.dpl_language.specs.Ranges.{indices_in, size_in, bounded, strided_by, sized, all_sliced, range_sliced, expanded, contains_index, dimension, method_of, leading}
use Rattle.dpl_language.specs.Outcome.{with_ok, naming_value}
use Rattle.dpl_language.specs.Environment.{Environment, Limits}
use Rattle.dpl_language.specs.Phrases.{Base, BaseName, BaseLocales, OtherBase, base_of}

-- an element, or F1 at the array's name
abbrev pub found : Place → Option Value → Result Value Fault
found at None = Err (fault Outside at)
found at (Some v) = Ok v

-- `Locales[k]`: k is from 0 to N - 1, else it is F6 at `Locales`
abbrev pub locale_of : {N : Type 0} → ℕ → Base N → ℤ → Result Value Fault
locale_of locales (BaseLocales at) k =
    if int_le (pos 0) k && int_lt k (pos locales) then Ok (Locale k) else Err (fault NoLocale at)
locale_of locales _ k = Ok (Locale k)

-- the fold of a reduction's operator over the values at some indices, in their order
abbrev pub folded : Op → (Index → Result Value Fault) → List Index → Value → Result Value Fault
folded op value [] so_far = Ok so_far
folded op value (t ∷ ts) so_far = with_ok (value t) (λ v. folded op value ts (combined op so_far v))

-- the same over a whole domain, begun with the operator's value over nothing; a fault names the turn of its index
abbrev pub fold_over : Op → (Index → Result Value Fault) → List TextRange → Result Value Fault
fold_over op value rs = folded op (λ t. naming_value t (value t)) (indices_in rs) (unit_of op)

-- A reduction over more indices than the budget is F5 at `reduce`, before its first turn.
-- An expression without a whole array, which no sound program reduces, counts as having no indices.
abbrev pub reduction : ℕ → Place → Op → (Index → Result Value Fault) → Option (List TextRange) → Result Value Fault
reduction budget at op value None = Ok (unit_of op)
reduction budget at op value (Some rs) =
    if nat_lt budget (size_in rs) then Err (fault Budget at) else fold_over op value rs

-- goes on with a value that doesn't decide
abbrev pub unless_decided : Bool → Value → Result Value Fault → Result Value Fault
unless_decided true v rest = Ok v
unless_decided false v rest = rest

module _ {N S : Type 0} (limits : Limits) (env : Environment N S) where
  abbrev mutual
    -- The domain of the first whole array in an expression, where there is one: then the expression is promoted,
    -- and has a value at each index of it. A bare array name is a whole array; what stands before a dot or before
    -- indices, and in them, is none; and neither is what a reduction folds.
    pub whole_in : ExprTree N → S → Option (List TextRange)
    whole_in (Named x) s = array_domain (env.get x.name s)
    whole_in (Grouped from item upto) s = whole_item item s
    whole_in (Prefixed at op e) s = whole_in e s
    whole_in (Chain e rest) s = option_or (whole_in e s) (whole_links rest s)
    whole_in _ s = None

    pub whole_item : ItemTree N → S → Option (List TextRange)
    whole_item (One e) s = whole_in e s
    whole_item (RangeItem low at dots high by) s = None

    pub whole_links : Links N → S → Option (List TextRange)
    whole_links NoLinks s = None
    whole_links (Link at op e rest) s = option_or (whole_in e s) (whole_links rest s)

  -- the element of an array at an index: outside its domain it is F1 at the array's name
  abbrev pub element_of : Base N → Index → S → Result Value Fault
  element_of (BaseName x) t s = found x.at (env.element x.name t s)
  element_of _ t s = Ok (Int (pos 0))

  -- a name: its value, and where the expression is promoted, of a whole array the element at the index
  abbrev pub named : Option Index → Placed N → Option (List TextRange) → Value → S → Result Value Fault
  named (Some t) x (Some rs) v s = found x.at (env.element x.name t s)
  named _ x _ v s = Ok v

  -- square brackets: an element of an array, a slice of a range or a domain, or one of the locales
  abbrev pub bracketed : Base N → List Value → Value → S → Result Value Fault
  bracketed b vs (Range r) s = Ok (Range (range_sliced r (all_ranges vs)))
  bracketed b vs (Domain rs) s = Ok (Domain (all_sliced rs (all_ranges vs)))
  bracketed b vs (Array k rs) s = element_of b (index_of vs) s
  bracketed b vs AllLocales s = locale_of limits.locales b (leading (index_of vs))
  bracketed b vs v s = Ok v

  abbrev mutual
    -- An expression's value. Where the expression is promoted, it is the value at the given index of its arrays.
    pub value_of : ExprTree N → Option Index → S → Result Value Fault
    value_of (Number at n) t s = Ok (Int n)
    value_of (TruthWord at b) t s = Ok (Truth b)
    value_of (Named x) t s = named t x (array_domain (env.get x.name s)) (env.get x.name s) s
    value_of (LocalesWord at) t s = Ok AllLocales
    value_of (LocaleCount at) t s = Ok (Int (pos limits.locales))
    value_of (HereWord at) t s = Ok (Locale (env.here s))
    value_of (Grouped from item upto) t s = item_of item t s
    value_of (DomainLiteral from items upto) t s = with_ok (items_of items s) (λ vs. sized from (all_ranges vs))
    value_of (Prefixed at op e) t s = with_ok (value_of e t s) (λ v. Ok (prefix_of op v))
    value_of (Reduced at op word e) t s =
        reduction limits.budget word op (λ i. value_of e (Some i) s) (whole_in e s)
    value_of (Chain e rest) t s = with_ok (value_of e t s) (chained rest t s)
    value_of (Postfixed e posts) t s = with_ok (value_of e None s) (behind posts (base_of e) s)

    -- the value of a chain, from that of its operands so far
    pub chained : Links N → Option Index → S → Value → Result Value Fault
    chained NoLinks t s v = Ok v
    chained (Link at op e rest) t s v =
        unless_decided (decides op v) v
        (with_ok (value_of e t s) (λ w. with_ok (tested_divisor (divides op) at w)
        (λ w. chained rest t s (infix_of op v w))))

    -- an item: an expression, or a range, of which low, high or count, and stride are evaluated in this order;
    -- then bounds and count are tested, and then the stride
    pub item_of : ItemTree N → Option Index → S → Result Value Fault
    item_of (One e) t s = value_of e t s
    item_of (RangeItem low at dots high by) t s =
        with_ok (value_of low None s) (λ l. with_ok (value_of high None s)
        (λ h. stridden by (bounded at dots (number l) (number h)) s))

    -- a range with its stride, if it has one, which is evaluated before the range's own fault is told
    pub stridden : Stride N → Result TextRange Fault → S → Result Value Fault
    stridden NoStride range s = with_ok range (λ r. Ok (Range r))
    stridden (By at e) range s =
        with_ok (value_of e None s) (λ v. with_ok range (λ r. with_ok (strided_by at (number v) r) (λ q. Ok (Range q))))

    -- items, from left to right
    pub items_of : Items N → S → Result (List Value) Fault
    items_of (FirstItem i more) s = with_ok (item_of i None s) (λ v. with_ok (more_items more s) (λ vs. Ok (v ∷ vs)))

    pub more_items : MoreItems N → S → Result (List Value) Fault
    more_items NoItems s = Ok []
    more_items (NextItem comma i more) s =
        with_ok (item_of i None s) (λ v. with_ok (more_items more s) (λ vs. Ok (v ∷ vs)))

    -- expressions, from left to right
    pub values_of : Exprs N → S → Result (List Value) Fault
    values_of (FirstExpr e more) s = with_ok (value_of e None s) (λ v. with_ok (more_values more s) (λ vs. Ok (v ∷ vs)))

    pub more_values : MoreExprs N → S → Result (List Value) Fault
    more_values NoExprs s = Ok []
    more_values (NextExpr comma e more) s =
        with_ok (value_of e None s) (λ v. with_ok (more_values more s) (λ vs. Ok (v ∷ vs)))

    -- what stands behind a base, from left to right; the base is a name for the first of it alone
    pub behind : Posts N → Base N → S → Value → Result Value Fault
    behind NoPosts b s v = Ok v
    behind (Post p rest) b s v = with_ok (post_of p b s v) (behind rest OtherBase s)

    -- indices are evaluated from left to right, and then the access is tested
    pub post_of : PostTree N → Base N → S → Value → Result Value Fault
    post_of (Brackets from items upto) b s v = with_ok (items_of items s) (λ vs. bracketed b vs v s)
    post_of (Rounds from es upto) b s v = with_ok (values_of es s) (λ vs. element_of b (index_of vs) s)
    post_of (Dotted dot m) b s v = answer_of m s v

    -- a method; a cell read is no value by itself (see `evaluated`)
    pub answer_of : MethodTree N → S → Value → Result Value Fault
    answer_of (Plainly at w) s v = method_of w at v
    answer_of (Dim at from rank_at d upto) s v = Ok (Range (dimension d (ranges_in v)))
    answer_of (Contains at from es upto) s v =
        with_ok (values_of es s) (λ vs. Ok (Truth (contains_index (ranges_in v) (index_of vs))))
    answer_of (Expand at from e upto) s v = with_ok (value_of e None s) (λ k. expanded at (number k) (ranges_in v))
    answer_of (CellRead at w from upto) s v = Ok v

  -- a domain of items, as in an array's type: they are evaluated, and then its size is tested, at the opening bracket
  abbrev pub domain_of : Place → Items N → S → Result Value Fault
  domain_of from items s = with_ok (items_of items s) (λ vs. sized from (all_ranges vs))

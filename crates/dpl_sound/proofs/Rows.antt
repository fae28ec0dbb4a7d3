-- Worked rows: values that are of a type and values that aren't, and trees of which types and values go apart.
-- Expressions stand behind their texts.
use Rattle.std.proofs.Common.{◌≡◌, ℕ, ℤ, pos, Bool, true, false, List, [], ◌∷◌, length, Option, Some, None, Ok, refl, ap, ◌∙◌}
use Rattle.std.specs.Prelude.{codes}
use Rattle.dpl_sets.specs.TextRanges.{TextRange}
use Rattle.dpl_sets.specs.Indices.{indices}
use Rattle.dpl_sets.specs.Members.{members}
use Rattle.dpl_language.specs.Tree.{BoolKind, Closed, ExprTree, Number, Named, DomainLiteral, Chain, Postfixed, ItemTree, One, RangeItem, NoStride, By}
use Rattle.dpl_language.specs.Tree.{Link, NoLinks, Less, Posts, NoPosts, Post, Brackets, Dotted, Dim, FirstItem, NoItems, NextItem}
use Rattle.dpl_language.specs.Values.{Value, Int, Truth, Range, Domain, Array, Index}
use Rattle.dpl_language.specs.Ranges.{unstrided}
use Rattle.dpl_language.specs.Names.{Text, Opened, State, by_name}
use Rattle.dpl_language.specs.Environment.{Environment, ArrayOf}
use Rattle.dpl_language.specs.Expressions.{value_of, item_of}
use Rattle.dpl_language.proofs.Spelled.{at, name}
use Rattle.dpl_language.proofs.Says.{limits}
use Rattle.dpl_rules.specs.Types.{Over, ValueType, Range as RangeType, Domain as DomainType, Array as ArrayType, an_int, a_bool}
use Rattle.dpl_rules.specs.Sights.{Declared, Scopes, Variable}
use Rattle.dpl_rules.specs.Expressions.{type_of, item_type}
use Rattle.dpl_sound.specs.Typed.{HasType, type_at, Fits}
use Rattle.dpl_sound.proofs.Outcomes.{sound}
use Rattle.dpl_sound.proofs.Stores.{by_name-fits, enter-fits, array-fits}

-- ---- what is of which type
abbrev strided : ℤ → ℤ → ℤ → TextRange
strided low high stride = record { value = record { low = low; high = high; stride = stride }; strided = true }

true_no_false : true ≡ false → ⊥
true_no_false h = absurd cc

two_no_one : ◌≡◌ {A = ℕ} 2 1 → ⊥
two_no_one h = absurd cc

range_same : (r q : TextRange) → Range r ≡ Range q → r ≡ q
range_same r q h = cc

domain_same : (rs qs : List TextRange) → Domain rs ≡ Domain qs → rs ≡ qs
domain_same rs qs h = cc

truth_no_int : (b : Bool) (n : ℤ) → Truth b ≡ Int n → ⊥
truth_no_int b n h = absurd cc

plain_range_is_plain : (low high : ℤ) → HasType (Range (unstrided low high)) (RangeType false)
plain_range_is_plain low high = (unstrided low high, refl, (refl, tt))

-- of a strided type a range may have `by`, and need not
strided_range_is_strided : (low high stride : ℤ) → HasType (Range (strided low high stride)) (RangeType true)
strided_range_is_strided low high stride = (strided low high stride, refl, tt)

plain_range_is_strided : (low high : ℤ) → HasType (Range (unstrided low high)) (RangeType true)
plain_range_is_strided low high = (unstrided low high, refl, tt)

strided_range_is_not_plain : (low high stride : ℤ) → HasType (Range (strided low high stride)) (RangeType false) → ⊥
strided_range_is_not_plain low high stride h =
    let same = range_same (strided low high stride) h.0 h.1 in
    true_no_false (ap (λ (r : TextRange). r.strided) (same ∙ h.2.0))

domain_of_two_ranges : (r q : TextRange) → HasType (Domain (r ∷ q ∷ [])) (DomainType 2 true)
domain_of_two_ranges r q = (r ∷ q ∷ [], refl, (refl, tt))

domain_of_two_ranges_is_not_of_rank_1 : (b : Bool) (r q : TextRange) → HasType (Domain (r ∷ q ∷ [])) (DomainType 1 b) → ⊥
domain_of_two_ranges_is_not_of_rank_1 b r q h = two_no_one (ap (λ rs. length rs) (domain_same (r ∷ q ∷ []) h.0 h.1) ∙ h.2.0)

truth_is_no_int : (b : Bool) → HasType (Truth b) an_int → ⊥
truth_is_no_int b h = truth_no_int b h.0 h.1

-- ---- what expressions give
abbrev numbered : ℤ → ExprTree Text
numbered n = Number (at 1 1) n

abbrev to : ℤ → ℤ → ItemTree Text
to low high = RangeItem (numbered low) (at 1 1) Closed (numbered high) NoStride

abbrev to_by : ℤ → ℤ → ℤ → ItemTree Text
to_by low high stride = RangeItem (numbered low) (at 1 1) Closed (numbered high) (By (at 1 1) (numbered stride))

module _ (scopes : Scopes) {S : Type 0} (env : Environment Text S) (s : S) where
  -- 1..8 by 1: the stride is 1, and the text has `by`
  strided_by_one_type : item_type scopes (to_by (pos 1) (pos 8) (pos 1)) ≡ Some (RangeType true)
  strided_by_one_type = refl

  strided_by_one_value : item_of (limits 9 1) env (to_by (pos 1) (pos 8) (pos 1)) None s ≡ Ok (Range (strided (pos 1) (pos 8) (pos 1)))
  strided_by_one_value = refl

  -- {1..4, 1..8 by 2}.dim(0): strided by its type, though this dimension isn't
  abbrev mixed_dimension : ExprTree Text
  mixed_dimension =
      Postfixed (DomainLiteral (at 1 1) (FirstItem (to (pos 1) (pos 4)) (NextItem (at 1 1) (to_by (pos 1) (pos 8) (pos 2)) NoItems)) (at 1 1))
      (Post (Dotted (at 1 1) (Dim (at 1 1) (at 1 1) (at 1 1) 0 (at 1 1))) NoPosts)

  mixed_dimension_type : type_of scopes mixed_dimension ≡ Some (RangeType true)
  mixed_dimension_type = refl

  mixed_dimension_value : value_of (limits 9 1) env mixed_dimension None s ≡ Ok (Range (unstrided (pos 1) (pos 4)))
  mixed_dimension_value = refl

  -- 1 < 2: a comparison of ints is a bool
  comparison_type : type_of scopes (Chain (numbered (pos 1)) (Link (at 1 1) Less (numbered (pos 2)) NoLinks)) ≡ Some a_bool
  comparison_type = refl

-- ---- why trees are to be as texts spell them: A is an array of bools, of the one element true
abbrev of_one : Over
of_one = record { rank = 1; strided = false; base = record { name = codes "A"; depth = 1 } }

abbrev array_declared : Declared
array_declared = record { origin = record { name = codes "A"; depth = 1 }; sort = Variable; type = Some (ArrayType BoolKind of_one) }

abbrev one_array : Scopes
one_array = (array_declared ∷ []) ∷ []

abbrev one_range : List TextRange
one_range = unstrided (pos 1) (pos 1) ∷ []

abbrev at_the_top : State
at_the_top = record { store = Opened ∷ []; roots = Opened ∷ []; intents = []; here = pos 0; sets = []; replies = None; histories = [] }

abbrev one_state : State
one_state = by_name.declare (codes "A") (ArrayOf None BoolKind one_range (Truth true ∷ [])) at_the_top

one_state_fits : Fits by_name one_array one_state
one_state_fits =
    by_name-fits one_array one_state
    (array-fits ([] ∷ []) at_the_top array_declared BoolKind of_one None one_range (Truth true ∷ []) (enter-fits [] [] tt) refl refl (refl, (refl, tt)) ((true, refl), tt))

abbrev array_name : ExprTree Text
array_name = Named (name (codes "A") (at 1 1))

abbrev at_one : Posts Text
at_one = Post (Brackets (at 1 1) (FirstItem (One (numbered (pos 1))) NoItems) (at 1 1)) NoPosts

-- A[1]
indexed_type : type_of one_array (Postfixed array_name at_one) ≡ Some a_bool
indexed_type = refl

indexed_value : value_of (limits 9 1) by_name (Postfixed array_name at_one) None one_state ≡ Ok (Truth true)
unfolding indices members
indexed_value = refl

-- A chain without an operator has its operand's type, and is no name: brackets behind it index no array, and give 0.
abbrev chained_name : ExprTree Text
chained_name = Chain array_name NoLinks

chained_type : type_of one_array (Postfixed chained_name at_one) ≡ Some a_bool
chained_type = refl

chained_value : value_of (limits 9 1) by_name (Postfixed chained_name at_one) None one_state ≡ Ok (Int (pos 0))
chained_value = refl

-- A base with nothing behind it has the base's type, and is evaluated once also where an index is given.
bare_type : type_of one_array (Postfixed array_name NoPosts) ≡ Some (ArrayType BoolKind of_one)
bare_type = refl

bare_value : value_of (limits 9 1) by_name (Postfixed array_name NoPosts) (Some (pos 1 ∷ [])) one_state
    ≡ Ok (Array BoolKind one_range)
bare_value = refl

-- So soundness doesn't hold of all trees, though the state fits: the one is no bool, and the other no element.
abbrev IsSoundOf : ExprTree Text → Type 0
IsSoundOf e =
    (t : ValueType) (i : Option Index) (v : Value) → type_of one_array e ≡ Some t → value_of (limits 9 1) by_name e i one_state ≡ Ok v → HasType v (type_at t i)

int_no_truth : (n : ℤ) (b : Bool) → Int n ≡ Truth b → ⊥
int_no_truth n b h = absurd cc

array_no_truth : (rs : List TextRange) (b : Bool) → Array BoolKind rs ≡ Truth b → ⊥
array_no_truth rs b h = absurd cc

chained_name_is_unsound : IsSoundOf (Postfixed chained_name at_one) → ⊥
chained_name_is_unsound sound = let given = sound a_bool None (Int (pos 0)) chained_type chained_value in int_no_truth (pos 0) given.0 given.1

bare_name_is_unsound : IsSoundOf (Postfixed array_name NoPosts) → ⊥
bare_name_is_unsound sound =
    let given = sound (ArrayType BoolKind of_one) (Some (pos 1 ∷ [])) (Array BoolKind one_range) bare_type bare_value in
    array_no_truth one_range given.0 given.1

-- and of the tree that a text spells it does
spelled_name_is_sound : IsSoundOf (Postfixed array_name at_one)
spelled_name_is_sound t i v h r = sound (limits 9 1) by_name one_array one_state one_state_fits (Postfixed array_name at_one) t i v (tt, tt, ((tt, tt), tt)) h r

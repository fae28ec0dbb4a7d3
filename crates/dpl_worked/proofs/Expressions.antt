-- Expressions of a type or a rank that isn't taken: C3 and C5.
-- Each row is computed from the text's bytes on; those behind the house's line are on line 2.
use Rattle.std.proofs.Common.{◌≡◌, refl}
use Rattle.std.specs.Prelude.{codes}
use Rattle.dpl_syntax.specs.declared.refusal.Code.TheVariants.{WrongRank, WrongType}
use Rattle.dpl_worked.proofs.Texts.{in_house, told, by_text}

-- ---- C3 at an operator whose operands don't fit
bool_plus_int : in_house (codes "n = true + 1;") ≡ told 2 10 WrongType
unfolding by_text
bool_plus_int = refl

int_equal_to_bool : in_house (codes "b = 1 == b;") ≡ told 2 7 WrongType
unfolding by_text
int_equal_to_bool = refl

int_and_bool : in_house (codes "b = 1 && b;") ≡ told 2 7 WrongType
unfolding by_text
int_and_bool = refl

not_of_an_int : in_house (codes "b = !n;") ≡ told 2 5 WrongType
unfolding by_text
not_of_an_int = refl

-- ---- promoted operands
arrays_over_two_domains : in_house (codes "A = A + G;") ≡ told 2 7 WrongType
unfolding by_text
arrays_over_two_domains = refl

promoted_and : in_house (codes "F = F && F;") ≡ told 2 7 WrongType
unfolding by_text
promoted_and = refl

-- ---- reductions
reduction_of_an_int : in_house (codes "n = + reduce n;") ≡ told 2 5 WrongType
unfolding by_text
reduction_of_an_int = refl

sum_of_bools : in_house (codes "n = + reduce F;") ≡ told 2 5 WrongType
unfolding by_text
sum_of_bools = refl

-- ---- C3 at the first token of a bound, a count or a stride that is no int, and of what is no range in a literal
low_end_of_bool : in_house (codes "const x = true..2;") ≡ told 2 11 WrongType
unfolding by_text
low_end_of_bool = refl

int_in_a_literal : in_house (codes "const x = {1};") ≡ told 2 12 WrongType
unfolding by_text
int_in_a_literal = refl

-- ---- C3 at a bracket that the value doesn't take
index_of_an_int : in_house (codes "n = n[1];") ≡ told 2 6 WrongType
unfolding by_text
index_of_an_int = refl

-- ---- C3 at the first token of a part of a slice or of an index list
int_in_a_slice_of_a_range : in_house (codes "const x = r[1];") ≡ told 2 13 WrongType
unfolding by_text
int_in_a_slice_of_a_range = refl

bool_as_an_index : in_house (codes "n = A[true];") ≡ told 2 7 WrongType
unfolding by_text
bool_as_an_index = refl

-- ---- C3 at a method's name that the value doesn't take
size_of_an_array : in_house (codes "n = A.size;") ≡ told 2 7 WrongType
unfolding by_text
size_of_an_array = refl

domain_of_an_int : in_house (codes "const x = n.domain;") ≡ told 2 13 WrongType
unfolding by_text
domain_of_an_int = refl

dimension_of_a_range : in_house (codes "const x = r.dim(0);") ≡ told 2 13 WrongType
unfolding by_text
dimension_of_a_range = refl

expand_of_a_strided_domain : in_house (codes "const x = S.expand(1);") ≡ told 2 13 WrongType
unfolding by_text
expand_of_a_strided_domain = refl

contains_a_bool : in_house (codes "b = D.contains(b);") ≡ told 2 16 WrongType
unfolding by_text
contains_a_bool = refl

-- ---- a bare `Locales`
locales_as_a_value : in_house (codes "const x = Locales;") ≡ told 2 11 WrongType
unfolding by_text
locales_as_a_value = refl

-- ---- C5 at the last token before a bracket, of index lists and slices
two_indices_on_rank_1 : in_house (codes "n = A[1, 2];") ≡ told 2 5 WrongRank
unfolding by_text
two_indices_on_rank_1 = refl

two_ranges_on_rank_1 : in_house (codes "const x = D[1..2, 1..2];") ≡ told 2 11 WrongRank
unfolding by_text
two_ranges_on_rank_1 = refl

two_asked_of_rank_1 : in_house (codes "b = D.contains(1, 2);") ≡ told 2 7 WrongRank
unfolding by_text
two_asked_of_rank_1 = refl

two_indices_written_on_rank_1 : in_house (codes "A[1, 2] = 3;") ≡ told 2 1 WrongRank
unfolding by_text
two_indices_written_on_rank_1 = refl

-- ---- C5 at the first token of a loop's variables
two_variables_on_rank_1 : in_house (codes "for (i, j) in D do ;") ≡ told 2 5 WrongRank
unfolding by_text
two_variables_on_rank_1 = refl

-- ---- C5 at the number of `dim` and of `domain`
second_dimension_of_rank_1 : in_house (codes "const x = D.dim(1);") ≡ told 2 17 WrongRank
unfolding by_text
second_dimension_of_rank_1 = refl

domain_of_rank_4 : in_house (codes "var x: domain(4);") ≡ told 2 15 WrongRank
unfolding by_text
domain_of_rank_4 = refl

-- ---- C5 at the opening bracket of more than three ranges
four_ranges : in_house (codes "const x = {1..2, 1..2, 1..2, 1..2};") ≡ told 2 11 WrongRank
unfolding by_text
four_ranges = refl

-- ---- C5 at the word of a map
pair_starts_rank_1 : in_house (codes "const x = D dmapped new cyclicDist(startIdx=(1, 2));") ≡ told 2 25 WrongRank
unfolding by_text
pair_starts_rank_1 = refl

low_of_rank_1_starts_rank_2 : in_house (codes "const x = E dmapped new cyclicDist(startIdx=S.low);") ≡ told 2 25 WrongRank
unfolding by_text
low_of_rank_1_starts_rank_2 = refl

-- ---- a refused part has no rank
bound_of_a_strided_domain : in_house (codes "const x = E dmapped new cyclicDist(startIdx=S.lowBound);") ≡ told 2 47 WrongType
unfolding by_text
bound_of_a_strided_domain = refl

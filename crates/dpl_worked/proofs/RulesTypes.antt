-- Types, ranks and places of expressions, declarations and assignments: C1, C3, C4, C5 and C12.
-- Each row is computed from the text's bytes on; those behind the house's line are on line 2.
use Rattle.std.proofs.Common.{◌≡◌, refl}
use Rattle.std.specs.Prelude.{codes}
use Rattle.dpl_syntax.specs.declared.refusal.Code.TheVariants.{CellMisused, ConstantWritten, UnknownName, WrongRank, WrongType}
use Rattle.dpl_worked.proofs.Texts.{in_house, told, sound, by_text}

-- ---- a rule is looked at only where the parts that it speaks of have types
sum_in_a_sum : in_house (codes "n = true + (1 + false);") ≡ told 2 15 WrongType
unfolding by_text
sum_in_a_sum = refl

unknown_index_on_rank_2 : in_house (codes "n = B[x];") ≡ told 2 7 UnknownName
unfolding by_text
unknown_index_on_rank_2 = refl

unknown_slice_on_rank_2 : in_house (codes "const x = E[y];") ≡ told 2 11 WrongRank
unfolding by_text
unknown_slice_on_rank_2 = refl

four_ints_in_a_literal : in_house (codes "const x = {1, 2, 3, 4};") ≡ told 2 11 WrongRank
unfolding by_text
four_ints_in_a_literal = refl

-- ---- ranges and domains, and which of them are strided
stride_of_bool : in_house (codes "const x = 1..4 by true;") ≡ told 2 19 WrongType
unfolding by_text
stride_of_bool = refl

first_range_strided : in_house (codes "E = {1..4 by 2, 1..4};") ≡ told 2 5 WrongType
unfolding by_text
first_range_strided = refl

last_range_strided : in_house (codes "E = {1..4, 1..4 by 2};") ≡ told 2 5 WrongType
unfolding by_text
last_range_strided = refl

slice_by_a_strided_range : in_house (codes "const x = r[1..4 by 2];") ≡ told 2 13 WrongType
unfolding by_text
slice_by_a_strided_range = refl

slice_of_a_strided_domain : in_house (codes "V = S[1..4];") ≡ told 2 5 WrongType
unfolding by_text
slice_of_a_strided_domain = refl

dimension_of_a_strided_domain : in_house (codes "const x = r[S.dim(0)];") ≡ told 2 13 WrongType
unfolding by_text
dimension_of_a_strided_domain = refl

domain_of_a_strided_array : in_house (codes "{ var P: [S] int; V = P.domain; }") ≡ told 2 23 WrongType
unfolding by_text
domain_of_a_strided_array = refl

expanded_by_a_bool : in_house (codes "const x = D.expand(b);") ≡ told 2 20 WrongType
unfolding by_text
expanded_by_a_bool = refl

-- ---- another rank, or a map beside a domain's type, is C3
domain_of_another_rank : in_house (codes "var x: domain(2) = D;") ≡ told 2 20 WrongType
unfolding by_text
domain_of_another_rank = refl

set_to_another_rank : in_house (codes "V = E;") ≡ told 2 5 WrongType
unfolding by_text
set_to_another_rank = refl

mapped_value_of_a_domain : in_house (codes "var x: domain(1) = D dmapped new blockDist(D);") ≡ told 2 22 WrongType
unfolding by_text
mapped_value_of_a_domain = refl

created_value_of_a_domain : in_house (codes "var x: domain(1) = blockDist.createDomain(D);") ≡ told 2 20 WrongType
unfolding by_text
created_value_of_a_domain = refl

-- ---- arrays have one index set over one bare name, or each its own
another_domain_of_the_same_name : in_house (codes "{ const D = {1..8}; var P: [D] int; P = A; }") ≡ told 2 41 WrongType
unfolding by_text
another_domain_of_the_same_name = refl

over_a_slice : in_house (codes "{ var P: [D[1..8]] int; P = A; }") ≡ told 2 29 WrongType
unfolding by_text
over_a_slice = refl

over_a_name_in_brackets : in_house (codes "{ var P: [(D)] int; P = A; }") ≡ told 2 25 WrongType
unfolding by_text
over_a_name_in_brackets = refl

over_the_name_of_a_range : in_house (codes "{ var P: [z] int; var Q: [z] int = P; }") ≡ told 2 36 WrongType
unfolding by_text
over_the_name_of_a_range = refl

raised_by_another_index_set : in_house (codes "A += G;") ≡ told 2 3 WrongType
unfolding by_text
raised_by_another_index_set = refl

index_set_behind_an_int : in_house (codes "A = A + 1 + G;") ≡ told 2 11 WrongType
unfolding by_text
index_set_behind_an_int = refl

promoted_bools : in_house (codes "F = !F;") ≡ sound
unfolding by_text
promoted_bools = refl

promoted_equality : in_house (codes "F = (A == C) == F;") ≡ sound
unfolding by_text
promoted_equality = refl

-- ---- brackets and indices
round_brackets_of_a_range : in_house (codes "n = r(1);") ≡ told 2 6 WrongType
unfolding by_text
round_brackets_of_a_range = refl

two_locales : in_house (codes "const x = Locales[0, 1];") ≡ told 2 11 WrongRank
unfolding by_text
two_locales = refl

behind_brackets : in_house (codes "const x = (r)[1..2, 1..2];") ≡ told 2 13 WrongRank
unfolding by_text
behind_brackets = refl

behind_a_word : in_house (codes "const x = A.domain[1..2, 1..2];") ≡ told 2 13 WrongRank
unfolding by_text
behind_a_word = refl

behind_a_number_in_brackets : in_house (codes "const x = E.dim(0)[1..2, 1..2];") ≡ told 2 18 WrongRank
unfolding by_text
behind_a_number_in_brackets = refl

one_index_on_rank_2 : in_house (codes "n = B[1];") ≡ told 2 5 WrongRank
unfolding by_text
one_index_on_rank_2 = refl

bool_on_rank_2 : in_house (codes "n = B[b];") ≡ told 2 5 WrongRank
unfolding by_text
bool_on_rank_2 = refl

slice_by_a_pair : in_house (codes "for t in E { const x = E[t]; }") ≡ told 2 24 WrongRank
unfolding by_text
slice_by_a_pair = refl

pair_on_rank_1 : in_house (codes "for t in E do n = A[t];") ≡ told 2 19 WrongRank
unfolding by_text
pair_on_rank_1 = refl

pair_among_indices : in_house (codes "for t in E do n = B[t, 1];") ≡ told 2 21 WrongType
unfolding by_text
pair_among_indices = refl

pair_contained : in_house (codes "for t in E do b = E.contains(t);") ≡ sound
unfolding by_text
pair_contained = refl

two_variables_on_rank_3 : in_house (codes "for (i, j) in T do ;") ≡ told 2 5 WrongRank
unfolding by_text
two_variables_on_rank_3 = refl

locales_in_brackets : in_house (codes "for x in (Locales) do ;") ≡ told 2 11 WrongType
unfolding by_text
locales_in_brackets = refl

-- ---- the low end of a domain stands only as where a map starts
low_as_a_value : in_house (codes "n = D.low;") ≡ told 2 7 WrongType
unfolding by_text
low_as_a_value = refl

starts_at_the_high_end : in_house (codes "const x = D dmapped new cyclicDist(startIdx=D.high);") ≡ told 2 47 WrongType
unfolding by_text
starts_at_the_high_end = refl

starts_in_brackets : in_house (codes "const x = D dmapped new cyclicDist(startIdx=(D.low));") ≡ told 2 48 WrongType
unfolding by_text
starts_in_brackets = refl

starts_at_the_low_end_of_a_range : in_house (codes "const x = D dmapped new cyclicDist(startIdx=D.dim(0).low);") ≡ sound
unfolding by_text
starts_at_the_low_end_of_a_range = refl

-- ---- maps
int_starts_rank_2 : in_house (codes "const x = E dmapped new cyclicDist(startIdx=1);") ≡ told 2 25 WrongRank
unfolding by_text
int_starts_rank_2 = refl

bool_among_starts : in_house (codes "const x = E dmapped new cyclicDist((1, b));") ≡ told 2 40 WrongType
unfolding by_text
bool_among_starts = refl

pair_as_a_start : in_house (codes "for t in E { const x = E dmapped new cyclicDist(t); }") ≡ told 2 49 WrongType
unfolding by_text
pair_as_a_start = refl

box_of_rank_1 : in_house (codes "const x = E dmapped new blockDist(D);") ≡ told 2 25 WrongRank
unfolding by_text
box_of_rank_1 = refl

blocks_of_two_sizes : in_house (codes "const x = D dmapped new blockCycDist(1, (1, 1));") ≡ told 2 25 WrongRank
unfolding by_text
blocks_of_two_sizes = refl

map_of_a_type : in_house (codes "var x: domain(2) dmapped new blockDist(D);") ≡ told 2 30 WrongRank
unfolding by_text
map_of_a_type = refl

range_mapped : in_house (codes "const x = 1..8 dmapped new blockDist(D);") ≡ told 2 11 WrongType
unfolding by_text
range_mapped = refl

created_from_four_ranges : in_house (codes "const x = blockDist.createDomain(r, r, r, r);") ≡ told 2 33 WrongRank
unfolding by_text
created_from_four_ranges = refl

created_from_two_domains : in_house (codes "const x = blockDist.createDomain(D, D);") ≡ told 2 34 WrongType
unfolding by_text
created_from_two_domains = refl

-- ---- declarations and assignments
pair_without_a_type : in_house (codes "for t in E { const x = t; }") ≡ told 2 24 WrongType
unfolding by_text
pair_without_a_type = refl

element_of_a_constant_array : in_house (codes "{ const P: [D] int; P[1] = 2; }") ≡ told 2 21 ConstantWritten
unfolding by_text
element_of_a_constant_array = refl

promoted_without_a_type : in_house (codes "const x = A + 1;") ≡ told 2 11 WrongType
unfolding by_text
promoted_without_a_type = refl

int_set_to_an_array : in_house (codes "n = A;") ≡ told 2 5 WrongType
unfolding by_text
int_set_to_an_array = refl

ints_set_to_bools : in_house (codes "A = F;") ≡ told 2 5 WrongType
unfolding by_text
ints_set_to_bools = refl

bool_raised : in_house (codes "b += b;") ≡ told 2 3 WrongType
unfolding by_text
bool_raised = refl

bools_raised : in_house (codes "F += F;") ≡ told 2 3 WrongType
unfolding by_text
bools_raised = refl

domain_raised : in_house (codes "V += V;") ≡ told 2 3 WrongType
unfolding by_text
domain_raised = refl

range_set : in_house (codes "z = 3..4;") ≡ told 2 3 WrongType
unfolding by_text
range_set = refl

locale_set_to_an_int : in_house (codes "h = 1;") ≡ told 2 5 WrongType
unfolding by_text
locale_set_to_an_int = refl

-- ---- cells
constant_cell_called : in_house (codes "{ const p: sync int; p.writeEF(1); }") ≡ sound
unfolding by_text
constant_cell_called = refl

constant_cell_set : in_house (codes "{ const p: sync int; p = 1; }") ≡ told 2 22 ConstantWritten
unfolding by_text
constant_cell_set = refl

int_cell_from_a_bool : in_house (codes "{ var p: sync int = true; }") ≡ told 2 21 WrongType
unfolding by_text
int_cell_from_a_bool = refl

element_of_a_cell_set : in_house (codes "c[1] = 2;") ≡ told 2 1 CellMisused
unfolding by_text
element_of_a_cell_set = refl

bool_set_to_an_int_read : in_house (codes "b = c.readFE();") ≡ told 2 5 WrongType
unfolding by_text
bool_set_to_an_int_read = refl

read_in_brackets : in_house (codes "n = (c.readFE());") ≡ told 2 6 CellMisused
unfolding by_text
read_in_brackets = refl

read_of_an_int : in_house (codes "n = n.readFE();") ≡ told 2 7 WrongType
unfolding by_text
read_of_an_int = refl

-- ---- what is printed, and conditions
promoted_printed : in_house (codes "write(A + C);") ≡ told 2 7 WrongType
unfolding by_text
promoted_printed = refl

array_in_brackets_printed : in_house (codes "write((A));") ≡ told 2 7 WrongType
unfolding by_text
array_in_brackets_printed = refl

promoted_condition : in_house (codes "if A == C then ;") ≡ told 2 4 WrongType
unfolding by_text
promoted_condition = refl

condition_of_a_while : in_house (codes "while n do ;") ≡ told 2 7 WrongType
unfolding by_text
condition_of_a_while = refl

-- Declarations and statements that don't take what they are given: C3.
-- Each row is computed from the text's bytes on; those behind the house's line are on line 2.
use Rattle.std.proofs.Common.{◌≡◌, refl}
use Rattle.std.specs.Prelude.{codes}
use Rattle.dpl_syntax.specs.declared.refusal.Code.TheVariants.{WrongType}
use Rattle.dpl_worked.proofs.Texts.{in_house, told, by_text}

-- ---- C3 of an initial value that doesn't agree with the declared type, at its first token
int_from_a_bool : in_house (codes "var x: int = true;") ≡ told 2 14 WrongType
unfolding by_text
int_from_a_bool = refl

dmapped_beside_int : in_house (codes "var x: int = 1 dmapped new blockDist({1..2});") ≡ told 2 16 WrongType
unfolding by_text
dmapped_beside_int = refl

array_from_another_domain : in_house (codes "var P: [D] int = G;") ≡ told 2 18 WrongType
unfolding by_text
array_from_another_domain = refl

-- ---- C3 of an initial value of a name without a type
array_without_a_type : in_house (codes "const x = A;") ≡ told 2 11 WrongType
unfolding by_text
array_without_a_type = refl

-- ---- C3 of what an array is over, or a domain is created from
array_over_an_int : in_house (codes "var P: [n] int;") ≡ told 2 9 WrongType
unfolding by_text
array_over_an_int = refl

created_from_an_int : in_house (codes "const x = blockDist.createDomain(n);") ≡ told 2 34 WrongType
unfolding by_text
created_from_an_int = refl

-- ---- C3 of a map's argument
box_of_int : in_house (codes "const x = D dmapped new blockDist(1);") ≡ told 2 35 WrongType
unfolding by_text
box_of_int = refl

start_of_bool : in_house (codes "const x = D dmapped new cyclicDist(startIdx=true);") ≡ told 2 45 WrongType
unfolding by_text
start_of_bool = refl

-- ---- C3 of a `config const` that is no int or bool
configured_domain_type : in_house (codes "config const x: domain(1) = D;") ≡ told 2 17 WrongType
unfolding by_text
configured_domain_type = refl

-- ---- C3 of a right side of `=`, at its first token
int_set_to_bool : in_house (codes "n = true;") ≡ told 2 5 WrongType
unfolding by_text
int_set_to_bool = refl

array_set_to_another_domain : in_house (codes "A = G;") ≡ told 2 5 WrongType
unfolding by_text
array_set_to_another_domain = refl

domain_set_to_a_strided_one : in_house (codes "V = {1..8 by 2};") ≡ told 2 5 WrongType
unfolding by_text
domain_set_to_a_strided_one = refl

-- ---- C3 at the operator of another assignment, or of one that the name doesn't take
int_raised_by_a_bool : in_house (codes "n += b;") ≡ told 2 3 WrongType
unfolding by_text
int_raised_by_a_bool = refl

set_without_a_forall : in_house (codes "n reduce= 1;") ≡ told 2 3 WrongType
unfolding by_text
set_without_a_forall = refl

-- ---- C3 at the bracket of an element of what is no array, and at an index
element_of_an_int : in_house (codes "n[1] = 2;") ≡ told 2 2 WrongType
unfolding by_text
element_of_an_int = refl

element_at_a_bool : in_house (codes "A[b] = 1;") ≡ told 2 3 WrongType
unfolding by_text
element_at_a_bool = refl

-- ---- C3 of calls on cells, of what is printed, of conditions and of places
call_of_an_int : in_house (codes "n.reset();") ≡ told 2 3 WrongType
unfolding by_text
call_of_an_int = refl

bool_written_to_an_int_cell : in_house (codes "c.writeEF(true);") ≡ told 2 11 WrongType
unfolding by_text
bool_written_to_an_int_cell = refl

range_printed : in_house (codes "write(r);") ≡ told 2 7 WrongType
unfolding by_text
range_printed = refl

condition_of_int : in_house (codes "if 1 then ;") ≡ told 2 4 WrongType
unfolding by_text
condition_of_int = refl

place_of_int : in_house (codes "on 1 do ;") ≡ told 2 4 WrongType
unfolding by_text
place_of_int = refl

-- ---- C3 of what a loop runs over, and of a reduce variable's type
for_over_an_int : in_house (codes "for i in n do ;") ≡ told 2 10 WrongType
unfolding by_text
for_over_an_int = refl

forall_over_locales : in_house (codes "forall i in Locales do ;") ≡ told 2 13 WrongType
unfolding by_text
forall_over_locales = refl

coforall_over_a_domain : in_house (codes "coforall i in D do ;") ≡ told 2 15 WrongType
unfolding by_text
coforall_over_a_domain = refl

sum_of_a_bool_variable : in_house (codes "forall i in D with (+ reduce b) do ;") ≡ told 2 30 WrongType
unfolding by_text
sum_of_a_bool_variable = refl

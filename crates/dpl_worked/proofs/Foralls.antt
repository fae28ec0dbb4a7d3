-- What the bodies of foralls and tasks write, read, change and hold, C6 to C10; and cells as plain variables, C12.
-- Each row is computed from the text's bytes on; those behind the house's line are on line 2.
use Rattle.std.proofs.Common.{◌≡◌, refl}
use Rattle.std.specs.Prelude.{codes}
use Rattle.dpl_syntax.specs.declared.refusal.Code.TheVariants.{CellMisused, NotInCoforall, NotInForall, OuterChanged, ReadElsewhere, UnknownName, WrittenElsewhere, WrongType}
use Rattle.dpl_worked.proofs.Texts.{in_house, told, sound, by_text}

-- ---- C6, an array that isn't written at the own index
written_at_the_next : in_house (codes "forall i in D do A[i + 1] = 1;") ≡ told 2 18 WrittenElsewhere
unfolding by_text
written_at_the_next = refl

written_whole : in_house (codes "forall i in D do A = 1;") ≡ told 2 18 WrittenElsewhere
unfolding by_text
written_whole = refl

written_at_a_hidden_variable : in_house (codes "forall i in D { const i = 1; A[i] = 2; }") ≡ told 2 30 WrittenElsewhere
unfolding by_text
written_at_a_hidden_variable = refl

own_tuple_name : in_house (codes "forall t in E { B[t] = 1; B[(t)] += B[t]; }") ≡ sound
unfolding by_text
own_tuple_name = refl

arrays_of_two_roots : in_house (codes "forall i in 1..8 { A[i] = 1; G[i] = A[i]; F[i] = true; }") ≡ sound
unfolding by_text
arrays_of_two_roots = refl

-- ---- C7, an array that is written is read elsewhere
neighbour_read : in_house (codes "forall i in D do A[i] = A[i - 1];") ≡ told 2 25 ReadElsewhere
unfolding by_text
neighbour_read = refl

-- a written array's bare name is told before a name that isn't declared
written_array_by_its_name : in_house (codes "forall i in D do A[i] = A + nope;") ≡ told 2 25 ReadElsewhere
unfolding by_text
written_array_by_its_name = refl

own_element_read : in_house (codes "forall i in D do A[i] = A[i] + A((i)) + C[i + 1];") ≡ sound
unfolding by_text
own_element_read = refl

-- ---- C7 in a promoted assignment
target_read_by_index : in_house (codes "A = C + A[1];") ≡ told 2 9 ReadElsewhere
unfolding by_text
target_read_by_index = refl

-- a right side that is refused is told by itself
target_read_at_an_unknown_name : in_house (codes "A = C + A[x];") ≡ told 2 11 UnknownName
unfolding by_text
target_read_at_an_unknown_name = refl

target_read_beside_bools : in_house (codes "A = A[1] + F;") ≡ told 2 10 WrongType
unfolding by_text
target_read_beside_bools = refl

target_read_beside_ints : in_house (codes "A = A[1] + C;") ≡ told 2 5 ReadElsewhere
unfolding by_text
target_read_beside_ints = refl

-- ---- C8, an outer scalar, locale or domain that is changed, or a reduce variable that is read
outer_int_set : in_house (codes "forall i in D do n = 1;") ≡ told 2 18 OuterChanged
unfolding by_text
outer_int_set = refl

outer_domain_set : in_house (codes "forall i in D do V = {1..2};") ≡ told 2 18 OuterChanged
unfolding by_text
outer_domain_set = refl

reduce_variable_lowered : in_house (codes "forall i in D with (+ reduce n) do n -= 1;") ≡ told 2 36 OuterChanged
unfolding by_text
reduce_variable_lowered = refl

sum_multiplied : in_house (codes "forall i in D with (+ reduce n) do n *= i;") ≡ told 2 36 OuterChanged
unfolding by_text
sum_multiplied = refl

-- by its intent's operator it may be changed, but it takes no bracket
reduce_variable_at_an_index : in_house (codes "forall i in 1..2 with (+ reduce n) { n[1] += 1; }") ≡ told 2 39 WrongType
unfolding by_text
reduce_variable_at_an_index = refl

reduce_variable_read : in_house (codes "forall i in D with (+ reduce n) do n += n;") ≡ told 2 41 OuterChanged
unfolding by_text
reduce_variable_read = refl

sum : in_house (codes "forall i in D with (+ reduce n) do n += i;") ≡ sound
unfolding by_text
sum = refl

-- ---- C9, what a forall's body doesn't hold
print_in_a_forall : in_house (codes "forall i in D do write(i);") ≡ told 2 18 NotInForall
unfolding by_text
print_in_a_forall = refl

forall_in_a_forall : in_house (codes "forall i in D do forall j in D do ;") ≡ told 2 18 NotInForall
unfolding by_text
forall_in_a_forall = refl

coforall_in_a_forall : in_house (codes "forall i in D do coforall j in r do ;") ≡ told 2 18 NotInForall
unfolding by_text
coforall_in_a_forall = refl

reduction_in_a_forall : in_house (codes "forall i in D { const x = + reduce C; }") ≡ told 2 27 NotInForall
unfolding by_text
reduction_in_a_forall = refl

cell_written_in_a_forall : in_house (codes "forall i in D do c.writeEF(1);") ≡ told 2 18 NotInForall
unfolding by_text
cell_written_in_a_forall = refl

on_in_a_forall : in_house (codes "forall i in D do on h do ;") ≡ told 2 18 NotInForall
unfolding by_text
on_in_a_forall = refl

here_in_a_forall : in_house (codes "forall i in D { const x = here.id; }") ≡ told 2 27 NotInForall
unfolding by_text
here_in_a_forall = refl

array_in_a_forall : in_house (codes "forall i in D do var P: [D] int;") ≡ told 2 18 NotInForall
unfolding by_text
array_in_a_forall = refl

-- ---- C9 of a reduction in a promoted expression or in a map's argument
reduction_in_a_promoted_right_side : in_house (codes "A = A + + reduce C;") ≡ told 2 9 NotInForall
unfolding by_text
reduction_in_a_promoted_right_side = refl

reduction_in_a_box : in_house (codes "const x = D dmapped new blockDist(boundingBox={1..+ reduce A});") ≡ told 2 51 NotInForall
unfolding by_text
reduction_in_a_box = refl

product_of_a_sum_and_bools : in_house (codes "A = (+ reduce C) * F;") ≡ told 2 18 WrongType
unfolding by_text
product_of_a_sum_and_bools = refl

product_of_a_sum_and_an_array : in_house (codes "A = (+ reduce C) * A;") ≡ told 2 6 NotInForall
unfolding by_text
product_of_a_sum_and_an_array = refl

-- of a chain that is refused, what stands before the refused operator is promoted still
sum_before_a_wrong_operator : in_house (codes "A = (+ reduce C) + A + F;") ≡ told 2 6 NotInForall
unfolding by_text
sum_before_a_wrong_operator = refl

sum_that_is_added_before_a_wrong_operator : in_house (codes "A = A + (+ reduce C) + F;") ≡ told 2 10 NotInForall
unfolding by_text
sum_that_is_added_before_a_wrong_operator = refl

declaration_of_a_sum_before_a_wrong_operator : in_house (codes "var x = (+ reduce C) + A + F;") ≡ told 2 10 NotInForall
unfolding by_text
declaration_of_a_sum_before_a_wrong_operator = refl

sum_in_a_longer_pair : in_house (codes "n = (+ reduce C) + 1 + A + F;") ≡ told 2 6 NotInForall
unfolding by_text
sum_in_a_longer_pair = refl

sum_beside_a_promoted_operand : in_house (codes "A = (A + C) * (+ reduce C);") ≡ told 2 16 NotInForall
unfolding by_text
sum_beside_a_promoted_operand = refl

sum_in_a_refused_pair : in_house (codes "A = (+ reduce C) + F + A;") ≡ told 2 18 WrongType
unfolding by_text
sum_in_a_refused_pair = refl

sum_behind_a_wrong_operator : in_house (codes "A = A + F + (+ reduce C);") ≡ told 2 7 WrongType
unfolding by_text
sum_behind_a_wrong_operator = refl

sum_in_an_operand_without_a_type : in_house (codes "A = A + C + ((+ reduce C) + true);") ≡ told 2 27 WrongType
unfolding by_text
sum_in_an_operand_without_a_type = refl

sum_in_a_pair_of_ints : in_house (codes "n = (+ reduce C) + 1 + true;") ≡ told 2 22 WrongType
unfolding by_text
sum_in_a_pair_of_ints = refl

sum_of_a_sum : in_house (codes "n = (+ reduce C) + 1;") ≡ sound
unfolding by_text
sum_of_a_sum = refl

-- ---- `dmapped` beside a written int declares an int
mapped_int_in_a_forall : in_house (codes "forall i in D do var x: int = 1 dmapped new blockDist(D);") ≡ told 2 33 WrongType
unfolding by_text
mapped_int_in_a_forall = refl

mapped_domain_in_a_forall : in_house (codes "forall i in D do var x: domain(1) = D dmapped new blockDist(D);") ≡ told 2 18 NotInForall
unfolding by_text
mapped_domain_in_a_forall = refl

created_beside_an_int_in_a_forall : in_house (codes "forall i in D do const x: int = blockDist.createDomain(1..2);") ≡ told 2 33 WrongType
unfolding by_text
created_beside_an_int_in_a_forall = refl

mapped_int_in_a_task : in_house (codes "coforall i in r do var x: int = 1 dmapped new blockDist(D);") ≡ told 2 35 WrongType
unfolding by_text
mapped_int_in_a_task = refl

mapped_domain_in_a_task : in_house (codes "coforall i in r do var x: domain(1) = D dmapped new blockDist(D);") ≡ told 2 20 NotInCoforall
unfolding by_text
mapped_domain_in_a_task = refl

-- ---- C10, what a coforall's body doesn't write, hold or declare
int_set_in_a_task : in_house (codes "coforall i in r do n = 1;") ≡ told 2 20 NotInCoforall
unfolding by_text
int_set_in_a_task = refl

print_in_a_task : in_house (codes "coforall i in r do write(i);") ≡ told 2 20 NotInCoforall
unfolding by_text
print_in_a_task = refl

array_in_a_task : in_house (codes "coforall i in r do var P: [D] int;") ≡ told 2 20 NotInCoforall
unfolding by_text
array_in_a_task = refl

reduce_intent_of_a_coforall : in_house (codes "coforall i in r with (+ reduce n) do ;") ≡ told 2 23 NotInCoforall
unfolding by_text
reduce_intent_of_a_coforall = refl

tasks :
    in_house (codes "coforall i in r with (ref n, ref c) { var x = 0; x += i; c.writeEF(i); const y = c.readFE(); on Locales[0] do x = here.id; const w = 1..2; for j in w do x += A[j]; }")
    ≡ sound
unfolding by_text
tasks = refl

-- ---- C12, a cell as a plain variable, or read out of its places
cell_as_a_value : in_house (codes "n = c;") ≡ told 2 5 CellMisused
unfolding by_text
cell_as_a_value = refl

cell_set : in_house (codes "c = 1;") ≡ told 2 1 CellMisused
unfolding by_text
cell_set = refl

cell_read_as_an_operand : in_house (codes "n = c.readFE() + 1;") ≡ told 2 5 CellMisused
unfolding by_text
cell_read_as_an_operand = refl

-- More of what the bodies of foralls and tasks write, read, change and hold, C6 to C10.
-- Each row is computed from the text's bytes on; those behind the house's line are on line 2.
use Rattle.std.proofs.Common.{◌≡◌, refl}
use Rattle.std.specs.Prelude.{codes}
use Rattle.dpl_syntax.specs.declared.refusal.Code.TheVariants.{NotInCoforall, NotInForall, OuterChanged, ReadElsewhere, WrittenElsewhere, WrongType}
use Rattle.dpl_worked.proofs.Texts.{in_house, told, sound, by_text}

-- ---- C6: the own index is the variables in their order, and no fewer or more
own_variables : in_house (codes "forall (i, j) in E do B[i, j] = B(i, j) + i;") ≡ sound
unfolding by_text
own_variables = refl

variables_in_another_order : in_house (codes "forall (i, j) in E do B[j, i] = 1;") ≡ told 2 23 WrittenElsewhere
unfolding by_text
variables_in_another_order = refl

first_variable_alone : in_house (codes "forall (i, j) in E do A[i] = 1;") ≡ told 2 23 WrittenElsewhere
unfolding by_text
first_variable_alone = refl

variable_twice : in_house (codes "forall i in D do B[i, i] = 1;") ≡ told 2 18 WrittenElsewhere
unfolding by_text
variable_twice = refl

written_at_an_unknown_name : in_house (codes "forall i in D do A[x] = 1;") ≡ told 2 18 WrittenElsewhere
unfolding by_text
written_at_an_unknown_name = refl

-- ---- C7: an index reads, a method doesn't, and writes in inner statements count
read_in_an_index : in_house (codes "forall i in D do A[i] = C[A[1]];") ≡ told 2 27 ReadElsewhere
unfolding by_text
read_in_an_index = refl

domain_of_a_written_array : in_house (codes "forall i in D do A[i] = A.domain.size;") ≡ sound
unfolding by_text
domain_of_a_written_array = refl

written_in_an_inner_loop : in_house (codes "forall i in D { for j in 1..2 do A[i] = j; const x = A[i + 1]; }") ≡ told 2 54 ReadElsewhere
unfolding by_text
written_in_an_inner_loop = refl

target_read_where_it_is_raised : in_house (codes "A += C + A[1];") ≡ told 2 10 ReadElsewhere
unfolding by_text
target_read_where_it_is_raised = refl

-- ---- C8: what is changed, where, and by which operator
changed_from_a_block : in_house (codes "{ forall i in D do n = 1; }") ≡ told 2 20 OuterChanged
unfolding by_text
changed_from_a_block = refl

locale_changed : in_house (codes "forall i in D do h = Locales[0];") ≡ told 2 18 OuterChanged
unfolding by_text
locale_changed = refl

range_isnt_changed : in_house (codes "forall i in D do z = 1..3;") ≡ told 2 20 WrongType
unfolding by_text
range_isnt_changed = refl

element_of_an_outer_int : in_house (codes "forall i in D do n[1] = 2;") ≡ told 2 18 OuterChanged
unfolding by_text
element_of_an_outer_int = refl

changed_in_a_while : in_house (codes "forall i in D do while b do n = 1;") ≡ told 2 29 OuterChanged
unfolding by_text
changed_in_a_while = refl

changed_in_an_else : in_house (codes "forall i in D do if b then ; else n = 1;") ≡ told 2 35 OuterChanged
unfolding by_text
changed_in_an_else = refl

changed_in_a_block : in_house (codes "forall i in D { { n = 1; } }") ≡ told 2 19 OuterChanged
unfolding by_text
changed_in_a_block = refl

reduced_without_an_intent : in_house (codes "forall i in D do n reduce= 1;") ≡ told 2 18 OuterChanged
unfolding by_text
reduced_without_an_intent = refl

product_raised : in_house (codes "forall i in D with (* reduce n) do n += i;") ≡ told 2 36 OuterChanged
unfolding by_text
product_raised = refl

greatest_raised : in_house (codes "forall i in D with (max reduce n) do n += i;") ≡ told 2 38 OuterChanged
unfolding by_text
greatest_raised = refl

reduced_in_inner_statements : in_house (codes "forall i in D with (+ reduce n) do for j in r do if b then n reduce= j;") ≡ sound
unfolding by_text
reduced_in_inner_statements = refl

element_reduced : in_house (codes "forall i in D do A[i] reduce= 1;") ≡ told 2 23 WrongType
unfolding by_text
element_reduced = refl

reduced_by_a_bool : in_house (codes "forall i in D with (+ reduce n) do n reduce= b;") ≡ told 2 46 WrongType
unfolding by_text
reduced_by_a_bool = refl

-- ---- C8: a reduce variable isn't read, wherever it stands
read_in_a_condition : in_house (codes "forall i in D with (+ reduce n) do if n > 1 then ;") ≡ told 2 39 OuterChanged
unfolding by_text
read_in_a_condition = refl

read_in_the_condition_of_a_while : in_house (codes "forall i in D with (+ reduce n) do while n > 1 do ;") ≡ told 2 42 OuterChanged
unfolding by_text
read_in_the_condition_of_a_while = refl

read_as_a_stride : in_house (codes "forall i in D with (+ reduce n) do for j in 1..9 by n do ;") ≡ told 2 53 OuterChanged
unfolding by_text
read_as_a_stride = refl

read_as_a_bound_of_a_domain : in_house (codes "forall i in D with (+ reduce n) do for j in {1..n} do ;") ≡ told 2 49 OuterChanged
unfolding by_text
read_as_a_bound_of_a_domain = refl

read_as_an_argument : in_house (codes "forall i in D with (+ reduce n) do if D.contains(n) then ;") ≡ told 2 50 OuterChanged
unfolding by_text
read_as_an_argument = refl

read_behind_a_minus : in_house (codes "forall i in D with (+ reduce n) { const x = 2 * -n; }") ≡ told 2 50 OuterChanged
unfolding by_text
read_behind_a_minus = refl

-- ---- C9: what is declared, called and reduced
domain_without_a_type_in_a_forall : in_house (codes "forall i in D { const x = D; }") ≡ told 2 17 NotInForall
unfolding by_text
domain_without_a_type_in_a_forall = refl

cell_in_a_forall : in_house (codes "forall i in D { var x: sync int; }") ≡ told 2 17 NotInForall
unfolding by_text
cell_in_a_forall = refl

cell_read_in_a_forall : in_house (codes "forall i in D { const x = c.readFE(); }") ≡ told 2 27 NotInForall
unfolding by_text
cell_read_in_a_forall = refl

reduction_in_an_inner_bound : in_house (codes "forall i in D do for j in 1..+ reduce C do ;") ≡ told 2 30 NotInForall
unfolding by_text
reduction_in_an_inner_bound = refl

refused_domain_in_a_forall : in_house (codes "forall i in D { const x = {1..true}; }") ≡ told 2 31 WrongType
unfolding by_text
refused_domain_in_a_forall = refl

range_and_locale_in_a_forall : in_house (codes "forall i in D { const x = 1..i; const y = Locales[0]; }") ≡ sound
unfolding by_text
range_and_locale_in_a_forall = refl

-- ---- C9 of a reduction in a map's argument or in a promoted expression
reduction_among_starts : in_house (codes "const x = E dmapped new cyclicDist((1, + reduce A));") ≡ told 2 40 NotInForall
unfolding by_text
reduction_among_starts = refl

reduction_as_a_size : in_house (codes "const x = D dmapped new blockCycDist(1, + reduce A);") ≡ told 2 41 NotInForall
unfolding by_text
reduction_as_a_size = refl

reduction_in_the_map_of_a_type : in_house (codes "var x: domain(1) dmapped new blockDist({1..+ reduce A});") ≡ told 2 44 NotInForall
unfolding by_text
reduction_in_the_map_of_a_type = refl

reduction_in_a_created_domain : in_house (codes "const x = blockDist.createDomain(1..+ reduce A);") ≡ sound
unfolding by_text
reduction_in_a_created_domain = refl

reduction_in_an_index : in_house (codes "A = A + C[+ reduce C];") ≡ told 2 11 NotInForall
unfolding by_text
reduction_in_an_index = refl

reduction_that_is_folded : in_house (codes "n = + reduce (A - min reduce A);") ≡ told 2 19 NotInForall
unfolding by_text
reduction_that_is_folded = refl

reduction_that_is_printed : in_house (codes "write(+ reduce (A - min reduce A));") ≡ told 2 21 NotInForall
unfolding by_text
reduction_that_is_printed = refl

reduction_as_a_right_side : in_house (codes "A = + reduce A;") ≡ sound
unfolding by_text
reduction_as_a_right_side = refl

-- ---- C10
element_in_a_task : in_house (codes "coforall i in r do A[i] = 1;") ≡ told 2 20 NotInCoforall
unfolding by_text
element_in_a_task = refl

cell_set_in_a_task : in_house (codes "coforall i in r do c = 1;") ≡ told 2 20 NotInCoforall
unfolding by_text
cell_set_in_a_task = refl

range_set_in_a_task : in_house (codes "coforall i in r do z = 1..2;") ≡ told 2 20 NotInCoforall
unfolding by_text
range_set_in_a_task = refl

int_set_on_a_locale_in_a_task : in_house (codes "coforall i in r do on h do n = 1;") ≡ told 2 28 NotInCoforall
unfolding by_text
int_set_on_a_locale_in_a_task = refl

forall_in_a_task : in_house (codes "coforall i in r do forall j in D do ;") ≡ told 2 20 NotInCoforall
unfolding by_text
forall_in_a_task = refl

coforall_in_a_task : in_house (codes "coforall i in r do coforall j in r do ;") ≡ told 2 20 NotInCoforall
unfolding by_text
coforall_in_a_task = refl

reduction_in_a_task : in_house (codes "coforall i in r { const x = + reduce A; }") ≡ told 2 29 NotInCoforall
unfolding by_text
reduction_in_a_task = refl

reduction_written_to_a_cell : in_house (codes "coforall i in r do c.writeEF(+ reduce A);") ≡ told 2 30 NotInCoforall
unfolding by_text
reduction_written_to_a_cell = refl

domain_without_a_type_in_a_task : in_house (codes "coforall i in r { const x = D; }") ≡ told 2 19 NotInCoforall
unfolding by_text
domain_without_a_type_in_a_task = refl

cell_in_a_task : in_house (codes "coforall i in r { var x: sync int; }") ≡ told 2 19 NotInCoforall
unfolding by_text
cell_in_a_task = refl

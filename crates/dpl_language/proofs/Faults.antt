-- Faults: their places, their turns, and of two the one that comes first.
-- Each row is computed from the definition alone; the program stands above it.
use Rattle.std.proofs.Common.{◌≡◌, refl}
use Rattle.std.specs.Prelude.{codes, []}
use Rattle.std.specs.Int.{int_wrap}
use Rattle.std.specs.Fmt.{digits}
use Rattle.dpl_sets.specs.Members.{members}
use Rattle.dpl_sets.specs.Indices.{indices}
use Rattle.dpl_language.proofs.Says.{limits, says, writes}
use Rattle.dpl_language.proofs.FaultsSamples.{bound_before_the_least, bound_past_the_limit, bounds_before_stride, budget_before_promotion, budget_of_a_declaration, budget_of_a_for, budget_of_a_forall, budget_of_a_reduction, budget_of_an_assignment, budget_that_is_enough, created_past_the_limit, divided_scalar, domain_of_one_too_many, domain_past_the_limit, element_in_no_turn, expanded_past_a_bound, expanded_past_the_limit, fault_of_the_loop_itself, first_turn_of_two, indices_before_access, initial_in_its_turn, large_before_its_value, outside_before_zero, outside_in_brackets, outside_read, ranges_of_a_type, reduction_in_its_turn, remainder_by_zero, right_side_before_access, right_side_before_indices, fault_behind_output, index_outside, array_too_large, negative_count, first_of_none, neighbour_outside, first_turn_to_fail, scalar_in_no_turn, stopped_within_a_line, stride_evaluated_before_bounds, stride_of_zero, stride_past_the_limit, too_large_again, too_large_from_inside, too_large_inside, value_before_budget, whole_divided_in_its_turn, whole_in_its_turn}

-- const D = {1..8}; var A: [D] int; forall i in D do A[i] = A[i-1];
neighbour_outside_writes : writes neighbour_outside ≡ codes "! F1 at 1:59 in turn 1\n"
unfolding int_wrap digits members indices
neighbour_outside_writes = refl

-- const D = {1..8} dmapped new blockDist(boundingBox={1..8});
-- var A: [D] int;
-- forall i in D do
--   A[i] = 12 / ((i-3)*(i-7));
first_turn_to_fail_writes : says first_turn_to_fail [] (limits 16777216 3) [] ≡ codes "! F2 at 4:13 in turn 3\n"
unfolding int_wrap digits members indices
first_turn_to_fail_writes = refl

-- write(5); writeln(1/0);
fault_behind_output_writes : writes fault_behind_output ≡ codes "5\n! F2 at 1:20\n"
unfolding int_wrap digits members indices
fault_behind_output_writes = refl

-- var A: [1..3] int; forall i in 1..4 do A[i] = i;
index_outside_writes : writes index_outside ≡ codes "! F1 at 1:40 in turn 4\n"
unfolding int_wrap digits members indices
index_outside_writes = refl

-- var A: [1..16777217] int;
array_too_large_writes : writes array_too_large ≡ codes "! F8 at 1:5\n"
unfolding int_wrap digits members indices
array_too_large_writes = refl

-- const r = 1..#-1;
negative_count_writes : writes negative_count ≡ codes "! F3 at 1:12\n"
unfolding int_wrap digits members indices
negative_count_writes = refl

-- const r = 5..4; writeln(r.first);
first_of_none_writes : writes first_of_none ≡ codes "! F4 at 1:27\n"
unfolding int_wrap digits members indices
first_of_none_writes = refl

-- var s: int; forall i in 1..4 with (+ reduce s) do s += 6 / (i - 3);
divided_scalar_writes : writes divided_scalar ≡ codes "! F2 at 1:58 in turn 3\n"
unfolding int_wrap digits members indices
divided_scalar_writes = refl

-- const D: domain(2) dmapped new blockCycDist(startIdx=(0,0), blocksize=(2,2)) = {0..3, 0..3};
-- var A: [D] int;
-- forall (i,j) in D do A[i,j] = 1 / ((10*i+j-10) * (10*i+j-3));
first_turn_of_two_writes : writes first_turn_of_two ≡ codes "! F2 at 3:33 in turn 0,3\n"
unfolding int_wrap digits members indices
first_turn_of_two_writes = refl

-- forall i in 1/0..2 do ;
fault_of_the_loop_itself_writes : writes fault_of_the_loop_itself ≡ codes "! F2 at 1:14\n"
unfolding int_wrap digits members indices
fault_of_the_loop_itself_writes = refl

-- const r = 0..1152921504606846977;
bound_past_the_limit_writes : writes bound_past_the_limit ≡ codes "! F3 at 1:12\n"
unfolding int_wrap digits members indices
bound_past_the_limit_writes = refl

-- for i in -1152921504606846976..<-1152921504606846976 do ;
bound_before_the_least_writes : writes bound_before_the_least ≡ codes "! F3 at 1:30\n"
unfolding int_wrap digits members indices
bound_before_the_least_writes = refl

-- var s: int; forall i in 1..8 by 0 with (+ reduce s) do s += 1;
stride_of_zero_writes : writes stride_of_zero ≡ codes "! F3 at 1:30\n"
unfolding int_wrap digits members indices
stride_of_zero_writes = refl

-- for i in 1..2 by 1152921504606846977 do ;
stride_past_the_limit_writes : writes stride_past_the_limit ≡ codes "! F3 at 1:15\n"
unfolding int_wrap digits members indices
stride_past_the_limit_writes = refl

-- for i in 1..1152921504606846977 by 0 do ;
bounds_before_stride_writes : writes bounds_before_stride ≡ codes "! F3 at 1:11\n"
unfolding int_wrap digits members indices
bounds_before_stride_writes = refl

-- for i in 1..1152921504606846977 by 1/0 do ;
stride_evaluated_before_bounds_writes :
    writes stride_evaluated_before_bounds
    ≡ codes "! F2 at 1:37\n"
unfolding int_wrap digits members indices
stride_evaluated_before_bounds_writes = refl

-- const D = {1..1048576, 1..1048577};
domain_past_the_limit_writes : writes domain_past_the_limit ≡ codes "! F3 at 1:11\n"
unfolding int_wrap digits members indices
domain_past_the_limit_writes = refl

-- const D = cyclicDist.createDomain(1..1048576, 1..1048577);
created_past_the_limit_writes : writes created_past_the_limit ≡ codes "! F3 at 1:34\n"
unfolding int_wrap digits members indices
created_past_the_limit_writes = refl

-- const D = {1..257, 1..4278255361};
domain_of_one_too_many_writes : writes domain_of_one_too_many ≡ codes "! F3 at 1:11\n"
unfolding int_wrap digits members indices
domain_of_one_too_many_writes = refl

-- var A: [1..1048576, 1..1048577] int;
ranges_of_a_type_writes : writes ranges_of_a_type ≡ codes "! F3 at 1:8\n"
unfolding int_wrap digits members indices
ranges_of_a_type_writes = refl

-- const D = {1..3}; if D.expand(1152921504606846976).size > 0 then ;
expanded_past_the_limit_writes : writes expanded_past_the_limit ≡ codes "! F3 at 1:24\n"
unfolding int_wrap digits members indices
expanded_past_the_limit_writes = refl

-- if {1152921504606846976..1152921504606846976}.expand(1).size > 0 then ;
expanded_past_a_bound_writes : writes expanded_past_a_bound ≡ codes "! F3 at 1:47\n"
unfolding int_wrap digits members indices
expanded_past_a_bound_writes = refl

-- var A: [1..16777217] int = 1/0;
large_before_its_value_writes : writes large_before_its_value ≡ codes "! F8 at 1:5\n"
unfolding int_wrap digits members indices
large_before_its_value_writes = refl

-- var D = {1..3}; var A: [D] int; D = {1..16777217};
too_large_again_writes : writes too_large_again ≡ codes "! F8 at 1:33\n"
unfolding int_wrap digits members indices
too_large_again_writes = refl

-- var D = {1..2}; { var A: [D] int; D = {1..16777217}; }
too_large_inside_writes : writes too_large_inside ≡ codes "! F8 at 1:35\n"
unfolding int_wrap digits members indices
too_large_inside_writes = refl

-- var D = {1..2}; var A: [D] int; { D = {1..16777217}; }
too_large_from_inside_writes : writes too_large_from_inside ≡ codes "! F8 at 1:35\n"
unfolding int_wrap digits members indices
too_large_from_inside_writes = refl

-- var A: [1..4] int = 1/0;
value_before_budget_writes : says value_before_budget [] (limits 3 1) [] ≡ codes "! F2 at 1:22\n"
unfolding int_wrap digits members indices
value_before_budget_writes = refl

-- var A: [1..4] int = 1;
budget_of_a_declaration_writes :
    says budget_of_a_declaration [] (limits 3 1) []
    ≡ codes "! F5 at 1:19\n"
unfolding int_wrap digits members indices
budget_of_a_declaration_writes = refl

-- var A: [1..4] int; A = 1;
budget_of_an_assignment_writes :
    says budget_of_an_assignment [] (limits 3 1) []
    ≡ codes "! F5 at 1:22\n"
unfolding int_wrap digits members indices
budget_of_an_assignment_writes = refl

-- var A: [1..4] int; A = 1 / A;
budget_before_promotion_writes :
    says budget_before_promotion [] (limits 3 1) []
    ≡ codes "! F5 at 1:22\n"
unfolding int_wrap digits members indices
budget_before_promotion_writes = refl

-- var A: [1..4] int; writeln(+ reduce A);
budget_of_a_reduction_writes :
    says budget_of_a_reduction [] (limits 3 1) []
    ≡ codes "! F5 at 1:30\n"
unfolding int_wrap digits members indices
budget_of_a_reduction_writes = refl

-- for i in 1..4 do write(i);
budget_of_a_for_writes : says budget_of_a_for [] (limits 3 1) [] ≡ codes "! F5 at 1:1\n"
unfolding int_wrap digits members indices
budget_of_a_for_writes = refl

-- forall i in {1..2, 1..2} do ;
budget_of_a_forall_writes : says budget_of_a_forall [] (limits 3 1) [] ≡ codes "! F5 at 1:1\n"
unfolding int_wrap digits members indices
budget_of_a_forall_writes = refl

-- for i in 1..3 do write(i);
budget_that_is_enough_writes : says budget_that_is_enough [] (limits 3 1) [] ≡ codes "123"
unfolding int_wrap digits members indices
budget_that_is_enough_writes = refl

-- var A: [1..3] int; A = 5 / A;
whole_in_its_turn_writes : writes whole_in_its_turn ≡ codes "! F2 at 1:26 in turn 1\n"
unfolding int_wrap digits members indices
whole_in_its_turn_writes = refl

-- var D = {1..3}; var A: [D] int = 1; A[2] = 0; var B: [D] int = 6 / A;
initial_in_its_turn_writes : writes initial_in_its_turn ≡ codes "! F2 at 1:66 in turn 2\n"
unfolding int_wrap digits members indices
initial_in_its_turn_writes = refl

-- var A: [3..4] int; A /= 0;
whole_divided_in_its_turn_writes :
    writes whole_divided_in_its_turn
    ≡ codes "! F2 at 1:22 in turn 3\n"
unfolding int_wrap digits members indices
whole_divided_in_its_turn_writes = refl

-- var A: [1..2] int; A = A[3];
element_in_no_turn_writes : writes element_in_no_turn ≡ codes "! F1 at 1:24\n"
unfolding int_wrap digits members indices
element_in_no_turn_writes = refl

-- var i: int = 1; i %= 0;
remainder_by_zero_writes : writes remainder_by_zero ≡ codes "! F2 at 1:19\n"
unfolding int_wrap digits members indices
remainder_by_zero_writes = refl

-- var A: [1..2] int; A = 1 / 0;
scalar_in_no_turn_writes : writes scalar_in_no_turn ≡ codes "! F2 at 1:26\n"
unfolding int_wrap digits members indices
scalar_in_no_turn_writes = refl

-- var A: [2..3] int; writeln(+ reduce (1 / A));
reduction_in_its_turn_writes : writes reduction_in_its_turn ≡ codes "! F2 at 1:40 in turn 2\n"
unfolding int_wrap digits members indices
reduction_in_its_turn_writes = refl

-- var A: [1..2] int; A[1/0] = 1 % 0;
right_side_before_indices_writes : writes right_side_before_indices ≡ codes "! F2 at 1:31\n"
unfolding int_wrap digits members indices
right_side_before_indices_writes = refl

-- var A: [1..2] int; A[3] = 1 / 0;
right_side_before_access_writes : writes right_side_before_access ≡ codes "! F2 at 1:29\n"
unfolding int_wrap digits members indices
right_side_before_access_writes = refl

-- var A: [1..2, 1..2] int; A[3, 1 / 0] = 1;
indices_before_access_writes : writes indices_before_access ≡ codes "! F2 at 1:33\n"
unfolding int_wrap digits members indices
indices_before_access_writes = refl

-- var A: [1..2] int; A[3] /= 0;
outside_before_zero_writes : writes outside_before_zero ≡ codes "! F1 at 1:20\n"
unfolding int_wrap digits members indices
outside_before_zero_writes = refl

-- var A: [1..2] int; writeln((A)[3]);
outside_in_brackets_writes : writes outside_in_brackets ≡ codes "! F1 at 1:29\n"
unfolding int_wrap digits members indices
outside_in_brackets_writes = refl

-- var A: [1..2] int; writeln(A(3));
outside_read_writes : writes outside_read ≡ codes "! F1 at 1:28\n"
unfolding int_wrap digits members indices
outside_read_writes = refl

-- writeln(1); write(2); write(1 % 0);
stopped_within_a_line_writes : writes stopped_within_a_line ≡ codes "1\n2\n! F2 at 1:31\n"
unfolding int_wrap digits members indices
stopped_within_a_line_writes = refl

-- The programs whose meaning is worked out beside the language's definitions are sound, but for one.
-- Each is a tree of dpl_language, behind its text there.
use Rattle.std.proofs.Common.{◌≡◌, [], refl}
use Rattle.dpl_language.proofs.ScalarsSamples.{sum_of_squares, max_over_nothing, falling_range, slice_of_a_falling_range, wrapping, while_past_the_budget}
use Rattle.dpl_language.proofs.ScalarsSamples.{configured, given_before_its_value, signs_of_division, negated_least, truths, equal_ends}
use Rattle.dpl_language.proofs.ScalarsSamples.{given_at_the_top_alone, equal_truths, looks_where_needed, three_intents, truth_intent, two_intents}
use Rattle.dpl_language.proofs.ScalarsSamples.{product_of_twenty, whiles, other_operators, hidden_names, ends_of_ranges, ends_of_a_slice}
use Rattle.dpl_language.proofs.ScalarsSamples.{falling_ends, memberships, expansions, expanded_slices, bounds_of_an_empty_slice, low_end_of_a_slice}
use Rattle.dpl_language.proofs.ScalarsSamples.{dimensions, created, no_fault_of_a_map, strided_pairs, greatest_range, greatest_domain}
use Rattle.dpl_language.proofs.ScalarsSamples.{a_use}
use Rattle.dpl_language.proofs.ArraysSamples.{max_of_no_elements, squares_in_blocks, plate_of_neighbours, domain_assigned, three_planes, units}
use Rattle.dpl_language.proofs.ArraysSamples.{units_of_truths, empty_square, falling_array, tuples, truths_of_an_array, promoted}
use Rattle.dpl_language.proofs.ArraysSamples.{promoted_difference, promoted_minus, element_as_right_side, hidden_array, element_among_wholes, name_in_brackets}
use Rattle.dpl_language.proofs.ArraysSamples.{shifted, mirrored, two_roots, hidden_domain, changed_domain, inner_array}
use Rattle.dpl_language.proofs.ArraysSamples.{not_over_the_name, empty_at_first, no_array_left, divided_empty}
use Rattle.dpl_language.proofs.FaultsSamples.{neighbour_outside, first_turn_to_fail, fault_behind_output, index_outside, array_too_large, negative_count}
use Rattle.dpl_language.proofs.FaultsSamples.{first_of_none, divided_scalar, first_turn_of_two, fault_of_the_loop_itself, bound_past_the_limit, bound_before_the_least}
use Rattle.dpl_language.proofs.FaultsSamples.{stride_of_zero, stride_past_the_limit, bounds_before_stride, stride_evaluated_before_bounds, domain_past_the_limit, created_past_the_limit}
use Rattle.dpl_language.proofs.FaultsSamples.{domain_of_one_too_many, ranges_of_a_type, expanded_past_the_limit, expanded_past_a_bound, large_before_its_value, too_large_again}
use Rattle.dpl_language.proofs.FaultsSamples.{too_large_inside, too_large_from_inside, value_before_budget, budget_of_a_declaration, budget_of_an_assignment, budget_before_promotion}
use Rattle.dpl_language.proofs.FaultsSamples.{budget_of_a_reduction, budget_of_a_for, budget_of_a_forall, budget_that_is_enough, whole_in_its_turn, initial_in_its_turn}
use Rattle.dpl_language.proofs.FaultsSamples.{whole_divided_in_its_turn, element_in_no_turn, remainder_by_zero, scalar_in_no_turn, reduction_in_its_turn, right_side_before_indices}
use Rattle.dpl_language.proofs.FaultsSamples.{right_side_before_access, indices_before_access, outside_before_zero, outside_in_brackets, outside_read, stopped_within_a_line}
use Rattle.dpl_language.proofs.TasksSamples.{three_values_sent, cell_read_while_empty, task_that_waits, each_locale, locale_outside, below_the_locales}
use Rattle.dpl_language.proofs.TasksSamples.{here_again, operations, full_already, truth_cell, read_before_the_fault, false_in_a_cell}
use Rattle.dpl_language.proofs.TasksSamples.{no_reply_left, no_tasks, too_many_tasks, as_many_tasks_as_may_be, no_budget_of_tasks, two_coforalls}
use Rattle.dpl_language.proofs.TasksSamples.{hidden_cell, locale_tasks, fault_in_a_task, each_waits}
use Rattle.dpl_syntax.specs.declared.refusal.Code.TheVariants.{ReadElsewhere}
use Rattle.dpl_rules.specs.Breaches.{breaches, first_breach}
use Rattle.dpl_rules.proofs.House.{told}

-- ---- Scalars
sum_of_squares_sound : breaches sum_of_squares ≡ []
sum_of_squares_sound = refl

max_over_nothing_sound : breaches max_over_nothing ≡ []
max_over_nothing_sound = refl

falling_range_sound : breaches falling_range ≡ []
falling_range_sound = refl

slice_of_a_falling_range_sound : breaches slice_of_a_falling_range ≡ []
slice_of_a_falling_range_sound = refl

wrapping_sound : breaches wrapping ≡ []
wrapping_sound = refl

while_past_the_budget_sound : breaches while_past_the_budget ≡ []
while_past_the_budget_sound = refl

configured_sound : breaches configured ≡ []
configured_sound = refl

given_before_its_value_sound : breaches given_before_its_value ≡ []
given_before_its_value_sound = refl

signs_of_division_sound : breaches signs_of_division ≡ []
signs_of_division_sound = refl

negated_least_sound : breaches negated_least ≡ []
negated_least_sound = refl

truths_sound : breaches truths ≡ []
truths_sound = refl

equal_ends_sound : breaches equal_ends ≡ []
equal_ends_sound = refl

given_at_the_top_alone_sound : breaches given_at_the_top_alone ≡ []
given_at_the_top_alone_sound = refl

equal_truths_sound : breaches equal_truths ≡ []
equal_truths_sound = refl

looks_where_needed_sound : breaches looks_where_needed ≡ []
looks_where_needed_sound = refl

three_intents_sound : breaches three_intents ≡ []
three_intents_sound = refl

truth_intent_sound : breaches truth_intent ≡ []
truth_intent_sound = refl

two_intents_sound : breaches two_intents ≡ []
two_intents_sound = refl

product_of_twenty_sound : breaches product_of_twenty ≡ []
product_of_twenty_sound = refl

whiles_sound : breaches whiles ≡ []
whiles_sound = refl

other_operators_sound : breaches other_operators ≡ []
other_operators_sound = refl

hidden_names_sound : breaches hidden_names ≡ []
hidden_names_sound = refl

ends_of_ranges_sound : breaches ends_of_ranges ≡ []
ends_of_ranges_sound = refl

ends_of_a_slice_sound : breaches ends_of_a_slice ≡ []
ends_of_a_slice_sound = refl

falling_ends_sound : breaches falling_ends ≡ []
falling_ends_sound = refl

memberships_sound : breaches memberships ≡ []
memberships_sound = refl

expansions_sound : breaches expansions ≡ []
expansions_sound = refl

expanded_slices_sound : breaches expanded_slices ≡ []
expanded_slices_sound = refl

bounds_of_an_empty_slice_sound : breaches bounds_of_an_empty_slice ≡ []
bounds_of_an_empty_slice_sound = refl

low_end_of_a_slice_sound : breaches low_end_of_a_slice ≡ []
low_end_of_a_slice_sound = refl

dimensions_sound : breaches dimensions ≡ []
dimensions_sound = refl

created_sound : breaches created ≡ []
created_sound = refl

no_fault_of_a_map_sound : breaches no_fault_of_a_map ≡ []
no_fault_of_a_map_sound = refl

strided_pairs_sound : breaches strided_pairs ≡ []
strided_pairs_sound = refl

greatest_range_sound : breaches greatest_range ≡ []
greatest_range_sound = refl

greatest_domain_sound : breaches greatest_domain ≡ []
greatest_domain_sound = refl

a_use_sound : breaches a_use ≡ []
a_use_sound = refl

-- ---- Arrays
max_of_no_elements_sound : breaches max_of_no_elements ≡ []
max_of_no_elements_sound = refl

squares_in_blocks_sound : breaches squares_in_blocks ≡ []
squares_in_blocks_sound = refl

plate_of_neighbours_sound : breaches plate_of_neighbours ≡ []
plate_of_neighbours_sound = refl

domain_assigned_sound : breaches domain_assigned ≡ []
domain_assigned_sound = refl

three_planes_sound : breaches three_planes ≡ []
three_planes_sound = refl

units_sound : breaches units ≡ []
units_sound = refl

units_of_truths_sound : breaches units_of_truths ≡ []
units_of_truths_sound = refl

empty_square_sound : breaches empty_square ≡ []
empty_square_sound = refl

falling_array_sound : breaches falling_array ≡ []
falling_array_sound = refl

tuples_sound : breaches tuples ≡ []
tuples_sound = refl

truths_of_an_array_sound : breaches truths_of_an_array ≡ []
truths_of_an_array_sound = refl

promoted_sound : breaches promoted ≡ []
promoted_sound = refl

promoted_difference_sound : breaches promoted_difference ≡ []
promoted_difference_sound = refl

promoted_minus_sound : breaches promoted_minus ≡ []
promoted_minus_sound = refl

element_as_right_side_sound : breaches element_as_right_side ≡ []
element_as_right_side_sound = refl

hidden_array_sound : breaches hidden_array ≡ []
hidden_array_sound = refl

element_among_wholes_sound : breaches element_among_wholes ≡ []
element_among_wholes_sound = refl

name_in_brackets_sound : breaches name_in_brackets ≡ []
name_in_brackets_sound = refl

shifted_sound : breaches shifted ≡ []
shifted_sound = refl

mirrored_sound : breaches mirrored ≡ []
mirrored_sound = refl

two_roots_sound : breaches two_roots ≡ []
two_roots_sound = refl

hidden_domain_sound : breaches hidden_domain ≡ []
hidden_domain_sound = refl

changed_domain_sound : breaches changed_domain ≡ []
changed_domain_sound = refl

inner_array_sound : breaches inner_array ≡ []
inner_array_sound = refl

not_over_the_name_sound : breaches not_over_the_name ≡ []
not_over_the_name_sound = refl

empty_at_first_sound : breaches empty_at_first ≡ []
empty_at_first_sound = refl

no_array_left_sound : breaches no_array_left ≡ []
no_array_left_sound = refl

divided_empty_sound : breaches divided_empty ≡ []
divided_empty_sound = refl

-- ---- Faults
-- the one that isn't: it reads a neighbour of an element that it writes
neighbour_outside_refused : first_breach neighbour_outside ≡ told 1 59 ReadElsewhere
neighbour_outside_refused = refl

first_turn_to_fail_sound : breaches first_turn_to_fail ≡ []
first_turn_to_fail_sound = refl

fault_behind_output_sound : breaches fault_behind_output ≡ []
fault_behind_output_sound = refl

index_outside_sound : breaches index_outside ≡ []
index_outside_sound = refl

array_too_large_sound : breaches array_too_large ≡ []
array_too_large_sound = refl

negative_count_sound : breaches negative_count ≡ []
negative_count_sound = refl

first_of_none_sound : breaches first_of_none ≡ []
first_of_none_sound = refl

divided_scalar_sound : breaches divided_scalar ≡ []
divided_scalar_sound = refl

first_turn_of_two_sound : breaches first_turn_of_two ≡ []
first_turn_of_two_sound = refl

fault_of_the_loop_itself_sound : breaches fault_of_the_loop_itself ≡ []
fault_of_the_loop_itself_sound = refl

bound_past_the_limit_sound : breaches bound_past_the_limit ≡ []
bound_past_the_limit_sound = refl

bound_before_the_least_sound : breaches bound_before_the_least ≡ []
bound_before_the_least_sound = refl

stride_of_zero_sound : breaches stride_of_zero ≡ []
stride_of_zero_sound = refl

stride_past_the_limit_sound : breaches stride_past_the_limit ≡ []
stride_past_the_limit_sound = refl

bounds_before_stride_sound : breaches bounds_before_stride ≡ []
bounds_before_stride_sound = refl

stride_evaluated_before_bounds_sound : breaches stride_evaluated_before_bounds ≡ []
stride_evaluated_before_bounds_sound = refl

domain_past_the_limit_sound : breaches domain_past_the_limit ≡ []
domain_past_the_limit_sound = refl

created_past_the_limit_sound : breaches created_past_the_limit ≡ []
created_past_the_limit_sound = refl

domain_of_one_too_many_sound : breaches domain_of_one_too_many ≡ []
domain_of_one_too_many_sound = refl

ranges_of_a_type_sound : breaches ranges_of_a_type ≡ []
ranges_of_a_type_sound = refl

expanded_past_the_limit_sound : breaches expanded_past_the_limit ≡ []
expanded_past_the_limit_sound = refl

expanded_past_a_bound_sound : breaches expanded_past_a_bound ≡ []
expanded_past_a_bound_sound = refl

large_before_its_value_sound : breaches large_before_its_value ≡ []
large_before_its_value_sound = refl

too_large_again_sound : breaches too_large_again ≡ []
too_large_again_sound = refl

too_large_inside_sound : breaches too_large_inside ≡ []
too_large_inside_sound = refl

too_large_from_inside_sound : breaches too_large_from_inside ≡ []
too_large_from_inside_sound = refl

value_before_budget_sound : breaches value_before_budget ≡ []
value_before_budget_sound = refl

budget_of_a_declaration_sound : breaches budget_of_a_declaration ≡ []
budget_of_a_declaration_sound = refl

budget_of_an_assignment_sound : breaches budget_of_an_assignment ≡ []
budget_of_an_assignment_sound = refl

budget_before_promotion_sound : breaches budget_before_promotion ≡ []
budget_before_promotion_sound = refl

budget_of_a_reduction_sound : breaches budget_of_a_reduction ≡ []
budget_of_a_reduction_sound = refl

budget_of_a_for_sound : breaches budget_of_a_for ≡ []
budget_of_a_for_sound = refl

budget_of_a_forall_sound : breaches budget_of_a_forall ≡ []
budget_of_a_forall_sound = refl

budget_that_is_enough_sound : breaches budget_that_is_enough ≡ []
budget_that_is_enough_sound = refl

whole_in_its_turn_sound : breaches whole_in_its_turn ≡ []
whole_in_its_turn_sound = refl

initial_in_its_turn_sound : breaches initial_in_its_turn ≡ []
initial_in_its_turn_sound = refl

whole_divided_in_its_turn_sound : breaches whole_divided_in_its_turn ≡ []
whole_divided_in_its_turn_sound = refl

element_in_no_turn_sound : breaches element_in_no_turn ≡ []
element_in_no_turn_sound = refl

remainder_by_zero_sound : breaches remainder_by_zero ≡ []
remainder_by_zero_sound = refl

scalar_in_no_turn_sound : breaches scalar_in_no_turn ≡ []
scalar_in_no_turn_sound = refl

reduction_in_its_turn_sound : breaches reduction_in_its_turn ≡ []
reduction_in_its_turn_sound = refl

right_side_before_indices_sound : breaches right_side_before_indices ≡ []
right_side_before_indices_sound = refl

right_side_before_access_sound : breaches right_side_before_access ≡ []
right_side_before_access_sound = refl

indices_before_access_sound : breaches indices_before_access ≡ []
indices_before_access_sound = refl

outside_before_zero_sound : breaches outside_before_zero ≡ []
outside_before_zero_sound = refl

outside_in_brackets_sound : breaches outside_in_brackets ≡ []
outside_in_brackets_sound = refl

outside_read_sound : breaches outside_read ≡ []
outside_read_sound = refl

stopped_within_a_line_sound : breaches stopped_within_a_line ≡ []
stopped_within_a_line_sound = refl

-- ---- Tasks
three_values_sent_sound : breaches three_values_sent ≡ []
three_values_sent_sound = refl

cell_read_while_empty_sound : breaches cell_read_while_empty ≡ []
cell_read_while_empty_sound = refl

task_that_waits_sound : breaches task_that_waits ≡ []
task_that_waits_sound = refl

each_locale_sound : breaches each_locale ≡ []
each_locale_sound = refl

locale_outside_sound : breaches locale_outside ≡ []
locale_outside_sound = refl

below_the_locales_sound : breaches below_the_locales ≡ []
below_the_locales_sound = refl

here_again_sound : breaches here_again ≡ []
here_again_sound = refl

operations_sound : breaches operations ≡ []
operations_sound = refl

full_already_sound : breaches full_already ≡ []
full_already_sound = refl

truth_cell_sound : breaches truth_cell ≡ []
truth_cell_sound = refl

read_before_the_fault_sound : breaches read_before_the_fault ≡ []
read_before_the_fault_sound = refl

false_in_a_cell_sound : breaches false_in_a_cell ≡ []
false_in_a_cell_sound = refl

no_reply_left_sound : breaches no_reply_left ≡ []
no_reply_left_sound = refl

no_tasks_sound : breaches no_tasks ≡ []
no_tasks_sound = refl

too_many_tasks_sound : breaches too_many_tasks ≡ []
too_many_tasks_sound = refl

as_many_tasks_as_may_be_sound : breaches as_many_tasks_as_may_be ≡ []
as_many_tasks_as_may_be_sound = refl

no_budget_of_tasks_sound : breaches no_budget_of_tasks ≡ []
no_budget_of_tasks_sound = refl

two_coforalls_sound : breaches two_coforalls ≡ []
two_coforalls_sound = refl

hidden_cell_sound : breaches hidden_cell ≡ []
hidden_cell_sound = refl

locale_tasks_sound : breaches locale_tasks ≡ []
locale_tasks_sound = refl

fault_in_a_task_sound : breaches fault_in_a_task ≡ []
fault_in_a_task_sound = refl

each_waits_sound : breaches each_waits ≡ []
each_waits_sound = refl

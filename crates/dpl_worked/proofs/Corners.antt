-- What statements and expressions write, and which fault comes first and where: corners of loops, scopes, ranges, domains and arrays.
-- Each row is computed from the text's bytes on.
use Rattle.std.proofs.Common.{◌≡◌, Some, refl}
use Rattle.std.specs.Prelude.{codes}
use Rattle.std.specs.Int.{int_wrap}
use Rattle.std.specs.Fmt.{digits}
use Rattle.dpl_sets.specs.Members.{members}
use Rattle.dpl_sets.specs.Indices.{indices}
use Rattle.dpl_worked.proofs.Runs.{writes}
use Rattle.dpl_worked.proofs.Texts.{by_text}

-- ---- which faults name a turn
-- a turn of a `for` has no name
fault_in_a_for : writes (codes "for i in 1..3 do write(6 / (2 - i));") ≡ Some (codes "6\n! F2 at 1:26\n")
unfolding by_text int_wrap digits members indices
fault_in_a_for = refl

fault_in_a_for_of_a_turn : writes (codes "var A: [1..2] int; forall i in 1..2 do for j in 0..1 do A[i] = 6 / (2 - i - j);") ≡ Some (codes "! F2 at 1:66 in turn 1\n")
unfolding by_text int_wrap digits members indices
fault_in_a_for_of_a_turn = refl

fault_of_a_pair : writes (codes "var A: [2..3, 1..2] int; A[2, 1] = 1; A = A / A;") ≡ Some (codes "! F2 at 1:45 in turn 2,2\n")
unfolding by_text int_wrap digits members indices
fault_of_a_pair = refl

turn_below_zero : writes (codes "var A: [-1..0, -2..-2] int; A /= 0;") ≡ Some (codes "! F2 at 1:31 in turn -1,-2\n")
unfolding by_text int_wrap digits members indices
turn_below_zero = refl

-- of a promoted right side all is evaluated in each turn
fault_in_a_promoted_scalar : writes (codes "var A: [2..3] int; A = A + 1 / 0;") ≡ Some (codes "! F2 at 1:30 in turn 2\n")
unfolding by_text int_wrap digits members indices
fault_in_a_promoted_scalar = refl

no_turn_no_fault : writes (codes "var A: [1..0] int; A = A + 1 / 0; writeln(1);") ≡ Some (codes "1\n")
unfolding by_text int_wrap digits members indices
no_turn_no_fault = refl

nothing_is_printed_before_a_fault : writes (codes "write(1); write(2, 1 / 0);") ≡ Some (codes "1\n! F2 at 1:22\n")
unfolding by_text int_wrap digits members indices
nothing_is_printed_before_a_fault = refl

-- ---- from left to right: of two faults the one that is met first
operands : writes (codes "writeln(1 / 0 + 1 % 0);") ≡ Some (codes "! F2 at 1:11\n")
unfolding by_text int_wrap digits members indices
operands = refl

ends_of_a_range : writes (codes "for i in 1 / 0..2 % 0 do ;") ≡ Some (codes "! F2 at 1:12\n")
unfolding by_text int_wrap digits members indices
ends_of_a_range = refl

end_before_stride : writes (codes "for i in 1..2 % 0 by 1 / 0 do ;") ≡ Some (codes "! F2 at 1:15\n")
unfolding by_text int_wrap digits members indices
end_before_stride = refl

indices_of_an_access : writes (codes "var A: [1..2, 1..2] int; writeln(A[1 / 0, 1 % 0]);") ≡ Some (codes "! F2 at 1:38\n")
unfolding by_text int_wrap digits members indices
indices_of_an_access = refl

indices_of_a_target : writes (codes "var A: [1..2, 1..2] int; A[1 / 0, 1 % 0] = 1;") ≡ Some (codes "! F2 at 1:30\n")
unfolding by_text int_wrap digits members indices
indices_of_a_target = refl

coordinates_asked : writes (codes "writeln({1..2, 1..2}.contains(1 / 0, 1 % 0));") ≡ Some (codes "! F2 at 1:33\n")
unfolding by_text int_wrap digits members indices
coordinates_asked = refl

arguments : writes (codes "writeln(1 / 0, 1 % 0);") ≡ Some (codes "! F2 at 1:11\n")
unfolding by_text int_wrap digits members indices
arguments = refl

a_range_is_tested_before_the_next : writes (codes "const D = {1..1152921504606846977, 1 / 0..2};") ≡ Some (codes "! F3 at 1:13\n")
unfolding by_text int_wrap digits members indices
a_range_is_tested_before_the_next = refl

ranges_before_the_size : writes (codes "const D = {1..1099511627777, 1 / 0..2};") ≡ Some (codes "! F2 at 1:32\n")
unfolding by_text int_wrap digits members indices
ranges_before_the_size = refl

-- ---- scopes
each_turn_declares_anew : writes (codes "for i in 1..2 { var x: int; x += i; write(x); }") ≡ Some (codes "12")
unfolding by_text int_wrap digits members indices
each_turn_declares_anew = refl

a_body_hides_its_variable : writes (codes "for i in 1..2 { var i = 7; write(i); }") ≡ Some (codes "77")
unfolding by_text int_wrap digits members indices
a_body_hides_its_variable = refl

a_loop_is_over_what_is_outside : writes (codes "var i = 3; for i in i..4 do write(i); writeln(i);") ≡ Some (codes "343\n")
unfolding by_text int_wrap digits members indices
a_loop_is_over_what_is_outside = refl

evaluated_once : writes (codes "var n = 2; for i in 1..n { n += 1; } writeln(n);") ≡ Some (codes "4\n")
unfolding by_text int_wrap digits members indices
evaluated_once = refl

known_from_its_end : writes (codes "var x = 1; { var x = x + 1; write(x); } writeln(x);") ≡ Some (codes "21\n")
unfolding by_text int_wrap digits members indices
known_from_its_end = refl

parts_of_an_if_are_scopes : writes (codes "var x = 5; if true then var x = 1; else var x = 2; if false then ; else var x = 3; writeln(x);") ≡ Some (codes "5\n")
unfolding by_text int_wrap digits members indices
parts_of_an_if_are_scopes = refl

a_while_has_a_scope : writes (codes "var x = 5; var i = 0; while i < 1 { var x = 7; i += x; } writeln(x, i);") ≡ Some (codes "57\n")
unfolding by_text int_wrap digits members indices
a_while_has_a_scope = refl

so_has_the_body_of_an_on : writes (codes "var x = 1; on here { var x = 2; write(x); } writeln(x);") ≡ Some (codes "21\n")
unfolding by_text int_wrap digits members indices
so_has_the_body_of_an_on = refl

the_innermost_is_assigned : writes (codes "var x = 1; var A: [1..1] int; { var x = 2; var A: [1..1] int; x = 3; A[1] = 4; write(x, A); } writeln(x, A);") ≡ Some (codes "3410\n")
unfolding by_text int_wrap digits members indices
the_innermost_is_assigned = refl

the_innermost_cell : writes (codes "var c: sync int = 1; { var c: sync int; c.writeEF(2); write(c.readFE()); } writeln(c.readFE());") ≡ Some (codes "21\n")
unfolding by_text int_wrap digits members indices
the_innermost_cell = refl

-- ---- arithmetic wraps
wrapped :
    writes (codes "writeln(4611686018427387904 * 2, \" \", -9223372036854775807 - 2, \" \", 9223372036854775807 * 9223372036854775807);")
    ≡ Some (codes "-9223372036854775808 9223372036854775807 1\n")
unfolding by_text int_wrap digits members indices
wrapped = refl

wrapped_in_a_reduction : writes (codes "var A: [1..2] int = 9223372036854775807; writeln(+ reduce A);") ≡ Some (codes "-2\n")
unfolding by_text int_wrap digits members indices
wrapped_in_a_reduction = refl

-- ---- limits of ranges and domains
low_bound_past_the_limit : writes (codes "const r = -1152921504606846977..1;") ≡ Some (codes "! F3 at 1:31\n")
unfolding by_text int_wrap digits members indices
low_bound_past_the_limit = refl

low_bound_of_a_count : writes (codes "const r = -1152921504606846977..#2;") ≡ Some (codes "! F3 at 1:31\n")
unfolding by_text int_wrap digits members indices
low_bound_of_a_count = refl

bound_behind_a_count : writes (codes "const r = 2..#1152921504606846976;") ≡ Some (codes "! F3 at 1:12\n")
unfolding by_text int_wrap digits members indices
bound_behind_a_count = refl

greatest_count : writes (codes "const r = 1..#1152921504606846976; writeln(r.size);") ≡ Some (codes "1152921504606846976\n")
unfolding by_text int_wrap digits members indices
greatest_count = refl

count_of_none : writes (codes "const r = 1..#0; writeln(r.size);") ≡ Some (codes "0\n")
unfolding by_text int_wrap digits members indices
count_of_none = refl

falling_stride_past_the_limit : writes (codes "for i in 1..2 by -1152921504606846977 do ;") ≡ Some (codes "! F3 at 1:15\n")
unfolding by_text int_wrap digits members indices
falling_stride_past_the_limit = refl

-- (2 * 524288 + 1)^2 indices, of which each bound is within its limits
expanded_to_too_many : writes (codes "const D = {1..1, 1..1}; writeln(D.expand(524288).size);") ≡ Some (codes "! F3 at 1:35\n")
unfolding by_text int_wrap digits members indices
expanded_to_too_many = refl

as_many_as_may_be :
    writes (codes "const D = {1..1048575, 1..1048576}; writeln(D.expand(0).size, \" \", {2..1048575, 2..1048575}.expand(1).size);")
    ≡ Some (codes "1099510579200 1099511627776\n")
unfolding by_text int_wrap digits members indices
as_many_as_may_be = refl

greatest_array : writes (codes "var A: [1..16777216] int; writeln(1);") ≡ Some (codes "1\n")
unfolding by_text int_wrap digits members indices
greatest_array = refl

greatest_new_domain : writes (codes "var D = {1..1, 1..1}; var A: [D] int; D = {1..4096, 1..4096}; writeln(D.size);") ≡ Some (codes "16777216\n")
unfolding by_text int_wrap digits members indices
greatest_new_domain = refl

type_before_the_array : writes (codes "var A: [1..1099511627777] int;") ≡ Some (codes "! F3 at 1:8\n")
unfolding by_text int_wrap digits members indices
type_before_the_array = refl

least_of_none : writes (codes "const r = 5..4; writeln(r.low);") ≡ Some (codes "! F4 at 1:27\n")
unfolding by_text int_wrap digits members indices
least_of_none = refl

greatest_of_none : writes (codes "const r = 5..4; writeln(r.high);") ≡ Some (codes "! F4 at 1:27\n")
unfolding by_text int_wrap digits members indices
greatest_of_none = refl

last_of_none : writes (codes "const r = (1..9)[3..2]; writeln(r.last);") ≡ Some (codes "! F4 at 1:35\n")
unfolding by_text int_wrap digits members indices
last_of_none = refl

-- ---- slices and members of domains
slice_of_a_strided_domain : writes (codes "for (i, j) in {1..10 by 4, 1..3}[2..9, 2..2] do write(i, j, \" \"); writeln();") ≡ Some (codes "52 92 \n")
unfolding by_text int_wrap digits members indices
slice_of_a_strided_domain = refl

tuple_name_asked : writes (codes "for t in {1..2, 1..2} do write({2..2, 1..1}.contains(t), \" \"); writeln();") ≡ Some (codes "false false true false \n")
unfolding by_text int_wrap digits members indices
tuple_name_asked = refl

-- an empty domain keeps its bounds
moved_pair : writes (codes "const D = {1..2, 5..6}.expand(-1); writeln(D.size, D.dim(0).size, D.expand(1).size);") ≡ Some (codes "004\n")
unfolding by_text int_wrap digits members indices
moved_pair = refl

-- ---- assigned domains
truths_in_a_new_domain : writes (codes "var D = {1..2}; var F: [D] bool = true; D = {2..3}; writeln(F);") ≡ Some (codes "true false\n")
unfolding by_text int_wrap digits members indices
truths_in_a_new_domain = refl

pairs_in_a_new_domain : writes (codes "var D = {1..2, 1..2}; var A: [D] int = 3; D = {2..3, 2..3}; writeln(A);") ≡ Some (codes "3 0\n0 0\n")
unfolding by_text int_wrap digits members indices
pairs_in_a_new_domain = refl

-- only over the bare name is an array changed with it
over_a_name_in_brackets : writes (codes "var D = {1..2}; var A: [(D)] int = 1; var B: [D[1..2]] int = 2; D = {1..3}; writeln(A, \" \", B);") ≡ Some (codes "1 1 2 2\n")
unfolding by_text int_wrap digits members indices
over_a_name_in_brackets = refl

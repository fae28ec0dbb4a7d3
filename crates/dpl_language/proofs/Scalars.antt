-- Scalars, loops, ranges and domains: what sample programs write.
-- Each row is computed from the definition alone; the program stands above it.
use Rattle.std.proofs.Common.{◌≡◌, refl}
use Rattle.std.specs.Prelude.{codes, [], ◌∷◌, pos}
use Rattle.std.specs.Int.{int_wrap}
use Rattle.std.specs.Fmt.{digits}
use Rattle.dpl_sets.specs.Members.{members}
use Rattle.dpl_sets.specs.Indices.{indices}
use Rattle.dpl_language.specs.Values.{Int}
use Rattle.dpl_language.proofs.Says.{limits, says, writes}
use Rattle.dpl_language.proofs.ScalarsSamples.{a_use, bounds_of_an_empty_slice, created, dimensions, ends_of_a_slice, ends_of_ranges, equal_ends, equal_truths, expanded_slices, expansions, falling_ends, given_at_the_top_alone, given_before_its_value, greatest_domain, greatest_range, hidden_names, looks_where_needed, low_end_of_a_slice, memberships, negated_least, no_fault_of_a_map, other_operators, product_of_twenty, sum_of_squares, wrapping, while_past_the_budget, max_over_nothing, configured, falling_range, slice_of_a_falling_range, signs_of_division, strided_pairs, three_intents, truth_intent, truths, two_intents, whiles}

-- var s: int; forall i in 1..8 by 2 with (+ reduce s) do s += i*i; writeln(s);
sum_of_squares_writes : writes sum_of_squares ≡ codes "84\n"
unfolding int_wrap digits members indices
sum_of_squares_writes = refl

-- var m: int = -7; forall i in 5..4 with (max reduce m) do m reduce= i; writeln(m);
max_over_nothing_writes : writes max_over_nothing ≡ codes "-7\n"
unfolding int_wrap digits members indices
max_over_nothing_writes = refl

-- for i in 1..10 by -3 do write(i, " "); writeln();
falling_range_writes : writes falling_range ≡ codes "10 7 4 1 \n"
unfolding int_wrap digits members indices
falling_range_writes = refl

-- const r = 1..10 by -3; for i in r[2..8] do write(i, " "); writeln(r[2..8].size);
slice_of_a_falling_range_writes : writes slice_of_a_falling_range ≡ codes "7 4 2\n"
unfolding int_wrap digits members indices
slice_of_a_falling_range_writes = refl

-- const m = 9223372036854775807 + 1; writeln(m); writeln(m / -1, " ", m % -1); writeln(-7 / 2, " ", -7 % 2, " ", 2 - -3 * 2);
wrapping_writes : writes wrapping ≡ codes "-9223372036854775808\n-9223372036854775808 0\n-3 -1 8\n"
unfolding int_wrap digits members indices
wrapping_writes = refl

-- while true do writeln(1);
while_past_the_budget_writes : says while_past_the_budget [] (limits 3 1) [] ≡ codes "1\n1\n1\n! F5 at 1:1\n"
unfolding int_wrap digits members indices
while_past_the_budget_writes = refl

-- config const n = 4; writeln(n);
configured_writes : says configured ((codes "n", Int (pos 7)) ∷ []) (limits 16777216 1) [] ≡ codes "7\n"
unfolding int_wrap digits members indices
configured_writes = refl

-- config const n = 4; writeln(n);
not_given_writes : writes configured ≡ codes "4\n"
unfolding int_wrap digits members indices
not_given_writes = refl

-- config const n = 1/0; writeln(n);
given_before_its_value_writes :
    says given_before_its_value ((codes "n", Int (pos 7)) ∷ []) (limits 16777216 1) []
    ≡ codes "7\n"
unfolding int_wrap digits members indices
given_before_its_value_writes = refl

-- writeln((-7) / 2, " ", (-7) % 2, " ", 7 / (-2), " ", 7 % (-2));
signs_of_division_writes : writes signs_of_division ≡ codes "-3 -1 -3 1\n"
unfolding int_wrap digits members indices
signs_of_division_writes = refl

-- const m = 9223372036854775807 + 1; writeln(-m);
negated_least_writes : writes negated_least ≡ codes "-9223372036854775808\n"
unfolding int_wrap digits members indices
negated_least_writes = refl

-- writeln(true == (1 < 2), " ", false != false, " ", !(2 <= 1));
truths_writes : writes truths ≡ codes "true false true\n"
unfolding int_wrap digits members indices
truths_writes = refl

-- writeln(2 <= 2, 2 >= 2, 2 < 2, 2 > 2);
equal_ends_writes : writes equal_ends ≡ codes "truetruefalsefalse\n"
unfolding int_wrap digits members indices
equal_ends_writes = refl

-- config const n = 4; { const n = 5; writeln(n); } writeln(n);
given_at_the_top_alone_writes :
    says given_at_the_top_alone ((codes "n", Int (pos 7)) ∷ []) (limits 16777216 1) []
    ≡ codes "5\n7\n"
unfolding int_wrap digits members indices
given_at_the_top_alone_writes = refl

-- writeln(true == false, " ", true != false);
equal_truths_writes : writes equal_truths ≡ codes "false true\n"
unfolding int_wrap digits members indices
equal_truths_writes = refl

-- var z: int; writeln(z != 0 && 1 / z > 0, " ", z >= 0 || 1 / z > 0);
looks_where_needed_writes : writes looks_where_needed ≡ codes "false true\n"
unfolding int_wrap digits members indices
looks_where_needed_writes = refl

-- var a: int = -4; var o: int; var x: int; forall i in 4..7 with (& reduce a, | reduce o, ^ reduce x) { a reduce= i; o reduce= i; x reduce= i; } writeln(a, " ", o, " ", x);
three_intents_writes : writes three_intents ≡ codes "4 7 0\n"
unfolding int_wrap digits members indices
three_intents_writes = refl

-- var a: bool = true; var m: int = 100; forall i in 1..6 with (&& reduce a, min reduce m) { const d = (i - 4) * (i - 4); a reduce= d < 9; m reduce= d; } writeln(a, " ", m);
truth_intent_writes : writes truth_intent ≡ codes "false 0\n"
unfolding int_wrap digits members indices
truth_intent_writes = refl

-- var s: int = 1; var t: int; forall i in 1..3 with (* reduce s, + reduce t) { s reduce= i; t += i; } writeln(s, " ", t);
two_intents_writes : writes two_intents ≡ codes "6 6\n"
unfolding int_wrap digits members indices
two_intents_writes = refl

-- var p: int = 3; const D = {1..20} dmapped new cyclicDist(startIdx=1); forall i in D with (* reduce p) do p *= 2; writeln(p);
product_of_twenty_writes : says product_of_twenty [] (limits 20 3) [] ≡ codes "3145728\n"
unfolding int_wrap digits members indices
product_of_twenty_writes = refl

-- var i: int; while i < 3 { i += 1; if i == 2 then write(i); else write(0); } writeln(i > 2 || 1/0 == 1);
whiles_writes : writes whiles ≡ codes "020true\n"
unfolding int_wrap digits members indices
whiles_writes = refl

-- var i: int = 17; i -= 2; i %= 8; i /= 4; writeln(i);
other_operators_writes : writes other_operators ≡ codes "1\n"
unfolding int_wrap digits members indices
other_operators_writes = refl

-- var i: int = 1; { var i: int = 2; write(i, " "); } for i in 5..6 do ; writeln(i);
hidden_names_writes : writes hidden_names ≡ codes "2 1\n"
unfolding int_wrap digits members indices
hidden_names_writes = refl

-- for i in 0..<3 do write(i); for i in 2..#3 do write(i); writeln();
ends_of_ranges_writes : writes ends_of_ranges ≡ codes "012234\n"
unfolding int_wrap digits members indices
ends_of_ranges_writes = refl

-- const r = (1..10 by 3)[2..8]; writeln(r.low, " ", r.high, " ", r.size);
ends_of_a_slice_writes : writes ends_of_a_slice ≡ codes "4 7 2\n"
unfolding int_wrap digits members indices
ends_of_a_slice_writes = refl

-- const r = 1..10 by -3; writeln(r.first, " ", r.last, " ", r.low, " ", r.high);
falling_ends_writes : writes falling_ends ≡ codes "10 1 1 10\n"
unfolding int_wrap digits members indices
falling_ends_writes = refl

-- writeln((1..9 by 2).contains(3), " ", (1..9 by 2).contains(2), " ", {1..2, 3..4}.contains(2, 3), " ", {1..2, 3..4}.contains(3, 2));
memberships_writes : writes memberships ≡ codes "true false true false\n"
unfolding int_wrap digits members indices
memberships_writes = refl

-- const D = {1..3}; writeln(D.expand(1).size, " ", D.expand(-2).size, " ", D[2..9].contains(3), " ", (1..9 by -2)[2..6].first);
expansions_writes : writes expansions ≡ codes "5 0 true 5\n"
unfolding int_wrap digits members indices
expansions_writes = refl

-- const D = {1..6}; const E = D.expand(-2); writeln(E.size, " ", D[2..9].size, " ", E.contains(3));
expanded_slices_writes : writes expanded_slices ≡ codes "2 5 true\n"
unfolding int_wrap digits members indices
expanded_slices_writes = refl

-- const D = {1..10}; writeln(D[20..30].size, " ", D[20..30].expand(6).size);
bounds_of_an_empty_slice_writes : writes bounds_of_an_empty_slice ≡ codes "0 3\n"
unfolding int_wrap digits members indices
bounds_of_an_empty_slice_writes = refl

-- const D = {5..10}; writeln(D[1..7].size);
low_end_of_a_slice_writes : writes low_end_of_a_slice ≡ codes "3\n"
unfolding int_wrap digits members indices
low_end_of_a_slice_writes = refl

-- const D = {1..2, 3..7}; writeln(D.dim(1).size, " ", D.size);
dimensions_writes : writes dimensions ≡ codes "5 10\n"
unfolding int_wrap digits members indices
dimensions_writes = refl

-- const D = blockDist.createDomain(1..2, 0..1); writeln(D.size);
created_writes : writes created ≡ codes "4\n"
unfolding int_wrap digits members indices
created_writes = refl

-- const D = {1..3} dmapped new blockDist(boundingBox={1..1/0}); writeln(D.size);
no_fault_of_a_map_writes : writes no_fault_of_a_map ≡ codes "3\n"
unfolding int_wrap digits members indices
no_fault_of_a_map_writes = refl

-- for (i,j) in {1..10 by 4, 0..1} do write(i, j, " "); writeln();
strided_pairs_writes : writes strided_pairs ≡ codes "10 11 50 51 90 91 \n"
unfolding int_wrap digits members indices
strided_pairs_writes = refl

-- const r = -1152921504606846976..1152921504606846976; writeln(r.size); writeln((0..<1152921504606846977).size);
greatest_range_writes : writes greatest_range ≡ codes "2305843009213693953\n1152921504606846977\n"
unfolding int_wrap digits members indices
greatest_range_writes = refl

-- const D = {1..1048576, 1..1048576}; writeln(D.size);
greatest_domain_writes : writes greatest_domain ≡ codes "1099511627776\n"
unfolding int_wrap digits members indices
greatest_domain_writes = refl

-- use BlockDist, CyclicDist; writeln(1);
a_use_writes : writes a_use ≡ codes "1\n"
unfolding int_wrap digits members indices
a_use_writes = refl

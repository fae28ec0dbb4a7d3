-- Arrays, promoted expressions, reductions and domain variables: what sample programs write.
-- Each row is computed from the definition alone; the program stands above it.
use Rattle.std.proofs.Common.{◌≡◌, refl}
use Rattle.std.specs.Prelude.{codes, []}
use Rattle.std.specs.Int.{int_wrap}
use Rattle.std.specs.Fmt.{digits}
use Rattle.dpl_sets.specs.Members.{members}
use Rattle.dpl_sets.specs.Indices.{indices}
use Rattle.dpl_language.proofs.Says.{limits, says, writes}
use Rattle.dpl_language.proofs.ArraysSamples.{changed_domain, divided_empty, element_among_wholes, element_as_right_side, empty_at_first, empty_square, falling_array, hidden_array, hidden_domain, inner_array, mirrored, name_in_brackets, no_array_left, not_over_the_name, promoted, promoted_difference, promoted_minus, domain_assigned, three_planes, max_of_no_elements, squares_in_blocks, plate_of_neighbours, shifted, truths_of_an_array, tuples, two_roots, units, units_of_truths}

-- var A: [1..0] int; writeln(max reduce A);
max_of_no_elements_writes : writes max_of_no_elements ≡ codes "-9223372036854775808\n"
unfolding int_wrap digits members indices
max_of_no_elements_writes = refl

-- const D = {1..8} dmapped new blockDist(boundingBox={1..8}); var A: [D] int; forall i in D do A[i] = i*i; writeln(+ reduce A); writeln(A);
squares_in_blocks_writes : says squares_in_blocks [] (limits 16777216 4) [] ≡ codes "204\n1 4 9 16 25 36 49 64\n"
unfolding int_wrap digits members indices
squares_in_blocks_writes = refl

-- const S = {0..4, 0..4}; const D: domain(2) dmapped new cyclicDist(startIdx=S.low) = S; var A: [D] int; var B: [D] int; forall (i,j) in D do A[i,j] = 10*i + j; forall (i,j) in D[1..3, 1..3] do B[i,j] = A[i-1,j] + A[i+1,j] + A[i,j-1] + A[i,j+1]; writeln(B);
plate_of_neighbours_writes :
    says plate_of_neighbours [] (limits 16777216 4) []
    ≡ codes "0 0 0 0 0\n0 44 48 52 0\n0 84 88 92 0\n0 124 128 132 0\n0 0 0 0 0\n"
unfolding int_wrap digits members indices
plate_of_neighbours_writes = refl

-- var D = {1..4}; var A: [D] int; forall i in D do A[i] = i; D = {3..6}; writeln(A);
domain_assigned_writes : writes domain_assigned ≡ codes "3 4 0 0\n"
unfolding int_wrap digits members indices
domain_assigned_writes = refl

-- var A: [1..2, 1..2, 1..2] int; forall (i,j,k) in A.domain do A[i,j,k] = 100*i + 10*j + k; writeln(A);
three_planes_writes : writes three_planes ≡ codes "111 112\n121 122\n\n211 212\n221 222\n"
unfolding int_wrap digits members indices
three_planes_writes = refl

-- var A: [1..0] int; writeln(min reduce A, " ", | reduce A, " ", ^ reduce A, " ", & reduce A, " ", * reduce A, " ", + reduce A);
units_writes : writes units ≡ codes "9223372036854775807 0 0 -1 1 0\n"
unfolding int_wrap digits members indices
units_writes = refl

-- var A: [1..0] bool; writeln(&& reduce A, " ", || reduce A);
units_of_truths_writes : writes units_of_truths ≡ codes "true false\n"
unfolding int_wrap digits members indices
units_of_truths_writes = refl

-- var A: [1..0, 1..2] int; writeln("<", A, ">");
empty_square_writes : writes empty_square ≡ codes "<>\n"
unfolding int_wrap digits members indices
empty_square_writes = refl

-- var A: [1..3 by -1] int; forall i in A.domain do A[i] = i; writeln(A);
falling_array_writes : writes falling_array ≡ codes "3 2 1\n"
unfolding int_wrap digits members indices
falling_array_writes = refl

-- var A: [1..2, 1..2] int; forall t in A.domain do A[t] = 1; A(2,1) += 4; writeln(A);
tuples_writes : writes tuples ≡ codes "1 1\n5 1\n"
unfolding int_wrap digits members indices
tuples_writes = refl

-- var A: [1..2] bool; A[2] = true; writeln(A);
truths_of_an_array_writes : writes truths_of_an_array ≡ codes "false true\n"
unfolding int_wrap digits members indices
truths_of_an_array_writes = refl

-- var D = {1..3}; var A: [D] int = 2; var B: [D] int = A * A + 1; A += B; A /= 2; writeln(A, " ", + reduce (A * B), " ", && reduce (A < B));
promoted_writes : writes promoted ≡ codes "3 3 3 45 true\n"
unfolding int_wrap digits members indices
promoted_writes = refl

-- const D = {1..4}; var A: [D] int; var B: [D] int = 3; forall i in D do A[i] = i; B = A * B + 1; writeln(B); B += 2; writeln(max reduce (A - B));
promoted_difference_writes : writes promoted_difference ≡ codes "4 7 10 13\n-5\n"
unfolding int_wrap digits members indices
promoted_difference_writes = refl

-- var A: [1..2] int = 2; A = -A; writeln(A, " ", max reduce (-A));
promoted_minus_writes : writes promoted_minus ≡ codes "-2 -2 2\n"
unfolding int_wrap digits members indices
promoted_minus_writes = refl

-- var A: [1..2] int; A[1] = 5; A = A[1]; writeln(A);
element_as_right_side_writes : writes element_as_right_side ≡ codes "5 5\n"
unfolding int_wrap digits members indices
element_as_right_side_writes = refl

-- var D = {1..3}; var A: [D] int = 7; { var A: [D] int = A + 1; writeln(A); } writeln(A);
hidden_array_writes : writes hidden_array ≡ codes "8 8 8\n7 7 7\n"
unfolding int_wrap digits members indices
hidden_array_writes = refl

-- var D = {1..2}; var A: [D] int; var B: [D] int; B[1] = 3; A = A + B[1]; writeln(A);
element_among_wholes_writes : writes element_among_wholes ≡ codes "3 3\n"
unfolding int_wrap digits members indices
element_among_wholes_writes = refl

-- var A: [1..2] int = 4; writeln((A)[2], " ", (A).domain.size);
name_in_brackets_writes : writes name_in_brackets ≡ codes "4 2\n"
unfolding int_wrap digits members indices
name_in_brackets_writes = refl

-- const D = {1..8}; var A: [D] int; var B: [D] int; forall i in D do A[i] = i; forall i in D[2..7] do B[i] = A[i-1] + A[i+1] + A[i-1]; writeln(B);
shifted_writes : writes shifted ≡ codes "0 5 8 11 14 17 20 0\n"
unfolding int_wrap digits members indices
shifted_writes = refl

-- const D = {1..8}; var A: [D] int; var B: [D] int; forall i in D do A[i] = i; forall i in D[2..7] do B[i] = A[9-i]; writeln(B);
mirrored_writes : writes mirrored ≡ codes "0 7 6 5 4 3 2 0\n"
unfolding int_wrap digits members indices
mirrored_writes = refl

-- const D = {1..4}; const E = {1..4}; var A: [D] int; var B: [E] int; forall i in D { A[i] = i; B[i] = i; } writeln(B);
two_roots_writes : writes two_roots ≡ codes "1 2 3 4\n"
unfolding int_wrap digits members indices
two_roots_writes = refl

-- var D = {1..2}; var A: [D] int = 1; { var B: [D] int = 2; var D = {5..6}; var C: [D] int = 3; D = {6..7}; writeln(C, " ", B); } D = {2..4}; writeln(A);
hidden_domain_writes : writes hidden_domain ≡ codes "3 0 2 2\n1 0 0\n"
unfolding int_wrap digits members indices
hidden_domain_writes = refl

-- var D: domain(1) dmapped new blockDist(boundingBox={1..8}) = {1..4}; var A: [D] int = 7; const E = D[2..3]; D = {3..10}; forall i in D do A[i] += i; writeln(A); writeln(E.size);
changed_domain_writes : writes changed_domain ≡ codes "10 11 5 6 7 8 9 10\n2\n"
unfolding int_wrap digits members indices
changed_domain_writes = refl

-- var D = {1..2}; { var A: [D] int = 1; D = {2..3}; writeln(A); }
inner_array_writes : writes inner_array ≡ codes "1 0\n"
unfolding int_wrap digits members indices
inner_array_writes = refl

-- var D = {1..2}; var A: [1..2] int = 1; D = {1..3}; writeln(A);
not_over_the_name_writes : writes not_over_the_name ≡ codes "1 1\n"
unfolding int_wrap digits members indices
not_over_the_name_writes = refl

-- var D: domain(2); var A: [D] int; writeln(D.size, A, " ", D.dim(0).size, " ", D.dim(1).size);
empty_at_first_writes : writes empty_at_first ≡ codes "0 0 0\n"
unfolding int_wrap digits members indices
empty_at_first_writes = refl

-- var D = {1..3}; { var A: [D] int; } D = {1..16777217}; writeln(D.size);
no_array_left_writes : writes no_array_left ≡ codes "16777217\n"
unfolding int_wrap digits members indices
no_array_left_writes = refl

-- var A: [1..0] int; A /= 0; writeln(A);
divided_empty_writes : writes divided_empty ≡ codes "\n"
unfolding int_wrap digits members indices
divided_empty_writes = refl

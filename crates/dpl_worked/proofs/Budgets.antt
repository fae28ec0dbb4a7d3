-- What texts write within a small budget of turns, and with values from the command line.
-- Each row is computed from the text's bytes on.
use Rattle.std.proofs.Common.{◌≡◌, List, [], ◌∷◌, Option, Some, refl}
use Rattle.std.specs.Prelude.{ℕ, codes}
use Rattle.std.specs.Int.{int_wrap}
use Rattle.std.specs.Fmt.{digits}
use Rattle.dpl_sets.specs.Members.{members}
use Rattle.dpl_sets.specs.Indices.{indices}
use Rattle.dpl_worked.proofs.Runs.{writes_by, writes_within}
use Rattle.dpl_worked.proofs.Texts.{by_text}

-- ---- as many turns as the budget are made, and with one more none
-- each entry of a loop has the whole budget
each_entry_has_the_budget : writes_within 3 (codes "var D = {1..3}; var A: [D] int = 1; A = A + A; A += 1; var B: [D] int = A; writeln(+ reduce B);") ≡ Some (codes "9\n")
unfolding by_text int_wrap digits members indices
each_entry_has_the_budget = refl

-- the budget is tested before the first turn
promoted_initial_value : writes_within 3 (codes "var D: domain(1); var A: [D] int; D = {1..4}; var B: [D] int = A + 1 / 0;") ≡ Some (codes "! F5 at 1:62\n")
unfolding by_text int_wrap digits members indices
promoted_initial_value = refl

-- a scalar right side is evaluated before it
scalar_before_the_budget : writes_within 3 (codes "var A: [1..4] int; A += 1 / 0;") ≡ Some (codes "! F2 at 1:27\n")
unfolding by_text int_wrap digits members indices
scalar_before_the_budget = refl

reduction_before_its_first_turn : writes_within 3 (codes "var A: [1..4] int; write(& reduce (1 / A));") ≡ Some (codes "! F5 at 1:28\n")
unfolding by_text int_wrap digits members indices
reduction_before_its_first_turn = refl

inner_loops : writes_within 3 (codes "for i in 1..3 do for j in 1..i + 1 do write(j);") ≡ Some (codes "12123\n! F5 at 1:18\n")
unfolding by_text int_wrap digits members indices
inner_loops = refl

-- a loop in a turn names that turn, and no turn of its own
while_of_a_turn : writes_within 3 (codes "forall i in 2..3 do while i == 3 do ;") ≡ Some (codes "! F5 at 1:21 in turn 3\n")
unfolding by_text int_wrap digits members indices
while_of_a_turn = refl

-- where no turn is left the condition is evaluated once more
condition_before_the_budget : writes_within 2 (codes "var i = 0; while 6 / (2 - i) > 0 do i += 1;") ≡ Some (codes "! F2 at 1:20\n")
unfolding by_text int_wrap digits members indices
condition_before_the_budget = refl

as_many_turns_as_may_be : writes_within 3 (codes "var i = 0; while i < 3 do i += 1; writeln(i);") ≡ Some (codes "3\n")
unfolding by_text int_wrap digits members indices
as_many_turns_as_may_be = refl

-- ---- locales, over which a `for` has its budget too
locales :
    writes_by [] (record { budget = 3; locales = 3 }) (codes "for l in Locales do write(l.id, \" \"); on Locales[numLocales - 1] { var x = here.id; write(x, \" \"); } const x = here; writeln(x.id);")
    ≡ Some (codes "0 1 2 2 0\n")
unfolding by_text int_wrap digits members indices
locales = refl

more_locales_than_turns : writes_by [] (record { budget = 2; locales = 3 }) (codes "for l in Locales do write(l.id);") ≡ Some (codes "! F5 at 1:1\n")
unfolding by_text int_wrap digits members indices
more_locales_than_turns = refl

as_many_as_there_are : writes_by [] (record { budget = 3; locales = 3 }) (codes "on Locales[3] do ;") ≡ Some (codes "! F6 at 1:4\n")
unfolding by_text int_wrap digits members indices
as_many_as_there_are = refl

-- ---- values from the command line
abbrev given : List (List ℕ) → List ℕ → Option (List ℕ)
given sets text = writes_by sets (record { budget = 16777216; locales = 1 }) text

in_place_of_the_initial_value : given (codes "n=-7" ∷ []) (codes "config const n = 1 / 0; writeln(n);") ≡ Some (codes "-7\n")
unfolding by_text int_wrap digits members indices
in_place_of_the_initial_value = refl

two_sets :
    given (codes "b=true" ∷ codes "n=-9223372036854775808" ∷ []) (codes "config const n: int; config const m = n / 2; config const b = m < 0; writeln(n, \" \", m, \" \", b);")
    ≡ Some (codes "-9223372036854775808 -4611686018427387904 true\n")
unfolding by_text int_wrap digits members indices
two_sets = refl

inner_constant_of_the_name : given (codes "n=7" ∷ []) (codes "config const n = 1; { const n = 2; write(n); } writeln(n);") ≡ Some (codes "27\n")
unfolding by_text int_wrap digits members indices
inner_constant_of_the_name = refl

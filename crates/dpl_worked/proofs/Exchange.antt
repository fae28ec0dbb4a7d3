-- How many elements texts read that other locales own. Each row is computed from the text's bytes on.
-- The budget of the rows is 100 turns.
use Rattle.std.proofs.Common.{◌≡◌, ℕ, List, [], ◌∷◌, Option, Some, None, Ok, Err, refl}
use Rattle.std.specs.Prelude.{codes, ⊤}
use Rattle.std.specs.Int.{int_wrap}
use Rattle.dpl_sets.specs.Members.{members}
use Rattle.dpl_sets.specs.Indices.{indices}
use Rattle.dpl_syntax.specs.declared.token.Token.{Token}
use Rattle.dpl_syntax.specs.declared.refusal.Refusal.{Refusal}
use Rattle.dpl_grammar.specs.Reader.{Read}
use Rattle.dpl_map.specs.Places.{block_place, cyclic_place, block_cyclic_place}
use Rattle.dpl_map.specs.Maps.{owner}
use Rattle.dpl_map.specs.Parts.{part}
use Rattle.dpl_layout.specs.Layouts.{LayoutValue, single_layout}
use Rattle.dpl_layout.specs.declared.maps.Maps.TheVariants.{AsIs, Block, Cyclic}
use Rattle.dpl_language.specs.Environment.{Limits}
use Rattle.dpl_spelling.specs.Grammar.{Program}
use Rattle.dpl_spelling.proofs.Programs.{read}
use Rattle.dpl_rules.specs.Sound.{refusal}
use Rattle.dpl_exchange.specs.Counts.{remote_count, recorded}
use Rattle.dpl_worked.proofs.Lexer.{tokens_of}
use Rattle.dpl_worked.proofs.Texts.{by_text}

-- ---- the count of a text's run, by a layout; none of a text that is refused
abbrev hundred : Limits
hundred = record { budget = 100; locales = 4 }

module _ (layout : LayoutValue) where
  abbrev of_sound : Option Refusal → Program → Option ℕ
  of_sound None t = Some (remote_count layout hundred t (recorded t [] hundred []))
  of_sound (Some r) t = None

  abbrev of_tree : Program → List Token → Option ℕ
  of_tree t [] = of_sound (refusal t []) t
  of_tree t (k ∷ ks) = None

  abbrev of_read : Read Program → Option ℕ
  of_read (Ok p) = of_tree p.0 p.1
  of_read (Err e) = None

  abbrev of_tokens : Option (List Token) → Option ℕ
  of_tokens None = None
  of_tokens (Some ks) = of_read (read 64 ks)

abbrev remote_by : LayoutValue → List ℕ → Option ℕ
remote_by layout text = of_tokens layout (tokens_of text)

-- what the rows compute with
unfoldable on_locales : ⊤
unfolding by_text int_wrap members indices owner part block_place cyclic_place block_cyclic_place
on_locales = tt

-- ---- layouts: 4 locales in a line, and 2x2; with `--maps cyclic` and `--maps block`; 3 locales
abbrev four : LayoutValue
four = record { line = 4 ∷ []; plane = 4 ∷ 1 ∷ []; space = 4 ∷ 1 ∷ 1 ∷ []; maps = AsIs }

abbrev square : LayoutValue
square = record { line = 4 ∷ []; plane = 2 ∷ 2 ∷ []; space = 4 ∷ 1 ∷ 1 ∷ []; maps = AsIs }

abbrev going_round : LayoutValue
going_round = record { line = 4 ∷ []; plane = 4 ∷ 1 ∷ []; space = 4 ∷ 1 ∷ 1 ∷ []; maps = Cyclic }

abbrev by_blocks : LayoutValue
by_blocks = record { line = 4 ∷ []; plane = 4 ∷ 1 ∷ []; space = 4 ∷ 1 ∷ 1 ∷ []; maps = Block }

abbrev three : LayoutValue
three = record { line = 3 ∷ []; plane = 3 ∷ 1 ∷ []; space = 3 ∷ 1 ∷ 1 ∷ []; maps = AsIs }

-- ---- stencils
-- 4, 7, 7 and 12 on the locales 0 to 3 of a grid 2x2
stencil_on_a_torus : remote_by square (codes "const S = {0..4, 0..4}; const D: domain(2) dmapped new cyclicDist(startIdx=S.low) = S; var A: [D] int; var B: [D] int; forall (i,j) in D do A[i,j] = 10*i + j; forall (i,j) in D[1..3, 1..3] do B[i,j] = A[i-1,j] + A[i+1,j] + A[i,j-1] + A[i,j+1];") ≡ Some 30
unfolding on_locales
stencil_on_a_torus = refl

stencil_on_one_locale : remote_by single_layout (codes "const S = {0..4, 0..4}; const D: domain(2) dmapped new cyclicDist(startIdx=S.low) = S; var A: [D] int; var B: [D] int; forall (i,j) in D do A[i,j] = 10*i + j; forall (i,j) in D[1..3, 1..3] do B[i,j] = A[i-1,j] + A[i+1,j] + A[i,j-1] + A[i,j+1];") ≡ Some 0
unfolding on_locales
stencil_on_one_locale = refl

-- an element that is read twice counts once
neighbours_by_blocks : remote_by four (codes "const D = {1..8} dmapped new blockDist(boundingBox={1..8}); var A: [D] int; var B: [D] int; forall i in D[2..7] do B[i] = A[i-1] + A[i+1] + A[i-1];") ≡ Some 6
unfolding on_locales
neighbours_by_blocks = refl

neighbours_going_round : remote_by going_round (codes "const D = {1..8} dmapped new blockDist(boundingBox={1..8}); var A: [D] int; var B: [D] int; forall i in D[2..7] do B[i] = A[i-1] + A[i+1] + A[i-1];") ≡ Some 12
unfolding on_locales
neighbours_going_round = refl

neighbours_on_three : remote_by three (codes "const D = {1..8} dmapped new blockDist(boundingBox={1..8}); var A: [D] int; var B: [D] int; forall i in D[2..7] do B[i] = A[i-1] + A[i+1] + A[i-1];") ≡ Some 4
unfolding on_locales
neighbours_on_three = refl

-- blocks of 3 give {1, 2, 3}, {4, 5, 6} and {7, 8}
neighbours_by_larger_blocks : remote_by four (codes "const D = {1..8} dmapped new blockCycDist(1, 3); var A: [D] int; var B: [D] int; forall i in D[2..7] do B[i] = A[i-1];") ≡ Some 2
unfolding on_locales
neighbours_by_larger_blocks = refl

neighbours_of_a_created_domain : remote_by four (codes "const D = blockDist.createDomain(1..8); var A: [D] int; var B: [D] int; forall i in D[2..7] do B[i] = A[i-1];") ≡ Some 3
unfolding on_locales
neighbours_of_a_created_domain = refl

-- where no map is named, all is on locale 0, unless each root gets one
no_map_named : remote_by four (codes "const D = {1..8}; var A: [D] int; var B: [D] int; forall i in D[2..7] do B[i] = A[i-1];") ≡ Some 0
unfolding on_locales
no_map_named = refl

no_map_named_by_blocks : remote_by by_blocks (codes "const D = {1..8}; var A: [D] int; var B: [D] int; forall i in D[2..7] do B[i] = A[i-1];") ≡ Some 3
unfolding on_locales
no_map_named_by_blocks = refl

-- `A[9-i]` isn't the own index moved by a number
mirror : remote_by four (codes "const D = {1..8} dmapped new blockDist(boundingBox={1..8}); var A: [D] int; var B: [D] int; forall i in D[2..7] do B[i] = A[9-i];") ≡ Some 0
unfolding on_locales
mirror = refl

-- ---- what is read, and by whom
one_side : remote_by four (codes "const D = {1..8} dmapped new blockDist(boundingBox={1..8}); var A: [D] int; var B: [D] int; forall i in D[2..7] do B[i] = A[i-1];") ≡ Some 3
unfolding on_locales
one_side = refl

two_arrays : remote_by four (codes "const D = {1..8} dmapped new blockDist({1..8}); var A: [D] int; var B: [D] int; var C: [D] int; forall i in D[2..7] do B[i] = A[i-1] + C[i+1];") ≡ Some 6
unfolding on_locales
two_arrays = refl

-- at the own index, of an array that is dealt out otherwise
own_index_by_another_map : remote_by four (codes "const D = {1..4} dmapped new blockDist({1..4}); const E = {1..4} dmapped new cyclicDist(2); var A: [E] int; var B: [D] int; forall i in D do B[i] = A[i];") ≡ Some 4
unfolding on_locales
own_index_by_another_map = refl

tuple_name : remote_by square (codes "const D = {1..2, 1..2} dmapped new blockDist({1..2, 1..2}); const E = {1..2, 1..2} dmapped new cyclicDist((2, 2)); var A: [E] int; var B: [D] int; forall t in D do B[t] = A[t];") ≡ Some 4
unfolding on_locales
tuple_name = refl

-- each locale reads two elements of A, in four turns, and owns one of them
read_by_two_turns_of_a_locale : remote_by square (codes "const P = {1..4, 1..2} dmapped new blockDist({1..4, 1..2}); const D = {1..4} dmapped new blockDist({1..4}); var A: [D] int; var B: [P] int; forall (i,j) in P do B[i,j] = A[i];") ≡ Some 4
unfolding on_locales
read_by_two_turns_of_a_locale = refl

-- the element 0 isn't there; the fault in turn 1 changes nothing of the count
outside_the_array : remote_by four (codes "const D = {1..8} dmapped new blockDist(boundingBox={1..8}); var A: [D] int; var B: [D] int; forall i in D do B[i] = A[i-1];") ≡ Some 3
unfolding on_locales
outside_the_array = refl

-- a read that no turn reaches counts
never_reached : remote_by four (codes "const D = {1..8} dmapped new blockDist(boundingBox={1..8}); var A: [D] int; var B: [D] int; forall i in D[2..7] do if false then B[i] = A[i-1];") ≡ Some 3
unfolding on_locales
never_reached = refl

in_a_condition : remote_by four (codes "const D = {1..8} dmapped new blockDist(boundingBox={1..8}); var A: [D] int; var B: [D] int; forall i in D[2..7] do if A[i-1] > 0 then B[i] = 1;") ≡ Some 3
unfolding on_locales
in_a_condition = refl

-- an array that is written is read at the own index alone
written_array : remote_by four (codes "const D = {1..8} dmapped new blockDist(boundingBox={1..8}); var A: [D] int; var B: [D] int; forall i in D do A[i] += A[i];") ≡ Some 0
unfolding on_locales
written_array = refl

-- also where other locales make the turns
written_array_of_another_map : remote_by four (codes "const D = {1..8} dmapped new blockDist({1..8}); const E = {1..8} dmapped new cyclicDist(1); var A: [D] int; var B: [D] int; var C: [E] int; forall i in D { C[i] = 1; B[i] += B[i]; }") ≡ Some 0
unfolding on_locales
written_array_of_another_map = refl

-- an inner loop's variable isn't the forall's
hidden_variable : remote_by four (codes "const D = {1..8} dmapped new blockDist({1..8}); var A: [D] int; var s: int; forall i in D[2..7] with (+ reduce s) do for i in 2..3 do s += A[i-1];") ≡ Some 0
unfolding on_locales
hidden_variable = refl

-- ---- who makes a turn
-- where nothing is written, the owner by the map of the loop's domain
by_the_loops_domain : remote_by four (codes "const D = {1..8} dmapped new blockDist({1..8}); var A: [D] int; var s: int; forall i in D[2..7] with (+ reduce s) do s += A[i-1];") ≡ Some 3
unfolding on_locales
by_the_loops_domain = refl

by_a_derived_domain : remote_by four (codes "const D = {1..8} dmapped new blockDist({1..8}); const E = D[2..7]; var A: [D] int; var s: int; forall i in E with (+ reduce s) do s += A[i-1];") ≡ Some 3
unfolding on_locales
by_a_derived_domain = refl

-- over a range locale 0 makes all turns, and reads 3, 4, 5 and 6 of others
by_locale_0 : remote_by four (codes "const D = {1..8} dmapped new blockDist({1..8}); var A: [D] int; var s: int; forall i in 2..7 with (+ reduce s) do s += A[i-1];") ≡ Some 4
unfolding on_locales
by_locale_0 = refl

by_a_literal : remote_by four (codes "const D = {1..8} dmapped new blockDist({1..8}); var A: [D] int; var s: int; forall i in {2..7} with (+ reduce s) do s += A[i-1];") ≡ Some 4
unfolding on_locales
by_a_literal = refl

-- by the map of the array that the text writes first
by_the_first_written : remote_by four (codes "const D = {1..8} dmapped new blockDist({1..8}); const E = {1..8} dmapped new cyclicDist(1); var A: [D] int; var B: [D] int; var C: [E] int; forall i in D[2..7] { C[i] = A[i-1]; B[i] = 1; }") ≡ Some 5
unfolding on_locales
by_the_first_written = refl

by_the_first_written_of_two : remote_by four (codes "const D = {1..8} dmapped new blockDist({1..8}); const E = {1..8} dmapped new cyclicDist(1); var A: [D] int; var B: [D] int; var C: [E] int; forall i in D[2..7] { B[i] = A[i-1]; C[i] = 1; }") ≡ Some 3
unfolding on_locales
by_the_first_written_of_two = refl

by_the_first_written_though_not_reached : remote_by four (codes "const D = {1..8} dmapped new blockDist({1..8}); const E = {1..8} dmapped new cyclicDist(1); var A: [D] int; var B: [D] int; var C: [E] int; forall i in D[2..7] { if false then C[i] = 1; B[i] = A[i-1]; }") ≡ Some 5
unfolding on_locales
by_the_first_written_though_not_reached = refl

-- ---- as things stood where the forall was entered
-- A has the elements 3 to 6 then, by the map of the domain that D was declared with
assigned_domain : remote_by four (codes "var D: domain(1) dmapped new blockDist({1..8}) = {1..8}; var A: [D] int; var B: [D] int; D = {3..6}; forall i in D[4..6] do B[i] = A[i-1];") ≡ Some 1
unfolding on_locales
assigned_domain = refl

-- the element 2 isn't there any more, so that turn 3 faults
outside_the_assigned_array : remote_by four (codes "var D: domain(1) dmapped new blockDist({1..8}) = {1..8}; var A: [D] int; var B: [D] int; D = {3..6}; forall i in D do B[i] = A[i-1];") ≡ Some 1
unfolding on_locales
outside_the_assigned_array = refl

-- an outer A is another array
hidden_array : remote_by four (codes "const D = {1..8} dmapped new blockDist({1..8}); var A: [D] int; { const E = {1..4} dmapped new cyclicDist(1); var A: [E] int; var B: [E] int; forall i in E[2..4] do B[i] = A[i-1]; }") ≡ Some 3
unfolding on_locales
hidden_array = refl

-- and the array that is written first may be the one that hides another: its map counts
hidden_array_written : remote_by four (codes "const D = {1..8} dmapped new blockDist({1..8}); const E = {1..8} dmapped new cyclicDist(1); var A: [D] int; var C: [E] int; { var C: [D] int; forall i in D[2..7] do C[i] = A[i-1]; }") ≡ Some 3
unfolding on_locales
hidden_array_written = refl

-- ---- which foralls count, and how often
twice_in_a_for : remote_by four (codes "const D = {1..8} dmapped new blockDist(boundingBox={1..8}); var A: [D] int; var B: [D] int; for k in 1..2 do forall i in D[2..7] do B[i] = A[i-1];") ≡ Some 6
unfolding on_locales
twice_in_a_for = refl

in_a_while : remote_by four (codes "const D = {1..8} dmapped new blockDist(boundingBox={1..8}); var A: [D] int; var B: [D] int; var n = 2; while n > 0 { forall i in D[2..7] do B[i] = A[i-1]; n -= 1; }") ≡ Some 6
unfolding on_locales
in_a_while = refl

in_a_block : remote_by four (codes "const D = {1..8} dmapped new blockDist(boundingBox={1..8}); var A: [D] int; var B: [D] int; { forall i in D[2..7] do B[i] = A[i-1]; }") ≡ Some 3
unfolding on_locales
in_a_block = refl

behind_then_and_else : remote_by four (codes "const D = {1..8} dmapped new blockDist(boundingBox={1..8}); var A: [D] int; var B: [D] int; if true then forall i in D[2..7] do B[i] = A[i-1]; else forall i in D[2..7] do B[i] = A[i+1] + A[i-1];") ≡ Some 3
unfolding on_locales
behind_then_and_else = refl

behind_else : remote_by four (codes "const D = {1..8} dmapped new blockDist(boundingBox={1..8}); var A: [D] int; var B: [D] int; if false then forall i in D[2..7] do B[i] = A[i-1]; else forall i in D[2..7] do B[i] = A[i+1] + A[i-1];") ≡ Some 6
unfolding on_locales
behind_else = refl

on_a_locale : remote_by four (codes "const D = {1..8} dmapped new blockDist(boundingBox={1..8}); var A: [D] int; var B: [D] int; on Locales[1] do forall i in D[2..7] do B[i] = A[i-1];") ≡ Some 3
unfolding on_locales
on_a_locale = refl

not_entered : remote_by four (codes "const D = {1..8} dmapped new blockDist(boundingBox={1..8}); var A: [D] int; var B: [D] int; if false then forall i in D[2..7] do B[i] = A[i-1];") ≡ Some 0
unfolding on_locales
not_entered = refl

-- the second one has more turns than the budget, so the run ends with F5 and it counts nothing
past_the_budget : remote_by four (codes "const D = {1..8} dmapped new blockDist(boundingBox={1..8}); var A: [D] int; var B: [D] int; forall i in D[2..7] do B[i] = A[i-1]; forall i in 1..200 do B[i] = A[i+1];") ≡ Some 3
unfolding on_locales
past_the_budget = refl

-- the forall of turn 4's fault counts whole, and none behind it
behind_a_fault : remote_by four (codes "const D = {1..8} dmapped new blockDist(boundingBox={1..8}); var A: [D] int; var B: [D] int; forall i in D[2..7] do B[i] = A[i-1] / (i - 4); forall i in D[2..7] do B[i] = A[i+1];") ≡ Some 3
unfolding on_locales
behind_a_fault = refl

whole_arrays_and_reductions : remote_by four (codes "const D = {1..8} dmapped new blockDist(boundingBox={1..8}); var A: [D] int; var B: [D] int; B = A + 1; const s = + reduce (A + B); B = B;") ≡ Some 0
unfolding on_locales
whole_arrays_and_reductions = refl

several_foralls : remote_by four (codes "const D = {1..8} dmapped new blockDist(boundingBox={1..8}); var A: [D] int; var B: [D] int; forall i in D[2..7] do B[i] = A[i-1]; forall i in D[1..7] do A[i] = B[i+1];") ≡ Some 6
unfolding on_locales
several_foralls = refl

-- ---- a second reader's rows: arrays and loops of other maps than one another's
-- locale 1 reads 2 and 3, locale 2 reads 4 and 5, and locale 3 reads 6
an_array_on_locale_0 : remote_by four (codes "const D = {1..8} dmapped new blockDist({1..8}); var A: [1..8] int; var B: [D] int; forall i in D[2..7] do B[i] = A[i-1];") ≡ Some 5
unfolding on_locales
an_array_on_locale_0 = refl

by_the_written_over_a_range : remote_by four (codes "const D = {1..8} dmapped new blockDist({1..8}); var A: [D] int; var B: [D] int; forall i in 2..7 do B[i] = A[i-1];") ≡ Some 3
unfolding on_locales
by_the_written_over_a_range = refl

-- W has no map, so locale 0 makes all turns and reads 3, 4, 5 and 6
by_the_first_written_without_a_map : remote_by four (codes "const D = {1..8} dmapped new blockDist({1..8}); var A: [D] int; var B: [D] int; var W: [1..8] int; forall i in D[2..7] { W[i] = 1; B[i] = A[i-1]; }") ≡ Some 4
unfolding on_locales
by_the_first_written_without_a_map = refl

-- locale 0 reads 3, 4, 5 and 6; going round it has 1 and 5, and reads 2, 3, 4 and 6
by_a_ranges_name : remote_by four (codes "const r = 2..7; const D = {1..8} dmapped new blockDist({1..8}); var A: [D] int; var s: int; forall i in r with (+ reduce s) do s += A[i-1];") ≡ Some 4
unfolding on_locales
by_a_ranges_name = refl

by_a_ranges_name_going_round : remote_by going_round (codes "const r = 2..7; const D = {1..8} dmapped new blockDist({1..8}); var A: [D] int; var s: int; forall i in r with (+ reduce s) do s += A[i-1];") ≡ Some 4
unfolding on_locales
by_a_ranges_name_going_round = refl

by_a_slice_of_a_literal : remote_by four (codes "const D = {1..8} dmapped new blockDist({1..8}); var A: [D] int; var s: int; forall i in {1..8}[2..7] with (+ reduce s) do s += A[i-1];") ≡ Some 4
unfolding on_locales
by_a_slice_of_a_literal = refl

-- locale 0 reads 3 to 7
by_a_dimension : remote_by four (codes "const D = {1..8} dmapped new blockDist({1..8}); var A: [D] int; var s: int; forall i in D.dim(0) with (+ reduce s) do s += A[i-1];") ≡ Some 5
unfolding on_locales
by_a_dimension = refl

by_an_arrays_domain : remote_by four (codes "const D = {1..8} dmapped new blockDist({1..8}); var A: [D] int; var s: int; forall i in A.domain[2..7] with (+ reduce s) do s += A[i-1];") ≡ Some 3
unfolding on_locales
by_an_arrays_domain = refl

by_an_expanded_domain : remote_by four (codes "const D = {1..8} dmapped new blockDist({1..8}); var A: [D] int; var s: int; forall i in D[3..6].expand(1) with (+ reduce s) do s += A[i-1];") ≡ Some 3
unfolding on_locales
by_an_expanded_domain = refl

by_an_assigned_domain : remote_by four (codes "const D = {1..8} dmapped new blockDist({1..8}); var A: [D] int; var s: int; var E = D; E = {2..7}; forall i in E with (+ reduce s) do s += A[i-1];") ≡ Some 3
unfolding on_locales
by_an_assigned_domain = refl

-- E is a root for which no map is named
by_a_typed_domain : remote_by four (codes "const D = {1..8} dmapped new blockDist({1..8}); var A: [D] int; var s: int; const E: domain(1) = D; forall i in E[2..7] with (+ reduce s) do s += A[i-1];") ≡ Some 4
unfolding on_locales
by_a_typed_domain = refl

by_the_domain_of_an_array_over_ranges : remote_by by_blocks (codes "var A: [1..8] int; var s: int; forall i in A.domain[2..7] with (+ reduce s) do s += A[i-1];") ≡ Some 3
unfolding on_locales
by_the_domain_of_an_array_over_ranges = refl

-- ---- what a map is made of stands before the declaration
a_domain_of_a_hidden_one : remote_by four (codes "const D = {1..8} dmapped new blockDist({1..8}); { const D = D[2..7]; var A: [D] int; var B: [D] int; forall i in D[3..7] do B[i] = A[i-1]; }") ≡ Some 3
unfolding on_locales
a_domain_of_a_hidden_one = refl

an_array_over_a_hidden_one : remote_by four (codes "const D = {1..8} dmapped new blockDist({1..8}); var A: [D] int; { var A: [A.domain] int; var B: [A.domain] int; forall i in A.domain[2..7] do B[i] = A[i-1]; }") ≡ Some 3
unfolding on_locales
an_array_over_a_hidden_one = refl

a_start_of_a_hidden_one : remote_by four (codes "const X = {3..6}; const E = {1..8} dmapped new cyclicDist(1); var B: [E] int; { const X = {1..8} dmapped new cyclicDist(X.low); var A: [X] int; forall i in E do B[i] = A[i]; }") ≡ Some 8
unfolding on_locales
a_start_of_a_hidden_one = refl

a_start_of_here : remote_by four (codes "const E = {1..4} dmapped new cyclicDist(0); var B: [E] int; on Locales[2] { const D = {1..4} dmapped new cyclicDist(here.id); var A: [D] int; forall i in E do B[i] = A[i]; }") ≡ Some 4
unfolding on_locales
a_start_of_here = refl

behind_a_block : remote_by four (codes "const D = {1..8} dmapped new blockDist({1..8}); var A: [D] int; var s: int; { const D = {1..2} dmapped new cyclicDist(1); const A = D.size; } forall i in D[2..7] with (+ reduce s) do s += A[i-1];") ≡ Some 3
unfolding on_locales
behind_a_block = refl

-- ---- `--maps` goes by the domain that a root was declared with
over_a_slice_by_blocks : remote_by by_blocks (codes "const D = {1..8}; var A: [D] int; var B: [D[2..5]] int; forall i in D[2..5] do B[i] = A[i-1];") ≡ Some 2
unfolding on_locales
over_a_slice_by_blocks = refl

assigned_by_blocks : remote_by by_blocks (codes "var D = {1..8}; var A: [D] int; var B: [D] int; D = {1..4}; forall i in D[2..4] do B[i] = A[i-1];") ≡ Some 1
unfolding on_locales
assigned_by_blocks = refl

by_an_assigned_domain_by_blocks : remote_by by_blocks (codes "var D = {1..8}; var A: [D] int; var s: int; D = {1..4}; forall i in D[2..4] with (+ reduce s) do s += A[i-1];") ≡ Some 1
unfolding on_locales
by_an_assigned_domain_by_blocks = refl

empty_when_declared_by_blocks : remote_by by_blocks (codes "var D: domain(1); var A: [D] int; var B: [D] int; D = {1..8}; forall i in D[2..7] do B[i] = A[i-1];") ≡ Some 0
unfolding on_locales
empty_when_declared_by_blocks = refl

empty_when_declared_going_round : remote_by going_round (codes "var D: domain(1); var A: [D] int; var B: [D] int; D = {1..8}; forall i in D[2..7] do B[i] = A[i-1];") ≡ Some 0
unfolding on_locales
empty_when_declared_going_round = refl

over_ranges_by_blocks : remote_by by_blocks (codes "var A: [1..8] int; var B: [1..8] int; forall i in 2..7 do B[i] = A[i-1];") ≡ Some 3
unfolding on_locales
over_ranges_by_blocks = refl

over_a_ranges_name_by_blocks : remote_by by_blocks (codes "const r = 1..8; var A: [r] int; var B: [r] int; forall i in 2..7 do B[i] = A[i-1];") ≡ Some 3
unfolding on_locales
over_a_ranges_name_by_blocks = refl

-- ---- arguments that no map takes
start_at_the_limit : remote_by four (codes "const D = {1..8} dmapped new cyclicDist(1152921504606846976); var A: [D] int; var B: [D] int; forall i in D[2..7] do B[i] = A[i-1];") ≡ Some 6
unfolding on_locales
start_at_the_limit = refl

start_past_the_limit : remote_by four (codes "const D = {1..8} dmapped new cyclicDist(1152921504606846977); var A: [D] int; var B: [D] int; forall i in D[2..7] do B[i] = A[i-1];") ≡ Some 0
unfolding on_locales
start_past_the_limit = refl

blocks_of_one : remote_by four (codes "const D = {1..8} dmapped new blockCycDist(1, 1); var A: [D] int; var B: [D] int; forall i in D[2..7] do B[i] = A[i-1];") ≡ Some 6
unfolding on_locales
blocks_of_one = refl

blocks_of_none : remote_by four (codes "const D = {1..8} dmapped new blockCycDist(1, 0); var A: [D] int; var B: [D] int; forall i in D[2..7] do B[i] = A[i-1];") ≡ Some 0
unfolding on_locales
blocks_of_none = refl

empty_box : remote_by four (codes "const D = {1..8} dmapped new blockDist({1..0}); var A: [D] int; var B: [D] int; forall i in D[2..7] do B[i] = A[i-1];") ≡ Some 0
unfolding on_locales
empty_box = refl

argument_without_a_value : remote_by four (codes "const D = {1..8} dmapped new cyclicDist(1/0); var A: [D] int; var B: [D] int; forall i in D[2..7] do B[i] = A[i-1];") ≡ Some 0
unfolding on_locales
argument_without_a_value = refl

-- the blocks are {2, 3}, {4, 5} and {6, 7}
blocks_from_the_limit : remote_by four (codes "const D = {1..8} dmapped new blockCycDist(1152921504606846976, 2); var A: [D] int; var B: [D] int; forall i in D[2..7] do B[i] = A[i-1];") ≡ Some 3
unfolding on_locales
blocks_from_the_limit = refl

blocks_past_the_limit : remote_by four (codes "const D = {1..8} dmapped new blockCycDist(1152921504606846977, 2); var A: [D] int; var B: [D] int; forall i in D[2..7] do B[i] = A[i-1];") ≡ Some 0
unfolding on_locales
blocks_past_the_limit = refl

starts_of_two : remote_by square (codes "const D = {1..2, 1..2} dmapped new cyclicDist((1, 1)); var A: [D] int; var B: [D] int; forall (i,j) in D[2..2, 1..2] do B[i,j] = A[i-1,j];") ≡ Some 2
unfolding on_locales
starts_of_two = refl

one_start_of_two_past_the_limit : remote_by square (codes "const D = {1..2, 1..2} dmapped new cyclicDist((1, 1152921504606846977)); var A: [D] int; var B: [D] int; forall (i,j) in D[2..2, 1..2] do B[i,j] = A[i-1,j];") ≡ Some 0
unfolding on_locales
one_start_of_two_past_the_limit = refl

one_size_of_two_below_1 : remote_by square (codes "const D = {1..2, 1..2} dmapped new blockCycDist((1, 1), (1, 0)); var A: [D] int; var B: [D] int; forall (i,j) in D[2..2, 1..2] do B[i,j] = A[i-1,j];") ≡ Some 0
unfolding on_locales
one_size_of_two_below_1 = refl

box_empty_in_one_of_two : remote_by square (codes "const D = {1..2, 1..2} dmapped new blockDist({1..2, 1..0}); var A: [D] int; var B: [D] int; forall (i,j) in D[2..2, 1..2] do B[i,j] = A[i-1,j];") ≡ Some 0
unfolding on_locales
box_empty_in_one_of_two = refl

-- ---- boxes and starts of strided domains
-- the box is 1..5, so 1 and 2 are on locale 0, 3 on 1 and 4 on 2
box_of_a_strided_domain : remote_by four (codes "const D = {1..8} dmapped new blockDist({1..8 by 4}); var A: [D] int; var B: [D] int; forall i in D[2..4] do B[i] = A[i-1];") ≡ Some 2
unfolding on_locales
box_of_a_strided_domain = refl

-- the box is 3..8, so 1 to 4 are on locale 0, 5 on 1, 6 and 7 on 2
box_of_a_downward_domain : remote_by four (codes "const D = {1..8} dmapped new blockDist({1..8 by -5}); var A: [D] int; var B: [D] int; forall i in D[2..7] do B[i] = A[i-1];") ≡ Some 2
unfolding on_locales
box_of_a_downward_domain = refl

-- A goes round from 2 and B from 4
least_of_a_downward_domain : remote_by going_round (codes "const D = {1..8 by -3}; var A: [D] int; var B: [4..9] int; forall i in 4..9 do B[i] = A[i];") ≡ Some 2
unfolding on_locales
least_of_a_downward_domain = refl

least_as_that_of_another : remote_by going_round (codes "const D = {1..8 by -3}; var A: [D] int; var B: [2..8] int; forall i in 2..8 do B[i] = A[i];") ≡ Some 0
unfolding on_locales
least_as_that_of_another = refl

-- ---- by the whole map all is on locale 0
empty_box_on_locale_0 : remote_by four (codes "const D = {1..8} dmapped new blockDist({1..0}); var A: [D] int; var s: int; forall i in 2..7 with (+ reduce s) do s += A[i-1];") ≡ Some 0
unfolding on_locales
empty_box_on_locale_0 = refl

start_past_the_limit_on_locale_0 : remote_by four (codes "const D = {1..8} dmapped new cyclicDist(1152921504606846977); var A: [D] int; var s: int; forall i in 2..7 with (+ reduce s) do s += A[i-1];") ≡ Some 0
unfolding on_locales
start_past_the_limit_on_locale_0 = refl

-- ---- reads
-- an inner loop's tuple name isn't the forall's
inner_tuple_name : remote_by square (codes "const D = {1..2, 1..2} dmapped new blockDist({1..2, 1..2}); const E = {1..2, 1..2} dmapped new cyclicDist((2, 2)); var A: [E] int; var s: int; forall t in D with (+ reduce s) do for u in D do s += A[u];") ≡ Some 0
unfolding on_locales
inner_tuple_name = refl

coordinates_turned_round : remote_by square (codes "const D = {1..2, 1..2} dmapped new blockDist({1..2, 1..2}); var A: [D] int; var B: [D] int; forall (i,j) in D do B[i,j] = A[j,i];") ≡ Some 2
unfolding on_locales
coordinates_turned_round = refl

one_coordinate_twice : remote_by square (codes "const D = {1..2, 1..2} dmapped new blockDist({1..2, 1..2}); var A: [D] int; var B: [D] int; forall (i,j) in D do B[i,j] = A[i,i];") ≡ Some 2
unfolding on_locales
one_coordinate_twice = refl

a_coordinate_and_a_number : remote_by square (codes "const D = {1..2, 1..2} dmapped new blockDist({1..2, 1..2}); var A: [D] int; var B: [D] int; forall (i,j) in D do B[i,j] = A[1,j];") ≡ Some 0
unfolding on_locales
a_coordinate_and_a_number = refl

three_coordinates : remote_by four (codes "const D = {1..4, 1..2, 1..2} dmapped new blockDist({1..4, 1..2, 1..2}); var A: [D] int; var B: [D] int; forall (i,j,k) in D[2..4, 1..2, 1..2] do B[i,j,k] = A[i-1,j,k];") ≡ Some 12
unfolding on_locales
three_coordinates = refl

tuple_name_of_three : remote_by four (codes "const D = {1..4, 1..2, 1..2} dmapped new blockDist({1..4, 1..2, 1..2}); const E = D[1..4, 1..2, 1..2] dmapped new cyclicDist((2, 1, 1)); var A: [E] int; var B: [D] int; forall t in D do B[t] = A[t];") ≡ Some 16
unfolding on_locales
tuple_name_of_three = refl

strided_loop : remote_by four (codes "const D = {1..8} dmapped new blockDist({1..8}); var A: [D] int; var B: [D] int; forall i in {3..8 by 2} do B[i] = A[i-1];") ≡ Some 3
unfolding on_locales
strided_loop = refl

downward_loop : remote_by four (codes "const D = {1..8} dmapped new blockDist({1..8}); var A: [D] int; var B: [D] int; forall i in {1..8 by -3} do B[i] = A[i-1];") ≡ Some 1
unfolding on_locales
downward_loop = refl

strided_array : remote_by four (codes "const D = cyclicDist.createDomain({1..8 by -3}); var A: [D] int; var B: [D] int; forall i in D[2..5] do B[i] = A[i+3];") ≡ Some 2
unfolding on_locales
strided_array = refl

two_arrays_in_turn : remote_by four (codes "const D = {1..8} dmapped new blockDist({1..8}); var A: [D] int; var B: [D] int; var C: [D] int; forall i in D[2..7] do B[i] = A[i-1] + C[i+1] + A[i-1];") ≡ Some 6
unfolding on_locales
two_arrays_in_turn = refl

-- turn 2 faults
in_an_index : remote_by four (codes "const D = {1..8} dmapped new blockDist({1..8}); var A: [D] int; var B: [D] int; var C: [D] int; forall i in D[2..7] do B[i] = A[C[i-1]];") ≡ Some 3
unfolding on_locales
in_an_index = refl

in_an_inner_head : remote_by four (codes "const D = {1..8} dmapped new blockDist({1..8}); var A: [D] int; var B: [D] int; forall i in D[2..7] do for k in 1..A[i-1] do B[i] = 1;") ≡ Some 3
unfolding on_locales
in_an_inner_head = refl

in_the_head : remote_by four (codes "const D = {1..8} dmapped new blockDist({1..8}); var A: [D] int; var B: [D] int; forall i in D[A[2]+2..7] do B[i] = 1;") ≡ Some 0
unfolding on_locales
in_the_head = refl

past_the_greatest_int : remote_by four (codes "const D = {1..8} dmapped new blockDist({1..8}); var A: [D] int; var B: [D] int; forall i in D[2..7] do B[i] = A[i+9223372036854775807];") ≡ Some 0
unfolding on_locales
past_the_greatest_int = refl

-- ---- foralls
-- locale 0 reads 3 to 8; turn 1 faults
just_the_budget : remote_by four (codes "const D = {1..8} dmapped new blockDist({1..8}); var A: [D] int; var B: [D] int; forall i in 1..100 do if A[i-1] > 0 then ;") ≡ Some 6
unfolding on_locales
just_the_budget = refl

just_past_the_budget : remote_by four (codes "const D = {1..8} dmapped new blockDist({1..8}); var A: [D] int; var B: [D] int; forall i in 1..101 do if A[i-1] > 0 then ;") ≡ Some 0
unfolding on_locales
just_past_the_budget = refl

in_one_column : remote_by four (codes "const D = {1..8} dmapped new blockDist({1..8}); var A: [D] int; var B: [D] int; \nforall i in D[2..7] do B[i] = A[i-1];\nforall i in D[2..6] do B[i] = A[i+1] + A[i-1];") ≡ Some 8
unfolding on_locales
in_one_column = refl

-- 3 over 2..7, and 2 over 4..7
a_domain_for_each_entry : remote_by four (codes "const D = {1..8} dmapped new blockDist({1..8}); var A: [D] int; var B: [D] int; for k in 1..2 do forall i in D[k*2..7] do B[i] = A[i-1];") ≡ Some 5
unfolding on_locales
a_domain_for_each_entry = refl

on_each_locale : remote_by four (codes "const D = {1..8} dmapped new blockDist({1..8}); var A: [D] int; var B: [D] int; for loc in Locales do on loc do forall i in D[2..7] do B[i] = A[i-1];") ≡ Some 12
unfolding on_locales
on_each_locale = refl

without_a_turn : remote_by four (codes "const D = {1..8} dmapped new blockDist({1..8}); var A: [D] int; var B: [D] int; forall i in D[5..4] do B[i] = A[i-1];") ≡ Some 0
unfolding on_locales
without_a_turn = refl

head_without_a_value : remote_by four (codes "const D = {1..8} dmapped new blockDist({1..8}); var A: [D] int; var B: [D] int; forall i in D[2..1/0] do B[i] = A[i-1];") ≡ Some 0
unfolding on_locales
head_without_a_value = refl

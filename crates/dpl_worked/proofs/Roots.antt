-- By which roots texts deal out their domains and arrays: what is named for each, and the domain that it was declared with.
-- Each row is computed from the text's bytes on, and asks the last state.
use Rattle.std.proofs.Common.{◌≡◌, ℕ, ℤ, pos, negsuc, true, List, [], ◌∷◌, Option, Some, None, Ok, Err, refl}
use Rattle.std.specs.Prelude.{codes}
use Rattle.std.specs.Int.{int_wrap}
use Rattle.dpl_sets.specs.Members.{members}
use Rattle.dpl_sets.specs.Indices.{indices}
use Rattle.dpl_sets.specs.TextRanges.{TextRange}
use Rattle.dpl_syntax.specs.declared.token.Token.{Token}
use Rattle.dpl_syntax.specs.declared.refusal.Refusal.{Refusal}
use Rattle.dpl_grammar.specs.Reader.{Read}
use Rattle.dpl_language.specs.Distributions.{NoMap, BlockOver, CyclicFrom, BlockCyclicFrom, Root}
use Rattle.dpl_language.specs.Names.{Text, State, by_name}
use Rattle.dpl_language.specs.Outcome.{Outcome, Done}
use Rattle.dpl_language.specs.Ranges.{unstrided}
use Rattle.dpl_spelling.specs.Grammar.{Program}
use Rattle.dpl_spelling.proofs.Programs.{read}
use Rattle.dpl_rules.specs.Sound.{refusal}
use Rattle.dpl_says.specs.Says.{run_of}
use Rattle.dpl_worked.proofs.Lexer.{tokens_of}
use Rattle.dpl_worked.proofs.Texts.{by_text}

-- ---- the root that a name has where a program ends; none of a text that is refused or stopped
module _ (x : Text) where
  abbrev in_last : Outcome State → Option Root
  in_last (Done s done) = Some (by_name.root x s)
  in_last _ = None

  abbrev of_sound : Option Refusal → Program → Option Root
  of_sound None t = in_last (run_of t [] (record { budget = 100; locales = 4 }) [])
  of_sound (Some r) t = None

  abbrev of_tree : Program → List Token → Option Root
  of_tree t [] = of_sound (refusal t []) t
  of_tree t (k ∷ ks) = None

  abbrev of_read : Read Program → Option Root
  of_read (Ok p) = of_tree p.0 p.1
  of_read (Err e) = None

  abbrev of_tokens : Option (List Token) → Option Root
  of_tokens None = None
  of_tokens (Some ks) = of_read (read 64 ks)

abbrev root_in : List ℕ → List ℕ → Option Root
root_in x text = of_tokens x (tokens_of text)

-- ---- the domains of the rows
abbrev line : ℤ → ℤ → List TextRange
line low high = unstrided low high ∷ []

abbrev strided_line : ℤ → ℤ → ℤ → List TextRange
strided_line low high stride = record { value = record { low = low; high = high; stride = stride }; strided = true } ∷ []

abbrev eight : List TextRange
eight = line (pos 1) (pos 8)

-- a root with this domain for which no map is named, and with a box, a start, or blocks
abbrev unmapped : List TextRange → Option Root
unmapped rs = Some (record { named = NoMap; domain = rs })

abbrev boxed : List TextRange → List TextRange → Option Root
boxed box rs = Some (record { named = BlockOver box; domain = rs })

abbrev cyclic : List ℤ → List TextRange → Option Root
cyclic t rs = Some (record { named = CyclicFrom t; domain = rs })

abbrev blocks : List ℤ → List ℤ → List TextRange → Option Root
blocks t sizes rs = Some (record { named = BlockCyclicFrom t sizes; domain = rs })

-- ---- maps behind a value and behind a type
block_behind_a_value : root_in (codes "D") (codes "const D = {1..8} dmapped new blockDist(boundingBox={0..9});") ≡ boxed (line (pos 0) (pos 9)) eight
unfolding by_text int_wrap members indices
block_behind_a_value = refl

block_behind_a_type : root_in (codes "D") (codes "var D: domain(1) dmapped new blockDist({0..9}) = {1..8};") ≡ boxed (line (pos 0) (pos 9)) eight
unfolding by_text int_wrap members indices
block_behind_a_type = refl

-- a domain without a value has the map of its type, and so it keeps it where it is assigned
block_of_an_empty_domain : root_in (codes "D") (codes "var D: domain(1) dmapped new blockDist({0..9}); D = {1..8};") ≡ boxed (line (pos 0) (pos 9)) (line (pos 1) (pos 0))
unfolding by_text int_wrap members indices
block_of_an_empty_domain = refl

-- the type's map goes before the root of the value
type_before_value : root_in (codes "E") (codes "const D = {1..8} dmapped new cyclicDist(2); var E: domain(1) dmapped new cyclicDist(1) = D;") ≡ cyclic (pos 1 ∷ []) eight
unfolding by_text int_wrap members indices
type_before_value = refl

-- ---- starts: an int, a tuple, and the least members of a domain
cyclic_from_an_int : root_in (codes "D") (codes "var n = 2; const D = {1..8} dmapped new cyclicDist(startIdx=n + 1);") ≡ cyclic (pos 3 ∷ []) eight
unfolding by_text int_wrap members indices
cyclic_from_an_int = refl

cyclic_from_a_tuple : root_in (codes "D") (codes "const D = {1..2, 1..3} dmapped new cyclicDist((1, -4));") ≡ cyclic (pos 1 ∷ negsuc 3 ∷ []) (unstrided (pos 1) (pos 2) ∷ unstrided (pos 1) (pos 3) ∷ [])
unfolding by_text int_wrap members indices
cyclic_from_a_tuple = refl

-- `by -3` has its least member last
cyclic_from_least : root_in (codes "D") (codes "const X = {1..8 by -3}; const D = {1..8} dmapped new cyclicDist(X.low);") ≡ cyclic (pos 2 ∷ []) eight
unfolding by_text int_wrap members indices
cyclic_from_least = refl

cyclic_from_low_bound : root_in (codes "D") (codes "const D = {1..2, 1..2} dmapped new cyclicDist({3..4, 5..6}.lowBound);") ≡ cyclic (pos 3 ∷ pos 5 ∷ []) (unstrided (pos 1) (pos 2) ∷ unstrided (pos 1) (pos 2) ∷ [])
unfolding by_text int_wrap members indices
cyclic_from_low_bound = refl

block_cyclic : root_in (codes "D") (codes "const D = {1..8} dmapped new blockCycDist(startIdx=1, blocksize=2);") ≡ blocks (pos 1 ∷ []) (pos 2 ∷ []) eight
unfolding by_text int_wrap members indices
block_cyclic = refl

-- sizes that no map takes are named all the same; which map that is the layout says
block_cyclic_of_no_size : root_in (codes "D") (codes "const D = {1..8} dmapped new blockCycDist(1, 0);") ≡ blocks (pos 1 ∷ []) (pos 0 ∷ []) eight
unfolding by_text int_wrap members indices
block_cyclic_of_no_size = refl

-- ---- arguments without a value: no map is named, and the program goes on
box_without_a_value : root_in (codes "D") (codes "const D = {1..8} dmapped new blockDist({1..1/0});") ≡ unmapped eight
unfolding by_text int_wrap members indices
box_without_a_value = refl

start_without_a_value : root_in (codes "D") (codes "const D = {1..8} dmapped new cyclicDist(1 % 0);") ≡ unmapped eight
unfolding by_text int_wrap members indices
start_without_a_value = refl

second_of_a_tuple_without_a_value : root_in (codes "D") (codes "const D = {1..2, 1..2} dmapped new cyclicDist((1, 1/0));") ≡ unmapped (unstrided (pos 1) (pos 2) ∷ unstrided (pos 1) (pos 2) ∷ [])
unfolding by_text int_wrap members indices
second_of_a_tuple_without_a_value = refl

least_of_nothing : root_in (codes "D") (codes "const D = {1..8} dmapped new cyclicDist({1..0}.low);") ≡ unmapped eight
unfolding by_text int_wrap members indices
least_of_nothing = refl

size_without_a_value : root_in (codes "D") (codes "const D = {1..8} dmapped new blockCycDist(1, 1/0);") ≡ unmapped eight
unfolding by_text int_wrap members indices
size_without_a_value = refl

-- an argument is evaluated where the name isn't yet known
argument_of_an_outer_name : root_in (codes "E") (codes "var n = 3; const E = {1..8} dmapped new cyclicDist(n); n = 4;") ≡ cyclic (pos 3 ∷ []) eight
unfolding by_text int_wrap members indices
argument_of_an_outer_name = refl

-- ---- created domains
created_block : root_in (codes "D") (codes "const D = blockDist.createDomain(1..8);") ≡ boxed eight eight
unfolding by_text int_wrap members indices
created_block = refl

created_cyclic : root_in (codes "D") (codes "const D = cyclicDist.createDomain({1..8 by -3});") ≡ cyclic (pos 2 ∷ []) (strided_line (pos 1) (pos 8) (negsuc 2))
unfolding by_text int_wrap members indices
created_cyclic = refl

created_of_nothing : root_in (codes "D") (codes "const D = cyclicDist.createDomain({1..0});") ≡ unmapped (line (pos 1) (pos 0))
unfolding by_text int_wrap members indices
created_of_nothing = refl

created_from_a_mapped_domain : root_in (codes "D") (codes "const X = {1..8} dmapped new cyclicDist(1); const D = blockDist.createDomain(X);") ≡ boxed eight eight
unfolding by_text int_wrap members indices
created_from_a_mapped_domain = refl

-- ---- derived domains have the root of the name from which they are derived
derived : root_in (codes "E") (codes "const D = {1..8} dmapped new cyclicDist(1); const E = D;") ≡ cyclic (pos 1 ∷ []) eight
unfolding by_text int_wrap members indices
derived = refl

derived_by_a_slice : root_in (codes "E") (codes "const D = {1..8} dmapped new cyclicDist(1); const E = (D)[2..7].expand(-1);") ≡ cyclic (pos 1 ∷ []) eight
unfolding by_text int_wrap members indices
derived_by_a_slice = refl

derived_from_an_array : root_in (codes "E") (codes "const D = {1..8} dmapped new cyclicDist(1); var A: [D] int; const E = A.domain;") ≡ cyclic (pos 1 ∷ []) eight
unfolding by_text int_wrap members indices
derived_from_an_array = refl

-- with a type that is written, with a map, and by a literal, it is a root
typed_is_a_root : root_in (codes "E") (codes "const D = {1..8} dmapped new cyclicDist(1); const E: domain(1) = D;") ≡ unmapped eight
unfolding by_text int_wrap members indices
typed_is_a_root = refl

mapped_is_a_root : root_in (codes "E") (codes "const D = {1..8} dmapped new cyclicDist(1); const E = D[2..3] dmapped new cyclicDist(2);") ≡ cyclic (pos 2 ∷ []) (line (pos 2) (pos 3))
unfolding by_text int_wrap members indices
mapped_is_a_root = refl

literal_is_a_root : root_in (codes "E") (codes "const D = {1..8} dmapped new cyclicDist(1); const E = {1..8}[2..3];") ≡ unmapped (line (pos 2) (pos 3))
unfolding by_text int_wrap members indices
literal_is_a_root = refl

-- a literal of a domain is derived from none
literal_of_a_domain : root_in (codes "E") (codes "const D = {1..8} dmapped new cyclicDist(1); const E = {D.dim(0)};") ≡ unmapped eight
unfolding by_text int_wrap members indices
literal_of_a_domain = refl

-- ---- arrays have the root of what stands between their brackets
array_over_a_domain : root_in (codes "A") (codes "const D = {1..8} dmapped new cyclicDist(1); var A: [D] int;") ≡ cyclic (pos 1 ∷ []) eight
unfolding by_text int_wrap members indices
array_over_a_domain = refl

array_over_a_slice : root_in (codes "A") (codes "const D = {1..8} dmapped new cyclicDist(1); var A: [D[2..3]] int;") ≡ cyclic (pos 1 ∷ []) eight
unfolding by_text int_wrap members indices
array_over_a_slice = refl

array_over_ranges : root_in (codes "A") (codes "var A: [1..8] int;") ≡ unmapped eight
unfolding by_text int_wrap members indices
array_over_ranges = refl

array_over_a_literal : root_in (codes "A") (codes "var A: [{1..8}.expand(1)] int;") ≡ unmapped (line (pos 0) (pos 9))
unfolding by_text int_wrap members indices
array_over_a_literal = refl

-- ---- an assigned domain keeps its root, and so do the arrays over it
assigned_domain : root_in (codes "A") (codes "var D = {1..8} dmapped new cyclicDist(1); var A: [D] int; D = {3..4};") ≡ cyclic (pos 1 ∷ []) eight
unfolding by_text int_wrap members indices
assigned_domain = refl

-- ---- a hidden name has a root of its own, and the outer one is there again behind the block
hidden_behind : root_in (codes "D") (codes "const D = {1..8} dmapped new cyclicDist(1); { const D = {1..2} dmapped new cyclicDist(2); write(D.size); }") ≡ cyclic (pos 1 ∷ []) eight
unfolding by_text int_wrap members indices
hidden_behind = refl

-- ---- a second reader's rows: names, dimensions and slices
-- a domain's dimension is a range, so the array is a root
array_over_a_dimension : root_in (codes "A") (codes "const D = {1..8} dmapped new cyclicDist(1); var A: [D.dim(0)] int;") ≡ unmapped eight
unfolding by_text int_wrap members indices
array_over_a_dimension = refl

array_over_a_dimension_and_a_range : root_in (codes "A") (codes "const D = {1..8} dmapped new cyclicDist(1); var A: [D.dim(0), 1..3] int;") ≡ unmapped (unstrided (pos 1) (pos 8) ∷ unstrided (pos 1) (pos 3) ∷ [])
unfolding by_text int_wrap members indices
array_over_a_dimension_and_a_range = refl

-- a range has no root that the array could have
array_over_a_ranges_name : root_in (codes "A") (codes "const r = 1..8; var A: [r] int;") ≡ unmapped eight
unfolding by_text int_wrap members indices
array_over_a_ranges_name = refl

array_over_a_ranges_slice : root_in (codes "A") (codes "const r = 0..9; var A: [r[1..8]] int;") ≡ unmapped eight
unfolding by_text int_wrap members indices
array_over_a_ranges_slice = refl

array_over_an_arrays_domain : root_in (codes "B") (codes "const D = {1..8} dmapped new cyclicDist(1); var A: [D] int; var B: [A.domain[2..3]] int;") ≡ cyclic (pos 1 ∷ []) eight
unfolding by_text int_wrap members indices
array_over_an_arrays_domain = refl

derived_twice : root_in (codes "F") (codes "const D = {1..8} dmapped new cyclicDist(1); const E = D[2..7]; const F = E.expand(1);") ≡ cyclic (pos 1 ∷ []) eight
unfolding by_text int_wrap members indices
derived_twice = refl

-- the root of the array, which has the domain that it was declared with
derived_from_an_array_over_ranges : root_in (codes "E") (codes "var A: [1..8] int; const E = A.domain[2..3];") ≡ unmapped eight
unfolding by_text int_wrap members indices
derived_from_an_array_over_ranges = refl

-- the domain that D was declared with
derived_from_an_assigned_domain : root_in (codes "E") (codes "var D = {1..8} dmapped new cyclicDist(1); D = {3..4}; const E = D;") ≡ cyclic (pos 1 ∷ []) eight
unfolding by_text int_wrap members indices
derived_from_an_assigned_domain = refl

array_over_an_assigned_domain : root_in (codes "A") (codes "var D = {1..8} dmapped new cyclicDist(1); D = {3..4}; var A: [D] int;") ≡ cyclic (pos 1 ∷ []) eight
unfolding by_text int_wrap members indices
array_over_an_assigned_domain = refl

derived_from_a_typed_domain : root_in (codes "F") (codes "const D = {1..8} dmapped new cyclicDist(1); const E: domain(1) = D[2..3]; const F = E;") ≡ unmapped (line (pos 2) (pos 3))
unfolding by_text int_wrap members indices
derived_from_a_typed_domain = refl

-- an assignment changes no root
assigned_a_mapped_domain : root_in (codes "E") (codes "const D = {1..8} dmapped new cyclicDist(1); var E = {1..4}; E = D;") ≡ unmapped (line (pos 1) (pos 4))
unfolding by_text int_wrap members indices
assigned_a_mapped_domain = refl

-- ---- domains without a value, and of several dimensions
domain_without_a_value : root_in (codes "D") (codes "var D: domain(1);") ≡ unmapped (line (pos 1) (pos 0))
unfolding by_text int_wrap members indices
domain_without_a_value = refl

domain_without_a_value_of_two : root_in (codes "D") (codes "var D: domain(2);") ≡ unmapped (unstrided (pos 1) (pos 0) ∷ unstrided (pos 1) (pos 0) ∷ [])
unfolding by_text int_wrap members indices
domain_without_a_value_of_two = refl

block_of_two : root_in (codes "D") (codes "const D = {1..2, 1..3} dmapped new blockDist({1..4, 0..3});") ≡ boxed (unstrided (pos 1) (pos 4) ∷ unstrided (pos 0) (pos 3) ∷ []) (unstrided (pos 1) (pos 2) ∷ unstrided (pos 1) (pos 3) ∷ [])
unfolding by_text int_wrap members indices
block_of_two = refl

block_of_a_name : root_in (codes "D") (codes "const X = {0..9}; const D = {1..8} dmapped new blockDist(X);") ≡ boxed (line (pos 0) (pos 9)) eight
unfolding by_text int_wrap members indices
block_of_a_name = refl

block_cyclic_of_two : root_in (codes "D") (codes "const D = {1..2, 1..3} dmapped new blockCycDist((1, 2), (3, 4));") ≡ blocks (pos 1 ∷ pos 2 ∷ []) (pos 3 ∷ pos 4 ∷ []) (unstrided (pos 1) (pos 2) ∷ unstrided (pos 1) (pos 3) ∷ [])
unfolding by_text int_wrap members indices
block_cyclic_of_two = refl

created_of_two_ranges : root_in (codes "D") (codes "const D = cyclicDist.createDomain(3..4, 5..6);") ≡ cyclic (pos 3 ∷ pos 5 ∷ []) (unstrided (pos 3) (pos 4) ∷ unstrided (pos 5) (pos 6) ∷ [])
unfolding by_text int_wrap members indices
created_of_two_ranges = refl

created_of_nothing_in_one : root_in (codes "D") (codes "const D = cyclicDist.createDomain(3..4, 5..4);") ≡ unmapped (unstrided (pos 3) (pos 4) ∷ unstrided (pos 5) (pos 4) ∷ [])
unfolding by_text int_wrap members indices
created_of_nothing_in_one = refl

created_block_of_nothing : root_in (codes "D") (codes "const D = blockDist.createDomain(5..4);") ≡ boxed (line (pos 5) (pos 4)) (line (pos 5) (pos 4))
unfolding by_text int_wrap members indices
created_block_of_nothing = refl

-- ---- arguments
cyclic_from_an_arrays_domain : root_in (codes "D") (codes "var A: [3..4] int; const D = {1..8} dmapped new cyclicDist(A.domain.low);") ≡ cyclic (pos 3 ∷ []) eight
unfolding by_text int_wrap members indices
cyclic_from_an_arrays_domain = refl

cyclic_from_the_low_of_a_range : root_in (codes "D") (codes "const r = 1..8 by -3; const D = {1..8} dmapped new cyclicDist(r.low);") ≡ cyclic (pos 2 ∷ []) eight
unfolding by_text int_wrap members indices
cyclic_from_the_low_of_a_range = refl

low_of_an_empty_range : root_in (codes "D") (codes "const r = 1..0; const D = {1..8} dmapped new cyclicDist(r.low);") ≡ unmapped eight
unfolding by_text int_wrap members indices
low_of_an_empty_range = refl

low_bound_of_nothing : root_in (codes "D") (codes "const D = {1..2, 1..2} dmapped new cyclicDist({1..2, 5..4}.lowBound);") ≡ unmapped (unstrided (pos 1) (pos 2) ∷ unstrided (pos 1) (pos 2) ∷ [])
unfolding by_text int_wrap members indices
low_bound_of_nothing = refl

cyclic_from_the_locale_count : root_in (codes "D") (codes "const D = {1..8} dmapped new cyclicDist(numLocales + here.id);") ≡ cyclic (pos 4 ∷ []) eight
unfolding by_text int_wrap members indices
cyclic_from_the_locale_count = refl

cyclic_from_an_element : root_in (codes "D") (codes "var A: [1..2] int; A[2] = 5; const D = {1..8} dmapped new cyclicDist(A[2]);") ≡ cyclic (pos 5 ∷ []) eight
unfolding by_text int_wrap members indices
cyclic_from_an_element = refl

element_without_a_value : root_in (codes "D") (codes "var A: [1..2] int; const D: domain(1) dmapped new cyclicDist(A[3]) = {1..8};") ≡ unmapped eight
unfolding by_text int_wrap members indices
element_without_a_value = refl

start_of_blocks_without_a_value : root_in (codes "D") (codes "const D = {1..8} dmapped new blockCycDist(1/0, 2);") ≡ unmapped eight
unfolding by_text int_wrap members indices
start_of_blocks_without_a_value = refl

sizes_of_least : root_in (codes "D") (codes "const S = {2..3}; const D = {1..8} dmapped new blockCycDist(1, S.low);") ≡ blocks (pos 1 ∷ []) (pos 2 ∷ []) eight
unfolding by_text int_wrap members indices
sizes_of_least = refl

sizes_of_nothing : root_in (codes "D") (codes "const S = {2..1}; const D = {1..8} dmapped new blockCycDist(1, S.low);") ≡ unmapped eight
unfolding by_text int_wrap members indices
sizes_of_nothing = refl

-- a map behind the type and another one behind the value are refused
mapped_twice : root_in (codes "D") (codes "var D: domain(1) dmapped new cyclicDist(1) = {1..8} dmapped new cyclicDist(2);") ≡ None
unfolding by_text int_wrap members indices
mapped_twice = refl

mapped_behind_a_typed_value : root_in (codes "D") (codes "var D: domain(1) = {1..8} dmapped new cyclicDist(2);") ≡ None
unfolding by_text int_wrap members indices
mapped_behind_a_typed_value = refl

-- Rows: small loops, whole and by their parts.
use Rattle.std.proofs.Common.{◌≡◌, ℕ, ◌%◌, ◌==◌, List, [], ◌∷◌, ℤ, pos, map, Result, Ok, Err, refl}
use Rattle.std.specs.Prelude.{◌*ℤ◌, neg_ℤ, if◌then◌else◌, unsigned_abs}
use Rattle.std.specs.Int.{int_wrap}
use Rattle.dpl_language.specs.Tree.{Sum, AllOf, Greatest}
use Rattle.dpl_language.specs.Values.{Value, Int, Index, Fault, fault, ZeroDivisor, Outside}
use Rattle.dpl_language.specs.Arithmetic.{combined, unit_of}
use Rattle.dpl_language.specs.Ranges.{same_index}
use Rattle.dpl_language.specs.Expressions.{folded}
use Rattle.dpl_apart.specs.Operands.{combined_words, unit_word, all_combined}
use Rattle.dpl_apart.specs.Rows.{Turned, Leaves, Fails, Ran, Finished, Failed, Loop, run, merge, onto, part_of, merged, numbered, place_in}
use Rattle.dpl_apart.specs.Folds.{fold_loop, no_rows, fold_of}

-- ---- words of reduce variables
sums : all_combined (Sum ∷ Greatest ∷ AllOf ∷ []) (pos 5 ∷ pos 7 ∷ pos 1 ∷ []) (pos 2 ∷ pos 9 ∷ pos 0 ∷ []) ≡ pos 7 ∷ pos 9 ∷ pos 0 ∷ []
unfolding int_wrap
sums = refl

-- a word that is the truth value true, and isn't 1, doesn't stay what it is
true_made_one : combined_words AllOf (pos 2) (unit_word AllOf) ≡ pos 1
true_made_one = refl

-- the greatest of nothing is the least int, to which each value is put
greatest_of_nothing : folded Greatest (λ t. Ok (Int (pos 3))) [] (unit_of Greatest) ≡ Ok (Int (neg_ℤ (pos 9223372036854775808)))
greatest_of_nothing = refl

-- ---- A[i] = i * i and s += i, for i from 1 to 4
abbrev on_a_line : ℤ → Index
on_a_line i = i ∷ []

abbrev four : List Index
four = on_a_line (pos 1) ∷ on_a_line (pos 2) ∷ on_a_line (pos 3) ∷ on_a_line (pos 4) ∷ []

abbrev first_of : Index → ℤ
first_of [] = pos 0
first_of (i ∷ is) = i

abbrev squares : Loop ℤ ℤ
squares = record { turn = λ t row. Leaves (first_of t *ℤ first_of t) (first_of t); join = combined_words Sum; place = place_in four }

abbrev zeros : Index → ℤ
zeros t = pos 0

-- what is shown of an end: the rows of these indices and the reduce variable, or the place and the fault
abbrev shown : List Index → Ran ℤ ℤ → Result (List ℤ × ℤ) (ℕ × Fault)
shown ts (Finished rows a) = Ok (map rows ts, a)
shown ts (Failed k f) = Err (k, f)

squares_in_order : shown four (run squares four zeros (pos 5)) ≡ Ok (pos 1 ∷ pos 4 ∷ pos 9 ∷ pos 16 ∷ [], pos 15)
unfolding int_wrap
squares_in_order = refl

-- even indices are the locale 0's, and odd ones the locale 1's
abbrev parity : Index → ℕ
parity t = unsigned_abs (first_of t) % 2

abbrev parts : Loop ℤ ℤ → ℤ → ℕ → Ran ℤ ℤ
parts loop begin l = run loop (part_of parity l four) zeros begin

abbrev together : Loop ℤ ℤ → ℤ → ℕ → Ran ℤ ℤ
together loop begin n = merged loop.join parity (parts loop begin) (Finished zeros begin) (numbered 0 n)

-- a locale's part alone
odd_part : shown four (parts squares (pos 0) 1) ≡ Ok (pos 1 ∷ pos 0 ∷ pos 9 ∷ pos 0 ∷ [], pos 4)
unfolding int_wrap
odd_part = refl

-- both parts together, put to the variable's 5
by_two_parts : shown four (onto squares.join (pos 5) (together squares (pos 0) 2)) ≡ Ok (pos 1 ∷ pos 4 ∷ pos 9 ∷ pos 16 ∷ [], pos 15)
unfolding int_wrap
by_two_parts = refl

-- a third locale has no index, and adds nothing
with_an_empty_part : shown four (onto squares.join (pos 5) (together squares (pos 0) 3)) ≡ Ok (pos 1 ∷ pos 4 ∷ pos 9 ∷ pos 16 ∷ [], pos 15)
unfolding int_wrap
with_an_empty_part = refl

-- all indices are one locale's
by_one_part : shown four (onto squares.join (pos 5) (merged squares.join (λ t. 0) (λ l. run squares (part_of (λ t. 0) l four) zeros (pos 0)) (Finished zeros (pos 0)) (numbered 0 1)))
    ≡ Ok (pos 1 ∷ pos 4 ∷ pos 9 ∷ pos 16 ∷ [], pos 15)
unfolding int_wrap
by_one_part = refl

-- parts that began with the variable's 5 would count it once each
begun_from_the_variable : shown four (merge squares.join (λ t. parity t == 0) (parts squares (pos 5) 0) (parts squares (pos 5) 1)) ≡ Ok (pos 1 ∷ pos 4 ∷ pos 9 ∷ pos 16 ∷ [], pos 20)
unfolding int_wrap
begun_from_the_variable = refl

-- ---- faults: the turns of 3 and of 4 have one, that of 3 in the later part
abbrev at_three : Fault
at_three = fault ZeroDivisor (record { line = 1; column = 3 })

abbrev at_four : Fault
at_four = fault Outside (record { line = 1; column = 4 })

abbrev failing_turn : Index → ℤ → Turned ℤ ℤ
failing_turn t row =
    if same_index t (on_a_line (pos 3)) then Fails at_three else if same_index t (on_a_line (pos 4)) then Fails at_four else Leaves row (first_of t)

abbrev failing : Loop ℤ ℤ
failing = record squares { turn = failing_turn }

first_fault : shown four (run failing four zeros (pos 5)) ≡ Err (2, at_three)
unfolding int_wrap
first_fault = refl

fault_of_a_part : shown four (parts failing (pos 0) 0) ≡ Err (3, at_four)
unfolding int_wrap
fault_of_a_part = refl

earlier_place_wins : shown four (onto failing.join (pos 5) (together failing (pos 0) 2)) ≡ Err (2, at_three)
unfolding int_wrap
earlier_place_wins = refl

-- ---- reductions
abbrev negative : Index → Result Value Fault
negative t = Ok (Int (neg_ℤ (first_of t)))

abbrev greatest_parts : ℕ → Ran (Unit {0}) Value
greatest_parts l = run (fold_loop Greatest negative (place_in four)) (part_of parity l four) no_rows (unit_of Greatest)

-- the greatest of -1 to -4, of which a third part has none
greatest_by_parts : fold_of (merged (combined Greatest) parity greatest_parts (Finished no_rows (unit_of Greatest)) (numbered 0 3)) ≡ Ok (Int (neg_ℤ (pos 1)))
greatest_by_parts = refl

greatest_of_a_part : fold_of (greatest_parts 0) ≡ Ok (Int (neg_ℤ (pos 2)))
greatest_of_a_part = refl

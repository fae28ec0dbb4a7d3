-- A sample of plain variables with its names resolved: it fits, and it writes from a memory what it writes by names.
-- It has an int, a truth value, a range, a loop, and a forall with two reduce variables; both loops have one slot for their variable.
use Rattle.std.proofs.Common.{◌≡◌, ℕ, List, [], ◌∷◌, pos, true, false, refl, ◌∙◌, Some, None, rules, ℤ, Bool}
use Rattle.std.specs.Prelude.{codes, bytes_eq, int_lt, get_or, if◌then◌else◌}
use Rattle.std.specs.Int.{int_wrap}
use Rattle.std.specs.Fmt.{digits}
use Rattle.dpl_sets.specs.Members.{members}
use Rattle.dpl_sets.specs.Indices.{indices}
use Rattle.dpl_language.specs.Tree.{Placed, IntKind, ScalarType, Number, TruthWord, Named, Chain, Link, NoLinks, Less, One, RangeItem, Closed, NoStride, ItemInit, Sum, AllOf, SetAdd, SetReduce, ReduceIntent, OneVariable, Whole, TextArgument, ExprArgument, Declare, Assigned, Write, WordBody, BlockBody, Then, NoStmts, ProgramTree, Loop, ForWord, ForallWord}
use Rattle.dpl_language.specs.Program.{written}
use Rattle.dpl_agreement.specs.Renamed.{renamed_program}
use Rattle.dpl_syntax.specs.declared.place.Place.{Place}
use Rattle.dpl_language.proofs.ScalarsSamples.{configured}
use Rattle.dpl_agreement.specs.Scopes.{PlainForm, after_all, fits_all}
use Rattle.dpl_language.specs.Values.{Int, Truth, Range}
use Rattle.dpl_language.specs.Ranges.{unstrided}
use Rattle.dpl_language.specs.Environment.{Plain}
use Rattle.dpl_language.proofs.Spelled.{at, name, after, declared, initial, listed, sign, typed, with_intents, written_line}
use Rattle.dpl_language.proofs.Says.{limits, writes}
use Rattle.dpl_agreement.proofs.ProgramsAlike.{run_from}
use Rattle.dpl_words.specs.Words.{IntLeaf, TruthLeaf, RangeLeaf}
use Rattle.dpl_memory.specs.Memory.{PlainKind, Variable, int_leaf, truth_leaf, range_leaf, in_memory}
use Rattle.dpl_memory.specs.Resolved.{no_shape, Bound, Sighted, Sight, text_of, variable_of, left_in, Seen, first_seen, Suits, Start, resolving, first_memory, Declares, innermost, sighted}
use Rattle.dpl_memory.proofs.MemoryAgrees.{written-memory}
use Rattle.dpl_memory.proofs.Suiting.{Suits-truth, Suits-name, Suits-range_item, SuitsTurns-ranges, Suits-number}

-- var s: int; var b = true; const r = 1..4; for i in r do s += i; forall j in r with (+ reduce s, && reduce b) { s reduce= j; b reduce= j < 4; } writeln(s, " ", b);
abbrev sums : ProgramTree (List ℕ)
sums = record {
  uses = [];
  stmts =
      Then (Declare (declared None (at 1 1) false (name (codes "s") (at 1 5)) (Some (typed (at 1 6) (ScalarType (at 1 8) IntKind))) None (at 1 11)))
      (Then (Declare (declared None (at 1 13) false (name (codes "b") (at 1 17)) None (Some (initial (at 1 19) (ItemInit (One (TruthWord (at 1 21) true)) None))) (at 1 25)))
      (Then (Declare (declared None (at 1 27) true (name (codes "r") (at 1 33)) None
      (Some (initial (at 1 35) (ItemInit (RangeItem (Number (at 1 37) (pos 1)) (at 1 38) Closed (Number (at 1 40) (pos 4)) NoStride) None))) (at 1 41)))
      (Then (Loop ForWord (at 1 43) (OneVariable (name (codes "i") (at 1 47))) (at 1 49) (One (Named (name (codes "r") (at 1 52))))
      None (WordBody (at 1 54) (Assigned (Whole (name (codes "s") (at 1 57))) (sign (at 1 59) SetAdd (at 1 59)) (One (Named (name (codes "i") (at 1 62)))) (at 1 63))))
      (Then (Loop ForallWord (at 1 65) (OneVariable (name (codes "j") (at 1 72))) (at 1 74) (One (Named (name (codes "r") (at 1 77))))
      (Some (with_intents (at 1 79) (at 1 84)
      (listed (ReduceIntent (at 1 85) Sum (at 1 87) (name (codes "s") (at 1 94))) (after (at 1 95) (ReduceIntent (at 1 97) AllOf (at 1 100) (name (codes "b") (at 1 107))) ∷ []))
      (at 1 108)))
      (BlockBody (at 1 110)
      (Then (Assigned (Whole (name (codes "s") (at 1 112))) (sign (at 1 114) SetReduce (at 1 120)) (One (Named (name (codes "j") (at 1 122)))) (at 1 123))
      (Then (Assigned (Whole (name (codes "b") (at 1 125))) (sign (at 1 127) SetReduce (at 1 133))
      (One (Chain (Named (name (codes "j") (at 1 135))) (Link (at 1 137) Less (Number (at 1 139) (pos 4)) NoLinks))) (at 1 140)) NoStmts)) (at 1 142)))
      (Then (Write (written_line (at 1 144) true (at 1 151)
      (Some (listed (ExprArgument (Named (name (codes "s") (at 1 152))))
      (after (at 1 153) (TextArgument (at 1 155) (codes " ")) ∷ after (at 1 158) (ExprArgument (Named (name (codes "b") (at 1 160)))) ∷ []))) (at 1 161) (at 1 162))) NoStmts)))));
  end = at 1 163;
}

-- s has slot 0, b slot 1, r slot 2, and i and j have slot 3
abbrev leaf : List ℕ → Variable
leaf x = if bytes_eq x (codes "s") then int_leaf 0 else if bytes_eq x (codes "b") then truth_leaf 1 else if bytes_eq x (codes "r") then range_leaf 2 else int_leaf 3

abbrev resolved : List ℕ → Bound
resolved x = record { text = x; variable = leaf x; shape = no_shape }

abbrev sums_resolved : ProgramTree Bound
sums_resolved = renamed_program resolved sums

-- four slots, and nothing set
abbrev start : Start
start = record { slots = 4; cells = 0; texts = []; words = []; histories = None }

sums_spelled : renamed_program text_of sums_resolved ≡ sums
sums_spelled = refl

abbrev placed : List ℕ → ℕ → Placed Bound
placed x column = record { at = at 1 column; name = resolved x }

-- b reduce= j < 4;
below_four : (g : Seen) → Suits (PlainKind TruthLeaf) no_shape (One (Chain (Named (placed (codes "j") 135)) (Link (at 1 137) Less (Number (at 1 139) (pos 4)) NoLinks))) g
below_four g limits s shaped v e = ((int_lt (get_or s.words.numbers 3 (pos 0)) (pos 4), cc), λ p. tt)

-- what is in sight: s, then b, then r; in the loop i, and in the forall j and its reduce variables
abbrev plainly : List ℕ → Sighted
plainly x = sighted (resolved x) PlainForm

abbrev seeing : Sight → Seen
seeing fs = record { frames = fs; intents = [] }

abbrev top : List Sighted
top = plainly (codes "s") ∷ plainly (codes "b") ∷ plainly (codes "r") ∷ []

abbrev in_turn : Seen
in_turn = record { frames = [] ∷ (plainly (codes "j") ∷ []) ∷ top ∷ []; intents = (resolved (codes "s"), Sum) ∷ (resolved (codes "b"), AllOf) ∷ [] }

sums_fit : fits_all (resolving start) sums_resolved.stmts first_seen
sums_fit = ( -- var s: int;
  (tt, tt, (record { unused = search rules; within = search rules; along = tt }, λ e. e), tt, ((pos 0, refl), λ p. tt), (tt, tt)),
  ( -- var b = true;
    (tt, (tt, tt), (record { unused = search rules; within = search rules; along = tt }, λ e. e), tt, Suits-truth no_shape (seeing ((plainly (codes "s") ∷ []) ∷ [])) (at 1 21) true, (tt, tt)),
    ( -- const r = 1..4;
      (tt, ((tt, tt, tt), tt), (record { unused = search rules; within = search rules; along = tt }, λ e. e), tt, Suits-range_item no_shape (seeing ((plainly (codes "s") ∷ plainly (codes "b") ∷ []) ∷ [])) (Number (at 1 37) (pos 1)) (at 1 38) Closed (Number (at 1 40) (pos 4)), (tt, tt)),
      ( -- for i in r do s += i;
        (
          refl,
          SuitsTurns-ranges (One (Named (placed (codes "r") 52))) no_shape no_shape (seeing (top ∷ [])) (Suits-name (seeing (top ∷ [])) (placed (codes "r") 52) RangeLeaf refl refl),
          tt,
          (record { unused = search rules; within = search rules; along = tt }, λ e. e),
          (((refl, refl, tt, tt), λ t. (refl, refl)), (λ t. (refl, refl), tt), Suits-name (seeing ([] ∷ (plainly (codes "i") ∷ []) ∷ top ∷ [])) (placed (codes "i") 62) IntLeaf refl refl),
        ),
        ( -- forall j in r with (+ reduce s, && reduce b) { s reduce= j; b reduce= j < 4; }
          (
            refl,
            SuitsTurns-ranges (One (Named (placed (codes "r") 77))) no_shape no_shape (seeing (top ∷ [])) (Suits-name (seeing (top ∷ [])) (placed (codes "r") 77) RangeLeaf refl refl),
            refl,
            (record { unused = search rules; within = search rules; along = tt }, λ e. e),
            (
              (((refl, refl, (refl, refl), tt), λ t. (refl, refl)), (λ t. (refl, refl), tt), Suits-name in_turn (placed (codes "j") 122) IntLeaf refl refl),
              (
                (((refl, refl, (refl, refl), tt), λ t. (refl, refl)), (λ t. ((refl, refl), (tt, tt)), tt), below_four in_turn),
                tt,
              ),
            ),
          ),
          ( -- writeln(s, " ", b);
            ((refl, tt), λ t. refl, ((refl, tt), λ t. refl, tt)),
            tt,
          ),
        ),
      ),
    ),
  ),
)

sums_write : written (run_from (limits 16777216 1) in_memory (renamed_program variable_of sums_resolved) (first_memory start)) ≡ codes "20 false\n"
unfolding int_wrap digits members indices
sums_write = refl

sums_leave : left_in (after_all (resolving start) sums_resolved.stmts first_seen).frames (run_from (limits 16777216 1) in_memory (renamed_program variable_of sums_resolved) (first_memory start))
    ≡ Some
    (record { name = codes "s"; content = Plain (Int (pos 20)) }
    ∷ record { name = codes "b"; content = Plain (Truth false) }
    ∷ record { name = codes "r"; content = Plain (Range (unstrided (pos 1) (pos 4))) } ∷ [])
unfolding int_wrap digits members indices
sums_leave = refl

-- so by names it writes the same
sums_mean : writes sums ≡ codes "20 false\n"
sums_mean = written-memory start (limits 16777216 1) sums_resolved [] tt sums_fit ∙ sums_write

-- config const n = 4; writeln(n);
abbrev one_slot : Start
one_slot = record { slots = 1; cells = 0; texts = (codes "n", Int (pos 7)) ∷ []; words = (0, pos 7) ∷ []; histories = None }

abbrev configured_resolved : ProgramTree Bound
configured_resolved = renamed_program (λ x. record { text = x; variable = int_leaf 0; shape = no_shape }) configured

-- n is set to 7 by its text and by its slot
configured_fits : fits_all (resolving one_slot) configured_resolved.stmts first_seen
configured_fits = ((tt, (tt, tt), (record { unused = search rules; within = search rules; along = tt }, λ e. e), (refl, search rules, refl), Suits-number no_shape first_seen (at 1 18) (pos 4), (tt, tt)), (((refl, tt), λ t. refl, tt), tt))

configured_writes : written (run_from (limits 16777216 1) in_memory (renamed_program variable_of configured_resolved) (first_memory one_slot)) ≡ codes "7\n"
unfolding int_wrap digits members indices
configured_writes = refl

-- WHAT DOESN'T FIT: a number for a truth value
number_is_no_truth : (at : Place) (n : ℤ) → Suits (PlainKind TruthLeaf) no_shape (One (Number at n)) first_seen → ⊥
number_is_no_truth at n f =
    let of_kind = f (limits 1 1) (first_memory one_slot) (λ x e. cc) (Int n) refl in
    absurd (is_no_truth of_kind.0.0 of_kind.0.1)
  where
    is_no_truth : (b : Bool) → Int n ≡ Truth b → ⊥
    is_no_truth b e = cc

-- a slot that a name in sight has
slot_in_use : Declares 4 (record { text = codes "c"; variable = truth_leaf 0; shape = no_shape }) PlainForm (record { frames = (sighted (resolved (codes "s")) PlainForm ∷ []) ∷ []; intents = [] }) → ⊥
slot_in_use f = f.0.unused.0.0 refl

-- of two names with one text the inner one is meant
hidden_name : innermost (codes "s") ((sighted (record { text = codes "s"; variable = int_leaf 3; shape = no_shape }) PlainForm ∷ []) ∷ (sighted (resolved (codes "s")) PlainForm ∷ []) ∷ []) ≡ Some (PlainKind IntLeaf, 3, no_shape)
hidden_name = refl

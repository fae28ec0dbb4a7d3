-- The limits of names and cells (C13), and the sets of the command line (C14).
-- The programs of many names are made by a function, a declaration a line.
use Rattle.std.proofs.Common.{◌≡◌, ℕ, zero, suc, List, [], ◌∷◌, refl, Option, Some, None, true, false}
use Rattle.std.specs.Prelude.{pos, codes}
use Rattle.dpl_language.specs.Tree.{IntKind, BoolKind, Number, One, ScalarType, SyncType, ItemInit, StmtTree, Declare, Assigned, Block, Whole, Set, Stmts, NoStmts, Then}
use Rattle.dpl_language.proofs.Spelled.{at, name, declared, typed, initial, sign}
use Rattle.dpl_syntax.specs.declared.refusal.Code.TheVariants.{TooMany, BadSet, UnknownName}
use Rattle.dpl_syntax.specs.declared.refusal.Refusal.{Refusal}
use Rattle.dpl_rules.specs.Sound.{refusal}
use Rattle.dpl_rules.proofs.House.{program, told, alone}

-- { var c: sync int; }
abbrev cell_in_a_block : ℕ → StmtTree (List ℕ)
cell_in_a_block line =
    Block (at line 1) (Then (Declare (declared None (at line 3) false (name (codes "c") (at line 7))
    (Some (typed (at line 8) (SyncType (at line 10) (at line 15) IntKind))) None (at line 18))) NoStmts) (at line 20)

-- { var x: int; }
abbrev name_in_a_block : ℕ → StmtTree (List ℕ)
name_in_a_block line =
    Block (at line 1) (Then (Declare (declared None (at line 3) false (name (codes "x") (at line 7))
    (Some (typed (at line 8) (ScalarType (at line 10) IntKind))) None (at line 13))) NoStmts) (at line 15)

-- so many lines, from a line on
abbrev lines : ℕ → ℕ → (ℕ → StmtTree (List ℕ)) → Stmts (List ℕ)
lines zero line t = NoStmts
lines (suc n) line t = Then (t line) (lines n (suc line) t)

sixty_four_cells : alone (lines 64 1 cell_in_a_block) ≡ None
sixty_four_cells = refl

-- the first cell past the limit is told, and no other
sixty_five_cells : alone (lines 65 1 cell_in_a_block) ≡ told 65 7 TooMany
sixty_five_cells = refl

sixty_six_cells : alone (lines 66 1 cell_in_a_block) ≡ told 65 7 TooMany
sixty_six_cells = refl

-- a name counts in whatever scope it stands
all_names : alone (lines 4096 1 name_in_a_block) ≡ None
all_names = refl

a_name_too_many : alone (lines 4097 1 name_in_a_block) ≡ told 4097 7 TooMany
a_name_too_many = refl

-- ---- sets
-- config const n = 4; config const b: bool; const k = 1;
abbrev configured : Stmts (List ℕ)
configured =
    Then (Declare (declared (Some (at 1 1)) (at 1 8) true (name (codes "n") (at 1 14)) None
    (Some (initial (at 1 16) (ItemInit (One (Number (at 1 18) (pos 4))) None))) (at 1 19)))
    (Then (Declare (declared (Some (at 1 21)) (at 1 28) true (name (codes "b") (at 1 34))
    (Some (typed (at 1 35) (ScalarType (at 1 37) BoolKind))) None (at 1 41)))
    (Then (Declare (declared None (at 1 43) true (name (codes "k") (at 1 49)) None
    (Some (initial (at 1 51) (ItemInit (One (Number (at 1 53) (pos 1))) None))) (at 1 54)))
    NoStmts))

abbrev with_sets : List (List ℕ) → Option Refusal
with_sets sets = refusal (program configured) sets

abbrev bad_set : Option Refusal
bad_set = Some (record { code = BadSet; place = None })

no_sets : with_sets [] ≡ None
no_sets = refl

an_int_set : with_sets (codes "n=7" ∷ []) ≡ None
an_int_set = refl

a_negative_set : with_sets (codes "n=-7" ∷ []) ≡ None
a_negative_set = refl

both_set : with_sets (codes "b=true" ∷ codes "n=007" ∷ []) ≡ None
both_set = refl

a_false_set : with_sets (codes "b=false" ∷ []) ≡ None
a_false_set = refl

the_greatest_set : with_sets (codes "n=9223372036854775807" ∷ []) ≡ None
the_greatest_set = refl

past_the_greatest : with_sets (codes "n=9223372036854775808" ∷ []) ≡ bad_set
past_the_greatest = refl

the_least_set : with_sets (codes "n=-9223372036854775808" ∷ []) ≡ None
the_least_set = refl

past_the_least : with_sets (codes "n=-9223372036854775809" ∷ []) ≡ bad_set
past_the_least = refl

no_sign : with_sets (codes "n" ∷ []) ≡ bad_set
no_sign = refl

an_unknown_name : with_sets (codes "m=7" ∷ []) ≡ bad_set
an_unknown_name = refl

no_name : with_sets (codes "=7" ∷ []) ≡ bad_set
no_name = refl

a_plain_constant : with_sets (codes "k=7" ∷ []) ≡ bad_set
a_plain_constant = refl

twice : with_sets (codes "n=1" ∷ codes "b=true" ∷ codes "n=1" ∷ []) ≡ bad_set
twice = refl

an_int_from_a_truth : with_sets (codes "n=true" ∷ []) ≡ bad_set
an_int_from_a_truth = refl

a_truth_from_an_int : with_sets (codes "b=1" ∷ []) ≡ bad_set
a_truth_from_an_int = refl

no_value : with_sets (codes "n=" ∷ []) ≡ bad_set
no_value = refl

a_minus_alone : with_sets (codes "n=-" ∷ []) ≡ bad_set
a_minus_alone = refl

two_minuses : with_sets (codes "n=--1" ∷ []) ≡ bad_set
two_minuses = refl

a_plus : with_sets (codes "n=+1" ∷ []) ≡ bad_set
a_plus = refl

a_number_and_more : with_sets (codes "n=1x" ∷ []) ≡ bad_set
a_number_and_more = refl

a_second_sign : with_sets (codes "n=1=2" ∷ []) ≡ bad_set
a_second_sign = refl

a_line_between_digits : with_sets (codes "n=1_000" ∷ []) ≡ bad_set
a_line_between_digits = refl

-- n = 1;   a breach is told before a set
breach_before_a_set :
    refusal (program (Then (Assigned (Whole (name (codes "n") (at 1 1))) (sign (at 1 3) Set (at 1 3)) (One (Number (at 1 5) (pos 1))) (at 1 6)) NoStmts))
    (codes "n" ∷ [])
    ≡ Some (record { code = UnknownName; place = Some (at 1 1) })
breach_before_a_set = refl

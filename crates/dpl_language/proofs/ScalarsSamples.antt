-- The sample programs of `Scalars`, as trees with the places of their tokens; each stands behind its text.
-- A script spelled them, which nobody has to trust: a tree that isn't its text's shows in its places.
use Rattle.std.specs.Prelude.{ℕ, List, [], ◌∷◌, pos, Some, None, true, false, codes}
use Rattle.dpl_language.specs.Tree.{Minus, Not, Add, Subtract, Multiply, Divide, Remainder, Less, LessEqual, Greater, GreaterEqual, Equal, NotEqual, And, Or, Sum, Product, AllOf, BitAnd, BitOr, BitXor, Least, Greatest, SetAdd, SetSubtract, SetMultiply, SetDivide, SetRemainder, SetReduce, IntKind, BoolKind, Closed, HalfOpen, Counted, Size, First, Last, Low, High, Number, TruthWord, Named, Grouped, DomainLiteral, Prefixed, Chain, Postfixed, One, RangeItem, NoStride, By, NoLinks, Link, NoPosts, Post, Brackets, Dotted, Plainly, Dim, Contains, Expand, FirstItem, NoItems, NextItem, FirstExpr, NoExprs, NextExpr, StartExpr, BlockMap, CyclicMap, ScalarType, CreateBlock, ItemInit, CreateInit, TextArgument, ExprArgument, ReduceIntent, OneVariable, ManyVariables, Whole, Nothing, Declare, Assigned, Write, Block, If, Headed, Loop, WordBody, BlockBody, NoStmts, Then, ElseDo, BlockModule, CyclicModule, ProgramTree, WhileWord, ForWord, ForallWord}
use Rattle.dpl_language.proofs.Spelled.{at, name, after, argument, block_map, cyclic_map, declared, initial, listed, mapped, sign, typed, used_module, with_intents, written_line}

-- var s: int; forall i in 1..8 by 2 with (+ reduce s) do s += i*i; writeln(s);
abbrev pub sum_of_squares : ProgramTree (List ℕ)
sum_of_squares =
    record {
      uses = [];
      stmts = (Then (Declare (declared None (at 1 1) false (name (codes "s") (at 1
          5)) (Some (typed (at 1 6) (ScalarType (at 1 8) IntKind))) None (at 1 11))) (Then (Loop ForallWord (at 1
          13) (OneVariable (name (codes "i") (at 1 20))) (at 1 22) (RangeItem (Number (at 1 25) (pos 1))
          (at 1 26) Closed (Number (at 1 28) (pos 8)) (By (at 1 30) (Number (at 1 33) (pos 2)))) (Some
          (with_intents (at 1 35) (at 1 40) (listed (ReduceIntent (at 1 41) Sum (at 1 43) (name (codes
          "s") (at 1 50))) []) (at 1 51))) (WordBody (at 1 53) (Assigned (Whole (name (codes "s") (at 1
          56))) (sign (at 1 58) SetAdd (at 1 58)) (One (Chain (Named (name (codes "i") (at 1 61))) (Link
          (at 1 62) Multiply (Named (name (codes "i") (at 1 63))) NoLinks))) (at 1 64)))) (Then (Write
          (written_line (at 1 66) true (at 1 73) (Some (listed (ExprArgument (Named (name (codes "s") (at
          1 74)))) [])) (at 1 75) (at 1 76))) NoStmts)));
      end = (at 1 77);
    }

-- var m: int = -7; forall i in 5..4 with (max reduce m) do m reduce= i; writeln(m);
abbrev pub max_over_nothing : ProgramTree (List ℕ)
max_over_nothing =
    record {
      uses = [];
      stmts = (Then (Declare (declared None (at 1 1) false (name (codes "m") (at 1
          5)) (Some (typed (at 1 6) (ScalarType (at 1 8) IntKind))) (Some (initial (at 1 12) (ItemInit
          (One (Prefixed (at 1 14) Minus (Number (at 1 15) (pos 7)))) None))) (at 1 16))) (Then (Loop ForallWord
          (at 1 18) (OneVariable (name (codes "i") (at 1 25))) (at 1 27) (RangeItem (Number (at 1 30) (pos
          5)) (at 1 31) Closed (Number (at 1 33) (pos 4)) NoStride) (Some (with_intents (at 1 35) (at 1
          40) (listed (ReduceIntent (at 1 41) Greatest (at 1 45) (name (codes "m") (at 1 52))) []) (at 1
          53))) (WordBody (at 1 55) (Assigned (Whole (name (codes "m") (at 1 58))) (sign (at 1 60)
          SetReduce (at 1 66)) (One (Named (name (codes "i") (at 1 68)))) (at 1 69)))) (Then (Write
          (written_line (at 1 71) true (at 1 78) (Some (listed (ExprArgument (Named (name (codes "m") (at
          1 79)))) [])) (at 1 80) (at 1 81))) NoStmts)));
      end = (at 1 82);
    }

-- for i in 1..10 by -3 do write(i, " "); writeln();
abbrev pub falling_range : ProgramTree (List ℕ)
falling_range =
    record {
      uses = [];
      stmts = (Then (Loop ForWord (at 1 1) (OneVariable (name (codes "i") (at 1 5))) (at 1
          7) (RangeItem (Number (at 1 10) (pos 1)) (at 1 11) Closed (Number (at 1 13) (pos 10)) (By (at 1
          16) (Prefixed (at 1 19) Minus (Number (at 1 20) (pos 3))))) None (WordBody (at 1 22) (Write
          (written_line (at 1 25) false (at 1 30) (Some (listed (ExprArgument (Named (name (codes "i") (at
          1 31)))) (after (at 1 32) (TextArgument (at 1 34) (codes " ")) ∷ []))) (at 1 37) (at 1 38)))))
          (Then (Write (written_line (at 1 40) true (at 1 47) None (at 1 48) (at 1 49))) NoStmts));
      end =
          (at 1 50);
    }

-- const r = 1..10 by -3; for i in r[2..8] do write(i, " "); writeln(r[2..8].size);
abbrev pub slice_of_a_falling_range : ProgramTree (List ℕ)
slice_of_a_falling_range =
    record {
      uses = [];
      stmts = (Then (Declare (declared None (at 1 1) true (name (codes "r") (at 1
          7)) None (Some (initial (at 1 9) (ItemInit (RangeItem (Number (at 1 11) (pos 1)) (at 1 12)
          Closed (Number (at 1 14) (pos 10)) (By (at 1 17) (Prefixed (at 1 20) Minus (Number (at 1 21)
          (pos 3))))) None))) (at 1 22))) (Then (Loop ForWord (at 1 24) (OneVariable (name (codes "i") (at 1 28)))
          (at 1 30) (One (Postfixed (Named (name (codes "r") (at 1 33))) (Post (Brackets (at 1 34)
          (FirstItem (RangeItem (Number (at 1 35) (pos 2)) (at 1 36) Closed (Number (at 1 38) (pos 8))
          NoStride) NoItems) (at 1 39)) NoPosts))) None (WordBody (at 1 41) (Write (written_line (at 1 44)
          false (at 1 49) (Some (listed (ExprArgument (Named (name (codes "i") (at 1 50)))) (after (at 1
          51) (TextArgument (at 1 53) (codes " ")) ∷ []))) (at 1 56) (at 1 57))))) (Then (Write
          (written_line (at 1 59) true (at 1 66) (Some (listed (ExprArgument (Postfixed (Named (name
          (codes "r") (at 1 67))) (Post (Brackets (at 1 68) (FirstItem (RangeItem (Number (at 1 69) (pos
          2)) (at 1 70) Closed (Number (at 1 72) (pos 8)) NoStride) NoItems) (at 1 73)) (Post (Dotted (at
          1 74) (Plainly (at 1 75) Size)) NoPosts)))) [])) (at 1 79) (at 1 80))) NoStmts)));
      end = (at 1
          81);
    }

-- const m = 9223372036854775807 + 1; writeln(m); writeln(m / -1, " ", m % -1); writeln(-7 / 2, " ", -7 % 2, " ", 2 - -3 * 2);
abbrev pub wrapping : ProgramTree (List ℕ)
wrapping =
    record {
      uses = [];
      stmts = (Then (Declare (declared None (at 1 1) true (name (codes "m") (at 1
          7)) None (Some (initial (at 1 9) (ItemInit (One (Chain (Number (at 1 11) (pos
          9223372036854775807)) (Link (at 1 31) Add (Number (at 1 33) (pos 1)) NoLinks))) None))) (at 1
          34))) (Then (Write (written_line (at 1 36) true (at 1 43) (Some (listed (ExprArgument (Named
          (name (codes "m") (at 1 44)))) [])) (at 1 45) (at 1 46))) (Then (Write (written_line (at 1 48)
          true (at 1 55) (Some (listed (ExprArgument (Chain (Named (name (codes "m") (at 1 56))) (Link (at
          1 58) Divide (Prefixed (at 1 60) Minus (Number (at 1 61) (pos 1))) NoLinks))) (after (at 1 62)
          (TextArgument (at 1 64) (codes " ")) ∷ after (at 1 67) (ExprArgument (Chain (Named (name (codes
          "m") (at 1 69))) (Link (at 1 71) Remainder (Prefixed (at 1 73) Minus (Number (at 1 74) (pos 1)))
          NoLinks))) ∷ []))) (at 1 75) (at 1 76))) (Then (Write (written_line (at 1 78) true (at 1 85)
          (Some (listed (ExprArgument (Prefixed (at 1 86) Minus (Chain (Number (at 1 87) (pos 7)) (Link
          (at 1 89) Divide (Number (at 1 91) (pos 2)) NoLinks)))) (after (at 1 92) (TextArgument (at 1 94)
          (codes " ")) ∷ after (at 1 97) (ExprArgument (Prefixed (at 1 99) Minus (Chain (Number (at 1 100)
          (pos 7)) (Link (at 1 102) Remainder (Number (at 1 104) (pos 2)) NoLinks)))) ∷ after (at 1 105)
          (TextArgument (at 1 107) (codes " ")) ∷ after (at 1 110) (ExprArgument (Chain (Number (at 1 112)
          (pos 2)) (Link (at 1 114) Subtract (Prefixed (at 1 116) Minus (Chain (Number (at 1 117) (pos 3))
          (Link (at 1 119) Multiply (Number (at 1 121) (pos 2)) NoLinks))) NoLinks))) ∷ []))) (at 1 122)
          (at 1 123))) NoStmts))));
      end = (at 1 124);
    }

-- while true do writeln(1);
abbrev pub while_past_the_budget : ProgramTree (List ℕ)
while_past_the_budget =
    record {
      uses = [];
      stmts = (Then (Headed WhileWord (at 1 1) (TruthWord (at 1 7) true) (WordBody (at 1 12)
          (Write (written_line (at 1 15) true (at 1 22) (Some (listed (ExprArgument (Number (at 1 23) (pos
          1))) [])) (at 1 24) (at 1 25))))) NoStmts);
      end = (at 1 26);
    }

-- config const n = 4; writeln(n);
abbrev pub configured : ProgramTree (List ℕ)
configured =
    record {
      uses = [];
      stmts = (Then (Declare (declared (Some (at 1 1)) (at 1 8) true (name (codes
          "n") (at 1 14)) None (Some (initial (at 1 16) (ItemInit (One (Number (at 1 18) (pos 4))) None)))
          (at 1 19))) (Then (Write (written_line (at 1 21) true (at 1 28) (Some (listed (ExprArgument
          (Named (name (codes "n") (at 1 29)))) [])) (at 1 30) (at 1 31))) NoStmts));
      end = (at 1 32);
    }

-- config const n = 1/0; writeln(n);
abbrev pub given_before_its_value : ProgramTree (List ℕ)
given_before_its_value =
    record {
      uses = [];
      stmts = (Then (Declare (declared (Some (at 1 1)) (at 1 8) true (name (codes
          "n") (at 1 14)) None (Some (initial (at 1 16) (ItemInit (One (Chain (Number (at 1 18) (pos 1))
          (Link (at 1 19) Divide (Number (at 1 20) (pos 0)) NoLinks))) None))) (at 1 21))) (Then (Write
          (written_line (at 1 23) true (at 1 30) (Some (listed (ExprArgument (Named (name (codes "n") (at
          1 31)))) [])) (at 1 32) (at 1 33))) NoStmts));
      end = (at 1 34);
    }

-- writeln((-7) / 2, " ", (-7) % 2, " ", 7 / (-2), " ", 7 % (-2));
abbrev pub signs_of_division : ProgramTree (List ℕ)
signs_of_division =
    record {
      uses = [];
      stmts = (Then (Write (written_line (at 1 1) true (at 1 8) (Some (listed
          (ExprArgument (Chain (Grouped (at 1 9) (One (Prefixed (at 1 10) Minus (Number (at 1 11) (pos
          7)))) (at 1 12)) (Link (at 1 14) Divide (Number (at 1 16) (pos 2)) NoLinks))) (after (at 1 17)
          (TextArgument (at 1 19) (codes " ")) ∷ after (at 1 22) (ExprArgument (Chain (Grouped (at 1 24)
          (One (Prefixed (at 1 25) Minus (Number (at 1 26) (pos 7)))) (at 1 27)) (Link (at 1 29) Remainder
          (Number (at 1 31) (pos 2)) NoLinks))) ∷ after (at 1 32) (TextArgument (at 1 34) (codes " ")) ∷
          after (at 1 37) (ExprArgument (Chain (Number (at 1 39) (pos 7)) (Link (at 1 41) Divide (Grouped
          (at 1 43) (One (Prefixed (at 1 44) Minus (Number (at 1 45) (pos 2)))) (at 1 46)) NoLinks))) ∷
          after (at 1 47) (TextArgument (at 1 49) (codes " ")) ∷ after (at 1 52) (ExprArgument (Chain
          (Number (at 1 54) (pos 7)) (Link (at 1 56) Remainder (Grouped (at 1 58) (One (Prefixed (at 1 59)
          Minus (Number (at 1 60) (pos 2)))) (at 1 61)) NoLinks))) ∷ []))) (at 1 62) (at 1 63))) NoStmts);
      end = (at 1 64);
    }

-- const m = 9223372036854775807 + 1; writeln(-m);
abbrev pub negated_least : ProgramTree (List ℕ)
negated_least =
    record {
      uses = [];
      stmts = (Then (Declare (declared None (at 1 1) true (name (codes "m") (at 1
          7)) None (Some (initial (at 1 9) (ItemInit (One (Chain (Number (at 1 11) (pos
          9223372036854775807)) (Link (at 1 31) Add (Number (at 1 33) (pos 1)) NoLinks))) None))) (at 1
          34))) (Then (Write (written_line (at 1 36) true (at 1 43) (Some (listed (ExprArgument (Prefixed
          (at 1 44) Minus (Named (name (codes "m") (at 1 45))))) [])) (at 1 46) (at 1 47))) NoStmts));
      end
          = (at 1 48);
    }

-- writeln(true == (1 < 2), " ", false != false, " ", !(2 <= 1));
abbrev pub truths : ProgramTree (List ℕ)
truths =
    record {
      uses = [];
      stmts = (Then (Write (written_line (at 1 1) true (at 1 8) (Some (listed
          (ExprArgument (Chain (TruthWord (at 1 9) true) (Link (at 1 14) Equal (Grouped (at 1 17) (One
          (Chain (Number (at 1 18) (pos 1)) (Link (at 1 20) Less (Number (at 1 22) (pos 2)) NoLinks))) (at
          1 23)) NoLinks))) (after (at 1 24) (TextArgument (at 1 26) (codes " ")) ∷ after (at 1 29)
          (ExprArgument (Chain (TruthWord (at 1 31) false) (Link (at 1 37) NotEqual (TruthWord (at 1 40)
          false) NoLinks))) ∷ after (at 1 45) (TextArgument (at 1 47) (codes " ")) ∷ after (at 1 50)
          (ExprArgument (Prefixed (at 1 52) Not (Grouped (at 1 53) (One (Chain (Number (at 1 54) (pos 2))
          (Link (at 1 56) LessEqual (Number (at 1 59) (pos 1)) NoLinks))) (at 1 60)))) ∷ []))) (at 1 61)
          (at 1 62))) NoStmts);
      end = (at 1 63);
    }

-- writeln(2 <= 2, 2 >= 2, 2 < 2, 2 > 2);
abbrev pub equal_ends : ProgramTree (List ℕ)
equal_ends =
    record {
      uses = [];
      stmts = (Then (Write (written_line (at 1 1) true (at 1 8) (Some (listed
          (ExprArgument (Chain (Number (at 1 9) (pos 2)) (Link (at 1 11) LessEqual (Number (at 1 14) (pos
          2)) NoLinks))) (after (at 1 15) (ExprArgument (Chain (Number (at 1 17) (pos 2)) (Link (at 1 19)
          GreaterEqual (Number (at 1 22) (pos 2)) NoLinks))) ∷ after (at 1 23) (ExprArgument (Chain
          (Number (at 1 25) (pos 2)) (Link (at 1 27) Less (Number (at 1 29) (pos 2)) NoLinks))) ∷ after
          (at 1 30) (ExprArgument (Chain (Number (at 1 32) (pos 2)) (Link (at 1 34) Greater (Number (at 1
          36) (pos 2)) NoLinks))) ∷ []))) (at 1 37) (at 1 38))) NoStmts);
      end = (at 1 39);
    }

-- config const n = 4; { const n = 5; writeln(n); } writeln(n);
abbrev pub given_at_the_top_alone : ProgramTree (List ℕ)
given_at_the_top_alone =
    record {
      uses = [];
      stmts = (Then (Declare (declared (Some (at 1 1)) (at 1 8) true (name (codes
          "n") (at 1 14)) None (Some (initial (at 1 16) (ItemInit (One (Number (at 1 18) (pos 4))) None)))
          (at 1 19))) (Then (Block (at 1 21) (Then (Declare (declared None (at 1 23) true (name (codes
          "n") (at 1 29)) None (Some (initial (at 1 31) (ItemInit (One (Number (at 1 33) (pos 5))) None)))
          (at 1 34))) (Then (Write (written_line (at 1 36) true (at 1 43) (Some (listed (ExprArgument
          (Named (name (codes "n") (at 1 44)))) [])) (at 1 45) (at 1 46))) NoStmts)) (at 1 48)) (Then
          (Write (written_line (at 1 50) true (at 1 57) (Some (listed (ExprArgument (Named (name (codes
          "n") (at 1 58)))) [])) (at 1 59) (at 1 60))) NoStmts)));
      end = (at 1 61);
    }

-- writeln(true == false, " ", true != false);
abbrev pub equal_truths : ProgramTree (List ℕ)
equal_truths =
    record {
      uses = [];
      stmts = (Then (Write (written_line (at 1 1) true (at 1 8) (Some (listed
          (ExprArgument (Chain (TruthWord (at 1 9) true) (Link (at 1 14) Equal (TruthWord (at 1 17) false)
          NoLinks))) (after (at 1 22) (TextArgument (at 1 24) (codes " ")) ∷ after (at 1 27) (ExprArgument
          (Chain (TruthWord (at 1 29) true) (Link (at 1 34) NotEqual (TruthWord (at 1 37) false)
          NoLinks))) ∷ []))) (at 1 42) (at 1 43))) NoStmts);
      end = (at 1 44);
    }

-- var z: int; writeln(z != 0 && 1 / z > 0, " ", z >= 0 || 1 / z > 0);
abbrev pub looks_where_needed : ProgramTree (List ℕ)
looks_where_needed =
    record {
      uses = [];
      stmts = (Then (Declare (declared None (at 1 1) false (name (codes "z") (at 1
          5)) (Some (typed (at 1 6) (ScalarType (at 1 8) IntKind))) None (at 1 11))) (Then (Write
          (written_line (at 1 13) true (at 1 20) (Some (listed (ExprArgument (Chain (Chain (Named (name
          (codes "z") (at 1 21))) (Link (at 1 23) NotEqual (Number (at 1 26) (pos 0)) NoLinks)) (Link (at
          1 28) And (Chain (Chain (Number (at 1 31) (pos 1)) (Link (at 1 33) Divide (Named (name (codes
          "z") (at 1 35))) NoLinks)) (Link (at 1 37) Greater (Number (at 1 39) (pos 0)) NoLinks))
          NoLinks))) (after (at 1 40) (TextArgument (at 1 42) (codes " ")) ∷ after (at 1 45) (ExprArgument
          (Chain (Chain (Named (name (codes "z") (at 1 47))) (Link (at 1 49) GreaterEqual (Number (at 1
          52) (pos 0)) NoLinks)) (Link (at 1 54) Or (Chain (Chain (Number (at 1 57) (pos 1)) (Link (at 1
          59) Divide (Named (name (codes "z") (at 1 61))) NoLinks)) (Link (at 1 63) Greater (Number (at 1
          65) (pos 0)) NoLinks)) NoLinks))) ∷ []))) (at 1 66) (at 1 67))) NoStmts));
      end = (at 1 68);
    }

-- var a: int = -4; var o: int; var x: int; forall i in 4..7 with (& reduce a, | reduce o, ^ reduce x) { a reduce= i; o reduce= i; x reduce= i; } writeln(a, " ", o, " ", x);
abbrev pub three_intents : ProgramTree (List ℕ)
three_intents =
    record {
      uses = [];
      stmts = (Then (Declare (declared None (at 1 1) false (name (codes "a") (at 1
          5)) (Some (typed (at 1 6) (ScalarType (at 1 8) IntKind))) (Some (initial (at 1 12) (ItemInit
          (One (Prefixed (at 1 14) Minus (Number (at 1 15) (pos 4)))) None))) (at 1 16))) (Then (Declare
          (declared None (at 1 18) false (name (codes "o") (at 1 22)) (Some (typed (at 1 23) (ScalarType
          (at 1 25) IntKind))) None (at 1 28))) (Then (Declare (declared None (at 1 30) false (name (codes
          "x") (at 1 34)) (Some (typed (at 1 35) (ScalarType (at 1 37) IntKind))) None (at 1 40))) (Then
          (Loop ForallWord (at 1 42) (OneVariable (name (codes "i") (at 1 49))) (at 1 51) (RangeItem (Number (at 1
          54) (pos 4)) (at 1 55) Closed (Number (at 1 57) (pos 7)) NoStride) (Some (with_intents (at 1 59)
          (at 1 64) (listed (ReduceIntent (at 1 65) BitAnd (at 1 67) (name (codes "a") (at 1 74))) (after
          (at 1 75) (ReduceIntent (at 1 77) BitOr (at 1 79) (name (codes "o") (at 1 86))) ∷ after (at 1
          87) (ReduceIntent (at 1 89) BitXor (at 1 91) (name (codes "x") (at 1 98))) ∷ [])) (at 1 99)))
          (BlockBody (at 1 101) (Then (Assigned (Whole (name (codes "a") (at 1 103))) (sign (at 1 105)
          SetReduce (at 1 111)) (One (Named (name (codes "i") (at 1 113)))) (at 1 114)) (Then (Assigned
          (Whole (name (codes "o") (at 1 116))) (sign (at 1 118) SetReduce (at 1 124)) (One (Named (name
          (codes "i") (at 1 126)))) (at 1 127)) (Then (Assigned (Whole (name (codes "x") (at 1 129)))
          (sign (at 1 131) SetReduce (at 1 137)) (One (Named (name (codes "i") (at 1 139)))) (at 1 140))
          NoStmts))) (at 1 142))) (Then (Write (written_line (at 1 144) true (at 1 151) (Some (listed
          (ExprArgument (Named (name (codes "a") (at 1 152)))) (after (at 1 153) (TextArgument (at 1 155)
          (codes " ")) ∷ after (at 1 158) (ExprArgument (Named (name (codes "o") (at 1 160)))) ∷ after (at
          1 161) (TextArgument (at 1 163) (codes " ")) ∷ after (at 1 166) (ExprArgument (Named (name
          (codes "x") (at 1 168)))) ∷ []))) (at 1 169) (at 1 170))) NoStmts)))));
      end = (at 1 171);
    }

-- var a: bool = true; var m: int = 100; forall i in 1..6 with (&& reduce a, min reduce m) { const d = (i - 4) * (i - 4); a reduce= d < 9; m reduce= d; } writeln(a, " ", m);
abbrev pub truth_intent : ProgramTree (List ℕ)
truth_intent =
    record {
      uses = [];
      stmts = (Then (Declare (declared None (at 1 1) false (name (codes "a") (at 1
          5)) (Some (typed (at 1 6) (ScalarType (at 1 8) BoolKind))) (Some (initial (at 1 13) (ItemInit
          (One (TruthWord (at 1 15) true)) None))) (at 1 19))) (Then (Declare (declared None (at 1 21)
          false (name (codes "m") (at 1 25)) (Some (typed (at 1 26) (ScalarType (at 1 28) IntKind))) (Some
          (initial (at 1 32) (ItemInit (One (Number (at 1 34) (pos 100))) None))) (at 1 37))) (Then
          (Loop ForallWord (at 1 39) (OneVariable (name (codes "i") (at 1 46))) (at 1 48) (RangeItem (Number (at 1
          51) (pos 1)) (at 1 52) Closed (Number (at 1 54) (pos 6)) NoStride) (Some (with_intents (at 1 56)
          (at 1 61) (listed (ReduceIntent (at 1 62) AllOf (at 1 65) (name (codes "a") (at 1 72))) (after
          (at 1 73) (ReduceIntent (at 1 75) Least (at 1 79) (name (codes "m") (at 1 86))) ∷ [])) (at 1
          87))) (BlockBody (at 1 89) (Then (Declare (declared None (at 1 91) true (name (codes "d") (at 1
          97)) None (Some (initial (at 1 99) (ItemInit (One (Chain (Grouped (at 1 101) (One (Chain (Named
          (name (codes "i") (at 1 102))) (Link (at 1 104) Subtract (Number (at 1 106) (pos 4)) NoLinks)))
          (at 1 107)) (Link (at 1 109) Multiply (Grouped (at 1 111) (One (Chain (Named (name (codes "i")
          (at 1 112))) (Link (at 1 114) Subtract (Number (at 1 116) (pos 4)) NoLinks))) (at 1 117))
          NoLinks))) None))) (at 1 118))) (Then (Assigned (Whole (name (codes "a") (at 1 120))) (sign (at
          1 122) SetReduce (at 1 128)) (One (Chain (Named (name (codes "d") (at 1 130))) (Link (at 1 132)
          Less (Number (at 1 134) (pos 9)) NoLinks))) (at 1 135)) (Then (Assigned (Whole (name (codes "m")
          (at 1 137))) (sign (at 1 139) SetReduce (at 1 145)) (One (Named (name (codes "d") (at 1 147))))
          (at 1 148)) NoStmts))) (at 1 150))) (Then (Write (written_line (at 1 152) true (at 1 159) (Some
          (listed (ExprArgument (Named (name (codes "a") (at 1 160)))) (after (at 1 161) (TextArgument (at
          1 163) (codes " ")) ∷ after (at 1 166) (ExprArgument (Named (name (codes "m") (at 1 168)))) ∷
          []))) (at 1 169) (at 1 170))) NoStmts))));
      end = (at 1 171);
    }

-- var s: int = 1; var t: int; forall i in 1..3 with (* reduce s, + reduce t) { s reduce= i; t += i; } writeln(s, " ", t);
abbrev pub two_intents : ProgramTree (List ℕ)
two_intents =
    record {
      uses = [];
      stmts = (Then (Declare (declared None (at 1 1) false (name (codes "s") (at 1
          5)) (Some (typed (at 1 6) (ScalarType (at 1 8) IntKind))) (Some (initial (at 1 12) (ItemInit
          (One (Number (at 1 14) (pos 1))) None))) (at 1 15))) (Then (Declare (declared None (at 1 17)
          false (name (codes "t") (at 1 21)) (Some (typed (at 1 22) (ScalarType (at 1 24) IntKind))) None
          (at 1 27))) (Then (Loop ForallWord (at 1 29) (OneVariable (name (codes "i") (at 1 36))) (at 1 38)
          (RangeItem (Number (at 1 41) (pos 1)) (at 1 42) Closed (Number (at 1 44) (pos 3)) NoStride)
          (Some (with_intents (at 1 46) (at 1 51) (listed (ReduceIntent (at 1 52) Product (at 1 54) (name
          (codes "s") (at 1 61))) (after (at 1 62) (ReduceIntent (at 1 64) Sum (at 1 66) (name (codes "t")
          (at 1 73))) ∷ [])) (at 1 74))) (BlockBody (at 1 76) (Then (Assigned (Whole (name (codes "s") (at
          1 78))) (sign (at 1 80) SetReduce (at 1 86)) (One (Named (name (codes "i") (at 1 88)))) (at 1
          89)) (Then (Assigned (Whole (name (codes "t") (at 1 91))) (sign (at 1 93) SetAdd (at 1 93)) (One
          (Named (name (codes "i") (at 1 96)))) (at 1 97)) NoStmts)) (at 1 99))) (Then (Write
          (written_line (at 1 101) true (at 1 108) (Some (listed (ExprArgument (Named (name (codes "s")
          (at 1 109)))) (after (at 1 110) (TextArgument (at 1 112) (codes " ")) ∷ after (at 1 115)
          (ExprArgument (Named (name (codes "t") (at 1 117)))) ∷ []))) (at 1 118) (at 1 119)))
          NoStmts))));
      end = (at 1 120);
    }

-- var p: int = 3; const D = {1..20} dmapped new cyclicDist(startIdx=1); forall i in D with (* reduce p) do p *= 2; writeln(p);
abbrev pub product_of_twenty : ProgramTree (List ℕ)
product_of_twenty =
    record {
      uses = [];
      stmts = (Then (Declare (declared None (at 1 1) false (name (codes "p") (at 1
          5)) (Some (typed (at 1 6) (ScalarType (at 1 8) IntKind))) (Some (initial (at 1 12) (ItemInit
          (One (Number (at 1 14) (pos 3))) None))) (at 1 15))) (Then (Declare (declared None (at 1 17)
          true (name (codes "D") (at 1 23)) None (Some (initial (at 1 25) (ItemInit (One (DomainLiteral
          (at 1 27) (FirstItem (RangeItem (Number (at 1 28) (pos 1)) (at 1 29) Closed (Number (at 1 31)
          (pos 20)) NoStride) NoItems) (at 1 33))) (Some (mapped (at 1 35) (CyclicMap (cyclic_map (at 1
          43) (at 1 47) (at 1 57) (Some (argument (at 1 58) (at 1 66))) (StartExpr (Number (at 1 67) (pos
          1))) (at 1 68)))))))) (at 1 69))) (Then (Loop ForallWord (at 1 71) (OneVariable (name (codes "i") (at 1
          78))) (at 1 80) (One (Named (name (codes "D") (at 1 83)))) (Some (with_intents (at 1 85) (at 1
          90) (listed (ReduceIntent (at 1 91) Product (at 1 93) (name (codes "p") (at 1 100))) []) (at 1
          101))) (WordBody (at 1 103) (Assigned (Whole (name (codes "p") (at 1 106))) (sign (at 1 108)
          SetMultiply (at 1 108)) (One (Number (at 1 111) (pos 2))) (at 1 112)))) (Then (Write
          (written_line (at 1 114) true (at 1 121) (Some (listed (ExprArgument (Named (name (codes "p")
          (at 1 122)))) [])) (at 1 123) (at 1 124))) NoStmts))));
      end = (at 1 125);
    }

-- var i: int; while i < 3 { i += 1; if i == 2 then write(i); else write(0); } writeln(i > 2 || 1/0 == 1);
abbrev pub whiles : ProgramTree (List ℕ)
whiles =
    record {
      uses = [];
      stmts = (Then (Declare (declared None (at 1 1) false (name (codes "i") (at 1
          5)) (Some (typed (at 1 6) (ScalarType (at 1 8) IntKind))) None (at 1 11))) (Then (Headed WhileWord (at 1
          13) (Chain (Named (name (codes "i") (at 1 19))) (Link (at 1 21) Less (Number (at 1 23) (pos 3))
          NoLinks)) (BlockBody (at 1 25) (Then (Assigned (Whole (name (codes "i") (at 1 27))) (sign (at 1
          29) SetAdd (at 1 29)) (One (Number (at 1 32) (pos 1))) (at 1 33)) (Then (If (at 1 35) (Chain
          (Named (name (codes "i") (at 1 38))) (Link (at 1 40) Equal (Number (at 1 43) (pos 2)) NoLinks))
          (WordBody (at 1 45) (Write (written_line (at 1 50) false (at 1 55) (Some (listed (ExprArgument
          (Named (name (codes "i") (at 1 56)))) [])) (at 1 57) (at 1 58)))) (ElseDo (at 1 60) (Write
          (written_line (at 1 65) false (at 1 70) (Some (listed (ExprArgument (Number (at 1 71) (pos 0)))
          [])) (at 1 72) (at 1 73))))) NoStmts)) (at 1 75))) (Then (Write (written_line (at 1 77) true (at
          1 84) (Some (listed (ExprArgument (Chain (Chain (Named (name (codes "i") (at 1 85))) (Link (at 1
          87) Greater (Number (at 1 89) (pos 2)) NoLinks)) (Link (at 1 91) Or (Chain (Chain (Number (at 1
          94) (pos 1)) (Link (at 1 95) Divide (Number (at 1 96) (pos 0)) NoLinks)) (Link (at 1 98) Equal
          (Number (at 1 101) (pos 1)) NoLinks)) NoLinks))) [])) (at 1 102) (at 1 103))) NoStmts)));
      end =
          (at 1 104);
    }

-- var i: int = 17; i -= 2; i %= 8; i /= 4; writeln(i);
abbrev pub other_operators : ProgramTree (List ℕ)
other_operators =
    record {
      uses = [];
      stmts = (Then (Declare (declared None (at 1 1) false (name (codes "i") (at 1
          5)) (Some (typed (at 1 6) (ScalarType (at 1 8) IntKind))) (Some (initial (at 1 12) (ItemInit
          (One (Number (at 1 14) (pos 17))) None))) (at 1 16))) (Then (Assigned (Whole (name (codes "i")
          (at 1 18))) (sign (at 1 20) SetSubtract (at 1 20)) (One (Number (at 1 23) (pos 2))) (at 1 24))
          (Then (Assigned (Whole (name (codes "i") (at 1 26))) (sign (at 1 28) SetRemainder (at 1 28))
          (One (Number (at 1 31) (pos 8))) (at 1 32)) (Then (Assigned (Whole (name (codes "i") (at 1 34)))
          (sign (at 1 36) SetDivide (at 1 36)) (One (Number (at 1 39) (pos 4))) (at 1 40)) (Then (Write
          (written_line (at 1 42) true (at 1 49) (Some (listed (ExprArgument (Named (name (codes "i") (at
          1 50)))) [])) (at 1 51) (at 1 52))) NoStmts)))));
      end = (at 1 53);
    }

-- var i: int = 1; { var i: int = 2; write(i, " "); } for i in 5..6 do ; writeln(i);
abbrev pub hidden_names : ProgramTree (List ℕ)
hidden_names =
    record {
      uses = [];
      stmts = (Then (Declare (declared None (at 1 1) false (name (codes "i") (at 1
          5)) (Some (typed (at 1 6) (ScalarType (at 1 8) IntKind))) (Some (initial (at 1 12) (ItemInit
          (One (Number (at 1 14) (pos 1))) None))) (at 1 15))) (Then (Block (at 1 17) (Then (Declare
          (declared None (at 1 19) false (name (codes "i") (at 1 23)) (Some (typed (at 1 24) (ScalarType
          (at 1 26) IntKind))) (Some (initial (at 1 30) (ItemInit (One (Number (at 1 32) (pos 2))) None)))
          (at 1 33))) (Then (Write (written_line (at 1 35) false (at 1 40) (Some (listed (ExprArgument
          (Named (name (codes "i") (at 1 41)))) (after (at 1 42) (TextArgument (at 1 44) (codes " ")) ∷
          []))) (at 1 47) (at 1 48))) NoStmts)) (at 1 50)) (Then (Loop ForWord (at 1 52) (OneVariable (name (codes
          "i") (at 1 56))) (at 1 58) (RangeItem (Number (at 1 61) (pos 5)) (at 1 62) Closed (Number (at 1
          64) (pos 6)) NoStride) None (WordBody (at 1 66) (Nothing (at 1 69)))) (Then (Write (written_line (at
          1 71) true (at 1 78) (Some (listed (ExprArgument (Named (name (codes "i") (at 1 79)))) [])) (at
          1 80) (at 1 81))) NoStmts))));
      end = (at 1 82);
    }

-- for i in 0..<3 do write(i); for i in 2..#3 do write(i); writeln();
abbrev pub ends_of_ranges : ProgramTree (List ℕ)
ends_of_ranges =
    record {
      uses = [];
      stmts = (Then (Loop ForWord (at 1 1) (OneVariable (name (codes "i") (at 1 5))) (at 1
          7) (RangeItem (Number (at 1 10) (pos 0)) (at 1 11) HalfOpen (Number (at 1 14) (pos 3)) NoStride)
          None (WordBody (at 1 16) (Write (written_line (at 1 19) false (at 1 24) (Some (listed (ExprArgument
          (Named (name (codes "i") (at 1 25)))) [])) (at 1 26) (at 1 27))))) (Then (Loop ForWord (at 1 29)
          (OneVariable (name (codes "i") (at 1 33))) (at 1 35) (RangeItem (Number (at 1 38) (pos 2)) (at 1
          39) (Counted (at 1 41)) (Number (at 1 42) (pos 3)) NoStride) None (WordBody (at 1 44) (Write
          (written_line (at 1 47) false (at 1 52) (Some (listed (ExprArgument (Named (name (codes "i") (at
          1 53)))) [])) (at 1 54) (at 1 55))))) (Then (Write (written_line (at 1 57) true (at 1 64) None
          (at 1 65) (at 1 66))) NoStmts)));
      end = (at 1 67);
    }

-- const r = (1..10 by 3)[2..8]; writeln(r.low, " ", r.high, " ", r.size);
abbrev pub ends_of_a_slice : ProgramTree (List ℕ)
ends_of_a_slice =
    record {
      uses = [];
      stmts = (Then (Declare (declared None (at 1 1) true (name (codes "r") (at 1
          7)) None (Some (initial (at 1 9) (ItemInit (One (Postfixed (Grouped (at 1 11) (RangeItem (Number
          (at 1 12) (pos 1)) (at 1 13) Closed (Number (at 1 15) (pos 10)) (By (at 1 18) (Number (at 1 21)
          (pos 3)))) (at 1 22)) (Post (Brackets (at 1 23) (FirstItem (RangeItem (Number (at 1 24) (pos 2))
          (at 1 25) Closed (Number (at 1 27) (pos 8)) NoStride) NoItems) (at 1 28)) NoPosts))) None))) (at
          1 29))) (Then (Write (written_line (at 1 31) true (at 1 38) (Some (listed (ExprArgument
          (Postfixed (Named (name (codes "r") (at 1 39))) (Post (Dotted (at 1 40) (Plainly (at 1 41) Low))
          NoPosts))) (after (at 1 44) (TextArgument (at 1 46) (codes " ")) ∷ after (at 1 49) (ExprArgument
          (Postfixed (Named (name (codes "r") (at 1 51))) (Post (Dotted (at 1 52) (Plainly (at 1 53)
          High)) NoPosts))) ∷ after (at 1 57) (TextArgument (at 1 59) (codes " ")) ∷ after (at 1 62)
          (ExprArgument (Postfixed (Named (name (codes "r") (at 1 64))) (Post (Dotted (at 1 65) (Plainly
          (at 1 66) Size)) NoPosts))) ∷ []))) (at 1 70) (at 1 71))) NoStmts));
      end = (at 1 72);
    }

-- const r = 1..10 by -3; writeln(r.first, " ", r.last, " ", r.low, " ", r.high);
abbrev pub falling_ends : ProgramTree (List ℕ)
falling_ends =
    record {
      uses = [];
      stmts = (Then (Declare (declared None (at 1 1) true (name (codes "r") (at 1
          7)) None (Some (initial (at 1 9) (ItemInit (RangeItem (Number (at 1 11) (pos 1)) (at 1 12)
          Closed (Number (at 1 14) (pos 10)) (By (at 1 17) (Prefixed (at 1 20) Minus (Number (at 1 21)
          (pos 3))))) None))) (at 1 22))) (Then (Write (written_line (at 1 24) true (at 1 31) (Some
          (listed (ExprArgument (Postfixed (Named (name (codes "r") (at 1 32))) (Post (Dotted (at 1 33)
          (Plainly (at 1 34) First)) NoPosts))) (after (at 1 39) (TextArgument (at 1 41) (codes " ")) ∷
          after (at 1 44) (ExprArgument (Postfixed (Named (name (codes "r") (at 1 46))) (Post (Dotted (at
          1 47) (Plainly (at 1 48) Last)) NoPosts))) ∷ after (at 1 52) (TextArgument (at 1 54) (codes
          " ")) ∷ after (at 1 57) (ExprArgument (Postfixed (Named (name (codes "r") (at 1 59))) (Post
          (Dotted (at 1 60) (Plainly (at 1 61) Low)) NoPosts))) ∷ after (at 1 64) (TextArgument (at 1 66)
          (codes " ")) ∷ after (at 1 69) (ExprArgument (Postfixed (Named (name (codes "r") (at 1 71)))
          (Post (Dotted (at 1 72) (Plainly (at 1 73) High)) NoPosts))) ∷ []))) (at 1 77) (at 1 78)))
          NoStmts));
      end = (at 1 79);
    }

-- writeln((1..9 by 2).contains(3), " ", (1..9 by 2).contains(2), " ", {1..2, 3..4}.contains(2, 3), " ", {1..2, 3..4}.contains(3, 2));
abbrev pub memberships : ProgramTree (List ℕ)
memberships =
    record {
      uses = [];
      stmts = (Then (Write (written_line (at 1 1) true (at 1 8) (Some (listed
          (ExprArgument (Postfixed (Grouped (at 1 9) (RangeItem (Number (at 1 10) (pos 1)) (at 1 11)
          Closed (Number (at 1 13) (pos 9)) (By (at 1 15) (Number (at 1 18) (pos 2)))) (at 1 19)) (Post
          (Dotted (at 1 20) (Contains (at 1 21) (at 1 29) (FirstExpr (Number (at 1 30) (pos 3)) NoExprs)
          (at 1 31))) NoPosts))) (after (at 1 32) (TextArgument (at 1 34) (codes " ")) ∷ after (at 1 37)
          (ExprArgument (Postfixed (Grouped (at 1 39) (RangeItem (Number (at 1 40) (pos 1)) (at 1 41)
          Closed (Number (at 1 43) (pos 9)) (By (at 1 45) (Number (at 1 48) (pos 2)))) (at 1 49)) (Post
          (Dotted (at 1 50) (Contains (at 1 51) (at 1 59) (FirstExpr (Number (at 1 60) (pos 2)) NoExprs)
          (at 1 61))) NoPosts))) ∷ after (at 1 62) (TextArgument (at 1 64) (codes " ")) ∷ after (at 1 67)
          (ExprArgument (Postfixed (DomainLiteral (at 1 69) (FirstItem (RangeItem (Number (at 1 70) (pos
          1)) (at 1 71) Closed (Number (at 1 73) (pos 2)) NoStride) (NextItem (at 1 74) (RangeItem (Number
          (at 1 76) (pos 3)) (at 1 77) Closed (Number (at 1 79) (pos 4)) NoStride) NoItems)) (at 1 80))
          (Post (Dotted (at 1 81) (Contains (at 1 82) (at 1 90) (FirstExpr (Number (at 1 91) (pos 2))
          (NextExpr (at 1 92) (Number (at 1 94) (pos 3)) NoExprs)) (at 1 95))) NoPosts))) ∷ after (at 1
          96) (TextArgument (at 1 98) (codes " ")) ∷ after (at 1 101) (ExprArgument (Postfixed
          (DomainLiteral (at 1 103) (FirstItem (RangeItem (Number (at 1 104) (pos 1)) (at 1 105) Closed
          (Number (at 1 107) (pos 2)) NoStride) (NextItem (at 1 108) (RangeItem (Number (at 1 110) (pos
          3)) (at 1 111) Closed (Number (at 1 113) (pos 4)) NoStride) NoItems)) (at 1 114)) (Post (Dotted
          (at 1 115) (Contains (at 1 116) (at 1 124) (FirstExpr (Number (at 1 125) (pos 3)) (NextExpr (at
          1 126) (Number (at 1 128) (pos 2)) NoExprs)) (at 1 129))) NoPosts))) ∷ []))) (at 1 130) (at 1
          131))) NoStmts);
      end = (at 1 132);
    }

-- const D = {1..3}; writeln(D.expand(1).size, " ", D.expand(-2).size, " ", D[2..9].contains(3), " ", (1..9 by -2)[2..6].first);
abbrev pub expansions : ProgramTree (List ℕ)
expansions =
    record {
      uses = [];
      stmts = (Then (Declare (declared None (at 1 1) true (name (codes "D") (at 1
          7)) None (Some (initial (at 1 9) (ItemInit (One (DomainLiteral (at 1 11) (FirstItem (RangeItem
          (Number (at 1 12) (pos 1)) (at 1 13) Closed (Number (at 1 15) (pos 3)) NoStride) NoItems) (at 1
          16))) None))) (at 1 17))) (Then (Write (written_line (at 1 19) true (at 1 26) (Some (listed
          (ExprArgument (Postfixed (Named (name (codes "D") (at 1 27))) (Post (Dotted (at 1 28) (Expand
          (at 1 29) (at 1 35) (Number (at 1 36) (pos 1)) (at 1 37))) (Post (Dotted (at 1 38) (Plainly (at
          1 39) Size)) NoPosts)))) (after (at 1 43) (TextArgument (at 1 45) (codes " ")) ∷ after (at 1 48)
          (ExprArgument (Postfixed (Named (name (codes "D") (at 1 50))) (Post (Dotted (at 1 51) (Expand
          (at 1 52) (at 1 58) (Prefixed (at 1 59) Minus (Number (at 1 60) (pos 2))) (at 1 61))) (Post
          (Dotted (at 1 62) (Plainly (at 1 63) Size)) NoPosts)))) ∷ after (at 1 67) (TextArgument (at 1
          69) (codes " ")) ∷ after (at 1 72) (ExprArgument (Postfixed (Named (name (codes "D") (at 1 74)))
          (Post (Brackets (at 1 75) (FirstItem (RangeItem (Number (at 1 76) (pos 2)) (at 1 77) Closed
          (Number (at 1 79) (pos 9)) NoStride) NoItems) (at 1 80)) (Post (Dotted (at 1 81) (Contains (at 1
          82) (at 1 90) (FirstExpr (Number (at 1 91) (pos 3)) NoExprs) (at 1 92))) NoPosts)))) ∷ after (at
          1 93) (TextArgument (at 1 95) (codes " ")) ∷ after (at 1 98) (ExprArgument (Postfixed (Grouped
          (at 1 100) (RangeItem (Number (at 1 101) (pos 1)) (at 1 102) Closed (Number (at 1 104) (pos 9))
          (By (at 1 106) (Prefixed (at 1 109) Minus (Number (at 1 110) (pos 2))))) (at 1 111)) (Post
          (Brackets (at 1 112) (FirstItem (RangeItem (Number (at 1 113) (pos 2)) (at 1 114) Closed (Number
          (at 1 116) (pos 6)) NoStride) NoItems) (at 1 117)) (Post (Dotted (at 1 118) (Plainly (at 1 119)
          First)) NoPosts)))) ∷ []))) (at 1 124) (at 1 125))) NoStmts));
      end = (at 1 126);
    }

-- const D = {1..6}; const E = D.expand(-2); writeln(E.size, " ", D[2..9].size, " ", E.contains(3));
abbrev pub expanded_slices : ProgramTree (List ℕ)
expanded_slices =
    record {
      uses = [];
      stmts = (Then (Declare (declared None (at 1 1) true (name (codes "D") (at 1
          7)) None (Some (initial (at 1 9) (ItemInit (One (DomainLiteral (at 1 11) (FirstItem (RangeItem
          (Number (at 1 12) (pos 1)) (at 1 13) Closed (Number (at 1 15) (pos 6)) NoStride) NoItems) (at 1
          16))) None))) (at 1 17))) (Then (Declare (declared None (at 1 19) true (name (codes "E") (at 1
          25)) None (Some (initial (at 1 27) (ItemInit (One (Postfixed (Named (name (codes "D") (at 1
          29))) (Post (Dotted (at 1 30) (Expand (at 1 31) (at 1 37) (Prefixed (at 1 38) Minus (Number (at
          1 39) (pos 2))) (at 1 40))) NoPosts))) None))) (at 1 41))) (Then (Write (written_line (at 1 43)
          true (at 1 50) (Some (listed (ExprArgument (Postfixed (Named (name (codes "E") (at 1 51))) (Post
          (Dotted (at 1 52) (Plainly (at 1 53) Size)) NoPosts))) (after (at 1 57) (TextArgument (at 1 59)
          (codes " ")) ∷ after (at 1 62) (ExprArgument (Postfixed (Named (name (codes "D") (at 1 64)))
          (Post (Brackets (at 1 65) (FirstItem (RangeItem (Number (at 1 66) (pos 2)) (at 1 67) Closed
          (Number (at 1 69) (pos 9)) NoStride) NoItems) (at 1 70)) (Post (Dotted (at 1 71) (Plainly (at 1
          72) Size)) NoPosts)))) ∷ after (at 1 76) (TextArgument (at 1 78) (codes " ")) ∷ after (at 1 81)
          (ExprArgument (Postfixed (Named (name (codes "E") (at 1 83))) (Post (Dotted (at 1 84) (Contains
          (at 1 85) (at 1 93) (FirstExpr (Number (at 1 94) (pos 3)) NoExprs) (at 1 95))) NoPosts))) ∷
          []))) (at 1 96) (at 1 97))) NoStmts)));
      end = (at 1 98);
    }

-- const D = {1..10}; writeln(D[20..30].size, " ", D[20..30].expand(6).size);
abbrev pub bounds_of_an_empty_slice : ProgramTree (List ℕ)
bounds_of_an_empty_slice =
    record {
      uses = [];
      stmts = (Then (Declare (declared None (at 1 1) true (name (codes "D") (at 1
          7)) None (Some (initial (at 1 9) (ItemInit (One (DomainLiteral (at 1 11) (FirstItem (RangeItem
          (Number (at 1 12) (pos 1)) (at 1 13) Closed (Number (at 1 15) (pos 10)) NoStride) NoItems) (at 1
          17))) None))) (at 1 18))) (Then (Write (written_line (at 1 20) true (at 1 27) (Some (listed
          (ExprArgument (Postfixed (Named (name (codes "D") (at 1 28))) (Post (Brackets (at 1 29)
          (FirstItem (RangeItem (Number (at 1 30) (pos 20)) (at 1 32) Closed (Number (at 1 34) (pos 30))
          NoStride) NoItems) (at 1 36)) (Post (Dotted (at 1 37) (Plainly (at 1 38) Size)) NoPosts))))
          (after (at 1 42) (TextArgument (at 1 44) (codes " ")) ∷ after (at 1 47) (ExprArgument (Postfixed
          (Named (name (codes "D") (at 1 49))) (Post (Brackets (at 1 50) (FirstItem (RangeItem (Number (at
          1 51) (pos 20)) (at 1 53) Closed (Number (at 1 55) (pos 30)) NoStride) NoItems) (at 1 57)) (Post
          (Dotted (at 1 58) (Expand (at 1 59) (at 1 65) (Number (at 1 66) (pos 6)) (at 1 67))) (Post
          (Dotted (at 1 68) (Plainly (at 1 69) Size)) NoPosts))))) ∷ []))) (at 1 73) (at 1 74)))
          NoStmts));
      end = (at 1 75);
    }

-- const D = {5..10}; writeln(D[1..7].size);
abbrev pub low_end_of_a_slice : ProgramTree (List ℕ)
low_end_of_a_slice =
    record {
      uses = [];
      stmts = (Then (Declare (declared None (at 1 1) true (name (codes "D") (at 1
          7)) None (Some (initial (at 1 9) (ItemInit (One (DomainLiteral (at 1 11) (FirstItem (RangeItem
          (Number (at 1 12) (pos 5)) (at 1 13) Closed (Number (at 1 15) (pos 10)) NoStride) NoItems) (at 1
          17))) None))) (at 1 18))) (Then (Write (written_line (at 1 20) true (at 1 27) (Some (listed
          (ExprArgument (Postfixed (Named (name (codes "D") (at 1 28))) (Post (Brackets (at 1 29)
          (FirstItem (RangeItem (Number (at 1 30) (pos 1)) (at 1 31) Closed (Number (at 1 33) (pos 7))
          NoStride) NoItems) (at 1 34)) (Post (Dotted (at 1 35) (Plainly (at 1 36) Size)) NoPosts)))) []))
          (at 1 40) (at 1 41))) NoStmts));
      end = (at 1 42);
    }

-- const D = {1..2, 3..7}; writeln(D.dim(1).size, " ", D.size);
abbrev pub dimensions : ProgramTree (List ℕ)
dimensions =
    record {
      uses = [];
      stmts = (Then (Declare (declared None (at 1 1) true (name (codes "D") (at 1
          7)) None (Some (initial (at 1 9) (ItemInit (One (DomainLiteral (at 1 11) (FirstItem (RangeItem
          (Number (at 1 12) (pos 1)) (at 1 13) Closed (Number (at 1 15) (pos 2)) NoStride) (NextItem (at 1
          16) (RangeItem (Number (at 1 18) (pos 3)) (at 1 19) Closed (Number (at 1 21) (pos 7)) NoStride)
          NoItems)) (at 1 22))) None))) (at 1 23))) (Then (Write (written_line (at 1 25) true (at 1 32)
          (Some (listed (ExprArgument (Postfixed (Named (name (codes "D") (at 1 33))) (Post (Dotted (at 1
          34) (Dim (at 1 35) (at 1 38) (at 1 39) 1 (at 1 40))) (Post (Dotted (at 1 41) (Plainly (at 1 42)
          Size)) NoPosts)))) (after (at 1 46) (TextArgument (at 1 48) (codes " ")) ∷ after (at 1 51)
          (ExprArgument (Postfixed (Named (name (codes "D") (at 1 53))) (Post (Dotted (at 1 54) (Plainly
          (at 1 55) Size)) NoPosts))) ∷ []))) (at 1 59) (at 1 60))) NoStmts));
      end = (at 1 61);
    }

-- const D = blockDist.createDomain(1..2, 0..1); writeln(D.size);
abbrev pub created : ProgramTree (List ℕ)
created =
    record {
      uses = [];
      stmts = (Then (Declare (declared None (at 1 1) true (name (codes "D") (at 1
          7)) None (Some (initial (at 1 9) (CreateInit (record {
            at = (at 1 11);
            word = CreateBlock;
            dot =
                (at 1 20);
            method = (at 1 21);
            from = (at 1 33);
            items = (FirstItem (RangeItem (Number (at 1 34)
                (pos 1)) (at 1 35) Closed (Number (at 1 37) (pos 2)) NoStride) (NextItem (at 1 38) (RangeItem
                (Number (at 1 40) (pos 0)) (at 1 41) Closed (Number (at 1 43) (pos 1)) NoStride) NoItems));
            upto
                = (at 1 44);
          })))) (at 1 45))) (Then (Write (written_line (at 1 47) true (at 1 54) (Some (listed
          (ExprArgument (Postfixed (Named (name (codes "D") (at 1 55))) (Post (Dotted (at 1 56) (Plainly
          (at 1 57) Size)) NoPosts))) [])) (at 1 61) (at 1 62))) NoStmts));
      end = (at 1 63);
    }

-- const D = {1..3} dmapped new blockDist(boundingBox={1..1/0}); writeln(D.size);
abbrev pub no_fault_of_a_map : ProgramTree (List ℕ)
no_fault_of_a_map =
    record {
      uses = [];
      stmts = (Then (Declare (declared None (at 1 1) true (name (codes "D") (at 1
          7)) None (Some (initial (at 1 9) (ItemInit (One (DomainLiteral (at 1 11) (FirstItem (RangeItem
          (Number (at 1 12) (pos 1)) (at 1 13) Closed (Number (at 1 15) (pos 3)) NoStride) NoItems) (at 1
          16))) (Some (mapped (at 1 18) (BlockMap (block_map (at 1 26) (at 1 30) (at 1 39) (Some (argument
          (at 1 40) (at 1 51))) (One (DomainLiteral (at 1 52) (FirstItem (RangeItem (Number (at 1 53) (pos
          1)) (at 1 54) Closed (Chain (Number (at 1 56) (pos 1)) (Link (at 1 57) Divide (Number (at 1 58)
          (pos 0)) NoLinks)) NoStride) NoItems) (at 1 59))) (at 1 60)))))))) (at 1 61))) (Then (Write
          (written_line (at 1 63) true (at 1 70) (Some (listed (ExprArgument (Postfixed (Named (name
          (codes "D") (at 1 71))) (Post (Dotted (at 1 72) (Plainly (at 1 73) Size)) NoPosts))) [])) (at 1
          77) (at 1 78))) NoStmts));
      end = (at 1 79);
    }

-- for (i,j) in {1..10 by 4, 0..1} do write(i, j, " "); writeln();
abbrev pub strided_pairs : ProgramTree (List ℕ)
strided_pairs =
    record {
      uses = [];
      stmts = (Then (Loop ForWord (at 1 1) (ManyVariables (at 1 5) (listed (name (codes
          "i") (at 1 6)) (after (at 1 7) (name (codes "j") (at 1 8)) ∷ [])) (at 1 9)) (at 1 11) (One
          (DomainLiteral (at 1 14) (FirstItem (RangeItem (Number (at 1 15) (pos 1)) (at 1 16) Closed
          (Number (at 1 18) (pos 10)) (By (at 1 21) (Number (at 1 24) (pos 4)))) (NextItem (at 1 25)
          (RangeItem (Number (at 1 27) (pos 0)) (at 1 28) Closed (Number (at 1 30) (pos 1)) NoStride)
          NoItems)) (at 1 31))) None (WordBody (at 1 33) (Write (written_line (at 1 36) false (at 1 41) (Some
          (listed (ExprArgument (Named (name (codes "i") (at 1 42)))) (after (at 1 43) (ExprArgument
          (Named (name (codes "j") (at 1 45)))) ∷ after (at 1 46) (TextArgument (at 1 48) (codes " ")) ∷
          []))) (at 1 51) (at 1 52))))) (Then (Write (written_line (at 1 54) true (at 1 61) None (at 1 62)
          (at 1 63))) NoStmts));
      end = (at 1 64);
    }

-- const r = -1152921504606846976..1152921504606846976; writeln(r.size); writeln((0..<1152921504606846977).size);
abbrev pub greatest_range : ProgramTree (List ℕ)
greatest_range =
    record {
      uses = [];
      stmts = (Then (Declare (declared None (at 1 1) true (name (codes "r") (at 1
          7)) None (Some (initial (at 1 9) (ItemInit (RangeItem (Prefixed (at 1 11) Minus (Number (at 1
          12) (pos 1152921504606846976))) (at 1 31) Closed (Number (at 1 33) (pos 1152921504606846976))
          NoStride) None))) (at 1 52))) (Then (Write (written_line (at 1 54) true (at 1 61) (Some (listed
          (ExprArgument (Postfixed (Named (name (codes "r") (at 1 62))) (Post (Dotted (at 1 63) (Plainly
          (at 1 64) Size)) NoPosts))) [])) (at 1 68) (at 1 69))) (Then (Write (written_line (at 1 71) true
          (at 1 78) (Some (listed (ExprArgument (Postfixed (Grouped (at 1 79) (RangeItem (Number (at 1 80)
          (pos 0)) (at 1 81) HalfOpen (Number (at 1 84) (pos 1152921504606846977)) NoStride) (at 1 103))
          (Post (Dotted (at 1 104) (Plainly (at 1 105) Size)) NoPosts))) [])) (at 1 109) (at 1 110)))
          NoStmts)));
      end = (at 1 111);
    }

-- const D = {1..1048576, 1..1048576}; writeln(D.size);
abbrev pub greatest_domain : ProgramTree (List ℕ)
greatest_domain =
    record {
      uses = [];
      stmts = (Then (Declare (declared None (at 1 1) true (name (codes "D") (at 1
          7)) None (Some (initial (at 1 9) (ItemInit (One (DomainLiteral (at 1 11) (FirstItem (RangeItem
          (Number (at 1 12) (pos 1)) (at 1 13) Closed (Number (at 1 15) (pos 1048576)) NoStride) (NextItem
          (at 1 22) (RangeItem (Number (at 1 24) (pos 1)) (at 1 25) Closed (Number (at 1 27) (pos
          1048576)) NoStride) NoItems)) (at 1 34))) None))) (at 1 35))) (Then (Write (written_line (at 1
          37) true (at 1 44) (Some (listed (ExprArgument (Postfixed (Named (name (codes "D") (at 1 45)))
          (Post (Dotted (at 1 46) (Plainly (at 1 47) Size)) NoPosts))) [])) (at 1 51) (at 1 52)))
          NoStmts));
      end = (at 1 53);
    }

-- use BlockDist, CyclicDist; writeln(1);
abbrev pub a_use : ProgramTree (List ℕ)
a_use =
    record {
      uses = ((record {
        at = (at 1 1);
        modules = (listed (used_module (at 1 5) BlockModule)
            (after (at 1 14) (used_module (at 1 16) CyclicModule) ∷ []));
        semicolon = (at 1 26);
      }) ∷ []);
      stmts = (Then (Write (written_line (at 1 28) true (at 1 35) (Some (listed (ExprArgument (Number
          (at 1 36) (pos 1))) [])) (at 1 37) (at 1 38))) NoStmts);
      end = (at 1 39);
    }

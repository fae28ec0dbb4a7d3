-- The sample programs of `Tasks`, as trees with the places of their tokens; each stands behind its text.
-- A script spelled them, which nobody has to trust: a tree that isn't its text's shows in its places.
use Rattle.std.specs.Prelude.{ℕ, List, [], ◌∷◌, pos, Some, None, true, false, codes}
use Rattle.dpl_language.specs.Tree.{Minus, Add, Subtract, Multiply, Divide, Equal, Set, SetAdd, IntKind, BoolKind, Closed, Id, ReadFEWord, ReadFFWord, WriteEFWord, WriteFFWord, WriteXFWord, Number, TruthWord, Named, LocalesWord, LocaleCount, HereWord, Grouped, Prefixed, Chain, Postfixed, One, RangeItem, NoStride, NoLinks, Link, NoPosts, Post, Brackets, Dotted, Plainly, CellRead, FirstItem, NoItems, ScalarType, SyncType, ItemInit, TextArgument, ExprArgument, OneVariable, Whole, ReadCall, ResetCall, WriteCall, Nothing, Declare, Assigned, Call, Write, Block, If, Headed, Loop, WordBody, BlockBody, NoStmts, Then, ElseDo, ProgramTree, OnWord, ForWord, CoforallWord}
use Rattle.dpl_language.proofs.Spelled.{at, name, after, declared, initial, listed, sign, typed, written_line}

-- var c: sync int; var t: sync int; coforall k in 0..1 { if k == 0 { for i in 1..3 do c.writeEF(i); } else { var s: int; for i in 1..3 do s += c.readFE(); t.writeEF(s); } } writeln(t.readFE());
abbrev pub three_values_sent : ProgramTree (List ℕ)
three_values_sent =
    record {
      uses = [];
      stmts = (Then (Declare (declared None (at 1 1) false (name (codes "c") (at 1
          5)) (Some (typed (at 1 6) (SyncType (at 1 8) (at 1 13) IntKind))) None (at 1 16))) (Then
          (Declare (declared None (at 1 18) false (name (codes "t") (at 1 22)) (Some (typed (at 1 23)
          (SyncType (at 1 25) (at 1 30) IntKind))) None (at 1 33))) (Then (Loop CoforallWord (at 1 35) (OneVariable
          (name (codes "k") (at 1 44))) (at 1 46) (RangeItem (Number (at 1 49) (pos 0)) (at 1 50) Closed
          (Number (at 1 52) (pos 1)) NoStride) None (BlockBody (at 1 54) (Then (If (at 1 56) (Chain (Named
          (name (codes "k") (at 1 59))) (Link (at 1 61) Equal (Number (at 1 64) (pos 0)) NoLinks))
          (BlockBody (at 1 66) (Then (Loop ForWord (at 1 68) (OneVariable (name (codes "i") (at 1 72))) (at 1 74)
          (RangeItem (Number (at 1 77) (pos 1)) (at 1 78) Closed (Number (at 1 80) (pos 3)) NoStride)
          None (WordBody (at 1 82) (Call (name (codes "c") (at 1 85)) (at 1 86) (WriteCall (at 1 87)
          WriteEFWord (at 1 94) (Named (name (codes "i") (at 1 95))) (at 1 96)) (at 1 97)))) NoStmts) (at
          1 99)) (ElseDo (at 1 101) (Block (at 1 106) (Then (Declare (declared None (at 1 108) false (name
          (codes "s") (at 1 112)) (Some (typed (at 1 113) (ScalarType (at 1 115) IntKind))) None (at 1
          118))) (Then (Loop ForWord (at 1 120) (OneVariable (name (codes "i") (at 1 124))) (at 1 126) (RangeItem
          (Number (at 1 129) (pos 1)) (at 1 130) Closed (Number (at 1 132) (pos 3)) NoStride) None (WordBody
          (at 1 134) (Assigned (Whole (name (codes "s") (at 1 137))) (sign (at 1 139) SetAdd (at 1 139))
          (One (Postfixed (Named (name (codes "c") (at 1 142))) (Post (Dotted (at 1 143) (CellRead (at 1
          144) ReadFEWord (at 1 150) (at 1 151))) NoPosts))) (at 1 152)))) (Then (Call (name (codes "t")
          (at 1 154)) (at 1 155) (WriteCall (at 1 156) WriteEFWord (at 1 163) (Named (name (codes "s") (at
          1 164))) (at 1 165)) (at 1 166)) NoStmts))) (at 1 168)))) NoStmts) (at 1 170))) (Then (Write
          (written_line (at 1 172) true (at 1 179) (Some (listed (ExprArgument (Postfixed (Named (name
          (codes "t") (at 1 180))) (Post (Dotted (at 1 181) (CellRead (at 1 182) ReadFEWord (at 1 188) (at
          1 189))) NoPosts))) [])) (at 1 190) (at 1 191))) NoStmts))));
      end = (at 1 192);
    }

-- var c: sync int; writeln(c.readFE());
abbrev pub cell_read_while_empty : ProgramTree (List ℕ)
cell_read_while_empty =
    record {
      uses = [];
      stmts = (Then (Declare (declared None (at 1 1) false (name (codes "c") (at 1
          5)) (Some (typed (at 1 6) (SyncType (at 1 8) (at 1 13) IntKind))) None (at 1 16))) (Then (Write
          (written_line (at 1 18) true (at 1 25) (Some (listed (ExprArgument (Postfixed (Named (name
          (codes "c") (at 1 26))) (Post (Dotted (at 1 27) (CellRead (at 1 28) ReadFEWord (at 1 34) (at 1
          35))) NoPosts))) [])) (at 1 36) (at 1 37))) NoStmts));
      end = (at 1 38);
    }

-- var c: sync int; coforall k in 0..0 do c.writeFF(k);
abbrev pub task_that_waits : ProgramTree (List ℕ)
task_that_waits =
    record {
      uses = [];
      stmts = (Then (Declare (declared None (at 1 1) false (name (codes "c") (at 1
          5)) (Some (typed (at 1 6) (SyncType (at 1 8) (at 1 13) IntKind))) None (at 1 16))) (Then
          (Loop CoforallWord (at 1 18) (OneVariable (name (codes "k") (at 1 27))) (at 1 29) (RangeItem (Number (at
          1 32) (pos 0)) (at 1 33) Closed (Number (at 1 35) (pos 0)) NoStride) None (WordBody (at 1 37)
          (Call (name (codes "c") (at 1 40)) (at 1 41) (WriteCall (at 1 42) WriteFFWord (at 1 49) (Named
          (name (codes "k") (at 1 50))) (at 1 51)) (at 1 52)))) NoStmts));
      end = (at 1 53);
    }

-- for loc in Locales do on loc do write(here.id, " "); writeln(numLocales);
abbrev pub each_locale : ProgramTree (List ℕ)
each_locale =
    record {
      uses = [];
      stmts = (Then (Loop ForWord (at 1 1) (OneVariable (name (codes "loc") (at 1 5))) (at
          1 9) (One (LocalesWord (at 1 12))) None (WordBody (at 1 20) (Headed OnWord (at 1 23) (Named (name (codes "loc")
          (at 1 26))) (WordBody (at 1 30) (Write (written_line (at 1 33) false (at 1 38) (Some (listed
          (ExprArgument (Postfixed (HereWord (at 1 39)) (Post (Dotted (at 1 43) (Plainly (at 1 44) Id))
          NoPosts))) (after (at 1 46) (TextArgument (at 1 48) (codes " ")) ∷ []))) (at 1 51) (at 1
          52))))))) (Then (Write (written_line (at 1 54) true (at 1 61) (Some (listed (ExprArgument
          (LocaleCount (at 1 62))) [])) (at 1 72) (at 1 73))) NoStmts));
      end = (at 1 74);
    }

-- on Locales[numLocales] do writeln(1);
abbrev pub locale_outside : ProgramTree (List ℕ)
locale_outside =
    record {
      uses = [];
      stmts = (Then (Headed OnWord (at 1 1) (Postfixed (LocalesWord (at 1 4)) (Post (Brackets
          (at 1 11) (FirstItem (One (LocaleCount (at 1 12))) NoItems) (at 1 22)) NoPosts)) (WordBody (at 1
          24) (Write (written_line (at 1 27) true (at 1 34) (Some (listed (ExprArgument (Number (at 1 35)
          (pos 1))) [])) (at 1 36) (at 1 37))))) NoStmts);
      end = (at 1 38);
    }

-- writeln(Locales[-1].id);
abbrev pub below_the_locales : ProgramTree (List ℕ)
below_the_locales =
    record {
      uses = [];
      stmts = (Then (Write (written_line (at 1 1) true (at 1 8) (Some (listed
          (ExprArgument (Postfixed (LocalesWord (at 1 9)) (Post (Brackets (at 1 16) (FirstItem (One
          (Prefixed (at 1 17) Minus (Number (at 1 18) (pos 1)))) NoItems) (at 1 19)) (Post (Dotted (at 1
          20) (Plainly (at 1 21) Id)) NoPosts)))) [])) (at 1 23) (at 1 24))) NoStmts);
      end = (at 1 25);
    }

-- on Locales[1] do write(here.id); writeln(here.id);
abbrev pub here_again : ProgramTree (List ℕ)
here_again =
    record {
      uses = [];
      stmts = (Then (Headed OnWord (at 1 1) (Postfixed (LocalesWord (at 1 4)) (Post (Brackets
          (at 1 11) (FirstItem (One (Number (at 1 12) (pos 1))) NoItems) (at 1 13)) NoPosts)) (WordBody
          (at 1 15) (Write (written_line (at 1 18) false (at 1 23) (Some (listed (ExprArgument (Postfixed
          (HereWord (at 1 24)) (Post (Dotted (at 1 28) (Plainly (at 1 29) Id)) NoPosts))) [])) (at 1 31)
          (at 1 32))))) (Then (Write (written_line (at 1 34) true (at 1 41) (Some (listed (ExprArgument
          (Postfixed (HereWord (at 1 42)) (Post (Dotted (at 1 46) (Plainly (at 1 47) Id)) NoPosts))) []))
          (at 1 49) (at 1 50))) NoStmts));
      end = (at 1 51);
    }

-- var c: sync int = 1; c.writeFF(2); writeln(c.readFF()); c.reset(); c.writeXF(3); c.writeXF(4); writeln(c.readFE());
abbrev pub operations : ProgramTree (List ℕ)
operations =
    record {
      uses = [];
      stmts = (Then (Declare (declared None (at 1 1) false (name (codes "c") (at 1
          5)) (Some (typed (at 1 6) (SyncType (at 1 8) (at 1 13) IntKind))) (Some (initial (at 1 17)
          (ItemInit (One (Number (at 1 19) (pos 1))) None))) (at 1 20))) (Then (Call (name (codes "c") (at
          1 22)) (at 1 23) (WriteCall (at 1 24) WriteFFWord (at 1 31) (Number (at 1 32) (pos 2)) (at 1
          33)) (at 1 34)) (Then (Write (written_line (at 1 36) true (at 1 43) (Some (listed (ExprArgument
          (Postfixed (Named (name (codes "c") (at 1 44))) (Post (Dotted (at 1 45) (CellRead (at 1 46)
          ReadFFWord (at 1 52) (at 1 53))) NoPosts))) [])) (at 1 54) (at 1 55))) (Then (Call (name (codes
          "c") (at 1 57)) (at 1 58) (ResetCall (at 1 59) (at 1 64) (at 1 65)) (at 1 66)) (Then (Call (name
          (codes "c") (at 1 68)) (at 1 69) (WriteCall (at 1 70) WriteXFWord (at 1 77) (Number (at 1 78)
          (pos 3)) (at 1 79)) (at 1 80)) (Then (Call (name (codes "c") (at 1 82)) (at 1 83) (WriteCall (at
          1 84) WriteXFWord (at 1 91) (Number (at 1 92) (pos 4)) (at 1 93)) (at 1 94)) (Then (Write
          (written_line (at 1 96) true (at 1 103) (Some (listed (ExprArgument (Postfixed (Named (name
          (codes "c") (at 1 104))) (Post (Dotted (at 1 105) (CellRead (at 1 106) ReadFEWord (at 1 112) (at
          1 113))) NoPosts))) [])) (at 1 114) (at 1 115))) NoStmts)))))));
      end = (at 1 116);
    }

-- var c: sync int = 1; c.writeEF(2);
abbrev pub full_already : ProgramTree (List ℕ)
full_already =
    record {
      uses = [];
      stmts = (Then (Declare (declared None (at 1 1) false (name (codes "c") (at 1
          5)) (Some (typed (at 1 6) (SyncType (at 1 8) (at 1 13) IntKind))) (Some (initial (at 1 17)
          (ItemInit (One (Number (at 1 19) (pos 1))) None))) (at 1 20))) (Then (Call (name (codes "c") (at
          1 22)) (at 1 23) (WriteCall (at 1 24) WriteEFWord (at 1 31) (Number (at 1 32) (pos 2)) (at 1
          33)) (at 1 34)) NoStmts));
      end = (at 1 35);
    }

-- var c: sync bool = true; const b = c.readFF(); writeln(b, c.readFE());
abbrev pub truth_cell : ProgramTree (List ℕ)
truth_cell =
    record {
      uses = [];
      stmts = (Then (Declare (declared None (at 1 1) false (name (codes "c") (at 1
          5)) (Some (typed (at 1 6) (SyncType (at 1 8) (at 1 13) BoolKind))) (Some (initial (at 1 18)
          (ItemInit (One (TruthWord (at 1 20) true)) None))) (at 1 24))) (Then (Declare (declared None (at
          1 26) true (name (codes "b") (at 1 32)) None (Some (initial (at 1 34) (ItemInit (One (Postfixed
          (Named (name (codes "c") (at 1 36))) (Post (Dotted (at 1 37) (CellRead (at 1 38) ReadFFWord (at
          1 44) (at 1 45))) NoPosts))) None))) (at 1 46))) (Then (Write (written_line (at 1 48) true (at 1
          55) (Some (listed (ExprArgument (Named (name (codes "b") (at 1 56)))) (after (at 1 57)
          (ExprArgument (Postfixed (Named (name (codes "c") (at 1 59))) (Post (Dotted (at 1 60) (CellRead
          (at 1 61) ReadFEWord (at 1 67) (at 1 68))) NoPosts))) ∷ []))) (at 1 69) (at 1 70))) NoStmts)));
      end = (at 1 71);
    }

-- var c: sync int = 5; write("a", c.readFE(), 1/0);
abbrev pub read_before_the_fault : ProgramTree (List ℕ)
read_before_the_fault =
    record {
      uses = [];
      stmts = (Then (Declare (declared None (at 1 1) false (name (codes "c") (at 1
          5)) (Some (typed (at 1 6) (SyncType (at 1 8) (at 1 13) IntKind))) (Some (initial (at 1 17)
          (ItemInit (One (Number (at 1 19) (pos 5))) None))) (at 1 20))) (Then (Write (written_line (at 1
          22) false (at 1 27) (Some (listed (TextArgument (at 1 28) (codes "a")) (after (at 1 31)
          (ExprArgument (Postfixed (Named (name (codes "c") (at 1 33))) (Post (Dotted (at 1 34) (CellRead
          (at 1 35) ReadFEWord (at 1 41) (at 1 42))) NoPosts))) ∷ after (at 1 43) (ExprArgument (Chain
          (Number (at 1 45) (pos 1)) (Link (at 1 46) Divide (Number (at 1 47) (pos 0)) NoLinks))) ∷ [])))
          (at 1 48) (at 1 49))) NoStmts));
      end = (at 1 50);
    }

-- var c: sync bool = false; writeln(c.readFE());
abbrev pub false_in_a_cell : ProgramTree (List ℕ)
false_in_a_cell =
    record {
      uses = [];
      stmts = (Then (Declare (declared None (at 1 1) false (name (codes "c") (at 1
          5)) (Some (typed (at 1 6) (SyncType (at 1 8) (at 1 13) BoolKind))) (Some (initial (at 1 18)
          (ItemInit (One (TruthWord (at 1 20) false)) None))) (at 1 25))) (Then (Write (written_line (at 1
          27) true (at 1 34) (Some (listed (ExprArgument (Postfixed (Named (name (codes "c") (at 1 35)))
          (Post (Dotted (at 1 36) (CellRead (at 1 37) ReadFEWord (at 1 43) (at 1 44))) NoPosts))) [])) (at
          1 45) (at 1 46))) NoStmts));
      end = (at 1 47);
    }

-- var c: sync int; coforall k in 0..0 do c.writeEF(k);
abbrev pub no_reply_left : ProgramTree (List ℕ)
no_reply_left =
    record {
      uses = [];
      stmts = (Then (Declare (declared None (at 1 1) false (name (codes "c") (at 1
          5)) (Some (typed (at 1 6) (SyncType (at 1 8) (at 1 13) IntKind))) None (at 1 16))) (Then
          (Loop CoforallWord (at 1 18) (OneVariable (name (codes "k") (at 1 27))) (at 1 29) (RangeItem (Number (at
          1 32) (pos 0)) (at 1 33) Closed (Number (at 1 35) (pos 0)) NoStride) None (WordBody (at 1 37)
          (Call (name (codes "c") (at 1 40)) (at 1 41) (WriteCall (at 1 42) WriteEFWord (at 1 49) (Named
          (name (codes "k") (at 1 50))) (at 1 51)) (at 1 52)))) NoStmts));
      end = (at 1 53);
    }

-- coforall k in 1..0 do ; writeln(1);
abbrev pub no_tasks : ProgramTree (List ℕ)
no_tasks =
    record {
      uses = [];
      stmts = (Then (Loop CoforallWord (at 1 1) (OneVariable (name (codes "k") (at 1 10)))
          (at 1 12) (RangeItem (Number (at 1 15) (pos 1)) (at 1 16) Closed (Number (at 1 18) (pos 0))
          NoStride) None (WordBody (at 1 20) (Nothing (at 1 23)))) (Then (Write (written_line (at 1 25)
          true (at 1 32) (Some (listed (ExprArgument (Number (at 1 33) (pos 1))) [])) (at 1 34) (at 1
          35))) NoStmts));
      end = (at 1 36);
    }

-- coforall k in 1..65 do ;
abbrev pub too_many_tasks : ProgramTree (List ℕ)
too_many_tasks =
    record {
      uses = [];
      stmts = (Then (Loop CoforallWord (at 1 1) (OneVariable (name (codes "k") (at 1 10)))
          (at 1 12) (RangeItem (Number (at 1 15) (pos 1)) (at 1 16) Closed (Number (at 1 18) (pos 65))
          NoStride) None (WordBody (at 1 21) (Nothing (at 1 24)))) NoStmts);
      end = (at 1 25);
    }

-- coforall k in 1..64 do ; writeln(1);
abbrev pub as_many_tasks_as_may_be : ProgramTree (List ℕ)
as_many_tasks_as_may_be =
    record {
      uses = [];
      stmts = (Then (Loop CoforallWord (at 1 1) (OneVariable (name (codes "k") (at 1 10)))
          (at 1 12) (RangeItem (Number (at 1 15) (pos 1)) (at 1 16) Closed (Number (at 1 18) (pos 64))
          NoStride) None (WordBody (at 1 21) (Nothing (at 1 24)))) (Then (Write (written_line (at 1 26)
          true (at 1 33) (Some (listed (ExprArgument (Number (at 1 34) (pos 1))) [])) (at 1 35) (at 1
          36))) NoStmts));
      end = (at 1 37);
    }

-- coforall k in 1..4 do ; writeln(1);
abbrev pub no_budget_of_tasks : ProgramTree (List ℕ)
no_budget_of_tasks =
    record {
      uses = [];
      stmts = (Then (Loop CoforallWord (at 1 1) (OneVariable (name (codes "k") (at 1 10)))
          (at 1 12) (RangeItem (Number (at 1 15) (pos 1)) (at 1 16) Closed (Number (at 1 18) (pos 4))
          NoStride) None (WordBody (at 1 20) (Nothing (at 1 23)))) (Then (Write (written_line (at 1 25)
          true (at 1 32) (Some (listed (ExprArgument (Number (at 1 33) (pos 1))) [])) (at 1 34) (at 1
          35))) NoStmts));
      end = (at 1 36);
    }

-- var c: sync int; coforall k in 1..1 do c.writeEF(k); coforall k in 2..3 { if k == 2 then c.readFE(); else c.writeEF(7); } writeln(c.readFF(), c.readFE());
abbrev pub two_coforalls : ProgramTree (List ℕ)
two_coforalls =
    record {
      uses = [];
      stmts = (Then (Declare (declared None (at 1 1) false (name (codes "c") (at 1
          5)) (Some (typed (at 1 6) (SyncType (at 1 8) (at 1 13) IntKind))) None (at 1 16))) (Then
          (Loop CoforallWord (at 1 18) (OneVariable (name (codes "k") (at 1 27))) (at 1 29) (RangeItem (Number (at
          1 32) (pos 1)) (at 1 33) Closed (Number (at 1 35) (pos 1)) NoStride) None (WordBody (at 1 37)
          (Call (name (codes "c") (at 1 40)) (at 1 41) (WriteCall (at 1 42) WriteEFWord (at 1 49) (Named
          (name (codes "k") (at 1 50))) (at 1 51)) (at 1 52)))) (Then (Loop CoforallWord (at 1 54) (OneVariable
          (name (codes "k") (at 1 63))) (at 1 65) (RangeItem (Number (at 1 68) (pos 2)) (at 1 69) Closed
          (Number (at 1 71) (pos 3)) NoStride) None (BlockBody (at 1 73) (Then (If (at 1 75) (Chain (Named
          (name (codes "k") (at 1 78))) (Link (at 1 80) Equal (Number (at 1 83) (pos 2)) NoLinks))
          (WordBody (at 1 85) (Call (name (codes "c") (at 1 90)) (at 1 91) (ReadCall (at 1 92) ReadFEWord
          (at 1 98) (at 1 99)) (at 1 100))) (ElseDo (at 1 102) (Call (name (codes "c") (at 1 107)) (at 1
          108) (WriteCall (at 1 109) WriteEFWord (at 1 116) (Number (at 1 117) (pos 7)) (at 1 118)) (at 1
          119)))) NoStmts) (at 1 121))) (Then (Write (written_line (at 1 123) true (at 1 130) (Some
          (listed (ExprArgument (Postfixed (Named (name (codes "c") (at 1 131))) (Post (Dotted (at 1 132)
          (CellRead (at 1 133) ReadFFWord (at 1 139) (at 1 140))) NoPosts))) (after (at 1 141)
          (ExprArgument (Postfixed (Named (name (codes "c") (at 1 143))) (Post (Dotted (at 1 144)
          (CellRead (at 1 145) ReadFEWord (at 1 151) (at 1 152))) NoPosts))) ∷ []))) (at 1 153) (at 1
          154))) NoStmts))));
      end = (at 1 155);
    }

-- var c: sync int = 1; { var c: sync int; coforall k in 0..0 do c.writeEF(5); writeln(c.readFE()); } writeln(c.readFE());
abbrev pub hidden_cell : ProgramTree (List ℕ)
hidden_cell =
    record {
      uses = [];
      stmts = (Then (Declare (declared None (at 1 1) false (name (codes "c") (at 1
          5)) (Some (typed (at 1 6) (SyncType (at 1 8) (at 1 13) IntKind))) (Some (initial (at 1 17)
          (ItemInit (One (Number (at 1 19) (pos 1))) None))) (at 1 20))) (Then (Block (at 1 22) (Then
          (Declare (declared None (at 1 24) false (name (codes "c") (at 1 28)) (Some (typed (at 1 29)
          (SyncType (at 1 31) (at 1 36) IntKind))) None (at 1 39))) (Then (Loop CoforallWord (at 1 41) (OneVariable
          (name (codes "k") (at 1 50))) (at 1 52) (RangeItem (Number (at 1 55) (pos 0)) (at 1 56) Closed
          (Number (at 1 58) (pos 0)) NoStride) None (WordBody (at 1 60) (Call (name (codes "c") (at 1 63))
          (at 1 64) (WriteCall (at 1 65) WriteEFWord (at 1 72) (Number (at 1 73) (pos 5)) (at 1 74)) (at 1
          75)))) (Then (Write (written_line (at 1 77) true (at 1 84) (Some (listed (ExprArgument
          (Postfixed (Named (name (codes "c") (at 1 85))) (Post (Dotted (at 1 86) (CellRead (at 1 87)
          ReadFEWord (at 1 93) (at 1 94))) NoPosts))) [])) (at 1 95) (at 1 96))) NoStmts))) (at 1 98))
          (Then (Write (written_line (at 1 100) true (at 1 107) (Some (listed (ExprArgument (Postfixed
          (Named (name (codes "c") (at 1 108))) (Post (Dotted (at 1 109) (CellRead (at 1 110) ReadFEWord
          (at 1 116) (at 1 117))) NoPosts))) [])) (at 1 118) (at 1 119))) NoStmts)));
      end = (at 1 120);
    }

-- var c: sync int = 0; coforall loc in Locales do on loc { var v: int; v = c.readFE(); c.writeEF(v + here.id); } writeln(c.readFE(), here.id);
abbrev pub locale_tasks : ProgramTree (List ℕ)
locale_tasks =
    record {
      uses = [];
      stmts = (Then (Declare (declared None (at 1 1) false (name (codes "c") (at 1
          5)) (Some (typed (at 1 6) (SyncType (at 1 8) (at 1 13) IntKind))) (Some (initial (at 1 17)
          (ItemInit (One (Number (at 1 19) (pos 0))) None))) (at 1 20))) (Then (Loop CoforallWord (at 1 22)
          (OneVariable (name (codes "loc") (at 1 31))) (at 1 35) (One (LocalesWord (at 1 38))) None
          (WordBody (at 1 46) (Headed OnWord (at 1 49) (Named (name (codes "loc") (at 1 52))) (BlockBody (at 1 56)
          (Then (Declare (declared None (at 1 58) false (name (codes "v") (at 1 62)) (Some (typed (at 1
          63) (ScalarType (at 1 65) IntKind))) None (at 1 68))) (Then (Assigned (Whole (name (codes "v")
          (at 1 70))) (sign (at 1 72) Set (at 1 72)) (One (Postfixed (Named (name (codes "c") (at 1 74)))
          (Post (Dotted (at 1 75) (CellRead (at 1 76) ReadFEWord (at 1 82) (at 1 83))) NoPosts))) (at 1
          84)) (Then (Call (name (codes "c") (at 1 86)) (at 1 87) (WriteCall (at 1 88) WriteEFWord (at 1
          95) (Chain (Named (name (codes "v") (at 1 96))) (Link (at 1 98) Add (Postfixed (HereWord (at 1
          100)) (Post (Dotted (at 1 104) (Plainly (at 1 105) Id)) NoPosts)) NoLinks)) (at 1 107)) (at 1
          108)) NoStmts))) (at 1 110))))) (Then (Write (written_line (at 1 112) true (at 1 119) (Some
          (listed (ExprArgument (Postfixed (Named (name (codes "c") (at 1 120))) (Post (Dotted (at 1 121)
          (CellRead (at 1 122) ReadFEWord (at 1 128) (at 1 129))) NoPosts))) (after (at 1 130)
          (ExprArgument (Postfixed (HereWord (at 1 132)) (Post (Dotted (at 1 136) (Plainly (at 1 137) Id))
          NoPosts))) ∷ []))) (at 1 139) (at 1 140))) NoStmts)));
      end = (at 1 141);
    }

-- var c: sync int; coforall k in 0..3 { const q = 6 / ((k - 1) * (k - 3)); c.writeXF(q); }
abbrev pub fault_in_a_task : ProgramTree (List ℕ)
fault_in_a_task =
    record {
      uses = [];
      stmts = (Then (Declare (declared None (at 1 1) false (name (codes "c") (at 1
          5)) (Some (typed (at 1 6) (SyncType (at 1 8) (at 1 13) IntKind))) None (at 1 16))) (Then
          (Loop CoforallWord (at 1 18) (OneVariable (name (codes "k") (at 1 27))) (at 1 29) (RangeItem (Number (at
          1 32) (pos 0)) (at 1 33) Closed (Number (at 1 35) (pos 3)) NoStride) None (BlockBody (at 1 37)
          (Then (Declare (declared None (at 1 39) true (name (codes "q") (at 1 45)) None (Some (initial
          (at 1 47) (ItemInit (One (Chain (Number (at 1 49) (pos 6)) (Link (at 1 51) Divide (Grouped (at 1
          53) (One (Chain (Grouped (at 1 54) (One (Chain (Named (name (codes "k") (at 1 55))) (Link (at 1
          57) Subtract (Number (at 1 59) (pos 1)) NoLinks))) (at 1 60)) (Link (at 1 62) Multiply (Grouped
          (at 1 64) (One (Chain (Named (name (codes "k") (at 1 65))) (Link (at 1 67) Subtract (Number (at
          1 69) (pos 3)) NoLinks))) (at 1 70)) NoLinks))) (at 1 71)) NoLinks))) None))) (at 1 72))) (Then
          (Call (name (codes "c") (at 1 74)) (at 1 75) (WriteCall (at 1 76) WriteXFWord (at 1 83) (Named
          (name (codes "q") (at 1 84))) (at 1 85)) (at 1 86)) NoStmts)) (at 1 88))) NoStmts));
      end = (at 1
          89);
    }

-- var a: sync int; var b: sync int; coforall k in 0..1 { if k == 0 { const x = a.readFE(); b.writeEF(x); } else { const y = b.readFE(); a.writeEF(y); } }
abbrev pub each_waits : ProgramTree (List ℕ)
each_waits =
    record {
      uses = [];
      stmts = (Then (Declare (declared None (at 1 1) false (name (codes "a") (at 1
          5)) (Some (typed (at 1 6) (SyncType (at 1 8) (at 1 13) IntKind))) None (at 1 16))) (Then
          (Declare (declared None (at 1 18) false (name (codes "b") (at 1 22)) (Some (typed (at 1 23)
          (SyncType (at 1 25) (at 1 30) IntKind))) None (at 1 33))) (Then (Loop CoforallWord (at 1 35) (OneVariable
          (name (codes "k") (at 1 44))) (at 1 46) (RangeItem (Number (at 1 49) (pos 0)) (at 1 50) Closed
          (Number (at 1 52) (pos 1)) NoStride) None (BlockBody (at 1 54) (Then (If (at 1 56) (Chain (Named
          (name (codes "k") (at 1 59))) (Link (at 1 61) Equal (Number (at 1 64) (pos 0)) NoLinks))
          (BlockBody (at 1 66) (Then (Declare (declared None (at 1 68) true (name (codes "x") (at 1 74))
          None (Some (initial (at 1 76) (ItemInit (One (Postfixed (Named (name (codes "a") (at 1 78)))
          (Post (Dotted (at 1 79) (CellRead (at 1 80) ReadFEWord (at 1 86) (at 1 87))) NoPosts))) None)))
          (at 1 88))) (Then (Call (name (codes "b") (at 1 90)) (at 1 91) (WriteCall (at 1 92) WriteEFWord
          (at 1 99) (Named (name (codes "x") (at 1 100))) (at 1 101)) (at 1 102)) NoStmts)) (at 1 104))
          (ElseDo (at 1 106) (Block (at 1 111) (Then (Declare (declared None (at 1 113) true (name (codes
          "y") (at 1 119)) None (Some (initial (at 1 121) (ItemInit (One (Postfixed (Named (name (codes
          "b") (at 1 123))) (Post (Dotted (at 1 124) (CellRead (at 1 125) ReadFEWord (at 1 131) (at 1
          132))) NoPosts))) None))) (at 1 133))) (Then (Call (name (codes "a") (at 1 135)) (at 1 136)
          (WriteCall (at 1 137) WriteEFWord (at 1 144) (Named (name (codes "y") (at 1 145))) (at 1 146))
          (at 1 147)) NoStmts)) (at 1 149)))) NoStmts) (at 1 151))) NoStmts)));
      end = (at 1 152);
    }

-- The sample programs of `Faults`, as trees with the places of their tokens; each stands behind its text.
-- A script spelled them, which nobody has to trust: a tree that isn't its text's shows in its places.
use Rattle.std.specs.Prelude.{ℕ, List, [], ◌∷◌, pos, Some, None, true, false, codes}
use Rattle.dpl_language.specs.Tree.{Minus, Add, Subtract, Multiply, Divide, Remainder, Greater, Sum, Set, SetAdd, SetDivide, SetRemainder, IntKind, Closed, HalfOpen, Counted, Size, First, Number, Named, Grouped, DomainLiteral, Prefixed, Reduced, Chain, Postfixed, One, RangeItem, NoStride, By, NoLinks, Link, NoPosts, Post, Brackets, Rounds, Dotted, Plainly, Expand, FirstItem, NoItems, NextItem, FirstExpr, NoExprs, NextExpr, StartTuple, BlockMap, BlockCyclicMap, ScalarType, DomainType, ArrayType, CreateCyclic, ItemInit, CreateInit, ExprArgument, ReduceIntent, OneVariable, ManyVariables, Square, Whole, Element, Nothing, Declare, Assigned, Write, Block, If, Loop, WordBody, NoStmts, Then, NoElse, ProgramTree, ForWord, ForallWord}
use Rattle.dpl_language.proofs.Spelled.{at, name, after, argument, array_type, block_map, declared, domain_type, initial, listed, mapped, sign, typed, with_intents, written_line}

-- const D = {1..8}; var A: [D] int; forall i in D do A[i] = A[i-1];
abbrev pub neighbour_outside : ProgramTree (List ℕ)
neighbour_outside =
    record {
      uses = [];
      stmts = (Then (Declare (declared None (at 1 1) true (name (codes "D") (at 1
          7)) None (Some (initial (at 1 9) (ItemInit (One (DomainLiteral (at 1 11) (FirstItem (RangeItem
          (Number (at 1 12) (pos 1)) (at 1 13) Closed (Number (at 1 15) (pos 8)) NoStride) NoItems) (at 1
          16))) None))) (at 1 17))) (Then (Declare (declared None (at 1 19) false (name (codes "A") (at 1
          23)) (Some (typed (at 1 24) (ArrayType (array_type (at 1 26) (FirstItem (One (Named (name (codes
          "D") (at 1 27)))) NoItems) (at 1 28) (at 1 30) IntKind)))) None (at 1 33))) (Then (Loop ForallWord (at 1
          35) (OneVariable (name (codes "i") (at 1 42))) (at 1 44) (One (Named (name (codes "D") (at 1
          47)))) None (WordBody (at 1 49) (Assigned (Element (name (codes "A") (at 1 52)) Square (at 1 53)
          (FirstExpr (Named (name (codes "i") (at 1 54))) NoExprs) (at 1 55)) (sign (at 1 57) Set (at 1
          57)) (One (Postfixed (Named (name (codes "A") (at 1 59))) (Post (Brackets (at 1 60) (FirstItem
          (One (Chain (Named (name (codes "i") (at 1 61))) (Link (at 1 62) Subtract (Number (at 1 63) (pos
          1)) NoLinks))) NoItems) (at 1 64)) NoPosts))) (at 1 65)))) NoStmts)));
      end = (at 1 66);
    }

-- const D = {1..8} dmapped new blockDist(boundingBox={1..8});
-- var A: [D] int;
-- forall i in D do
--   A[i] = 12 / ((i-3)*(i-7));
abbrev pub first_turn_to_fail : ProgramTree (List ℕ)
first_turn_to_fail =
    record {
      uses = [];
      stmts = (Then (Declare (declared None (at 1 1) true (name (codes "D") (at 1
          7)) None (Some (initial (at 1 9) (ItemInit (One (DomainLiteral (at 1 11) (FirstItem (RangeItem
          (Number (at 1 12) (pos 1)) (at 1 13) Closed (Number (at 1 15) (pos 8)) NoStride) NoItems) (at 1
          16))) (Some (mapped (at 1 18) (BlockMap (block_map (at 1 26) (at 1 30) (at 1 39) (Some (argument
          (at 1 40) (at 1 51))) (One (DomainLiteral (at 1 52) (FirstItem (RangeItem (Number (at 1 53) (pos
          1)) (at 1 54) Closed (Number (at 1 56) (pos 8)) NoStride) NoItems) (at 1 57))) (at 1 58))))))))
          (at 1 59))) (Then (Declare (declared None (at 2 1) false (name (codes "A") (at 2 5)) (Some
          (typed (at 2 6) (ArrayType (array_type (at 2 8) (FirstItem (One (Named (name (codes "D") (at 2
          9)))) NoItems) (at 2 10) (at 2 12) IntKind)))) None (at 2 15))) (Then (Loop ForallWord (at 3 1)
          (OneVariable (name (codes "i") (at 3 8))) (at 3 10) (One (Named (name (codes "D") (at 3 13))))
          None (WordBody (at 3 15) (Assigned (Element (name (codes "A") (at 4 3)) Square (at 4 4)
          (FirstExpr (Named (name (codes "i") (at 4 5))) NoExprs) (at 4 6)) (sign (at 4 8) Set (at 4 8))
          (One (Chain (Number (at 4 10) (pos 12)) (Link (at 4 13) Divide (Grouped (at 4 15) (One (Chain
          (Grouped (at 4 16) (One (Chain (Named (name (codes "i") (at 4 17))) (Link (at 4 18) Subtract
          (Number (at 4 19) (pos 3)) NoLinks))) (at 4 20)) (Link (at 4 21) Multiply (Grouped (at 4 22)
          (One (Chain (Named (name (codes "i") (at 4 23))) (Link (at 4 24) Subtract (Number (at 4 25) (pos
          7)) NoLinks))) (at 4 26)) NoLinks))) (at 4 27)) NoLinks))) (at 4 28)))) NoStmts)));
      end = (at 4
          29);
    }

-- write(5); writeln(1/0);
abbrev pub fault_behind_output : ProgramTree (List ℕ)
fault_behind_output =
    record {
      uses = [];
      stmts = (Then (Write (written_line (at 1 1) false (at 1 6) (Some (listed
          (ExprArgument (Number (at 1 7) (pos 5))) [])) (at 1 8) (at 1 9))) (Then (Write (written_line (at
          1 11) true (at 1 18) (Some (listed (ExprArgument (Chain (Number (at 1 19) (pos 1)) (Link (at 1
          20) Divide (Number (at 1 21) (pos 0)) NoLinks))) [])) (at 1 22) (at 1 23))) NoStmts));
      end = (at
          1 24);
    }

-- var A: [1..3] int; forall i in 1..4 do A[i] = i;
abbrev pub index_outside : ProgramTree (List ℕ)
index_outside =
    record {
      uses = [];
      stmts = (Then (Declare (declared None (at 1 1) false (name (codes "A") (at 1
          5)) (Some (typed (at 1 6) (ArrayType (array_type (at 1 8) (FirstItem (RangeItem (Number (at 1 9)
          (pos 1)) (at 1 10) Closed (Number (at 1 12) (pos 3)) NoStride) NoItems) (at 1 13) (at 1 15)
          IntKind)))) None (at 1 18))) (Then (Loop ForallWord (at 1 20) (OneVariable (name (codes "i") (at 1 27)))
          (at 1 29) (RangeItem (Number (at 1 32) (pos 1)) (at 1 33) Closed (Number (at 1 35) (pos 4))
          NoStride) None (WordBody (at 1 37) (Assigned (Element (name (codes "A") (at 1 40)) Square (at 1
          41) (FirstExpr (Named (name (codes "i") (at 1 42))) NoExprs) (at 1 43)) (sign (at 1 45) Set (at
          1 45)) (One (Named (name (codes "i") (at 1 47)))) (at 1 48)))) NoStmts));
      end = (at 1 49);
    }

-- var A: [1..16777217] int;
abbrev pub array_too_large : ProgramTree (List ℕ)
array_too_large =
    record {
      uses = [];
      stmts = (Then (Declare (declared None (at 1 1) false (name (codes "A") (at 1
          5)) (Some (typed (at 1 6) (ArrayType (array_type (at 1 8) (FirstItem (RangeItem (Number (at 1 9)
          (pos 1)) (at 1 10) Closed (Number (at 1 12) (pos 16777217)) NoStride) NoItems) (at 1 20) (at 1
          22) IntKind)))) None (at 1 25))) NoStmts);
      end = (at 1 26);
    }

-- const r = 1..#-1;
abbrev pub negative_count : ProgramTree (List ℕ)
negative_count =
    record {
      uses = [];
      stmts = (Then (Declare (declared None (at 1 1) true (name (codes "r") (at 1
          7)) None (Some (initial (at 1 9) (ItemInit (RangeItem (Number (at 1 11) (pos 1)) (at 1 12)
          (Counted (at 1 14)) (Prefixed (at 1 15) Minus (Number (at 1 16) (pos 1))) NoStride) None))) (at
          1 17))) NoStmts);
      end = (at 1 18);
    }

-- const r = 5..4; writeln(r.first);
abbrev pub first_of_none : ProgramTree (List ℕ)
first_of_none =
    record {
      uses = [];
      stmts = (Then (Declare (declared None (at 1 1) true (name (codes "r") (at 1
          7)) None (Some (initial (at 1 9) (ItemInit (RangeItem (Number (at 1 11) (pos 5)) (at 1 12)
          Closed (Number (at 1 14) (pos 4)) NoStride) None))) (at 1 15))) (Then (Write (written_line (at 1
          17) true (at 1 24) (Some (listed (ExprArgument (Postfixed (Named (name (codes "r") (at 1 25)))
          (Post (Dotted (at 1 26) (Plainly (at 1 27) First)) NoPosts))) [])) (at 1 32) (at 1 33)))
          NoStmts));
      end = (at 1 34);
    }

-- var s: int; forall i in 1..4 with (+ reduce s) do s += 6 / (i - 3);
abbrev pub divided_scalar : ProgramTree (List ℕ)
divided_scalar =
    record {
      uses = [];
      stmts = (Then (Declare (declared None (at 1 1) false (name (codes "s") (at 1
          5)) (Some (typed (at 1 6) (ScalarType (at 1 8) IntKind))) None (at 1 11))) (Then (Loop ForallWord (at 1
          13) (OneVariable (name (codes "i") (at 1 20))) (at 1 22) (RangeItem (Number (at 1 25) (pos 1))
          (at 1 26) Closed (Number (at 1 28) (pos 4)) NoStride) (Some (with_intents (at 1 30) (at 1 35)
          (listed (ReduceIntent (at 1 36) Sum (at 1 38) (name (codes "s") (at 1 45))) []) (at 1 46)))
          (WordBody (at 1 48) (Assigned (Whole (name (codes "s") (at 1 51))) (sign (at 1 53) SetAdd (at 1
          53)) (One (Chain (Number (at 1 56) (pos 6)) (Link (at 1 58) Divide (Grouped (at 1 60) (One
          (Chain (Named (name (codes "i") (at 1 61))) (Link (at 1 63) Subtract (Number (at 1 65) (pos 3))
          NoLinks))) (at 1 66)) NoLinks))) (at 1 67)))) NoStmts));
      end = (at 1 68);
    }

-- const D: domain(2) dmapped new blockCycDist(startIdx=(0,0), blocksize=(2,2)) = {0..3, 0..3};
-- var A: [D] int;
-- forall (i,j) in D do A[i,j] = 1 / ((10*i+j-10) * (10*i+j-3));
abbrev pub first_turn_of_two : ProgramTree (List ℕ)
first_turn_of_two =
    record {
      uses = [];
      stmts = (Then (Declare (declared None (at 1 1) true (name (codes "D") (at 1
          7)) (Some (typed (at 1 8) (DomainType (domain_type (at 1 10) (at 1 16) (at 1 17) 2 (at 1 18)
          (Some (mapped (at 1 20) (BlockCyclicMap (record {
            new = (at 1 28);
            word = (at 1 32);
            from = (at
                1 44);
            start_argument = (Some (argument (at 1 45) (at 1 53)));
            start = (StartTuple (at 1 54)
                (listed (Number (at 1 55) (pos 0)) (after (at 1 56) (Number (at 1 57) (pos 0)) ∷ [])) (at 1
                58));
            comma = (at 1 59);
            size_argument = (Some (argument (at 1 61) (at 1 70)));
            size =
                (StartTuple (at 1 71) (listed (Number (at 1 72) (pos 2)) (after (at 1 73) (Number (at 1 74) (pos
                2)) ∷ [])) (at 1 75));
            upto = (at 1 76);
          })))))))) (Some (initial (at 1 78) (ItemInit (One
          (DomainLiteral (at 1 80) (FirstItem (RangeItem (Number (at 1 81) (pos 0)) (at 1 82) Closed
          (Number (at 1 84) (pos 3)) NoStride) (NextItem (at 1 85) (RangeItem (Number (at 1 87) (pos 0))
          (at 1 88) Closed (Number (at 1 90) (pos 3)) NoStride) NoItems)) (at 1 91))) None))) (at 1 92)))
          (Then (Declare (declared None (at 2 1) false (name (codes "A") (at 2 5)) (Some (typed (at 2 6)
          (ArrayType (array_type (at 2 8) (FirstItem (One (Named (name (codes "D") (at 2 9)))) NoItems)
          (at 2 10) (at 2 12) IntKind)))) None (at 2 15))) (Then (Loop ForallWord (at 3 1) (ManyVariables (at 3 8)
          (listed (name (codes "i") (at 3 9)) (after (at 3 10) (name (codes "j") (at 3 11)) ∷ [])) (at 3
          12)) (at 3 14) (One (Named (name (codes "D") (at 3 17)))) None (WordBody (at 3 19) (Assigned
          (Element (name (codes "A") (at 3 22)) Square (at 3 23) (FirstExpr (Named (name (codes "i") (at 3
          24))) (NextExpr (at 3 25) (Named (name (codes "j") (at 3 26))) NoExprs)) (at 3 27)) (sign (at 3
          29) Set (at 3 29)) (One (Chain (Number (at 3 31) (pos 1)) (Link (at 3 33) Divide (Grouped (at 3
          35) (One (Chain (Grouped (at 3 36) (One (Chain (Chain (Number (at 3 37) (pos 10)) (Link (at 3
          39) Multiply (Named (name (codes "i") (at 3 40))) NoLinks)) (Link (at 3 41) Add (Named (name
          (codes "j") (at 3 42))) (Link (at 3 43) Subtract (Number (at 3 44) (pos 10)) NoLinks)))) (at 3
          46)) (Link (at 3 48) Multiply (Grouped (at 3 50) (One (Chain (Chain (Number (at 3 51) (pos 10))
          (Link (at 3 53) Multiply (Named (name (codes "i") (at 3 54))) NoLinks)) (Link (at 3 55) Add
          (Named (name (codes "j") (at 3 56))) (Link (at 3 57) Subtract (Number (at 3 58) (pos 3))
          NoLinks)))) (at 3 59)) NoLinks))) (at 3 60)) NoLinks))) (at 3 61)))) NoStmts)));
      end = (at 3 62);
    }

-- forall i in 1/0..2 do ;
abbrev pub fault_of_the_loop_itself : ProgramTree (List ℕ)
fault_of_the_loop_itself =
    record {
      uses = [];
      stmts = (Then (Loop ForallWord (at 1 1) (OneVariable (name (codes "i") (at 1 8))) (at
          1 10) (RangeItem (Chain (Number (at 1 13) (pos 1)) (Link (at 1 14) Divide (Number (at 1 15) (pos
          0)) NoLinks)) (at 1 16) Closed (Number (at 1 18) (pos 2)) NoStride) None (WordBody (at 1 20)
          (Nothing (at 1 23)))) NoStmts);
      end = (at 1 24);
    }

-- const r = 0..1152921504606846977;
abbrev pub bound_past_the_limit : ProgramTree (List ℕ)
bound_past_the_limit =
    record {
      uses = [];
      stmts = (Then (Declare (declared None (at 1 1) true (name (codes "r") (at 1
          7)) None (Some (initial (at 1 9) (ItemInit (RangeItem (Number (at 1 11) (pos 0)) (at 1 12)
          Closed (Number (at 1 14) (pos 1152921504606846977)) NoStride) None))) (at 1 33))) NoStmts);
      end
          = (at 1 34);
    }

-- for i in -1152921504606846976..<-1152921504606846976 do ;
abbrev pub bound_before_the_least : ProgramTree (List ℕ)
bound_before_the_least =
    record {
      uses = [];
      stmts = (Then (Loop ForWord (at 1 1) (OneVariable (name (codes "i") (at 1 5))) (at 1
          7) (RangeItem (Prefixed (at 1 10) Minus (Number (at 1 11) (pos 1152921504606846976))) (at 1 30)
          HalfOpen (Prefixed (at 1 33) Minus (Number (at 1 34) (pos 1152921504606846976))) NoStride)
          None (WordBody (at 1 54) (Nothing (at 1 57)))) NoStmts);
      end = (at 1 58);
    }

-- var s: int; forall i in 1..8 by 0 with (+ reduce s) do s += 1;
abbrev pub stride_of_zero : ProgramTree (List ℕ)
stride_of_zero =
    record {
      uses = [];
      stmts = (Then (Declare (declared None (at 1 1) false (name (codes "s") (at 1
          5)) (Some (typed (at 1 6) (ScalarType (at 1 8) IntKind))) None (at 1 11))) (Then (Loop ForallWord (at 1
          13) (OneVariable (name (codes "i") (at 1 20))) (at 1 22) (RangeItem (Number (at 1 25) (pos 1))
          (at 1 26) Closed (Number (at 1 28) (pos 8)) (By (at 1 30) (Number (at 1 33) (pos 0)))) (Some
          (with_intents (at 1 35) (at 1 40) (listed (ReduceIntent (at 1 41) Sum (at 1 43) (name (codes
          "s") (at 1 50))) []) (at 1 51))) (WordBody (at 1 53) (Assigned (Whole (name (codes "s") (at 1
          56))) (sign (at 1 58) SetAdd (at 1 58)) (One (Number (at 1 61) (pos 1))) (at 1 62)))) NoStmts));
      end = (at 1 63);
    }

-- for i in 1..2 by 1152921504606846977 do ;
abbrev pub stride_past_the_limit : ProgramTree (List ℕ)
stride_past_the_limit =
    record {
      uses = [];
      stmts = (Then (Loop ForWord (at 1 1) (OneVariable (name (codes "i") (at 1 5))) (at 1
          7) (RangeItem (Number (at 1 10) (pos 1)) (at 1 11) Closed (Number (at 1 13) (pos 2)) (By (at 1
          15) (Number (at 1 18) (pos 1152921504606846977)))) None (WordBody (at 1 38) (Nothing (at 1 41))))
          NoStmts);
      end = (at 1 42);
    }

-- for i in 1..1152921504606846977 by 0 do ;
abbrev pub bounds_before_stride : ProgramTree (List ℕ)
bounds_before_stride =
    record {
      uses = [];
      stmts = (Then (Loop ForWord (at 1 1) (OneVariable (name (codes "i") (at 1 5))) (at 1
          7) (RangeItem (Number (at 1 10) (pos 1)) (at 1 11) Closed (Number (at 1 13) (pos
          1152921504606846977)) (By (at 1 33) (Number (at 1 36) (pos 0)))) None (WordBody (at 1 38) (Nothing
          (at 1 41)))) NoStmts);
      end = (at 1 42);
    }

-- for i in 1..1152921504606846977 by 1/0 do ;
abbrev pub stride_evaluated_before_bounds : ProgramTree (List ℕ)
stride_evaluated_before_bounds =
    record {
      uses = [];
      stmts = (Then (Loop ForWord (at 1 1) (OneVariable (name (codes "i") (at 1 5))) (at 1
          7) (RangeItem (Number (at 1 10) (pos 1)) (at 1 11) Closed (Number (at 1 13) (pos
          1152921504606846977)) (By (at 1 33) (Chain (Number (at 1 36) (pos 1)) (Link (at 1 37) Divide
          (Number (at 1 38) (pos 0)) NoLinks)))) None (WordBody (at 1 40) (Nothing (at 1 43)))) NoStmts);
      end =
          (at 1 44);
    }

-- const D = {1..1048576, 1..1048577};
abbrev pub domain_past_the_limit : ProgramTree (List ℕ)
domain_past_the_limit =
    record {
      uses = [];
      stmts = (Then (Declare (declared None (at 1 1) true (name (codes "D") (at 1
          7)) None (Some (initial (at 1 9) (ItemInit (One (DomainLiteral (at 1 11) (FirstItem (RangeItem
          (Number (at 1 12) (pos 1)) (at 1 13) Closed (Number (at 1 15) (pos 1048576)) NoStride) (NextItem
          (at 1 22) (RangeItem (Number (at 1 24) (pos 1)) (at 1 25) Closed (Number (at 1 27) (pos
          1048577)) NoStride) NoItems)) (at 1 34))) None))) (at 1 35))) NoStmts);
      end = (at 1 36);
    }

-- const D = cyclicDist.createDomain(1..1048576, 1..1048577);
abbrev pub created_past_the_limit : ProgramTree (List ℕ)
created_past_the_limit =
    record {
      uses = [];
      stmts = (Then (Declare (declared None (at 1 1) true (name (codes "D") (at 1
          7)) None (Some (initial (at 1 9) (CreateInit (record {
            at = (at 1 11);
            word = CreateCyclic;
            dot
                = (at 1 21);
            method = (at 1 22);
            from = (at 1 34);
            items = (FirstItem (RangeItem (Number (at 1
                35) (pos 1)) (at 1 36) Closed (Number (at 1 38) (pos 1048576)) NoStride) (NextItem (at 1 45)
                (RangeItem (Number (at 1 47) (pos 1)) (at 1 48) Closed (Number (at 1 50) (pos 1048577))
                NoStride) NoItems));
            upto = (at 1 57);
          })))) (at 1 58))) NoStmts);
      end = (at 1 59);
    }

-- const D = {1..257, 1..4278255361};
abbrev pub domain_of_one_too_many : ProgramTree (List ℕ)
domain_of_one_too_many =
    record {
      uses = [];
      stmts = (Then (Declare (declared None (at 1 1) true (name (codes "D") (at 1
          7)) None (Some (initial (at 1 9) (ItemInit (One (DomainLiteral (at 1 11) (FirstItem (RangeItem
          (Number (at 1 12) (pos 1)) (at 1 13) Closed (Number (at 1 15) (pos 257)) NoStride) (NextItem (at
          1 18) (RangeItem (Number (at 1 20) (pos 1)) (at 1 21) Closed (Number (at 1 23) (pos 4278255361))
          NoStride) NoItems)) (at 1 33))) None))) (at 1 34))) NoStmts);
      end = (at 1 35);
    }

-- var A: [1..1048576, 1..1048577] int;
abbrev pub ranges_of_a_type : ProgramTree (List ℕ)
ranges_of_a_type =
    record {
      uses = [];
      stmts = (Then (Declare (declared None (at 1 1) false (name (codes "A") (at 1
          5)) (Some (typed (at 1 6) (ArrayType (array_type (at 1 8) (FirstItem (RangeItem (Number (at 1 9)
          (pos 1)) (at 1 10) Closed (Number (at 1 12) (pos 1048576)) NoStride) (NextItem (at 1 19)
          (RangeItem (Number (at 1 21) (pos 1)) (at 1 22) Closed (Number (at 1 24) (pos 1048577))
          NoStride) NoItems)) (at 1 31) (at 1 33) IntKind)))) None (at 1 36))) NoStmts);
      end = (at 1 37);
    }

-- const D = {1..3}; if D.expand(1152921504606846976).size > 0 then ;
abbrev pub expanded_past_the_limit : ProgramTree (List ℕ)
expanded_past_the_limit =
    record {
      uses = [];
      stmts = (Then (Declare (declared None (at 1 1) true (name (codes "D") (at 1
          7)) None (Some (initial (at 1 9) (ItemInit (One (DomainLiteral (at 1 11) (FirstItem (RangeItem
          (Number (at 1 12) (pos 1)) (at 1 13) Closed (Number (at 1 15) (pos 3)) NoStride) NoItems) (at 1
          16))) None))) (at 1 17))) (Then (If (at 1 19) (Chain (Postfixed (Named (name (codes "D") (at 1
          22))) (Post (Dotted (at 1 23) (Expand (at 1 24) (at 1 30) (Number (at 1 31) (pos
          1152921504606846976)) (at 1 50))) (Post (Dotted (at 1 51) (Plainly (at 1 52) Size)) NoPosts)))
          (Link (at 1 57) Greater (Number (at 1 59) (pos 0)) NoLinks)) (WordBody (at 1 61) (Nothing (at 1
          66))) NoElse) NoStmts));
      end = (at 1 67);
    }

-- if {1152921504606846976..1152921504606846976}.expand(1).size > 0 then ;
abbrev pub expanded_past_a_bound : ProgramTree (List ℕ)
expanded_past_a_bound =
    record {
      uses = [];
      stmts = (Then (If (at 1 1) (Chain (Postfixed (DomainLiteral (at 1 4)
          (FirstItem (RangeItem (Number (at 1 5) (pos 1152921504606846976)) (at 1 24) Closed (Number (at 1
          26) (pos 1152921504606846976)) NoStride) NoItems) (at 1 45)) (Post (Dotted (at 1 46) (Expand (at
          1 47) (at 1 53) (Number (at 1 54) (pos 1)) (at 1 55))) (Post (Dotted (at 1 56) (Plainly (at 1
          57) Size)) NoPosts))) (Link (at 1 62) Greater (Number (at 1 64) (pos 0)) NoLinks)) (WordBody (at
          1 66) (Nothing (at 1 71))) NoElse) NoStmts);
      end = (at 1 72);
    }

-- var A: [1..16777217] int = 1/0;
abbrev pub large_before_its_value : ProgramTree (List ℕ)
large_before_its_value =
    record {
      uses = [];
      stmts = (Then (Declare (declared None (at 1 1) false (name (codes "A") (at 1
          5)) (Some (typed (at 1 6) (ArrayType (array_type (at 1 8) (FirstItem (RangeItem (Number (at 1 9)
          (pos 1)) (at 1 10) Closed (Number (at 1 12) (pos 16777217)) NoStride) NoItems) (at 1 20) (at 1
          22) IntKind)))) (Some (initial (at 1 26) (ItemInit (One (Chain (Number (at 1 28) (pos 1)) (Link
          (at 1 29) Divide (Number (at 1 30) (pos 0)) NoLinks))) None))) (at 1 31))) NoStmts);
      end = (at 1
          32);
    }

-- var D = {1..3}; var A: [D] int; D = {1..16777217};
abbrev pub too_large_again : ProgramTree (List ℕ)
too_large_again =
    record {
      uses = [];
      stmts = (Then (Declare (declared None (at 1 1) false (name (codes "D") (at 1
          5)) None (Some (initial (at 1 7) (ItemInit (One (DomainLiteral (at 1 9) (FirstItem (RangeItem
          (Number (at 1 10) (pos 1)) (at 1 11) Closed (Number (at 1 13) (pos 3)) NoStride) NoItems) (at 1
          14))) None))) (at 1 15))) (Then (Declare (declared None (at 1 17) false (name (codes "A") (at 1
          21)) (Some (typed (at 1 22) (ArrayType (array_type (at 1 24) (FirstItem (One (Named (name (codes
          "D") (at 1 25)))) NoItems) (at 1 26) (at 1 28) IntKind)))) None (at 1 31))) (Then (Assigned
          (Whole (name (codes "D") (at 1 33))) (sign (at 1 35) Set (at 1 35)) (One (DomainLiteral (at 1
          37) (FirstItem (RangeItem (Number (at 1 38) (pos 1)) (at 1 39) Closed (Number (at 1 41) (pos
          16777217)) NoStride) NoItems) (at 1 49))) (at 1 50)) NoStmts)));
      end = (at 1 51);
    }

-- var D = {1..2}; { var A: [D] int; D = {1..16777217}; }
abbrev pub too_large_inside : ProgramTree (List ℕ)
too_large_inside =
    record {
      uses = [];
      stmts = (Then (Declare (declared None (at 1 1) false (name (codes "D") (at 1
          5)) None (Some (initial (at 1 7) (ItemInit (One (DomainLiteral (at 1 9) (FirstItem (RangeItem
          (Number (at 1 10) (pos 1)) (at 1 11) Closed (Number (at 1 13) (pos 2)) NoStride) NoItems) (at 1
          14))) None))) (at 1 15))) (Then (Block (at 1 17) (Then (Declare (declared None (at 1 19) false
          (name (codes "A") (at 1 23)) (Some (typed (at 1 24) (ArrayType (array_type (at 1 26) (FirstItem
          (One (Named (name (codes "D") (at 1 27)))) NoItems) (at 1 28) (at 1 30) IntKind)))) None (at 1
          33))) (Then (Assigned (Whole (name (codes "D") (at 1 35))) (sign (at 1 37) Set (at 1 37)) (One
          (DomainLiteral (at 1 39) (FirstItem (RangeItem (Number (at 1 40) (pos 1)) (at 1 41) Closed
          (Number (at 1 43) (pos 16777217)) NoStride) NoItems) (at 1 51))) (at 1 52)) NoStmts)) (at 1 54))
          NoStmts));
      end = (at 1 55);
    }

-- var D = {1..2}; var A: [D] int; { D = {1..16777217}; }
abbrev pub too_large_from_inside : ProgramTree (List ℕ)
too_large_from_inside =
    record {
      uses = [];
      stmts = (Then (Declare (declared None (at 1 1) false (name (codes "D") (at 1
          5)) None (Some (initial (at 1 7) (ItemInit (One (DomainLiteral (at 1 9) (FirstItem (RangeItem
          (Number (at 1 10) (pos 1)) (at 1 11) Closed (Number (at 1 13) (pos 2)) NoStride) NoItems) (at 1
          14))) None))) (at 1 15))) (Then (Declare (declared None (at 1 17) false (name (codes "A") (at 1
          21)) (Some (typed (at 1 22) (ArrayType (array_type (at 1 24) (FirstItem (One (Named (name (codes
          "D") (at 1 25)))) NoItems) (at 1 26) (at 1 28) IntKind)))) None (at 1 31))) (Then (Block (at 1
          33) (Then (Assigned (Whole (name (codes "D") (at 1 35))) (sign (at 1 37) Set (at 1 37)) (One
          (DomainLiteral (at 1 39) (FirstItem (RangeItem (Number (at 1 40) (pos 1)) (at 1 41) Closed
          (Number (at 1 43) (pos 16777217)) NoStride) NoItems) (at 1 51))) (at 1 52)) NoStmts) (at 1 54))
          NoStmts)));
      end = (at 1 55);
    }

-- var A: [1..4] int = 1/0;
abbrev pub value_before_budget : ProgramTree (List ℕ)
value_before_budget =
    record {
      uses = [];
      stmts = (Then (Declare (declared None (at 1 1) false (name (codes "A") (at 1
          5)) (Some (typed (at 1 6) (ArrayType (array_type (at 1 8) (FirstItem (RangeItem (Number (at 1 9)
          (pos 1)) (at 1 10) Closed (Number (at 1 12) (pos 4)) NoStride) NoItems) (at 1 13) (at 1 15)
          IntKind)))) (Some (initial (at 1 19) (ItemInit (One (Chain (Number (at 1 21) (pos 1)) (Link (at
          1 22) Divide (Number (at 1 23) (pos 0)) NoLinks))) None))) (at 1 24))) NoStmts);
      end = (at 1 25);
    }

-- var A: [1..4] int = 1;
abbrev pub budget_of_a_declaration : ProgramTree (List ℕ)
budget_of_a_declaration =
    record {
      uses = [];
      stmts = (Then (Declare (declared None (at 1 1) false (name (codes "A") (at 1
          5)) (Some (typed (at 1 6) (ArrayType (array_type (at 1 8) (FirstItem (RangeItem (Number (at 1 9)
          (pos 1)) (at 1 10) Closed (Number (at 1 12) (pos 4)) NoStride) NoItems) (at 1 13) (at 1 15)
          IntKind)))) (Some (initial (at 1 19) (ItemInit (One (Number (at 1 21) (pos 1))) None))) (at 1
          22))) NoStmts);
      end = (at 1 23);
    }

-- var A: [1..4] int; A = 1;
abbrev pub budget_of_an_assignment : ProgramTree (List ℕ)
budget_of_an_assignment =
    record {
      uses = [];
      stmts = (Then (Declare (declared None (at 1 1) false (name (codes "A") (at 1
          5)) (Some (typed (at 1 6) (ArrayType (array_type (at 1 8) (FirstItem (RangeItem (Number (at 1 9)
          (pos 1)) (at 1 10) Closed (Number (at 1 12) (pos 4)) NoStride) NoItems) (at 1 13) (at 1 15)
          IntKind)))) None (at 1 18))) (Then (Assigned (Whole (name (codes "A") (at 1 20))) (sign (at 1
          22) Set (at 1 22)) (One (Number (at 1 24) (pos 1))) (at 1 25)) NoStmts));
      end = (at 1 26);
    }

-- var A: [1..4] int; A = 1 / A;
abbrev pub budget_before_promotion : ProgramTree (List ℕ)
budget_before_promotion =
    record {
      uses = [];
      stmts = (Then (Declare (declared None (at 1 1) false (name (codes "A") (at 1
          5)) (Some (typed (at 1 6) (ArrayType (array_type (at 1 8) (FirstItem (RangeItem (Number (at 1 9)
          (pos 1)) (at 1 10) Closed (Number (at 1 12) (pos 4)) NoStride) NoItems) (at 1 13) (at 1 15)
          IntKind)))) None (at 1 18))) (Then (Assigned (Whole (name (codes "A") (at 1 20))) (sign (at 1
          22) Set (at 1 22)) (One (Chain (Number (at 1 24) (pos 1)) (Link (at 1 26) Divide (Named (name
          (codes "A") (at 1 28))) NoLinks))) (at 1 29)) NoStmts));
      end = (at 1 30);
    }

-- var A: [1..4] int; writeln(+ reduce A);
abbrev pub budget_of_a_reduction : ProgramTree (List ℕ)
budget_of_a_reduction =
    record {
      uses = [];
      stmts = (Then (Declare (declared None (at 1 1) false (name (codes "A") (at 1
          5)) (Some (typed (at 1 6) (ArrayType (array_type (at 1 8) (FirstItem (RangeItem (Number (at 1 9)
          (pos 1)) (at 1 10) Closed (Number (at 1 12) (pos 4)) NoStride) NoItems) (at 1 13) (at 1 15)
          IntKind)))) None (at 1 18))) (Then (Write (written_line (at 1 20) true (at 1 27) (Some (listed
          (ExprArgument (Reduced (at 1 28) Sum (at 1 30) (Named (name (codes "A") (at 1 37))))) [])) (at 1
          38) (at 1 39))) NoStmts));
      end = (at 1 40);
    }

-- for i in 1..4 do write(i);
abbrev pub budget_of_a_for : ProgramTree (List ℕ)
budget_of_a_for =
    record {
      uses = [];
      stmts = (Then (Loop ForWord (at 1 1) (OneVariable (name (codes "i") (at 1 5))) (at 1
          7) (RangeItem (Number (at 1 10) (pos 1)) (at 1 11) Closed (Number (at 1 13) (pos 4)) NoStride)
          None (WordBody (at 1 15) (Write (written_line (at 1 18) false (at 1 23) (Some (listed (ExprArgument
          (Named (name (codes "i") (at 1 24)))) [])) (at 1 25) (at 1 26))))) NoStmts);
      end = (at 1 27);
    }

-- forall i in {1..2, 1..2} do ;
abbrev pub budget_of_a_forall : ProgramTree (List ℕ)
budget_of_a_forall =
    record {
      uses = [];
      stmts = (Then (Loop ForallWord (at 1 1) (OneVariable (name (codes "i") (at 1 8))) (at
          1 10) (One (DomainLiteral (at 1 13) (FirstItem (RangeItem (Number (at 1 14) (pos 1)) (at 1 15)
          Closed (Number (at 1 17) (pos 2)) NoStride) (NextItem (at 1 18) (RangeItem (Number (at 1 20)
          (pos 1)) (at 1 21) Closed (Number (at 1 23) (pos 2)) NoStride) NoItems)) (at 1 24))) None
          (WordBody (at 1 26) (Nothing (at 1 29)))) NoStmts);
      end = (at 1 30);
    }

-- for i in 1..3 do write(i);
abbrev pub budget_that_is_enough : ProgramTree (List ℕ)
budget_that_is_enough =
    record {
      uses = [];
      stmts = (Then (Loop ForWord (at 1 1) (OneVariable (name (codes "i") (at 1 5))) (at 1
          7) (RangeItem (Number (at 1 10) (pos 1)) (at 1 11) Closed (Number (at 1 13) (pos 3)) NoStride)
          None (WordBody (at 1 15) (Write (written_line (at 1 18) false (at 1 23) (Some (listed (ExprArgument
          (Named (name (codes "i") (at 1 24)))) [])) (at 1 25) (at 1 26))))) NoStmts);
      end = (at 1 27);
    }

-- var A: [1..3] int; A = 5 / A;
abbrev pub whole_in_its_turn : ProgramTree (List ℕ)
whole_in_its_turn =
    record {
      uses = [];
      stmts = (Then (Declare (declared None (at 1 1) false (name (codes "A") (at 1
          5)) (Some (typed (at 1 6) (ArrayType (array_type (at 1 8) (FirstItem (RangeItem (Number (at 1 9)
          (pos 1)) (at 1 10) Closed (Number (at 1 12) (pos 3)) NoStride) NoItems) (at 1 13) (at 1 15)
          IntKind)))) None (at 1 18))) (Then (Assigned (Whole (name (codes "A") (at 1 20))) (sign (at 1
          22) Set (at 1 22)) (One (Chain (Number (at 1 24) (pos 5)) (Link (at 1 26) Divide (Named (name
          (codes "A") (at 1 28))) NoLinks))) (at 1 29)) NoStmts));
      end = (at 1 30);
    }

-- var D = {1..3}; var A: [D] int = 1; A[2] = 0; var B: [D] int = 6 / A;
abbrev pub initial_in_its_turn : ProgramTree (List ℕ)
initial_in_its_turn =
    record {
      uses = [];
      stmts = (Then (Declare (declared None (at 1 1) false (name (codes "D") (at 1
          5)) None (Some (initial (at 1 7) (ItemInit (One (DomainLiteral (at 1 9) (FirstItem (RangeItem
          (Number (at 1 10) (pos 1)) (at 1 11) Closed (Number (at 1 13) (pos 3)) NoStride) NoItems) (at 1
          14))) None))) (at 1 15))) (Then (Declare (declared None (at 1 17) false (name (codes "A") (at 1
          21)) (Some (typed (at 1 22) (ArrayType (array_type (at 1 24) (FirstItem (One (Named (name (codes
          "D") (at 1 25)))) NoItems) (at 1 26) (at 1 28) IntKind)))) (Some (initial (at 1 32) (ItemInit
          (One (Number (at 1 34) (pos 1))) None))) (at 1 35))) (Then (Assigned (Element (name (codes "A")
          (at 1 37)) Square (at 1 38) (FirstExpr (Number (at 1 39) (pos 2)) NoExprs) (at 1 40)) (sign (at
          1 42) Set (at 1 42)) (One (Number (at 1 44) (pos 0))) (at 1 45)) (Then (Declare (declared None
          (at 1 47) false (name (codes "B") (at 1 51)) (Some (typed (at 1 52) (ArrayType (array_type (at 1
          54) (FirstItem (One (Named (name (codes "D") (at 1 55)))) NoItems) (at 1 56) (at 1 58)
          IntKind)))) (Some (initial (at 1 62) (ItemInit (One (Chain (Number (at 1 64) (pos 6)) (Link (at
          1 66) Divide (Named (name (codes "A") (at 1 68))) NoLinks))) None))) (at 1 69))) NoStmts))));
      end = (at 1 70);
    }

-- var A: [3..4] int; A /= 0;
abbrev pub whole_divided_in_its_turn : ProgramTree (List ℕ)
whole_divided_in_its_turn =
    record {
      uses = [];
      stmts = (Then (Declare (declared None (at 1 1) false (name (codes "A") (at 1
          5)) (Some (typed (at 1 6) (ArrayType (array_type (at 1 8) (FirstItem (RangeItem (Number (at 1 9)
          (pos 3)) (at 1 10) Closed (Number (at 1 12) (pos 4)) NoStride) NoItems) (at 1 13) (at 1 15)
          IntKind)))) None (at 1 18))) (Then (Assigned (Whole (name (codes "A") (at 1 20))) (sign (at 1
          22) SetDivide (at 1 22)) (One (Number (at 1 25) (pos 0))) (at 1 26)) NoStmts));
      end = (at 1 27);
    }

-- var A: [1..2] int; A = A[3];
abbrev pub element_in_no_turn : ProgramTree (List ℕ)
element_in_no_turn =
    record {
      uses = [];
      stmts = (Then (Declare (declared None (at 1 1) false (name (codes "A") (at 1
          5)) (Some (typed (at 1 6) (ArrayType (array_type (at 1 8) (FirstItem (RangeItem (Number (at 1 9)
          (pos 1)) (at 1 10) Closed (Number (at 1 12) (pos 2)) NoStride) NoItems) (at 1 13) (at 1 15)
          IntKind)))) None (at 1 18))) (Then (Assigned (Whole (name (codes "A") (at 1 20))) (sign (at 1
          22) Set (at 1 22)) (One (Postfixed (Named (name (codes "A") (at 1 24))) (Post (Brackets (at 1
          25) (FirstItem (One (Number (at 1 26) (pos 3))) NoItems) (at 1 27)) NoPosts))) (at 1 28))
          NoStmts));
      end = (at 1 29);
    }

-- var i: int = 1; i %= 0;
abbrev pub remainder_by_zero : ProgramTree (List ℕ)
remainder_by_zero =
    record {
      uses = [];
      stmts = (Then (Declare (declared None (at 1 1) false (name (codes "i") (at 1
          5)) (Some (typed (at 1 6) (ScalarType (at 1 8) IntKind))) (Some (initial (at 1 12) (ItemInit
          (One (Number (at 1 14) (pos 1))) None))) (at 1 15))) (Then (Assigned (Whole (name (codes "i")
          (at 1 17))) (sign (at 1 19) SetRemainder (at 1 19)) (One (Number (at 1 22) (pos 0))) (at 1 23))
          NoStmts));
      end = (at 1 24);
    }

-- var A: [1..2] int; A = 1 / 0;
abbrev pub scalar_in_no_turn : ProgramTree (List ℕ)
scalar_in_no_turn =
    record {
      uses = [];
      stmts = (Then (Declare (declared None (at 1 1) false (name (codes "A") (at 1
          5)) (Some (typed (at 1 6) (ArrayType (array_type (at 1 8) (FirstItem (RangeItem (Number (at 1 9)
          (pos 1)) (at 1 10) Closed (Number (at 1 12) (pos 2)) NoStride) NoItems) (at 1 13) (at 1 15)
          IntKind)))) None (at 1 18))) (Then (Assigned (Whole (name (codes "A") (at 1 20))) (sign (at 1
          22) Set (at 1 22)) (One (Chain (Number (at 1 24) (pos 1)) (Link (at 1 26) Divide (Number (at 1
          28) (pos 0)) NoLinks))) (at 1 29)) NoStmts));
      end = (at 1 30);
    }

-- var A: [2..3] int; writeln(+ reduce (1 / A));
abbrev pub reduction_in_its_turn : ProgramTree (List ℕ)
reduction_in_its_turn =
    record {
      uses = [];
      stmts = (Then (Declare (declared None (at 1 1) false (name (codes "A") (at 1
          5)) (Some (typed (at 1 6) (ArrayType (array_type (at 1 8) (FirstItem (RangeItem (Number (at 1 9)
          (pos 2)) (at 1 10) Closed (Number (at 1 12) (pos 3)) NoStride) NoItems) (at 1 13) (at 1 15)
          IntKind)))) None (at 1 18))) (Then (Write (written_line (at 1 20) true (at 1 27) (Some (listed
          (ExprArgument (Reduced (at 1 28) Sum (at 1 30) (Grouped (at 1 37) (One (Chain (Number (at 1 38)
          (pos 1)) (Link (at 1 40) Divide (Named (name (codes "A") (at 1 42))) NoLinks))) (at 1 43))))
          [])) (at 1 44) (at 1 45))) NoStmts));
      end = (at 1 46);
    }

-- var A: [1..2] int; A[1/0] = 1 % 0;
abbrev pub right_side_before_indices : ProgramTree (List ℕ)
right_side_before_indices =
    record {
      uses = [];
      stmts = (Then (Declare (declared None (at 1 1) false (name (codes "A") (at 1
          5)) (Some (typed (at 1 6) (ArrayType (array_type (at 1 8) (FirstItem (RangeItem (Number (at 1 9)
          (pos 1)) (at 1 10) Closed (Number (at 1 12) (pos 2)) NoStride) NoItems) (at 1 13) (at 1 15)
          IntKind)))) None (at 1 18))) (Then (Assigned (Element (name (codes "A") (at 1 20)) Square (at 1
          21) (FirstExpr (Chain (Number (at 1 22) (pos 1)) (Link (at 1 23) Divide (Number (at 1 24) (pos
          0)) NoLinks)) NoExprs) (at 1 25)) (sign (at 1 27) Set (at 1 27)) (One (Chain (Number (at 1 29)
          (pos 1)) (Link (at 1 31) Remainder (Number (at 1 33) (pos 0)) NoLinks))) (at 1 34)) NoStmts));
      end = (at 1 35);
    }

-- var A: [1..2] int; A[3] = 1 / 0;
abbrev pub right_side_before_access : ProgramTree (List ℕ)
right_side_before_access =
    record {
      uses = [];
      stmts = (Then (Declare (declared None (at 1 1) false (name (codes "A") (at 1
          5)) (Some (typed (at 1 6) (ArrayType (array_type (at 1 8) (FirstItem (RangeItem (Number (at 1 9)
          (pos 1)) (at 1 10) Closed (Number (at 1 12) (pos 2)) NoStride) NoItems) (at 1 13) (at 1 15)
          IntKind)))) None (at 1 18))) (Then (Assigned (Element (name (codes "A") (at 1 20)) Square (at 1
          21) (FirstExpr (Number (at 1 22) (pos 3)) NoExprs) (at 1 23)) (sign (at 1 25) Set (at 1 25))
          (One (Chain (Number (at 1 27) (pos 1)) (Link (at 1 29) Divide (Number (at 1 31) (pos 0))
          NoLinks))) (at 1 32)) NoStmts));
      end = (at 1 33);
    }

-- var A: [1..2, 1..2] int; A[3, 1 / 0] = 1;
abbrev pub indices_before_access : ProgramTree (List ℕ)
indices_before_access =
    record {
      uses = [];
      stmts = (Then (Declare (declared None (at 1 1) false (name (codes "A") (at 1
          5)) (Some (typed (at 1 6) (ArrayType (array_type (at 1 8) (FirstItem (RangeItem (Number (at 1 9)
          (pos 1)) (at 1 10) Closed (Number (at 1 12) (pos 2)) NoStride) (NextItem (at 1 13) (RangeItem
          (Number (at 1 15) (pos 1)) (at 1 16) Closed (Number (at 1 18) (pos 2)) NoStride) NoItems)) (at 1
          19) (at 1 21) IntKind)))) None (at 1 24))) (Then (Assigned (Element (name (codes "A") (at 1 26))
          Square (at 1 27) (FirstExpr (Number (at 1 28) (pos 3)) (NextExpr (at 1 29) (Chain (Number (at 1
          31) (pos 1)) (Link (at 1 33) Divide (Number (at 1 35) (pos 0)) NoLinks)) NoExprs)) (at 1 36))
          (sign (at 1 38) Set (at 1 38)) (One (Number (at 1 40) (pos 1))) (at 1 41)) NoStmts));
      end = (at
          1 42);
    }

-- var A: [1..2] int; A[3] /= 0;
abbrev pub outside_before_zero : ProgramTree (List ℕ)
outside_before_zero =
    record {
      uses = [];
      stmts = (Then (Declare (declared None (at 1 1) false (name (codes "A") (at 1
          5)) (Some (typed (at 1 6) (ArrayType (array_type (at 1 8) (FirstItem (RangeItem (Number (at 1 9)
          (pos 1)) (at 1 10) Closed (Number (at 1 12) (pos 2)) NoStride) NoItems) (at 1 13) (at 1 15)
          IntKind)))) None (at 1 18))) (Then (Assigned (Element (name (codes "A") (at 1 20)) Square (at 1
          21) (FirstExpr (Number (at 1 22) (pos 3)) NoExprs) (at 1 23)) (sign (at 1 25) SetDivide (at 1
          25)) (One (Number (at 1 28) (pos 0))) (at 1 29)) NoStmts));
      end = (at 1 30);
    }

-- var A: [1..2] int; writeln((A)[3]);
abbrev pub outside_in_brackets : ProgramTree (List ℕ)
outside_in_brackets =
    record {
      uses = [];
      stmts = (Then (Declare (declared None (at 1 1) false (name (codes "A") (at 1
          5)) (Some (typed (at 1 6) (ArrayType (array_type (at 1 8) (FirstItem (RangeItem (Number (at 1 9)
          (pos 1)) (at 1 10) Closed (Number (at 1 12) (pos 2)) NoStride) NoItems) (at 1 13) (at 1 15)
          IntKind)))) None (at 1 18))) (Then (Write (written_line (at 1 20) true (at 1 27) (Some (listed
          (ExprArgument (Postfixed (Grouped (at 1 28) (One (Named (name (codes "A") (at 1 29)))) (at 1
          30)) (Post (Brackets (at 1 31) (FirstItem (One (Number (at 1 32) (pos 3))) NoItems) (at 1 33))
          NoPosts))) [])) (at 1 34) (at 1 35))) NoStmts));
      end = (at 1 36);
    }

-- var A: [1..2] int; writeln(A(3));
abbrev pub outside_read : ProgramTree (List ℕ)
outside_read =
    record {
      uses = [];
      stmts = (Then (Declare (declared None (at 1 1) false (name (codes "A") (at 1
          5)) (Some (typed (at 1 6) (ArrayType (array_type (at 1 8) (FirstItem (RangeItem (Number (at 1 9)
          (pos 1)) (at 1 10) Closed (Number (at 1 12) (pos 2)) NoStride) NoItems) (at 1 13) (at 1 15)
          IntKind)))) None (at 1 18))) (Then (Write (written_line (at 1 20) true (at 1 27) (Some (listed
          (ExprArgument (Postfixed (Named (name (codes "A") (at 1 28))) (Post (Rounds (at 1 29) (FirstExpr
          (Number (at 1 30) (pos 3)) NoExprs) (at 1 31)) NoPosts))) [])) (at 1 32) (at 1 33))) NoStmts));
      end = (at 1 34);
    }

-- writeln(1); write(2); write(1 % 0);
abbrev pub stopped_within_a_line : ProgramTree (List ℕ)
stopped_within_a_line =
    record {
      uses = [];
      stmts = (Then (Write (written_line (at 1 1) true (at 1 8) (Some (listed
          (ExprArgument (Number (at 1 9) (pos 1))) [])) (at 1 10) (at 1 11))) (Then (Write (written_line
          (at 1 13) false (at 1 18) (Some (listed (ExprArgument (Number (at 1 19) (pos 2))) [])) (at 1 20)
          (at 1 21))) (Then (Write (written_line (at 1 23) false (at 1 28) (Some (listed (ExprArgument
          (Chain (Number (at 1 29) (pos 1)) (Link (at 1 31) Remainder (Number (at 1 33) (pos 0))
          NoLinks))) [])) (at 1 34) (at 1 35))) NoStmts)));
      end = (at 1 36);
    }

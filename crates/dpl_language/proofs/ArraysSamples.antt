-- The sample programs of `Arrays`, as trees with the places of their tokens; each stands behind its text.
-- A script spelled them, which nobody has to trust: a tree that isn't its text's shows in its places.
use Rattle.std.specs.Prelude.{ℕ, List, [], ◌∷◌, pos, Some, None, true, false, codes}
use Rattle.dpl_language.specs.Tree.{Minus, Add, Subtract, Multiply, Less, Sum, Product, AllOf, AnyOf, BitAnd, BitOr, BitXor, Least, Greatest, Set, SetAdd, SetDivide, IntKind, BoolKind, Closed, Size, Low, DomainOf, Number, TruthWord, Named, Grouped, DomainLiteral, Prefixed, Reduced, Chain, Postfixed, One, RangeItem, NoStride, By, NoLinks, Link, NoPosts, Post, Brackets, Dotted, Plainly, Dim, FirstItem, NoItems, NextItem, FirstExpr, NoExprs, NextExpr, StartExpr, BlockMap, CyclicMap, DomainType, ArrayType, ItemInit, TextArgument, ExprArgument, OneVariable, ManyVariables, Square, Round, Whole, Element, Declare, Assigned, Write, Block, Loop, WordBody, BlockBody, NoStmts, Then, ProgramTree, ForallWord}
use Rattle.dpl_language.proofs.Spelled.{at, name, after, argument, array_type, block_map, cyclic_map, declared, domain_type, initial, listed, mapped, sign, typed, written_line}

-- var A: [1..0] int; writeln(max reduce A);
abbrev pub max_of_no_elements : ProgramTree (List ℕ)
max_of_no_elements =
    record {
      uses = [];
      stmts = (Then (Declare (declared None (at 1 1) false (name (codes "A") (at 1
          5)) (Some (typed (at 1 6) (ArrayType (array_type (at 1 8) (FirstItem (RangeItem (Number (at 1 9)
          (pos 1)) (at 1 10) Closed (Number (at 1 12) (pos 0)) NoStride) NoItems) (at 1 13) (at 1 15)
          IntKind)))) None (at 1 18))) (Then (Write (written_line (at 1 20) true (at 1 27) (Some (listed
          (ExprArgument (Reduced (at 1 28) Greatest (at 1 32) (Named (name (codes "A") (at 1 39))))) []))
          (at 1 40) (at 1 41))) NoStmts));
      end = (at 1 42);
    }

-- const D = {1..8} dmapped new blockDist(boundingBox={1..8}); var A: [D] int; forall i in D do A[i] = i*i; writeln(+ reduce A); writeln(A);
abbrev pub squares_in_blocks : ProgramTree (List ℕ)
squares_in_blocks =
    record {
      uses = [];
      stmts = (Then (Declare (declared None (at 1 1) true (name (codes "D") (at 1
          7)) None (Some (initial (at 1 9) (ItemInit (One (DomainLiteral (at 1 11) (FirstItem (RangeItem
          (Number (at 1 12) (pos 1)) (at 1 13) Closed (Number (at 1 15) (pos 8)) NoStride) NoItems) (at 1
          16))) (Some (mapped (at 1 18) (BlockMap (block_map (at 1 26) (at 1 30) (at 1 39) (Some (argument
          (at 1 40) (at 1 51))) (One (DomainLiteral (at 1 52) (FirstItem (RangeItem (Number (at 1 53) (pos
          1)) (at 1 54) Closed (Number (at 1 56) (pos 8)) NoStride) NoItems) (at 1 57))) (at 1 58))))))))
          (at 1 59))) (Then (Declare (declared None (at 1 61) false (name (codes "A") (at 1 65)) (Some
          (typed (at 1 66) (ArrayType (array_type (at 1 68) (FirstItem (One (Named (name (codes "D") (at 1
          69)))) NoItems) (at 1 70) (at 1 72) IntKind)))) None (at 1 75))) (Then (Loop ForallWord (at 1 77)
          (OneVariable (name (codes "i") (at 1 84))) (at 1 86) (One (Named (name (codes "D") (at 1 89))))
          None (WordBody (at 1 91) (Assigned (Element (name (codes "A") (at 1 94)) Square (at 1 95)
          (FirstExpr (Named (name (codes "i") (at 1 96))) NoExprs) (at 1 97)) (sign (at 1 99) Set (at 1
          99)) (One (Chain (Named (name (codes "i") (at 1 101))) (Link (at 1 102) Multiply (Named (name
          (codes "i") (at 1 103))) NoLinks))) (at 1 104)))) (Then (Write (written_line (at 1 106) true (at
          1 113) (Some (listed (ExprArgument (Reduced (at 1 114) Sum (at 1 116) (Named (name (codes "A")
          (at 1 123))))) [])) (at 1 124) (at 1 125))) (Then (Write (written_line (at 1 127) true (at 1
          134) (Some (listed (ExprArgument (Named (name (codes "A") (at 1 135)))) [])) (at 1 136) (at 1
          137))) NoStmts)))));
      end = (at 1 138);
    }

-- const S = {0..4, 0..4}; const D: domain(2) dmapped new cyclicDist(startIdx=S.low) = S; var A: [D] int; var B: [D] int; forall (i,j) in D do A[i,j] = 10*i + j; forall (i,j) in D[1..3, 1..3] do B[i,j] = A[i-1,j] + A[i+1,j] + A[i,j-1] + A[i,j+1]; writeln(B);
abbrev pub plate_of_neighbours : ProgramTree (List ℕ)
plate_of_neighbours =
    record {
      uses = [];
      stmts = (Then (Declare (declared None (at 1 1) true (name (codes "S") (at 1
          7)) None (Some (initial (at 1 9) (ItemInit (One (DomainLiteral (at 1 11) (FirstItem (RangeItem
          (Number (at 1 12) (pos 0)) (at 1 13) Closed (Number (at 1 15) (pos 4)) NoStride) (NextItem (at 1
          16) (RangeItem (Number (at 1 18) (pos 0)) (at 1 19) Closed (Number (at 1 21) (pos 4)) NoStride)
          NoItems)) (at 1 22))) None))) (at 1 23))) (Then (Declare (declared None (at 1 25) true (name
          (codes "D") (at 1 31)) (Some (typed (at 1 32) (DomainType (domain_type (at 1 34) (at 1 40) (at 1
          41) 2 (at 1 42) (Some (mapped (at 1 44) (CyclicMap (cyclic_map (at 1 52) (at 1 56) (at 1 66)
          (Some (argument (at 1 67) (at 1 75))) (StartExpr (Postfixed (Named (name (codes "S") (at 1 76)))
          (Post (Dotted (at 1 77) (Plainly (at 1 78) Low)) NoPosts))) (at 1 81))))))))) (Some (initial (at
          1 83) (ItemInit (One (Named (name (codes "S") (at 1 85)))) None))) (at 1 86))) (Then (Declare
          (declared None (at 1 88) false (name (codes "A") (at 1 92)) (Some (typed (at 1 93) (ArrayType
          (array_type (at 1 95) (FirstItem (One (Named (name (codes "D") (at 1 96)))) NoItems) (at 1 97)
          (at 1 99) IntKind)))) None (at 1 102))) (Then (Declare (declared None (at 1 104) false (name
          (codes "B") (at 1 108)) (Some (typed (at 1 109) (ArrayType (array_type (at 1 111) (FirstItem
          (One (Named (name (codes "D") (at 1 112)))) NoItems) (at 1 113) (at 1 115) IntKind)))) None (at
          1 118))) (Then (Loop ForallWord (at 1 120) (ManyVariables (at 1 127) (listed (name (codes "i") (at 1
          128)) (after (at 1 129) (name (codes "j") (at 1 130)) ∷ [])) (at 1 131)) (at 1 133) (One (Named
          (name (codes "D") (at 1 136)))) None (WordBody (at 1 138) (Assigned (Element (name (codes "A")
          (at 1 141)) Square (at 1 142) (FirstExpr (Named (name (codes "i") (at 1 143))) (NextExpr (at 1
          144) (Named (name (codes "j") (at 1 145))) NoExprs)) (at 1 146)) (sign (at 1 148) Set (at 1
          148)) (One (Chain (Chain (Number (at 1 150) (pos 10)) (Link (at 1 152) Multiply (Named (name
          (codes "i") (at 1 153))) NoLinks)) (Link (at 1 155) Add (Named (name (codes "j") (at 1 157)))
          NoLinks))) (at 1 158)))) (Then (Loop ForallWord (at 1 160) (ManyVariables (at 1 167) (listed (name (codes
          "i") (at 1 168)) (after (at 1 169) (name (codes "j") (at 1 170)) ∷ [])) (at 1 171)) (at 1 173)
          (One (Postfixed (Named (name (codes "D") (at 1 176))) (Post (Brackets (at 1 177) (FirstItem
          (RangeItem (Number (at 1 178) (pos 1)) (at 1 179) Closed (Number (at 1 181) (pos 3)) NoStride)
          (NextItem (at 1 182) (RangeItem (Number (at 1 184) (pos 1)) (at 1 185) Closed (Number (at 1 187)
          (pos 3)) NoStride) NoItems)) (at 1 188)) NoPosts))) None (WordBody (at 1 190) (Assigned (Element
          (name (codes "B") (at 1 193)) Square (at 1 194) (FirstExpr (Named (name (codes "i") (at 1 195)))
          (NextExpr (at 1 196) (Named (name (codes "j") (at 1 197))) NoExprs)) (at 1 198)) (sign (at 1
          200) Set (at 1 200)) (One (Chain (Postfixed (Named (name (codes "A") (at 1 202))) (Post
          (Brackets (at 1 203) (FirstItem (One (Chain (Named (name (codes "i") (at 1 204))) (Link (at 1
          205) Subtract (Number (at 1 206) (pos 1)) NoLinks))) (NextItem (at 1 207) (One (Named (name
          (codes "j") (at 1 208)))) NoItems)) (at 1 209)) NoPosts)) (Link (at 1 211) Add (Postfixed (Named
          (name (codes "A") (at 1 213))) (Post (Brackets (at 1 214) (FirstItem (One (Chain (Named (name
          (codes "i") (at 1 215))) (Link (at 1 216) Add (Number (at 1 217) (pos 1)) NoLinks))) (NextItem
          (at 1 218) (One (Named (name (codes "j") (at 1 219)))) NoItems)) (at 1 220)) NoPosts)) (Link (at
          1 222) Add (Postfixed (Named (name (codes "A") (at 1 224))) (Post (Brackets (at 1 225)
          (FirstItem (One (Named (name (codes "i") (at 1 226)))) (NextItem (at 1 227) (One (Chain (Named
          (name (codes "j") (at 1 228))) (Link (at 1 229) Subtract (Number (at 1 230) (pos 1)) NoLinks)))
          NoItems)) (at 1 231)) NoPosts)) (Link (at 1 233) Add (Postfixed (Named (name (codes "A") (at 1
          235))) (Post (Brackets (at 1 236) (FirstItem (One (Named (name (codes "i") (at 1 237))))
          (NextItem (at 1 238) (One (Chain (Named (name (codes "j") (at 1 239))) (Link (at 1 240) Add
          (Number (at 1 241) (pos 1)) NoLinks))) NoItems)) (at 1 242)) NoPosts)) NoLinks))))) (at 1
          243)))) (Then (Write (written_line (at 1 245) true (at 1 252) (Some (listed (ExprArgument (Named
          (name (codes "B") (at 1 253)))) [])) (at 1 254) (at 1 255))) NoStmts)))))));
      end = (at 1 256);
    }

-- var D = {1..4}; var A: [D] int; forall i in D do A[i] = i; D = {3..6}; writeln(A);
abbrev pub domain_assigned : ProgramTree (List ℕ)
domain_assigned =
    record {
      uses = [];
      stmts = (Then (Declare (declared None (at 1 1) false (name (codes "D") (at 1
          5)) None (Some (initial (at 1 7) (ItemInit (One (DomainLiteral (at 1 9) (FirstItem (RangeItem
          (Number (at 1 10) (pos 1)) (at 1 11) Closed (Number (at 1 13) (pos 4)) NoStride) NoItems) (at 1
          14))) None))) (at 1 15))) (Then (Declare (declared None (at 1 17) false (name (codes "A") (at 1
          21)) (Some (typed (at 1 22) (ArrayType (array_type (at 1 24) (FirstItem (One (Named (name (codes
          "D") (at 1 25)))) NoItems) (at 1 26) (at 1 28) IntKind)))) None (at 1 31))) (Then (Loop ForallWord (at 1
          33) (OneVariable (name (codes "i") (at 1 40))) (at 1 42) (One (Named (name (codes "D") (at 1
          45)))) None (WordBody (at 1 47) (Assigned (Element (name (codes "A") (at 1 50)) Square (at 1 51)
          (FirstExpr (Named (name (codes "i") (at 1 52))) NoExprs) (at 1 53)) (sign (at 1 55) Set (at 1
          55)) (One (Named (name (codes "i") (at 1 57)))) (at 1 58)))) (Then (Assigned (Whole (name (codes
          "D") (at 1 60))) (sign (at 1 62) Set (at 1 62)) (One (DomainLiteral (at 1 64) (FirstItem
          (RangeItem (Number (at 1 65) (pos 3)) (at 1 66) Closed (Number (at 1 68) (pos 6)) NoStride)
          NoItems) (at 1 69))) (at 1 70)) (Then (Write (written_line (at 1 72) true (at 1 79) (Some
          (listed (ExprArgument (Named (name (codes "A") (at 1 80)))) [])) (at 1 81) (at 1 82)))
          NoStmts)))));
      end = (at 1 83);
    }

-- var A: [1..2, 1..2, 1..2] int; forall (i,j,k) in A.domain do A[i,j,k] = 100*i + 10*j + k; writeln(A);
abbrev pub three_planes : ProgramTree (List ℕ)
three_planes =
    record {
      uses = [];
      stmts = (Then (Declare (declared None (at 1 1) false (name (codes "A") (at 1
          5)) (Some (typed (at 1 6) (ArrayType (array_type (at 1 8) (FirstItem (RangeItem (Number (at 1 9)
          (pos 1)) (at 1 10) Closed (Number (at 1 12) (pos 2)) NoStride) (NextItem (at 1 13) (RangeItem
          (Number (at 1 15) (pos 1)) (at 1 16) Closed (Number (at 1 18) (pos 2)) NoStride) (NextItem (at 1
          19) (RangeItem (Number (at 1 21) (pos 1)) (at 1 22) Closed (Number (at 1 24) (pos 2)) NoStride)
          NoItems))) (at 1 25) (at 1 27) IntKind)))) None (at 1 30))) (Then (Loop ForallWord (at 1 32)
          (ManyVariables (at 1 39) (listed (name (codes "i") (at 1 40)) (after (at 1 41) (name (codes "j")
          (at 1 42)) ∷ after (at 1 43) (name (codes "k") (at 1 44)) ∷ [])) (at 1 45)) (at 1 47) (One
          (Postfixed (Named (name (codes "A") (at 1 50))) (Post (Dotted (at 1 51) (Plainly (at 1 52)
          DomainOf)) NoPosts))) None (WordBody (at 1 59) (Assigned (Element (name (codes "A") (at 1 62))
          Square (at 1 63) (FirstExpr (Named (name (codes "i") (at 1 64))) (NextExpr (at 1 65) (Named
          (name (codes "j") (at 1 66))) (NextExpr (at 1 67) (Named (name (codes "k") (at 1 68)))
          NoExprs))) (at 1 69)) (sign (at 1 71) Set (at 1 71)) (One (Chain (Chain (Number (at 1 73) (pos
          100)) (Link (at 1 76) Multiply (Named (name (codes "i") (at 1 77))) NoLinks)) (Link (at 1 79)
          Add (Chain (Number (at 1 81) (pos 10)) (Link (at 1 83) Multiply (Named (name (codes "j") (at 1
          84))) NoLinks)) (Link (at 1 86) Add (Named (name (codes "k") (at 1 88))) NoLinks)))) (at 1
          89)))) (Then (Write (written_line (at 1 91) true (at 1 98) (Some (listed (ExprArgument (Named
          (name (codes "A") (at 1 99)))) [])) (at 1 100) (at 1 101))) NoStmts)));
      end = (at 1 102);
    }

-- var A: [1..0] int; writeln(min reduce A, " ", | reduce A, " ", ^ reduce A, " ", & reduce A, " ", * reduce A, " ", + reduce A);
abbrev pub units : ProgramTree (List ℕ)
units =
    record {
      uses = [];
      stmts = (Then (Declare (declared None (at 1 1) false (name (codes "A") (at 1
          5)) (Some (typed (at 1 6) (ArrayType (array_type (at 1 8) (FirstItem (RangeItem (Number (at 1 9)
          (pos 1)) (at 1 10) Closed (Number (at 1 12) (pos 0)) NoStride) NoItems) (at 1 13) (at 1 15)
          IntKind)))) None (at 1 18))) (Then (Write (written_line (at 1 20) true (at 1 27) (Some (listed
          (ExprArgument (Reduced (at 1 28) Least (at 1 32) (Named (name (codes "A") (at 1 39))))) (after
          (at 1 40) (TextArgument (at 1 42) (codes " ")) ∷ after (at 1 45) (ExprArgument (Reduced (at 1
          47) BitOr (at 1 49) (Named (name (codes "A") (at 1 56))))) ∷ after (at 1 57) (TextArgument (at 1
          59) (codes " ")) ∷ after (at 1 62) (ExprArgument (Reduced (at 1 64) BitXor (at 1 66) (Named
          (name (codes "A") (at 1 73))))) ∷ after (at 1 74) (TextArgument (at 1 76) (codes " ")) ∷ after
          (at 1 79) (ExprArgument (Reduced (at 1 81) BitAnd (at 1 83) (Named (name (codes "A") (at 1
          90))))) ∷ after (at 1 91) (TextArgument (at 1 93) (codes " ")) ∷ after (at 1 96) (ExprArgument
          (Reduced (at 1 98) Product (at 1 100) (Named (name (codes "A") (at 1 107))))) ∷ after (at 1 108)
          (TextArgument (at 1 110) (codes " ")) ∷ after (at 1 113) (ExprArgument (Reduced (at 1 115) Sum
          (at 1 117) (Named (name (codes "A") (at 1 124))))) ∷ []))) (at 1 125) (at 1 126))) NoStmts));
      end = (at 1 127);
    }

-- var A: [1..0] bool; writeln(&& reduce A, " ", || reduce A);
abbrev pub units_of_truths : ProgramTree (List ℕ)
units_of_truths =
    record {
      uses = [];
      stmts = (Then (Declare (declared None (at 1 1) false (name (codes "A") (at 1
          5)) (Some (typed (at 1 6) (ArrayType (array_type (at 1 8) (FirstItem (RangeItem (Number (at 1 9)
          (pos 1)) (at 1 10) Closed (Number (at 1 12) (pos 0)) NoStride) NoItems) (at 1 13) (at 1 15)
          BoolKind)))) None (at 1 19))) (Then (Write (written_line (at 1 21) true (at 1 28) (Some (listed
          (ExprArgument (Reduced (at 1 29) AllOf (at 1 32) (Named (name (codes "A") (at 1 39))))) (after
          (at 1 40) (TextArgument (at 1 42) (codes " ")) ∷ after (at 1 45) (ExprArgument (Reduced (at 1
          47) AnyOf (at 1 50) (Named (name (codes "A") (at 1 57))))) ∷ []))) (at 1 58) (at 1 59)))
          NoStmts));
      end = (at 1 60);
    }

-- var A: [1..0, 1..2] int; writeln("<", A, ">");
abbrev pub empty_square : ProgramTree (List ℕ)
empty_square =
    record {
      uses = [];
      stmts = (Then (Declare (declared None (at 1 1) false (name (codes "A") (at 1
          5)) (Some (typed (at 1 6) (ArrayType (array_type (at 1 8) (FirstItem (RangeItem (Number (at 1 9)
          (pos 1)) (at 1 10) Closed (Number (at 1 12) (pos 0)) NoStride) (NextItem (at 1 13) (RangeItem
          (Number (at 1 15) (pos 1)) (at 1 16) Closed (Number (at 1 18) (pos 2)) NoStride) NoItems)) (at 1
          19) (at 1 21) IntKind)))) None (at 1 24))) (Then (Write (written_line (at 1 26) true (at 1 33)
          (Some (listed (TextArgument (at 1 34) (codes "<")) (after (at 1 37) (ExprArgument (Named (name
          (codes "A") (at 1 39)))) ∷ after (at 1 40) (TextArgument (at 1 42) (codes ">")) ∷ []))) (at 1
          45) (at 1 46))) NoStmts));
      end = (at 1 47);
    }

-- var A: [1..3 by -1] int; forall i in A.domain do A[i] = i; writeln(A);
abbrev pub falling_array : ProgramTree (List ℕ)
falling_array =
    record {
      uses = [];
      stmts = (Then (Declare (declared None (at 1 1) false (name (codes "A") (at 1
          5)) (Some (typed (at 1 6) (ArrayType (array_type (at 1 8) (FirstItem (RangeItem (Number (at 1 9)
          (pos 1)) (at 1 10) Closed (Number (at 1 12) (pos 3)) (By (at 1 14) (Prefixed (at 1 17) Minus
          (Number (at 1 18) (pos 1))))) NoItems) (at 1 19) (at 1 21) IntKind)))) None (at 1 24))) (Then
          (Loop ForallWord (at 1 26) (OneVariable (name (codes "i") (at 1 33))) (at 1 35) (One (Postfixed (Named
          (name (codes "A") (at 1 38))) (Post (Dotted (at 1 39) (Plainly (at 1 40) DomainOf)) NoPosts)))
          None (WordBody (at 1 47) (Assigned (Element (name (codes "A") (at 1 50)) Square (at 1 51)
          (FirstExpr (Named (name (codes "i") (at 1 52))) NoExprs) (at 1 53)) (sign (at 1 55) Set (at 1
          55)) (One (Named (name (codes "i") (at 1 57)))) (at 1 58)))) (Then (Write (written_line (at 1
          60) true (at 1 67) (Some (listed (ExprArgument (Named (name (codes "A") (at 1 68)))) [])) (at 1
          69) (at 1 70))) NoStmts)));
      end = (at 1 71);
    }

-- var A: [1..2, 1..2] int; forall t in A.domain do A[t] = 1; A(2,1) += 4; writeln(A);
abbrev pub tuples : ProgramTree (List ℕ)
tuples =
    record {
      uses = [];
      stmts = (Then (Declare (declared None (at 1 1) false (name (codes "A") (at 1
          5)) (Some (typed (at 1 6) (ArrayType (array_type (at 1 8) (FirstItem (RangeItem (Number (at 1 9)
          (pos 1)) (at 1 10) Closed (Number (at 1 12) (pos 2)) NoStride) (NextItem (at 1 13) (RangeItem
          (Number (at 1 15) (pos 1)) (at 1 16) Closed (Number (at 1 18) (pos 2)) NoStride) NoItems)) (at 1
          19) (at 1 21) IntKind)))) None (at 1 24))) (Then (Loop ForallWord (at 1 26) (OneVariable (name (codes
          "t") (at 1 33))) (at 1 35) (One (Postfixed (Named (name (codes "A") (at 1 38))) (Post (Dotted
          (at 1 39) (Plainly (at 1 40) DomainOf)) NoPosts))) None (WordBody (at 1 47) (Assigned (Element
          (name (codes "A") (at 1 50)) Square (at 1 51) (FirstExpr (Named (name (codes "t") (at 1 52)))
          NoExprs) (at 1 53)) (sign (at 1 55) Set (at 1 55)) (One (Number (at 1 57) (pos 1))) (at 1 58))))
          (Then (Assigned (Element (name (codes "A") (at 1 60)) Round (at 1 61) (FirstExpr (Number (at 1
          62) (pos 2)) (NextExpr (at 1 63) (Number (at 1 64) (pos 1)) NoExprs)) (at 1 65)) (sign (at 1 67)
          SetAdd (at 1 67)) (One (Number (at 1 70) (pos 4))) (at 1 71)) (Then (Write (written_line (at 1
          73) true (at 1 80) (Some (listed (ExprArgument (Named (name (codes "A") (at 1 81)))) [])) (at 1
          82) (at 1 83))) NoStmts))));
      end = (at 1 84);
    }

-- var A: [1..2] bool; A[2] = true; writeln(A);
abbrev pub truths_of_an_array : ProgramTree (List ℕ)
truths_of_an_array =
    record {
      uses = [];
      stmts = (Then (Declare (declared None (at 1 1) false (name (codes "A") (at 1
          5)) (Some (typed (at 1 6) (ArrayType (array_type (at 1 8) (FirstItem (RangeItem (Number (at 1 9)
          (pos 1)) (at 1 10) Closed (Number (at 1 12) (pos 2)) NoStride) NoItems) (at 1 13) (at 1 15)
          BoolKind)))) None (at 1 19))) (Then (Assigned (Element (name (codes "A") (at 1 21)) Square (at 1
          22) (FirstExpr (Number (at 1 23) (pos 2)) NoExprs) (at 1 24)) (sign (at 1 26) Set (at 1 26))
          (One (TruthWord (at 1 28) true)) (at 1 32)) (Then (Write (written_line (at 1 34) true (at 1 41)
          (Some (listed (ExprArgument (Named (name (codes "A") (at 1 42)))) [])) (at 1 43) (at 1 44)))
          NoStmts)));
      end = (at 1 45);
    }

-- var D = {1..3}; var A: [D] int = 2; var B: [D] int = A * A + 1; A += B; A /= 2; writeln(A, " ", + reduce (A * B), " ", && reduce (A < B));
abbrev pub promoted : ProgramTree (List ℕ)
promoted =
    record {
      uses = [];
      stmts = (Then (Declare (declared None (at 1 1) false (name (codes "D") (at 1
          5)) None (Some (initial (at 1 7) (ItemInit (One (DomainLiteral (at 1 9) (FirstItem (RangeItem
          (Number (at 1 10) (pos 1)) (at 1 11) Closed (Number (at 1 13) (pos 3)) NoStride) NoItems) (at 1
          14))) None))) (at 1 15))) (Then (Declare (declared None (at 1 17) false (name (codes "A") (at 1
          21)) (Some (typed (at 1 22) (ArrayType (array_type (at 1 24) (FirstItem (One (Named (name (codes
          "D") (at 1 25)))) NoItems) (at 1 26) (at 1 28) IntKind)))) (Some (initial (at 1 32) (ItemInit
          (One (Number (at 1 34) (pos 2))) None))) (at 1 35))) (Then (Declare (declared None (at 1 37)
          false (name (codes "B") (at 1 41)) (Some (typed (at 1 42) (ArrayType (array_type (at 1 44)
          (FirstItem (One (Named (name (codes "D") (at 1 45)))) NoItems) (at 1 46) (at 1 48) IntKind))))
          (Some (initial (at 1 52) (ItemInit (One (Chain (Chain (Named (name (codes "A") (at 1 54))) (Link
          (at 1 56) Multiply (Named (name (codes "A") (at 1 58))) NoLinks)) (Link (at 1 60) Add (Number
          (at 1 62) (pos 1)) NoLinks))) None))) (at 1 63))) (Then (Assigned (Whole (name (codes "A") (at 1
          65))) (sign (at 1 67) SetAdd (at 1 67)) (One (Named (name (codes "B") (at 1 70)))) (at 1 71))
          (Then (Assigned (Whole (name (codes "A") (at 1 73))) (sign (at 1 75) SetDivide (at 1 75)) (One
          (Number (at 1 78) (pos 2))) (at 1 79)) (Then (Write (written_line (at 1 81) true (at 1 88) (Some
          (listed (ExprArgument (Named (name (codes "A") (at 1 89)))) (after (at 1 90) (TextArgument (at 1
          92) (codes " ")) ∷ after (at 1 95) (ExprArgument (Reduced (at 1 97) Sum (at 1 99) (Grouped (at 1
          106) (One (Chain (Named (name (codes "A") (at 1 107))) (Link (at 1 109) Multiply (Named (name
          (codes "B") (at 1 111))) NoLinks))) (at 1 112)))) ∷ after (at 1 113) (TextArgument (at 1 115)
          (codes " ")) ∷ after (at 1 118) (ExprArgument (Reduced (at 1 120) AllOf (at 1 123) (Grouped (at
          1 130) (One (Chain (Named (name (codes "A") (at 1 131))) (Link (at 1 133) Less (Named (name
          (codes "B") (at 1 135))) NoLinks))) (at 1 136)))) ∷ []))) (at 1 137) (at 1 138))) NoStmts))))));
      end = (at 1 139);
    }

-- const D = {1..4}; var A: [D] int; var B: [D] int = 3; forall i in D do A[i] = i; B = A * B + 1; writeln(B); B += 2; writeln(max reduce (A - B));
abbrev pub promoted_difference : ProgramTree (List ℕ)
promoted_difference =
    record {
      uses = [];
      stmts = (Then (Declare (declared None (at 1 1) true (name (codes "D") (at 1
          7)) None (Some (initial (at 1 9) (ItemInit (One (DomainLiteral (at 1 11) (FirstItem (RangeItem
          (Number (at 1 12) (pos 1)) (at 1 13) Closed (Number (at 1 15) (pos 4)) NoStride) NoItems) (at 1
          16))) None))) (at 1 17))) (Then (Declare (declared None (at 1 19) false (name (codes "A") (at 1
          23)) (Some (typed (at 1 24) (ArrayType (array_type (at 1 26) (FirstItem (One (Named (name (codes
          "D") (at 1 27)))) NoItems) (at 1 28) (at 1 30) IntKind)))) None (at 1 33))) (Then (Declare
          (declared None (at 1 35) false (name (codes "B") (at 1 39)) (Some (typed (at 1 40) (ArrayType
          (array_type (at 1 42) (FirstItem (One (Named (name (codes "D") (at 1 43)))) NoItems) (at 1 44)
          (at 1 46) IntKind)))) (Some (initial (at 1 50) (ItemInit (One (Number (at 1 52) (pos 3)))
          None))) (at 1 53))) (Then (Loop ForallWord (at 1 55) (OneVariable (name (codes "i") (at 1 62))) (at 1 64)
          (One (Named (name (codes "D") (at 1 67)))) None (WordBody (at 1 69) (Assigned (Element (name
          (codes "A") (at 1 72)) Square (at 1 73) (FirstExpr (Named (name (codes "i") (at 1 74))) NoExprs)
          (at 1 75)) (sign (at 1 77) Set (at 1 77)) (One (Named (name (codes "i") (at 1 79)))) (at 1
          80)))) (Then (Assigned (Whole (name (codes "B") (at 1 82))) (sign (at 1 84) Set (at 1 84)) (One
          (Chain (Chain (Named (name (codes "A") (at 1 86))) (Link (at 1 88) Multiply (Named (name (codes
          "B") (at 1 90))) NoLinks)) (Link (at 1 92) Add (Number (at 1 94) (pos 1)) NoLinks))) (at 1 95))
          (Then (Write (written_line (at 1 97) true (at 1 104) (Some (listed (ExprArgument (Named (name
          (codes "B") (at 1 105)))) [])) (at 1 106) (at 1 107))) (Then (Assigned (Whole (name (codes "B")
          (at 1 109))) (sign (at 1 111) SetAdd (at 1 111)) (One (Number (at 1 114) (pos 2))) (at 1 115))
          (Then (Write (written_line (at 1 117) true (at 1 124) (Some (listed (ExprArgument (Reduced (at 1
          125) Greatest (at 1 129) (Grouped (at 1 136) (One (Chain (Named (name (codes "A") (at 1 137)))
          (Link (at 1 139) Subtract (Named (name (codes "B") (at 1 141))) NoLinks))) (at 1 142)))) []))
          (at 1 143) (at 1 144))) NoStmts))))))));
      end = (at 1 145);
    }

-- var A: [1..2] int = 2; A = -A; writeln(A, " ", max reduce (-A));
abbrev pub promoted_minus : ProgramTree (List ℕ)
promoted_minus =
    record {
      uses = [];
      stmts = (Then (Declare (declared None (at 1 1) false (name (codes "A") (at 1
          5)) (Some (typed (at 1 6) (ArrayType (array_type (at 1 8) (FirstItem (RangeItem (Number (at 1 9)
          (pos 1)) (at 1 10) Closed (Number (at 1 12) (pos 2)) NoStride) NoItems) (at 1 13) (at 1 15)
          IntKind)))) (Some (initial (at 1 19) (ItemInit (One (Number (at 1 21) (pos 2))) None))) (at 1
          22))) (Then (Assigned (Whole (name (codes "A") (at 1 24))) (sign (at 1 26) Set (at 1 26)) (One
          (Prefixed (at 1 28) Minus (Named (name (codes "A") (at 1 29))))) (at 1 30)) (Then (Write
          (written_line (at 1 32) true (at 1 39) (Some (listed (ExprArgument (Named (name (codes "A") (at
          1 40)))) (after (at 1 41) (TextArgument (at 1 43) (codes " ")) ∷ after (at 1 46) (ExprArgument
          (Reduced (at 1 48) Greatest (at 1 52) (Grouped (at 1 59) (One (Prefixed (at 1 60) Minus (Named
          (name (codes "A") (at 1 61))))) (at 1 62)))) ∷ []))) (at 1 63) (at 1 64))) NoStmts)));
      end = (at
          1 65);
    }

-- var A: [1..2] int; A[1] = 5; A = A[1]; writeln(A);
abbrev pub element_as_right_side : ProgramTree (List ℕ)
element_as_right_side =
    record {
      uses = [];
      stmts = (Then (Declare (declared None (at 1 1) false (name (codes "A") (at 1
          5)) (Some (typed (at 1 6) (ArrayType (array_type (at 1 8) (FirstItem (RangeItem (Number (at 1 9)
          (pos 1)) (at 1 10) Closed (Number (at 1 12) (pos 2)) NoStride) NoItems) (at 1 13) (at 1 15)
          IntKind)))) None (at 1 18))) (Then (Assigned (Element (name (codes "A") (at 1 20)) Square (at 1
          21) (FirstExpr (Number (at 1 22) (pos 1)) NoExprs) (at 1 23)) (sign (at 1 25) Set (at 1 25))
          (One (Number (at 1 27) (pos 5))) (at 1 28)) (Then (Assigned (Whole (name (codes "A") (at 1 30)))
          (sign (at 1 32) Set (at 1 32)) (One (Postfixed (Named (name (codes "A") (at 1 34))) (Post
          (Brackets (at 1 35) (FirstItem (One (Number (at 1 36) (pos 1))) NoItems) (at 1 37)) NoPosts)))
          (at 1 38)) (Then (Write (written_line (at 1 40) true (at 1 47) (Some (listed (ExprArgument
          (Named (name (codes "A") (at 1 48)))) [])) (at 1 49) (at 1 50))) NoStmts))));
      end = (at 1 51);
    }

-- var D = {1..3}; var A: [D] int = 7; { var A: [D] int = A + 1; writeln(A); } writeln(A);
abbrev pub hidden_array : ProgramTree (List ℕ)
hidden_array =
    record {
      uses = [];
      stmts = (Then (Declare (declared None (at 1 1) false (name (codes "D") (at 1
          5)) None (Some (initial (at 1 7) (ItemInit (One (DomainLiteral (at 1 9) (FirstItem (RangeItem
          (Number (at 1 10) (pos 1)) (at 1 11) Closed (Number (at 1 13) (pos 3)) NoStride) NoItems) (at 1
          14))) None))) (at 1 15))) (Then (Declare (declared None (at 1 17) false (name (codes "A") (at 1
          21)) (Some (typed (at 1 22) (ArrayType (array_type (at 1 24) (FirstItem (One (Named (name (codes
          "D") (at 1 25)))) NoItems) (at 1 26) (at 1 28) IntKind)))) (Some (initial (at 1 32) (ItemInit
          (One (Number (at 1 34) (pos 7))) None))) (at 1 35))) (Then (Block (at 1 37) (Then (Declare
          (declared None (at 1 39) false (name (codes "A") (at 1 43)) (Some (typed (at 1 44) (ArrayType
          (array_type (at 1 46) (FirstItem (One (Named (name (codes "D") (at 1 47)))) NoItems) (at 1 48)
          (at 1 50) IntKind)))) (Some (initial (at 1 54) (ItemInit (One (Chain (Named (name (codes "A")
          (at 1 56))) (Link (at 1 58) Add (Number (at 1 60) (pos 1)) NoLinks))) None))) (at 1 61))) (Then
          (Write (written_line (at 1 63) true (at 1 70) (Some (listed (ExprArgument (Named (name (codes
          "A") (at 1 71)))) [])) (at 1 72) (at 1 73))) NoStmts)) (at 1 75)) (Then (Write (written_line (at
          1 77) true (at 1 84) (Some (listed (ExprArgument (Named (name (codes "A") (at 1 85)))) [])) (at
          1 86) (at 1 87))) NoStmts))));
      end = (at 1 88);
    }

-- var D = {1..2}; var A: [D] int; var B: [D] int; B[1] = 3; A = A + B[1]; writeln(A);
abbrev pub element_among_wholes : ProgramTree (List ℕ)
element_among_wholes =
    record {
      uses = [];
      stmts = (Then (Declare (declared None (at 1 1) false (name (codes "D") (at 1
          5)) None (Some (initial (at 1 7) (ItemInit (One (DomainLiteral (at 1 9) (FirstItem (RangeItem
          (Number (at 1 10) (pos 1)) (at 1 11) Closed (Number (at 1 13) (pos 2)) NoStride) NoItems) (at 1
          14))) None))) (at 1 15))) (Then (Declare (declared None (at 1 17) false (name (codes "A") (at 1
          21)) (Some (typed (at 1 22) (ArrayType (array_type (at 1 24) (FirstItem (One (Named (name (codes
          "D") (at 1 25)))) NoItems) (at 1 26) (at 1 28) IntKind)))) None (at 1 31))) (Then (Declare
          (declared None (at 1 33) false (name (codes "B") (at 1 37)) (Some (typed (at 1 38) (ArrayType
          (array_type (at 1 40) (FirstItem (One (Named (name (codes "D") (at 1 41)))) NoItems) (at 1 42)
          (at 1 44) IntKind)))) None (at 1 47))) (Then (Assigned (Element (name (codes "B") (at 1 49))
          Square (at 1 50) (FirstExpr (Number (at 1 51) (pos 1)) NoExprs) (at 1 52)) (sign (at 1 54) Set
          (at 1 54)) (One (Number (at 1 56) (pos 3))) (at 1 57)) (Then (Assigned (Whole (name (codes "A")
          (at 1 59))) (sign (at 1 61) Set (at 1 61)) (One (Chain (Named (name (codes "A") (at 1 63)))
          (Link (at 1 65) Add (Postfixed (Named (name (codes "B") (at 1 67))) (Post (Brackets (at 1 68)
          (FirstItem (One (Number (at 1 69) (pos 1))) NoItems) (at 1 70)) NoPosts)) NoLinks))) (at 1 71))
          (Then (Write (written_line (at 1 73) true (at 1 80) (Some (listed (ExprArgument (Named (name
          (codes "A") (at 1 81)))) [])) (at 1 82) (at 1 83))) NoStmts))))));
      end = (at 1 84);
    }

-- var A: [1..2] int = 4; writeln((A)[2], " ", (A).domain.size);
abbrev pub name_in_brackets : ProgramTree (List ℕ)
name_in_brackets =
    record {
      uses = [];
      stmts = (Then (Declare (declared None (at 1 1) false (name (codes "A") (at 1
          5)) (Some (typed (at 1 6) (ArrayType (array_type (at 1 8) (FirstItem (RangeItem (Number (at 1 9)
          (pos 1)) (at 1 10) Closed (Number (at 1 12) (pos 2)) NoStride) NoItems) (at 1 13) (at 1 15)
          IntKind)))) (Some (initial (at 1 19) (ItemInit (One (Number (at 1 21) (pos 4))) None))) (at 1
          22))) (Then (Write (written_line (at 1 24) true (at 1 31) (Some (listed (ExprArgument (Postfixed
          (Grouped (at 1 32) (One (Named (name (codes "A") (at 1 33)))) (at 1 34)) (Post (Brackets (at 1
          35) (FirstItem (One (Number (at 1 36) (pos 2))) NoItems) (at 1 37)) NoPosts))) (after (at 1 38)
          (TextArgument (at 1 40) (codes " ")) ∷ after (at 1 43) (ExprArgument (Postfixed (Grouped (at 1
          45) (One (Named (name (codes "A") (at 1 46)))) (at 1 47)) (Post (Dotted (at 1 48) (Plainly (at 1
          49) DomainOf)) (Post (Dotted (at 1 55) (Plainly (at 1 56) Size)) NoPosts)))) ∷ []))) (at 1 60)
          (at 1 61))) NoStmts));
      end = (at 1 62);
    }

-- const D = {1..8}; var A: [D] int; var B: [D] int; forall i in D do A[i] = i; forall i in D[2..7] do B[i] = A[i-1] + A[i+1] + A[i-1]; writeln(B);
abbrev pub shifted : ProgramTree (List ℕ)
shifted =
    record {
      uses = [];
      stmts = (Then (Declare (declared None (at 1 1) true (name (codes "D") (at 1
          7)) None (Some (initial (at 1 9) (ItemInit (One (DomainLiteral (at 1 11) (FirstItem (RangeItem
          (Number (at 1 12) (pos 1)) (at 1 13) Closed (Number (at 1 15) (pos 8)) NoStride) NoItems) (at 1
          16))) None))) (at 1 17))) (Then (Declare (declared None (at 1 19) false (name (codes "A") (at 1
          23)) (Some (typed (at 1 24) (ArrayType (array_type (at 1 26) (FirstItem (One (Named (name (codes
          "D") (at 1 27)))) NoItems) (at 1 28) (at 1 30) IntKind)))) None (at 1 33))) (Then (Declare
          (declared None (at 1 35) false (name (codes "B") (at 1 39)) (Some (typed (at 1 40) (ArrayType
          (array_type (at 1 42) (FirstItem (One (Named (name (codes "D") (at 1 43)))) NoItems) (at 1 44)
          (at 1 46) IntKind)))) None (at 1 49))) (Then (Loop ForallWord (at 1 51) (OneVariable (name (codes "i")
          (at 1 58))) (at 1 60) (One (Named (name (codes "D") (at 1 63)))) None (WordBody (at 1 65)
          (Assigned (Element (name (codes "A") (at 1 68)) Square (at 1 69) (FirstExpr (Named (name (codes
          "i") (at 1 70))) NoExprs) (at 1 71)) (sign (at 1 73) Set (at 1 73)) (One (Named (name (codes
          "i") (at 1 75)))) (at 1 76)))) (Then (Loop ForallWord (at 1 78) (OneVariable (name (codes "i") (at 1
          85))) (at 1 87) (One (Postfixed (Named (name (codes "D") (at 1 90))) (Post (Brackets (at 1 91)
          (FirstItem (RangeItem (Number (at 1 92) (pos 2)) (at 1 93) Closed (Number (at 1 95) (pos 7))
          NoStride) NoItems) (at 1 96)) NoPosts))) None (WordBody (at 1 98) (Assigned (Element (name
          (codes "B") (at 1 101)) Square (at 1 102) (FirstExpr (Named (name (codes "i") (at 1 103)))
          NoExprs) (at 1 104)) (sign (at 1 106) Set (at 1 106)) (One (Chain (Postfixed (Named (name (codes
          "A") (at 1 108))) (Post (Brackets (at 1 109) (FirstItem (One (Chain (Named (name (codes "i") (at
          1 110))) (Link (at 1 111) Subtract (Number (at 1 112) (pos 1)) NoLinks))) NoItems) (at 1 113))
          NoPosts)) (Link (at 1 115) Add (Postfixed (Named (name (codes "A") (at 1 117))) (Post (Brackets
          (at 1 118) (FirstItem (One (Chain (Named (name (codes "i") (at 1 119))) (Link (at 1 120) Add
          (Number (at 1 121) (pos 1)) NoLinks))) NoItems) (at 1 122)) NoPosts)) (Link (at 1 124) Add
          (Postfixed (Named (name (codes "A") (at 1 126))) (Post (Brackets (at 1 127) (FirstItem (One
          (Chain (Named (name (codes "i") (at 1 128))) (Link (at 1 129) Subtract (Number (at 1 130) (pos
          1)) NoLinks))) NoItems) (at 1 131)) NoPosts)) NoLinks)))) (at 1 132)))) (Then (Write
          (written_line (at 1 134) true (at 1 141) (Some (listed (ExprArgument (Named (name (codes "B")
          (at 1 142)))) [])) (at 1 143) (at 1 144))) NoStmts))))));
      end = (at 1 145);
    }

-- const D = {1..8}; var A: [D] int; var B: [D] int; forall i in D do A[i] = i; forall i in D[2..7] do B[i] = A[9-i]; writeln(B);
abbrev pub mirrored : ProgramTree (List ℕ)
mirrored =
    record {
      uses = [];
      stmts = (Then (Declare (declared None (at 1 1) true (name (codes "D") (at 1
          7)) None (Some (initial (at 1 9) (ItemInit (One (DomainLiteral (at 1 11) (FirstItem (RangeItem
          (Number (at 1 12) (pos 1)) (at 1 13) Closed (Number (at 1 15) (pos 8)) NoStride) NoItems) (at 1
          16))) None))) (at 1 17))) (Then (Declare (declared None (at 1 19) false (name (codes "A") (at 1
          23)) (Some (typed (at 1 24) (ArrayType (array_type (at 1 26) (FirstItem (One (Named (name (codes
          "D") (at 1 27)))) NoItems) (at 1 28) (at 1 30) IntKind)))) None (at 1 33))) (Then (Declare
          (declared None (at 1 35) false (name (codes "B") (at 1 39)) (Some (typed (at 1 40) (ArrayType
          (array_type (at 1 42) (FirstItem (One (Named (name (codes "D") (at 1 43)))) NoItems) (at 1 44)
          (at 1 46) IntKind)))) None (at 1 49))) (Then (Loop ForallWord (at 1 51) (OneVariable (name (codes "i")
          (at 1 58))) (at 1 60) (One (Named (name (codes "D") (at 1 63)))) None (WordBody (at 1 65)
          (Assigned (Element (name (codes "A") (at 1 68)) Square (at 1 69) (FirstExpr (Named (name (codes
          "i") (at 1 70))) NoExprs) (at 1 71)) (sign (at 1 73) Set (at 1 73)) (One (Named (name (codes
          "i") (at 1 75)))) (at 1 76)))) (Then (Loop ForallWord (at 1 78) (OneVariable (name (codes "i") (at 1
          85))) (at 1 87) (One (Postfixed (Named (name (codes "D") (at 1 90))) (Post (Brackets (at 1 91)
          (FirstItem (RangeItem (Number (at 1 92) (pos 2)) (at 1 93) Closed (Number (at 1 95) (pos 7))
          NoStride) NoItems) (at 1 96)) NoPosts))) None (WordBody (at 1 98) (Assigned (Element (name
          (codes "B") (at 1 101)) Square (at 1 102) (FirstExpr (Named (name (codes "i") (at 1 103)))
          NoExprs) (at 1 104)) (sign (at 1 106) Set (at 1 106)) (One (Postfixed (Named (name (codes "A")
          (at 1 108))) (Post (Brackets (at 1 109) (FirstItem (One (Chain (Number (at 1 110) (pos 9)) (Link
          (at 1 111) Subtract (Named (name (codes "i") (at 1 112))) NoLinks))) NoItems) (at 1 113))
          NoPosts))) (at 1 114)))) (Then (Write (written_line (at 1 116) true (at 1 123) (Some (listed
          (ExprArgument (Named (name (codes "B") (at 1 124)))) [])) (at 1 125) (at 1 126))) NoStmts))))));
      end = (at 1 127);
    }

-- const D = {1..4}; const E = {1..4}; var A: [D] int; var B: [E] int; forall i in D { A[i] = i; B[i] = i; } writeln(B);
abbrev pub two_roots : ProgramTree (List ℕ)
two_roots =
    record {
      uses = [];
      stmts = (Then (Declare (declared None (at 1 1) true (name (codes "D") (at 1
          7)) None (Some (initial (at 1 9) (ItemInit (One (DomainLiteral (at 1 11) (FirstItem (RangeItem
          (Number (at 1 12) (pos 1)) (at 1 13) Closed (Number (at 1 15) (pos 4)) NoStride) NoItems) (at 1
          16))) None))) (at 1 17))) (Then (Declare (declared None (at 1 19) true (name (codes "E") (at 1
          25)) None (Some (initial (at 1 27) (ItemInit (One (DomainLiteral (at 1 29) (FirstItem (RangeItem
          (Number (at 1 30) (pos 1)) (at 1 31) Closed (Number (at 1 33) (pos 4)) NoStride) NoItems) (at 1
          34))) None))) (at 1 35))) (Then (Declare (declared None (at 1 37) false (name (codes "A") (at 1
          41)) (Some (typed (at 1 42) (ArrayType (array_type (at 1 44) (FirstItem (One (Named (name (codes
          "D") (at 1 45)))) NoItems) (at 1 46) (at 1 48) IntKind)))) None (at 1 51))) (Then (Declare
          (declared None (at 1 53) false (name (codes "B") (at 1 57)) (Some (typed (at 1 58) (ArrayType
          (array_type (at 1 60) (FirstItem (One (Named (name (codes "E") (at 1 61)))) NoItems) (at 1 62)
          (at 1 64) IntKind)))) None (at 1 67))) (Then (Loop ForallWord (at 1 69) (OneVariable (name (codes "i")
          (at 1 76))) (at 1 78) (One (Named (name (codes "D") (at 1 81)))) None (BlockBody (at 1 83) (Then
          (Assigned (Element (name (codes "A") (at 1 85)) Square (at 1 86) (FirstExpr (Named (name (codes
          "i") (at 1 87))) NoExprs) (at 1 88)) (sign (at 1 90) Set (at 1 90)) (One (Named (name (codes
          "i") (at 1 92)))) (at 1 93)) (Then (Assigned (Element (name (codes "B") (at 1 95)) Square (at 1
          96) (FirstExpr (Named (name (codes "i") (at 1 97))) NoExprs) (at 1 98)) (sign (at 1 100) Set (at
          1 100)) (One (Named (name (codes "i") (at 1 102)))) (at 1 103)) NoStmts)) (at 1 105))) (Then
          (Write (written_line (at 1 107) true (at 1 114) (Some (listed (ExprArgument (Named (name (codes
          "B") (at 1 115)))) [])) (at 1 116) (at 1 117))) NoStmts))))));
      end = (at 1 118);
    }

-- var D = {1..2}; var A: [D] int = 1; { var B: [D] int = 2; var D = {5..6}; var C: [D] int = 3; D = {6..7}; writeln(C, " ", B); } D = {2..4}; writeln(A);
abbrev pub hidden_domain : ProgramTree (List ℕ)
hidden_domain =
    record {
      uses = [];
      stmts = (Then (Declare (declared None (at 1 1) false (name (codes "D") (at 1
          5)) None (Some (initial (at 1 7) (ItemInit (One (DomainLiteral (at 1 9) (FirstItem (RangeItem
          (Number (at 1 10) (pos 1)) (at 1 11) Closed (Number (at 1 13) (pos 2)) NoStride) NoItems) (at 1
          14))) None))) (at 1 15))) (Then (Declare (declared None (at 1 17) false (name (codes "A") (at 1
          21)) (Some (typed (at 1 22) (ArrayType (array_type (at 1 24) (FirstItem (One (Named (name (codes
          "D") (at 1 25)))) NoItems) (at 1 26) (at 1 28) IntKind)))) (Some (initial (at 1 32) (ItemInit
          (One (Number (at 1 34) (pos 1))) None))) (at 1 35))) (Then (Block (at 1 37) (Then (Declare
          (declared None (at 1 39) false (name (codes "B") (at 1 43)) (Some (typed (at 1 44) (ArrayType
          (array_type (at 1 46) (FirstItem (One (Named (name (codes "D") (at 1 47)))) NoItems) (at 1 48)
          (at 1 50) IntKind)))) (Some (initial (at 1 54) (ItemInit (One (Number (at 1 56) (pos 2)))
          None))) (at 1 57))) (Then (Declare (declared None (at 1 59) false (name (codes "D") (at 1 63))
          None (Some (initial (at 1 65) (ItemInit (One (DomainLiteral (at 1 67) (FirstItem (RangeItem
          (Number (at 1 68) (pos 5)) (at 1 69) Closed (Number (at 1 71) (pos 6)) NoStride) NoItems) (at 1
          72))) None))) (at 1 73))) (Then (Declare (declared None (at 1 75) false (name (codes "C") (at 1
          79)) (Some (typed (at 1 80) (ArrayType (array_type (at 1 82) (FirstItem (One (Named (name (codes
          "D") (at 1 83)))) NoItems) (at 1 84) (at 1 86) IntKind)))) (Some (initial (at 1 90) (ItemInit
          (One (Number (at 1 92) (pos 3))) None))) (at 1 93))) (Then (Assigned (Whole (name (codes "D")
          (at 1 95))) (sign (at 1 97) Set (at 1 97)) (One (DomainLiteral (at 1 99) (FirstItem (RangeItem
          (Number (at 1 100) (pos 6)) (at 1 101) Closed (Number (at 1 103) (pos 7)) NoStride) NoItems) (at
          1 104))) (at 1 105)) (Then (Write (written_line (at 1 107) true (at 1 114) (Some (listed
          (ExprArgument (Named (name (codes "C") (at 1 115)))) (after (at 1 116) (TextArgument (at 1 118)
          (codes " ")) ∷ after (at 1 121) (ExprArgument (Named (name (codes "B") (at 1 123)))) ∷ []))) (at
          1 124) (at 1 125))) NoStmts))))) (at 1 127)) (Then (Assigned (Whole (name (codes "D") (at 1
          129))) (sign (at 1 131) Set (at 1 131)) (One (DomainLiteral (at 1 133) (FirstItem (RangeItem
          (Number (at 1 134) (pos 2)) (at 1 135) Closed (Number (at 1 137) (pos 4)) NoStride) NoItems) (at
          1 138))) (at 1 139)) (Then (Write (written_line (at 1 141) true (at 1 148) (Some (listed
          (ExprArgument (Named (name (codes "A") (at 1 149)))) [])) (at 1 150) (at 1 151))) NoStmts)))));
      end = (at 1 152);
    }

-- var D: domain(1) dmapped new blockDist(boundingBox={1..8}) = {1..4}; var A: [D] int = 7; const E = D[2..3]; D = {3..10}; forall i in D do A[i] += i; writeln(A); writeln(E.size);
abbrev pub changed_domain : ProgramTree (List ℕ)
changed_domain =
    record {
      uses = [];
      stmts = (Then (Declare (declared None (at 1 1) false (name (codes "D") (at 1
          5)) (Some (typed (at 1 6) (DomainType (domain_type (at 1 8) (at 1 14) (at 1 15) 1 (at 1 16)
          (Some (mapped (at 1 18) (BlockMap (block_map (at 1 26) (at 1 30) (at 1 39) (Some (argument (at 1
          40) (at 1 51))) (One (DomainLiteral (at 1 52) (FirstItem (RangeItem (Number (at 1 53) (pos 1))
          (at 1 54) Closed (Number (at 1 56) (pos 8)) NoStride) NoItems) (at 1 57))) (at 1 58)))))))))
          (Some (initial (at 1 60) (ItemInit (One (DomainLiteral (at 1 62) (FirstItem (RangeItem (Number
          (at 1 63) (pos 1)) (at 1 64) Closed (Number (at 1 66) (pos 4)) NoStride) NoItems) (at 1 67)))
          None))) (at 1 68))) (Then (Declare (declared None (at 1 70) false (name (codes "A") (at 1 74))
          (Some (typed (at 1 75) (ArrayType (array_type (at 1 77) (FirstItem (One (Named (name (codes "D")
          (at 1 78)))) NoItems) (at 1 79) (at 1 81) IntKind)))) (Some (initial (at 1 85) (ItemInit (One
          (Number (at 1 87) (pos 7))) None))) (at 1 88))) (Then (Declare (declared None (at 1 90) true
          (name (codes "E") (at 1 96)) None (Some (initial (at 1 98) (ItemInit (One (Postfixed (Named
          (name (codes "D") (at 1 100))) (Post (Brackets (at 1 101) (FirstItem (RangeItem (Number (at 1
          102) (pos 2)) (at 1 103) Closed (Number (at 1 105) (pos 3)) NoStride) NoItems) (at 1 106))
          NoPosts))) None))) (at 1 107))) (Then (Assigned (Whole (name (codes "D") (at 1 109))) (sign (at
          1 111) Set (at 1 111)) (One (DomainLiteral (at 1 113) (FirstItem (RangeItem (Number (at 1 114)
          (pos 3)) (at 1 115) Closed (Number (at 1 117) (pos 10)) NoStride) NoItems) (at 1 119))) (at 1
          120)) (Then (Loop ForallWord (at 1 122) (OneVariable (name (codes "i") (at 1 129))) (at 1 131) (One
          (Named (name (codes "D") (at 1 134)))) None (WordBody (at 1 136) (Assigned (Element (name (codes
          "A") (at 1 139)) Square (at 1 140) (FirstExpr (Named (name (codes "i") (at 1 141))) NoExprs) (at
          1 142)) (sign (at 1 144) SetAdd (at 1 144)) (One (Named (name (codes "i") (at 1 147)))) (at 1
          148)))) (Then (Write (written_line (at 1 150) true (at 1 157) (Some (listed (ExprArgument (Named
          (name (codes "A") (at 1 158)))) [])) (at 1 159) (at 1 160))) (Then (Write (written_line (at 1
          162) true (at 1 169) (Some (listed (ExprArgument (Postfixed (Named (name (codes "E") (at 1
          170))) (Post (Dotted (at 1 171) (Plainly (at 1 172) Size)) NoPosts))) [])) (at 1 176) (at 1
          177))) NoStmts)))))));
      end = (at 1 178);
    }

-- var D = {1..2}; { var A: [D] int = 1; D = {2..3}; writeln(A); }
abbrev pub inner_array : ProgramTree (List ℕ)
inner_array =
    record {
      uses = [];
      stmts = (Then (Declare (declared None (at 1 1) false (name (codes "D") (at 1
          5)) None (Some (initial (at 1 7) (ItemInit (One (DomainLiteral (at 1 9) (FirstItem (RangeItem
          (Number (at 1 10) (pos 1)) (at 1 11) Closed (Number (at 1 13) (pos 2)) NoStride) NoItems) (at 1
          14))) None))) (at 1 15))) (Then (Block (at 1 17) (Then (Declare (declared None (at 1 19) false
          (name (codes "A") (at 1 23)) (Some (typed (at 1 24) (ArrayType (array_type (at 1 26) (FirstItem
          (One (Named (name (codes "D") (at 1 27)))) NoItems) (at 1 28) (at 1 30) IntKind)))) (Some
          (initial (at 1 34) (ItemInit (One (Number (at 1 36) (pos 1))) None))) (at 1 37))) (Then
          (Assigned (Whole (name (codes "D") (at 1 39))) (sign (at 1 41) Set (at 1 41)) (One
          (DomainLiteral (at 1 43) (FirstItem (RangeItem (Number (at 1 44) (pos 2)) (at 1 45) Closed
          (Number (at 1 47) (pos 3)) NoStride) NoItems) (at 1 48))) (at 1 49)) (Then (Write (written_line
          (at 1 51) true (at 1 58) (Some (listed (ExprArgument (Named (name (codes "A") (at 1 59)))) []))
          (at 1 60) (at 1 61))) NoStmts))) (at 1 63)) NoStmts));
      end = (at 1 64);
    }

-- var D = {1..2}; var A: [1..2] int = 1; D = {1..3}; writeln(A);
abbrev pub not_over_the_name : ProgramTree (List ℕ)
not_over_the_name =
    record {
      uses = [];
      stmts = (Then (Declare (declared None (at 1 1) false (name (codes "D") (at 1
          5)) None (Some (initial (at 1 7) (ItemInit (One (DomainLiteral (at 1 9) (FirstItem (RangeItem
          (Number (at 1 10) (pos 1)) (at 1 11) Closed (Number (at 1 13) (pos 2)) NoStride) NoItems) (at 1
          14))) None))) (at 1 15))) (Then (Declare (declared None (at 1 17) false (name (codes "A") (at 1
          21)) (Some (typed (at 1 22) (ArrayType (array_type (at 1 24) (FirstItem (RangeItem (Number (at 1
          25) (pos 1)) (at 1 26) Closed (Number (at 1 28) (pos 2)) NoStride) NoItems) (at 1 29) (at 1 31)
          IntKind)))) (Some (initial (at 1 35) (ItemInit (One (Number (at 1 37) (pos 1))) None))) (at 1
          38))) (Then (Assigned (Whole (name (codes "D") (at 1 40))) (sign (at 1 42) Set (at 1 42)) (One
          (DomainLiteral (at 1 44) (FirstItem (RangeItem (Number (at 1 45) (pos 1)) (at 1 46) Closed
          (Number (at 1 48) (pos 3)) NoStride) NoItems) (at 1 49))) (at 1 50)) (Then (Write (written_line
          (at 1 52) true (at 1 59) (Some (listed (ExprArgument (Named (name (codes "A") (at 1 60)))) []))
          (at 1 61) (at 1 62))) NoStmts))));
      end = (at 1 63);
    }

-- var D: domain(2); var A: [D] int; writeln(D.size, A, " ", D.dim(0).size, " ", D.dim(1).size);
abbrev pub empty_at_first : ProgramTree (List ℕ)
empty_at_first =
    record {
      uses = [];
      stmts = (Then (Declare (declared None (at 1 1) false (name (codes "D") (at 1
          5)) (Some (typed (at 1 6) (DomainType (domain_type (at 1 8) (at 1 14) (at 1 15) 2 (at 1 16)
          None)))) None (at 1 17))) (Then (Declare (declared None (at 1 19) false (name (codes "A") (at 1
          23)) (Some (typed (at 1 24) (ArrayType (array_type (at 1 26) (FirstItem (One (Named (name (codes
          "D") (at 1 27)))) NoItems) (at 1 28) (at 1 30) IntKind)))) None (at 1 33))) (Then (Write
          (written_line (at 1 35) true (at 1 42) (Some (listed (ExprArgument (Postfixed (Named (name
          (codes "D") (at 1 43))) (Post (Dotted (at 1 44) (Plainly (at 1 45) Size)) NoPosts))) (after (at
          1 49) (ExprArgument (Named (name (codes "A") (at 1 51)))) ∷ after (at 1 52) (TextArgument (at 1
          54) (codes " ")) ∷ after (at 1 57) (ExprArgument (Postfixed (Named (name (codes "D") (at 1 59)))
          (Post (Dotted (at 1 60) (Dim (at 1 61) (at 1 64) (at 1 65) 0 (at 1 66))) (Post (Dotted (at 1 67)
          (Plainly (at 1 68) Size)) NoPosts)))) ∷ after (at 1 72) (TextArgument (at 1 74) (codes " ")) ∷
          after (at 1 77) (ExprArgument (Postfixed (Named (name (codes "D") (at 1 79))) (Post (Dotted (at
          1 80) (Dim (at 1 81) (at 1 84) (at 1 85) 1 (at 1 86))) (Post (Dotted (at 1 87) (Plainly (at 1
          88) Size)) NoPosts)))) ∷ []))) (at 1 92) (at 1 93))) NoStmts)));
      end = (at 1 94);
    }

-- var D = {1..3}; { var A: [D] int; } D = {1..16777217}; writeln(D.size);
abbrev pub no_array_left : ProgramTree (List ℕ)
no_array_left =
    record {
      uses = [];
      stmts = (Then (Declare (declared None (at 1 1) false (name (codes "D") (at 1
          5)) None (Some (initial (at 1 7) (ItemInit (One (DomainLiteral (at 1 9) (FirstItem (RangeItem
          (Number (at 1 10) (pos 1)) (at 1 11) Closed (Number (at 1 13) (pos 3)) NoStride) NoItems) (at 1
          14))) None))) (at 1 15))) (Then (Block (at 1 17) (Then (Declare (declared None (at 1 19) false
          (name (codes "A") (at 1 23)) (Some (typed (at 1 24) (ArrayType (array_type (at 1 26) (FirstItem
          (One (Named (name (codes "D") (at 1 27)))) NoItems) (at 1 28) (at 1 30) IntKind)))) None (at 1
          33))) NoStmts) (at 1 35)) (Then (Assigned (Whole (name (codes "D") (at 1 37))) (sign (at 1 39)
          Set (at 1 39)) (One (DomainLiteral (at 1 41) (FirstItem (RangeItem (Number (at 1 42) (pos 1))
          (at 1 43) Closed (Number (at 1 45) (pos 16777217)) NoStride) NoItems) (at 1 53))) (at 1 54))
          (Then (Write (written_line (at 1 56) true (at 1 63) (Some (listed (ExprArgument (Postfixed
          (Named (name (codes "D") (at 1 64))) (Post (Dotted (at 1 65) (Plainly (at 1 66) Size))
          NoPosts))) [])) (at 1 70) (at 1 71))) NoStmts))));
      end = (at 1 72);
    }

-- var A: [1..0] int; A /= 0; writeln(A);
abbrev pub divided_empty : ProgramTree (List ℕ)
divided_empty =
    record {
      uses = [];
      stmts = (Then (Declare (declared None (at 1 1) false (name (codes "A") (at 1
          5)) (Some (typed (at 1 6) (ArrayType (array_type (at 1 8) (FirstItem (RangeItem (Number (at 1 9)
          (pos 1)) (at 1 10) Closed (Number (at 1 12) (pos 0)) NoStride) NoItems) (at 1 13) (at 1 15)
          IntKind)))) None (at 1 18))) (Then (Assigned (Whole (name (codes "A") (at 1 20))) (sign (at 1
          22) SetDivide (at 1 22)) (One (Number (at 1 25) (pos 0))) (at 1 26)) (Then (Write (written_line
          (at 1 28) true (at 1 35) (Some (listed (ExprArgument (Named (name (codes "A") (at 1 36)))) []))
          (at 1 37) (at 1 38))) NoStmts)));
      end = (at 1 39);
    }

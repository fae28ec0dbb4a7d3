-- All breaches of some texts: where rules are not looked at, and that each is told.
-- Each row stands behind its text; those behind the house's line are on line 2. A script spelled the trees, which nobody has to trust.
use Rattle.std.proofs.Common.{◌≡◌, [], ◌∷◌, refl, Some, None, true, false}
use Rattle.std.specs.Prelude.{pos, codes}
use Rattle.dpl_language.specs.Tree.{Add, ArrayType, Assigned, BlockBody, BoolKind, Brackets, CellRead, Chain, Closed, Declare, Dotted, Element, ExprArgument}
use Rattle.dpl_language.specs.Tree.{FirstExpr, FirstItem, Grouped, IntKind, ItemInit, Link, ManyVariables, Named, NoExprs, NoItems, NoLinks, NoPosts}
use Rattle.dpl_language.specs.Tree.{NoStmts, NoStride, Not, Nothing, Number, One, OneVariable, Plainly, Post, Postfixed, Prefixed, RangeItem, ReadFEWord, ReduceIntent}
use Rattle.dpl_language.specs.Tree.{ScalarType, Set, Size, Square, Subtract, Sum, SyncType, Then, TruthWord, Whole, WordBody, Write, Loop, ForWord, ForallWord, CoforallWord}
use Rattle.dpl_language.proofs.Spelled.{at, name, after, array_type, declared, initial, listed, sign, typed, with_intents, written_line}
use Rattle.dpl_syntax.specs.declared.refusal.Code.TheVariants.{CellMisused, ConstantWritten, NameTwice, NotInCoforall, NotInForall, OuterChanged, UnknownName, WrittenElsewhere, WrongRank, WrongType}
use Rattle.dpl_rules.proofs.House.{broken, all_of}

-- ---- a name whose declaration is refused fits everywhere
-- var x: int = true; x = false; x[1] = 2; const y = x + true;
refused_declaration : all_of
    (Then (Declare (declared None (at 1 1) false (name (codes "x") (at 1 5)) (Some (typed (at 1 6) (ScalarType (at 1 8) IntKind)))
    (Some (initial (at 1 12) (ItemInit (One (TruthWord (at 1 14) true)) None))) (at 1 18))) (Then (Assigned (Whole
    (name (codes "x") (at 1 20))) (sign (at 1 22) Set (at 1 22)) (One (TruthWord (at 1 24) false)) (at 1 29)) (Then (Assigned
    (Element (name (codes "x") (at 1 31)) Square (at 1 32) (FirstExpr (Number (at 1 33) (pos 1)) NoExprs) (at 1 34)) (sign (at 1 36)
    Set (at 1 36)) (One (Number (at 1 38) (pos 2))) (at 1 39)) (Then (Declare (declared None (at 1 41) true
    (name (codes "y") (at 1 47)) None (Some (initial (at 1 49) (ItemInit (One (Chain (Named (name (codes "x") (at 1 51))) (Link
    (at 1 53) Add (TruthWord (at 1 55) true) NoLinks))) None))) (at 1 59))) NoStmts)))) ≡ broken 1 14 WrongType ∷ []
refused_declaration = refl

-- var x: int; var x: bool; x = 1; x = true;
declared_again : all_of
    (Then (Declare (declared None (at 1 1) false (name (codes "x") (at 1 5)) (Some (typed (at 1 6) (ScalarType (at 1 8) IntKind)))
    None (at 1 11))) (Then (Declare (declared None (at 1 13) false (name (codes "x") (at 1 17)) (Some (typed (at 1 18) (ScalarType
    (at 1 20) BoolKind))) None (at 1 24))) (Then (Assigned (Whole (name (codes "x") (at 1 26))) (sign (at 1 28) Set (at 1 28)) (One
    (Number (at 1 30) (pos 1))) (at 1 31)) (Then (Assigned (Whole (name (codes "x") (at 1 33))) (sign (at 1 35) Set (at 1 35)) (One
    (TruthWord (at 1 37) true)) (at 1 41)) NoStmts)))) ≡ broken 1 17 NameTwice ∷ []
declared_again = refl

-- var A: [1..true] int; forall i in 1..2 do A[1] = A[i - 1];
refused_array : all_of
    (Then (Declare (declared None (at 1 1) false (name (codes "A") (at 1 5)) (Some (typed (at 1 6) (ArrayType (array_type (at 1 8)
    (FirstItem (RangeItem (Number (at 1 9) (pos 1)) (at 1 10) Closed (TruthWord (at 1 12) true) NoStride) NoItems) (at 1 16)
    (at 1 18) IntKind)))) None (at 1 21))) (Then (Loop ForallWord (at 1 23) (OneVariable (name (codes "i") (at 1 30))) (at 1 32) (RangeItem
    (Number (at 1 35) (pos 1)) (at 1 36) Closed (Number (at 1 38) (pos 2)) NoStride) None (WordBody (at 1 40) (Assigned (Element
    (name (codes "A") (at 1 43)) Square (at 1 44) (FirstExpr (Number (at 1 45) (pos 1)) NoExprs) (at 1 46)) (sign (at 1 48) Set
    (at 1 48)) (One (Postfixed (Named (name (codes "A") (at 1 50))) (Post (Brackets (at 1 51) (FirstItem (One (Chain (Named
    (name (codes "i") (at 1 52))) (Link (at 1 54) Subtract (Number (at 1 56) (pos 1)) NoLinks))) NoItems) (at 1 57)) NoPosts)))
    (at 1 58)))) NoStmts)) ≡ broken 1 12 WrongType ∷ []
refused_array = refl

-- for i in 1 { const x = true + i; }
refused_loop : all_of
    (Then (Loop ForWord (at 1 1) (OneVariable (name (codes "i") (at 1 5))) (at 1 7) (One (Number (at 1 10) (pos 1))) None (BlockBody (at 1 12)
    (Then (Declare (declared None (at 1 14) true (name (codes "x") (at 1 20)) None (Some (initial (at 1 22) (ItemInit (One (Chain
    (TruthWord (at 1 24) true) (Link (at 1 29) Add (Named (name (codes "i") (at 1 31))) NoLinks))) None))) (at 1 32))) NoStmts)
    (at 1 34))) NoStmts) ≡ broken 1 10 WrongType ∷ []
refused_loop = refl

-- for (i, j) in 1..2 { const x = i + true; }
too_many_variables : all_of
    (Then (Loop ForWord (at 1 1) (ManyVariables (at 1 5) (listed (name (codes "i") (at 1 6)) (after (at 1 7) (name (codes "j") (at 1 9)) ∷
    [])) (at 1 10)) (at 1 12) (RangeItem (Number (at 1 15) (pos 1)) (at 1 16) Closed (Number (at 1 18) (pos 2)) NoStride) None (BlockBody
    (at 1 20) (Then (Declare (declared None (at 1 22) true (name (codes "x") (at 1 28)) None (Some (initial (at 1 30) (ItemInit (One
    (Chain (Named (name (codes "i") (at 1 32))) (Link (at 1 34) Add (TruthWord (at 1 36) true) NoLinks))) None))) (at 1 40)))
    NoStmts) (at 1 42))) NoStmts) ≡ broken 1 5 WrongRank ∷ []
too_many_variables = refl

-- ---- an operator, a bracket and a method are looked at only where their parts have types
-- var x = true + 1 + false;
left_operand_refused : all_of
    (Then (Declare (declared None (at 1 1) false (name (codes "x") (at 1 5)) None (Some (initial (at 1 7) (ItemInit (One (Chain
    (TruthWord (at 1 9) true) (Link (at 1 14) Add (Number (at 1 16) (pos 1)) (Link (at 1 18) Add (TruthWord (at 1 20) false)
    NoLinks)))) None))) (at 1 25))) NoStmts) ≡ broken 1 14 WrongType ∷ []
left_operand_refused = refl

-- var x = (!(y + true)).size;
unknown_operands : all_of
    (Then (Declare (declared None (at 1 1) false (name (codes "x") (at 1 5)) None (Some (initial (at 1 7) (ItemInit (One (Postfixed
    (Grouped (at 1 9) (One (Prefixed (at 1 10) Not (Grouped (at 1 11) (One (Chain (Named (name (codes "y") (at 1 12))) (Link
    (at 1 14) Add (TruthWord (at 1 16) true) NoLinks))) (at 1 20)))) (at 1 21)) (Post (Dotted (at 1 22) (Plainly (at 1 23) Size))
    NoPosts))) None))) (at 1 27))) NoStmts) ≡ broken 1 12 UnknownName ∷ []
unknown_operands = refl

-- var A: [1..2] int; A[true] = false; A[1] = A[true] + true;
index_refused : all_of
    (Then (Declare (declared None (at 1 1) false (name (codes "A") (at 1 5)) (Some (typed (at 1 6) (ArrayType (array_type (at 1 8)
    (FirstItem (RangeItem (Number (at 1 9) (pos 1)) (at 1 10) Closed (Number (at 1 12) (pos 2)) NoStride) NoItems) (at 1 13)
    (at 1 15) IntKind)))) None (at 1 18))) (Then (Assigned (Element (name (codes "A") (at 1 20)) Square (at 1 21) (FirstExpr
    (TruthWord (at 1 22) true) NoExprs) (at 1 26)) (sign (at 1 28) Set (at 1 28)) (One (TruthWord (at 1 30) false)) (at 1 35)) (Then
    (Assigned (Element (name (codes "A") (at 1 37)) Square (at 1 38) (FirstExpr (Number (at 1 39) (pos 1)) NoExprs) (at 1 40)) (sign
    (at 1 42) Set (at 1 42)) (One (Chain (Postfixed (Named (name (codes "A") (at 1 44))) (Post (Brackets (at 1 45) (FirstItem (One
    (TruthWord (at 1 46) true)) NoItems) (at 1 50)) NoPosts)) (Link (at 1 52) Add (TruthWord (at 1 54) true) NoLinks))) (at 1 58))
    NoStmts))) ≡ broken 1 22 WrongType ∷ broken 1 46 WrongType ∷ []
index_refused = refl

-- ---- every breach of a text is told, and the least by place and then by code is the refusal
-- const k = 1; forall i in 1..2 do k = true;
several_at_one_place : all_of
    (Then (Declare (declared None (at 1 1) true (name (codes "k") (at 1 7)) None (Some (initial (at 1 9) (ItemInit (One (Number
    (at 1 11) (pos 1))) None))) (at 1 12))) (Then (Loop ForallWord (at 1 14) (OneVariable (name (codes "i") (at 1 21))) (at 1 23) (RangeItem
    (Number (at 1 26) (pos 1)) (at 1 27) Closed (Number (at 1 29) (pos 2)) NoStride) None (WordBody (at 1 31) (Assigned (Whole
    (name (codes "k") (at 1 34))) (sign (at 1 36) Set (at 1 36)) (One (TruthWord (at 1 38) true)) (at 1 42)))) NoStmts)) ≡ broken 1 34 OuterChanged ∷ broken 1 34 ConstantWritten ∷ broken 1 38 WrongType ∷ []
several_at_one_place = refl

-- var n: int; forall i in 1..2 { forall j in 1..2 with (+ reduce n) do ; }
inner_forall_with_an_intent : all_of
    (Then (Declare (declared None (at 1 1) false (name (codes "n") (at 1 5)) (Some (typed (at 1 6) (ScalarType (at 1 8) IntKind)))
    None (at 1 11))) (Then (Loop ForallWord (at 1 13) (OneVariable (name (codes "i") (at 1 20))) (at 1 22) (RangeItem (Number (at 1 25) (pos
    1)) (at 1 26) Closed (Number (at 1 28) (pos 2)) NoStride) None (BlockBody (at 1 30) (Then (Loop ForallWord (at 1 32) (OneVariable
    (name (codes "j") (at 1 39))) (at 1 41) (RangeItem (Number (at 1 44) (pos 1)) (at 1 45) Closed (Number (at 1 47) (pos 2))
    NoStride) (Some (with_intents (at 1 49) (at 1 54) (listed (ReduceIntent (at 1 55) Sum (at 1 57) (name (codes "n") (at 1 64)))
    []) (at 1 65))) (WordBody (at 1 67) (Nothing (at 1 70)))) NoStmts) (at 1 72))) NoStmts)) ≡ broken 1 32 NotInForall ∷ []
inner_forall_with_an_intent = refl

-- var A: [1..2] int; forall i in 1..2 { forall j in 1..2 do A[j] = 1; }
inner_forall_writes : all_of
    (Then (Declare (declared None (at 1 1) false (name (codes "A") (at 1 5)) (Some (typed (at 1 6) (ArrayType (array_type (at 1 8)
    (FirstItem (RangeItem (Number (at 1 9) (pos 1)) (at 1 10) Closed (Number (at 1 12) (pos 2)) NoStride) NoItems) (at 1 13)
    (at 1 15) IntKind)))) None (at 1 18))) (Then (Loop ForallWord (at 1 20) (OneVariable (name (codes "i") (at 1 27))) (at 1 29) (RangeItem
    (Number (at 1 32) (pos 1)) (at 1 33) Closed (Number (at 1 35) (pos 2)) NoStride) None (BlockBody (at 1 37) (Then (Loop ForallWord
    (at 1 39) (OneVariable (name (codes "j") (at 1 46))) (at 1 48) (RangeItem (Number (at 1 51) (pos 1)) (at 1 52) Closed (Number
    (at 1 54) (pos 2)) NoStride) None (WordBody (at 1 56) (Assigned (Element (name (codes "A") (at 1 59)) Square (at 1 60)
    (FirstExpr (Named (name (codes "j") (at 1 61))) NoExprs) (at 1 62)) (sign (at 1 64) Set (at 1 64)) (One (Number (at 1 66) (pos
    1))) (at 1 67)))) NoStmts) (at 1 69))) NoStmts)) ≡ broken 1 39 NotInForall ∷ broken 1 59 WrittenElsewhere ∷ []
inner_forall_writes = refl

-- var c: sync int; coforall i in 1..2 do write(c.readFE());
print_of_a_cell_in_a_task : all_of
    (Then (Declare (declared None (at 1 1) false (name (codes "c") (at 1 5)) (Some (typed (at 1 6) (SyncType (at 1 8) (at 1 13)
    IntKind))) None (at 1 16))) (Then (Loop CoforallWord (at 1 18) (OneVariable (name (codes "i") (at 1 27))) (at 1 29) (RangeItem (Number
    (at 1 32) (pos 1)) (at 1 33) Closed (Number (at 1 35) (pos 2)) NoStride) None (WordBody (at 1 37) (Write (written_line (at 1 40)
    false (at 1 45) (Some (listed (ExprArgument (Postfixed (Named (name (codes "c") (at 1 46))) (Post (Dotted (at 1 47) (CellRead
    (at 1 48) ReadFEWord (at 1 54) (at 1 55))) NoPosts))) [])) (at 1 56) (at 1 57))))) NoStmts)) ≡ broken 1 40 NotInCoforall ∷ broken 1 46 CellMisused ∷ []
print_of_a_cell_in_a_task = refl

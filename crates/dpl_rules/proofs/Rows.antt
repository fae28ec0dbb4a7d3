-- Rows that refuse wrong definitions: each is one that an edit in must-fail/ turns.
-- Each row stands behind its text, on line 2 behind the house's line. Rows of every rule, by text, are those of dpl_worked.
use Rattle.std.proofs.Common.{◌≡◌, [], refl, Some, None, true, false}
use Rattle.std.specs.Prelude.{codes, pos}
use Rattle.dpl_language.specs.Tree.{Add, Assigned, BlockBody, Brackets, Chain, CyclicMap, Declare, Element, ExprArgument, FirstExpr, FirstItem, Grouped, ItemInit}
use Rattle.dpl_language.specs.Tree.{Link, Named, NoExprs, NoItems, NoLinks, NoPosts, NoStmts, Number, One, OneVariable, Post, Postfixed, ReduceIntent, Reduced, Set}
use Rattle.dpl_language.specs.Tree.{SetSubtract, Square, StartExpr, Subtract, Sum, Then, TruthWord, Whole, WordBody, Write, Loop, ForallWord, CoforallWord}
use Rattle.dpl_language.proofs.Spelled.{argument, at, cyclic_map, declared, initial, listed, mapped, name, sign, with_intents, written_line}
use Rattle.dpl_syntax.specs.declared.refusal.Code.TheVariants.{NotInCoforall, NotInForall, OuterChanged, ReadElsewhere, WrittenElsewhere, WrongType}
use Rattle.dpl_rules.proofs.House.{in_house, told}

-- ---- C6, an array that isn't written at the own index
-- forall i in D do A[i + 1] = 1;
written_at_the_next : in_house
    (Then (Loop ForallWord (at 2 1) (OneVariable (name (codes "i") (at 2 8))) (at 2 10) (One (Named (name (codes "D") (at 2 13)))) None
    (WordBody (at 2 15) (Assigned (Element (name (codes "A") (at 2 18)) Square (at 2 19) (FirstExpr (Chain (Named
    (name (codes "i") (at 2 20))) (Link (at 2 22) Add (Number (at 2 24) (pos 1)) NoLinks)) NoExprs) (at 2 25)) (sign (at 2 27) Set
    (at 2 27)) (One (Number (at 2 29) (pos 1))) (at 2 30)))) NoStmts) ≡ told 2 18 WrittenElsewhere
written_at_the_next = refl

-- forall i in D { const i = 1; A[i] = 2; }
written_at_a_hidden_variable : in_house
    (Then (Loop ForallWord (at 2 1) (OneVariable (name (codes "i") (at 2 8))) (at 2 10) (One (Named (name (codes "D") (at 2 13)))) None
    (BlockBody (at 2 15) (Then (Declare (declared None (at 2 17) true (name (codes "i") (at 2 23)) None (Some (initial (at 2 25)
    (ItemInit (One (Number (at 2 27) (pos 1))) None))) (at 2 28))) (Then (Assigned (Element (name (codes "A") (at 2 30)) Square
    (at 2 31) (FirstExpr (Named (name (codes "i") (at 2 32))) NoExprs) (at 2 33)) (sign (at 2 35) Set (at 2 35)) (One (Number
    (at 2 37) (pos 2))) (at 2 38)) NoStmts)) (at 2 40))) NoStmts) ≡ told 2 30 WrittenElsewhere
written_at_a_hidden_variable = refl

-- ---- C7, an array that is written is read elsewhere
-- forall i in D do A[i] = A[i - 1];
neighbour_read : in_house
    (Then (Loop ForallWord (at 2 1) (OneVariable (name (codes "i") (at 2 8))) (at 2 10) (One (Named (name (codes "D") (at 2 13)))) None
    (WordBody (at 2 15) (Assigned (Element (name (codes "A") (at 2 18)) Square (at 2 19) (FirstExpr (Named
    (name (codes "i") (at 2 20))) NoExprs) (at 2 21)) (sign (at 2 23) Set (at 2 23)) (One (Postfixed (Named
    (name (codes "A") (at 2 25))) (Post (Brackets (at 2 26) (FirstItem (One (Chain (Named (name (codes "i") (at 2 27))) (Link
    (at 2 29) Subtract (Number (at 2 31) (pos 1)) NoLinks))) NoItems) (at 2 32)) NoPosts))) (at 2 33)))) NoStmts) ≡ told 2 25 ReadElsewhere
neighbour_read = refl

-- ---- C8, an outer scalar, locale or domain that is changed, or a reduce variable that is read
-- forall i in D with (+ reduce n) do n -= 1;
reduce_variable_lowered : in_house
    (Then (Loop ForallWord (at 2 1) (OneVariable (name (codes "i") (at 2 8))) (at 2 10) (One (Named (name (codes "D") (at 2 13)))) (Some
    (with_intents (at 2 15) (at 2 20) (listed (ReduceIntent (at 2 21) Sum (at 2 23) (name (codes "n") (at 2 30))) []) (at 2 31)))
    (WordBody (at 2 33) (Assigned (Whole (name (codes "n") (at 2 36))) (sign (at 2 38) SetSubtract (at 2 38)) (One (Number (at 2 41)
    (pos 1))) (at 2 42)))) NoStmts) ≡ told 2 36 OuterChanged
reduce_variable_lowered = refl

-- ---- C9, a reduction in a promoted pair of a chain
-- A = (+ reduce C) + A + F;
sum_before_a_refused_pair : in_house
    (Then (Assigned (Whole (name (codes "A") (at 2 1))) (sign (at 2 3) Set (at 2 3)) (One (Chain (Grouped (at 2 5) (One (Reduced
    (at 2 6) Sum (at 2 8) (Named (name (codes "C") (at 2 15))))) (at 2 16)) (Link (at 2 18) Add (Named (name (codes "A") (at 2 20)))
    (Link (at 2 22) Add (Named (name (codes "F") (at 2 24))) NoLinks)))) (at 2 25)) NoStmts) ≡ told 2 6 NotInForall
sum_before_a_refused_pair = refl

-- ---- C10, what a coforall's body doesn't write, hold or declare
-- coforall i in r do write(i);
print_in_a_task : in_house
    (Then (Loop CoforallWord (at 2 1) (OneVariable (name (codes "i") (at 2 10))) (at 2 12) (One (Named (name (codes "r") (at 2 15)))) None
    (WordBody (at 2 17) (Write (written_line (at 2 20) false (at 2 25) (Some (listed (ExprArgument (Named
    (name (codes "i") (at 2 26)))) [])) (at 2 27) (at 2 28))))) NoStmts) ≡ told 2 20 NotInCoforall
print_in_a_task = refl

-- ---- C3 of a map's argument
-- const x = D dmapped new cyclicDist(startIdx=true);
start_of_bool : in_house
    (Then (Declare (declared None (at 2 1) true (name (codes "x") (at 2 7)) None (Some (initial (at 2 9) (ItemInit (One (Named
    (name (codes "D") (at 2 11)))) (Some (mapped (at 2 13) (CyclicMap (cyclic_map (at 2 21) (at 2 25) (at 2 35) (Some (argument
    (at 2 36) (at 2 44))) (StartExpr (TruthWord (at 2 45) true)) (at 2 49)))))))) (at 2 50))) NoStmts) ≡ told 2 45 WrongType
start_of_bool = refl

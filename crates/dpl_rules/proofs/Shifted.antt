-- Shifted reads of sample foralls, behind the house's line.
-- Of each the array is told, and for each of its coordinates which of the turn's it takes and what it adds.
use Rattle.std.proofs.Common.{◌≡◌, ℕ, List, [], ◌∷◌, refl, Some, None, true, false}
use Rattle.std.specs.Prelude.{pos, negsuc, codes, flat_map}
use Rattle.dpl_sets.specs.declared.subscript.Subscript.{Subscript}
use Rattle.dpl_sets.specs.Subscripts.{subscript}
use Rattle.dpl_language.specs.Tree.{Add, Assigned, BlockBody, Brackets, Chain, Declare, Divide, Element, FirstExpr, FirstItem, Grouped, If, ItemInit}
use Rattle.dpl_language.specs.Tree.{Link, ManyVariables, Minus, Multiply, Named, NextItem, NoElse, NoExprs, NoItems, NoLinks, NoPosts, NoStmts, Number, One}
use Rattle.dpl_language.specs.Tree.{OneVariable, Post, Postfixed, Prefixed, Remainder, Rounds, Set, SetAdd, Square, Subtract, Then, TruthWord, WordBody}
use Rattle.dpl_language.specs.Tree.{ForWord, ForallWord, StmtTree, Loop}
use Rattle.dpl_language.proofs.Spelled.{at, name, after, declared, initial, listed, sign}
use Rattle.dpl_rules.specs.Types.{Origin}
use Rattle.dpl_rules.specs.Sights.{Scopes}
use Rattle.dpl_rules.specs.Foralls.{scope_in, deeds_in, foralls}
use Rattle.dpl_rules.specs.Breaches.{top}
use Rattle.dpl_rules.specs.Sound.{behind_all}
use Rattle.dpl_rules.specs.Shifts.{shifted_reads}
use Rattle.dpl_rules.proofs.House.{behind_house}

-- a name of the house
abbrev origin : List ℕ → Origin
origin x = record { name = x; depth = 1 }

abbrev house : Scopes
house = behind_all top (behind_house NoStmts)

-- the shifted reads of a forall
abbrev shifts_of : StmtTree (List ℕ) → List (Origin × List Subscript)
shifts_of t = flat_map (λ f. shifted_reads (scope_in f) (deeds_in f)) (foralls house t)

-- forall i in D do C[i] = A[i-1] + A[i+1] + A[i];
neighbours : shifts_of
    (Loop ForallWord (at 2 1) (OneVariable (name (codes "i") (at 2 8))) (at 2 10) (One (Named (name (codes "D") (at 2 13)))) None (WordBody
    (at 2 15) (Assigned (Element (name (codes "C") (at 2 18)) Square (at 2 19) (FirstExpr (Named (name (codes "i") (at 2 20)))
    NoExprs) (at 2 21)) (sign (at 2 23) Set (at 2 23)) (One (Chain (Postfixed (Named (name (codes "A") (at 2 25))) (Post (Brackets
    (at 2 26) (FirstItem (One (Chain (Named (name (codes "i") (at 2 27))) (Link (at 2 28) Subtract (Number (at 2 29) (pos 1))
    NoLinks))) NoItems) (at 2 30)) NoPosts)) (Link (at 2 32) Add (Postfixed (Named (name (codes "A") (at 2 34))) (Post (Brackets
    (at 2 35) (FirstItem (One (Chain (Named (name (codes "i") (at 2 36))) (Link (at 2 37) Add (Number (at 2 38) (pos 1)) NoLinks)))
    NoItems) (at 2 39)) NoPosts)) (Link (at 2 41) Add (Postfixed (Named (name (codes "A") (at 2 43))) (Post (Brackets (at 2 44)
    (FirstItem (One (Named (name (codes "i") (at 2 45)))) NoItems) (at 2 46)) NoPosts)) NoLinks)))) (at 2 47))))
    ≡ (origin (codes "A"), subscript 0 (negsuc 0) ∷ []) ∷ (origin (codes "A"), subscript 0 (pos 1) ∷ []) ∷ (origin (codes "A"), subscript 0 (pos 0) ∷ []) ∷ []
neighbours = refl

-- forall i in D do C[i] = A[9-i] + A[1+i] + A[(i)+1] + A[i+(1)] + A[i+1-1] + A[i - -1] + A[i*2] + A[i/1] + A[i%8] + A[n] + A[n+1] + A[1];
other_indices : shifts_of
    (Loop ForallWord (at 2 1) (OneVariable (name (codes "i") (at 2 8))) (at 2 10) (One (Named (name (codes "D") (at 2 13)))) None (WordBody
    (at 2 15) (Assigned (Element (name (codes "C") (at 2 18)) Square (at 2 19) (FirstExpr (Named (name (codes "i") (at 2 20)))
    NoExprs) (at 2 21)) (sign (at 2 23) Set (at 2 23)) (One (Chain (Postfixed (Named (name (codes "A") (at 2 25))) (Post (Brackets
    (at 2 26) (FirstItem (One (Chain (Number (at 2 27) (pos 9)) (Link (at 2 28) Subtract (Named (name (codes "i") (at 2 29)))
    NoLinks))) NoItems) (at 2 30)) NoPosts)) (Link (at 2 32) Add (Postfixed (Named (name (codes "A") (at 2 34))) (Post (Brackets
    (at 2 35) (FirstItem (One (Chain (Number (at 2 36) (pos 1)) (Link (at 2 37) Add (Named (name (codes "i") (at 2 38))) NoLinks)))
    NoItems) (at 2 39)) NoPosts)) (Link (at 2 41) Add (Postfixed (Named (name (codes "A") (at 2 43))) (Post (Brackets (at 2 44)
    (FirstItem (One (Chain (Grouped (at 2 45) (One (Named (name (codes "i") (at 2 46)))) (at 2 47)) (Link (at 2 48) Add (Number
    (at 2 49) (pos 1)) NoLinks))) NoItems) (at 2 50)) NoPosts)) (Link (at 2 52) Add (Postfixed (Named (name (codes "A") (at 2 54)))
    (Post (Brackets (at 2 55) (FirstItem (One (Chain (Named (name (codes "i") (at 2 56))) (Link (at 2 57) Add (Grouped (at 2 58)
    (One (Number (at 2 59) (pos 1))) (at 2 60)) NoLinks))) NoItems) (at 2 61)) NoPosts)) (Link (at 2 63) Add (Postfixed (Named
    (name (codes "A") (at 2 65))) (Post (Brackets (at 2 66) (FirstItem (One (Chain (Named (name (codes "i") (at 2 67))) (Link
    (at 2 68) Add (Number (at 2 69) (pos 1)) (Link (at 2 70) Subtract (Number (at 2 71) (pos 1)) NoLinks)))) NoItems) (at 2 72))
    NoPosts)) (Link (at 2 74) Add (Postfixed (Named (name (codes "A") (at 2 76))) (Post (Brackets (at 2 77) (FirstItem (One (Chain
    (Named (name (codes "i") (at 2 78))) (Link (at 2 80) Subtract (Prefixed (at 2 82) Minus (Number (at 2 83) (pos 1))) NoLinks)))
    NoItems) (at 2 84)) NoPosts)) (Link (at 2 86) Add (Postfixed (Named (name (codes "A") (at 2 88))) (Post (Brackets (at 2 89)
    (FirstItem (One (Chain (Named (name (codes "i") (at 2 90))) (Link (at 2 91) Multiply (Number (at 2 92) (pos 2)) NoLinks)))
    NoItems) (at 2 93)) NoPosts)) (Link (at 2 95) Add (Postfixed (Named (name (codes "A") (at 2 97))) (Post (Brackets (at 2 98)
    (FirstItem (One (Chain (Named (name (codes "i") (at 2 99))) (Link (at 2 100) Divide (Number (at 2 101) (pos 1)) NoLinks)))
    NoItems) (at 2 102)) NoPosts)) (Link (at 2 104) Add (Postfixed (Named (name (codes "A") (at 2 106))) (Post (Brackets (at 2 107)
    (FirstItem (One (Chain (Named (name (codes "i") (at 2 108))) (Link (at 2 109) Remainder (Number (at 2 110) (pos 8)) NoLinks)))
    NoItems) (at 2 111)) NoPosts)) (Link (at 2 113) Add (Postfixed (Named (name (codes "A") (at 2 115))) (Post (Brackets (at 2 116)
    (FirstItem (One (Named (name (codes "n") (at 2 117)))) NoItems) (at 2 118)) NoPosts)) (Link (at 2 120) Add (Postfixed (Named
    (name (codes "A") (at 2 122))) (Post (Brackets (at 2 123) (FirstItem (One (Chain (Named (name (codes "n") (at 2 124))) (Link
    (at 2 125) Add (Number (at 2 126) (pos 1)) NoLinks))) NoItems) (at 2 127)) NoPosts)) (Link (at 2 129) Add (Postfixed (Named
    (name (codes "A") (at 2 131))) (Post (Brackets (at 2 132) (FirstItem (One (Number (at 2 133) (pos 1))) NoItems) (at 2 134))
    NoPosts)) NoLinks))))))))))))) (at 2 135))))
    ≡ []
other_indices = refl

-- forall i in D do C[i] = A[(i+1)] + A(((i)));
brackets_round_an_index : shifts_of
    (Loop ForallWord (at 2 1) (OneVariable (name (codes "i") (at 2 8))) (at 2 10) (One (Named (name (codes "D") (at 2 13)))) None (WordBody
    (at 2 15) (Assigned (Element (name (codes "C") (at 2 18)) Square (at 2 19) (FirstExpr (Named (name (codes "i") (at 2 20)))
    NoExprs) (at 2 21)) (sign (at 2 23) Set (at 2 23)) (One (Chain (Postfixed (Named (name (codes "A") (at 2 25))) (Post (Brackets
    (at 2 26) (FirstItem (One (Grouped (at 2 27) (One (Chain (Named (name (codes "i") (at 2 28))) (Link (at 2 29) Add (Number
    (at 2 30) (pos 1)) NoLinks))) (at 2 31))) NoItems) (at 2 32)) NoPosts)) (Link (at 2 34) Add (Postfixed (Named
    (name (codes "A") (at 2 36))) (Post (Rounds (at 2 37) (FirstExpr (Grouped (at 2 38) (One (Grouped (at 2 39) (One (Named
    (name (codes "i") (at 2 40)))) (at 2 41))) (at 2 42)) NoExprs) (at 2 43)) NoPosts)) NoLinks))) (at 2 44))))
    ≡ (origin (codes "A"), subscript 0 (pos 1) ∷ []) ∷ (origin (codes "A"), subscript 0 (pos 0) ∷ []) ∷ []
brackets_round_an_index = refl

-- forall i in D do A[i] = A[i] + C[i+2];
an_array_that_is_written : shifts_of
    (Loop ForallWord (at 2 1) (OneVariable (name (codes "i") (at 2 8))) (at 2 10) (One (Named (name (codes "D") (at 2 13)))) None (WordBody
    (at 2 15) (Assigned (Element (name (codes "A") (at 2 18)) Square (at 2 19) (FirstExpr (Named (name (codes "i") (at 2 20)))
    NoExprs) (at 2 21)) (sign (at 2 23) Set (at 2 23)) (One (Chain (Postfixed (Named (name (codes "A") (at 2 25))) (Post (Brackets
    (at 2 26) (FirstItem (One (Named (name (codes "i") (at 2 27)))) NoItems) (at 2 28)) NoPosts)) (Link (at 2 30) Add (Postfixed
    (Named (name (codes "C") (at 2 32))) (Post (Brackets (at 2 33) (FirstItem (One (Chain (Named (name (codes "i") (at 2 34))) (Link
    (at 2 35) Add (Number (at 2 36) (pos 2)) NoLinks))) NoItems) (at 2 37)) NoPosts)) NoLinks))) (at 2 38))))
    ≡ (origin (codes "C"), subscript 0 (pos 2) ∷ []) ∷ []
an_array_that_is_written = refl

-- forall (i, j) in E do C[i] = B[j-1, i] + B[i, i+3] + B[i, 1];
two_variables : shifts_of
    (Loop ForallWord (at 2 1) (ManyVariables (at 2 8) (listed (name (codes "i") (at 2 9)) (after (at 2 10) (name (codes "j") (at 2 12)) ∷
    [])) (at 2 13)) (at 2 15) (One (Named (name (codes "E") (at 2 18)))) None (WordBody (at 2 20) (Assigned (Element
    (name (codes "C") (at 2 23)) Square (at 2 24) (FirstExpr (Named (name (codes "i") (at 2 25))) NoExprs) (at 2 26)) (sign
    (at 2 28) Set (at 2 28)) (One (Chain (Postfixed (Named (name (codes "B") (at 2 30))) (Post (Brackets (at 2 31) (FirstItem (One
    (Chain (Named (name (codes "j") (at 2 32))) (Link (at 2 33) Subtract (Number (at 2 34) (pos 1)) NoLinks))) (NextItem (at 2 35)
    (One (Named (name (codes "i") (at 2 37)))) NoItems)) (at 2 38)) NoPosts)) (Link (at 2 40) Add (Postfixed (Named
    (name (codes "B") (at 2 42))) (Post (Brackets (at 2 43) (FirstItem (One (Named (name (codes "i") (at 2 44)))) (NextItem
    (at 2 45) (One (Chain (Named (name (codes "i") (at 2 47))) (Link (at 2 48) Add (Number (at 2 49) (pos 3)) NoLinks))) NoItems))
    (at 2 50)) NoPosts)) (Link (at 2 52) Add (Postfixed (Named (name (codes "B") (at 2 54))) (Post (Brackets (at 2 55) (FirstItem
    (One (Named (name (codes "i") (at 2 56)))) (NextItem (at 2 57) (One (Number (at 2 59) (pos 1))) NoItems)) (at 2 60)) NoPosts))
    NoLinks)))) (at 2 61))))
    ≡ (origin (codes "B"), subscript 1 (negsuc 0) ∷ subscript 0 (pos 0) ∷ []) ∷ (origin (codes "B"), subscript 0 (pos 0) ∷ subscript 0 (pos 3) ∷ []) ∷ []
two_variables = refl

-- forall t in E { const x = B[t] + B((t)); }
a_tuple_name : shifts_of
    (Loop ForallWord (at 2 1) (OneVariable (name (codes "t") (at 2 8))) (at 2 10) (One (Named (name (codes "E") (at 2 13)))) None (BlockBody
    (at 2 15) (Then (Declare (declared None (at 2 17) true (name (codes "x") (at 2 23)) None (Some (initial (at 2 25) (ItemInit (One
    (Chain (Postfixed (Named (name (codes "B") (at 2 27))) (Post (Brackets (at 2 28) (FirstItem (One (Named
    (name (codes "t") (at 2 29)))) NoItems) (at 2 30)) NoPosts)) (Link (at 2 32) Add (Postfixed (Named (name (codes "B") (at 2 34)))
    (Post (Rounds (at 2 35) (FirstExpr (Grouped (at 2 36) (One (Named (name (codes "t") (at 2 37)))) (at 2 38)) NoExprs) (at 2 39))
    NoPosts)) NoLinks))) None))) (at 2 40))) NoStmts) (at 2 42)))
    ≡ (origin (codes "B"), subscript 0 (pos 0) ∷ subscript 1 (pos 0) ∷ []) ∷ (origin (codes "B"), subscript 0 (pos 0) ∷ subscript 1 (pos 0) ∷ []) ∷ []
a_tuple_name = refl

-- forall i in D { for j in D do C[i] += A[j] + A[i-4]; }
an_inner_loops_variable : shifts_of
    (Loop ForallWord (at 2 1) (OneVariable (name (codes "i") (at 2 8))) (at 2 10) (One (Named (name (codes "D") (at 2 13)))) None (BlockBody
    (at 2 15) (Then (Loop ForWord (at 2 17) (OneVariable (name (codes "j") (at 2 21))) (at 2 23) (One (Named (name (codes "D") (at 2 26))))
    None (WordBody (at 2 28) (Assigned (Element (name (codes "C") (at 2 31)) Square (at 2 32) (FirstExpr (Named
    (name (codes "i") (at 2 33))) NoExprs) (at 2 34)) (sign (at 2 36) SetAdd (at 2 36)) (One (Chain (Postfixed (Named
    (name (codes "A") (at 2 39))) (Post (Brackets (at 2 40) (FirstItem (One (Named (name (codes "j") (at 2 41)))) NoItems)
    (at 2 42)) NoPosts)) (Link (at 2 44) Add (Postfixed (Named (name (codes "A") (at 2 46))) (Post (Brackets (at 2 47) (FirstItem
    (One (Chain (Named (name (codes "i") (at 2 48))) (Link (at 2 49) Subtract (Number (at 2 50) (pos 4)) NoLinks))) NoItems)
    (at 2 51)) NoPosts)) NoLinks))) (at 2 52)))) NoStmts) (at 2 54)))
    ≡ (origin (codes "A"), subscript 0 (negsuc 3) ∷ []) ∷ []
an_inner_loops_variable = refl

-- forall i in D { const x = A[i]; const i = 1; const y = A[i]; }
a_hidden_variable : shifts_of
    (Loop ForallWord (at 2 1) (OneVariable (name (codes "i") (at 2 8))) (at 2 10) (One (Named (name (codes "D") (at 2 13)))) None (BlockBody
    (at 2 15) (Then (Declare (declared None (at 2 17) true (name (codes "x") (at 2 23)) None (Some (initial (at 2 25) (ItemInit (One
    (Postfixed (Named (name (codes "A") (at 2 27))) (Post (Brackets (at 2 28) (FirstItem (One (Named (name (codes "i") (at 2 29))))
    NoItems) (at 2 30)) NoPosts))) None))) (at 2 31))) (Then (Declare (declared None (at 2 33) true (name (codes "i") (at 2 39))
    None (Some (initial (at 2 41) (ItemInit (One (Number (at 2 43) (pos 1))) None))) (at 2 44))) (Then (Declare (declared None
    (at 2 46) true (name (codes "y") (at 2 52)) None (Some (initial (at 2 54) (ItemInit (One (Postfixed (Named
    (name (codes "A") (at 2 56))) (Post (Brackets (at 2 57) (FirstItem (One (Named (name (codes "i") (at 2 58)))) NoItems)
    (at 2 59)) NoPosts))) None))) (at 2 60))) NoStmts))) (at 2 62)))
    ≡ (origin (codes "A"), subscript 0 (pos 0) ∷ []) ∷ []
a_hidden_variable = refl

-- forall i in D { if false then C[i] = A[i-1]; }
a_condition_never_reached : shifts_of
    (Loop ForallWord (at 2 1) (OneVariable (name (codes "i") (at 2 8))) (at 2 10) (One (Named (name (codes "D") (at 2 13)))) None (BlockBody
    (at 2 15) (Then (If (at 2 17) (TruthWord (at 2 20) false) (WordBody (at 2 26) (Assigned (Element (name (codes "C") (at 2 31))
    Square (at 2 32) (FirstExpr (Named (name (codes "i") (at 2 33))) NoExprs) (at 2 34)) (sign (at 2 36) Set (at 2 36)) (One
    (Postfixed (Named (name (codes "A") (at 2 38))) (Post (Brackets (at 2 39) (FirstItem (One (Chain (Named
    (name (codes "i") (at 2 40))) (Link (at 2 41) Subtract (Number (at 2 42) (pos 1)) NoLinks))) NoItems) (at 2 43)) NoPosts)))
    (at 2 44))) NoElse) NoStmts) (at 2 46)))
    ≡ (origin (codes "A"), subscript 0 (negsuc 0) ∷ []) ∷ []
a_condition_never_reached = refl

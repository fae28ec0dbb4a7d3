-- Rows: bodies whose turns may be made apart, and others; and right sides of whole arrays.
-- In slot 0 the loop's variable i, in slot 1 the reduce variable s, in slots 2 and 3 the arrays A and B, in slot 4 an outer int c, and in slot 5 a
-- local int x.
use Rattle.std.proofs.Common.{ℕ, pos, List, [], ◌∷◌, None, refl}
use Rattle.dpl_language.specs.Tree.{Placed, IntKind, Sum, Set, SetAdd, Add, Subtract, ExprTree, Number, Named, Reduced, One, Element, Square, StmtTree, Assigned, Stmts, NoStmts, Then}
use Rattle.dpl_language.specs.Environment.{Limits}
use Rattle.dpl_lowered.specs.Shapes.{nowhere, two}
use Rattle.dpl_memory.specs.Memory.{ArrayKind, Variable, variable, int_leaf}
use Rattle.dpl_nodes.specs.Typed.{leaf_named, in_square, items_one, exprs_one}
use Rattle.dpl_nodes.specs.Steps.{assigned_to, declared_as}
use Rattle.dpl_apart.specs.Memories.{MayBeApart}
use Rattle.dpl_turns.specs.Wholes.{ReadsOwn}
use Rattle.dpl_turns.specs.Bodies.{OneInt, body_changes, body_turn, KeepsApart}
use Rattle.dpl_turns.proofs.Bodies.{body-apart}

abbrev pub int_named : ℕ → ExprTree Variable
int_named slot = leaf_named (int_leaf slot)

abbrev array_named : ℕ → Placed Variable
array_named slot = record { at = nowhere; name = variable (ArrayKind IntKind) slot }

abbrev plus : ExprTree Variable → ExprTree Variable → ExprTree Variable
plus a b = two a nowhere Add b

abbrev before : ExprTree Variable → ExprTree Variable
before e = two e nowhere Subtract (Number nowhere (pos 1))

abbrev element : ℕ → ExprTree Variable → ExprTree Variable
element slot e = in_square (Named (array_named slot)) (items_one (One e))

abbrev pub set_element : ℕ → ExprTree Variable → ExprTree Variable → StmtTree Variable
set_element slot i e = Assigned (Element (array_named slot) Square nowhere (exprs_one i) nowhere) (record { at = nowhere; op = Set; last = nowhere }) (One e) nowhere

abbrev alone : StmtTree Variable → Stmts Variable
alone t = Then t NoStmts

abbrev Keeps : List ℕ → Stmts Variable → Type 0
Keeps along body = KeepsApart 1 (OneInt 0) along (2 ∷ []) ((1, Sum) ∷ []) body

-- ---- A[i] = B[i - 1] + c
abbrev shifted : Stmts Variable
shifted = alone (set_element 2 (int_named 0) (plus (element 3 (before (int_named 0))) (int_named 4)))

shifted_keeps : Keeps [] shifted
shifted_keeps = record {
  of_rank = refl;
  once = (refl, tt);
  fits = λ t. (((((refl, tt), (λ e. refl), (refl, refl), refl), ((((refl, ((((refl, (tt, tt)), tt), (λ e. absurd cc)), tt)), (refl, tt)), tt)), tt)), tt);
  silent = (refl, tt);
}

shifted_apart : (limits : Limits) → MayBeApart (body_changes 1 (OneInt 0) [] (2 ∷ []) ((1, Sum) ∷ [])) (body_turn limits (OneInt 0) [] shifted)
shifted_apart limits = body-apart limits 1 (OneInt 0) [] (2 ∷ []) ((1, Sum) ∷ []) shifted shifted_keeps

-- ---- s += A[i]
abbrev summed : Stmts Variable
summed = alone (assigned_to (int_leaf 1) SetAdd nowhere (One (element 2 (int_named 0))))

summed_keeps : Keeps [] summed
summed_keeps = record {
  of_rank = refl;
  once = (refl, tt);
  fits = λ t. (((refl, (λ i. (tt, tt))), ((λ i. (refl, (((refl, tt), (λ e. refl)), tt))), tt), tt), tt);
  silent = (refl, tt);
}

-- ---- A[i] = A[i - 1] reads what another turn writes
abbrev carried : Stmts Variable
carried = alone (set_element 2 (int_named 0) (element 2 (before (int_named 0))))

carried_not : Keeps [] carried → ⊥
carried_not keeps = let side = (keeps.fits []).0.1.0 in let own = side.1.0.1 refl in cc

-- ---- A[i - 1] = i writes at another index
abbrev scattered : Stmts Variable
scattered = alone (set_element 2 (before (int_named 0)) (int_named 0))

scattered_not : Keeps [] scattered → ⊥
scattered_not keeps = let target = (keeps.fits []).0.0 in let own = target.2.1 in cc

-- ---- B[i] = i writes an array that isn't among those which are written
unlisted_not : Keeps [] (alone (set_element 3 (int_named 0) (int_named 0))) → ⊥
unlisted_not keeps = let target = (keeps.fits []).0.0 in let written = target.2.0 in cc

-- ---- s = i is no addition, and c = s reads a reduce variable
overwritten_not : Keeps [] (alone (assigned_to (int_leaf 1) Set nowhere (One (int_named 0)))) → ⊥
overwritten_not keeps = let assigns = (keeps.fits []).0.0.0 in cc

read_not : Keeps [] (alone (set_element 2 (int_named 0) (int_named 1))) → ⊥
read_not keeps = let reads = (keeps.fits []).0.1.0 in cc

-- ---- var x = i; A[i] = x: where x begins anew
abbrev local : Stmts Variable
local = Then (declared_as None (int_leaf 5) (One (int_named 0))) (alone (set_element 2 (int_named 0) (int_named 5)))

local_keeps : Keeps (5 ∷ []) local
local_keeps = record {
  of_rank = refl;
  once = (refl, tt);
  fits = λ t. ((tt, (refl, tt), (refl, refl), tt, tt, (tt, tt)), ((((refl, tt), (λ e. refl), (refl, refl), refl), (refl, tt), tt), tt));
  silent = ((refl, refl, tt, refl), (refl, tt));
}

local_not : Keeps [] local → ⊥
local_not keeps = let declares = (keeps.fits []).0.2.0 in cc

-- ---- right sides for A: A + B, and A[1] + B, and the sum of A
own_element : ReadsOwn 1 2 (plus (Named (array_named 2)) (Named (array_named 3)))
own_element = λ t. ((refl, (λ e. refl)), ((refl, (λ e. absurd cc)), tt))

first_element : ReadsOwn 1 2 (plus (element 2 (Number nowhere (pos 1))) (Named (array_named 3))) → ⊥
first_element reads = (reads []).0.1.0.1 refl

all_elements : ReadsOwn 1 2 (plus (Named (array_named 2)) (Reduced nowhere Sum nowhere (Named (array_named 2)))) → ⊥
all_elements reads = let here = ((reads []).1.0 (pos 0 ∷ [])).1 refl in cc

-- Small trees, and where their statements may stand: one row for each thing that the definition decides.
-- Names are numbers here, and all tokens stand at one place.
use Rattle.std.proofs.Common.{ℕ, pos, true, None}
use Rattle.dpl_syntax.specs.declared.place.Place.{Place}
use Rattle.dpl_language.specs.Tree.{Placed, Closed, Set, ExprTree, Number, TruthWord, ItemTree, One, RangeItem, NoStride, VariablesTree, OneVariable, Whole}
use Rattle.dpl_language.specs.Tree.{WhileWord, OnWord, ForWord, ForallWord, CoforallWord, StmtTree, Assigned, Write, Block, If, Headed, Loop, Body, WordBody, BlockBody, NoStmts, Then, NoElse, ElseDo}
use Rattle.dpl_standing.specs.Standing.{Outside, InTurn, MayStand, AllMayStand}

-- HOW ROWS ARE WRITTEN
abbrev at : Place
at = record { line = 1; column = 1 }

abbrev name : Placed ℕ
name = record { at = at; name = 0 }

abbrev one : ExprTree ℕ
one = Number at (pos 1)

-- `writeln();` and `x = 1;`
abbrev print : StmtTree ℕ
print = Write (record { at = at; ends_line = true; from = at; arguments = None; upto = at; semicolon = at })

abbrev assigned : StmtTree ℕ
assigned = Assigned (Whole name) (record { at = at; op = Set; last = at }) (One one) at

-- a body of one statement, and a block of it
abbrev doing : StmtTree ℕ → Body ℕ
doing t = WordBody at t

abbrev block : StmtTree ℕ → StmtTree ℕ
block t = Block at (Then t NoStmts) at

-- a condition and loops around a statement
abbrev conditional : StmtTree ℕ → StmtTree ℕ
conditional t = If at (TruthWord at true) (doing t) NoElse

abbrev otherwise : StmtTree ℕ → StmtTree ℕ
otherwise t = If at (TruthWord at true) (doing assigned) (ElseDo at t)

abbrev variables : VariablesTree ℕ
variables = OneVariable name

abbrev range : ItemTree ℕ
range = RangeItem one at Closed one NoStride

abbrev while_so : StmtTree ℕ → StmtTree ℕ
while_so t = Headed WhileWord at (TruthWord at true) (doing t)

abbrev for_each : StmtTree ℕ → StmtTree ℕ
for_each t = Loop ForWord at variables at range None (doing t)

abbrev for_all : StmtTree ℕ → StmtTree ℕ
for_all t = Loop ForallWord at variables at range None (doing t)

abbrev task_each : StmtTree ℕ → StmtTree ℕ
task_each t = Loop CoforallWord at variables at range None (doing t)

-- OUTSIDE
print_outside : MayStand Outside print
print_outside = tt

print_in_a_block : MayStand Outside (block print)
print_in_a_block = (tt, tt)

print_in_loops : MayStand Outside (while_so (for_each (conditional print)))
print_in_loops = (tt, (tt, tt))

print_behind_a_forall : AllMayStand Outside (Then (for_all assigned) (Then print NoStmts))
print_behind_a_forall = ((tt, tt), (tt, tt))

forall_in_a_for : MayStand Outside (for_each (for_all assigned))
forall_in_a_for = (tt, (tt, tt))

-- IN A FORALL'S BODY
print_in_a_forall : MayStand Outside (for_all print) → ⊥
print_in_a_forall h = h.1

forall_in_a_forall : MayStand Outside (for_all (for_all assigned)) → ⊥
forall_in_a_forall h = h.1.0

coforall_in_a_forall : MayStand Outside (for_all (task_each assigned)) → ⊥
coforall_in_a_forall h = h.1.0

if_in_a_forall : MayStand Outside (for_all (conditional assigned))
if_in_a_forall = (tt, (tt, tt))

print_in_an_else_in_a_forall : MayStand Outside (for_all (otherwise print)) → ⊥
print_in_an_else_in_a_forall h = h.1.1

print_in_a_for_in_a_forall : MayStand Outside (for_all (for_each print)) → ⊥
print_in_a_for_in_a_forall h = h.1.1

-- the second of two statements counts too
print_behind_another_in_a_forall : MayStand Outside (Loop ForallWord at variables at range None (BlockBody at (Then assigned (Then print NoStmts)) at)) → ⊥
print_behind_another_in_a_forall h = h.1.1.0

-- a task is as a turn, and `on` goes on where it stands
print_in_a_task : MayStand Outside (task_each print) → ⊥
print_in_a_task h = h.1

print_on_a_locale_in_a_turn : MayStand InTurn (Headed OnWord at one (doing print)) → ⊥
print_on_a_locale_in_a_turn h = h

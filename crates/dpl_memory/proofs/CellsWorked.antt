-- Cells, the number of `here`, and what is to come, in a memory.
-- Rows: an operation outside tasks and in one, the cells at a coforall and what its history leaves of them, and another locale; which cells
-- are in sight; sample programs, which write from a memory what they mean; and right sides that read a cell, and fit or don't.
use Rattle.std.proofs.Common.{◌≡◌, ℕ, List, [], ◌∷◌, pos, true, refl, subst, ◌∙◌, rules, Some}
use Rattle.std.specs.Prelude.{codes, bytes_eq, if◌then◌else◌}
use Rattle.std.specs.Int.{int_wrap}
use Rattle.std.specs.Fmt.{digits}
use Rattle.dpl_sets.specs.Members.{members}
use Rattle.dpl_sets.specs.Indices.{indices}
use Rattle.dpl_history.specs.declared.cell.CellState.{CellState}
use Rattle.dpl_history.specs.declared.cell.CellState.TheVariants.{Empty, Full}
use Rattle.dpl_history.specs.declared.cell.CellOp.TheVariants.{ReadFE, ReadFF, WriteEF}
use Rattle.dpl_history.specs.declared.cell.Reply.TheVariants.{Value, Done}
use Rattle.dpl_history.specs.declared.history.Event.{Event}
use Rattle.dpl_history.specs.Histories.{event}
use Rattle.dpl_language.specs.Environment.{CellOf, Replied, Unanswered}
use Rattle.dpl_language.specs.Tree.{Kind, IntKind, BoolKind, Number, Named, Postfixed, Post, NoPosts, Dotted, CellRead, ReadFFWord, ItemTree, One, RangeItem, Closed, NoStride, ProgramTree}
use Rattle.dpl_language.specs.Values.{Truth}
use Rattle.dpl_language.specs.Names.{Text}
use Rattle.dpl_language.specs.Program.{written}
use Rattle.dpl_language.proofs.Says.{limits, writes, one_history}
use Rattle.dpl_language.proofs.Spelled.{at}
use Rattle.dpl_language.proofs.TasksSamples.{here_again, locale_tasks, no_reply_left, three_values_sent, truth_cell, two_coforalls}
use Rattle.dpl_agreement.specs.Renamed.{renamed_program}
use Rattle.dpl_agreement.specs.Scopes.{PlainForm, CellForm, fits_all}
use Rattle.dpl_agreement.proofs.ProgramsAlike.{run_from}
use Rattle.dpl_words.specs.Words.{IntLeaf, LocaleLeaf}
use Rattle.dpl_memory.specs.Memory.{VariableKind, PlainKind, ArrayKind, CellKind, Variable, variable, int_leaf, truth_leaf, Memory, with_cell, in_memory}
use Rattle.dpl_memory.specs.Resolved.{Bound, Sighted, Sight, Seen, first_seen, sighted, no_shape, without_frame, cells_in, before as cells_before, IsElement, IsOf, GivesReply, Suits, SuitsElement, Start, resolving, first_memory}
use Rattle.dpl_memory.proofs.MemoryAgrees.{written-memory}
use Rattle.dpl_memory.proofs.Suiting.{Suits-range_item, SuitsTurns-ranges}

-- task 0 empties the first cell, and task 1 fills the second one with what was in it
abbrev handed_over : List Event
handed_over = event 0 0 ReadFE (Value (pos 5)) ∷ event 1 1 (WriteEF (pos 5)) Done ∷ []

abbrev holding : List CellState → List (List Event) → Memory
holding cs histories =
    record (first_memory (record { slots = 4; cells = 4; texts = []; words = []; histories = Some histories })) { cells = cs }

-- in slot 0 what a scope left, in slot 1 a cell that is full, in slot 3 an empty one; and one coforall is to come
abbrev before : Memory
before = holding (Full (pos 9) ∷ Full (pos 5) ∷ Empty ∷ Empty ∷ []) (handed_over ∷ [])

-- a cell, with the slots of those before it; and the variable of a coforall, with those of the cells in sight
abbrev cell_in : ℕ → List ℕ → Variable
cell_in slot cells = record { kind = CellKind IntKind; slot = slot; along = []; cells = cells }

abbrev task_in : ℕ → List ℕ → Variable
task_in slot cells = record { kind = PlainKind IntLeaf; slot = slot; along = []; cells = cells }

-- the first cell has the number 0, and the second one 1, since a cell stands before it
emptied : in_memory.call (cell_in 1 []) ReadFE before ≡ Replied 0 (Value (pos 5)) (with_cell 1 Empty before)
emptied = refl

waits : in_memory.call (cell_in 3 (1 ∷ [])) ReadFE before ≡ Unanswered 1
waits = refl

-- in a task the replies that are left answer, whatever the cell is, and leave it as it is; where none is left an operation waits
answered : in_memory.call (cell_in 3 (1 ∷ [])) ReadFE (in_memory.begin (Value (pos 7) ∷ Done ∷ []) before) ≡ Replied 1 (Value (pos 7)) (in_memory.begin (Done ∷ []) before)
answered = refl

none_left : in_memory.call (cell_in 1 []) ReadFE (in_memory.begin [] before) ≡ Unanswered 0
none_left = refl

-- a cell that is declared
filled : in_memory.declare (cell_in 2 []) (CellOf IntKind (Full (pos 3))) before ≡ with_cell 2 (Full (pos 3)) before
filled = refl

-- at a coforall stand the cells in sight, and not what a scope left
in_sight : in_memory.cells (task_in 2 (1 ∷ 3 ∷ [])) before ≡ Full (pos 5) ∷ Empty ∷ []
in_sight = refl

next_one : in_memory.history before ≡ handed_over
next_one = refl

-- behind it they are what its history leaves, and it is no more to come; what stands in other slots is as it was
behind : in_memory.settle (task_in 2 (1 ∷ 3 ∷ [])) handed_over before ≡ holding (Full (pos 9) ∷ Empty ∷ Empty ∷ Full (pos 5) ∷ []) []
behind = refl

no_more : in_memory.history (in_memory.settle (task_in 2 (1 ∷ 3 ∷ [])) handed_over before) ≡ []
no_more = refl

-- a program starts on the locale 0
first_here : in_memory.here before ≡ pos 0
first_here = refl

there : in_memory.here (in_memory.move (pos 2) before) ≡ pos 2
there = refl

-- WHICH CELLS ARE IN SIGHT: in slot 0 a cell, in slot 1 an int, and in the block inside in slot 2 another cell of the first one's name
abbrev outside : List Sighted
outside =
    sighted (record { text = codes "c"; variable = cell_in 0 []; shape = no_shape }) CellForm
    ∷ sighted (record { text = codes "n"; variable = int_leaf 1; shape = no_shape }) PlainForm ∷ []

abbrev inside : Sight
inside = (sighted (record { text = codes "c"; variable = cell_in 2 (0 ∷ []); shape = no_shape }) CellForm ∷ []) ∷ outside ∷ []

-- a hidden cell counts, so that the number of the inner one is 1
hidden_too : cells_in inside ≡ 0 ∷ 2 ∷ []
hidden_too = refl

one_before : cells_before 2 (cells_in inside) ≡ 0 ∷ []
one_before = refl

-- and a cell of a scope that was left doesn't
left_behind : cells_in (without_frame inside) ≡ 0 ∷ []
left_behind = refl

-- SAMPLE PROGRAMS, each name by its text
abbrev named_in : List (Text × Variable) → Text → Variable
named_in [] x = int_leaf 0
named_in (p ∷ ps) x = if bytes_eq x p.0 then p.1 else named_in ps x

abbrev start : List (List Event) → Start
start histories = record { slots = 6; cells = 6; texts = []; words = []; histories = Some histories }

abbrev ran : ℕ → List (List Event) → List (Text × Variable) → ProgramTree Text → List ℕ
ran locales histories names t = written (run_from (limits 16777216 locales) in_memory (renamed_program (named_in names) t) (first_memory (start histories)))

-- var c: sync int; var t: sync int; coforall k in 0..1 { if k == 0 { for i in 1..3 do c.writeEF(i); } else { var s: int; for i in 1..3 do s += c.readFE(); t.writeEF(s); } } writeln(t.readFE());
three_values_sent_writes :
    ran 1 (one_history ∷ []) ((codes "c", cell_in 0 []) ∷ (codes "t", cell_in 1 (0 ∷ [])) ∷ (codes "k", task_in 2 (0 ∷ 1 ∷ [])) ∷ (codes "i", int_leaf 3) ∷ (codes "s", int_leaf 4) ∷ []) three_values_sent
    ≡ codes "6\n"
unfolding int_wrap digits members indices
three_values_sent_writes = refl

-- var c: sync bool = true; const b = c.readFF(); writeln(b, c.readFE());
truth_cell_writes : ran 1 [] ((codes "c", variable (CellKind BoolKind) 0) ∷ (codes "b", truth_leaf 1) ∷ []) truth_cell ≡ codes "truetrue\n"
unfolding int_wrap digits members indices
truth_cell_writes = refl

-- var c: sync int; coforall k in 1..1 do c.writeEF(k); coforall k in 2..3 { if k == 2 then c.readFE(); else c.writeEF(7); } writeln(c.readFF(), c.readFE());
two_coforalls_writes :
    ran 1 ((event 0 0 (WriteEF (pos 1)) Done ∷ []) ∷ (event 0 0 ReadFE (Value (pos 1)) ∷ event 1 0 (WriteEF (pos 7)) Done ∷ []) ∷ [])
    ((codes "c", cell_in 0 []) ∷ (codes "k", task_in 1 (0 ∷ [])) ∷ []) two_coforalls
    ≡ codes "77\n"
unfolding int_wrap digits members indices
two_coforalls_writes = refl

-- var c: sync int; coforall k in 0..0 do c.writeEF(k);
no_reply_left_writes : ran 1 [] ((codes "c", cell_in 0 []) ∷ (codes "k", task_in 1 (0 ∷ [])) ∷ []) no_reply_left ≡ codes "! F7 at 1:40 in task 0\n"
unfolding int_wrap digits members indices
no_reply_left_writes = refl

-- on Locales[1] do write(here.id); writeln(here.id);
here_again_writes : ran 2 [] [] here_again ≡ codes "10\n"
unfolding int_wrap digits members indices
here_again_writes = refl

-- var c: sync int = 0; coforall loc in Locales do on loc { var v: int; v = c.readFE(); c.writeEF(v + here.id); } writeln(c.readFE(), here.id);
locale_tasks_writes :
    ran 2 ((event 1 0 ReadFE (Value (pos 0)) ∷ event 1 0 (WriteEF (pos 1)) Done ∷ event 0 0 ReadFE (Value (pos 1)) ∷ event 0 0 (WriteEF (pos 1)) Done ∷ []) ∷ [])
    ((codes "c", cell_in 0 []) ∷ (codes "loc", record { kind = PlainKind LocaleLeaf; slot = 1; along = []; cells = 0 ∷ [] }) ∷ (codes "v", int_leaf 2) ∷ []) locale_tasks
    ≡ codes "10\n"
unfolding int_wrap digits members indices
locale_tasks_writes = refl

-- ONE OF THEM FITS: var c: sync int; coforall k in 0..0 do c.writeEF(k);
abbrev resolved : Text → Bound
resolved x = record { text = x; variable = named_in ((codes "c", cell_in 0 []) ∷ (codes "k", task_in 1 (0 ∷ [])) ∷ []) x; shape = no_shape }

abbrev no_reply_left_resolved : ProgramTree Bound
no_reply_left_resolved = renamed_program resolved no_reply_left

abbrev with_c : Seen
with_c = record { frames = (sighted (resolved (codes "c")) CellForm ∷ []) ∷ []; intents = [] }

no_reply_left_fits : fits_all (resolving (start [])) no_reply_left_resolved.stmts first_seen
no_reply_left_fits = ( -- var c: sync int;
  (tt, tt, (record { unused = search rules; within = search rules; along = tt }, (IntKind, refl), refl), tt, (λ c. refl), (tt, tt)),
  ( -- coforall k in 0..0 do c.writeEF(k);
    (
      (tt, tt, tt),
      SuitsTurns-ranges (RangeItem (Number (at 1 32) (pos 0)) (at 1 33) Closed (Number (at 1 35) (pos 0)) NoStride) no_shape no_shape with_c
          (Suits-range_item no_shape with_c (Number (at 1 32) (pos 0)) (at 1 33) Closed (Number (at 1 35) (pos 0))),
      (refl, refl, tt),
      (record { unused = search rules; within = search rules; along = tt }, λ e. e),
      (refl, refl, (refl, (IntKind, refl), refl, refl)),
    ),
    tt,
  ),
)

-- so it means what it writes from a memory
no_reply_left_means : writes no_reply_left ≡ codes "! F7 at 1:40 in task 0\n"
no_reply_left_means = written-memory (start []) (limits 16777216 1) no_reply_left_resolved [] refl no_reply_left_fits ∙ no_reply_left_writes

-- ANOTHER FITS, whose right side reads a cell: var c: sync bool = true; const b = c.readFF(); writeln(b, c.readFE());
abbrev with_truths : Text → Bound
with_truths x = record { text = x; variable = named_in ((codes "c", variable (CellKind BoolKind) 0) ∷ (codes "b", truth_leaf 1) ∷ []) x; shape = no_shape }

abbrev truth_cell_resolved : ProgramTree Bound
truth_cell_resolved = renamed_program with_truths truth_cell

truth_cell_fits : fits_all (resolving (start [])) truth_cell_resolved.stmts first_seen
truth_cell_fits = ( -- var c: sync bool = true;
  (tt, (tt, tt), (record { unused = search rules; within = search rules; along = tt }, (BoolKind, refl), refl), tt, (λ c. refl), (tt, tt)),
  ( -- const b = c.readFF();
    (
      tt,
      ((refl, (tt, tt)), (refl, (refl, (BoolKind, refl), refl, refl))),
      (record { unused = search rules; within = search rules; along = tt }, λ e. e),
      tt,
      (BoolKind, refl, λ v h. (h, λ p. tt)),
      (tt, tt),
    ),
    ( -- writeln(b, c.readFE());
      ((refl, tt), λ t. refl, (((refl, (tt, tt)), (refl, (refl, (BoolKind, refl), refl, refl))), tt, tt)),
      tt,
    ),
  ),
)

truth_cell_means : writes truth_cell ≡ codes "truetrue\n"
truth_cell_means = written-memory (start []) (limits 16777216 1) truth_cell_resolved [] refl truth_cell_fits ∙ truth_cell_writes

-- WHAT DOESN'T FIT: c.readFF() of a truth value for an int, be it a variable's or an element's
abbrev truth_read : ItemTree Bound
truth_read = One (Postfixed (Named (record { at = at 1 1; name = with_truths (codes "c") })) (Post (Dotted (at 1 2) (CellRead (at 1 3) ReadFFWord (at 1 9) (at 1 10))) NoPosts))

truth_for_an_int : (kind : VariableKind) → (IsOf kind (Truth true) → ⊥) → GivesReply kind no_shape (record { name = record { at = at 1 1; name = with_truths (codes "c") }; op = ReadFF }) → ⊥
truth_for_an_int kind none f = none (f.2 (Truth true) (subst (λ k. IsElement k (Truth true)) (kind_same f.0 f.1) (true, refl))).0
  where
    kind_same : (k : Kind) → CellKind BoolKind ≡ CellKind k → BoolKind ≡ k
    kind_same k e = cc

truth_is_no_int : Suits (PlainKind IntLeaf) no_shape truth_read first_seen → ⊥
truth_is_no_int = truth_for_an_int (PlainKind IntLeaf) (λ h. cc)

truth_is_no_element : SuitsElement (ArrayKind IntKind) no_shape truth_read first_seen → ⊥
truth_is_no_element = truth_for_an_int (ArrayKind IntKind) (λ h. cc)

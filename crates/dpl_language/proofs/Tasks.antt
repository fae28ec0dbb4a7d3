-- Cells, tasks and locales: what sample programs write, given the histories of their coforalls.
-- Each row is computed from the definition alone; the program stands above it.
use Rattle.std.proofs.Common.{◌≡◌, refl}
use Rattle.std.specs.Prelude.{codes, [], ◌∷◌, pos, negsuc}
use Rattle.std.specs.Int.{int_wrap}
use Rattle.std.specs.Fmt.{digits}
use Rattle.dpl_sets.specs.Members.{members}
use Rattle.dpl_sets.specs.Indices.{indices}
use Rattle.dpl_history.specs.declared.cell.CellOp.TheVariants.{ReadFE, WriteEF, WriteXF}
use Rattle.dpl_history.specs.declared.cell.Reply.TheVariants.{Value as Given, Done as NoValue}
use Rattle.dpl_history.specs.Histories.{event}
use Rattle.dpl_language.proofs.Says.{limits, says, writes, one_history}
use Rattle.dpl_language.proofs.TasksSamples.{as_many_tasks_as_may_be, below_the_locales, each_waits, false_in_a_cell, fault_in_a_task, full_already, here_again, hidden_cell, locale_tasks, no_budget_of_tasks, no_reply_left, no_tasks, operations, read_before_the_fault, three_values_sent, cell_read_while_empty, task_that_waits, each_locale, locale_outside, too_many_tasks, truth_cell, two_coforalls}

-- var c: sync int; var t: sync int; coforall k in 0..1 { if k == 0 { for i in 1..3 do c.writeEF(i); } else { var s: int; for i in 1..3 do s += c.readFE(); t.writeEF(s); } } writeln(t.readFE());
three_values_sent_writes : says three_values_sent [] (limits 16777216 1) (one_history ∷ []) ≡ codes "6\n"
unfolding int_wrap digits members indices
three_values_sent_writes = refl

-- var c: sync int; writeln(c.readFE());
cell_read_while_empty_writes : writes cell_read_while_empty ≡ codes "! F7 at 1:26\n"
unfolding int_wrap digits members indices
cell_read_while_empty_writes = refl

-- var c: sync int; coforall k in 0..0 do c.writeFF(k);
task_that_waits_writes : writes task_that_waits ≡ codes "! F7 at 1:40 in task 0\n"
unfolding int_wrap digits members indices
task_that_waits_writes = refl

-- for loc in Locales do on loc do write(here.id, " "); writeln(numLocales);
each_locale_writes : says each_locale [] (limits 16777216 3) [] ≡ codes "0 1 2 3\n"
unfolding int_wrap digits members indices
each_locale_writes = refl

-- on Locales[numLocales] do writeln(1);
locale_outside_writes : writes locale_outside ≡ codes "! F6 at 1:4\n"
unfolding int_wrap digits members indices
locale_outside_writes = refl

-- writeln(Locales[-1].id);
below_the_locales_writes : writes below_the_locales ≡ codes "! F6 at 1:9\n"
unfolding int_wrap digits members indices
below_the_locales_writes = refl

-- on Locales[1] do write(here.id); writeln(here.id);
here_again_writes : says here_again [] (limits 16777216 2) [] ≡ codes "10\n"
unfolding int_wrap digits members indices
here_again_writes = refl

-- var c: sync int = 1; c.writeFF(2); writeln(c.readFF()); c.reset(); c.writeXF(3); c.writeXF(4); writeln(c.readFE());
operations_writes : writes operations ≡ codes "2\n4\n"
unfolding int_wrap digits members indices
operations_writes = refl

-- var c: sync int = 1; c.writeEF(2);
full_already_writes : writes full_already ≡ codes "! F7 at 1:22\n"
unfolding int_wrap digits members indices
full_already_writes = refl

-- var c: sync bool = true; const b = c.readFF(); writeln(b, c.readFE());
truth_cell_writes : writes truth_cell ≡ codes "truetrue\n"
unfolding int_wrap digits members indices
truth_cell_writes = refl

-- var c: sync int = 5; write("a", c.readFE(), 1/0);
read_before_the_fault_writes : writes read_before_the_fault ≡ codes "! F2 at 1:46\n"
unfolding int_wrap digits members indices
read_before_the_fault_writes = refl

-- var c: sync bool = false; writeln(c.readFE());
false_in_a_cell_writes : writes false_in_a_cell ≡ codes "false\n"
unfolding int_wrap digits members indices
false_in_a_cell_writes = refl

-- var c: sync int; coforall k in 0..0 do c.writeEF(k);
no_reply_left_writes : writes no_reply_left ≡ codes "! F7 at 1:40 in task 0\n"
unfolding int_wrap digits members indices
no_reply_left_writes = refl

-- coforall k in 1..0 do ; writeln(1);
no_tasks_writes : writes no_tasks ≡ codes "1\n"
unfolding int_wrap digits members indices
no_tasks_writes = refl

-- coforall k in 1..65 do ;
too_many_tasks_writes : writes too_many_tasks ≡ codes "! F3 at 1:1\n"
unfolding int_wrap digits members indices
too_many_tasks_writes = refl

-- coforall k in 1..64 do ; writeln(1);
as_many_tasks_as_may_be_writes : writes as_many_tasks_as_may_be ≡ codes "1\n"
unfolding int_wrap digits members indices
as_many_tasks_as_may_be_writes = refl

-- coforall k in 1..4 do ; writeln(1);
no_budget_of_tasks_writes : says no_budget_of_tasks [] (limits 3 1) [] ≡ codes "1\n"
unfolding int_wrap digits members indices
no_budget_of_tasks_writes = refl

-- var c: sync int; coforall k in 1..1 do c.writeEF(k); coforall k in 2..3 { if k == 2 then c.readFE(); else c.writeEF(7); } writeln(c.readFF(), c.readFE());
two_coforalls_writes :
    says two_coforalls [] (limits 16777216 1) ((event 0 0 (WriteEF (pos 1)) NoValue ∷ []) ∷ (event 0 0 ReadFE (Given (pos 1)) ∷ event 1 0 (WriteEF (pos 7)) NoValue ∷ []) ∷ [])
    ≡ codes "77\n"
unfolding int_wrap digits members indices
two_coforalls_writes = refl

-- var c: sync int; coforall k in 1..1 do c.writeEF(k); coforall k in 2..3 { if k == 2 then c.readFE(); else c.writeEF(7); } writeln(c.readFF(), c.readFE());
one_too_few_writes :
    says two_coforalls [] (limits 16777216 1) ((event 0 0 (WriteEF (pos 1)) NoValue ∷ []) ∷ (event 0 0 ReadFE (Given (pos 1)) ∷ []) ∷ [])
    ≡ codes "! F7 at 1:107 in task 1\n"
unfolding int_wrap digits members indices
one_too_few_writes = refl

-- var c: sync int = 1; { var c: sync int; coforall k in 0..0 do c.writeEF(5); writeln(c.readFE()); } writeln(c.readFE());
hidden_cell_writes :
    says hidden_cell [] (limits 16777216 1) ((event 0 1 (WriteEF (pos 5)) NoValue ∷ []) ∷ [])
    ≡ codes "5\n1\n"
unfolding int_wrap digits members indices
hidden_cell_writes = refl

-- var c: sync int = 0; coforall loc in Locales do on loc { var v: int; v = c.readFE(); c.writeEF(v + here.id); } writeln(c.readFE(), here.id);
locale_tasks_writes :
    says locale_tasks [] (limits 16777216 2) ((event 1 0 ReadFE (Given (pos 0)) ∷ event 1 0 (WriteEF (pos 1)) NoValue ∷ event 0 0 ReadFE (Given (pos 1)) ∷ event 0 0 (WriteEF (pos 1)) NoValue ∷ []) ∷ [])
    ≡ codes "10\n"
unfolding int_wrap digits members indices
locale_tasks_writes = refl

-- var c: sync int; coforall k in 0..3 { const q = 6 / ((k - 1) * (k - 3)); c.writeXF(q); }
fault_in_a_task_writes :
    says fault_in_a_task [] (limits 16777216 1) ((event 2 0 (WriteXF (negsuc 5)) NoValue ∷ event 0 0 (WriteXF (pos 2)) NoValue ∷ []) ∷ [])
    ≡ codes "! F2 at 1:51 in task 1\n"
unfolding int_wrap digits members indices
fault_in_a_task_writes = refl

-- var a: sync int; var b: sync int; coforall k in 0..1 { if k == 0 { const x = a.readFE(); b.writeEF(x); } else { const y = b.readFE(); a.writeEF(y); } }
each_waits_writes : writes each_waits ≡ codes "! F7 at 1:78 in task 0\n"
unfolding int_wrap digits members indices
each_waits_writes = refl

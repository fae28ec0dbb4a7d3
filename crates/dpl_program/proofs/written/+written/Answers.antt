-- What a statement writes first, by its form.
use Rattle.std.proofs.Common.{ℕ, Option, sym, ap, ◌∙◌}
use Rattle.std.specs.Option.{option_or}
use Rattle.dpl_nodes.specs.declared.step.Step.{Step}
use Rattle.dpl_standing.specs.Standing.{InTurn}
use Rattle.dpl_readings.specs.Readings.{step_in, else_in}
use Rattle.dpl_readings.specs.Written.{written_by, written_else}
use Rattle.dpl_readings.proofs.Views.{block_in, if_in, headed_in, for_in, for_each_in}
use Rattle.dpl_program.proofs.written.+written.Goals as goal

abbrev of_step : Step → Option ℕ
of_step s = written_by (step_in InTurn s)

pub written_by-returns-in-Block : goal.written_by-returns-in-Block
written_by-returns-in-Block t c = c.written.ensures ∙ sym (ap of_step c.in-Block.is ∙ ap written_by (block_in InTurn c.in-Block.body))

pub written_by-returns-in-Some : goal.written_by-returns-in-Some
written_by-returns-in-Some t c =
    let i = c.in-If in
    sym
    (ap of_step i.is ∙ ap written_by (if_in InTurn i.condition i.body i.otherwise)
    ∙ ap (λ o. option_or o (written_else (else_in InTurn i.otherwise))) (sym c.written-in-If.ensures ∙ c.in-Some.is))

pub written_by-returns-in-None : goal.written_by-returns-in-None
written_by-returns-in-None t c =
    let i = c.in-If in
    c.written_else.ensures
    ∙ sym
    (ap of_step i.is ∙ ap written_by (if_in InTurn i.condition i.body i.otherwise)
    ∙ ap (λ o. option_or o (written_else (else_in InTurn i.otherwise))) (sym c.written-in-If.ensures ∙ c.in-None.is))

pub written_by-returns-in-Headed : goal.written_by-returns-in-Headed
written_by-returns-in-Headed t c =
    c.written-in-Headed.ensures ∙ sym (ap of_step c.in-Headed.is ∙ ap written_by (headed_in InTurn c.in-Headed.word c.in-Headed.at c.in-Headed.condition c.in-Headed.body))

pub written_by-returns-in-For : goal.written_by-returns-in-For
written_by-returns-in-For t c =
    c.written-in-For.ensures ∙ sym (ap of_step c.in-For.is ∙ ap written_by (for_in InTurn c.in-For.at c.in-For.slot c.in-For.over c.in-For.body))

pub written_by-returns-in-ForEach : goal.written_by-returns-in-ForEach
written_by-returns-in-ForEach t c =
    c.written-in-ForEach.ensures ∙ sym (ap of_step c.in-ForEach.is ∙ ap written_by (for_each_in InTurn c.in-ForEach.at c.in-ForEach.names c.in-ForEach.over c.in-ForEach.body))

-- A statement that may stand where it stands is read as the plain statement that it stands for.
-- Each lemma has the reading on its left side.
use Rattle.std.proofs.Common.{◌≡◌, List, [], ◌∷◌, None, refl, ap, ◌∙◌}
use Rattle.dpl_language.specs.Tree.{One, ForWord, StmtTree, Block, If, Headed, Loop, Then, ElseDo}
use Rattle.dpl_lowered.specs.Shapes.{nowhere}
use Rattle.dpl_memory.specs.Memory.{Variable}
use Rattle.dpl_standing.specs.Standing.{Standing, Outside, InTurn, IsOutside, MayStand, AllMayStand, ElseMayStand}
use Rattle.dpl_nodes.specs.declared.step.Step.{Step, Write as WriteStep, Block', If', Headed', For', Forall', ForEach', ForallEach', Row_of-Step, end_of-Step, more_of-Step}
use Rattle.dpl_nodes.specs.declared.step.Else.{Else as ElseNode, Absent, Do'}
use Rattle.dpl_nodes.specs.Typed.{truth_view, range_item, domain_view}
use Rattle.dpl_nodes.specs.Steps.{variable_in, names_view, written_as, step_word, listed, step_view, else_view, steps_view, steps_of}
use Rattle.dpl_readings.specs.Readings.{outside, forall_of, step_in, else_in, row_in, steps_in}

outside-itself : (w : Standing) (t : StmtTree Variable) → IsOutside w → outside w t ≡ t
outside-itself Outside t is = refl
outside-itself InTurn t is = absurd is

mutual
  step_in-view : (w : Standing) (s : Step) → MayStand w (step_view s) → step_in w s ≡ step_view s
  step_in-view w (WriteStep ends_line arguments) may = outside-itself w (written_as ends_line arguments.now) may
  step_in-view w (Block' p shape row) may = ap (λ ts. Block nowhere ts nowhere) (row_in-view w row may)
  step_in-view w (If' condition p shape row otherwise) may =
      ap (λ ts. If nowhere (truth_view condition.now) (listed ts) (else_in w otherwise)) (row_in-view w row may.0)
      ∙ ap (If nowhere (truth_view condition.now) (listed (steps_view row))) (else_in-view w otherwise may.1)
  step_in-view w (Headed' word at condition p shape row) may = ap (λ ts. Headed (step_word word) at.now (truth_view condition.now) (listed ts)) (row_in-view w row may)
  step_in-view w (For' at slot over p shape row) may = ap (λ ts. Loop ForWord at.now (variable_in slot) nowhere (range_item over.now) None (listed ts)) (row_in-view w row may.1)
  step_in-view w (Forall' at slot over changed p shape row) may =
      outside-itself w (forall_of at.now (variable_in slot) (range_item over.now) changed.now.reduced.now (row_in InTurn row)) may.0
      ∙ ap (forall_of at.now (variable_in slot) (range_item over.now) changed.now.reduced.now) (row_in-view InTurn row may.1)
  step_in-view w (ForEach' at names over p shape row) may = ap (λ ts. Loop ForWord at.now (names_view names) nowhere (One (domain_view over.now)) None (listed ts)) (row_in-view w row may.1)
  step_in-view w (ForallEach' at names over changed p shape row) may =
      outside-itself w (forall_of at.now (names_view names) (One (domain_view over.now)) changed.now.reduced.now (row_in InTurn row)) may.0
      ∙ ap (forall_of at.now (names_view names) (One (domain_view over.now)) changed.now.reduced.now) (row_in-view InTurn row may.1)
  step_in-view w _ may = refl

  else_in-view : (w : Standing) (o : ElseNode) → ElseMayStand w (else_view o) → else_in w o ≡ else_view o
  else_in-view w Absent may = refl
  else_in-view w (Do' p s) may = ap (ElseDo nowhere) (step_in-view w s may)

  row_in-view : (w : Standing) {m : _} (row : Row_of-Step m) → AllMayStand w (steps_view row) → row_in w row ≡ steps_view row
  row_in-view w end_of-Step may = refl
  row_in-view w (more_of-Step s row) may =
      ap (λ t. Then t (row_in w row)) (step_in-view w s may.0) ∙ ap (Then (step_view s)) (row_in-view w row may.1)

pub steps_in-of : (w : Standing) (ss : List Step) → AllMayStand w (steps_of ss) → steps_in w ss ≡ steps_of ss
steps_in-of w [] may = refl
steps_in-of w (s ∷ ss) may = ap (λ t. Then t (steps_in w ss)) (step_in-view w s may.0) ∙ ap (Then (step_view s)) (steps_in-of w ss may.1)

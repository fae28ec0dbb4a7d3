-- What a typed statement is read as where it stands. In a turn a print and a forall are nothing, since none stands there; all else is
-- the plain statement that it stands for.
use Rattle.std.specs.Prelude.{List, [], ◌∷◌, map, None}
use Rattle.dpl_syntax.specs.declared.place.Place.{Place}
use Rattle.dpl_language.specs.Tree.{ItemTree, One, VariablesTree, ForWord, ForallWord, StmtTree, Nothing, Block, If, Headed, Loop, Stmts, NoStmts, Then, Else, NoElse, ElseDo}
use Rattle.dpl_lowered.specs.Shapes.{nowhere}
use Rattle.dpl_lowered.specs.LoweredStatements.{with_intents}
use Rattle.dpl_memory.specs.Memory.{Variable}
use Rattle.dpl_standing.specs.Standing.{Standing, Outside, InTurn}
use Rattle.dpl_nodes.specs.declared.step.Intent.{Intent}
use Rattle.dpl_nodes.specs.declared.step.Step.{Step, Nothing as NothingStep, Int as IntStep, DeclareRange, SetRange, Truth as TruthStep, DeclareDomain, SetDomain, DeclareArray, SetElement, SetArray, SetTruthArray, Write as WriteStep, Block', If', Headed', For', Forall', ForEach', ForallEach', Row_of-Step, end_of-Step, more_of-Step}
use Rattle.dpl_nodes.specs.declared.step.Else.{Else as ElseNode, Absent, Do'}
use Rattle.dpl_nodes.specs.Typed.{truth_view, range_item, domain_view}
use Rattle.dpl_nodes.specs.Steps.{variable_in, names_view, intent_view, written_as, step_word, listed, step_view}

-- what stands outside of foralls alone
abbrev pub outside : Standing → StmtTree Variable → StmtTree Variable
outside Outside t = t
outside InTurn t = Nothing nowhere

-- a forall with these reduce variables, by its body
abbrev pub forall_of : Place → VariablesTree Variable → ItemTree Variable → List Intent → Stmts Variable → StmtTree Variable
forall_of at xs item intents body = Loop ForallWord at xs nowhere item (with_intents (map intent_view intents)) (listed body)

abbrev mutual
  pub step_in : Standing → Step → StmtTree Variable
  step_in w NothingStep = step_view NothingStep
  step_in w (IntStep deed slot e) = step_view (IntStep deed slot e)
  step_in w (DeclareRange slot e) = step_view (DeclareRange slot e)
  step_in w (SetRange slot e) = step_view (SetRange slot e)
  step_in w (TruthStep target e) = step_view (TruthStep target e)
  step_in w (DeclareDomain slot beginning placing) = step_view (DeclareDomain slot beginning placing)
  step_in w (SetDomain x e) = step_view (SetDomain x e)
  step_in w (DeclareArray d) = step_view (DeclareArray d)
  step_in w (SetElement x t op at e) = step_view (SetElement x t op at e)
  step_in w (SetArray x op at e) = step_view (SetArray x op at e)
  step_in w (SetTruthArray x at e) = step_view (SetTruthArray x at e)
  step_in w (WriteStep ends_line arguments) = outside w (written_as ends_line arguments.now)
  step_in w (Block' p shape row) = Block nowhere (row_in w row) nowhere
  step_in w (If' condition p shape row otherwise) = If nowhere (truth_view condition.now) (listed (row_in w row)) (else_in w otherwise)
  step_in w (Headed' word at condition p shape row) = Headed (step_word word) at.now (truth_view condition.now) (listed (row_in w row))
  step_in w (For' at slot over p shape row) = Loop ForWord at.now (variable_in slot) nowhere (range_item over.now) None (listed (row_in w row))
  step_in w (Forall' at slot over changed p shape row) =
      outside w (forall_of at.now (variable_in slot) (range_item over.now) changed.now.reduced.now (row_in InTurn row))
  step_in w (ForEach' at names over p shape row) = Loop ForWord at.now (names_view names) nowhere (One (domain_view over.now)) None (listed (row_in w row))
  step_in w (ForallEach' at names over changed p shape row) =
      outside w (forall_of at.now (names_view names) (One (domain_view over.now)) changed.now.reduced.now (row_in InTurn row))

  pub else_in : Standing → ElseNode → Else Variable
  else_in w Absent = NoElse
  else_in w (Do' p s) = ElseDo nowhere (step_in w s)

  pub row_in : Standing → {m : _} → Row_of-Step m → Stmts Variable
  row_in w end_of-Step = NoStmts
  row_in w (more_of-Step s row) = Then (step_in w s) (row_in w row)

-- the same for a list of statements
abbrev pub steps_in : Standing → List Step → Stmts Variable
steps_in w [] = NoStmts
steps_in w (s ∷ ss) = Then (step_in w s) (steps_in w ss)

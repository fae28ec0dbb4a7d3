-- Statements that hold lists, by what code that walks them knows of them.
-- Each lemma has the node's view on its left side.
use Rattle.std.proofs.Common.{◌≡◌, ℕ, Bor, List, None, refl, ap, ◌∙◌}
use Rattle.dpl_syntax.specs.declared.place.Place.{Place}
use Rattle.dpl_language.specs.Tree.{One, Block, If, Headed, Loop, Then, ForWord}
use Rattle.dpl_lowered.specs.Shapes.{nowhere}
use Rattle.dpl_nodes.specs.declared.tree.BoolExpr.{BoolExpr}
use Rattle.dpl_nodes.specs.declared.tree.RangeExpr.{RangeExpr}
use Rattle.dpl_nodes.specs.declared.tree.DomainExpr.{DomainExpr}
use Rattle.dpl_nodes.specs.declared.step.Changed.{Changed}
use Rattle.dpl_nodes.specs.declared.step.Names.{Names}
use Rattle.dpl_nodes.specs.declared.step.StepWord.{StepWord}
use Rattle.dpl_nodes.specs.declared.step.Step.{Step, Block as BlockStep, If as IfStep, Headed as HeadedStep, For as ForStep, Forall as ForallStep, ForEach as ForEachStep, ForallEach as ForallEachStep, Row_of-Step, end_of-Step, more_of-Step, items-the_row-Step, items_hidden-the_row-Step-0}
use Rattle.dpl_nodes.specs.declared.step.Else.TheBlock.{hidden-the_row-Step-0}
use Rattle.dpl_standing.specs.Standing.{Standing, InTurn}
use Rattle.dpl_nodes.specs.declared.step.Else.{Else as ElseNode}
use Rattle.dpl_nodes.specs.Typed.{truth_view, range_item, domain_view}
use Rattle.dpl_nodes.specs.Steps.{step_word, listed, variable_in, names_view}
use Rattle.dpl_readings.specs.Readings.{outside, forall_of, step_in, else_in, row_in, steps_in}

module _ (w : Standing) where
  row_in-steps : {m : _} (row : Row_of-Step m) → row_in w row ≡ steps_in w (items-the_row-Step m row)
  row_in-steps end_of-Step = refl
  row_in-steps (more_of-Step s row) = ap (Then (step_in w s)) (row_in-steps row)

  row_in-row : (xs : List Step) → row_in w (hidden-the_row-Step-0 xs) ≡ steps_in w xs
  row_in-row xs = row_in-steps (hidden-the_row-Step-0 xs) ∙ ap (steps_in w) (items_hidden-the_row-Step-0 xs)

module _ (w : Standing) where
  pub block_in : (body : Bor (List Step)) → step_in w (BlockStep body) ≡ Block nowhere (steps_in w body.now) nowhere
  block_in body = ap (λ ts. Block nowhere ts nowhere) (row_in-row w body.now)

  pub if_in : (e : Bor BoolExpr) (body : Bor (List Step)) (otherwise : ElseNode) → step_in w (IfStep e body otherwise) ≡ If nowhere (truth_view e.now) (listed (steps_in w body.now)) (else_in w otherwise)
  if_in e body otherwise = ap (λ ts. If nowhere (truth_view e.now) (listed ts) (else_in w otherwise)) (row_in-row w body.now)

  pub headed_in : (word : StepWord) (at : Bor Place) (e : Bor BoolExpr) (body : Bor (List Step)) → step_in w (HeadedStep word at e body) ≡ Headed (step_word word) at.now (truth_view e.now) (listed (steps_in w body.now))
  headed_in word at e body = ap (λ ts. Headed (step_word word) at.now (truth_view e.now) (listed ts)) (row_in-row w body.now)

  pub for_in : (at : Bor Place) (slot : ℕ) (over : Bor RangeExpr) (body : Bor (List Step)) → step_in w (ForStep at slot over body) ≡ Loop ForWord at.now (variable_in slot) nowhere (range_item over.now) None (listed (steps_in w body.now))
  for_in at slot over body = ap (λ ts. Loop ForWord at.now (variable_in slot) nowhere (range_item over.now) None (listed ts)) (row_in-row w body.now)

  pub forall_line_in : (at : Bor Place) (slot : ℕ) (over : Bor RangeExpr) (changed : Bor Changed) (body : Bor (List Step))
      → step_in w (ForallStep at slot over changed body) ≡ outside w (forall_of at.now (variable_in slot) (range_item over.now) changed.now.reduced.now (steps_in InTurn body.now))
  forall_line_in at slot over changed body = ap (λ ts. outside w (forall_of at.now (variable_in slot) (range_item over.now) changed.now.reduced.now ts)) (row_in-row InTurn body.now)

  pub for_each_in : (at : Bor Place) (names : Names) (over : Bor DomainExpr) (body : Bor (List Step))
      → step_in w (ForEachStep at names over body) ≡ Loop ForWord at.now (names_view names) nowhere (One (domain_view over.now)) None (listed (steps_in w body.now))
  for_each_in at names over body = ap (λ ts. Loop ForWord at.now (names_view names) nowhere (One (domain_view over.now)) None (listed ts)) (row_in-row w body.now)

  pub forall_in : (at : Bor Place) (names : Names) (over : Bor DomainExpr) (changed : Bor Changed) (body : Bor (List Step))
      → step_in w (ForallEachStep at names over changed body) ≡ outside w (forall_of at.now (names_view names) (One (domain_view over.now)) changed.now.reduced.now (steps_in InTurn body.now))
  forall_in at names over changed body = ap (λ ts. outside w (forall_of at.now (names_view names) (One (domain_view over.now)) changed.now.reduced.now ts)) (row_in-row InTurn body.now)

-- Lists of statements in a typed tree: rows of nodes, whose plain statements are those of the list, one by one.
-- Each lemma has a node that holds a list on its left side.
use Rattle.std.proofs.Common.{◌≡◌, List, refl, ap, ◌∙◌}
use Rattle.dpl_nodes.specs.declared.step.Step.{Step, Row_of-Step, end_of-Step, more_of-Step, items-the_row-Step, items_hidden-the_row-Step-0}
use Rattle.dpl_nodes.specs.declared.step.Else.TheBlock.{hidden-the_row-Step-0}
use Rattle.dpl_language.specs.Tree.{Then}
use Rattle.dpl_nodes.specs.Steps.{step_view, steps_view, steps_of}

steps_row : {m : _} (row : Row_of-Step m) → steps_view row ≡ steps_of (items-the_row-Step m row)
steps_row end_of-Step = refl
steps_row (more_of-Step s row) = ap (Then (step_view s)) (steps_row row)

pub steps_view-row : (xs : List Step) → steps_view (hidden-the_row-Step-0 xs) ≡ steps_of xs
steps_view-row xs = steps_row (hidden-the_row-Step-0 xs) ∙ ap steps_of (items_hidden-the_row-Step-0 xs)

-- An array over `{1..0}` has no elements, whatever word they would be.
use Rattle.std.proofs.Common.{pos, map, ap, ◌∙◌}
use Rattle.dpl_language.specs.Ranges.{indices_in}
use Rattle.dpl_memory.specs.Memory.{whole_held}
use Rattle.dpl_outcome.proofs.Empty.{empty_array}
use Rattle.dpl_outcome.proofs.left.no_array.Goals as goal

pub returns-in-Ok : goal.returns-in-Ok
returns-in-Ok c = c.in-Ok.ensures.array ∙ ap (λ rs. whole_held rs (map (λ t. pos 0) (indices_in rs))) c.empty.ensures ∙ empty_array

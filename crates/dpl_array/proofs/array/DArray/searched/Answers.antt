-- The union of the pieces holds what they hold.
-- These are the answers to the goals of `DArray::searched`.
use Rattle.std.proofs.Common.{ap, sym, ◌∙◌}
use Rattle.dpl_array.specs.Elements.{value_at}
use Rattle.dpl_array.proofs.UnionLemmas.{union-at}
use Rattle.dpl_array.proofs.array.DArray.searched.Goals as goal

pub returns : goal.returns
returns g c = c.get.ensures ∙ sym (union-at c.self.inside.pieces c.self.invariant.1 c.args.index) ∙ ap (λ a. value_at c.args.index a.elements) c.self.view_is

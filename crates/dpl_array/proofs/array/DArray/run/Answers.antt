-- The union of the pieces holds what they hold.
-- These are the answers to the goals of `DArray::run`.
use Rattle.std.proofs.Common.{ap, sym, ◌∙◌}
use Rattle.dpl_array.specs.Elements.{behind, value_at}
use Rattle.dpl_array.proofs.UnionLemmas.{union-at}
use Rattle.dpl_array.proofs.array.DArray.run.Goals as goal

pub returns : goal.returns
returns g c k v some =
    ap (λ a. value_at (behind k c.args.row) a.elements) (sym c.self.view_is) ∙ union-at c.self.inside.pieces c.self.invariant.1 (behind k c.args.row) ∙ c.run.ensures k v some

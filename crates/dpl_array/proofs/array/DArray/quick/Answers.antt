-- The union of the pieces holds what they hold.
-- These are the answers to the goals of `DArray::quick`.
use Rattle.std.proofs.Common.{◌≡◌, ap, sym, ◌∙◌, Option, Some, None, IfSome}
use Rattle.dpl_array.specs.Arrays.{held_at}
use Rattle.dpl_array.specs.Elements.{value_at}
use Rattle.dpl_array.proofs.UnionLemmas.{union-at}
use Rattle.dpl_array.proofs.array.DArray.quick.Goals as goal

pub returns : goal.returns
returns g c = by c.guessed.result c.guessed.ensures
  where
    by : (o : Option g.row.T.Denot) → IfSome o (λ v. held_at c.self.inside.pieces (g.C.Coordinates.tuple c.args.at.now) ≡ Some v) → IfSome o (λ v. value_at (g.C.Coordinates.tuple c.args.at.now) c.args.self.now.elements ≡ Some v)
    by None held = tt
    by (Some v) held = ap (λ a. value_at (g.C.Coordinates.tuple c.args.at.now) a.elements) (sym c.self.view_is) ∙ union-at c.self.inside.pieces c.self.invariant.1 (g.C.Coordinates.tuple c.args.at.now) ∙ held

-- One piece is written in a row, and so is the union.
-- These are the answers to the goals of `DArray::set_run`.
use Rattle.std.proofs.Common.{is_some, subst, ap, sym, ◌∙◌}
use Rattle.dpl_array.specs.Elements.{behind, put_in_row, value_at}
use Rattle.dpl_array.specs.Arrays.{ArePieces, IsWhole, array_with, union}
use Rattle.dpl_array.proofs.PutLemmas.{put-formed, put-union, put-whole}
use Rattle.dpl_array.proofs.UnionLemmas.{union-at}
use Rattle.dpl_array.proofs.array.DArray.set_run.Goals as goal

pub invariant_of-self : goal.invariant_of-self
invariant_of-self g c =
    let ps = c.self.inside.pieces in (
      subst IsWhole (sym c.set_run.ensures.changes) (put-whole c.args.row c.args.values.now c.set_run.result ps c.self.invariant.1 c.self.invariant.0),
      subst ArePieces (sym c.set_run.ensures.changes) (put-formed c.args.row c.args.values.now c.set_run.result ps c.self.invariant.1),
    )

pub returns-clause-there : goal.returns-clause-there
returns-clause-there g c k below =
    ap (λ a. is_some (value_at (behind k c.args.row) a.elements)) (sym c.self.view_is)
    ∙ ap is_some (union-at c.self.inside.pieces c.self.invariant.1 (behind k c.args.row))
    ∙ c.set_run.ensures.there k below

pub returns-clause-changes : goal.returns-clause-changes
returns-clause-changes g c =
    ap union c.set_run.ensures.changes
    ∙ put-union c.args.row c.args.values.now c.set_run.result c.self.inside.pieces c.self.invariant.1
    ∙ ap (put_in_row array_with c.args.row c.args.values.now c.set_run.result) c.self.view_is

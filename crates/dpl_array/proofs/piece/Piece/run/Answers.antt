-- The values behind a place of the row are those of the indices there.
-- These are the answers to the goals of `Piece::run`.
use Rattle.std.proofs.Common.{◌≡◌, ◌≤◌, ◌+◌, ◌%◌, ◌^◌, arith, ap, sym, subst, ◌∙◌, Some, slice_get, slice_range}
use Rattle.dpl_array.specs.Elements.{behind, value_at}
use Rattle.dpl_array.specs.Rows.{row_of, side_by_side}
use Rattle.dpl_array.proofs.RunLemmas.{StandAt, run-values}
use Rattle.dpl_array.proofs.piece.Piece.run.Goals as goal

pub returns-in-Some : goal.returns-in-Some
returns-in-Some g c k v some =
    let p = c.self.inside in
    let place = c.run_in-place.result.0 in
    let size = c.run_in-place.result.1 in
    let runs : StandAt (row_of p.parts.items) (side_by_side place) size c.args.row = subst (λ ds. StandAt (row_of ds) (side_by_side place) size c.args.row) c.deref.ensures.value c.run_in-place.ensures in
    let end = (place + size) % 2 ^ 64 in
    let most : end ≤ place + size = omega arith in
    let is : c.in-Some.values.now ≡ slice_range p.values.items place end = c.in-Some.ensures.lookup.0.2 ∙ ap (λ vs. slice_range vs place end) c.deref-2.ensures.value in
    ap (λ q. value_at (behind k c.args.row) q.elements) (sym c.self.view_is)
    ∙ run-values p.domain p.map p.locale p.parts.items p.starts.items p.values.items c.self.invariant.0 place size c.args.row runs end most k v
    (subst (λ vs. slice_get vs k ≡ Some v) is some)

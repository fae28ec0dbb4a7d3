-- The elements of a part that is one domain, as a plane.
-- These are the answers to the goals of `Piece::plane`.
use Rattle.std.proofs.Common.{◌≤◌, ◌*◌, length, sym, subst}
use Rattle.dpl_array.specs.PieceFields.{piece_of}
use Rattle.dpl_array.specs.Windows.{IsPlaneOf}
use Rattle.dpl_array.proofs.WindowLemmas.{kept-plane, long-plane}
use Rattle.dpl_array.proofs.piece.Piece.plane.Goals as goal

pub invariant_of-result : goal.invariant_of-result
invariant_of-result g c =
    let p = c.self.inside in
    let rows = p.spans.grid.rows in
    let columns = p.spans.grid.columns in
    let large = long-plane p.domain p.map p.locale p.parts.items p.starts.items p.values.items c.self.invariant.0 rows.low rows.size columns.low columns.size c.self.invariant.1.on_plane in
    record { long = subst (λ vs. rows.size * columns.size ≤ length vs) (sym c.deref.ensures.value) large }

pub returns : goal.returns
returns g c =
    let p = c.self.inside in
    let rows = p.spans.grid.rows in
    let columns = p.spans.grid.columns in
    let kept = kept-plane p.domain p.map p.locale p.parts.items p.starts.items p.values.items c.self.invariant.0 rows.low rows.size columns.low columns.size c.self.invariant.1.on_plane in
    subst (λ q. IsPlaneOf q.elements c.deref.result.now rows.low rows.size columns.low columns.size) c.self.view_is
    (subst (λ vs. IsPlaneOf (piece_of p).elements vs rows.low rows.size columns.low columns.size) (sym c.deref.ensures.value) kept)

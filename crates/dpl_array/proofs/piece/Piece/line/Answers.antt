-- The elements of a part that is one domain, as a line.
-- These are the answers to the goals of `Piece::line`.
use Rattle.std.proofs.Common.{sym, subst}
use Rattle.dpl_array.specs.PieceFields.{piece_of}
use Rattle.dpl_array.specs.Windows.{IsLineOf}
use Rattle.dpl_array.proofs.WindowLemmas.{kept-line}
use Rattle.dpl_array.proofs.piece.Piece.line.Goals as goal

pub returns : goal.returns
returns g c =
    let p = c.self.inside in
    let span = p.spans.line in
    let kept = kept-line p.domain p.map p.locale p.parts.items p.starts.items p.values.items c.self.invariant.0 span.low span.size c.self.invariant.1.on_line in
    subst (λ q. IsLineOf q.elements c.deref.result.now span.low span.size) c.self.view_is
    (subst (λ vs. IsLineOf (piece_of p).elements vs span.low span.size) (sym c.deref.ensures.value) kept)

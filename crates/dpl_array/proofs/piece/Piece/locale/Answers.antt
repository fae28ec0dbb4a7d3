-- There is a value for each index of the part.
-- These are the answers to the goals of `Piece::locale`.
use Rattle.std.proofs.Common.{subst}
use Rattle.dpl_array.specs.Arrays.{IsPiece}
use Rattle.dpl_array.proofs.PieceLemmas.{kept-over}
use Rattle.dpl_array.proofs.piece.Piece.locale.Goals as goal

pub returns-clause-over : goal.returns-clause-over
returns-clause-over g c =
    let p = c.self.inside in
    subst IsPiece c.self.view_is (kept-over p.domain p.map p.locale p.parts.items p.starts.items p.values.items c.self.invariant.0)

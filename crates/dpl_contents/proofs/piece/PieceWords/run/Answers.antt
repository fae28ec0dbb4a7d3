-- What the finite map has at the indices behind one another are the words there.
use Rattle.std.proofs.Common.{sym, ◌∙◌}
use Rattle.dpl_array.specs.Elements.{behind}
use Rattle.dpl_contents.proofs.PieceWordLemmas.{piece_at-is}
use Rattle.dpl_contents.proofs.piece.PieceWords.run.Goals as goal

pub returns : goal.returns
returns c k word there =
    let inside = c.self.inside in
    sym (piece_at-is inside.domain inside.piece c.self.invariant (behind k c.args.row) c.args.self.now c.self.view_is) ∙ c.run.ensures k word there

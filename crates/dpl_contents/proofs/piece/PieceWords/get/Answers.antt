-- What the finite map has at an index is the word there.
use Rattle.std.proofs.Common.{◌∙◌}
use Rattle.dpl_contents.proofs.PieceWordLemmas.{piece_at-is}
use Rattle.dpl_contents.proofs.piece.PieceWords.get.Goals as goal

pub returns : goal.returns
returns c = c.get.ensures ∙ piece_at-is c.self.inside.domain c.self.inside.piece c.self.invariant c.args.index c.args.self.now c.self.view_is

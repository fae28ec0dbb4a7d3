-- What the finite map has at an index is the word there.
use Rattle.std.proofs.Common.{[], ◌∷◌, ◌∙◌, w64, FitsSigned}
use Rattle.std.proofs.lemmas.Int.{to_z-of_z}
use Rattle.dpl_contents.proofs.PieceWordLemmas.{piece_at-is}
use Rattle.dpl_contents.proofs.piece.PieceWords.get_plane.Goals as goal

pub returns : goal.returns
returns c =
    let i_fits : FitsSigned w64 c.args.i = c.ranges.i in
    let j_fits : FitsSigned w64 c.args.j = c.ranges.j in
    let there = simp to_z-of_z at c.get_plane.ensures in
    there ∙ piece_at-is c.self.inside.domain c.self.inside.piece c.self.invariant (c.args.i ∷ c.args.j ∷ []) c.args.self.now c.self.view_is

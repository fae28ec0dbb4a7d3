-- What is put in a row into the finite map are the words there.
use Rattle.std.proofs.Common.{is_some, subst, sym, ap, ◌∙◌}
use Rattle.dpl_array.specs.Elements.{behind, put_in_row}
use Rattle.dpl_memory.specs.Memory.{held_with}
use Rattle.dpl_contents.specs.Pieces.{IsPieceOver}
use Rattle.dpl_contents.proofs.PieceWordLemmas.{put-piece-over, put-piece-seen}
use Rattle.dpl_contents.proofs.PieceWordLemmas.{piece_at-is, seen_piece}
use Rattle.dpl_contents.proofs.piece.PieceWords.set_run.Goals as goal

pub invariant_of-self : goal.invariant_of-self
invariant_of-self c =
    let inside = c.self.inside in
    subst (IsPieceOver inside.domain) (sym c.set_run.ensures.changes) (put-piece-over inside.domain c.args.row c.args.words.now c.set_run.result inside.piece c.self.invariant)

pub returns-clause-there : goal.returns-clause-there
returns-clause-there c k below =
    let inside = c.self.inside in
    ap is_some (sym (piece_at-is inside.domain inside.piece c.self.invariant (behind k c.args.row) c.args.self.now c.self.view_is))
    ∙ c.set_run.ensures.there k below

pub returns-clause-changes : goal.returns-clause-changes
returns-clause-changes c =
    let inside = c.self.inside in
    ap (seen_piece inside.domain) c.set_run.ensures.changes
    ∙ put-piece-seen inside.domain c.args.row c.args.words.now c.set_run.result inside.piece c.self.invariant
    ∙ ap (put_in_row held_with c.args.row c.args.words.now c.set_run.result) c.self.view_is

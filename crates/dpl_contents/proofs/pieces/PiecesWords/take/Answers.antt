-- The piece of the locale is taken out, and its place is empty.
use Rattle.std.proofs.Common.{Some, None, ap, sym, ◌∙◌}
use Rattle.dpl_contents.specs.Parted.{piece_of, with_piece}
use Rattle.dpl_contents.specs.Pieces.{held_pieces}
use Rattle.dpl_contents.proofs.PartedLemmas.{piece-domain, piece-held, set-held}
use Rattle.dpl_contents.proofs.pieces.PiecesWords.take.Goals as goal

pub returns-in_err-piece-clause-leaves : goal.returns-in_err-piece-clause-leaves
returns-in_err-piece-clause-leaves c =
    let inside = c.self.inside in
    ap (held_pieces inside.domain) c.take-piece.ensures.leaves ∙ set-held inside.domain inside.pieces c.args.locale None ∙ ap (with_piece c.args.locale None) c.self.view_is

pub invariant_of-result : goal.invariant_of-result
invariant_of-result c = record {
  domain = piece-domain c.self.inside.pieces c.args.locale c.in_ok-piece.piece (sym c.in_ok-piece.was ∙ c.take-piece.ensures.piece) ∙ c.self.invariant.domain;
  keys = c.locale.ensures.over;
  written = c.self.invariant.written;
}

pub returns-clause-piece : goal.returns-clause-piece
returns-clause-piece c =
    let inside = c.self.inside in
    piece-held inside.domain inside.pieces c.args.locale (Some c.in_ok-piece.piece) (sym c.in_ok-piece.was ∙ c.take-piece.ensures.piece) ∙ ap (piece_of c.args.locale) c.self.view_is

pub returns-clause-leaves : goal.returns-clause-leaves
returns-clause-leaves c =
    let inside = c.self.inside in
    ap (held_pieces inside.domain) c.take-piece.ensures.leaves ∙ set-held inside.domain inside.pieces c.args.locale None ∙ ap (with_piece c.args.locale None) c.self.view_is

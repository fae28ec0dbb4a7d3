-- The piece stands in the place of its locale.
use Rattle.std.proofs.Common.{◌≡◌, Some, ap, sym, ◌∙◌}
use Rattle.dpl_memory.specs.Memory.{Held}
use Rattle.dpl_array.specs.Arrays.{with_slot}
use Rattle.dpl_contents.specs.Parted.{Parted, with_piece}
use Rattle.dpl_contents.specs.Pieces.{held_pieces, held_piece}
use Rattle.dpl_contents.proofs.PartedLemmas.{set-held, piece-over, on_ok}
use Rattle.dpl_contents.proofs.pieces.PiecesWords.put.Goals as goal

pub returns-clause-put : goal.returns-clause-put
returns-clause-put c put_there =
    let inside = c.self.inside in
    let p = c.piece.inside.piece in
    let l = c.args.locale in
    let at : p.locale ≡ l = sym c.locale.ensures.locale ∙ c.if-locale.false in
    let put = on_ok c.put.result (sym c.is_ok-is_put.ensures.value ∙ put_there) c.put.ensures.put in
    let ranges = ap (λ (q : Parted). q.ranges) c.self.view_is in
    ap (held_pieces inside.domain) (put ∙ ap (λ l. with_slot inside.pieces l (Some p.elements)) at)
    ∙ set-held inside.domain inside.pieces l (Some p.elements)
    ∙ ap (with_piece l (Some (held_piece inside.domain p.elements))) c.self.view_is
    ∙ ap (λ (a : Held). with_piece l (Some a) c.args.self.now) (piece-over inside.domain c.piece.inside.domain c.args.self.now.ranges p.elements c.args.piece ranges c.piece.view_is)

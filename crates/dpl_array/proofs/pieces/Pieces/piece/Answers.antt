-- What stands in the place of a locale.
-- These are the answers to the goals of `Pieces::piece`.
use Rattle.std.proofs.Common.{ap, sym, ◌∙◌, None, slice_index_or}
use Rattle.dpl_array.specs.Arrays.{piece_in}
use Rattle.dpl_array.proofs.HeldLemmas.{held-piece, lent}
use Rattle.dpl_array.proofs.pieces.Pieces.piece.Goals as goal

pub returns-clause-piece : goal.returns-clause-piece
returns-clause-piece g c =
    let p = c.self.inside in
    let there = ap (λ os. slice_index_or os c.args.locale None) (sym c.deref.ensures.value) ∙ sym (c.in_ok-get.ensures.lookup.3.1 None) in
    lent c.as_ref.result (piece_in c.args.self.now c.args.locale)
    (c.as_ref.ensures.value ∙ held-piece p.domain p.map p.held.items c.self.invariant c.args.locale c.in_ok-get.field-0.now there ∙ ap (λ ps. piece_in ps c.args.locale) c.self.view_is)

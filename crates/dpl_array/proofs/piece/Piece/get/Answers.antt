-- The value at the place of the index in the row.
-- These are the answers to the goals of `Piece::get`.
use Rattle.std.proofs.Common.{arith, refl, sym, ap, ◌∙◌}
use Rattle.std.proofs.lemmas.Option.{slice_get_read}
use Rattle.dpl_array.specs.Elements.{value_at}
use Rattle.dpl_array.proofs.PieceLemmas.{piece-absent, piece-there, place-within}
use Rattle.dpl_array.proofs.piece.Piece.get.Goals as goal

pub returns-in_err-place : goal.returns-in_err-place
returns-in_err-place g c =
    let p = c.self.inside in
    c.from_residual.ensures
    ∙ sym (piece-absent p.domain p.map p.locale p.parts.items p.starts.items p.values.items c.self.invariant.0 _ c.deref.ensures.value c.args.index c.in_err-place.ensures)
    ∙ ap (λ q. value_at c.args.index q.elements) c.self.view_is

pub index-requires : goal.index-requires
index-requires g c =
    let p = c.self.inside in
    let within = place-within p.domain p.map p.locale p.parts.items p.starts.items p.values.items c.self.invariant.0 _ c.deref.ensures.value c.args.index c.in_ok-place.place c.in_ok-place.ensures in
    omega (arith, within)

pub returns : goal.returns
returns g c =
    let p = c.self.inside in
    let within = place-within p.domain p.map p.locale p.parts.items p.starts.items p.values.items c.self.invariant.0 _ c.deref.ensures.value c.args.index c.in_ok-place.place c.in_ok-place.ensures in
    sym (slice_get_read p.values.items _ c.in_ok-place.place c.index.result.now refl within c.index.ensures)
    ∙ sym (piece-there p.domain p.map p.locale p.parts.items p.starts.items p.values.items c.self.invariant.0 _ c.deref.ensures.value c.args.index c.in_ok-place.place c.in_ok-place.ensures)
    ∙ ap (λ q. value_at c.args.index q.elements) c.self.view_is

-- The value at the place is that of the index.
-- These are the answers to the goals of `Piece::value_of`.
use Rattle.std.proofs.Common.{◌≤◌, length, slice_get, arith, refl, sym, ap, ◌∙◌}
use Rattle.std.proofs.lemmas.Option.{slice_get_read}
use Rattle.dpl_array.specs.Elements.{keys_of, value_at}
use Rattle.dpl_array.proofs.PieceLemmas.{kept-place, kept-within}
use Rattle.dpl_array.proofs.piece.Piece.value_of.Goals as goal

pub index-requires : goal.index-requires
index-requires g c =
    let p = c.self.inside in
    let few : length p.parts.items ≤ 1 = omega (arith, c.if-len-gt1.false, c.len.ensures) in
    let at = ap (λ q. slice_get (keys_of q.elements) c.args.place) c.self.view_is ∙ c.requires in
    let within = kept-within p.domain p.map p.locale p.parts.items p.starts.items p.values.items c.self.invariant.0 c.args.place c.args.index at few in
    omega (arith, within)

pub returns : goal.returns
returns g c =
    let p = c.self.inside in
    let few : length p.parts.items ≤ 1 = omega (arith, c.if-len-gt1.false, c.len.ensures) in
    let at = ap (λ q. slice_get (keys_of q.elements) c.args.place) c.self.view_is ∙ c.requires in
    let within = kept-within p.domain p.map p.locale p.parts.items p.starts.items p.values.items c.self.invariant.0 c.args.place c.args.index at few in
    sym (slice_get_read p.values.items _ c.args.place c.index.result.now refl within c.index.ensures)
    ∙ sym (kept-place p.domain p.map p.locale p.parts.items p.starts.items p.values.items c.self.invariant.0 few c.args.place c.args.index at)
    ∙ ap (λ q. value_at c.args.index q.elements) c.self.view_is

-- The value at the place in the row.
-- These are the answers to the goals of `Piece::quick`.
use Rattle.std.proofs.Common.{◌≡◌, Some, slice_get, arith, refl, sym, ap, ◌∙◌, subst}
use Rattle.std.proofs.lemmas.Option.{slice_get_read}
use Rattle.dpl_array.specs.Elements.{value_at}
use Rattle.dpl_array.specs.Rows.{row_of}
use Rattle.dpl_array.proofs.WindowLemmas.{value-found, within-found}
use Rattle.dpl_array.proofs.piece.Piece.quick.Goals as goal

pub index-requires : goal.index-requires
index-requires g c =
    let p = c.self.inside in
    let t = g.C.Coordinates.tuple c.args.at.now in
    let k = c.in_ok-place.place in
    let found : slice_get (row_of p.parts.items) k ≡ Some t = subst (λ ds. slice_get (row_of ds) k ≡ Some t) c.deref.ensures.value c.in_ok-place.ensures in
    let within = within-found p.domain p.map p.locale p.parts.items p.starts.items p.values.items c.self.invariant.0 k t found in
    omega (arith, within)

pub returns : goal.returns
returns g c =
    let p = c.self.inside in
    let t = g.C.Coordinates.tuple c.args.at.now in
    let k = c.in_ok-place.place in
    let found : slice_get (row_of p.parts.items) k ≡ Some t = subst (λ ds. slice_get (row_of ds) k ≡ Some t) c.deref.ensures.value c.in_ok-place.ensures in
    let within = within-found p.domain p.map p.locale p.parts.items p.starts.items p.values.items c.self.invariant.0 k t found in
    ap (λ q. value_at t q.elements) (sym c.self.view_is)
    ∙ value-found p.domain p.map p.locale p.parts.items p.starts.items p.values.items c.self.invariant.0 k t found
    ∙ slice_get_read p.values.items _ k c.index.result.now refl within c.index.ensures

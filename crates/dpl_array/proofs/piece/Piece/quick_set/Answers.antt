-- The value at the place in the row is written.
-- These are the answers to the goals of `Piece::quick_set`.
use Rattle.std.proofs.Common.{◌≡◌, Some, is_some, slice_get, arith, refl, sym, ap, ◌∙◌, subst}
use Rattle.std.proofs.lemmas.Option.{slice_get-get_or}
use Rattle.dpl_array.specs.Elements.{value_at}
use Rattle.dpl_array.specs.Arrays.{piece_with}
use Rattle.dpl_array.specs.Rows.{row_of}
use Rattle.dpl_array.proofs.PieceLemmas.{piece-set, places-alone}
use Rattle.dpl_array.proofs.WindowLemmas.{value-found, within-found}
use Rattle.dpl_array.proofs.piece.Piece.quick_set.Goals as goal

pub index_mut-requires : goal.index_mut-requires
index_mut-requires g c =
    let p = c.self.inside in
    let t = g.C.Coordinates.tuple c.args.at.now in
    let k = c.in-Some.place in
    let found : slice_get (row_of p.parts.items) k ≡ Some t = subst (λ ds. slice_get (row_of ds) k ≡ Some t) c.deref.ensures.value c.in-Some.ensures in
    let within = within-found p.domain p.map p.locale p.parts.items p.starts.items p.values.items c.self.invariant.0 k t found in
    omega (arith, within)

pub returns-in-Some-clause-there : goal.returns-in-Some-clause-there
returns-in-Some-clause-there g c = λ yes.
    let p = c.self.inside in
    let t = g.C.Coordinates.tuple c.args.at.now in
    let k = c.in-Some.place in
    let found : slice_get (row_of p.parts.items) k ≡ Some t = subst (λ ds. slice_get (row_of ds) k ≡ Some t) c.deref.ensures.value c.in-Some.ensures in
    let within = within-found p.domain p.map p.locale p.parts.items p.starts.items p.values.items c.self.invariant.0 k t found in
    ap (λ q. is_some (value_at t q.elements)) (sym c.self.view_is)
    ∙ ap is_some (value-found p.domain p.map p.locale p.parts.items p.starts.items p.values.items c.self.invariant.0 k t found)
    ∙ ap is_some (slice_get-get_or p.values.items k c.args.value within)

pub returns-in-Some-clause-changes : goal.returns-in-Some-clause-changes
returns-in-Some-clause-changes g c = λ yes.
    let p = c.self.inside in
    let t = g.C.Coordinates.tuple c.args.at.now in
    let k = c.in-Some.place in
    let found : slice_get (row_of p.parts.items) k ≡ Some t = subst (λ ds. slice_get (row_of ds) k ≡ Some t) c.deref.ensures.value c.in-Some.ensures in
    let places = places-alone p.parts.items t k c.self.invariant.0.distinct found in
    ap (λ es. record { domain = p.domain; map = p.map; locale = p.locale; elements = es }) (piece-set p.domain p.map p.locale p.parts.items p.starts.items p.values.items c.self.invariant.0 p.parts.items refl t k places c.args.value)
    ∙ ap (piece_with t c.args.value) c.self.view_is

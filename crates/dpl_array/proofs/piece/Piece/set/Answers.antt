-- The value at the place of the index in the row is written.
-- These are the answers to the goals of `Piece::set`.
use Rattle.std.proofs.Common.{is_some, arith, sym, ap, ◌∙◌}
use Rattle.std.proofs.lemmas.Option.{slice_get-get_or}
use Rattle.dpl_array.specs.Elements.{value_at}
use Rattle.dpl_array.specs.Arrays.{piece_with}
use Rattle.dpl_array.proofs.ElementLemmas.{with_value-absent}
use Rattle.dpl_array.proofs.PieceLemmas.{piece-absent, piece-there, piece-set, place-within}
use Rattle.dpl_array.proofs.piece.Piece.set.Goals as goal

pub returns-in_default-clause-there : goal.returns-in_default-clause-there
returns-in_default-clause-there g c =
    let p = c.self.inside in
    sym (ap is_some (piece-absent p.domain p.map p.locale p.parts.items p.starts.items p.values.items c.self.invariant.0 _ c.deref.ensures.value c.args.index c.in_default.ensures))
    ∙ ap (λ q. is_some (value_at c.args.index q.elements)) c.self.view_is

pub returns-in_default-clause-changes : goal.returns-in_default-clause-changes
returns-in_default-clause-changes g c =
    let p = c.self.inside in
    let absent = piece-absent p.domain p.map p.locale p.parts.items p.starts.items p.values.items c.self.invariant.0 _ c.deref.ensures.value c.args.index c.in_default.ensures in
    let none = ap (λ q. value_at c.args.index q.elements) (sym c.self.view_is) ∙ absent in
    sym (ap (λ es. record c.args.self.now { elements = es }) (with_value-absent c.args.index c.args.value c.args.self.now.elements none))

pub index_mut-requires : goal.index_mut-requires
index_mut-requires g c =
    let p = c.self.inside in
    let within = place-within p.domain p.map p.locale p.parts.items p.starts.items p.values.items c.self.invariant.0 _ c.deref.ensures.value c.args.index c.in-Some.place c.in-Some.ensures in
    omega (arith, within)

pub returns-clause-there : goal.returns-clause-there
returns-clause-there g c =
    let p = c.self.inside in
    let within = place-within p.domain p.map p.locale p.parts.items p.starts.items p.values.items c.self.invariant.0 _ c.deref.ensures.value c.args.index c.in-Some.place c.in-Some.ensures in
    sym (ap is_some (slice_get-get_or p.values.items c.in-Some.place c.args.value within))
    ∙ sym (ap is_some (piece-there p.domain p.map p.locale p.parts.items p.starts.items p.values.items c.self.invariant.0 _ c.deref.ensures.value c.args.index c.in-Some.place c.in-Some.ensures))
    ∙ ap (λ q. is_some (value_at c.args.index q.elements)) c.self.view_is

pub returns-clause-changes : goal.returns-clause-changes
returns-clause-changes g c =
    let p = c.self.inside in
    ap (λ es. record { domain = p.domain; map = p.map; locale = p.locale; elements = es }) (piece-set p.domain p.map p.locale p.parts.items p.starts.items p.values.items c.self.invariant.0 _ c.deref.ensures.value c.args.index c.in-Some.place c.in-Some.ensures c.args.value)
    ∙ ap (piece_with c.args.index c.args.value) c.self.view_is

-- A piece that has an index is that of its owner.
-- These are the answers to the goals of `Pieces::set_guessed`.
use Rattle.std.proofs.Common.{ap, sym, ◌∙◌, None, is_some, map, ◌<◌, length, arith}
use Rattle.std.proofs.lemmas.List.{get_or_read}
use Rattle.dpl_array.specs.Elements.{value_at}
use Rattle.dpl_array.specs.Arrays.{held_at, written_at}
use Rattle.dpl_array.specs.PiecesFields.{slot_of}
use Rattle.dpl_array.proofs.HeldLemmas.{held-guessed, held-put, held-unwritten, held-written}
use Rattle.dpl_array.proofs.UnionLemmas.{some-of}
use Rattle.dpl_array.proofs.pieces.Pieces.set_guessed.Goals as goal

pub invariant_of-self-2 : goal.invariant_of-self-2
invariant_of-self-2 g c =
    let p = c.self.inside in
    let o = c.seat-seat.result in
    let within : o < length p.held.items = omega arith in
    let there = sym (get_or_read p.held.items o c.index_mut.result.now within c.index_mut.ensures.value None) ∙ c.in-Some.is in
    held-put p.domain p.map p.held.items c.self.invariant o c.in-Some.piece c.quick_set.new.self there (g.C.Coordinates.tuple c.args.at.now) c.args.value c.quick_set.result c.quick_set.ensures.changes c.quick_set.ensures.unchanged

pub returns-clause-there : goal.returns-clause-there
returns-clause-there g c = λ yes.
    let p = c.self.inside in
    let o = c.seat-seat.result in
    let within : o < length p.held.items = omega arith in
    let there = sym (get_or_read p.held.items o c.index_mut.result.now within c.index_mut.ensures.value None) ∙ c.in-Some.is in
    let some = some-of (value_at (g.C.Coordinates.tuple c.args.at.now) c.in-Some.piece.elements) (c.quick_set.ensures.there yes) in
    ap (λ ps. is_some (held_at ps (g.C.Coordinates.tuple c.args.at.now))) (sym c.self.view_is)
    ∙ ap is_some (held-guessed p.domain p.map p.held.items c.self.invariant o c.in-Some.piece there (g.C.Coordinates.tuple c.args.at.now) some.0 some.1)

pub returns-clause-changes : goal.returns-clause-changes
returns-clause-changes g c = λ yes.
    let p = c.self.inside in
    let o = c.seat-seat.result in
    let within : o < length p.held.items = omega arith in
    let there = sym (get_or_read p.held.items o c.index_mut.result.now within c.index_mut.ensures.value None) ∙ c.in-Some.is in
    held-written p.domain p.map p.held.items c.self.invariant o c.in-Some.piece c.quick_set.new.self there (g.C.Coordinates.tuple c.args.at.now) c.args.value (c.quick_set.ensures.there yes) (c.quick_set.ensures.changes yes)
    ∙ ap (written_at (g.C.Coordinates.tuple c.args.at.now) c.args.value) c.self.view_is

pub returns-clause-unchanged : goal.returns-clause-unchanged
returns-clause-unchanged g c = λ no.
    let p = c.self.inside in
    let o = c.seat-seat.result in
    let within : o < length p.held.items = omega arith in
    let there = sym (get_or_read p.held.items o c.index_mut.result.now within c.index_mut.ensures.value None) ∙ c.in-Some.is in
    ap (λ os. record { domain = p.domain; map = p.map; slots = map slot_of os }) (held-unwritten p.domain p.map p.held.items c.self.invariant o c.in-Some.piece c.quick_set.new.self there (c.quick_set.ensures.unchanged no))
    ∙ c.self.view_is

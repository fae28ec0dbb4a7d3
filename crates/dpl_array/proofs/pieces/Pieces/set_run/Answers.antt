-- A piece that has indices is that of their owner.
-- These are the answers to the goals of `Pieces::set_run`.
use Rattle.std.proofs.Common.{ap, sym, ◌∙◌, None, is_some, ◌<◌, length, arith}
use Rattle.std.proofs.lemmas.List.{get_or_read}
use Rattle.dpl_array.specs.Elements.{behind, put_in_row, value_at}
use Rattle.dpl_array.specs.Arrays.{held_at, written_at}
use Rattle.dpl_array.proofs.HeldLemmas.{held-guessed}
use Rattle.dpl_array.proofs.PutLemmas.{put-held, put-shown}
use Rattle.dpl_array.proofs.UnionLemmas.{some-of}
use Rattle.dpl_array.proofs.pieces.Pieces.set_run.Goals as goal

pub invariant_of-self-2 : goal.invariant_of-self-2
invariant_of-self-2 g c =
    let p = c.self.inside in
    let o = c.guess-seat.result in
    let within : o < length p.held.items = omega arith in
    let there = sym (get_or_read p.held.items o c.index_mut.result.now within c.index_mut.ensures.value None) ∙ c.in-Some.is in
    put-held p.domain p.map o c.args.row c.args.values.now p.held.items c.self.invariant c.in-Some.piece there c.set_run.result c.set_run.new.self c.set_run.ensures.changes

pub returns-clause-there : goal.returns-clause-there
returns-clause-there g c k below =
    let p = c.self.inside in
    let o = c.guess-seat.result in
    let within : o < length p.held.items = omega arith in
    let there = sym (get_or_read p.held.items o c.index_mut.result.now within c.index_mut.ensures.value None) ∙ c.in-Some.is in
    let some = some-of (value_at (behind k c.args.row) c.in-Some.piece.elements) (c.set_run.ensures.there k below) in
    ap (λ ps. is_some (held_at ps (behind k c.args.row))) (sym c.self.view_is)
    ∙ ap is_some (held-guessed p.domain p.map p.held.items c.self.invariant o c.in-Some.piece there (behind k c.args.row) some.0 some.1)

pub returns-clause-changes : goal.returns-clause-changes
returns-clause-changes g c =
    let p = c.self.inside in
    let o = c.guess-seat.result in
    let within : o < length p.held.items = omega arith in
    let there = sym (get_or_read p.held.items o c.index_mut.result.now within c.index_mut.ensures.value None) ∙ c.in-Some.is in
    put-shown p.domain p.map o c.args.row c.args.values.now p.held.items c.self.invariant c.in-Some.piece there c.set_run.result c.set_run.ensures.there c.set_run.new.self c.set_run.ensures.changes
    ∙ ap (put_in_row written_at c.args.row c.args.values.now c.set_run.result) c.self.view_is

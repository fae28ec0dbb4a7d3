-- The values are written as far apart as the indices stand.
-- These are the answers to the goals of `Piece::set_run_apart`.
use Rattle.std.proofs.Common.{◌≡◌, ◌<◌, List, length, is_some, arith, ap, subst, sym, ◌∙◌}
use Rattle.std.proofs.lemmas.List.{with_items_is}
use Rattle.dpl_array.specs.Elements.{behind, put_in_row, value_at}
use Rattle.dpl_array.specs.Arrays.{piece_with}
use Rattle.dpl_array.specs.Rows.{apart_by, row_of, set_each}
use Rattle.dpl_array.proofs.RunLemmas.{StandAt}
use Rattle.dpl_array.proofs.PutLemmas.{piece_over, put-piece, run-there, run-within}
use Rattle.dpl_array.proofs.piece.Piece.set_run_apart.Goals as goal

pub set_apart-requires-clause-within : goal.set_apart-requires-clause-within
set_apart-requires-clause-within g c k below =
    let p = c.self.inside in
    let place = c.run_apart-place.result.0 in
    let pace = c.run_apart-place.result.1 in
    let size = c.run_apart-place.result.2 in
    let runs : StandAt (row_of p.parts.items) (apart_by pace place) size c.args.row = subst (λ ds. StandAt (row_of ds) (apart_by pace place) size c.args.row) c.deref.ensures.value c.run_apart-place.ensures in
    let within : apart_by pace place k < length p.values.items = run-within p.domain p.map p.locale p.parts.items p.starts.items p.values.items c.self.invariant.0 (apart_by pace place) size c.args.row runs k (omega (arith, below, c.min-size.ensures)) in
    omega (arith, within, ap length c.deref_mut.ensures.value)

pub returns-clause-there : goal.returns-clause-there
returns-clause-there g c k below =
    let p = c.self.inside in
    let place = c.run_apart-place.result.0 in
    let pace = c.run_apart-place.result.1 in
    let size = c.run_apart-place.result.2 in
    let runs : StandAt (row_of p.parts.items) (apart_by pace place) size c.args.row = subst (λ ds. StandAt (row_of ds) (apart_by pace place) size c.args.row) c.deref.ensures.value c.run_apart-place.ensures in
    ap (λ q. is_some (value_at (behind k c.args.row) q.elements)) (sym c.self.view_is)
    ∙ run-there p.domain p.map p.locale p.parts.items p.starts.items p.values.items c.self.invariant.0 (apart_by pace place) size c.args.row runs k (omega (arith, below, c.min-size.ensures))

pub returns-clause-changes : goal.returns-clause-changes
returns-clause-changes g c =
    let p = c.self.inside in
    let place = c.run_apart-place.result.0 in
    let pace = c.run_apart-place.result.1 in
    let size = c.run_apart-place.result.2 in
    let runs : StandAt (row_of p.parts.items) (apart_by pace place) size c.args.row = subst (λ ds. StandAt (row_of ds) (apart_by pace place) size c.args.row) c.deref.ensures.value c.run_apart-place.ensures in
    let count = c.min-size.result in
    let values = c.args.values.now in
    let over = λ (vs : List g.row.T.Denot). piece_over p.domain p.map p.locale p.parts.items p.starts.items p.values.items c.self.invariant.0 vs in
    let kept : length c.set_apart.new.row ≡ p.values.len = c.set_apart.auto.row ∙ c.deref_mut.ensures.len in
    let row : c.set_apart.new.row ≡ set_each (apart_by pace place) values count p.values.items = c.set_apart.ensures ∙ ap (set_each (apart_by pace place) values count) c.deref_mut.ensures.value in
    ap over (with_items_is p.values c.set_apart.new.row kept ∙ row)
    ∙ put-piece p.domain p.map p.locale p.parts.items p.starts.items p.values.items c.self.invariant.0 (apart_by pace place) size c.args.row runs values count (omega (arith, c.min-size.ensures))
    ∙ ap (put_in_row piece_with c.args.row values count) c.self.view_is

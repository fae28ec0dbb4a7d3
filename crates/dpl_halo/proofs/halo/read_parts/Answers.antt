-- One domain after another.
-- These are the answers to the goals of `read_parts`.
use Rattle.std.proofs.Common.{◌++◌, ◌+◌, take, refl, ◌∙◌, subst, arith}
use Rattle.std.specs.List.{flat_map}
use Rattle.std.proofs.lemmas.List.{take_all}
use Rattle.std.proofs.lemmas.Option.{slice_get_read}
use Rattle.dpl_sets.specs.Indices.{indices}
use Rattle.dpl_halo.specs.Gathering.{IsGathered}
use Rattle.dpl_halo.specs.Halos.{is_foreign}
use Rattle.dpl_halo.specs.Shifts.{reads}
use Rattle.dpl_halo.proofs.GatherLemmas.{gather-onto, flat-take}
use Rattle.dpl_halo.proofs.halo.read_parts.Goals as goal

pub loop-turns-preserved : goal.loop-turns-preserved
loop-turns-preserved g c =
    let a = c.args.array.now in
    let shifts = c.args.shifts.now in
    let parts = c.args.parts.now in
    let k = c.loop-turns.turns-index in
    let found = slice_get_read parts _ k c.turns-item.result refl c.loop-turns-test.true c.turns-item.is in (
      c.in_ok-read_all.ensures.domain ∙ c.loop-turns.invariant.0,
      (λ seen gathered.
          gather-onto a (is_foreign a.map c.args.locale) c.read_all.new.gathered seen (flat_map (λ d. reads shifts (indices d)) (take k parts)) (reads shifts (indices c.turns-item.result)) (flat_map (λ d. reads shifts (indices d)) (take (k + 1) parts)) (flat-take (λ d. reads shifts (indices d)) parts k c.turns-item.result found)
          (c.in_ok-read_all.ensures.gathered (seen ++ flat_map (λ d. reads shifts (indices d)) (take k parts)) (c.loop-turns.invariant.1 seen gathered))),
    )

pub returns : goal.returns
returns g c = record {
  gathered = λ seen gathered.
      let a = c.args.array.now in
      let parts = c.args.parts.now in
      let all = take_all c.loop-turns.turns-index parts (omega (arith, c.loop-turns-test.false)) in
      subst (λ ds. IsGathered a (is_foreign a.map c.args.locale) (seen ++ flat_map (λ d. reads c.args.shifts.now (indices d)) ds) c.loop-turns.gathered) all (c.loop-turns.invariant.1 seen gathered);
}

-- One shift after another.
-- These are the answers to the goals of `read_all`.
use Rattle.std.proofs.Common.{◌++◌, ◌+◌, take, map, refl, ◌∙◌, subst, arith}
use Rattle.std.proofs.lemmas.List.{take_all}
use Rattle.std.proofs.lemmas.Option.{slice_get_read}
use Rattle.dpl_sets.specs.Indices.{indices}
use Rattle.dpl_halo.specs.Gathering.{IsGathered}
use Rattle.dpl_halo.specs.Halos.{is_foreign}
use Rattle.dpl_halo.specs.Shifts.{reads, shifted}
use Rattle.dpl_halo.proofs.GatherLemmas.{gather-onto, flat-take}
use Rattle.dpl_halo.proofs.halo.read_all.Goals as goal

pub loop-shift-preserved : goal.loop-shift-preserved
loop-shift-preserved g c =
    let a = c.args.array.now in
    let turns = indices c.args.turns.now in
    let shifts = c.args.shifts.now in
    let k = c.loop-shift.shift-index in
    let found = slice_get_read shifts _ k c.shift-item.result refl c.loop-shift-test.true c.shift-item.is in (
      c.in_ok-read.ensures.domain ∙ c.loop-shift.invariant.0,
      (λ seen gathered.
          gather-onto a (is_foreign a.map c.args.locale) c.read.new.gathered seen (reads (take k shifts) turns) (map (shifted c.shift-item.result) turns) (reads (take (k + 1) shifts) turns) (flat-take (λ shift. map (shifted shift) turns) shifts k c.shift-item.result found)
          (c.in_ok-read.ensures.gathered (seen ++ reads (take k shifts) turns) (c.loop-shift.invariant.1 seen gathered))),
    )

pub returns-clause-gathered : goal.returns-clause-gathered
returns-clause-gathered g c = λ seen gathered.
    let a = c.args.array.now in
    let shifts = c.args.shifts.now in
    let all = take_all c.loop-shift.shift-index shifts (omega (arith, c.loop-shift-test.false)) in
    subst (λ ss. IsGathered a (is_foreign a.map c.args.locale) (seen ++ reads ss (indices c.args.turns.now)) c.loop-shift.gathered) all (c.loop-shift.invariant.1 seen gathered)

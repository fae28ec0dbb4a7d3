-- The domains of the part have its turns, so what they read is what the turns read.
-- These are the answers to the goals of `Halo::collect`.
use Rattle.std.proofs.Common.{[], ◌∙◌, subst}
use Rattle.std.specs.List.{flat_map}
use Rattle.dpl_sets.specs.Indices.{indices}
use Rattle.dpl_map.specs.Parts.{part}
use Rattle.dpl_halo.specs.Gathering.{IsGathered}
use Rattle.dpl_halo.specs.Halos.{is_foreign}
use Rattle.dpl_halo.specs.Shifts.{reads}
use Rattle.dpl_halo.proofs.GatherLemmas.{gather-first, gather-last}
use Rattle.dpl_halo.proofs.ReadLemmas.{reads-same}
use Rattle.dpl_halo.proofs.halo.Halo.collect.Goals as goal

pub returns : goal.returns
returns g c =
    let a = c.args.array.now in
    let wants = is_foreign a.map c.args.locale in
    let shifts = c.args.shifts.now in
    let parts = c.in_ok-parts.parts.items in
    let seen = flat_map (λ d. reads shifts (indices d)) parts in
    let first = gather-first a wants c.new-gathered.result (c.new-gathered.ensures.domain ∙ c.domain.ensures.domain) c.new-gathered.ensures.elements in
    let gathered : IsGathered a wants seen c.read_parts.new.gathered =
    subst (λ ds. IsGathered a wants (flat_map (λ d. reads shifts (indices d)) ds) c.read_parts.new.gathered) c.deref.ensures.value (c.in_ok-read_parts.ensures.gathered [] first) in
    gather-last a wants seen (reads shifts (part c.args.domain.now c.args.map.now c.args.locale)) c.read_parts.new.gathered c.domain.ensures.keys gathered c.domain-2.ensures.formed
    (reads-same shifts (part c.args.domain.now c.args.map.now c.args.locale) parts c.in_ok-parts.ensures.cut c.in_ok-parts.ensures.apart)

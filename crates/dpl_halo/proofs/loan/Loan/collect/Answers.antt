-- One domain after another.
-- These are the answers to the goals of `Loan::collect`.
use Rattle.std.proofs.Common.{◌+◌, take, refl, ◌∙◌, subst, arith}
use Rattle.std.specs.List.{flat_map}
use Rattle.std.proofs.lemmas.List.{take_all}
use Rattle.std.proofs.lemmas.Option.{slice_get_read}
use Rattle.dpl_sets.specs.Indices.{indices}
use Rattle.dpl_halo.specs.Gathering.{IsGathered, every}
use Rattle.dpl_halo.proofs.GatherLemmas.{gather-first, gather-last, gather-more, flat-take, lent-is}
use Rattle.dpl_halo.proofs.loan.Loan.collect.Goals as goal

pub loop-domain-init : goal.loop-domain-init
loop-domain-init g c =
    let domain = c.new-gathered.ensures.domain ∙ c.domain.ensures.domain in
    (domain, gather-first c.args.array.now every c.new-gathered.result domain c.new-gathered.ensures.elements)

pub loop-domain-preserved : goal.loop-domain-preserved
loop-domain-preserved g c =
    let domains = c.args.domains.now in
    let k = c.loop-domain.domain-index in
    let found = slice_get_read domains _ k c.domain-item.result refl c.loop-domain-test.true c.domain-item.is in (
      c.in_ok-lend.ensures.domain ∙ c.loop-domain.invariant.0,
      gather-more c.args.array.now every c.lend.new.gathered (flat_map indices (take k domains)) (indices c.domain-item.result) (flat_map indices (take (k + 1) domains)) (flat-take indices domains k c.domain-item.result found)
          (c.in_ok-lend.ensures.gathered (flat_map indices (take k domains)) c.loop-domain.invariant.1),
    )

pub returns : goal.returns
returns g c =
    let a = c.args.array.now in
    let domains = c.args.domains.now in
    let all = take_all c.loop-domain.domain-index domains (omega (arith, c.loop-domain-test.false)) in
    let gathered : IsGathered a every (flat_map indices domains) c.loop-domain.gathered = subst (λ ds. IsGathered a every (flat_map indices ds) c.loop-domain.gathered) all c.loop-domain.invariant.1 in
    lent-is a domains c.loop-domain.gathered gathered
    (gather-last a every (flat_map indices domains) (flat_map indices domains) c.loop-domain.gathered c.domain.ensures.keys gathered c.domain-2.ensures.formed (λ t. refl))

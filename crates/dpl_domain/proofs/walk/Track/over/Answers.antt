-- The members of a range are a progression from its first on.
use Rattle.std.proofs.Common.{◌≡◌, ap, sym, ◌∙◌, FitsSigned, w64, rules}
use Rattle.std.proofs.lemmas.Int.{to_z-of_z}
use Rattle.dpl_sets.specs.Ranges.{members_of}
use Rattle.dpl_domain.specs.Progression.{progression}
use Rattle.dpl_domain.proofs.ProgressionLemmas.{progression-members, members-bounds, none-empty}
use Rattle.dpl_domain.proofs.walk.Track.over.Goals as goal
use Rattle.dpl_domain.proofs.walk.Track.over.Goals.{After-size}

pub returns-in_default : goal.returns-in_default
returns-in_default c = record { terms = none-empty (members_of c.args.range.now) (sym c.first.ensures ∙ c.in_default.is) }

terms : (c : After-size) → progression c.in-Some.next c.stride.result c.size.result ≡ members_of c.args.range.now
terms c =
    ap (λ s. progression c.in-Some.next s c.size.result) c.stride.ensures.stride
    ∙ ap (progression c.in-Some.next c.args.range.now.stride) c.size.ensures.length
    ∙ progression-members c.args.range.now c.in-Some.next c.size.ensures.limits (sym c.first.ensures ∙ c.in-Some.is)

pub invariant_of-result-2 : goal.invariant_of-result-2
invariant_of-result-2 c =
    let next_fits : FitsSigned w64 c.in-Some.next = search rules in
    let stride_fits : FitsSigned w64 c.stride.result = search rules in
    record {
      bounded = rw (to_z-of_z w64 c.in-Some.next next_fits, to_z-of_z w64 c.stride.result stride_fits, terms (goal.at.invariant_of-result-2 c).After-size) (members-bounds c.args.range.now c.size.ensures.limits);
      short = rw (to_z-of_z w64 c.stride.result stride_fits, c.stride.ensures.stride) c.size.ensures.limits.stride_is_short;
    }

pub returns : goal.returns
returns c =
    let next_fits : FitsSigned w64 c.in-Some.next = search rules in
    let stride_fits : FitsSigned w64 c.stride.result = search rules in
    record { terms = rw (to_z-of_z w64 c.in-Some.next next_fits, to_z-of_z w64 c.stride.result stride_fits) (terms (goal.at.returns c).After-size) }

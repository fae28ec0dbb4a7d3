-- The indices of a domain are as many as the tuples of its three ranges.
use Rattle.std.proofs.Common.{◌≡◌, ◌≤◌, ◌<◌, ◌*◌, ◌^◌, length, arith, refl, ap, ◌∙◌}
use Rattle.dpl_sets.specs.Ranges.{members_of}
use Rattle.dpl_sets.specs.Indices.{indices}
use Rattle.dpl_domain.proofs.TupleLemmas.{length-indices, IsPadded-IsFilled}
use Rattle.dpl_domain.proofs.product.Domain.checked.Goals as goal
use Rattle.dpl_domain.proofs.product.Domain.checked.Goals.{After-tuples}

many : (c : After-tuples) → length (indices c.args.ranges) ≡ length (members_of c.places-outer.result.0) * length (members_of c.places-outer.result.1) * length (members_of c.places-outer.result.2)
many c =
    ap (λ rs. length (indices rs)) c.places-outer.ensures.places
    ∙ length-indices (length c.args.ranges) c.places-outer.result.0 c.places-outer.result.1 c.places-outer.result.2 (IsPadded-IsFilled c.requires.0 c.places-outer.ensures.unused)

-- the test says whether there are too many
large : (c : After-tuples) → 2 ^ 40 < c.tuples.result → length (indices c.args.ranges) ≤ 2 ^ 40 → ⊥
large c more small = omega (arith, many c, c.tuples.ensures.exact (omega (arith, many c)))

small : (c : After-tuples) → c.tuples.result ≤ 2 ^ 40 → length (indices c.args.ranges) ≤ 2 ^ 40
small c fewer = grind (arith, many c, c.tuples.ensures.more)

pub returns-then-tuples-gt-MOST_INDICES-clause-ok : goal.returns-then-tuples-gt-MOST_INDICES-clause-ok
returns-then-tuples-gt-MOST_INDICES-clause-ok c =
    let never = large (goal.at.returns-then-tuples-gt-MOST_INDICES-clause-ok c).After-tuples c.if-tuples-gt-MOST_INDICES.true in
    ((λ e. absurd cc), (λ fits. absurd (never fits)))

pub returns-then-tuples-gt-MOST_INDICES-clause-size : goal.returns-then-tuples-gt-MOST_INDICES-clause-size
returns-then-tuples-gt-MOST_INDICES-clause-size c =
    let never = large (goal.at.returns-then-tuples-gt-MOST_INDICES-clause-size c).After-tuples c.if-tuples-gt-MOST_INDICES.true in
    ((λ e. never), (λ h. refl))

pub kept-requires-clause-small : goal.kept-requires-clause-small
kept-requires-clause-small c = small (goal.at.kept-requires-clause-small c).After-tuples c.if-tuples-gt-MOST_INDICES.false

pub returns-clause-ok : goal.returns-clause-ok
returns-clause-ok c = ((λ e. small (goal.at.returns-clause-ok c).After-tuples c.if-tuples-gt-MOST_INDICES.false), (λ fits. refl))

pub returns-clause-size : goal.returns-clause-size
returns-clause-size c =
    let fits = small (goal.at.returns-clause-size c).After-tuples c.if-tuples-gt-MOST_INDICES.false in
    ((λ e. absurd cc), (λ never. absurd (never fits)))

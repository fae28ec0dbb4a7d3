-- Two ranges of stride 1 have their bounds compared too.
-- These are the answers to the goals of `same_range`.
use Rattle.std.proofs.Common.{rules, refl, sym, ◌∙◌}
use Rattle.dpl_array.proofs.SameLemmas.{words-same}
use Rattle.dpl_array.proofs.same.same_range.Goals as goal

pub returns : goal.returns
returns c = (
  (λ yes. record {
    members = c.if-not-same_members.ensures.0 refl;
    low = λ one other. sym c.low_bound.ensures.bound ∙ words-same c.low_bound.result c.low_bound-2.result (search rules) (search rules) c.if-low_bound.false ∙ c.low_bound-2.ensures.bound;
    high = λ one other. sym c.high_bound.ensures.bound ∙ words-same c.high_bound.result c.high_bound-else-low_bound.result (search rules) (search rules) c.if-high_bound.false ∙ c.high_bound-else-low_bound.ensures.bound;
  }),
  (λ same. refl),
)

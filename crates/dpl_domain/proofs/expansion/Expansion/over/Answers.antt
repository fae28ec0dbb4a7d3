-- The ranges that a rank leaves unused are moved by 0, which leaves them as they were.
use Rattle.std.proofs.Common.{◌≡◌, ◌<◌, arith, w64, to_z, of_z, pos, ap, ◌∙◌}
use Rattle.std.proofs.lemmas.Int.{ints}
use Rattle.dpl_domain.specs.Ranks.{last_of}
use Rattle.dpl_sets.specs.Expansions.{moved}
use Rattle.dpl_domain.proofs.ExpansionLemmas.{expanded-last_of, IsPadded-moved}
use Rattle.dpl_domain.proofs.expansion.Expansion.over.Goals as goal
use Rattle.dpl_domain.proofs.expansion.Expansion.over.Goals.{After-over-3, then-rank-lt3, else-rank-lt3, then-rank-lt2, else-rank-lt2}

-- by how much each place in front is moved
outer_by : (c : After-over-3) → (c.args.rank < 3 → to_z w64 c.if-rank-lt3.over-bits ≡ pos 0) × (2 < c.args.rank → to_z w64 c.if-rank-lt3.over-bits ≡ c.args.k)
outer_by c =
    elim c.if-rank-lt3.branch [
      | then-rank-lt3 w ↦ ((λ below. w.over-is), (λ above. absurd (omega arith)))
      | else-rank-lt3 w ↦ ((λ below. absurd (omega arith)), (λ above. omega (arith, ints, w.over-is)))
    ]

middle_by : (c : After-over-3) → (c.args.rank < 2 → to_z w64 c.if-rank-lt2.over-bits ≡ pos 0) × (1 < c.args.rank → to_z w64 c.if-rank-lt2.over-bits ≡ c.args.k)
middle_by c =
    elim c.if-rank-lt2.branch [
      | then-rank-lt2 w ↦ ((λ below. w.over-is), (λ above. absurd (omega arith)))
      | else-rank-lt2 w ↦ ((λ below. absurd (omega arith)), (λ above. omega (arith, ints, w.over-is)))
    ]

pub invariant_of-result : goal.invariant_of-result
invariant_of-result c =
    rw (c.over.ensures, c.over-2.ensures)
    (IsPadded-moved c.args.rank c.args.outer.now c.args.middle.now _ _ c.requires (outer_by c).0 (middle_by c).0)

pub returns : goal.returns
returns c =
    let inner_by : to_z w64 (of_z w64 c.args.k) ≡ c.args.k = omega (arith, ints) in
    ap (λ r. last_of c.args.rank r c.over-2.result c.over-3.result) c.over.ensures
    ∙ ap (λ r. last_of c.args.rank (moved (to_z w64 c.if-rank-lt3.over-bits) c.args.outer.now) r c.over-3.result) c.over-2.ensures
    ∙ ap (last_of c.args.rank (moved (to_z w64 c.if-rank-lt3.over-bits) c.args.outer.now) (moved (to_z w64 c.if-rank-lt2.over-bits) c.args.middle.now)) (c.over-3.ensures ∙ ap (λ k. moved k c.args.inner.now) inner_by)
    ∙ expanded-last_of c.args.rank c.args.outer.now c.args.middle.now c.args.inner.now _ _ c.args.k c.requires (outer_by c).1 (middle_by c).1

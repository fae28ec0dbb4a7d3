-- One of the ranges is sliced.
-- These are the answers to the goals of `narrowed`.
use Rattle.std.proofs.Common.{◌≡◌, sym, ap, ◌∙◌, subst, length, ℕ, List, FitsSigned, w64, rules, arith}
use Rattle.std.proofs.lemmas.Int.{to_z-of_z}
use Rattle.dpl_sets.specs.Ranges.{RangeValue}
use Rattle.dpl_sets.specs.Indices.{indices, IsSmall}
use Rattle.dpl_domain.specs.Ranks.{last_of, point, IsPadded}
use Rattle.dpl_array.specs.Rows.{StandsIn}
use Rattle.dpl_halo.specs.Turns.{IsNarrowed}
use Rattle.dpl_halo.proofs.TurnLemmas.{bounded, inner-small, middle-small, outer-small, inner-narrowed, middle-narrowed, outer-narrowed}
use Rattle.dpl_halo.proofs.turns.narrowed.Goals as goal

pub last_of-requires-clause-small : goal.last_of-requires-clause-small
last_of-requires-clause-small c =
    let o = c.ranges-outer.result.0 in
    let m = c.ranges-outer.result.1 in
    let i = c.ranges-outer.result.2 in
    let rank = c.rank-rank.result in
    let low_fits : FitsSigned w64 c.args.low = search rules in
    let high_fits : FitsSigned w64 c.args.high = search rules in
    let members = simp to_z-of_z at c.slice.ensures.members in
    let padded : IsPadded point rank o m = subst (λ (n : ℕ). IsPadded point n o m) (sym c.rank-rank.ensures.rank) c.ranges-outer.ensures.unused in
    let small : IsSmall (last_of rank o m i) = subst (λ (n : ℕ). IsSmall (last_of n o m i)) (sym c.rank-rank.ensures.rank) (subst IsSmall c.ranges-outer.ensures.ranges c.ranges-outer.ensures.small) in
    inner-small c.args.d rank o m i c.args.low c.args.high padded small c.slice.result members

pub returns-in-1-clause-narrowed : goal.returns-in-1-clause-narrowed
returns-in-1-clause-narrowed c =
    let o = c.ranges-outer.result.0 in
    let m = c.ranges-outer.result.1 in
    let i = c.ranges-outer.result.2 in
    let rank = c.rank-rank.result in
    let low_fits : FitsSigned w64 c.args.low = search rules in
    let high_fits : FitsSigned w64 c.args.high = search rules in
    let members = simp to_z-of_z at c.slice.ensures.members in
    let padded : IsPadded point rank o m = subst (λ (n : ℕ). IsPadded point n o m) (sym c.rank-rank.ensures.rank) c.ranges-outer.ensures.unused in
    let small : IsSmall (last_of rank o m i) = subst (λ (n : ℕ). IsSmall (last_of n o m i)) (sym c.rank-rank.ensures.rank) (subst IsSmall c.ranges-outer.ensures.ranges c.ranges-outer.ensures.small) in
    let whole : last_of rank o m i ≡ c.args.turns.now = ap (λ (n : ℕ). last_of n o m i) c.rank-rank.ensures.rank ∙ sym c.ranges-outer.ensures.ranges in
    subst (λ (ds : List RangeValue). IsNarrowed c.args.d c.args.low c.args.high c.args.turns.now ds) (sym c.last_of.ensures)
    (subst (λ (ds : List RangeValue). IsNarrowed c.args.d c.args.low c.args.high ds (last_of rank o m c.slice.result)) whole
    (inner-narrowed c.args.d rank o m i c.args.low c.args.high padded small c.slice.result (omega (arith, c.in-1.is, c.requires.dimension, c.rank-rank.ensures.rank)) members))

pub returns-in-1-clause-bounded : goal.returns-in-1-clause-bounded
returns-in-1-clause-bounded c = λ t at.
    bounded c.ranges-outer.result.0 c.ranges-outer.result.1 c.ranges-outer.result.2 c.size.ensures.limits c.size-2.ensures.limits c.size-3.ensures.limits (length c.args.turns.now) t c.args.d (subst (λ (ds : List RangeValue). StandsIn (indices ds) t) c.ranges-outer.ensures.ranges at)

pub last_of-requires-in-2-clause-small : goal.last_of-requires-in-2-clause-small
last_of-requires-in-2-clause-small c =
    let o = c.ranges-outer.result.0 in
    let m = c.ranges-outer.result.1 in
    let i = c.ranges-outer.result.2 in
    let rank = c.rank-rank.result in
    let low_fits : FitsSigned w64 c.args.low = search rules in
    let high_fits : FitsSigned w64 c.args.high = search rules in
    let members = simp to_z-of_z at c.slice-in-2.ensures.members in
    let padded : IsPadded point rank o m = subst (λ (n : ℕ). IsPadded point n o m) (sym c.rank-rank.ensures.rank) c.ranges-outer.ensures.unused in
    let small : IsSmall (last_of rank o m i) = subst (λ (n : ℕ). IsSmall (last_of n o m i)) (sym c.rank-rank.ensures.rank) (subst IsSmall c.ranges-outer.ensures.ranges c.ranges-outer.ensures.small) in
    middle-small c.args.d rank o m i c.args.low c.args.high padded small c.slice-in-2.result (omega (arith, c.in-2.is)) members

pub returns-in-2-clause-narrowed : goal.returns-in-2-clause-narrowed
returns-in-2-clause-narrowed c =
    let o = c.ranges-outer.result.0 in
    let m = c.ranges-outer.result.1 in
    let i = c.ranges-outer.result.2 in
    let rank = c.rank-rank.result in
    let low_fits : FitsSigned w64 c.args.low = search rules in
    let high_fits : FitsSigned w64 c.args.high = search rules in
    let members = simp to_z-of_z at c.slice-in-2.ensures.members in
    let padded : IsPadded point rank o m = subst (λ (n : ℕ). IsPadded point n o m) (sym c.rank-rank.ensures.rank) c.ranges-outer.ensures.unused in
    let small : IsSmall (last_of rank o m i) = subst (λ (n : ℕ). IsSmall (last_of n o m i)) (sym c.rank-rank.ensures.rank) (subst IsSmall c.ranges-outer.ensures.ranges c.ranges-outer.ensures.small) in
    let whole : last_of rank o m i ≡ c.args.turns.now = ap (λ (n : ℕ). last_of n o m i) c.rank-rank.ensures.rank ∙ sym c.ranges-outer.ensures.ranges in
    subst (λ (ds : List RangeValue). IsNarrowed c.args.d c.args.low c.args.high c.args.turns.now ds) (sym c.last_of-in-2.ensures)
    (subst (λ (ds : List RangeValue). IsNarrowed c.args.d c.args.low c.args.high ds (last_of rank o c.slice-in-2.result i)) whole
    (middle-narrowed c.args.d rank o m i c.args.low c.args.high padded small c.slice-in-2.result (omega (arith, c.in-2.is, c.requires.dimension, c.rank-rank.ensures.rank)) members))

pub returns-in-2-clause-bounded : goal.returns-in-2-clause-bounded
returns-in-2-clause-bounded c = λ t at.
    bounded c.ranges-outer.result.0 c.ranges-outer.result.1 c.ranges-outer.result.2 c.size.ensures.limits c.size-2.ensures.limits c.size-3.ensures.limits (length c.args.turns.now) t c.args.d (subst (λ (ds : List RangeValue). StandsIn (indices ds) t) c.ranges-outer.ensures.ranges at)

pub last_of-requires-in_default-clause-small : goal.last_of-requires-in_default-clause-small
last_of-requires-in_default-clause-small c =
    let o = c.ranges-outer.result.0 in
    let m = c.ranges-outer.result.1 in
    let i = c.ranges-outer.result.2 in
    let rank = c.rank-rank.result in
    let low_fits : FitsSigned w64 c.args.low = search rules in
    let high_fits : FitsSigned w64 c.args.high = search rules in
    let members = simp to_z-of_z at c.slice-in_default.ensures.members in
    let padded : IsPadded point rank o m = subst (λ (n : ℕ). IsPadded point n o m) (sym c.rank-rank.ensures.rank) c.ranges-outer.ensures.unused in
    let small : IsSmall (last_of rank o m i) = subst (λ (n : ℕ). IsSmall (last_of n o m i)) (sym c.rank-rank.ensures.rank) (subst IsSmall c.ranges-outer.ensures.ranges c.ranges-outer.ensures.small) in
    outer-small c.args.d rank o m i c.args.low c.args.high padded small c.slice-in_default.result (omega arith) members

pub returns-in_default-clause-narrowed : goal.returns-in_default-clause-narrowed
returns-in_default-clause-narrowed c =
    let o = c.ranges-outer.result.0 in
    let m = c.ranges-outer.result.1 in
    let i = c.ranges-outer.result.2 in
    let rank = c.rank-rank.result in
    let low_fits : FitsSigned w64 c.args.low = search rules in
    let high_fits : FitsSigned w64 c.args.high = search rules in
    let members = simp to_z-of_z at c.slice-in_default.ensures.members in
    let padded : IsPadded point rank o m = subst (λ (n : ℕ). IsPadded point n o m) (sym c.rank-rank.ensures.rank) c.ranges-outer.ensures.unused in
    let small : IsSmall (last_of rank o m i) = subst (λ (n : ℕ). IsSmall (last_of n o m i)) (sym c.rank-rank.ensures.rank) (subst IsSmall c.ranges-outer.ensures.ranges c.ranges-outer.ensures.small) in
    let whole : last_of rank o m i ≡ c.args.turns.now = ap (λ (n : ℕ). last_of n o m i) c.rank-rank.ensures.rank ∙ sym c.ranges-outer.ensures.ranges in
    subst (λ (ds : List RangeValue). IsNarrowed c.args.d c.args.low c.args.high c.args.turns.now ds) (sym c.last_of-in_default.ensures)
    (subst (λ (ds : List RangeValue). IsNarrowed c.args.d c.args.low c.args.high ds (last_of rank c.slice-in_default.result m i)) whole
    (outer-narrowed c.args.d rank o m i c.args.low c.args.high padded small c.slice-in_default.result (omega arith) members))

pub returns-in_default-clause-bounded : goal.returns-in_default-clause-bounded
returns-in_default-clause-bounded c = λ t at.
    bounded c.ranges-outer.result.0 c.ranges-outer.result.1 c.ranges-outer.result.2 c.size.ensures.limits c.size-2.ensures.limits c.size-3.ensures.limits (length c.args.turns.now) t c.args.d (subst (λ (ds : List RangeValue). StandsIn (indices ds) t) c.ranges-outer.ensures.ranges at)

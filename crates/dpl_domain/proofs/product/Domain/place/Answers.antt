-- The place of an index is made of the places of its coordinates.
use Rattle.std.proofs.Common.{◌≡◌, sym, ◌∙◌, arith, ap, length, FitsSigned, w64, rules, pos, ◌*◌, ◌+◌, refl, Fits, subst}
use Rattle.std.proofs.lemmas.Int.{to_z-of_z}
use Rattle.std.proofs.lemmas.Option.{slice_get_within}
use Rattle.dpl_domain.proofs.TupleLemmas.{length-indices, line_count-places, line_size-places, IsFilled-IsPadded}
use Rattle.dpl_sets.specs.Ranges.{members_of}
use Rattle.dpl_sets.specs.Indices.{IsSmall}
use Rattle.dpl_domain.specs.DomainFields.{line_count, line_size}
use Rattle.dpl_domain.specs.Ranks.{last_of, IsPadded}
use Rattle.dpl_domain.proofs.PlaceLemmas.{place-one, no-outer, no-middle, no-inner, place-some, place-two, place-unused, place-steps, plane-steps, place-other}
use Rattle.dpl_domain.proofs.product.Domain.place.Goals as goal
use Rattle.dpl_domain.proofs.product.Domain.place.Goals.{After-numbers-x, After-line, After-lines}

pub returns-then-rank : goal.returns-then-rank
returns-then-rank c =
    rw c.ranges-outer.ensures.ranges
    (place-other (length c.args.self.now) c.ranges-outer.result.0 c.ranges-outer.result.1 c.ranges-outer.result.2 c.ranges-outer.ensures.unused c.args.index
    (λ same. c.if-rank.true (c.rank.ensures.rank ∙ same ∙ sym c.rank-rank.ensures.rank)))

same-rank : (c : After-numbers-x) → (c.rank.result ≡ c.rank-rank.result) → length c.args.index ≡ length c.args.self.now
same-rank c same = sym c.rank.ensures.rank ∙ same ∙ c.rank-rank.ensures.rank

-- the index is the last `rank` of its three numbers
numbers-are : (c : After-numbers-x) → (c.rank.result ≡ c.rank-rank.result) → c.args.index ≡ last_of (length c.args.self.now) c.numbers-x.result.0 c.numbers-x.result.1 c.numbers-x.result.2
numbers-are c same = c.numbers-x.ensures.coordinates ∙ ap (λ n. last_of n c.numbers-x.result.0 c.numbers-x.result.1 c.numbers-x.result.2) (same-rank c same)

padded : (c : After-numbers-x) → (c.rank.result ≡ c.rank-rank.result) → IsPadded (pos 0) (length c.args.self.now) c.numbers-x.result.0 c.numbers-x.result.1
padded c same = subst (λ n. IsPadded (pos 0) n c.numbers-x.result.0 c.numbers-x.result.1) (same-rank c same) c.numbers-x.ensures.unused

pub returns-then-rank-eq1 : goal.returns-then-rank-eq1
returns-then-rank-eq1 c =
    let before = (goal.at.returns-then-rank-eq1 c).After-numbers-x in
    let fits : FitsSigned w64 c.numbers-x.result.2 = search rules in
    let inner = simp to_z-of_z at c.place.ensures in
    rw (c.ranges-outer.ensures.ranges, numbers-are before c.if-rank.false)
    (place-one (length c.args.self.now) c.ranges-outer.result.0 c.ranges-outer.result.1 c.ranges-outer.result.2 _ _ c.numbers-x.result.2 c.place.result (sym c.rank-rank.ensures.rank ∙ c.if-rank-eq1.true) inner)

pub returns-in_err-p : goal.returns-in_err-p
returns-in_err-p c =
    let before = (goal.at.returns-in_err-p c).After-numbers-x in
    let fits : FitsSigned w64 c.numbers-x.result.0 = search rules in
    let none = simp to_z-of_z at c.in_err-p.ensures in
    rw (c.ranges-outer.ensures.ranges, c.from_residual-in_err-p.ensures)
    (no-outer (length c.args.self.now) c.ranges-outer.result.0 c.ranges-outer.result.1 c.ranges-outer.result.2 c.ranges-outer.ensures.unused c.args.index _ _ _
    (numbers-are before c.if-rank.false) (padded before c.if-rank.false) none)

pub returns-in_err-q : goal.returns-in_err-q
returns-in_err-q c =
    let before = (goal.at.returns-in_err-q c).After-numbers-x in
    let fits : FitsSigned w64 c.numbers-x.result.1 = search rules in
    let none = simp to_z-of_z at c.in_err-q.ensures in
    rw (c.ranges-outer.ensures.ranges, c.from_residual.ensures)
    (no-middle (length c.args.self.now) c.ranges-outer.result.0 c.ranges-outer.result.1 c.ranges-outer.result.2 c.ranges-outer.ensures.unused c.args.index _ _ _
    (numbers-are before c.if-rank.false) (padded before c.if-rank.false) none)

pub returns-in_err-r : goal.returns-in_err-r
returns-in_err-r c =
    let before = (goal.at.returns-in_err-r c).After-numbers-x in
    let fits : FitsSigned w64 c.numbers-x.result.2 = search rules in
    let none = simp to_z-of_z at c.in_err-r.ensures in
    rw (c.ranges-outer.ensures.ranges, c.from_residual-in_err-r.ensures)
    (no-inner (length c.args.self.now) c.ranges-outer.result.0 c.ranges-outer.result.1 c.ranges-outer.result.2 c.ranges-outer.ensures.unused c.args.index _ _ _
    (numbers-are before c.if-rank.false) (padded before c.if-rank.false) none)

-- there are few indices
small : (c : After-numbers-x) → IsSmall (last_of (length c.args.self.now) c.ranges-outer.result.0 c.ranges-outer.result.1 c.ranges-outer.result.2)
small c = subst IsSmall c.ranges-outer.ensures.ranges c.ranges-outer.ensures.small

-- the number of lines and of the indices of a line
lines-are : (c : After-numbers-x) → line_count c.args.self.now ≡ length (members_of c.ranges-outer.result.1)
lines-are c = line_count-places _ _ _ _ _ (IsFilled-IsPadded c.ranges-outer.ensures.unused) c.ranges-outer.ensures.ranges

line-is : (c : After-numbers-x) → line_size c.args.self.now ≡ length (members_of c.ranges-outer.result.2)
line-is c = line_size-places _ _ _ _ _ (IsFilled-IsPadded c.ranges-outer.ensures.unused) c.ranges-outer.ensures.ranges

-- each step on the way to a place in a plane fits
steps : (c : After-line) → Fits w64 (c.in_ok-q.q * length (members_of c.ranges-outer.result.2)) × Fits w64 (c.in_ok-q.q * length (members_of c.ranges-outer.result.2) + c.in_ok-r.r)
steps c =
    plane-steps (length c.args.self.now) c.ranges-outer.result.0 c.ranges-outer.result.1 c.ranges-outer.result.2 c.in_ok-q.q c.in_ok-r.r
    (sym c.rank-rank.ensures.rank ∙ c.if-rank-eq2.true) c.ranges-outer.ensures.unused
    (slice_get_within _ _ _ ((c.in_ok-q.ensures c.in_ok-q.q).0 refl))
    (slice_get_within _ _ _ ((c.in_ok-r.ensures c.in_ok-r.r).0 refl))
    (small (goal.at.overflow_mul-result c).After-numbers-x)

-- and in the whole
whole-steps : (c : After-lines) → Fits w64 (c.in_ok-p.p * length (members_of c.ranges-outer.result.1)) × Fits w64 (c.in_ok-p.p * length (members_of c.ranges-outer.result.1) + c.in_ok-q.q) × Fits w64 ((c.in_ok-p.p * length (members_of c.ranges-outer.result.1) + c.in_ok-q.q) * length (members_of c.ranges-outer.result.2)) × Fits w64 ((c.in_ok-p.p * length (members_of c.ranges-outer.result.1) + c.in_ok-q.q) * length (members_of c.ranges-outer.result.2) + c.in_ok-r.r)
whole-steps c =
    place-steps (length (members_of c.ranges-outer.result.0)) (length (members_of c.ranges-outer.result.1)) (length (members_of c.ranges-outer.result.2))
    c.in_ok-p.p c.in_ok-q.q c.in_ok-r.r
    (slice_get_within _ _ _ ((c.in_ok-p.ensures c.in_ok-p.p).0 refl))
    (slice_get_within _ _ _ ((c.in_ok-q.ensures c.in_ok-q.q).0 refl))
    (slice_get_within _ _ _ ((c.in_ok-r.ensures c.in_ok-r.r).0 refl))
    (omega (arith, subst IsSmall c.ranges-outer.ensures.ranges c.ranges-outer.ensures.small, length-indices (length c.args.self.now) c.ranges-outer.result.0 c.ranges-outer.result.1 c.ranges-outer.result.2 c.ranges-outer.ensures.unused))

pub overflow_mul-result : goal.overflow_mul-result
overflow_mul-result c = rw (c.line.ensures, line-is (goal.at.overflow_mul-result c).After-numbers-x) (steps c).0

pub overflow_add-result : goal.overflow_add-result
overflow_add-result c = rw (c.line.ensures, line-is (goal.at.overflow_add-result c).After-numbers-x) (steps c).1

pub returns-then-rank-eq2 : goal.returns-then-rank-eq2
returns-then-rank-eq2 c =
    let before = (goal.at.returns-then-rank-eq2 c).After-numbers-x in
    let middle_fits : FitsSigned w64 c.numbers-x.result.1 = search rules in
    let inner_fits : FitsSigned w64 c.numbers-x.result.2 = search rules in
    let middle = simp to_z-of_z at c.in_ok-q.ensures in
    let inner = simp to_z-of_z at c.in_ok-r.ensures in
    let two : length c.args.self.now ≡ 2 = sym c.rank-rank.ensures.rank ∙ c.if-rank-eq2.true in
    let is_padded = padded before c.if-rank.false in
    rw (c.line.ensures, line-is before)
    (rw c.ranges-outer.ensures.ranges
    (place-two (length c.args.self.now) c.ranges-outer.result.0 c.ranges-outer.result.1 c.ranges-outer.result.2 c.ranges-outer.ensures.unused c.args.index
    c.numbers-x.result.0 c.numbers-x.result.1 c.numbers-x.result.2 (numbers-are before c.if-rank.false) is_padded
    0 c.in_ok-q.q c.in_ok-r.r (place-unused c.ranges-outer.result.0 c.numbers-x.result.0 (c.ranges-outer.ensures.unused.first (omega arith)) (is_padded.first (omega arith))) middle inner refl))

pub overflow_mul-result-2 : goal.overflow_mul-result-2
overflow_mul-result-2 c = rw (c.lines.ensures, lines-are (goal.at.overflow_mul-result-2 c).After-numbers-x) (whole-steps (goal.at.overflow_mul-result-2 c).After-lines).0

pub overflow_add-result-2 : goal.overflow_add-result-2
overflow_add-result-2 c = rw (c.lines.ensures, lines-are (goal.at.overflow_add-result-2 c).After-numbers-x) (whole-steps (goal.at.overflow_add-result-2 c).After-lines).1

pub overflow_mul-result-3 : goal.overflow_mul-result-3
overflow_mul-result-3 c =
    let before = (goal.at.overflow_mul-result-3 c).After-numbers-x in
    rw (c.lines.ensures, lines-are before, c.line-2.ensures, line-is before) (whole-steps (goal.at.overflow_mul-result-3 c).After-lines).2

pub overflow_add-result-3 : goal.overflow_add-result-3
overflow_add-result-3 c =
    let before = (goal.at.overflow_add-result-3 c).After-numbers-x in
    rw (c.lines.ensures, lines-are before, c.line-2.ensures, line-is before) (whole-steps (goal.at.overflow_add-result-3 c).After-lines).3

pub returns : goal.returns
returns c =
    let before = (goal.at.returns c).After-numbers-x in
    let outer_fits : FitsSigned w64 c.numbers-x.result.0 = search rules in
    let middle_fits : FitsSigned w64 c.numbers-x.result.1 = search rules in
    let inner_fits : FitsSigned w64 c.numbers-x.result.2 = search rules in
    let outer = simp to_z-of_z at c.in_ok-p.ensures in
    let middle = simp to_z-of_z at c.in_ok-q.ensures in
    let inner = simp to_z-of_z at c.in_ok-r.ensures in
    rw (c.lines.ensures, lines-are before, c.line-2.ensures, line-is before)
    (rw c.ranges-outer.ensures.ranges
    (place-some (length c.args.self.now) c.ranges-outer.result.0 c.ranges-outer.result.1 c.ranges-outer.result.2 c.ranges-outer.ensures.unused c.args.index
    c.numbers-x.result.0 c.numbers-x.result.1 c.numbers-x.result.2 (numbers-are before c.if-rank.false) (padded before c.if-rank.false)
    c.in_ok-p.p c.in_ok-q.q c.in_ok-r.r outer middle inner))

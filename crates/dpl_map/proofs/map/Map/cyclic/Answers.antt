-- A start by its numbers.
use Rattle.std.proofs.Common.{rules, ◌≡◌, ap, sym, ◌∙◌, length, List, ℕ, ℤ, refl, true, false, All, IsTrue, FitsSigned, w64, to_z, of_z}
use Rattle.std.proofs.lemmas.Int.{to_z-of_z}
use Rattle.dpl_sets.specs.Ranges.{IsBound}
use Rattle.dpl_domain.specs.Ranks.{last_of}
use Rattle.dpl_map.specs.Maps.{AxisValue, cyclic_map}
use Rattle.dpl_map.proofs.StartLemmas.{All-bounds, bounds-All, cyclic_map-last_of, cyclic_axis}
use Rattle.dpl_map.proofs.map.Map.cyclic.Goals as goal
use Rattle.dpl_map.proofs.map.Map.cyclic.Goals.{After-are_bounds}

first-fits : (c : After-are_bounds) → FitsSigned w64 c.numbers-first.result.0
first-fits c = search rules

second-fits : (c : After-are_bounds) → FitsSigned w64 c.numbers-first.result.1
second-fits c = search rules

last-fits : (c : After-are_bounds) → FitsSigned w64 c.numbers-first.result.2
last-fits c = search rules

tested : (c : After-are_bounds) → IsTrue c.are_bounds.result → All IsBound c.args.start
tested c passes =
    let first_fits = first-fits c in
    let second_fits = second-fits c in
    let last_fits = last-fits c in
    let test = simp to_z-of_z at c.are_bounds.ensures in
    let bounds = test.0 passes in
    rw c.numbers-first.ensures.coordinates
    (All-bounds (length c.args.start) c.numbers-first.result.0 c.numbers-first.result.1 c.numbers-first.result.2 c.numbers-first.ensures.unused bounds.0 bounds.1 bounds.2)

bounded : (c : After-are_bounds) → All IsBound c.args.start → IsTrue c.are_bounds.result
bounded c all =
    let first_fits = first-fits c in
    let second_fits = second-fits c in
    let last_fits = last-fits c in
    let test = simp to_z-of_z at c.are_bounds.ensures in
    let of_numbers = rw c.numbers-first.ensures.coordinates at all in
    test.1 (bounds-All (length c.args.start) c.numbers-first.result.0 c.numbers-first.result.1 c.numbers-first.result.2 c.numbers-first.ensures.unused of_numbers)

untested : (c : After-are_bounds) → c.are_bounds.result ≡ false → All IsBound c.args.start → ⊥
untested c fails all = let passes : c.are_bounds.result ≡ true = bounded c all in cc

-- what the test says of the numbers that are handed on
bounds-of : (c : After-are_bounds) → IsTrue c.are_bounds.result → IsBound (to_z w64 (of_z w64 c.numbers-first.result.0)) × IsBound (to_z w64 (of_z w64 c.numbers-first.result.1)) × IsBound (to_z w64 (of_z w64 c.numbers-first.result.2))
bounds-of c passes = c.are_bounds.ensures.0 passes

pub returns-then-not-are_bounds-clause-ok : goal.returns-then-not-are_bounds-clause-ok
returns-then-not-are_bounds-clause-ok c =
    let d = (goal.at.returns-then-not-are_bounds-clause-ok c).After-are_bounds in
    ((λ e. absurd cc), (λ both. absurd (untested d c.if-not-are_bounds.true both.0)))

pub returns-then-not-are_bounds-clause-start : goal.returns-then-not-are_bounds-clause-start
returns-then-not-are_bounds-clause-start c =
    let d = (goal.at.returns-then-not-are_bounds-clause-start c).After-are_bounds in
    ((λ e all. untested d c.if-not-are_bounds.true all), (λ never. refl))

pub returns-then-not-are_bounds-clause-rank : goal.returns-then-not-are_bounds-clause-rank
returns-then-not-are_bounds-clause-rank c =
    let d = (goal.at.returns-then-not-are_bounds-clause-rank c).After-are_bounds in
    ((λ e. absurd cc), (λ both. absurd (untested d c.if-not-are_bounds.true both.0)))

pub returns-then-rank-clause-start : goal.returns-then-rank-clause-start
returns-then-rank-clause-start c =
    let d = (goal.at.returns-then-rank-clause-start c).After-are_bounds in
    let all = tested d c.if-not-are_bounds.false in
    ((λ e. absurd cc), (λ never. absurd (never all)))

pub returns-then-rank-clause-rank : goal.returns-then-rank-clause-rank
returns-then-rank-clause-rank c =
    let d = (goal.at.returns-then-rank-clause-rank c).After-are_bounds in
    let all = tested d c.if-not-are_bounds.false in
    ((λ e. (all, λ same. c.if-rank.true (c.rank.ensures.rank ∙ same ∙ sym c.rank-2.ensures.rank))), (λ both. refl))

pub cyclic-requires-clause-start_is_bound : goal.cyclic-requires-clause-start_is_bound
cyclic-requires-clause-start_is_bound c = (bounds-of (goal.at.cyclic-requires-clause-start_is_bound c).After-are_bounds c.if-not-are_bounds.false).0

pub cyclic-requires-2-clause-start_is_bound : goal.cyclic-requires-2-clause-start_is_bound
cyclic-requires-2-clause-start_is_bound c = (bounds-of (goal.at.cyclic-requires-2-clause-start_is_bound c).After-are_bounds c.if-not-are_bounds.false).1

pub cyclic-requires-3-clause-start_is_bound : goal.cyclic-requires-3-clause-start_is_bound
cyclic-requires-3-clause-start_is_bound c = (bounds-of (goal.at.cyclic-requires-3-clause-start_is_bound c).After-are_bounds c.if-not-are_bounds.false).2

pub returns-clause-ok : goal.returns-clause-ok
returns-clause-ok c =
    let d = (goal.at.returns-clause-ok c).After-are_bounds in
    let all = tested d c.if-not-are_bounds.false in
    ((λ e. (all, sym c.rank.ensures.rank ∙ c.if-rank.false ∙ c.rank-2.ensures.rank)), (λ both. refl))

pub returns-clause-start : goal.returns-clause-start
returns-clause-start c =
    let d = (goal.at.returns-clause-start c).After-are_bounds in
    let all = tested d c.if-not-are_bounds.false in
    ((λ e. absurd cc), (λ never. absurd (never all)))

pub returns-clause-held : goal.returns-clause-held
returns-clause-held c =
    let d = (goal.at.returns-clause-held c).After-are_bounds in
    let first_fits = first-fits d in
    let second_fits = second-fits d in
    let last_fits = last-fits d in
    let first = simp to_z-of_z at c.cyclic.ensures.axis in
    let second = simp to_z-of_z at c.cyclic-2.ensures.axis in
    let last = simp to_z-of_z at c.cyclic-3.ensures.axis in
    let same : length c.args.grid ≡ length c.args.start = sym c.rank-2.ensures.rank ∙ sym c.if-rank.false ∙ c.rank.ensures.rank in
    let grid = c.extents-outer.ensures.extents ∙ ap (λ (n : ℕ). last_of n c.extents-outer.result.0 c.extents-outer.result.1 c.extents-outer.result.2) same in
    let axes = c.of.ensures ∙ ap (λ (n : ℕ). last_of n c.cyclic.result c.cyclic-2.result c.cyclic-3.result) c.rank-3.ensures.rank in
    axes
    ∙ ap (λ (a : AxisValue). last_of (length c.args.start) a c.cyclic-2.result c.cyclic-3.result) first
    ∙ ap (λ (a : AxisValue). last_of (length c.args.start) (cyclic_axis c.numbers-first.result.0 c.extents-outer.result.0) a c.cyclic-3.result) second
    ∙ ap (λ (a : AxisValue). last_of (length c.args.start) (cyclic_axis c.numbers-first.result.0 c.extents-outer.result.0) (cyclic_axis c.numbers-first.result.1 c.extents-outer.result.1) a) last
    ∙ sym (cyclic_map-last_of (length c.args.start) c.numbers-first.result.0 c.numbers-first.result.1 c.numbers-first.result.2 c.extents-outer.result.0 c.extents-outer.result.1 c.extents-outer.result.2)
    ∙ sym (ap (λ (t : List ℤ). cyclic_map t (last_of (length c.args.start) c.extents-outer.result.0 c.extents-outer.result.1 c.extents-outer.result.2)) c.numbers-first.ensures.coordinates)
    ∙ sym (ap (λ (g : List ℕ). cyclic_map c.args.start g) grid)

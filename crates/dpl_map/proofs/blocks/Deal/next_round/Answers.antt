-- The least member that is left tells the round.
use Rattle.std.proofs.Common.{◌≡◌, ◌<◌, ◌+◌, ◌-◌, ◌*◌, ◌/◌, ◌+ℤ◌, ◌&&◌, ◌≤◌, ◌≤ℤ◌, ℕ, pos, int_le, filter, refl, FitsSigned, w64, ap, ◌∙◌, subst, arith, rules}
use mir.Syntax.{w128}
use Rattle.std.proofs.lemmas.Int.{to_z-of_z}
use Rattle.std.proofs.lemmas.List.Elements.{All-contains}
use Rattle.dpl_sets.specs.Ranges.{members_of}
use Rattle.dpl_map.specs.Blocks.{block_number}
use Rattle.dpl_map.proofs.RoundLemmas.{le-found, left-members, left-none, left-passed, left-past}
use Rattle.dpl_map.proofs.blocks.Deal.next_round.Goals as goal
use Rattle.dpl_map.proofs.blocks.Deal.next_round.Goals.{After-between-left, After-number, In_ok-least}

-- what is left
left-is : (c : After-between-left) → members_of c.between-left.result ≡ filter (λ i. int_le (c.args.self.now.origin +ℤ pos ((c.args.round * c.args.self.now.extent + c.args.self.now.coordinate) * c.args.self.now.size)) i && int_le i c.args.self.now.range.high) (members_of c.args.self.now.range)
left-is c =
    let deal = c.args.self.now in
    let begin_fits : FitsSigned w128 c.begin-begin.result = search rules in
    let high_fits : FitsSigned w64 c.high_bound.result = search rules in
    let high_fits_far : FitsSigned w128 c.high_bound.result = search rules in
    simp to_z-of_z at c.between-left.ensures
    ∙ ap (λ b. filter (λ i. int_le b i && int_le i c.high_bound.result) (members_of deal.range)) c.begin-begin.ensures.begin
    ∙ ap (λ h. filter (λ i. int_le (deal.origin +ℤ pos ((c.args.round * deal.extent + deal.coordinate) * deal.size)) i && int_le i h) (members_of deal.range)) c.high_bound.ensures.bound

-- the least of it lies in the round's block or behind it
least-at : (c : In_ok-least) → members_of c.between-left.result ≡ filter (λ i. int_le (c.args.self.now.origin +ℤ pos ((c.args.round * c.args.self.now.extent + c.args.self.now.coordinate) * c.args.self.now.size)) i && int_le i c.args.self.now.range.high) (members_of c.args.self.now.range) → (c.args.round * c.args.self.now.extent + c.args.self.now.coordinate ≤ block_number c.args.self.now.origin c.args.self.now.size c.in_ok-least.least) × (c.args.self.now.range.low ≤ℤ c.in_ok-least.least) × (c.in_ok-least.least ≤ℤ c.args.self.now.range.high)
least-at c left =
    let deal = c.args.self.now in
    All-contains (λ i. (c.args.round * deal.extent + deal.coordinate ≤ block_number deal.origin deal.size i) × (deal.range.low ≤ℤ i) × (i ≤ℤ deal.range.high)) (members_of c.between-left.result) c.in_ok-least.least
    (left-members deal.range deal.origin deal.size deal.extent deal.coordinate c.args.self.now.deal c.args.round (members_of c.between-left.result) left)
    c.in_ok-least.ensures.member

-- the number of its block
number-is : (c : After-number) → c.number.result ≡ block_number c.args.self.now.origin c.args.self.now.size c.in_ok-least.least
number-is c =
    let least_fits : FitsSigned w64 c.in_ok-least.least = search rules in
    simp to_z-of_z at c.number.ensures.number

pub returns-in_err-least-clause-none : goal.returns-in_err-least-clause-none
returns-in_err-least-clause-none c =
    let deal = c.args.self.now in
    λ _.
    left-none deal.range deal.origin deal.size deal.extent deal.coordinate c.args.self.now.deal c.args.round (members_of c.between-left.result) (left-is (goal.at.returns-in_err-least-clause-none c).After-between-left)
    (c.in_err-least.ensures.empty.0 refl)

pub number-requires-clause-low : goal.number-requires-clause-low
number-requires-clause-low c =
    let least_fits : FitsSigned w64 c.in_ok-least.least = search rules in
    simp to_z-of_z (least-at c (left-is (goal.at.number-requires-clause-low c).After-between-left)).1

pub number-requires-clause-high : goal.number-requires-clause-high
number-requires-clause-high c =
    let least_fits : FitsSigned w64 c.in_ok-least.least = search rules in
    simp to_z-of_z (least-at c (left-is (goal.at.number-requires-clause-high c).After-between-left)).2

pub returns-then-last-found-clause-none : goal.returns-then-last-found-clause-none
returns-then-last-found-clause-none c =
    let deal = c.args.self.now in
    let number = number-is (goal.at.returns-then-last-found-clause-none c).After-number in
    let beyond : block_number deal.origin deal.size deal.range.high < (block_number deal.origin deal.size c.in_ok-least.least + (deal.extent - 1 - deal.coordinate)) / deal.extent * deal.extent + deal.coordinate =
    subst (λ (b : ℕ). block_number deal.origin deal.size deal.range.high < (b + (deal.extent - 1 - deal.coordinate)) / deal.extent * deal.extent + deal.coordinate) number (omega (arith, c.if-last-found.true, c.last.ensures.number)) in
    λ _.
    left-past deal.range deal.origin deal.size deal.extent deal.coordinate c.args.self.now.deal c.args.round (members_of c.between-left.result) (left-is (goal.at.returns-then-last-found-clause-none c).After-between-left)
    c.in_ok-least.least c.in_ok-least.ensures.least beyond

pub returns-clause-later : goal.returns-clause-later
returns-clause-later c =
    let deal = c.args.self.now in
    let at = least-at (goal.at.returns-clause-later c).In_ok-least (left-is (goal.at.returns-clause-later c).After-between-left) in
    le-found deal.extent deal.coordinate c.number.result c.args.round c.args.self.now.deal.among (omega (arith, at.0, number-is (goal.at.returns-clause-later c).After-number))

pub returns-clause-passed : goal.returns-clause-passed
returns-clause-passed c =
    let deal = c.args.self.now in
    let number = number-is (goal.at.returns-clause-passed c).After-number in
    rw number
    (left-passed deal.range deal.origin deal.size deal.extent deal.coordinate c.args.self.now.deal c.args.round (members_of c.between-left.result) (left-is (goal.at.returns-clause-passed c).After-between-left)
    c.in_ok-least.least c.in_ok-least.ensures.least)

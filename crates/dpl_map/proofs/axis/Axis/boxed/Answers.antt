-- A range with a member has a least and a greatest one.
use Rattle.std.proofs.Common.{rules, arith, ℤ, ◌≤ℤ◌, Contains, All, subst, sym, FitsSigned, w64}
use Rattle.std.proofs.lemmas.Int.{ints, to_z-of_z}
use Rattle.dpl_sets.specs.Ranges.{members_of}
use Rattle.std.proofs.lemmas.Option.{slice_get_within, get_or_from_slice_get}
use Rattle.dpl_range.proofs.Ends.{slice_get-Contains}
use Rattle.dpl_map.proofs.BoxLemmas.{IsBound-member, unwrapped}
use Rattle.dpl_map.proofs.axis.Axis.boxed.Goals as goal
use Rattle.dpl_map.proofs.axis.Axis.boxed.Goals.{After-unwrap_or-high}

low-member : (c : After-unwrap_or-high) → Contains (members_of c.args.range.now) c.unwrap_or-low.result
low-member c =
    subst (Contains (members_of c.args.range.now)) (sym c.unwrap_or-low.ensures)
    (unwrapped (Contains (members_of c.args.range.now)) c.low.result _ (λ none. c.requires.some (c.low.ensures.empty.0 none)) c.low.ensures.member)

low-least : (c : After-unwrap_or-high) → All (λ i. c.unwrap_or-low.result ≤ℤ i) (members_of c.args.range.now)
low-least c =
    subst (λ (low : ℤ). All (λ i. low ≤ℤ i) (members_of c.args.range.now)) (sym c.unwrap_or-low.ensures)
    (unwrapped (λ low. All (λ i. low ≤ℤ i) (members_of c.args.range.now)) c.low.result _ (λ none. c.requires.some (c.low.ensures.empty.0 none)) c.low.ensures.least)

high-member : (c : After-unwrap_or-high) → Contains (members_of c.args.range.now) c.unwrap_or-high.result
high-member c =
    subst (Contains (members_of c.args.range.now)) (sym c.unwrap_or-high.ensures)
    (unwrapped (Contains (members_of c.args.range.now)) c.high.result _ (λ none. c.requires.some (c.high.ensures.empty.0 none)) c.high.ensures.member)

high-greatest : (c : After-unwrap_or-high) → All (λ i. i ≤ℤ c.unwrap_or-high.result) (members_of c.args.range.now)
high-greatest c =
    subst (λ (high : ℤ). All (λ i. i ≤ℤ high) (members_of c.args.range.now)) (sym c.unwrap_or-high.ensures)
    (unwrapped (λ high. All (λ i. i ≤ℤ high) (members_of c.args.range.now)) c.high.result _ (λ none. c.requires.some (c.high.ensures.empty.0 none)) c.high.ensures.greatest)

pub block-requires-clause-low_is_bound : goal.block-requires-clause-low_is_bound
block-requires-clause-low_is_bound c =
    let bound = IsBound-member c.args.range.now c.unwrap_or-low.result c.low_bound.ensures.limits (low-member c) in
    (omega (arith, ints, bound.0), omega (arith, ints, bound.1))

pub block-requires-clause-high_is_bound : goal.block-requires-clause-high_is_bound
block-requires-clause-high_is_bound c =
    let bound = IsBound-member c.args.range.now c.unwrap_or-high.result c.high_bound.ensures.limits (high-member c) in
    (omega (arith, ints, bound.0), omega (arith, ints, bound.1))

pub block-requires-clause-ordered : goal.block-requires-clause-ordered
block-requires-clause-ordered c =
    let at = slice_get-Contains (members_of c.args.range.now) c.unwrap_or-high.result (high-member c) in
    let within = slice_get_within (members_of c.args.range.now) at.0 c.unwrap_or-high.result at.1 in
    let least = low-least c at.0 c.unwrap_or-high.result within in
    let is = get_or_from_slice_get (members_of c.args.range.now) at.0 c.unwrap_or-high.result c.unwrap_or-high.result at.1 in
    let ordered : c.unwrap_or-low.result ≤ℤ c.unwrap_or-high.result = subst (λ (i : ℤ). c.unwrap_or-low.result ≤ℤ i) is least in
    omega (arith, ints, ordered)

pub returns-clause-box_is : goal.returns-clause-box_is
returns-clause-box_is c =
    let d = (goal.at.returns-clause-box_is c).After-unwrap_or-high in
    let low_fits : FitsSigned w64 c.unwrap_or-low.result = search rules in
    let high_fits : FitsSigned w64 c.unwrap_or-high.result = search rules in (
      c.unwrap_or-low.result,
      c.unwrap_or-high.result,
      record { low_is_member = low-member d; low_is_least = low-least d; high_is_member = high-member d; high_is_greatest = high-greatest d },
      simp to_z-of_z at c.block.ensures.axis,
    )

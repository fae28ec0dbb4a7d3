-- The least member is an end of the list, by the stride's sign.
use Rattle.std.proofs.Common.{pos, ◌<ℤ◌, ◌≤ℤ◌, arith}
use Rattle.std.proofs.lemmas.Int.{ints}
use Rattle.dpl_sets.specs.Ranges.{members_of}
use Rattle.dpl_range.specs.Invariant.{IsRange}
use Rattle.dpl_range.proofs.Ends.{IsNone-first, IsNone-last, IfSome-slice_get, least-first, least-last}
use Rattle.dpl_range.proofs.Range.low.Goals as goal

pub returns-then-self-gt0-clause-empty : goal.returns-then-self-gt0-clause-empty
returns-then-self-gt0-clause-empty c = rw c.first.ensures (IsNone-first (members_of c.args.self.now))

pub returns-then-self-gt0-clause-member : goal.returns-then-self-gt0-clause-member
returns-then-self-gt0-clause-member c = rw c.first.ensures (IfSome-slice_get (members_of c.args.self.now) _)

pub returns-then-self-gt0-clause-least : goal.returns-then-self-gt0-clause-least
returns-then-self-gt0-clause-least c =
    let limits : IsRange c.args.self.now = rw (← c.self.view_is) c.self.invariant in
    let rises : pos 0 <ℤ c.args.self.now.stride = rw (← c.self.view_is) (omega (arith, ints)) in
    rw c.first.ensures (least-first c.args.self.now limits rises)

pub returns-else-self-gt0-clause-empty : goal.returns-else-self-gt0-clause-empty
returns-else-self-gt0-clause-empty c = rw c.last.ensures (IsNone-last (members_of c.args.self.now))

pub returns-else-self-gt0-clause-member : goal.returns-else-self-gt0-clause-member
returns-else-self-gt0-clause-member c = rw c.last.ensures (IfSome-slice_get (members_of c.args.self.now) _)

pub returns-else-self-gt0-clause-least : goal.returns-else-self-gt0-clause-least
returns-else-self-gt0-clause-least c =
    let limits : IsRange c.args.self.now = rw (← c.self.view_is) c.self.invariant in
    let falls : c.args.self.now.stride ≤ℤ pos 0 = rw (← c.self.view_is) (omega (arith, ints)) in
    rw c.last.ensures (least-last c.args.self.now limits falls)

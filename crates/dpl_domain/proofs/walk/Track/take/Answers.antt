-- The next term comes one step later.
use Rattle.std.proofs.Common.{◌≡◌, arith, ◌+ℤ◌, w64, to_z, of_z}
use Rattle.std.proofs.lemmas.Int.{ints}
use Rattle.dpl_domain.proofs.ProgressionLemmas.{first-bound, rest-bounds, progression-rest}
use Rattle.dpl_domain.proofs.walk.Track.take.Goals as goal
use Rattle.dpl_domain.proofs.walk.Track.take.Goals.{Start}

pub overflow_add-self : goal.overflow_add-self
overflow_add-self c =
    let bound = first-bound c.args.self.now.next c.args.self.now.step c.args.self.now.left c.requires c.args.self.now.bounded in
    omega (arith, ints, bound.0, bound.1, c.args.self.now.short)

-- the step taken, without the casts on the way
stepped : (c : Start) → to_z w64 (of_z w64 (to_z w64 (of_z w64 c.args.self.now.next) +ℤ to_z w64 (of_z w64 c.args.self.now.step))) ≡ c.args.self.now.next +ℤ c.args.self.now.step
stepped c =
    let bound = first-bound c.args.self.now.next c.args.self.now.step c.args.self.now.left c.requires c.args.self.now.bounded in
    omega (arith, ints, bound.0, bound.1, c.args.self.now.short)

pub invariant_of-self : goal.invariant_of-self
invariant_of-self c =
    let e = stepped (goal.at.invariant_of-self c).Start in
    record {
      bounded = rw e (rest-bounds c.args.self.now.next c.args.self.now.step c.args.self.now.left c.args.self.now.bounded);
      short = c.args.self.now.short;
    }

pub returns-clause-rest : goal.returns-clause-rest
returns-clause-rest c =
    rw (stepped (goal.at.returns-clause-rest c).Start) (progression-rest c.args.self.now.next c.args.self.now.step c.args.self.now.left)

-- So many elements are taken over, in the order of the domain.
-- This is what the loop of `dealt` keeps.
use Rattle.std.proofs.Common.{◌≤◌, ◌-◌, length}
use Rattle.dpl_sets.specs.Indices.{indices}
use Rattle.dpl_contents.specs.Dealt.{HasTaken}
use Rattle.dpl_contents.proofs.dealt.dealt.Given as goal

abbrev pub invariant-loop-place : goal.invariant-loop-place
invariant-loop-place l = HasTaken l.fn.array l.fn.map l.place l.anew × (l.place ≤ length (indices l.fn.array.domain))

abbrev pub decreases-loop-place : goal.decreases-loop-place
decreases-loop-place l = length (indices l.fn.array.domain) - l.place

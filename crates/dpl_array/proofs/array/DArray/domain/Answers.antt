-- The union of the pieces is an array.
-- These are the answers to the goals of `DArray::domain`.
use Rattle.std.proofs.Common.{subst}
use Rattle.dpl_array.specs.Arrays.{IsArray}
use Rattle.dpl_array.proofs.UnionLemmas.{union-over}
use Rattle.dpl_array.proofs.array.DArray.domain.Goals as goal

pub returns-clause-keys : goal.returns-clause-keys
returns-clause-keys g c = subst IsArray c.self.view_is (union-over c.self.inside.pieces c.self.invariant.1 c.self.invariant.0)

use Rattle.std.proofs.Common.{length}
use Rattle.dpl_bodies.proofs.scope.ForallScope.+are_variables.Given as goal

-- fewer names are left
abbrev pub decreases-are_variables : goal.decreases-are_variables
decreases-are_variables l = length l.names.now

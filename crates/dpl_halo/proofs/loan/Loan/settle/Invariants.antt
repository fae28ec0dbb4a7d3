-- The elements that are taken out of the loan are in the array.
-- This is what the loop of `Loan::settle` keeps.
use Rattle.std.proofs.Common.{length}
use Rattle.dpl_halo.proofs.SettleLemmas.{IsSettling}
use Rattle.dpl_halo.proofs.loan.Loan.settle.Given as goal

abbrev pub invariant-loop-element : goal.invariant-loop-element
invariant-loop-element g l = IsSettling l.fn.self.elements l.fn.array l.left.elements l.array

abbrev pub decreases-loop-element : goal.decreases-loop-element
decreases-loop-element g l = length l.left.elements

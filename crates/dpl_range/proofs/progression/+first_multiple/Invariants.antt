-- The search goes down the remainders of Euclid's algorithm.
use Rattle.dpl_range.proofs.progression.+first_multiple.Given as goal

abbrev pub decreases-first_multiple : goal.decreases-first_multiple
decreases-first_multiple l = l.n

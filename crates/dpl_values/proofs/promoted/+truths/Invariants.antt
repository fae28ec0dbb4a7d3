-- The first array among the operands that are left is that of all of them.
use Rattle.std.proofs.Common.{◌≡◌, drop}
use Rattle.dpl_values.specs.Reducing.{first_of_truth_links}
use Rattle.dpl_values.proofs.promoted.+truths.Given as goal

abbrev pub invariant-linked_truth_array-loop-link : goal.invariant-linked_truth_array-loop-link
invariant-linked_truth_array-loop-link l = first_of_truth_links (drop l.link-index l.links) ≡ first_of_truth_links l.links

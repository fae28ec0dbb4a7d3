-- The first array among the operands that are left is that of all of them.
use Rattle.std.proofs.Common.{◌≡◌, drop}
use Rattle.dpl_values.specs.Reducing.{first_of_int_links}
use Rattle.dpl_values.proofs.promoted.+ints.Given as goal

abbrev pub invariant-linked_array-loop-link : goal.invariant-linked_array-loop-link
invariant-linked_array-loop-link l = first_of_int_links (drop l.link-index l.links) ≡ first_of_int_links l.links

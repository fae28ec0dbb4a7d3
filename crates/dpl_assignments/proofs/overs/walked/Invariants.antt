-- Before each mark stand the scopes that the marks before it leave open, and the arrays in them are found.
use Rattle.std.proofs.Common.{◌≡◌, take, reverse}
use Rattle.dpl_scopes.specs.Marks.{scopes_by}
use Rattle.dpl_assignments.specs.Overs.{IsFoundBy}
use Rattle.dpl_assignments.proofs.overs.walked.Given as goal

abbrev pub invariant-loop-mark : goal.invariant-loop-mark
invariant-loop-mark l = record {
  before : l.walk.before ≡ scopes_by (reverse (take l.mark-index l.marks));
  found : IsFoundBy l.slot l.walk.before l.walk.slots.items l.walk.inner;
}

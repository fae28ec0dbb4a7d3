-- Of the indices that are left the values are still to be gathered; the others have their words.
use Rattle.std.proofs.Common.{◌≡◌, drop}
use Rattle.dpl_language.specs.Ranges.{indices_in}
use Rattle.dpl_simple.proofs.Gathered.{AreGathered}
use Rattle.dpl_simple.proofs.declare.gathered.Given as goal

abbrev pub invariant-loop-place : goal.invariant-loop-place
invariant-loop-place g l = record {
  gathered : AreGathered (g.E.Elements.element l.e l.frame.limits l.frame.memory) l.fn.domain l.indices l.array;
  left : l.indices ≡ drop l.place (indices_in l.fn.domain);
}

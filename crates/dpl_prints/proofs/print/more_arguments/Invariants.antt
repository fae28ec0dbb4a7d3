-- What is left to tell from here is what was to tell at first.
-- What is made of those that are left, behind those so far, is made of all; and so is what they do.
use Rattle.std.proofs.Common.{◌≡◌, ◌++◌, map, drop, None}
use Rattle.dpl_rules.specs.Breaches.{least_from}
use Rattle.dpl_rules.specs.Doings.{arguments_deeds}
use Rattle.dpl_deeds.specs.View.{deed_view}
use Rattle.dpl_bound.specs.Sights.{AreKnownScopes}
use Rattle.dpl_prints.specs.Plain.{ArePlainArguments}
use Rattle.dpl_prints.specs.Told.{printed_told, arguments_in}
use Rattle.dpl_prints.specs.Made.{AreSoFar}
use Rattle.dpl_prints.proofs.print.more_arguments.Given as goal

abbrev pub invariant-loop-next : goal.invariant-loop-next
invariant-loop-next l = record {
  told : least_from l.first (printed_told l.scopes l.in_task (arguments_in (drop l.next-index l.others))) ≡ least_from l.initial.first (printed_told l.scopes l.in_task (arguments_in l.others));
  plain : ArePlainArguments l.scopes (arguments_in l.others) → ArePlainArguments l.scopes (arguments_in (drop l.next-index l.others));
  made : l.first ≡ None → AreKnownScopes l.scopes → ArePlainArguments l.scopes (arguments_in l.others)
      → AreSoFar l.scopes l.initial.shown.items (arguments_in l.others) (arguments_in (drop l.next-index l.others)) l.shown.items;
  done : (map deed_view l.deeds.items ++ arguments_deeds l.scopes (arguments_in (drop l.next-index l.others))) ≡ (map deed_view l.initial.deeds.items ++ arguments_deeds l.scopes (arguments_in l.others));
}

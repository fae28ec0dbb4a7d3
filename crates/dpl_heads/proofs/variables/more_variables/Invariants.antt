-- What is left declares and tells what all declared and told at first; the slots so far, with those of what is left, are those of all.
use Rattle.std.proofs.Common.{◌≡◌, ◌++◌, drop}
use Rattle.dpl_rules.specs.Breaches.{least_from}
use Rattle.dpl_rules.specs.Loops.{add_variables, each_once}
use Rattle.dpl_scopes.specs.Types.{of_type}
use Rattle.dpl_heads.specs.Listed.{names_in, slots_from}
use Rattle.dpl_heads.proofs.variables.more_variables.Given as goal

abbrev pub invariant-loop-next : goal.invariant-loop-next
invariant-loop-next l =
    let left = names_in (drop l.next-index l.others) in
    let all = names_in l.others in
    record {
      scopes : add_variables (of_type l.found) left l.scopes ≡ add_variables (of_type l.found) all l.initial.scopes;
      told : least_from l.first (each_once l.scopes left) ≡ least_from l.initial.first (each_once l.initial.scopes all);
      slots : l.slots.items ++ slots_from (of_type l.found) left l.scopes ≡ slots_from (of_type l.found) all l.initial.scopes;
    }

-- What is left tells what all told at first; what is kept so far, with what is kept of what is left, is what is kept of all.
use Rattle.std.proofs.Common.{◌≡◌, ◌++◌, map, drop}
use Rattle.dpl_rules.specs.Breaches.{least_from}
use Rattle.dpl_nodes.specs.Steps.{intent_view}
use Rattle.dpl_heads.specs.Listed.{intents_in}
use Rattle.dpl_heads.specs.Made.{kept_all}
use Rattle.dpl_heads.specs.Seen.{seen_told}
use Rattle.dpl_heads.proofs.intents.more_intents.Given as goal

abbrev pub invariant-loop-next : goal.invariant-loop-next
invariant-loop-next l =
    let left = intents_in (drop l.next-index l.others) in
    let all = intents_in l.others in
    record {
      told : least_from l.first (seen_told l.scopes l.seen left) ≡ least_from l.initial.first (seen_told l.scopes l.initial.seen all);
      kept : map intent_view l.kept.items ++ kept_all l.scopes left ≡ map intent_view l.initial.kept.items ++ kept_all l.scopes all;
    }

use Rattle.std.proofs.Common.{◌≡◌, ◌++◌, map, drop}
use Rattle.dpl_tree.specs.View.{more_items_of}
use Rattle.dpl_rules.specs.Deeds.{more_items_index as more_items_index_of}
use Rattle.dpl_deeds.specs.View.{index_view}
use Rattle.dpl_deeds.proofs.index.more_items_index.Given as goal

-- what is left gives what all gave at first
abbrev pub invariant-loop-next : goal.invariant-loop-next
invariant-loop-next l =
    (map index_view l.parts.items ++ more_items_index_of l.scopes (more_items_of (drop l.next-index l.others)))
    ≡ (map index_view l.initial.parts.items ++ more_items_index_of l.scopes (more_items_of l.others))

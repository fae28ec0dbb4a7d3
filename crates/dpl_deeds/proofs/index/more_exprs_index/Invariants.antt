use Rattle.std.proofs.Common.{◌≡◌, ◌++◌, map, drop}
use Rattle.dpl_tree.specs.View.{more_exprs_of}
use Rattle.dpl_rules.specs.Deeds.{more_exprs_index as more_exprs_index_of}
use Rattle.dpl_deeds.specs.View.{index_view}
use Rattle.dpl_deeds.proofs.index.more_exprs_index.Given as goal

-- what is left gives what all gave at first
abbrev pub invariant-loop-next : goal.invariant-loop-next
invariant-loop-next l =
    (map index_view l.parts.items ++ more_exprs_index_of l.scopes (more_exprs_of (drop l.next-index l.others)))
    ≡ (map index_view l.initial.parts.items ++ more_exprs_index_of l.scopes (more_exprs_of l.others))

use Rattle.std.proofs.Common.{◌≡◌, drop, length}
use Rattle.dpl_sets.specs.Ranges.{members_of}
use Rattle.dpl_language.specs.Outcome.{in_order, repeated}
use Rattle.dpl_language.specs.Ranges.{indices_in}
use Rattle.dpl_language.specs.Statements.{exec_all, holds}
use Rattle.dpl_memory.specs.Memory.{in_memory}
use Rattle.dpl_nodes.specs.Typed.{truth_view}
use Rattle.dpl_readings.specs.Readings.{steps_in}
use Rattle.dpl_coming.specs.Noting.{noting}
use Rattle.dpl_coming.specs.Walks.{Goes}
use Rattle.dpl_elements.specs.Turns.{in_turn}
use Rattle.dpl_steps.specs.Noted.{turn_noted, index_noted}
use Rattle.dpl_steps.proofs.+run.Given as goal

-- what was to run at first goes over to what is left to run, from here
abbrev pub invariant-statement::walk-loop-k : goal.invariant-statement::walk-loop-k
invariant-statement::walk-loop-k g l = record {
  goes : let limits = l.initial.frame.limits in
      Goes g.C.Context.site (g.C.Context.known l.context l.initial.out) (g.C.Context.known l.context l.out) l.initial.frame.memory l.frame.memory
      (exec_all limits (noting (g.C.Context.note l.context)) (steps_in g.C.Context.standing (drop l.first l.steps))) (exec_all limits (noting (g.C.Context.note l.context)) (steps_in g.C.Context.standing (drop l.k l.steps)));
  limits : l.frame.limits ≡ l.initial.frame.limits;
  held : g.C.Context.held l.context l.out;
}

abbrev pub invariant-statement::while_loop-loop-left : goal.invariant-statement::while_loop-loop-left
invariant-statement::while_loop-loop-left g l = record {
  goes : let limits = l.initial.frame.limits in
      Goes g.C.Context.site (g.C.Context.known l.context l.initial.out) (g.C.Context.known l.context l.out) l.initial.frame.memory l.frame.memory
      (repeated limits.budget l.at (holds limits in_memory (truth_view l.condition)) (exec_all limits (noting (g.C.Context.note l.context)) (steps_in g.C.Context.standing l.body)))
      (repeated l.left l.at (holds limits in_memory (truth_view l.condition)) (exec_all limits (noting (g.C.Context.note l.context)) (steps_in g.C.Context.standing l.body)));
  limits : l.frame.limits ≡ l.initial.frame.limits;
  held : g.C.Context.held l.context l.out;
}

abbrev pub decreases-statement::while_loop-loop-left : goal.decreases-statement::while_loop-loop-left
decreases-statement::while_loop-loop-left g l = l.left

abbrev pub invariant-statement::walked_while-loop-left : goal.invariant-statement::walked_while-loop-left
invariant-statement::walked_while-loop-left g l = record {
  goes : let limits = l.initial.frame.limits in
      Goes g.C.Context.site (g.C.Context.known l.context l.initial.out) (g.C.Context.known l.context l.out) l.initial.frame.memory l.frame.memory
      (repeated l.most l.at (holds limits in_memory (truth_view l.condition)) (exec_all limits (noting (g.C.Context.note l.context)) (steps_in g.C.Context.standing l.body)))
      (repeated l.left l.at (holds limits in_memory (truth_view l.condition)) (exec_all limits (noting (g.C.Context.note l.context)) (steps_in g.C.Context.standing l.body)));
  limits : l.frame.limits ≡ l.initial.frame.limits;
  held : g.C.Context.held l.context l.out;
}

abbrev pub decreases-statement::walked_while-loop-left : goal.decreases-statement::walked_while-loop-left
decreases-statement::walked_while-loop-left g l = l.left

-- all turns of the loop go over to those that are left
abbrev pub invariant-statement::turns-loop-k : goal.invariant-statement::turns-loop-k
invariant-statement::turns-loop-k g l = record {
  goes : let turn = turn_noted l.fn.frame.limits (g.C.Context.note l.context) l.slot (steps_in g.C.Context.standing l.body) in
      Goes g.C.Context.site (g.C.Context.known l.context l.fn.out) (g.C.Context.known l.context l.out) l.fn.frame.memory l.frame.memory
      (in_turn turn (members_of l.range)) (in_turn turn (drop l.k (members_of l.range)));
  limits : l.frame.limits ≡ l.fn.frame.limits;
  held : g.C.Context.held l.context l.out;
}

abbrev pub invariant-each::domain_turns-loop-index : goal.invariant-each::domain_turns-loop-index
invariant-each::domain_turns-loop-index g l = record {
  goes : let turn = index_noted l.fn.frame.limits (g.C.Context.note l.context) l.names (steps_in g.C.Context.standing l.body) in
      Goes g.C.Context.site (g.C.Context.known l.context l.fn.out) (g.C.Context.known l.context l.out) l.fn.frame.memory l.frame.memory
      (in_order turn (indices_in l.fn.domain)) (in_order turn l.indices);
  limits : l.frame.limits ≡ l.fn.frame.limits;
  held : g.C.Context.held l.context l.out;
}

abbrev pub decreases-each::domain_turns-loop-index : goal.decreases-each::domain_turns-loop-index
decreases-each::domain_turns-loop-index g l = length l.indices

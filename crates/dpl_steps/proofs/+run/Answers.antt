-- Statements by their forms, and the turns of loops one by one.
-- What a statement does is a walk whatever is noted and to come.
use Rattle.std.proofs.Common.{◌≡◌, ◌≤◌, ◌<◌, ◌-◌, arith, ℤ, pos, true, false, ◌∷◌, ◌+◌, drop, length, get_or, slice_get, Some, None, Ok, refl, sym, subst, ap, ◌∙◌, rules, w64, FitsSigned, Err}
use Rattle.std.proofs.lemmas.List.{drop_all}
use Rattle.std.proofs.lemmas.Option.{slice_get-get_or}
use Rattle.std.proofs.lemmas.Result.{err_from_is_err_and}
use Rattle.std.proofs.lemmas.Int.{to_z-of_z}
use Rattle.dpl_sets.specs.Ranges.{members_of}
use Rattle.dpl_sets.specs.Indices.{indices}
use Rattle.dpl_range.proofs.Lists.{drop-slice_get}
use Rattle.dpl_array.proofs.WalkLemmas.{walk-next, walk-end}
use Rattle.dpl_syntax.proofs.Walks.{drop-end}
use Rattle.dpl_language.specs.Tree.{One, Set}
use Rattle.dpl_language.specs.Values.{Truth, Fault, fault, Budget, Domain as DomainValue}
use Rattle.dpl_language.specs.Outcome.{then_do, in_order, repeated}
use Rattle.dpl_language.specs.Expressions.{value_of}
use Rattle.dpl_language.specs.Statements.{holds, exec, exec_all, exec_else}
use Rattle.dpl_lowered.specs.Shapes.{nowhere}
use Rattle.dpl_words.specs.Words.{RangeLeaf}
use Rattle.dpl_memory.specs.Memory.{in_memory}
use Rattle.dpl_nodes.specs.Typed.{truth_view, range_item, domain_view}
use Rattle.dpl_nodes.specs.Steps.{variable_in, names_view}
use Rattle.dpl_nodes.proofs.Unread.{item_read-range}
use Rattle.dpl_contents.specs.Range.{range_word}
use Rattle.dpl_frame.specs.Frames.{Framed}
use Rattle.dpl_frame.specs.Faults.{as_range}
use Rattle.dpl_loop.specs.Tells.{TellsSame}
use Rattle.dpl_loop.proofs.Ends.{ends-alike}
use Rattle.dpl_readings.specs.Readings.{step_in, else_in, steps_in}
use Rattle.dpl_readings.proofs.Views.{for_each_in, forall_in, block_in, if_in, headed_in, for_in, forall_line_in}
use Rattle.dpl_coming.specs.Noting.{noting}
use Rattle.dpl_coming.specs.Walks.{with_rest, Goes}
use Rattle.dpl_coming.proofs.Unseen.{value-unseen}
use Rattle.dpl_coming.proofs.Walking.{goes-nothing, goes-over, goes-then, walks-goes, walks-same, walks-wider, walks-over, walks-end}
use Rattle.dpl_values.specs.Reductions.{EachInInts, EachInTruths, EachInRange, EachInDomain}
use Rattle.dpl_elements.specs.Turns.{in_turn, looped_over}
use Rattle.dpl_elements.proofs.Dealing.{some-of-whole}
use Rattle.dpl_elements.proofs.Changing.{exec-declared, exec-assigned}
use Rattle.dpl_elements.proofs.Branching.{scoped-same, holds-value}
use Rattle.dpl_simple.proofs.Noted.{then-noted, else-noted, fault-noted}
use Rattle.dpl_steps.specs.Noted.{turn_noted, index_noted}
use Rattle.dpl_steps.proofs.Refusing.{some-of-forall, some-of-declared}
use Rattle.dpl_steps.proofs.Looping.{for-domain, for-turns, repeated-fault, repeated-ends, holds-fault, exec-headed, for-fault, repeated-past}
use Rattle.dpl_steps.proofs.Telling.{told-fault}
use Rattle.dpl_steps.proofs.Walked.{walks-form, walks-as, walks-from, walks-unfound, goes-next, walks-next-halts, goes-while, walks-while-halts, goes-turn, walks-turn-halts, goes-index, walks-index-halts, looped_over-unseen, holds-unseen, turn-begun, index-begun}
use Rattle.dpl_steps.proofs.+run.Goals as goal

-- DECLARATIONS AND ASSIGNMENTS

pub statement::statement-returns-in-Truth-clause-ends : goal.statement::statement-returns-in-Truth-clause-ends
statement::statement-returns-in-Truth-clause-ends g t c =
    let note = g.C.Context.note c.args.context.now in
    let site = g.C.Context.site in
    walks-form note _ _ site _ g.C.Context.standing c.args.frame.now.limits c.args.step.now _ c.truth.result _ c.args.frame.now.memory c.truth.new.frame.memory (λ m. m) c.in-Truth.is tt c.truth.ensures.ends

pub statement::statement-returns-in-SetElement-clause-ends : goal.statement::statement-returns-in-SetElement-clause-ends
statement::statement-returns-in-SetElement-clause-ends g t c =
    let note = g.C.Context.note c.args.context.now in
    let site = g.C.Context.site in
    walks-form note _ _ site _ g.C.Context.standing c.args.frame.now.limits c.args.step.now _ c.element.result _ c.args.frame.now.memory c.element.new.frame.memory (λ m. m) c.in-SetElement.is tt c.element.ensures.ends

pub statement::any_statement-returns-in-Int-clause-ends : goal.statement::any_statement-returns-in-Int-clause-ends
statement::any_statement-returns-in-Int-clause-ends g t c =
    let note = g.C.Context.note c.args.context.now in
    let site = g.C.Context.site in
    walks-form note _ _ site _ g.C.Context.standing c.args.frame.now.limits c.args.step.now _ c.int.result _ c.args.frame.now.memory c.int.new.frame.memory (λ m. m) c.in-Int.is tt c.int.ensures.ends

pub statement::any_statement-returns-in-DeclareRange-clause-ends : goal.statement::any_statement-returns-in-DeclareRange-clause-ends
statement::any_statement-returns-in-DeclareRange-clause-ends g t c =
    let note = g.C.Context.note c.args.context.now in
    let site = g.C.Context.site in
    let limits = c.args.frame.now.limits in
    let w = c.args.frame.now.memory in
    walks-form note _ _ site _ g.C.Context.standing limits c.args.step.now _ c.range.result _ w c.range.new.frame.memory (λ m. m) c.in-DeclareRange.is tt
    (λ done. ends-alike _ c.range.result c.range.new.frame.memory done _ _ (exec-declared limits RangeLeaf c.in-DeclareRange.slot (range_item c.in-DeclareRange.e.now) w done (item_read-range c.in-DeclareRange.e.now)) (c.range.ensures.ends done))

pub statement::any_statement-returns-in-SetRange-clause-ends : goal.statement::any_statement-returns-in-SetRange-clause-ends
statement::any_statement-returns-in-SetRange-clause-ends g t c =
    let note = g.C.Context.note c.args.context.now in
    let site = g.C.Context.site in
    let limits = c.args.frame.now.limits in
    let w = c.args.frame.now.memory in
    walks-form note _ _ site _ g.C.Context.standing limits c.args.step.now _ c.range-in-SetRange.result _ w c.range-in-SetRange.new.frame.memory (λ m. m) c.in-SetRange.is tt
    (λ done. ends-alike _ c.range-in-SetRange.result c.range-in-SetRange.new.frame.memory done _ _ (exec-assigned limits RangeLeaf c.in-SetRange.slot Set nowhere (range_item c.in-SetRange.e.now) w done (item_read-range c.in-SetRange.e.now)) (c.range-in-SetRange.ensures.ends done))

pub statement::any_statement-returns-in-Truth-clause-ends : goal.statement::any_statement-returns-in-Truth-clause-ends
statement::any_statement-returns-in-Truth-clause-ends g t c =
    let note = g.C.Context.note c.args.context.now in
    let site = g.C.Context.site in
    walks-form note _ _ site _ g.C.Context.standing c.args.frame.now.limits c.args.step.now _ c.truth.result _ c.args.frame.now.memory c.truth.new.frame.memory (λ m. m) c.in-Truth.is tt c.truth.ensures.ends

-- DOMAINS AND ARRAYS

pub statement::any_statement-returns-in-DeclareDomain-clause-ends : goal.statement::any_statement-returns-in-DeclareDomain-clause-ends
statement::any_statement-returns-in-DeclareDomain-clause-ends g t c =
    let note = g.C.Context.note c.args.context.now in
    let site = g.C.Context.site in
    walks-form note _ _ site _ g.C.Context.standing c.args.frame.now.limits c.args.step.now _ c.declare_domain.result _ c.args.frame.now.memory c.declare_domain.new.frame.memory (λ m. m) c.in-DeclareDomain.is tt c.declare_domain.ensures.ends

pub statement::any_statement-returns-in-SetDomain-clause-ends : goal.statement::any_statement-returns-in-SetDomain-clause-ends
statement::any_statement-returns-in-SetDomain-clause-ends g t c =
    let note = g.C.Context.note c.args.context.now in
    let site = g.C.Context.site in
    walks-form note _ _ site _ g.C.Context.standing c.args.frame.now.limits c.args.step.now _ c.set_domain.result _ c.args.frame.now.memory c.set_domain.new.frame.memory (λ m. m) c.in-SetDomain.is tt c.set_domain.ensures.ends

pub statement::any_statement-returns-in-DeclareArray-clause-ends : goal.statement::any_statement-returns-in-DeclareArray-clause-ends
statement::any_statement-returns-in-DeclareArray-clause-ends g t c =
    let note = g.C.Context.note c.args.context.now in
    let site = g.C.Context.site in
    walks-form note _ _ site _ g.C.Context.standing c.args.frame.now.limits c.args.step.now _ c.declare_array_by.result _ c.args.frame.now.memory c.declare_array_by.new.frame.memory
    (some-of-declared _ c.args.frame.now c.in-DeclareArray.declared.now) c.in-DeclareArray.is tt c.declare_array_by.ensures.ends

pub statement::any_statement-returns-in-SetElement-clause-ends : goal.statement::any_statement-returns-in-SetElement-clause-ends
statement::any_statement-returns-in-SetElement-clause-ends g t c =
    let note = g.C.Context.note c.args.context.now in
    let site = g.C.Context.site in
    walks-form note _ _ site _ g.C.Context.standing c.args.frame.now.limits c.args.step.now _ c.element.result _ c.args.frame.now.memory c.element.new.frame.memory (λ m. m) c.in-SetElement.is tt c.element.ensures.ends

pub statement::any_statement-returns-in-SetArray-clause-ends : goal.statement::any_statement-returns-in-SetArray-clause-ends
statement::any_statement-returns-in-SetArray-clause-ends g t c =
    let note = g.C.Context.note c.args.context.now in
    let site = g.C.Context.site in
    walks-form note _ _ site _ g.C.Context.standing c.args.frame.now.limits c.args.step.now _ c.set_array.result _ c.args.frame.now.memory c.set_array.new.frame.memory
    (some-of-whole _ c.args.frame.now (EachInInts c.in-SetArray.e.now) _ _) c.in-SetArray.is tt c.set_array.ensures.ends

pub statement::any_statement-returns-in-SetTruthArray-clause-ends : goal.statement::any_statement-returns-in-SetTruthArray-clause-ends
statement::any_statement-returns-in-SetTruthArray-clause-ends g t c =
    let note = g.C.Context.note c.args.context.now in
    let site = g.C.Context.site in
    walks-form note _ _ site _ g.C.Context.standing c.args.frame.now.limits c.args.step.now _ c.set_truth_array.result _ c.args.frame.now.memory c.set_truth_array.new.frame.memory
    (some-of-whole _ c.args.frame.now (EachInTruths c.in-SetTruthArray.e.now) _ _) c.in-SetTruthArray.is tt c.set_truth_array.ensures.ends

-- BLOCKS, BRANCHES AND LOOPS

pub statement::any_statement-returns-in-Block-clause-ends : goal.statement::any_statement-returns-in-Block-clause-ends
statement::any_statement-returns-in-Block-clause-ends g t c =
    let note = g.C.Context.note c.args.context.now in
    let site = g.C.Context.site in
    let standing = g.C.Context.standing in
    let limits = c.args.frame.now.limits in
    walks-as _ site _ c.run.result _ _ c.args.frame.now.memory c.run.new.frame.memory _ _
    (λ m d. ap (λ s. exec limits (noting note) (step_in standing s) m d) c.in-Block.is ∙ ap (λ t. exec limits (noting note) t m d) (block_in standing c.in-Block.steps) ∙ scoped-same (exec_all limits (noting note) (steps_in standing c.in-Block.steps.now)) m d)
    c.run.ensures.ends

pub statement::statement-returns-in-Some-true-clause-ends : goal.statement::statement-returns-in-Some-true-clause-ends
statement::statement-returns-in-Some-true-clause-ends g t c =
    let note = g.C.Context.note c.args.context.now in
    let site = g.C.Context.site in
    let standing = g.C.Context.standing in
    let limits = c.args.frame.now.limits in
    let w = c.args.frame.now.memory in
    let holding : c.in-Some-true.field-0 ≡ true = search rules in
    walks-same site _ _ c.run.result _ _ w c.run.new.frame.memory _ _
    (λ rest d. ap (λ s. exec limits (noting note) (step_in standing s) (with_rest site rest w) d) c.in-If.is
    ∙ ap (λ t. exec limits (noting note) t (with_rest site rest w) d) (if_in standing c.in-If.condition c.in-If.body c.in-If.otherwise)
    ∙ then-noted limits note (truth_view c.in-If.condition.now) (steps_in standing c.in-If.body.now) (else_in standing c.in-If.otherwise) (with_rest site rest w) d
    (value-unseen limits site rest (truth_view c.in-If.condition.now) None w ∙ c.in-Some-true.ensures ∙ ap (λ b. Ok (Truth b)) holding))
    c.run.ensures.ends

pub statement::any_statement-returns-then-get-clause-ends : goal.statement::any_statement-returns-then-get-clause-ends
statement::any_statement-returns-then-get-clause-ends g t c =
    let note = g.C.Context.note c.args.context.now in
    let site = g.C.Context.site in
    let standing = g.C.Context.standing in
    let limits = c.args.frame.now.limits in
    let w = c.args.frame.now.memory in
    let holding : c.in_ok-truth_value-in-If.field-0 ≡ true = search rules in
    walks-same site _ _ c.run-then-get.result _ _ w c.run-then-get.new.frame.memory _ _
    (λ rest d. ap (λ s. exec limits (noting note) (step_in standing s) (with_rest site rest w) d) c.in-If.is
    ∙ ap (λ t. exec limits (noting note) t (with_rest site rest w) d) (if_in standing c.in-If.condition c.in-If.body c.in-If.otherwise)
    ∙ then-noted limits note (truth_view c.in-If.condition.now) (steps_in standing c.in-If.body.now) (else_in standing c.in-If.otherwise) (with_rest site rest w) d
    (value-unseen limits site rest (truth_view c.in-If.condition.now) None w ∙ c.in_ok-truth_value-in-If.ensures ∙ ap (λ b. Ok (Truth b)) holding))
    c.run-then-get.ensures.ends

pub statement::any_statement-returns-in-Headed-While-default-default-default-clause-ends : goal.statement::any_statement-returns-in-Headed-While-default-default-default-clause-ends
statement::any_statement-returns-in-Headed-While-default-default-default-clause-ends g t c =
    let note = g.C.Context.note c.args.context.now in
    let site = g.C.Context.site in
    let standing = g.C.Context.standing in
    let limits = c.args.frame.now.limits in
    let s = c.in-Headed-While-default-default-default in
    walks-as _ site _ c.while_loop.result _ _ c.args.frame.now.memory c.while_loop.new.frame.memory _ _
    (λ m d. ap (λ s. exec limits (noting note) (step_in standing s) m d) s.is
    ∙ ap (λ t. exec limits (noting note) t m d) (headed_in standing s.word s.at s.condition s.body)
    ∙ exec-headed limits note s.word s.at.now (truth_view s.condition.now) (steps_in standing s.body.now) m d)
    c.while_loop.ensures.ends

pub statement::any_statement-returns-in-For-clause-ends : goal.statement::any_statement-returns-in-For-clause-ends
statement::any_statement-returns-in-For-clause-ends g t c =
    let note = g.C.Context.note c.args.context.now in
    let site = g.C.Context.site in
    let standing = g.C.Context.standing in
    let limits = c.args.frame.now.limits in
    walks-as _ site _ c.for_loop.result _ _ c.args.frame.now.memory c.for_loop.new.frame.memory _ _
    (λ m d. ap (λ s. exec limits (noting note) (step_in standing s) m d) c.in-For.is ∙ ap (λ t. exec limits (noting note) t m d) (for_in standing c.in-For.at c.in-For.slot c.in-For.over c.in-For.body))
    c.for_loop.ensures.ends

pub statement::any_statement-returns-in-Forall-clause-ends : goal.statement::any_statement-returns-in-Forall-clause-ends
statement::any_statement-returns-in-Forall-clause-ends g t c =
    let note = g.C.Context.note c.args.context.now in
    let site = g.C.Context.site in
    let standing = g.C.Context.standing in
    let limits = c.args.frame.now.limits in
    let w = c.args.frame.now.memory in
    walks-as _ site _ c.forall_line.result _ _ w c.forall_line.new.frame.memory _ _
    (λ m d. ap (λ s. exec limits (noting note) (step_in standing s) m d) c.in-Forall.is
    ∙ ap (λ t. exec limits (noting note) t m d) (forall_line_in standing c.in-Forall.at c.in-Forall.slot c.in-Forall.over c.in-Forall.changed c.in-Forall.body))
    (walks-wider site _ _ _ c.forall_line.result _ _ w c.forall_line.new.frame.memory _ (some-of-forall _ c.args.frame.now (EachInRange c.in-Forall.over.now) _ _ _) c.forall_line.ensures.ends)

pub statement::for_loop-returns-clause-ends : goal.statement::for_loop-returns-clause-ends
statement::for_loop-returns-clause-ends g t c =
    let note = g.C.Context.note c.args.context.now in
    let site = g.C.Context.site in
    let limits = c.args.frame.now.limits in
    let w = c.args.frame.now.memory in
    walks-same site _ _ c.turns.result _ _ w c.turns.new.frame.memory _ _
    (λ rest d. for-turns limits note c.args.slot (steps_in g.C.Context.standing c.args.body.now) c.args.at.now (range_item c.args.over.now) (with_rest site rest w) d (range_word c.in_ok-range.field-0)
    (looped_over-unseen site rest limits c.args.at.now (range_item c.args.over.now) w ∙ c.in_ok-range.ensures))
    c.turns.ensures.ends

-- TURNS

pub statement::turns-returns-in_err-turn-clause-ends : goal.statement::turns-returns-in_err-turn-clause-ends
statement::turns-returns-in_err-turn-clause-ends g t c =
    let note = g.C.Context.note c.args.context.now in
    let site = g.C.Context.site in
    let standing = g.C.Context.standing in
    let is = members_of c.args.range in
    let k = c.loop-k.k in
    let i : ℤ = get_or is k (pos 0) in
    let within : k < length is = subst (λ n. k < n) c.size-k-end.ensures.length c.loop-k-test.true in
    let at : slice_get is k ≡ Some i = slice_get-get_or is k (pos 0) within in
    let h = c.in_err-turn.field-0.0 in
    let p = err_from_is_err_and c.from_residual.result c.from_residual.ensures.1 in
    rw (p.1, p.2)
    (walks-turn-halts note _ site _ c.args.frame.now.limits c.loop-k.frame.limits c.loop-k.invariant.limits _ _ _ c.args.frame.now.memory c.loop-k.frame.memory c.turn.new.frame.memory _
    c.args.slot (steps_in standing c.args.body.now) (drop k is) (drop (k + 1) is) i (drop-slice_get is k i at) c.loop-k.invariant.goes h (c.in_err-turn.ensures.ends i at))

pub statement::turns-loop-k-init : goal.statement::turns-loop-k-init
statement::turns-loop-k-init g t c =
    let note = g.C.Context.note c.args.context.now in
    let site = g.C.Context.site in
    let standing = g.C.Context.standing in
    record {
      goes = c.in-Ok.ensures.goes standing note site _;
      limits = c.in-Ok.ensures.limits;
      held = search rules;
    }

pub statement::turns-loop-k-preserved : goal.statement::turns-loop-k-preserved
statement::turns-loop-k-preserved g t c =
    let note = g.C.Context.note c.args.context.now in
    let site = g.C.Context.site in
    let standing = g.C.Context.standing in
    let is = members_of c.args.range in
    let k = c.loop-k.k in
    let i : ℤ = get_or is k (pos 0) in
    let within : k < length is = subst (λ n. k < n) c.size-k-end.ensures.length c.loop-k-test.true in
    let at : slice_get is k ≡ Some i = slice_get-get_or is k (pos 0) within in
    record {
      goes =
          goes-turn note _ site _ c.args.frame.now.limits c.loop-k.frame.limits c.loop-k.invariant.limits _ _ _ c.args.frame.now.memory c.loop-k.frame.memory c.turn.new.frame.memory _
          c.args.slot (steps_in standing c.args.body.now) (drop k is) (drop (k + 1) is) i (drop-slice_get is k i at) c.loop-k.invariant.goes _ (c.in_ok-turn.ensures.ends i at);
      limits = c.in_ok-turn.ensures.limits ∙ c.loop-k.invariant.limits;
      held = search rules;
    }

pub statement::turns-returns-clause-ends : goal.statement::turns-returns-clause-ends
statement::turns-returns-clause-ends g t c =
    let note = g.C.Context.note c.args.context.now in
    let site = g.C.Context.site in
    let standing = g.C.Context.standing in
    let is = members_of c.args.range in
    let k = c.loop-k.k in
    let past : length is ≤ k = omega (arith, c.size-k-end.ensures.length, c.loop-k-test.false) in
    walks-end site _ _ _ _ _ c.args.frame.now.memory c.loop-k.frame.memory _ _
    (λ rest done. ap (λ is. in_turn (turn_noted c.args.frame.now.limits note c.args.slot (steps_in standing c.args.body.now)) is (with_rest site rest c.loop-k.frame.memory) done) (drop_all k is past)) c.loop-k.invariant.goes

-- WHILES

pub statement::while_loop-loop-left-init : goal.statement::while_loop-loop-left-init
statement::while_loop-loop-left-init g t c =
    let note = g.C.Context.note c.args.context.now in
    let site = g.C.Context.site in
    let limits = c.args.frame.now.limits in
    let same : c.budget-left.result ≡ limits.budget = search rules in
    let out = g.C.Context.known c.args.context.now c.args.out.now in
    record {
      goes =
          subst (λ n. Goes site out out c.args.frame.now.memory c.args.frame.now.memory
          (repeated limits.budget c.args.at.now (holds limits in_memory (truth_view c.args.condition.now)) (exec_all limits (noting note) (steps_in g.C.Context.standing c.args.body.now)))
          (repeated n c.args.at.now (holds limits in_memory (truth_view c.args.condition.now)) (exec_all limits (noting note) (steps_in g.C.Context.standing c.args.body.now)))) (sym same)
          (goes-nothing site _ c.args.frame.now.memory _);
      limits = refl;
      held = search rules;
    }

pub statement::while_loop-loop-left-preserved : goal.statement::while_loop-loop-left-preserved
statement::while_loop-loop-left-preserved g t c =
    let note = g.C.Context.note c.args.context.now in
    let site = g.C.Context.site in
    let some : 0 < c.loop-left.left = search rules in
    let met : c.is_met.result ≡ true = search rules in
    record {
      goes =
          goes-while note _ site _ c.args.frame.now.limits c.loop-left.frame.limits c.loop-left.invariant.limits _ _ _ c.args.frame.now.memory c.loop-left.frame.memory c.run.new.frame.memory _
          c.args.at.now (truth_view c.args.condition.now) (steps_in g.C.Context.standing c.args.body.now) c.loop-left.left some (c.is_met.ensures met) c.loop-left.invariant.goes _ c.in_ok-run.ensures.ends;
      limits = c.in_ok-run.ensures.limits ∙ c.loop-left.invariant.limits;
      held = search rules;
    }

pub statement::while_loop-returns-in_err-run-clause-ends : goal.statement::while_loop-returns-in_err-run-clause-ends
statement::while_loop-returns-in_err-run-clause-ends g t c =
    let note = g.C.Context.note c.args.context.now in
    let site = g.C.Context.site in
    let some : 0 < c.loop-left.left = search rules in
    let met : c.is_met.result ≡ true = search rules in
    let p = err_from_is_err_and c.from_residual.result c.from_residual.ensures.1 in
    rw (p.1, p.2)
    (walks-while-halts note _ site _ c.args.frame.now.limits c.loop-left.frame.limits c.loop-left.invariant.limits _ _ _ c.args.frame.now.memory c.loop-left.frame.memory c.run.new.frame.memory _
    c.args.at.now (truth_view c.args.condition.now) (steps_in g.C.Context.standing c.args.body.now) c.loop-left.left some (c.is_met.ensures met) c.loop-left.invariant.goes c.in_err-run.field-0.0 c.in_err-run.ensures.ends)

pub statement::while_loop-returns-clause-ends : goal.statement::while_loop-returns-clause-ends
statement::while_loop-returns-clause-ends g t c =
    let note = g.C.Context.note c.args.context.now in
    let site = g.C.Context.site in
    let e = truth_view c.args.condition.now in
    walks-goes site _ _ c.walked_while.result _ _ _ c.args.frame.now.memory c.loop-left.frame.memory c.walked_while.new.frame.memory _ _ c.loop-left.invariant.goes
    (walks-as _ site _ c.walked_while.result _ _ c.loop-left.frame.memory c.walked_while.new.frame.memory _ _
    (λ m d. ap (λ l. repeated c.loop-left.left c.args.at.now (holds l in_memory e) (exec_all l (noting note) (steps_in g.C.Context.standing c.args.body.now)) m d) (sym c.loop-left.invariant.limits))
    c.walked_while.ensures.ends)

-- WHILES, from where turns are left on

pub statement::walked_while-loop-left-init : goal.statement::walked_while-loop-left-init
statement::walked_while-loop-left-init g t c =
    let site = g.C.Context.site in
    record { goes = goes-nothing site _ c.args.frame.now.memory _; limits = refl; held = search rules }

pub statement::walked_while-returns-in_err-truth_value-clause-ends : goal.statement::walked_while-returns-in_err-truth_value-clause-ends
statement::walked_while-returns-in_err-truth_value-clause-ends g t c =
    let note = g.C.Context.note c.args.context.now in
    let site = g.C.Context.site in
    let limits = c.args.frame.now.limits in
    let e = truth_view c.args.condition.now in
    let body = exec_all limits (noting note) (steps_in g.C.Context.standing c.args.body.now) in
    let w = c.loop-left.frame.memory in
    let p = err_from_is_err_and c.from_residual.result c.from_residual.ensures.1 in
    rw (p.1, p.2)
    (walks-goes site _ _ _ _ _ _ c.args.frame.now.memory w w _ _ c.loop-left.invariant.goes
    (walks-unfound _ _ Truth site _ c.in_err-truth_value.field-0.0 (value_of c.loop-left.frame.limits in_memory e None) _ w w _ (λ m. m.0)
    (λ rest. value-unseen c.loop-left.frame.limits site rest e None w)
    (λ m d f is. repeated-fault c.args.at.now (holds limits in_memory e) body c.loop-left.left m d f (holds-fault limits e m f (ap (λ l. value_of l in_memory e None m) (sym c.loop-left.invariant.limits) ∙ is)))
    c.in_err-truth_value.ensures))

pub statement::walked_while-loop-left-preserved : goal.statement::walked_while-loop-left-preserved
statement::walked_while-loop-left-preserved g t c =
    let note = g.C.Context.note c.args.context.now in
    let site = g.C.Context.site in
    let holding : c.in_ok-truth_value.field-0 ≡ true = search rules in
    let some : 0 < c.loop-left.left = search rules in
    record {
      goes =
          goes-while note _ site _ c.args.frame.now.limits c.loop-left.frame.limits c.loop-left.invariant.limits _ _ _ c.args.frame.now.memory c.loop-left.frame.memory c.run.new.frame.memory _
          c.args.at.now (truth_view c.args.condition.now) (steps_in g.C.Context.standing c.args.body.now) c.loop-left.left some (c.in_ok-truth_value.ensures ∙ ap (λ b. Ok (Truth b)) holding) c.loop-left.invariant.goes _ c.in_ok-run.ensures.ends;
      limits = c.in_ok-run.ensures.limits ∙ c.loop-left.invariant.limits;
      held = search rules;
    }

pub statement::walked_while-returns-in_err-run-clause-ends : goal.statement::walked_while-returns-in_err-run-clause-ends
statement::walked_while-returns-in_err-run-clause-ends g t c =
    let note = g.C.Context.note c.args.context.now in
    let site = g.C.Context.site in
    let holding : c.in_ok-truth_value.field-0 ≡ true = search rules in
    let some : 0 < c.loop-left.left = search rules in
    let p = err_from_is_err_and c.from_residual-in_err-run.result c.from_residual-in_err-run.ensures.1 in
    rw (p.1, p.2)
    (walks-while-halts note _ site _ c.args.frame.now.limits c.loop-left.frame.limits c.loop-left.invariant.limits _ _ _ c.args.frame.now.memory c.loop-left.frame.memory c.run.new.frame.memory _
    c.args.at.now (truth_view c.args.condition.now) (steps_in g.C.Context.standing c.args.body.now) c.loop-left.left some (c.in_ok-truth_value.ensures ∙ ap (λ b. Ok (Truth b)) holding) c.loop-left.invariant.goes c.in_err-run.field-0.0 c.in_err-run.ensures.ends)

pub statement::walked_while-returns-clause-ends : goal.statement::walked_while-returns-clause-ends
statement::walked_while-returns-clause-ends g t c =
    let note = g.C.Context.note c.args.context.now in
    let site = g.C.Context.site in
    let limits = c.args.frame.now.limits in
    let e = truth_view c.args.condition.now in
    let w = c.loop-left.frame.memory in
    let holding : c.in_ok-truth_value.field-0 ≡ false = search rules in
    walks-end site _ _ _ _ _ c.args.frame.now.memory w _ _
    (λ rest done. repeated-ends c.args.at.now (holds limits in_memory e) (exec_all limits (noting note) (steps_in g.C.Context.standing c.args.body.now)) c.loop-left.left (with_rest site rest w) done
    (holds-unseen site rest limits e w ∙ holds-value limits e w false (ap (λ l. value_of l in_memory e None w) (sym c.loop-left.invariant.limits) ∙ c.in_ok-truth_value.ensures ∙ ap (λ b. Ok (Truth b)) holding)))
    c.loop-left.invariant.goes

-- LOOPS OVER DOMAINS

pub statement::any_statement-returns-in-ForEach-clause-ends : goal.statement::any_statement-returns-in-ForEach-clause-ends
statement::any_statement-returns-in-ForEach-clause-ends g t c =
    let note = g.C.Context.note c.args.context.now in
    let site = g.C.Context.site in
    let standing = g.C.Context.standing in
    let limits = c.args.frame.now.limits in
    walks-as _ site _ c.for_each.result _ _ c.args.frame.now.memory c.for_each.new.frame.memory _ _
    (λ m d. ap (λ s. exec limits (noting note) (step_in standing s) m d) c.in-ForEach.is
    ∙ ap (λ t. exec limits (noting note) t m d) (for_each_in standing c.in-ForEach.at c.in-ForEach.names c.in-ForEach.over c.in-ForEach.body))
    c.for_each.ensures.ends

pub statement::any_statement-returns-in-ForallEach-clause-ends : goal.statement::any_statement-returns-in-ForallEach-clause-ends
statement::any_statement-returns-in-ForallEach-clause-ends g t c =
    let note = g.C.Context.note c.args.context.now in
    let site = g.C.Context.site in
    let standing = g.C.Context.standing in
    let limits = c.args.frame.now.limits in
    let w = c.args.frame.now.memory in
    walks-as _ site _ c.forall.result _ _ w c.forall.new.frame.memory _ _
    (λ m d. ap (λ s. exec limits (noting note) (step_in standing s) m d) c.in-ForallEach.is
    ∙ ap (λ t. exec limits (noting note) t m d) (forall_in standing c.in-ForallEach.at c.in-ForallEach.names c.in-ForallEach.over c.in-ForallEach.changed c.in-ForallEach.body))
    (walks-wider site _ _ _ c.forall.result _ _ w c.forall.new.frame.memory _ (some-of-forall _ c.args.frame.now (EachInDomain c.in-ForallEach.over.now) _ _ _) c.forall.ensures.ends)

pub each::for_each-returns-clause-ends : goal.each::for_each-returns-clause-ends
each::for_each-returns-clause-ends g t c =
    let note = g.C.Context.note c.args.context.now in
    let site = g.C.Context.site in
    let standing = g.C.Context.standing in
    let limits = c.args.frame.now.limits in
    let w = c.args.frame.now.memory in
    walks-same site _ _ c.domain_turns.result _ _ w c.domain_turns.new.frame.memory _ _
    (λ rest d. for-domain limits note c.args.names.now (steps_in standing c.args.body.now) c.args.at.now (One (domain_view c.args.over.now)) (with_rest site rest w) d c.in_ok-domain.domain
    (looped_over-unseen site rest limits c.args.at.now (One (domain_view c.args.over.now)) w ∙ c.in_ok-domain.ensures))
    c.domain_turns.ensures.ends

pub each::domain_turns-loop-index-init : goal.each::domain_turns-loop-index-init
each::domain_turns-loop-index-init g t c =
    let note = g.C.Context.note c.args.context.now in
    let site = g.C.Context.site in
    let standing = g.C.Context.standing in
    let w = c.args.frame.now.memory in
    let next = c.calm_domain_rows.new.frame.memory in
    let turn = index_noted c.args.frame.now.limits note c.args.names.now (steps_in standing c.args.body.now) in
    let behind = drop c.in-Ok.made (indices c.domain-over.result) in
    let o = g.C.Context.known c.args.context.now c.args.out.now in
    record {
      goes = goes-then site o o o w next next _ _ _
          (subst (λ rs. Goes site o o w next (in_order turn (indices rs)) (in_order turn behind)) c.domain-over.ensures.domain (c.in-Ok.ensures.goes standing note site o))
          (goes-over site o next next _ _ (λ rest d. ap (λ ts. in_order turn ts (with_rest site rest next) d) (sym c.indices_behind-indices.ensures)));
      limits = c.in-Ok.ensures.limits;
      held = search rules;
    }

pub each::domain_turns-returns-in_err-domain_turn-clause-ends : goal.each::domain_turns-returns-in_err-domain_turn-clause-ends
each::domain_turns-returns-in_err-domain_turn-clause-ends g t c =
    let note = g.C.Context.note c.args.context.now in
    let site = g.C.Context.site in
    let standing = g.C.Context.standing in
    let ts = c.loop-index.indices in
    let left = walk-next ts c.in-Some.index (sym c.in-Some.ensures.next) in
    let p = err_from_is_err_and c.from_residual.result c.from_residual.ensures.1 in
    rw (p.1, p.2)
    (walks-index-halts note _ site _ c.args.frame.now.limits c.loop-index.frame.limits c.loop-index.invariant.limits _ _ _ c.args.frame.now.memory c.loop-index.frame.memory c.domain_turn.new.frame.memory _
    c.args.names.now (steps_in standing c.args.body.now) ts left.0 c.in-Some.index left.1 c.loop-index.invariant.goes c.in_err-domain_turn.field-0.0 c.in_err-domain_turn.ensures.ends)

pub each::domain_turns-loop-index-preserved : goal.each::domain_turns-loop-index-preserved
each::domain_turns-loop-index-preserved g t c =
    let note = g.C.Context.note c.args.context.now in
    let site = g.C.Context.site in
    let standing = g.C.Context.standing in
    let ts = c.loop-index.indices in
    let left = walk-next ts c.in-Some.index (sym c.in-Some.ensures.next) in
    let rest : c.next.new.self ≡ left.0 = c.next.ensures.rest ∙ ap (drop 1) left.1 in
    record {
      goes =
          goes-index note _ site _ c.args.frame.now.limits c.loop-index.frame.limits c.loop-index.invariant.limits _ _ _ c.args.frame.now.memory c.loop-index.frame.memory c.domain_turn.new.frame.memory _
          c.args.names.now (steps_in standing c.args.body.now) ts c.next.new.self c.in-Some.index (left.1 ∙ ap (λ us. c.in-Some.index ∷ us) (sym rest)) c.loop-index.invariant.goes _ c.in_ok-domain_turn.ensures.ends;
      limits = c.in_ok-domain_turn.ensures.limits ∙ c.loop-index.invariant.limits;
      held = search rules;
    }

pub each::domain_turns-returns-clause-ends : goal.each::domain_turns-returns-clause-ends
each::domain_turns-returns-clause-ends g t c =
    let note = g.C.Context.note c.args.context.now in
    let site = g.C.Context.site in
    let standing = g.C.Context.standing in
    let limits = c.args.frame.now.limits in
    let none = walk-end c.loop-index.indices (sym c.in_default-next.ensures.next) in
    walks-end site _ _ _ _ _ c.args.frame.now.memory c.loop-index.frame.memory _ _
    (λ rest done. ap (λ ts. in_order (index_noted limits note c.args.names.now (steps_in standing c.args.body.now)) ts (with_rest site rest c.loop-index.frame.memory) done) none) c.loop-index.invariant.goes

pub each::domain_turn-returns-clause-limits : goal.each::domain_turn-returns-clause-limits
each::domain_turn-returns-clause-limits g t c = c.run.ensures.limits ∙ ap (λ (f : Framed). f.limits) c.bind.ensures

pub statement::alternative-returns-then-direct_statement-clause-ends : goal.statement::alternative-returns-then-direct_statement-clause-ends
statement::alternative-returns-then-direct_statement-clause-ends g t c =
    let note = g.C.Context.note c.args.context.now in
    let site = g.C.Context.site in
    let standing = g.C.Context.standing in
    let limits = c.args.frame.now.limits in
    let w = c.args.frame.now.memory in
    let next = c.direct_statement.new.frame.memory in
    let made : c.direct_statement.result ≡ true = search rules in
    walks-as _ site _ (Ok tt) _ _ w next _ _
    (λ m d. ap (λ o. exec_else limits (noting note) (else_in standing o) m d) c.in-Do.is ∙ scoped-same (exec limits (noting note) (step_in standing c.in-Do.step.now)) m d)
    (walks-over site _ _ (Ok tt) _ w next _ (λ rest d. c.direct_statement.ensures.done made standing note site rest d))

pub statement::alternative-returns-else-direct_statement-clause-ends : goal.statement::alternative-returns-else-direct_statement-clause-ends
statement::alternative-returns-else-direct_statement-clause-ends g t c =
    let note = g.C.Context.note c.args.context.now in
    let site = g.C.Context.site in
    let standing = g.C.Context.standing in
    let limits = c.args.frame.now.limits in
    let w = c.args.frame.now.memory in
    let step = step_in standing c.in-Do.step.now in
    let same : c.direct_statement.new.frame ≡ c.args.frame.now = search rules in
    walks-from _ site _ c.statement.result _ _ w c.direct_statement.new.frame.memory c.statement.new.frame.memory _ _
    (λ rest d. ap (λ o. exec_else limits (noting note) (else_in standing o) (with_rest site rest w) d) c.in-Do.is
    ∙ scoped-same (exec limits (noting note) step) (with_rest site rest w) d
    ∙ ap (λ (f : Framed). exec f.limits (noting note) step (with_rest site rest f.memory) d) (sym same))
    c.statement.ensures.ends

pub statement::alternative-returns-in-Absent-clause-ends : goal.statement::alternative-returns-in-Absent-clause-ends
statement::alternative-returns-in-Absent-clause-ends g t c =
    let note = g.C.Context.note c.args.context.now in
    let site = g.C.Context.site in
    let w = c.args.frame.now.memory in
    walks-over site _ _ (Ok tt) _ w w _ (λ rest d. ap (λ o. exec_else c.args.frame.now.limits (noting note) (else_in g.C.Context.standing o) (with_rest site rest w) d) c.in-Absent.is)

pub statement::any_statement-returns-in_err-truth_value-in-If-clause-ends : goal.statement::any_statement-returns-in_err-truth_value-in-If-clause-ends
statement::any_statement-returns-in_err-truth_value-in-If-clause-ends g t c =
    let note = g.C.Context.note c.args.context.now in
    let site = g.C.Context.site in
    let standing = g.C.Context.standing in
    let limits = c.args.frame.now.limits in
    let e = truth_view c.in-If.condition.now in
    let w = c.args.frame.now.memory in
    let p = err_from_is_err_and c.from_residual.result c.from_residual.ensures.1 in
    rw (p.1, p.2)
    (walks-unfound _ _ Truth site _ c.in_err-truth_value-in-If.field-0.0 (value_of limits in_memory e None) _ w w _ (λ m. m.0) (λ rest. value-unseen limits site rest e None w)
    (λ m d f is. ap (λ s. exec limits (noting note) (step_in standing s) m d) c.in-If.is
    ∙ ap (λ t. exec limits (noting note) t m d) (if_in standing c.in-If.condition c.in-If.body c.in-If.otherwise)
    ∙ fault-noted limits note e (steps_in standing c.in-If.body.now) (else_in standing c.in-If.otherwise) m d f is)
    c.in_err-truth_value-in-If.ensures)

pub statement::any_statement-returns-in-Nothing-clause-ends : goal.statement::any_statement-returns-in-Nothing-clause-ends
statement::any_statement-returns-in-Nothing-clause-ends g t c =
    let note = g.C.Context.note c.args.context.now in
    let site = g.C.Context.site in
    let w = c.args.frame.now.memory in
    walks-over site _ _ (Ok tt) _ w w _ (λ rest d. ap (λ s. exec c.args.frame.now.limits (noting note) (step_in g.C.Context.standing s) (with_rest site rest w) d) c.in-Nothing.is)

pub statement::any_statement-returns-else-get-clause-ends : goal.statement::any_statement-returns-else-get-clause-ends
statement::any_statement-returns-else-get-clause-ends g t c =
    let note = g.C.Context.note c.args.context.now in
    let site = g.C.Context.site in
    let standing = g.C.Context.standing in
    let limits = c.args.frame.now.limits in
    let w = c.args.frame.now.memory in
    let holding : c.in_ok-truth_value-in-If.field-0 ≡ false = search rules in
    walks-same site _ _ c.alternative.result _ _ w c.alternative.new.frame.memory _ _
    (λ rest d. ap (λ s. exec limits (noting note) (step_in standing s) (with_rest site rest w) d) c.in-If.is
    ∙ ap (λ t. exec limits (noting note) t (with_rest site rest w) d) (if_in standing c.in-If.condition c.in-If.body c.in-If.otherwise)
    ∙ else-noted limits note (truth_view c.in-If.condition.now) (steps_in standing c.in-If.body.now) (else_in standing c.in-If.otherwise) (with_rest site rest w) d
    (value-unseen limits site rest (truth_view c.in-If.condition.now) None w ∙ c.in_ok-truth_value-in-If.ensures ∙ ap (λ b. Ok (Truth b)) holding))
    c.alternative.ensures.ends

pub statement::for_loop-returns-in_err-range-clause-ends : goal.statement::for_loop-returns-in_err-range-clause-ends
statement::for_loop-returns-in_err-range-clause-ends g t c =
    let note = g.C.Context.note c.args.context.now in
    let site = g.C.Context.site in
    let limits = c.args.frame.now.limits in
    let w = c.args.frame.now.memory in
    let item = range_item c.args.over.now in
    let p = err_from_is_err_and c.from_residual.result c.from_residual.ensures.1 in
    rw (p.1, p.2)
    (walks-unfound _ _ as_range site _ c.in_err-range.field-0.0 (looped_over limits c.args.at.now item) _ w w _ (λ m. m.0) (λ rest. looped_over-unseen site rest limits c.args.at.now item w)
    (λ m d f is. for-fault limits note (variable_in c.args.slot) (steps_in g.C.Context.standing c.args.body.now) c.args.at.now item m d f is)
    c.in_err-range.ensures)

pub statement::run-returns-then-made-steps-clause-ends : goal.statement::run-returns-then-made-steps-clause-ends
statement::run-returns-then-made-steps-clause-ends g t c =
    let note = g.C.Context.note c.args.context.now in
    let site = g.C.Context.site in
    let standing = g.C.Context.standing in
    let limits = c.args.frame.now.limits in
    let steps = c.args.steps.now in
    let made = c.direct_statements-made.result in
    let next = c.direct_statements-made.new.frame.memory in
    let all : made ≡ length steps = search rules in
    let past : length steps ≤ made = omega (arith, all) in
    walks-end site _ _ _ _ _ c.args.frame.now.memory next _ _ (λ rest d. ap (λ ss. exec_all limits (noting note) (steps_in standing ss) (with_rest site rest next) d) (drop-end steps made past))
    (c.direct_statements-made.ensures.goes standing note site _)

pub statement::run-returns-clause-ends : goal.statement::run-returns-clause-ends
statement::run-returns-clause-ends g t c =
    let note = g.C.Context.note c.args.context.now in
    let site = g.C.Context.site in
    let standing = g.C.Context.standing in
    let steps = c.args.steps.now in
    let made = c.direct_statements-made.result in
    let next = c.direct_statements-made.new.frame.memory in
    walks-goes site _ _ c.walk.result _ _ _ c.args.frame.now.memory next c.walk.new.frame.memory _ _
    (c.direct_statements-made.ensures.goes standing note site _)
    (walks-as _ site _ c.walk.result _ _ next c.walk.new.frame.memory _ _
    (λ m d. ap (λ l. exec_all l (noting note) (steps_in standing (drop made steps)) m d) (sym c.direct_statements-made.ensures.limits)) c.walk.ensures.ends)

pub statement::statement-returns-in-Some-false-clause-ends : goal.statement::statement-returns-in-Some-false-clause-ends
statement::statement-returns-in-Some-false-clause-ends g t c =
    let note = g.C.Context.note c.args.context.now in
    let site = g.C.Context.site in
    let standing = g.C.Context.standing in
    let limits = c.args.frame.now.limits in
    let w = c.args.frame.now.memory in
    let holding : c.in-Some-false.field-0 ≡ false = search rules in
    walks-same site _ _ c.alternative.result _ _ w c.alternative.new.frame.memory _ _
    (λ rest d. ap (λ s. exec limits (noting note) (step_in standing s) (with_rest site rest w) d) c.in-If.is
    ∙ ap (λ t. exec limits (noting note) t (with_rest site rest w) d) (if_in standing c.in-If.condition c.in-If.body c.in-If.otherwise)
    ∙ else-noted limits note (truth_view c.in-If.condition.now) (steps_in standing c.in-If.body.now) (else_in standing c.in-If.otherwise) (with_rest site rest w) d
    (value-unseen limits site rest (truth_view c.in-If.condition.now) None w ∙ c.in-Some-false.ensures ∙ ap (λ b. Ok (Truth b)) holding))
    c.alternative.ensures.ends

pub statement::turns-returns-in_default-clause-ends : goal.statement::turns-returns-in_default-clause-ends
statement::turns-returns-in_default-clause-ends g t c =
    let site = g.C.Context.site in
    walks-over site _ _ _ _ c.args.frame.now.memory _ _ (λ rest d. tt)

pub statement::walk-loop-k-init : goal.statement::walk-loop-k-init
statement::walk-loop-k-init g t c =
    let site = g.C.Context.site in
    record { goes = goes-nothing site _ c.args.frame.now.memory _; limits = refl; held = search rules }

pub statement::turn-returns-clause-ends : goal.statement::turn-returns-clause-ends
statement::turn-returns-clause-ends g t c = λ i at.
    let note = g.C.Context.note c.args.context.now in
    let site = g.C.Context.site in
    let standing = g.C.Context.standing in
    let limits = c.args.frame.now.limits in
    let w = c.args.frame.now.memory in
    let body = steps_in standing c.args.body.now in
    let f = c.set_number.new.self in
    let same : c.in-Some.i ≡ i = search rules in
    let fits : FitsSigned w64 c.in-Some.i = search rules in
    let set = simp to_z-of_z at c.set_number.ensures in
    walks-from _ site _ c.run.result _ _ w f.memory c.run.new.frame.memory _ _
    (λ rest d. ap (λ j. turn_noted limits note c.args.slot body j (with_rest site rest w) d) (sym same)
    ∙ turn-begun site rest limits note body c.args.slot c.in-Some.i w d
    ∙ ap (λ (f : Framed). exec_all f.limits (noting note) body (with_rest site rest f.memory) d) (sym set))
    c.run.ensures.ends

pub statement::step-returns-then-direct_statement-clause-ends : goal.statement::step-returns-then-direct_statement-clause-ends
statement::step-returns-then-direct_statement-clause-ends g t c =
    let note = g.C.Context.note c.args.context.now in
    let site = g.C.Context.site in
    let standing = g.C.Context.standing in
    let made : c.direct_statement.result ≡ true = search rules in
    walks-over site _ _ (Ok tt) _ c.args.frame.now.memory c.direct_statement.new.frame.memory _ (λ rest d. c.direct_statement.ensures.done made standing note site rest d)

pub statement::walk-returns-in_err-step-clause-ends : goal.statement::walk-returns-in_err-step-clause-ends
statement::walk-returns-in_err-step-clause-ends g t c =
    let note = g.C.Context.note c.args.context.now in
    let site = g.C.Context.site in
    let standing = g.C.Context.standing in
    let steps = c.args.steps.now in
    let k = c.loop-k.k in
    let s = c.index-steps-k.result in
    let within : k < length steps = search rules in
    let at : slice_get steps k ≡ Some s = slice_get-get_or steps k s within ∙ ap Some (sym c.index-steps-k.is) in
    let p = err_from_is_err_and c.from_residual.result c.from_residual.ensures.1 in
    rw (p.1, p.2)
    (walks-next-halts note _ site _ c.args.frame.now.limits c.loop-k.frame.limits c.loop-k.invariant.limits _ _ _ c.args.frame.now.memory c.loop-k.frame.memory c.step.new.frame.memory _
    standing (drop k steps) (drop (k + 1) steps) s (drop-slice_get steps k s at) c.loop-k.invariant.goes c.in_err-step.field-0.0 c.in_err-step.ensures.ends)

pub statement::walk-loop-k-preserved : goal.statement::walk-loop-k-preserved
statement::walk-loop-k-preserved g t c =
    let note = g.C.Context.note c.args.context.now in
    let site = g.C.Context.site in
    let standing = g.C.Context.standing in
    let steps = c.args.steps.now in
    let k = c.loop-k.k in
    let s = c.index-steps-k.result in
    let within : k < length steps = search rules in
    let at : slice_get steps k ≡ Some s = slice_get-get_or steps k s within ∙ ap Some (sym c.index-steps-k.is) in
    record {
      goes =
          goes-next note _ site _ c.args.frame.now.limits c.loop-k.frame.limits c.loop-k.invariant.limits _ _ _ c.args.frame.now.memory c.loop-k.frame.memory c.step.new.frame.memory _
          standing (drop k steps) (drop (k + 1) steps) s (drop-slice_get steps k s at) c.loop-k.invariant.goes _ c.in_ok-step.ensures.ends;
      limits = c.in_ok-step.ensures.limits ∙ c.loop-k.invariant.limits;
      held = search rules;
    }

pub statement::walked_while-returns-then-left-eq0-clause-ends : goal.statement::walked_while-returns-then-left-eq0-clause-ends
statement::walked_while-returns-then-left-eq0-clause-ends g t c =
    let note = g.C.Context.note c.args.context.now in
    let site = g.C.Context.site in
    let limits = c.args.frame.now.limits in
    let e = truth_view c.args.condition.now in
    let body = exec_all limits (noting note) (steps_in g.C.Context.standing c.args.body.now) in
    let w = c.loop-left.frame.memory in
    let holding : c.in_ok-truth_value.field-0 ≡ true = search rules in
    let none : c.loop-left.left ≡ 0 = search rules in
    let tells = subst (λ f. TellsSame (Err f) c.told.result) c.new.ensures c.told.ensures in
    walks-goes site _ _ c.told.result _ _ _ c.args.frame.now.memory w w _ _ c.loop-left.invariant.goes
    (walks-over site _ _ c.told.result _ w w _
    (λ rest d. told-fault _ (fault Budget c.args.at.now) c.told.result (with_rest site rest w) d _ tells
    (ap (λ n. repeated n c.args.at.now (holds limits in_memory e) body (with_rest site rest w) d) none
    ∙ repeated-past c.args.at.now (holds limits in_memory e) body (with_rest site rest w) d
    (holds-unseen site rest limits e w ∙ holds-value limits e w true (ap (λ l. value_of l in_memory e None w) (sym c.loop-left.invariant.limits) ∙ c.in_ok-truth_value.ensures ∙ ap (λ b. Ok (Truth b)) holding)))))

pub statement::any_statement-returns-in-Write-clause-ends : goal.statement::any_statement-returns-in-Write-clause-ends
statement::any_statement-returns-in-Write-clause-ends g t c =
    let note = g.C.Context.note c.args.context.now in
    let site = g.C.Context.site in
    let standing = g.C.Context.standing in
    let limits = c.args.frame.now.limits in
    let w = c.args.frame.now.memory in
    walks-as _ site _ c.write.result _ _ w w _ _
    (λ m d. ap (λ s. exec limits (noting note) (step_in standing s) m d) c.in-Write.is)
    (walks-wider site _ _ _ c.write.result _ _ w w _ (λ m. m.0) c.write.ensures.ends)

pub each::domain_turn-returns-clause-ends : goal.each::domain_turn-returns-clause-ends
each::domain_turn-returns-clause-ends g t c =
    let note = g.C.Context.note c.args.context.now in
    let site = g.C.Context.site in
    let standing = g.C.Context.standing in
    let limits = c.args.frame.now.limits in
    let w = c.args.frame.now.memory in
    let body = steps_in standing c.args.body.now in
    let f = c.bind.new.frame in
    walks-from _ site _ c.run.result _ _ w f.memory c.run.new.frame.memory _ _
    (λ rest d. index-begun site rest limits note body c.args.names.now c.args.index w d
    ∙ ap (λ (f : Framed). exec_all f.limits (noting note) body (with_rest site rest f.memory) d) (sym c.bind.ensures))
    c.run.ensures.ends

pub each::domain_turns-returns-in_default-clause-ends : goal.each::domain_turns-returns-in_default-clause-ends
each::domain_turns-returns-in_default-clause-ends g t c =
    let site = g.C.Context.site in
    walks-over site _ _ _ _ c.args.frame.now.memory _ _ (λ rest d. tt)

pub each::domain_turns-returns-then-made-size-clause-ends : goal.each::domain_turns-returns-then-made-size-clause-ends
each::domain_turns-returns-then-made-size-clause-ends g t c =
    let note = g.C.Context.note c.args.context.now in
    let site = g.C.Context.site in
    let standing = g.C.Context.standing in
    let w = c.args.frame.now.memory in
    let next = c.calm_domain_rows.new.frame.memory in
    let turn = index_noted c.args.frame.now.limits note c.args.names.now (steps_in standing c.args.body.now) in
    let behind = drop c.in-Ok.made (indices c.domain-over.result) in
    let all : c.in-Ok.made ≡ length (indices c.domain-over.result) = search rules in
    let past : length (indices c.domain-over.result) ≤ c.in-Ok.made = omega (arith, all) in
    let o = g.C.Context.known c.args.context.now c.args.out.now in
    walks-end site _ _ _ o o w next _ _
    (λ rest d. ap (λ ts. in_order turn ts (with_rest site rest next) d) (drop-end (indices c.domain-over.result) c.in-Ok.made past))
    (subst (λ rs. Goes site o o w next (in_order turn (indices rs)) (in_order turn behind)) c.domain-over.ensures.domain (c.in-Ok.ensures.goes standing note site o))

pub each::for_each-returns-in_err-domain-clause-ends : goal.each::for_each-returns-in_err-domain-clause-ends
each::for_each-returns-in_err-domain-clause-ends g t c =
    let note = g.C.Context.note c.args.context.now in
    let site = g.C.Context.site in
    let limits = c.args.frame.now.limits in
    let w = c.args.frame.now.memory in
    let item = One (domain_view c.args.over.now) in
    let p = err_from_is_err_and c.from_residual.result c.from_residual.ensures.1 in
    rw (p.1, p.2)
    (walks-unfound _ _ DomainValue site _ c.in_err-domain.field-0.0 (looped_over limits c.args.at.now item) _ w w _ (λ m. m.0) (λ rest. looped_over-unseen site rest limits c.args.at.now item w)
    (λ m d f is. for-fault limits note (names_view c.args.names.now) (steps_in g.C.Context.standing c.args.body.now) c.args.at.now item m d f is)
    c.in_err-domain.ensures)

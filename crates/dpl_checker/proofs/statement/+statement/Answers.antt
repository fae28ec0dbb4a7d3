-- Each statement is walked part by part, and its step is made of what is made of the parts; a body's scopes are entered and left.
use Rattle.std.proofs.Common.{rules, ◌≡◌, ◌+◌, [], drop, length, map, sym, ap, ◌∙◌, subst}
use Rattle.std.specs.Prelude.{OnOk, IfOk}
use Rattle.dpl_syntax.proofs.Walks.{drop-end}
use Rattle.dpl_language.specs.Tree.{NoStmts, WhileWord, OnWord, ForWord, ForallWord}
use Rattle.dpl_tree.specs.View.{expr_view, item_view}
use Rattle.dpl_tree.specs.Declarations.{optional}
use Rattle.dpl_tree.specs.Statements.{variables_view, with_view, parallel_word, stmt_view, body_view, else_view, stmts_of}
use Rattle.dpl_tree.proofs.StatementFields.{stmt_view_block, body_view_block}
use Rattle.dpl_rules.specs.Breaches.{stmt_breaches}
use Rattle.dpl_rules.specs.Bodies.{forall_breaches}
use Rattle.dpl_deeds.specs.View.{deed_view}
use Rattle.dpl_lowered.specs.LoweredExpressions.{Once}
use Rattle.dpl_nodes.specs.declared.step.Step.{Block as BlockStep}
use Rattle.dpl_nodes.specs.Steps.{intent_view, steps_of}
use Rattle.dpl_typed.specs.Lowered.{leaves_of}
use Rattle.dpl_typed.proofs.Standing.{if_ok, on_any}
use Rattle.dpl_checker.specs.Trees.{parallel_tree}
use Rattle.dpl_checker.specs.Walks.{sight_in, WalksStmt, WalksInner, of_variables}
use Rattle.dpl_checker.specs.Makes.{MakesStmt, MakesStmts, MakesInner}
use Rattle.dpl_checker.proofs.Walking.{headed_walks, if_walks, stmts_left, body_left, for_walks, forall_walks, coforall_walks, turns_at, passes_begun, adds_begun, passes_then, passes_step, adds_step, still_ended}
use Rattle.dpl_checker.proofs.Made.{untold, untold_before, body_made_at, else_made_at, while-made, if-made, for-made, forall-made, block-made, block_stmt-made, StillMakes, still_made_first, still_made_at, still_made_all}
use Rattle.dpl_checker.proofs.statement.+statement.Goals as goal

-- ---- `if`, `while` and `on`
pub choose-returns-clause-walks : goal.choose-returns-clause-walks
choose-returns-clause-walks t c =
    let choice = c.args.choice.now in
    let around = c.args.around in
    if_walks choice.at (expr_view choice.condition.now) (body_view choice.body) (else_view choice.otherwise) around
    c.args.walk.now c.tested.new.walk c.body.new.walk c.otherwise.new.walk (c.in-Ok.ensures.walks around) c.in-Ok-body.ensures.walks c.in-Ok-otherwise.ensures.walks

pub choose-returns-clause-makes : goal.choose-returns-clause-makes
choose-returns-clause-makes t c = λ none plain.
    let choice = c.args.choice.now in
    let ss = c.args.walk.now.scopes in
    let e = expr_view choice.condition.now in
    let first = body_view choice.body in
    let second = else_view choice.otherwise in
    let tested = c.in-Ok.ensures.walks c.args.around in
    let taken = c.in-Ok-body.ensures.walks in
    let before = untold_before c.body.new.walk c.otherwise.new.walk c.in-Ok-otherwise.ensures.walks none in
    let at_first = untold_before c.tested.new.walk c.body.new.walk taken before in
    if-made ss choice.at e first c.in-Ok-body.body second c.in-Ok-otherwise.otherwise c.if_step.result
    (body_made_at ss c.tested.new.walk.scopes first c.body.new.walk.first c.in-Ok-body.body.now tested.scopes c.in-Ok-body.ensures.makes before plain.1)
    (else_made_at ss c.body.new.walk.scopes second c.otherwise.new.walk.first c.in-Ok-otherwise.otherwise (taken.scopes ∙ tested.scopes) c.in-Ok-otherwise.ensures.makes none plain.2)
    (c.if_step.ensures (leaves_of ss Once e) (c.in-Ok.ensures.makes at_first plain.0))

pub repeat-returns-clause-walks : goal.repeat-returns-clause-walks
repeat-returns-clause-walks t c =
    let turns = c.args.turns.now in
    let around = c.args.around in
    headed_walks WhileWord turns.at (expr_view turns.value.now) (body_view turns.body) around c.args.walk.now c.tested.new.walk c.body.new.walk (c.in-Ok-tested.ensures.walks around) c.in-Ok-body.ensures.walks

pub repeat-returns-clause-makes : goal.repeat-returns-clause-makes
repeat-returns-clause-makes t c = λ none plain.
    let turns = c.args.turns.now in
    let ss = c.args.walk.now.scopes in
    let e = expr_view turns.value.now in
    let body = body_view turns.body in
    let tested = c.in-Ok-tested.ensures.walks c.args.around in
    let before = untold_before c.tested.new.walk c.body.new.walk c.in-Ok-body.ensures.walks none in
    while-made ss turns.at c.in-Ok.at e body c.in-Ok-body.body c.headed_step.result (c.in-Ok.ensures plain.0)
    (body_made_at ss c.tested.new.walk.scopes body c.body.new.walk.first c.in-Ok-body.body.now tested.scopes c.in-Ok-body.ensures.makes none plain.2)
    (c.headed_step.ensures (leaves_of ss Once e) (c.in-Ok-tested.ensures.makes before plain.1))

pub on_locale-returns : goal.on_locale-returns
on_locale-returns t c =
    let there = c.args.there.now in
    let around = c.args.around in
    headed_walks OnWord there.at (expr_view there.value.now) (body_view there.body) around c.args.walk.now c.sent.new.walk c.body.new.walk (c.in-Ok.ensures around) c.in-Ok-body.ensures.walks

-- ---- loops
pub for_turns-returns-clause-walks : goal.for_turns-returns-clause-walks
for_turns-returns-clause-walks t c =
    let turns = c.args.turns.now in
    for_walks turns.at (variables_view turns.variables) turns.within (item_view turns.over) (body_view turns.body) c.args.around
    c.args.walk.now c.open_loop.new.walk c.body.new.walk c.leave.new.self c.in-Ok-open_loop.ensures.walks c.in-Ok-body.ensures.walks c.leave.ensures

pub for_turns-returns-clause-makes : goal.for_turns-returns-clause-makes
for_turns-returns-clause-makes t c = λ none plain.
    let turns = c.args.turns.now in
    let ss = c.args.walk.now.scopes in
    let xs = variables_view turns.variables in
    let item = item_view turns.over in
    let body = body_view turns.body in
    let before = untold_before c.open_loop.new.walk c.body.new.walk c.in-Ok-body.ensures.walks none in
    let opened = c.in-Ok-open_loop.ensures.makes before plain.1 in
    for-made ss turns.at turns.within xs item body c.in-Ok.at c.in-Ok-open_loop.opened c.in-Ok-body.body c.for_step.result (c.in-Ok.ensures plain.0) opened
    (body_made_at (of_variables ss ForWord xs item) c.open_loop.new.walk.scopes body c.body.new.walk.first c.in-Ok-body.body.now c.in-Ok-open_loop.ensures.walks.scopes c.in-Ok-body.ensures.makes none plain.2)
    (c.for_step.ensures opened.fits)

pub forall_turns-returns-clause-walks : goal.forall_turns-returns-clause-walks
forall_turns-returns-clause-walks t c =
    let turns = c.args.turns.now in
    let counted : c.len-start.result ≡ length c.open_forall.new.walk.deeds.items = search rules in
    forall_walks turns.at (variables_view turns.variables) turns.within (item_view turns.over) turns.with (body_view turns.body) c.args.around
    c.depth.result c.len-start.result c.args.walk.now c.open_forall.new.walk c.body.new.walk c.leave.new.self c.forall_breaches.new.first
    c.depth.ensures c.in-Ok-open_forall.ensures.walks counted c.in-Ok-body.ensures.walks c.leave.ensures
    (c.in-Ok-forall_breaches.ensures.ok ∙ search rules)

pub forall_turns-returns-clause-makes : goal.forall_turns-returns-clause-makes
forall_turns-returns-clause-makes t c = λ none plain.
    let turns = c.args.turns.now in
    let ss = c.args.walk.now.scopes in
    let xs = variables_view turns.variables in
    let item = item_view turns.over in
    let body = body_view turns.body in
    let does = forall_breaches (turns_at c.depth.result xs turns.with) (map deed_view c.behind.result.now) in
    let ended = untold c.body.new.walk.first c.forall_breaches.new.first does c.in-Ok-forall_breaches.ensures.ok none in
    let before = untold_before c.open_forall.new.walk c.body.new.walk c.in-Ok-body.ensures.walks ended in
    let opened = c.in-Ok-open_forall.ensures.makes before plain.1 in
    forall-made ss turns.at turns.within xs item body c.in-Ok.at c.in-Ok-open_forall.opened c.in-Ok-body.body c.forall_step.result (c.in-Ok.ensures plain.0)
    (optional with_view turns.with) c.in-Ok-changed.changed.now.reduced.now opened
    (ap (map intent_view) c.in-Ok-changed.ensures ∙ c.in-Ok-open_forall.ensures.reduced before plain.1.known)
    (body_made_at (of_variables ss ForallWord xs item) c.open_forall.new.walk.scopes body c.body.new.walk.first c.in-Ok-body.body.now c.in-Ok-open_forall.ensures.walks.scopes c.in-Ok-body.ensures.makes ended plain.2)
    (c.forall_step.ensures opened.fits)

pub coforall_tasks-returns : goal.coforall_tasks-returns
coforall_tasks-returns t c =
    let tasks = c.args.tasks.now in
    let counted : c.len-start.result ≡ length c.open_shared.new.walk.deeds.items = search rules in
    coforall_walks tasks.at (variables_view tasks.variables) tasks.within (item_view tasks.over) tasks.with (body_view tasks.body) c.args.around
    c.depth-depth.result c.len-start.result c.args.walk.now c.held.new.deeds c.open_shared.new.walk c.with_deeds.new.deeds c.body.new.walk c.leave.new.self c.task_breaches.new.first
    c.depth-depth.ensures c.in-Ok.ensures c.in-Ok-open_shared.ensures.walks counted c.in-Ok-with_deeds.ensures c.in-Ok-body.ensures.walks c.leave.ensures
    (c.task_breaches.ensures ∙ search rules)

-- ---- bodies
pub body-returns-clause-walks : goal.body-returns-clause-walks
body-returns-clause-walks t c =
    let walk = c.args.walk.now in
    body_left walk.scopes c.enter.new.self c.args.around (body_view c.args.body.now) walk c.inner.new.walk c.leave.new.self c.in-Ok.ensures.ok c.in-Ok-inner.ensures.walks c.leave.ensures

-- a block, as a body and as a statement
pub inner-returns-in-Block-clause-walks : goal.inner-returns-in-Block-clause-walks
inner-returns-in-Block-clause-walks t c =
    subst (λ b. OnOk c.stmts.result (WalksInner c.args.around b c.args.walk.now c.stmts.new.walk)) (sym (body_view_block c.in-Block.block) ∙ ap body_view (sym c.in-Block.is))
    c.stmts.ensures.walks

pub inner-returns-in-Block-clause-makes : goal.inner-returns-in-Block-clause-makes
inner-returns-in-Block-clause-makes t c =
    let ss = c.args.walk.now.scopes in
    let block = c.in-Block.block in
    subst (λ b. IfOk c.stmts.result (λ steps. MakesInner ss b c.stmts.new.walk.first steps.now)) (sym (body_view_block block) ∙ ap body_view (sym c.in-Block.is))
    (if_ok c.stmts.result (λ steps made. λ none plain. block-made ss block.from block.upto (stmts_of block.stmts.now) steps.now (made none plain)) c.stmts.ensures.makes)

pub stmt-returns-in-Ok-stmts-clause-walks : goal.stmt-returns-in-Ok-stmts-clause-walks
stmt-returns-in-Ok-stmts-clause-walks t c =
    let walk = c.args.walk.now in
    let block = c.in-Block.block in
    subst (λ s. WalksStmt c.args.around s walk (record c.stmts.new.walk { scopes = c.leave.new.self })) (sym (stmt_view_block block) ∙ ap stmt_view (sym c.in-Block.is))
    (stmts_left walk.scopes c.enter.new.self c.args.around (stmts_of block.now.stmts.now) walk c.stmts.new.walk c.leave.new.self c.in-Ok.ensures.ok c.in-Ok-stmts.ensures.walks c.leave.ensures)

pub stmt-returns-in-Ok-stmts-clause-makes : goal.stmt-returns-in-Ok-stmts-clause-makes
stmt-returns-in-Ok-stmts-clause-makes t c =
    let ss = c.args.walk.now.scopes in
    let block = c.in-Block.block in
    let ts = stmts_of block.now.stmts.now in
    let first = c.stmts.new.walk.first in
    let steps = c.in-Ok-stmts.steps in
    let made = subst (λ vs. MakesStmts vs ts first steps.now) c.in-Ok.ensures.ok c.in-Ok-stmts.ensures.makes in
    subst (λ s. MakesStmt ss s first (BlockStep steps)) (sym (stmt_view_block block) ∙ ap stmt_view (sym c.in-Block.is))
    (λ none plain. block_stmt-made ss block.now.from block.now.upto ts steps (made none plain))

-- a forall, as a loop by its word
pub stmt-returns-in-Forall-clause-walks : goal.stmt-returns-in-Forall-clause-walks
stmt-returns-in-Forall-clause-walks t c =
    let node = c.in-Parallel.node in
    subst (λ s. OnOk c.forall_turns.result (WalksStmt c.args.around s c.args.walk.now c.forall_turns.new.walk))
    (ap (λ w. parallel_tree (parallel_word w) node.now) (sym c.in-Forall.is) ∙ ap stmt_view (sym c.in-Parallel.is))
    c.forall_turns.ensures.walks

-- ---- statements, one behind the other
pub stmts-loop-next-init : goal.stmts-loop-next-init
stmts-loop-next-init t c =
    let walk = c.args.walk.now in
    let all = stmts_of c.args.stmts.now in
    let empty : c.new-steps.result.items ≡ [] = search rules in
    ((passes_begun c.args.around walk all, adds_begun walk all), subst (StillMakes walk.scopes all walk.first walk.scopes all) (sym empty) (still_made_first walk.first walk.scopes all))

pub stmts-loop-next-preserved : goal.stmts-loop-next-preserved
stmts-loop-next-preserved t c =
    let at = c.loop-next in
    let walk = c.args.walk.now in
    let around = c.args.around in
    let xs = c.args.stmts.now in
    let all = stmts_of xs in
    let x = c.next-item.result in
    let now = c.stmt.new.walk in
    let left = stmts_of (drop (at.next-index + 1) xs) in
    let walks = c.in-Ok.ensures.walks in (
      (
        passes_then around now at.walk walk left (stmts_of (drop at.next-index xs)) all
            (passes_step around xs at.next-index x at.walk now c.loop-next-test.true c.next-item.is walks) at.invariant.0.0,
        adds_step around xs at.next-index x at.walk now c.loop-next-test.true c.next-item.is walks ∙ at.invariant.0.1,
      ),
      subst (StillMakes walk.scopes all now.first now.scopes left) (sym c.in-Ok-push.ensures.items)
          (still_made_at walk.scopes all xs at.next-index x at.walk.first now.first (stmt_breaches (sight_in at.walk.scopes around) (stmt_view x)) at.walk.scopes now.scopes c.in-Ok.step at.steps.items
          c.loop-next-test.true c.next-item.is walks.told walks.scopes c.in-Ok.ensures.makes at.invariant.1),
    )

pub stmts-returns-clause-walks : goal.stmts-returns-clause-walks
stmts-returns-clause-walks t c =
    let at = c.loop-next in
    let all = c.args.stmts.now in
    let none : stmts_of (drop at.next-index all) ≡ NoStmts = ap stmts_of (drop-end all at.next-index c.loop-next-test.false) in
    on_any c.list.result (still_ended c.args.around at.walk c.args.walk.now (stmts_of (drop at.next-index all)) (stmts_of all) none at.invariant.0)

pub stmts-returns-clause-makes : goal.stmts-returns-clause-makes
stmts-returns-clause-makes t c =
    let at = c.loop-next in
    let ss = c.args.walk.now.scopes in
    let all = c.args.stmts.now in
    let left = stmts_of (drop at.next-index all) in
    let none : left ≡ NoStmts = ap stmts_of (drop-end all at.next-index c.loop-next-test.false) in
    let made = still_made_all ss (stmts_of all) at.walk.first at.walk.scopes left at.steps.items none at.invariant.1 in
    if_ok c.list.result
    (λ steps kept. λ quiet plain. made quiet plain ∙ ap steps_of (sym kept))
    c.list.ensures

-- What statements mean, one case for each form, and for each word of those with a body.
-- A forall is the plain loop over its indices in their order, its reduce variables being variables like any other.
use Rattle.std.specs.Prelude.{ℕ, nat_lt, Bool, Option, None, Result, Ok, List, []}
use Rattle.dpl_syntax.specs.declared.place.Place.{Place}
use Rattle.dpl_sets.specs.TextRanges.{TextRange}
use Rattle.dpl_language.specs.Tree.{ExprTree, VariablesTree, WithTree, HeadWord, WhileWord, OnWord, LoopWord, ForWord, ForallWord, CoforallWord, StmtTree, Nothing, Declare, Assigned, Call, Write, Block, If, Headed, Loop, Body, WordBody, BlockBody, Stmts, NoStmts, Then, Else, NoElse, ElseDo}
use Rattle.dpl_language.specs.Values.{Index, number, truth, Fault, fault, PastLimit}
use Rattle.dpl_language.specs.Ranges.{indices_in, size_in, loop_ranges}
use Rattle.dpl_language.specs.Outcome.{Done, Run, with_ok, with_value, then_do, choose, unless, repeated}
use Rattle.dpl_language.specs.Environment.{Environment, Limits}
use Rattle.dpl_language.specs.Phrases.{intents_of, first_name}
use Rattle.dpl_language.specs.Expressions.{value_of, item_of}
use Rattle.dpl_language.specs.Loops.{within_budget, named_turn, scoped, turn_of}
use Rattle.dpl_language.specs.Assignments.{assign, cell_call}
use Rattle.dpl_language.specs.Declarations.{declare}
use Rattle.dpl_language.specs.Roots.{dealt}
use Rattle.dpl_language.specs.Writing.{write}
use Rattle.dpl_language.specs.Tasks.{tasks_of}

-- a coforall has at most 64 tasks
abbrev pub task_limit : ℕ
task_limit = 64

module _ {N S : Type 0} (limits : Limits) (env : Environment N S) where
  -- a condition
  abbrev pub holds : ExprTree N → S → Result Bool Fault
  holds e s = with_ok (value_of limits env e None s) (λ v. Ok (truth v))

  -- what is done with a body behind a word and an expression
  abbrev pub headed : HeadWord → Place → ExprTree N → Run S → Run S
  -- while the condition holds, which is evaluated before each turn; at most as many turns as the budget
  headed WhileWord at e body = repeated limits.budget at (holds e) body
  -- with `here` set to the locale; behind it `here` is what it was
  headed OnWord at e body = λ s done.
      with_value (value_of limits env e None s)
      (λ v s done. then_do (body (env.move (number v) s) done)
      (λ after done. Done (env.move (env.here s) after) done)) s done

  -- what is done with the turns of a loop over these ranges
  abbrev pub looped : LoopWord → Place → VariablesTree N → Option (WithTree N) → List TextRange → (Index → Run S) → Run S
  -- one after another, in their order
  looped ForWord at xs intents rs turn = within_budget limits at rs turn
  -- the same, but a fault names its turn, and `reduce=` is by the operators of the loop's intents
  looped ForallWord at xs intents rs turn = λ s done.
      then_do (within_budget limits at rs (named_turn turn) (env.intend (intents_of intents) s) (env.note at rs s done))
      (λ s done. Done (env.intend [] s) done)
  -- one task for each turn; more than 64 are F3 at `coforall`, and the coforall isn't entered
  looped CoforallWord at xs intents rs turn =
      unless (nat_lt task_limit (size_in rs)) (fault PastLimit at) (tasks_of env (first_name xs) turn (indices_in rs))

  abbrev mutual
    pub exec : StmtTree N → Run S
    -- `;`
    exec (Nothing at) s done = Done s done
    -- behind a declaration a domain and an array have their roots
    exec (Declare d) s done =
        then_do (declare limits env d s done) (λ after done. Done (dealt limits env d s after) done)
    exec (Assigned target sign item semicolon) s done = assign limits env target sign item s done
    exec (Call x dot call semicolon) s done = cell_call limits env x call s done
    exec (Write w) s done = write limits env w s done
    -- a block opens a scope
    exec (Block from body upto) s done = scoped env (exec_all body) s done
    -- one of its two parts, in a scope of its own
    exec (If at e first second) s done =
        with_value (holds e s) (λ b. choose b (scoped env (exec_body first)) (exec_else second)) s done
    -- `while` and `on`: the body, in a scope of its own, as the word has it
    exec (Headed word at e body) s done = headed word at e (scoped env (exec_body body)) s done
    -- over a range, a domain or the locales, which are evaluated once: the turns, as the word has them
    exec (Loop word at xs within item intents body) s done =
        with_value (item_of limits env item None s)
        (λ v. looped word at xs intents (loop_ranges limits.locales v) (turn_of env xs v (exec_body body))) s done

    -- a body: a statement behind its word, or the statements of a block
    pub exec_body : Body N → Run S
    exec_body (WordBody at t) s done = exec t s done
    exec_body (BlockBody from ts upto) s done = exec_all ts s done

    -- statements, one after another
    pub exec_all : Stmts N → Run S
    exec_all NoStmts s done = Done s done
    exec_all (Then t rest) s done = then_do (exec t s done) (exec_all rest)

    pub exec_else : Else N → Run S
    exec_else NoElse s done = Done s done
    exec_else (ElseDo at t) s done = scoped env (exec t) s done

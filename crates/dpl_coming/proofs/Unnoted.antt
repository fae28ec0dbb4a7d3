-- In calm statements nothing is noted: where they enter no forall, a memory in which foralls are noted does what memory does.
use Rattle.std.proofs.Common.{Bool, None, refl, ◌≡◌, ap, ◌∙◌}
use Rattle.dpl_language.specs.Tree.{WhileWord, OnWord, ForWord, ForallWord, CoforallWord, StmtTree, Block, If, Headed, Loop, Body, WordBody, BlockBody, Stmts, NoStmts, Then, Else, NoElse, ElseDo}
use Rattle.dpl_language.specs.Values.{Value}
use Rattle.dpl_language.specs.Outcome.{Deeds, Run, with_value, then_do, choose}
use Rattle.dpl_language.specs.Environment.{Limits}
use Rattle.dpl_language.specs.Expressions.{item_of}
use Rattle.dpl_language.specs.Ranges.{loop_ranges}
use Rattle.dpl_language.specs.Loops.{scoped, turn_of, within_budget}
use Rattle.dpl_language.specs.Statements.{holds, headed, exec, exec_body, exec_all, exec_else}
use Rattle.dpl_agreement.specs.Scopes.{fits_body}
use Rattle.dpl_memory.specs.Memory.{Variable, Memory, in_memory}
use Rattle.dpl_coming.specs.Calm.{calm, IsCalm, AreCalm, ElseCalmIf}
use Rattle.dpl_coming.specs.Noting.{Note, noting}

module _ (limits : Limits) (note : Note) where
  mutual
    pub exec-unnoted : (t : StmtTree Variable) → IsCalm t → exec limits (noting note) t ≡ exec limits in_memory t
    exec-unnoted (Block from ts upto) f = ap {B = Run Memory} (λ (r : Run Memory). scoped in_memory r) (exec_all-unnoted ts f)
    exec-unnoted (If at e first second) f =
        ap {B = Run Memory} (λ (r : Run Memory) (s : Memory) (done : Deeds). with_value (holds limits in_memory e s) (λ (b : Bool). choose b (scoped in_memory r) (exec_else limits (noting note) second)) s done) (body-unnoted first f.1)
        ∙ ap {B = Run Memory} (λ (r : Run Memory) (s : Memory) (done : Deeds). with_value (holds limits in_memory e s) (λ (b : Bool). choose b (scoped in_memory (exec_body limits in_memory first)) r) s done) (exec_else-unnoted second f.2)
    exec-unnoted (Headed WhileWord at e body) f = ap {B = Run Memory} (λ (r : Run Memory). headed limits in_memory WhileWord at e (scoped in_memory r)) (body-unnoted body f.1)
    exec-unnoted (Headed OnWord at e body) f = ap {B = Run Memory} (λ (r : Run Memory). headed limits in_memory OnWord at e (scoped in_memory r)) (body-unnoted body f.1)
    exec-unnoted (Loop ForWord at xs within item intents body) f =
        ap {B = Run Memory} (λ (r : Run Memory) (s : Memory) (done : Deeds). with_value (item_of limits in_memory item None s) (λ (v : Value). within_budget limits at (loop_ranges limits.locales v) (turn_of in_memory xs v r)) s done) (body-unnoted body f.4)
    exec-unnoted (Loop ForallWord at xs within item intents body) f = absurd f.2
    exec-unnoted (Loop CoforallWord at xs within item intents body) f = absurd f.2
    exec-unnoted _ f = refl

    body-unnoted : (b : Body Variable) → fits_body (calm ⊥) b tt → exec_body limits (noting note) b ≡ exec_body limits in_memory b
    body-unnoted (WordBody at t) f = exec-unnoted t f
    body-unnoted (BlockBody from ts upto) f = exec_all-unnoted ts f

    pub exec_all-unnoted : (ts : Stmts Variable) → AreCalm ts → exec_all limits (noting note) ts ≡ exec_all limits in_memory ts
    exec_all-unnoted NoStmts f = refl
    exec_all-unnoted (Then t rest) f =
        ap {B = Run Memory} (λ (r : Run Memory) (s : Memory) (done : Deeds). then_do (r s done) (exec_all limits (noting note) rest)) (exec-unnoted t f.0)
        ∙ ap {B = Run Memory} (λ (r : Run Memory) (s : Memory) (done : Deeds). then_do (exec limits in_memory t s done) r) (exec_all-unnoted rest f.1)

    pub exec_else-unnoted : (o : Else Variable) → ElseCalmIf ⊥ o → exec_else limits (noting note) o ≡ exec_else limits in_memory o
    exec_else-unnoted NoElse f = refl
    exec_else-unnoted (ElseDo at t) f = ap {B = Run Memory} (λ (r : Run Memory). scoped in_memory r) (exec-unnoted t f)

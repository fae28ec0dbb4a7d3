-- What an `if` does, by its condition.
-- Each lemma has the meaning of the plain statement on its left side.
use Rattle.std.proofs.Common.{◌≡◌, Bool, true, false, None, Ok, refl, ap, ◌∙◌}
use Rattle.dpl_language.specs.Tree.{ExprTree, If, Else, Stmts}
use Rattle.dpl_language.specs.Values.{Truth, truth}
use Rattle.dpl_language.specs.Outcome.{Deeds, Outcome, Done, Stop, Waits, Run, with_ok, with_value, then_do, choose}
use Rattle.dpl_language.specs.Environment.{Limits}
use Rattle.dpl_language.specs.Expressions.{value_of}
use Rattle.dpl_language.specs.Loops.{scoped}
use Rattle.dpl_language.specs.Statements.{holds, exec, exec_all, exec_else}
use Rattle.dpl_lowered.specs.Shapes.{nowhere}
use Rattle.dpl_memory.specs.Memory.{Variable, Memory, in_memory}
use Rattle.dpl_nodes.specs.Steps.{listed}

pub then_do-done : (o : Outcome Memory) → then_do o (λ s done. Done s done) ≡ o
then_do-done (Done s done) = refl
then_do-done (Stop f done) = refl
then_do-done (Waits at c op done) = refl

-- a scope does nothing of its own
pub scoped-same : (body : Run Memory) (s : Memory) (done : Deeds) → scoped in_memory body s done ≡ body s done
scoped-same body s done = then_do-done (body s done)

-- CONDITIONS
module _ (limits : Limits) where
  pub holds-value : (e : ExprTree Variable) (s : Memory) (b : Bool) → value_of limits in_memory e None s ≡ Ok (Truth b) → holds limits in_memory e s ≡ Ok b
  holds-value e s b value = ap (λ r. with_ok r (λ v. Ok (truth v))) value

  pub if-then : (e : ExprTree Variable) (body : Stmts Variable) (other : Else Variable) (s : Memory) (done : Deeds) → value_of limits in_memory e None s ≡ Ok (Truth true)
      → exec limits in_memory (If nowhere e (listed body) other) s done ≡ exec_all limits in_memory body s done
  if-then e body other s done value =
      ap (λ r. with_value r (λ b. choose b (scoped in_memory (exec_all limits in_memory body)) (exec_else limits in_memory other)) s done) (holds-value e s true value)
      ∙ scoped-same (exec_all limits in_memory body) s done

  pub if-else : (e : ExprTree Variable) (body : Stmts Variable) (other : Else Variable) (s : Memory) (done : Deeds) → value_of limits in_memory e None s ≡ Ok (Truth false)
      → exec limits in_memory (If nowhere e (listed body) other) s done ≡ exec_else limits in_memory other s done
  if-else e body other s done value =
      ap (λ r. with_value r (λ b. choose b (scoped in_memory (exec_all limits in_memory body)) (exec_else limits in_memory other)) s done) (holds-value e s false value)

-- What an `if` does where foralls are noted, by its condition.
-- Each lemma has the meaning of the plain statement on its left side.
use Rattle.std.proofs.Common.{◌≡◌, true, false, None, Ok, Err, ap, ◌∙◌}
use Rattle.dpl_language.specs.Tree.{ExprTree, If, Else, Stmts}
use Rattle.dpl_language.specs.Values.{Truth, truth, Fault}
use Rattle.dpl_language.specs.Outcome.{Deeds, Stop, with_ok, with_value, choose}
use Rattle.dpl_language.specs.Environment.{Limits}
use Rattle.dpl_language.specs.Expressions.{value_of}
use Rattle.dpl_language.specs.Loops.{scoped}
use Rattle.dpl_language.specs.Statements.{exec, exec_all, exec_else}
use Rattle.dpl_lowered.specs.Shapes.{nowhere}
use Rattle.dpl_memory.specs.Memory.{Variable, Memory, in_memory}
use Rattle.dpl_nodes.specs.Steps.{listed}
use Rattle.dpl_elements.proofs.Branching.{scoped-same, holds-value}
use Rattle.dpl_coming.specs.Noting.{Note, noting}

module _ (limits : Limits) (note : Note) (e : ExprTree Variable) (body : Stmts Variable) (other : Else Variable) (s : Memory) (done : Deeds) where
  pub then-noted : value_of limits in_memory e None s ≡ Ok (Truth true) → exec limits (noting note) (If nowhere e (listed body) other) s done ≡ exec_all limits (noting note) body s done
  then-noted value =
      ap (λ r. with_value r (λ b. choose b (scoped in_memory (exec_all limits (noting note) body)) (exec_else limits (noting note) other)) s done) (holds-value limits e s true value)
      ∙ scoped-same (exec_all limits (noting note) body) s done

  pub else-noted : value_of limits in_memory e None s ≡ Ok (Truth false) → exec limits (noting note) (If nowhere e (listed body) other) s done ≡ exec_else limits (noting note) other s done
  else-noted value = ap (λ r. with_value r (λ b. choose b (scoped in_memory (exec_all limits (noting note) body)) (exec_else limits (noting note) other)) s done) (holds-value limits e s false value)

  pub fault-noted : (f : Fault) → value_of limits in_memory e None s ≡ Err f → exec limits (noting note) (If nowhere e (listed body) other) s done ≡ Stop f done
  fault-noted f value =
      ap (λ r. with_value (with_ok r (λ v. Ok (truth v))) (λ b. choose b (scoped in_memory (exec_all limits (noting note) body)) (exec_else limits (noting note) other)) s done) value

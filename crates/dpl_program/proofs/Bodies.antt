-- The turns of a body that was tested may be made apart.
use Rattle.std.proofs.Common.{◌≡◌, ℕ, List, [], sym, subst}
use Rattle.dpl_language.specs.Tree.{Op, Stmts}
use Rattle.dpl_language.specs.Environment.{Limits}
use Rattle.dpl_memory.specs.Memory.{Variable}
use Rattle.dpl_nodes.specs.declared.step.Names.{Names}
use Rattle.dpl_apart.specs.Memories.{Changes, MayBeApart}
use Rattle.dpl_turns.specs.Bodies.{own_numbers, own_tuples, KeepsApart}
use Rattle.dpl_turns.specs.Typed.{own_of}
use Rattle.dpl_turns.proofs.Typed.{names-apart}
use Rattle.dpl_steps.specs.Contexts.{index_turn}

module _ (limits : Limits) (rank : ℕ) (names : Names) (written : List ℕ) (reduced : List (ℕ × Op)) (body : Stmts Variable) where
  abbrev changes : List ℕ → List ℕ → Changes
  changes numbers tuples = record { rank = rank; written = written; reduced = reduced; numbers = numbers; ranges = []; tuples = tuples }

  pub tested-apart : (numbers tuples : List ℕ) → numbers ≡ own_numbers (own_of names) [] → tuples ≡ own_tuples (own_of names) [] → KeepsApart rank (own_of names) [] written reduced body
      → MayBeApart (changes numbers tuples) (index_turn limits names body)
  tested-apart numbers tuples n t keeps =
      subst (λ ns. MayBeApart (changes ns tuples) (index_turn limits names body)) (sym n)
      (subst (λ ts. MayBeApart (changes (own_numbers (own_of names) []) ts) (index_turn limits names body)) (sym t) (names-apart limits rank names written reduced body keeps))

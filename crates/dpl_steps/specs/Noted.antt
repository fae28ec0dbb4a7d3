-- The turns of loops, where foralls are noted.
use Rattle.std.specs.Prelude.{ℕ, ℤ}
use Rattle.dpl_language.specs.Tree.{Stmts}
use Rattle.dpl_language.specs.Values.{Int, Index}
use Rattle.dpl_language.specs.Outcome.{Run}
use Rattle.dpl_language.specs.Environment.{Limits}
use Rattle.dpl_language.specs.Statements.{exec_all}
use Rattle.dpl_words.specs.Words.{IntLeaf}
use Rattle.dpl_memory.specs.Memory.{PlainKind, Variable, Memory, with_value_in}
use Rattle.dpl_nodes.specs.declared.step.Names.{Names}
use Rattle.dpl_elements.specs.Turns.{bound_at}
use Rattle.dpl_coming.specs.Noting.{Note, noting}

module _ (limits : Limits) (note : Note) where
  -- the variable is the index, or the variables hold it, and the body runs
  abbrev pub turn_noted : ℕ → Stmts Variable → ℤ → Run Memory
  turn_noted slot body i s done = exec_all limits (noting note) body (with_value_in (PlainKind IntLeaf) slot (Int i) s) done

  abbrev pub index_noted : Names → Stmts Variable → Index → Run Memory
  index_noted names body t s done = exec_all limits (noting note) body (bound_at names t s) done

-- The turns of a strip are made as those of the assignment's form are.
-- These are the answers to the goals of `make_strip`.
use Rattle.std.proofs.Common.{ℕ, sym, subst}
use Rattle.dpl_array.specs.Elements.{Row}
use Rattle.dpl_memory.specs.Memory.{Memory}
use Rattle.dpl_frame.specs.Frames.{Framed}
use Rattle.dpl_loop.specs.Runs.{AreDone}
use Rattle.dpl_elements.specs.declared.whole.WholeTurns.{WholeTurns}
use Rattle.dpl_elements.specs.Wholes.{whole_turn}
use Rattle.dpl_elements.proofs.RowTurns.{none-done}
use Rattle.dpl_elements.proofs.whole.WholeTurns.make_strip.Goals as goal

-- as many of a row's turns as were made are done
abbrev Made : Framed → Row → ℕ → Memory → WholeTurns → Type 0
Made before row made after turns = AreDone (whole_turn turns before.limits) row made before.memory after

pub returns-in-Fill-clause-done : goal.returns-in-Fill-clause-done
returns-in-Fill-clause-done g c = subst (Made c.args.frame.now c.args.row c.make_strip.result c.make_strip.new.frame.memory) (sym c.in-Fill.is) c.make_strip.ensures.done

pub returns-in-Promote-clause-done : goal.returns-in-Promote-clause-done
returns-in-Promote-clause-done g c =
    subst (Made c.args.frame.now c.args.row c.make_strip-in-Promote.result c.make_strip-in-Promote.new.frame.memory) (sym c.in-Promote.is) c.make_strip-in-Promote.ensures.done

pub returns-in-FillTruth-clause-done : goal.returns-in-FillTruth-clause-done
returns-in-FillTruth-clause-done g c = none-done _ c.args.row c.args.frame.now.memory

pub returns-in-FillTruth-2-clause-done : goal.returns-in-FillTruth-2-clause-done
returns-in-FillTruth-2-clause-done g c = none-done _ c.args.row c.args.frame.now.memory

pub returns-in-FillTruth-3-clause-done : goal.returns-in-FillTruth-3-clause-done
returns-in-FillTruth-3-clause-done g c = none-done _ c.args.row c.args.frame.now.memory

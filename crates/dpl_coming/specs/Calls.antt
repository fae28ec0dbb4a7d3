-- What whoever answers an operation on a cell promises: it was answered so, and the memory that the meaning starts from has that reply first.
use Rattle.std.specs.Prelude.{◌≡◌, ℕ, [], ◌∷◌, length}
use Rattle.dpl_history.specs.declared.cell.CellOp.{CellOp}
use Rattle.dpl_history.specs.declared.cell.Reply.{Reply}
use Rattle.dpl_language.specs.Outcome.{Deeds, no_deeds}
use Rattle.dpl_language.specs.Environment.{Replied}
use Rattle.dpl_memory.specs.Memory.{Coming, Memory, Variable, in_memory}
use Rattle.dpl_coming.specs.Taken.{before}
use Rattle.dpl_coming.specs.Walks.{Site, Known, IsComing, with_rest, IsMade}

abbrev pub one_operation : ℕ → CellOp → Reply → Deeds
one_operation c op r = record no_deeds { operations = record { cell = c; op = op; reply = r } ∷ [] }

pub record Answers (site : Site) (old new : Known) (s1 s2 : Memory) (x : Variable) (op : CellOp) (r : Reply) : Type 0 where
  pub known : IsMade site old (one_operation (length x.cells) op r) new
  pub replied : (rest : Coming) → IsComing site rest
      → in_memory.call x op (with_rest site (before (one_operation (length x.cells) op r) rest) s1) ≡ Replied (length x.cells) r (with_rest site rest s2)

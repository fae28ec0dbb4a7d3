-- Cells, and what an operation does to one.
-- Nothing here knows of histories, words or threads.
use Rattle.std.specs.Prelude.{Option, Some, None}
use Rattle.dpl_history.specs.declared.cell.CellState.{CellState}
use Rattle.dpl_history.specs.declared.cell.CellState.TheVariants.{Empty, Full}
use Rattle.dpl_history.specs.declared.cell.CellOp.{CellOp}
use Rattle.dpl_history.specs.declared.cell.CellOp.TheVariants.{ReadFE, ReadFF, WriteEF, WriteFF, WriteXF, Reset}
use Rattle.dpl_history.specs.declared.cell.Reply.{Reply}
use Rattle.dpl_history.specs.declared.cell.Reply.TheVariants.{Value, Done}

-- The cell afterwards and the reply, or None where the operation waits.
-- readFE and readFF wait for a full cell, whose value they reply; readFE leaves it empty and readFF as it was.
-- writeEF waits for an empty cell, writeFF for a full one, and writeXF for none; each leaves its value.
-- reset waits for none, and leaves the cell empty.
abbrev pub effect : CellOp → CellState → Option (CellState × Reply)
effect ReadFE (Full v) = Some (Empty, Value v)
effect ReadFE Empty = None
effect ReadFF (Full v) = Some (Full v, Value v)
effect ReadFF Empty = None
effect (WriteEF v) Empty = Some (Full v, Done)
effect (WriteEF v) (Full u) = None
effect (WriteFF v) (Full u) = Some (Full v, Done)
effect (WriteFF v) Empty = None
effect (WriteXF v) c = Some (Full v, Done)
effect Reset c = Some (Empty, Done)

-- the replies that an operation can have: a read replies a value, and every other operation that it was done
abbrev pub IsReplyTo : CellOp → Reply → Type 0
IsReplyTo ReadFE (Value v) = Unit {0}
IsReplyTo ReadFE Done = ⊥
IsReplyTo ReadFF (Value v) = Unit {0}
IsReplyTo ReadFF Done = ⊥
IsReplyTo (WriteEF v) (Value u) = ⊥
IsReplyTo (WriteEF v) Done = Unit {0}
IsReplyTo (WriteFF v) (Value u) = ⊥
IsReplyTo (WriteFF v) Done = Unit {0}
IsReplyTo (WriteXF v) (Value u) = ⊥
IsReplyTo (WriteXF v) Done = Unit {0}
IsReplyTo Reset (Value u) = ⊥
IsReplyTo Reset Done = Unit {0}

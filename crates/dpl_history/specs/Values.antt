-- Values: what is put into a cell and what is taken out of it, in the order of a history.
-- A cell on which tasks only writeEF, readFE and readFF hands its values on, each once: it is a channel of one place.
use Rattle.std.specs.Prelude.{◌≡◌, ℕ, ◌==◌, ℤ, List, [], ◌∷◌, ◌++◌, All, if◌then◌else◌}
use Rattle.dpl_history.specs.declared.cell.CellState.{CellState}
use Rattle.dpl_history.specs.declared.cell.CellState.TheVariants.{Empty, Full}
use Rattle.dpl_history.specs.declared.cell.CellOp.{CellOp}
use Rattle.dpl_history.specs.declared.cell.CellOp.TheVariants.{ReadFE, ReadFF, WriteEF, WriteFF, WriteXF, Reset}
use Rattle.dpl_history.specs.declared.cell.Reply.{Reply}
use Rattle.dpl_history.specs.declared.cell.Reply.TheVariants.{Value, Done}
use Rattle.dpl_history.specs.declared.history.Event.{Event}
use Rattle.dpl_history.specs.Histories.{cell_at, after}

-- the value of a full cell, as a list
abbrev pub content : CellState → List ℤ
content Empty = []
content (Full v) = v ∷ []

-- the value that an operation puts in: that of each write
abbrev pub put_by : CellOp → List ℤ
put_by ReadFE = []
put_by ReadFF = []
put_by (WriteEF v) = v ∷ []
put_by (WriteFF v) = v ∷ []
put_by (WriteXF v) = v ∷ []
put_by Reset = []

-- the value that is replied
abbrev pub replied : Reply → List ℤ
replied (Value v) = v ∷ []
replied Done = []

-- the value that an operation takes out: what readFE replies, since readFF leaves it in
abbrev pub taken_by : CellOp → Reply → List ℤ
taken_by ReadFE r = replied r
taken_by ReadFF r = []
taken_by (WriteEF v) r = []
taken_by (WriteFF v) r = []
taken_by (WriteXF v) r = []
taken_by Reset r = []

-- the values that a history puts into a cell, in order
abbrev pub values_in : ℕ → List Event → List ℤ
values_in c [] = []
values_in c (e ∷ es) = (if e.cell == c then put_by e.op else []) ++ values_in c es

-- the values that a history takes out of a cell, in order
abbrev pub values_out : ℕ → List Event → List ℤ
values_out c [] = []
values_out c (e ∷ es) = (if e.cell == c then taken_by e.op e.reply else []) ++ values_out c es

-- a channel's operations: those that overwrite no value and drop none
abbrev pub IsOfChannel : CellOp → Type 0
IsOfChannel ReadFE = Unit {0}
IsOfChannel ReadFF = Unit {0}
IsOfChannel (WriteEF v) = Unit {0}
IsOfChannel (WriteFF v) = ⊥
IsOfChannel (WriteXF v) = ⊥
IsOfChannel Reset = ⊥

-- the history uses the cell as a channel
abbrev pub IsChannel : ℕ → List Event → Type 0
IsChannel c es = All (λ e. e.cell ≡ c → IsOfChannel e.op) es

-- What was in the cell at first and what was put in are, in this order, what was taken out and what is in it at the end.
abbrev pub HandsOn : List CellState → ℕ → List Event → Type 0
HandsOn cs c es = content (cell_at cs c) ++ values_in c es ≡ values_out c es ++ content (cell_at (after cs es) c)

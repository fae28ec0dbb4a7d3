-- The slot of the name from which a domain or an array is derived: that of a domain or an array; a range has no root.
use Rattle.std.specs.Prelude.{ℕ, Option, Some, None}
use Rattle.dpl_memory.specs.Memory.{VariableKind, PlainKind, DomainKind, TupleKind, CellKind, ArrayKind, Variable}

abbrev pub slot_of : VariableKind → ℕ → Option ℕ
slot_of DomainKind slot = Some slot
slot_of (ArrayKind k) slot = Some slot
slot_of (PlainKind leaf) slot = None
slot_of TupleKind slot = None
slot_of (CellKind c) slot = None

abbrev pub slot_by : Option Variable → Option ℕ
slot_by None = None
slot_by (Some x) = slot_of x.kind x.slot

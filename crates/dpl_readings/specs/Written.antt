-- The slot of the first array of which statements write an element, in the order of their text, whether or not it is reached.
use Rattle.std.specs.Prelude.{ℕ, Option}
use Rattle.dpl_language.specs.Tree.{StmtTree, Stmts, Else}
use Rattle.dpl_memory.specs.Memory.{Variable}
use Rattle.dpl_standing.specs.Written.{first_written, first_among, first_in_else}

abbrev pub slot_of : Variable → ℕ
slot_of x = x.slot

abbrev pub written_by : StmtTree Variable → Option ℕ
written_by t = first_written slot_of t

abbrev pub written_among : Stmts Variable → Option ℕ
written_among ts = first_among slot_of ts

abbrev pub written_else : Else Variable → Option ℕ
written_else t = first_in_else slot_of t

-- The codes by which a refused run is told.
use Rattle.std.specs.Prelude.{ℕ, List, codes}
use Rattle.dpl_outcome.specs.declared.refused.Refused.{Refused}
use Rattle.dpl_outcome.specs.declared.refused.Refused.TheVariants.{Memory, Thread, Gate, Writer}

-- `M1`: out of memory; `M2`: a worker was not started; `G1`: the gate refused; `W1`: the writer failed
abbrev pub refused_text : Refused → List ℕ
refused_text Memory = codes "M1"
refused_text Thread = codes "M2"
refused_text Gate = codes "G1"
refused_text Writer = codes "W1"

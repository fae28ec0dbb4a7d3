-- Where maps start, by what is found: a value, or none at a fault.
use Rattle.std.specs.Prelude.{Option, Some, None, Result, Ok, Err}
use Rattle.dpl_language.specs.Values.{Index, Fault}
use Rattle.dpl_language.specs.Distributions.{Distribution, NoMap, BlockCyclicFrom}

abbrev pub value_or_none : Result Index Fault → Option Index
value_or_none (Ok t) = Some t
value_or_none (Err f) = None

-- from a start, in blocks of sizes
abbrev pub blocks_or_none : Option Index → Option Index → Distribution
blocks_or_none (Some t) (Some sizes) = BlockCyclicFrom t sizes
blocks_or_none (Some t) None = NoMap
blocks_or_none None sizes = NoMap

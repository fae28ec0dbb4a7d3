-- Reductions as loops without rows: each turn adds the value of its index.
use Rattle.std.specs.Prelude.{ℕ, Result, Ok, Err}
use Rattle.dpl_language.specs.Tree.{Op}
use Rattle.dpl_language.specs.Values.{Value, Index, Fault}
use Rattle.dpl_language.specs.Arithmetic.{combined}
use Rattle.dpl_apart.specs.Rows.{Turned, Leaves, Fails, Ran, Finished, Failed, Loop}

-- a value is added, or there is a fault
abbrev pub adding : Result Value Fault → Turned (Unit {0}) Value
adding (Ok v) = Leaves tt v
adding (Err f) = Fails f

abbrev pub fold_loop : Op → (Index → Result Value Fault) → (Index → ℕ) → Loop (Unit {0}) Value
fold_loop op value place = record { turn = λ t row. adding (value t); join = combined op; place = place }

abbrev pub no_rows : Index → Unit {0}
no_rows t = tt

-- what such a loop came to, as a value or the first fault
abbrev pub fold_of : Ran (Unit {0}) Value → Result Value Fault
fold_of (Finished rows v) = Ok v
fold_of (Failed k f) = Err f

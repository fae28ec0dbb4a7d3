-- How parts of statements answer: a word, or an array of words.
-- Where memory ran out nothing is said.
use Rattle.std.specs.Prelude.{◌≡◌, ℤ, List, map, Result, Ok, Err}
use Rattle.dpl_sets.specs.TextRanges.{TextRange}
use Rattle.dpl_language.specs.Values.{Value, kept_number, Fault as FaultValue}
use Rattle.dpl_language.specs.Outcome.{with_ok}
use Rattle.dpl_memory.specs.Memory.{Held, whole_held}
use Rattle.dpl_frame.specs.Faults.{fault_view}
use Rattle.dpl_loop.specs.declared.stop.RunStop.{RunStop}
use Rattle.dpl_loop.specs.declared.stop.RunStop.TheVariants as stop

-- the word of a value, or its fault; or an entry was refused, which may be
abbrev pub Names : Type 0 → Result ℤ RunStop → Result Value FaultValue → Type 0
Names may (Ok w) r = with_ok r (λ v. Ok (kept_number v)) ≡ Ok w
Names may (Err (stop.Fault f)) r = r ≡ Err (fault_view f)
Names may (Err stop.Memory) r = Unit {0}
Names may (Err stop.Thread) r = Unit {0}
Names may (Err stop.Gate) r = may

-- an array of the words of values, over a domain; or their first fault; or an entry was refused
abbrev pub Gathers : Type 0 → Result Held RunStop → List TextRange → Result (List Value) FaultValue → Type 0
Gathers may (Ok a) rs g = with_ok g (λ vs. Ok (whole_held rs (map kept_number vs))) ≡ Ok a
Gathers may (Err (stop.Fault f)) rs g = g ≡ Err (fault_view f)
Gathers may (Err stop.Memory) rs g = Unit {0}
Gathers may (Err stop.Thread) rs g = Unit {0}
Gathers may (Err stop.Gate) rs g = may

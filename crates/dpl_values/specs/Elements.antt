-- What a walk finds at an index, a domain that is made, and one that a loop may go through; or the fault of it.
use Rattle.std.specs.Prelude.{if◌then◌else◌, nat_lt, ℤ, List, Option, Some, None, Result, Ok, Err}
use Rattle.dpl_syntax.specs.declared.place.Place.{Place}
use Rattle.dpl_sets.specs.TextRanges.{TextRange}
use Rattle.dpl_language.specs.Values.{Fault, fault, Outside, PastLimit, Budget}
use Rattle.dpl_language.specs.Ranges.{size_in}
use Rattle.dpl_language.specs.Environment.{Limits}

-- the word, or F1 at the array's name
abbrev pub word_found : Place → Option ℤ → Result ℤ Fault
word_found at None = Err (fault Outside at)
word_found at (Some w) = Ok w

-- the domain, or F3 at its bracket
abbrev pub sized_or : Place → Option (List TextRange) → Result (List TextRange) Fault
sized_or at None = Err (fault PastLimit at)
sized_or at (Some rs) = Ok rs

-- no more indices than the budget, or F5
abbrev pub within_at : Limits → Place → List TextRange → Result (Unit {0}) Fault
within_at limits at rs = if nat_lt limits.budget (size_in rs) then Err (fault Budget at) else Ok tt

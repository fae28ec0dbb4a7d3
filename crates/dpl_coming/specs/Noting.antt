-- A memory in which foralls are noted: a record is kept of those of which a note tells something.
-- It is told as the language's own record tells it, by the forall's place, its domain and the memory as it is entered; what is to come is not seen.
use Rattle.std.specs.Prelude.{List, Option, Some, None}
use Rattle.dpl_syntax.specs.declared.place.Place.{Place}
use Rattle.dpl_sets.specs.TextRanges.{TextRange}
use Rattle.dpl_language.specs.Outcome.{LoopRun, Deeds, with_loop}
use Rattle.dpl_language.specs.Environment.{Environment}
use Rattle.dpl_memory.specs.Memory.{Variable, Memory, in_memory}
use Rattle.dpl_coming.specs.Taken.{nothing, with_coming}

abbrev pub Note : Type 0
Note = Place → List TextRange → Memory → Option LoopRun

-- with this one a memory is as it ever is
abbrev pub silent : Note
silent at rs s = None

abbrev pub noted : Option LoopRun → Deeds → Deeds
noted None done = done
noted (Some l) done = with_loop l done

abbrev pub noting : Note → Environment Variable Memory
noting note = record in_memory { note = λ at rs s done. noted (note at rs (with_coming nothing s)) done }

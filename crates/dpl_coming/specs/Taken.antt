-- What is to come to a run, and what the run took of it, which is read off its deeds: replies to its operations, and histories for its
-- coforalls.
use Rattle.std.specs.Prelude.{List, [], ◌++◌, map, Option, None, option_map}
use Rattle.dpl_history.specs.declared.cell.Reply.{Reply}
use Rattle.dpl_history.specs.declared.history.Event.{Event}
use Rattle.dpl_language.specs.Outcome.{Operation, Entered, Deeds, Outcome, Done, Stop, Waits}
use Rattle.dpl_memory.specs.Memory.{Coming, Memory}

-- nothing is to come
abbrev pub nothing : Coming
nothing = record { replies = None; histories = [] }

-- a memory with something else to come, and the same end of a run with it
abbrev pub with_coming : Coming → Memory → Memory
with_coming rest s = record s { coming = rest }

abbrev pub ends_with : Coming → Outcome Memory → Outcome Memory
ends_with rest (Done s done) = Done (with_coming rest s) done
ends_with rest (Stop f done) = Stop f done
ends_with rest (Waits at c op done) = Waits at c op done

-- what was to come before some deeds were done
abbrev pub replies_in : List Operation → List Reply
replies_in os = map {A = Operation} {B = Reply} (λ o. o.reply) os

abbrev pub histories_in : List Entered → List (List Event)
histories_in es = map {A = Entered} {B = List Event} (λ e. e.history) es

abbrev pub behind_replies : List Reply → Option (List Reply) → Option (List Reply)
behind_replies rs rest = option_map (λ more. rs ++ more) rest

abbrev pub before : Deeds → Coming → Coming
before made rest = record { replies = behind_replies (replies_in made.operations) rest.replies; histories = histories_in made.entered ++ rest.histories }

-- both, one after the other
abbrev pub and_then : Deeds → Deeds → Deeds
and_then a b = record { text = a.text ++ b.text; operations = a.operations ++ b.operations; entered = a.entered ++ b.entered; loops = a.loops ++ b.loops }

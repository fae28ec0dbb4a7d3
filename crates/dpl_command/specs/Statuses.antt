-- The status with which the process ends, and what is told on standard error, by what became of a text.
use Rattle.std.specs.Prelude.{◌≡◌, ◌≢◌, ℕ, Bool, true, false, List, [], ◌∷◌, ◌++◌, codes, Result, Ok, Err}
use Rattle.std.specs.declared.io.ErrorKind.{ErrorKind}
use Rattle.std.specs.declared.io.ErrorKind.TheVariants.{OutOfMemory}
use Rattle.dpl_outcome.specs.declared.outcome.Outcome.TheVariants.{Done, Stopped, Rejected}
use Rattle.dpl_outcome.specs.declared.refused.Refused.{Refused}
use Rattle.dpl_outcome.specs.declared.refused.Refused.TheVariants.{Memory, Thread, Gate, Writer}
use Rattle.dpl_outcome.specs.Refusals.{refused_text}
use Rattle.dpl_says.specs.Dump.{dumped}
use Rattle.dpl_command.specs.declared.ended.Ended.{Ended}
use Rattle.dpl_command.specs.declared.ended.Ended.TheVariants.{Ran, Failed, Unread}

-- out of memory, a worker that was not started, or a gate that refused; a writer that failed
abbrev pub refused_status : Refused → ℕ
refused_status Memory = 3
refused_status Thread = 3
refused_status Gate = 3
refused_status Writer = 4

-- done, unless what is told of it can't be written; stopped by a fault; a text that isn't a program; a refused run; a text
-- that can't be read
abbrev pub status_of : Ended → Result Unit Refused → ℕ
status_of (Ran (Done left)) (Ok u) = 0
status_of (Ran (Done left)) (Err e) = refused_status e
status_of (Ran (Stopped f)) told = 1
status_of (Ran (Rejected r)) told = 2
status_of (Failed e) told = refused_status e
status_of Unread told = 4

-- the line that tells why there is no outcome, or no dump
abbrev pub line_of : Refused → List ℕ
line_of e = codes "dpl: " ++ refused_text e ++ 10 ∷ []

-- the variables that a program left, where they are asked for, and of a run that is done alone; and why there is no outcome
abbrev pub told_of : Bool → Ended → List ℕ
told_of true (Ran (Done left)) = dumped left
told_of false (Ran (Done left)) = []
told_of dumps (Ran (Stopped f)) = []
told_of dumps (Ran (Rejected r)) = []
told_of dumps (Failed e) = line_of e
told_of dumps Unread = codes "dpl: cannot read" ++ 10 ∷ []

-- an error of this kind keeps a text from being read: want of memory is told as such, and every other kind as a text that can't be read
abbrev pub IsUnreadBy : ErrorKind → Ended → Type 0
IsUnreadBy kind ended = (kind ≡ OutOfMemory → ended ≡ Failed Memory) × (kind ≢ OutOfMemory → ended ≡ Unread)

-- a person is told no more than a script: no rule was broken, and no fault arose
abbrev pub IsUntold : Ended → Type 0
IsUntold (Ran (Done left)) = Unit
IsUntold (Ran (Stopped f)) = ⊥
IsUntold (Ran (Rejected r)) = ⊥
IsUntold (Failed e) = Unit
IsUntold Unread = Unit

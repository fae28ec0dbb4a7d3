-- How the program ends: what it read, what it ran, and what stands on its writers.
-- Bytes of a reader or a writer are told where they are known.
use Rattle.std.specs.Prelude.{◌≡◌, ℕ, Bool, true, false, List, [], ◌++◌, take, Option, Result, Ok, Err, IfSome}
use Rattle.std.specs.Io.KnownBytes.{Appends, Keeps}
use Rattle.std.specs.declared.io.ErrorKind.{ErrorKind}
use Rattle.dpl_outcome.specs.declared.outcome.Outcome.{Outcome}
use Rattle.dpl_outcome.specs.declared.refused.Refused.{Refused}
use Rattle.dpl_outcome.specs.declared.refused.Refused.TheVariants.{Memory, Thread, Gate, Writer}
use Rattle.dpl_run.specs.Headline.{Says}
use Rattle.dpl_outcome.specs.Settings.{Settings, limits_of}
use Rattle.dpl_outcome.specs.Writers.{Partly}
use Rattle.dpl_command.specs.declared.ended.Ended.{Ended}
use Rattle.dpl_command.specs.declared.ended.Ended.TheVariants.{Ran, Failed, Unread}
use Rattle.dpl_command.specs.Statuses.{IsUnreadBy, IsUntold, line_of, status_of, told_of}

-- All of an input is the text, or one byte more than the longest text has.
abbrev pub IsTextOf : Option (List ℕ) → List ℕ → Type 0
IsTextOf input text = IfSome input (λ bytes. text ≡ take 1048577 bytes)

-- What the text says by these sets and these settings is what became of it, and was written. Without memory nothing was
-- written, nor where a worker was not started, and of what a writer failed to take the first bytes. The program's gate refuses nothing.
-- A text that is there was read.
abbrev pub IsRunOf : List ℕ → List (List ℕ) → Settings → Option (List ℕ) → Option (List ℕ) → Ended → Type 0
IsRunOf text sets settings old new (Ran o) =
    (said : List ℕ) × Appends old new said × Says text sets (limits_of settings) o said
IsRunOf text sets settings old new (Failed Memory) = Keeps old new
IsRunOf text sets settings old new (Failed Thread) = Keeps old new
IsRunOf text sets settings old new (Failed Gate) = ⊥
IsRunOf text sets settings old new (Failed Writer) =
    (o : Outcome) × (said : List ℕ) × Says text sets (limits_of settings) o said × Partly old new said
IsRunOf text sets settings old new Unread = ⊥

-- what came of reading an input: its bytes, or the kind of the error that kept them from being read
abbrev pub read_of : {T E : Type 0} → Result T E → (T → List ℕ) → (E → ErrorKind) → Result (List ℕ) ErrorKind
read_of (Ok text) bytes kind = Ok (bytes text)
read_of (Err error) bytes kind = Err (kind error)

-- A text that was read was run so; what kept one from being read is told by its kind, and nothing was written.
abbrev pub HasRun : Result (List ℕ) ErrorKind → List (List ℕ) → Settings → Option (List ℕ) → Option (List ℕ) → Ended → Type 0
HasRun (Ok text) sets settings old new ended = IsRunOf text sets settings old new ended
HasRun (Err kind) sets settings old new ended = IsUnreadBy kind ended × Keeps old new

-- what a person is told behind what a script is told: something only where a rule was broken or a fault arose
abbrev pub IsMore : Bool → Ended → List ℕ → Type 0
IsMore false ended more = more ≡ []
IsMore true ended more = IsUntold ended → more ≡ []

-- why not all of these bytes could be written: memory ran out, and that is told in their place; or the writer failed, and took the first of them
abbrev pub IsCutBy : List ℕ → Option (List ℕ) → Option (List ℕ) → Bool → Refused → Type 0
IsCutBy bytes old new failed Memory = (failed ≡ false → Appends old new (line_of Memory)) × Partly old new (line_of Memory)
IsCutBy bytes old new failed Thread = ⊥
IsCutBy bytes old new failed Gate = ⊥
IsCutBy bytes old new failed Writer = (failed ≡ true) × Partly old new bytes

-- Told on standard error: what a script is told, and behind it what a person is, where one reads it; or what a script is told was
-- cut off.
abbrev pub IsTold : Bool → Bool → Ended → Option (List ℕ) → Option (List ℕ) → Bool → Result Unit Refused → Type 0
IsTold shown dumps ended old new failed (Ok u) = (more : List ℕ) × IsMore shown ended more × Appends old new (told_of dumps ended ++ more)
IsTold shown dumps ended old new failed (Err e) = IsCutBy (told_of dumps ended) old new failed e

-- The program ends with this status: what was read was run, and on standard error stands what is told of that. Where not all of it
-- could be written, `failed` says whether standard error had failed.
pub record EndsWith (read : Result (List ℕ) ErrorKind) (sets : List (List ℕ)) (settings : Settings) (dumps shown : Bool)
    (out new_out errors new_errors : Option (List ℕ)) (failed : Bool) (status : ℕ) : Type 0 where
  pub ended : Ended
  pub run : HasRun read sets settings out new_out ended
  pub told : Result Unit Refused
  pub lines : IsTold shown dumps ended errors new_errors failed told
  pub by : status ≡ status_of ended told

-- The program ends with this status where an error of this kind keeps it from opening its input.
pub record EndsUnread (kind : ErrorKind) (errors new_errors : Option (List ℕ)) (failed : Bool) (status : ℕ) : Type 0 where
  pub ended : Ended
  pub unread : IsUnreadBy kind ended
  pub told : Result Unit Refused
  pub lines : IsTold false false ended errors new_errors failed told
  pub by : status ≡ status_of ended told

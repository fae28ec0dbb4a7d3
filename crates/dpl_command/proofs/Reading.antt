-- From the run of a text to what becomes of what was read.
use Rattle.std.proofs.Common.{◌≡◌, refl, ℕ, List, Option, Result, Ok, Err}
use Rattle.std.specs.Prelude.{IfOk, IfErr}
use Rattle.std.specs.Io.KnownBytes.{Keeps}
use Rattle.std.specs.declared.io.ErrorKind.{ErrorKind}
use Rattle.dpl_outcome.specs.declared.outcome.Outcome.{Outcome}
use Rattle.dpl_outcome.specs.declared.refused.Refused.{Refused}
use Rattle.dpl_outcome.specs.declared.refused.Refused.TheVariants.{Memory, Thread, Gate, Writer}
use Rattle.dpl_run.specs.Headline.{Says}
use Rattle.dpl_outcome.specs.Settings.{Settings, limits_of}
use Rattle.dpl_outcome.specs.Writers.{Partly}
use Rattle.dpl_command.specs.declared.ended.Ended.{Ended}
use Rattle.dpl_command.specs.declared.ended.Ended.TheVariants.{Failed}
use Rattle.dpl_command.specs.Ending.{read_of, HasRun, IsRunOf}
use Rattle.dpl_command.specs.Statuses.{IsUnreadBy}

-- a run that was refused, by its cause
pub IsRunOf-refused : (text : List ℕ) (sets : List (List ℕ)) (settings : Settings) (old new : Option (List ℕ)) (e : Refused)
    → (e ≡ Memory → Keeps old new) → (e ≡ Thread → Keeps old new) → (e ≡ Gate → ⊥)
    → (e ≡ Writer → (o : Outcome) × (said : List ℕ) × Says text sets (limits_of settings) o said × Partly old new said)
    → IsRunOf text sets settings old new (Failed e)
IsRunOf-refused text sets settings old new Memory memory thread gate writer = memory refl
IsRunOf-refused text sets settings old new Thread memory thread gate writer = thread refl
IsRunOf-refused text sets settings old new Gate memory thread gate writer = gate refl
IsRunOf-refused text sets settings old new Writer memory thread gate writer = writer refl

pub HasRun-of : {T E : Type 0} (items : T → List ℕ) (kind : E → ErrorKind) (read : Result T E) (sets : List (List ℕ)) (settings : Settings) (old new : Option (List ℕ)) (ended : Ended)
    → IfOk read (λ t. IsRunOf (items t) sets settings old new ended) → IfErr read (λ e. IsUnreadBy (kind e) ended × Keeps old new)
    → HasRun (read_of read items kind) sets settings old new ended
HasRun-of items kind (Ok t) sets settings old new ended run unread = run
HasRun-of items kind (Err e) sets settings old new ended run unread = unread

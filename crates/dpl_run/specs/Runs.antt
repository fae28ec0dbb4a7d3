-- How the end of a run over words is told: the outcome, and all that is written.
-- What is left are the names in sight, with what the words of their leaves are. And the tasks of each coforall ran together.
use Rattle.std.specs.Prelude.{◌≡◌, ℕ, List, map}
use Rattle.dpl_language.specs.Outcome.{Deeds, Outcome as Meant, Done as DoneAt, Stop as StopAt}
use Rattle.dpl_language.specs.Program.{written}
use Rattle.dpl_language.specs.Together.{AllTogether}
use Rattle.dpl_rules.specs.Sights.{Scopes}
use Rattle.dpl_memory.specs.Memory.{Memory}
use Rattle.dpl_memory.specs.Resolved.{frame_in}
use Rattle.dpl_frame.specs.Faults.{fault_view}
use Rattle.dpl_outcome.specs.declared.outcome.Outcome.{Outcome}
use Rattle.dpl_outcome.specs.declared.outcome.Outcome.TheVariants.{Done, Stopped, Rejected}
use Rattle.dpl_run.specs.TopLevel.{sighted_in}
use Rattle.dpl_outcome.specs.Names.{names_of}

abbrev pub RanTo : Scopes → Meant Memory → Outcome → List ℕ → Type 0
RanTo scopes m (Done left) said =
    (last : Memory) × (done : Deeds) × (m ≡ DoneAt last done) × (said ≡ done.text) × AllTogether done.entered
    × (left ≡ frame_in last (map (sighted_in scopes) (names_of scopes)))
RanTo scopes m (Stopped fault) said =
    (done : Deeds) × (m ≡ StopAt (fault_view fault) done) × (said ≡ written {S = Memory} (StopAt (fault_view fault) done)) × AllTogether done.entered
RanTo scopes m (Rejected r) said = ⊥

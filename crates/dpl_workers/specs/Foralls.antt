-- How workers make a forall: what is asked before they are started, what they have made, and what they leave put together.
use Rattle.std.specs.Prelude.{◌≡◌, ℕ, Option, Some, None, List, map, length}
use Rattle.std.specs.List.{AllByRecursion}
use Rattle.dpl_sets.specs.Ranges.{RangeValue}
use Rattle.dpl_map.specs.Maps.{AxisValue, owner}
use Rattle.dpl_map.specs.Parts.{part}
use Rattle.dpl_language.specs.Values.{Index}
use Rattle.dpl_language.specs.Outcome.{Run}
use Rattle.dpl_language.specs.Environment.{Limits}
use Rattle.dpl_memory.specs.Memory.{Memory}
use Rattle.dpl_apart.specs.Operands.{AreExact}
use Rattle.dpl_apart.specs.Rows.{AreOnce}
use Rattle.dpl_apart.specs.Memories.{Changes, IsFormed, MayBeApart, words_in, operators_of}
use Rattle.dpl_apart.specs.Workers.{worker_memory, HaveWorkers}
use Rattle.dpl_frame.specs.Shares.{plain_of, with_plain}
use Rattle.dpl_workers.specs.declared.job.Worked.{Worked}
use Rattle.dpl_workers.specs.declared.taken.Taken.{Taken}
use Rattle.dpl_workers.specs.declared.plan.Plan.{Plan}
use Rattle.dpl_workers.specs.Formed.{IsWhole}
use Rattle.dpl_workers.specs.Workers.{HasWorked}
use Rattle.dpl_workers.specs.Parts.{AreParts}
use Rattle.dpl_workers.specs.Taken.{given_back}
use Rattle.dpl_workers.specs.Joined.{words_left, words_by, reduced_to}

-- turns over a domain may be made apart over a memory, and these are the locales' parts of the domain
pub record IsPlan (turn : Limits → Index → Run Memory) (whole : List RangeValue) (axes : List AxisValue) (m : Memory) (p : Plan) : Type 0 where
  pub may : (limits : Limits) → MayBeApart p.apart (turn limits)
  pub rank : length whole ≡ p.apart.rank
  pub formed : IsFormed p.apart m
  pub exact : AreExact (operators_of p.apart.reduced) (words_in p.apart.reduced m)
  pub once : AreOnce p.apart.written
  pub whole_arrays : AllByRecursion (IsWhole m) p.apart.written
  pub parts : AreParts whole axes p.parts.items

-- workers have made the turns of a domain: one for each of so many locales whose part isn't empty
pub record HaveMade (may : Type 0) (turn : Index → Run Memory) (h : Changes) (whole : List RangeValue) (axes : List AxisValue) (n : ℕ) (m : Memory) (ws : List Worked) : Type 0 where
  pub locales : HaveWorkers (part whole axes) n (map (λ (w : Worked). w.locale) ws)
  pub each : AllByRecursion (λ (w : Worked). HasWorked may turn (part whole axes w.locale) (worker_memory h (owner axes) w.locale m) w) ws

-- a memory with what the worker of the last index has left besides arrays
abbrev pub with_last : (Index → ℕ) → Option Index → List Worked → Memory → Memory
with_last owns None ws m = m
with_last owns (Some t) ws m = with_plain (words_by (owns t) ws (plain_of m)) m

-- all that workers have left, put together
abbrev pub put_together : Changes → (Index → ℕ) → Option Index → List Taken → List Worked → Memory → Memory
put_together h owns last ts ws m = reduced_to h.reduced (words_left h.reduced ws m) (with_last owns last ws (given_back ts ws m))

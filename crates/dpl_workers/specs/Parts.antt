-- The parts of a forall's domain, one for each locale, and the jobs of those whose part isn't empty.
use Rattle.std.specs.Prelude.{◌≡◌, ◌<◌, ℕ, Option, Some, None, List, [], get_or, length}
use Rattle.dpl_sets.specs.Ranges.{RangeValue}
use Rattle.dpl_sets.specs.Indices.{indices}
use Rattle.dpl_map.specs.Maps.{AxisValue, owner, locales}
use Rattle.dpl_map.specs.Parts.{part}
use Rattle.dpl_language.specs.Tree.{Op}
use Rattle.dpl_language.specs.Values.{Index}
use Rattle.dpl_memory.specs.Memory.{Memory}
use Rattle.dpl_apart.specs.Memories.{Changes}
use Rattle.dpl_apart.specs.Workers.{worker_memory}
use Rattle.dpl_frame.specs.Frames.{Framed, with_memory}
use Rattle.dpl_frame.specs.declared.share.Share.{Share}
use Rattle.dpl_frame.specs.declared.share.Share.TheVariants.{Lent}
use Rattle.dpl_workers.specs.declared.job.Job.{Job}
use Rattle.dpl_workers.specs.declared.parts.Part.{Part}
use Rattle.dpl_workers.specs.declared.parts.Part.TheVariants.{Sole, Owned}
use Rattle.dpl_workers.specs.declared.taken.Taken.{Taken}
use Rattle.dpl_workers.specs.Formed.{begun_with}
use Rattle.dpl_workers.specs.Taken.{AreThere, share_of}

-- the indices that a part of a locale stands for
abbrev pub indices_of : Part → List RangeValue → List AxisValue → ℕ → List Index
indices_of (Sole d) whole axes l = indices d
indices_of Owned whole axes l = part whole axes l

-- the part of a locale; one without indices has none
abbrev pub IsPart : List RangeValue → List AxisValue → ℕ → Option Part → Type 0
IsPart whole axes l None = part whole axes l ≡ []
IsPart whole axes l (Some p) = indices_of p whole axes l ≡ part whole axes l

-- the indices of a part, if there is one
abbrev pub part_in : List RangeValue → List AxisValue → ℕ → Option Part → List Index
part_in whole axes l None = []
part_in whole axes l (Some p) = indices_of p whole axes l

-- one for each locale of a map
pub record AreParts (whole : List RangeValue) (axes : List AxisValue) (parts : List (Option Part)) : Type 0 where
  pub count : length parts ≡ locales axes
  pub owners : (t : Index) → owner axes t < length parts
  pub each : (l : ℕ) → l < length parts → IsPart whole axes l (get_or parts l None)

-- the job of a locale: its part of a domain, and a frame with what its worker begins with
pub record IsJob (h : Changes) (whole : List RangeValue) (axes : List AxisValue) (m : Memory) (f : Framed) (j : Job) : Type 0 where
  pub part : indices_of j.part.now whole axes j.locale ≡ part whole axes j.locale
  pub frame : j.frame ≡ with_memory (worker_memory h (owner axes) j.locale m) f

-- it is begun: the locale has one of some parts, and of what was taken apart its pieces
pub record IsBegun (ps : List (ℕ × Op)) (parts : List (Option Part)) (ts : List Taken) (f : Framed) (j : Job) : Type 0 where
  pub below : j.locale < length parts
  pub part : get_or parts j.locale None ≡ Some j.part.now
  pub own : List Share
  pub shares : (slot : ℕ) → get_or own slot Lent ≡ share_of j.locale slot ts
  pub there : AreThere j.locale ts
  pub frame : j.frame ≡ with_memory (begun_with ps own f.memory) f

-- What is begun of parts and of what was taken apart, is begun of the loop and its memory.
use Rattle.std.proofs.Common.{map, List, IfOk, subst}
use Rattle.std.specs.List.{AllByRecursion}
use Rattle.dpl_sets.specs.Ranges.{RangeValue}
use Rattle.dpl_map.specs.Maps.{AxisValue}
use Rattle.dpl_memory.specs.Memory.{Memory, intents_by_slot}
use Rattle.dpl_nodes.specs.Steps.{intent_view}
use Rattle.dpl_apart.specs.Memories.{Changes}
use Rattle.dpl_workers.specs.declared.taken.Taken.{Taken}
use Rattle.dpl_workers.specs.Parts.{AreParts, IsJob, IsBegun}
use Rattle.dpl_workers.specs.Taken.{AreTaken}
use Rattle.dpl_workers.proofs.JobShares.{jobs-begun, jobs-have}
use Rattle.dpl_workers.proofs.jobs.jobs.Goals as goal

pub returns-clause-jobs : goal.returns-clause-jobs
returns-clause-jobs c =
    let a = c.apart.inside in
    let h : Changes = record { rank = a.rank; written = a.written.now; reduced = intents_by_slot (map intent_view a.reduced.now); numbers = a.numbers.now; ranges = a.ranges.now; tuples = a.tuples.now } in
    let parts = c.args.parts.now in
    let f = c.args.frame.now in
    subst (λ (h : Changes). IfOk c.begin_all.result (λ js. (whole : List RangeValue) (axes : List AxisValue) (m : Memory) → AreParts whole axes parts
    → AreTaken axes h.written m c.args.taken.now.items f.memory → AllByRecursion (IsJob h whole axes m f) js.items)) c.apart.view_is
    (jobs-begun (λ js. js.items) c.begin_all.result h parts c.args.taken.now.items f
    (subst (λ (ts : List Taken). IfOk c.begin_all.result (λ js. AllByRecursion (IsBegun h.reduced parts ts f) js.items)) c.as_mut_slice.ensures.value c.begin_all.ensures.jobs))

pub returns-clause-locales : goal.returns-clause-locales
returns-clause-locales c = jobs-have (λ js. js.items) c.begin_all.result c.args.parts.now c.begin_all.ensures.locales

-- What the walk gives is a plan of the program, and its words are those of the sets. The tree in the box is the program's.
use Rattle.std.proofs.Common.{◌≡◌, map, subst, rules}
use Rattle.dpl_tree.specs.Statements.{program_view}
use Rattle.dpl_run.specs.Elaborated.{IsUnrefused, IsElaborated}
use Rattle.dpl_run.proofs.Planned.{planned}
use Rattle.dpl_run.proofs.Runnable.{program-runs, program-allowed}
use Rattle.dpl_run.proofs.checking.elaborated.Goals as goal

pub returns-clause-checked : goal.returns-clause-checked
returns-clause-checked c =
    let t = program_view c.args.program.now in
    let sets = map (λ set. set.now) c.args.sets.now in
    let is : IsUnrefused t sets = c.requires.unrefused in
    let w = c.args.walked in
    let h = c.requires.walked in
    let words = c.in_ok-words.words.items in
    let same : c.args.program.now ≡ c.in-Ok.program.value = search rules in
    let elaborated : IsElaborated t sets w.slots w.scopes w.steps.items words = record {
      unrefused = is;
      allowed = program-allowed is.0 sets t is.1;
      plan = planned t w.slots w.scopes w.steps.items (program-runs is.0 sets t is.1) h.steps h.slots h.scopes;
      given = c.in_ok-words.ensures;
    } in
    subst (λ q. IsElaborated (program_view q) sets w.slots w.scopes w.steps.items words) same elaborated

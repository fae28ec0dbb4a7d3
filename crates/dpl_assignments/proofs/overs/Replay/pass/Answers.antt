-- In a scope that is opened no array is found yet.
use Rattle.std.proofs.Common.{sym, ap, subst}
use Rattle.std.specs.Prelude.{OnOk}
use Rattle.dpl_assignments.specs.Overs.{IsFoundBy, passed}
use Rattle.dpl_typed.proofs.Standing.{on_both}
use Rattle.dpl_assignments.proofs.FoundArrays.{found-entered}
use Rattle.dpl_assignments.proofs.overs.Replay.pass.Goals as goal

pub returns-in-Opens-clause-found : goal.returns-in-Opens-clause-found
returns-in-Opens-clause-found c =
    let old = c.args.self.now in
    let now = c.enter.new.self in
    subst (λ m. OnOk c.enter.result (IsFoundBy c.args.slot (passed m old.before) now.slots.items now.inner)) (sym c.in-Opens.is)
    (on_both c.enter.result (λ slots inner. found-entered c.args.slot old.before old.slots.items old.inner now.slots.items now.inner c.requires.found (ap (λ v. v.items) slots) inner) c.enter.ensures.slots c.enter.ensures.inner)

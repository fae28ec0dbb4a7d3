-- Done or stopped, the run is told by how the statements end over words.
use Rattle.std.proofs.Common.{◌≡◌, ◌∙◌, ◌++◌, ◌∷◌, [], rules}
use Rattle.dpl_language.specs.Program.{fault_text, line_ended}
use Rattle.dpl_frame.specs.Faults.{fault_view}
use Rattle.dpl_standing.specs.Standing.{Outside}
use Rattle.dpl_loop.specs.Entries.{MayRefuseSome}
use Rattle.dpl_readings.specs.Readings.{steps_in}
use Rattle.dpl_outcome.specs.Names.{names_of}
use Rattle.dpl_run.proofs.Collecting.{held-frame}
use Rattle.dpl_run.proofs.Ends.{refused-may, ran-done, ran-stop}
use Rattle.dpl_run.proofs.run.run.Goals as goal

pub returns-in-Ok-clause-ends : goal.returns-in-Ok-clause-ends
returns-in-Ok-clause-ends g c = λ plain are.
    ran-done (MayRefuseSome (g.G.Gate.may_refuse c.args.gate.now)) c.args.frame.limits c.args.steps.now c.args.frame.memory c.run.new.frame.memory c.new-text.result.items c.run.new.out.items c.args.scopes.now c.new-text.ensures.items
    c.in-Ok.field-0 c.in_ok-left-in-Ok.left c.in-Ok.ensures.ends (c.in_ok-left-in-Ok.ensures ∙ held-frame c.args.scopes.now c.run.new.frame.memory plain are (names_of c.args.scopes.now))

pub returns-in-Err-Fault-clause-ends : goal.returns-in-Err-Fault-clause-ends
returns-in-Err-Fault-clause-ends g c = λ plain are.
    let out = c.run.new.out.items in
    let told : c.tell_fault.new.text.items ≡ out ++ line_ended out ++ fault_text (fault_view c.in-Err-Fault.fault) ++ 10 ∷ [] = search rules in
    rw c.in-Err-Fault.field-0-is (ran-stop (MayRefuseSome (g.G.Gate.may_refuse c.args.gate.now)) c.args.frame.limits c.args.steps.now c.args.frame.memory c.run.new.frame.memory c.new-text.result.items out c.args.scopes.now c.new-text.ensures.items
    c.in-Err-Fault.field-0 c.in-Err-Fault.fault c.tell_fault.new.text.items c.in-Err-Fault.field-0-is c.in-Err-Fault.ensures.ends told)

-- a gate that refused may refuse
pub returns-clause-unwritten : goal.returns-clause-unwritten
returns-clause-unwritten g c = refused-may _ c.args.frame.limits c.args.steps.now c.args.frame.memory c.run.new.frame.memory c.new-text.result.items c.run.new.out.items c.in-Err-Gate.field-0 c.in-Err-Gate.field-0-is c.in-Err-Gate.ensures.ends

-- What is printed is told by its text.
use Rattle.dpl_program.proofs.Printed.{walks-written}
use Rattle.dpl_program.proofs.context.ProgramContextContext.write.Goals as goal

pub returns-clause-ends : goal.returns-clause-ends
returns-clause-ends g c =
    walks-written _ (λ at cell op. ⊥) c.args.frame.now.limits c.args.ends_line c.args.arguments.now c.args.frame.now.memory c.args.out.now.items c.write.new.out.items c.write.result c.write.ensures

-- A walk over the statements of the top level, and then what is told of how many names and cells these declare.
-- Where nothing is told at the end, nothing was told before that.
use Rattle.std.proofs.Common.{◌∙◌, subst}
use Rattle.dpl_tree.specs.Statements.{stmts_of}
use Rattle.dpl_limits.specs.Counts.{all_told}
use Rattle.dpl_checker.specs.Makes.{MakesStmts}
use Rattle.dpl_checker.proofs.Walking.{program_behind, program_slots, program_told}
use Rattle.dpl_checker.proofs.Made.{untold}
use Rattle.dpl_checker.proofs.program.walk_over.Goals as goal

pub returns-clause-first : goal.returns-clause-first
returns-clause-first c =
    let begun = c.in-Ok.ensures in
    c.tell.ensures
    ∙ program_told (stmts_of c.args.program.now.stmts.now) c.in-Ok.walk c.top_level.new.walk begun.0 begun.1 begun.3 begun.4 c.in-Ok-top_level.ensures.walks

pub returns-clause-scopes : goal.returns-clause-scopes
returns-clause-scopes c =
    let begun = c.in-Ok.ensures in
    program_behind (stmts_of c.args.program.now.stmts.now) c.in-Ok.walk c.top_level.new.walk begun.0 begun.1 begun.3 begun.4 c.in-Ok-top_level.ensures.walks

pub returns-clause-slots : goal.returns-clause-slots
returns-clause-slots c =
    let begun = c.in-Ok.ensures in
    program_slots (stmts_of c.args.program.now.stmts.now) c.in-Ok.walk c.top_level.new.walk begun.0 begun.1 begun.3 begun.4 c.in-Ok-top_level.ensures.walks

pub returns-clause-steps : goal.returns-clause-steps
returns-clause-steps c = λ none plain.
    let ts = stmts_of c.args.program.now.stmts.now in
    let walk = c.top_level.new.walk in
    let quiet = untold walk.first c.tell.new.first (all_told walk.counts) c.tell.ensures none in
    subst (λ ss. MakesStmts ss ts walk.first c.in-Ok-top_level.steps.items) c.in-Ok.ensures.0 c.in-Ok-top_level.ensures.makes quiet plain

use Rattle.std.proofs.Common.{arith}
use Rattle.std.proofs.lemmas.Result.{err_from_is_err_and}
use Rattle.std.proofs.lemmas.Grind.{common_steps}
use Rattle.dpl_syntax.specs.declared.stop.Stop.TheVariants.{Refused}
use Rattle.dpl_tree.specs.Statements.{program_view}
use Rattle.dpl_grammar.proofs.Refusals.{refused_unspelled}
use Rattle.dpl_grammar.proofs.Results.{whole_spelled, whole_only, left_over, fails_is, bad_is, not_spelled, left_is, told}
use Rattle.dpl_spelling.proofs.Programs.{every}
use Rattle.dpl_parser.proofs.program.parse.Goals as goal

pub returns-then-is_empty-clause-found : goal.returns-then-is_empty-clause-found
returns-then-is_empty-clause-found c = whole_spelled every 64 c.args.tokens.now c.in_ok-tree.rest.now (program_view c.in_ok-tree.tree) (grind (arith, common_steps)) c.in_ok-tree.ensures

pub returns-then-is_empty-clause-only : goal.returns-then-is_empty-clause-only
returns-then-is_empty-clause-only c = λ d t s. whole_only every 64 d c.args.tokens.now c.in_ok-tree.rest.now (program_view c.in_ok-tree.tree) t c.in_ok-tree.ensures s

pub returns-in_err-tree-clause-complete : goal.returns-in_err-tree-clause-complete
returns-in_err-tree-clause-complete c =
    let p = err_from_is_err_and c.from_residual.result c.from_residual.ensures.1 in
    rw (p.1, p.2) (λ t s. not_spelled every 64 c.args.tokens.now c.in_err-tree.field-0.0 (fails_is every 64 c.args.tokens.now c.in_err-tree.field-0.0 c.in_err-tree.ensures) t s)

pub returns-in_err-tree-clause-refused : goal.returns-in_err-tree-clause-refused
returns-in_err-tree-clause-refused c =
    let p = err_from_is_err_and c.from_residual.result c.from_residual.ensures.1 in
    rw (p.1, p.2) (λ refusal is. fails_is every 64 c.args.tokens.now c.in_err-tree.field-0.0 c.in_err-tree.ensures refusal (bad_is c.in_err-tree.field-0.0 (Refused refusal) is))

pub returns-in_err-tree-clause-told : goal.returns-in_err-tree-clause-told
returns-in_err-tree-clause-told c =
    let p = err_from_is_err_and c.from_residual.result c.from_residual.ensures.1 in
    rw (p.1, p.2) (λ refusal g. told every 64 c.args.tokens.now c.in_err-tree.field-0.0 (fails_is every 64 c.args.tokens.now c.in_err-tree.field-0.0 c.in_err-tree.ensures) refusal g)

pub returns-then-is_empty-clause-told : goal.returns-then-is_empty-clause-told
returns-then-is_empty-clause-told c = λ refusal g. absurd (refused_unspelled every 64 c.args.tokens.now refusal (program_view c.in_ok-tree.tree) g
    (whole_spelled every 64 c.args.tokens.now c.in_ok-tree.rest.now (program_view c.in_ok-tree.tree) (grind (arith, common_steps)) c.in_ok-tree.ensures))

pub returns-else-is_empty-clause-complete : goal.returns-else-is_empty-clause-complete
returns-else-is_empty-clause-complete c =
    let here = left_over every 64 c.args.tokens.now c.in_ok-tree.rest.now (program_view c.in_ok-tree.tree) (λ e. grind (arith, common_steps)) c.in_ok-tree.ensures in
    λ t s. not_spelled every 64 c.args.tokens.now c.unexpected.result (left_is every 64 c.args.tokens.now c.unexpected.result _ c.unexpected.ensures here) t s

pub returns-else-is_empty-clause-refused : goal.returns-else-is_empty-clause-refused
returns-else-is_empty-clause-refused c =
    let here = left_over every 64 c.args.tokens.now c.in_ok-tree.rest.now (program_view c.in_ok-tree.tree) (λ e. grind (arith, common_steps)) c.in_ok-tree.ensures in
    λ refusal is. left_is every 64 c.args.tokens.now c.unexpected.result _ c.unexpected.ensures here refusal (bad_is c.unexpected.result (Refused refusal) is)

pub returns-else-is_empty-clause-told : goal.returns-else-is_empty-clause-told
returns-else-is_empty-clause-told c =
    let here = left_over every 64 c.args.tokens.now c.in_ok-tree.rest.now (program_view c.in_ok-tree.tree) (λ e. grind (arith, common_steps)) c.in_ok-tree.ensures in
    λ refusal g. told every 64 c.args.tokens.now c.unexpected.result (left_is every 64 c.args.tokens.now c.unexpected.result _ c.unexpected.ensures here) refusal g

-- Each stage that stops tells the text's refusal, and a program that has none comes to what its run does.
use Rattle.std.proofs.Common.{map, sym, ap, subst, Err}
use Rattle.std.proofs.lemmas.Result.{err_from_is_err_and}
use Rattle.dpl_syntax.specs.Text.{Lexes}
use Rattle.dpl_tree.specs.Statements.{program_view}
use Rattle.dpl_outcome.specs.Settings.{limits_of}
use Rattle.dpl_run.proofs.Stages.{lex-stops, parse-stops, if-ran, if-stopped}
use Rattle.dpl_run.proofs.text.stages.Goals as goal

pub returns-in_err-tokens-clause-stops : goal.returns-in_err-tokens-clause-stops
returns-in_err-tokens-clause-stops g c =
    let p = err_from_is_err_and c.from_residual.result c.from_residual.ensures.1 in
    rw (p.1, p.2) (lex-stops c.args.text.now (map (λ set. set.now) c.args.sets.now) c.in_err-tokens.field-0.0 c.in_err-tokens.ensures.refused)

pub returns-in_err-program-clause-stops : goal.returns-in_err-program-clause-stops
returns-in_err-program-clause-stops g c =
    let lexes : Lexes c.args.text.now c.as_slice-slice.result.now = subst (Lexes c.args.text.now) (sym c.as_slice-slice.ensures.value) c.in_ok-tokens.ensures.found in
    let p = err_from_is_err_and c.from_residual-in_err-program.result c.from_residual-in_err-program.ensures.1 in
    rw (p.1, p.2)
    (parse-stops c.args.text.now (map (λ set. set.now) c.args.sets.now) c.as_slice-slice.result.now c.in_err-program.field-0.0 lexes (λ r is. c.in_err-program.ensures.refused r (ap Err is)))

pub run_spelled-requires-clause-spelled : goal.run_spelled-requires-clause-spelled
run_spelled-requires-clause-spelled g c κs within =
    let lexes : Lexes c.args.text.now c.as_slice-slice.result.now = subst (Lexes c.args.text.now) (sym c.as_slice-slice.ensures.value) c.in_ok-tokens.ensures.found in
    (c.args.text.now, lexes, c.in_ok-program.ensures.found)

pub returns-clause-comes : goal.returns-clause-comes
returns-clause-comes g c =
    let text = c.args.text.now in
    let sets = map (λ set. set.now) c.args.sets.now in
    let t = program_view c.in_ok-program.program in
    let limits = limits_of c.args.config.now in
    let lexes : Lexes text c.as_slice-slice.result.now = subst (Lexes text) (sym c.as_slice-slice.ensures.value) c.in_ok-tokens.ensures.found in
    if-ran text sets limits t c.as_slice-slice.result.now lexes c.in_ok-program.ensures.found c.run_spelled.result c.run_spelled.ensures.unrefused c.run_spelled.ensures.runs

pub returns-clause-stops : goal.returns-clause-stops
returns-clause-stops g c =
    let text = c.args.text.now in
    let sets = map (λ set. set.now) c.args.sets.now in
    let lexes : Lexes text c.as_slice-slice.result.now = subst (Lexes text) (sym c.as_slice-slice.ensures.value) c.in_ok-tokens.ensures.found in
    if-stopped text sets (program_view c.in_ok-program.program) c.as_slice-slice.result.now lexes c.in_ok-program.ensures.found c.run_spelled.result c.run_spelled.ensures.refused

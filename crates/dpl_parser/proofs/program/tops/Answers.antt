use Rattle.std.proofs.Common.{◌≡◌, ◌∙◌, [], ◌∷◌, ◌++◌, map, true, false}
use Rattle.std.proofs.lemmas.Result.{err_from_is_err_and}
use Rattle.std.proofs.lemmas.List.{map_push}
use Rattle.dpl_syntax.specs.declared.token.Keyword.TheVariants.{Config}
use Rattle.dpl_grammar.specs.Classes.{keyword}
use Rattle.dpl_spelling.specs.Nested.{begins, StatementBelow}
use Rattle.dpl_grammar.specs.Reader.{next_in}
use Rattle.dpl_grammar.proofs.Turns.{goes_on, ends, so_fails}
use Rattle.dpl_tree.specs.Statements.{stmt_view}
use Rattle.dpl_spelling.specs.Grammar.{top}
use Rattle.dpl_spelling.specs.Reading.{at}
use Rattle.dpl_spelling.proofs.Ways.{read_tops}
use Rattle.dpl_parser.proofs.program.tops.Goals as goal

pub returns-in_err-stmt : goal.returns-in_err-stmt
returns-in_err-stmt c =
    let p = err_from_is_err_and c.from_residual.result c.from_residual.ensures.1 in
    let is : next_in (begins StatementBelow ++ keyword Config) c.each.rest.now ≡ true = cc in
    rw (p.1, p.2, read_tops c.args.room c.args.tokens.now) (so_fails (begins StatementBelow ++ keyword Config) (at top c.args.room) c.args.tokens.now (map stmt_view c.each.stmts.items) c.each.rest.now
    c.in_err-stmt.field-0.0 c.each.invariant is c.in_err-stmt.ensures.gives)

pub each-preserved : goal.each-preserved
each-preserved c =
    let x = c.in_ok-stmt.stmt in
    let e : map stmt_view c.push.new.self.items ≡ map stmt_view c.each.stmts.items ++ stmt_view x ∷ [] = rw c.in_ok-push.ensures.items (map_push _ c.each.stmts.items x) in
    let is : next_in (begins StatementBelow ++ keyword Config) c.each.rest.now ≡ true = cc in
    rw (c.passed_on-rest.ensures, e) (goes_on (begins StatementBelow ++ keyword Config) (at top c.args.room) c.args.tokens.now (map stmt_view c.each.stmts.items) c.each.rest.now
    (stmt_view x) c.in_ok-stmt.after.now c.each.invariant is c.in_ok-stmt.ensures.gives c.in_ok-stmt.ensures.shorter)

pub returns : goal.returns
returns c =
    let not : next_in (begins StatementBelow ++ keyword Config) c.each.rest.now ≡ false = cc in
    rw c.in_ok-list.ensures (read_tops c.args.room c.args.tokens.now ∙ ends (begins StatementBelow ++ keyword Config) (at top c.args.room) c.args.tokens.now (map stmt_view c.each.stmts.items) c.each.rest.now c.each.invariant not)

use Rattle.std.proofs.Common.{◌≡◌, ◌+◌, [], ◌∷◌, ◌++◌, map, true, false, refl, ◌∙◌}
use Rattle.std.proofs.lemmas.Result.{err_from_is_err_and}
use Rattle.std.proofs.lemmas.List.{map_push}
use Rattle.dpl_grammar.specs.Reader.{next_in}
use Rattle.dpl_grammar.specs.Rule.{below}
use Rattle.dpl_grammar.proofs.Turns.{goes_on, ends, so_fails}
use Rattle.dpl_tree.specs.Statements.{stmt_view}
use Rattle.dpl_spelling.specs.Nested.{begins, StatementBelow}
use Rattle.dpl_spelling.specs.Reading.{at}
use Rattle.dpl_spelling.proofs.Below.{below_statement}
use Rattle.dpl_statements.proofs.statement.+statement.Goals as goal

pub statements-returns-in_err-stmt-clause-gives : goal.statements-returns-in_err-stmt-clause-gives
statements-returns-in_err-stmt-clause-gives t c =
    let p = err_from_is_err_and c.from_residual.result c.from_residual.ensures.1 in
    let is : next_in (begins StatementBelow) c.each.rest.now ≡ true = cc in
    rw (p.1, p.2) (so_fails (begins StatementBelow) (at (below StatementBelow) (c.args.room + 1)) c.args.tokens.now (map stmt_view c.each.stmts.items) c.each.rest.now
    c.in_err-stmt.field-0.0 c.each.invariant is (rw (below_statement c.each.rest.now (c.args.room + 1) c.args.room refl) c.in_err-stmt.ensures.gives))

pub statements-each-preserved : goal.statements-each-preserved
statements-each-preserved t c =
    let x = c.in_ok-stmt.stmt in
    let e : map stmt_view c.push.new.self.items ≡ map stmt_view c.each.stmts.items ++ stmt_view x ∷ [] = rw c.in_ok-push.ensures.items (map_push _ c.each.stmts.items x) in
    let is : next_in (begins StatementBelow) c.each.rest.now ≡ true = cc in
    rw (c.passed_on-rest.ensures, e) (goes_on (begins StatementBelow) (at (below StatementBelow) (c.args.room + 1)) c.args.tokens.now (map stmt_view c.each.stmts.items) c.each.rest.now
    (stmt_view x) c.in_ok-stmt.after.now c.each.invariant is (below_statement c.each.rest.now (c.args.room + 1) c.args.room refl ∙ c.in_ok-stmt.ensures.gives) c.in_ok-stmt.ensures.shorter)

pub statements-returns-clause-gives : goal.statements-returns-clause-gives
statements-returns-clause-gives t c =
    let not : next_in (begins StatementBelow) c.each.rest.now ≡ false = cc in
    rw c.in_ok-list.ensures (ends (begins StatementBelow) (at (below StatementBelow) (c.args.room + 1)) c.args.tokens.now (map stmt_view c.each.stmts.items) c.each.rest.now c.each.invariant not)

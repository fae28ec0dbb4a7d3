use Rattle.std.proofs.Common.{◌≡◌, ◌∙◌, [], ◌∷◌, ◌++◌, map, true, false}
use Rattle.std.proofs.lemmas.Result.{err_from_is_err_and}
use Rattle.std.proofs.lemmas.List.{map_push}
use Rattle.dpl_syntax.specs.declared.token.Keyword.TheVariants.{Use}
use Rattle.dpl_grammar.specs.Classes.{keyword}
use Rattle.dpl_grammar.specs.Reader.{next_in}
use Rattle.dpl_grammar.proofs.Turns.{goes_on, ends, so_fails}
use Rattle.dpl_tree.specs.Statements.{use_view}
use Rattle.dpl_spelling.specs.Grammar.{use_line}
use Rattle.dpl_spelling.specs.Reading.{at}
use Rattle.dpl_spelling.proofs.Ways.{read_use_lines}
use Rattle.dpl_parser.proofs.program.use_lines.Goals as goal

pub returns-in_err-line : goal.returns-in_err-line
returns-in_err-line c =
    let p = err_from_is_err_and c.from_residual.result c.from_residual.ensures.1 in
    let is : next_in (keyword Use) c.each.rest.now ≡ true = cc in
    rw (p.1, p.2, read_use_lines 0 c.args.tokens.now) (so_fails (keyword Use) (at use_line 0) c.args.tokens.now (map use_view c.each.lines.items) c.each.rest.now c.in_err-line.field-0.0 c.each.invariant is c.in_err-line.ensures.gives)

pub each-preserved : goal.each-preserved
each-preserved c =
    let x = c.in_ok-line.line in
    let e : map use_view c.push.new.self.items ≡ map use_view c.each.lines.items ++ use_view x ∷ [] = rw c.in_ok-push.ensures.items (map_push _ c.each.lines.items x) in
    let is : next_in (keyword Use) c.each.rest.now ≡ true = cc in
    rw (c.passed_on-rest.ensures, e) (goes_on (keyword Use) (at use_line 0) c.args.tokens.now (map use_view c.each.lines.items) c.each.rest.now (use_view x) c.in_ok-line.after.now c.each.invariant is c.in_ok-line.ensures.gives c.in_ok-line.ensures.shorter)

pub returns : goal.returns
returns c =
    let not : next_in (keyword Use) c.each.rest.now ≡ false = cc in
    rw c.in_ok-list.ensures (read_use_lines 0 c.args.tokens.now ∙ ends (keyword Use) (at use_line 0) c.args.tokens.now (map use_view c.each.lines.items) c.each.rest.now c.each.invariant not)

use Rattle.std.proofs.Common.{◌≡◌, [], ◌∷◌, ◌++◌, map, true, false}
use Rattle.std.proofs.lemmas.Result.{err_from_is_err_and}
use Rattle.std.proofs.lemmas.List.{map_push}
use Rattle.dpl_syntax.specs.declared.token.Sign.TheVariants.{Comma}
use Rattle.dpl_grammar.specs.Classes.{sign}
use Rattle.dpl_grammar.specs.Reader.{next_in}
use Rattle.dpl_grammar.proofs.Turns.{goes_on, ends, so_fails}
use Rattle.dpl_tree.specs.Statements.{next_module_view}
use Rattle.dpl_spelling.specs.Expressions.{after_comma}
use Rattle.dpl_spelling.specs.Grammar.{module_name}
use Rattle.dpl_spelling.specs.Reading.{at}
use Rattle.dpl_parser.proofs.program.other_modules.Goals as goal

pub returns-in_err-other-clause-gives : goal.returns-in_err-other-clause-gives
unfolding after_comma
returns-in_err-other-clause-gives c =
    let p = err_from_is_err_and c.from_residual.result c.from_residual.ensures.1 in
    let is : next_in (sign Comma) c.each.rest.now ≡ true = cc in
    rw (p.1, p.2) (so_fails (sign Comma) (at (after_comma module_name) 0) c.args.tokens.now (map next_module_view c.each.others.items) c.each.rest.now c.in_err-other.field-0.0 c.each.invariant is c.in_err-other.ensures.gives)

pub each-preserved : goal.each-preserved
each-preserved c =
    let x = c.in_ok-other.other in
    let e : map next_module_view c.push.new.self.items ≡ map next_module_view c.each.others.items ++ next_module_view x ∷ [] = rw c.in_ok-push.ensures.items (map_push _ c.each.others.items x) in
    let is : next_in (sign Comma) c.each.rest.now ≡ true = cc in
    rw (c.passed_on-rest.ensures, e) (goes_on (sign Comma) (at (after_comma module_name) 0) c.args.tokens.now (map next_module_view c.each.others.items) c.each.rest.now
    (next_module_view x) c.in_ok-other.after.now c.each.invariant is c.in_ok-other.ensures.gives c.in_ok-other.ensures.shorter)

pub returns-clause-gives : goal.returns-clause-gives
unfolding after_comma
returns-clause-gives c =
    let not : next_in (sign Comma) c.each.rest.now ≡ false = cc in
    rw c.in_ok-list.ensures (ends (sign Comma) (at (after_comma module_name) 0) c.args.tokens.now (map next_module_view c.each.others.items) c.each.rest.now c.each.invariant not)

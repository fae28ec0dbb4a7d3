use Rattle.std.proofs.Common.{◌≡◌, ◌+◌, [], ◌∷◌, ◌++◌, map, true, false, sym, ap, ◌∙◌}
use Rattle.std.specs.Prelude as Bool
use Rattle.std.proofs.lemmas.Result.{err_from_is_err_and}
use Rattle.std.proofs.lemmas.List.{map_push}
use Rattle.dpl_syntax.specs.declared.token.Sign.TheVariants.{Comma}
use Rattle.dpl_grammar.specs.Classes.{sign}
use Rattle.dpl_grammar.specs.Reader.{next_in}
use Rattle.dpl_grammar.specs.Rule.{below}
use Rattle.dpl_grammar.specs.Reading.{first, first_late}
use Rattle.dpl_grammar.proofs.Turns.{goes_on, ends, so_fails}
use Rattle.dpl_grammar.proofs.RunTurns.{run_goes_on, run_last, run_ends, run_fails}
use Rattle.dpl_tree.specs.View.{expr_view, post_view, next_expr_view}
use Rattle.dpl_spelling.specs.Nested.{ItemBelow, ExpressionBelow}
use Rattle.dpl_spelling.specs.Expressions.{Further, after_comma, base, post, is_negated, further_factor}
use Rattle.dpl_spelling.specs.Reading.{at, late_at}
use Rattle.dpl_expressions.specs.Levels.{further_rule, further_view, next_item_view}
use Rattle.dpl_expressions.proofs.Levels.{operand_alone, factor_alone, base_alone}
use Rattle.dpl_expressions.proofs.+expression.Goals as goal

pub chain::chain-returns-then-not-is_next-clause-gives : goal.chain::chain-returns-then-not-is_next-clause-gives
chain::chain-returns-then-not-is_next-clause-gives t c =
    operand_alone base c.args.room c.args.tokens.now (expr_view c.in_ok-first.first.now) c.in_ok-first.rest.now c.args.level c.in_ok-first.ensures.gives (sym c.is_next.ensures ∙ c.if-not-is_next.true)

pub factor::product-returns-then-not-is_product_operator-clause-gives : goal.factor::product-returns-then-not-is_product_operator-clause-gives
factor::product-returns-then-not-is_product_operator-clause-gives t c =
    factor_alone base c.args.room c.args.tokens.now (expr_view c.in_ok-first.first.now) c.in_ok-first.rest.now c.in_ok-first.ensures.gives (sym c.is_product_operator.ensures ∙ c.if-not-is_product_operator.true)

pub postfix::postfix-returns-then-not-begins_post-clause-gives : goal.postfix::postfix-returns-then-not-begins_post-clause-gives
postfix::postfix-returns-then-not-begins_post-clause-gives t c =
    base_alone base c.args.room c.args.tokens.now (expr_view c.in_ok-base.base.now) c.in_ok-base.rest.now c.in_ok-base.ensures.gives (sym c.begins_post.ensures ∙ c.if-not-begins_post.true)

pub chain::links-returns-in_err-link-clause-gives : goal.chain::links-returns-in_err-link-clause-gives
chain::links-returns-in_err-link-clause-gives t c =
    let p = err_from_is_err_and c.from_residual.result c.from_residual.ensures.1 in
    let is : next_in (first (further_rule c.args.level)) c.each.rest.now ≡ true = sym c.is_next.ensures ∙ c.each-test.true in
    rw (p.1, p.2) (so_fails (first (further_rule c.args.level)) (at (further_rule c.args.level) c.args.room) c.args.tokens.now (map further_view c.each.links.items) c.each.rest.now c.in_err-link.field-0.0 c.each.invariant is c.in_err-link.ensures.gives)

pub chain::links-each-preserved : goal.chain::links-each-preserved
chain::links-each-preserved t c =
    let x = c.in_ok-link.link in
    let e : map further_view c.push.new.self.items ≡ map further_view c.each.links.items ++ further_view x ∷ [] = rw c.in_ok-push.ensures.items (map_push _ c.each.links.items x) in
    let is : next_in (first (further_rule c.args.level)) c.each.rest.now ≡ true = sym c.is_next.ensures ∙ c.each-test.true in
    rw (c.passed_on-rest.ensures, e) (goes_on (first (further_rule c.args.level)) (at (further_rule c.args.level) c.args.room) c.args.tokens.now (map further_view c.each.links.items) c.each.rest.now (further_view x) c.in_ok-link.after.now c.each.invariant is c.in_ok-link.ensures.gives c.in_ok-link.ensures.shorter)

pub chain::links-returns-clause-gives : goal.chain::links-returns-clause-gives
chain::links-returns-clause-gives t c =
    let not : next_in (first (further_rule c.args.level)) c.each.rest.now ≡ false = sym c.is_next.ensures ∙ c.each-test.false in
    rw c.in_ok-list.ensures (ends (first (further_rule c.args.level)) (at (further_rule c.args.level) c.args.room) c.args.tokens.now (map further_view c.each.links.items) c.each.rest.now c.each.invariant not)

pub postfix::posts-returns-in_err-post-clause-gives : goal.postfix::posts-returns-in_err-post-clause-gives
postfix::posts-returns-in_err-post-clause-gives t c =
    let p = err_from_is_err_and c.from_residual.result c.from_residual.ensures.1 in
    let is : next_in (first post) c.each.rest.now ≡ true = sym c.begins_post.ensures ∙ c.each-test.true in
    rw (p.1, p.2) (so_fails (first post) (at post c.args.room) c.args.tokens.now (map post_view c.each.posts.items) c.each.rest.now c.in_err-post.field-0.0 c.each.invariant is c.in_err-post.ensures.gives)

pub postfix::posts-each-preserved : goal.postfix::posts-each-preserved
postfix::posts-each-preserved t c =
    let x = c.in_ok-post.post in
    let e : map post_view c.push.new.self.items ≡ map post_view c.each.posts.items ++ post_view x ∷ [] = rw c.in_ok-push.ensures.items (map_push _ c.each.posts.items x) in
    let is : next_in (first post) c.each.rest.now ≡ true = sym c.begins_post.ensures ∙ c.each-test.true in
    rw (c.passed_on-rest.ensures, e) (goes_on (first post) (at post c.args.room) c.args.tokens.now (map post_view c.each.posts.items) c.each.rest.now (post_view x) c.in_ok-post.after.now c.each.invariant is c.in_ok-post.ensures.gives c.in_ok-post.ensures.shorter)

pub postfix::posts-returns-clause-gives : goal.postfix::posts-returns-clause-gives
postfix::posts-returns-clause-gives t c =
    let not : next_in (first post) c.each.rest.now ≡ false = sym c.begins_post.ensures ∙ c.each-test.false in
    rw c.in_ok-list.ensures (ends (first post) (at post c.args.room) c.args.tokens.now (map post_view c.each.posts.items) c.each.rest.now c.each.invariant not)

pub list::more_items-returns-in_err-next-clause-gives : goal.list::more_items-returns-in_err-next-clause-gives
unfolding after_comma
list::more_items-returns-in_err-next-clause-gives t c =
    let p = err_from_is_err_and c.from_residual.result c.from_residual.ensures.1 in
    let is : next_in (sign Comma) c.each.rest.now ≡ true = sym c.is_sign.ensures ∙ c.each-test.true in
    rw (p.1, p.2) (so_fails (sign Comma) (at (after_comma (below ItemBelow)) (c.args.room + 1)) c.args.tokens.now (map next_item_view c.each.others.items) c.each.rest.now c.in_err-next.field-0.0 c.each.invariant is c.in_err-next.ensures.gives)

pub list::more_items-each-preserved : goal.list::more_items-each-preserved
unfolding after_comma
list::more_items-each-preserved t c =
    let x = c.in_ok-next.next in
    let e : map next_item_view c.push.new.self.items ≡ map next_item_view c.each.others.items ++ next_item_view x ∷ [] = rw c.in_ok-push.ensures.items (map_push _ c.each.others.items x) in
    let is : next_in (sign Comma) c.each.rest.now ≡ true = sym c.is_sign.ensures ∙ c.each-test.true in
    rw (c.passed_on-rest.ensures, e) (goes_on (sign Comma) (at (after_comma (below ItemBelow)) (c.args.room + 1)) c.args.tokens.now (map next_item_view c.each.others.items) c.each.rest.now (next_item_view x) c.in_ok-next.after.now c.each.invariant is c.in_ok-next.ensures.gives c.in_ok-next.ensures.shorter)

pub list::more_items-returns-clause-gives : goal.list::more_items-returns-clause-gives
unfolding after_comma
list::more_items-returns-clause-gives t c =
    let not : next_in (sign Comma) c.each.rest.now ≡ false = sym c.is_sign.ensures ∙ c.each-test.false in
    rw c.in_ok-list.ensures (ends (sign Comma) (at (after_comma (below ItemBelow)) (c.args.room + 1)) c.args.tokens.now (map next_item_view c.each.others.items) c.each.rest.now c.each.invariant not)

pub list::more_exprs-returns-in_err-next-clause-gives : goal.list::more_exprs-returns-in_err-next-clause-gives
unfolding after_comma
list::more_exprs-returns-in_err-next-clause-gives t c =
    let p = err_from_is_err_and c.from_residual.result c.from_residual.ensures.1 in
    let is : next_in (sign Comma) c.each.rest.now ≡ true = sym c.is_sign.ensures ∙ c.each-test.true in
    rw (p.1, p.2) (so_fails (sign Comma) (at (after_comma (below ExpressionBelow)) (c.args.room + 1)) c.args.tokens.now (map next_expr_view c.each.others.items) c.each.rest.now c.in_err-next.field-0.0 c.each.invariant is c.in_err-next.ensures.gives)

pub list::more_exprs-each-preserved : goal.list::more_exprs-each-preserved
unfolding after_comma
list::more_exprs-each-preserved t c =
    let x = c.in_ok-next.next in
    let e : map next_expr_view c.push.new.self.items ≡ map next_expr_view c.each.others.items ++ next_expr_view x ∷ [] = rw c.in_ok-push.ensures.items (map_push _ c.each.others.items x) in
    let is : next_in (sign Comma) c.each.rest.now ≡ true = sym c.is_sign.ensures ∙ c.each-test.true in
    rw (c.passed_on-rest.ensures, e) (goes_on (sign Comma) (at (after_comma (below ExpressionBelow)) (c.args.room + 1)) c.args.tokens.now (map next_expr_view c.each.others.items) c.each.rest.now (next_expr_view x) c.in_ok-next.after.now c.each.invariant is c.in_ok-next.ensures.gives c.in_ok-next.ensures.shorter)

pub list::more_exprs-returns-clause-gives : goal.list::more_exprs-returns-clause-gives
unfolding after_comma
list::more_exprs-returns-clause-gives t c =
    let not : next_in (sign Comma) c.each.rest.now ≡ false = sym c.is_sign.ensures ∙ c.each-test.false in
    rw c.in_ok-list.ensures (ends (sign Comma) (at (after_comma (below ExpressionBelow)) (c.args.room + 1)) c.args.tokens.now (map next_expr_view c.each.others.items) c.each.rest.now c.each.invariant not)

pub factor::further_factors-returns-in_err-factor-clause-gives : goal.factor::further_factors-returns-in_err-factor-clause-gives
factor::further_factors-returns-in_err-factor-clause-gives t c =
    let p = err_from_is_err_and c.from_residual.result c.from_residual.ensures.1 in
    let is : next_in (first_late further_factor) c.each.rest.now ≡ true = sym c.is_product_operator.ensures ∙ c.each-test.true in
    rw (p.1, p.2) (run_fails (first_late further_factor) (λ (f : Further). Bool.not (is_negated f.right)) (late_at further_factor c.args.room) c.args.tokens.now (map further_view c.each.factors.items) c.each.rest.now c.in_err-factor.field-0.0 c.each.invariant is c.in_err-factor.ensures.gives)

pub factor::further_factors-each-preserved : goal.factor::further_factors-each-preserved
factor::further_factors-each-preserved t c =
    let x = c.in_ok-factor.factor in
    let e : map further_view c.push.new.self.items ≡ map further_view c.each.factors.items ++ further_view x ∷ [] = rw c.in_ok-push.ensures.items (map_push _ c.each.factors.items x) in
    let is : next_in (first_late further_factor) c.each.rest.now ≡ true = sym c.is_product_operator.ensures ∙ c.each-test.true in
    let m : Bool.not (is_negated (expr_view x.right.now)) ≡ true = ap (λ b. Bool.not b) (sym c.is_negated-last.ensures ∙ c.if-last.false) in
    rw (c.passed_on-rest.ensures, e) (run_goes_on (first_late further_factor) (λ (f : Further). Bool.not (is_negated f.right)) (late_at further_factor c.args.room) c.args.tokens.now (map further_view c.each.factors.items) c.each.rest.now (further_view x) c.in_ok-factor.after.now c.each.invariant is c.in_ok-factor.ensures.gives m c.in_ok-factor.ensures.shorter)

pub factor::further_factors-returns-then-last-clause-gives : goal.factor::further_factors-returns-then-last-clause-gives
factor::further_factors-returns-then-last-clause-gives t c =
    let x = c.in_ok-factor.factor in
    let e : map further_view c.push.new.self.items ≡ map further_view c.each.factors.items ++ further_view x ∷ [] = rw c.in_ok-push.ensures.items (map_push _ c.each.factors.items x) in
    let is : next_in (first_late further_factor) c.each.rest.now ≡ true = sym c.is_product_operator.ensures ∙ c.each-test.true in
    let m : Bool.not (is_negated (expr_view x.right.now)) ≡ false = ap (λ b. Bool.not b) (sym c.is_negated-last.ensures ∙ c.if-last.true) in
    rw (c.passed_on-rest.ensures, e) (run_last (first_late further_factor) (λ (f : Further). Bool.not (is_negated f.right)) (late_at further_factor c.args.room) c.args.tokens.now (map further_view c.each.factors.items) c.each.rest.now (further_view x) c.in_ok-factor.after.now c.each.invariant is c.in_ok-factor.ensures.gives m c.in_ok-factor.ensures.shorter)

pub factor::further_factors-returns-clause-gives : goal.factor::further_factors-returns-clause-gives
factor::further_factors-returns-clause-gives t c =
    let not : next_in (first_late further_factor) c.each.rest.now ≡ false = sym c.is_product_operator.ensures ∙ c.each-test.false in
    run_ends (first_late further_factor) (λ (f : Further). Bool.not (is_negated f.right)) (late_at further_factor c.args.room) c.args.tokens.now (map further_view c.each.factors.items) c.each.rest.now c.each.invariant not

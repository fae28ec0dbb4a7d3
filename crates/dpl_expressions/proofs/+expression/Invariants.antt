use Rattle.std.proofs.Common.{◌+◌, ◌*◌, length, map}
use Rattle.dpl_grammar.specs.Reading.{first, first_late}
use Rattle.dpl_grammar.proofs.Turns.{IsSoFar}
use Rattle.dpl_grammar.proofs.RunTurns.{IsRunSoFar}
use Rattle.std.specs.Prelude as Bool
use Rattle.dpl_syntax.specs.declared.token.Sign.TheVariants.{Comma}
use Rattle.dpl_grammar.specs.Classes.{sign}
use Rattle.dpl_grammar.specs.Rule.{below}
use Rattle.dpl_tree.specs.View.{post_view, next_expr_view}
use Rattle.dpl_spelling.specs.Nested.{ItemBelow, ExpressionBelow}
use Rattle.dpl_spelling.specs.Expressions.{after_comma, post, is_negated, further_factor}
use Rattle.dpl_spelling.specs.Reading.{at, late_at}
use Rattle.dpl_expressions.specs.Levels.{further_rule, further_view, next_item_view}
use Rattle.dpl_expressions.proofs.Levels.{rank}
use Rattle.dpl_expressions.proofs.+expression.Given as goal

abbrev pub decreases-reduction::reduced : goal.decreases-reduction::reduced
decreases-reduction::reduced l = l.room * 64

abbrev pub decreases-reduction::reduction : goal.decreases-reduction::reduction
decreases-reduction::reduction l = l.room * 64 + 1

abbrev pub decreases-reduction::red : goal.decreases-reduction::red
decreases-reduction::red l = l.room * 64 + 8

abbrev pub decreases-postfix::brackets : goal.decreases-postfix::brackets
decreases-postfix::brackets l = l.room * 64 + 0

abbrev pub decreases-postfix::rounds : goal.decreases-postfix::rounds
decreases-postfix::rounds l = l.room * 64 + 0

abbrev pub decreases-method::contains : goal.decreases-method::contains
decreases-method::contains l = l.room * 64 + 0

abbrev pub decreases-method::expand : goal.decreases-method::expand
decreases-method::expand l = l.room * 64 + 0

abbrev pub decreases-base::domain_literal : goal.decreases-base::domain_literal
decreases-base::domain_literal l = l.room * 64 + 0

abbrev pub decreases-base::grouped : goal.decreases-base::grouped
decreases-base::grouped l = l.room * 64 + 0

abbrev pub decreases-method::method : goal.decreases-method::method
decreases-method::method l = l.room * 64 + 1

abbrev pub decreases-postfix::dotted : goal.decreases-postfix::dotted
decreases-postfix::dotted l = l.room * 64 + 2

abbrev pub decreases-postfix::post : goal.decreases-postfix::post
decreases-postfix::post l = l.room * 64 + 3

abbrev pub decreases-postfix::posts : goal.decreases-postfix::posts
decreases-postfix::posts l = l.room * 64 + 4

abbrev pub decreases-base::base : goal.decreases-base::base
decreases-base::base l = l.room * 64 + 1

abbrev pub decreases-postfix::postfix : goal.decreases-postfix::postfix
decreases-postfix::postfix l = l.room * 64 + 5

abbrev pub decreases-item::stride : goal.decreases-item::stride
decreases-item::stride l = l.room * 64 + 50

abbrev pub decreases-item::item : goal.decreases-item::item
decreases-item::item l = l.room * 64 + 53

abbrev pub decreases-list::next_item : goal.decreases-list::next_item
decreases-list::next_item l = l.room * 64 + 54

abbrev pub decreases-list::more_items : goal.decreases-list::more_items
decreases-list::more_items l = l.room * 64 + 55

abbrev pub decreases-list::items : goal.decreases-list::items
decreases-list::items l = l.room * 64 + 56

abbrev pub decreases-list::next_expr : goal.decreases-list::next_expr
decreases-list::next_expr l = l.room * 64 + 54

abbrev pub decreases-list::more_exprs : goal.decreases-list::more_exprs
decreases-list::more_exprs l = l.room * 64 + 55

abbrev pub decreases-list::exprs : goal.decreases-list::exprs
decreases-list::exprs l = l.room * 64 + 56

abbrev pub invariant-postfix::posts-each : goal.invariant-postfix::posts-each
invariant-postfix::posts-each l = IsSoFar (first post) (at post l.room) l.tokens (map post_view l.posts.items) l.rest

abbrev pub decreases-postfix::posts-each : goal.decreases-postfix::posts-each
decreases-postfix::posts-each l = length l.rest

abbrev pub invariant-list::more_items-each : goal.invariant-list::more_items-each
invariant-list::more_items-each l = IsSoFar (sign Comma) (at (after_comma (below ItemBelow)) (l.room + 1)) l.tokens (map next_item_view l.others.items) l.rest

abbrev pub decreases-list::more_items-each : goal.decreases-list::more_items-each
decreases-list::more_items-each l = length l.rest

abbrev pub invariant-list::more_exprs-each : goal.invariant-list::more_exprs-each
invariant-list::more_exprs-each l = IsSoFar (sign Comma) (at (after_comma (below ExpressionBelow)) (l.room + 1)) l.tokens (map next_expr_view l.others.items) l.rest

abbrev pub decreases-list::more_exprs-each : goal.decreases-list::more_exprs-each
decreases-list::more_exprs-each l = length l.rest

abbrev pub decreases-factor::not : goal.decreases-factor::not
decreases-factor::not l = l.room * 64 + 9

abbrev pub decreases-factor::factor : goal.decreases-factor::factor
decreases-factor::factor l = l.room * 64 + 10

abbrev pub decreases-factor::further_factor : goal.decreases-factor::further_factor
decreases-factor::further_factor l = l.room * 64 + 11

abbrev pub decreases-factor::further_factors : goal.decreases-factor::further_factors
decreases-factor::further_factors l = l.room * 64 + 12

abbrev pub decreases-factor::factors : goal.decreases-factor::factors
decreases-factor::factors l = l.room * 64 + 13

abbrev pub invariant-factor::further_factors-each : goal.invariant-factor::further_factors-each
invariant-factor::further_factors-each l = IsRunSoFar (first_late further_factor) (λ f. Bool.not (is_negated f.right)) (late_at further_factor l.room) l.tokens (map further_view l.factors.items) l.rest

abbrev pub decreases-factor::further_factors-each : goal.decreases-factor::further_factors-each
decreases-factor::further_factors-each l = length l.rest

abbrev pub decreases-factor::negated : goal.decreases-factor::negated
decreases-factor::negated l = l.room * 64

abbrev pub decreases-factor::product : goal.decreases-factor::product
decreases-factor::product l = l.room * 64 + 14

abbrev pub decreases-factor::neg : goal.decreases-factor::neg
decreases-factor::neg l = l.room * 64 + 15

abbrev pub decreases-chain::operand : goal.decreases-chain::operand
decreases-chain::operand l = l.room * 64 + rank l.level

abbrev pub decreases-chain::further : goal.decreases-chain::further
decreases-chain::further l = l.room * 64 + (rank l.level + 1)

abbrev pub decreases-chain::links : goal.decreases-chain::links
decreases-chain::links l = l.room * 64 + (rank l.level + 2)

abbrev pub decreases-chain::chain : goal.decreases-chain::chain
decreases-chain::chain l = l.room * 64 + (rank l.level + 3)

abbrev pub decreases-chain::expression : goal.decreases-chain::expression
decreases-chain::expression l = l.room * 64 + 52

abbrev pub invariant-chain::links-each : goal.invariant-chain::links-each
invariant-chain::links-each l = IsSoFar (first (further_rule l.level)) (at (further_rule l.level) l.room) l.tokens (map further_view l.links.items) l.rest

abbrev pub decreases-chain::links-each : goal.decreases-chain::links-each
decreases-chain::links-each l = length l.rest

-- What ends in `low` is told, done and made by what stands before that.
use Rattle.std.proofs.Common.{sym, ap, subst, ◌∙◌}
use Rattle.dpl_language.specs.Tree.{StartExpr}
use Rattle.dpl_tree.specs.View.{expr_view, posts_of}
use Rattle.dpl_tree.proofs.Fields.{expr_view_postfixed}
use Rattle.dpl_nodes.specs.Spots.{IsNear}
use Rattle.dpl_spelling.specs.Spelt.{ExprSpelt}
use Rattle.dpl_typed.specs.Leaves.{IsFound}
use Rattle.dpl_typed.specs.Simple.{IsSimple}
use Rattle.dpl_typed.proofs.Standing.{if_ok, on_ok}
use Rattle.dpl_mapped.specs.Made.{IsStartAs}
use Rattle.dpl_mapped.proofs.Lows.{low-told, low-done, low-started}
use Rattle.dpl_mapped.proofs.start.expr_start.Goals as goal

pub returns-in-Some-clause-told : goal.returns-in-Some-clause-told
returns-in-Some-clause-told c =
    let p = c.in-Postfixed.postfixed in
    let l = c.in-Some.ends in
    let is = ap expr_view c.in-Postfixed.is ∙ expr_view_postfixed p in
    if_ok c.low_start.result
    (λ r h. low-told c.args.scopes.now c.args.rank c.args.word (expr_view c.args.e.now) (expr_view p.now.base.now) (posts_of p.now.posts.now) l c.args.first.now c.low_start.new.first
    is (ap expr_view c.in-Some.ensures.base) (c.in-Some.ensures.low (expr_view l.base.now)) c.in-Some.ensures.front h)
    c.low_start.ensures.told

pub returns-in-Some-clause-node : goal.returns-in-Some-clause-node
returns-in-Some-clause-node c =
    let ss = c.args.scopes.now in
    let p = c.in-Postfixed.postfixed in
    let l = c.in-Some.ends in
    let is = ap expr_view c.in-Postfixed.is ∙ expr_view_postfixed p in
    if_ok c.low_start.result
    (λ r h. λ none. subst (λ e. IsSimple (IsFound ss) e → ExprSpelt IsNear ⊥ e → IsStartAs ss (StartExpr e) r) (sym is)
    (low-started ss (expr_view p.now.base.now) (posts_of p.now.posts.now) l r (ap expr_view c.in-Some.ensures.base) (c.in-Some.ensures.low (expr_view l.base.now)) c.in-Some.ensures.front (h none)))
    c.low_start.ensures.node

pub returns-in-Some-clause-deeds : goal.returns-in-Some-clause-deeds
returns-in-Some-clause-deeds c =
    let p = c.in-Postfixed.postfixed in
    let l = c.in-Some.ends in
    let is = ap expr_view c.in-Postfixed.is ∙ expr_view_postfixed p in
    on_ok c.low_start.result
    (λ h. low-done c.args.scopes.now (expr_view c.args.e.now) (expr_view p.now.base.now) (posts_of p.now.posts.now) l c.args.deeds.now.items c.low_start.new.deeds.items
    is (ap expr_view c.in-Some.ensures.base) (ap posts_of c.in-Some.ensures.posts) (c.in-Some.ensures.low (expr_view l.base.now)) c.in-Some.ensures.front h)
    c.low_start.ensures.deeds

-- A tuple is an index of its expressions, and does what they do.
use Rattle.std.proofs.Common.{◌++◌, map, sym, ap, subst, ◌∙◌}
use Rattle.dpl_language.specs.Names.{Text}
use Rattle.dpl_language.specs.Tree.{Listed, ExprTree}
use Rattle.dpl_tree.specs.Declarations.{start_view}
use Rattle.dpl_tree.specs.View.{expr_view, exprs_view, next_expr_view}
use Rattle.dpl_deeds.specs.View.{deed_view}
use Rattle.dpl_typed.proofs.Standing.{if_ok, on_ok}
use Rattle.dpl_mapped.specs.Made.{IsPlainStart, IsStartAs}
use Rattle.dpl_mapped.proofs.Tuples.{tuple-nodes, tuple-start-told, tuple-start-done, tuple-started}
use Rattle.dpl_mapped.proofs.start.start.Goals as goal

pub returns-in-Tuple-clause-told : goal.returns-in-Tuple-clause-told
returns-in-Tuple-clause-told c =
    let ss = c.args.scopes.now in
    let t = c.in-Tuple in
    let xs : Listed (ExprTree Text) = record { first = expr_view t.head.now; others = map next_expr_view t.others.now } in
    let is = c.new-written.ensures ∙ tuple-nodes (expr_view t.head.now) t.others.now in
    if_ok c.tuple.result
    (λ r h. tuple-start-told ss c.args.rank c.args.word t.from t.upto xs (exprs_view c.new-written.result) (start_view c.args.written.now) c.args.first.now c.tuple.new.first is (ap start_view t.is) h)
    c.tuple.ensures.told

pub returns-in-Tuple-clause-node : goal.returns-in-Tuple-clause-node
returns-in-Tuple-clause-node c =
    let ss = c.args.scopes.now in
    let t = c.in-Tuple in
    let xs : Listed (ExprTree Text) = record { first = expr_view t.head.now; others = map next_expr_view t.others.now } in
    let is = c.new-written.ensures ∙ tuple-nodes (expr_view t.head.now) t.others.now in
    if_ok c.tuple.result
    (λ r h. λ none. subst (λ s. IsPlainStart ss c.args.rank (start_view s) → IsStartAs ss (start_view s) r) (sym t.is)
    (tuple-started ss c.args.rank t.from t.upto xs (exprs_view c.new-written.result) r is (h none)))
    c.tuple.ensures.node

pub returns-in-Tuple-clause-deeds : goal.returns-in-Tuple-clause-deeds
returns-in-Tuple-clause-deeds c =
    let ss = c.args.scopes.now in
    let t = c.in-Tuple in
    let xs : Listed (ExprTree Text) = record { first = expr_view t.head.now; others = map next_expr_view t.others.now } in
    let is = c.new-written.ensures ∙ tuple-nodes (expr_view t.head.now) t.others.now in
    let done = tuple-start-done ss t.from t.upto xs (exprs_view c.new-written.result) (start_view c.args.written.now) is (ap start_view t.is) in
    on_ok c.tuple.result (λ h. h ∙ ap (λ ds. map deed_view c.args.deeds.now.items ++ ds) done) c.tuple.ensures.deeds

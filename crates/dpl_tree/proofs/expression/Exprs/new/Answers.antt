use Rattle.std.proofs.Common.{ap, ◌∙◌}
use Rattle.dpl_language.specs.Tree.{FirstExpr}
use Rattle.dpl_tree.specs.View.{expr_view, exprs_view}
use Rattle.dpl_tree.specs.declared.expression.Exprs.{rolls-Exprs'}
use Rattle.dpl_tree.proofs.Rows.{more_exprs_view-row}
use Rattle.dpl_tree.proofs.expression.Exprs.new.Goals as goal

pub returns : goal.returns
returns c = ap exprs_view (rolls-Exprs' (record { first = c.args.first; others = c.args.others })) ∙ ap (FirstExpr (expr_view c.args.first.now)) (more_exprs_view-row c.args.others.now)

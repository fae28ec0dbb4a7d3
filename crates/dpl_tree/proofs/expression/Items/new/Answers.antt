use Rattle.std.proofs.Common.{ap, ◌∙◌}
use Rattle.dpl_language.specs.Tree.{FirstItem}
use Rattle.dpl_tree.specs.View.{item_view, items_view}
use Rattle.dpl_tree.specs.declared.expression.Items.{rolls-Items'}
use Rattle.dpl_tree.proofs.Rows.{more_items_view-row}
use Rattle.dpl_tree.proofs.expression.Items.new.Goals as goal

pub returns : goal.returns
returns c = ap items_view (rolls-Items' (record { first = c.args.first; others = c.args.others })) ∙ ap (FirstItem (item_view c.args.first)) (more_items_view-row c.args.others.now)

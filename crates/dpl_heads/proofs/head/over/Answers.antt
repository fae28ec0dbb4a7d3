-- An expression by itself is an item.
use Rattle.std.proofs.Common.{Option, sym, ap, subst}
use Rattle.dpl_tree.specs.View.{expr_view, item_view}
use Rattle.dpl_language.specs.Tree.{ItemTree}
use Rattle.dpl_language.specs.Names.{Text}
use Rattle.dpl_rules.specs.Sights.{Scopes}
use Rattle.dpl_typed.specs.declared.typed.Typed.{Typed}
use Rattle.dpl_typed.specs.Lowered.{leaves_of, item_leaves}
use Rattle.dpl_typed.specs.Stands.{StandsForItem}
use Rattle.dpl_typed.specs.Where.{WhereSimpleItem}
use Rattle.dpl_typed.proofs.Standing.{if_ok, stands-item}
use Rattle.dpl_heads.proofs.head.over.Goals as goal

abbrev NodeOfItem : Scopes → Option Typed → ItemTree Text → Type 0
NodeOfItem ss r i = WhereSimpleItem ss i (StandsForItem r (λ m. item_leaves ss m i))

pub returns-in-One-clause-node : goal.returns-in-One-clause-node
returns-in-One-clause-node c =
    let ss = c.args.scopes.now in
    let e = expr_view c.in-One.e.now in
    if_ok c.base.result (λ r h. subst (NodeOfItem ss r) (sym (ap item_view c.in-One.is)) (λ s n. stands-item r (λ m. leaves_of ss m e) (h s n))) c.base.ensures.node

-- A cyclic map from the least members is the one that is named so.
use Rattle.std.proofs.Common.{◌≡◌, ap, sym, subst, ◌∙◌}
use Rattle.dpl_layout.specs.Layouts.{LayoutValue}
use Rattle.dpl_layout.specs.Roots.{IsChosen}
use Rattle.dpl_layout.specs.declared.maps.Maps.{Maps}
use Rattle.dpl_layout.specs.declared.maps.Maps.TheVariants.{Cyclic}
use Rattle.dpl_layout.proofs.CornerLemmas.{IsCyclicOf-named}
use Rattle.dpl_layout.proofs.layout.Layout.root.Goals as goal

pub returns-in-Cyclic : goal.returns-in-Cyclic
returns-in-Cyclic c =
    let cyclic : c.args.self.now.maps ≡ Cyclic = ap (λ (l : LayoutValue). l.maps) (sym c.self.view_is) ∙ c.in-Cyclic.is in
    subst (λ (maps : Maps). IsChosen maps c.args.self.now c.args.named.now c.args.domain.now c.named-in-Cyclic.result) (sym cyclic)
    (IsCyclicOf-named _ _ _ _ c.from_least.ensures c.named-in-Cyclic.ensures)

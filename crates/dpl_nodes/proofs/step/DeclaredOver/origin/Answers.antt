-- Ranges are derived from no domain, also where a range stands in brackets of its own.
use Rattle.std.proofs.Common.{sym, ap, ◌∙◌}
use Rattle.dpl_nodes.specs.Steps.{over_items}
use Rattle.dpl_language.specs.Roots.{derived_over}
use Rattle.dpl_nodes.specs.Roots.{slot_by}
use Rattle.dpl_nodes.proofs.Underived.{item-underived, ranges-underived}
use Rattle.dpl_nodes.proofs.step.DeclaredOver.origin.Goals as goal

pub returns-in-Ranges : goal.returns-in-Ranges
returns-in-Ranges c = sym (ap (λ o. slot_by (derived_over (over_items o))) c.in-Ranges.is ∙ ranges-underived c.in-Ranges.field-0.now)

pub returns-in-HiddenRange : goal.returns-in-HiddenRange
returns-in-HiddenRange c = sym (ap (λ o. slot_by (derived_over (over_items o))) c.in-HiddenRange.is ∙ item-underived c.in-HiddenRange.field-0.now)

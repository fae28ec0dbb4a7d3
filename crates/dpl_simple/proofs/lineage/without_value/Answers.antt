-- A map that is named.
use Rattle.std.proofs.Common.{sym, ap, ◌∙◌}
use Rattle.dpl_language.specs.Roots.{root_by}
use Rattle.dpl_simple.specs.Lineages.{empty_root}
use Rattle.dpl_simple.proofs.lineage.without_value.Goals as goal

pub returns-in_ok-named-in-Mapped : goal.returns-in_ok-named-in-Mapped
returns-in_ok-named-in-Mapped g c rs =
    ap (λ d. root_by d rs) c.in_ok-named-in-Mapped.ensures
    ∙ sym (ap (λ p. empty_root c.args.frame.now.limits p rs c.args.frame.now.memory) c.in-Mapped.is)

-- What posts make of a domain is derived from what the domain is.
use Rattle.std.proofs.Common.{sym, ap, ◌∙◌}
use Rattle.dpl_language.specs.Roots.{derived_from}
use Rattle.dpl_nodes.specs.Typed.{domain_view}
use Rattle.dpl_nodes.specs.Roots.{slot_by}
use Rattle.dpl_nodes.specs.declared.tree.DomainExpr.{DomainExpr}
use Rattle.dpl_nodes.proofs.Underived.{posts-derived}
use Rattle.dpl_nodes.proofs.tree.DomainExpr.+origin.Goals as goal

pub returns-in-Posts : goal.returns-in-Posts
returns-in-Posts t c =
    c.origin.ensures ∙ ap slot_by (sym (posts-derived c.in-Posts.d c.in-Posts.field-1)) ∙ ap (λ (e : DomainExpr). slot_by (derived_from (domain_view e))) (sym c.in-Posts.is)

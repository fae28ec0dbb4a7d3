-- With no posts there is what they would stand behind; with posts there is no bare name.
use Rattle.std.proofs.Common.{◌≡◌, false, ap, sym, subst, ◌∙◌}
use Rattle.dpl_language.specs.Tree.{ExprTree, One}
use Rattle.dpl_memory.specs.Memory.{Variable}
use Rattle.dpl_nodes.specs.Typed.{items_one, domain_view}
use Rattle.dpl_nodes.specs.declared.tree.DomainExpr.{DomainExpr}
use Rattle.dpl_declarations.specs.Made.{between}
use Rattle.dpl_declarations.proofs.Overs.{posts-between, posts-none}
use Rattle.dpl_declarations.proofs.over.+over_domain.Goals as goal

pub returns-in-empty : goal.returns-in-empty
returns-in-empty t c =
    let i = c.in-Posts in
    c.over_domain.ensures ∙ sym (ap (λ (e : ExprTree Variable). between c.args.bare (items_one (One e))) (ap domain_view i.is ∙ posts-none i.d i.posts c.in-empty.len_below))

pub returns-in-len1-up : goal.returns-in-len1-up
returns-in-len1-up t c =
    let i = c.in-Posts in
    rw c.if-bare.false
    (subst (λ (d : DomainExpr). items_one (One (domain_view d)) ≡ between false (items_one (One (domain_view d)))) (sym i.is) (posts-between i.d i.posts c.in-len1-up.len_at_least))

-- With no posts there is what they would stand behind; with posts there is no literal.
use Rattle.std.proofs.Common.{ap, sym, ◌∙◌}
use Rattle.dpl_nodes.specs.Typed.{domain_view}
use Rattle.dpl_declarations.proofs.Overs.{posts-none, posts-unliteral}
use Rattle.dpl_declarations.proofs.over.+over_node.Goals as goal

pub returns-in-empty : goal.returns-in-empty
returns-in-empty t c from is h =
    let i = c.in-Posts in
    c.over_node.ensures from is (sym (ap domain_view i.is ∙ posts-none i.d i.posts c.in-empty.len_below) ∙ h)

pub returns-in-len1-up : goal.returns-in-len1-up
returns-in-len1-up t c from is h =
    let i = c.in-Posts in
    posts-unliteral i.d i.posts from is c.in-len1-up.len_at_least (sym (ap domain_view i.is) ∙ h)

use Rattle.std.proofs.Common.{◌∷◌, arith, ap, ◌∙◌}
use Rattle.dpl_syntax.proofs.Walks.{drop-at, drop-end}
use Rattle.dpl_typed.proofs.spine.only.Goals as goal

pub returns-in-len1 : goal.returns-in-len1
returns-in-len1 g c =
    let ls = c.args.links.now in
    drop-at ls 0 c.link-item.result (omega arith) c.link-item.is ∙ ap (λ more. c.link-item.result ∷ more) (drop-end ls 1 (omega arith))

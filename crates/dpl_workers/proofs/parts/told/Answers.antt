-- What is cut into one domain is that domain, and what is cut into none has no index.
-- These are the answers to the goals of `told`.
use Rattle.dpl_map.specs.Parts.{part}
use Rattle.dpl_workers.proofs.SoleParts.{no-piece, sole-piece}
use Rattle.dpl_workers.proofs.parts.told.Goals as goal

pub returns-in-empty : goal.returns-in-empty
returns-in-empty c whole axes l cut = no-piece (part whole axes l) c.args.domains.now c.in-empty.len_below cut

pub returns-in-len1 : goal.returns-in-len1
returns-in-len1 c whole axes l cut = sole-piece (part whole axes l) c.args.domains.now c.domain-item.result c.in-len1.len_at_least c.in-len1.len_below c.domain-item.is cut

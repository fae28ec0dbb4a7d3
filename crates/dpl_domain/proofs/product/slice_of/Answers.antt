-- A filter keeps no more than there was.
use Rattle.dpl_sets.specs.Ranges.{members_of}
use Rattle.dpl_domain.proofs.PlaceLemmas.{length-filter_le}
use Rattle.dpl_domain.proofs.product.slice_of.Goals as goal

pub returns-clause-fewer : goal.returns-clause-fewer
returns-clause-fewer c =
    rw c.slice.ensures.members (length-filter_le _ (members_of c.args.range.now))

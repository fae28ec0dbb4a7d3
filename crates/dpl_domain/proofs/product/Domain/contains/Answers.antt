-- What has a place is contained.
use Rattle.dpl_sets.specs.Indices.{indices}
use Rattle.dpl_range.proofs.Ends.{contains-place}
use Rattle.dpl_domain.proofs.product.Domain.contains.Goals as goal

pub returns : goal.returns
returns c = rw c.is_some.ensures (contains-place (indices c.args.self.now) c.args.index c.place.result c.place.ensures)

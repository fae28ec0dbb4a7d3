-- What has a place is contained.
use Rattle.std.proofs.Common.{FitsSigned, w64}
use Rattle.std.proofs.lemmas.Int.{to_z-of_z}
use Rattle.dpl_sets.specs.Ranges.{members_of}
use Rattle.dpl_range.proofs.Ends.{contains-place}
use Rattle.dpl_range.proofs.Range.contains.Goals as goal

pub returns : goal.returns
returns c =
    let fits : FitsSigned w64 c.args.i = c.ranges.i in
    let inverse = simp to_z-of_z at c.place.ensures in
    rw c.is_some.ensures (contains-place (members_of c.args.self.now) c.args.i c.place.result inverse)

-- Parts that pass are ints.
use Rattle.std.proofs.Common.{rules, ◌≡◌, true}
use Rattle.dpl_mapped.proofs.Tuples.{are-index}
use Rattle.dpl_mapped.proofs.start.ints.Goals as goal

pub index_of-requires : goal.index_of-requires
index_of-requires c =
    let holds : c.are_ints.result ≡ true = search rules in
    are-index c.args.parts.now c.requires c.are_ints.result c.are_ints.ensures.0 holds

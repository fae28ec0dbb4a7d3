-- Three axes of so many locales are a map's, and the last ones of them too.
use Rattle.std.proofs.Common.{sym, subst}
use Rattle.dpl_map.specs.MapFields.{AreAxes}
use Rattle.dpl_map.proofs.AxesLemmas.{AreAxes-last_of}
use Rattle.dpl_map.proofs.map.Map.of.Goals as goal

pub invariant_of-result : goal.invariant_of-result
invariant_of-result c =
    subst AreAxes (sym c.last_of.ensures)
    (AreAxes-last_of c.args.rank c.args.outer c.args.middle c.args.inner c.requires.outer_limits c.requires.middle_limits c.requires.inner_limits c.requires.size)

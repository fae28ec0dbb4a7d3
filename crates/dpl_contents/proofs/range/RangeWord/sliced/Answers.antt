-- A filter keeps no more than there was.
use Rattle.std.proofs.Common.{◌≤◌, sym, subst}
use Rattle.dpl_language.specs.Ranges.{count_in}
use Rattle.dpl_contents.specs.Range.{range_word}
use Rattle.dpl_contents.proofs.Slices.{count_in-slice}
use Rattle.dpl_contents.proofs.range.RangeWord.sliced.Goals as goal

pub returns-clause-fewer : goal.returns-clause-fewer
returns-clause-fewer c =
    subst (λ r. count_in r ≤ count_in (range_word c.args.self.now)) (sym c.flagged.ensures)
    (count_in-slice (range_word c.args.self.now) c.value.result c.slice-slice.result _ _ c.value.ensures.value c.value.ensures.limits c.slice-slice.ensures.limits c.slice-slice.ensures.members)

-- Slices have no more members than what they are slices of, and so has their product.
use Rattle.std.proofs.Common.{◌≤◌, ◌*◌, sym, subst}
use Rattle.dpl_language.specs.Ranges.{count_in, size_in}
use Rattle.dpl_contents.specs.Range.{range_word}
use Rattle.dpl_contents.specs.Parts.{ranges_of}
use Rattle.dpl_contents.proofs.Slices.{product-le}
use Rattle.dpl_contents.proofs.parts.Parts.sliced.Goals as goal

pub returns-in-Space-clause-fewer : goal.returns-in-Space-clause-fewer
returns-in-Space-clause-fewer c =
    subst (λ p. count_in (range_word c.cut_by-in-Space.result) * (count_in (range_word c.cut_by-in-Space-2.result) * (count_in (range_word c.cut_by-in-Space-3.result) * 1)) ≤ size_in (ranges_of p)) (sym c.in-Space.is)
    (product-le _ _ _ _ _ _ c.cut_by-in-Space.ensures.fewer c.cut_by-in-Space-2.ensures.fewer c.cut_by-in-Space-3.ensures.fewer)

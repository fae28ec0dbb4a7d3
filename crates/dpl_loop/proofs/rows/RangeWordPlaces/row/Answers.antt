-- The members behind one another are indices behind one another.
-- These are the answers to the goals of `row` of a range.
use Rattle.std.proofs.Common.{◌≡◌, ◌+◌, ◌<◌, length, Some, ap, sym, ◌∙◌, arith, rules, FitsSigned, w64}
use Rattle.std.proofs.lemmas.Int.{to_z-of_z}
use Rattle.dpl_sets.specs.Ranges.{members_of}
use Rattle.dpl_contents.specs.Range.{range_word}
use Rattle.dpl_loop.proofs.Lines.{line-behind}
use Rattle.dpl_loop.proofs.rows.RangeWordPlaces.row.Goals as goal

pub returns-clause-there : goal.returns-clause-there
returns-clause-there c k below =
    let r = range_word c.args.self.now in
    let row = c.new-row.result in
    let fits : FitsSigned w64 c.stride.result = search rules in
    let made = simp to_z-of_z at c.new-row.ensures in
    let own : row.step ≡ r.value.stride = ap (λ r. r.step) made ∙ c.stride.ensures.stride in
    let first : row.first ≡ c.args.index = ap (λ r. r.first) made in
    let within : c.args.place + k < length (members_of r.value) = omega (arith, below, c.size.ensures.length, c.saturating_sub.ensures) in
    line-behind r c.size.ensures.limits row own c.args.place k (c.requires ∙ ap Some (sym first)) within

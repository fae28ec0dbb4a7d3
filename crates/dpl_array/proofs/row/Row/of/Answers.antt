-- A row goes on to the end of the last dimension.
-- These are the answers to the goals of `Row::of`.
use Rattle.std.proofs.Common.{◌≡◌, ◌+◌, ◌<◌, ◌-◌, ◌%◌, length, slice_get, subst, sym, ap, ◌∙◌, arith, rules, FitsSigned, w64, Some}
use Rattle.std.proofs.lemmas.Int.{to_z-of_z}
use Rattle.dpl_sets.specs.Ranges.{members_of}
use Rattle.dpl_sets.specs.Indices.{indices}
use Rattle.dpl_domain.specs.Ranks.{last_of}
use Rattle.dpl_array.proofs.InRows.{row-behind}
use Rattle.dpl_array.proofs.row.Row.of.Goals as goal

pub returns-clause-there : goal.returns-clause-there
returns-clause-there c k below =
    let d = c.args.domain.now in
    let o = c.ranges-inner.result.0 in
    let m = c.ranges-inner.result.1 in
    let i = c.ranges-inner.result.2 in
    let place = c.args.place in
    let fits : FitsSigned w64 c.stride.result = search rules in
    let row = c.new-row.result in
    let made = simp to_z-of_z at c.new-row.ensures in
    let own : row.step ≡ i.stride = ap (λ r. r.step) made ∙ c.stride.ensures.stride in
    let first : row.first ≡ c.args.first = ap (λ r. r.first) made in
    let is : d ≡ last_of (length d) o m i = c.ranges-inner.ensures.ranges in
    let some : 0 < length (members_of i) = omega (arith, c.size-size.ensures.length, c.if-size-eq0.false) in
    let here = ap (λ e. slice_get (indices e) place) (sym is) ∙ c.requires ∙ ap Some (sym first) in
    ap (λ e. slice_get (indices e) (place + k)) is
    ∙ row-behind (length d) o m i c.ranges-inner.ensures.unused c.stride.ensures.limits place k row own some here (subst (λ s. k < s - place % s) c.size-size.ensures.length below)

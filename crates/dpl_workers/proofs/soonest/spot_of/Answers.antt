-- An index of the domain is found at its place, and another one stands behind all.
use Rattle.std.proofs.Common.{◌≡◌, sym, ◌∙◌, arith}
use Rattle.std.proofs.lemmas.Option.{same_Some}
use Rattle.dpl_sets.specs.Indices.{indices}
use Rattle.dpl_apart.specs.Rows.{place_in}
use Rattle.dpl_workers.proofs.WorkerEnds.{place-found, place-none, place-within, index-told, spot-told}
use Rattle.dpl_workers.proofs.soonest.spot_of.Goals as goal

pub unreachable-requires : goal.unreachable-requires
unreachable-requires c = index-told c.args.turn.now c.index.result c.in_default.not-Absent c.index.ensures c.in_default-index.is

pub returns-in-Some-place : goal.returns-in-Some-place
returns-in-Some-place c =
    let ts = indices c.args.whole.now in
    let t = c.in-Some.index in
    let at = (c.place.ensures c.in-Some-place.place).0 c.in-Some-place.is in
    let found = (c.place.ensures (place_in ts t)).1 (place-found t ts c.in-Some-place.place at) in
    let same : c.in-Some-place.place ≡ place_in ts t = same_Some c.in-Some-place.place (place_in ts t) (sym c.in-Some-place.is ∙ found) in
    let within = place-within t ts in
    let small = c.size-size.ensures.small in
    record {
      spot = same ∙ spot-told ts c.args.turn.now c.index.result c.in_default.not-Absent c.index.ensures t c.in-Some.is;
      small = omega (arith, same, within, small);
    }

pub returns-in-None : goal.returns-in-None
returns-in-None c =
    let ts = indices c.args.whole.now in
    let t = c.in-Some.index in
    let none = place-none t ts (λ k at. let is = sym c.in-None.is ∙ (c.place.ensures k).1 at in cc) in
    let small = c.size-size.ensures.small in
    let size = c.size-size.ensures.size in
    record {
      spot = size ∙ sym none ∙ spot-told ts c.args.turn.now c.index.result c.in_default.not-Absent c.index.ensures t c.in-Some.is;
      small = omega (arith, size, small);
    }

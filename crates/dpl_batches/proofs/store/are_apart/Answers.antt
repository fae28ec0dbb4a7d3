-- One store more in front of those that are as they are asked to be.
-- These are the answers to the goals of `are_apart`.
use Rattle.std.proofs.Common.{◌≡◌, ◌<◌, ◌+◌, ◌-◌, ◌∷◌, slice_get, Some, drop, length, map, sym, subst, ap, ◌∙◌, arith, rules}
use Rattle.std.proofs.lemmas.Option.{slice_get-get_or}
use Rattle.dpl_range.proofs.Lists.{drop-slice_get}
use Rattle.dpl_strips.specs.Strips.{IsFree}
use Rattle.dpl_batches.specs.Stores.{unmade, AreApart, HaveRoom, AreUnmade}
use Rattle.dpl_batches.proofs.store.are_apart.Goals as goal

pub loop-left-preserved : goal.loop-left-preserved
loop-left-preserved c =
    let names = c.args.names.now in
    let xs = c.args.stores.now in
    let left = c.loop-left.left in
    let x = c.index-stores-left.result in
    let more : left - 1 + 1 ≡ left = omega (arith, c.loop-left-test.true) in
    let below : left - 1 < length xs = omega (arith, c.loop-left-test.true, c.loop-left.invariant.within) in
    let at : slice_get xs (left - 1) ≡ Some x = slice_get-get_or xs (left - 1) x below ∙ ap Some (sym c.index-stores-left.is) in
    let here = drop-slice_get xs (left - 1) x at ∙ ap (λ k. x ∷ drop k xs) more in
    let rank : 0 < length x.at.first = omega (arith, ap length c.first.ensures, c.rank.ensures.rank, c.rank.ensures.limits) in
    let free : IsFree (map unmade (drop left xs)) x.slot = subst (λ k. IsFree (map unmade (drop k xs)) x.slot) more (c.is_kept.ensures (search rules)) in
    record {
      within = omega (arith, c.loop-left.invariant.within);
      apart = subst (AreApart names) (sym here) (free, c.is_variable.ensures (search rules), rank, c.step.ensures.moves, c.loop-left.invariant.apart);
      room = subst HaveRoom (sym here) (c.has_room.ensures (search rules), c.loop-left.invariant.room);
      unmade = subst AreUnmade (sym here) (search rules, c.loop-left.invariant.unmade);
    }

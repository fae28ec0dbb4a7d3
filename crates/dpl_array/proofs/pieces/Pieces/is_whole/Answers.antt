-- All places have their pieces, or one has none.
-- These are the answers to the goals of `Pieces::is_whole`.
use Rattle.std.proofs.Common.{◌≡◌, ℕ, ◌<◌, true, false, is_some, None, slice_index_or, length, ap, sym, ◌∙◌, subst, refl, arith}
use Rattle.std.proofs.lemmas.List.{get_or_read}
use Rattle.dpl_array.specs.Arrays.{IsWhole}
use Rattle.dpl_array.proofs.HeldLemmas.{whole-held, missing-held}
use Rattle.dpl_array.proofs.pieces.Pieces.is_whole.Goals as goal

pub returns-then-is_none : goal.returns-then-is_none
returns-then-is_none g c =
    let held = c.self.inside.held.items in
    let k = c.loop-slot.slot-index in
    let there = get_or_read c.deref-slot-items.result.now k c.slot-item.result c.loop-slot-test.true c.slot-item.is None in
    let missing = ap is_some (sym (there ∙ ap (λ os. slice_index_or os k None) c.deref-slot-items.ensures.value)) ∙ c.if-is_none.ensures in
    let within : k < length held = subst (λ os. k < length os) c.deref-slot-items.ensures.value c.loop-slot-test.true in (
      (λ no. absurd (let e : false ≡ true = no in cc)),
      (λ whole. absurd (missing-held held k within missing (subst IsWhole (sym c.self.view_is) whole))),
    )

pub returns : goal.returns
returns g c =
    let held = c.self.inside.held.items in
    let each : (k : ℕ) → k < length held → is_some (slice_index_or held k None) ≡ true =
    subst (λ os. (k : ℕ) → k < length os → is_some (slice_index_or os k None) ≡ true) c.deref-slot-items.ensures.value (λ k below. c.loop-slot.invariant k (omega (arith, below, c.loop-slot-test.false))) in
    ((λ yes. subst IsWhole c.self.view_is (whole-held held each)), (λ whole. refl))

-- The moved bounds are tested by the making of the range.
use Rattle.std.proofs.Common.{◌≡◌, refl, sym, subst, arith, w64, to_z, of_z}
use Rattle.std.proofs.lemmas.Int.{ints}
use Rattle.dpl_sets.specs.Ranges.{IsBound, IsStride}
use Rattle.dpl_sets.specs.TextDomains.{text_moved}
use Rattle.dpl_contents.specs.Range.{range_word}
use Rattle.dpl_contents.proofs.Expansions.{bounds-within}
use Rattle.dpl_contents.proofs.range.RangeWord.expanded.Goals as goal

pub returns-in-Ok-clause-some : goal.returns-in-Ok-clause-some
returns-in-Ok-clause-some c =
    let b = c.in-Ok.ensures.ok.0 refl in
    let moved = text_moved c.args.k (range_word c.args.self.now) in
    let low : IsBound moved.value.low = (omega (arith, ints, b.0.0, c.in_ok-low.ensures, c.low_bound.ensures.bound), omega (arith, ints, b.0.1, c.in_ok-low.ensures, c.low_bound.ensures.bound)) in
    let high : IsBound moved.value.high = (omega (arith, ints, b.1.0, c.in_ok-high.ensures, c.high_bound.ensures.bound), omega (arith, ints, b.1.1, c.in_ok-high.ensures, c.high_bound.ensures.bound)) in
    ((λ e. (bounds-within moved).1 (low, high)), (λ e. refl))

pub returns-in-Err-clause-some : goal.returns-in-Err-clause-some
returns-in-Err-clause-some c =
    let moved = text_moved c.args.k (range_word c.args.self.now) in
    let stride : to_z w64 (of_z w64 c.stride.result) ≡ c.args.self.now.range.stride = omega (arith, ints, c.stride.ensures.stride) in (
      (λ e. absurd cc),
      (λ e.
          let b = (bounds-within moved).0 e in
          let low : IsBound (to_z w64 (of_z w64 c.in_ok-low.low)) = (omega (arith, ints, b.0.0, c.in_ok-low.ensures, c.low_bound.ensures.bound), omega (arith, ints, b.0.1, c.in_ok-low.ensures, c.low_bound.ensures.bound)) in
          let high : IsBound (to_z w64 (of_z w64 c.in_ok-high.high)) = (omega (arith, ints, b.1.0, c.in_ok-high.ensures, c.high_bound.ensures.bound), omega (arith, ints, b.1.1, c.in_ok-high.ensures, c.high_bound.ensures.bound)) in
          c.in-Err.ensures.ok.1 (low, high, subst IsStride (sym stride) c.args.self.now.written)),
    )

-- At last all elements are taken over.
-- These are the answers to the goals of `dealt`.
use Rattle.std.proofs.Common.{◌≡◌, pos, length, ap, ◌∙◌, arith, List}
use Rattle.dpl_sets.specs.Ranges.{RangeValue}
use Rattle.dpl_sets.specs.Indices.{indices}
use Rattle.dpl_array.specs.Arrays.{filled_array}
use Rattle.dpl_contents.proofs.DealtLemmas.{taken-all, taken-none}
use Rattle.dpl_contents.proofs.dealt.dealt.Goals as goal

pub loop-place-init : goal.loop-place-init
loop-place-init c =
    let domain = c.domain-domain.ensures.domain in (
      taken-none c.args.array c.args.map.now c.in-Ok.anew (c.in-Ok.ensures.array ∙ ap (λ (d : List RangeValue). filled_array d c.args.map.now (pos 0)) domain),
      omega arith,
    )

pub returns : goal.returns
returns c =
    let size : c.size.result ≡ length (indices c.args.array.domain) = c.size.ensures.size ∙ ap (λ (d : List RangeValue). length (indices d)) c.domain-domain.ensures.domain in
    taken-all c.args.array c.args.map.now c.domain-domain.ensures.keys c.loop-place.place (omega (arith, size, c.loop-place-test.false)) c.loop-place.anew c.loop-place.invariant.0

-- What is kept beside the ranges are the sizes that they have.
use Rattle.std.proofs.Common.{◌≡◌, ap, sym, ◌∙◌, arith, length, ◌*◌}
use Rattle.dpl_sets.specs.Ranges.{members_of}
use Rattle.dpl_sets.specs.Indices.{indices}
use Rattle.dpl_domain.proofs.TupleLemmas.{length-indices, line_count-places, line_size-places, IsPadded-IsFilled}
use Rattle.dpl_domain.proofs.product.Domain.kept.Goals as goal

pub invariant_of-result : goal.invariant_of-result
invariant_of-result c =
    let filled = c.places-outer.ensures.unused in
    let many : length (indices c.args.ranges) ≡ length (members_of c.places-outer.result.0) * length (members_of c.places-outer.result.1) * length (members_of c.places-outer.result.2) =
    ap (λ rs. length (indices rs)) c.places-outer.ensures.places
    ∙ length-indices (length c.args.ranges) c.places-outer.result.0 c.places-outer.result.1 c.places-outer.result.2 (IsPadded-IsFilled c.requires.rank.0 filled) in
    record {
      rank = c.requires.rank;
      small = c.requires.small;
      lines_are = c.size.ensures.length ∙ sym (line_count-places _ _ _ _ c.args.ranges filled c.places-outer.ensures.places);
      line_is = c.size-2.ensures.length ∙ sym (line_size-places _ _ _ _ c.args.ranges filled c.places-outer.ensures.places);
      size_is = c.tuples.ensures.exact (omega (arith, many, c.requires.small)) ∙ sym many;
    }

-- The number of members is that of the list, and small.
use Rattle.std.proofs.Common.{◌≡◌, ◌∙◌, ap, arith, sym, pos, w64, to_z}
use Rattle.std.proofs.lemmas.Int.{ints}
use Rattle.dpl_range.proofs.MemberLemmas.{length-members_limit}
use Rattle.dpl_contents.specs.Range.{range_word}
use Rattle.dpl_values.proofs.Ranges.{size_in-one}
use Rattle.dpl_values.proofs.range.size.Goals as goal

pub overflow_cast-result : goal.overflow_cast-result
overflow_cast-result c =
    omega (arith, ints, c.size.ensures.length, length-members_limit c.args.range.range c.size.ensures.limits)

pub returns : goal.returns
returns c =
    let natural : to_z w64 c.size.result ≡ pos c.size.result =
    omega (arith, ints, c.size.ensures.length, length-members_limit c.args.range.range c.size.ensures.limits) in
    natural ∙ ap pos (c.size.ensures.length ∙ sym (size_in-one (range_word c.args.range) c.size.ensures.limits))

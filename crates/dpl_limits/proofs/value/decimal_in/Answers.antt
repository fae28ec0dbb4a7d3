-- A byte is no digit, or the number is past the greatest: so it stays.
use Rattle.std.proofs.Common.{get_or, sym, ap, ◌∙◌, drop, ◌+◌, arith}
use Rattle.std.proofs.lemmas.List.{get_or_default}
use Rattle.dpl_syntax.proofs.Walks.{drop-at}
use Rattle.dpl_limits.proofs.Texts.{decimal_after, is_decimal_some, decimal_stops}
use Rattle.dpl_limits.proofs.value.decimal_in.Goals as goal

pub returns-in-None-clause-none : goal.returns-in-None-clause-none
returns-in-None-clause-none c =
    let digits = c.args.digits.now in
    let i = c.loop-byte.byte-index in
    let byte = get_or digits i 0 in
    let left = drop-at digits i byte c.loop-byte-test.true (get_or_default digits i 0 byte c.loop-byte-test.true) in
    is_decimal_some c.args.most digits (omega (arith, c.loop-byte-test.true))
    ∙ sym c.loop-byte.invariant.so_far
    ∙ ap (decimal_after c.args.most c.loop-byte.number) left
    ∙ decimal_stops c.args.most c.loop-byte.number byte (drop (i + 1) digits) c.in-None.ensures.none

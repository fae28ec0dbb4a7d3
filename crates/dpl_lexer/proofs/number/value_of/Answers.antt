-- Past the limit once, past it for good: further digits make no number smaller.
use Rattle.std.proofs.Common.{◌≡◌, ℕ, ◌+◌, ◌*◌, ◌<◌, ◌≤◌, false, drop, get_or, eqb, sym, ap, ◌∙◌, arith}
use Rattle.std.proofs.lemmas.List.{get_or_default}
use Rattle.std.proofs.lemmas.Bool.Decides.{nat_tests}
use Rattle.dpl_syntax.specs.Text.{digit_value, value_after, greatest}
use Rattle.dpl_lexer.proofs.Numerals.{value_after-grows, one_digit}
use Rattle.dpl_syntax.proofs.Walks.{drop-at}
use Rattle.dpl_lexer.proofs.number.value_of.Goals as goal

ne_false : (a b : ℕ) → (a ≡ b → ⊥) → eqb a b ≡ false
ne_false a b h = grind (arith, nat_tests)

pub returns-then-longer-gt-GREATEST-clause-none : goal.returns-then-longer-gt-GREATEST-clause-none
returns-then-longer-gt-GREATEST-clause-none c =
    let i = c.loop-byte.byte-index in
    let base = c.args.base in
    let value = c.loop-byte.value in
    let digits = c.args.digits.now in
    let byte = get_or digits i 0 in
    let left = drop-at digits i byte c.loop-byte-test.true (get_or_default digits i 0 byte c.loop-byte-test.true) in
    let digit : eqb byte 95 ≡ false = ne_false byte 95 c.if-byte-ne95.true in
    let total : value_after base (value * base + digit_value byte) (drop (i + 1) digits) ≡ value_after base 0 digits =
    sym (one_digit base value byte (drop (i + 1) digits) digit) ∙ ap (value_after base value) (sym left) ∙ c.loop-byte.invariant.so_far in
    let grows : value * base + digit_value byte ≤ value_after base 0 digits = rw total at (value_after-grows base (value * base + digit_value byte) (drop (i + 1) digits) c.requires.some) in
    let over : greatest < value * base + digit_value byte = rw (c.from.ensures, c.from-then-byte-ne95.ensures, c.from-then-byte-ne95-2.ensures, c.digit_value.ensures.is) at c.if-longer-gt-GREATEST.true in
    omega arith

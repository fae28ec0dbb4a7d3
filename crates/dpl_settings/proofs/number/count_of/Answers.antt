-- What is parsed is the number, where that is from 1 to the greatest.
use Rattle.std.proofs.Common.{◌≡◌, ◌<◌, ◌^◌, ◌∙◌, arith, sym, ap, rules, true, Some, nat_le, le-leb, refl, option_and_then}
use Rattle.dpl_settings.proofs.Numbers.{count_of_read, counted}
use Rattle.dpl_settings.proofs.number.count_of.Goals as goal

pub returns-in_err-count-clause-value : goal.returns-in_err-count-clause-value
returns-in_err-count-clause-value c =
    let below : c.args.most < 2 ^ 64 = omega arith in
    c.from_residual.ensures
    ∙ ap (option_and_then (counted c.args.most)) (sym c.in_err-count.was ∙ c.ok.ensures.value)
    ∙ count_of_read c.args.most c.args.text.now c.parse.result (search rules) below c.parse.ensures.value.0

pub returns-clause-value : goal.returns-clause-value
returns-clause-value c =
    let below : c.args.most < 2 ^ 64 = omega arith in
    let n = c.in_ok-count.count in
    let low : nat_le 1 n ≡ true = le-leb 1 n c.if-count-lt1.false in
    let high : nat_le n c.args.most ≡ true = le-leb n c.args.most c.if-most-count.false in
    let held : Some n ≡ counted c.args.most n = rw (low, high) refl in
    held ∙ ap (option_and_then (counted c.args.most)) (sym c.in_ok-count.was ∙ c.ok.ensures.value)
    ∙ count_of_read c.args.most c.args.text.now c.parse.result (search rules) below c.parse.ensures.value.0

-- The number at the front, or what is wrong with it.
use Rattle.std.proofs.Common.{◌≡◌, inl, inr, [], ◌∷◌, ℕ, ◌+◌, ◌<◌, ◌≤◌, pos, true, false, List, length, take, drop, refl, sym, ap, subst, ◌∙◌, arith}
use mir.Syntax.{w64}
use mir.Val.{SFits, to_z, of_z}
use Rattle.std.proofs.lemmas.Int.{to_z-of_z}
use Rattle.std.proofs.lemmas.List.{drop-drop, length-drop}
use Rattle.dpl_syntax.specs.Gaps.{next_is}
use Rattle.dpl_syntax.specs.Text.{sticks, value_after, number_value, greatest}
use Rattle.dpl_lexer.specs.Scan.{starts_based, IsStart}
use Rattle.dpl_lexer.proofs.Numerals.{number_taken}
use Rattle.dpl_lexer.proofs.Scans.{number_at, number_found}
use Rattle.dpl_lexer.proofs.number.number_from.Goals as goal

fits : (n : ℕ) → n ≤ greatest → SFits w64 (pos n)
fits n le = record { sfits = omega arith }

starts_long : (text : List ℕ) → starts_based text ≡ true → 2 ≤ length text
starts_long [] h = absurd cc
starts_long (z ∷ []) h = absurd cc
starts_long (z ∷ l ∷ text) h = omega arith

begun : (text : List ℕ) (base skipped : ℕ) → IsStart text base skipped → skipped ≤ length text
begun text base skipped (inl (_, s, _, _)) = omega arith
begun text base skipped (inr (_, s, starts)) = let long = starts_long text starts in omega arith

within : (text : List ℕ) (skipped n : ℕ) (left : List ℕ) → left ≡ drop skipped text → skipped ≤ length text → n ≤ length left → skipped + n ≤ length text
within text skipped n left is le len = omega (arith, ap (length {A = ℕ}) is, length-drop skipped text)

pub returns-in_default-clause-err : goal.returns-in_default-clause-err
returns-in_default-clause-err c =
    let text = c.args.bytes.now in
    let base = c.args.base in
    let skipped = c.args.skipped in
    let n = c.digits_len-len.result in
    let all = rw c.split_at.ensures.back at c.digits_len-len.ensures.all in
    let ended = rw c.split_at.ensures.back at c.digits_len-len.ensures.ended in
    let taken = number_taken text base skipped n c.requires all ended in
    let digits : c.split_at-2.result.0.now ≡ take n (drop skipped text) = rw c.split_at.ensures.back at c.split_at-2.ensures.front in
    let large : greatest < number_value (take (skipped + n) text) = subst (λ v. greatest < v) (ap (value_after base 0) digits ∙ sym taken.value) c.in_default.ensures.none in
    let at = number_at text (take n (drop skipped text)) base (skipped + n) taken in
    record { within = omega arith; flawed = inr (inr (inr (inr (refl, refl, (take (skipped + n) text, drop (skipped + n) text, at, large))))) }

pub returns-then-next_sticks-clause-err : goal.returns-then-next_sticks-clause-err
returns-then-next_sticks-clause-err c =
    let text = c.args.bytes.now in
    let base = c.args.base in
    let skipped = c.args.skipped in
    let n = c.digits_len-len.result in
    let all = rw c.split_at.ensures.back at c.digits_len-len.ensures.all in
    let ended = rw c.split_at.ensures.back at c.digits_len-len.ensures.ended in
    let taken = number_taken text base skipped n c.requires all ended in
    let digits : c.split_at-2.result.0.now ≡ take n (drop skipped text) = rw c.split_at.ensures.back at c.split_at-2.ensures.front in
    let small : number_value (take (skipped + n) text) ≤ greatest = subst (λ v. v ≤ greatest) (ap (value_after base 0) digits ∙ sym taken.value) c.in-Some.ensures.some.1 in
    let rest : c.split_at-2.result.1.now ≡ drop (skipped + n) text = rw (c.split_at.ensures.back, drop-drop) at c.split_at-2.ensures.back in
    let next : next_is sticks (drop (skipped + n) text) ≡ true = ap (next_is sticks) (sym rest) ∙ cc in
    let at = number_at text (take n (drop skipped text)) base (skipped + n) taken in
    record { within = within text skipped n c.split_at.result.1.now c.split_at.ensures.back (begun c.args.bytes.now c.args.base c.args.skipped c.requires) c.digits_len-len.ensures.within; flawed = inr (inr (inr (inl (refl, (drop (skipped + n) text, at, next, small))))) }

pub returns-clause-ok : goal.returns-clause-ok
returns-clause-ok c =
    let text = c.args.bytes.now in
    let base = c.args.base in
    let skipped = c.args.skipped in
    let n = c.digits_len-len.result in
    let all = rw c.split_at.ensures.back at c.digits_len-len.ensures.all in
    let ended = rw c.split_at.ensures.back at c.digits_len-len.ensures.ended in
    let taken = number_taken text base skipped n c.requires all ended in
    let digits : c.split_at-2.result.0.now ≡ take n (drop skipped text) = rw c.split_at.ensures.back at c.split_at-2.ensures.front in
    let small : number_value (take (skipped + n) text) ≤ greatest = subst (λ v. v ≤ greatest) (ap (value_after base 0) digits ∙ sym taken.value) c.in-Some.ensures.some.1 in
    let value : c.in-Some.value ≡ pos (number_value (take (skipped + n) text)) = c.in-Some.ensures.some.0 ∙ ap (λ (l : List ℕ). pos (value_after base 0 l)) digits ∙ ap pos (sym taken.value) in
    let rest : c.split_at-2.result.1.now ≡ drop (skipped + n) text = rw (c.split_at.ensures.back, drop-drop) at c.split_at-2.ensures.back in
    let free : next_is sticks (drop (skipped + n) text) ≡ false = ap (next_is sticks) (sym rest) ∙ cc in
    number_found text (take n (drop skipped text)) base (skipped + n) _ (within text skipped n c.split_at.result.1.now c.split_at.ensures.back (begun c.args.bytes.now c.args.base c.args.skipped c.requires) c.digits_len-len.ensures.within) taken free
    (ap (λ z. to_z w64 (of_z w64 z)) value ∙ to_z-of_z w64 (pos (number_value (take (skipped + n) text))) (fits (number_value (take (skipped + n) text)) small)) small

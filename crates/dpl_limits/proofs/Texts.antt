-- Sets in their text, byte by byte: what stands before the first `=`, and decimal digits.
-- Past the greatest number once, past it for good.
use Rattle.std.proofs.Common.{◌≡◌, ℕ, ◌+◌, ◌*◌, ◌<◌, Bool, true, false, nat_le, ◌&&◌, List, [], ◌∷◌, ◌++◌, length, Option, Some, None, refl, sym, ap, ◌∙◌, eqb, arith}
use Rattle.std.proofs.lemmas.Bool.Decides.{nat_tests}
use Rattle.std.proofs.Math.Bool.{and-false}
use Rattle.dpl_syntax.specs.Gaps.{all_are}
use Rattle.dpl_syntax.specs.Text.{is_digit, digit_value, value_after}
use Rattle.dpl_lexer.proofs.Numerals.{value_after-grows, one_digit}
use Rattle.dpl_language.specs.Names.{Text}
use Rattle.dpl_rules.specs.Sound.{is_decimal}

-- ---- a name and its value
-- what is found behind some bytes that are no `=`
abbrev pub behind : List ℕ → Option (Text × List ℕ) → Option (Text × List ℕ)
behind xs None = None
behind xs (Some p) = Some (xs ++ p.0, p.1)

-- ---- decimal digits
-- the same behind digits that have the value n
abbrev pub decimal_after : ℕ → ℕ → List ℕ → Bool
decimal_after most n cs = all_are is_digit cs && nat_le (value_after 10 n cs) most

pub is_decimal_some : (most : ℕ) (cs : List ℕ) → 0 < length cs → is_decimal most cs ≡ decimal_after most 0 cs
is_decimal_some most [] some = absurd (omega (arith, some))
is_decimal_some most (c ∷ cs) some = refl

not_low_line : (c : ℕ) → is_digit c ≡ true → eqb c 95 ≡ false
not_low_line c digit = grind (arith, nat_tests)

pub decimal_step : (most n c : ℕ) (cs : List ℕ) → is_digit c ≡ true → decimal_after most (n * 10 + digit_value c) cs ≡ decimal_after most n (c ∷ cs)
decimal_step most n c cs digit =
    ap (λ (v : ℕ). all_are is_digit cs && nat_le v most) (sym (one_digit 10 n c cs (not_low_line c digit)))
    ∙ ap (λ (b : Bool). (b && all_are is_digit cs) && nat_le (value_after 10 n (c ∷ cs)) most) (sym digit)

past : (a b : ℕ) → b < a → nat_le a b ≡ false
past a b h = grind (arith, nat_tests)

above : (a b : ℕ) → nat_le a b ≡ false → b < a
above a b h = grind (arith, nat_tests)

pub decimal_stops : (most n c : ℕ) (cs : List ℕ) → (is_digit c && nat_le (n * 10 + digit_value c) most) ≡ false → decimal_after most n (c ∷ cs) ≡ false
decimal_stops most n c cs stops = by (is_digit c) refl
  where
    more : ℕ
    more = n * 10 + digit_value c

    by : (b : Bool) → is_digit c ≡ b → decimal_after most n (c ∷ cs) ≡ false
    by false other = rw other refl
    by true digit =
        let over : most < more = above more most (ap (λ (b : Bool). b && nat_le more most) (sym digit) ∙ stops) in
        let grows = value_after-grows 10 more cs (omega arith) in
        sym (decimal_step most n c cs digit)
        ∙ ap (λ (b : Bool). all_are is_digit cs && b) (past (value_after 10 more cs) most (omega (arith, over, grows)))
        ∙ and-false (all_are is_digit cs)

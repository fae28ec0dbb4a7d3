-- What `parse` reads as a number, beside a number without a sign.
use Rattle.std.proofs.Common.{◌≡◌, ℕ, ◌^◌, ◌<◌, ◌≤◌, ◌==◌, ◌&&◌, Bool, true, false, refl, sym, ap, ◌∙◌, subst, List, [], ◌∷◌, length, drop, cond, Option, Some, None, Result, Ok, Err, option_and_then, if◌then◌else◌, slice_index, nat_lt, nat_le, lt-ltb, ltb-true, leb-true, true≢false, arith}
use Rattle.std.specs.Result.{result_ok}
use Rattle.std.specs.Str.Parse.{AllDigits, IsNumeral, ParsesUnsigned, digits_value, without_leading_plus}
use Rattle.std.specs.Char.{digit_value}
use Rattle.std.specs.List.{list_all}
use Rattle.clap.specs.ValueTests.{is_numeral}
use Rattle.dpl_settings.specs.CommandLine.{count_of}

digits_pass : (ds : List ℕ) → AllDigits 10 ds → list_all (λ d. nat_lt (digit_value d) 10) ds ≡ true
digits_pass [] h = refl
digits_pass (d ∷ ds) h = rw (lt-ltb (digit_value d) 10 h.0) (digits_pass ds h.1)

both : (a b : Bool) → (a && b) ≡ true → (a ≡ true) × (b ≡ true)
both true b e = (refl, e)
both false b e = absurd (true≢false (sym e))

digits_from : (ds : List ℕ) → list_all (λ d. nat_lt (digit_value d) 10) ds ≡ true → AllDigits 10 ds
digits_from [] e = tt
digits_from (d ∷ ds) e =
    let parts = both _ _ e in
    (ltb-true _ _ parts.0, digits_from ds parts.1)

numeral_passes : (t : List ℕ) → IsNumeral 10 t → is_numeral t ≡ true
numeral_passes t h = rw (lt-ltb 0 (length t) h.0) (digits_pass t h.1)

numeral_from : (t : List ℕ) → is_numeral t ≡ true → IsNumeral 10 t
numeral_from t e =
    let parts = both _ _ e in
    (ltb-true _ _ parts.0, digits_from t parts.1)

-- from 1 to the greatest
abbrev pub is_count : ℕ → ℕ → Bool
is_count most n = nat_le 1 n && nat_le n most

abbrev pub counted : ℕ → ℕ → Option ℕ
counted most n = if is_count most n then Some n else None

-- a text that begins with no plus is read as it stands
count_of_parsed : {E : Type 0} (most : ℕ) (t : List ℕ) (r : Result ℕ E) → ParsesUnsigned 64 10 t r → most < 2 ^ 64 → without_leading_plus t ≡ t → option_and_then (counted most) (result_ok r) ≡ count_of most t
count_of_parsed most t (Ok n) h fits bare =
    let numeral : is_numeral t ≡ true = numeral_passes t (subst (IsNumeral 10) bare h.0.0) in
    let value : n ≡ digits_value 10 t = h.1 ∙ ap (digits_value 10) bare in
    rw numeral (ap (counted most) value)
count_of_parsed most t (Err e) h fits bare = go (is_numeral t && is_count most (digits_value 10 t)) refl
  where
    go : (b : Bool) → (is_numeral t && is_count most (digits_value 10 t)) ≡ b → None ≡ (if b then Some (digits_value 10 t) else None)
    go false e = refl
    go true e =
        let parts : (is_numeral t ≡ true) × (is_count most (digits_value 10 t) ≡ true) = both _ _ e in
        let ends : (nat_le 1 (digits_value 10 t) ≡ true) × (nat_le (digits_value 10 t) most ≡ true) = both _ _ parts.1 in
        let least : digits_value 10 t ≤ most = leb-true (digits_value 10 t) most ends.1 in
        let below : digits_value 10 t < 2 ^ 64 = omega (arith, least, fits) in
        absurd (h (subst (λ ds. IsNumeral 10 ds × (digits_value 10 ds < 2 ^ 64)) (sym bare) (numeral_from t parts.0, below)))

pub count_of_read : {E : Type 0} (most : ℕ) (t : List ℕ) (r : Result ℕ E) → (slice_index t 0 == 43) ≡ false → most < 2 ^ 64 → ParsesUnsigned 64 10 t r → option_and_then (counted most) (result_ok r) ≡ count_of most t
count_of_read most t r plain fits h = count_of_parsed most t r h fits (ap (λ b. drop (cond b 1 0) t) plain)

-- Which number a set's text is.
-- Only a text that is one has a number.
use Rattle.std.specs.Prelude.{◌≡◌, ◌≤◌, ℕ, ℤ, true, List}
use Rattle.dpl_syntax.specs.Text.{value_after}
use Rattle.dpl_rules.specs.Sound.{is_decimal, is_number_text}
use Rattle.dpl_says.specs.Given.{number_by}

-- digits of a number that isn't past the greatest are this number
pub record IsDecimal (most : ℕ) (digits : List ℕ) (n : ℕ) : Type 0 where
  pub decimal : is_decimal most digits ≡ true
  pub value : n ≡ value_after 10 0 digits
  pub small : n ≤ most

-- the text of an int is this int
pub record IsInt (text : List ℕ) (n : ℤ) : Type 0 where
  pub number : is_number_text text ≡ true
  pub value : n ≡ number_by text

-- What may be put together in any order and from any parts: the values of reductions, and the words of reduce variables.
use Rattle.std.specs.Prelude.{◌≡◌, ℤ, if◌then◌else◌, List, [], ◌∷◌, map}
use Rattle.dpl_language.specs.Tree.{Op}
use Rattle.dpl_language.specs.Values.{Value, Int, kept_number}
use Rattle.dpl_language.specs.Arithmetic.{combined, unit_of}
use Rattle.dpl_words.specs.Words.{is_true, is_logical}

-- An operation that puts values together in whatever order and from whatever parts, where each is one of some values; and the one of
-- these that adds nothing.
pub record IsCommutativeMonoid {V : Type 0} (IsOne : V → Type 0) (op : V → V → V) (unit : V) : Type 0 where
  pub one : IsOne unit
  pub closed : (a b : V) → IsOne a → IsOne b → IsOne (op a b)
  pub assoc : (a b c : V) → IsOne a → IsOne b → IsOne c → op (op a b) c ≡ op a (op b c)
  pub comm : (a b : V) → IsOne a → IsOne b → op a b ≡ op b a
  pub neutral : (a : V) → IsOne a → op a unit ≡ a

-- THE OPERATORS OF REDUCTIONS
-- A value to which the operator's value over nothing adds nothing: for `&&` and `||` a truth value, and for the others an int of 64 bits.
abbrev pub IsOperand : Op → Value → Type 0
IsOperand op v = combined op v (unit_of op) ≡ v

-- THE WORDS OF REDUCE VARIABLES
-- the value that a word is, by the operator of the variable's intent
abbrev pub value_of_word : Op → ℤ → Value
value_of_word op w = if is_logical op then is_true w else Int w

-- the word of two words' values, put together
abbrev pub combined_words : Op → ℤ → ℤ → ℤ
combined_words op v w = kept_number (combined op (value_of_word op v) (value_of_word op w))

-- the word over nothing
abbrev pub unit_word : Op → ℤ
unit_word op = kept_number (unit_of op)

-- A word to which the word over nothing adds nothing. Of a truth value these are 0 and 1: another word is the truth value true too, and
-- is made 1.
abbrev pub IsExact : Op → ℤ → Type 0
IsExact op w = combined_words op w (unit_word op) ≡ w

-- THE WORDS OF SEVERAL REDUCE VARIABLES, of which each has an operator of its own
abbrev pub all_combined : List Op → List ℤ → List ℤ → List ℤ
all_combined (op ∷ ops) (v ∷ vs) (w ∷ ws) = combined_words op v w ∷ all_combined ops vs ws
all_combined _ _ _ = []

abbrev pub unit_words : List Op → List ℤ
unit_words ops = map unit_word ops

abbrev pub AreExact : List Op → List ℤ → Type 0
AreExact [] [] = Unit {0}
AreExact (op ∷ ops) (w ∷ ws) = IsExact op w × AreExact ops ws
AreExact _ _ = ⊥

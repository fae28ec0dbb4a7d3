-- The words that sets of the command line give to slots: those of names in sight that are ints or bools.
-- An int is itself, `true` is 1 and `false` is 0; a text that is no int counts as 0, and fits no program.
use Rattle.std.specs.Prelude.{ℕ, ℤ, pos, bytes_eq, codes, if◌then◌else◌, List, [], ◌∷◌, ◌++◌, Option, Some, None, option_and_then}
use Rattle.dpl_rules.specs.Types.{scalar_of}
use Rattle.dpl_language.specs.Tree.{Kind, IntKind, BoolKind}
use Rattle.dpl_language.specs.Names.{Text}
use Rattle.dpl_rules.specs.Sights.{Scopes, lookup, type_declared}
use Rattle.dpl_rules.specs.Sound.{is_number_text, name_and_value}
use Rattle.dpl_scopes.specs.Slots.{slot_in}
use Rattle.dpl_says.specs.Given.{number_by}

abbrev pub word_of : Kind → List ℕ → ℤ
word_of IntKind text = if is_number_text text then number_by text else pos 0
word_of BoolKind text = if bytes_eq text (codes "true") then pos 1 else pos 0

abbrev pub word_at : Option Kind → Option ℕ → List ℕ → List (ℕ × ℤ)
word_at None slot text = []
word_at (Some k) None text = []
word_at (Some k) (Some slot) text = (slot, word_of k text) ∷ []

abbrev pub word_in : Scopes → Option (Text × List ℕ) → List (ℕ × ℤ)
word_in ss None = []
word_in ss (Some p) = word_at (option_and_then scalar_of (type_declared (lookup ss p.0))) (slot_in ss p.0) p.1

abbrev pub words_in : Scopes → List (List ℕ) → List (ℕ × ℤ)
words_in ss [] = []
words_in ss (w ∷ ws) = word_in ss (name_and_value w) ++ words_in ss ws

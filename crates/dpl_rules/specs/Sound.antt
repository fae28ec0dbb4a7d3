-- Sound programs, the values that the command line sets, and the refusal of a program that keeps the grammar.
-- A set is told last, and at no place of the text.
use Rattle.std.specs.Prelude.{◌≡◌, ℕ, suc, ◌==◌, nat_le, Bool, true, false, not, ◌&&◌, ◌||◌, bytes_eq, codes, if◌then◌else◌, List, [], ◌∷◌, option_map, option_and_then, Option, Some, None}
use Rattle.dpl_syntax.specs.Gaps.{all_are}
use Rattle.dpl_syntax.specs.Text.{is_digit, value_after, greatest}
use Rattle.dpl_language.specs.Tree.{Kind, IntKind, BoolKind, Stmts, NoStmts, Then, ProgramTree}
use Rattle.dpl_language.specs.Names.{Text}
use Rattle.dpl_rules.specs.Types.{ValueType, scalar_of, has}
use Rattle.dpl_syntax.specs.declared.refusal.Refusal.{Refusal}
use Rattle.dpl_syntax.specs.declared.refusal.Code.TheVariants.{BadSet}
use Rattle.dpl_syntax.specs.declared.refusal.Breach.{Breach}
use Rattle.dpl_rules.specs.Sights.{Sort, Configured, Declared, Scopes, lookup}
use Rattle.dpl_rules.specs.Loops.{is_among, behind}
use Rattle.dpl_rules.specs.Breaches.{top, breaches, first_breach}

-- no rule is broken
abbrev pub IsSound : ProgramTree Text → Type 0
IsSound t = breaches t ≡ []

-- ---- sets: `name=value`, each of a `config const` of the program, none twice, with a value of its kind (C14)
-- a word up to its first `=`, and behind it
abbrev pub name_and_value : List ℕ → Option (Text × List ℕ)
name_and_value [] = None
name_and_value (c ∷ cs) = if c == 61 then Some ([], cs) else option_map {T = Text × List ℕ} {U = Text × List ℕ} (λ p. (c ∷ p.0, p.1)) (name_and_value cs)

-- an int: decimal digits that fit, with a minus or without
abbrev pub is_decimal : ℕ → List ℕ → Bool
is_decimal most [] = false
is_decimal most (c ∷ cs) = all_are is_digit (c ∷ cs) && nat_le (value_after 10 0 (c ∷ cs)) most

abbrev pub is_number_text : List ℕ → Bool
is_number_text [] = false
is_number_text (c ∷ cs) = if c == 45 then is_decimal (suc greatest) cs else is_decimal greatest (c ∷ cs)

abbrev pub is_value_of : Kind → List ℕ → Bool
is_value_of IntKind text = is_number_text text
is_value_of BoolKind text = bytes_eq text (codes "true") || bytes_eq text (codes "false")

abbrev pub is_configured : Sort → Bool
is_configured Configured = true
is_configured _ = false

abbrev pub fits_type : Option ValueType → List ℕ → Bool
fits_type t text = has {A = Kind} (λ k. is_value_of k text) (option_and_then scalar_of t)

abbrev pub fits_declared : Option Declared → List ℕ → Bool
fits_declared None text = false
fits_declared (Some d) text = is_configured d.sort && fits_type d.type text

-- what is in sight at the end of the program, where its top-level names are
abbrev pub behind_all : Scopes → Stmts Text → Scopes
behind_all ss NoStmts = ss
behind_all ss (Then t rest) = behind_all (behind ss t) rest

abbrev pub set_fits : Scopes → List Text → Option (Text × List ℕ) → Bool
set_fits ss earlier None = false
set_fits ss earlier (Some p) = not (is_among p.0 earlier) && fits_declared (lookup ss p.0) p.1

-- the name of a set, which none behind it has again
abbrev pub and_name : Option (Text × List ℕ) → List Text → List Text
and_name None earlier = earlier
and_name (Some p) earlier = p.0 ∷ earlier

abbrev pub sets_fit : Scopes → List Text → List (List ℕ) → Bool
sets_fit ss earlier [] = true
sets_fit ss earlier (word ∷ words) =
    set_fits ss earlier (name_and_value word) && sets_fit ss (and_name (name_and_value word) earlier) words

-- ---- the refusal: the first breach, or else a set that doesn't fit
abbrev pub refusal_by : Option Breach → Bool → Option Refusal
refusal_by None fit = if fit then None else Some (record { code = BadSet; place = None })
refusal_by (Some b) fit = Some (record { code = b.code; place = Some b.at })

abbrev pub refusal : ProgramTree Text → List (List ℕ) → Option Refusal
refusal t sets = refusal_by (first_breach t) (sets_fit (behind_all top t.stmts) [] sets)

-- What stands between the tokens of a text: white space and comments.
-- Read `IsPiece`, and then `IsGap`.
use Rattle.std.specs.Prelude.{◌≡◌, ◌⊎◌, ℕ, zero, suc, List, [], ◌∷◌, ◌++◌, drop, Bool, true, false, not, ◌==◌, ◌&&◌, ◌||◌, if◌then◌else◌, Option, Some, None}

-- space, tab, newline and carriage return
abbrev pub is_space : ℕ → Bool
is_space c = (c == 32) || (c == 9) || (c == 10) || (c == 13)

-- what stays on its line: all but a newline
abbrev pub on_line : ℕ → Bool
on_line c = not (c == 10)

-- whether each byte passes a test
abbrev pub all_are : (ℕ → Bool) → List ℕ → Bool
all_are p [] = true
all_are p (c ∷ cs) = p c && all_are p cs

-- whether there is a next byte, and it passes a test
abbrev pub next_is : (ℕ → Bool) → List ℕ → Bool
next_is p [] = false
next_is p (c ∷ cs) = p c

-- whether a text begins with one byte and then another
abbrev pub begins_with : ℕ → ℕ → List ℕ → Bool
begins_with a b [] = false
begins_with a b (c ∷ cs) = (c == a) && next_is (λ d. d == b) cs

-- whether something ends just where the text does: what is left behind it is nothing
abbrev pub ends_there : Option (List ℕ) → Bool
ends_there None = false
ends_there (Some []) = true
ends_there (Some (c ∷ cs)) = false

-- a comment opens with // or /*
abbrev pub opens_line : List ℕ → Bool
opens_line text = begins_with 47 47 text

abbrev pub opens_block : List ℕ → Bool
opens_block text = begins_with 47 42 text

abbrev pub opens_comment : List ℕ → Bool
opens_comment text = opens_line text || opens_block text

-- What is left behind n open comments, if they are ended: /* opens one more, and */ ends the innermost.
abbrev pub after_comments : ℕ → List ℕ → Option (List ℕ)
after_comments zero text = Some text
after_comments (suc n) [] = None
after_comments (suc n) (c ∷ []) = None
after_comments (suc n) (c ∷ d ∷ cs) =
    if (c == 47) && (d == 42) then after_comments (suc (suc n)) cs
    else (if (c == 42) && (d == 47) then after_comments n cs else after_comments (suc n) (d ∷ cs))

-- a comment from /* on, with the */ that ends it
abbrev pub is_block : List ℕ → Bool
is_block u = opens_block u && ends_there (after_comments 1 (drop 2 u))

-- One piece of what stands between tokens, before the rest of the text: a byte of white space,
-- a comment from // up to the end of its line or of the text, or one from /* on.
abbrev pub IsPiece : List ℕ → List ℕ → Type 0
IsPiece u rest =
    ((c : ℕ) × (u ≡ c ∷ []) × (is_space c ≡ true))
    ⊎ (((opens_line u ≡ true) × (all_are on_line u ≡ true) × (next_is on_line rest ≡ false))
    ⊎ (is_block u ≡ true))

-- a gap: pieces one after the other, before the rest of the text
abbrev pub joined : List (List ℕ) → List ℕ
joined [] = []
joined (u ∷ us) = u ++ joined us

abbrev pub IsGap : List (List ℕ) → List ℕ → Type 0
IsGap [] rest = Unit {0}
IsGap (u ∷ us) rest = IsPiece u (joined us ++ rest) × IsGap us rest

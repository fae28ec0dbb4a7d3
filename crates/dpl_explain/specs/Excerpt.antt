-- What is shown of a text: the line that a place is on, and a mark under the place's column.
-- Lines end at newline bytes, and are counted from 1; behind the last line there are empty ones.
use Rattle.std.specs.Prelude.{◌≡◌, ℕ, zero, suc, ◌==◌, ◌-◌, ◌&&◌, ◌||◌, not, nat_lt, nat_le, Bool, if◌then◌else◌, List, [], ◌∷◌, ◌++◌, map, take, drop}
use Rattle.dpl_syntax.specs.declared.place.Place.{Place}

-- the first line, without its newline, and what stands behind that
abbrev pub first_line : List ℕ → List ℕ
first_line [] = []
first_line (b ∷ bs) = if b == 10 then [] else b ∷ first_line bs

abbrev pub behind_line : List ℕ → List ℕ
behind_line [] = []
behind_line (b ∷ bs) = if b == 10 then bs else behind_line bs

-- what stands behind so many lines
abbrev pub behind_lines : ℕ → List ℕ → List ℕ
behind_lines zero text = text
behind_lines (suc n) text = behind_lines n (behind_line text)

-- the text from a place on
abbrev pub behind_place : ℕ → ℕ → List ℕ → List ℕ
behind_place line column text = drop (column - 1) (behind_lines (line - 1) text)

-- the line of a number
abbrev pub line_at : ℕ → List ℕ → List ℕ
line_at line text = first_line (behind_lines (line - 1) text)

-- a terminal takes the byte for a command, and it is no tab
abbrev pub is_control : ℕ → Bool
is_control byte = (nat_lt byte 32 && not (byte == 9)) || byte == 127

-- a line as a terminal may show it: without control bytes
abbrev pub shown_byte : ℕ → ℕ
shown_byte byte = if is_control byte then 32 else byte

abbrev pub shown : List ℕ → List ℕ
shown = map shown_byte

-- the byte goes on with a character that an earlier one begins
abbrev pub is_later : ℕ → Bool
is_later byte = nat_le 128 byte && nat_lt byte 192

-- what stands under a byte: a tab under a tab, nothing where a character goes on, and else a space
abbrev pub blank : ℕ → List ℕ
blank byte = if byte == 9 then 9 ∷ [] else (if is_later byte then [] else 32 ∷ [])

abbrev pub blanks : List ℕ → List ℕ
blanks [] = []
blanks (byte ∷ bytes) = blank byte ++ blanks bytes

-- the mark under a column of a line
abbrev pub mark : ℕ → List ℕ → List ℕ
mark column line = blanks (take (column - 1) line) ++ 94 ∷ 10 ∷ []

-- the line of a place, and the mark under its column
abbrev pub excerpt : ℕ → ℕ → List ℕ → List ℕ
excerpt line column text = shown (line_at line text) ++ 10 ∷ mark column (line_at line text)

-- behind what is told of a place stands what is shown of it, and nothing more
abbrev pub ShowsPlace : List ℕ → Place → List ℕ → Type 0
ShowsPlace text at lines = (told : List ℕ) × (lines ≡ told ++ excerpt at.line at.column text)

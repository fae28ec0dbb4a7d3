-- The command line of the program: the command that clap reads, and what is asked for by the rows that it finds.
-- A row is what clap found for an argument, by its id.
use Rattle.std.specs.Prelude.{ℕ, ◌*◌, ◌^◌, ◌==◌, ◌&&◌, Bool, true, false, nat_le, bytes_eq, codes, if◌then◌else◌, List, [], ◌∷◌, Option, Some, None, unwrap_or, option_and_then}
use Rattle.std.specs.List.{after_first, before_first, list_any}
use Rattle.std.specs.Option.{option_map_or}
use Rattle.std.specs.Str.Parse.{digits_value}
use Rattle.clap.specs.Words.{App, Row, Rule, Text, all_of, first_of, matches_of, new_app, new_rule, with_rule}
use Rattle.clap.specs.Simple.{on_top}
use Rattle.clap.specs.ValueTests.{is_numeral}
use Rattle.clap.specs.declared.builder.action.ArgAction.TheVariants.{Append, SetTrue}
use Rattle.dpl_settings.specs.declared.maps.RootMaps.{RootMaps}
use Rattle.dpl_settings.specs.declared.maps.RootMaps.TheVariants.{AsIs, Block, Cyclic}

-- ---- the command

-- the first word that is no option, and those behind it
abbrev pub file_rule : Rule
file_rule = record (new_rule (codes "file")) { value_names = 1 }

abbrev pub set_rule : Rule
set_rule = record (new_rule (codes "set")) { value_names = 1; action = Some Append }

-- an option with one value, `--NAME VALUE`
abbrev pub option_rule : Text → Rule
option_rule name = record (new_rule name) { long = Some name; value_names = 1 }

-- `--budget B`, by default 2^24
abbrev pub budget_rule : Rule
budget_rule = record (option_rule (codes "budget")) { defaults = codes "16777216" ∷ [] }

-- `--locales N`, by default 1
abbrev pub locales_rule : Rule
locales_rule = record (option_rule (codes "locales")) { defaults = codes "1" ∷ [] }

-- `--grid2 RxC` and `--grid3 PxRxC`, without which the grid goes by the number of locales
abbrev pub grid2_rule : Rule
grid2_rule = option_rule (codes "grid2")

abbrev pub grid3_rule : Rule
grid3_rule = option_rule (codes "grid3")

-- `--maps WORD`, by default `asis`
abbrev pub maps_rule : Rule
maps_rule = record (option_rule (codes "maps")) { defaults = codes "asis" ∷ [] }

-- `--dump`
abbrev pub dump_rule : Rule
dump_rule = record (new_rule (codes "dump")) { long = Some (codes "dump"); action = Some SetTrue }

-- `dpl`, which has a version and so `--version` beside `--help`
abbrev pub dpl : App
dpl = on_top (λ s. record s { has_version = true }) (new_app (codes "dpl"))

-- the words, and how the run is limited
abbrev pub limited : App
limited = with_rule (with_rule (with_rule dpl file_rule) set_rule) budget_rule

-- the locales, how they are laid out, and the maps
abbrev pub laid_out : App
laid_out = with_rule (with_rule (with_rule (with_rule limited locales_rule) grid2_rule) grid3_rule) maps_rule

abbrev pub command_line : App
command_line = with_rule laid_out dump_rule

-- what clap finds in the words, of which the first is the program's name
unfoldable pub found : List Text → List Row
found = matches_of command_line

-- ---- what is asked for

-- the first word that is neither an option nor its value, and those behind it, where there are some
abbrev pub first_word : List Row → Option Text
first_word = first_of (codes "file")

abbrev pub other_words : List Row → Option (List Text)
other_words = all_of (codes "set")

-- the word holds a `=`
abbrev pub has_equals : Text → Bool
has_equals = list_any (λ c. c == 61)

-- the file is the first word, where that holds no `=`
abbrev pub file_of : Option Text → Option Text
file_of None = None
file_of (Some word) = if has_equals word then None else Some word

-- the sets are all other words, also those without `=`, which fit no program
abbrev pub sets_of : Option Text → Option (List Text) → List Text
sets_of None others = unwrap_or others []
sets_of (Some word) others = if has_equals word then word ∷ unwrap_or others [] else unwrap_or others []

-- the sets that are asked for
abbrev pub all_sets : List Row → List Text
all_sets rows = sets_of (first_word rows) (other_words rows)

-- a number from 1 to the greatest that may stand there, in decimal digits without a sign
abbrev pub count_of : ℕ → Text → Option ℕ
count_of most text =
    let n = digits_value 10 text in
    if is_numeral text && (nat_le 1 n && nat_le n most) then Some n else None

-- from 1 to 2^32 turns
abbrev pub budget_of : List Row → Option ℕ
budget_of rows = option_and_then (count_of (2 ^ 32)) (first_of (codes "budget") rows)

-- from 1 to 64 locales
abbrev pub locales_of : List Row → Option ℕ
locales_of rows = option_and_then (count_of 64) (first_of (codes "locales") rows)

-- what stands before the first small `x` of a text, and what stands behind it; nothing where there is none
abbrev pub front : Text → Text
front = before_first (λ c. c == 120)

abbrev pub behind : Text → Text
behind = after_first (λ c. c == 120)

-- extents that multiply to the number of locales; an extent is a number of locales too
abbrev pub fitting2 : ℕ → Option ℕ → Option ℕ → Option (List ℕ)
fitting2 locales None columns = None
fitting2 locales (Some r) None = None
fitting2 locales (Some r) (Some c) = if r * c == locales then Some (r ∷ c ∷ []) else None

abbrev pub fitting3 : ℕ → Option ℕ → Option ℕ → Option ℕ → Option (List ℕ)
fitting3 locales None rows columns = None
fitting3 locales (Some p) None columns = None
fitting3 locales (Some p) (Some r) None = None
fitting3 locales (Some p) (Some r) (Some c) = if p * r * c == locales then Some (p ∷ r ∷ c ∷ []) else None

-- `RxC` as the grid of so many locales
abbrev pub grid2_in : ℕ → Text → Option (List ℕ)
grid2_in locales text = fitting2 locales (count_of 64 (front text)) (count_of 64 (behind text))

-- `PxRxC`
abbrev pub grid3_in : ℕ → Text → Option (List ℕ)
grid3_in locales text = fitting3 locales (count_of 64 (front text)) (count_of 64 (front (behind text))) (count_of 64 (behind (behind text)))

-- the grid of two dimensions that is written, and otherwise all locales in one column
abbrev pub grid2_of : ℕ → List Row → Option (List ℕ)
grid2_of locales rows = option_map_or (grid2_in locales) (first_of (codes "grid2") rows) (Some (locales ∷ 1 ∷ []))

-- the same of three
abbrev pub grid3_of : ℕ → List Row → Option (List ℕ)
grid3_of locales rows = option_map_or (grid3_in locales) (first_of (codes "grid3") rows) (Some (locales ∷ 1 ∷ 1 ∷ []))

-- the word for the maps that roots get
abbrev pub maps_in : Text → Option RootMaps
maps_in word =
    if bytes_eq word (codes "asis") then Some AsIs
    else if bytes_eq word (codes "block") then Some Block
    else if bytes_eq word (codes "cyclic") then Some Cyclic
    else None

abbrev pub maps_of : List Row → Option RootMaps
maps_of rows = option_and_then maps_in (first_of (codes "maps") rows)

abbrev pub is_true : Text → Bool
is_true value = bytes_eq value (codes "true")

abbrev pub wants_dump : List Row → Bool
wants_dump rows = option_map_or is_true (first_of (codes "dump") rows) false

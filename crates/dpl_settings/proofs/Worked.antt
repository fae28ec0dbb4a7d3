-- Command lines, worked out: what is asked for by their words, or why they are refused.
use Rattle.std.specs.Prelude.{◌≡◌, ℕ, Bool, true, false, codes, List, [], ◌∷◌, Option, Some, None}
use Rattle.std.proofs.Common.{refl}
use Rattle.clap.specs.Words.{Text, fault_of, is_simple_and_free}
use Rattle.clap.specs.Kinds.{Kinds}
use Rattle.clap.specs.declared.error.kind.ErrorKind.TheVariants.{ArgumentConflict, DisplayHelp, DisplayVersion, InvalidValue, TooManyValues, UnknownArgument}
use Rattle.clap.proofs.OnLiterals.{clap_on_literals}
use Rattle.dpl_settings.specs.CommandLine.{budget_of, command_line, file_of, first_word, found, grid2_of, grid3_of, locales_of, maps_of, other_words, sets_of, wants_dump}
use Rattle.dpl_settings.specs.Causes.{first_wrong}
use Rattle.dpl_settings.specs.declared.fault.WrongValue.{WrongValue}
use Rattle.dpl_settings.specs.declared.fault.WrongValue.TheVariants as wrong
use Rattle.dpl_settings.specs.declared.maps.RootMaps.{RootMaps}
use Rattle.dpl_settings.specs.declared.maps.RootMaps.TheVariants.{AsIs, Block, Cyclic}

-- clap's meaning of a simple command is that of this one
simple : is_simple_and_free command_line ≡ true
simple = refl

-- the words are taken, and ask for this file, these sets, this budget, and a dump or none
abbrev AsksFor : List Text → Option Text → List Text → ℕ → Bool → Type 0
AsksFor words file sets budget dump =
    (fault_of command_line words ≡ []) × (file_of (first_word (found words)) ≡ file)
    × (sets_of (first_word (found words)) (other_words (found words)) ≡ sets)
    × (budget_of (found words) ≡ Some budget) × (wants_dump (found words) ≡ dump)

abbrev name : Text
name = codes "dpl"

whole_line : AsksFor (name ∷ codes "p" ∷ codes "n=7" ∷ codes "--budget" ∷ codes "3" ∷ codes "--dump" ∷ []) (Some (codes "p")) (codes "n=7" ∷ []) 3 true
unfolding clap_on_literals found
whole_line = (refl, refl, refl, refl, refl)

no_words : AsksFor (name ∷ []) None [] 16777216 false
unfolding clap_on_literals found
no_words = (refl, refl, refl, refl, refl)

-- the first word is a set where it holds a `=`; then all words are sets, and options stand anywhere
sets_alone : AsksFor (name ∷ codes "--dump" ∷ codes "a=1" ∷ codes "--budget=4294967296" ∷ codes "b=" ∷ codes "c" ∷ []) None (codes "a=1" ∷ codes "b=" ∷ codes "c" ∷ []) 4294967296 true
unfolding clap_on_literals found
sets_alone = (refl, refl, refl, refl, refl)

-- a second word without `=` is a set too, which fits no program
second_file : AsksFor (name ∷ codes "p" ∷ codes "q" ∷ []) (Some (codes "p")) (codes "q" ∷ []) 16777216 false
unfolding clap_on_literals found
second_file = (refl, refl, refl, refl, refl)

-- behind `--` there are words alone, and `-` is a word
behind_dashes : AsksFor (name ∷ codes "--" ∷ codes "--dump" ∷ codes "-" ∷ []) (Some (codes "--dump")) (codes "-" ∷ []) 16777216 false
unfolding clap_on_literals found
behind_dashes = (refl, refl, refl, refl, refl)

-- ---- a budget that is no number from 1 to 2^32, of words that clap takes

abbrev HasNoBudget : Text → Type 0
HasNoBudget value = (fault_of command_line (name ∷ codes "--budget" ∷ value ∷ []) ≡ []) × (budget_of (found (name ∷ codes "--budget" ∷ value ∷ [])) ≡ None)

no_number : HasNoBudget (codes "x")
unfolding clap_on_literals found
no_number = (refl, refl)

no_digits : HasNoBudget []
unfolding clap_on_literals found
no_digits = (refl, refl)

with_plus : HasNoBudget (codes "+3")
unfolding clap_on_literals found
with_plus = (refl, refl)

nothing : HasNoBudget (codes "0")
unfolding clap_on_literals found
nothing = (refl, refl)

past_the_greatest : HasNoBudget (codes "4294967297")
unfolding clap_on_literals found
past_the_greatest = (refl, refl)

-- ---- where work is done

-- the words are taken, and ask for so many locales, laid out so, and for these maps
abbrev LaysOut : List Text → ℕ → List ℕ → List ℕ → RootMaps → Type 0
LaysOut words locales grid2 grid3 maps =
    (fault_of command_line (name ∷ words) ≡ []) × (locales_of (found (name ∷ words)) ≡ Some locales)
    × (grid2_of locales (found (name ∷ words)) ≡ Some grid2) × (grid3_of locales (found (name ∷ words)) ≡ Some grid3)
    × (maps_of (found (name ∷ words)) ≡ Some maps)

one_locale : LaysOut [] 1 (1 ∷ 1 ∷ []) (1 ∷ 1 ∷ 1 ∷ []) AsIs
unfolding clap_on_literals found
one_locale = (refl, refl, refl, refl, refl)

-- without a grid all locales stand in one column; a number may begin with zeros
in_a_column : LaysOut (codes "--locales" ∷ codes "04" ∷ codes "--maps=block" ∷ []) 4 (4 ∷ 1 ∷ []) (4 ∷ 1 ∷ 1 ∷ []) Block
unfolding clap_on_literals found
in_a_column = (refl, refl, refl, refl, refl)

in_grids : LaysOut (codes "--grid3=2x1x02" ∷ codes "--locales=4" ∷ codes "--grid2" ∷ codes "2x2" ∷ codes "--maps" ∷ codes "cyclic" ∷ []) 4 (2 ∷ 2 ∷ []) (2 ∷ 1 ∷ 2 ∷ []) Cyclic
unfolding clap_on_literals found
in_grids = (refl, refl, refl, refl, refl)

most_locales : LaysOut (codes "--locales=64" ∷ codes "--grid2=1x64" ∷ codes "--grid3=4x4x4" ∷ []) 64 (1 ∷ 64 ∷ []) (4 ∷ 4 ∷ 4 ∷ []) AsIs
unfolding clap_on_literals found
most_locales = (refl, refl, refl, refl, refl)

-- ---- numbers of locales that are none from 1 to 64

abbrev HasNoLocales : Text → Type 0
HasNoLocales value = (fault_of command_line (name ∷ codes "--locales" ∷ value ∷ []) ≡ []) × (locales_of (found (name ∷ codes "--locales" ∷ value ∷ [])) ≡ None)

no_locale : HasNoLocales (codes "0")
unfolding clap_on_literals found
no_locale = (refl, refl)

past_the_most : HasNoLocales (codes "65")
unfolding clap_on_literals found
past_the_most = (refl, refl)

-- 2^32 + 4
past_a_word : HasNoLocales (codes "4294967300")
unfolding clap_on_literals found
past_a_word = (refl, refl)

empty_locales : HasNoLocales []
unfolding clap_on_literals found
empty_locales = (refl, refl)

-- ---- grids that are none of so many locales, and maps that are none

abbrev HasNoGrid2 : ℕ → Text → Type 0
HasNoGrid2 locales value = (fault_of command_line (name ∷ codes "--grid2" ∷ value ∷ []) ≡ []) × (grid2_of locales (found (name ∷ codes "--grid2" ∷ value ∷ [])) ≡ None)

of_other_locales : HasNoGrid2 5 (codes "2x2")
unfolding clap_on_literals found
of_other_locales = (refl, refl)

one_extent : HasNoGrid2 4 (codes "4")
unfolding clap_on_literals found
one_extent = (refl, refl)

no_columns : HasNoGrid2 4 (codes "4x")
unfolding clap_on_literals found
no_columns = (refl, refl)

no_rows : HasNoGrid2 4 (codes "x4")
unfolding clap_on_literals found
no_rows = (refl, refl)

three_extents : HasNoGrid2 4 (codes "2x2x1")
unfolding clap_on_literals found
three_extents = (refl, refl)

great_cross : HasNoGrid2 4 (codes "2X2")
unfolding clap_on_literals found
great_cross = (refl, refl)

with_space : HasNoGrid2 4 (codes "2x 2")
unfolding clap_on_literals found
with_space = (refl, refl)

empty_grid : HasNoGrid2 1 []
unfolding clap_on_literals found
empty_grid = (refl, refl)

abbrev HasNoGrid3 : ℕ → Text → Type 0
HasNoGrid3 locales value = (fault_of command_line (name ∷ codes "--grid3" ∷ value ∷ []) ≡ []) × (grid3_of locales (found (name ∷ codes "--grid3" ∷ value ∷ [])) ≡ None)

two_extents : HasNoGrid3 4 (codes "2x2")
unfolding clap_on_literals found
two_extents = (refl, refl)

four_extents : HasNoGrid3 4 (codes "2x2x1x1")
unfolding clap_on_literals found
four_extents = (refl, refl)

other_product : HasNoGrid3 4 (codes "2x2x2")
unfolding clap_on_literals found
other_product = (refl, refl)

abbrev HasNoMaps : Text → Type 0
HasNoMaps value = (fault_of command_line (name ∷ codes "--maps" ∷ value ∷ []) ≡ []) × (maps_of (found (name ∷ codes "--maps" ∷ value ∷ [])) ≡ None)

great_word : HasNoMaps (codes "Block")
unfolding clap_on_literals found
great_word = (refl, refl)

empty_word : HasNoMaps []
unfolding clap_on_literals found
empty_word = (refl, refl)

-- ---- of several wrong values the first, in the order of the budget, the locales, the grids and the maps

abbrev IsToldFirst : List Text → Option WrongValue → Type 0
IsToldFirst words first = (fault_of command_line (name ∷ words) ≡ []) × (first_wrong (found (name ∷ words)) ≡ first)

-- the order of the words is of no matter
locales_and_budget : IsToldFirst (codes "--locales=0" ∷ codes "--budget=0" ∷ []) (Some wrong.Budget)
unfolding clap_on_literals found
locales_and_budget = (refl, refl)

maps_and_locales : IsToldFirst (codes "--maps=no" ∷ codes "--grid2=3x3" ∷ codes "--locales=65" ∷ []) (Some wrong.Locales)
unfolding clap_on_literals found
maps_and_locales = (refl, refl)

both_grids : IsToldFirst (codes "--grid3=1" ∷ codes "--grid2=1" ∷ codes "--maps=no" ∷ []) (Some wrong.Grid2)
unfolding clap_on_literals found
both_grids = (refl, refl)

maps_and_grid : IsToldFirst (codes "--maps=no" ∷ codes "--grid3=2x1x1" ∷ codes "--grid2=1x1" ∷ []) (Some wrong.Grid3)
unfolding clap_on_literals found
maps_and_grid = (refl, refl)

maps_alone : IsToldFirst (codes "--maps=no" ∷ codes "--locales=4" ∷ codes "--grid2=2x2" ∷ []) (Some wrong.Maps)
unfolding clap_on_literals found
maps_alone = (refl, refl)

none_wrong : IsToldFirst (codes "--maps=cyclic" ∷ codes "--budget=1" ∷ []) None
unfolding clap_on_literals found
none_wrong = (refl, refl)

-- ---- words that clap refuses, and how

abbrev IsRefused : List Text → Kinds → Type 0
IsRefused words kinds = fault_of command_line (name ∷ words) ≡ kinds

missing_number : IsRefused (codes "p" ∷ codes "--budget" ∷ []) (InvalidValue ∷ [])
unfolding clap_on_literals found
missing_number = refl

two_budgets : IsRefused (codes "--budget" ∷ codes "3" ∷ codes "--budget" ∷ codes "4" ∷ []) (ArgumentConflict ∷ [])
unfolding clap_on_literals found
two_budgets = refl

two_grids : IsRefused (codes "--locales=4" ∷ codes "--grid2=2x2" ∷ codes "--grid2=4x1" ∷ []) (ArgumentConflict ∷ [])
unfolding clap_on_literals found
two_grids = refl

unknown_option : IsRefused (codes "p" ∷ codes "--fast" ∷ []) (UnknownArgument ∷ [])
unfolding clap_on_literals found
unknown_option = refl

negative_number : IsRefused (codes "--budget" ∷ codes "-1" ∷ []) (UnknownArgument ∷ [])
unfolding clap_on_literals found
negative_number = refl

dump_with_value : IsRefused (codes "--dump=1" ∷ []) (TooManyValues ∷ [])
unfolding clap_on_literals found
dump_with_value = refl

help : IsRefused (codes "p" ∷ codes "--help" ∷ []) (DisplayHelp ∷ [])
unfolding clap_on_literals found
help = refl

version : IsRefused (codes "-V" ∷ []) (DisplayVersion ∷ [])
unfolding clap_on_literals found
version = refl

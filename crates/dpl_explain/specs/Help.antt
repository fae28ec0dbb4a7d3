-- What is told behind what is shown of a place.
use Rattle.std.specs.Prelude.{◌≡◌, ◌⊎◌, ℕ, List, [], ◌∷◌, ◌++◌, codes}
use Rattle.dpl_syntax.specs.declared.place.Place.{Place}
use Rattle.dpl_syntax.specs.declared.refusal.Code.{Code}
use Rattle.dpl_hints.specs.Hints.{Holds, rows_of}
use Rattle.dpl_explain.specs.Excerpt.{excerpt}

-- a line of help
abbrev pub help_line : List ℕ → List ℕ
help_line help = codes "help: " ++ help ++ 10 ∷ []

-- nothing, or a line of help that the rows for the code hold
abbrev pub IsHelp : Code → List ℕ → Type 0
IsHelp code more = (more ≡ []) ⊎ ((help : List ℕ) × Holds (rows_of code) help × (more ≡ help_line help))

-- behind what is told of a place stands what is shown of it, and then a line of help or nothing
abbrev pub ShowsPlaceAndHelp : Code → List ℕ → Place → List ℕ → Type 0
ShowsPlaceAndHelp code text at lines = (told more : List ℕ) × (lines ≡ told ++ excerpt at.line at.column text ++ more) × IsHelp code more

-- The names of the sets so far, as a set of names in memory, and what one more set makes of them.
-- A name is its text, and the order of the names is left out.
use Rattle.std.specs.Prelude.{◌≡◌, ℕ, Bool, true, List, Option, bytes_eq}
use Rattle.std.specs.Borrow.{Bor}
use Rattle.indexmap.specs.IndexSet.{IndexSet, contains}
use Rattle.dpl_language.specs.Names.{Text}
use Rattle.dpl_rules.specs.Sights.{Scopes}
use Rattle.dpl_rules.specs.Loops.{is_among}
use Rattle.dpl_rules.specs.Sound.{set_fits, and_name}

abbrev pub same_text : Bor Text → Bor Text → Bool
same_text x y = bytes_eq x.now y.now

abbrev pub AreNames : {S : Type 0} → IndexSet (Bor Text) S → List Text → Type 0
AreNames names earlier = (name : Bor Text) → contains same_text names name ≡ is_among name.now earlier

-- a set fits behind others; where it does, its name is one of the names
abbrev pub FitsBehind : {S : Type 0} → Scopes → IndexSet (Bor Text) S → IndexSet (Bor Text) S → Option (Text × List ℕ) → Bool → Type 0
FitsBehind scopes old new set fits = (earlier : List Text) → AreNames old earlier → (fits ≡ set_fits scopes earlier set) × (fits ≡ true → AreNames new (and_name set earlier))

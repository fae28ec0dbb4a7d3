-- What the command line sets: each `config const` by its text and by its slot alike.
-- The names that are asked for are those of the scopes at the end of a program.
use Rattle.std.specs.Prelude.{◌≡◌, true, Option, Some, None}
use Rattle.dpl_language.specs.Names.{Text}
use Rattle.dpl_rules.specs.Sights.{Declared, Scopes, lookup}
use Rattle.dpl_rules.specs.Sound.{is_configured}
use Rattle.dpl_words.specs.Words.{LeafKind}
use Rattle.dpl_memory.specs.Memory.{PlainKind}
use Rattle.dpl_memory.specs.Resolved.{Bound, Start, IsGivenAs}
use Rattle.dpl_typed.specs.Leaves.{kind_by}
use Rattle.dpl_bound.specs.Sights.{bound_in}

-- a name gets the same by its text as by its slot
abbrev pub IsGiven : Start → Bound → Type 0
IsGiven start x = IsGivenAs x.variable.kind x start

-- an int, a truth value or a range
abbrev pub IsOfLeaf : Declared → Type 0
IsOfLeaf d = (k : LeafKind) × (kind_by d.type ≡ Some (PlainKind k))

abbrev pub IsConfig : Option Declared → Type 0
IsConfig None = ⊥
IsConfig (Some d) = (is_configured d.sort ≡ true) × IsOfLeaf d

-- so does each `config const` in sight
abbrev pub AreGiven : Start → Scopes → Type 0
AreGiven start ss = (x : Text) → IsConfig (lookup ss x) → IsGiven start (bound_in ss x)

-- What is true of scopes in memory: of their marks, of the places of the names in these, and of how many scopes are open.
-- The marks are in the order in which they were made.
use Rattle.std.specs.Prelude.{◌≡◌, ℕ, Bool, List, Option, bytes_eq, reverse, length}
use Rattle.std.specs.Option.{option_flatten}
use Rattle.std.specs.Borrow.{Bor}
use Rattle.indexmap.specs.IndexMap.{IndexMap, get}
use Rattle.dpl_language.specs.Names.{Text}
use Rattle.dpl_scopes.specs.declared.scopes.Mark.{Mark}
use Rattle.dpl_scopes.specs.Marks.{scopes_by, place, AreKept}

abbrev pub same_text : Bor Text → Bor Text → Bool
same_text x y = bytes_eq x.now y.now

-- a map has the place where a name was declared last, for each name that is in sight
abbrev pub ArePlaces : {S : Type 0} → IndexMap (Bor Text) (Option ℕ) S → List Mark → Type 0
ArePlaces places marks = (name : Bor Text) → option_flatten (get same_text places name) ≡ place marks name.now

pub record IsKept {S : Type 0} (marks : List Mark) (places : IndexMap (Bor Text) (Option ℕ) S) (depth : ℕ) : Type 0 where
  pub kept : AreKept (reverse marks)
  pub placed : ArePlaces places (reverse marks)
  pub deep : depth ≡ length (scopes_by (reverse marks))

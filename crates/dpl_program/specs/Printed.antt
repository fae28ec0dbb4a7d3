-- What is known of a program's deeds: what was printed. Its operations on cells are told by none, and no forall is counted.
use Rattle.std.specs.Prelude.{ℕ, List, []}
use Rattle.dpl_coming.specs.Walks.{Known}

abbrev pub by_text : List ℕ → Known
by_text text = record { text = text; operations = []; counts = λ more. [] }

-- What is dumped of the names that a program leaves: a line for each int, bool, cell and array, in order of declaration.
-- Ranges, domains and locales are left out.
use Rattle.std.specs.Prelude.{ℕ, List, [], ◌∷◌, ◌++◌, codes}
use Rattle.dpl_history.specs.declared.cell.CellState.{CellState}
use Rattle.dpl_history.specs.declared.cell.CellState.TheVariants.{Empty, Full}
use Rattle.dpl_language.specs.Tree.{Kind}
use Rattle.dpl_language.specs.Values.{Value, Int, Truth, value_kept}
use Rattle.dpl_language.specs.Environment.{Content, Plain, ArrayOf, CellOf}
use Rattle.dpl_language.specs.Names.{Text, Frame}
use Rattle.dpl_language.specs.Printing.{printed}

-- `name = 5`
abbrev pub value_line : Text → List ℕ → List ℕ
value_line x text = x ++ codes " = " ++ text ++ 10 ∷ []

abbrev pub plain_line : Text → Value → List ℕ
plain_line x (Int n) = value_line x (printed (Int n))
plain_line x (Truth b) = value_line x (printed (Truth b))
plain_line x _ = []

-- `name = empty`, or what a full cell holds
abbrev pub cell_text : Kind → CellState → List ℕ
cell_text k Empty = codes "empty"
cell_text k (Full z) = printed (value_kept k z)

-- ` 1 4 9`
abbrev pub elements_text : List Value → List ℕ
elements_text [] = []
elements_text (v ∷ vs) = 32 ∷ printed v ++ elements_text vs

abbrev pub line_of : Text → Content Text → List ℕ
line_of x (Plain v) = plain_line x v
line_of x (ArrayOf over k rs vs) = x ++ codes " =" ++ elements_text vs ++ 10 ∷ []
line_of x (CellOf k c) = value_line x (cell_text k c)

abbrev pub dumped : Frame → List ℕ
dumped [] = []
dumped (e ∷ es) = line_of e.name e.content ++ dumped es

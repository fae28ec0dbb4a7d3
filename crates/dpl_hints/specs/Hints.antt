-- A hint is a part of the rows for the refusal's code.
use Rattle.std.specs.Prelude.{◌≡◌, ℕ, List, [], ◌++◌}
use Rattle.dpl_syntax.specs.declared.refusal.Code.{Code}
use Rattle.dpl_syntax.specs.declared.refusal.Code.TheVariants.{NotText, BadCharacter, NumberTooLarge, Unexpected, TooDeep, UnknownName, NameTwice, WrongType, ConstantWritten, WrongRank, WrittenElsewhere, ReadElsewhere, OuterChanged, NotInForall, NotInCoforall, CellMisused, TooMany, BadSet}
use Rattle.dpl_hints.specs.declared.table.TheConstants.{L2, P1, P2, C1, C2, C3, C4, C5, C6, C7, C8, C9}

-- the rows for a code
unfoldable pub rows_of : Code → List ℕ
rows_of NotText = []
rows_of BadCharacter = L2.now
rows_of NumberTooLarge = []
rows_of Unexpected = P1.now
rows_of TooDeep = P2.now
rows_of UnknownName = C1.now
rows_of NameTwice = C2.now
rows_of WrongType = C3.now
rows_of ConstantWritten = C4.now
rows_of WrongRank = C5.now
rows_of WrittenElsewhere = C6.now
rows_of ReadElsewhere = C7.now
rows_of OuterChanged = C8.now
rows_of NotInForall = C9.now
rows_of NotInCoforall = []
rows_of CellMisused = []
rows_of TooMany = []
rows_of BadSet = []

-- the text has the part in it
pub record Holds (text part : List ℕ) : Type 0 where
  pub front : List ℕ
  pub back : List ℕ
  pub parts : text ≡ front ++ (part ++ back)

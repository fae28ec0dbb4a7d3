-- The line that tells a refusal, as it is printed, without the newline.
-- A refused text writes its refusal's line alone.
use Rattle.std.specs.Prelude.{ℕ, List, ◌++◌, codes, Option, Some, None}
use Rattle.std.specs.Fmt.{decimal}
use Rattle.dpl_syntax.specs.declared.place.Place.{Place}
use Rattle.dpl_syntax.specs.declared.refusal.Code.{Code}
use Rattle.dpl_syntax.specs.declared.refusal.Code.TheVariants.{NotText, BadCharacter, NumberTooLarge, Unexpected, TooDeep, UnknownName, NameTwice, WrongType, ConstantWritten, WrongRank, WrittenElsewhere, ReadElsewhere, OuterChanged, NotInForall, NotInCoforall, CellMisused, TooMany, BadSet}
use Rattle.dpl_syntax.specs.declared.refusal.Refusal.{Refusal}

-- line:column
abbrev pub place_text : Place → List ℕ
place_text at = decimal at.line ++ codes ":" ++ decimal at.column

abbrev pub code_text : Code → List ℕ
code_text NotText = codes "L1"
code_text BadCharacter = codes "L2"
code_text NumberTooLarge = codes "L3"
code_text Unexpected = codes "P1"
code_text TooDeep = codes "P2"
code_text UnknownName = codes "C1"
code_text NameTwice = codes "C2"
code_text WrongType = codes "C3"
code_text ConstantWritten = codes "C4"
code_text WrongRank = codes "C5"
code_text WrittenElsewhere = codes "C6"
code_text ReadElsewhere = codes "C7"
code_text OuterChanged = codes "C8"
code_text NotInForall = codes "C9"
code_text NotInCoforall = codes "C10"
code_text CellMisused = codes "C12"
code_text TooMany = codes "C13"
code_text BadSet = codes "C14"

-- ` at` a place, where there is one
abbrev pub at_text : Option Place → List ℕ
at_text None = codes ""
at_text (Some at) = codes " at " ++ place_text at

-- `! C8 at 1:33`, or `! C14`
abbrev pub refusal_text : Refusal → List ℕ
refusal_text r = codes "! " ++ code_text r.code ++ at_text r.place

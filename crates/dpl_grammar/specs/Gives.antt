-- What a function of a parser returned is what reading gives, unless memory ran out.
-- Each private function of a parser has this clause, with the reader of its rule.
use Rattle.std.specs.Prelude.{◌≡◌, List, [], ◌∷◌, Option, Some, None, Result, Ok, Err}
use Rattle.dpl_syntax.specs.declared.place.Place.{Place}
use Rattle.dpl_syntax.specs.declared.token.Token.{Token}
use Rattle.dpl_syntax.specs.declared.refusal.Code.{Code}
use Rattle.dpl_syntax.specs.declared.refusal.Code.TheVariants.{Unexpected as UnexpectedCode, TooDeep}
use Rattle.dpl_grammar.specs.Reader.{Cause, Unexpected, NoRoom, Read}
use Rattle.dpl_syntax.specs.declared.stop.Stop.{Stop}
use Rattle.dpl_syntax.specs.declared.stop.Stop.TheVariants.{Memory, Refused}

-- the place of the next token, if there is one
abbrev pub place_of : List Token → Option Place
place_of [] = None
place_of (k ∷ ks) = Some k.at

-- the code of the refusal that a cause makes
abbrev pub code_of : Cause → Code
code_of Unexpected = UnexpectedCode
code_of NoRoom = TooDeep

-- reading stops so: for the refusal's code, at its place
abbrev pub Fails : {Y : Type 0} → Stop → Read Y → Type 0
Fails Memory read = Unit {0}
Fails (Refused refusal) read = (cause : Cause) × (rest : List Token) × (read ≡ Err (cause, rest)) × (refusal ≡ record { code = code_of cause; place = place_of rest })

-- reading gives the value, as a view shows it with the tokens after it
abbrev pub Gives : {X Y : Type 0} → (X → Y × List Token) → Result X Stop → Read Y → Type 0
Gives view (Ok x) read = read ≡ Ok (view x)
Gives view (Err e) read = Fails e read

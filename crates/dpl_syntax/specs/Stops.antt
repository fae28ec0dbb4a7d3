-- What a stop of the lexer says of the text.
-- That memory ran out says nothing of it.
use Rattle.std.specs.Prelude.{ℕ, List, ⊤}
use Rattle.dpl_syntax.specs.declared.stop.Stop.{Stop}
use Rattle.dpl_syntax.specs.declared.stop.Stop.TheVariants.{Refused, Memory}
use Rattle.dpl_syntax.specs.Refused.{LexRefuses}

abbrev pub Tells : List ℕ → Stop → Type 0
Tells text (Refused refusal) = LexRefuses text refusal
Tells text Memory = ⊤

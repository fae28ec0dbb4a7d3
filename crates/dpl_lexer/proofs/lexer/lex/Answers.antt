-- A text has one list of tokens or one refusal, so what was found is all that there is.
use Rattle.std.proofs.Common.{◌≡◌, Result, Ok, Err, List, refl, ◌∙◌, Vec, Global}
use Rattle.std.specs.Prelude.{IfOk, IfErr, IsOk}
use Rattle.dpl_syntax.specs.Text.{Lexes, EndsOnce}
use Rattle.dpl_syntax.specs.Refused.{LexRefuses}
use Rattle.dpl_syntax.specs.Stops.{Tells}
use Rattle.dpl_syntax.specs.declared.token.Token.{Token}
use Rattle.dpl_syntax.specs.declared.refusal.Refusal.{Refusal}
use Rattle.dpl_syntax.specs.declared.stop.Stop.{Stop}
use Rattle.dpl_syntax.specs.declared.stop.Stop.TheVariants.{Refused, Memory}
use Rattle.dpl_lexer.proofs.Laws.{lexes_once, lexes_ends, lexes_unrefused, refuses_once}
use Rattle.dpl_lexer.proofs.lexer.lex.Goals as goal

abbrev Outcome : Type 0
Outcome = Result (Vec Token Global) Stop

only : (text : List _) (r : Outcome) → IfOk r (λ v. Lexes text v.items) → IfOk r (λ v. (tokens : List Token) → Lexes text tokens → tokens ≡ v.items)
only text (Ok v) h = λ tokens is. lexes_once text tokens v.items is h
only text (Err e) h = tt

ended : (text : List _) (r : Outcome) → IfOk r (λ v. Lexes text v.items) → IfOk r (λ v. EndsOnce v.items)
ended text (Ok v) h = lexes_ends text v.items h
ended text (Err e) h = tt

unrefused : (text : List _) (r : Outcome) → IfOk r (λ v. Lexes text v.items) → IsOk r → (refusal : Refusal) → LexRefuses text refusal → ⊥
unrefused text (Ok v) h ok refusal is = lexes_unrefused text v.items refusal h is
unrefused text (Err e) h ok refusal is = absurd cc

told_once : (text : List _) (r : Outcome) → IfErr r (Tells text) → (told refusal : Refusal) → r ≡ Err (Refused told) → LexRefuses text refusal → refusal ≡ told
told_once text (Ok v) h told refusal e is = absurd cc
told_once text (Err Memory) h told refusal e is = absurd cc
told_once text (Err (Refused r)) h told refusal e is = let same : r ≡ told = cc in refuses_once text refusal r is h ∙ same

complete : (text : List _) (r : Outcome) → IfErr r (Tells text) → (tokens : List Token) → Lexes text tokens → IfErr r (λ stop. stop ≡ Memory)
complete text (Ok v) h tokens is = tt
complete text (Err Memory) h tokens is = refl
complete text (Err (Refused r)) h tokens is = absurd (lexes_unrefused text tokens r is h)

pub returns-in-Err-clause-one_refusal : goal.returns-in-Err-clause-one_refusal
returns-in-Err-clause-one_refusal c = told_once c.args.text.now (Err (Refused c.in-Err.refusal)) c.in-Err.ensures.err

pub returns-in-Err-clause-complete : goal.returns-in-Err-clause-complete
returns-in-Err-clause-complete c = complete c.args.text.now (Err (Refused c.in-Err.refusal)) c.in-Err.ensures.err

pub returns-clause-only : goal.returns-clause-only
returns-clause-only c = only c.args.text.now c.tokens_of.result c.tokens_of.ensures.found

pub returns-clause-ended : goal.returns-clause-ended
returns-clause-ended c = ended c.args.text.now c.tokens_of.result c.tokens_of.ensures.found

pub returns-clause-unrefused : goal.returns-clause-unrefused
returns-clause-unrefused c = unrefused c.args.text.now c.tokens_of.result c.tokens_of.ensures.found

pub returns-clause-one_refusal : goal.returns-clause-one_refusal
returns-clause-one_refusal c = told_once c.args.text.now c.tokens_of.result c.tokens_of.ensures.refused

pub returns-clause-complete : goal.returns-clause-complete
returns-clause-complete c = complete c.args.text.now c.tokens_of.result c.tokens_of.ensures.refused

-- The stages of a run, put together: what lexer, parser, check and run give is what the text comes to.
-- A stage that stops by a refusal tells the text's.
use Rattle.std.proofs.Common.{◌≡◌, inl, inr, ℕ, List, refl, sym, ap, subst, Option, Some, None, Result, Ok, Err}
use Rattle.std.specs.Prelude.{IfOk, IfErr, IsErrOf, OnOk}
use Rattle.std.specs.Io.KnownBytes.{Appends}
use Rattle.dpl_syntax.specs.declared.place.Place.{Place}
use Rattle.dpl_syntax.specs.declared.token.Token.{Token}
use Rattle.dpl_syntax.specs.declared.refusal.Refusal.{Refusal}
use Rattle.dpl_syntax.specs.declared.stop.Stop.{Stop}
use Rattle.dpl_syntax.specs.declared.stop.Stop.TheVariants as stage
use Rattle.dpl_syntax.specs.Text.{Lexes}
use Rattle.dpl_syntax.specs.Stops.{Tells}
use Rattle.dpl_history.specs.declared.history.Event.{Event}
use Rattle.dpl_grammar.specs.Classes.{task_words, first_of}
use Rattle.dpl_language.specs.Tree.{ProgramTree}
use Rattle.dpl_language.specs.Environment.{Limits}
use Rattle.dpl_language.specs.Names.{Text}
use Rattle.dpl_spelling.specs.Theorem.{Spells, Refuses}
use Rattle.dpl_rules.specs.Sound.{refusal}
use Rattle.dpl_says.specs.Says.{closed_at, refusal_of, Means}
use Rattle.dpl_outcome.specs.declared.outcome.Outcome.{Outcome}
use Rattle.dpl_run.specs.declared.run.Ended.{Ended}
use Rattle.dpl_outcome.specs.declared.refused.Refused.{Refused as RefusedRun}
use Rattle.dpl_run.specs.Headline.{ending, IsProgram, IsRefused, ComesTo}
use Rattle.dpl_run.specs.Programs.{Runs, IsUntasked}
use Rattle.dpl_run.specs.Refusing.{IsCause, IsRejection}

-- ---- what no refusal says of a text that the grammar takes
none-closed : (o : Option Place) (r : Option Refusal) → closed_at o r ≡ None → o ≡ None
none-closed None r e = refl
none-closed (Some at) r e = absurd cc

none-refused : (o : Option Place) (r : Option Refusal) → closed_at o r ≡ None → r ≡ None
none-refused None r e = e
none-refused (Some at) r e = absurd cc

module _ (text : List ℕ) (sets : List (List ℕ)) where
  -- no word of it is closed, and it breaks no rule
  pub program-open : (t : ProgramTree Text) (is : IsProgram text sets t) → first_of task_words is.tokens ≡ None
  program-open t is = none-closed (first_of task_words is.tokens) (refusal t sets) is.unrefused

  pub program-is-untasked : (t : ProgramTree Text) → IsProgram text sets t → IsUntasked t
  program-is-untasked t is = (is.tokens, (text, is.lexes, is.spells), program-open t is)

  pub program-unrefused : (t : ProgramTree Text) → IsProgram text sets t → refusal t sets ≡ None
  program-unrefused t is = none-refused (first_of task_words is.tokens) (refusal t sets) is.unrefused

  -- ---- a stage that stops
  pub lex-stops : (stop : Stop) → Tells text stop → IsCause text sets stop
  lex-stops (stage.Refused r) told = inl told
  lex-stops stage.Memory told = tt

  pub parse-stops : (ks : List Token) (stop : Stop) → Lexes text ks → ((r : Refusal) → stop ≡ stage.Refused r → Refuses ks r) → IsCause text sets stop
  parse-stops ks (stage.Refused r) lexes told = inr (ks, lexes, inl (told r refl))
  parse-stops ks stage.Memory lexes told = tt

  pub check-stops : (ks : List Token) (t : ProgramTree Text) (stop : Stop) → Lexes text ks → Spells 64 ks t → ((r : Refusal) → stop ≡ stage.Refused r → refusal_of task_words sets ks t ≡ Some r) → IsCause text sets stop
  check-stops ks t (stage.Refused r) lexes spells told = inr (ks, lexes, inr (t, spells, told r refl))
  check-stops ks t stage.Memory lexes spells told = tt

  -- a refused text comes to its refusal
  pub refused-comes : (limits : Limits) (histories : List (List Event)) (r : Refusal) (o : Outcome) (said : List ℕ) → IsRefused text sets r → IsRejection r o said → ComesTo text sets limits histories o said
  refused-comes limits histories r o said refused line = inl (r, refused, ap ending line.0, line.1)

  -- a program comes to what it means
  pub program-comes : (limits : Limits) (histories : List (List Event)) (t : ProgramTree Text) (o : Outcome) (said : List ℕ) → IsProgram text sets t → Means t sets limits histories (ending o) said → ComesTo text sets limits histories o said
  program-comes limits histories t o said is means = inr (t, is, means)

  -- and so does one whose run is known, by whatever histories
  pub run-comes : (limits : Limits) (histories : List (List Event)) (t : ProgramTree Text) (o : Outcome) (said : List ℕ) → IsProgram text sets t → Runs (record { tree = t; sets = sets }) limits o said → ComesTo text sets limits histories o said
  run-comes limits histories t o said is runs = program-comes limits histories t o said is (runs.alike (program-is-untasked t is) limits.locales histories).means

  -- what became of a tree that the text's tokens spell
  pub if-ran : (limits : Limits) (t : ProgramTree Text) (ks : List Token) → Lexes text ks → Spells 64 ks t → (r : Result (Result Ended RefusedRun) Stop) → OnOk r (refusal_of task_words sets ks t ≡ None)
      → IfOk r (λ ran. IfOk ran (λ ended. Runs (record { tree = t; sets = sets }) limits ended.outcome ended.text.items))
      → IfOk r (λ ran. IfOk ran (λ ended. (histories : List (List Event)) → ComesTo text sets limits histories ended.outcome ended.text.items))
  if-ran limits t ks lexes spells (Ok (Ok ended)) unrefused runs =
      λ histories. run-comes limits histories t ended.outcome ended.text.items (record { tokens = ks; lexes = lexes; spells = spells; unrefused = unrefused }) runs
  if-ran limits t ks lexes spells (Ok (Err e)) unrefused runs = tt
  if-ran limits t ks lexes spells (Err stop) unrefused runs = tt

  pub if-stopped : (t : ProgramTree Text) (ks : List Token) → Lexes text ks → Spells 64 ks t → (r : Result (Result Ended RefusedRun) Stop) → ((refusal : Refusal) → IsErrOf r (stage.Refused refusal) → refusal_of task_words sets ks t ≡ Some refusal)
      → IfErr r (IsCause text sets)
  if-stopped t ks lexes spells (Ok ran) refused = tt
  if-stopped t ks lexes spells (Err stop) refused = check-stops ks t stop lexes spells (λ refusal is. refused refusal (ap Err is))

-- ---- what is written
-- what is told when its bytes are written is what they are of
pub delivered : (Said : Outcome → List ℕ → Type 0) (r : Result Outcome RefusedRun) (o : Outcome) (said : List ℕ) (old new : Option (List ℕ)) → Said o said
    → IfOk r (λ p. p ≡ o) → OnOk r (Appends old new said) → IfOk r (λ outcome. (written : List ℕ) × Appends old new written × Said outcome written)
delivered Said (Ok p) o said old new holds told wrote = (said, wrote, subst (λ o. Said o said) (sym told) holds)
delivered Said (Err e) o said old new holds told wrote = tt

-- What a text says, as an outcome tells it. The words of tasks don't run yet.
-- Nothing here knows where work is done, a gate or a writer.
use Rattle.std.specs.Prelude.{ℕ, List}
use Rattle.dpl_syntax.specs.declared.refusal.Refusal.{Refusal}
use Rattle.dpl_history.specs.declared.history.Event.{Event}
use Rattle.dpl_grammar.specs.Classes.{task_words}
use Rattle.dpl_language.specs.Tree.{ProgramTree}
use Rattle.dpl_language.specs.Environment.{Limits}
use Rattle.dpl_language.specs.Names.{Text}
use Rattle.dpl_frame.specs.Faults.{fault_view}
use Rattle.dpl_says.specs.Says as definition
use Rattle.dpl_says.specs.Says.{Ending, Leaves, Faults, Refused}
use Rattle.dpl_outcome.specs.declared.outcome.Outcome.{Outcome}
use Rattle.dpl_outcome.specs.declared.outcome.Outcome.TheVariants.{Done, Stopped, Rejected}

-- the end that an outcome tells
abbrev pub ending : Outcome → Ending
ending (Done left) = Leaves left
ending (Stopped fault) = Faults (fault_view fault)
ending (Rejected refusal) = Refused refusal

module _ (text : List ℕ) (sets : List (List ℕ)) where
  abbrev pub IsProgram : ProgramTree Text → Type 0
  IsProgram = definition.IsProgram task_words text sets

  abbrev pub IsRefused : Refusal → Type 0
  IsRefused = definition.IsRefused task_words text sets

  abbrev pub IsRead : Type 0
  IsRead = definition.IsRead task_words text sets

  -- by these histories the text comes to this outcome and these bytes
  abbrev pub ComesTo : Limits → List (List Event) → Outcome → List ℕ → Type 0
  ComesTo limits histories o said = definition.ComesTo task_words text sets limits histories (ending o) said

  -- it comes to them and to no others; and a data-parallel text does so whatever histories and locales there are
  abbrev pub Says : Limits → Outcome → List ℕ → Type 0
  Says limits o said = definition.Says task_words text sets limits (ending o) said

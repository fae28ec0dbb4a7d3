-- Programs that the check took, and what a run of one is.
use Rattle.std.specs.Prelude.{◌≡◌, ℕ, List, None}
use Rattle.dpl_history.specs.declared.history.Event.{Event}
use Rattle.dpl_syntax.specs.declared.token.Token.{Token}
use Rattle.dpl_syntax.specs.Text.{Lexes}
use Rattle.dpl_grammar.specs.Classes.{task_words, first_of}
use Rattle.dpl_spelling.specs.Theorem.{Spells}
use Rattle.dpl_language.specs.Tree.{ProgramTree}
use Rattle.dpl_language.specs.Environment.{Limits}
use Rattle.dpl_language.specs.Names.{Text}
use Rattle.dpl_rules.specs.Breaches.{top}
use Rattle.dpl_rules.specs.Sound.{IsSound}
use Rattle.dpl_rules.specs.Foralls.{all_foralls}
use Rattle.dpl_rules.specs.Admitted.{AreAdmitted}
use Rattle.dpl_places.specs.Statements.{stmts_places}
use Rattle.dpl_places.specs.Rising.{IsRising}
use Rattle.dpl_says.specs.Says.{Ending, Means}
use Rattle.dpl_outcome.specs.declared.outcome.Outcome.{Outcome}
use Rattle.dpl_run.specs.Headline.{ending}

-- a program, with the words `name=value` that give values to its `config const`s
pub record CheckedProgram : Type 0 where
  pub tree : ProgramTree Text
  pub sets : List (List ℕ)

-- the tokens are those of a text, and spell the tree
abbrev pub AreSpelled : List Token → ProgramTree Text → Type 0
AreSpelled tokens t = (text : List ℕ) × Lexes text tokens × Spells 64 tokens t

-- tokens without a word of tasks spell the tree: it has no locale, no task and no cell
abbrev pub IsUntasked : ProgramTree Text → Type 0
IsUntasked t = (tokens : List Token) × AreSpelled tokens t × (first_of task_words tokens ≡ None)

-- the tree breaks no rule, and each of its foralls is admitted: it writes at its own index, and reads there what it writes; and its statements stand
-- at places that rise, no two of them at one
pub record IsAllowed (t : ProgramTree Text) : Type 0 where
  pub sound : IsSound t
  pub admitted : AreAdmitted (all_foralls top t.stmts)
  pub placed : IsRising (stmts_places t.stmts)

-- By these histories the program comes to this outcome and writes these bytes, and it comes to no others.
pub record RunsBy (p : CheckedProgram) (limits : Limits) (histories : List (List Event)) (o : Outcome) (said : List ℕ) : Type 0 where
  pub means : Means p.tree p.sets limits histories (ending o) said
  pub only : (other : Ending) (says : List ℕ) → Means p.tree p.sets limits histories other says → (other ≡ ending o) × (says ≡ said)

-- WHAT A RUN IS. There are histories by which the program comes to this outcome and these bytes, and to no others; and where its tree has no form
-- of tasks, it does so by all histories, and on every number of locales.
pub record Runs (p : CheckedProgram) (limits : Limits) (o : Outcome) (said : List ℕ) : Type 0 where
  pub histories : List (List Event)
  pub runs : RunsBy p limits histories o said
  pub alike : IsUntasked p.tree → (locales : ℕ) (others : List (List Event)) → RunsBy p (record limits { locales = locales }) others o said

-- A program without a word of tasks does the same on every number of locales, and no run of it does anything else.
use Rattle.std.proofs.Common.{◌≡◌, ⊎_elim, inr, ℕ, List, [], None, subst}
use Rattle.dpl_syntax.specs.declared.token.Token.{Token}
use Rattle.dpl_lexer.proofs.Laws.{lexes_once}
use Rattle.dpl_history.specs.declared.history.Event.{Event}
use Rattle.dpl_grammar.specs.Classes.{task_words, first_of}
use Rattle.dpl_language.specs.Tree.{ProgramTree}
use Rattle.dpl_language.specs.Names.{Text}
use Rattle.dpl_language.specs.Environment.{Limits}
use Rattle.dpl_says.specs.Says.{IsDataParallel, Means}
use Rattle.dpl_says.proofs.OneSaying.{IsProgram-one, IsProgram-unrefused}
use Rattle.dpl_says.proofs.Anywhere.{says}
use Rattle.dpl_outcome.specs.declared.outcome.Outcome.{Outcome}
use Rattle.dpl_run.specs.Headline.{ending, IsProgram, ComesTo, Says}
use Rattle.dpl_run.specs.Programs.{Runs, RunsBy}
use Rattle.dpl_run.proofs.Stages.{program-open}

module _ (text : List ℕ) (sets : List (List ℕ)) (t : ProgramTree Text) (is : IsProgram text sets t) where
  -- none of the text's tokens is a word of tasks
  program-parallel : IsDataParallel text
  program-parallel tokens lexes = subst (λ (ks : List Token). first_of task_words ks ≡ None) (lexes_once text is.tokens tokens is.lexes lexes) (program-open text sets t is)

  -- what the text comes to is what its program means
  comes-means : (limits : Limits) (histories : List (List Event)) (o : Outcome) (said : List ℕ) → ComesTo text sets limits histories o said → Means t sets limits histories (ending o) said
  comes-means limits histories o said comes =
      ⊎_elim
      (λ refused. absurd (IsProgram-unrefused task_words text sets t refused.0 is refused.1))
      (λ run. subst (λ (u : ProgramTree Text). Means u sets limits histories (ending o) said) (IsProgram-one task_words text sets run.0 t run.1 is) run.2)
      comes

  -- by any histories and on any number of locales it comes to what it means here, and to no others
  module _ (limits : Limits) (o : Outcome) (said : List ℕ) (means : (histories : List (List Event)) → Means t sets limits histories (ending o) said) where
    runs-by : (locales : ℕ) (histories : List (List Event)) → RunsBy (record { tree = t; sets = sets }) (record limits { locales = locales }) histories o said
    runs-by locales histories =
        let saying : Says text sets limits o said = says task_words text sets limits (ending o) said (λ histories. inr (t, is, means histories)) in
        record {
          means = comes-means (record limits { locales = locales }) histories o said (saying.alike program-parallel locales histories).comes;
          only = λ other bytes also. (saying.alike program-parallel locales histories).only other bytes (inr (t, is, also));
        }

    -- so what the program means here by all histories is what its run is
    pub runs-anywhere : Runs (record { tree = t; sets = sets }) limits o said
    runs-anywhere = record { histories = []; runs = runs-by limits.locales []; alike = λ untasked. runs-by }

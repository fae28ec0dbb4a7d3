-- A program that was checked: a text spells it, it has no refusal, and it is elaborated to steps over slots, with the scopes that it leaves and the
-- words that sets give to its slots.
use Rattle.std.specs.Prelude.{◌≡◌, ℕ, ℤ, List, map}
use Rattle.dpl_tree.specs.Statements.{program_view}
use Rattle.dpl_language.specs.Tree.{ProgramTree}
use Rattle.dpl_language.specs.Names.{Text}
use Rattle.dpl_rules.specs.Sights.{Scopes}
use Rattle.dpl_rules.specs.Breaches.{top}
use Rattle.dpl_rules.specs.Sound.{behind_all}
use Rattle.dpl_given.specs.Words.{words_in}
use Rattle.dpl_nodes.specs.declared.step.Step.{Step}
use Rattle.dpl_nodes.specs.Steps.{steps_of}
use Rattle.dpl_bound.specs.Bounds.{slots_of}
use Rattle.dpl_bound.specs.Run.{stmts_leaves}
use Rattle.dpl_checker.specs.declared.program.Walked.{Walked}
use Rattle.dpl_run.specs.Headline.{IsProgram}
use Rattle.dpl_run.specs.Plans.{IsPlan}
use Rattle.dpl_run.specs.Programs.{CheckedProgram, IsAllowed}
use Rattle.dpl_run.specs.declared.checked.Checked.{Checked}

-- the program of some text, which has no refusal
abbrev pub IsUnrefused : ProgramTree Text → List (List ℕ) → Type 0
IsUnrefused t sets = (text : List ℕ) × IsProgram text sets t

-- what the walk over such a program gives: its steps, how many slots they need, and its top level
pub record IsWalked (t : ProgramTree Text) (w : Walked) : Type 0 where
  pub steps : stmts_leaves top t.stmts ≡ steps_of w.steps.items
  pub slots : w.slots ≡ slots_of t
  pub scopes : w.scopes ≡ behind_all top t.stmts

pub record IsElaborated (t : ProgramTree Text) (sets : List (List ℕ)) (slots : ℕ) (scopes : Scopes) (steps : List Step) (words : List (ℕ × ℤ)) : Type 0 where
  pub unrefused : IsUnrefused t sets
  pub allowed : IsAllowed t
  pub plan : IsPlan t slots scopes steps
  pub given : words ≡ words_in scopes sets

-- the program that was checked
abbrev pub program_of : Checked → CheckedProgram
program_of c = record { tree = program_view c.program.value; sets = map (λ set. set.now) c.sets.now }

-- and that it was
abbrev pub IsChecked : Checked → Type 0
IsChecked c = IsElaborated (program_of c).tree (program_of c).sets c.slots c.scopes c.steps.items c.words.items

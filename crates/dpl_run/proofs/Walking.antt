-- A program that has no refusal is plain, and so what the walk makes of it is its plan; and the refusal by the walk is the program's.
use Rattle.std.proofs.Common.{◌≡◌, ℕ, List, [], Option, None, sym, ap, ◌∙◌}
use Rattle.dpl_syntax.specs.declared.token.Token.{Token}
use Rattle.dpl_syntax.specs.declared.refusal.Refusal.{Refusal}
use Rattle.dpl_grammar.specs.Classes.{task_words, first_of}
use Rattle.dpl_language.specs.Tree.{ProgramTree}
use Rattle.dpl_language.specs.Names.{Text}
use Rattle.dpl_rules.specs.Breaches.{top, first_breach}
use Rattle.dpl_rules.specs.Sound.{behind_all, sets_fit, refusal_by, refusal}
use Rattle.dpl_says.specs.Says.{closed_at, refusal_of}
use Rattle.dpl_bound.specs.Bounds.{slots_of}
use Rattle.dpl_checker.specs.declared.program.Walked.{Walked}
use Rattle.dpl_checker.specs.Makes.{MakesStmts}
use Rattle.dpl_run.specs.Headline.{IsProgram}
use Rattle.dpl_run.specs.Elaborated.{IsWalked}
use Rattle.dpl_run.proofs.Runnable.{unbroken, program-plain}

module _ (sets : List (List ℕ)) (tokens : List Token) (t : ProgramTree Text) (w : Walked) (r : Option Refusal)
    (runs : None ≡ first_of task_words tokens) (first : w.first ≡ first_breach t) (scopes : w.scopes ≡ behind_all top t.stmts) (is : r ≡ refusal_by w.first (sets_fit w.scopes [] sets)) where
  pub walk-refusal : refusal_of task_words sets tokens t ≡ r
  walk-refusal =
      ap (λ p. closed_at p (refusal t sets)) (sym runs)
      ∙ ap (λ b. refusal_by b (sets_fit (behind_all top t.stmts) [] sets)) (sym first) ∙ ap (λ ss. refusal_by w.first (sets_fit ss [] sets)) (sym scopes) ∙ sym is

  pub walk-first : r ≡ None → w.first ≡ None
  walk-first none = unbroken w.first (sets_fit w.scopes [] sets) (sym is ∙ none)

-- so the walk over a program without a refusal gives its plan
pub walk-makes : (text : List ℕ) (sets : List (List ℕ)) (t : ProgramTree Text) (w : Walked) → IsProgram text sets t → w.first ≡ None → MakesStmts top t.stmts w.first w.steps.items → w.slots ≡ slots_of t → w.scopes ≡ behind_all top t.stmts → IsWalked t w
walk-makes text sets t w is none makes slots scopes = record { steps = makes none (program-plain text sets t is); slots = slots; scopes = scopes }

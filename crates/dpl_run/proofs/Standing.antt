-- A program that has no refusal prints and makes turns only where these may stand, and so do the statements of its plan.
use Rattle.std.proofs.Common.{◌≡◌, List, [], ℕ, Bool, Option, Some, None, refl, subst}
use Rattle.dpl_syntax.specs.declared.refusal.Breach.{Breach}
use Rattle.dpl_language.specs.Tree.{ProgramTree}
use Rattle.dpl_language.specs.Names.{Text}
use Rattle.dpl_agreement.specs.Untasked.{UntaskedStmts}
use Rattle.dpl_rules.specs.Sights.{Scopes}
use Rattle.dpl_rules.specs.Breaches.{first_breach}
use Rattle.dpl_rules.specs.Sound.{behind_all, sets_fit, refusal_by, refusal}
use Rattle.dpl_rules.specs.Breaches.{top}
use Rattle.dpl_standing.specs.Standing.{Outside, AllMayStand}
use Rattle.dpl_standing.proofs.Programs.{resolved-stands, refused-none}
use Rattle.dpl_memory.specs.Memory.{known_variable}
use Rattle.dpl_memory.specs.Resolved.{text_of, variable_of}
use Rattle.dpl_nodes.specs.declared.step.Step.{Step}
use Rattle.dpl_nodes.specs.Steps.{steps_of}
use Rattle.dpl_run.specs.Plans.{IsPlan}

breach-none : (b : Option Breach) (fit : Bool) → refusal_by b fit ≡ None → b ≡ None
breach-none None fit e = refl
breach-none (Some b) fit e = absurd cc

pub plan-stands : (t : ProgramTree Text) (sets : List (List ℕ)) (slots : ℕ) (scopes : Scopes) (steps : List Step) → IsPlan t slots scopes steps → UntaskedStmts t.stmts → refusal t sets ≡ None
    → AllMayStand Outside (steps_of steps)
plan-stands t sets slots scopes steps plan untasked unrefused =
    subst (AllMayStand Outside) plan.nodes
    (resolved-stands text_of variable_of known_variable t plan.resolved untasked
    (refused-none t (breach-none (first_breach t) (sets_fit (behind_all top t.stmts) [] sets) unrefused)) plan.text)

-- The plan that the walk gives, from its clauses and three laws of trees; and that the sets of a program without a refusal fit it.
-- A `config const` in sight is a plain variable, and has a slot.
use Rattle.std.proofs.Common.{◌≡◌, ℕ, ◌≤◌, List, [], Bool, true, false, Option, Some, None, is_some, refl, sym, ap, ◌∙◌, subst}
use Rattle.std.proofs.Math.Nat.{le_refl}
use Rattle.dpl_syntax.specs.declared.refusal.Breach.{Breach}
use Rattle.dpl_language.specs.Tree.{ProgramTree}
use Rattle.dpl_language.specs.Names.{Text}
use Rattle.dpl_agreement.specs.Renamed.{renamed_program}
use Rattle.dpl_agreement.specs.Scopes.{fits_all}
use Rattle.dpl_rules.specs.Sights.{Declared, Scopes, lookup, type_declared}
use Rattle.dpl_rules.specs.Breaches.{top, first_breach}
use Rattle.dpl_rules.specs.Sound.{behind_all, sets_fit, refusal_by, refusal}
use Rattle.dpl_scopes.specs.Slots.{slot_in}
use Rattle.dpl_scopes.proofs.Slots.{slot_in-lookup}
use Rattle.dpl_lowered.specs.LoweredStatements.{lowered_program}
use Rattle.dpl_words.specs.Words.{LeafKind}
use Rattle.dpl_memory.specs.Memory.{PlainKind, known_variable}
use Rattle.dpl_memory.specs.Resolved.{variable_of, Start, first_seen, resolving}
use Rattle.dpl_nodes.specs.declared.step.Step.{Step}
use Rattle.dpl_nodes.specs.Steps.{steps_of}
use Rattle.dpl_typed.specs.Leaves.{kind_by, kind_in, leaf_by}
use Rattle.dpl_bound.specs.Shapes.{shape_in}
use Rattle.dpl_bound.specs.Sights.{bound_in, AreKnownScopes}
use Rattle.dpl_bound.specs.Bounds.{bound_program, slots_of}
use Rattle.dpl_runnable.specs.Runnable.{AreRunnableTops}
use Rattle.dpl_runnable.specs.Given.{IsGiven, IsConfig, AreGiven}
use Rattle.dpl_runnable.proofs.Texts.{program-spelled}
use Rattle.dpl_runnable.proofs.Resolving.{program-known, program-resolves, program-left}
use Rattle.dpl_run.specs.Plans.{IsPlan, IsGivenAlike}

some-slot : (o : Option ℕ) → is_some o ≡ true → (slot : ℕ) × (o ≡ Some slot)
some-slot None e = absurd cc
some-slot (Some slot) e = (slot, refl)

-- ---- what the sets give
given-leaf : (start : Start) (ss : Scopes) (x : Text) (k : LeafKind) (slot : ℕ) → IsGivenAlike ss start → kind_in ss x ≡ Some (PlainKind k) → slot_in ss x ≡ Some slot → IsGiven start (bound_in ss x)
given-leaf start ss x k slot alike kind at =
    subst (λ l. IsGiven start (record { text = x; variable = l; shape = shape_in ss x })) (sym (ap (λ o. leaf_by o (slot_in ss x)) kind ∙ ap (leaf_by (Some (PlainKind k))) at)) (alike x k slot kind at)

configured-given : (start : Start) (ss : Scopes) (x : Text) → IsGivenAlike ss start → (o : Option Declared) → lookup ss x ≡ o → IsConfig o → IsGiven start (bound_in ss x)
configured-given start ss x alike None found config = absurd config
configured-given start ss x alike (Some d) found config =
    let slot = some-slot (slot_in ss x) (slot_in-lookup ss x ∙ ap is_some found) in
    given-leaf start ss x config.1.0 slot.0 alike (ap (λ o. kind_by (type_declared o)) found ∙ config.1.1) slot.1

pub are-given : (start : Start) (ss : Scopes) → IsGivenAlike ss start → AreGiven start ss
are-given start ss alike x config = configured-given start ss x alike (lookup ss x) refl config

-- so the names of a program that runs resolve, in a memory with the slots that it needs
pub plan-resolves : (t : ProgramTree Text) (slots : ℕ) (scopes : Scopes) → AreRunnableTops top t.stmts → slots ≡ slots_of t → scopes ≡ behind_all top t.stmts
    → (start : Start) → start.slots ≡ slots → IsGivenAlike scopes start → fits_all (resolving start) (bound_program t).stmts first_seen
plan-resolves t slots scopes runs count behind start same alike =
    program-resolves t runs start (subst (λ n. slots_of t ≤ n) (sym (same ∙ count)) (le_refl (slots_of t))) (subst (AreGiven start) behind (are-given start scopes alike))

pub planned : (t : ProgramTree Text) (slots : ℕ) (scopes : Scopes) (steps : List Step) → AreRunnableTops top t.stmts → (lowered_program known_variable (renamed_program variable_of (bound_program t))).stmts ≡ steps_of steps
    → slots ≡ slots_of t → scopes ≡ behind_all top t.stmts → IsPlan t slots scopes steps
planned t slots scopes steps runs nodes count behind =
    let plain : AreKnownScopes scopes = subst AreKnownScopes (sym behind) (program-known t runs) in
    record {
      resolved = bound_program t;
      text = program-spelled t;
      nodes = nodes;
      fits = plan-resolves t slots scopes runs count behind;
      sight = program-left t scopes behind plain;
      behind = behind;
      plain = plain;
    }

-- ---- a program without a refusal
fitting : (b : Option Breach) (fit : Bool) → refusal_by b fit ≡ None → fit ≡ true
fitting None true e = refl
fitting None false e = absurd cc
fitting (Some b) fit e = absurd cc

pub sets-fit : (t : ProgramTree Text) (sets : List (List ℕ)) → refusal t sets ≡ None → sets_fit (behind_all top t.stmts) [] sets ≡ true
sets-fit t sets e = fitting (first_breach t) (sets_fit (behind_all top t.stmts) [] sets) e

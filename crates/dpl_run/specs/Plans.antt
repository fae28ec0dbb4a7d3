-- What a plan of a program is to whoever runs it: its names resolved, its steps, and the scopes that it leaves.
-- The walk of the check promises each part of it by a clause of its own.
use Rattle.std.specs.Prelude.{◌≡◌, ℕ, List, [], Some, None, option_map}
use Rattle.dpl_language.specs.Tree.{ProgramTree}
use Rattle.dpl_language.specs.Names.{Text, paired}
use Rattle.dpl_agreement.specs.Renamed.{renamed_program}
use Rattle.dpl_agreement.specs.Scopes.{fits_all, after_all}
use Rattle.dpl_rules.specs.Sights.{Scopes}
use Rattle.dpl_rules.specs.Breaches.{top}
use Rattle.dpl_rules.specs.Sound.{behind_all}
use Rattle.dpl_scopes.specs.Slots.{slot_in}
use Rattle.dpl_given.specs.Words.{words_in}
use Rattle.dpl_lowered.specs.LoweredStatements.{lowered_program}
use Rattle.dpl_words.specs.Words.{LeafKind, set_at, given_as}
use Rattle.dpl_memory.specs.Memory.{PlainKind, known_variable}
use Rattle.dpl_memory.specs.Resolved.{Bound, text_of, variable_of, Start, first_seen, resolving}
use Rattle.dpl_nodes.specs.declared.step.Step.{Step}
use Rattle.dpl_nodes.specs.Steps.{steps_of}
use Rattle.dpl_typed.specs.Leaves.{kind_in}
use Rattle.dpl_bound.specs.Sights.{sight_of, AreKnownScopes}

-- by its slot each plain variable in sight is given what it is given by its text
abbrev pub IsGivenAlike : Scopes → Start → Type 0
IsGivenAlike scopes start =
    (x : Text) (k : LeafKind) (slot : ℕ) → kind_in scopes x ≡ Some (PlainKind k) → slot_in scopes x ≡ Some slot → paired x start.texts ≡ option_map (given_as k) (set_at slot start.words)

-- a run with so many slots, in which the sets give their words
abbrev pub start_of : ℕ → Scopes → List (List ℕ) → Start
start_of slots scopes sets = record { slots = slots; cells = 0; texts = []; words = words_in scopes sets; histories = None }

pub record IsPlan (t : ProgramTree Text) (slots : ℕ) (scopes : Scopes) (steps : List Step) : Type 0 where
  pub resolved : ProgramTree Bound
  pub text : renamed_program text_of resolved ≡ t
  pub nodes : (lowered_program known_variable (renamed_program variable_of resolved)).stmts ≡ steps_of steps
  pub fits : (start : Start) → start.slots ≡ slots → IsGivenAlike scopes start → fits_all (resolving start) resolved.stmts first_seen
  pub sight : (start : Start) → (after_all (resolving start) resolved.stmts first_seen).frames ≡ sight_of scopes
  pub behind : scopes ≡ behind_all top t.stmts
  pub plain : AreKnownScopes scopes

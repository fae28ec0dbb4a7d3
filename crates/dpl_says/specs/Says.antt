-- What a text says and how it ends: a refused text has its refusal's line alone, and a program what it writes.
-- Nothing here knows where work is done: a forall is a plain loop, and a coforall's tasks ran together by a history.
use Rattle.std.specs.Prelude.{◌≡◌, ◌⊎◌, ℕ, List, [], ◌∷◌, ◌++◌, Option, Some, None}
use Rattle.dpl_syntax.specs.declared.place.Place.{Place}
use Rattle.dpl_syntax.specs.declared.token.Token.{Token}
use Rattle.dpl_syntax.specs.declared.refusal.Code.TheVariants.{Unexpected}
use Rattle.dpl_syntax.specs.declared.refusal.Refusal.{Refusal}
use Rattle.dpl_syntax.specs.Text.{Lexes}
use Rattle.dpl_syntax.specs.Refused.{LexRefuses}
use Rattle.dpl_syntax.specs.Lines.{refusal_text}
use Rattle.dpl_history.specs.declared.history.Event.{Event}
use Rattle.dpl_grammar.specs.Classes.{Class, task_words, first_of}
use Rattle.dpl_language.specs.Tree.{ProgramTree}
use Rattle.dpl_language.specs.Values.{Fault}
use Rattle.dpl_language.specs.Names.{Text, Frame, State}
use Rattle.dpl_language.specs.Environment.{Limits}
use Rattle.dpl_language.specs.Outcome.{Outcome, Done, Stop, Waits}
use Rattle.dpl_language.specs.Program.{meaning, written, top_level, own_frame}
use Rattle.dpl_language.specs.Together.{Happened}
use Rattle.dpl_spelling.specs.Theorem.{Spells, Refuses}
use Rattle.dpl_rules.specs.Sound.{refusal}
use Rattle.dpl_says.specs.Given.{given}

-- P1 at a place, where there is one; else another refusal
abbrev pub closed_at : Option Place → Option Refusal → Option Refusal
closed_at None other = other
closed_at (Some at) other = Some (record { code = Unexpected; place = Some at })

-- for what tokens are refused that spell a tree: a closed word, a broken rule, or a set that fits no `config const`
abbrev pub refusal_of : Class → List (List ℕ) → List Token → ProgramTree Text → Option Refusal
refusal_of closed sets tokens t = closed_at (first_of closed tokens) (refusal t sets)

-- PROGRAMS. `closed` has the words of what doesn't run yet: P1 is told at the first of them.
module _ (closed : Class) (text : List ℕ) (sets : List (List ℕ)) where
  -- The text is a program: its tokens spell it in at most 64 levels, and it has no refusal.
  pub record IsProgram (t : ProgramTree Text) : Type 0 where
    pub tokens : List Token
    pub lexes : Lexes text tokens
    pub spells : Spells 64 tokens t
    pub unrefused : refusal_of closed sets tokens t ≡ None

  -- The text has a refusal: that of its bytes, else that of its tokens, else that of the tree that they spell.
  abbrev pub IsRefused : Refusal → Type 0
  IsRefused r =
      LexRefuses text r
      ⊎ ((tokens : List Token) × Lexes text tokens
      × (Refuses tokens r ⊎ ((t : ProgramTree Text) × Spells 64 tokens t × (refusal_of closed sets tokens t ≡ Some r))))

  -- Every text is the one or has the other.
  abbrev pub IsRead : Type 0
  IsRead = ((t : ProgramTree Text) × IsProgram t) ⊎ ((r : Refusal) × IsRefused r)

-- RUNS. How a text ends: it is refused; or its program ran to its end and leaves these variables, or was stopped by a fault.
pub data Ending : Type 0 where
  Refused : Refusal → Ending
  Leaves : Frame → Ending
  Faults : Fault → Ending

abbrev pub ending_of : Outcome State → Option Ending
ending_of (Done s done) = Some (Leaves (own_frame (top_level s.store)))
ending_of (Stop f done) = Some (Faults f)
ending_of (Waits at c op done) = None

-- a program's run, for a budget, a number of locales, and a history for each coforall that is entered
abbrev pub run_of : ProgramTree Text → List (List ℕ) → Limits → List (List Event) → Outcome State
run_of t sets limits histories = meaning t (given t sets) limits histories

-- the run is one that can happen, wrote just this, and ended so
pub record Means (t : ProgramTree Text) (sets : List (List ℕ)) (limits : Limits) (histories : List (List Event)) (ending : Ending) (said : List ℕ) : Type 0 where
  pub happened : Happened (run_of t sets limits histories)
  pub writes : said ≡ written (run_of t sets limits histories)
  pub ends : ending_of (run_of t sets limits histories) ≡ Some ending

module _ (closed : Class) (text : List ℕ) (sets : List (List ℕ)) (limits : Limits) where
  -- By these histories the text comes to this end, and to these bytes.
  abbrev pub ComesTo : List (List Event) → Ending → List ℕ → Type 0
  ComesTo histories ending said =
      ((r : Refusal) × IsRefused closed text sets r × (ending ≡ Refused r) × (said ≡ refusal_text r ++ 10 ∷ []))
      ⊎ ((t : ProgramTree Text) × IsProgram closed text sets t × Means t sets limits histories ending said)

  -- It comes to them, and to no others.
  pub record ComesToOnly (histories : List (List Event)) (ending : Ending) (said : List ℕ) : Type 0 where
    pub comes : ComesTo histories ending said
    pub only : (other : Ending) (says : List ℕ) → ComesTo histories other says → (other ≡ ending) × (says ≡ said)

-- No token of the text names a locale, a task or a cell.
abbrev pub IsDataParallel : List ℕ → Type 0
IsDataParallel text = (tokens : List Token) → Lexes text tokens → first_of task_words tokens ≡ None

-- WHAT IS PROMISED. There are histories by which the text comes to this end and these bytes, and to no others; and where the text is
-- data-parallel, it does so by all histories, and on every number of locales.
pub record Says (closed : Class) (text : List ℕ) (sets : List (List ℕ)) (limits : Limits) (ending : Ending) (said : List ℕ) : Type 0 where
  pub histories : List (List Event)
  pub comes : ComesToOnly closed text sets limits histories ending said
  pub alike : IsDataParallel text → (locales : ℕ) (others : List (List Event))
      → ComesToOnly closed text sets (record limits { locales = locales }) others ending said

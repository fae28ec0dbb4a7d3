-- What a program means, what it writes and what it leaves.
-- A program is given what the command line sets, its limits, and for each coforall that it enters a history.
use Rattle.std.specs.Prelude.{ℕ, pos, ◌==◌, if◌then◌else◌, List, [], ◌∷◌, ◌++◌, map, codes, Option, Some, None}
use Rattle.std.specs.Fmt.{decimal}
use Rattle.dpl_sets.specs.IndexTexts.{index_text}
use Rattle.dpl_syntax.specs.Lines.{place_text}
use Rattle.dpl_history.specs.declared.history.Event.{Event}
use Rattle.dpl_language.specs.Tree.{ProgramTree}
use Rattle.dpl_language.specs.Values.{Value, Turn, InNone, InTurn, InTask, Fault, fault, FaultCode, Outside, ZeroDivisor, PastLimit, EmptyEnd, Budget, NoLocale, CellStuck, ArrayTooLarge}
use Rattle.dpl_language.specs.Outcome.{Deeds, no_deeds, Outcome, Done, Stop, Waits}
use Rattle.dpl_language.specs.Environment.{Content, ArrayOf, Limits}
use Rattle.dpl_language.specs.Statements.{exec_all}
use Rattle.dpl_language.specs.Names.{Text, Entry, Frame, Opened, Declared, Store, State, by_name}

-- an operation that waits outside tasks is F7 at once, at the cell's name
abbrev pub settled : {S : Type 0} → Outcome S → Outcome S
settled (Done s done) = Done s done
settled (Stop f done) = Stop f done
settled (Waits at c op done) = Stop (fault CellStuck at) done

-- a program starts with its own scope opened, on locale 0
abbrev pub first_state : List (Text × Value) → List (List Event) → State
first_state sets histories =
    record { store = Opened ∷ []; roots = Opened ∷ []; intents = []; here = pos 0; sets = sets; replies = None; histories = histories }

abbrev pub meaning : ProgramTree Text → List (Text × Value) → Limits → List (List Event) → Outcome State
meaning t sets limits histories = settled (exec_all limits by_name t.stmts (first_state sets histories) no_deeds)

-- all that was done by the end of a run
abbrev pub deeds_of : {S : Type 0} → Outcome S → Deeds
deeds_of (Done s done) = done
deeds_of (Stop f done) = done
deeds_of (Waits at c op done) = done

abbrev pub fault_code_text : FaultCode → List ℕ
fault_code_text Outside = codes "F1"
fault_code_text ZeroDivisor = codes "F2"
fault_code_text PastLimit = codes "F3"
fault_code_text EmptyEnd = codes "F4"
fault_code_text Budget = codes "F5"
fault_code_text NoLocale = codes "F6"
fault_code_text CellStuck = codes "F7"
fault_code_text ArrayTooLarge = codes "F8"

abbrev pub turn_text : Turn → List ℕ
turn_text InNone = []
turn_text (InTurn t) = codes " in turn " ++ index_text t
turn_text (InTask k) = codes " in task " ++ decimal k

-- `! F2 at 4:13`, with ` in turn 2,1` or ` in task 1` where it arose in one
abbrev pub fault_text : Fault → List ℕ
fault_text f = codes "! " ++ fault_code_text f.code ++ codes " at " ++ place_text f.at ++ turn_text f.turn

-- what ends the line before a fault's: a newline, where the output before it is not empty and doesn't end a line
abbrev pub line_ended : List ℕ → List ℕ
line_ended [] = []
line_ended (c ∷ []) = if c == 10 then [] else 10 ∷ []
line_ended (c ∷ d ∷ cs) = line_ended (d ∷ cs)

-- what a run writes: what it prints, and where it stopped with a fault, the fault's line
abbrev pub written : {S : Type 0} → Outcome S → List ℕ
written (Done s done) = done.text
written (Stop f done) = done.text ++ line_ended done.text ++ fault_text f ++ 10 ∷ []
written (Waits at c op done) = done.text

-- The names that are declared, and what they hold, in order of declaration: at a program's end those of its top level.
abbrev pub top_level : Store → Frame
top_level [] = []
top_level (Opened ∷ es) = top_level es
top_level (Declared e ∷ es) = top_level es ++ e ∷ []

-- What a name holds by itself: of an array its domain and its elements, whichever name it is declared over.
abbrev pub own_content : {N : Type 0} → Content N → Content N
own_content (ArrayOf over k rs vs) = ArrayOf None k rs vs
own_content c = c

abbrev pub own_entry : Entry → Entry
own_entry e = record { name = e.name; content = own_content e.content }

abbrev pub own_frame : Frame → Frame
own_frame f = map {A = Entry} {B = Entry} own_entry f

-- what a run that is done leaves: the top-level names and what they hold
abbrev pub left : Outcome State → Option Frame
left (Done s done) = Some (top_level s.store)
left _ = None

-- What the meaning asks of whatever keeps a program's variables.
-- Kept by their names it is the language's meaning (see `Names`); kept otherwise it is what some machine does.
use Rattle.std.specs.Prelude.{ℕ, ℤ, Bool, Option, List}
use Rattle.dpl_syntax.specs.declared.place.Place.{Place}
use Rattle.dpl_history.specs.declared.cell.CellState.{CellState}
use Rattle.dpl_history.specs.declared.cell.CellOp.{CellOp}
use Rattle.dpl_history.specs.declared.cell.Reply.{Reply}
use Rattle.dpl_history.specs.declared.history.Event.{Event}
use Rattle.dpl_language.specs.Tree.{Op, Assign, Kind}
use Rattle.dpl_sets.specs.TextRanges.{TextRange}
use Rattle.dpl_language.specs.Values.{Value, Index}
use Rattle.dpl_language.specs.Distributions.{Root}
use Rattle.dpl_language.specs.Outcome.{Deeds}

-- What a declaration makes: a value; an array; or a cell. Of an array it says over which bare domain name it is
-- declared, if over one, its kind, its domain, and its elements in domain order: beside the domain the list is the
-- finite map from the domain's indices to the elements, and equal maps are equal lists.
pub data Content (N : Type 0) : Type 0 where
  Plain : Value → Content N
  ArrayOf : Option N → Kind → List TextRange → List Value → Content N
  CellOf : Kind → CellState → Content N

-- what an operation on a cell is answered: the cell's number, the reply and the state after it;
-- or the number alone, where the operation waits
pub data Answer (S : Type 0) : Type 0 where
  Replied : ℕ → Reply → S → Answer S
  Unanswered : ℕ → Answer S

-- a way to keep variables, which an N names, in a state of type S
pub record Environment (N S : Type 0) : Type 0 where
  -- the value of a name; of an array its domain and of a cell its kind alone
  pub get : N → S → Value
  -- the state after a plain variable is assigned; `reduce=` is by the operator of the intent that names it
  pub update : N → Assign → Value → S → S
  -- an element of an array, where its domain has the index; and the state with another element there
  pub element : N → Index → S → Option Value
  pub put_element : N → Index → Value → S → S
  -- the state with one more name in the innermost scope
  pub declare : N → Content N → S → S
  -- the root of a domain or an array; and the state in which a name that was just declared has this one
  pub root : N → S → Root
  pub deal : N → Root → S → S
  -- the value that the command line gives to a `config const`
  pub given : N → S → Option Value
  -- the state with a scope opened, and with it closed again
  pub enter : S → S
  pub leave : S → S
  -- the state in which these are the reduce variables, and their operators, of the forall around
  pub intend : List (N × Op) → S → S
  -- what was done by then, once a forall at this place is entered over this domain: the same, but where a record is kept of it
  pub note : Place → List TextRange → S → Deeds → Deeds
  -- an array that is declared over this bare domain name is in scope; and the state after the name is assigned
  pub has_arrays : N → S → Bool
  pub redomain : N → List TextRange → S → S
  -- the number of the locale `here`; and the state with another one
  pub here : S → ℤ
  pub move : ℤ → S → S
  -- an operation on a cell
  pub call : N → CellOp → S → Answer S
  -- for a coforall with this variable: the cells in scope; and the history that it takes
  pub cells : N → S → List CellState
  pub history : S → List Event
  -- the state in which a task begins that is given these replies; and for a coforall with this variable the state after
  -- the tasks of a history
  pub begin : List Reply → S → S
  pub settle : N → List Event → S → S

-- how many turns each entry of a loop may have, and how many locales there are
pub record Limits : Type 0 where
  pub budget : ℕ
  pub locales : ℕ

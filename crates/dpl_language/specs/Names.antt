-- Variables kept by their names: the language's own environment.
-- A store is one list: what was declared, the latest first, with a mark where each scope was opened.
use Rattle.std.specs.Prelude.{ℕ, ℤ, pos, Bool, false, ◌||◌, bytes_eq, if◌then◌else◌, List, [], ◌∷◌, ◌++◌, map, length, Option, Some, None, drop, get_or, unwrap_or}
use Rattle.dpl_history.specs.declared.cell.CellState.{CellState}
use Rattle.dpl_history.specs.declared.cell.CellState.TheVariants.{Empty}
use Rattle.dpl_history.specs.declared.cell.CellOp.{CellOp}
use Rattle.dpl_history.specs.declared.cell.Reply.{Reply}
use Rattle.dpl_history.specs.declared.history.Event.{Event}
use Rattle.dpl_history.specs.Cells.{effect}
use Rattle.dpl_history.specs.Histories.{after}
use Rattle.dpl_language.specs.Tree.{Op, Kind, Assign}
use Rattle.dpl_sets.specs.TextRanges.{TextRange}
use Rattle.dpl_language.specs.Values.{Value, Int, Array, Cell, Domain, Index, default}
use Rattle.dpl_language.specs.Distributions.{Root, no_root}
use Rattle.dpl_language.specs.Arithmetic.{assigned}
use Rattle.dpl_language.specs.Outcome.{with_loop}
use Rattle.dpl_language.specs.Ranges.{indices_in, same_index}
use Rattle.dpl_language.specs.Environment.{Content, Plain, ArrayOf, CellOf, Answer, Replied, Unanswered, Environment}

-- a name, as it is spelled
abbrev pub Text : Type 0
Text = List ℕ

-- a name, and what is kept of it
pub record Entered (A : Type 0) : Type 0 where
  pub name : Text
  pub content : A

-- what a name holds
abbrev pub Entry : Type 0
Entry = Entered (Content Text)

-- names in order of declaration
abbrev pub Frame : Type 0
Frame = List Entry

-- what a list of scopes has: that a scope was opened, and that a name was declared
pub data Stored (A : Type 0) : Type 0 where
  Opened : Stored A
  Declared : Entered A → Stored A

abbrev pub Scoped : Type 0 → Type 0
Scoped A = List (Stored A)

abbrev pub Store : Type 0
Store = Scoped (Content Text)

-- The store; the roots of names; the reduce variables of the forall around, with their operators; the number of `here`;
-- what the command line gives to names; where a task is run, the replies that are left for it; and the histories of the
-- coforalls that are still to be entered.
pub record State : Type 0 where
  pub store : Store
  pub roots : Scoped Root
  pub intents : List (Text × Op)
  pub here : ℤ
  pub sets : List (Text × Value)
  pub replies : Option (List Reply)
  pub histories : List (List Event)

-- what a list of pairs has for a name; the first counts
abbrev pub paired : {A : Type 0} → Text → List (Text × A) → Option A
paired x [] = None
paired x (p ∷ ps) = if bytes_eq x p.0 then Some p.1 else paired x ps

-- what is kept of a name's innermost declaration; and what it holds, of which a name that is not declared has 0
abbrev pub innermost : {A : Type 0} → A → Text → Scoped A → A
innermost none x [] = none
innermost none x (Opened ∷ es) = innermost none x es
innermost none x (Declared e ∷ es) = if bytes_eq x e.name then e.content else innermost none x es

abbrev pub look_up : Text → Store → Content Text
look_up x es = innermost (Plain (Int (pos 0))) x es

-- the list with what is kept of a name's innermost declaration changed
abbrev pub change_in : {A : Type 0} → Text → (A → A) → Scoped A → Scoped A
change_in x change [] = []
change_in x change (Opened ∷ es) = Opened ∷ change_in x change es
change_in x change (Declared e ∷ es) =
    if bytes_eq x e.name then Declared (record e { content = change e.content }) ∷ es
    else Declared e ∷ change_in x change es

-- the list with one more name
abbrev pub with_name : {A : Type 0} → Text → A → Scoped A → Scoped A
with_name x c es = Declared (record { name = x; content = c }) ∷ es

-- the list without all that was declared since the innermost scope was opened
abbrev pub without_innermost : {A : Type 0} → Scoped A → Scoped A
without_innermost [] = []
without_innermost (Opened ∷ es) = es
without_innermost (Declared e ∷ es) = without_innermost es

-- the value of what a name holds
abbrev pub value_in : Content Text → Value
value_in (Plain v) = v
value_in (ArrayOf over k rs vs) = Array k rs
value_in (CellOf k c) = Cell k

-- a variable assigned; `reduce=` is by the operator of the intent that names it
abbrev pub update_in : Assign → Option Op → Value → Content Text → Content Text
update_in op intent w (Plain v) = Plain (assigned op intent v w)
update_in op intent w c = c

-- ARRAYS. The elements are the list of an array's values in the order of its indices; here the list is read as the
-- finite map that it is: what it holds at an index, where the index is one of the domain's.
abbrev pub element_at : Index → List Index → List Value → Option Value
element_at t (i ∷ is) (v ∷ vs) = if same_index t i then Some v else element_at t is vs
element_at t _ _ = None

-- the map with another value at one index
abbrev pub with_element : Index → Value → List Index → List Value → List Value
with_element t w (i ∷ is) (v ∷ vs) = if same_index t i then w ∷ vs else v ∷ with_element t w is vs
with_element t w _ vs = vs

abbrev pub element_in : Index → Content Text → Option Value
element_in t (ArrayOf over k rs vs) = element_at t (indices_in rs) vs
element_in t _ = None

abbrev pub put_in : Index → Value → Content Text → Content Text
put_in t w (ArrayOf over k rs vs) = ArrayOf over k rs (with_element t w (indices_in rs) vs)
put_in t w c = c

-- DOMAIN VARIABLES. When a domain is assigned, each array declared over its bare name keeps the elements whose indices
-- are in both domains, and new ones hold the default.
abbrev pub redomained : Kind → List TextRange → List Value → List TextRange → List Value
redomained k old vs new = map (λ t. unwrap_or (element_at t (indices_in old) vs) (default k)) (indices_in new)

-- it is declared over this name
abbrev pub is_over : Text → Option Text → Bool
is_over x None = false
is_over x (Some y) = bytes_eq x y

abbrev pub redomain_content : Text → List TextRange → Content Text → Content Text
redomain_content x new (ArrayOf over k rs vs) =
    if is_over x over then ArrayOf over k new (redomained k rs vs new) else ArrayOf over k rs vs
redomain_content x new c = c

-- What was declared since a domain, in its scope or in one inside it, and is over its name, is over this domain; what was
-- declared before it is over an outer domain of the same name, and stays.
abbrev pub redomain_in : Text → List TextRange → Store → Store
redomain_in x new [] = []
redomain_in x new (Opened ∷ es) = Opened ∷ redomain_in x new es
redomain_in x new (Declared e ∷ es) =
    if bytes_eq x e.name then Declared (record e { content = Plain (Domain new) }) ∷ es
    else Declared (record e { content = redomain_content x new e.content }) ∷ redomain_in x new es

abbrev pub is_array_over : Text → Content Text → Bool
is_array_over x (ArrayOf over k rs vs) = is_over x over
is_array_over x _ = false

-- whether an array in scope is declared over the domain, found by the same rule
abbrev pub arrays_over : Text → Store → Bool
arrays_over x [] = false
arrays_over x (Opened ∷ es) = arrays_over x es
arrays_over x (Declared e ∷ es) = if bytes_eq x e.name then false else is_array_over x e.content || arrays_over x es

-- CELLS. They are numbered from the first declared on, hidden ones too.
abbrev pub cell_in : Content Text → List CellState
cell_in (CellOf k c) = c ∷ []
cell_in _ = []

abbrev pub store_cells : Store → List CellState
store_cells [] = []
store_cells (Opened ∷ es) = store_cells es
store_cells (Declared e ∷ es) = store_cells es ++ cell_in e.content

-- the number of a cell's name: how many are declared before it
abbrev pub cell_number : Text → Store → ℕ
cell_number x [] = 0
cell_number x (Opened ∷ es) = cell_number x es
cell_number x (Declared e ∷ es) = if bytes_eq x e.name then length (store_cells es) else cell_number x es

-- what a name holds, a cell's state being the first of these
abbrev pub set_cell : List CellState → Content Text → Content Text
set_cell cs (CellOf k c) = CellOf k (get_or cs 0 c)
set_cell cs c = c

-- the store with these states of its cells in place of the old ones
abbrev pub with_cells : List CellState → Store → Store
with_cells cs [] = []
with_cells cs (Opened ∷ es) = Opened ∷ with_cells cs es
with_cells cs (Declared e ∷ es) =
    Declared (record e { content = set_cell (drop (length (store_cells es)) cs) e.content }) ∷ with_cells cs es

-- a cell's state; what is no cell counts as an empty one
abbrev pub state_in : Content Text → CellState
state_in (CellOf k c) = c
state_in _ = Empty

-- outside tasks an operation takes effect on the cell, or waits
abbrev pub effect_on : Text → State → Option (CellState × Reply) → Answer State
effect_on x s None = Unanswered (cell_number x s.store)
effect_on x s (Some a) =
    Replied (cell_number x s.store) a.1 (record s { store = change_in x (set_cell (a.0 ∷ [])) s.store })

-- in a task it gets the next reply, or waits where none is left
abbrev pub call_in : Text → CellOp → State → Option (List Reply) → Answer State
call_in x op s None = effect_on x s (effect op (state_in (look_up x s.store)))
call_in x op s (Some []) = Unanswered (cell_number x s.store)
call_in x op s (Some (r ∷ rs)) = Replied (cell_number x s.store) r (record s { replies = Some rs })

-- The language's own environment. A coforall takes the next history; where none is left, the empty one.
abbrev pub by_name : Environment Text State
by_name = record {
  get = λ x s. value_in (look_up x s.store);
  update = λ x op v s. record s { store = change_in x (update_in op (paired x s.intents) v) s.store };
  element = λ x t s. element_in t (look_up x s.store);
  put_element = λ x t v s. record s { store = change_in x (put_in t v) s.store };
  declare = λ x c s. record s { store = with_name x c s.store; roots = with_name x no_root s.roots };
  root = λ x s. innermost no_root x s.roots;
  deal = λ x r s. record s { roots = change_in x (λ old. r) s.roots };
  given = λ x s. paired x s.sets;
  enter = λ s. record s { store = Opened ∷ s.store; roots = Opened ∷ s.roots };
  leave = λ s. record s { store = without_innermost s.store; roots = without_innermost s.roots };
  intend = λ is s. record s { intents = is };
  note = λ at rs s done. done;
  has_arrays = λ x s. arrays_over x s.store;
  redomain = λ x rs s. record s { store = redomain_in x rs s.store };
  here = λ s. s.here;
  move = λ k s. record s { here = k };
  call = λ x op s. call_in x op s s.replies;
  cells = λ x s. store_cells s.store;
  history = λ s. get_or s.histories 0 [];
  begin = λ rs s. record s { replies = Some rs };
  settle = λ x h s.
      record s { store = with_cells (after (store_cells s.store) h) s.store; histories = drop 1 s.histories };
}

-- the same, where a record is kept of the foralls that are entered
abbrev pub recording : Environment Text State
recording = record by_name {
  note = λ at rs s done.
      with_loop (record { at = at; over = rs; value = λ x. by_name.get x s; root = λ x. by_name.root x s }) done;
}

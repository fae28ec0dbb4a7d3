-- Variables kept by slots: plain ones in words and ranges, and beside these lists of domains, of tuples and of arrays.
-- And cells, the locale that a run is at, and what is to come to it: replies, where a task is run, and histories of coforalls.
use Rattle.std.specs.Prelude.{ℕ, ◌+◌, ◌==◌, ℤ, pos, Bool, true, false, if◌then◌else◌, Option, Some, None, List, [], ◌∷◌, get_or, set, map, drop, length, option_map, unwrap_or}
use Rattle.std.specs.List.{list_any}
use Rattle.dpl_sets.specs.TextRanges.{TextRange}
use Rattle.dpl_history.specs.declared.cell.CellState.{CellState}
use Rattle.dpl_history.specs.declared.cell.CellState.TheVariants.{Empty}
use Rattle.dpl_history.specs.declared.cell.CellOp.{CellOp}
use Rattle.dpl_history.specs.declared.cell.Reply.{Reply}
use Rattle.dpl_history.specs.declared.history.Event.{Event}
use Rattle.dpl_history.specs.Cells.{effect}
use Rattle.dpl_history.specs.Histories.{after}
use Rattle.dpl_language.specs.Tree.{Op, Kind, IntKind, BoolKind}
use Rattle.dpl_language.specs.Values.{Value, Int, Domain, Array, Tuple, Cell, Index, ranges_in, coordinates, kept_number}
use Rattle.dpl_language.specs.Distributions.{Root, no_root}
use Rattle.dpl_language.specs.Arithmetic.{assigned}
use Rattle.dpl_language.specs.Ranges.{indices_in, same_index, empty_domain}
use Rattle.dpl_language.specs.Environment.{Content, Plain, ArrayOf, CellOf, Answer, Replied, Unanswered, Environment}
use Rattle.dpl_lowered.specs.Known.{Known, WholeArray, NoArray, PlainValue}
use Rattle.dpl_words.specs.Words.{LeafKind, IntLeaf, TruthLeaf, RangeLeaf, Words, is_true, no_range, intent_at, set_at, given_as, value_at, with_value_at}

-- THE KINDS OF VARIABLES: those of plain variables, and domains, tuple names of loops, and arrays and cells of ints and of truth values
pub data VariableKind : Type 0 where
  PlainKind : LeafKind → VariableKind
  DomainKind : VariableKind
  TupleKind : VariableKind
  ArrayKind : Kind → VariableKind
  CellKind : Kind → VariableKind

-- What stands for a name in a checked tree: its kind, and the slot of its declaration; and along with it other slots. Where a
-- domain is assigned these are those of the arrays in sight that are declared over its bare name; where a plain variable is
-- declared, those that begin anew with it, as a turn's do with the variable of its forall. And slots of cells, from the first
-- declared on: where a cell is used, of those before it, whose count is its number; and of all in sight, with the variable of a
-- coforall. Elsewhere there are none.
pub record Variable : Type 0 where
  pub kind : VariableKind
  pub slot : ℕ
  pub along : List ℕ
  pub cells : List ℕ

-- a name with no other slots along
abbrev pub variable : VariableKind → ℕ → Variable
variable kind slot = record { kind = kind; slot = slot; along = []; cells = [] }

-- a plain variable, as a leaf of a tree
abbrev pub int_leaf : ℕ → Variable
int_leaf slot = variable (PlainKind IntLeaf) slot

abbrev pub truth_leaf : ℕ → Variable
truth_leaf slot = variable (PlainKind TruthLeaf) slot

abbrev pub range_leaf : ℕ → Variable
range_leaf slot = variable (PlainKind RangeLeaf) slot

-- what a lowering knows of it
abbrev pub known_kind : VariableKind → Known
known_kind (PlainKind k) = PlainValue
known_kind DomainKind = NoArray
known_kind TupleKind = PlainValue
known_kind (ArrayKind k) = WholeArray
known_kind (CellKind k) = PlainValue

abbrev pub known_variable : Variable → Known
known_variable x = known_kind x.kind

-- an array: its domain; and the indices whose elements it has, with a word for each of them. A piece of an array has some of
-- its domain's.
pub record Held : Type 0 where
  pub ranges : List TextRange
  pub keys : List Index
  pub words : List ℤ

-- a whole array has all of them, in domain order
abbrev pub whole_held : List TextRange → List ℤ → Held
whole_held rs ws = record { ranges = rs; keys = indices_in rs; words = ws }

-- the value that an element's word is
abbrev pub element_as : Kind → ℤ → Value
element_as IntKind w = Int w
element_as BoolKind w = is_true w

-- What is to come to a run: where a task is run, the replies that are left for it; and the histories of the coforalls that are
-- still to be entered.
pub record Coming : Type 0 where
  pub replies : Option (List Reply)
  pub histories : List (List Event)

-- A MEMORY: the words and ranges of plain variables, with the reduce variables of the forall around and what the command
-- line sets; by the same slots domains, tuples and arrays, the roots of domains and arrays, and cells; and the number of
-- `here`, and what is to come
pub record Memory : Type 0 where
  pub words : Words
  pub domains : List (List TextRange)
  pub tuples : List Index
  pub arrays : List Held
  pub roots : List Root
  pub cells : List CellState
  pub here : ℤ
  pub coming : Coming

-- what of a memory is no variable's
pub record Rest : Type 0 where
  pub roots : List Root
  pub cells : List CellState
  pub here : ℤ
  pub coming : Coming

abbrev pub rest_of : Memory → Rest
rest_of s = record { roots = s.roots; cells = s.cells; here = s.here; coming = s.coming }

-- what stands in a slot past the last one, and at the start: the domain `{1..0}`, the index 0, and an array over that domain
abbrev pub no_domain : List TextRange
no_domain = empty_domain 1

abbrev pub no_tuple : Index
no_tuple = pos 0 ∷ []

abbrev pub no_array : Held
no_array = record { ranges = no_domain; keys = []; words = [] }

abbrev pub array_at : ℕ → Memory → Held
array_at slot s = get_or s.arrays slot no_array

-- a slot past the last cell has an empty one
abbrev pub cell_at : ℕ → Memory → CellState
cell_at slot s = get_or s.cells slot Empty

abbrev pub with_cell : ℕ → CellState → Memory → Memory
with_cell slot c s = record s { cells = set s.cells slot c }

-- the value of a variable; of an array its kind and its domain alone
abbrev pub value_in : VariableKind → ℕ → Memory → Value
value_in (PlainKind k) slot s = value_at k slot s.words
value_in DomainKind slot s = Domain (get_or s.domains slot no_domain)
value_in TupleKind slot s = Tuple (get_or s.tuples slot no_tuple)
value_in (ArrayKind k) slot s = Array k (array_at slot s).ranges
value_in (CellKind k) slot s = Cell k

-- a value put into a slot, past the last of which nothing changes; a whole array is no value that is put
abbrev pub with_value_in : VariableKind → ℕ → Value → Memory → Memory
with_value_in (PlainKind k) slot v s = record s { words = with_value_at k slot v s.words }
with_value_in DomainKind slot v s = record s { domains = set s.domains slot (ranges_in v) }
with_value_in TupleKind slot v s = record s { tuples = set s.tuples slot (coordinates v) }
with_value_in (ArrayKind k) slot v s = s
with_value_in (CellKind k) slot v s = s

abbrev pub with_array : ℕ → Held → Memory → Memory
with_array slot a s = record s { arrays = set s.arrays slot a }

-- ELEMENTS, by the index: an array's words are read as the finite map that they are
abbrev pub word_at : Index → List Index → List ℤ → Option ℤ
word_at t [] ws = None
word_at t (i ∷ is) [] = None
word_at t (i ∷ is) (w ∷ ws) = if same_index t i then Some w else word_at t is ws

abbrev pub with_word : Index → ℤ → List Index → List ℤ → List ℤ
with_word t w [] ws = ws
with_word t w (i ∷ is) [] = []
with_word t w (i ∷ is) (u ∷ ws) = if same_index t i then w ∷ ws else u ∷ with_word t w is ws

abbrev pub held_at : Index → Held → Option ℤ
held_at t a = word_at t a.keys a.words

abbrev pub held_with : Index → ℤ → Held → Held
held_with t w a = record a { words = with_word t w a.keys a.words }

abbrev pub element_in : VariableKind → ℕ → Index → Memory → Option Value
element_in (PlainKind k) slot t s = None
element_in DomainKind slot t s = None
element_in TupleKind slot t s = None
element_in (ArrayKind k) slot t s = option_map (element_as k) (held_at t (array_at slot s))
element_in (CellKind k) slot t s = None

abbrev pub with_element_in : VariableKind → ℕ → Index → Value → Memory → Memory
with_element_in (PlainKind k) slot t v s = s
with_element_in DomainKind slot t v s = s
with_element_in TupleKind slot t v s = s
with_element_in (ArrayKind k) slot t v s = with_array slot (held_with t (kept_number v) (array_at slot s)) s
with_element_in (CellKind k) slot t v s = s

-- DECLARATIONS
abbrev pub declared_array : VariableKind → ℕ → Held → Memory → Memory
declared_array (PlainKind k) slot a s = s
declared_array DomainKind slot a s = s
declared_array TupleKind slot a s = s
declared_array (ArrayKind k) slot a s = with_array slot a s
declared_array (CellKind k) slot a s = s

-- a slot that begins anew: its word is 0, its range `1..0` and its tuple the index 0
abbrev pub renewed : ℕ → Memory → Memory
renewed slot s =
    record s {
      words = record s.words { numbers = set s.words.numbers slot (pos 0); ranges = set s.words.ranges slot no_range };
      tuples = set s.tuples slot no_tuple;
    }

abbrev pub anew : List ℕ → Memory → Memory
anew [] s = s
anew (slot ∷ slots) s = renewed slot (anew slots s)

-- ROOTS of domains and arrays: that of a slot; and the memory in which one has no root, and in which it has this one
abbrev pub root_in : VariableKind → ℕ → List Root → Root
root_in (PlainKind k) slot roots = no_root
root_in DomainKind slot roots = get_or roots slot no_root
root_in TupleKind slot roots = no_root
root_in (ArrayKind k) slot roots = get_or roots slot no_root
root_in (CellKind k) slot roots = no_root

abbrev pub with_root : ℕ → Root → Memory → Memory
with_root slot r s = record s { roots = set s.roots slot r }

abbrev pub undealt : VariableKind → ℕ → Memory → Memory
undealt (PlainKind k) slot s = s
undealt DomainKind slot s = with_root slot no_root s
undealt TupleKind slot s = s
undealt (ArrayKind k) slot s = with_root slot no_root s
undealt (CellKind k) slot s = s

abbrev pub declared : Variable → Content Variable → Memory → Memory
declared x (Plain v) s = undealt x.kind x.slot (with_value_in x.kind x.slot v (anew x.along s))
declared x (ArrayOf over k rs vs) s = undealt x.kind x.slot (declared_array x.kind x.slot (whole_held rs (map kept_number vs)) s)
declared x (CellOf k c) s = with_cell x.slot c s

-- the value that the command line gives: to plain variables alone
abbrev pub given_in : VariableKind → ℕ → Memory → Option Value
given_in (PlainKind k) slot s = option_map (given_as k) (set_at slot s.words.sets)
given_in DomainKind slot s = None
given_in TupleKind slot s = None
given_in (ArrayKind k) slot s = None
given_in (CellKind k) slot s = None

-- DOMAIN VARIABLES: the arrays in these slots get the domain, and keep the elements whose indices are in both
abbrev pub is_among : ℕ → List ℕ → Bool
is_among slot slots = list_any (λ (j : ℕ). slot == j) slots

abbrev pub held_over : List TextRange → Held → Held
held_over rs a = whole_held rs (map (λ t. unwrap_or (held_at t a) (pos 0)) (indices_in rs))

abbrev pub held_over_if : Bool → List TextRange → Held → Held
held_over_if true rs a = held_over rs a
held_over_if false rs a = a

-- of the arrays from a slot on
abbrev pub redomained_from : ℕ → List ℕ → List TextRange → List Held → List Held
redomained_from first slots rs [] = []
redomained_from first slots rs (a ∷ more) =
    held_over_if (is_among first slots) rs a ∷ redomained_from (first + 1) slots rs more

abbrev pub redomained_in : Variable → List TextRange → Memory → Memory
redomained_in x rs s =
    record (with_value_in x.kind x.slot (Domain rs) s) { arrays = redomained_from 0 x.along rs s.arrays }

abbrev pub is_some_array : List ℕ → Bool
is_some_array [] = false
is_some_array (slot ∷ slots) = true

abbrev pub intended : List (ℕ × Op) → Memory → Memory
intended is s = record s { words = record s.words { intents = is } }

-- reduce variables by their slots
abbrev pub intents_by_slot : List (Variable × Op) → List (ℕ × Op)
intents_by_slot is = map {A = Variable × Op} {B = ℕ × Op} (λ p. (p.0.slot, p.1)) is

-- CELLS. Outside tasks an operation takes effect on the cell in a slot, or waits; the answer tells the cell's number.
abbrev pub effect_in : ℕ → ℕ → Memory → Option (CellState × Reply) → Answer Memory
effect_in number slot s None = Unanswered number
effect_in number slot s (Some a) = Replied number a.1 (with_cell slot a.0 s)

abbrev pub with_replies : List Reply → Memory → Memory
with_replies rs s = record s { coming = record s.coming { replies = Some rs } }

-- in a task it gets the next reply, or waits where none is left
abbrev pub called_by : ℕ → ℕ → CellOp → Memory → Option (List Reply) → Answer Memory
called_by number slot op s None = effect_in number slot s (effect op (cell_at slot s))
called_by number slot op s (Some []) = Unanswered number
called_by number slot op s (Some (r ∷ rs)) = Replied number r (with_replies rs s)

-- the cells in some slots, in their order; and a list of cells with others in these slots
abbrev pub cells_at : List ℕ → Memory → List CellState
cells_at slots s = map (λ slot. cell_at slot s) slots

abbrev pub with_cells : List ℕ → List CellState → List CellState → List CellState
with_cells (slot ∷ slots) (c ∷ cs) cells = with_cells slots cs (set cells slot c)
with_cells _ _ cells = cells

-- the tasks of a history have run over the cells in some slots, and it is no more to come
abbrev pub settled_in : List ℕ → List Event → Memory → Memory
settled_in slots h s =
    record s {
      cells = with_cells slots (after (cells_at slots s) h) s.cells;
      coming = record s.coming { histories = drop 1 s.coming.histories };
    }

abbrev pub in_memory : Environment Variable Memory
in_memory = record {
  get = λ x s. value_in x.kind x.slot s;
  update = λ x op v s.
      with_value_in x.kind x.slot (assigned op (intent_at x.slot s.words.intents) (value_in x.kind x.slot s) v) s;
  element = λ x t s. element_in x.kind x.slot t s;
  put_element = λ x t v s. with_element_in x.kind x.slot t v s;
  declare = declared;
  root = λ x s. root_in x.kind x.slot s.roots;
  deal = λ x r s. with_root x.slot r s;
  given = λ x s. given_in x.kind x.slot s;
  enter = λ s. s;
  leave = λ s. s;
  intend = λ is s. intended (intents_by_slot is) s;
  note = λ at rs s done. done;
  has_arrays = λ x s. is_some_array x.along;
  redomain = redomained_in;
  here = λ s. s.here;
  move = λ k s. record s { here = k };
  call = λ x op s. called_by (length x.cells) x.slot op s s.coming.replies;
  cells = λ x s. cells_at x.cells s;
  history = λ s. get_or s.coming.histories 0 [];
  begin = with_replies;
  settle = λ x h s. settled_in x.cells h s;
}

-- Programs whose names are resolved: each stands with its text, and with the kind and the slot of its declaration.
-- Where such a name may stand, and when a memory is the store by names.
use Rattle.std.specs.Prelude.{◌≡◌, ◌≢◌, ℕ, ◌==◌, ◌<◌, ℤ, pos, Bool, true, false, not, All, bytes_eq, if◌then◌else◌, Option, Some, None, Ok, List, [], ◌∷◌, ◌++◌, map, option_map, unwrap_or, length, replicate}
use Rattle.std.specs.Option.{option_or}
use Rattle.dpl_syntax.specs.declared.place.Place.{Place}
use Rattle.dpl_sets.specs.TextRanges.{TextRange}
use Rattle.dpl_history.specs.declared.cell.CellState.TheVariants.{Empty}
use Rattle.dpl_history.specs.declared.history.Event.{Event}
use Rattle.dpl_language.specs.Tree.{Op, Assign, Set, SetAdd, SetSubtract, SetMultiply, SetDivide, SetRemainder, SetReduce, ItemTree, Items, Kind, IntKind, BoolKind}
use Rattle.dpl_language.specs.Values.{Value, Int, Truth, Domain, Tuple, Index, ranges_in, coordinates}
use Rattle.dpl_language.specs.Distributions.{no_root}
use Rattle.dpl_language.specs.Ranges.{indices_in, loop_ranges, loop_value}
use Rattle.dpl_language.specs.Outcome.{Outcome, Done, Stop, Waits}
use Rattle.dpl_language.specs.Environment.{Content, Plain, ArrayOf, CellOf, Limits}
use Rattle.dpl_language.specs.Phrases.{ReadTree, item_read}
use Rattle.dpl_language.specs.Expressions.{item_of, domain_of, whole_item}
use Rattle.dpl_language.specs.Names.{Text, Entry, Frame, Opened, Declared, Store, State, paired}
use Rattle.dpl_language.specs.Program.{own_entry}
use Rattle.dpl_agreement.specs.Renamed.{renamed_item, renamed_items, renamed_intents}
use Rattle.dpl_agreement.specs.Scopes.{Form, PlainForm, ArrayForm, CellForm, Scoping}
use Rattle.dpl_sound.specs.Typed.{MayStride, AreRanked}
use Rattle.dpl_words.specs.Words.{IntLeaf, TruthLeaf, RangeLeaf, LocaleLeaf, no_range, intent_at, set_at, given_as, IsOfKind, is_arithmetic, takes, Combines}
use Rattle.dpl_memory.specs.Memory.{VariableKind, PlainKind, DomainKind, TupleKind, ArrayKind, CellKind, Variable, Held, Memory, no_domain, no_tuple, no_array, cell_at, element_as, value_in, array_at, intents_by_slot, in_memory}

-- What the type of a name tells of its values: how many dimensions a domain has, and how many coordinates a tuple; and whether
-- a range, or a range of a domain, may be one that the text strides. Of numbers and truth values nothing is told.
pub record Shape : Type 0 where
  pub rank : ℕ
  pub strided : Bool

abbrev pub no_shape : Shape
no_shape = record { rank = 0; strided = false }

-- a name that is resolved: its text, the variable that it stands for, and the shape of its values
pub record Bound : Type 0 where
  pub text : Text
  pub variable : Variable
  pub shape : Shape

abbrev pub text_of : Bound → Text
text_of b = b.text

abbrev pub variable_of : Bound → Variable
variable_of b = b.variable

-- WHAT IS IN SIGHT: frames, the innermost scope's first, each in order of declaration. Of a name they have its text, its kind
-- and its slot and the shape of its values, and of an array the domain that it is declared over by its bare name, if it is over one.
pub record Sighted : Type 0 where
  pub text : Text
  pub kind : VariableKind
  pub slot : ℕ
  pub shape : Shape
  pub over : Option Bound

abbrev pub Sight : Type 0
Sight = List (List Sighted)

-- what a name is: its kind, its slot and its shape
abbrev pub Known : Type 0
Known = VariableKind × ℕ × Shape

-- by its latest declaration in a frame
abbrev pub known_in : Text → List Sighted → Option Known
known_in x [] = None
known_in x (b ∷ bs) = option_or (known_in x bs) (if bytes_eq x b.text then Some (b.kind, b.slot, b.shape) else None)

-- by the name's innermost declaration
abbrev pub innermost : Text → Sight → Option Known
innermost x [] = None
innermost x (f ∷ fs) = option_or (known_in x f) (innermost x fs)

-- no name in sight has the slot
abbrev pub IsUnusedIn : ℕ → List Sighted → Type 0
IsUnusedIn slot [] = Unit {0}
IsUnusedIn slot (b ∷ bs) = (slot ≢ b.slot) × IsUnusedIn slot bs

abbrev pub IsUnused : ℕ → Sight → Type 0
IsUnused slot [] = Unit {0}
IsUnused slot (f ∷ fs) = IsUnusedIn slot f × IsUnused slot fs

abbrev pub AreUnused : List ℕ → Sight → Type 0
AreUnused [] fs = Unit {0}
AreUnused (slot ∷ slots) fs = IsUnused slot fs × AreUnused slots fs

-- one more name at the end of the innermost frame; and the frames behind a scope
abbrev pub bind : Sighted → Sight → Sight
bind x [] = (x ∷ []) ∷ []
bind x (f ∷ fs) = (f ++ x ∷ []) ∷ fs

abbrev pub without_frame : Sight → Sight
without_frame [] = []
without_frame (f ∷ fs) = fs

-- a bare name between an array's brackets, which may be that of a range or of a domain, and which is one that is a domain's
abbrev pub written_over : Form Bound → Option Bound
written_over PlainForm = None
written_over (ArrayForm over) = over
written_over CellForm = None

abbrev pub if_domain : VariableKind → Bound → Option Bound
if_domain (PlainKind k) y = None
if_domain DomainKind y = Some y
if_domain TupleKind y = None
if_domain (ArrayKind k) y = None
if_domain (CellKind k) y = None

abbrev pub domain_among : Option Bound → Option Bound
domain_among None = None
domain_among (Some y) = if_domain y.variable.kind y

-- what is in sight of a declared name
abbrev pub over_of : Form Bound → Option Bound
over_of form = domain_among (written_over form)

abbrev pub sighted : Bound → Form Bound → Sighted
sighted x form = record { text = x.text; kind = x.variable.kind; slot = x.variable.slot; shape = x.shape; over = over_of form }

-- the slots of the arrays in sight that are declared over the domain name with this slot
abbrev pub is_over : ℕ → Option Bound → Bool
is_over slot None = false
is_over slot (Some y) = slot == y.variable.slot

abbrev pub arrays_in : ℕ → List Sighted → List ℕ
arrays_in slot [] = []
arrays_in slot (b ∷ bs) = if is_over slot b.over then b.slot ∷ arrays_in slot bs else arrays_in slot bs

abbrev pub arrays_over : ℕ → Sight → List ℕ
arrays_over slot [] = []
arrays_over slot (f ∷ fs) = arrays_in slot f ++ arrays_over slot fs

-- the slots of the cells in sight, from the first declared on; and of those before a slot
abbrev pub slot_if_cell : VariableKind → ℕ → List ℕ
slot_if_cell (PlainKind k) slot = []
slot_if_cell DomainKind slot = []
slot_if_cell TupleKind slot = []
slot_if_cell (ArrayKind k) slot = []
slot_if_cell (CellKind k) slot = slot ∷ []

abbrev pub cells_of : List Sighted → List ℕ
cells_of [] = []
cells_of (b ∷ bs) = slot_if_cell b.kind b.slot ++ cells_of bs

abbrev pub cells_in : Sight → List ℕ
cells_in [] = []
cells_in (f ∷ fs) = cells_in fs ++ cells_of f

abbrev pub before : ℕ → List ℕ → List ℕ
before slot [] = []
before slot (j ∷ js) = if slot == j then [] else j ∷ before slot js

-- the names in sight, and the reduce variables of the forall around
pub record Seen : Type 0 where
  pub frames : Sight
  pub intents : List (Bound × Op)

-- where a program starts
abbrev pub first_seen : Seen
first_seen = record { frames = [] ∷ []; intents = [] }

-- KINDS: a value of a kind; of an array's one that an element may be
abbrev pub IsElement : Kind → Value → Type 0
IsElement IntKind v = (n : ℤ) × (v ≡ Int n)
IsElement BoolKind v = (b : Bool) × (v ≡ Truth b)

abbrev pub IsOf : VariableKind → Value → Type 0
IsOf (PlainKind k) v = IsOfKind k v
IsOf DomainKind v = (rs : List TextRange) × (v ≡ Domain rs)
IsOf TupleKind v = (t : Index) × (v ≡ Tuple t)
IsOf (ArrayKind k) v = IsElement k v
IsOf (CellKind k) v = ⊥

-- A value of a shape: as many ranges as the rank, which the text strides only where it may; and as many coordinates. Of an
-- array it is the shape of its domain.
abbrev pub HasShape : VariableKind → Shape → Value → Type 0
HasShape (PlainKind IntLeaf) shape v = Unit {0}
HasShape (PlainKind TruthLeaf) shape v = Unit {0}
HasShape (PlainKind RangeLeaf) shape v = MayStride shape.strided (ranges_in v)
HasShape (PlainKind LocaleLeaf) shape v = Unit {0}
HasShape DomainKind shape v = AreRanked shape.rank shape.strided (ranges_in v)
HasShape TupleKind shape v = length (coordinates v) ≡ shape.rank
HasShape (ArrayKind k) shape v = AreRanked shape.rank shape.strided (ranges_in v)
HasShape (CellKind k) shape v = Unit {0}

-- what is no plain value: a whole array, which is given its elements one by one
abbrev pub IsWhole : VariableKind → Type 0
IsWhole (PlainKind k) = ⊥
IsWhole DomainKind = ⊥
IsWhole TupleKind = ⊥
IsWhole (ArrayKind k) = Unit {0}
IsWhole (CellKind k) = ⊥

-- what a variable may be given: a value of its kind and its shape, and an element of an array what its kind says alone
abbrev pub MayHold : VariableKind → Shape → Value → Type 0
MayHold kind shape v = IsOf kind v × ((IsWhole kind → ⊥) → HasShape kind shape v)

-- an array of a kind over some ranges is one that a variable may be
abbrev pub MaySpan : VariableKind → Shape → Kind → List TextRange → Type 0
MaySpan (PlainKind l) shape k rs = ⊥
MaySpan DomainKind shape k rs = ⊥
MaySpan TupleKind shape k rs = ⊥
MaySpan (ArrayKind l) shape k rs = (k ≡ l) × AreRanked shape.rank shape.strided rs
MaySpan (CellKind l) shape k rs = ⊥

-- a cell of a kind is one that a variable may be
abbrev pub IsCellOf : VariableKind → Kind → Type 0
IsCellOf (PlainKind l) k = ⊥
IsCellOf DomainKind k = ⊥
IsCellOf TupleKind k = ⊥
IsCellOf (ArrayKind l) k = ⊥
IsCellOf (CellKind l) k = k ≡ l

abbrev pub IsCell : VariableKind → Type 0
IsCell kind = (k : Kind) × (kind ≡ CellKind k)

-- what a variable may hold; of an array each element is one that it may be given
abbrev pub Holds : VariableKind → Shape → Content Bound → Type 0
Holds kind shape (Plain v) = MayHold kind shape v
Holds kind shape (ArrayOf over k rs vs) = MaySpan kind shape k rs × All (IsOf kind) vs
Holds kind shape (CellOf k c) = IsCellOf kind k

-- `=` alone
abbrev pub is_set : Assign → Bool
is_set Set = true
is_set SetAdd = false
is_set SetSubtract = false
is_set SetMultiply = false
is_set SetDivide = false
is_set SetRemainder = false
is_set SetReduce = false

-- arithmetic is of ints; a domain is assigned by `=` alone
abbrev pub element_takes : Kind → Assign → Bool
element_takes IntKind op = true
element_takes BoolKind op = not (is_arithmetic op)

abbrev pub kind_takes : VariableKind → Assign → Bool
kind_takes (PlainKind k) op = takes k op
kind_takes DomainKind op = is_set op
kind_takes TupleKind op = is_set op
kind_takes (ArrayKind k) op = element_takes k op
kind_takes (CellKind k) op = false

-- the operators of reductions that put values of a kind together
abbrev pub KindCombines : VariableKind → Option Op → Type 0
KindCombines (PlainKind k) o = Combines k o
KindCombines DomainKind o = Unit {0}
KindCombines TupleKind o = Unit {0}
KindCombines (ArrayKind k) o = Unit {0}
KindCombines (CellKind k) o = Unit {0}

-- `reduce=` is by the same operator, told by texts or by slots, and one of the variable's kind
abbrev pub IntentResolves : Assign → Text → Variable → Seen → Type 0
IntentResolves Set x l g = Unit {0}
IntentResolves SetAdd x l g = Unit {0}
IntentResolves SetSubtract x l g = Unit {0}
IntentResolves SetMultiply x l g = Unit {0}
IntentResolves SetDivide x l g = Unit {0}
IntentResolves SetRemainder x l g = Unit {0}
IntentResolves SetReduce x l g =
    (paired x (renamed_intents text_of g.intents) ≡ intent_at l.slot (intents_by_slot (renamed_intents variable_of g.intents)))
    × KindCombines l.kind (intent_at l.slot (intents_by_slot (renamed_intents variable_of g.intents)))

-- where a domain is assigned, the arrays over its name stand with it
abbrev pub ArraysResolve : VariableKind → Bound → Seen → Type 0
ArraysResolve (PlainKind k) x g = Unit {0}
ArraysResolve DomainKind x g = x.variable.along ≡ arrays_over x.variable.slot g.frames
ArraysResolve TupleKind x g = Unit {0}
ArraysResolve (ArrayKind k) x g = Unit {0}
ArraysResolve (CellKind k) x g = Unit {0}

-- a name has the kind, the slot and the shape of its innermost declaration
abbrev pub Resolves : Bound → Seen → Type 0
Resolves x g = innermost x.text g.frames ≡ Some (x.variable.kind, x.variable.slot, x.shape)

-- a memory in which each name in sight has a value of its shape
abbrev pub IsShaped : Seen → Memory → Type 0
IsShaped g s = (x : Bound) → Resolves x g → HasShape x.variable.kind x.shape (value_in x.variable.kind x.variable.slot s)

-- in whatever such memory, a variable may be given what an item is evaluated to, once; and an element in each turn
abbrev pub GivesOnce : VariableKind → Shape → ItemTree Bound → Seen → Type 0
GivesOnce kind shape item g =
    (limits : Limits) (s : Memory) → IsShaped g s → (v : Value)
    → item_of limits in_memory (renamed_item variable_of item) None s ≡ Ok v → MayHold kind shape v

abbrev pub GivesTurns : Kind → ItemTree Bound → Seen → Type 0
GivesTurns k item g =
    (limits : Limits) (s : Memory) → IsShaped g s → (t : Index) (v : Value)
    → item_of limits in_memory (renamed_item variable_of item) (Some t) s ≡ Ok v → IsElement k v

-- in some memory there is no whole array in it
abbrev pub HasNoArray : ItemTree Bound → Type 0
HasNoArray item =
    (limits : Limits) × (s : Memory) × (whole_item limits in_memory (renamed_item variable_of item) s ≡ None)

-- A right side has a value of the kind. A whole array's may be a whole array by its name, as in `B = A;`, which is evaluated in
-- each turn; only one without a whole array is evaluated once.
abbrev pub SuitsKind : VariableKind → Shape → ItemTree Bound → Seen → Type 0
SuitsKind (PlainKind k) shape item g = GivesOnce (PlainKind k) shape item g
SuitsKind DomainKind shape item g = GivesOnce DomainKind shape item g
SuitsKind TupleKind shape item g = GivesOnce TupleKind shape item g
SuitsKind (ArrayKind k) shape item g = (HasNoArray item → GivesOnce (ArrayKind k) shape item g) × GivesTurns k item g
SuitsKind (CellKind k) shape item g = GivesOnce (CellKind k) shape item g

-- A right side that reads a cell, as in `const b = c.readFF();`, has what the cell replies: each value of the cell's kind is one that
-- the variable may be given. Of one that reads none what is given holds.
abbrev pub GivesReply : VariableKind → Shape → ReadTree Bound → Type 0
GivesReply kind shape r =
    (k : Kind) × (r.name.name.variable.kind ≡ CellKind k) × ((v : Value) → IsElement k v → MayHold kind shape v)

abbrev pub OrReplies : VariableKind → Shape → Type 0 → Option (ReadTree Bound) → Type 0
OrReplies kind shape given None = given
OrReplies kind shape given (Some r) = GivesReply kind shape r

abbrev pub Suits : VariableKind → Shape → ItemTree Bound → Seen → Type 0
Suits kind shape item g = OrReplies kind shape (SuitsKind kind shape item g) (item_read item)

-- an element's right side is evaluated once
abbrev pub SuitsElement : VariableKind → Shape → ItemTree Bound → Seen → Type 0
SuitsElement kind shape item g = OrReplies kind shape (GivesOnce kind shape item g) (item_read item)

-- a loop's variable may be given the value of each turn
abbrev pub SuitsTurns : VariableKind → Shape → ItemTree Bound → Seen → Type 0
SuitsTurns kind shape item g =
    (limits : Limits) (s : Memory) → IsShaped g s → (over : Value)
    → item_of limits in_memory (renamed_item variable_of item) None s ≡ Ok over
    → All (λ t. MayHold kind shape (loop_value over t)) (indices_in (loop_ranges limits.locales over))

-- a domain of these ranges is one that a name may hold, and one that an array of this kind may have
abbrev pub Spans : VariableKind → Shape → Items Bound → Seen → Type 0
Spans kind shape items g =
    (limits : Limits) (s : Memory) → IsShaped g s → (from : Place) (v : Value)
    → domain_of limits in_memory from (renamed_items variable_of items) s ≡ Ok v → MayHold kind shape v

abbrev pub SpansArray : VariableKind → Shape → Kind → Items Bound → Seen → Type 0
SpansArray kind shape k items g =
    (limits : Limits) (s : Memory) → IsShaped g s → (from : Place) (v : Value)
    → domain_of limits in_memory from (renamed_items variable_of items) s ≡ Ok v → MaySpan kind shape k (ranges_in v)

-- a declaration has a slot of the memory that no name in sight has, and none has one of those that begin anew with it
pub record IsNew (slots : ℕ) (x : Bound) (g : Seen) : Type 0 where
  pub unused : IsUnused x.variable.slot g.frames
  pub within : x.variable.slot < slots
  pub along : AreUnused x.variable.along g.frames

-- a bare name that an array of some shape is declared over: it is in sight, and a domain's has this shape
abbrev pub OverResolves : Option Bound → Shape → Seen → Type 0
OverResolves None shape g = Unit {0}
OverResolves (Some y) shape g = Resolves y g × (y.variable.kind ≡ DomainKind → y.shape ≡ shape)

-- arrays are declared as arrays, over a name in sight, cells as cells, and all else as plain variables
abbrev pub Declares : ℕ → Bound → Form Bound → Seen → Type 0
Declares slots x PlainForm g = IsNew slots x g × (IsWhole x.variable.kind → ⊥)
Declares slots x (ArrayForm over) g = IsNew slots x g × IsWhole x.variable.kind × OverResolves over x.shape g
Declares slots x CellForm g = IsNew slots x g × IsCell x.variable.kind

-- How many slots a memory has, and how many cells, which is as many or none; what the command line sets, by texts and by slots; and, for a
-- program with coforalls, the histories that these take. Whatever they are, a program without any runs alike.
pub record Start : Type 0 where
  pub slots : ℕ
  pub cells : ℕ
  pub texts : List (Text × Value)
  pub words : List (ℕ × ℤ)
  pub histories : Option (List (List Event))

abbrev pub IsGivenAs : VariableKind → Bound → Start → Type 0
IsGivenAs (PlainKind k) x start = paired x.text start.texts ≡ option_map (given_as k) (set_at x.variable.slot start.words)
IsGivenAs DomainKind x start = ⊥
IsGivenAs TupleKind x start = ⊥
IsGivenAs (ArrayKind k) x start = ⊥
IsGivenAs (CellKind k) x start = ⊥

-- a memory with cells in its slots; and one to which histories are to come
abbrev pub HasCells : Start → Type 0
HasCells start = start.cells ≡ start.slots

abbrev pub AreKnown : Option (List (List Event)) → Type 0
AreKnown None = ⊥
AreKnown (Some first) = Unit {0}

-- what may be declared: cells where the memory has cells
abbrev pub MayDeclare : Start → Bound → Form Bound → Seen → Type 0
MayDeclare start x PlainForm g = Declares start.slots x PlainForm g
MayDeclare start x (ArrayForm over) g = Declares start.slots x (ArrayForm over) g
MayDeclare start x CellForm g = IsNew start.slots x g × IsCell x.variable.kind × HasCells start

-- where a cell is used, the cells before it stand with it; and with the variable of a coforall those in sight
abbrev pub CallResolves : Start → Bound → Seen → Type 0
CallResolves start x g =
    Resolves x g × IsCell x.variable.kind × (x.variable.cells ≡ before x.variable.slot (cells_in g.frames)) × HasCells start

abbrev pub CoforallResolves : Start → Bound → Seen → Type 0
CoforallResolves start x g = (x.variable.cells ≡ cells_in g.frames) × HasCells start × AreKnown start.histories

-- Where a resolved program may use a name. No forall with reduce variables has another in it.
abbrev pub resolving : Start → Scoping Bound Seen
resolving start = record {
  reads = Resolves;
  reads_at = λ x t. Resolves x;
  reads_element = λ x items. Resolves x;
  assigns = λ x op g.
      Resolves x g × (kind_takes x.variable.kind op ≡ true) × IntentResolves op x.text x.variable g × ArraysResolve x.variable.kind x g;
  assigns_at = λ x t. Resolves x;
  assigns_element = λ x items. Resolves x;
  calls = CallResolves start;
  declares = MayDeclare start;
  gives = λ x g. IsGivenAs x.variable.kind x start;
  holds = λ x. Holds x.variable.kind x.shape;
  suits = λ x item. Suits x.variable.kind x.shape item;
  suits_element = λ x item. SuitsElement x.variable.kind x.shape item;
  turns = λ x item. SuitsTurns x.variable.kind x.shape item;
  spans = λ x items. Spans x.variable.kind x.shape items;
  spans_array = λ x k items. SpansArray x.variable.kind x.shape k items;
  intends = λ is g. g.intents ≡ [];
  coforalls = CoforallResolves start;
  moves = λ g. Unit {0};
  add = λ x form g. record g { frames = bind (sighted x form) g.frames };
  enter = λ g. record g { frames = [] ∷ g.frames };
  leave = λ g. record g { frames = without_frame g.frames };
  intend = λ is g. record g { intents = is };
  begin = λ g. g;
}

-- THE STORE that a memory is, of the names in sight. Of an array it is its domain and its elements, whichever name it is over.
abbrev pub array_content : {N : Type 0} → Option N → Kind → Held → Content N
array_content over k a = ArrayOf over k a.ranges (map (element_as k) a.words)

abbrev pub content_in : {N : Type 0} → VariableKind → ℕ → Option N → Memory → Content N
content_in (PlainKind k) slot over s = Plain (value_in (PlainKind k) slot s)
content_in DomainKind slot over s = Plain (value_in DomainKind slot s)
content_in TupleKind slot over s = Plain (value_in TupleKind slot s)
content_in (ArrayKind k) slot over s = array_content over k (array_at slot s)
content_in (CellKind k) slot over s = CellOf k (cell_at slot s)

abbrev pub entry_in : Memory → Sighted → Entry
entry_in s b = record { name = b.text; content = content_in b.kind b.slot None s }

abbrev pub frame_in : Memory → List Sighted → Frame
frame_in s bs = map {A = Sighted} {B = Entry} (entry_in s) bs

-- the store with the names of a frame declared; and the store of all that is in sight
abbrev pub declared_in : Memory → List Sighted → Store → Store
declared_in s [] es = es
declared_in s (b ∷ bs) es = declared_in s bs (Declared (entry_in s b) ∷ es)

abbrev pub store_in : Memory → Sight → Store
store_in s [] = []
store_in s (f ∷ fs) = declared_in s f (Opened ∷ store_in s fs)

-- what a run in a memory leaves, where it is done: the names in sight, in order of declaration, and what stands in their slots
abbrev pub names_in_order : Sight → List Sighted
names_in_order [] = []
names_in_order (f ∷ fs) = names_in_order fs ++ f

abbrev pub left_in : Sight → Outcome Memory → Option Frame
left_in fs (Done s done) = Some (frame_in s (names_in_order fs))
left_in fs (Stop f done) = None
left_in fs (Waits at c op done) = None

-- A memory at the start: in each slot a word, a range, a domain, a tuple, an array and a root, and in those for cells empty ones.
-- `here` is the locale 0, and no task is run.
abbrev pub first_memory : Start → Memory
first_memory start = record {
  words = record {
    numbers = replicate start.slots (pos 0);
    ranges = replicate start.slots no_range;
    intents = [];
    sets = start.words;
  };
  domains = replicate start.slots no_domain;
  tuples = replicate start.slots no_tuple;
  arrays = replicate start.slots no_array;
  roots = replicate start.slots no_root;
  cells = replicate start.cells Empty;
  here = pos 0;
  coming = record { replies = None; histories = unwrap_or start.histories [] };
}

-- as many of each kind as there are slots
pub record HasSlots (slots : ℕ) (s : Memory) : Type 0 where
  pub numbers : length s.words.numbers ≡ slots
  pub ranges : length s.words.ranges ≡ slots
  pub domains : length s.domains ≡ slots
  pub tuples : length s.tuples ≡ slots
  pub arrays : length s.arrays ≡ slots
  pub roots : length s.roots ≡ slots

abbrev pub own_store : Store → Store
own_store [] = []
own_store (Opened ∷ es) = Opened ∷ own_store es
own_store (Declared e ∷ es) = Declared (own_entry e) ∷ own_store es

-- the histories that are to come are the same, where the program may take one
abbrev pub AreToCome : Option (List (List Event)) → List (List Event) → List (List Event) → Type 0
AreToCome None hs is = Unit {0}
AreToCome (Some first) hs is = hs ≡ is

-- A memory with as many slots as at the start is the store by names, and all else is the same.
pub record StandsFor (start : Start) (g : Seen) (s1 : State) (s2 : Memory) : Type 0 where
  pub store : own_store s1.store ≡ store_in s2 g.frames
  pub slots : HasSlots start.slots s2
  pub intents : s1.intents ≡ renamed_intents text_of g.intents
  pub intents_by_slots : s2.words.intents ≡ intents_by_slot (renamed_intents variable_of g.intents)
  pub cells : length s2.cells ≡ start.cells
  pub here : s1.here ≡ s2.here
  pub replies : s1.replies ≡ s2.coming.replies
  pub histories : AreToCome start.histories s1.histories s2.coming.histories
  pub texts : s1.sets ≡ start.texts
  pub words : s2.words.sets ≡ start.words

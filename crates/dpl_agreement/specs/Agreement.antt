-- When two ways to keep variables agree: where each step of the one is a step of the other.
-- Then each run by the one is a run by the other, which proofs/Agreement.antt shows.
use Rattle.std.specs.Prelude.{◌≡◌, All, true, Ok, ℤ, Option, Some, None, List, []}
use Rattle.dpl_syntax.specs.declared.place.Place.{Place}
use Rattle.dpl_history.specs.declared.cell.CellOp.{CellOp}
use Rattle.dpl_history.specs.declared.cell.Reply.{Reply}
use Rattle.dpl_history.specs.declared.history.Event.{Event}
use Rattle.dpl_sets.specs.TextRanges.{TextRange}
use Rattle.dpl_language.specs.Tree.{Op, Assign, Kind, ItemTree, Items}
use Rattle.dpl_language.specs.Values.{Value, Index, index_of, ranges_in, array_domain, is_domain, is_distributed, cell_kind}
use Rattle.dpl_language.specs.Distributions.{Root}
use Rattle.dpl_language.specs.Arithmetic.{assigned}
use Rattle.dpl_language.specs.Ranges.{indices_in, loop_ranges, loop_value}
use Rattle.dpl_language.specs.Outcome.{Deeds, Outcome, Done, Stop, Waits, Run}
use Rattle.dpl_language.specs.Environment.{Content, Plain, ArrayOf, Answer, Replied, Unanswered, Environment, Limits}
use Rattle.dpl_language.specs.Phrases.{ReadTree, item_read}
use Rattle.dpl_language.specs.Expressions.{item_of, items_of, domain_of, whole_item}
use Rattle.dpl_language.specs.Assignments.{reply_value}
use Rattle.dpl_agreement.specs.Renamed.{renamed_content, renamed_intents}
use Rattle.dpl_agreement.specs.Scopes.{Scoping, IsLawful, PlainForm, ArrayForm, form_of}

-- the same answer to an operation, with related states behind it
abbrev pub AnswersAlike : {S1 S2 : Type 0} → (S1 → S2 → Type 0) → Answer S1 → Answer S2 → Type 0
AnswersAlike R (Replied c r s) a = (s2 : _) × R s s2 × (a ≡ Replied c r s2)
AnswersAlike R (Unanswered c) a = a ≡ Unanswered c

-- A value that a right side may have: an expression's own, and of a cell read that of a reply.
abbrev pub MayRead : {N S : Type 0} → Limits → Environment N S → Option (ReadTree N) → ItemTree N → S → Value → Type 0
MayRead limits env None item s v = item_of limits env item None s ≡ Ok v
MayRead limits env (Some r) item s v = (a : Reply) × (v ≡ reply_value (cell_kind (env.get r.name.name s)) a)

abbrev pub MayBe : {N S : Type 0} → Limits → Environment N S → ItemTree N → S → Value → Type 0
MayBe limits env item = MayRead limits env (item_read item) item

-- in a state before, a name was a domain
abbrev pub WasDomain : {N G S1 S2 : Type 0} → Environment N S2 → (G → S1 → S2 → Type 0) → N → G → Type 0
WasDomain {S1 = S1} {S2 = S2} second R x g = (s1 : S1) × (s2 : S2) × R g s1 s2 × (is_domain (second.get x s2) ≡ true)

-- in a state before, a name was a whole array, or was none
abbrev pub WasArray : {N G S1 S2 : Type 0} → Environment N S2 → (G → S1 → S2 → Type 0) → N → G → Type 0
WasArray {S1 = S1} {S2 = S2} second R x g =
    (s1 : S1) × (s2 : S2) × R g s1 s2 × ((rs : List TextRange) × (array_domain (second.get x s2) ≡ Some rs))

abbrev pub WasPlain : {N G S1 S2 : Type 0} → Environment N S2 → (G → S1 → S2 → Type 0) → N → G → Type 0
WasPlain {S1 = S1} {S2 = S2} second R x g = (s1 : S1) × (s2 : S2) × R g s1 s2 × (array_domain (second.get x s2) ≡ None)

-- in a state before, the first whole array in a right side had this domain, or there was none in it
abbrev pub HadWhole : {N G S1 S2 : Type 0} → Limits → Environment N S2 → (G → S1 → S2 → Type 0) → ItemTree N → G → Option (List TextRange) → Type 0
HadWhole {S1 = S1} {S2 = S2} limits second R item g o = (s1 : S1) × (s2 : S2) × R g s1 s2 × (whole_item limits second item s2 ≡ o)

-- such a right side is evaluated in each turn
abbrev pub WasPromoted : {N G S1 S2 : Type 0} → Limits → Environment N S2 → (G → S1 → S2 → Type 0) → ItemTree N → G → Type 0
WasPromoted limits second R item g = (rs : List TextRange) × HadWhole limits second R item g (Some rs)

-- One law for each field of the record of variables, and some more by which a name holds what it may: an environment
-- that keeps variables of each kind in its own way need agree only where each holds a value of its kind. R relates the
-- states of the two where a g is in sight; `name` gives the first one's name for each name of the second. What a law asks
-- of a name is what `fits` asks of a tree.
-- By slots (proofs/SlotsAgree.antt) a g has the frames of the names in sight, each with its slot, and the reduce variables
-- of the forall around; R says that the store is what these slots stand for, and that all else is the same. What is to be
-- shown there is that a name's slot is that of its innermost declaration, of domain names that arrays are over and of
-- reduce variables too; and that `has_arrays`, `redomain`, `cells` and `call` speak of what stands in the frames now: a
-- slot whose scope was left doesn't count, and a hidden name's slot does. A machine that knows before the run which
-- slots these are has that to show besides.
pub record Simulates {M N G S1 S2 : Type 0} (limits : Limits) (name : N → M) (scoping : Scoping N G) (first : Environment M S1) (second : Environment N S2) (R : G → S1 → S2 → Type 0) : Type 0 where
  pub lawful : IsLawful scoping
  -- values; and of a name that is assigned, whether it is a whole array and of which domain, and whether it is a domain
  pub gets : (x : N) (g : G) (s1 : S1) (s2 : S2) → R g s1 s2 → scoping.reads x g → first.get (name x) s1 ≡ second.get x s2
  pub whole_targets : (x : N) (op : Assign) (g : G) (s1 : S1) (s2 : S2) → R g s1 s2 → scoping.assigns x op g
      → array_domain (first.get (name x) s1) ≡ array_domain (second.get x s2)
  pub domain_targets : (x : N) (op : Assign) (g : G) (s1 : S1) (s2 : S2) → R g s1 s2 → scoping.assigns x op g
      → is_domain (first.get (name x) s1) ≡ is_domain (second.get x s2)
  pub updates : (x : N) (op : Assign) (v : Value) (g : G) (s1 : S1) (s2 : S2) → R g s1 s2 → scoping.assigns x op g → scoping.holds x (Plain v)
      → R g (first.update (name x) op v s1) (second.update x op v s2)
  -- elements: of a whole array at an index, else at the index that the items give by the second one
  pub elements_at : (x : N) (t : Index) (g : G) (s1 : S1) (s2 : S2) → R g s1 s2 → scoping.reads_at x t g
      → first.element (name x) t s1 ≡ second.element x t s2
  pub elements : (x : N) (items : Items N) (vs : List Value) (g : G) (s1 : S1) (s2 : S2) → R g s1 s2 → scoping.reads_element x items g
      → items_of limits second items s2 ≡ Ok vs → first.element (name x) (index_of vs) s1 ≡ second.element x (index_of vs) s2
  pub puts_at : (x : N) (t : Index) (v : Value) (g : G) (s1 : S1) (s2 : S2) → R g s1 s2 → scoping.assigns_at x t g → scoping.holds x (Plain v)
      → R g (first.put_element (name x) t v s1) (second.put_element x t v s2)
  pub puts : (x : N) (items : Items N) (vs : List Value) (v : Value) (g : G) (s1 : S1) (s2 : S2) → R g s1 s2 → scoping.assigns_element x items g
      → items_of limits second items s2 ≡ Ok vs → scoping.holds x (Plain v) → R g (first.put_element (name x) (index_of vs) v s1) (second.put_element x (index_of vs) v s2)
  -- declarations
  pub declares : (x : N) (c : Content N) (g : G) (s1 : S1) (s2 : S2) → R g s1 s2 → scoping.declares x (form_of c) g → scoping.holds x c
      → R (scoping.add x (form_of c) g) (first.declare (name x) (renamed_content name c) s1) (second.declare x c s2)
  -- roots: of a name that is a domain or an array; and of one that was just declared
  pub roots : (x : N) (g : G) (s1 : S1) (s2 : S2) → R g s1 s2 → scoping.reads x g → is_distributed (second.get x s2) ≡ true → first.root (name x) s1 ≡ second.root x s2
  pub deals : (x : N) (root : Root) (g : G) (s1 : S1) (s2 : S2) → R g s1 s2 → scoping.reads x g → is_distributed (second.get x s2) ≡ true → R g (first.deal (name x) root s1) (second.deal x root s2)
  pub gives : (x : N) (g : G) (s1 : S1) (s2 : S2) → R g s1 s2 → scoping.gives x g → first.given (name x) s1 ≡ second.given x s2
  -- a name holds what it may: a right side's value, assigned and as an initial value, those of a loop's turns, and what the
  -- command line gives
  pub suited : (x : N) (item : ItemTree N) (v : Value) (g : G) (s1 : S1) (s2 : S2) → R g s1 s2 → scoping.suits x item g → WasPlain second R x g
      → MayBe limits second item s2 v → scoping.holds x (Plain v)
  pub suited_new : (x : N) (item : ItemTree N) (v : Value) (g : G) (s1 : S1) (s2 : S2) → R g s1 s2 → scoping.suits x item g → scoping.declares x PlainForm g
      → MayBe limits second item s2 v → scoping.holds x (Plain v)
  pub suited_element : (x : N) (item : ItemTree N) (v : Value) (g : G) (s1 : S1) (s2 : S2) → R g s1 s2 → scoping.suits_element x item g
      → MayBe limits second item s2 v → scoping.holds x (Plain v)
  -- the elements of a whole array too: the value of a right side without a whole array, which is evaluated once; that of
  -- another in a turn, assigned and as an initial value; and what an assignment makes of an element
  pub suited_once : (x : N) (item : ItemTree N) (v : Value) (g : G) (s1 : S1) (s2 : S2) → R g s1 s2 → scoping.suits x item g → HadWhole limits second R item g None
      → MayBe limits second item s2 v → scoping.holds x (Plain v)
  pub suited_turn : (x : N) (item : ItemTree N) (t : Index) (v : Value) (g : G) (s1 : S1) (s2 : S2) → R g s1 s2 → scoping.suits x item g → WasArray second R x g
      → WasPromoted limits second R item g → item_of limits second item (Some t) s2 ≡ Ok v → scoping.holds x (Plain v)
  pub suited_initial : (x : N) (over : Option N) (item : ItemTree N) (t : Index) (v : Value) (g : G) (s1 : S1) (s2 : S2) → R g s1 s2 → scoping.suits x item g → scoping.declares x (ArrayForm over) g
      → WasPromoted limits second R item g → item_of limits second item (Some t) s2 ≡ Ok v → scoping.holds x (Plain v)
  pub changed : (x : N) (op : Assign) (t : Index) (old w : Value) (g : G) (s1 : S1) (s2 : S2) → R g s1 s2 → scoping.assigns x op g
      → second.element x t s2 ≡ Some old → scoping.holds x (Plain w) → scoping.holds x (Plain (assigned op None old w))
  pub turned : (x : N) (item : ItemTree N) (over : Value) (g : G) (s1 : S1) (s2 : S2) → R g s1 s2 → scoping.turns x item g
      → item_of limits second item None s2 ≡ Ok over → All (λ t. scoping.holds x (Plain (loop_value over t))) (indices_in (loop_ranges limits.locales over))
  -- and the domain of a declaration's ranges, as a value and as that of an array of elements that it may hold
  pub spanned : (x : N) (from : Place) (items : Items N) (v : Value) (g : G) (s1 : S1) (s2 : S2) → R g s1 s2 → scoping.spans x items g → scoping.declares x PlainForm g
      → domain_of limits second from items s2 ≡ Ok v → scoping.holds x (Plain v)
  pub spanned_array : (x : N) (over : Option N) (k : Kind) (from : Place) (items : Items N) (v : Value) (vs : List Value) (g : G) (s1 : S1) (s2 : S2) → R g s1 s2 → scoping.spans_array x k items g
      → domain_of limits second from items s2 ≡ Ok v → All (λ v. scoping.holds x (Plain v)) vs → scoping.holds x (ArrayOf over k (ranges_in v) vs)
  pub given_holds : (x : N) (v : Value) (g : G) (s1 : S1) (s2 : S2) → R g s1 s2 → scoping.gives x g → second.given x s2 ≡ Some v → scoping.holds x (Plain v)
  -- scopes, each of which is left to what was in sight where it was opened; and foralls
  pub enters : (g : G) (s1 : S1) (s2 : S2) → R g s1 s2 → R (scoping.enter g) (first.enter s1) (second.enter s2)
  pub leaves : (g h : G) (s1 : S1) (s2 : S2) (t1 : S1) (t2 : S2) → R g s1 s2 → scoping.leave h ≡ g → R h t1 t2 → R g (first.leave t1) (second.leave t2)
  pub intends : (is : List (N × Op)) (g : G) (s1 : S1) (s2 : S2) → R g s1 s2 → scoping.intends is g
      → R (scoping.intend is g) (first.intend (renamed_intents name is) s1) (second.intend is s2)
  pub ends_forall : (is : List (N × Op)) (g : G) (s1 : S1) (s2 : S2) → R (scoping.intend is g) s1 s2 → scoping.intends is g
      → R g (first.intend [] s1) (second.intend [] s2)
  -- what is noted of a forall that is entered
  pub notes : (at : Place) (rs : List TextRange) (done : Deeds) (g : G) (s1 : S1) (s2 : S2) → R g s1 s2 → first.note at rs s1 done ≡ second.note at rs s2 done
  -- domains
  pub has : (x : N) (op : Assign) (g : G) (s1 : S1) (s2 : S2) → R g s1 s2 → scoping.assigns x op g → WasDomain second R x g
      → first.has_arrays (name x) s1 ≡ second.has_arrays x s2
  pub redomains : (x : N) (op : Assign) (v : Value) (g : G) (s1 : S1) (s2 : S2) → R g s1 s2 → scoping.assigns x op g → WasDomain second R x g → scoping.holds x (Plain v)
      → R g (first.redomain (name x) (ranges_in v) s1) (second.redomain x (ranges_in v) s2)
  -- locales
  pub heres : (g : G) (s1 : S1) (s2 : S2) → R g s1 s2 → first.here s1 ≡ second.here s2
  pub moves : (k : ℤ) (g : G) (s1 : S1) (s2 : S2) → R g s1 s2 → scoping.moves g → R g (first.move k s1) (second.move k s2)
  -- cells and tasks
  pub calls : (x : N) (op : CellOp) (g : G) (s1 : S1) (s2 : S2) → R g s1 s2 → scoping.calls x g → AnswersAlike (R g) (first.call (name x) op s1) (second.call x op s2)
  pub cells : (x : N) (g : G) (s1 : S1) (s2 : S2) → R g s1 s2 → scoping.coforalls x g → first.cells (name x) s1 ≡ second.cells x s2
  pub histories : (x : N) (g : G) (s1 : S1) (s2 : S2) → R g s1 s2 → scoping.coforalls x g → first.history s1 ≡ second.history s2
  pub begins : (x : N) (rs : List Reply) (g : G) (s1 : S1) (s2 : S2) → R g s1 s2 → scoping.coforalls x g → R (scoping.begin g) (first.begin rs s1) (second.begin rs s2)
  pub settles : (x : N) (h : List Event) (g : G) (s1 : S1) (s2 : S2) → R g s1 s2 → scoping.coforalls x g → R g (first.settle (name x) h s1) (second.settle x h s2)

-- The second run ends as the first, with the same deeds; where they are done, in a state that is related to the first one's.
abbrev pub EndsAlike : {S1 S2 : Type 0} → (S1 → S2 → Type 0) → Outcome S1 → Outcome S2 → Type 0
EndsAlike R (Done s done) o = (s2 : _) × R s s2 × (o ≡ Done s2 done)
EndsAlike R (Stop f done) o = o ≡ Stop f done
EndsAlike R (Waits at c op done) o = o ≡ Waits at c op done

-- from related states, and from the same deeds, the two runs end alike
abbrev pub RunAlike : {S1 S2 : Type 0} → (S1 → S2 → Type 0) → (S1 → S2 → Type 0) → Run S1 → Run S2 → Type 0
RunAlike {S1 = S1} {S2 = S2} P Q a b = (s1 : S1) (s2 : S2) (done : Deeds) → P s1 s2 → EndsAlike Q (a s1 done) (b s2 done)

-- Loops by their rows: each turn has the row of its own index, and adds to the reduce variables.
-- What a loop comes to is put together from what its parts come to, each of which begins with nothing added.
use Rattle.std.specs.Prelude.{◌≡◌, ℕ, zero, suc, ◌<◌, ◌==◌, nat_lt, Bool, false, if◌then◌else◌, Some, slice_get, List, [], ◌∷◌, filter}
use Rattle.std.specs.List.{AllByRecursion, list_any}
use Rattle.dpl_language.specs.Values.{Index, Fault}
use Rattle.dpl_language.specs.Ranges.{same_index}
use Rattle.dpl_apart.specs.Operands.{IsCommutativeMonoid}

-- what a turn comes to: the row of its index behind it, and what it adds to the reduce variables; or its fault
pub data Turned (T V : Type 0) : Type 0 where
  Leaves : T → V → Turned T V
  Fails : Fault → Turned T V

-- what turns come to: each index's row and the reduce variables behind them; or the place of the first that has a fault, and the fault
pub data Ran (T V : Type 0) : Type 0 where
  Finished : (Index → T) → V → Ran T V
  Failed : ℕ → Fault → Ran T V

-- A loop: its turns, each by the row of its index; how its reduce variables are put together; and the place of each index in it.
pub record Loop (T V : Type 0) : Type 0 where
  pub turn : Index → T → Turned T V
  pub join : V → V → V
  pub place : Index → ℕ

-- the rows with another one at an index
abbrev pub with_row : {T : Type 0} → Index → T → (Index → T) → Index → T
with_row t row rows x = if same_index x t then row else rows x

-- goes on behind a turn that has no fault
abbrev pub goes_on : {T V : Type 0} → Turned T V → ℕ → (T → V → Ran T V) → Ran T V
goes_on (Leaves row v) k go = go row v
goes_on (Fails f) k go = Failed k f

-- turns one after another, from rows and reduce variables as they are
abbrev pub run : {T V : Type 0} → Loop T V → List Index → (Index → T) → V → Ran T V
run loop [] rows a = Finished rows a
run loop (t ∷ ts) rows a =
    goes_on (loop.turn t (rows t)) (loop.place t) (λ row v. run loop ts (with_row t row rows) (loop.join a v))

-- TWO PARTS
-- the rows of two parts: of the first where a test says so, and of the second elsewhere
abbrev pub either : {T : Type 0} → (Index → Bool) → (Index → T) → (Index → T) → Index → T
either is_first xs ys t = if is_first t then xs t else ys t

-- Two parts as one: both parts' rows, and their reduce variables put together. Of two faults that of the lesser place is told.
abbrev pub merge : {T V : Type 0} → (V → V → V) → (Index → Bool) → Ran T V → Ran T V → Ran T V
merge join is_first (Finished xs a) (Finished ys b) = Finished (either is_first xs ys) (join a b)
merge join is_first (Finished xs a) (Failed k g) = Failed k g
merge join is_first (Failed j f) (Finished ys b) = Failed j f
merge join is_first (Failed j f) (Failed k g) = if nat_lt j k then Failed j f else Failed k g

-- what turns came to that began with nothing added, put to the reduce variables as they were
abbrev pub onto : {T V : Type 0} → (V → V → V) → V → Ran T V → Ran T V
onto join a (Finished rows b) = Finished rows (join a b)
onto join a (Failed k f) = Failed k f

-- THE PARTS OF LOCALES
-- the part of a locale: the indices that it owns, in their order
abbrev pub part_of : (Index → ℕ) → ℕ → List Index → List Index
part_of owner l ts = filter (λ t. owner t == l) ts

-- an index is owned by one of some locales
abbrev pub is_owned : (Index → ℕ) → List ℕ → Index → Bool
is_owned owner ls t = list_any (λ l. owner t == l) ls

-- the row of each index, as its owner has it
abbrev pub dealt : {T : Type 0} → (Index → ℕ) → (ℕ → Index → T) → Index → T
dealt owner rows t = rows (owner t) t

-- the parts of some locales together, in the order of the list
abbrev pub parts_of : (Index → ℕ) → List ℕ → List Index → List Index
parts_of owner ls ts = filter (is_owned owner ls) ts

-- What the parts of some locales come to together, the last put first to nothing, which has rows of its own.
abbrev pub merged : {T V : Type 0} → (V → V → V) → (Index → ℕ) → (ℕ → Ran T V) → Ran T V → List ℕ → Ran T V
merged join owner ran nothing [] = nothing
merged join owner ran nothing (l ∷ ls) = merge join (λ t. owner t == l) (ran l) (merged join owner ran nothing ls)

-- the rows behind some locales' parts: of an index of theirs its owner's, and of the others as they were
abbrev pub gathered : {T : Type 0} → (Index → ℕ) → (ℕ → Index → T) → (Index → T) → List ℕ → Index → T
gathered owner ends rows ls t = if is_owned owner ls t then ends (owner t) t else rows t

-- and what they have added together
abbrev pub all_joined : {V : Type 0} → (V → V → V) → V → (ℕ → V) → List ℕ → V
all_joined join unit sums [] = unit
all_joined join unit sums (l ∷ ls) = join (sums l) (all_joined join unit sums ls)

-- locales of which none is listed twice
abbrev pub AreOnce : List ℕ → Type 0
AreOnce [] = Unit {0}
AreOnce (l ∷ ls) = (list_any (λ m. l == m) ls ≡ false) × AreOnce ls

-- so many locales, numbered on from one
abbrev pub numbered : ℕ → ℕ → List ℕ
numbered l zero = []
numbered l (suc n) = l ∷ numbered (suc l) n

-- PLACES
-- no index is listed twice
abbrev pub IsDistinct : List Index → Type 0
IsDistinct ts = (j k : ℕ) (t : Index) → slice_get ts j ≡ Some t → slice_get ts k ≡ Some t → j ≡ k

-- along a list each index has a greater place than those before it
abbrev pub IsRising : (Index → ℕ) → List Index → Type 0
IsRising place [] = Unit {0}
IsRising place (t ∷ ts) = AllByRecursion (λ x. place t < place x) ts × IsRising place ts

-- how many indices of a list stand before an index
abbrev pub place_in : List Index → Index → ℕ
place_in [] x = 0
place_in (t ∷ ts) x = if same_index x t then 0 else suc (place_in ts x)

-- WHAT TURNS ADD
abbrev pub Adds : {T V : Type 0} → (V → Type 0) → Turned T V → Type 0
Adds IsOne (Leaves row v) = IsOne v
Adds IsOne (Fails f) = Unit {0}

abbrev pub AddsThen : {T V : Type 0} → (V → Type 0) → Turned T V → (T → Type 0) → Type 0
AddsThen IsOne (Leaves row v) rest = IsOne v × rest row
AddsThen IsOne (Fails f) rest = Unit {0}

-- the turns of a list, up to the first that has a fault, add such values
abbrev pub AllAdd : {T V : Type 0} → (V → Type 0) → Loop T V → List Index → (Index → T) → Type 0
AllAdd IsOne loop [] rows = Unit {0}
AllAdd IsOne loop (t ∷ ts) rows = AddsThen IsOne (loop.turn t (rows t)) (λ row. AllAdd IsOne loop ts (with_row t row rows))

-- what turns come to has such reduce variables, where none of them has a fault
abbrev pub Comes : {T V : Type 0} → (V → Type 0) → Ran T V → Type 0
Comes IsOne (Finished rows a) = IsOne a
Comes IsOne (Failed k f) = Unit {0}

-- A loop all of whose turns add what may be put together in any order, over whatever rows.
pub record IsReducing {T V : Type 0} (IsOne : V → Type 0) (unit : V) (loop : Loop T V) : Type 0 where
  pub monoid : IsCommutativeMonoid IsOne loop.join unit
  pub adds : (t : Index) (row : T) → Adds IsOne (loop.turn t row)

-- The cells of a memory: those in sight are those of the store, from the first declared on, and a cell's number is how many are before it.
-- And what an operation or a history changes: cells alone.
use Rattle.std.proofs.Common.{◌≡◌, ◌≢◌, ℕ, suc, ◌<◌, Bool, true, false, List, [], ◌∷◌, ◌++◌, refl, sym, ap, ◌∙◌, subst, Some, Option, length, drop}
use Rattle.std.specs.Prelude.{◌==◌, ◌||◌, if◌then◌else◌, bytes_eq, get_or, set}
use Rattle.std.proofs.lemmas.Bool.Decides.{Decides-eqb}
use Rattle.std.proofs.lemmas.List.{get_or-set_same, get_or-set_other, length-set, map-append, append-nil, append_assoc}
use Rattle.dpl_history.specs.declared.cell.CellState.{CellState}
use Rattle.dpl_history.specs.declared.cell.CellState.TheVariants.{Empty}
use Rattle.dpl_language.specs.Tree.{Kind}
use Rattle.dpl_language.specs.Environment.{CellOf}
use Rattle.dpl_language.specs.Names.{Text}
use Rattle.dpl_agreement.proofs.Slots.{Bound as SlotBound, Sight as SlotSight, Mark, Name, slot_of, IsFresh, IsApart, same_slot, other_slot}
use Rattle.dpl_agreement.proofs.SlotCells.{cell_of, with_state, cells_of as slots_cells, number_of, with_states}
use Rattle.dpl_memory.specs.Memory.{VariableKind, PlainKind, CellKind, Coming, Memory, value_in, cell_at, with_cell, cells_at, with_cells, is_among}
use Rattle.dpl_memory.specs.Resolved.{Sighted, Sight, slot_if_cell, cells_of, cells_in, before, IsCellOf, HasShape, Shape, content_in, HasSlots}
use Rattle.dpl_memory.proofs.InSight.{placed_name, with_names, in_slots, Told, IsToldIn, IsTold, contents, set_slot-each}

-- THE SLOTS OF CELLS, by what is told of each
abbrev pub cell_slots : (ℕ → Told) → SlotSight → List ℕ
cell_slots told [] = []
cell_slots told (Mark ∷ g) = cell_slots told g
cell_slots told (Name b ∷ g) = cell_slots told g ++ slot_if_cell (told b.slot).kind b.slot

module _ (told : ℕ → Told) (slots : ℕ) where
  cell_slots-names : (bs : List Sighted) (g : SlotSight) → IsToldIn told slots bs → cell_slots told (with_names bs g) ≡ cell_slots told g ++ cells_of bs
  cell_slots-names [] g h = sym (append-nil (cell_slots told g))
  cell_slots-names (b ∷ bs) g h =
      cell_slots-names bs (Name (placed_name b) ∷ g) h.2
      ∙ append_assoc (cell_slots told g) (slot_if_cell (told b.slot).kind b.slot) (cells_of bs)
      ∙ ap (λ (t : Told). cell_slots told g ++ (slot_if_cell t.kind b.slot ++ cells_of bs)) h.0

  pub cell_slots-in_slots : (fs : Sight) → IsTold told slots fs → cell_slots told (in_slots fs) ≡ cells_in fs
  cell_slots-in_slots [] h = refl
  cell_slots-in_slots (f ∷ fs) h = cell_slots-names f (Mark ∷ in_slots fs) h.0 ∙ ap (λ xs. xs ++ cells_of f) (cell_slots-in_slots fs h.1)

-- THE CELLS THEMSELVES
cell_of-content : (k : VariableKind) (slot : ℕ) (over : Option SlotBound) (s : Memory) → cell_of (content_in k slot over s) ≡ cells_at (slot_if_cell k slot) s
cell_of-content (PlainKind k) slot over s = refl
cell_of-content _ slot over s = refl

pub cells-slots : (told : ℕ → Told) (s : Memory) (g : SlotSight) → slots_cells (contents told s) g ≡ cells_at (cell_slots told g) s
cells-slots told s [] = refl
cells-slots told s (Mark ∷ g) = cells-slots told s g
cells-slots told s (Name b ∷ g) =
    ap (λ cs. cs ++ cell_of (contents told s b.slot)) (cells-slots told s g)
    ∙ ap (λ cs. cells_at (cell_slots told g) s ++ cs) (cell_of-content (told b.slot).kind b.slot (told b.slot).over s)
    ∙ sym (map-append (λ slot. cell_at slot s) (cell_slots told g) (slot_if_cell (told b.slot).kind b.slot))

length-cells_at : (xs : List ℕ) (s : Memory) → length (cells_at xs s) ≡ length xs
length-cells_at [] s = refl
length-cells_at (x ∷ xs) s = ap suc (length-cells_at xs s)

length-cells : (told : ℕ → Told) (s : Memory) (g : SlotSight) → length (slots_cells (contents told s) g) ≡ length (cell_slots told g)
length-cells told s g = ap length (cells-slots told s g) ∙ length-cells_at (cell_slots told g) s

-- THE NUMBER OF A CELL
among-append : (j : ℕ) (xs ys : List ℕ) → is_among j (xs ++ ys) ≡ (is_among j xs || is_among j ys)
among-append j [] ys = refl
among-append j (x ∷ xs) ys = ap (λ b. (j == x) || b) (among-append j xs ys) ∙ or_assoc (j == x) (is_among j xs) (is_among j ys)
  where
    or_assoc : (a b c : Bool) → (a || (b || c)) ≡ ((a || b) || c)
    or_assoc true b c = refl
    or_assoc false b c = refl

before-append : (slot : ℕ) (xs ys : List ℕ) → is_among slot xs ≡ true → before slot (xs ++ ys) ≡ before slot xs
before-append slot [] ys = λ e. cc
before-append slot (x ∷ xs) ys =
    elim (slot == x) as (λ b. (b || is_among slot xs) ≡ true → (if b then [] else x ∷ before slot (xs ++ ys)) ≡ (if b then [] else x ∷ before slot xs))
    [ true ↦ λ e. refl | false ↦ λ e. ap (λ js. x ∷ js) (before-append slot xs ys e) ]

before-last : (slot : ℕ) (xs : List ℕ) → is_among slot xs ≡ false → before slot (xs ++ slot ∷ []) ≡ xs
before-last slot [] = λ e. ap (λ b. if b then [] else slot ∷ []) (same_slot slot)
before-last slot (x ∷ xs) =
    elim (slot == x) as (λ b. (b || is_among slot xs) ≡ false → (if b then [] else x ∷ before slot (xs ++ slot ∷ [])) ≡ x ∷ xs)
    [ true ↦ λ e. cc | false ↦ λ e. ap (λ js. x ∷ js) (before-last slot xs e) ]

not_among-if_cell : (k : VariableKind) (j slot : ℕ) → j ≢ slot → is_among j (slot_if_cell k slot) ≡ false
not_among-if_cell (CellKind k) j slot ne = ap (λ b. b || false) (other_slot j slot ne)
not_among-if_cell _ j slot ne = refl

pub fresh-not_among : (told : ℕ → Told) (j : ℕ) (g : SlotSight) → IsFresh j g → is_among j (cell_slots told g) ≡ false
fresh-not_among told j [] h = refl
fresh-not_among told j (Mark ∷ g) h = fresh-not_among told j g h
fresh-not_among told j (Name b ∷ g) h =
    among-append j (cell_slots told g) (slot_if_cell (told b.slot).kind b.slot)
    ∙ ap (λ c. c || is_among j (slot_if_cell (told b.slot).kind b.slot)) (fresh-not_among told j g h.1)
    ∙ not_among-if_cell (told b.slot).kind j b.slot h.0

module _ (told : ℕ → Told) (s : Memory) (slot : ℕ) (k : Kind) (cell : (told slot).kind ≡ CellKind k) where
  own-slot : slot_if_cell (told slot).kind slot ≡ slot ∷ []
  own-slot = ap (λ kind. slot_if_cell kind slot) cell

  among-name : (b : SlotBound) (g : SlotSight) (x : Text) → (slot_of x g ≡ Some slot → is_among slot (cell_slots told g) ≡ true) → slot_of x (Name b ∷ g) ≡ Some slot
      → is_among slot (cell_slots told g ++ slot_if_cell (told b.slot).kind b.slot) ≡ true
  among-name b g x rest =
      elim (bytes_eq x b.text) as (λ t. (if t then Some b.slot else slot_of x g) ≡ Some slot → is_among slot (cell_slots told g ++ slot_if_cell (told b.slot).kind b.slot) ≡ true) [
        | true ↦ λ e.
            let same : b.slot ≡ slot = cc in
            among-append slot (cell_slots told g) (slot_if_cell (told b.slot).kind b.slot)
            ∙ ap (λ j. is_among slot (cell_slots told g) || is_among slot (slot_if_cell (told j).kind j)) same
            ∙ ap (λ js. is_among slot (cell_slots told g) || is_among slot js) own-slot
            ∙ ap (λ c. is_among slot (cell_slots told g) || (c || false)) (same_slot slot) ∙ or_true (is_among slot (cell_slots told g))
        | false ↦ λ e.
            among-append slot (cell_slots told g) (slot_if_cell (told b.slot).kind b.slot) ∙ ap (λ c. c || is_among slot (slot_if_cell (told b.slot).kind b.slot)) (rest e)
      ]
    where
      or_true : (c : Bool) → (c || true) ≡ true
      or_true true = refl
      or_true false = refl

  found-among : (x : Text) (g : SlotSight) → slot_of x g ≡ Some slot → is_among slot (cell_slots told g) ≡ true
  found-among x [] = λ e. cc
  found-among x (Mark ∷ g) = found-among x g
  found-among x (Name b ∷ g) = among-name b g x (found-among x g)

  pub number-slots : (x : Text) (g : SlotSight) → IsApart g → slot_of x g ≡ Some slot → number_of slot (contents told s) g ≡ length (before slot (cell_slots told g))
  number-slots x [] a e = cc
  number-slots x (Mark ∷ g) a e = number-slots x g a e
  number-slots x (Name b ∷ g) a e =
      (elim (slot == b.slot) as (λ t. (t ≡ true → slot ≡ b.slot) → (slot ≡ b.slot → t ≡ true)
      → (if t then length (slots_cells (contents told s) g) else number_of slot (contents told s) g) ≡ length (before slot (cell_slots told g ++ slot_if_cell (told b.slot).kind b.slot))) [
        | true ↦ λ is no. here (is refl)
        | false ↦ λ is no. there (number-slots x g a.1) (λ same. let t : false ≡ true = no same in cc)
      ]) (Decides-eqb slot b.slot).0 (Decides-eqb slot b.slot).1
    where
      here : slot ≡ b.slot → length (slots_cells (contents told s) g) ≡ length (before slot (cell_slots told g ++ slot_if_cell (told b.slot).kind b.slot))
      here same =
          length-cells told s g
          ∙ ap length (sym (before-last slot (cell_slots told g) (fresh-not_among told slot g (subst (λ j. IsFresh j g) (sym same) a.0))))
          ∙ ap (λ js. length (before slot (cell_slots told g ++ js))) (sym own-slot)
          ∙ ap (λ j. length (before slot (cell_slots told g ++ slot_if_cell (told j).kind j))) same

      inside : slot ≢ b.slot → slot_of x g ≡ Some slot
      inside ne =
          (elim (bytes_eq x b.text) as (λ t. (if t then Some b.slot else slot_of x g) ≡ Some slot → slot_of x g ≡ Some slot) [
            | true ↦ λ e. absurd (let same : b.slot ≡ slot = cc in ne (sym same))
            | false ↦ λ e. e
          ]) e

      there : (slot_of x g ≡ Some slot → number_of slot (contents told s) g ≡ length (before slot (cell_slots told g))) → slot ≢ b.slot
          → number_of slot (contents told s) g ≡ length (before slot (cell_slots told g ++ slot_if_cell (told b.slot).kind b.slot))
      there rest ne =
          rest (inside ne)
          ∙ ap length (sym (before-append slot (cell_slots told g) (slot_if_cell (told b.slot).kind b.slot) (found-among x g (inside ne))))

-- A CELL THAT IS PUT into its slot
pub cell-put : {N : Type 0} (kind : VariableKind) (k : Kind) (slot : ℕ) (over : Option N) (c : CellState) (s : Memory) → IsCellOf kind k → slot < length s.cells
    → content_in kind slot over (with_cell slot c s) ≡ CellOf k c
cell-put (CellKind l) k slot over c s is within = ap (CellOf l) (get_or-set_same s.cells slot c Empty within) ∙ ap (λ k. CellOf k c) (sym is)
cell-put _ k slot over c s is within = absurd is

-- other cells, and what is to come, are no contents of other slots
pub cells-other : {N : Type 0} (k : VariableKind) (j : ℕ) (over : Option N) (cs : List CellState) (c : Coming) (s : Memory) → get_or cs j Empty ≡ get_or s.cells j Empty
    → content_in k j over (record s { cells = cs; coming = c }) ≡ content_in k j over s
cells-other (CellKind k) j over cs c s e = ap (CellOf k) e
cells-other _ j over cs c s e = refl

-- the value of a cell is its kind alone
pub cells-value : (k : VariableKind) (j : ℕ) (cs : List CellState) (c : Coming) (s : Memory) → value_in k j s ≡ value_in k j (record s { cells = cs; coming = c })
cells-value (PlainKind k) j cs c s = refl
cells-value _ j cs c s = refl

pub cell-shape : (kind : VariableKind) (k : Kind) (shape : Shape) (slot : ℕ) (s : Memory) → IsCellOf kind k → HasShape kind shape (value_in kind slot s)
cell-shape (CellKind l) k shape slot s is = tt
cell-shape _ k shape slot s is = absurd is

pub cells-slotted : (slots : ℕ) (cs : List CellState) (c : Coming) (s : Memory) → HasSlots slots s → HasSlots slots (record s { cells = cs; coming = c })
cells-slotted slots cs c s h = record {
  numbers = h.numbers;
  ranges = h.ranges;
  domains = h.domains;
  tuples = h.tuples;
  arrays = h.arrays;
  roots = h.roots;
}

-- ALL CELLS REPLACED
pub length-with_cells : (xs : List ℕ) (cs held : List CellState) → length (with_cells xs cs held) ≡ length held
length-with_cells [] cs held = refl
length-with_cells (x ∷ xs) [] held = refl
length-with_cells (x ∷ xs) (c ∷ cs) held = length-with_cells xs cs (set held x c) ∙ length-set held x c

-- the first of a list, put into a slot
abbrev put_first : ℕ → List CellState → List CellState → List CellState
put_first slot [] held = held
put_first slot (c ∷ cs) held = set held slot c

with_cells-last : (xs : List ℕ) (slot : ℕ) (cs held : List CellState) → with_cells (xs ++ slot ∷ []) cs held ≡ put_first slot (drop (length xs) cs) (with_cells xs cs held)
with_cells-last [] slot [] held = refl
with_cells-last [] slot (c ∷ cs) held = refl
with_cells-last (x ∷ xs) slot [] held = refl
with_cells-last (x ∷ xs) slot (c ∷ cs) held = with_cells-last xs slot cs (set held x c)

module _ (told : ℕ → Told) (s : Memory) (c : Coming) where
  abbrev put : List CellState → Memory
  put held = record s { cells = held; coming = c }

  -- one name, by its kind: the first of the new states is put into the slot of a cell
  abbrev put_by : VariableKind → ℕ → List CellState → List CellState → List CellState
  put_by (CellKind k) slot ds held = put_first slot ds held
  put_by _ slot ds held = held

  put_by-last : (k : VariableKind) (xs : List ℕ) (slot : ℕ) (cs held : List CellState)
      → with_cells (xs ++ slot_if_cell k slot) cs held ≡ put_by k slot (drop (length xs) cs) (with_cells xs cs held)
  put_by-last (CellKind k) xs slot cs held = with_cells-last xs slot cs held
  put_by-last _ xs slot cs held = ap (λ ys. with_cells ys cs held) (append-nil xs)

  put_by-here : (k : VariableKind) (slot : ℕ) (over : Option SlotBound) (ds held : List CellState) → slot < length held
      → with_state ds (content_in k slot over (put held)) ≡ content_in k slot over (put (put_by k slot ds held))
  put_by-here (CellKind k) slot over [] held within = refl
  put_by-here (CellKind k) slot over (d ∷ ds) held within = ap (CellOf k) (sym (get_or-set_same held slot d Empty within))
  put_by-here _ slot over ds held within = refl

  put_by-get : (k : VariableKind) (slot j : ℕ) (ds held : List CellState) → j ≢ slot → get_or (put_by k slot ds held) j Empty ≡ get_or held j Empty
  put_by-get (CellKind k) slot j [] held ne = refl
  put_by-get (CellKind k) slot j (d ∷ ds) held ne = get_or-set_other held slot j d Empty ne
  put_by-get _ slot j ds held ne = refl

  -- each slot of the names in sight is one that has a cell
  abbrev pub AreWithin : SlotSight → Type 0
  AreWithin [] = Unit {0}
  AreWithin (Mark ∷ g) = AreWithin g
  AreWithin (Name b ∷ g) = (b.slot < length s.cells) × AreWithin g

  pub replaced : (cs : List CellState) (g : SlotSight) → AreWithin g → (j : ℕ) → with_states cs g (contents told (put s.cells)) j ≡ contents told (put (with_cells (cell_slots told g) cs s.cells)) j
  replaced cs [] w j = refl
  replaced cs (Mark ∷ g) w j = replaced cs g w j
  replaced cs (Name b ∷ g) w j =
      let k : VariableKind = (told b.slot).kind in
      let over : Option SlotBound = (told b.slot).over in
      let ds : List CellState = drop (length (slots_cells (contents told (put s.cells)) g)) cs in
      let es : List CellState = drop (length (cell_slots told g)) cs in
      let held : List CellState = with_cells (cell_slots told g) cs s.cells in
      let within : b.slot < length held = subst (λ n. b.slot < n) (sym (length-with_cells (cell_slots told g) cs s.cells)) w.0 in
      set_slot-each b.slot (with_state ds (with_states cs g (contents told (put s.cells)) b.slot)) (with_states cs g (contents told (put s.cells)))
      (contents told (put (with_cells (cell_slots told g ++ slot_if_cell k b.slot) cs s.cells)))
      (ap (with_state ds) (replaced cs g w.1 b.slot)
      ∙ ap (λ n. with_state (drop n cs) (content_in k b.slot over (put held))) (length-cells told (put s.cells) g)
      ∙ put_by-here k b.slot over es held within
      ∙ ap (λ held. content_in k b.slot over (put held)) (sym (put_by-last k (cell_slots told g) b.slot cs s.cells)))
      (λ i ne.
      replaced cs g w.1 i
      ∙ sym (cells-other (told i).kind i (told i).over (put_by k b.slot es held) c (put held) (put_by-get k b.slot i es held ne))
      ∙ ap (λ held. content_in (told i).kind i (told i).over (put held)) (sym (put_by-last k (cell_slots told g) b.slot cs s.cells)))
      j

-- names that are told of have slots of the memory
module _ (told : ℕ → Told) (slots : ℕ) (s : Memory) (c : Coming) (long : length s.cells ≡ slots) where
  within-names : (bs : List Sighted) (g : SlotSight) → IsToldIn told slots bs → AreWithin told s c g → AreWithin told s c (with_names bs g)
  within-names [] g h w = w
  within-names (b ∷ bs) g h w = within-names bs (Name (placed_name b) ∷ g) h.2 (subst (λ n. b.slot < n) (sym long) h.1, w)

  pub are_within : (fs : Sight) → IsTold told slots fs → AreWithin told s c (in_slots fs)
  are_within [] h = tt
  are_within (f ∷ fs) h = within-names f (Mark ∷ in_slots fs) h.0 (are_within fs h.1)

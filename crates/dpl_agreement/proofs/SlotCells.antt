-- Cells in slots: their states in order, the number of each, and all of them replaced by what a history leaves.
-- They are numbered from the first declared on, hidden ones too.
use Rattle.std.proofs.Common.{◌≡◌, ℕ, true, false, List, [], ◌∷◌, ◌++◌, refl, sym, ap, ◌∙◌, Some, length, drop}
use Rattle.std.specs.Prelude.{bytes_eq, ◌==◌, if◌then◌else◌}
use Rattle.dpl_history.specs.declared.cell.CellState.{CellState}
use Rattle.dpl_history.specs.declared.cell.CellState.TheVariants.{Empty}
use Rattle.dpl_language.specs.Environment.{Content, Plain, ArrayOf, CellOf}
use Rattle.dpl_language.specs.Names.{Text, Opened, Declared, cell_in, store_cells, cell_number, set_cell, with_cells, state_in}
use Rattle.dpl_agreement.proofs.Slots.{Bound, Mark, Name, Sight, slot_of, IsFresh, IsApart, Slots, set_slot, spelled, store_at, same_slot, other_slot, set_slot_other, slot_of-apart, declared-slot}
use Rattle.dpl_agreement.proofs.SlotDomains.{OverResolves, Overs, Overs-set, some_same}

-- BY SLOTS
abbrev pub cell_of : Content Bound → List CellState
cell_of (Plain v) = []
cell_of (ArrayOf over k rs vs) = []
cell_of (CellOf k c) = c ∷ []

abbrev pub state_of : Content Bound → CellState
state_of (Plain v) = Empty
state_of (ArrayOf over k rs vs) = Empty
state_of (CellOf k c) = c

abbrev pub with_state : List CellState → Content Bound → Content Bound
with_state cs (Plain v) = Plain v
with_state cs (ArrayOf over k rs vs) = ArrayOf over k rs vs
with_state [] (CellOf k c) = CellOf k c
with_state (new ∷ cs) (CellOf k c) = CellOf k new

abbrev pub cells_of : Slots → Sight → List CellState
cells_of m [] = []
cells_of m (Mark ∷ g) = cells_of m g
cells_of m (Name b ∷ g) = cells_of m g ++ cell_of (m b.slot)

-- the number of a cell's slot
abbrev pub number_of : ℕ → Slots → Sight → ℕ
number_of k m [] = 0
number_of k m (Mark ∷ g) = number_of k m g
number_of k m (Name b ∷ g) = if k == b.slot then length (cells_of m g) else number_of k m g

-- the slots with these states of all cells that are in sight
abbrev pub with_states : List CellState → Sight → Slots → Slots
with_states cs [] m = m
with_states cs (Mark ∷ g) m = with_states cs g m
with_states cs (Name b ∷ g) m = set_slot b.slot (with_state (drop (length (cells_of m g)) cs) (with_states cs g m b.slot)) (with_states cs g m)

-- ONE CONTENT
pub cell_in-spelled : (c : Content Bound) → cell_in (spelled c) ≡ cell_of c
cell_in-spelled (Plain v) = refl
cell_in-spelled (ArrayOf over k rs vs) = refl
cell_in-spelled (CellOf k c) = refl

pub state_in-spelled : (c : Content Bound) → state_in (spelled c) ≡ state_of c
state_in-spelled (Plain v) = refl
state_in-spelled (ArrayOf over k rs vs) = refl
state_in-spelled (CellOf k c) = refl

pub set_cell-spelled : (cs : List CellState) (c : Content Bound) → set_cell cs (spelled c) ≡ spelled (with_state cs c)
set_cell-spelled cs (Plain v) = refl
set_cell-spelled cs (ArrayOf over k rs vs) = refl
set_cell-spelled [] (CellOf k c) = refl
set_cell-spelled (new ∷ cs) (CellOf k c) = refl

pub with_state-resolves : (names : ℕ → Text) (cs : List CellState) (c : Content Bound) (s : Sight) → OverResolves names c s → OverResolves names (with_state cs c) s
with_state-resolves names cs (Plain v) s r = tt
with_state-resolves names cs (ArrayOf over k rs vs) s r = r
with_state-resolves names [] (CellOf k c) s r = tt
with_state-resolves names (new ∷ cs) (CellOf k c) s r = tt

-- THE CELLS IN ORDER
pub store_cells-slots : (m : Slots) (g : Sight) → store_cells (store_at m g) ≡ cells_of m g
store_cells-slots m [] = refl
store_cells-slots m (Mark ∷ g) = store_cells-slots m g
store_cells-slots m (Name b ∷ g) =
    ap (λ cs. cs ++ cell_in (spelled (m b.slot))) (store_cells-slots m g) ∙ ap (λ cs. cells_of m g ++ cs) (cell_in-spelled (m b.slot))

-- THE NUMBER OF A CELL
pub cell_number-slots : (x : Bound) (m : Slots) (g : Sight) → IsApart g → slot_of x.text g ≡ Some x.slot → cell_number x.text (store_at m g) ≡ number_of x.slot m g
cell_number-slots x m [] a = λ e. cc
cell_number-slots x m (Mark ∷ g) a = cell_number-slots x m g a
cell_number-slots x m (Name b ∷ g) a =
    elim (bytes_eq x.text b.text) as (λ t. (if t then Some b.slot else slot_of x.text g) ≡ Some x.slot
    → (if t then length (store_cells (store_at m g)) else cell_number x.text (store_at m g)) ≡ number_of x.slot m (Name b ∷ g)) [
      | true ↦ λ e.
          ap length (store_cells-slots m g)
          ∙ ap (λ t. if t then length (cells_of m g) else number_of x.slot m g) (sym (ap (λ k. x.slot == k) (some_same b.slot x.slot e) ∙ same_slot x.slot))
      | false ↦ λ e.
          cell_number-slots x m g a.1 e
          ∙ ap (λ t. if t then length (cells_of m g) else number_of x.slot m g) (sym (other_slot x.slot b.slot (λ same. slot_of-apart x.text g b.slot x.slot a.0 e (sym same))))
    ]

-- ALL STATES REPLACED
with_states-other : (j : ℕ) (cs : List CellState) (g : Sight) (m : Slots) → IsFresh j g → with_states cs g m j ≡ m j
with_states-other j cs [] m h = refl
with_states-other j cs (Mark ∷ g) m h = with_states-other j cs g m h
with_states-other j cs (Name b ∷ g) m h =
    set_slot_other j b.slot (with_state (drop (length (cells_of m g)) cs) (with_states cs g m b.slot)) (with_states cs g m) h.0 ∙ with_states-other j cs g m h.1

pub with_cells-slots : (cs : List CellState) (g : Sight) (m : Slots) → IsApart g → with_cells cs (store_at m g) ≡ store_at (with_states cs g m) g
with_cells-slots cs [] m a = refl
with_cells-slots cs (Mark ∷ g) m a = ap (λ es. Opened ∷ es) (with_cells-slots cs g m a)
with_cells-slots cs (Name b ∷ g) m a =
    let ds : List CellState = drop (length (cells_of m g)) cs in
    ap (λ es. Declared (record { name = b.text; content = set_cell (drop (length es) cs) (spelled (m b.slot)) }) ∷ with_cells cs (store_at m g)) (store_cells-slots m g)
    ∙ ap (λ c. Declared (record { name = b.text; content = c }) ∷ with_cells cs (store_at m g))
    (set_cell-spelled ds (m b.slot) ∙ ap (λ d. spelled (with_state ds d)) (sym (with_states-other b.slot cs g m a.0)))
    ∙ ap (λ es. Declared (record { name = b.text; content = spelled (with_state ds (with_states cs g m b.slot)) }) ∷ es) (with_cells-slots cs g m a.1)
    ∙ declared-slot b (with_state ds (with_states cs g m b.slot)) g (with_states cs g m) a.0

pub Overs-with_states : (names : ℕ → Text) (cs : List CellState) (h : Sight) (m : Slots) (g : Sight) → Overs names m g → Overs names (with_states cs h m) g
Overs-with_states names cs [] m g o = o
Overs-with_states names cs (Mark ∷ h) m g o = Overs-with_states names cs h m g o
Overs-with_states names cs (Name b ∷ h) m g o =
    Overs-set names (with_states cs h m) b.slot (with_state (drop (length (cells_of m h)) cs)) (with_state-resolves names (drop (length (cells_of m h)) cs)) g (Overs-with_states names cs h m g o)

-- Rows of the definitions, by computation.
-- The whole table of operations, and histories and looks that are as they should be, or are not.
use Rattle.std.proofs.Common.{◌≡◌, ℕ, zero, suc, ◌<◌, ◌≤◌, nat_abs, pos, List, [], ◌∷◌, Option, Some, None, get_or, refl, ap, inl, inr, ⊎_elim, arith}
use Rattle.std.proofs.lemmas.List.Elements.{All-nil, All-cons}
use Rattle.dpl_history.specs.declared.cell.Reply.{Reply}
use Rattle.dpl_history.specs.declared.cell.CellState.{CellState}
use Rattle.dpl_history.specs.declared.cell.CellState.TheVariants.{Empty, Full}
use Rattle.dpl_history.specs.declared.cell.CellOp.TheVariants.{ReadFE, ReadFF, WriteEF, WriteFF, WriteXF, Reset}
use Rattle.dpl_history.specs.declared.cell.Reply.TheVariants.{Value, Done}
use Rattle.dpl_history.specs.declared.history.Event.{Event}
use Rattle.dpl_history.specs.Cells.{effect}
use Rattle.dpl_history.specs.Histories.{event, after, Legal, of_task, AllUpTo}
use Rattle.dpl_history.specs.Looks.{miss, Agrees}
use Rattle.dpl_history.specs.Values.{values_in, values_out}
use Rattle.dpl_history.proofs.Replies.{no_effect}

-- the value that an effect replies, if it replies one
abbrev value_of : Option (CellState × Reply) → ℕ
value_of None = 0
value_of (Some (c, Value v)) = nat_abs v
value_of (Some (c, Done)) = 0

abbrev five : CellState
five = Full (pos 5)

-- Each operation on an empty cell, and on a full one

readFE_of_empty : effect ReadFE Empty ≡ None
readFE_of_empty = refl

readFE_of_full : effect ReadFE five ≡ Some (Empty, Value (pos 5))
readFE_of_full = refl

readFF_of_empty : effect ReadFF Empty ≡ None
readFF_of_empty = refl

readFF_of_full : effect ReadFF five ≡ Some (five, Value (pos 5))
readFF_of_full = refl

writeEF_of_empty : effect (WriteEF (pos 7)) Empty ≡ Some (Full (pos 7), Done)
writeEF_of_empty = refl

writeEF_of_full : effect (WriteEF (pos 7)) five ≡ None
writeEF_of_full = refl

writeFF_of_empty : effect (WriteFF (pos 7)) Empty ≡ None
writeFF_of_empty = refl

writeFF_of_full : effect (WriteFF (pos 7)) five ≡ Some (Full (pos 7), Done)
writeFF_of_full = refl

writeXF_of_empty : effect (WriteXF (pos 7)) Empty ≡ Some (Full (pos 7), Done)
writeXF_of_empty = refl

writeXF_of_full : effect (WriteXF (pos 7)) five ≡ Some (Full (pos 7), Done)
writeXF_of_full = refl

reset_of_empty : effect Reset Empty ≡ Some (Empty, Done)
reset_of_empty = refl

reset_of_full : effect Reset five ≡ Some (Empty, Done)
reset_of_full = refl

-- Task 0 writes 9 into the first of two cells, task 1 takes it out, and task 0 reads the second cell, which stays full.

abbrev cells : List CellState
cells = Empty ∷ Full (pos 4) ∷ []

abbrev wrote : Event
wrote = event 0 0 (WriteEF (pos 9)) Done

abbrev took : Event
took = event 1 0 ReadFE (Value (pos 9))

abbrev read : Event
read = event 0 1 ReadFF (Value (pos 4))

abbrev history : List Event
history = wrote ∷ took ∷ read ∷ []

history_is_legal : Legal cells history
history_is_legal = ((omega arith, (Full (pos 9), refl)), ((omega arith, (Empty, refl)), ((omega arith, (Full (pos 4), refl)), tt)))

history_leaves : after cells history ≡ Empty ∷ Full (pos 4) ∷ []
history_leaves = refl

first_task_did : of_task 0 history ≡ wrote ∷ read ∷ []
first_task_did = refl

abbrev P : Event → Type 0
P e = e.task ≤ 1

history_is_of_two : AllUpTo 1 history
history_is_of_two = All-cons P wrote (took ∷ read ∷ []) (omega arith) (All-cons P took (read ∷ []) (omega arith) (All-cons P read [] (omega arith) (All-nil P)))

-- taken out before it was written
taken_too_early : Legal cells (took ∷ []) → ⊥
taken_too_early p = no_effect _ p.0.1.1

-- a reply that the cell doesn't have
reply_of_nowhere : Legal cells (event 0 1 ReadFF (Value (pos 5)) ∷ []) → ⊥
reply_of_nowhere p = let e : 4 ≡ 5 = ap value_of p.0.1.1 in omega (arith, e)

-- there is no cell 2
beyond_the_cells : Legal cells (event 0 2 Reset Done ∷ []) → ⊥
beyond_the_cells p = let h = p.0.0 in omega arith

-- Looks: the cell 0 is empty before the first event and full after it

seen_empty_at_first : Agrees cells history (miss 1 0 0 0)
seen_empty_at_first = (omega arith, inl refl)

seen_full_after_one : Agrees cells history (miss 0 1 0 1)
seen_full_after_one = (omega arith, inl refl)

seen_empty_after_one : Agrees cells history (miss 0 1 0 0) → ⊥
seen_empty_after_one a = ⊎_elim (λ t. omega (arith, t)) (λ t. let h = t.0 in omega arith) a.1

-- busy, in the midst of the operation that took 9 out
seen_busy : Agrees cells history (miss 0 1 0 2)
seen_busy = (omega arith, inr (refl, (0, took, omega arith, refl, refl)))

nothing_left : (i : ℕ) (x : Event) → i < 1 → get_or (read ∷ []) i x ≡ x → x.cell ≡ 0 → ⊥
nothing_left zero x h e at = let c : 1 ≡ x.cell = ap (λ (y : Event). y.cell) e in omega arith
nothing_left (suc i) x h e at = omega arith

-- no operation on the cell 0 comes after the second event
seen_busy_too_late : Agrees cells history (miss 0 2 0 2) → ⊥
seen_busy_too_late a = ⊎_elim (λ t. omega (arith, t)) (λ t. nothing_left t.1.0 t.1.1 t.1.2 t.1.3 t.1.4) a.1

seen_after_the_end : Agrees cells history (miss 0 4 0 0) → ⊥
seen_after_the_end a = let h = a.0 in omega arith

-- Values: 9 goes into the cell 0 and comes out again; reading the cell 1 takes nothing out

first_cell_gets : values_in 0 history ≡ pos 9 ∷ []
first_cell_gets = refl

first_cell_gives : values_out 0 history ≡ pos 9 ∷ []
first_cell_gives = refl

second_cell_gives : values_out 1 history ≡ []
second_cell_gives = refl

-- A resolved program runs in a memory as it runs by names.
-- Each step of the one is a step of the other where a name has the kind and the slot of its innermost declaration and holds its kind.
use Rattle.std.proofs.Common.{◌≡◌, ◌≢◌, ℕ, ◌<◌, ℤ, ◌++◌, pos, true, false, List, [], ◌∷◌, refl, sym, ap, ◌∙◌, subst, Some, None, Option, map, length, drop}
use Rattle.std.specs.Prelude.{All, Ok, unwrap_or, option_map, bytes_eq, int_lt, if◌then◌else◌, get_or, set}
use Rattle.std.specs.Option.{option_or}
use Rattle.std.proofs.lemmas.Slice.Eq.{bytes_eq-Decides}
use Rattle.std.proofs.lemmas.List.{get_or-set_same, get_or-set_other, length-set, length-replicate, map-append, append-nil, append_assoc}
use Rattle.std.proofs.lemmas.List.Elements.{All-weaker}
use Rattle.dpl_history.specs.declared.cell.CellState.{CellState}
use Rattle.dpl_history.specs.declared.cell.CellState.TheVariants.{Empty}
use Rattle.dpl_history.specs.declared.cell.CellOp.{CellOp}
use Rattle.dpl_history.specs.declared.cell.Reply.{Reply}
use Rattle.dpl_history.specs.declared.cell.Reply.TheVariants.{Value as Given, Done as NoValue}
use Rattle.dpl_history.specs.declared.history.Event.{Event}
use Rattle.dpl_history.specs.Cells.{effect}
use Rattle.dpl_history.specs.Histories.{after}
use Rattle.dpl_sets.specs.TextRanges.{TextRange}
use Rattle.dpl_language.specs.Tree.{Op, Kind, IntKind, BoolKind, Assign, Set, SetAdd, SetSubtract, SetMultiply, SetDivide, SetRemainder, SetReduce, ItemTree, Stmts, ProgramTree}
use Rattle.dpl_language.specs.Values.{Value, Int, Range, Locale, Domain, Tuple, Index, index_of, ranges_in, array_domain, is_domain, is_distributed, cell_kind, kept_number}
use Rattle.dpl_language.specs.Distributions.{Root, no_root}
use Rattle.dpl_language.specs.Arithmetic.{assigned}
use Rattle.dpl_language.specs.Outcome.{Deeds, no_deeds, Outcome, Done, Stop, Waits}
use Rattle.dpl_language.specs.Environment.{Content, Plain, ArrayOf, CellOf, Replied, Unanswered, Limits}
use Rattle.dpl_language.specs.Phrases.{ReadTree, item_read}
use Rattle.dpl_language.specs.Expressions.{item_of, whole_item}
use Rattle.dpl_language.specs.Assignments.{reply_value}
use Rattle.dpl_language.specs.Statements.{exec_all}
use Rattle.dpl_language.specs.Names.{Text, Opened, Declared, Store, State, paired, innermost as root_of_name, look_up, change_in, element_at, with_element, without_innermost, value_in as name_value, update_in, element_in, put_in, set_cell, state_in, store_cells, cell_number, with_cells as with_cells_named, effect_on, call_in, redomain_in, arrays_over as named_arrays, by_name}
use Rattle.dpl_language.specs.Program.{first_state, meaning, top_level, own_entry, own_frame, left, written}
use Rattle.dpl_agreement.specs.Renamed.{renamed_content, renamed_item, renamed_intents, renamed_stmts, renamed_program}
use Rattle.dpl_agreement.specs.Scopes.{Form, PlainForm, ArrayForm, CellForm, form_of, IsLawful, after_all, fits_all}
use Rattle.dpl_agreement.specs.Agreement.{AnswersAlike, MayRead, WasDomain, Simulates, EndsAlike}
use Rattle.dpl_agreement.proofs.Slots.{Bound as SlotBound, Name, IsFresh, set_slot, spelled, store_at, store_at-set, slot_of, slot_of-apart, look_up-slot, change_in-slot, declared-slot, without_innermost-store_at}
use Rattle.dpl_agreement.proofs.SlotRoots.{Roots, set_root, roots_at, root-slot, declared-root, deal-slot, left-roots}
use Rattle.dpl_agreement.proofs.SlotDomains.{OverNamed, OverResolves, Overs, Overs-declare, Overs-without_frame, redomain_in-slots, arrays_over-slots}
use Rattle.dpl_agreement.proofs.SlotsAgree.{updated, with_value_at as with_element_at, put-spelled}
use Rattle.dpl_agreement.proofs.RunsAlike.{EndsAlike-weaker, settled-alike, written-alike}
use Rattle.dpl_agreement.proofs.Through.{through, item_of-through_at, item_of-through, domain_of-through, whole_item-through, exec_all-through}
use Rattle.dpl_agreement.proofs.ProgramsAlike.{run_from}
use Rattle.dpl_agreement.proofs.Agreement.{exec_all-alike}
use Rattle.dpl_sound.specs.Typed.{AreRanked}
use Rattle.dpl_sound.proofs.Wholes.{item_read-whole}
use Rattle.dpl_words.specs.Words.{IntLeaf, TruthLeaf, RangeLeaf, LocaleLeaf, no_range, is_true, intent_at, set_at, given_as}
use Rattle.dpl_words.proofs.OfKind.{given-kind}
use Rattle.dpl_memory.specs.Memory.{VariableKind, PlainKind, DomainKind, TupleKind, ArrayKind, CellKind, Held, whole_held, Memory, is_among, redomained_from, no_domain, no_tuple, no_array, value_in, with_value_in, cell_at, with_cell, cells_at, with_cells, settled_in, with_replies, effect_in, called_by, array_at, held_with, Coming, element_in as element_in_memory, with_element_in, declared_array, root_in, with_root, undealt, renewed, anew, element_as, intents_by_slot, redomained_in, is_some_array, intended, given_in, in_memory}
use Rattle.dpl_memory.specs.Resolved.{Bound, Sighted, Sight, known_in, innermost, text_of, variable_of, written_over, if_domain, domain_among, over_of, sighted, arrays_over, names_in_order, left_in, entry_in, declared_in, frame_in, own_store, store_in, content_in, IsUnused, AreUnused, bind, without_frame, Seen, first_seen, cells_in, before, HasCells, AreKnown, CallResolves, IsCellOf, MaySpan, IsOf, IsWhole, HasShape, MayHold, Shape, no_shape, IsShaped, HasNoArray, GivesOnce, SuitsKind, OrReplies, IsElement, ArraysResolve, IsNew, OverResolves as OverIsFound, Holds, kind_takes, KindCombines, IntentResolves, Resolves, MayDeclare, IsGivenAs, Start, resolving, first_memory, HasSlots, AreToCome, StandsFor}
use Rattle.dpl_memory.proofs.Roots.{IsAsFar, far-set_in, far-element, far-array, far-redomained, far-undealt, roots-set_in, roots-element, roots-array, roots-redomained, content_in-root, slots-root, root_in-other, root_in-same, content_in-undealt, slots-undealt, words-undealt, value_in-undealt, whole-undealt, root_in-undealt_here, root_in-undealt_other, roots_at-each, set_root-each, roots_at-unused}
use Rattle.dpl_agreement.proofs.SlotCells.{state_of, with_state, with_states, state_in-spelled, set_cell-spelled, store_cells-slots, cell_number-slots, with_cells-slots}
use Rattle.dpl_memory.proofs.Cells.{cell_slots, cell_slots-in_slots, cells-slots, number-slots, cell-put, cells-other, cells-value, cell-shape, cells-slotted, length-with_cells, replaced, are_within}
use Rattle.dpl_memory.proofs.Elements.{element_at-words, with_element-words, elements-kept, assigned-element}
use Rattle.dpl_memory.proofs.OfKind.{content_in-set_same, content_in-set_other, content_in-array_same, content_in-array_other, content_in-moved, slots-moved, slots-set, slots-array, intents-set_in, sets-set_in, value_in-array, value_in-plain, value_in-domain, assigned-of}
use Rattle.dpl_memory.proofs.InSight.{placed, placed_over, placed_name, in_slots, IsOpen, IsOpen-bind, AreApart, AreApart-bind, AreApart-without_frame, IsApart-in_slots, slot_of-innermost, IsFresh-in_slots, in_slots-bind, in_slots-without_frame, without_frame-bind, Told, told_of, texts_of, IsTold, Finds, innermost-told, with_told, with_told_here, with_told_other, IsTold-after, IsTold-bind, IsTold-without_frame, contents, over_text-placed, store_at-contents, store_at-each, store_at-intend, set_slot-each, Overs-contents, Overs-each}
use Rattle.dpl_memory.proofs.OverShapes.{KnownBy, OverKnown, OversShaped, over-after, OversShaped-after, OversShaped-bind, OversShaped-without_frame, arrays-shaped}
use Rattle.dpl_memory.proofs.Shapes.{HasToldShape, IsShapedBy, told-shaped, shaped-told, shaped-changed, shaped-declared, shaped-set, assigned-shaped, shaped-element, shaped-array, shaped-redomained, shaped-intended, shaped-moved, shaped-root, given-shaped}
use Rattle.dpl_memory.proofs.Wholes.{AreWhole, whole-set, whole-element, whole-declared, whole-redomained, whole-first}
use Rattle.dpl_memory.proofs.Domains.{OverNamed-texts, Overs-texts, OverFits, FitIn, Fit, Tells, arrays_over-tells, any_over-told, redomained-slots, redomained-intents, store-redomained}

-- the root of each slot, by what is told of it
abbrev roots_by : (ℕ → Told) → List Root → Roots
roots_by told rs j = root_in (told j).kind j rs

-- a name is found behind its declaration
known_in-append : (x : Bound) (form : Form Bound) (bs : List Sighted) → known_in x.text (bs ++ sighted x form ∷ []) ≡ Some (x.variable.kind, x.variable.slot, x.shape)
known_in-append x form [] =
    ap (λ t. if t then Some (x.variable.kind, x.variable.slot, x.shape) else None) ((bytes_eq-Decides x.text x.text).1 refl)
known_in-append x form (b ∷ bs) = ap (λ o. option_or o (if bytes_eq x.text b.text then Some (b.kind, b.slot, b.shape) else None)) (known_in-append x form bs)

innermost-bind : (x : Bound) (form : Form Bound) (fs : Sight) → innermost x.text (bind (sighted x form) fs) ≡ Some (x.variable.kind, x.variable.slot, x.shape)
innermost-bind x form [] = ap (λ o. option_or o None) (known_in-append x form [])
innermost-bind x form (f ∷ fs) = ap (λ o. option_or o (innermost x.text fs)) (known_in-append x form f)

-- THE RELATION: it is told of each slot in sight what it is, and the slots stand for the store
pub record Kept (start : Start) (g : Seen) (s1 : State) (s2 : Memory) : Type 0 where
  pub told : ℕ → Told
  pub is_told : IsTold told start.slots g.frames
  pub fit : Fit g.frames
  pub overs_shaped : OversShaped told g.frames
  pub opened : IsOpen g.frames
  pub apart : AreApart g.frames
  pub overs : Overs (texts_of told) (contents told s2) (in_slots g.frames)
  pub store : s1.store ≡ store_at (contents told s2) (in_slots g.frames)
  pub roots : s1.roots ≡ roots_at (roots_by told s2.roots) (in_slots g.frames)
  pub slots : HasSlots start.slots s2
  pub intents : s1.intents ≡ renamed_intents text_of g.intents
  pub intents_by_slots : s2.words.intents ≡ intents_by_slot (renamed_intents variable_of g.intents)
  pub cells : length s2.cells ≡ start.cells
  pub here : s1.here ≡ s2.here
  pub replies : s1.replies ≡ s2.coming.replies
  pub histories : AreToCome start.histories s1.histories s2.coming.histories
  pub texts : s1.sets ≡ start.texts
  pub words : s2.words.sets ≡ start.words
  pub shaped : IsShapedBy told s2
  pub whole : AreWhole s2

-- the histories that are to come stay
still_to_come : (o : Option (List (List Event))) (hs : List (List Event)) (s u : Memory) → u.coming ≡ s.coming → AreToCome o hs s.coming.histories → AreToCome o hs u.coming.histories
still_to_come o hs s u e h = subst (λ (c : Coming). AreToCome o hs c.histories) (sym e) h

to_come-same : (o : Option (List (List Event))) (hs is : List (List Event)) → AreKnown o → AreToCome o hs is → hs ≡ is
to_come-same None hs is known h = absurd known
to_come-same (Some first) hs is known h = h

fewer-to_come : (o : Option (List (List Event))) (hs is : List (List Event)) → AreToCome o hs is → AreToCome o (drop 1 hs) (drop 1 is)
fewer-to_come None hs is h = tt
fewer-to_come (Some first) hs is h = ap (drop 1) h

-- a cell has no root
cell-rootless : (kind : VariableKind) (k : Kind) (slot : ℕ) (roots : List Root) → IsCellOf kind k → root_in kind slot roots ≡ no_root
cell-rootless (PlainKind l) k slot roots is = refl
cell-rootless DomainKind k slot roots is = absurd is
cell-rootless TupleKind k slot roots is = refl
cell-rootless (ArrayKind l) k slot roots is = absurd is
cell-rootless (CellKind l) k slot roots is = refl

resolving-lawful : (start : Start) → IsLawful (resolving start)
resolving-lawful start = record {
  leave-enter = λ g. refl;
  leave-add = λ x form g. ap (λ fs. record { frames = fs; intents = g.intents }) (without_frame-bind (sighted x form) g.frames);
  reads-add = λ x form g d. innermost-bind x form g.frames;
}

-- names that are in sight behind a declaration, or behind a scope, are over what they were over
FitIn-append : (x : Sighted) (bs : List Sighted) → FitIn bs → OverFits x.kind x.over → FitIn (bs ++ x ∷ [])
FitIn-append x [] h f = (f, tt)
FitIn-append x (b ∷ bs) h f = (h.0, FitIn-append x bs h.1 f)

Fit-bind : (x : Sighted) (fs : Sight) → Fit fs → OverFits x.kind x.over → Fit (bind x fs)
Fit-bind x [] h f = ((f, tt), tt)
Fit-bind x (b ∷ fs) h f = (FitIn-append x b h.0 f, h.1)

Fit-without_frame : (fs : Sight) → Fit fs → Fit (without_frame fs)
Fit-without_frame [] h = tt
Fit-without_frame (f ∷ fs) h = h.1

fits-none : (k : VariableKind) → OverFits k None
fits-none (ArrayKind k) = tt
fits-none _ = refl

fits-whole : (k : VariableKind) (over : Option Bound) → IsWhole k → OverFits k over
fits-whole (ArrayKind k) over w = tt
fits-whole _ over w = absurd w

-- ONE CONTENT
update_in-spelled : (op : Assign) (x : Bound) (g : Seen) (a b : Option Op) (v : Value) (c : Content SlotBound) → a ≡ paired x.text (renamed_intents text_of g.intents)
    → b ≡ intent_at x.variable.slot (intents_by_slot (renamed_intents variable_of g.intents)) → IntentResolves op x.text x.variable g → update_in op a v (spelled c) ≡ spelled (updated op b v c)
update_in-spelled op x g a b v (Plain w) p q i = ap (λ u. Plain u) (by_op op i)
  where
    by_op : (op : Assign) → IntentResolves op x.text x.variable g → assigned op a w v ≡ assigned op b w v
    by_op Set i = refl
    by_op SetAdd i = refl
    by_op SetSubtract i = refl
    by_op SetMultiply i = refl
    by_op SetDivide i = refl
    by_op SetRemainder i = refl
    by_op SetReduce i = ap (λ o. assigned SetReduce o w v) (p ∙ i.0 ∙ sym q)
update_in-spelled op x g a b v (ArrayOf over k rs vs) p q i = refl
update_in-spelled op x g a b v (CellOf k c) p q i = refl

-- the operator that reduces is one of the variable's kind
intent-combines : (op : Assign) (x : Bound) (g : Seen) → IntentResolves op x.text x.variable g → op ≡ SetReduce → KindCombines x.variable.kind (intent_at x.variable.slot (intents_by_slot (renamed_intents variable_of g.intents)))
intent-combines SetReduce x g i e = i.1
intent-combines _ x g i e = cc

-- a variable assigned: of a whole array nothing changes, since its elements are assigned one by one
updated-content : (k : VariableKind) (slot : ℕ) (over : Option SlotBound) (op : Assign) (b : Option Op) (v : Value) (slots : ℕ) (s : Memory)
    → ((IsWhole k → ⊥) → IsOf k (assigned op b (value_in k slot s) v)) → HasSlots slots s → slot < slots
    → updated op b v (content_in k slot over s) ≡ content_in k slot over (with_value_in k slot (assigned op b (value_in k slot s) v) s)
updated-content (PlainKind k) slot over op b v slots s p h within =
    sym (content_in-set_same (PlainKind k) slot over (assigned op b (value_in (PlainKind k) slot s) v) slots s (p (λ e. e)) (λ e. e) h within)
updated-content DomainKind slot over op b v slots s p h within =
    sym (content_in-set_same DomainKind slot over (assigned op b (value_in DomainKind slot s) v) slots s (p (λ e. e)) (λ e. e) h within)
updated-content TupleKind slot over op b v slots s p h within =
    sym (content_in-set_same TupleKind slot over (assigned op b (value_in TupleKind slot s) v) slots s (p (λ e. e)) (λ e. e) h within)
updated-content (ArrayKind k) slot over op b v slots s p h within = refl
updated-content (CellKind k) slot over op b v slots s p h within = refl

-- an element put: where the variable is no whole array nothing changes
put-content : (k : VariableKind) (slot : ℕ) (over : Option SlotBound) (t : Index) (v : Value) (slots : ℕ) (s : Memory) → IsOf k v → AreWhole s → HasSlots slots s → slot < slots
    → with_element_at t v (content_in k slot over s) ≡ content_in k slot over (with_element_in k slot t v s)
put-content (ArrayKind k) slot over t v slots s p whole h within =
    ap (λ is. ArrayOf over k (array_at slot s).ranges (with_element t v is (map (element_as k) (array_at slot s).words))) (sym (whole slot))
    ∙ ap (λ vs. ArrayOf over k (array_at slot s).ranges vs) (with_element-words k t v (array_at slot s).keys (array_at slot s).words p)
    ∙ sym (content_in-array_same k slot over (held_with t (kept_number v) (array_at slot s)) slots s h within)
put-content _ slot over t v slots s p whole h within = refl

put-other : (j k : VariableKind) (i slot : ℕ) (over : Option SlotBound) (t : Index) (v : Value) (s : Memory) → i ≢ slot → content_in j i over (with_element_in k slot t v s) ≡ content_in j i over s
put-other j (ArrayKind k) i slot over t v s ne = content_in-array_other j i slot over (held_with t (kept_number v) (array_at slot s)) s ne
put-other j _ i slot over t v s ne = refl

slots-element : (k : VariableKind) (slot : ℕ) (t : Index) (v : Value) (slots : ℕ) (s : Memory) → HasSlots slots s → HasSlots slots (with_element_in k slot t v s)
slots-element (ArrayKind k) slot t v slots s h = slots-array slot (held_with t (kept_number v) (array_at slot s)) slots s h
slots-element _ slot t v slots s h = h

words-element : (k : VariableKind) (slot : ℕ) (t : Index) (v : Value) (s : Memory) → (with_element_in k slot t v s).words ≡ s.words
words-element (PlainKind k) slot t v s = refl
words-element _ slot t v s = refl

name_value-spelled : (k : VariableKind) (slot : ℕ) (over : Option SlotBound) (s : Memory) → name_value (spelled (content_in k slot over s)) ≡ value_in k slot s
name_value-spelled (PlainKind k) slot over s = refl
name_value-spelled _ slot over s = refl

element-spelled : (k : VariableKind) (slot : ℕ) (over : Option SlotBound) (t : Index) (s : Memory) → AreWhole s → element_in t (spelled (content_in k slot over s)) ≡ element_in_memory k slot t s
element-spelled (ArrayKind k) slot over t s whole =
    ap (λ is. element_at t is (map (element_as k) (array_at slot s).words)) (sym (whole slot)) ∙ element_at-words k t (array_at slot s).keys (array_at slot s).words
element-spelled _ slot over t s whole = refl

-- AN ARRAY DECLARED
abbrev made : List TextRange → List Value → Held
made rs vs = whole_held rs (map kept_number vs)

declared-content : (kind : VariableKind) (shape : Shape) (slot : ℕ) (over : Option SlotBound) (k : Kind) (rs : List TextRange) (vs : List Value) (slots : ℕ) (s : Memory) → MaySpan kind shape k rs → All (IsOf kind) vs → HasSlots slots s → slot < slots
    → content_in kind slot over (declared_array kind slot (made rs vs) s) ≡ ArrayOf over k rs vs
declared-content (ArrayKind l) shape slot over k rs vs slots s p q h within =
    content_in-array_same l slot over (made rs vs) slots s h within ∙ ap (λ vs. ArrayOf over l rs vs) (elements-kept l vs q) ∙ ap (λ k. ArrayOf over k rs vs) (sym p.0)
declared-content _ shape slot over k rs vs slots s p q h within = absurd p

declared-other : (j kind : VariableKind) (i slot : ℕ) (over : Option SlotBound) (a : Held) (s : Memory) → i ≢ slot → content_in j i over (declared_array kind slot a s) ≡ content_in j i over s
declared-other j (ArrayKind l) i slot over a s ne = content_in-array_other j i slot over a s ne
declared-other j _ i slot over a s ne = refl

slots-declared : (kind : VariableKind) (slot : ℕ) (a : Held) (slots : ℕ) (s : Memory) → HasSlots slots s → HasSlots slots (declared_array kind slot a s)
slots-declared (ArrayKind l) slot a slots s h = slots-array slot a slots s h
slots-declared _ slot a slots s h = h

words-declared : (kind : VariableKind) (slot : ℕ) (a : Held) (s : Memory) → (declared_array kind slot a s).words ≡ s.words
words-declared (PlainKind l) slot a s = refl
words-declared _ slot a s = refl

-- SLOTS THAT BEGIN ANEW
content_in-renewed_other : {N : Type 0} (k : VariableKind) (j slot : ℕ) (over : Option N) (s : Memory) → j ≢ slot → content_in k j over (renewed slot s) ≡ content_in k j over s
content_in-renewed_other (PlainKind IntLeaf) j slot over s ne = ap (λ n. Plain (Int n)) (get_or-set_other s.words.numbers slot j (pos 0) (pos 0) ne)
content_in-renewed_other (PlainKind LocaleLeaf) j slot over s ne = ap (λ n. Plain (Locale n)) (get_or-set_other s.words.numbers slot j (pos 0) (pos 0) ne)
content_in-renewed_other (PlainKind TruthLeaf) j slot over s ne = ap (λ n. Plain (is_true n)) (get_or-set_other s.words.numbers slot j (pos 0) (pos 0) ne)
content_in-renewed_other (PlainKind RangeLeaf) j slot over s ne = ap (λ r. Plain (Range r)) (get_or-set_other s.words.ranges slot j no_range no_range ne)
content_in-renewed_other DomainKind j slot over s ne = refl
content_in-renewed_other TupleKind j slot over s ne = ap (λ t. Plain (Tuple t)) (get_or-set_other s.tuples slot j no_tuple no_tuple ne)
content_in-renewed_other (ArrayKind k) j slot over s ne = refl
content_in-renewed_other (CellKind k) j slot over s ne = refl

slots-renewed : (slot slots : ℕ) (s : Memory) → HasSlots slots s → HasSlots slots (renewed slot s)
slots-renewed slot slots s h = record {
  numbers = length-set s.words.numbers slot (pos 0) ∙ h.numbers;
  ranges = length-set s.words.ranges slot no_range ∙ h.ranges;
  domains = h.domains;
  tuples = length-set s.tuples slot no_tuple ∙ h.tuples;
  arrays = h.arrays;
  roots = h.roots;
}

-- what is told of a slot that no name has
abbrev nameless : ℕ → Sighted
nameless slot = record { text = []; kind = PlainKind IntLeaf; slot = slot; shape = no_shape; over = None }

-- WHAT A NAME MAY HOLD
-- what an assignment makes of an element that is read
changed-held : (k : VariableKind) (shape : Shape) (op : Assign) (slot : ℕ) (t : Index) (s : Memory) (old w : Value) → element_in_memory k slot t s ≡ Some old → kind_takes k op ≡ true → IsOf k w → MayHold k shape (assigned op None old w)
changed-held (ArrayKind k) shape op slot t s old w e takes p = (assigned-element k op old w takes p, λ n. absurd (n tt))
changed-held _ shape op slot t s old w e takes p = cc

-- the value of a right side that is evaluated once, of no whole array
once-held : (k : VariableKind) (shape : Shape) (item : ItemTree Bound) (g : Seen) → (IsWhole k → ⊥) → SuitsKind k shape item g → GivesOnce k shape item g
once-held (ArrayKind k) shape item g n f = absurd (n tt)
once-held _ shape item g n f = f

-- of each name, where there is no whole array in it
scalar-held : (k : VariableKind) (shape : Shape) (item : ItemTree Bound) (g : Seen) → HasNoArray item → SuitsKind k shape item g → GivesOnce k shape item g
scalar-held (ArrayKind k) shape item g n f = f.0 n
scalar-held _ shape item g n f = f

-- the value of a turn, of whole arrays
turn-held : (limits : Limits) (k : VariableKind) (shape : Shape) (item : ItemTree Bound) (g : Seen) (s : Memory) (t : Index) (v : Value) → IsShaped g s → IsWhole k → SuitsKind k shape item g
    → item_of limits in_memory (renamed_item variable_of item) (Some t) s ≡ Ok v → MayHold k shape v
turn-held limits (ArrayKind k) shape item g s t v shaped whole f e = (f.1 limits s shaped t v e, λ n. absurd (n tt))
turn-held limits _ shape item g s t v shaped whole f e = absurd whole

-- what the command line gives
given-alike : (k : VariableKind) (x : Bound) (start : Start) (s : Memory) → s.words.sets ≡ start.words → IsGivenAs k x start → paired x.text start.texts ≡ given_in k x.variable.slot s
given-alike (PlainKind k) x start s e g = g ∙ ap (λ ws. option_map (given_as k) (set_at x.variable.slot ws)) (sym e)
given-alike _ x start s e g = absurd g

given-held : (k : VariableKind) (shape : Shape) (slot : ℕ) (s : Memory) (v : Value) → given_in k slot s ≡ Some v → MayHold k shape v
given-held (PlainKind k) shape slot s v e = (given-kind k (set_at slot s.words.sets) v e, λ n. given-shaped k shape (set_at slot s.words.sets) v e)
given-held _ shape slot s v e = cc

-- the value of a reply is one of its cell's kind
reply-element : (k : Kind) (a : Reply) → IsElement k (reply_value k a)
reply-element IntKind (Given z) = (z, refl)
reply-element BoolKind (Given z) = (int_lt (pos 0) z, refl)
reply-element IntKind NoValue = (pos 0, refl)
reply-element BoolKind NoValue = (false, refl)

-- the arrays that stand with a domain are those over it
arrays-known : (k : VariableKind) (x : Bound) (g : Seen) → k ≡ DomainKind → ArraysResolve k x g → x.variable.along ≡ arrays_over x.variable.slot g.frames
arrays-known DomainKind x g e a = a
arrays-known _ x g e a = cc

top_level-own : (t : Store) → own_frame (top_level t) ≡ top_level (own_store t)
top_level-own [] = refl
top_level-own (Opened ∷ es) = top_level-own es
top_level-own (Declared e ∷ es) = map-append own_entry (top_level es) (e ∷ []) ∙ ap (λ f. f ++ own_entry e ∷ []) (top_level-own es)

top_level-declared : (s : Memory) (bs : List Sighted) (es : Store) → top_level (declared_in s bs es) ≡ top_level es ++ frame_in s bs
top_level-declared s [] es = sym (append-nil (top_level es))
top_level-declared s (b ∷ bs) es = top_level-declared s bs (Declared (entry_in s b) ∷ es) ∙ append_assoc (top_level es) (entry_in s b ∷ []) (frame_in s bs)

top_level-store_in : (s : Memory) (fs : Sight) → top_level (store_in s fs) ≡ frame_in s (names_in_order fs)
top_level-store_in s [] = refl
top_level-store_in s (f ∷ fs) =
    top_level-declared s f (Opened ∷ store_in s fs) ∙ ap (λ es. es ++ frame_in s f) (top_level-store_in s fs) ∙ sym (map-append (entry_in s) (names_in_order fs) f)

module _ (start : Start) where
  -- A RESOLVED NAME: what is told of it, where it is placed, and what it holds
  finds : (x : Bound) (g : Seen) (s1 : State) (s2 : Memory) (r : Kept start g s1 s2) → Resolves x g → Finds r.told start.slots x.text (x.variable.kind, x.variable.slot, x.shape)
  finds x g s1 s2 r f = innermost-told r.told start.slots x.text (x.variable.kind, x.variable.slot, x.shape) g.frames r.is_told f

  -- each name in sight has a value of its shape
  shaped_sight : (g : Seen) (s1 : State) (s2 : Memory) → Kept start g s1 s2 → IsShaped g s2
  shaped_sight g s1 s2 r x f =
      let found = finds x g s1 s2 r f in
      told-shaped x.variable.kind x.shape (r.told x.variable.slot) x.variable.slot s2 found.kind found.shape (r.shaped x.variable.slot)

  placed_at : (x : Bound) (g : Seen) → Resolves x g → slot_of x.text (in_slots g.frames) ≡ Some x.variable.slot
  placed_at x g f = slot_of-innermost x.text (x.variable.kind, x.variable.slot, x.shape) g.frames f

  held : (x : Bound) (g : Seen) (s1 : State) (s2 : Memory) (r : Kept start g s1 s2) → Resolves x g
      → look_up x.text s1.store ≡ spelled (content_in x.variable.kind x.variable.slot (r.told x.variable.slot).over s2)
  held x g s1 s2 r f =
      ap (look_up x.text) r.store ∙ look_up-slot x.text x.variable.slot (in_slots g.frames) (contents r.told s2) (placed_at x g f)
      ∙ ap (λ k. spelled (content_in k x.variable.slot (r.told x.variable.slot).over s2)) (finds x g s1 s2 r f).kind

  value_alike : (x : Bound) (g : Seen) (s1 : State) (s2 : Memory) → Kept start g s1 s2 → Resolves x g → by_name.get x.text s1 ≡ value_in x.variable.kind x.variable.slot s2
  value_alike x g s1 s2 r f = ap name_value (held x g s1 s2 r f) ∙ name_value-spelled x.variable.kind x.variable.slot (r.told x.variable.slot).over s2

  element_alike : (x : Bound) (t : Index) (g : Seen) (s1 : State) (s2 : Memory) → Kept start g s1 s2 → Resolves x g → by_name.element x.text t s1 ≡ element_in_memory x.variable.kind x.variable.slot t s2
  element_alike x t g s1 s2 r f = ap (element_in t) (held x g s1 s2 r f) ∙ element-spelled x.variable.kind x.variable.slot (r.told x.variable.slot).over t s2 r.whole

  -- ONE SLOT CHANGED, and all else as it was
  changed_alike : (x : Bound) (a : Content Text → Content Text) (u : Content SlotBound → Content SlotBound) (new : Memory) (g : Seen) (s1 : State) (s2 : Memory) → Kept start g s1 s2 → Resolves x g
      → ((c : Content SlotBound) → a (spelled c) ≡ spelled (u c))
      → ((over : Option SlotBound) → u (content_in x.variable.kind x.variable.slot over s2) ≡ content_in x.variable.kind x.variable.slot over new)
      → ((k : VariableKind) (j : ℕ) (over : Option SlotBound) → j ≢ x.variable.slot → content_in k j over new ≡ content_in k j over s2)
      → HasSlots start.slots new → new.words.intents ≡ s2.words.intents → new.words.sets ≡ s2.words.sets → HasShape x.variable.kind x.shape (value_in x.variable.kind x.variable.slot new)
      → AreWhole new → new.roots ≡ s2.roots → IsAsFar new s2 → Kept start g (record s1 { store = change_in x.text a s1.store }) new
  changed_alike x a u new g s1 s2 r f p here other h i w shape whole same far =
      let slot = x.variable.slot in
      let over = (r.told slot).over in
      let found = finds x g s1 s2 r f in
      let kind = found.kind in
      record {
        told = r.told;
        is_told = r.is_told;
        fit = r.fit;
        overs_shaped = r.overs_shaped;
        opened = r.opened;
        apart = r.apart;
        overs = Overs-contents (texts_of r.told) r.told s2 new (in_slots g.frames) r.overs;
        store =
            ap (change_in x.text a) r.store ∙ change_in-slot x.text a u p (in_slots g.frames) (contents r.told s2) slot (IsApart-in_slots g.frames r.apart) (placed_at x g f)
            ∙ store_at-each (set_slot slot (u (contents r.told s2 slot)) (contents r.told s2)) (contents r.told new)
            (set_slot-each slot (u (contents r.told s2 slot)) (contents r.told s2) (contents r.told new)
            (ap (λ k. u (content_in k slot over s2)) kind ∙ here over ∙ sym (ap (λ k. content_in k slot over new) kind))
            (λ j ne. sym (other (r.told j).kind j (r.told j).over ne)))
            (in_slots g.frames);
        roots = r.roots ∙ ap (λ rs. roots_at (roots_by r.told rs) (in_slots g.frames)) (sym same);
        slots = h;
        intents = r.intents;
        intents_by_slots = i ∙ r.intents_by_slots;
        cells = far.cells ∙ r.cells;
        here = r.here ∙ sym far.here;
        replies = r.replies ∙ ap (λ (c : Coming). c.replies) (sym far.coming);
        histories = still_to_come start.histories s1.histories s2 new far.coming r.histories;
        texts = r.texts;
        words = w ∙ r.words;
        shaped = shaped-changed r.told slot s2 new r.shaped other (shaped-told x.variable.kind x.shape (r.told slot) slot new found.kind found.shape shape);
        whole = whole;
      }

  update_alike : (x : Bound) (op : Assign) (v : Value) (g : Seen) (s1 : State) (s2 : Memory) → Kept start g s1 s2 → Resolves x g → kind_takes x.variable.kind op ≡ true → IntentResolves op x.text x.variable g → MayHold x.variable.kind x.shape v
      → Kept start g (by_name.update x.text op v s1) (in_memory.update x.variable op v s2)
  update_alike x op v g s1 s2 r f t i p =
      let kind = x.variable.kind in
      let slot = x.variable.slot in
      let intent = intent_at slot s2.words.intents in
      changed_alike x (update_in op (paired x.text s1.intents) v) (updated op intent v) (in_memory.update x.variable op v s2) g s1 s2 r f
      (λ c. update_in-spelled op x g (paired x.text s1.intents) intent v c (ap (paired x.text) r.intents) (ap (intent_at slot) r.intents_by_slots) i)
      (λ over. updated-content kind slot over op intent v start.slots s2
      (λ n. assigned-of kind op intent (value_in kind slot s2) v n t (λ e. subst (λ is. KindCombines kind (intent_at slot is)) (sym r.intents_by_slots) (intent-combines op x g i e)) p.0)
      r.slots (finds x g s1 s2 r f).within)
      (λ k j over ne. content_in-set_other k kind j slot over (assigned op intent (value_in kind slot s2) v) s2 ne)
      (slots-set kind slot (assigned op intent (value_in kind slot s2) v) start.slots s2 r.slots)
      (intents-set_in kind slot (assigned op intent (value_in kind slot s2) v) s2)
      (sets-set_in kind slot (assigned op intent (value_in kind slot s2) v) s2)
      (shaped-set kind x.shape slot (assigned op intent (value_in kind slot s2) v) start.slots s2
      (λ n. assigned-of kind op intent (value_in kind slot s2) v n t (λ e. subst (λ is. KindCombines kind (intent_at slot is)) (sym r.intents_by_slots) (intent-combines op x g i e)) p.0)
      (assigned-shaped kind x.shape op intent (value_in kind slot s2) v t (λ e. subst (λ is. KindCombines kind (intent_at slot is)) (sym r.intents_by_slots) (intent-combines op x g i e)) p.1)
      (λ w. shaped_sight g s1 s2 r x f) r.slots (finds x g s1 s2 r f).within)
      (whole-set kind slot (assigned op intent (value_in kind slot s2) v) s2 r.whole) (roots-set_in kind slot (assigned op intent (value_in kind slot s2) v) s2)
      (far-set_in kind slot (assigned op intent (value_in kind slot s2) v) s2)

  put_alike : (x : Bound) (t : Index) (v : Value) (g : Seen) (s1 : State) (s2 : Memory) → Kept start g s1 s2 → Resolves x g → MayHold x.variable.kind x.shape v
      → Kept start g (by_name.put_element x.text t v s1) (in_memory.put_element x.variable t v s2)
  put_alike x t v g s1 s2 r f p =
      let kind = x.variable.kind in
      let slot = x.variable.slot in
      changed_alike x (put_in t v) (with_element_at t v) (in_memory.put_element x.variable t v s2) g s1 s2 r f (put-spelled t v)
      (λ over. put-content kind slot over t v start.slots s2 p.0 r.whole r.slots (finds x g s1 s2 r f).within)
      (λ k j over ne. put-other k kind j slot over t v s2 ne)
      (slots-element kind slot t v start.slots s2 r.slots)
      (ap (λ w. w.intents) (words-element kind slot t v s2))
      (ap (λ w. w.sets) (words-element kind slot t v s2))
      (shaped-element kind x.shape slot t v start.slots s2 r.slots (finds x g s1 s2 r f).within (shaped_sight g s1 s2 r x f))
      (whole-element kind slot t v s2 r.whole) (roots-element kind slot t v s2) (far-element kind slot t v s2)

  -- A CELL in its slot
  has_cell : (x : Bound) (g : Seen) (s1 : State) (s2 : Memory) → Kept start g s1 s2 → x.variable.slot < start.slots → HasCells start → x.variable.slot < length s2.cells
  has_cell x g s1 s2 r within cells = subst (λ n. x.variable.slot < n) (sym (r.cells ∙ cells)) within

  put_cell_alike : (x : Bound) (k : Kind) (c : CellState) (g : Seen) (s1 : State) (s2 : Memory) → Kept start g s1 s2 → Resolves x g → x.variable.kind ≡ CellKind k → HasCells start
      → Kept start g (record s1 { store = change_in x.text (set_cell (c ∷ [])) s1.store }) (with_cell x.variable.slot c s2)
  put_cell_alike x k c g s1 s2 r f is cells =
      let kind = x.variable.kind in
      let slot = x.variable.slot in
      let new = with_cell slot c s2 in
      let within = has_cell x g s1 s2 r (finds x g s1 s2 r f).within cells in
      changed_alike x (set_cell (c ∷ [])) (with_state (c ∷ [])) new g s1 s2 r f (set_cell-spelled (c ∷ []))
      (λ over. subst (λ kind. with_state (c ∷ []) (content_in kind slot over s2) ≡ content_in kind slot over new) (sym is) (ap (CellOf k) (sym (get_or-set_same s2.cells slot c Empty within))))
      (λ j i over ne. cells-other j i over (set s2.cells slot c) s2.coming s2 (get_or-set_other s2.cells slot i c Empty ne))
      (cells-slotted start.slots (set s2.cells slot c) s2.coming s2 r.slots) refl refl
      (subst (λ kind. HasShape kind x.shape (value_in kind slot new)) (sym is) tt) r.whole refl (record { cells = length-set s2.cells slot c; here = refl; coming = refl })

  -- the cell that a name holds, and its number
  cell_held : (x : Bound) (k : Kind) (g : Seen) (s1 : State) (s2 : Memory) → Kept start g s1 s2 → Resolves x g → x.variable.kind ≡ CellKind k → state_in (look_up x.text s1.store) ≡ cell_at x.variable.slot s2
  cell_held x k g s1 s2 r f is =
      ap state_in (held x g s1 s2 r f) ∙ state_in-spelled (content_in x.variable.kind x.variable.slot (r.told x.variable.slot).over s2)
      ∙ ap (λ kind. state_of (content_in kind x.variable.slot (r.told x.variable.slot).over s2)) is

  number_alike : (x : Bound) (k : Kind) (g : Seen) (s1 : State) (s2 : Memory) → Kept start g s1 s2 → Resolves x g → x.variable.kind ≡ CellKind k → x.variable.cells ≡ before x.variable.slot (cells_in g.frames)
      → length x.variable.cells ≡ cell_number x.text s1.store
  number_alike x k g s1 s2 r f is along =
      ap length along ∙ ap (λ js. length (before x.variable.slot js)) (sym (cell_slots-in_slots r.told start.slots g.frames r.is_told))
      ∙ sym (number-slots r.told s2 x.variable.slot k ((finds x g s1 s2 r f).kind ∙ is) x.text (in_slots g.frames) (IsApart-in_slots g.frames r.apart) (placed_at x g f))
      ∙ sym (ap (cell_number x.text) r.store ∙ cell_number-slots (placed x) (contents r.told s2) (in_slots g.frames) (IsApart-in_slots g.frames r.apart) (placed_at x g f))

  -- REPLIES that are given
  given_alike : (rs : List Reply) (g : Seen) (s1 : State) (s2 : Memory) → Kept start g s1 s2 → Kept start g (record s1 { replies = Some rs }) (with_replies rs s2)
  given_alike rs g s1 s2 r = record {
    told = r.told;
    is_told = r.is_told;
    fit = r.fit;
    overs_shaped = r.overs_shaped;
    opened = r.opened;
    apart = r.apart;
    overs = Overs-contents (texts_of r.told) r.told s2 (with_replies rs s2) (in_slots g.frames) r.overs;
    store =
        r.store ∙ store_at-each (contents r.told s2) (contents r.told (with_replies rs s2))
        (λ j. content_in-moved (r.told j).kind j (r.told j).over s2.here (record s2.coming { replies = Some rs }) s2) (in_slots g.frames);
    roots = r.roots;
    slots = slots-moved start.slots s2.here (record s2.coming { replies = Some rs }) s2 r.slots;
    intents = r.intents;
    intents_by_slots = r.intents_by_slots;
    cells = r.cells;
    here = r.here;
    replies = refl;
    histories = r.histories;
    texts = r.texts;
    words = r.words;
    shaped = shaped-moved r.told s2.here (record s2.coming { replies = Some rs }) s2 r.shaped;
    whole = r.whole;
  }

  -- AN OPERATION on a cell
  call_alike : (x : Bound) (op : CellOp) (g : Seen) (s1 : State) (s2 : Memory) → Kept start g s1 s2 → CallResolves start x g → AnswersAlike (Kept start g) (by_name.call x.text op s1) (in_memory.call x.variable op s2)
  call_alike x op g s1 s2 r f =
      subst (λ o. AnswersAlike (Kept start g) (call_in x.text op s1 o) (in_memory.call x.variable op s2)) (sym r.replies) (by_replies s2.coming.replies)
    where
      n : ℕ
      n = length x.variable.cells

      number : n ≡ cell_number x.text s1.store
      number = number_alike x f.1.0 g s1 s2 r f.0 f.1.1 f.2

      by_effect : (e : Option (CellState × Reply)) → AnswersAlike (Kept start g) (effect_on x.text s1 e) (effect_in n x.variable.slot s2 e)
      by_effect None = ap (λ n. Unanswered n) number
      by_effect (Some a) = (with_cell x.variable.slot a.0 s2, put_cell_alike x f.1.0 a.0 g s1 s2 r f.0 f.1.1 f.3, ap (λ n. Replied n a.1 (with_cell x.variable.slot a.0 s2)) number)

      by_replies : (o : Option (List Reply)) → AnswersAlike (Kept start g) (call_in x.text op s1 o) (called_by n x.variable.slot op s2 o)
      by_replies None =
          subst (λ c. AnswersAlike (Kept start g) (effect_on x.text s1 (effect op c)) (effect_in n x.variable.slot s2 (effect op (cell_at x.variable.slot s2)))) (sym (cell_held x f.1.0 g s1 s2 r f.0 f.1.1))
          (by_effect (effect op (cell_at x.variable.slot s2)))
      by_replies (Some []) = ap (λ n. Unanswered n) number
      by_replies (Some (a ∷ rs)) = (with_replies rs s2, given_alike rs g s1 s2 r, ap (λ n. Replied n a (with_replies rs s2)) number)

  -- THE CELLS AT A COFORALL, and the history that it takes
  cells_alike : (xs : List ℕ) (g : Seen) (s1 : State) (s2 : Memory) → Kept start g s1 s2 → xs ≡ cells_in g.frames → store_cells s1.store ≡ cells_at xs s2
  cells_alike xs g s1 s2 r along =
      ap store_cells r.store ∙ store_cells-slots (contents r.told s2) (in_slots g.frames) ∙ cells-slots r.told s2 (in_slots g.frames)
      ∙ ap (λ js. cells_at js s2) (cell_slots-in_slots r.told start.slots g.frames r.is_told ∙ sym along)

  settle_alike : (xs : List ℕ) (h : List Event) (g : Seen) (s1 : State) (s2 : Memory) → Kept start g s1 s2 → xs ≡ cells_in g.frames → HasCells start
      → Kept start g (record s1 { store = with_cells_named (after (store_cells s1.store) h) s1.store; histories = drop 1 s1.histories }) (settled_in xs h s2)
  settle_alike xs h g s1 s2 r along cells =
      let cs : List CellState = after (cells_at xs s2) h in
      let coming : Coming = record s2.coming { histories = drop 1 s2.coming.histories } in
      let own : cell_slots r.told (in_slots g.frames) ≡ xs = cell_slots-in_slots r.told start.slots g.frames r.is_told ∙ sym along in
      let new : Memory = record s2 { cells = with_cells xs cs s2.cells; coming = coming } in
      record {
        told = r.told;
        is_told = r.is_told;
        fit = r.fit;
        overs_shaped = r.overs_shaped;
        opened = r.opened;
        apart = r.apart;
        overs = Overs-contents (texts_of r.told) r.told s2 new (in_slots g.frames) r.overs;
        store =
            ap (λ ds. with_cells_named (after ds h) s1.store) (cells_alike xs g s1 s2 r along)
            ∙ ap (with_cells_named cs) r.store
            ∙ with_cells-slots cs (in_slots g.frames) (contents r.told s2) (IsApart-in_slots g.frames r.apart)
            ∙ store_at-each (with_states cs (in_slots g.frames) (contents r.told s2)) (contents r.told new)
            (λ j.
            replaced r.told s2 s2.coming cs (in_slots g.frames) (are_within r.told start.slots s2 s2.coming (r.cells ∙ cells) g.frames r.is_told) j
            ∙ ap (λ js. contents r.told (record s2 { cells = with_cells js cs s2.cells }) j) own
            ∙ content_in-moved (r.told j).kind j (r.told j).over s2.here coming (record s2 { cells = with_cells xs cs s2.cells }))
            (in_slots g.frames);
        roots = r.roots;
        slots = cells-slotted start.slots (with_cells xs cs s2.cells) coming s2 r.slots;
        intents = r.intents;
        intents_by_slots = r.intents_by_slots;
        cells = length-with_cells xs cs s2.cells ∙ r.cells;
        here = r.here;
        replies = r.replies;
        histories = fewer-to_come start.histories s1.histories s2.coming.histories r.histories;
        texts = r.texts;
        words = r.words;
        shaped = λ j. subst (HasShape (r.told j).kind (r.told j).shape) (cells-value (r.told j).kind j (with_cells xs cs s2.cells) coming s2) (r.shaped j);
        whole = r.whole;
      }

  -- A DECLARATION
  -- what is told of a name that is declared
  abbrev told_as : Bound → Form Bound → Told
  told_as x form = told_of (sighted x form) (placed_over (written_over form))

  -- the name that an array is declared over is in sight, and where it is a domain's, of the array's shape
  over_known : (over : Option Bound) (shape : Shape) (g : Seen) (s1 : State) (s2 : Memory) (r : Kept start g s1 s2) → OverIsFound over shape g → OverKnown r.told (placed_over over) (domain_among over) shape g.frames
  over_known None shape g s1 s2 r o = refl
  over_known (Some y) shape g s1 s2 r o = (
    λ j unused. slot_of-apart y.text (in_slots g.frames) j y.variable.slot (IsFresh-in_slots j g.frames unused) (placed_at y g o.0),
    subst (λ k. KnownBy k (r.told y.variable.slot).shape (placed y) (if_domain y.variable.kind y) shape) (sym (finds y g s1 s2 r o.0).kind) (by y.variable.kind o.1),
  )
    where
      by : (k : VariableKind) → (k ≡ DomainKind → y.shape ≡ shape) → KnownBy k (r.told y.variable.slot).shape (placed y) (if_domain k y) shape
      by DomainKind h = (refl, (finds y g s1 s2 r o.0).shape ∙ h refl)
      by _ h = refl

  over_shaped : (x : Bound) (form : Form Bound) (g : Seen) (s1 : State) (s2 : Memory) (r : Kept start g s1 s2) → IsUnused x.variable.slot g.frames → OverIsFound (written_over form) x.shape g
      → OverKnown (with_told x.variable.slot (told_as x form) r.told) (with_told x.variable.slot (told_as x form) r.told x.variable.slot).over (over_of form) x.shape (bind (sighted x form) g.frames)
  over_shaped x form g s1 s2 r u o =
      subst (λ (t : Told). OverKnown (with_told x.variable.slot (told_as x form) r.told) t.over (over_of form) x.shape (bind (sighted x form) g.frames)) (sym (with_told_here x.variable.slot (told_as x form) r.told))
      (over-after r.told (sighted x form) (told_as x form) (placed_over (written_over form)) (over_of form) x.shape g.frames u (over_known (written_over form) x.shape g s1 s2 r o))

  declared_alike : (x : Bound) (form : Form Bound) (c : Content SlotBound) (new : Memory) (g : Seen) (s1 : State) (s2 : Memory) (r : Kept start g s1 s2) → IsNew start.slots x g → OverFits x.variable.kind (over_of form)
      → content_in x.variable.kind x.variable.slot (placed_over (written_over form)) new ≡ c
      → ((k : VariableKind) (j : ℕ) (over : Option SlotBound) → j ≢ x.variable.slot → content_in k j over new ≡ content_in k j over s2)
      → OverResolves (texts_of (with_told x.variable.slot (told_as x form) r.told)) c (in_slots g.frames)
      → HasSlots start.slots new → new.words.intents ≡ s2.words.intents → new.words.sets ≡ s2.words.sets → HasShape x.variable.kind x.shape (value_in x.variable.kind x.variable.slot new)
      → OverIsFound (written_over form) x.shape g → AreWhole new
      → root_in x.variable.kind x.variable.slot new.roots ≡ no_root → ((k : VariableKind) (j : ℕ) → j ≢ x.variable.slot → root_in k j new.roots ≡ root_in k j s2.roots) → IsAsFar new s2
      → Kept start (record g { frames = bind (sighted x form) g.frames })
      (record s1 { store = Declared (record { name = x.text; content = spelled c }) ∷ s1.store; roots = Declared (record { name = x.text; content = no_root }) ∷ s1.roots }) new
  declared_alike x form c new g s1 s2 r n fits here other resolves h i w shape over whole none others far =
      let slot = x.variable.slot in
      let told = with_told slot (told_as x form) r.told in
      let fresh : IsFresh slot (in_slots g.frames) = IsFresh-in_slots slot g.frames n.unused in
      let each : (j : ℕ) → set_slot slot c (contents r.told s2) j ≡ contents told new j = set_slot-each slot c (contents r.told s2) (contents told new)
      (sym (ap (λ (t : Told). content_in t.kind slot t.over new) (with_told_here slot (told_as x form) r.told) ∙ here))
      (λ j ne. sym (ap (λ (t : Told). content_in t.kind j t.over new) (with_told_other j slot (told_as x form) r.told ne) ∙ other (r.told j).kind j (r.told j).over ne)) in
      record {
        told = told;
        is_told = IsTold-bind (sighted x form) (placed_over (written_over form)) r.told start.slots g.frames n.unused n.within r.is_told;
        fit = Fit-bind (sighted x form) g.frames r.fit fits;
        overs_shaped = OversShaped-bind r.told (sighted x form) (told_as x form) g.frames n.unused r.overs_shaped (over_shaped x form g s1 s2 r n.unused over);
        opened = IsOpen-bind (sighted x form) g.frames;
        apart = AreApart-bind (sighted x form) g.frames r.apart n.unused;
        overs = subst (Overs (texts_of told) (contents told new)) (sym (in_slots-bind (sighted x form) g.frames r.opened))
            (Overs-each (texts_of told) (set_slot slot c (contents r.told s2)) (contents told new) (Name (placed x) ∷ in_slots g.frames) each
            (Overs-declare (texts_of told) (placed x) c (contents r.told s2) (in_slots g.frames) fresh
            (Overs-texts (texts_of r.told) (texts_of told) slot (λ j ne. ap (λ (t : Told). t.text) (with_told_other j slot (told_as x form) r.told ne)) (contents r.told s2) (in_slots g.frames) fresh r.overs)
            resolves));
        store =
            ap (λ es. Declared (record { name = x.text; content = spelled c }) ∷ es) r.store ∙ declared-slot (placed x) c (in_slots g.frames) (contents r.told s2) fresh
            ∙ store_at-each (set_slot slot c (contents r.told s2)) (contents told new) each (Name (placed x) ∷ in_slots g.frames)
            ∙ ap (store_at (contents told new)) (sym (in_slots-bind (sighted x form) g.frames r.opened));
        roots =
            ap (λ es. Declared (record { name = x.text; content = no_root }) ∷ es) r.roots ∙ declared-root (placed x) no_root (in_slots g.frames) (roots_by r.told s2.roots) fresh
            ∙ roots_at-each (set_root slot no_root (roots_by r.told s2.roots)) (roots_by told new.roots)
            (set_root-each slot no_root (roots_by r.told s2.roots) (roots_by told new.roots)
            (sym (ap (λ (t : Told). root_in t.kind slot new.roots) (with_told_here slot (told_as x form) r.told) ∙ none))
            (λ j ne. sym (ap (λ (t : Told). root_in t.kind j new.roots) (with_told_other j slot (told_as x form) r.told ne) ∙ others (r.told j).kind j ne)))
            (Name (placed x) ∷ in_slots g.frames)
            ∙ ap (roots_at (roots_by told new.roots)) (sym (in_slots-bind (sighted x form) g.frames r.opened));
        slots = h;
        intents = r.intents;
        intents_by_slots = i ∙ r.intents_by_slots;
        cells = far.cells ∙ r.cells;
        here = r.here ∙ sym far.here;
        replies = r.replies ∙ ap (λ (c : Coming). c.replies) (sym far.coming);
        histories = still_to_come start.histories s1.histories s2 new far.coming r.histories;
        texts = r.texts;
        words = w ∙ r.words;
        shaped = shaped-declared r.told slot (told_as x form) s2 new r.shaped other shape;
        whole = whole;
      }

  -- SLOTS THAT BEGIN ANEW, which no name in sight has: of such a slot it is told afterwards that it is an int's
  renewed_alike : (slot : ℕ) (g : Seen) (s1 : State) (s2 : Memory) → Kept start g s1 s2 → IsUnused slot g.frames → Kept start g s1 (renewed slot s2)
  renewed_alike slot g s1 s2 r u =
      let new = renewed slot s2 in
      let told = with_told slot (told_of (nameless slot) None) r.told in
      let content = content_in (PlainKind IntLeaf) slot None new in
      let fresh : IsFresh slot (in_slots g.frames) = IsFresh-in_slots slot g.frames u in
      let each : (j : ℕ) → set_slot slot content (contents r.told s2) j ≡ contents told new j = set_slot-each slot content (contents r.told s2) (contents told new)
      (sym (ap (λ (t : Told). content_in t.kind slot t.over new) (with_told_here slot (told_of (nameless slot) None) r.told)))
      (λ j ne. sym (ap (λ (t : Told). content_in t.kind j t.over new) (with_told_other j slot (told_of (nameless slot) None) r.told ne)
      ∙ content_in-renewed_other (r.told j).kind j slot (r.told j).over s2 ne)) in
      record {
        told = told;
        is_told = IsTold-after (nameless slot) None r.told start.slots g.frames u r.is_told;
        fit = r.fit;
        overs_shaped = OversShaped-after r.told (nameless slot) (told_of (nameless slot) None) g.frames u r.overs_shaped;
        opened = r.opened;
        apart = r.apart;
        overs = Overs-each (texts_of told) (set_slot slot content (contents r.told s2)) (contents told new) (in_slots g.frames) each
            (Overs-declare (texts_of told) (placed_name (nameless slot)) content (contents r.told s2) (in_slots g.frames) fresh
            (Overs-texts (texts_of r.told) (texts_of told) slot (λ j ne. ap (λ (t : Told). t.text) (with_told_other j slot (told_of (nameless slot) None) r.told ne))
            (contents r.told s2) (in_slots g.frames) fresh r.overs) tt).1;
        store =
            r.store ∙ sym (store_at-set slot content (contents r.told s2) (in_slots g.frames) fresh)
            ∙ store_at-each (set_slot slot content (contents r.told s2)) (contents told new) each (in_slots g.frames);
        roots = r.roots ∙ roots_at-unused slot (roots_by r.told s2.roots) (roots_by told s2.roots) (in_slots g.frames) fresh
            (λ j ne. sym (ap (λ (t : Told). root_in t.kind j s2.roots) (with_told_other j slot (told_of (nameless slot) None) r.told ne)));
        slots = slots-renewed slot start.slots s2 r.slots;
        intents = r.intents;
        intents_by_slots = r.intents_by_slots;
        cells = r.cells;
        here = r.here;
        replies = r.replies;
        histories = r.histories;
        texts = r.texts;
        words = r.words;
        shaped = shaped-declared r.told slot (told_of (nameless slot) None) s2 new r.shaped (λ k j over ne. content_in-renewed_other k j slot over s2 ne) tt;
        whole = r.whole;
      }

  anew_alike : (slots : List ℕ) (g : Seen) (s1 : State) (s2 : Memory) → Kept start g s1 s2 → AreUnused slots g.frames → Kept start g s1 (anew slots s2)
  anew_alike [] g s1 s2 r u = r
  anew_alike (slot ∷ slots) g s1 s2 r u = renewed_alike slot g s1 (anew slots s2) (anew_alike slots g s1 s2 r u.1) u.0

  -- the domain name that an array is declared over
  over_alike : (over : Option Bound) (shape : Shape) (slot : ℕ) (t : Told) (g : Seen) (s1 : State) (s2 : Memory) (r : Kept start g s1 s2) → IsUnused slot g.frames → OverIsFound over shape g
      → OverNamed (texts_of (with_told slot t r.told)) (placed_over over) (in_slots g.frames)
  over_alike None shape slot t g s1 s2 r u o = tt
  over_alike (Some y) shape slot t g s1 s2 r u o =
      OverNamed-texts (texts_of r.told) (texts_of (with_told slot t r.told)) slot (λ j ne. ap (λ (t : Told). t.text) (with_told_other j slot t r.told ne)) (Some (placed y)) (in_slots g.frames)
      (IsFresh-in_slots slot g.frames u) (placed_at y g o.0, sym (finds y g s1 s2 r o.0).text)

  declare_alike : (x : Bound) (c : Content Bound) (g : Seen) (s1 : State) (s2 : Memory) → Kept start g s1 s2 → MayDeclare start x (form_of c) g → Holds x.variable.kind x.shape c
      → Kept start (record g { frames = bind (sighted x (form_of c)) g.frames }) (by_name.declare x.text (renamed_content text_of c) s1) (in_memory.declare x.variable (renamed_content variable_of c) s2)
  declare_alike x (Plain v) g s1 s2 before d p =
      let kind = x.variable.kind in
      let slot = x.variable.slot in
      let s3 = anew x.variable.along s2 in
      let s4 = with_value_in kind slot v s3 in
      let r = anew_alike x.variable.along g s1 s2 before d.0.along in
      let slots = slots-set kind slot v start.slots s3 r.slots in
      declared_alike x PlainForm (Plain v) (undealt kind slot s4) g s1 s3 r d.0 (fits-none kind)
      (content_in-undealt kind slot s4 kind slot None ∙ content_in-set_same kind slot None v start.slots s3 p.0 d.1 r.slots d.0.within)
      (λ k j over ne. content_in-undealt kind slot s4 k j over ∙ content_in-set_other k kind j slot over v s3 ne) tt (slots-undealt kind slot s4 start.slots slots)
      (ap (λ w. w.intents) (words-undealt kind slot s4) ∙ intents-set_in kind slot v s3) (ap (λ w. w.sets) (words-undealt kind slot s4) ∙ sets-set_in kind slot v s3)
      (subst (HasShape kind x.shape) (sym (value_in-undealt kind slot s4)) (shaped-set kind x.shape slot v start.slots s3 (λ n. p.0) p.1 (λ w. absurd (d.1 w)) r.slots d.0.within))
      tt (whole-undealt kind slot s4 (whole-set kind slot v s3 r.whole)) (root_in-undealt_here kind slot s4 start.slots slots d.0.within)
      (λ k j ne. root_in-undealt_other kind slot s4 k j ne ∙ ap (root_in k j) (roots-set_in kind slot v s3)) (far-undealt kind slot s4 s3 (far-set_in kind slot v s3))
  declare_alike x (ArrayOf over k rs vs) g s1 s2 r d p =
      let kind = x.variable.kind in
      let slot = x.variable.slot in
      let s3 = declared_array kind slot (made rs vs) s2 in
      let slots = slots-declared kind slot (made rs vs) start.slots s2 r.slots in
      subst (λ o. Kept start (record g { frames = bind (sighted x (ArrayForm over)) g.frames })
      (record s1 { store = Declared (record { name = x.text; content = ArrayOf o k rs vs }) ∷ s1.store; roots = Declared (record { name = x.text; content = no_root }) ∷ s1.roots }) (undealt kind slot s3))
      (over_text-placed over)
      (declared_alike x (ArrayForm over) (ArrayOf (placed_over over) k rs vs) (undealt kind slot s3) g s1 s2 r d.0 (fits-whole kind (domain_among over) d.1)
      (content_in-undealt kind slot s3 kind slot (placed_over over) ∙ declared-content kind x.shape slot (placed_over over) k rs vs start.slots s2 p.0 p.1 r.slots d.0.within)
      (λ l j o ne. content_in-undealt kind slot s3 l j o ∙ declared-other l kind j slot o (made rs vs) s2 ne)
      (over_alike over x.shape slot (told_as x (ArrayForm over)) g s1 s2 r d.0.unused d.2)
      (slots-undealt kind slot s3 start.slots slots)
      (ap (λ w. w.intents) (words-undealt kind slot s3 ∙ words-declared kind slot (made rs vs) s2)) (ap (λ w. w.sets) (words-undealt kind slot s3 ∙ words-declared kind slot (made rs vs) s2))
      (subst (HasShape kind x.shape) (sym (value_in-undealt kind slot s3)) (shaped-array kind x.shape slot k (made rs vs) start.slots s2 p.0 r.slots d.0.within)) d.2
      (whole-undealt kind slot s3 (whole-declared kind slot (made rs vs) s2 refl r.whole)) (root_in-undealt_here kind slot s3 start.slots slots d.0.within)
      (λ l j ne. root_in-undealt_other kind slot s3 l j ne ∙ ap (root_in l j) (roots-array kind slot (made rs vs) s2)) (far-undealt kind slot s3 s2 (far-array kind slot (made rs vs) s2)))
  declare_alike x (CellOf k c) g s1 s2 r d p =
      let kind = x.variable.kind in
      let slot = x.variable.slot in
      let new = with_cell slot c s2 in
      declared_alike x CellForm (CellOf k c) new g s1 s2 r d.0 (fits-none kind)
      (cell-put kind k slot None c s2 p (has_cell x g s1 s2 r d.0.within d.2))
      (λ j i over ne. cells-other j i over (set s2.cells slot c) s2.coming s2 (get_or-set_other s2.cells slot i c Empty ne)) tt
      (cells-slotted start.slots (set s2.cells slot c) s2.coming s2 r.slots) refl refl (cell-shape kind k x.shape slot new p) tt r.whole
      (cell-rootless kind k slot new.roots p) (λ j i ne. refl) (record { cells = length-set s2.cells slot c; here = refl; coming = refl })

  -- A DOMAIN ASSIGNED
  was_domain : (x : Bound) (g : Seen) → WasDomain (through variable_of in_memory) (Kept start) x g → x.variable.kind ≡ DomainKind
  was_domain x g w = value_in-domain x.variable.kind x.variable.slot w.1 w.3

  has_alike : (x : Bound) (g : Seen) (s1 : State) (s2 : Memory) → Kept start g s1 s2 → Resolves x g → x.variable.kind ≡ DomainKind → x.variable.along ≡ arrays_over x.variable.slot g.frames
      → by_name.has_arrays x.text s1 ≡ is_some_array x.variable.along
  has_alike x g s1 s2 r f d a =
      ap (named_arrays x.text) r.store
      ∙ arrays_over-slots (texts_of r.told) (placed x) (sym (finds x g s1 s2 r f).text) (contents r.told s2) (in_slots g.frames) (IsApart-in_slots g.frames r.apart) r.overs (placed_at x g f)
      ∙ any_over-told x.variable.slot start.slots r.told s2 ((finds x g s1 s2 r f).kind ∙ d) g.frames r.is_told r.fit r.overs_shaped ∙ ap is_some_array (sym a)

  -- the arrays that stand with it have its shape
  redomained_shape : (x : Bound) (rs : List TextRange) (g : Seen) (s1 : State) (s2 : Memory) (r : Kept start g s1 s2) → Resolves x g → x.variable.kind ≡ DomainKind → x.variable.along ≡ arrays_over x.variable.slot g.frames
      → AreRanked x.shape.rank x.shape.strided rs → (j : ℕ) → is_among j x.variable.along ≡ true → AreRanked (r.told j).shape.rank (r.told j).shape.strided rs
  redomained_shape x rs g s1 s2 r f d a shape j e =
      let found = finds x g s1 s2 r f in
      let alike = arrays-shaped r.told x.variable.slot (found.kind ∙ d) j start.slots g.frames r.is_told r.overs_shaped (subst (λ xs. is_among j xs ≡ true) a e) in
      subst (λ (s : Shape). AreRanked s.rank s.strided rs) (sym (alike ∙ found.shape)) shape

  redomain_alike : (x : Bound) (rs : List TextRange) (g : Seen) (s1 : State) (s2 : Memory) → Kept start g s1 s2 → Resolves x g → x.variable.kind ≡ DomainKind → x.variable.along ≡ arrays_over x.variable.slot g.frames → AreRanked x.shape.rank x.shape.strided rs
      → Kept start g (by_name.redomain x.text rs s1) (in_memory.redomain x.variable rs s2)
  redomain_alike x rs g s1 s2 r f d a shape = record {
    told = r.told;
    is_told = r.is_told;
    fit = r.fit;
    overs_shaped = r.overs_shaped;
    opened = r.opened;
    apart = r.apart;
    overs = Overs-contents (texts_of r.told) r.told s2 (redomained_in x.variable rs s2) (in_slots g.frames) r.overs;
    store =
        ap (redomain_in x.text rs) r.store
        ∙ redomain_in-slots (texts_of r.told) (placed x) (sym (finds x g s1 s2 r f).text) (contents r.told s2) rs (in_slots g.frames) (IsApart-in_slots g.frames r.apart) r.overs (placed_at x g f)
        ∙ store-redomained x.variable rs start.slots s2 r.slots r.whole d r.told g.frames r.is_told r.overs_shaped ((finds x g s1 s2 r f).kind ∙ d) (finds x g s1 s2 r f).within
        (subst (λ xs. Tells x.variable.slot xs g.frames) (sym a) (arrays_over-tells x.variable.slot g.frames r.apart));
    roots = r.roots ∙ ap (λ rs. roots_at (roots_by r.told rs) (in_slots g.frames)) (sym (roots-redomained x.variable rs s2));
    slots = redomained-slots x.variable rs start.slots s2 r.slots r.whole d;
    intents = r.intents;
    intents_by_slots = ap (λ w. w.intents) (redomained-intents x.variable rs start.slots s2 r.slots r.whole d) ∙ r.intents_by_slots;
    cells = (far-redomained x.variable rs s2).cells ∙ r.cells;
    here = r.here ∙ sym (far-redomained x.variable rs s2).here;
    replies = r.replies ∙ ap (λ (c : Coming). c.replies) (sym (far-redomained x.variable rs s2).coming);
    histories = still_to_come start.histories s1.histories s2 (redomained_in x.variable rs s2) (far-redomained x.variable rs s2).coming r.histories;
    texts = r.texts;
    words = ap (λ w. w.sets) (redomained-intents x.variable rs start.slots s2 r.slots r.whole d) ∙ r.words;
    shaped = λ j.
        subst (λ arrays. HasToldShape (r.told j) j (record (with_value_in x.variable.kind x.variable.slot (Domain rs) s2) { arrays = redomained_from 0 x.variable.along rs arrays }))
        (subst (λ k. (with_value_in k x.variable.slot (Domain rs) s2).arrays ≡ s2.arrays) (sym d) refl)
        (shaped-redomained (r.told j) j x.variable.along rs (with_value_in x.variable.kind x.variable.slot (Domain rs) s2) (redomained_shape x rs g s1 s2 r f d a shape j)
        (shaped-changed r.told x.variable.slot s2 (with_value_in x.variable.kind x.variable.slot (Domain rs) s2) r.shaped
        (λ k j over ne. content_in-set_other k x.variable.kind j x.variable.slot over (Domain rs) s2 ne)
        (shaped-told x.variable.kind x.shape (r.told x.variable.slot) x.variable.slot (with_value_in x.variable.kind x.variable.slot (Domain rs) s2) (finds x g s1 s2 r f).kind (finds x g s1 s2 r f).shape
        (shaped-set x.variable.kind x.shape x.variable.slot (Domain rs) start.slots s2 (λ n. subst (λ k. IsOf k (Domain rs)) (sym d) (rs, refl)) (λ n. subst (λ k. HasShape k x.shape (Domain rs)) (sym d) shape)
        (λ w. absurd (subst IsWhole d w)) r.slots (finds x g s1 s2 r f).within)) j));
    whole = whole-redomained x.variable rs s2 r.whole;
  }

  -- A ROOT, of a name that is a domain or an array
  root_alike : (x : Bound) (g : Seen) (s1 : State) (s2 : Memory) → Kept start g s1 s2 → Resolves x g → by_name.root x.text s1 ≡ root_in x.variable.kind x.variable.slot s2.roots
  root_alike x g s1 s2 r f =
      ap (root_of_name no_root x.text) r.roots ∙ root-slot x.text x.variable.slot (in_slots g.frames) (roots_by r.told s2.roots) (placed_at x g f)
      ∙ ap (λ k. root_in k x.variable.slot s2.roots) (finds x g s1 s2 r f).kind

  deal_alike : (x : Bound) (root : Root) (g : Seen) (s1 : State) (s2 : Memory) → Kept start g s1 s2 → Resolves x g → is_distributed (value_in x.variable.kind x.variable.slot s2) ≡ true
      → Kept start g (by_name.deal x.text root s1) (with_root x.variable.slot root s2)
  deal_alike x root g s1 s2 r f d =
      let slot = x.variable.slot in
      let new = with_root slot root s2 in
      let found = finds x g s1 s2 r f in
      record {
        told = r.told;
        is_told = r.is_told;
        fit = r.fit;
        overs_shaped = r.overs_shaped;
        opened = r.opened;
        apart = r.apart;
        overs = Overs-contents (texts_of r.told) r.told s2 new (in_slots g.frames) r.overs;
        store = r.store ∙ store_at-each (contents r.told s2) (contents r.told new) (λ j. sym (content_in-root (r.told j).kind j (r.told j).over slot root s2)) (in_slots g.frames);
        roots =
            ap (change_in x.text (λ old. root)) r.roots ∙ deal-slot x.text root (in_slots g.frames) (roots_by r.told s2.roots) slot (IsApart-in_slots g.frames r.apart) (placed_at x g f)
            ∙ roots_at-each (set_root slot root (roots_by r.told s2.roots)) (roots_by r.told new.roots)
            (set_root-each slot root (roots_by r.told s2.roots) (roots_by r.told new.roots)
            (sym (ap (λ k. root_in k slot new.roots) found.kind ∙ root_in-same x.variable.kind slot root start.slots s2 d r.slots found.within))
            (λ j ne. sym (root_in-other (r.told j).kind j slot root s2.roots ne)))
            (in_slots g.frames);
        slots = slots-root slot root start.slots s2 r.slots;
        intents = r.intents;
        intents_by_slots = r.intents_by_slots;
        cells = r.cells;
        here = r.here;
        replies = r.replies;
        histories = r.histories;
        texts = r.texts;
        words = r.words;
        shaped = shaped-root r.told slot root s2 r.shaped;
        whole = r.whole;
      }

  -- ANOTHER LOCALE
  moved : (k : ℤ) (g : Seen) (s1 : State) (s2 : Memory) → Kept start g s1 s2 → Kept start g (by_name.move k s1) (in_memory.move k s2)
  moved k g s1 s2 r = record {
    told = r.told;
    is_told = r.is_told;
    fit = r.fit;
    overs_shaped = r.overs_shaped;
    opened = r.opened;
    apart = r.apart;
    overs = Overs-contents (texts_of r.told) r.told s2 (in_memory.move k s2) (in_slots g.frames) r.overs;
    store = r.store ∙ store_at-each (contents r.told s2) (contents r.told (in_memory.move k s2)) (λ j. content_in-moved (r.told j).kind j (r.told j).over k s2.coming s2) (in_slots g.frames);
    roots = r.roots;
    slots = slots-moved start.slots k s2.coming s2 r.slots;
    intents = r.intents;
    intents_by_slots = r.intents_by_slots;
    cells = r.cells;
    here = refl;
    replies = r.replies;
    histories = r.histories;
    texts = r.texts;
    words = r.words;
    shaped = shaped-moved r.told k s2.coming s2 r.shaped;
    whole = r.whole;
  }

  -- ALL TOGETHER
  -- a right side that reads no cell is evaluated; another has a value of its cell's kind
  suited_by : (limits : Limits) (kind : VariableKind) (shape : Shape) (given : Type 0) (item : ItemTree Bound) (v : Value) (s : Memory) (o : Option (ReadTree Bound))
      → OrReplies kind shape given o → MayRead limits (through variable_of in_memory) o item s v
      → (given → item_of limits in_memory (renamed_item variable_of item) None s ≡ Ok v → MayHold kind shape v) → MayHold kind shape v
  suited_by limits kind shape given item v s None f e p = p f (sym (item_of-through limits variable_of in_memory item s) ∙ e)
  suited_by limits kind shape given item v s (Some r) f e p =
      let cell : cell_kind (value_in r.name.name.variable.kind r.name.name.variable.slot s) ≡ f.0 = ap (λ k. cell_kind (value_in k r.name.name.variable.slot s)) f.1 in
      f.2 v (subst (IsElement f.0) (ap (λ k. reply_value k e.0) (sym cell) ∙ sym e.1) (reply-element f.0 e.0))

  -- one with a whole array in it reads no cell
  promoted_by : (limits : Limits) (kind : VariableKind) (shape : Shape) (given : Type 0) (item : ItemTree Bound) (s : Memory) (rs : List TextRange) (o : Option (ReadTree Bound)) → item_read item ≡ o
      → OrReplies kind shape given o → whole_item limits (through variable_of in_memory) item s ≡ Some rs → given
  promoted_by limits kind shape given item s rs None read f whole = f
  promoted_by limits kind shape given item s rs (Some r) read f whole =
      let none = item_read-whole limits (through variable_of in_memory) s item r read in absurd cc

  pub memory_simulates : (limits : Limits) → Simulates limits text_of (resolving start) by_name (through variable_of in_memory) (Kept start)
  memory_simulates limits = record {
    lawful = resolving-lawful start;
    gets = λ x g s1 s2 r f. value_alike x g s1 s2 r f;
    whole_targets = λ x op g s1 s2 r f. ap array_domain (value_alike x g s1 s2 r f.0);
    domain_targets = λ x op g s1 s2 r f. ap is_domain (value_alike x g s1 s2 r f.0);
    updates = λ x op v g s1 s2 r f h. update_alike x op v g s1 s2 r f.0 f.1 f.2 h;
    elements_at = λ x t g s1 s2 r f. element_alike x t g s1 s2 r f;
    elements = λ x items vs g s1 s2 r f e. element_alike x (index_of vs) g s1 s2 r f;
    puts_at = λ x t v g s1 s2 r f h. put_alike x t v g s1 s2 r f h;
    puts = λ x items vs v g s1 s2 r f e h. put_alike x (index_of vs) v g s1 s2 r f h;
    declares = λ x c g s1 s2 r f h. declare_alike x c g s1 s2 r f h;
    roots = λ x g s1 s2 r f d. root_alike x g s1 s2 r f;
    deals = λ x root g s1 s2 r f d. deal_alike x root g s1 s2 r f d;
    gives = λ x g s1 s2 r f. ap (paired x.text) r.texts ∙ given-alike x.variable.kind x start s2 r.words f;
    suited = λ x item v g s1 s2 r f w e.
        suited_by limits x.variable.kind x.shape (SuitsKind x.variable.kind x.shape item g) item v s2 (item_read item) f e
        (λ given. once-held x.variable.kind x.shape item g (value_in-plain x.variable.kind x.variable.slot w.1 w.3) given limits s2 (shaped_sight g s1 s2 r) v);
    suited_new = λ x item v g s1 s2 r f d e.
        suited_by limits x.variable.kind x.shape (SuitsKind x.variable.kind x.shape item g) item v s2 (item_read item) f e
        (λ given. once-held x.variable.kind x.shape item g d.1 given limits s2 (shaped_sight g s1 s2 r) v);
    suited_element = λ x item v g s1 s2 r f e.
        suited_by limits x.variable.kind x.shape (GivesOnce x.variable.kind x.shape item g) item v s2 (item_read item) f e
        (λ given. given limits s2 (shaped_sight g s1 s2 r) v);
    suited_turn = λ x item t v g s1 s2 r f w p e.
        turn-held limits x.variable.kind x.shape item g s2 t v (shaped_sight g s1 s2 r) (value_in-array x.variable.kind x.variable.slot w.1 w.3.0 w.3.1)
        (promoted_by limits x.variable.kind x.shape (SuitsKind x.variable.kind x.shape item g) item p.1.1 p.0 (item_read item) refl f p.1.3)
        (sym (item_of-through_at limits variable_of in_memory item (Some t) s2) ∙ e);
    suited_initial = λ x over item t v g s1 s2 r f d p e.
        turn-held limits x.variable.kind x.shape item g s2 t v (shaped_sight g s1 s2 r) d.1
        (promoted_by limits x.variable.kind x.shape (SuitsKind x.variable.kind x.shape item g) item p.1.1 p.0 (item_read item) refl f p.1.3)
        (sym (item_of-through_at limits variable_of in_memory item (Some t) s2) ∙ e);
    suited_once = λ x item v g s1 s2 r f w e.
        suited_by limits x.variable.kind x.shape (SuitsKind x.variable.kind x.shape item g) item v s2 (item_read item) f e
        (λ given. scalar-held x.variable.kind x.shape item g (limits, w.1, sym (whole_item-through limits variable_of in_memory item w.1) ∙ w.3) given limits s2 (shaped_sight g s1 s2 r) v);
    changed = λ x op t old w g s1 s2 r f e h. changed-held x.variable.kind x.shape op x.variable.slot t s2 old w e f.1 h.0;
    turned = λ x item over g s1 s2 r f e. f limits s2 (shaped_sight g s1 s2 r) over (sym (item_of-through limits variable_of in_memory item s2) ∙ e);
    spanned = λ x from items v g s1 s2 r f d e. f limits s2 (shaped_sight g s1 s2 r) from v (sym (domain_of-through limits variable_of in_memory from items s2) ∙ e);
    spanned_array = λ x over k from items v vs g s1 s2 r f e h.
        (f limits s2 (shaped_sight g s1 s2 r) from v (sym (domain_of-through limits variable_of in_memory from items s2) ∙ e), All-weaker (MayHold x.variable.kind x.shape) (IsOf x.variable.kind) (λ v p. p.0) vs h);
    given_holds = λ x v g s1 s2 r f e. given-held x.variable.kind x.shape x.variable.slot s2 v e;
    enters = λ g s1 s2 r. record {
      told = r.told;
      is_told = (tt, r.is_told);
      fit = (tt, r.fit);
      overs_shaped = (tt, r.overs_shaped);
      opened = tt;
      apart = (tt, r.apart);
      overs = r.overs;
      store = ap (λ es. Opened ∷ es) r.store;
      roots = ap (λ es. Opened ∷ es) r.roots;
      slots = r.slots;
      intents = r.intents;
      intents_by_slots = r.intents_by_slots;
      cells = r.cells;
      here = r.here;
      replies = r.replies;
      histories = r.histories;
      texts = r.texts;
      words = r.words;
      shaped = r.shaped;
      whole = r.whole;
    };
    leaves = λ g h s1 s2 t1 t2 before out r. subst (λ g. Kept start g (by_name.leave t1) (in_memory.leave t2)) out (record {
      told = r.told;
      is_told = IsTold-without_frame r.told start.slots h.frames r.is_told;
      fit = Fit-without_frame h.frames r.fit;
      overs_shaped = OversShaped-without_frame r.told h.frames r.overs_shaped;
      opened = subst (λ (g : Seen). IsOpen g.frames) (sym out) before.opened;
      apart = AreApart-without_frame h.frames r.apart;
      overs = subst (Overs (texts_of r.told) (contents r.told t2)) (sym (in_slots-without_frame h.frames)) (Overs-without_frame (texts_of r.told) (contents r.told t2) (in_slots h.frames) r.overs);
      store =
          ap without_innermost r.store ∙ without_innermost-store_at (contents r.told t2) (in_slots h.frames)
          ∙ ap (store_at (contents r.told t2)) (sym (in_slots-without_frame h.frames));
      roots =
          ap without_innermost r.roots ∙ left-roots (roots_by r.told t2.roots) (in_slots h.frames)
          ∙ ap (roots_at (roots_by r.told t2.roots)) (sym (in_slots-without_frame h.frames));
      slots = r.slots;
      intents = r.intents;
      intents_by_slots = r.intents_by_slots;
      cells = r.cells;
      here = r.here;
      replies = r.replies;
      histories = r.histories;
      texts = r.texts;
      words = r.words;
      shaped = r.shaped;
      whole = r.whole;
    });
    intends = λ is g s1 s2 r f. record {
      told = r.told;
      is_told = r.is_told;
      fit = r.fit;
      overs_shaped = r.overs_shaped;
      opened = r.opened;
      apart = r.apart;
      overs = Overs-contents (texts_of r.told) r.told s2 (intended (intents_by_slot (renamed_intents variable_of is)) s2) (in_slots g.frames) r.overs;
      store = r.store ∙ store_at-intend r.told (intents_by_slot (renamed_intents variable_of is)) s2 (in_slots g.frames);
      roots = r.roots;
      slots = slots-intended (intents_by_slot (renamed_intents variable_of is)) s2 r.slots;
      intents = refl;
      intents_by_slots = refl;
      cells = r.cells;
      here = r.here;
      replies = r.replies;
      histories = r.histories;
      texts = r.texts;
      words = r.words;
      shaped = shaped-intended r.told (intents_by_slot (renamed_intents variable_of is)) s2 r.shaped;
      whole = r.whole;
    };
    ends_forall = λ is g s1 s2 r f. record {
      told = r.told;
      is_told = r.is_told;
      fit = r.fit;
      overs_shaped = r.overs_shaped;
      opened = r.opened;
      apart = r.apart;
      overs = Overs-contents (texts_of r.told) r.told s2 (intended [] s2) (in_slots g.frames) r.overs;
      store = r.store ∙ store_at-intend r.told [] s2 (in_slots g.frames);
      roots = r.roots;
      slots = slots-intended [] s2 r.slots;
      intents = ap (renamed_intents text_of) (sym f);
      intents_by_slots = ap (λ is. intents_by_slot (renamed_intents variable_of is)) (sym f);
      cells = r.cells;
      here = r.here;
      replies = r.replies;
      histories = r.histories;
      texts = r.texts;
      words = r.words;
      shaped = shaped-intended r.told [] s2 r.shaped;
      whole = r.whole;
    };
    notes = λ at rs done g s1 s2 r. refl;
    has = λ x op g s1 s2 r f w. has_alike x g s1 s2 r f.0 (was_domain x g w) (arrays-known x.variable.kind x g (was_domain x g w) f.3);
    redomains = λ x op v g s1 s2 r f w h.
        let domain = was_domain x g w in
        redomain_alike x (ranges_in v) g s1 s2 r f.0 domain (arrays-known x.variable.kind x g domain f.3) (subst (λ k. HasShape k x.shape v) domain (h.1 (λ w. subst IsWhole domain w)));
    heres = λ g s1 s2 r. r.here;
    moves = λ k g s1 s2 r m. moved k g s1 s2 r;
    calls = λ x op g s1 s2 r f. call_alike x op g s1 s2 r f;
    cells = λ x g s1 s2 r c. cells_alike x.variable.cells g s1 s2 r c.0;
    histories = λ x g s1 s2 r c. ap (λ hs. get_or hs 0 []) (to_come-same start.histories s1.histories s2.coming.histories c.2 r.histories);
    begins = λ x rs g s1 s2 r c. given_alike rs g s1 s2 r;
    settles = λ x h g s1 s2 r c. settle_alike x.variable.cells h g s1 s2 r c.0 c.1;
  }
    where
      slots-intended : (is : List (ℕ × Op)) (s : Memory) → HasSlots start.slots s → HasSlots start.slots (intended is s)
      slots-intended is s h = record {
        numbers = h.numbers;
        ranges = h.ranges;
        domains = h.domains;
        tuples = h.tuples;
        arrays = h.arrays;
        roots = h.roots;
      }

  stands_for : (g : Seen) (s1 : State) (s2 : Memory) → Kept start g s1 s2 → StandsFor start g s1 s2
  stands_for g s1 s2 r = record {
    store = ap own_store r.store ∙ store_at-contents r.told start.slots s2 g.frames r.is_told;
    slots = r.slots;
    intents = r.intents;
    intents_by_slots = r.intents_by_slots;
    cells = r.cells;
    here = r.here;
    replies = r.replies;
    histories = r.histories;
    texts = r.texts;
    words = r.words;
  }

  left-alike : (g : Seen) (a : Outcome State) (b : Outcome Memory) → EndsAlike (StandsFor start g) a b → option_map own_frame (left a) ≡ left_in g.frames b
  left-alike g (Done s done) b e = ap (λ f. Some f) (top_level-own s.store) ∙ ap (λ t. Some (top_level t)) e.1.store ∙ ap (λ f. Some f) (top_level-store_in e.0 g.frames) ∙ sym (ap (left_in g.frames) e.2)
  left-alike g (Stop f done) b e = sym (ap (left_in g.frames) e)
  left-alike g (Waits at c op done) b e = sym (ap (left_in g.frames) e)

  first_kept : (histories : List (List Event)) → AreToCome start.histories histories (unwrap_or start.histories []) → Kept start first_seen (first_state start.texts histories) (first_memory start)
  first_kept histories given = record {
    told = λ j. record { text = []; kind = PlainKind IntLeaf; shape = no_shape; over = None };
    is_told = (tt, tt);
    fit = (tt, tt);
    overs_shaped = (tt, tt);
    opened = tt;
    apart = (tt, tt);
    overs = tt;
    store = refl;
    roots = refl;
    slots = record {
      numbers = length-replicate start.slots (pos 0);
      ranges = length-replicate start.slots no_range;
      domains = length-replicate start.slots no_domain;
      tuples = length-replicate start.slots no_tuple;
      arrays = length-replicate start.slots no_array;
      roots = length-replicate start.slots no_root;
    };
    intents = refl;
    intents_by_slots = refl;
    cells = length-replicate start.cells Empty;
    here = refl;
    replies = refl;
    histories = given;
    texts = refl;
    words = refl;
    shaped = λ j. tt;
    whole = whole-first start.slots;
  }

  -- THE THEOREM: from the first states, statements that fit end alike by names and in a memory; where they are done, the
  -- memory stands for the store.
  pub exec_all-memory : (limits : Limits) (ts : Stmts Bound) (histories : List (List Event)) (done : Deeds) → AreToCome start.histories histories (unwrap_or start.histories []) → fits_all (resolving start) ts first_seen
      → EndsAlike (StandsFor start (after_all (resolving start) ts first_seen)) (exec_all limits by_name (renamed_stmts text_of ts) (first_state start.texts histories) done)
      (exec_all limits in_memory (renamed_stmts variable_of ts) (first_memory start) done)
  exec_all-memory limits ts histories done given f =
      EndsAlike-weaker (Kept start (after_all (resolving start) ts first_seen)) (StandsFor start (after_all (resolving start) ts first_seen))
      (stands_for (after_all (resolving start) ts first_seen)) _ _
      (subst (EndsAlike (Kept start (after_all (resolving start) ts first_seen)) (exec_all limits by_name (renamed_stmts text_of ts) (first_state start.texts histories) done))
      (exec_all-through limits variable_of in_memory ts (first_memory start) done)
      (exec_all-alike limits text_of (resolving start) by_name (through variable_of in_memory) (Kept start) (memory_simulates limits) ts first_seen f
      (first_state start.texts histories) (first_memory start) done (first_kept histories given)))

  -- so a program ends in a memory as it means, and writes the same
  pub meaning-memory : (limits : Limits) (t : ProgramTree Bound) (histories : List (List Event)) → AreToCome start.histories histories (unwrap_or start.histories []) → fits_all (resolving start) t.stmts first_seen
      → EndsAlike (StandsFor start (after_all (resolving start) t.stmts first_seen)) (meaning (renamed_program text_of t) start.texts limits histories)
      (run_from limits in_memory (renamed_program variable_of t) (first_memory start))
  meaning-memory limits t histories given f =
      settled-alike (StandsFor start (after_all (resolving start) t.stmts first_seen)) _ _ (exec_all-memory limits t.stmts histories no_deeds given f)

  -- and where it is done, it leaves the same top-level names with what stands in their slots
  pub left-memory : (limits : Limits) (t : ProgramTree Bound) (histories : List (List Event)) → AreToCome start.histories histories (unwrap_or start.histories []) → fits_all (resolving start) t.stmts first_seen
      → option_map own_frame (left (meaning (renamed_program text_of t) start.texts limits histories))
      ≡ left_in (after_all (resolving start) t.stmts first_seen).frames (run_from limits in_memory (renamed_program variable_of t) (first_memory start))
  left-memory limits t histories given f = left-alike (after_all (resolving start) t.stmts first_seen) _ _ (meaning-memory limits t histories given f)

  pub written-memory : (limits : Limits) (t : ProgramTree Bound) (histories : List (List Event)) → AreToCome start.histories histories (unwrap_or start.histories []) → fits_all (resolving start) t.stmts first_seen
      → written (meaning (renamed_program text_of t) start.texts limits histories) ≡ written (run_from limits in_memory (renamed_program variable_of t) (first_memory start))
  written-memory limits t histories given f =
      written-alike (StandsFor start (after_all (resolving start) t.stmts first_seen)) _ _ (meaning-memory limits t histories given f)

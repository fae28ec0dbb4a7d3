-- Variables kept in slots agree with variables kept by names, where each name has the slot of its innermost declaration.
-- So what a program means is what its tree with slots does: values, arrays, domains, reduce variables, cells and tasks.
use Rattle.std.proofs.Common.{◌≡◌, ℕ, ℤ, pos, List, [], ◌∷◌, refl, sym, ap, ◌∙◌, subst, Some, None, Option, drop}
use Rattle.std.specs.Prelude.{◌==◌, if◌then◌else◌, get_or}
use Rattle.std.proofs.lemmas.Slice.Eq.{bytes_eq-Decides}
use Rattle.dpl_history.specs.declared.cell.CellState.{CellState}
use Rattle.dpl_history.specs.declared.cell.CellOp.{CellOp}
use Rattle.dpl_history.specs.declared.cell.Reply.{Reply}
use Rattle.dpl_history.specs.declared.history.Event.{Event}
use Rattle.dpl_history.specs.Cells.{effect}
use Rattle.dpl_history.specs.Histories.{after}
use Rattle.dpl_agreement.proofs.Slots.{Bound}
use Rattle.dpl_sets.specs.TextRanges.{TextRange}
use Rattle.dpl_language.specs.Tree.{Op, Assign, Set, SetAdd, SetSubtract, SetMultiply, SetDivide, SetRemainder, SetReduce, ProgramTree}
use Rattle.dpl_language.specs.Values.{Value, Index, index_of, ranges_in, array_domain, is_domain}
use Rattle.dpl_language.specs.Arithmetic.{assigned}
use Rattle.dpl_language.specs.Ranges.{indices_in}
use Rattle.dpl_language.specs.Environment.{Content, Plain, ArrayOf, CellOf, Answer, Replied, Unanswered, Environment, Limits}
use Rattle.dpl_language.specs.Distributions.{no_root}
use Rattle.dpl_language.specs.Names.{Text, State, Opened, Declared, paired, innermost, look_up, change_in, value_in, update_in, with_element, element_in, put_in, set_cell, with_cells, store_cells, redomain_in, arrays_over, without_innermost, state_in, effect_on, call_in, cell_number, by_name}
use Rattle.dpl_language.specs.Program.{meaning}
use Rattle.dpl_agreement.specs.Renamed.{renamed_intents, renamed_program}
use Rattle.dpl_agreement.specs.Scopes.{Form, PlainForm, ArrayForm, CellForm, form_of, Scoping, IsLawful, fits_all, after_all}
use Rattle.dpl_agreement.specs.Agreement.{AnswersAlike, Simulates, EndsAlike}
use Rattle.dpl_agreement.proofs.Slots.{Mark, Name, Sight, slot_of, IsFresh, IsApart, without_frame, Slots, set_slot, text_of, spelled, store_at, look_up-slot, change_in-slot, declared-slot, IsApart-without_frame, without_innermost-store_at}
use Rattle.dpl_agreement.proofs.SlotRoots.{Roots, set_root, roots_at, root-slot, declared-root, deal-slot, left-roots}
use Rattle.dpl_agreement.proofs.SlotDomains.{any_over, redomain_slots, OverNamed, OverResolves, Overs, Overs-set, Overs-redomain, Overs-declare, redomain_in-slots, arrays_over-slots, Overs-without_frame}
use Rattle.dpl_agreement.proofs.SlotCells.{state_of, with_state, cells_of, number_of, with_states, state_in-spelled, set_cell-spelled, with_state-resolves, store_cells-slots, cell_number-slots, with_cells-slots, Overs-with_states}
use Rattle.dpl_agreement.proofs.ProgramsAlike.{run_from, meaning-alike}

-- THE ENVIRONMENT
-- What the slots hold, the names in sight, and what else a state by names has.
pub record Slotted : Type 0 where
  pub kept : Slots
  pub roots : Roots
  pub live : Sight
  pub intents : List (Bound × Op)
  pub here : ℤ
  pub sets : List (Text × Value)
  pub replies : Option (List Reply)
  pub histories : List (List Event)

-- the operator of the intent that names a slot
abbrev pub intent_of : ℕ → List (Bound × Op) → Option Op
intent_of k [] = None
intent_of k (p ∷ ps) = if k == p.0.slot then Some p.1 else intent_of k ps

abbrev pub updated : Assign → Option Op → Value → Content Bound → Content Bound
updated op intent w (Plain v) = Plain (assigned op intent v w)
updated op intent w (ArrayOf over k rs vs) = ArrayOf over k rs vs
updated op intent w (CellOf k c) = CellOf k c

abbrev pub with_value_at : Index → Value → Content Bound → Content Bound
with_value_at t w (Plain v) = Plain v
with_value_at t w (ArrayOf over k rs vs) = ArrayOf over k rs (with_element t w (indices_in rs) vs)
with_value_at t w (CellOf k c) = CellOf k c

abbrev pub effect_at : Bound → Slotted → Option (CellState × Reply) → Answer Slotted
effect_at x s None = Unanswered (number_of x.slot s.kept s.live)
effect_at x s (Some a) =
    Replied (number_of x.slot s.kept s.live) a.1 (record s { kept = set_slot x.slot (with_state (a.0 ∷ []) (s.kept x.slot)) s.kept })

abbrev pub call_at : Bound → CellOp → Slotted → Option (List Reply) → Answer Slotted
call_at x op s None = effect_at x s (effect op (state_of (s.kept x.slot)))
call_at x op s (Some []) = Unanswered (number_of x.slot s.kept s.live)
call_at x op s (Some (r ∷ rs)) = Replied (number_of x.slot s.kept s.live) r (record s { replies = Some rs })

abbrev pub by_slot : Environment Bound Slotted
by_slot = record {
  get = λ x s. value_in (spelled (s.kept x.slot));
  update = λ x op v s. record s { kept = set_slot x.slot (updated op (intent_of x.slot s.intents) v (s.kept x.slot)) s.kept };
  element = λ x t s. element_in t (spelled (s.kept x.slot));
  put_element = λ x t v s. record s { kept = set_slot x.slot (with_value_at t v (s.kept x.slot)) s.kept };
  declare = λ x c s. record s { kept = set_slot x.slot c s.kept; roots = set_root x.slot no_root s.roots; live = Name x ∷ s.live };
  root = λ x s. s.roots x.slot;
  deal = λ x r s. record s { roots = set_root x.slot r s.roots };
  given = λ x s. paired x.text s.sets;
  enter = λ s. record s { live = Mark ∷ s.live };
  leave = λ s. record s { live = without_frame s.live };
  intend = λ is s. record s { intents = is };
  note = λ at rs s done. done;
  has_arrays = λ x s. any_over x.slot s.kept s.live;
  redomain = λ x rs s. record s { kept = redomain_slots x.slot rs s.kept };
  here = λ s. s.here;
  move = λ k s. record s { here = k };
  call = λ x op s. call_at x op s s.replies;
  cells = λ x s. cells_of s.kept s.live;
  history = λ s. get_or s.histories 0 [];
  begin = λ rs s. record s { replies = Some rs };
  settle = λ x h s. record s { kept = with_states (after (cells_of s.kept s.live) h) s.live s.kept; histories = drop 1 s.histories };
}

-- where a program starts
abbrev pub first_slots : Slots → List (Text × Value) → List (List Event) → Slotted
first_slots m sets histories = record {
  kept = m;
  roots = λ k. no_root;
  live = Mark ∷ [];
  intents = [];
  here = pos 0;
  sets = sets;
  replies = None;
  histories = histories;
}

-- THE SCOPING
-- the names in sight, and the reduce variables of the forall around
pub record Seen : Type 0 where
  pub frames : Sight
  pub intents : List (Bound × Op)

abbrev pub first_seen : Seen
first_seen = record { frames = Mark ∷ []; intents = [] }

-- a name has the slot of its innermost declaration; each slot has one text
abbrev pub Resolves : (ℕ → Text) → Bound → Seen → Type 0
Resolves names x g = (slot_of x.text g.frames ≡ Some x.slot) × (x.text ≡ names x.slot)

-- `reduce=` is by the same operator, told by texts or by slots
abbrev pub IntentResolves : Assign → Bound → Seen → Type 0
IntentResolves SetReduce x g = paired x.text (renamed_intents text_of g.intents) ≡ intent_of x.slot g.intents
IntentResolves _ x g = Unit {0}

abbrev pub FormResolves : (ℕ → Text) → Form Bound → Seen → Type 0
FormResolves names PlainForm g = Unit {0}
FormResolves names (ArrayForm over) g = OverNamed names over g.frames
FormResolves names CellForm g = Unit {0}

-- Each declaration has a slot that no name in sight has; and no forall stands in another.
abbrev pub resolving : (ℕ → Text) → Scoping Bound Seen
resolving names = record {
  reads = Resolves names;
  reads_at = λ x t. Resolves names x;
  reads_element = λ x items. Resolves names x;
  assigns = λ x op g. Resolves names x g × IntentResolves op x g;
  assigns_at = λ x t. Resolves names x;
  assigns_element = λ x items. Resolves names x;
  calls = Resolves names;
  declares = λ x form g. IsFresh x.slot g.frames × FormResolves names form g × (x.text ≡ names x.slot);
  gives = λ x g. Unit {0};
  holds = λ x c. Unit {0};
  suits = λ x item g. Unit {0};
  suits_element = λ x item g. Unit {0};
  turns = λ x item g. Unit {0};
  spans = λ x items g. Unit {0};
  spans_array = λ x k items g. Unit {0};
  intends = λ is g. g.intents ≡ [];
  coforalls = λ x g. Unit {0};
  moves = λ g. Unit {0};
  add = λ x form g. record g { frames = Name x ∷ g.frames };
  enter = λ g. record g { frames = Mark ∷ g.frames };
  leave = λ g. record g { frames = without_frame g.frames };
  intend = λ is g. record g { intents = is };
  begin = λ g. g;
}

resolving-lawful : (names : ℕ → Text) → IsLawful (resolving names)
resolving-lawful names = record {
  leave-enter = λ g. refl;
  leave-add = λ x form g. refl;
  reads-add = λ x form g d. (ap (λ b. if b then Some x.slot else slot_of x.text g.frames) ((bytes_eq-Decides x.text x.text).1 refl), d.2);
}

-- THE RELATION: the slots of the names in sight stand for the store, and all else is the same
pub record Stands (names : ℕ → Text) (g : Seen) (s1 : State) (s2 : Slotted) : Type 0 where
  pub store : s1.store ≡ store_at s2.kept g.frames
  pub roots : s1.roots ≡ roots_at s2.roots g.frames
  pub live : s2.live ≡ g.frames
  pub apart : IsApart g.frames
  pub overs : Overs names s2.kept g.frames
  pub intents : s2.intents ≡ g.intents
  pub intents_by_name : s1.intents ≡ renamed_intents text_of g.intents
  pub here : s1.here ≡ s2.here
  pub sets : s1.sets ≡ s2.sets
  pub replies : s1.replies ≡ s2.replies
  pub histories : s1.histories ≡ s2.histories

-- ONE CONTENT
updated-spelled : (op : Assign) (a b : Option Op) (v : Value) (c : Content Bound) (x : Bound) (g : Seen) → a ≡ paired x.text (renamed_intents text_of g.intents) → b ≡ intent_of x.slot g.intents
    → IntentResolves op x g → update_in op a v (spelled c) ≡ spelled (updated op b v c)
updated-spelled op a b v (Plain w) x g p q i = ap (λ u. Plain u) (by_op op i)
  where
    by_op : (op : Assign) → IntentResolves op x g → assigned op a w v ≡ assigned op b w v
    by_op Set i = refl
    by_op SetAdd i = refl
    by_op SetSubtract i = refl
    by_op SetMultiply i = refl
    by_op SetDivide i = refl
    by_op SetRemainder i = refl
    by_op SetReduce i = ap (λ o. assigned SetReduce o w v) (p ∙ i ∙ sym q)
updated-spelled op a b v (ArrayOf over k rs vs) x g p q i = refl
updated-spelled op a b v (CellOf k c) x g p q i = refl

updated-resolves : (names : ℕ → Text) (op : Assign) (intent : Option Op) (v : Value) (c : Content Bound) (s : Sight) → OverResolves names c s → OverResolves names (updated op intent v c) s
updated-resolves names op intent v (Plain w) s r = tt
updated-resolves names op intent v (ArrayOf over k rs vs) s r = r
updated-resolves names op intent v (CellOf k c) s r = tt

pub put-spelled : (t : Index) (v : Value) (c : Content Bound) → put_in t v (spelled c) ≡ spelled (with_value_at t v c)
put-spelled t v (Plain w) = refl
put-spelled t v (ArrayOf over k rs vs) = refl
put-spelled t v (CellOf k c) = refl

put-resolves : (names : ℕ → Text) (t : Index) (v : Value) (c : Content Bound) (s : Sight) → OverResolves names c s → OverResolves names (with_value_at t v c) s
put-resolves names t v (Plain w) s r = tt
put-resolves names t v (ArrayOf over k rs vs) s r = r
put-resolves names t v (CellOf k c) s r = tt

form-resolves : (names : ℕ → Text) (c : Content Bound) (g : Seen) → FormResolves names (form_of c) g → OverResolves names c g.frames
form-resolves names (Plain v) g r = tt
form-resolves names (ArrayOf over k rs vs) g r = r
form-resolves names (CellOf k c) g r = tt

module _ (names : ℕ → Text) where
  held : (x : Bound) (g : Seen) (s1 : State) (s2 : Slotted) → Stands names g s1 s2 → Resolves names x g → look_up x.text s1.store ≡ spelled (s2.kept x.slot)
  held x g s1 s2 r f = ap (look_up x.text) r.store ∙ look_up-slot x.text x.slot g.frames s2.kept f.0

  -- one slot's content changed
  changed_alike : (x : Bound) (a : Content Text → Content Text) (u : Content Bound → Content Bound) (g : Seen) (s1 : State) (s2 : Slotted) → Stands names g s1 s2 → Resolves names x g
      → ((c : Content Bound) → a (spelled c) ≡ spelled (u c)) → ((c : Content Bound) (s : Sight) → OverResolves names c s → OverResolves names (u c) s)
      → Stands names g (record s1 { store = change_in x.text a s1.store }) (record s2 { kept = set_slot x.slot (u (s2.kept x.slot)) s2.kept })
  changed_alike x a u g s1 s2 r f p q = record {
    store = ap (change_in x.text a) r.store ∙ change_in-slot x.text a u p g.frames s2.kept x.slot r.apart f.0;
    roots = r.roots;
    live = r.live;
    apart = r.apart;
    overs = Overs-set names s2.kept x.slot u q g.frames r.overs;
    intents = r.intents;
    intents_by_name = r.intents_by_name;
    here = r.here;
    sets = r.sets;
    replies = r.replies;
    histories = r.histories;
  }

  number_alike : (x : Bound) (g : Seen) (s1 : State) (s2 : Slotted) → Stands names g s1 s2 → Resolves names x g → cell_number x.text s1.store ≡ number_of x.slot s2.kept s2.live
  number_alike x g s1 s2 r f =
      ap (cell_number x.text) r.store ∙ cell_number-slots x s2.kept g.frames r.apart f.0 ∙ ap (number_of x.slot s2.kept) (sym r.live)

  -- an operation on a cell
  effect_alike : (x : Bound) (g : Seen) (s1 : State) (s2 : Slotted) → Stands names g s1 s2 → Resolves names x g → (o : Option (CellState × Reply))
      → AnswersAlike (Stands names g) (effect_on x.text s1 o) (effect_at x s2 o)
  effect_alike x g s1 s2 r f None = ap (λ n. Unanswered n) (sym (number_alike x g s1 s2 r f))
  effect_alike x g s1 s2 r f (Some a) = (
    record s2 { kept = set_slot x.slot (with_state (a.0 ∷ []) (s2.kept x.slot)) s2.kept },
    changed_alike x (set_cell (a.0 ∷ [])) (with_state (a.0 ∷ [])) g s1 s2 r f (set_cell-spelled (a.0 ∷ [])) (with_state-resolves names (a.0 ∷ [])),
    ap (λ n. Replied n a.1 (record s2 { kept = set_slot x.slot (with_state (a.0 ∷ []) (s2.kept x.slot)) s2.kept })) (sym (number_alike x g s1 s2 r f)),
  )

  call_alike : (x : Bound) (op : CellOp) (g : Seen) (s1 : State) (s2 : Slotted) → Stands names g s1 s2 → Resolves names x g → (o : Option (List Reply))
      → AnswersAlike (Stands names g) (call_in x.text op s1 o) (call_at x op s2 o)
  call_alike x op g s1 s2 r f None =
      subst (λ c. AnswersAlike (Stands names g) (effect_on x.text s1 (effect op c)) (effect_at x s2 (effect op (state_of (s2.kept x.slot)))))
      (sym (ap state_in (held x g s1 s2 r f) ∙ state_in-spelled (s2.kept x.slot)))
      (effect_alike x g s1 s2 r f (effect op (state_of (s2.kept x.slot))))
  call_alike x op g s1 s2 r f (Some []) = ap (λ n. Unanswered n) (sym (number_alike x g s1 s2 r f))
  call_alike x op g s1 s2 r f (Some (a ∷ rs)) = (
    record s2 { replies = Some rs },
    record {
      store = r.store;
      roots = r.roots;
      live = r.live;
      apart = r.apart;
      overs = r.overs;
      intents = r.intents;
      intents_by_name = r.intents_by_name;
      here = r.here;
      sets = r.sets;
      replies = refl;
      histories = r.histories;
    },
    ap (λ n. Replied n a (record s2 { replies = Some rs })) (sym (number_alike x g s1 s2 r f)),
  )

  -- the cells, and their states behind a coforall
  cells_alike : (x : Bound) (g : Seen) (s1 : State) (s2 : Slotted) → Stands names g s1 s2 → by_name.cells x.text s1 ≡ by_slot.cells x s2
  cells_alike x g s1 s2 r = ap store_cells r.store ∙ store_cells-slots s2.kept g.frames ∙ ap (cells_of s2.kept) (sym r.live)

  settle_alike : (x : Bound) (h : List Event) (g : Seen) (s1 : State) (s2 : Slotted) → Stands names g s1 s2 → Stands names g (by_name.settle x.text h s1) (by_slot.settle x h s2)
  settle_alike x h g s1 s2 r = record {
    store =
        ap (λ cs. with_cells (after cs h) s1.store) (cells_alike x g s1 s2 r)
        ∙ ap (with_cells (after (cells_of s2.kept s2.live) h)) r.store
        ∙ with_cells-slots (after (cells_of s2.kept s2.live) h) g.frames s2.kept r.apart
        ∙ ap (λ fs. store_at (with_states (after (cells_of s2.kept s2.live) h) fs s2.kept) g.frames) (sym r.live);
    roots = r.roots;
    live = r.live;
    apart = r.apart;
    overs = Overs-with_states names (after (cells_of s2.kept s2.live) h) s2.live s2.kept g.frames r.overs;
    intents = r.intents;
    intents_by_name = r.intents_by_name;
    here = r.here;
    sets = r.sets;
    replies = r.replies;
    histories = ap (drop 1) r.histories;
  }

  declare_alike : (x : Bound) (c : Content Bound) (g : Seen) (s1 : State) (s2 : Slotted) → Stands names g s1 s2 → IsFresh x.slot g.frames → FormResolves names (form_of c) g
      → Stands names (record g { frames = Name x ∷ g.frames }) (by_name.declare x.text (spelled c) s1) (by_slot.declare x c s2)
  declare_alike x c g s1 s2 r f a = record {
    store = ap (λ es. Declared (record { name = x.text; content = spelled c }) ∷ es) r.store ∙ declared-slot x c g.frames s2.kept f;
    roots = ap (λ es. Declared (record { name = x.text; content = no_root }) ∷ es) r.roots ∙ declared-root x no_root g.frames s2.roots f;
    live = ap (λ fs. Name x ∷ fs) r.live;
    apart = (f, r.apart);
    overs = Overs-declare names x c s2.kept g.frames f r.overs (form-resolves names c g a);
    intents = r.intents;
    intents_by_name = r.intents_by_name;
    here = r.here;
    sets = r.sets;
    replies = r.replies;
    histories = r.histories;
  }

  redomain_alike : (x : Bound) (rs : List TextRange) (g : Seen) (s1 : State) (s2 : Slotted) → Stands names g s1 s2 → Resolves names x g → Stands names g (by_name.redomain x.text rs s1) (by_slot.redomain x rs s2)
  redomain_alike x rs g s1 s2 r f = record {
    store = ap (redomain_in x.text rs) r.store ∙ redomain_in-slots names x f.1 s2.kept rs g.frames r.apart r.overs f.0;
    roots = r.roots;
    live = r.live;
    apart = r.apart;
    overs = Overs-redomain names s2.kept x.slot rs g.frames r.overs;
    intents = r.intents;
    intents_by_name = r.intents_by_name;
    here = r.here;
    sets = r.sets;
    replies = r.replies;
    histories = r.histories;
  }

  update_alike : (x : Bound) (op : Assign) (v : Value) (g : Seen) (s1 : State) (s2 : Slotted) → Stands names g s1 s2 → Resolves names x g → IntentResolves op x g
      → Stands names g (by_name.update x.text op v s1) (by_slot.update x op v s2)
  update_alike x op v g s1 s2 r f i =
      changed_alike x (update_in op (paired x.text s1.intents) v) (updated op (intent_of x.slot s2.intents) v) g s1 s2 r f
      (λ c. updated-spelled op (paired x.text s1.intents) (intent_of x.slot s2.intents) v c x g (ap (paired x.text) r.intents_by_name) (ap (intent_of x.slot) r.intents) i)
      (updated-resolves names op (intent_of x.slot s2.intents) v)

  put_alike : (x : Bound) (t : Index) (v : Value) (g : Seen) (s1 : State) (s2 : Slotted) → Stands names g s1 s2 → Resolves names x g
      → Stands names g (by_name.put_element x.text t v s1) (by_slot.put_element x t v s2)
  put_alike x t v g s1 s2 r f = changed_alike x (put_in t v) (with_value_at t v) g s1 s2 r f (put-spelled t v) (put-resolves names t v)

  -- ALL TOGETHER
  pub slots_simulate : (limits : Limits) → Simulates limits text_of (resolving names) by_name by_slot (Stands names)
  slots_simulate limits = record {
    lawful = resolving-lawful names;
    gets = λ x g s1 s2 r f. ap value_in (held x g s1 s2 r f);
    whole_targets = λ x op g s1 s2 r f. ap (λ c. array_domain (value_in c)) (held x g s1 s2 r f.0);
    domain_targets = λ x op g s1 s2 r f. ap (λ c. is_domain (value_in c)) (held x g s1 s2 r f.0);
    updates = λ x op v g s1 s2 r f h. update_alike x op v g s1 s2 r f.0 f.1;
    elements_at = λ x t g s1 s2 r f. ap (element_in t) (held x g s1 s2 r f);
    elements = λ x items vs g s1 s2 r f e. ap (element_in (index_of vs)) (held x g s1 s2 r f);
    puts_at = λ x t v g s1 s2 r f h. put_alike x t v g s1 s2 r f;
    puts = λ x items vs v g s1 s2 r f e h. put_alike x (index_of vs) v g s1 s2 r f;
    declares = λ x c g s1 s2 r f h. declare_alike x c g s1 s2 r f.0 f.1;
    roots = λ x g s1 s2 r f d. ap (innermost no_root x.text) r.roots ∙ root-slot x.text x.slot g.frames s2.roots f.0;
    deals = λ x root g s1 s2 r f d. record {
      store = r.store;
      roots = ap (change_in x.text (λ old. root)) r.roots ∙ deal-slot x.text root g.frames s2.roots x.slot r.apart f.0;
      live = r.live;
      apart = r.apart;
      overs = r.overs;
      intents = r.intents;
      intents_by_name = r.intents_by_name;
      here = r.here;
      sets = r.sets;
      replies = r.replies;
      histories = r.histories;
    };
    gives = λ x g s1 s2 r f. ap (paired x.text) r.sets;
    suited = λ x item v g s1 s2 r f w e. tt;
    suited_new = λ x item v g s1 s2 r f d e. tt;
    suited_element = λ x item v g s1 s2 r f e. tt;
    suited_once = λ x item v g s1 s2 r f w e. tt;
    suited_turn = λ x item t v g s1 s2 r f w p e. tt;
    suited_initial = λ x over item t v g s1 s2 r f d p e. tt;
    changed = λ x op t old w g s1 s2 r f e h. tt;
    turned = λ x item over g s1 s2 r f e k d lt. tt;
    spanned = λ x from items v g s1 s2 r f d e. tt;
    spanned_array = λ x over k from items v vs g s1 s2 r f e h. tt;
    given_holds = λ x v g s1 s2 r f e. tt;
    enters = λ g s1 s2 r. record {
      store = ap (λ es. Opened ∷ es) r.store;
      roots = ap (λ es. Opened ∷ es) r.roots;
      live = ap (λ fs. Mark ∷ fs) r.live;
      apart = r.apart;
      overs = r.overs;
      intents = r.intents;
      intents_by_name = r.intents_by_name;
      here = r.here;
      sets = r.sets;
      replies = r.replies;
      histories = r.histories;
    };
    leaves = λ g h s1 s2 t1 t2 before out r. subst (λ g. Stands names g (by_name.leave t1) (by_slot.leave t2)) out (record {
      store = ap without_innermost r.store ∙ without_innermost-store_at t2.kept h.frames;
      roots = ap without_innermost r.roots ∙ left-roots t2.roots h.frames;
      live = ap without_frame r.live;
      apart = IsApart-without_frame h.frames r.apart;
      overs = Overs-without_frame names t2.kept h.frames r.overs;
      intents = r.intents;
      intents_by_name = r.intents_by_name;
      here = r.here;
      sets = r.sets;
      replies = r.replies;
      histories = r.histories;
    });
    intends = λ is g s1 s2 r f. record {
      store = r.store;
      roots = r.roots;
      live = r.live;
      apart = r.apart;
      overs = r.overs;
      intents = refl;
      intents_by_name = refl;
      here = r.here;
      sets = r.sets;
      replies = r.replies;
      histories = r.histories;
    };
    ends_forall = λ is g s1 s2 r f. record {
      store = r.store;
      roots = r.roots;
      live = r.live;
      apart = r.apart;
      overs = r.overs;
      intents = sym f;
      intents_by_name = ap (renamed_intents text_of) (sym f);
      here = r.here;
      sets = r.sets;
      replies = r.replies;
      histories = r.histories;
    };
    notes = λ at rs done g s1 s2 r. refl;
    has = λ x op g s1 s2 r f w.
        ap (arrays_over x.text) r.store ∙ arrays_over-slots names x f.0.1 s2.kept g.frames r.apart r.overs f.0.0 ∙ ap (any_over x.slot s2.kept) (sym r.live);
    redomains = λ x op v g s1 s2 r f w h. redomain_alike x (ranges_in v) g s1 s2 r f.0;
    heres = λ g s1 s2 r. r.here;
    moves = λ k g s1 s2 r m. record {
      store = r.store;
      roots = r.roots;
      live = r.live;
      apart = r.apart;
      overs = r.overs;
      intents = r.intents;
      intents_by_name = r.intents_by_name;
      here = refl;
      sets = r.sets;
      replies = r.replies;
      histories = r.histories;
    };
    calls = λ x op g s1 s2 r f.
        subst (λ o. AnswersAlike (Stands names g) (call_in x.text op s1 o) (call_at x op s2 s2.replies)) (sym r.replies) (call_alike x op g s1 s2 r f s2.replies);
    cells = λ x g s1 s2 r c. cells_alike x g s1 s2 r;
    histories = λ x g s1 s2 r c. ap (λ (hs : List (List Event)). get_or hs 0 []) r.histories;
    begins = λ x rs g s1 s2 r c. record {
      store = r.store;
      roots = r.roots;
      live = r.live;
      apart = r.apart;
      overs = r.overs;
      intents = r.intents;
      intents_by_name = r.intents_by_name;
      here = r.here;
      sets = r.sets;
      replies = refl;
      histories = r.histories;
    };
    settles = λ x h g s1 s2 r c. settle_alike x h g s1 s2 r;
  }

  -- what a program means is what its tree with slots does, from slots that hold anything
  pub meaning-slots : (limits : Limits) (t : ProgramTree Bound) (program : ProgramTree Text) (sets : List (Text × Value)) (histories : List (List Event)) (m : Slots)
      → renamed_program text_of t ≡ program → fits_all (resolving names) t.stmts first_seen
      → EndsAlike (Stands names (after_all (resolving names) t.stmts first_seen)) (meaning program sets limits histories)
      (run_from limits by_slot t (first_slots m sets histories))
  meaning-slots limits t program sets histories m same f =
      meaning-alike limits text_of (resolving names) by_slot (Stands names) (slots_simulate limits) t program sets histories first_seen (first_slots m sets histories) same f
      (record {
        store = refl;
        roots = refl;
        live = refl;
        apart = tt;
        overs = tt;
        intents = refl;
        intents_by_name = refl;
        here = refl;
        sets = refl;
        replies = refl;
        histories = refl;
      })

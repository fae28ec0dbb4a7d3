-- The map by which a run deals out the turns of a forall is the one that the definition gives.
-- First of one forall, where a memory stands for the names in sight; then of each that a run of a program enters.
use Rattle.std.proofs.Common.{◌≡◌, ℕ, List, [], ◌∷◌, Option, Some, None, inl, inr, refl, sym, ap, ◌∙◌, subst}
use Rattle.std.specs.Prelude.{option_map, unwrap_or, pos}
use Rattle.std.proofs.lemmas.List.{length-replicate}
use Rattle.std.specs.List.{AllByRecursion}
use Rattle.std.proofs.lemmas.Option.{none-some, same_Some}
use Rattle.dpl_history.specs.declared.cell.CellState.TheVariants.{Empty}
use Rattle.dpl_history.specs.declared.history.Event.{Event}
use Rattle.dpl_sets.specs.Indices.{indices}
use Rattle.dpl_map.specs.Maps.{AxisValue, whole_map}
use Rattle.dpl_layout.specs.Layouts.{LayoutValue}
use Rattle.dpl_layout.specs.declared.maps.Maps.{Maps}
use Rattle.dpl_layout.specs.declared.maps.Maps.TheVariants as roots
use Rattle.dpl_layout.specs.declared.named.Named.TheVariants.{Whole}
use Rattle.dpl_layout.specs.RootMaps.{chosen_map}
use Rattle.dpl_language.specs.Tree.{ItemTree, Body, Stmts, ForallWord}
use Rattle.dpl_language.specs.Distributions.{no_root}
use Rattle.dpl_language.specs.Environment.{Limits}
use Rattle.dpl_language.specs.Outcome.{no_deeds}
use Rattle.dpl_language.specs.Names.{Text, State, innermost as root_of_name, by_name}
use Rattle.dpl_language.specs.Program.{first_state}
use Rattle.dpl_language.specs.Roots.{derived_item}
use Rattle.dpl_agreement.specs.Renamed.{renamed_item, renamed_body, renamed_stmts}
use Rattle.dpl_agreement.specs.Scopes.{fits_item, fits_all}
use Rattle.dpl_agreement.specs.Untasked.{UntaskedStmts}
use Rattle.dpl_agreement.proofs.RenamedSame.{renamed_item-same}
use Rattle.dpl_agreement.proofs.RenamedTwice.{renamed_item-twice}
use Rattle.dpl_agreement.proofs.Through.{through}
use Rattle.dpl_spelling.specs.Spelt.{StmtsSpelt}
use Rattle.dpl_agreement.proofs.SlotRoots.{root-slot}
use Rattle.dpl_agreement.proofs.RenamedParts.{derived_item-renamed}
use Rattle.dpl_agreement.proofs.RootsAlike.{derived_item-reads}
use Rattle.dpl_frame.specs.Roots.{map_of_root}
use Rattle.dpl_frame.specs.Frames.{Framed}
use Rattle.dpl_rules.specs.Types.{Origin}
use Rattle.dpl_rules.specs.Sights.{Scopes}
use Rattle.dpl_rules.specs.Loops.{in_loop}
use Rattle.dpl_rules.specs.Bodies.{written_arrays}
use Rattle.dpl_rules.specs.Breaches.{top, top_sight, stmts_breaches}
use Rattle.dpl_rules.specs.Foralls.{ForallIn, scope_in, deeds_in, all_foralls}
use Rattle.dpl_lowered.specs.LoweredExpressions.{Once, lowered_item}
use Rattle.dpl_lowered.specs.LoweredStatements.{lowered_body, lowered_stmts}
use Rattle.dpl_lowered.proofs.Roots.{item-derived}
use Rattle.dpl_memory.specs.Memory.{VariableKind, PlainKind, DomainKind, TupleKind, ArrayKind, CellKind, Variable, variable, Memory, no_domain, no_tuple, no_array, root_in, known_variable, in_memory}
use Rattle.dpl_memory.specs.Resolved.{Bound, no_shape, text_of, variable_of, Seen, first_seen, Start, first_memory, AreToCome, Resolves, resolving}
use Rattle.dpl_words.specs.Words.{IntLeaf, no_range}
use Rattle.dpl_memory.proofs.Known.{memory-known}
use Rattle.dpl_memory.proofs.Wholes.{whole-first}
use Rattle.dpl_memory.proofs.InSight.{in_slots, slot_of-innermost, innermost-told}
use Rattle.dpl_memory.proofs.MemoryAgrees.{Kept, memory_simulates}
use Rattle.dpl_nodes.specs.Spots.{IsNear}
use Rattle.dpl_standing.specs.Written.{first_in_body}
use Rattle.dpl_standing.proofs.Reading.{first_name}
use Rattle.dpl_readings.specs.Written.{slot_of}
use Rattle.dpl_nodes.specs.Roots.{slot_by, slot_of as kind_slot}
use Rattle.dpl_frame.specs.Dealt.{slot_map, dealt_by}
use Rattle.dpl_exchange.specs.Counts.{turns_map}
use Rattle.dpl_bound.specs.Shapes.{shape_in}
use Rattle.dpl_bound.specs.Sights.{bound_in}
use Rattle.dpl_bound.specs.Bounds.{bound_body, bound_stmts}
use Rattle.dpl_run.specs.Entered.{Entry, entered_all, Pairwise}
use Rattle.dpl_run.specs.Recorded.{loop_of}
use Rattle.dpl_run.specs.Dealing.{IsAmong, run_map, meant_map, IsDealtAlike}
use Rattle.dpl_run.proofs.EnteredAlike.{IsMet, stmts-entered}
use Rattle.dpl_run.proofs.EnteredLowered.{IsLowered, stmts-lowered}
use Rattle.dpl_run.proofs.FirstWritten.{bound_itself, bound_slot, IsFirst, program-laws, program-firsts, first-slot}
use Rattle.dpl_run.proofs.OuterArrays.{WritesOuter, forall-outer, body-text}
use Rattle.dpl_run.proofs.ForallsStand.{IsSeenAs, StandsAs, stmts-stand}

-- ---- what has no root is dealt out by the whole map
rootless-map : (layout : LayoutValue) → map_of_root layout no_root ≡ whole_map
unfolding indices
rootless-map layout = by layout.maps
  where
    by : (m : Maps) → chosen_map layout m Whole [] ≡ whole_map
    by roots.AsIs = refl
    by roots.Block = refl
    by roots.Cyclic = refl

-- ---- the root of a name is that of its slot
module _ (start : Start) (g : Seen) (s1 : State) (s2 : Memory) (r : Kept start g s1 s2) where
  root-met : (x : Bound) → Resolves x g → root_of_name no_root x.text s1.roots ≡ root_in x.variable.kind x.variable.slot s2.roots
  root-met x f =
      ap (root_of_name no_root x.text) r.roots
      ∙ root-slot x.text x.variable.slot (in_slots g.frames) _ (slot_of-innermost x.text (x.variable.kind, x.variable.slot, x.shape) g.frames f)
      ∙ ap (λ k. root_in k x.variable.slot s2.roots) (innermost-told r.told start.slots x.text (x.variable.kind, x.variable.slot, x.shape) g.frames r.is_told f).kind

  -- ---- one forall, as its text, the resolved tree and the tree that runs have it
  module _ (layout : LayoutValue) (limits : Limits) (f : ForallIn) (e : Entry Text State) (over : ItemTree Bound) (body : Body Bound) (q : Entry Variable Memory)
      (named : e.state ≡ s1) (held : q.state ≡ s2) (lowered : q.over ≡ lowered_item known_variable Once (renamed_item variable_of over))
      (lowered_too : q.body ≡ lowered_body known_variable (renamed_body variable_of body))
      (runs_over : over ≡ renamed_item (bound_in f.scopes) f.over) (has_body : body ≡ bound_body (in_loop f.scopes ForallWord f.variables f.over) f.body)
      (seen : IsSeenAs f.scopes g) (fit : fits_item (resolving start) None over g) (first : IsFirst f) (outer : WritesOuter f) where
    abbrev frame : Framed
    frame = record { memory = q.state; limits = limits; layout = layout }

    abbrev turns : List Origin → Option Text → List AxisValue
    turns os x = turns_map layout (loop_of e) os x

    -- by names, and in the slot of a name
    name-met : (x : Bound) → Resolves x g → map_of_root layout ((loop_of e).root x.text) ≡ map_of_root layout (root_in x.variable.kind x.variable.slot q.state.roots)
    name-met x res =
        ap (λ (s : State). map_of_root layout (root_of_name no_root x.text s.roots)) named ∙ ap (map_of_root layout) (root-met x res)
        ∙ ap (λ (s : Memory). map_of_root layout (root_in x.variable.kind x.variable.slot s.roots)) (sym held)

    slot-map : (k : VariableKind) (slot : ℕ) → slot_map frame (kind_slot k slot) ≡ map_of_root layout (root_in k slot q.state.roots)
    slot-map (PlainKind k) slot = sym (rootless-map layout)
    slot-map DomainKind slot = refl
    slot-map TupleKind slot = sym (rootless-map layout)
    slot-map (ArrayKind k) slot = refl
    slot-map (CellKind k) slot = sym (rootless-map layout)

    -- from which name the domain of the loop is derived
    derived-bound : derived_item over ≡ option_map (bound_in f.scopes) (derived_item f.over)
    derived-bound = ap derived_item runs_over ∙ derived_item-renamed (bound_in f.scopes) f.over

    derived-slot : slot_by (derived_item q.over) ≡ slot_by (option_map variable_of (option_map (bound_in f.scopes) (derived_item f.over)))
    derived-slot =
        ap (λ i. slot_by (derived_item i)) lowered ∙ ap slot_by (item-derived known_variable Once (renamed_item variable_of over) ∙ derived_item-renamed variable_of over ∙ ap (option_map variable_of) derived-bound)

    unwritten : slot_map frame (slot_by (derived_item q.over)) ≡ turns [] (derived_item f.over)
    unwritten = ap (slot_map frame) derived-slot ∙ by (derived_item f.over) refl
      where
        by : (o : Option Text) → derived_item f.over ≡ o → slot_map frame (slot_by (option_map variable_of (option_map (bound_in f.scopes) o))) ≡ turns [] o
        by None d = refl
        by (Some x) d =
            let res : Resolves (bound_in f.scopes x) g = derived_item-reads (resolving start) over g fit (bound_in f.scopes x) (derived-bound ∙ ap (option_map (bound_in f.scopes)) d) in
            slot-map (bound_in f.scopes x).variable.kind (bound_in f.scopes x).variable.slot ∙ sym (name-met (bound_in f.scopes x) res)

    -- what is written first
    turns-some : (os : List Origin) (x : Text) (o : Option Text) → first_name os ≡ Some x → turns os o ≡ map_of_root layout ((loop_of e).root x)
    turns-some [] x o h = absurd (none-some x h)
    turns-some (p ∷ os) x o h = ap (λ y. map_of_root layout ((loop_of e).root y)) (same_Some p.name x h)

    turns-none : (os : List Origin) (o : Option Text) → first_name os ≡ None → turns os o ≡ turns [] o
    turns-none [] o h = refl
    turns-none (p ∷ os) o h = absurd (none-some p.name (sym h))

    abbrev inner : Scopes
    inner = in_loop f.scopes ForallWord f.variables f.over

    written-slot : first_in_body slot_of q.body ≡ option_map bound_slot (first_in_body bound_itself (bound_body inner f.body))
    written-slot =
        ap (first_in_body slot_of) lowered_too ∙ first-slot (renamed_body text_of body) body refl known_variable ∙ ap (λ b. option_map bound_slot (first_in_body bound_itself b)) has_body

    written-text : option_map text_of (first_in_body bound_itself (bound_body inner f.body)) ≡ first_name (written_arrays (scope_in f) (deeds_in f))
    written-text = body-text f.body inner ∙ sym first

    pub one-map : run_map layout limits q ≡ meant_map layout f e
    one-map = ap (dealt_by frame (slot_by (derived_item q.over))) written-slot ∙ by (first_in_body bound_itself (bound_body inner f.body)) refl
      where
        by : (o : Option Bound) → first_in_body bound_itself (bound_body inner f.body) ≡ o
            → dealt_by frame (slot_by (derived_item q.over)) (option_map bound_slot o) ≡ turns (written_arrays (scope_in f) (deeds_in f)) (derived_item f.over)
        by None h = unwritten ∙ sym (turns-none (written_arrays (scope_in f) (deeds_in f)) (derived_item f.over) (sym written-text ∙ ap (option_map text_of) h))
        by (Some b) h =
            let is = outer b h in
            let c : Bound = record { text = b.text; variable = variable (ArrayKind is.elements) b.variable.slot; shape = shape_in f.scopes b.text } in
            sym (name-met c (seen b.text (ArrayKind is.elements) b.variable.slot is.kind is.slot))
            ∙ sym (turns-some (written_arrays (scope_in f) (deeds_in f)) b.text (derived_item f.over) (sym written-text ∙ ap (option_map text_of) h))

-- ---- each forall that a run enters
pub pair-through : {A B C : Type 0} (P : A → B → Type 0) (Q : B → C → Type 0) (R : A → C → Type 0) → ((a : A) (b : B) (c : C) → P a b → Q b c → R a c)
    → (xs : List A) (ys : List B) (zs : List C) → Pairwise P xs ys → Pairwise Q ys zs → Pairwise R xs zs
pair-through P Q R both [] [] [] p q = tt
pair-through P Q R both [] [] (z ∷ zs) p q = absurd q
pair-through P Q R both [] (y ∷ ys) zs p q = absurd p
pair-through P Q R both (x ∷ xs) [] zs p q = absurd p
pair-through P Q R both (x ∷ xs) (y ∷ ys) [] p q = absurd q
pair-through P Q R both (x ∷ xs) (y ∷ ys) (z ∷ zs) p q = (both x y z p.0 q.0, pair-through P Q R both xs ys zs p.1 q.1)

law-among : (P : ForallIn → Type 0) (fs : List ForallIn) → AllByRecursion P fs → (f : ForallIn) → IsAmong f fs → P f
law-among P [] all f a = absurd a
law-among P (g ∷ fs) all f (inl e) = subst P (sym e) all.0
law-among P (g ∷ fs) all f (inr a) = law-among P fs all.1 f a

item-text : (ss : Scopes) (i : ItemTree Text) → renamed_item text_of (renamed_item (bound_in ss) i) ≡ i
item-text ss i = renamed_item-twice text_of (bound_in ss) i ∙ renamed_item-same i

seen-first : IsSeenAs top first_seen
seen-first x k slot kind at = absurd (none-some k kind)

first-kept : (start : Start) (histories : List (List Event)) → AreToCome start.histories histories (unwrap_or start.histories []) → Kept start first_seen (first_state start.texts histories) (first_memory start)
first-kept start histories given = record {
  told = λ j. record { text = []; kind = PlainKind IntLeaf; shape = no_shape; over = None };
  is_told = (tt, tt);
  fit = (tt, tt);
  overs_shaped = (tt, tt);
  opened = tt;
  apart = (tt, tt);
  overs = tt;
  store = refl;
  roots = refl;
  slots = record {
    numbers = length-replicate start.slots (pos 0);
    ranges = length-replicate start.slots no_range;
    domains = length-replicate start.slots no_domain;
    tuples = length-replicate start.slots no_tuple;
    arrays = length-replicate start.slots no_array;
    roots = length-replicate start.slots no_root;
  };
  intents = refl;
  intents_by_slots = refl;
  cells = length-replicate start.cells Empty;
  here = refl;
  replies = refl;
  histories = given;
  texts = refl;
  words = refl;
  shaped = λ j. tt;
  whole = whole-first start.slots;
}

module _ (layout : LayoutValue) (limits : Limits) (start : Start) (fs : List ForallIn) (firsts : AllByRecursion IsFirst fs) (outers : AllByRecursion WritesOuter fs) where
  abbrev Met : Entry Text State → Entry Bound Memory → Type 0
  Met a b = IsMet limits text_of (resolving start) by_name (through variable_of in_memory) (Kept start) (memory_simulates start limits) (StandsAs fs) a b

  abbrev Lowered : Entry Bound Memory → Entry Variable Memory → Type 0
  Lowered b c = IsLowered limits variable_of in_memory known_variable memory-known b c

  one-dealt : (a : Entry Text State) (b : Entry Bound Memory) (c : Entry Variable Memory) → Met a b → Lowered b c → IsDealtAlike layout limits fs a c
  one-dealt a b c m l =
      let k = m.known in
      let f = k.forall in record {
        forall = f;
        among = k.among;
        at = m.at ∙ k.at_word;
        at_run = sym l.at ∙ k.at_word;
        over = m.over ∙ ap (renamed_item text_of) k.runs_over ∙ item-text f.scopes f.over;
        ranges = m.ranges ∙ l.ranges;
        map =
            one-map start m.seen a.state b.state m.alike layout limits f a b.over b.body c refl (sym l.state) l.over l.body k.runs_over k.has_body k.seen m.fits
            (law-among IsFirst fs firsts f k.among) (law-among WritesOuter fs outers f k.among);
      }

-- THE LAW. A program without tasks that a text spells and that breaks no rule, with its names resolved: the run of the tree over slots in a
-- memory enters the same foralls as the program's run by names, one after another, and deals out the turns of each by the definition's map.
pub turns-dealt : (layout : LayoutValue) (limits : Limits) (start : Start) (ts : Stmts Text) (histories : List (List Event)) → StmtsSpelt IsNear ⊥ ts → UntaskedStmts ts → stmts_breaches top_sight ts ≡ []
    → AreToCome start.histories histories (unwrap_or start.histories []) → fits_all (resolving start) (bound_stmts top ts) first_seen → renamed_stmts text_of (bound_stmts top ts) ≡ ts
    → Pairwise (IsDealtAlike layout limits (all_foralls top ts)) (entered_all limits by_name ts (first_state start.texts histories) no_deeds)
    (entered_all limits in_memory (lowered_stmts known_variable (renamed_stmts variable_of (bound_stmts top ts))) (first_memory start) no_deeds)
turns-dealt layout limits start ts histories spelt untasked unbroken given fit text =
    let fs = all_foralls top ts in
    let bound = bound_stmts top ts in
    let firsts = program-firsts ts spelt untasked unbroken in
    let outers = program-laws WritesOuter forall-outer ts spelt untasked unbroken in
    subst (λ us. Pairwise (IsDealtAlike layout limits fs) (entered_all limits by_name us (first_state start.texts histories) no_deeds)
    (entered_all limits in_memory (lowered_stmts known_variable (renamed_stmts variable_of bound)) (first_memory start) no_deeds)) text
    (pair-through (Met layout limits start fs firsts outers) (Lowered layout limits start fs firsts outers) (IsDealtAlike layout limits fs) (one-dealt layout limits start fs firsts outers)
    (entered_all limits by_name (renamed_stmts text_of bound) (first_state start.texts histories) no_deeds)
    (entered_all limits (through variable_of in_memory) bound (first_memory start) no_deeds)
    (entered_all limits in_memory (lowered_stmts known_variable (renamed_stmts variable_of bound)) (first_memory start) no_deeds)
    (stmts-entered limits text_of (resolving start) by_name (through variable_of in_memory) (Kept start) (memory_simulates start limits) (StandsAs fs) bound first_seen fit
    (stmts-stand start fs ts top first_seen seen-first (λ f a. a)) (first_state start.texts histories) (first_memory start) no_deeds (first-kept start histories given))
    (stmts-lowered limits variable_of in_memory known_variable memory-known bound (first_memory start) (first_memory start) no_deeds refl))

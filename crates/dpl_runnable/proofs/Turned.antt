-- The variables of a loop: each has the next slot in the loop's scope, and may be given the value of each turn.
-- So what is in sight in the loop's body is what the check has there.
use Rattle.std.proofs.Common.{◌≡◌, ℕ, ◌+◌, ◌<◌, ◌≤◌, false, List, [], ◌∷◌, refl, sym, ap, ◌∙◌, subst, arith, map, Option, Some, None}
use Rattle.std.specs.Prelude.{max, if◌then◌else◌}
use Rattle.std.proofs.lemmas.Option.{none-some}
use Rattle.dpl_language.specs.Tree.{Placed, AfterComma, Op, ItemTree, VariablesTree, OneVariable, ManyVariables, LoopWord}
use Rattle.dpl_language.specs.Values.{Int}
use Rattle.dpl_language.specs.Names.{Text}
use Rattle.dpl_language.specs.Phrases.{parts}
use Rattle.dpl_agreement.specs.Scopes.{fits_each, fits_variables, add_each, inside, holds_ints, suits_turns}
use Rattle.dpl_agreement.specs.Renamed.{renamed_item}
use Rattle.dpl_rules.specs.Types.{ValueType}
use Rattle.dpl_rules.specs.Sights.{Declared, Scopes, enter, add}
use Rattle.dpl_rules.specs.Expressions.{item_type}
use Rattle.dpl_rules.specs.Loops.{runs_over, one_type, typed_variable, variables_of, add_variables}
use Rattle.dpl_scopes.specs.Slots.{next_slot_in}
use Rattle.dpl_words.specs.Words.{IntLeaf, TruthLeaf, RangeLeaf, LocaleLeaf}
use Rattle.dpl_memory.specs.Memory.{VariableKind, PlainKind, DomainKind, TupleKind, CellKind, ArrayKind}
use Rattle.dpl_memory.specs.Resolved.{Bound, Start, IsUnused, AreUnused, MayHold, SuitsTurns, resolving}
use Rattle.dpl_runnable.specs.Kinds.{is_promoted}
use Rattle.dpl_typed.specs.Simple.{IsSimpleItem}
use Rattle.dpl_typed.specs.Leaves.{value_kind, leaf_by, IsFound}
use Rattle.dpl_bound.specs.Shapes.{shape_of}
use Rattle.dpl_bound.specs.Sights.{bound_in, sight_of, AreKnownScopes}
use Rattle.dpl_runnable.proofs.Sights.{unused_next}
use Rattle.dpl_runnable.proofs.Shaped.{loop-turns}
use Rattle.dpl_bound.specs.Bounds.{bound_new, loop_variable, bound_variable, bound_others, bound_variables, loop_type, with_slot, slots_each}
use Rattle.dpl_runnable.specs.InSight.{seen_of, AreOpen, IsTurnKind, AreTurnKinds, AreFresh}
use Rattle.dpl_runnable.proofs.Scoped.{sight_of-plain, plain-add, open-known, new-no_array, IsOverNone, single-over, single-type}
use Rattle.dpl_runnable.proofs.Headers.{over-simple}

-- THEIR KIND
pub turn-kind : (xs : VariablesTree Text) (o : Option VariableKind) → AreTurnKinds xs o → (k : VariableKind) × (o ≡ Some k) × (is_promoted k ≡ false)
turn-kind (OneVariable x) o h = one o h
  where
    one : (o : Option VariableKind) → IsTurnKind o → (k : VariableKind) × (o ≡ Some k) × (is_promoted k ≡ false)
    one None h = absurd h
    one (Some (PlainKind IntLeaf)) h = (PlainKind IntLeaf, refl, refl)
    one (Some (PlainKind TruthLeaf)) h = absurd h
    one (Some (PlainKind RangeLeaf)) h = absurd h
    one (Some (PlainKind LocaleLeaf)) h = absurd h
    one (Some DomainKind) h = absurd h
    one (Some TupleKind) h = (TupleKind, refl, refl)
    one (Some (ArrayKind k)) h = absurd h
    one (Some (CellKind k)) h = absurd h
turn-kind (ManyVariables from xs upto) o h = (PlainKind IntLeaf, h, refl)

-- ONE BEHIND THE OTHER
abbrev bound_list : Option ValueType → List (Placed Text) → Scopes → List (Placed Bound)
bound_list t [] ss = []
bound_list t (x ∷ xs) ss = bound_variable t ss x ∷ bound_list t xs (add (loop_variable t ss x.name) ss)

abbrev pub part_of : {A : Type 0} → AfterComma A → A
part_of x = x.part

others-parts : (t : Option ValueType) (ss : Scopes) (xs : List (AfterComma (Placed Text))) → map {A = AfterComma (Placed Bound)} {B = Placed Bound} part_of (bound_others t ss xs) ≡ bound_list t (map {A = AfterComma (Placed Text)} {B = Placed Text} part_of xs) ss
others-parts t ss [] = refl
others-parts t ss (x ∷ xs) = ap (λ ys. bound_variable t ss x.part ∷ ys) (others-parts t (add (loop_variable t ss x.part.name) ss) xs)

pub next-later : (d : Declared) (ss : Scopes) → next_slot_in ss < next_slot_in (add d ss)
next-later d [] = omega arith
next-later d (s ∷ ss) = omega arith

next-below : (d : Declared) (ss : Scopes) (n : ℕ) → next_slot_in ss < n → next_slot_in (add d ss) ≤ n
next-below d [] n h = omega (arith, h)
next-below d (s ∷ ss) n h = omega (arith, h)

slots-later : (t : Option ValueType) (xs : List (Placed Text)) (ss : Scopes) → next_slot_in ss ≤ next_slot_in (add_variables t xs ss)
slots-later t [] ss = omega arith
slots-later t (x ∷ xs) ss =
    let here = next-later (loop_variable t ss x.name) ss in
    let more = slots-later t xs (add (loop_variable t ss x.name) ss) in
    omega (arith, here, more)

module _ (t : ValueType) (k : VariableKind) (kind : value_kind t ≡ Some k) (single : is_promoted k ≡ false) where
  pub variables-plain : (xs : List (Placed Text)) (ss : Scopes) → AreFresh (Some t) xs ss → AreOpen ss → AreOpen (add_variables (Some t) xs ss)
  variables-plain [] ss fresh h = h
  variables-plain (x ∷ xs) ss fresh h =
      let d = loop_variable (Some t) ss x.name in
      variables-plain xs (add d ss) fresh.1 (plain-add d ss k kind (single-type t k kind single) refl fresh.0 h)

  each-fits : (start : Start) (is : List (Bound × Op)) (xs : List (Placed Text)) (ss : Scopes) → AreOpen ss → AreFresh (Some t) xs ss → next_slot_in (add_variables (Some t) xs ss) ≤ start.slots
      → fits_each (resolving start) (bound_list (Some t) xs ss) (seen_of ss is)
  each-fits start is [] ss h fresh le = tt
  each-fits start is (x ∷ xs) ss h fresh le =
      let d = loop_variable (Some t) ss x.name in
      let here = next-later d ss in
      let more = slots-later (Some t) xs (add d ss) in
      let leaf : (bound_new ss d).variable.slot ≡ next_slot_in ss = ap (λ o. (leaf_by o (Some (next_slot_in ss))).slot) kind in
      let along : AreUnused (bound_new ss d).variable.along (sight_of ss) = subst (λ o. AreUnused (leaf_by o (Some (next_slot_in ss))).along (sight_of ss)) (sym kind) tt in
      let within : (bound_new ss d).variable.slot < start.slots = omega (arith, here, more, le, leaf) in (
        (record { unused = subst (λ n. IsUnused n (sight_of ss)) (sym leaf) (unused_next ss (open-known ss h)); within = within; along = along }, new-no_array ss d k kind single),
        subst (λ fs. fits_each (resolving start) (bound_list (Some t) xs (add d ss)) (record { frames = fs; intents = is })) (sight_of-plain d ss (single-over t k kind single ss d.origin)) (each-fits start is xs (add d ss) (plain-add d ss k kind (single-type t k kind single) refl fresh.0 h) fresh.1 le),
      )

added-each : (start : Start) (t : Option ValueType) → IsOverNone t → (is : List (Bound × Op)) (xs : List (Placed Text)) (ss : Scopes) → add_each (resolving start) (bound_list t xs ss) (seen_of ss is) ≡ seen_of (add_variables t xs ss) is
added-each start t none is [] ss = refl
added-each start t none is (x ∷ xs) ss =
    let d = loop_variable t ss x.name in
    ap (λ fs. add_each (resolving start) (bound_list t xs (add d ss)) (record { frames = fs; intents = is })) (sym (sight_of-plain d ss (none ss d.origin))) ∙ added-each start t none is xs (add d ss)

-- THE VARIABLES of a loop over ss
module _ (start : Start) (t : ValueType) (ss : Scopes) (is : List (Bound × Op)) where
  pub variables-fit : (xs : VariablesTree Text) → AreTurnKinds xs (value_kind t) → AreFresh (Some t) (variables_of xs) (enter ss) → AreKnownScopes ss
      → next_slot_in (add_variables (Some t) (variables_of xs) (enter ss)) ≤ start.slots → fits_variables (resolving start) (bound_variables (Some t) (enter ss) xs) (seen_of (enter ss) is)
  variables-fit (OneVariable x) kinds fresh h le =
      let (k, kind, single) = turn-kind (OneVariable x) (value_kind t) kinds in
      (each-fits t k kind single start is (x ∷ []) (enter ss) (tt, h) fresh le).0
  variables-fit (ManyVariables from xs upto) kinds fresh h le =
      let (k, kind, single) = turn-kind (ManyVariables from xs upto) (value_kind t) kinds in
      subst (λ ys. fits_each (resolving start) (bound_variable (Some t) (enter ss) xs.first ∷ ys) (seen_of (enter ss) is)) (sym (others-parts (Some t) (add (loop_variable (Some t) (enter ss) xs.first.name) (enter ss)) xs.others))
      (each-fits t k kind single start is (parts xs) (enter ss) (tt, h) fresh le)

  -- what is in sight in the body
  pub inside-same : IsOverNone (Some t) → (xs : VariablesTree Text) → inside (resolving start) (bound_variables (Some t) (enter ss) xs) (seen_of ss is) ≡ seen_of (enter (add_variables (Some t) (variables_of xs) (enter ss))) is
  inside-same none (OneVariable x) = ap (λ g. (resolving start).enter g) (added-each start (Some t) none is (x ∷ []) (enter ss))
  inside-same none (ManyVariables from xs upto) =
      ap (λ ys. (resolving start).enter (add_each (resolving start) (bound_variable (Some t) (enter ss) xs.first ∷ ys) (seen_of (enter ss) is))) (others-parts (Some t) (add (loop_variable (Some t) (enter ss) xs.first.name) (enter ss)) xs.others)
      ∙ ap (λ g. (resolving start).enter g) (added-each start (Some t) none is (parts xs) (enter ss))

  -- ints, for each coordinate
  hold-ints : value_kind t ≡ Some (PlainKind IntLeaf) → (xs : List (Placed Text)) (rs : Scopes) → holds_ints (resolving start) (bound_list (Some t) xs rs)
  hold-ints kind [] rs = tt
  hold-ints kind (x ∷ xs) rs = (
    λ i. subst (λ o. MayHold (leaf_by o (Some (next_slot_in rs))).kind (shape_of t) (Int i)) (sym kind) ((i, refl), λ n. tt),
    hold-ints kind xs (add (loop_variable (Some t) rs x.name) rs),
  )

-- the type of the variables is one that the item's gives
type-runs : (word : LoopWord) (x : Placed Text) (o : Option ValueType) (t : ValueType) → typed_variable word (OneVariable x) o ≡ Some t → (u : ValueType) × (o ≡ Some u) × ((if runs_over word u then Some (one_type u) else None) ≡ Some t)
type-runs word x None t e = absurd (none-some t e)
type-runs word x (Some u) t e = (u, refl, e)

pub turns-suit : (start : Start) (ss : Scopes) (is : List (Bound × Op)) (item : ItemTree Text) (word : LoopWord) (xs : VariablesTree Text) (t : ValueType) → AreKnownScopes ss → IsSimpleItem (IsFound ss) item
    → loop_type ss word xs item ≡ Some t → AreTurnKinds xs (value_kind t) → suits_turns (resolving start) (bound_variables (Some t) (enter ss) xs) (renamed_item (bound_in ss) item) (seen_of ss is)
turns-suit start ss is item word (OneVariable x) t h simple typed kinds =
    let (k, kind, single) = turn-kind (OneVariable x) (value_kind t) kinds in
    let (u, over, runs) = type-runs word x (item_type ss item) t (ap (typed_variable word (OneVariable x)) (sym (over-simple (IsFound ss) ss item simple)) ∙ typed) in
    subst (λ o. SuitsTurns (leaf_by o (Some (next_slot_in (enter ss)))).kind (shape_of t) (renamed_item (bound_in ss) item) (seen_of ss is)) (sym kind)
    (loop-turns ss h is item simple u over word t k kind single runs)
turns-suit start ss is item word (ManyVariables from xs upto) t h simple typed kinds =
    subst (λ ys. holds_ints (resolving start) (bound_variable (Some t) (enter ss) xs.first ∷ ys)) (sym (others-parts (Some t) (add (loop_variable (Some t) (enter ss) xs.first.name) (enter ss)) xs.others))
    (hold-ints start t ss is kinds (parts xs) (enter ss))

-- THEIR SLOTS are there, and those before them are kept
pub max-left : (m n : ℕ) → m ≤ max m n
max-left m n = omega arith

pub each-grows : (t : Option ValueType) (xs : List (Placed Text)) (ss : Scopes) (n : ℕ) → n ≤ slots_each t xs ss n
each-grows t [] ss n = omega arith
each-grows t (x ∷ xs) ss n =
    let here = max-left n (next_slot_in ss + 1) in
    let more = each-grows t xs (add (loop_variable t ss x.name) ss) (with_slot ss n) in
    omega (arith, here, more)

each-within : (t : Option ValueType) (xs : List (Placed Text)) (ss : Scopes) (n : ℕ) → next_slot_in ss ≤ n → next_slot_in (add_variables t xs ss) ≤ slots_each t xs ss n
each-within t [] ss n h = h
each-within t (x ∷ xs) ss n h =
    let d = loop_variable t ss x.name in
    let more : next_slot_in ss < with_slot ss n = omega arith in
    each-within t xs (add d ss) (with_slot ss n) (next-below d ss (with_slot ss n) more)

pub variables-within : (t : Option ValueType) (xs : VariablesTree Text) (ss : Scopes) (n : ℕ) → next_slot_in (add_variables t (variables_of xs) ss) ≤ slots_each t (variables_of xs) ss n
variables-within t (OneVariable x) ss n =
    let more : next_slot_in ss < with_slot ss n = omega arith in
    next-below (loop_variable t ss x.name) ss (with_slot ss n) more
variables-within t (ManyVariables from xs upto) ss n =
    let d = loop_variable t ss xs.first.name in
    let more : next_slot_in ss < with_slot ss n = omega arith in
    each-within t (map {A = AfterComma (Placed Text)} {B = Placed Text} part_of xs.others) (add d ss) (with_slot ss n) (next-below d ss (with_slot ss n) more)

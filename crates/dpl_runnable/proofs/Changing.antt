-- An assignment that runs fits with its names resolved: its name has the variable of its declaration, which takes the operator and holds the
-- value. `reduce=` has one operator, told by the name and by its slot alike.
use Rattle.std.proofs.Common.{◌≡◌, ◌≢◌, ℕ, ◌==◌, List, [], ◌∷◌, Bool, true, false, Option, Some, refl, sym, ap, ◌∙◌, subst}
use Rattle.std.specs.Prelude.{bytes_eq, if◌then◌else◌}
use Rattle.std.proofs.lemmas.Bool.Decides.{Decides-eqb}
use Rattle.std.proofs.lemmas.Slice.Eq.{bytes_eq-Decides}
use Rattle.dpl_syntax.specs.declared.place.Place.{Place}
use Rattle.dpl_language.specs.Tree.{Placed, BracketPair, Op, Assign, SetReduce, AssignTree, Exprs, ItemTree, Whole, Element, Assigned}
use Rattle.dpl_language.specs.Names.{Text, paired}
use Rattle.dpl_agreement.specs.Renamed.{renamed_item, renamed_intents}
use Rattle.dpl_agreement.specs.Scopes.{fits as fits_stmt}
use Rattle.dpl_rules.specs.Types.{ValueType}
use Rattle.dpl_rules.specs.Sights.{Scopes, lookup}
use Rattle.dpl_scopes.specs.Slots.{slot_in}
use Rattle.dpl_scopes.proofs.Slots.{slot_in-lookup}
use Rattle.dpl_words.specs.Words.{IntLeaf, TruthLeaf, intent_at}
use Rattle.dpl_memory.specs.Memory.{VariableKind, PlainKind, DomainKind, TupleKind, CellKind, ArrayKind, Variable, variable, intents_by_slot}
use Rattle.dpl_memory.specs.Resolved.{Bound, Seen, Start, text_of, variable_of, resolving, kind_takes, KindCombines, IntentResolves, ArraysResolve, Suits, SuitsElement}
use Rattle.dpl_runnable.specs.Kinds.{leaf_of, is_promoted, IsAssignedKind, IsGivenTo}
use Rattle.dpl_typed.specs.Leaves.{kind_by, type_in, kind_in, leaf_by, leaf_in, IsFound}
use Rattle.dpl_bound.specs.Shapes.{shape_by, shape_in, IsTaken}
use Rattle.dpl_bound.specs.Sights.{bound_in, AreKnownScopes}
use Rattle.dpl_runnable.proofs.Sights.{innermost-found}
use Rattle.dpl_runnable.specs.Runnable.{IsItemOf, AreToldAlike, IsReducedBy, IsRunnableChange, IsRunnableElement}
use Rattle.dpl_bound.specs.Bounds.{arrays_at, with_arrays, assigned_in, bound_stmt}
use Rattle.dpl_runnable.specs.InSight.{seen_of}
use Rattle.dpl_runnable.proofs.Reduced.{slot-found}
use Rattle.dpl_runnable.proofs.Singles.{some-type}
use Rattle.dpl_runnable.proofs.Fitting.{side-fits, whole_side-fits, exprs-fit}
use Rattle.dpl_runnable.proofs.Suiting.{single-suits, array-suits, leaf-suits, given-operand}

-- ---- OPERATORS
-- a reduce variable's operator is told by its name and by its slot alike
told-same : (x : Text) (slot : ℕ) (is : List (Bound × Op)) → AreToldAlike x slot is → paired x (renamed_intents text_of is) ≡ intent_at slot (intents_by_slot (renamed_intents variable_of is))
told-same x slot [] h = refl
told-same x slot (b ∷ bs) h =
    by (bytes_eq x b.0.text) (slot == b.0.variable.slot) (paired x (renamed_intents text_of bs)) (intent_at slot (intents_by_slot (renamed_intents variable_of bs)))
    (λ e. (Decides-eqb slot b.0.variable.slot).1 (h.0 ((bytes_eq-Decides x b.0.text).0 e))) (λ e. (bytes_eq-Decides x b.0.text).1 (h.1 ((Decides-eqb slot b.0.variable.slot).0 e))) (told-same x slot bs h.2)
  where
    by : (s t : Bool) (p q : Option Op) → (s ≡ true → t ≡ true) → (t ≡ true → s ≡ true) → p ≡ q → (if s then Some b.1 else p) ≡ (if t then Some b.1 else q)
    by true true p q f g e = refl
    by true false p q f g e = absurd (let n : false ≡ true = f refl in cc)
    by false true p q f g e = absurd (let n : false ≡ true = g refl in cc)
    by false false p q f g e = e

unreduced-intends : (op : Assign) → op ≢ SetReduce → (x : Text) (l : Variable) (g : Seen) → IntentResolves op x l g
unreduced-intends SetReduce n x l g = absurd (n refl)
unreduced-intends _ n x l g = tt

-- the arrays in sight that are over it stand with its name
arrays-stand : (ss : Scopes) (is : List (Bound × Op)) (x : Text) → ArraysResolve (leaf_in ss x).kind (assigned_in ss x) (seen_of ss is)
arrays-stand ss is x = by (leaf_in ss x).kind
  where
    by : (k : VariableKind) → ArraysResolve k (record { text = x; variable = record { kind = k; slot = (leaf_in ss x).slot; along = arrays_at k (leaf_in ss x).slot ss; cells = [] }; shape = shape_in ss x }) (seen_of ss is)
    by (PlainKind k) = tt
    by DomainKind = refl
    by TupleKind = tt
    by (ArrayKind k) = tt
    by (CellKind c) = tt

module _ (start : Start) (ss : Scopes) (known : AreKnownScopes ss) (is : List (Bound × Op)) where
  abbrev g : Seen
  g = seen_of ss is

  -- ---- NAMES of a kind have a slot
  module _ (x : Text) (k : VariableKind) (kind : kind_in ss x ≡ Some k) where
    slotted : (slot : ℕ) × (slot_in ss x ≡ Some slot)
    slotted = slot-found (lookup ss x) (slot_in ss x) k (slot_in-lookup ss x) kind

    leaf : leaf_in ss x ≡ variable k slotted.0
    leaf = ap (λ k. leaf_by k (slot_in ss x)) kind ∙ ap (leaf_by (Some k)) slotted.1

    is-found : IsFound ss x
    is-found = (k, slotted.0, kind, slotted.1)

    -- `reduce=` resolves; the arrays that stand with a name tell nothing of it
    intends : (op : Assign) → IsReducedBy ss is x op k → IntentResolves op x (with_arrays ss (leaf_in ss x)) g
    intends SetReduce h =
        let same = told-same x slotted.0 is (h.0.alike slotted.0 slotted.1) in
        subst (λ (l : Variable). (paired x (renamed_intents text_of is) ≡ intent_at l.slot (intents_by_slot (renamed_intents variable_of is))) × KindCombines l.kind (intent_at l.slot (intents_by_slot (renamed_intents variable_of is)))) (sym leaf)
        (same, subst (KindCombines k) same h.0.combines)
    intends _ h = tt

  -- ---- A NAME may hold what it is given
  module _ (x : Text) (item : ItemTree Text) where
    abbrev SuitsAs : VariableKind → Type 0
    SuitsAs k = Suits k (shape_in ss x) (renamed_item (bound_in ss) item) g

    one-suits : (k j : VariableKind) → is_promoted k ≡ false → j ≡ k → kind_in ss x ≡ Some k → IsItemOf ss item j → ((t : ValueType) → type_in ss x ≡ Some t → IsTaken ss item t) → SuitsAs k
    one-suits k j single same kind of shaped =
        let (t, e) = some-type (type_in ss x) k kind in
        let (u, typed, takes) = shaped t e in
        subst (λ shape. Suits k shape (renamed_item (bound_in ss) item) g) (sym (ap shape_by e))
        (single-suits ss known is item of.found u typed t k (ap kind_by (sym e) ∙ kind) (ap kind_by (sym typed) ∙ of.kind ∙ ap (λ k. Some k) same) single takes)

    target-suits : (k j : VariableKind) → IsAssignedKind k → IsGivenTo k j → kind_in ss x ≡ Some k → IsItemOf ss item j → ((t : ValueType) → type_in ss x ≡ Some t → IsTaken ss item t) → SuitsAs k
    target-suits (PlainKind IntLeaf) j assigned given kind of shaped = one-suits (PlainKind IntLeaf) j refl given kind of shaped
    target-suits (PlainKind TruthLeaf) j assigned given kind of shaped = one-suits (PlainKind TruthLeaf) j refl given kind of shaped
    target-suits DomainKind j assigned given kind of shaped = one-suits DomainKind j refl given kind of shaped
    target-suits (ArrayKind l) j assigned given kind of shaped =
        let (u, typed) = some-type _ j of.kind in
        array-suits ss known is item of.found u typed l (shape_in ss x) j (ap kind_by (sym typed) ∙ of.kind) (given-operand l j given)
    target-suits _ j assigned given kind of shaped = absurd assigned

  -- ---- ASSIGNMENTS
  pub change-fits : (x : Placed Text) (sign : AssignTree) (item : ItemTree Text) (semicolon : Place) → IsRunnableChange ss is x.name sign.op item → fits_stmt (resolving start) (bound_stmt ss (Assigned (Whole x) sign item semicolon)) g
  change-fits x sign item semicolon r =
      let found = innermost-found x.name ss known (is-found x.name r.kind r.target) in
      let same = leaf x.name r.kind r.target in
      let takes = subst (λ (l : Variable). kind_takes l.kind sign.op ≡ true) (sym same) r.taken in
      let suited = subst (λ (l : Variable). Suits l.kind (shape_in ss x.name) (renamed_item (bound_in ss) item) g) (sym same) (target-suits x.name item r.kind r.given r.assigned r.takes r.target r.item r.shaped) in
      (((found, takes, intends x.name r.kind r.target sign.op r.reduced, arrays-stand ss is x.name), λ k. (found, found)), whole_side-fits start ss known is item r.item.found, suited)

  pub element-fits : (x : Placed Text) (shape : BracketPair) (from : Place) (es : Exprs Text) (upto : Place) (sign : AssignTree) (item : ItemTree Text) (semicolon : Place) → IsRunnableElement ss x.name es sign.op item
      → fits_stmt (resolving start) (bound_stmt ss (Assigned (Element x shape from es upto) sign item semicolon)) g
  element-fits x shape from es upto sign item semicolon r =
      let found = innermost-found x.name ss known (is-found x.name (ArrayKind r.kind) r.target) in
      let same = leaf x.name (ArrayKind r.kind) r.target in
      let takes = subst (λ (l : Variable). kind_takes l.kind sign.op ≡ true) (sym same) r.taken in
      let stand = subst (λ (l : Variable). ArraysResolve l.kind (record { text = x.name; variable = l; shape = shape_in ss x.name }) g) (sym same) tt in
      let (u, typed) = some-type _ (PlainKind (leaf_of r.kind)) r.item.kind in
      let value = leaf-suits ss known is item r.item.found u typed r.kind (shape_in ss x.name) (ap kind_by (sym typed) ∙ r.item.kind) in
      let suited = subst (λ (l : Variable). SuitsElement l.kind (shape_in ss x.name) (renamed_item (bound_in ss) item) g) (sym same) value in
      ((exprs-fit start ss known is es r.found, found, found, (found, takes, unreduced-intends sign.op r.unreduced x.name (leaf_in ss x.name) g, stand)), side-fits start ss known is item r.item.found, suited)

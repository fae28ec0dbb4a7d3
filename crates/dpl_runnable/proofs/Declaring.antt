-- A declaration that runs fits with its names resolved: its name is in sight behind it with the next slot, and what it begins with is of its
-- kind and its shape. Of an array it is over the domain between the brackets; and a `config const` is set alike by its text and by its slot.
use Rattle.std.proofs.Common.{◌≡◌, ℕ, ◌<◌, Bool, false, List, Option, Some, None, refl, sym, ap, ◌∙◌, subst, pos}
use Rattle.std.specs.Prelude.{option_map}
use Rattle.std.proofs.lemmas.Option.{none-some}
use Rattle.dpl_syntax.specs.declared.place.Place.{Place}
use Rattle.dpl_language.specs.Tree.{Op, Kind, IntKind, BoolKind, ArrayTypeTree, TypeTree, ScalarType, SyncType, DomainType, ArrayType, TypedTree, InitTree, ItemInit, CreateInit, InitialTree, DeclareTree, Declare}
use Rattle.dpl_language.specs.Names.{Text}
use Rattle.dpl_language.specs.Values.{Domain as DomainValue, default}
use Rattle.dpl_language.specs.Ranges.{empty_domain}
use Rattle.dpl_language.specs.Phrases.{declared_over}
use Rattle.dpl_language.specs.Declarations.{type_of}
use Rattle.dpl_agreement.specs.Renamed.{renamed_item, renamed_items, renamed_array_type, renamed_type, renamed_init}
use Rattle.dpl_agreement.specs.Scopes.{PlainForm, form_by, fits as fits_stmt, fits_type, side_by, fits_side, fits_whole_side, fits_init, fits_initial, fits_given, suits_init, suits_elements, suits_array, suits_declared, fits_maps}
use Rattle.dpl_agreement.proofs.RenamedParts.{declared_over-renamed, type_of-renamed}
use Rattle.dpl_rules.specs.Types.{Origin, ValueType, Scalar, Domain, Array, domain_of}
use Rattle.dpl_rules.specs.Verdicts.{type_by}
use Rattle.dpl_rules.specs.Sights.{Declared, Scopes, origin_in, add}
use Rattle.dpl_rules.specs.Operators.{over_verdict}
use Rattle.dpl_rules.specs.Expressions.{item_parts}
use Rattle.dpl_rules.specs.Declarations.{domain_in, base_over, over_domain, type_given, declaration_breaches, declared_by}
use Rattle.dpl_sound.proofs.Given.{some-same}
use Rattle.dpl_sound.proofs.Initial.{empty_domain-type}
use Rattle.dpl_scopes.specs.Slots.{next_slot_in}
use Rattle.dpl_words.specs.Words.{IntLeaf, TruthLeaf}
use Rattle.dpl_memory.specs.Memory.{VariableKind, PlainKind, DomainKind, ArrayKind, Variable, variable}
use Rattle.dpl_memory.specs.Resolved.{Bound, Seen, Start, resolving, IsElement, MayHold, IsNew, Declares, IsWhole, OverResolves, Spans, SpansArray, Suits}
use Rattle.dpl_typed.specs.Typed.{is_rank}
use Rattle.dpl_typed.specs.Leaves.{value_kind, kind_by, leaf_by, IsFound}
use Rattle.dpl_bound.specs.Shapes.{shape_of, shape_by}
use Rattle.dpl_typed.specs.Simple.{AreSimpleItems}
use Rattle.dpl_bound.specs.Sights.{bound_in, is_promoted_by, AreKnownScopes}
use Rattle.dpl_runnable.proofs.Kept.{kind-same, kind_if-some}
use Rattle.dpl_runnable.proofs.Sights.{unused_next}
use Rattle.dpl_runnable.proofs.Shaped.{typed-held}
use Rattle.dpl_runnable.proofs.SuitedArrays.{spans-array, spans-created}
use Rattle.dpl_runnable.proofs.Overs.{over-resolves}
use Rattle.dpl_runnable.specs.Runnable.{IsRunnableType, IsFoundType, IsInitOf, IsInitialOf, IsShapedInit, IsShapedInitial, IsConfigOf, IsRunnableDeclare}
use Rattle.dpl_bound.specs.Bounds.{bound_new, bound_stmt}
use Rattle.dpl_runnable.specs.Given.{IsOfLeaf}
use Rattle.dpl_runnable.specs.InSight.{seen_of, AreOpen, IsOwedBy, IsOwed, IsSingleKind, IsNoArrayType, bound_typed, bound_initial}
use Rattle.dpl_runnable.proofs.Scoped.{plain-add, new-no_array, single-type, unless-both, array-typed}
use Rattle.dpl_runnable.proofs.Singles.{some-type, single-given, declared-single_kind, declared-single, scalar-leaf}
use Rattle.dpl_runnable.proofs.Fitting.{side-fits, whole_side-fits, items-fit, maps-fit}
use Rattle.dpl_runnable.proofs.Suiting.{given-operand, single-suits, array-suits}

-- ---- DEFAULTS: 0 and false, and a domain without an index
default-kind : (k : Kind) (l : VariableKind) (shape : _) → value_kind (Scalar k) ≡ Some l → MayHold l shape (default k)
default-kind IntKind l shape e = subst (λ l. MayHold l shape (default IntKind)) (kind-same (PlainKind IntLeaf) l e) ((pos 0, refl), λ n. tt)
default-kind BoolKind l shape e = subst (λ l. MayHold l shape (default BoolKind)) (kind-same (PlainKind TruthLeaf) l e) ((false, refl), λ n. tt)

-- a domain variable of a rank holds the domain without an index of that rank
empty-held : (rank : ℕ) (declared : ValueType) → value_kind declared ≡ Some DomainKind → Some (Domain rank false) ≡ Some declared → MayHold DomainKind (shape_of declared) (DomainValue (empty_domain rank))
empty-held rank declared typed given =
    let same = some-same (Domain rank false) declared given in
    subst (λ shape. MayHold DomainKind shape (DomainValue (empty_domain rank))) (ap shape_of same)
    (typed-held (Domain rank false) DomainKind (DomainValue (empty_domain rank)) (ap value_kind same ∙ typed) refl (empty_domain-type rank))

element-default : (k : Kind) → IsElement k (default k)
element-default IntKind = (pos 0, refl)
element-default BoolKind = (false, refl)

given-fits : (start : Start) (config : Option Place) (x : Bound) (g : Seen) → IsOwedBy config start x → Declares start.slots x PlainForm g → fits_given (resolving start) config x PlainForm g
given-fits start None x g owed declares = tt
given-fits start (Some at) x g owed declares = (owed, declares, refl)

-- a `config const` is no array's
unset : (config : Option Place) (k : Kind) → IsConfigOf config (ArrayKind k) → config ≡ None
unset None k h = refl
unset (Some at) k h = absurd h

domain-found : (o : Option ValueType) (p : ℕ × Bool) → domain_in o ≡ Some p → (w : ValueType) × (o ≡ Some w) × (domain_of w ≡ Some p)
domain-found None p e = absurd (none-some p e)
domain-found (Some w) p e = (w, refl, e)

module _ (ss : Scopes) (d : DeclareTree Text) (r : IsRunnableDeclare ss d) where
  abbrev self : Origin
  self = origin_in ss d.name.name

  abbrev new : Declared
  new = declared_by ss d

  abbrev x : Bound
  x = bound_new ss new

  abbrev type : ValueType
  type = (some-type new.type r.kind r.declared).0

  is-type : new.type ≡ Some type
  is-type = (some-type new.type r.kind r.declared).1

  of_kind : value_kind type ≡ Some r.kind
  of_kind = ap kind_by (sym is-type) ∙ r.declared

  leaf : x.variable ≡ variable r.kind (next_slot_in ss)
  leaf = ap (λ k. leaf_by k (Some (next_slot_in ss))) r.declared

  kind : x.variable.kind ≡ r.kind
  kind = ap (λ (l : Variable). l.kind) leaf

  shape : x.shape ≡ shape_of type
  shape = ap shape_by is-type

  given : type_given ss self (type_of d.typed) d.initial ≡ Some type
  given = (unless-both (declaration_breaches ss d) (type_given ss self (type_of d.typed) d.initial) type is-type).1

  -- ---- what an array's declaration is over
  module _ (arr : ArrayTypeTree Text) (typed : type_of d.typed ≡ Some (ArrayType arr)) where
    abbrev verdict : Option ValueType
    verdict = type_by (over_verdict arr.from (item_parts ss arr.over))

    array-given : over_domain ss self arr (domain_in verdict) ≡ Some type
    array-given = subst (λ y. type_given ss self y d.initial ≡ Some type) typed given

    pub array-type : (rank : ℕ) × (strided : Bool) × (domain_in verdict ≡ Some (rank, strided)) × (Array arr.kind (record { rank = rank; strided = strided; base = base_over ss self (declared_over arr.over) }) ≡ type)
    array-type = array-typed ss self arr (domain_in verdict) type array-given

    pub array-kind : r.kind ≡ ArrayKind arr.kind
    array-kind = sym (kind_if-some (is_rank array-type.0) (ArrayKind arr.kind) r.kind (ap value_kind array-type.3 ∙ of_kind)).1

    pub array-domain : (w : ValueType) × (verdict ≡ Some w) × (domain_of w ≡ Some (array-type.0, array-type.1))
    array-domain = domain-found verdict (array-type.0, array-type.1) array-type.2

    array-shape : x.shape ≡ record { rank = array-type.0; strided = array-type.1 }
    array-shape = shape ∙ ap shape_of (sym array-type.3)

    pub array-over : AreSimpleItems (IsFound ss) arr.over
    array-over = subst (IsFoundType ss) typed r.over

    pub array-unset : d.config ≡ None
    array-unset = unset d.config arr.kind (subst (IsConfigOf d.config) array-kind r.config)

    pub array-initial : IsInitialOf ss (Some (ArrayType arr)) d.initial (ArrayKind arr.kind)
    array-initial = subst (λ k. IsInitialOf ss (Some (ArrayType arr)) d.initial k) array-kind (subst (λ y. IsInitialOf ss y d.initial r.kind) typed r.initial)

  -- ---- BEHIND IT the scope is known again
  single-unpromoted : IsNoArrayType (type_of d.typed) → is_promoted_by new.type ≡ false
  single-unpromoted none = ap is_promoted_by is-type ∙ single-type type r.kind of_kind (declared-single r.kind (declared-single_kind ss d none r))

  unpromoted : (y : Option (TypeTree Text)) → type_of d.typed ≡ y → is_promoted_by new.type ≡ false
  unpromoted (Some (ArrayType arr)) e = ap is_promoted_by is-type ∙ ap (λ u. is_promoted_by (Some u)) (sym (array-type arr e).3)
  unpromoted _ e = single-unpromoted (subst IsNoArrayType (sym e) tt)

  pub declared-open : AreOpen ss → AreOpen (add new ss)
  declared-open h = plain-add new ss r.kind r.declared (unpromoted (type_of d.typed) refl) refl r.fresh h

  -- a `config const` is of an int or a truth value
  pub config-leaf : (at : Place) → d.config ≡ Some at → IsOfLeaf new
  config-leaf at config =
      let l = scalar-leaf r.kind (subst (λ c. IsConfigOf c r.kind) config r.config) in
      (l.0, r.declared ∙ ap (λ k. Some k) l.1)

  -- ---- IT FITS
  module _ (start : Start) (known : AreKnownScopes ss) (is : List (Bound × Op)) (within : next_slot_in ss < start.slots) (owed : IsOwed start ss d) where
    abbrev g : Seen
    g = seen_of ss is

    is-new : IsNew start.slots x g
    is-new = subst (λ (l : Variable). IsNew start.slots (record { text = x.text; variable = l; shape = x.shape }) g) (sym leaf) (record { unused = unused_next ss known; within = within; along = tt })

    abbrev Fits : Option (TypeTree Bound) → Option (InitialTree Text) → Type 0
    Fits y i =
        fits_type (resolving start) y g × fits_initial (resolving start) (side_by (resolving start) y) (bound_initial ss i) g
        × (resolving start).declares x (form_by y) g × fits_given (resolving start) d.config x (form_by y) g
        × suits_declared (resolving start) x y (bound_initial ss i) g × fits_maps (resolving start) y (bound_initial ss i) g

    -- a name of one slot
    module _ (none : IsNoArrayType (type_of d.typed)) where
      single : IsSingleKind r.kind
      single = declared-single_kind ss d none r

      declares : Declares start.slots x PlainForm g
      declares = (is-new, new-no_array ss new r.kind r.declared (declared-single r.kind single))

      begins : fits_given (resolving start) d.config x PlainForm g
      begins = given-fits start d.config x g owed declares

      fits-init : (i : InitTree Text) → IsInitOf ss i r.kind → fits_init (resolving start) (fits_side (resolving start)) (renamed_init (bound_in ss) i) g
      fits-init (ItemInit item mapped) h = side-fits start ss known is item h.1.found
      fits-init (CreateInit c) h = items-fit start ss known is c.items h.0.found

      suits : (i : InitTree Text) → IsInitOf ss i r.kind → IsShapedInit ss i type → suits_init (resolving start) x (renamed_init (bound_in ss) i) g
      suits (ItemInit item mapped) h (u, typed, takes) =
          let same = single-given r.kind h.0 single h.2 in
          subst (λ k. Suits k x.shape (renamed_item (bound_in ss) item) g) (sym kind)
          (subst (λ shape. Suits r.kind shape (renamed_item (bound_in ss) item) g) (sym shape)
          (single-suits ss known is item h.1.found u typed type r.kind of_kind (ap kind_by (sym typed) ∙ h.1.kind ∙ ap (λ k. Some k) same) (declared-single r.kind single) takes))
      suits (CreateInit c) h (w, typed, takes) =
          subst (λ k. Spans k x.shape (renamed_items (bound_in ss) c.items) g) (sym (kind ∙ h.1))
          (subst (λ shape. Spans DomainKind shape (renamed_items (bound_in ss) c.items) g) (sym shape)
          (spans-created ss known is c.items h.0.found c.from w typed type (of_kind ∙ ap (λ k. Some k) h.1) takes))

      by_type : (y : TypeTree Text) (i : Option (InitialTree Text)) → IsNoArrayType (Some y) → IsRunnableType ss (Some y) → IsInitialOf ss (Some y) i r.kind → IsShapedInitial ss i type → type_given ss self (Some y) i ≡ Some type
          → fits_maps (resolving start) (Some (renamed_type (bound_in ss) y)) (bound_initial ss i) g → Fits (Some (renamed_type (bound_in ss) y)) i
      by_type (ScalarType at l) None n t h s e m =
          (tt, tt, declares, begins, subst (λ k. MayHold k x.shape (default l)) (sym kind) (default-kind l r.kind x.shape h), m)
      by_type (ScalarType at l) (Some i) n t h s e m = (tt, fits-init i.init h.0, declares, begins, suits i.init h.0 s, m)
      by_type (SyncType at kind_at l) i n t h s e m = absurd t
      by_type (DomainType a) None n t h s e m =
          (tt, tt, declares, begins, subst (λ k. MayHold k x.shape (DomainValue (empty_domain a.rank))) (sym (kind ∙ h)) (subst (λ shape. MayHold DomainKind shape (DomainValue (empty_domain a.rank))) (sym shape) (empty-held a.rank type (of_kind ∙ ap (λ k. Some k) h) e)), m)
      by_type (DomainType a) (Some i) n t h s e m = (tt, fits-init i.init h.0, declares, begins, suits i.init h.0 s, m)
      by_type (ArrayType a) i n t h s e m = absurd n

      by_typed : (w : Option (TypedTree Text)) (i : Option (InitialTree Text)) → IsNoArrayType (type_of w) → IsRunnableType ss (type_of w) → IsInitialOf ss (type_of w) i r.kind → IsShapedInitial ss i type → type_given ss self (type_of w) i ≡ Some type
          → fits_maps (resolving start) (type_of (bound_typed ss w)) (bound_initial ss i) g → Fits (type_of (bound_typed ss w)) i
      by_typed None None n t h s e m = absurd h
      by_typed None (Some i) n t h s e m = (tt, fits-init i.init h.0, declares, begins, suits i.init h.0 s, m)
      by_typed (Some w) i n t h s e m = by_type w.type i n t h s e m

      single-fits : Fits (type_of (bound_typed ss d.typed)) d.initial
      single-fits = by_typed d.typed d.initial none r.type r.initial (r.shaped type is-type) given (maps-fit start ss known is d.typed d.initial r.found)

    -- an array
    module _ (arr : ArrayTypeTree Text) (typed : type_of d.typed ≡ Some (ArrayType arr)) where
      abbrev bound_type : Option (TypeTree Bound)
      bound_type = Some (ArrayType (renamed_array_type (bound_in ss) arr))

      type-bound : type_of (bound_typed ss d.typed) ≡ bound_type
      type-bound = type_of-renamed (bound_in ss) d.typed ∙ ap (option_map (renamed_type (bound_in ss))) typed

      of_array : x.variable.kind ≡ ArrayKind arr.kind
      of_array = kind ∙ array-kind arr typed

      over-fits : OverResolves (declared_over (renamed_items (bound_in ss) arr.over)) x.shape g
      over-fits =
          let domain = array-domain arr typed in
          subst (λ o. OverResolves o x.shape g) (sym (declared_over-renamed (bound_in ss) arr.over))
          (subst (λ s. OverResolves (option_map (bound_in ss) (declared_over arr.over)) s g) (sym (array-shape arr typed))
          (over-resolves ss known is arr.from domain.0 (array-type arr typed).0 (array-type arr typed).1 domain.2 arr.over (array-over arr typed) domain.1))

      spans : SpansArray x.variable.kind x.shape arr.kind (renamed_items (bound_in ss) arr.over) g
      spans =
          let domain = array-domain arr typed in
          subst (λ k. SpansArray k x.shape arr.kind (renamed_items (bound_in ss) arr.over) g) (sym of_array)
          (subst (λ s. SpansArray (ArrayKind arr.kind) s arr.kind (renamed_items (bound_in ss) arr.over) g) (sym (array-shape arr typed))
          (spans-array ss known is arr.over (array-over arr typed) arr.from domain.0 domain.1 (array-type arr typed).0 (array-type arr typed).1 domain.2 arr.kind))

      begins-fits : (i : Option (InitialTree Text)) → IsInitialOf ss (Some (ArrayType arr)) i (ArrayKind arr.kind) → fits_initial (resolving start) (fits_whole_side (resolving start)) (bound_initial ss i) g
      begins-fits None h = tt
      begins-fits (Some i) h = by i.init h.0
        where
          by : (i : InitTree Text) → IsInitOf ss i (ArrayKind arr.kind) → fits_init (resolving start) (fits_whole_side (resolving start)) (renamed_init (bound_in ss) i) g
          by (ItemInit item mapped) h = whole_side-fits start ss known is item h.1.found
          by (CreateInit c) h = items-fit start ss known is c.items h.0.found

      elements-suit : (i : Option (InitialTree Text)) → IsInitialOf ss (Some (ArrayType arr)) i (ArrayKind arr.kind) → suits_array (resolving start) x arr.kind (bound_initial ss i) g
      elements-suit None h = subst (λ k. MayHold k x.shape (default arr.kind)) (sym of_array) (element-default arr.kind, λ n. absurd (n tt))
      elements-suit (Some i) h = by i.init h.0
        where
          by : (i : InitTree Text) → IsInitOf ss i (ArrayKind arr.kind) → suits_elements (resolving start) x arr.kind (renamed_init (bound_in ss) i) g
          by (ItemInit item mapped) h =
              let u = some-type _ h.0 h.1.kind in
              subst (λ k. Suits k x.shape (renamed_item (bound_in ss) item) g) (sym of_array)
              (array-suits ss known is item h.1.found u.0 u.1 arr.kind x.shape h.0 (ap kind_by (sym u.1) ∙ h.1.kind) (given-operand arr.kind h.0 h.2))
          by (CreateInit c) h = absurd (let f : ArrayKind arr.kind ≡ DomainKind = h.1 in cc)

      fitting : Fits bound_type d.initial
      fitting = (
        items-fit start ss known is arr.over (array-over arr typed),
        begins-fits d.initial (array-initial arr typed),
        (is-new, subst IsWhole (sym of_array) tt, over-fits),
        subst (λ c. fits_given (resolving start) c x (form_by bound_type) g) (sym (array-unset arr typed)) tt,
        (spans, elements-suit d.initial (array-initial arr typed)),
        tt,
      )

      array-fits : Fits (type_of (bound_typed ss d.typed)) d.initial
      array-fits = subst (λ y. Fits y d.initial) (sym type-bound) fitting

    pub declare-fits : fits_stmt (resolving start) (bound_stmt ss (Declare d)) g
    declare-fits = by (type_of d.typed) refl
      where
        by : (y : Option (TypeTree Text)) → type_of d.typed ≡ y → Fits (type_of (bound_typed ss d.typed)) d.initial
        by (Some (ArrayType arr)) e = array-fits arr e
        by _ e = single-fits (subst IsNoArrayType (sym e) tt)

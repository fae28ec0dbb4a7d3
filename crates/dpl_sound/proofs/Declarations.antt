-- A declaration of a name that its scope doesn't have leaves a state that has what the scopes behind it declare.
-- A name whose declaration is refused has no type, so of it nothing is owed but that it is found.
use Rattle.std.proofs.Common.{◌≡◌, ℕ, pos, Bool, true, false, List, [], ◌∷◌, ◌++◌, map, Option, Some, None, Result, Ok, Err, refl, sym, ◌∙◌, subst}
use Rattle.std.specs.Prelude.{nat_lt}
use Rattle.std.specs.Result.{IfOk}
use Rattle.std.proofs.lemmas.Result.{IfOk-weaker}
use Rattle.std.proofs.lemmas.List.{append-nil}
use Rattle.dpl_syntax.specs.declared.place.Place.{Place}
use Rattle.dpl_syntax.specs.declared.refusal.Breach.{Breach}
use Rattle.dpl_sets.specs.TextRanges.{TextRange}
use Rattle.dpl_history.specs.declared.cell.CellState.TheVariants.{Empty, Full}
use Rattle.dpl_language.specs.Tree.{Placed, Kind, Items, ItemTree, MappedTree, ArrayTypeTree, TypeTree, ScalarType, SyncType}
use Rattle.dpl_language.specs.Tree.{DomainType as DomainWritten, ArrayType as ArrayWritten, InitTree, ItemInit, CreateInit, InitialTree, DeclareTree, Declare}
use Rattle.dpl_language.specs.Values.{Value, Int, Truth, Range, Domain, Array, Cell, Locale, AllLocales, Tuple, Index, Fault, fault, Budget, ArrayTooLarge, default, kept_number, ranges_in, all_ranges}
use Rattle.dpl_language.specs.Ranges.{empty_domain, sized, too_large, indices_in, size_in}
use Rattle.dpl_language.specs.Names.{Text, State, Declared as Kept, by_name}
use Rattle.dpl_language.specs.Outcome.{Deeds, Outcome, Done, Stop, Waits, Run, then_do, unless, naming_value}
use Rattle.dpl_language.specs.Environment.{Content, Plain, ArrayOf, CellOf, Limits}
use Rattle.dpl_language.specs.Phrases.{declared_over}
use Rattle.dpl_language.specs.Expressions.{item_of, items_of, whole_item, domain_of as domain_value}
use Rattle.dpl_language.specs.Declarations.{Shell, array_with, gathered, filled, type_of as written_type, declaring, initial_then, declare_with}
use Rattle.dpl_language.specs.Declarations.{array_of_item, array_of_init, array_of, declare_array, declare_typed, given_or, declare_by, declare}
use Rattle.dpl_language.specs.Roots.{deal_domain, deal_array, deal_by, dealt}
use Rattle.dpl_language.specs.Statements.{exec}
use Rattle.dpl_rules.specs.Types.{Origin, Over, ValueType, Scalar, Domain as DomainType, Array as ArrayType}
use Rattle.dpl_rules.specs.Types.{Cell as CellType, domain_of}
use Rattle.dpl_rules.specs.Verdicts.{Part, type_by, where_given}
use Rattle.dpl_rules.specs.Sights.{Declared, Scopes, declared_here, origin_in, add}
use Rattle.dpl_rules.specs.Operators.{ranges_verdict, domain_or, over_verdict}
use Rattle.dpl_rules.specs.Expressions.{item_type, item_parts, side_part}
use Rattle.dpl_rules.specs.Declarations.{domain_in, unless_refused, over_domain, array_type, type_breaches, init_part, untyped_breaches, typed_breaches}
use Rattle.dpl_rules.specs.Declarations.{initial_type, typed_initial, written_breaches, type_given, config_breaches, declaration_breaches, declared_by}
use Rattle.dpl_rules.specs.Loops.{behind}
use Rattle.dpl_rules.proofs.Admission.{first_empty, second_empty}
use Rattle.dpl_sound.specs.Formed.{ItemFormed, InitFormed, InitialFormed, TypeFormed, ItemsFormed}
use Rattle.dpl_sound.specs.Typed.{OfKind, AreRanked, HasType, type_at, HasPartType, HaveTypes}
use Rattle.dpl_sound.specs.Stores.{AllOfKind, ContentFits, StoreFits}
use Rattle.dpl_sound.specs.Runs.{Keeps, Leaves, IsReplied, InitReplied, InitialReplied, InitialTyped, GivenFits}
use Rattle.dpl_sound.proofs.Given.{some-same, with_type-gives}
use Rattle.dpl_sound.proofs.Results.{with_ok-if_by, naming_value-if}
use Rattle.dpl_sound.proofs.Posts.{IsLone}
use Rattle.dpl_sound.proofs.Sound.{sized-has, ranges_verdict-has, item_of-has, items_of-have, part-has}
use Rattle.dpl_sound.proofs.Initial.{default-kind, empty_domain-type, Takes, scalar-takes, domain-takes, array-takes, array-takes_at, typed-takes, untyped-gives}
use Rattle.dpl_sound.proofs.Wholes.{side-no_array, side-expression}
use Rattle.dpl_sound.proofs.Stores.{by_name-fits, declared-fits}
use Rattle.dpl_sound.proofs.Sides.{with_value-leaves, Goes, evaluated-leaves}

-- ---- the domain of an array's type, and of what a domain is created from: one domain, or some ranges
abbrev Sizes : Place → List Part → ValueType → Type 0
Sizes from ps u = IsLone u × ((vs : List Value) → HaveTypes vs ps → IfOk (sized from (all_ranges vs)) (λ w. HasType w u))

one_domain : (from : Place) (rank : ℕ) (strided : Bool) (v : Value) → HasType v (DomainType rank strided) → IfOk (sized from (all_ranges (v ∷ []))) (λ w. HasType w (DomainType rank strided))
one_domain from rank strided v h =
    subst (λ v. IfOk (sized from (ranges_in v ++ [])) (λ w. HasType w (DomainType rank strided))) (sym h.1)
    (sized-has from rank strided (h.0 ++ []) (subst (AreRanked rank strided) (sym (append-nil h.0)) h.2))

single-sizes : (from : Place) (p : Part) (t u : ValueType) → p.type ≡ Some t → type_by (domain_or (domain_of t) (ranges_verdict from (p ∷ []))) ≡ Some u → Sizes from (p ∷ []) u
single-sizes from p (DomainType rank strided) u e h = subst (Sizes from (p ∷ [])) (some-same (DomainType rank strided) u h) (λ i. refl, one)
  where
    one : (vs : List Value) → HaveTypes vs (p ∷ []) → IfOk (sized from (all_ranges vs)) (λ w. HasType w (DomainType rank strided))
    one [] hv = elim hv [ ]
    one (v ∷ []) hv = one_domain from rank strided v (subst (HasPartType v) e hv.0)
    one (v ∷ w ∷ vs) hv = elim hv.1 [ ]
single-sizes from p _ u e h = ranges_verdict-has from (p ∷ []) u h

over_verdict-sizes : (from : Place) (ps : List Part) (u : ValueType) → type_by (over_verdict from ps) ≡ Some u → Sizes from ps u
over_verdict-sizes from [] u h = ranges_verdict-has from [] u h
over_verdict-sizes from (p ∷ []) u h =
    let given = with_type-gives p.type (λ t. domain_or (domain_of t) (ranges_verdict from (p ∷ []))) u h in
    single-sizes from p given.0 u given.1 given.2
over_verdict-sizes from (p ∷ q ∷ ps) u h = ranges_verdict-has from (p ∷ q ∷ ps) u h

-- ---- the elements of an array
filled-kind : (k : Kind) (v : Value) (is : List Index) → OfKind k v → AllOfKind k (map {A = Index} {B = Value} (λ i. v) is)
filled-kind k v [] h = tt
filled-kind k v (i ∷ is) h = (h, filled-kind k v is h)

gathered-kind : (k : Kind) (value : Index → Result Value Fault) (is : List Index) → ((i : Index) → IfOk (value i) (OfKind k)) → IfOk (gathered value is) (AllOfKind k)
gathered-kind k value [] h = tt
gathered-kind k value (i ∷ is) h =
    with_ok-if_by (OfKind k) (AllOfKind k) (naming_value i (value i)) _ (naming_value-if (OfKind k) i (value i) (h i))
    (λ v hv. with_ok-if_by (AllOfKind k) (AllOfKind k) (gathered value is) _ (gathered-kind k value is h) (λ vs hvs. (hv, hvs)))

-- ---- what is declared
-- of a name whose declaration is refused nothing is owed
refused-fits : (bs : List Breach) (o : Option ValueType) (c : Content Text) → (bs ≡ [] → ContentFits o c) → ContentFits (unless_refused bs o) c
refused-fits [] o c p = p refl
refused-fits (b ∷ bs) o c p = tt

module _ (limits : Limits) (scopes : Scopes) where
  domain_value-has : (s : State) (from : Place) (items : Items Text) → ItemsFormed items → Keeps scopes s
      → IfOk (domain_value limits by_name from items s) (λ v. HasPartType v (type_by (over_verdict from (item_parts scopes items))))
  domain_value-has s from items f kept =
      let fits = by_name-fits scopes s kept in
      part-has limits by_name scopes s fits (type_by (over_verdict from (item_parts scopes items))) (domain_value limits by_name from items s)
      (λ t h. let told = over_verdict-sizes from (item_parts scopes items) t h in
      subst (λ t. IfOk (domain_value limits by_name from items s) (λ v. HasType v t)) (sym (told.0 None))
      (with_ok-if_by (λ vs. HaveTypes vs (item_parts scopes items)) (λ w. HasType w t) (items_of limits by_name items s) _ (items_of-have limits by_name scopes s fits items f) told.1))

  initial_then-leaves : (P : State → Type 0) (init : InitTree Text) (go : Value → Run State) (s : State) (done : Deeds) → InitFormed init → Keeps scopes s → InitReplied init s
      → Goes limits scopes P (init_part scopes init).type go → Leaves P (initial_then limits by_name init go s done)
  initial_then-leaves P (ItemInit item mapped) go s done f kept replied p = evaluated-leaves limits scopes P item go s done f kept replied p
  initial_then-leaves P (CreateInit c) go s done f kept replied p =
      with_value-leaves P (λ v. HasPartType v (type_by (over_verdict c.from (item_parts scopes c.items)))) (domain_value limits by_name c.from c.items s) go s done
      (domain_value-has s c.from c.items f kept) (λ v hv. p v s done hv kept)

  module _ (x : Placed Text) (d : Declared) (named : d.origin.name ≡ x.name) (new : declared_here scopes d.origin.name ≡ false) where
    -- the state behind the declaration has what is declared there
    abbrev Behind : State → Type 0
    Behind s = Keeps (add d scopes) s

    declaring-leaves : (c : Content Text) (s : State) (done : Deeds) → Keeps scopes s → ContentFits d.type c → Leaves Behind (declaring limits by_name x c s done)
    declaring-leaves c s done kept fits = subst (λ n. StoreFits (add d scopes) (Kept (record { name = n; content = c }) ∷ s.store)) named (declared-fits scopes s.store d c kept fits)

    -- of its default, or what is made of its initial value
    abbrev Makes : Option (InitialTree Text) → Content Text → (Value → Content Text) → Type 0
    Makes None empty make = ContentFits d.type empty
    Makes (Some i) empty make = (v : Value) → HasPartType v (init_part scopes i.init).type → ContentFits d.type (make v)

    declare_with-leaves : (empty : Content Text) (make : Value → Content Text) (initial : Option (InitialTree Text)) (s : State) (done : Deeds) → InitialFormed initial
        → Keeps scopes s → InitialReplied initial s → Makes initial empty make → Leaves Behind (declare_with limits by_name x empty make initial s done)
    declare_with-leaves empty make None s done f kept replied makes = declaring-leaves empty s done kept makes
    declare_with-leaves empty make (Some i) s done f kept replied makes =
        initial_then-leaves Behind i.init (λ v. declaring limits by_name x (make v)) s done f kept replied
        (λ v after done hv still. declaring-leaves (make v) after done still (makes v hv))

    -- of a name whose declaration is refused nothing is owed, else what the type given asks
    owed-fits : (bs : List Breach) (o : Option ValueType) (c : Content Text) → d.type ≡ unless_refused bs o → (bs ≡ [] → ContentFits o c) → ContentFits d.type c
    owed-fits bs o c e p = subst (λ t. ContentFits t c) (sym e) (refused-fits bs o c p)

    -- ---- a name without a type
    untyped-fits : (init : InitTree Text) (t : ValueType) (v : Value) → untyped_breaches scopes init ≡ [] → (init_part scopes init).type ≡ Some t → HasType v (type_at t None) → HasType v t
    untyped-fits (ItemInit item mapped) t v h e hv = untyped-gives scopes item mapped t v h e hv
    untyped-fits (CreateInit c) t v h e hv = subst (HasType v) ((over_verdict-sizes c.from (item_parts scopes c.items) t e).0 None) hv

    part-fits : (init : InitTree Text) (o : Option ValueType) (v : Value) → untyped_breaches scopes init ≡ [] → (init_part scopes init).type ≡ o → HasPartType v o → ContentFits o (Plain v)
    part-fits init None v h e hv = tt
    part-fits init (Some t) v h e hv = (untyped-fits init t v h e hv, tt)

    untyped-makes : (bs : List Breach) (initial : Option (InitialTree Text)) → d.type ≡ unless_refused bs (initial_type scopes initial)
        → (bs ≡ [] → where_given initial (λ i. untyped_breaches scopes i.init) ≡ []) → Makes initial (Plain (Int (pos 0))) (λ v. Plain v)
    untyped-makes bs None e told = owed-fits bs None (Plain (Int (pos 0))) e (λ none. tt)
    untyped-makes bs (Some i) e told = λ v hv.
        owed-fits bs (init_part scopes i.init).type (Plain v) e (λ none. part-fits i.init (init_part scopes i.init).type v (told none) refl hv)

    -- ---- a name with a type: a default, or what an initial value makes of which the type takes the type
    typed-makes : (bs : List Breach) (declared : ValueType) (initial : Option (InitialTree Text)) (empty : Content Text) (make : Value → Content Text)
        → d.type ≡ unless_refused bs (Some declared) → (bs ≡ [] → typed_initial scopes (Some declared) initial ≡ []) → InitialTyped scopes initial
        → ContentFits (Some declared) empty → ((t : ValueType) (v : Value) → Takes declared t → HasType v (type_at t None) → ContentFits (Some declared) (make v))
        → Makes initial empty make
    typed-makes bs declared None empty make e told typed fits makes = owed-fits bs (Some declared) empty e (λ none. fits)
    typed-makes bs declared (Some i) empty make e told typed fits makes = λ v hv.
        owed-fits bs (Some declared) (make v) e
        (λ none. makes typed.0 v (typed-takes scopes declared i.init typed.0 (told none) typed.1) (subst (HasPartType v) typed.1 hv))

    -- ---- arrays
    -- a fault where a test says so
    unless-leaves : (P : State → Type 0) (b : Bool) (f : Fault) (go : Run State) (s : State) (done : Deeds) → Leaves P (go s done) → Leaves P (unless b f go s done)
    unless-leaves P true f go s done p = tt
    unless-leaves P false f go s done p = p

    module _ (a : ArrayTypeTree Text) (self : Origin) (bs : List Breach) (typed : d.type ≡ unless_refused bs (array_type scopes self a)) where
      -- the domain of the array, by its type
      abbrev domain_type : Option ValueType
      domain_type = type_by (over_verdict a.from (item_parts scopes a.over))

      -- where nothing is told and the array has a type, the elements are of its kind
      abbrev Elements : List Value → Type 0
      Elements vs = (over : Over) → bs ≡ [] → array_type scopes self a ≡ Some (ArrayType a.kind over) → AllOfKind a.kind vs

      if_each : (r : Result (List Value) Fault)
          → ((over : Over) → bs ≡ [] → array_type scopes self a ≡ Some (ArrayType a.kind over) → IfOk r (AllOfKind a.kind)) → IfOk r Elements
      if_each (Ok vs) p = p
      if_each (Err f) p = tt

      array-content : (o : Option ValueType) (v : Value) (vs : List Value) (name : Option Text) → HasPartType v o
          → ((over : Over) → over_domain scopes self a (domain_in o) ≡ Some (ArrayType a.kind over) → AllOfKind a.kind vs)
          → ContentFits (over_domain scopes self a (domain_in o)) (ArrayOf name a.kind (ranges_in v) vs)
      array-content (Some (DomainType rank strided)) v vs name hv elements =
          ((ranges_in v, refl, subst (λ v. AreRanked rank strided (ranges_in v)) (sym hv.1) hv.2), elements _ refl)
      array-content _ v vs name hv elements = tt

      abbrev shell : Value → Shell Text
      shell v = record { over = declared_over a.over; kind = a.kind; ranges = ranges_in v }

      made-leaves : (v : Value) (vs : List Value) (s : State) (done : Deeds) → Keeps scopes s → HasPartType v domain_type → Elements vs
          → Leaves Behind (declaring limits by_name x (array_with (shell v) vs) s done)
      made-leaves v vs s done kept hv elements =
          declaring-leaves (array_with (shell v) vs) s done kept
          (owed-fits bs (array_type scopes self a) (array_with (shell v) vs) typed
          (λ none. array-content domain_type v vs (declared_over a.over) hv (λ over e. elements over none e)))

      module _ (item : ItemTree Text) (mapped : Option (MappedTree Text)) (t : ValueType) (told : bs ≡ [] → typed_breaches scopes (array_type scopes self a) (ItemInit item mapped) ≡ [])
          (side : (side_part scopes item).type ≡ Some t) where
        taken : (over : Over) → bs ≡ [] → array_type scopes self a ≡ Some (ArrayType a.kind over) → Takes (ArrayType a.kind over) t
        taken over none e = typed-takes scopes (ArrayType a.kind over) (ItemInit item mapped) t (subst (λ o. typed_breaches scopes o (ItemInit item mapped) ≡ []) e (told none)) side

        gathered-elements : (s : State) → ItemFormed item → Keeps scopes s → item_type scopes item ≡ Some t → (is : List Index) →
            (over : Over) → bs ≡ [] → array_type scopes self a ≡ Some (ArrayType a.kind over) → IfOk (gathered (λ i. item_of limits by_name item (Some i) s) is) (AllOfKind a.kind)
        gathered-elements s f kept h is over none e =
            gathered-kind a.kind (λ i. item_of limits by_name item (Some i) s) is
            (λ i. IfOk-weaker (item_of limits by_name item (Some i) s) (λ w. HasType w (type_at t (Some i))) (OfKind a.kind)
            (λ w hw. array-takes_at a.kind over t i w (taken over none e) hw) (item_of-has limits by_name scopes s (by_name-fits scopes s kept) item f t h (Some i)))

        item-leaves : (v : Value) (at : Place) (s : State) (done : Deeds) (o : Option (List TextRange)) → whole_item limits by_name item s ≡ o → ItemFormed item → Keeps scopes s
            → IsReplied item s → HasPartType v domain_type → Leaves Behind (array_of_item limits by_name x (shell v) at item o s done)
        item-leaves v at s done None whole f kept replied hv =
            evaluated-leaves limits scopes Behind item _ s done f kept replied
            (λ w after done hw still. unless-leaves Behind (nat_lt limits.budget (size_in (ranges_in v))) (fault Budget at) _ after done
            (made-leaves v (filled w (ranges_in v)) after done still hv
            (λ over none e. filled-kind a.kind w (indices_in (ranges_in v)) (array-takes a.kind over t w (taken over none e)
            (side-no_array limits by_name s scopes (by_name-fits scopes s kept) item f whole t side) (subst (HasPartType w) side hw)))))
        item-leaves v at s done (Some arrays) whole f kept replied hv =
            let values = gathered (λ i. item_of limits by_name item (Some i) s) (indices_in (ranges_in v)) in
            let own = sym (side-expression limits by_name s scopes (by_name-fits scopes s kept) item arrays whole) ∙ side in
            unless-leaves Behind (nat_lt limits.budget (size_in (ranges_in v))) (fault Budget at) _ s done
            (with_value-leaves Behind Elements values _ s done
            (if_each values (λ over none e. gathered-elements s f kept own (indices_in (ranges_in v)) over none e))
            (λ vs elements. made-leaves v vs s done kept hv elements))

      -- without an initial value the elements are 0 or false
      default-leaves : (v : Value) (s : State) (done : Deeds) → Keeps scopes s → HasPartType v domain_type
          → Leaves Behind (declaring limits by_name x (array_with (shell v) (filled (default a.kind) (ranges_in v))) s done)
      default-leaves v s done kept hv =
          made-leaves v (filled (default a.kind) (ranges_in v)) s done kept hv
          (λ over none e. filled-kind a.kind (default a.kind) (indices_in (ranges_in v)) (default-kind a.kind))

      array_of_init-leaves : (init : InitTree Text) (t : ValueType) (v : Value) (at : Place) (s : State) (done : Deeds)
          → (bs ≡ [] → typed_breaches scopes (array_type scopes self a) init ≡ []) → (init_part scopes init).type ≡ Some t → InitFormed init → InitReplied init s → Keeps scopes s
          → HasPartType v domain_type → Leaves Behind (array_of_init limits by_name x (shell v) at init s done)
      array_of_init-leaves (ItemInit item mapped) t v at s done told side f replied kept hv =
          item-leaves item mapped t told side v at s done (whole_item limits by_name item s) refl f kept replied hv
      array_of_init-leaves (CreateInit c) t v at s done told side f replied kept hv = default-leaves v s done kept hv

      array_of-leaves : (initial : Option (InitialTree Text)) (v : Value) (s : State) (done : Deeds) → (bs ≡ [] → typed_initial scopes (array_type scopes self a) initial ≡ [])
          → InitialFormed initial → InitialTyped scopes initial → InitialReplied initial s → Keeps scopes s → HasPartType v domain_type
          → Leaves Behind (array_of limits by_name x (shell v) initial s done)
      array_of-leaves None v s done told f side replied kept hv = default-leaves v s done kept hv
      array_of-leaves (Some i) v s done told f side replied kept hv =
          array_of_init-leaves i.init side.0 v i.equals s done told side.1 f replied kept hv

      declare_array-leaves : (initial : Option (InitialTree Text)) (s : State) (done : Deeds) → (bs ≡ [] → typed_initial scopes (array_type scopes self a) initial ≡ [])
          → ItemsFormed a.over → InitialFormed initial → InitialTyped scopes initial → InitialReplied initial s → Keeps scopes s
          → Leaves Behind (declare_array limits by_name x a initial s done)
      declare_array-leaves initial s done told over f side replied kept =
          with_value-leaves Behind (λ v. HasPartType v domain_type) (domain_value limits by_name a.from a.over s) _ s done (domain_value-has s a.from a.over over kept)
          (λ v hv. unless-leaves Behind (too_large (ranges_in v)) (fault ArrayTooLarge x.at) _ s done (array_of-leaves initial v s done told f side replied kept hv))

    -- ---- by the written type
    declare_typed-leaves : (w : Option (TypeTree Text)) (self : Origin) (bs : List Breach) (initial : Option (InitialTree Text)) (s : State) (done : Deeds)
        → d.type ≡ unless_refused bs (type_given scopes self w initial) → (bs ≡ [] → written_breaches scopes self w initial ≡ [])
        → TypeFormed w → InitialFormed initial → InitialTyped scopes initial → InitialReplied initial s → Keeps scopes s
        → Leaves Behind (declare_typed limits by_name x w initial s done)
    declare_typed-leaves None self bs initial s done typed told w f side replied kept =
        declare_with-leaves (Plain (Int (pos 0))) (λ v. Plain v) initial s done f kept replied (untyped-makes bs initial typed told)
    declare_typed-leaves (Some (ScalarType at k)) self bs initial s done typed told w f side replied kept =
        declare_with-leaves (Plain (default k)) (λ v. Plain v) initial s done f kept replied
        (typed-makes bs (Scalar k) initial (Plain (default k)) (λ v. Plain v) typed (λ none. second_empty (type_breaches scopes (ScalarType at k)) _ (told none)) side
        (default-kind k, tt) (λ t v takes hv. (scalar-takes k t v takes hv, tt)))
    declare_typed-leaves (Some (SyncType at kind_at k)) self bs initial s done typed told w f side replied kept =
        declare_with-leaves (CellOf k Empty) (λ v. CellOf k (Full (kept_number v))) initial s done f kept replied
        (typed-makes bs (CellType k) initial (CellOf k Empty) (λ v. CellOf k (Full (kept_number v))) typed
        (λ none. second_empty (type_breaches scopes (SyncType at kind_at k)) _ (told none)) side (refl, tt) (λ t v takes hv. (refl, tt)))
    declare_typed-leaves (Some (DomainWritten t)) self bs initial s done typed told w f side replied kept =
        declare_with-leaves (Plain (Domain (empty_domain t.rank))) (λ v. Plain v) initial s done f kept replied
        (typed-makes bs (DomainType t.rank false) initial (Plain (Domain (empty_domain t.rank))) (λ v. Plain v) typed
        (λ none. second_empty (type_breaches scopes (DomainWritten t)) _ (told none)) side
        (empty_domain-type t.rank, tt) (λ u v takes hv. (domain-takes t.rank u v takes hv, tt)))
    declare_typed-leaves (Some (ArrayWritten a)) self bs initial s done typed told w f side replied kept =
        declare_array-leaves a self bs typed initial s done (λ none. second_empty (type_breaches scopes (ArrayWritten a)) _ (told none)) w f side replied kept

    given_or-leaves : (o : Option Value) (go : Run State) (s : State) (done : Deeds) → Keeps scopes s
        → ((v : Value) → o ≡ Some v → ContentFits d.type (Plain v)) → Leaves Behind (go s done) → Leaves Behind (given_or limits by_name x o go s done)
    given_or-leaves None go s done kept given p = p
    given_or-leaves (Some v) go s done kept given p = declaring-leaves (Plain v) s done kept (given v refl)

  -- ---- a declaration
  plain_given : (o : Option ValueType) (v : Value) → ((t : ValueType) → o ≡ Some t → HasType v t) → ContentFits o (Plain v)
  plain_given None v p = tt
  plain_given (Some t) v p = (p t refl, tt)

  declaration-written : (d : DeclareTree Text) → declaration_breaches scopes d ≡ [] → written_breaches scopes (origin_in scopes d.name.name) (written_type d.typed) d.initial ≡ []
  declaration-written d h = second_empty _ (written_breaches scopes (origin_in scopes d.name.name) (written_type d.typed) d.initial) (first_empty _ (config_breaches scopes d.config d) h)

  config-leaves : (config : Option Place) (d : DeclareTree Text) (s : State) (done : Deeds) (P : State → Type 0)
      → (given_leaves : Leaves P (given_or limits by_name d.name (by_name.given d.name.name s) (declare_typed limits by_name d.name (written_type d.typed) d.initial) s done))
      → Leaves P (declare_typed limits by_name d.name (written_type d.typed) d.initial s done) → Leaves P (declare_by limits by_name config d s done)
  config-leaves None d s done P given p = p
  config-leaves (Some config) d s done P given p = given

  -- roots are kept beside the store
  dealt-leaves : (after : Scopes) (d : DeclareTree Text) (s : State) (o : Outcome State) → Leaves (Keeps after) o → Leaves (Keeps after) (then_do o (λ t done. Done (dealt limits by_name d s t) done))
  dealt-leaves after d s (Done t done) k = subst (λ store. StoreFits after store) (sym (dealt-store (written_type d.typed) (by_name.get d.name.name t))) k
    where
      domain-store : (type : Option (TypeTree Text)) (v : Value) → (deal_domain limits by_name type d.initial d.name.name v s t).store ≡ t.store
      domain-store type (Int n) = refl
      domain-store type (Truth b) = refl
      domain-store type (Range r) = refl
      domain-store type (Domain rs) = refl
      domain-store type (Array k rs) = refl
      domain-store type (Cell k) = refl
      domain-store type (Locale n) = refl
      domain-store type AllLocales = refl
      domain-store type (Tuple is) = refl

      array-store : (a : ArrayTypeTree Text) (v : Value) → (deal_array limits by_name a d.name.name v s t).store ≡ t.store
      array-store a (Int n) = refl
      array-store a _ = refl

      dealt-store : (type : Option (TypeTree Text)) (v : Value) → (deal_by limits by_name type d.initial d.name.name v s t).store ≡ t.store
      dealt-store None v = domain-store None v
      dealt-store (Some (ScalarType at k)) v = domain-store (Some (ScalarType at k)) v
      dealt-store (Some (SyncType at kind_at k)) v = domain-store (Some (SyncType at kind_at k)) v
      dealt-store (Some (DomainWritten t)) v = domain-store (Some (DomainWritten t)) v
      dealt-store (Some (ArrayWritten a)) v = array-store a v
  dealt-leaves after d s (Stop f done) k = k
  dealt-leaves after d s (Waits at c op done) k = k

  -- A declaration of a name that its scope doesn't have, whose initial value has a type: what it leaves, where it
  -- leaves a state, has what the scopes behind it declare. Of other programs C2 and the initial value's breach are told.
  pub declare-leaves : (d : DeclareTree Text) (s : State) (done : Deeds) → declared_here scopes d.name.name ≡ false
      → TypeFormed (written_type d.typed) → InitialFormed d.initial → InitialTyped scopes d.initial → InitialReplied d.initial s → GivenFits (declared_by scopes d) s → Keeps scopes s
      → Leaves (Keeps (behind scopes (Declare d))) (exec limits by_name (Declare d) s done)
  declare-leaves d s done new w f side replied given kept =
      let made = declared_by scopes d in
      dealt-leaves (add made scopes) d s (declare limits by_name d s done) (
      let typed = declare_typed-leaves d.name made refl new (written_type d.typed) (origin_in scopes d.name.name) (declaration_breaches scopes d) d.initial s done refl
      (declaration-written d) w f side replied kept in
      config-leaves d.config d s done (Keeps (add made scopes))
      (given_or-leaves d.name made refl new (by_name.given d.name.name s) (declare_typed limits by_name d.name (written_type d.typed) d.initial) s done kept
      (λ v e. plain_given made.type v (λ t h. given t v h e)) typed)
      typed)

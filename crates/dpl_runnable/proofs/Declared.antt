-- Declarations that a text spells, that need nothing which doesn't run and that break no rule are those of runnable programs: the
-- type is `int`, `bool`, `domain` or an array's or isn't written, and the value is of the variable's kind and its shape, or one that an
-- array's elements may be given. A map has a typed form, and stands beside a domain.
use Rattle.std.proofs.Common.{◌≡◌, ℕ, Bool, true, false, List, [], ◌∷◌, ◌++◌, Option, Some, None, refl, sym, ap, ◌∙◌, subst}
use Rattle.std.specs.Prelude.{not, ◌&&◌, ◌||◌}
use Rattle.std.proofs.Math.Bool.{or-not_self}
use Rattle.std.proofs.lemmas.Bool.{eq-eqb}
use Rattle.dpl_syntax.specs.declared.place.Place.{Place}
use Rattle.dpl_syntax.specs.declared.refusal.Breach.{Breach}
use Rattle.dpl_syntax.specs.declared.refusal.Code.TheVariants.{NameTwice}
use Rattle.dpl_language.specs.Tree.{ItemTree, MappedTree, ArrayTypeTree, TypeTree, ScalarType, SyncType, DomainType, ArrayType, InitTree, ItemInit, CreateInit, TypedTree, InitialTree, DeclareTree}
use Rattle.dpl_language.specs.Names.{Text}
use Rattle.dpl_language.specs.Declarations.{type_of as written_type}
use Rattle.dpl_language.specs.Spelled.{SaysType}
use Rattle.dpl_grammar.specs.Each.{IfThere}
use Rattle.dpl_spelling.specs.Spelt.{TypeSpelt, InitSpelt, TypedSpelt, InitialSpelt, DeclareSpelt}
use Rattle.dpl_agreement.specs.Untasked.{UntaskedIf, UntaskedType, UntaskedTyped, UntaskedInit, UntaskedInitial, UntaskedDeclare}
use Rattle.dpl_rules.specs.Types.{Origin, ValueType, Scalar, Domain, Array, is_any_scalar}
use Rattle.dpl_rules.specs.Verdicts.{type_by, broken_by, owed, owed_type}
use Rattle.dpl_rules.specs.Places.{first_of_item}
use Rattle.dpl_rules.specs.Sights.{Scopes, declared_here, origin_in}
use Rattle.dpl_rules.specs.Operators.{over_verdict}
use Rattle.dpl_rules.specs.Expressions.{item_type, item_parts, items_breaches, side_part, side_breaches}
use Rattle.dpl_rules.specs.Maps.{mapped_breaches}
use Rattle.dpl_rules.specs.Declarations.{domain_in, type_rank, is_initial, is_kept, is_untyped, unless_refused, declared_type, agreeing, unmapped, init_part, type_breaches, untyped_breaches, typed_breaches, typed_initial, config_type, config_by, config_breaches, written_breaches, type_given, declaration_breaches}
use Rattle.dpl_rules.proofs.Admission.{first_empty, second_empty}
use Rattle.dpl_sound.proofs.Given.{some-same, owed_not-holds}
use Rattle.dpl_words.specs.Words.{RangeLeaf}
use Rattle.dpl_memory.specs.Memory.{VariableKind, PlainKind, DomainKind}
use Rattle.dpl_typed.specs.Leaves.{value_kind, kind_by}
use Rattle.dpl_bound.specs.Shapes.{takes_shape}
use Rattle.dpl_runnable.proofs.Kept.{kind-same}
use Rattle.dpl_nodes.specs.Spots.{IsNear}
use Rattle.dpl_runnable.specs.Kinds.{IsVariable, AreVariables, IsScalarKind, IsDeclaredKind, IsGivenTo}
use Rattle.dpl_runnable.specs.Runnable.{IsRunnableType, IsFoundType, IsInitOf, IsInitialOf, IsShapedInit, IsShapedInitial, IsConfigOf, IsRunnableDeclare}
use Rattle.dpl_runnable.proofs.Kept.{kind-cases}
use Rattle.dpl_runnable.proofs.Expressions.{RunnableItem, runnable_items}
use Rattle.dpl_runnable.proofs.Owed.{owed_type-holds, scalar-by, is_any_scalar-kind, is_domain-kind, same-given, is_scalar-given, is_domain_of-given, fits_array-given}
use Rattle.dpl_runnable.proofs.Arrays.{over-spread, created-kind, over_domain-array, array_type-kind}
use Rattle.dpl_runnable.proofs.Maps.{untyped-created, maps-found}
use Rattle.dpl_runnable.proofs.Scopes.{is_untyped-kept, side-item, runnable_side, domain_type-rank, declared_by-variable}

-- ---- kinds
-- what is kept without a type
is_kept-kind : (t : ValueType) (k : VariableKind) → value_kind t ≡ Some k → is_kept t ≡ true → IsDeclaredKind k
is_kept-kind t k e =
    kind-cases (λ t. value_kind t ≡ Some k → is_kept t ≡ true → IsDeclaredKind k) (λ l e h. scalar-by IsDeclaredKind tt tt l k e)
    (λ s e h. subst IsDeclaredKind (kind-same (PlainKind RangeLeaf) k e) tt) (λ rank s r e h. subst IsDeclaredKind (sym (is_domain-kind (Domain rank s) k e refl)) tt)
    (λ l over r e h. absurd cc) (λ l over r e h. absurd cc) (λ rank r e h. absurd cc) t k e e

-- ---- shapes
-- what is kept without a type is of its own shape
is_kept-shaped : (t : ValueType) (k : VariableKind) → value_kind t ≡ Some k → is_kept t ≡ true → takes_shape t t ≡ true
is_kept-shaped =
    kind-cases (λ t. is_kept t ≡ true → takes_shape t t ≡ true) (λ l h. refl) (λ s h. or-not_self s)
    (λ rank s r h. ap (λ b. b && (s || not s)) (eq-eqb rank rank refl) ∙ or-not_self s) (λ l over r h. absurd cc) (λ l over r h. absurd cc) (λ rank r h. absurd cc)

-- ---- types
module _ (scopes : Scopes) (names : AreVariables scopes) where
  type-runnable : (t : TypeTree Text) → TypeSpelt IsNear ⊥ t → UntaskedType t → type_breaches scopes t ≡ [] → IsRunnableType scopes (Some t)
  type-runnable (ScalarType at k) s c h = tt
  type-runnable (SyncType at kind_at k) s c h = absurd c
  type-runnable (DomainType d) s c h = domain_type-rank scopes IsNear names d h
  type-runnable (ArrayType a) s c h =
      let own = first_empty (items_breaches scopes a.over) (broken_by (over_verdict a.from (item_parts scopes a.over))) h in
      (s.1, s.0)

  -- the names between an array's brackets
  type-found : (t : TypeTree Text) → TypeSpelt IsNear ⊥ t → UntaskedType t → type_breaches scopes t ≡ [] → IsFoundType scopes (Some t)
  type-found (ScalarType at k) s c h = tt
  type-found (SyncType at kind_at k) s c h = absurd c
  type-found (DomainType d) s c h = tt
  type-found (ArrayType a) s c h =
      runnable_items scopes IsNear names a.over s.1 c (first_empty (items_breaches scopes a.over) (broken_by (over_verdict a.from (item_parts scopes a.over))) h)

  written-found : (w : Option (TypedTree Text)) (i : Option (InitialTree Text)) (self : Origin) → IfThere (TypedSpelt IsNear ⊥) w → UntaskedIf UntaskedTyped w
      → written_breaches scopes self (written_type w) i ≡ [] → IsFoundType scopes (written_type w)
  written-found None i self s c h = tt
  written-found (Some t) i self s c h = type-found t.type s.1 c (first_empty (type_breaches scopes t.type) (typed_initial scopes (declared_type scopes self t.type) i) h)

  written-runnable : (w : Option (TypedTree Text)) (i : Option (InitialTree Text)) (self : Origin) → IfThere (TypedSpelt IsNear ⊥) w → UntaskedIf UntaskedTyped w
      → written_breaches scopes self (written_type w) i ≡ [] → IsRunnableType scopes (written_type w)
  written-runnable None i self s c h = tt
  written-runnable (Some t) i self s c h = type-runnable t.type s.1 c (first_empty (type_breaches scopes t.type) (typed_initial scopes (declared_type scopes self t.type) i) h)

  -- the domain that an array is over
  abbrev spread : ArrayTypeTree Text → Option (ℕ × Bool)
  spread a = domain_in (type_by (over_verdict a.from (item_parts scopes a.over)))

  -- ---- values
  -- a value's kind is that of its type
  side-kind : (item : ItemTree Text) (k : VariableKind) → kind_by (side_part scopes item).type ≡ Some k → kind_by (item_type scopes item) ≡ Some k
  side-kind item k e = ap kind_by (sym (side-item scopes IsNear names item)) ∙ e

  untyped-init : (init : InitTree Text) (k : VariableKind) → InitSpelt IsNear ⊥ init → UntaskedInit init → untyped_breaches scopes init ≡ [] → kind_by (init_part scopes init).type ≡ Some k
      → IsInitOf scopes init k
  untyped-init (ItemInit item mapped) k s c h e =
      let side = side_breaches scopes item in
      let kept = owed_type (is_untyped mapped) (first_of_item item) (side_part scopes item).type in
      let told = first_empty side kept (first_empty (side ++ kept) (mapped_breaches scopes (type_rank (side_part scopes item).type) mapped) h) in
      let found = (runnable_side scopes IsNear names item s.0 c.0 told).found in
      (k, record { found = found; kind = side-kind item k e; near = s.0 }, same-given k k refl)
  untyped-init (CreateInit m) k s c h e =
      let own = first_empty (items_breaches scopes m.items) (broken_by (over_verdict m.from (item_parts scopes m.items))) h in
      let kind = created-kind scopes IsNear names m.from m.items s.4 c h in
      let found = runnable_items scopes IsNear names m.items s.4 c own in
      (record { found = found; kind = kind; near = s.4; from = s.3 }, kind-same k DomainKind (sym e ∙ kind))

  -- beside a type a value that is written is of a type that may be given to it at first
  record IsFirst (t : ValueType) (item : ItemTree Text) : Type 0 where
    value : RunnableItem scopes IsNear names item
    fit : is_initial t value.variable.type ≡ true

  typed-first : (t : ValueType) (item : ItemTree Text) (mapped : Option (MappedTree Text)) → InitSpelt IsNear ⊥ (ItemInit item mapped) → UntaskedInit (ItemInit item mapped) → typed_breaches scopes (Some t) (ItemInit item mapped) ≡ []
      → IsFirst t item
  typed-first t item mapped s c h =
      let side = side_breaches scopes item in
      let agrees = agreeing (Some t) (side_part scopes item) in
      let front = first_empty (side ++ agrees) (unmapped mapped) (first_empty (side ++ agrees ++ unmapped mapped) (mapped_breaches scopes (type_rank (side_part scopes item).type) mapped) h) in
      let value = runnable_side scopes IsNear names item s.0 c.0 (first_empty side agrees front) in
      let is = side-item scopes IsNear names item ∙ value.variable.is in
      record { value = value; fit = owed_type-holds (is_initial t) (side_part scopes item).at (side_part scopes item).type value.variable.type is (second_empty side agrees front) }

  -- a value fits a type that it may be given to at first
  typed-init : (t : ValueType) (k : VariableKind) → ((u : ValueType) (j : VariableKind) → value_kind u ≡ Some j → is_initial t u ≡ true → IsGivenTo k j)
      → (init : InitTree Text) → InitSpelt IsNear ⊥ init → UntaskedInit init → typed_breaches scopes (Some t) init ≡ [] → IsInitOf scopes init k
  typed-init t k fits (ItemInit item mapped) s c h =
      let first = typed-first t item mapped s c h in
      let p = first.value.variable in
      (p.kind, record { found = first.value.found; kind = ap kind_by p.is ∙ p.of_kind; near = s.0 }, fits p.type p.kind p.of_kind first.fit)
  typed-init t k fits (CreateInit m) s c h = absurd (untyped-created scopes (Some t) m h)

  type-initial : (t : TypeTree Text) (i : Option (InitialTree Text)) (self : Origin) (k : VariableKind) → IfThere (InitialSpelt IsNear ⊥) i → UntaskedType t → UntaskedIf UntaskedInitial i
      → typed_initial scopes (declared_type scopes self t) i ≡ [] → kind_by (declared_type scopes self t) ≡ Some k → IsInitialOf scopes (Some t) i k
  type-initial (ScalarType at l) None self k s v c h e = e
  type-initial (ScalarType at l) (Some i) self k s v c h e = (typed-init (Scalar l) k (λ u j f g. is_scalar-given k u j f l e g) i.init s.1 c h, s.0)
  type-initial (SyncType at kind_at l) i self k s v c h e = absurd v
  type-initial (DomainType d) None self k s v c h e = is_domain-kind (Domain d.rank false) k e refl
  type-initial (DomainType d) (Some i) self k s v c h e = (typed-init (Domain d.rank false) k (λ u j f g. is_domain_of-given k u j f d.rank false false e g) i.init s.1 c h, s.0)
  type-initial (ArrayType a) None self k s v c h e = sym (array_type-kind scopes self a (spread a) k e).2
  type-initial (ArrayType a) (Some i) self k s v c h e =
      let (over, is, one) = array_type-kind scopes self a (spread a) k e in
      let of_kind : value_kind (Array a.kind over) ≡ Some k = ap kind_by (sym is) ∙ e in
      (typed-init (Array a.kind over) k (λ u j f g. fits_array-given k u j f a.kind over of_kind g) i.init s.1 c (subst (λ o. typed_breaches scopes o i.init ≡ []) is h), s.0)

  written-initial : (w : Option (TypedTree Text)) (i : Option (InitialTree Text)) (self : Origin) (k : VariableKind) → SaysType w i → IfThere (InitialSpelt IsNear ⊥) i
      → UntaskedIf UntaskedTyped w → UntaskedIf UntaskedInitial i → written_breaches scopes self (written_type w) i ≡ [] → kind_by (type_given scopes self (written_type w) i) ≡ Some k
      → IsInitialOf scopes (written_type w) i k
  written-initial None None self k says s v c h e = elim says [ ]
  written-initial None (Some i) self k says s v c h e = (untyped-init i.init k s.1 c h e, s.0)
  written-initial (Some t) i self k says s v c h e =
      type-initial t.type i self k s v c (second_empty (type_breaches scopes t.type) (typed_initial scopes (declared_type scopes self t.type) i) h) e

  -- ---- what a declaration gives a name
  untyped-kept : (init : InitTree Text) (p : IsVariable (init_part scopes init).type) → InitSpelt IsNear ⊥ init → UntaskedInit init → untyped_breaches scopes init ≡ [] → is_kept p.type ≡ true
  untyped-kept (ItemInit item mapped) p s c h =
      let side = side_breaches scopes item in
      let kept = owed_type (is_untyped mapped) (first_of_item item) (side_part scopes item).type in
      let told = second_empty side kept (first_empty (side ++ kept) (mapped_breaches scopes (type_rank (side_part scopes item).type) mapped) h) in
      is_untyped-kept mapped p.type (owed_type-holds (is_untyped mapped) (first_of_item item) (side_part scopes item).type p.type p.is told)
  untyped-kept (CreateInit m) p s c h =
      let (t, e, spread) = over-spread scopes IsNear names m.from m.items s.4 c h in
      subst (λ t. is_kept t ≡ true) (sym spread.is ∙ some-same t p.type (sym e ∙ p.is)) refl

  type-kept : (t : TypeTree Text) (self : Origin) (k : VariableKind) → UntaskedType t → kind_by (declared_type scopes self t) ≡ Some k → IsDeclaredKind k
  type-kept (ScalarType at l) self k c e = scalar-by IsDeclaredKind tt tt l k e
  type-kept (SyncType at kind_at l) self k c e = absurd c
  type-kept (DomainType d) self k c e = subst IsDeclaredKind (sym (is_domain-kind (Domain d.rank false) k e refl)) tt
  type-kept (ArrayType a) self k c e = subst IsDeclaredKind (array_type-kind scopes self a (spread a) k e).2 tt

  written-kept : (w : Option (TypedTree Text)) (i : Option (InitialTree Text)) (self : Origin) (p : IsVariable (type_given scopes self (written_type w) i)) → SaysType w i → IfThere (InitialSpelt IsNear ⊥) i
      → UntaskedIf UntaskedTyped w → UntaskedIf UntaskedInitial i → written_breaches scopes self (written_type w) i ≡ [] → IsDeclaredKind p.kind
  written-kept None None self p says s v c h = elim says [ ]
  written-kept None (Some i) self p says s v c h = is_kept-kind p.type p.kind p.of_kind (untyped-kept i.init p s.1 c h)
  written-kept (Some t) i self p says s v c h = type-kept t.type self p.kind v (ap kind_by p.is ∙ p.of_kind)

  -- ---- the shape of what a declaration gives a name
  untyped-shaped : (init : InitTree Text) (p : IsVariable (init_part scopes init).type) → is_kept p.type ≡ true → IsShapedInit scopes init p.type
  untyped-shaped (ItemInit item mapped) p kept = (p.type, sym (side-item scopes IsNear names item) ∙ p.is, is_kept-shaped p.type p.kind p.of_kind kept)
  untyped-shaped (CreateInit m) p kept = (p.type, p.is, is_kept-shaped p.type p.kind p.of_kind kept)

  typed-shaped : (t : ValueType) → ((u : ValueType) → is_initial t u ≡ true → takes_shape t u ≡ true)
      → (init : InitTree Text) → InitSpelt IsNear ⊥ init → UntaskedInit init → typed_breaches scopes (Some t) init ≡ [] → IsShapedInit scopes init t
  typed-shaped t fits (ItemInit item mapped) s c h =
      let first = typed-first t item mapped s c h in
      let p = first.value.variable in
      (p.type, p.is, fits p.type first.fit)
  typed-shaped t fits (CreateInit m) s c h = absurd (untyped-created scopes (Some t) m h)

  type-shaped : (t : TypeTree Text) (i : InitTree Text) (self : Origin) (u : ValueType) → InitSpelt IsNear ⊥ i → UntaskedType t → UntaskedInit i
      → typed_breaches scopes (declared_type scopes self t) i ≡ [] → declared_type scopes self t ≡ Some u → IsShapedInit scopes i u
  type-shaped (ScalarType at l) i self u s v c h e = subst (IsShapedInit scopes i) (some-same (Scalar l) u e) (typed-shaped (Scalar l) (λ w f. refl) i s c h)
  type-shaped (SyncType at kind_at l) i self u s v c h e = absurd v
  type-shaped (DomainType d) i self u s v c h e = subst (IsShapedInit scopes i) (some-same (Domain d.rank false) u e) (typed-shaped (Domain d.rank false) (λ w f. f) i s c h)
  type-shaped (ArrayType a) i self u s v c h e =
      let (over, is) = over_domain-array scopes self a (spread a) u e in
      subst (IsShapedInit scopes i) (sym is) (typed-shaped (Array a.kind over) (λ w f. refl) i s c (subst (λ o. typed_breaches scopes o i ≡ []) (e ∙ ap Some is) h))

  written-shaped : (w : Option (TypedTree Text)) (i : Option (InitialTree Text)) (self : Origin) (p : IsVariable (type_given scopes self (written_type w) i)) → IfThere (InitialSpelt IsNear ⊥) i
      → UntaskedIf UntaskedTyped w → UntaskedIf UntaskedInitial i → written_breaches scopes self (written_type w) i ≡ [] → IsShapedInitial scopes i p.type
  written-shaped w None self p s v c h = tt
  written-shaped None (Some i) self p s v c h = untyped-shaped i.init p (untyped-kept i.init p s.1 c h)
  written-shaped (Some t) (Some i) self p s v c h =
      type-shaped t.type i.init self p.type s.1 v c (second_empty (type_breaches scopes t.type) (typed_breaches scopes (declared_type scopes self t.type) i.init) h) p.is

  -- ---- configs
  type-config : (t : TypeTree Text) (self : Origin) (k : VariableKind) → UntaskedType t → config_type t ≡ [] → kind_by (declared_type scopes self t) ≡ Some k → IsScalarKind k
  type-config (ScalarType at l) self k c h e = scalar-by IsScalarKind tt tt l k e
  type-config (SyncType at kind_at l) self k c h e = absurd c
  type-config (DomainType d) self k c h e = absurd cc
  type-config (ArrayType a) self k c h e = absurd cc

  written-config : (w : Option (TypedTree Text)) (i : Option (InitialTree Text)) (self : Origin) (p : IsVariable (type_given scopes self (written_type w) i)) → SaysType w i → UntaskedIf UntaskedTyped w
      → config_by scopes (written_type w) i ≡ [] → IsScalarKind p.kind
  written-config None None self p says c h = elim says [ ]
  written-config None (Some i) self p says c h =
      is_any_scalar-kind p.type p.kind p.of_kind (owed_type-holds is_any_scalar (init_part scopes i.init).at (init_part scopes i.init).type p.type p.is h)
  written-config (Some t) i self p says c h = type-config t.type self p.kind c h (ap kind_by p.is ∙ p.of_kind)

  config-kind : (config : Option Place) (d : DeclareTree Text) (self : Origin) (p : IsVariable (type_given scopes self (written_type d.typed) d.initial)) → SaysType d.typed d.initial
      → UntaskedIf UntaskedTyped d.typed → config_breaches scopes config d ≡ [] → IsConfigOf config p.kind
  config-kind None d self p says c h = tt
  config-kind (Some at) d self p says c h = written-config d.typed d.initial self p says c h

  unless_refused-none : (bs : List Breach) (o : Option ValueType) → bs ≡ [] → unless_refused bs o ≡ o
  unless_refused-none [] o h = refl
  unless_refused-none (b ∷ bs) o h = absurd cc

  -- ---- declarations
  pub runnable_declare : (d : DeclareTree Text) → DeclareSpelt IsNear ⊥ d → UntaskedDeclare d → declaration_breaches scopes d ≡ [] → IsRunnableDeclare scopes d
  runnable_declare d s c h =
      let self = origin_in scopes d.name.name in
      let given = type_given scopes self (written_type d.typed) d.initial in
      let once = owed (not (declared_here scopes d.name.name)) d.name.at NameTwice in
      let written = written_breaches scopes self (written_type d.typed) d.initial in
      let config = config_breaches scopes d.config d in
      let front = first_empty (once ++ written) config h in
      let told = second_empty once written front in
      let typed = c.0 in
      let initial = c.1 in
      let same = unless_refused-none (declaration_breaches scopes d) given h in
      let declared = declared_by-variable scopes IsNear names d s c h in
      let variable : IsVariable given = record { kind = declared.kind; type = declared.type; is = sym same ∙ declared.is; of_kind = declared.of_kind } in
      record {
        type = written-runnable d.typed d.initial self s.4 typed told;
        over = written-found d.typed d.initial self s.4 typed told;
        near = s.3;
        kind = declared.kind;
        initial = written-initial d.typed d.initial self declared.kind s.0 s.5 typed initial told (ap kind_by variable.is ∙ variable.of_kind);
        declared = ap kind_by declared.is ∙ declared.of_kind;
        kept = written-kept d.typed d.initial self variable s.0 s.5 typed initial told;
        shaped = λ t e. subst (IsShapedInitial scopes d.initial) (some-same declared.type t (sym declared.is ∙ e)) (written-shaped d.typed d.initial self variable s.5 typed initial told);
        fresh = owed_not-holds (declared_here scopes d.name.name) d.name.at NameTwice (first_empty once written front);
        found = maps-found scopes names d.typed d.initial self s.4 s.5 typed initial told;
        config = config-kind d.config d self variable s.0 typed (second_empty (once ++ written) config h);
      }

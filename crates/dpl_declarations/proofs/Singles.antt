-- Names of one slot, without a type, and of an int's, a truth value's or a domain's type: what is found of each is its declaration.
-- Each begins with a value that the rules let it begin with.
use Rattle.std.proofs.Common.{◌≡◌, ℕ, Bool, true, false, [], Bor, ◌==◌, Option, Some, None, is_some, refl, sym, ap, ◌∙◌, subst, arith}
use Rattle.std.specs.Prelude.{nat_lt, nat_le, ◌&&◌, ◌||◌, not}
use Rattle.std.proofs.lemmas.Option.{none-some}
use Rattle.std.proofs.lemmas.Bool.Decides.{nat_tests}
use Rattle.dpl_syntax.specs.declared.place.Place.{Place}
use Rattle.dpl_syntax.specs.declared.refusal.Breach.{Breach}
use Rattle.dpl_syntax.specs.declared.refusal.Code.TheVariants.{WrongType, WrongRank}
use Rattle.dpl_language.specs.Tree.{Kind, IntKind, BoolKind, MappedTree, DomainTypeTree, TypeTree, ScalarType, DomainType, InitTree, ItemInit, CreateInit, InitialTree, DeclareTree, StmtTree}
use Rattle.dpl_language.specs.Names.{Text}
use Rattle.dpl_rules.specs.Types.{ValueType, Scalar, Range, Domain, Locale, has, is_any_scalar, domain_of, is_domain, is_domain_of}
use Rattle.dpl_rules.specs.Verdicts.{breach, owed, where_given, wanted}
use Rattle.dpl_rules.specs.Breaches.{least_from}
use Rattle.dpl_rules.specs.Sights.{Scopes}
use Rattle.dpl_rules.specs.Maps.{mapped_breaches}
use Rattle.dpl_rules.specs.Declarations.{is_kept, init_part, untyped_breaches, typed_initial}
use Rattle.dpl_scopes.specs.Slots.{next_slot_in}
use Rattle.dpl_scopes.specs.Types.{of_type}
use Rattle.dpl_lowered.specs.Shapes.{nowhere}
use Rattle.dpl_lowered.specs.LoweredExpressions.{Once}
use Rattle.dpl_lowered.specs.LoweredStatements.{default_tree, mapped_initial, ranked_type, unplaced_word, lowered_init, lowered_init_map, map_by, root_type, plain_initial, declared_type, declared_initial}
use Rattle.dpl_words.specs.Words.{IntLeaf, TruthLeaf, RangeLeaf}
use Rattle.dpl_memory.specs.Memory.{PlainKind, DomainKind, Variable, variable, known_variable}
use Rattle.dpl_nodes.specs.declared.placing.MapExpr.{MapExpr}
use Rattle.dpl_nodes.specs.declared.placing.Placing.{Placing}
use Rattle.dpl_nodes.specs.declared.placing.Placing.TheVariants.{Derived, Root}
use Rattle.dpl_nodes.specs.declared.step.Step.{Step}
use Rattle.dpl_nodes.specs.Steps.{step_view, placed_map, placed_type, typed_map}
use Rattle.dpl_typed.specs.declared.typed.Typed.{Typed}
use Rattle.dpl_typed.specs.Leaves.{value_kind, leaf_by}
use Rattle.dpl_typed.specs.Stands.{IsItem}
use Rattle.dpl_typed.specs.Told.{TellsPart}
use Rattle.dpl_typed.specs.Typed.{type_of_typed, types_of, typed_view, typed_item, is_rank, has_node, part_view}
use Rattle.dpl_bound.specs.Sights.{AreKnownScopes}
use Rattle.dpl_sound.proofs.Given.{both_so}
use Rattle.dpl_types.proofs.Unbroken.{unbroken, owed-holds}
use Rattle.dpl_mapped.specs.Named.{IsPlainMapped, IsMappedAs}
use Rattle.dpl_declarations.specs.declared.found.Found.{Found}
use Rattle.dpl_declarations.specs.declared.initial.Given.{Given}
use Rattle.dpl_declarations.specs.Plain.{IsSimpleMapped, IsPlainInit, IsPlainInitial, IsPlainAs}
use Rattle.dpl_declarations.specs.Trees.{mapped_leaves, type_leaves, init_leaves, initial_leaves, lowered_as, IsNameType, IsFoundAs}
use Rattle.dpl_declarations.specs.Made.{placing_or, IsPlacing, IsGivenBy, IsInitialBeside, single_as, Begins, begun_as, empty_as, IsOrDefault}
use Rattle.dpl_declarations.proofs.Known.{owed_type-holds, is_scalar-is, kind-chosen, domain-ranked}
use Rattle.dpl_declarations.proofs.Placed.{root-typed, root-beside, root-map, placing-type, placing-map}
use Rattle.dpl_declarations.proofs.Beside.{IsKept, untyped-found, IsAgreed, typed-agreed}

-- ---- `config`: an int or a truth value
abbrev pub IsSet : Option Place → ValueType → Type 0
IsSet config t = (c : Place) → config ≡ Some c → is_any_scalar t ≡ true

unset : (config : Option Place) (t : ValueType) → is_any_scalar t ≡ false → IsSet config t → config ≡ None
unset None t e h = refl
unset (Some c) t e h = absurd (let f : false ≡ true = sym e ∙ h c refl in cc)

-- what is broken where it is set isn't set
pub none-set : (config : Option Place) (at : Place) → where_given config (λ (c : Place). breach at WrongType) ≡ [] → config ≡ None
none-set None at h = refl
none-set (Some c) at h = absurd cc

set-type : (config : Option Place) (at : Place) (o : Option ValueType) (t : ValueType) → o ≡ Some t → where_given config (λ (c : Place). wanted is_any_scalar (record { at = at; type = o })) ≡ [] → IsSet config t
set-type None at o t is h = λ c e. absurd (none-some c e)
set-type (Some b) at o t is h = λ c e. owed_type-holds is_any_scalar at o t is h

-- ---- which value a name begins with
kept-begins : (config : Option Place) (p : Placing) (t : ValueType) → is_kept t ≡ true → has_node t ≡ true → IsSet config t → p ≡ Derived → Begins config p t
kept-begins config p (Scalar k) kept node set e = e
kept-begins config p (Range strided) kept node set e = (unset config (Range strided) refl set, e)
kept-begins config p (Domain rank strided) kept node set e = unset config (Domain rank strided) refl set
kept-begins config p Locale kept node set e = absurd (let f : false ≡ true = node in cc)
kept-begins config p _ kept node set e = absurd (let f : false ≡ true = kept in cc)

domain-begins : (config : Option Place) (p : Placing) (t : ValueType) → is_domain t ≡ true → IsSet config t → Begins config p t
domain-begins config p (Domain rank strided) d set = unset config (Domain rank strided) refl set
domain-begins config p _ d set = absurd (let f : false ≡ true = d in cc)

untyped-begins : (ss : Scopes) (i : InitTree Text) (config : Option Place) (p : Placing) (t : ValueType) → IsPlacing ss i p → IsKept i t → has_node t ≡ true → IsSet config t → Begins config p t
untyped-begins ss (ItemInit item None) config p t placing kept node set = kept-begins config p t kept node set (placing.2 ∙ ap (λ m. placing_or m Derived) placing.1)
untyped-begins ss (ItemInit item (Some m)) config p t placing kept node set = domain-begins config p t kept set
untyped-begins ss (CreateInit c) config p t placing kept node set = domain-begins config p t kept set

-- its type is that of a name
begins-named : (config : Option Place) (p : Placing) (t : ValueType) → Begins config p t → has_node t ≡ true → IsNameType (Some t)
begins-named config p (Scalar IntKind) b node = (PlainKind IntLeaf, refl, refl)
begins-named config p (Scalar BoolKind) b node = (PlainKind TruthLeaf, refl, refl)
begins-named config p (Range strided) b node = (PlainKind RangeLeaf, refl, refl)
begins-named config p (Domain rank strided) b node = (DomainKind, kind-chosen (is_rank rank) DomainKind node, refl)
begins-named config p _ b node = absurd b

module _ (ss : Scopes) (d : DeclareTree Text) where
  abbrev slot : ℕ
  slot = next_slot_in ss

  -- a declaration of a name that no fault tells, by its variable, its type and its initial value
  abbrev row : Variable → Option (TypeTree Variable) → Option (InitialTree Variable) → StmtTree Variable
  row x type initial = single_as (unplaced_word d.config) x type initial

  -- ---- WITHOUT A TYPE
  untyped-tree : (i : InitialTree Text) (v : Typed) (p : Placing) → d.initial ≡ Some i → typed_item Once v ≡ lowered_init known_variable (init_leaves ss i.init) → IsPlacing ss i.init p
      → lowered_as ss d None (Some (type_of_typed v)) ≡ begun_as d.config slot v p
  untyped-tree i v p is made placing =
      let x = leaf_by (value_kind (type_of_typed v)) (Some slot) in
      let init = init_leaves ss i.init in
      ap (λ i. row x None (declared_initial known_variable None (initial_leaves ss i))) is
      ∙ ap (λ e. row x None (Some (mapped_initial nowhere e (lowered_init_map known_variable init)))) (sym made)
      ∙ ap (λ m. row x None (Some (mapped_initial nowhere (typed_item Once v) m))) (placing-map ss i.init p v placing made)
      ∙ ap (λ t. row x t (Some (mapped_initial nowhere (typed_item Once v) (placed_map p (typed_view Once v))))) (sym (placing-type ss i.init p placing))

  pub untyped-name : (i : InitialTree Text) (g : Given) (f : Found) (n : ℕ) (o p q : Option Breach) → n ≡ slot → d.initial ≡ Some i → TellsPart (init_part ss i.init) (untyped_breaches ss i.init) g.part o p
      → (p ≡ None → AreKnownScopes ss → IsPlainInit ss i.init → IsGivenBy ss i.init g) → q ≡ least_from p (where_given d.config (λ (c : Place). wanted is_any_scalar (part_view g.part)))
      → of_type f.value_type ≡ types_of g.part.found
      → ((t : Typed) → g.part.found ≡ Some t → has_node (type_of_typed t) ≡ true → Begins d.config g.placing (type_of_typed t) → step_view f.step ≡ begun_as d.config n t g.placing)
      → q ≡ None → IsPlainAs ss d None → IsFoundAs ss d None f
  untyped-name i g f n o p q at is told given config typed step none plain =
      let configs = where_given d.config (λ (c : Place). wanted is_any_scalar (part_view g.part)) in
      let by_config = unbroken p configs (sym config ∙ none) in
      let by_value = unbroken o (untyped_breaches ss i.init) (sym told.1 ∙ by_config.0) in
      let init : IsPlainInit ss i.init = (subst (IsPlainInitial ss) is plain.initial).0 in
      let made = given by_config.0 plain.known init in
      let found = untyped-found ss plain.known i.init g.part.found init by_value.1 (ap (λ p. p.type) told.0) in
      let v = found.value in
      let item = subst (λ o. IsItem o (lowered_init known_variable (init_leaves ss i.init))) found.is made.value in
      let set = set-type d.config g.part.at (types_of g.part.found) (type_of_typed v) (ap types_of found.is) by_config.1 in
      let begins = untyped-begins ss i.init d.config g.placing (type_of_typed v) made.placing found.kept item.1 set in
      let type : of_type f.value_type ≡ Some (type_of_typed v) = typed ∙ ap types_of found.is in
      record {
        named = subst IsNameType (sym type) (begins-named d.config g.placing (type_of_typed v) begins item.1);
        node = ap (lowered_as ss d None) type ∙ untyped-tree i v g.placing is item.0 made.placing ∙ sym (step v found.is item.1 begins ∙ ap (λ n. begun_as d.config n v g.placing) at);
      }

  -- ---- AN INT OR A TRUTH VALUE: what is written, or the default
  record IsScalarValue (k : Kind) (value : Option Typed) : Type 0 where
    v : Typed
    is : value ≡ Some v
    of_type : type_of_typed v ≡ Scalar k
    tree : plain_initial known_variable (default_tree k) (initial_leaves ss d.initial) ≡ Some (mapped_initial nowhere (typed_item Once v) None)

  scalar-default : (k : Kind) (value : Option Typed) → d.initial ≡ None → IsOrDefault k None value → IsScalarValue k value
  scalar-default k None none h = absurd h
  scalar-default k (Some v) none h = record {
    v = v;
    is = refl;
    of_type = h.0;
    tree = ap (λ i. plain_initial known_variable (default_tree k) (initial_leaves ss i)) none ∙ ap (λ e. Some (mapped_initial nowhere e None)) (sym h.1);
  }

  scalar-written : (k : Kind) (i : InitialTree Text) (initial value : Option Typed) → d.initial ≡ Some i → IsAgreed ss (Scalar k) i.init initial → IsOrDefault k initial value → IsScalarValue k value
  scalar-written k i initial value is agreed h = record {
    v = agreed.value;
    is = subst (λ o. IsOrDefault k o value) agreed.is h;
    of_type = is_scalar-is k (type_of_typed agreed.value) agreed.fits;
    tree =
        ap (λ i. plain_initial known_variable (default_tree k) (initial_leaves ss i)) is
        ∙ ap (λ i. Some (mapped_initial nowhere (lowered_init known_variable (init_leaves ss i)) (lowered_init_map known_variable (init_leaves ss i)))) agreed.alone
        ∙ ap (λ e. Some (mapped_initial nowhere e None)) (sym (agreed.stands Once));
  }

  scalar-value : (k : Kind) (i : Option (InitialTree Text)) (initial value : Option Typed) → d.initial ≡ i → AreKnownScopes ss → IsPlainInitial ss i → typed_initial ss (Some (Scalar k)) i ≡ []
      → IsInitialBeside ss i initial → IsOrDefault k initial value → IsScalarValue k value
  scalar-value k None initial value is known plain none beside h = scalar-default k value is (subst (λ o. IsOrDefault k o value) beside h)
  scalar-value k (Some i) initial value is known plain none beside h =
      scalar-written k i initial value is (typed-agreed ss known (Scalar k) i.init initial plain.0 none beside) h

  pub scalar-name : (at : Place) (k : Kind) (f : Found) (initial value : Option Typed) (n : ℕ) (o q : Option Breach) → n ≡ slot → q ≡ least_from o (typed_initial ss (Some (Scalar k)) d.initial)
      → IsInitialBeside ss d.initial initial → IsOrDefault k initial value → of_type f.value_type ≡ Some (Scalar k)
      → ((t : Typed) → value ≡ Some t → has_node (type_of_typed t) ≡ true → Begins d.config Derived (type_of_typed t) → step_view f.step ≡ begun_as d.config n t Derived)
      → q ≡ None → IsPlainAs ss d (Some (ScalarType at k)) → IsFoundAs ss d (Some (ScalarType at k)) f
  scalar-name at k f initial value n o q next told beside or_default type step none plain =
      let by_value = unbroken o (typed_initial ss (Some (Scalar k)) d.initial) (sym told ∙ none) in
      let made = scalar-value k d.initial initial value refl plain.known plain.initial by_value.1 beside or_default in
      let begun = step made.v made.is (ap has_node made.of_type) (subst (Begins d.config Derived) (sym made.of_type) refl) in
      let x = leaf_by (value_kind (Scalar k)) (Some slot) in
      record {
        named = subst IsNameType (sym type) (begins-named d.config Derived (Scalar k) refl refl);
        node =
            ap (lowered_as ss d (Some (ScalarType at k))) type
            ∙ ap (row x None) made.tree
            ∙ ap (λ t. row (leaf_by (value_kind t) (Some slot)) None (Some (mapped_initial nowhere (typed_item Once made.v) None))) (sym made.of_type)
            ∙ sym (begun ∙ ap (λ n. begun_as d.config n made.v Derived) next);
      }

  -- ---- A DOMAIN
  ranked : (rank : ℕ) → (nat_le 1 rank && nat_le rank 3) ≡ true → is_rank rank ≡ true
  ranked rank e =
      let both = both_so (nat_le 1 rank) (nat_le rank 3) e in
      let from = both.0 in
      let upto = both.1 in
      let some : nat_lt 0 rank ≡ true = grind (arith, nat_tests, from) in
      let few : nat_lt rank 4 ≡ true = grind (arith, nat_tests, upto) in
      ap (λ b. b && nat_lt rank 4) some ∙ few

  mapped-ranked : (rank : ℕ) (mapped : Option (MappedTree Text)) → is_rank rank ≡ true → IsSimpleMapped ss mapped → IsPlainMapped ss (Some rank) mapped
  mapped-ranked rank None holds plain = tt
  mapped-ranked rank (Some m) holds plain = ((rank, refl, holds), plain.0, plain.1)

  has-some : {A : Type 0} (test : A → Bool) (o : Option A) → has test o ≡ true → is_some o ≡ true
  has-some test None h = absurd (let f : false ≡ true = h in cc)
  has-some test (Some x) h = refl

  of-rank : (rank : ℕ) (may : Bool) (t : ValueType) → is_domain_of rank may t ≡ true → is_domain t ≡ true
  of-rank rank may t h = has-some (λ (e : ℕ × Bool). e.0 == rank && (may || not e.1)) (domain_of t) h

  module _ (y : DomainTypeTree Text) (map' : Option (Bor MapExpr)) (named : IsMappedAs ss y.mapped map') (holds : is_rank y.rank ≡ true) (unset : d.config ≡ None) where
    abbrev p : Placing
    p = placing_or map' Root

    abbrev x : Variable
    x = variable DomainKind slot

    of_rank : leaf_by (value_kind (Domain y.rank false)) (Some slot) ≡ x
    of_rank = ap (λ k. leaf_by k (Some slot)) (kind-chosen (is_rank y.rank) DomainKind holds)

    abbrev leaves : Option (MappedTree Variable)
    leaves = mapped_leaves ss y.mapped

    abbrev of_value : Variable → Option (InitialTree Text) → StmtTree Variable
    of_value l i =
        row l (declared_type known_variable (type_leaves ss (Some (DomainType y))) (initial_leaves ss i)) (declared_initial known_variable (type_leaves ss (Some (DomainType y))) (initial_leaves ss i))

    empty-tree : d.initial ≡ None → lowered_as ss d (Some (DomainType y)) (Some (Domain y.rank false)) ≡ empty_as slot y.rank p
    empty-tree none =
        ap (of_value (leaf_by (value_kind (Domain y.rank false)) (Some slot))) none
        ∙ ap (λ l. of_value l None) of_rank
        ∙ ap (λ m. row x (Some (ranked_type y.rank m)) None) (root-typed ss y.mapped map' named)
        ∙ ap (λ c. single_as (unplaced_word c) x (Some (ranked_type y.rank (typed_map p))) None) unset

    value-tree : (i : InitialTree Text) (value : Option Typed) (v : Typed) → d.initial ≡ Some i → (agreed : IsAgreed ss (Domain y.rank false) i.init value) → agreed.value ≡ v
        → lowered_as ss d (Some (DomainType y)) (Some (Domain y.rank false)) ≡ begun_as None slot v p
    value-tree i value v is agreed same =
        let init = init_leaves ss i.init in
        let map = map_by known_variable leaves init in
        let e = typed_item Once v in
        let w = typed_view Once v in
        let bare : lowered_init_map known_variable init ≡ None = ap (λ i. lowered_init_map known_variable (init_leaves ss i)) agreed.alone in
        let made : lowered_init known_variable init ≡ e = ap (λ i. lowered_init known_variable (init_leaves ss i)) agreed.alone ∙ sym (agreed.stands Once) ∙ ap (typed_item Once) same in
        let domain = domain-ranked (type_of_typed v) (ap (λ v. is_domain (type_of_typed v)) (sym same) ∙ of-rank y.rank false (type_of_typed agreed.value) agreed.fits) (ap (λ v. has_node (type_of_typed v)) (sym same) ∙ agreed.node) in
        ap (of_value (leaf_by (value_kind (Domain y.rank false)) (Some slot))) is
        ∙ ap (λ l. of_value l (Some i)) of_rank
        ∙ ap (λ j. row x (root_type map) (Some (mapped_initial nowhere j map))) made
        ∙ ap (λ m. row x (root_type map) (Some (mapped_initial nowhere e m))) (root-map ss y.mapped map' init w named bare)
        ∙ ap (λ t. row x t (Some (mapped_initial nowhere e (placed_map p w)))) (root-beside ss y.mapped map' init named bare)
        ∙ ap (λ k. row (leaf_by k (Some slot)) (placed_type p) (Some (mapped_initial nowhere e (placed_map p w)))) (sym domain.of_kind)
        ∙ ap (λ c. single_as (unplaced_word c) (leaf_by (value_kind (type_of_typed v)) (Some slot)) (placed_type p) (Some (mapped_initial nowhere e (placed_map p w)))) unset

  -- what begins it, which is written or isn't
  domain-node : (y : DomainTypeTree Text) (map : Option (Bor MapExpr)) (s : Step) (i : Option (InitialTree Text)) (value : Option Typed) → d.initial ≡ i → IsMappedAs ss y.mapped map
      → (nat_le 1 y.rank && nat_le y.rank 3) ≡ true → d.config ≡ None → AreKnownScopes ss → IsPlainInitial ss i → typed_initial ss (Some (Domain y.rank false)) i ≡ [] → IsInitialBeside ss i value
      → ((t : Typed) → value ≡ Some t → has_node (type_of_typed t) ≡ true → Begins None (placing_or map Root) (type_of_typed t) → step_view s ≡ begun_as None slot t (placing_or map Root))
      → (value ≡ None → (nat_le 1 y.rank && nat_le y.rank 3) ≡ true → step_view s ≡ empty_as slot y.rank (placing_or map Root))
      → lowered_as ss d (Some (DomainType y)) (Some (Domain y.rank false)) ≡ step_view s
  domain-node y map s None value is named holds unset known plain none beside given empty =
      empty-tree y map named (ranked y.rank holds) unset is ∙ sym (empty beside holds)
  domain-node y map s (Some i) value is named holds unset known plain none beside given empty =
      let agreed = typed-agreed ss known (Domain y.rank false) i.init value plain.0 none beside in
      let t = type_of_typed agreed.value in
      let begins = domain-begins None (placing_or map Root) t (of-rank y.rank false t agreed.fits) (λ c e. absurd (none-some c e)) in
      value-tree y map named (ranked y.rank holds) unset i value agreed.value is agreed refl ∙ sym (given agreed.value agreed.is agreed.node begins)

  -- by a rank, a slot and a placing that were computed
  pub domain-name : (y : DomainTypeTree Text) (map : Option (Bor MapExpr)) (f : Found) (value : Option Typed) (rank n : ℕ) (w : Placing) (l o p q r : Option Breach) → rank ≡ y.rank → n ≡ slot → w ≡ placing_or map Root
      → o ≡ least_from l (owed (nat_le 1 y.rank && nat_le y.rank 3) y.rank_at WrongRank) → p ≡ least_from o (mapped_breaches ss (Some rank) y.mapped)
      → (p ≡ None → IsPlainMapped ss (Some rank) y.mapped → IsMappedAs ss y.mapped map) → q ≡ least_from p (typed_initial ss (Some (Domain rank false)) d.initial)
      → IsInitialBeside ss d.initial value → r ≡ least_from q (where_given d.config (λ (c : Place). breach y.at WrongType)) → of_type f.value_type ≡ Some (Domain rank false)
      → ((t : Typed) → value ≡ Some t → has_node (type_of_typed t) ≡ true → Begins None w (type_of_typed t) → step_view f.step ≡ begun_as None n t w)
      → (value ≡ None → (nat_le 1 rank && nat_le rank 3) ≡ true → step_view f.step ≡ empty_as n rank w)
      → r ≡ None → IsPlainAs ss d (Some (DomainType y)) → IsFoundAs ss d (Some (DomainType y)) f
  domain-name y map f value rank n w l o p q r of_rank next is_placing ranks mapping named told beside config type given empty none plain =
      let holds = nat_le 1 y.rank && nat_le y.rank 3 in
      let by_config = unbroken q (where_given d.config (λ (c : Place). breach y.at WrongType)) (sym config ∙ none) in
      let by_value = unbroken p (typed_initial ss (Some (Domain rank false)) d.initial) (sym told ∙ by_config.0) in
      let by_map = unbroken o (mapped_breaches ss (Some rank) y.mapped) (sym mapping ∙ by_value.0) in
      let by_rank = unbroken l (owed holds y.rank_at WrongRank) (sym ranks ∙ by_map.0) in
      let so = owed-holds holds y.rank_at WrongRank by_rank.1 in
      let at_rank : (nat_le 1 rank && nat_le rank 3) ≡ true = ap (λ k. nat_le 1 k && nat_le k 3) of_rank ∙ so in
      let is = named by_value.0 (mapped-ranked rank y.mapped (ranked rank at_rank) plain.type) in
      let typed : of_type f.value_type ≡ Some (Domain y.rank false) = type ∙ ap (λ k. Some (Domain k false)) of_rank in
      record {
        named = subst IsNameType (sym typed) (DomainKind, kind-chosen (is_rank y.rank) DomainKind (ranked y.rank so), refl);
        node =
            ap (lowered_as ss d (Some (DomainType y))) typed
            ∙ domain-node y map f.step d.initial value refl is so (none-set d.config y.at by_config.1) plain.known plain.initial
            (subst (λ k. typed_initial ss (Some (Domain k false)) d.initial ≡ []) of_rank by_value.1) beside
            (λ t e node begins. given t e node (subst (λ w. Begins None w (type_of_typed t)) (sym is_placing) begins) ∙ ap (λ n. begun_as None n t w) next ∙ ap (begun_as None slot t) is_placing)
            (λ e h. empty e at_rank ∙ ap (λ n. empty_as n rank w) next ∙ ap (λ k. empty_as slot k w) of_rank ∙ ap (empty_as slot y.rank) is_placing);
      }

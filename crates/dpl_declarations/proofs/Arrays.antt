-- Declarations of arrays: what is found of one is its declaration, over a domain of a rank, with elements that fit.
-- An array's name is told where the array is too large.
use Rattle.std.proofs.Common.{◌≡◌, ℕ, Bool, true, false, [], Option, Some, None, is_some, refl, sym, ap, ◌∙◌, subst}
use Rattle.dpl_syntax.specs.declared.place.Place.{Place}
use Rattle.dpl_syntax.specs.declared.refusal.Breach.{Breach}
use Rattle.dpl_syntax.specs.declared.refusal.Code.TheVariants.{WrongType}
use Rattle.dpl_language.specs.Tree.{Kind, DomainLiteral, Items, ArrayTypeTree, ArrayType, InitialTree, DeclareTree, StmtTree, Declare}
use Rattle.dpl_language.specs.Names.{Text}
use Rattle.dpl_language.specs.Phrases.{declared_over}
use Rattle.dpl_rules.specs.Types.{Origin, Over, ValueType, Array, is_domain}
use Rattle.dpl_rules.specs.Verdicts.{type_by, breach, where_given}
use Rattle.dpl_rules.specs.Breaches.{least_from}
use Rattle.dpl_rules.specs.Sights.{Scopes, origin_in}
use Rattle.dpl_rules.specs.Operators.{over_verdict}
use Rattle.dpl_rules.specs.Expressions.{item_parts}
use Rattle.dpl_rules.specs.Declarations.{domain_in, base_over, over_domain, typed_initial}
use Rattle.dpl_scopes.specs.Slots.{next_slot_in}
use Rattle.dpl_scopes.specs.Types.{of_type}
use Rattle.dpl_lowered.specs.Shapes.{nowhere}
use Rattle.dpl_lowered.specs.LoweredExpressions.{Once, EachTurn}
use Rattle.dpl_lowered.specs.LoweredStatements.{written_initial, written_type, unplaced_word, array_initial}
use Rattle.dpl_memory.specs.Memory.{ArrayKind, Variable, variable, known_variable}
use Rattle.dpl_nodes.specs.declared.step.DeclaredOver.{DeclaredOver}
use Rattle.dpl_nodes.specs.declared.step.Initial.{Initial}
use Rattle.dpl_nodes.specs.declared.step.Step.{Step}
use Rattle.dpl_nodes.specs.Spots.{IsNear}
use Rattle.dpl_nodes.specs.Steps.{step_view, over_items, initial_kind, initial_view}
use Rattle.dpl_typed.specs.declared.typed.Typed.{Typed}
use Rattle.dpl_typed.specs.Leaves.{value_kind, leaf_by}
use Rattle.dpl_typed.specs.Lowered.{items_leaves}
use Rattle.dpl_typed.specs.Stands.{StandsFor}
use Rattle.dpl_typed.specs.Told.{Tells}
use Rattle.dpl_typed.specs.Typed.{type_of_typed, types_of, typed_view, is_rank}
use Rattle.dpl_bound.specs.Sights.{AreKnownScopes}
use Rattle.dpl_types.proofs.Unbroken.{unbroken}
use Rattle.dpl_declarations.specs.declared.found.Found.{Found}
use Rattle.dpl_declarations.specs.Plain.{ArePlainItems, IsPlainInitial, IsPlainAs}
use Rattle.dpl_declarations.specs.Told.{over_told}
use Rattle.dpl_declarations.specs.Trees.{initial_leaves, lowered_as, IsNameType, IsFoundAs}
use Rattle.dpl_declarations.specs.Made.{IsInitialBeside, between, IsOver, Fits, elements_tree, AreBegun, array_as}
use Rattle.dpl_declarations.proofs.Known.{over-found, kind-chosen, domain-ranked}
use Rattle.dpl_declarations.proofs.Overs.{over-bound}
use Rattle.dpl_declarations.proofs.Beside.{IsAgreed, typed-agreed}
use Rattle.dpl_declarations.proofs.Singles.{none-set}

-- ---- what is made of its parts
pub array-made : (at from : Place) (slot : ℕ) (k : Kind) (bare b : Bool) (is : Items Variable) (i : Option (InitialTree Variable)) (over : Option DeclaredOver) (initial : Option Initial) (s : Step) → bare ≡ b
    → IsOver (between bare is) over → AreBegun k i initial
    → ((o : DeclaredOver) (e : Initial) → over ≡ Some o → initial ≡ Some e → step_view s ≡ array_as at slot from (initial_kind e) (over_items o) (initial_view e))
    → step_view s ≡ array_as at slot from k (between b is) i
array-made at from slot k bare b is i None initial s same made begun h = absurd made
array-made at from slot k bare b is i (Some o) None s same made begun h = absurd begun
array-made at from slot k bare b is i (Some o) (Some e) s same made begun h =
    h o e refl refl ∙ ap (λ k. array_as at slot from k (over_items o) (initial_view e)) begun.1 ∙ ap (λ js. array_as at slot from k js (initial_view e)) made
    ∙ ap (array_as at slot from k (between bare is)) begun.0 ∙ ap (λ b. array_as at slot from k (between b is) i) same

module _ (ss : Scopes) (d : DeclareTree Text) (a : ArrayTypeTree Text) where
  abbrev slot : ℕ
  slot = next_slot_in ss

  abbrev own : Origin
  own = origin_in ss d.name.name

  abbrev type : ℕ → Bool → ValueType
  type rank strided = Array a.kind (record { rank = rank; strided = strided; base = base_over ss own (declared_over a.over) })

  -- ---- what the elements begin with
  record AreElements (value : Option Typed) : Type 0 where
    fits : Fits a.kind d.initial value
    tree : array_initial known_variable (initial_leaves ss d.initial) ≡ elements_tree d.initial value

  written-elements : (over : Over) (i : InitialTree Text) (value : Option Typed) → d.initial ≡ Some i → IsAgreed ss (Array a.kind over) i.init value → IsNear i.equals → AreElements value
  written-elements over i value is agreed near =
      let v = agreed.value in
      let given : Fits a.kind (Some i) value = subst (Fits a.kind (Some i)) (sym agreed.is) ((over, agreed.fits), near) in
      record {
        fits = subst (λ o. Fits a.kind o value) (sym is) given;
        tree =
            ap (λ i. array_initial known_variable (initial_leaves ss i)) is
            ∙ ap (λ j. array_initial known_variable (initial_leaves ss (Some (record { equals = i.equals; init = j })))) agreed.alone
            ∙ ap (λ e. Some (written_initial i.equals e)) (sym (agreed.stands EachTurn))
            ∙ ap (elements_tree (Some i)) (sym agreed.is)
            ∙ ap (λ o. elements_tree o value) (sym is);
      }

  elements : (over : Over) (i : Option (InitialTree Text)) (value : Option Typed) → d.initial ≡ i → AreKnownScopes ss → IsPlainInitial ss i → typed_initial ss (Some (Array a.kind over)) i ≡ []
      → IsInitialBeside ss i value → AreElements value
  elements over None value is known plain none beside = record {
    fits = subst (λ o. Fits a.kind o value) (sym is) tt;
    tree = ap (λ i. array_initial known_variable (initial_leaves ss i)) is ∙ ap (λ o. elements_tree o value) (sym is);
  }
  elements over (Some i) value is known plain none beside =
      written-elements over i value is (typed-agreed ss known (Array a.kind over) i.init value plain.0 none beside) plain.1

  -- ---- its tree
  abbrev row : Option Place → Variable → Items Variable → Option (InitialTree Variable) → StmtTree Variable
  row config x is i = Declare (record {
    config = unplaced_word config;
    at = nowhere;
    constant = false;
    name = record { at = d.name.at; name = x };
    typed = Some (written_type (ArrayType (record { from = a.from; over = is; upto = nowhere; kind_at = nowhere; kind = a.kind })));
    initial = i;
    semicolon = nowhere;
  })

  array-tree : (rank : ℕ) (strided : Bool) (value : Option Typed) → is_rank rank ≡ true → d.config ≡ None → AreElements value
      → lowered_as ss d (Some (ArrayType a)) (Some (type rank strided)) ≡ array_as d.name.at slot a.from a.kind (between (is_some (declared_over a.over)) (items_leaves ss a.over)) (elements_tree d.initial value)
  array-tree rank strided value holds unset es =
      let x = variable (ArrayKind a.kind) slot in
      let leaf : leaf_by (value_kind (type rank strided)) (Some slot) ≡ x = ap (λ k. leaf_by k (Some slot)) (kind-chosen (is_rank rank) (ArrayKind a.kind) holds) in
      let is = between (is_some (declared_over a.over)) (items_leaves ss a.over) in
      ap (row d.config (leaf_by (value_kind (type rank strided)) (Some slot)) _) es.tree
      ∙ ap (λ js. row d.config (leaf_by (value_kind (type rank strided)) (Some slot)) js (elements_tree d.initial value)) (over-bound ss a.over)
      ∙ ap (λ l. row d.config l is (elements_tree d.initial value)) leaf
      ∙ ap (λ c. row c x is (elements_tree d.initial value)) unset

  -- ---- the declaration
  pub array-name : (f : Found) (domain value : Option Typed) (n : ℕ) (o p q r : Option Breach) → n ≡ slot → Tells (type_by (over_verdict a.from (item_parts ss a.over))) (over_told ss a.from a.over) domain o p
      → (ArePlainItems ss a.from a.over → StandsFor domain (λ m. DomainLiteral a.from (items_leaves ss a.over) nowhere))
      → of_type f.value_type ≡ over_domain ss own a (domain_in (types_of domain)) → q ≡ least_from p (typed_initial ss (of_type f.value_type) d.initial) → IsInitialBeside ss d.initial value
      → r ≡ least_from q (where_given d.config (λ (c : Place). breach a.from WrongType))
      → ((t : Typed) (is : Items Variable) → domain ≡ Some t → typed_view Once t ≡ DomainLiteral a.from is nowhere → is_domain (type_of_typed t) ≡ true → Fits a.kind d.initial value → IsNear d.name.at → IsNear a.from
      → step_view f.step ≡ array_as d.name.at n a.from a.kind (between (is_some (declared_over a.over)) is) (elements_tree d.initial value))
      → r ≡ None → IsPlainAs ss d (Some (ArrayType a)) → IsFoundAs ss d (Some (ArrayType a)) f
  array-name f domain value n o p q r next over stands typed told beside config step none plain =
      let by_config = unbroken q (where_given d.config (λ (c : Place). breach a.from WrongType)) (sym config ∙ none) in
      let by_value = unbroken p (typed_initial ss (of_type f.value_type) d.initial) (sym told ∙ by_config.0) in
      let by_over = unbroken o (over_told ss a.from a.over) (sym over.1 ∙ by_value.0) in
      let found = over-found ss plain.known a.from a.over domain by_over.1 over.0 in
      let made = subst (λ o. StandsFor o (λ m. DomainLiteral a.from (items_leaves ss a.over) nowhere)) found.1 (stands plain.type) in
      let ranked = domain-ranked (type_of_typed found.0) found.2 made.1 in
      let is : of_type f.value_type ≡ Some (type ranked.rank ranked.strided) =
      typed ∙ ap (λ o. over_domain ss own a (domain_in (types_of o))) found.1 ∙ ap (over_domain ss own a) ranked.is in
      let es = elements (record { rank = ranked.rank; strided = ranked.strided; base = base_over ss own (declared_over a.over) }) d.initial value refl plain.known plain.initial
      (subst (λ o. typed_initial ss o d.initial ≡ []) is by_value.1) beside in
      record {
        named = subst IsNameType (sym is) (ArrayKind a.kind, kind-chosen (is_rank ranked.rank) (ArrayKind a.kind) ranked.holds, refl);
        node =
            ap (lowered_as ss d (Some (ArrayType a))) is ∙ array-tree ranked.rank ranked.strided value ranked.holds (none-set d.config a.from by_config.1) es
            ∙ sym (step found.0 (items_leaves ss a.over) found.1 (made.0 Once) found.2 es.fits plain.near plain.type.2
            ∙ ap (λ n. array_as d.name.at n a.from a.kind (between (is_some (declared_over a.over)) (items_leaves ss a.over)) (elements_tree d.initial value)) next);
      }

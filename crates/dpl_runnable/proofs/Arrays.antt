-- What stands in an array's type that breaks no rule, and what a domain is created from, is a domain, or 1 to 3 ranges, which make one;
-- and what has elements is an array.
use Rattle.std.proofs.Common.{◌≡◌, ℕ, Bool, true, List, [], ◌∷◌, ◌++◌, length, is_some, Option, Some, None, refl, sym, ap, ◌∙◌, subst}
use Rattle.std.specs.Prelude.{◌&&◌}
use Rattle.std.proofs.lemmas.Option.{none-some}
use Rattle.dpl_syntax.specs.declared.place.Place.{Place}
use Rattle.dpl_language.specs.Tree.{Kind, ArrayTypeTree, Items, FirstItem}
use Rattle.dpl_language.specs.Names.{Text}
use Rattle.dpl_language.specs.Phrases.{declared_over}
use Rattle.dpl_spelling.specs.Spelt.{ItemsSpelt}
use Rattle.dpl_agreement.specs.Untasked.{UntaskedItems}
use Rattle.dpl_rules.specs.Types.{Origin, Over, ValueType, Scalar, Domain, Array, domain_of}
use Rattle.dpl_rules.specs.Verdicts.{Part, Verdict, type_by, broken_by, with_type, all_known}
use Rattle.dpl_rules.specs.Sights.{Scopes}
use Rattle.dpl_rules.specs.Operators.{any_strided, ranges_breaches, ranges_verdict, domain_or, over_verdict, index_breaches, round_verdict}
use Rattle.dpl_rules.specs.Expressions.{item_type, item_parts, item_breaches, items_breaches, more_items_breaches}
use Rattle.dpl_rules.specs.Declarations.{domain_in, base_over, over_domain, array_type}
use Rattle.dpl_rules.proofs.Admission.{first_empty, second_empty}
use Rattle.dpl_sound.proofs.Given.{some-same, judged-gives}
use Rattle.dpl_sound.proofs.Known.{IsTold, told-typed, judged-told, items-known}
use Rattle.dpl_memory.specs.Memory.{VariableKind, DomainKind, ArrayKind}
use Rattle.dpl_typed.specs.Leaves.{kind_if, value_kind, kind_by}
use Rattle.dpl_typed.specs.Typed.{is_rank}
use Rattle.dpl_runnable.specs.Kinds.{HasKind, IsNamed, AreVariables}
use Rattle.dpl_runnable.proofs.Kept.{kind-cases}
use Rattle.dpl_runnable.proofs.Expressions.{some-rank, few, has-kind, known, runnable_item}
use Rattle.dpl_runnable.proofs.Owed.{array-kind}

-- ---- what an array is over
pub record IsSpread (t : ValueType) : Type 0 where
  pub rank : ℕ
  pub strided : Bool
  pub is : t ≡ Domain rank strided
  pub ranked : is_rank rank ≡ true

module _ (from : Place) where
  -- the verdict is looked at
  ranges-told : (ps : List Part) → all_known ps ≡ true → IsTold (ranges_verdict from ps)
  ranges-told ps h = judged-told (all_known ps) (ranges_breaches from ps) (Domain (length ps) (any_strided ps)) h

  domain_or-told : (o : Option (ℕ × Bool)) (v : Verdict) → IsTold v → IsTold (domain_or o v)
  domain_or-told None v h = h
  domain_or-told (Some d) v h = tt

  one-told : (o : Option ValueType) (v : Verdict) → (is_some o && true) ≡ true → IsTold v → IsTold (with_type o (λ t. domain_or (domain_of t) v))
  one-told None v h k = absurd cc
  one-told (Some t) v h k = domain_or-told (domain_of t) v k

  over_verdict-told : (ps : List Part) → all_known ps ≡ true → IsTold (over_verdict from ps)
  over_verdict-told [] h = ranges-told [] h
  over_verdict-told (p ∷ []) h = one-told p.type (ranges_verdict from (p ∷ [])) h (ranges-told (p ∷ []) h)
  over_verdict-told (p ∷ q ∷ ps) h = ranges-told (p ∷ q ∷ ps) h

  -- what it gives is a domain of 1 to 3 dimensions
  ranges-spread : (p : Part) (ps : List Part) (t : ValueType) → type_by (ranges_verdict from (p ∷ ps)) ≡ Some t → IsSpread t
  ranges-spread p ps t e =
      let gives = judged-gives (all_known (p ∷ ps)) (ranges_breaches from (p ∷ ps)) (Domain (length (p ∷ ps)) (any_strided (p ∷ ps))) t e in
      record { rank = length (p ∷ ps); strided = any_strided (p ∷ ps); is = sym gives.2; ranked = some-rank (length ps) (few from (p ∷ ps) (t, e)) }

  one-spread : (o : Option ValueType) → HasKind o → (v : Verdict) → ((t : ValueType) → type_by v ≡ Some t → IsSpread t)
      → (t : ValueType) → type_by (with_type o (λ t. domain_or (domain_of t) v)) ≡ Some t → IsSpread t
  one-spread None h v f t e = absurd (none-some t e)
  one-spread (Some u) h v f t e =
      let k = h u refl in
      kind-cases (λ u. type_by (domain_or (domain_of u) v) ≡ Some t → IsSpread t) (λ l e. f t e) (λ s e. f t e)
      (λ rank s r e. record { rank = rank; strided = s; is = sym (some-same (Domain rank s) t e); ranked = r }) (λ l over r e. f t e) (λ l over r e. f t e) (λ rank r e. f t e) u k.0 k.1 e

  over_verdict-spread : (p : Part) (ps : List Part) → HasKind p.type → (t : ValueType) → type_by (over_verdict from (p ∷ ps)) ≡ Some t → IsSpread t
  over_verdict-spread p [] h t e = one-spread p.type h (ranges_verdict from (p ∷ [])) (ranges-spread p []) t e
  over_verdict-spread p (q ∷ ps) h t e = ranges-spread p (q ∷ ps) t e

-- an array's type, by the domain that it is over
pub over_domain-array : (scopes : Scopes) (self : Origin) (a : ArrayTypeTree Text) (o : Option (ℕ × Bool)) (t : ValueType) → over_domain scopes self a o ≡ Some t → (over : Over) × (t ≡ Array a.kind over)
over_domain-array scopes self a None t e = absurd (none-some t e)
over_domain-array scopes self a (Some d) t e =
    let over : Over = record { rank = d.0; strided = d.1; base = base_over scopes self (declared_over a.over) } in
    (over, sym (some-same (Array a.kind over) t e))

pub array_type-kind : (scopes : Scopes) (self : Origin) (a : ArrayTypeTree Text) (o : Option (ℕ × Bool)) (k : VariableKind) → kind_by (over_domain scopes self a o) ≡ Some k
    → (over : Over) × (over_domain scopes self a o ≡ Some (Array a.kind over)) × (ArrayKind a.kind ≡ k)
array_type-kind scopes self a None k e = absurd (none-some k e)
array_type-kind scopes self a (Some d) k e =
    let over : Over = record { rank = d.0; strided = d.1; base = base_over scopes self (declared_over a.over) } in
    (over, refl, array-kind a.kind over k e)

over_domain-named : (scopes : Scopes) (self : Origin) (a : ArrayTypeTree Text) (o : Option ValueType) (t : ValueType) → o ≡ Some t → IsSpread t → IsNamed (over_domain scopes self a (domain_in o))
over_domain-named scopes self a o t e h =
    subst (λ o. IsNamed (over_domain scopes self a (domain_in o))) (sym (e ∙ ap Some h.is))
    (record { kind = ArrayKind a.kind; type = _; is = refl; of_kind = ap (λ b. kind_if b (ArrayKind a.kind)) h.ranked; single = refl })

module _ (scopes : Scopes) (P : Place → Type 0) (names : AreVariables scopes) where
  items-spread : (from : Place) (items : Items Text) → ItemsSpelt P ⊥ items → UntaskedItems items → items_breaches scopes items ≡ [] → (t : ValueType) → type_by (over_verdict from (item_parts scopes items)) ≡ Some t → IsSpread t
  items-spread from (FirstItem i more) s c h t e =
      let first = runnable_item scopes P names i s.0 c.0 (first_empty (item_breaches scopes i) (more_items_breaches scopes more) h) in
      over_verdict-spread from _ _ (has-kind (item_type scopes i) first.variable) t e

  -- so what breaks no rule has such a type
  module _ (from : Place) (items : Items Text) (s : ItemsSpelt P ⊥ items) (c : UntaskedItems items) (h : items_breaches scopes items ++ broken_by (over_verdict from (item_parts scopes items)) ≡ []) where
    pub over-spread : (t : ValueType) × (type_by (over_verdict from (item_parts scopes items)) ≡ Some t) × IsSpread t
    over-spread =
        let verdict = over_verdict from (item_parts scopes items) in
        let own = first_empty (items_breaches scopes items) (broken_by verdict) h in
        let told = over_verdict-told from (item_parts scopes items) (items-known scopes (known scopes P names) items own) in
        let typed = told-typed verdict told (second_empty (items_breaches scopes items) (broken_by verdict) h) in
        (typed.0, typed.1, items-spread from items s c own typed.0 typed.1)

    -- and a created domain is one
    pub created-kind : kind_by (type_by (over_verdict from (item_parts scopes items))) ≡ Some DomainKind
    created-kind = let (t, e, spread) = over-spread in ap kind_by (e ∙ ap Some spread.is) ∙ ap (λ b. kind_if b DomainKind) spread.ranked

    pub created-named : IsNamed (type_by (over_verdict from (item_parts scopes items)))
    created-named =
        let (t, e, spread) = over-spread in
        subst IsNamed (sym (e ∙ ap Some spread.is)) (record { kind = DomainKind; type = _; is = refl; of_kind = ap (λ b. kind_if b DomainKind) spread.ranked; single = refl })

  -- a type that breaks no rule is one of arrays
  pub array_type-named : (self : Origin) (a : ArrayTypeTree Text) → ItemsSpelt P ⊥ a.over → UntaskedItems a.over
      → items_breaches scopes a.over ++ broken_by (over_verdict a.from (item_parts scopes a.over)) ≡ [] → IsNamed (array_type scopes self a)
  array_type-named self a s c h =
      let (t, e, spread) = over-spread a.from a.over s c h in
      over_domain-named scopes self a (type_by (over_verdict a.from (item_parts scopes a.over))) t e spread

-- ---- elements
-- what has elements is an array
pub record IsElementOf (t u : ValueType) : Type 0 where
  pub kind : Kind
  pub over : Over
  pub array : t ≡ Array kind over
  pub element : u ≡ Scalar kind

pub round_verdict-element : (last from : Place) (ps : List Part) (t : ValueType) (k : VariableKind) → value_kind t ≡ Some k → (u : ValueType) → type_by (round_verdict last from ps t) ≡ Some u → IsElementOf t u
round_verdict-element last from ps t k of_kind u e =
    kind-cases (λ t. type_by (round_verdict last from ps t) ≡ Some u → IsElementOf t u) (λ l e. absurd (none-some u e)) (λ s e. absurd (none-some u e)) (λ rank s r e. absurd (none-some u e))
    (λ l over r e. record {
      kind = l;
      over = over;
      array = refl;
      element = sym (judged-gives (all_known ps) (index_breaches last over.rank ps) (Scalar l) u e).2;
    })
    (λ l over r e. absurd (none-some u e)) (λ rank r e. absurd (none-some u e)) t k of_kind e

-- Arrays in sight: what is assigned to a whole array and to an element may be held there, and so may the domain of a declaration.
-- A right side has at each index a value of its type, by type soundness; and a domain is one of its type.
use Rattle.std.proofs.Common.{◌≡◌, ℕ, Bool, true, false, List, [], ◌∷◌, ◌++◌, Option, Some, None, Ok, Err, Result, refl, sym, ap, ◌∙◌, subst}
use Rattle.std.specs.Prelude.{IfOk, if◌then◌else◌, option_map}
use Rattle.std.proofs.lemmas.List.{append-nil}
use Rattle.std.proofs.lemmas.Option.{none-some}
use Rattle.dpl_syntax.specs.declared.place.Place.{Place}
use Rattle.dpl_sets.specs.TextRanges.{TextRange}
use Rattle.dpl_language.specs.Tree.{Op, Kind, IntKind, BoolKind, ItemTree, Items}
use Rattle.dpl_language.specs.Names.{Text}
use Rattle.dpl_language.specs.Values.{Value, Domain as DomainValue, Index, Fault, fault, PastLimit, ranges_in, all_ranges}
use Rattle.dpl_language.specs.Ranges.{sized, too_many}
use Rattle.dpl_language.specs.Outcome.{with_ok}
use Rattle.dpl_language.specs.Environment.{Environment, Limits}
use Rattle.dpl_language.specs.Phrases.{item_read}
use Rattle.dpl_language.specs.Expressions.{items_of, domain_of}
use Rattle.dpl_agreement.specs.Renamed.{renamed_item, renamed_items, renamed_read}
use Rattle.dpl_agreement.proofs.RenamedParts.{item_read-renamed}
use Rattle.dpl_agreement.proofs.RenamedTwice.{renamed_items-twice}
use Rattle.dpl_agreement.proofs.Through.{through, domain_of-through}
use Rattle.dpl_rules.specs.Types.{ValueType, Scalar, Range, Domain, Array, Promoted, Tuple, Locale, AllLocales, Cell, Operand, operand_of, is_array, domain_of as domain_type}
use Rattle.dpl_rules.specs.Sights.{Scopes}
use Rattle.dpl_rules.specs.Verdicts.{Part, type_by}
use Rattle.dpl_rules.specs.Operators.{ranges_verdict, domain_or, over_verdict}
use Rattle.dpl_rules.specs.Expressions.{item_type, item_parts}
use Rattle.dpl_sound.specs.Typed.{OfKind, AreRanked, HasType, HasPartType, HaveTypes, type_at}
use Rattle.dpl_sound.specs.Formed.{ItemsFormed}
use Rattle.dpl_sound.proofs.Given.{some-same, with_type-gives}
use Rattle.dpl_sound.proofs.Sound.{ranges_verdict-has}
use Rattle.dpl_sound.proofs.Outcomes.{items_sound, type_at-operand}
use Rattle.dpl_memory.specs.Memory.{VariableKind, DomainKind, ArrayKind, Memory, in_memory}
use Rattle.dpl_memory.specs.Resolved.{Shape, Bound, Seen, variable_of, HasShape, IsElement, IsShaped, GivesOnce, SuitsElement, Spans, SpansArray}
use Rattle.dpl_memory.proofs.Suiting.{unread-suits}
use Rattle.dpl_runnable.specs.Kinds.{operand_kind}
use Rattle.dpl_typed.specs.Typed.{is_rank}
use Rattle.dpl_typed.specs.Leaves.{value_kind, leaf_in, IsFound}
use Rattle.dpl_bound.specs.Shapes.{shape_of, takes_shape}
use Rattle.dpl_typed.specs.Simple.{IsSimpleItem, AreSimpleItems}
use Rattle.dpl_bound.specs.Sights.{bound_in, sight_of, AreKnownScopes}
use Rattle.dpl_runnable.proofs.Kept.{kind_if-some}
use Rattle.dpl_runnable.proofs.Operands.{IsOperand, operand}
use Rattle.dpl_runnable.proofs.Formed.{items-formed}
use Rattle.dpl_runnable.proofs.Shaped.{taken-shape, fits-shaped, item-typed_at}

-- VALUES OF A KIND: what is of an operand's type has elements of its kind
same_kind_by : (j : VariableKind) (k : Kind) (o : Option Operand) → IsOperand j o → operand_kind j ≡ Some k → (p : Operand) × (o ≡ Some p) × (p.kind ≡ k)
same_kind_by j k None h e = absurd (none-some k (sym h ∙ e))
same_kind_by j k (Some o) h e = (o, refl, some-same o.kind k (sym h ∙ e))

of-operand : (u : ValueType) (j : VariableKind) (k : Kind) → value_kind u ≡ Some j → operand_kind j ≡ Some k → (p : Operand) × (operand_of u ≡ Some p) × (p.kind ≡ k)
of-operand u j k e kind = same_kind_by j k (operand_of u) (operand u j e) kind

turn-value : (u : ValueType) (j : VariableKind) (k : Kind) (t : Index) (v : Value) → value_kind u ≡ Some j → operand_kind j ≡ Some k → HasType v (type_at u (Some t)) → OfKind k v
turn-value u j k t v e kind h =
    let (o, is, same) = of-operand u j k e kind in
    subst (λ k. OfKind k v) same (subst (HasType v) (type_at-operand u o t is) h)

once-value : (u : ValueType) (k : Kind) (v : Value) (o : Operand) → operand_of u ≡ Some o → o.kind ≡ k → (is_array u ≡ true → ⊥) → HasType v (type_at u None) → OfKind k v
once-value (Scalar l) k v o e kind single h = subst (λ k. OfKind k v) (ap (λ (o : Operand). o.kind) (some-same _ o e) ∙ kind) h
once-value (Array l over) k v o e kind single h = absurd (single refl)
once-value (Promoted l over) k v o e kind single h = subst (λ k. OfKind k v) (ap (λ (o : Operand). o.kind) (some-same _ o e) ∙ kind) h
once-value _ k v o e kind single h = absurd (none-some o e)

element-value : (k : Kind) (v : Value) → OfKind k v → IsElement k v
element-value IntKind v h = h
element-value BoolKind v h = h

-- THE DOMAIN OF BRACKETS, which is of the type of their verdict
sized-any : (a b : Place) (rs : List TextRange) (v : Value) → sized a rs ≡ Ok v → sized b rs ≡ Ok v
sized-any a b rs v =
    elim (too_many rs) as (λ c. (if c then Err (fault PastLimit a) else Ok (DomainValue rs)) ≡ Ok v → (if c then Err (fault PastLimit b) else Ok (DomainValue rs)) ≡ Ok v)
    [ true ↦ λ e. cc | false ↦ λ e. e ]

sized-ranges : (from : Place) (rs : List TextRange) (v : Value) → sized from rs ≡ Ok v → rs ≡ ranges_in v
sized-ranges from rs v =
    elim (too_many rs) as (λ b. (if b then Err (fault PastLimit from) else Ok (DomainValue rs)) ≡ Ok v → rs ≡ ranges_in v)
    [ true ↦ λ e. cc | false ↦ λ e. let same : DomainValue rs ≡ v = cc in ap ranges_in same ]

-- what a domain of a type has
abbrev IsRankedBy : ValueType → List TextRange → Type 0
IsRankedBy w rs = (rank : ℕ) (strided : Bool) → domain_type w ≡ Some (rank, strided) → AreRanked rank strided rs

domain-ranked : (w : ValueType) (v : Value) → HasType v w → IsRankedBy w (ranges_in v)
domain-ranked (Domain n s) v h rank strided e =
    let same : (n, s) ≡ (rank, strided) = some-same (n, s) (rank, strided) e in
    subst (λ p. AreRanked p.0 p.1 (ranges_in v)) same (subst (λ v. AreRanked n s (ranges_in v)) (sym h.1) h.2)
domain-ranked (Promoted k over) v h rank strided e = absurd h
domain-ranked _ v h rank strided e = absurd (none-some (rank, strided) e)

module _ (from at : Place) (v : Value) where
  by_ranges : (ps : List Part) (w : ValueType) (vs : List Value) → type_by (ranges_verdict from ps) ≡ Some w → HaveTypes vs ps → sized at (all_ranges vs) ≡ Ok v → IsRankedBy w (ranges_in v)
  by_ranges ps w vs e h ok = domain-ranked w v (subst (λ r. IfOk r (λ v. HasType v w)) (sized-any at from (all_ranges vs) v ok) ((ranges_verdict-has from ps w e).1 vs h))

  -- one part that is a domain
  by_domain : (rank : ℕ) (strided : Bool) (p : Part) (w : ValueType) (vs : List Value) → p.type ≡ Some (Domain rank strided) → Some (Domain rank strided) ≡ Some w → HaveTypes vs (p ∷ []) → sized at (all_ranges vs) ≡ Ok v → IsRankedBy w (ranges_in v)
  by_domain rank strided p w [] is e h ok = absurd h
  by_domain rank strided p w (u ∷ []) is e h ok =
      let of_type : HasType u (Domain rank strided) = subst (HasPartType u) is h.0 in
      let same : ranges_in u ≡ ranges_in v = sym (append-nil (ranges_in u)) ∙ sized-ranges at (ranges_in u ++ []) v ok in
      subst (λ w. IsRankedBy w (ranges_in v)) (some-same (Domain rank strided) w e) (subst (IsRankedBy (Domain rank strided)) same (domain-ranked (Domain rank strided) u of_type))
  by_domain rank strided p w (u ∷ x ∷ vs) is e h ok = absurd h.1

  by_part : (p : Part) (t w : ValueType) (vs : List Value) → p.type ≡ Some t → type_by (domain_or (domain_type t) (ranges_verdict from (p ∷ []))) ≡ Some w → HaveTypes vs (p ∷ []) → sized at (all_ranges vs) ≡ Ok v → IsRankedBy w (ranges_in v)
  by_part p (Domain rank strided) w vs is e h ok = by_domain rank strided p w vs is e h ok
  by_part p _ w vs is e h ok = by_ranges (p ∷ []) w vs e h ok

  by_verdict : (ps : List Part) (w : ValueType) (vs : List Value) → type_by (over_verdict from ps) ≡ Some w → HaveTypes vs ps → sized at (all_ranges vs) ≡ Ok v → IsRankedBy w (ranges_in v)
  by_verdict [] w vs e h ok = by_ranges [] w vs e h ok
  by_verdict (p ∷ []) w vs e h ok =
      let given = with_type-gives p.type (λ t. domain_or (domain_type t) (ranges_verdict from (p ∷ []))) w e in
      by_part p given.0 w vs given.1 given.2 h ok
  by_verdict (p ∷ q ∷ ps) w vs e h ok = by_ranges (p ∷ q ∷ ps) w vs e h ok

-- a domain that is made is one, and of the shape of a name whose type takes its own
domain-value : (at : Place) (v : Value) (r : Result (List Value) Fault) → with_ok r (λ vs. sized at (all_ranges vs)) ≡ Ok v → (rs : List TextRange) × (v ≡ DomainValue rs)
domain-value at v (Ok vs) e = by (too_many (all_ranges vs)) e
  where
    by : (b : Bool) → (if b then Err (fault PastLimit at) else Ok (DomainValue (all_ranges vs))) ≡ Ok v → (rs : List TextRange) × (v ≡ DomainValue rs)
    by true e = cc
    by false e = let same : DomainValue (all_ranges vs) ≡ v = cc in (all_ranges vs, sym same)
domain-value at v (Err f) e = cc

created-shape : (t w : ValueType) (rs : List TextRange) (v : Value) → value_kind t ≡ Some DomainKind → takes_shape t w ≡ true → v ≡ DomainValue rs → IsRankedBy w (ranges_in v) → HasShape DomainKind (shape_of t) v
created-shape (Scalar IntKind) w rs v kind taken is ranked = cc
created-shape (Scalar BoolKind) w rs v kind taken is ranked = cc
created-shape (Range may) w rs v kind taken is ranked = cc
created-shape (Domain rank may) w rs v kind taken is ranked = by w taken ranked
  where
    by : (w : ValueType) → takes_shape (Domain rank may) w ≡ true → IsRankedBy w (ranges_in v) → HasShape DomainKind (shape_of (Domain rank may)) v
    by (Scalar k) taken ranked = absurd (let f : false ≡ true = taken in cc)
    by (Range s) taken ranked = absurd (let f : false ≡ true = taken in cc)
    by (Domain n s) taken ranked = taken-shape (Domain rank may) (Domain n s) DomainKind v kind refl taken (rs, is, subst (λ v. AreRanked n s (ranges_in v)) is (ranked n s refl))
    by (Array k over) taken ranked = absurd (let f : false ≡ true = taken in cc)
    by (Promoted k over) taken ranked = absurd (let f : false ≡ true = taken in cc)
    by (Tuple n) taken ranked = absurd (let f : false ≡ true = taken in cc)
    by Locale taken ranked = absurd (let f : false ≡ true = taken in cc)
    by AllLocales taken ranked = absurd (let f : false ≡ true = taken in cc)
    by (Cell k) taken ranked = absurd (let f : false ≡ true = taken in cc)
created-shape (Array k over) w rs v kind taken is ranked = let same : ArrayKind k ≡ DomainKind = (kind_if-some (is_rank over.rank) (ArrayKind k) DomainKind kind).1 in cc
created-shape (Promoted k over) w rs v kind taken is ranked = let same : ArrayKind k ≡ DomainKind = (kind_if-some (is_rank over.rank) (ArrayKind k) DomainKind kind).1 in cc
created-shape _ w rs v kind taken is ranked = absurd (let f : false ≡ true = taken in cc)

module _ (scopes : Scopes) (known : AreKnownScopes scopes) (intents : List (Bound × Op)) where
  abbrev g : Seen
  g = record { frames = sight_of scopes; intents = intents }

  -- RIGHT SIDES of a whole array and of an element
  module _ (item : ItemTree Text) (simple : IsSimpleItem (IsFound scopes) item) (unread : item_read item ≡ None) (u : ValueType) (is : item_type scopes item ≡ Some u) (k : Kind) (shape : Shape) where
    resolved-unread : item_read (renamed_item (bound_in scopes) item) ≡ None
    resolved-unread = item_read-renamed (bound_in scopes) item ∙ ap (option_map (renamed_read (bound_in scopes))) unread

    element-given : (j : VariableKind) → value_kind u ≡ Some j → operand_kind j ≡ Some k → (is_array u ≡ true → ⊥) → GivesOnce (ArrayKind k) shape (renamed_item (bound_in scopes) item) g
    element-given j e kind single limits s shaped v ok =
        let (o, of, same) = of-operand u j k e kind in
        (element-value k v (once-value u k v o of same single (item-typed_at scopes known intents item simple u is limits s shaped None v ok)), λ n. absurd (n tt))

    pub element-suits : (j : VariableKind) → value_kind u ≡ Some j → operand_kind j ≡ Some k → (is_array u ≡ true → ⊥) → SuitsElement (ArrayKind k) shape (renamed_item (bound_in scopes) item) g
    element-suits j e kind single =
        unread-suits (ArrayKind k) shape (GivesOnce (ArrayKind k) shape (renamed_item (bound_in scopes) item) g) (renamed_item (bound_in scopes) item) resolved-unread (element-given j e kind single)

  -- THE DOMAIN of an array's declaration
  abbrev env : Environment Text Memory
  env = through (leaf_in scopes) in_memory

  module _ (items : Items Text) (simple : AreSimpleItems (IsFound scopes) items) (from : Place) (w : ValueType) (e : type_by (over_verdict from (item_parts scopes items)) ≡ Some w) where
    spanned : (limits : Limits) (s : Memory) → IsShaped g s → (at : Place) (v : Value) → domain_of limits in_memory at (renamed_items variable_of (renamed_items (bound_in scopes) items)) s ≡ Ok v → IsRankedBy w (ranges_in v)
    spanned limits s shaped at v ok = by (items_of limits env items s) (items_sound limits env scopes s (fits-shaped scopes known intents s shaped) items) once
      where
        once : with_ok (items_of limits env items s) (λ vs. sized at (all_ranges vs)) ≡ Ok v
        once =
            domain_of-through limits (leaf_in scopes) in_memory at items s
            ∙ ap (λ is. domain_of limits in_memory at is s) (sym (renamed_items-twice variable_of (bound_in scopes) items)) ∙ ok

        by : (r : Result (List Value) Fault) → ((vs : List Value) → ItemsFormed items → r ≡ Ok vs → HaveTypes vs (item_parts scopes items)) → with_ok r (λ vs. sized at (all_ranges vs)) ≡ Ok v → IsRankedBy w (ranges_in v)
        by (Ok vs) have e2 = by_verdict from at v (item_parts scopes items) w vs e (have vs (items-formed (IsFound scopes) items simple) refl) e2
        by (Err f) have e2 = cc

    pub spans-array : (rank : ℕ) (strided : Bool) → domain_type w ≡ Some (rank, strided) → (k : Kind) → SpansArray (ArrayKind k) (record { rank = rank; strided = strided }) k (renamed_items (bound_in scopes) items) g
    spans-array rank strided of k limits s shaped at v ok = (refl, spanned limits s shaped at v ok rank strided of)

    -- and that of a created domain, in a name whose type takes it
    pub spans-created : (t : ValueType) → value_kind t ≡ Some DomainKind → takes_shape t w ≡ true → Spans DomainKind (shape_of t) (renamed_items (bound_in scopes) items) g
    spans-created t kind taken limits s shaped at v ok =
        let (rs, is) = domain-value at v (items_of limits in_memory (renamed_items variable_of (renamed_items (bound_in scopes) items)) s) ok in
        ((rs, is), λ n. created-shape t w rs v kind taken is (spanned limits s shaped at v ok))

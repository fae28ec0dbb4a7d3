-- What an initial value is where no rule is broken: that of a name without a type is kept, and one beside a type agrees with it.
-- Beside a type no map is named and no domain is created.
use Rattle.std.proofs.Common.{◌≡◌, ℕ, true, [], ◌++◌, Bor, Option, Some, None, refl, sym, ap, ◌∙◌, subst}
use Rattle.dpl_syntax.specs.declared.refusal.Breach.{Breach}
use Rattle.dpl_syntax.specs.declared.refusal.Code.TheVariants.{WrongType}
use Rattle.dpl_language.specs.Tree.{One, DomainLiteral, ItemTree, MappedTree, InitTree, ItemInit, CreateInit, CreateTree}
use Rattle.dpl_language.specs.Names.{Text}
use Rattle.dpl_agreement.proofs.RenamedTwice.{renamed_items-twice}
use Rattle.dpl_rules.specs.Places.{first_of_item}
use Rattle.dpl_rules.specs.Types.{ValueType, is_domain}
use Rattle.dpl_rules.specs.Verdicts.{breach, owed_type}
use Rattle.dpl_rules.specs.Breaches.{least_from}
use Rattle.dpl_rules.specs.Sights.{Scopes}
use Rattle.dpl_rules.specs.Expressions.{side_part, side_breaches}
use Rattle.dpl_rules.specs.Operators.{rank_or}
use Rattle.dpl_rules.specs.Maps.{mapped_breaches}
use Rattle.dpl_rules.specs.Declarations.{type_rank, is_initial, agreeing, unmapped, is_untyped, init_part, create_breaches, untyped_breaches, typed_breaches}
use Rattle.dpl_rules.proofs.Admission.{first_empty, second_empty}
use Rattle.dpl_lowered.specs.Shapes.{nowhere}
use Rattle.dpl_lowered.specs.LoweredExpressions.{Times, lowered_items}
use Rattle.dpl_memory.specs.Memory.{known_variable}
use Rattle.dpl_memory.specs.Resolved.{variable_of}
use Rattle.dpl_nodes.specs.declared.placing.MapExpr.{MapExpr}
use Rattle.dpl_nodes.specs.declared.placing.Placing.{Placing}
use Rattle.dpl_nodes.specs.declared.placing.Placing.TheVariants.{Derived}
use Rattle.dpl_typed.specs.declared.typed.Typed.{Typed}
use Rattle.dpl_typed.specs.declared.part.Part.{Part as PartNode}
use Rattle.dpl_typed.specs.Lowered.{items_leaves}
use Rattle.dpl_typed.specs.Stands.{StandsFor, StandsForItem, IsItem}
use Rattle.dpl_typed.specs.Told.{TellsPart}
use Rattle.dpl_typed.specs.Typed.{type_of_typed, types_of, typed_item, has_node}
use Rattle.dpl_typed.specs.Where.{WhereSimpleItem}
use Rattle.dpl_typed.proofs.Standing.{item-once, stands-item}
use Rattle.dpl_bound.specs.Sights.{bound_in, AreKnownScopes}
use Rattle.dpl_bound.specs.Run.{side_leaves}
use Rattle.dpl_types.proofs.Unbroken.{unbroken}
use Rattle.dpl_mapped.specs.Named.{IsPlainMapped, IsMappedAs}
use Rattle.dpl_declarations.specs.Plain.{IsSimpleMapped, ArePlainItems, IsPlainInit}
use Rattle.dpl_declarations.specs.Made.{placing_or, created_placing, IsGivenBy, IsBeside}
use Rattle.dpl_declarations.proofs.Known.{side-found, over-found, owed_type-holds, domain-ranked}

-- ---- OF A NAME WITHOUT A TYPE
-- the test that its type passes
abbrev pub IsKept : InitTree Text → ValueType → Type 0
IsKept (ItemInit item mapped) t = is_untyped mapped t ≡ true
IsKept (CreateInit c) t = is_domain t ≡ true

pub record IsFoundKept (i : InitTree Text) (found : Option Typed) : Type 0 where
  pub value : Typed
  pub is : found ≡ Some value
  pub kept : IsKept i (type_of_typed value)

module _ (ss : Scopes) (known : AreKnownScopes ss) where
  pub untyped-found : (i : InitTree Text) (found : Option Typed) → IsPlainInit ss i → untyped_breaches ss i ≡ [] → types_of found ≡ (init_part ss i).type → IsFoundKept i found
  untyped-found (ItemInit item mapped) found plain none typed =
      let part = side_part ss item in
      let side = side_breaches ss item in
      let kept = owed_type (is_untyped mapped) (first_of_item item) part.type in
      let front = first_empty (side ++ kept) (mapped_breaches ss (type_rank part.type) mapped) none in
      let value = side-found ss known item found plain.0 (first_empty side kept front) typed in
      record {
        value = value.0;
        is = value.1;
        kept = owed_type-holds (is_untyped mapped) (first_of_item item) part.type (type_of_typed value.0) (sym typed ∙ ap types_of value.1) (second_empty side kept front);
      }
  untyped-found (CreateInit c) found plain none typed =
      let value = over-found ss known c.from c.items found none typed in
      record { value = value.0; is = value.1; kept = value.2 }

  -- a map beside a domain, whose rank is known
  mapped-plain : (mapped : Option (MappedTree Text)) (v : Typed) → IsSimpleMapped ss mapped → is_untyped mapped (type_of_typed v) ≡ true → has_node (type_of_typed v) ≡ true
      → IsPlainMapped ss (type_rank (Some (type_of_typed v))) mapped
  mapped-plain None v plain kept node = tt
  mapped-plain (Some m) v plain kept node =
      let domain = domain-ranked (type_of_typed v) kept node in
      ((domain.rank, ap rank_or domain.is, domain.holds), plain.0, plain.1)

  -- an item, with a map or without one
  pub item-given : (item : ItemTree Text) (mapped : Option (MappedTree Text)) (part : PartNode) (rank : Option ℕ) (map : Option (Bor MapExpr)) (w : Placing) (o p q r : Option Breach)
      → rank ≡ type_rank (types_of part.found) → w ≡ placing_or map Derived → TellsPart (side_part ss item) (side_breaches ss item) part o p → q ≡ least_from p (owed_type (is_untyped mapped) part.at (types_of part.found))
      → r ≡ least_from q (mapped_breaches ss rank mapped) → WhereSimpleItem ss item (StandsForItem part.found (λ m. side_leaves ss m item))
      → (r ≡ None → IsPlainMapped ss rank mapped → IsMappedAs ss mapped map) → r ≡ None → IsPlainInit ss (ItemInit item mapped)
      → IsGivenBy ss (ItemInit item mapped) (record { part = part; placing = w })
  item-given item mapped part rank map w o p q r of_rank is_placing told kept mapping stands named none plain =
      let by_map = unbroken q (mapped_breaches ss rank mapped) (sym mapping ∙ none) in
      let by_kept = unbroken p (owed_type (is_untyped mapped) part.at (types_of part.found)) (sym kept ∙ by_map.0) in
      let by_side = unbroken o (side_breaches ss item) (sym told.1 ∙ by_kept.0) in
      let value = side-found ss known item part.found plain.0 by_side.1 (ap (λ p. p.type) told.0) in
      let is = value.1 in
      let holds = owed_type-holds (is_untyped mapped) part.at (types_of part.found) (type_of_typed value.0) (ap types_of is) by_kept.1 in
      let stood = subst (λ f. StandsForItem f (λ m. side_leaves ss m item)) is (stands plain.0 plain.1) in
      let of_type = subst (λ f. IsPlainMapped ss (type_rank (types_of f)) mapped) (sym is) (mapped-plain mapped value.0 plain.2 holds stood.1) in
      let of_map = subst (λ k. IsPlainMapped ss k mapped) (sym of_rank) of_type in
      record {
        value = item-once part.found (λ m. side_leaves ss m item) (stands plain.0 plain.1);
        placing = (map, named none of_map, is_placing);
      }

-- a created domain
pub created-given : (ss : Scopes) (i : InitTree Text) (c : CreateTree Text) (part : PartNode) (w : Placing) → i ≡ CreateInit c → w ≡ created_placing c.word → (ArePlainItems ss c.from c.items → StandsFor part.found (λ m. DomainLiteral c.from (items_leaves ss c.items) nowhere))
    → IsPlainInit ss i → IsGivenBy ss i (record { part = part; placing = w })
created-given ss i c part w is is_placing stands plain =
    subst (λ i. IsGivenBy ss i (record { part = part; placing = w })) (sym is)
    (let made = stands (subst (IsPlainInit ss) is plain) in
    record {
      value =
          subst (λ is. IsItem part.found (One (DomainLiteral c.from is nowhere))) (sym (ap (lowered_items known_variable) (renamed_items-twice variable_of (bound_in ss) c.items)))
          (item-once part.found (λ m. One (DomainLiteral c.from (items_leaves ss c.items) nowhere)) (stands-item part.found (λ m. DomainLiteral c.from (items_leaves ss c.items) nowhere) made));
      placing = is_placing;
    })

-- ---- BESIDE A TYPE
pub record IsAgreed (ss : Scopes) (t : ValueType) (i : InitTree Text) (r : Option Typed) : Type 0 where
  pub value : Typed
  pub is : r ≡ Some value
  pub fits : is_initial t (type_of_typed value) ≡ true
  pub item : ItemTree Text
  pub alone : i ≡ ItemInit item None
  pub stands : (m : Times) → typed_item m value ≡ side_leaves ss m item
  pub node : has_node (type_of_typed value) ≡ true

none-mapped : (mapped : Option (MappedTree Text)) → unmapped mapped ≡ [] → mapped ≡ None
none-mapped None h = refl
none-mapped (Some m) h = absurd cc

pub typed-agreed : (ss : Scopes) → AreKnownScopes ss → (t : ValueType) (i : InitTree Text) (r : Option Typed) → IsPlainInit ss i → typed_breaches ss (Some t) i ≡ [] → IsBeside ss i r → IsAgreed ss t i r
typed-agreed ss known t (ItemInit item mapped) r plain none beside =
    let part = side_part ss item in
    let side = side_breaches ss item in
    let agrees = agreeing (Some t) part in
    let front = first_empty (side ++ agrees ++ unmapped mapped) (mapped_breaches ss (type_rank part.type) mapped) none in
    let told = first_empty (side ++ agrees) (unmapped mapped) front in
    let value = side-found ss known item r plain.0 (first_empty side agrees told) beside.0 in
    let stood = subst (λ f. StandsForItem f (λ m. side_leaves ss m item)) value.1 (beside.1 plain.0 plain.1) in
    record {
      value = value.0;
      is = value.1;
      fits = owed_type-holds (is_initial t) part.at part.type (type_of_typed value.0) (sym beside.0 ∙ ap types_of value.1) (second_empty side agrees told);
      item = item;
      alone = ap (ItemInit item) (none-mapped mapped (second_empty (side ++ agrees) (unmapped mapped) front));
      stands = stood.0;
      node = stood.1;
    }
typed-agreed ss known t (CreateInit c) r plain none beside = absurd (let e : breach c.at WrongType ≡ [] = second_empty (create_breaches ss c) (breach c.at WrongType) none in cc)

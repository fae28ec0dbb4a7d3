-- What is known where nothing is broken and the names in sight are known: a right side has a type, and so has what an array is over.
-- And what the tests of the rules tell of a type.
use Rattle.std.proofs.Common.{◌≡◌, ℕ, Bool, true, false, List, [], ◌∷◌, length, Option, Some, None, is_some, refl, sym, ap, ◌∙◌, subst}
use Rattle.std.specs.Prelude.{◌&&◌}
use Rattle.std.proofs.lemmas.Option.{none-some}
use Rattle.dpl_syntax.specs.declared.place.Place.{Place}
use Rattle.dpl_syntax.specs.declared.refusal.Code.TheVariants.{WrongType}
use Rattle.dpl_language.specs.Tree.{Kind, IntKind, BoolKind, ItemTree, Items}
use Rattle.dpl_language.specs.Names.{Text}
use Rattle.dpl_language.specs.Phrases.{item_read}
use Rattle.dpl_rules.specs.Types.{ValueType, Scalar, Domain, same_kind, is_scalar, is_domain, domain_of}
use Rattle.dpl_rules.specs.Verdicts.{Part, Verdict, type_by, broken_by, with_type, all_known, owed_type}
use Rattle.dpl_rules.specs.Sights.{Scopes}
use Rattle.dpl_rules.specs.Operators.{any_strided, ranges_breaches, ranges_verdict, domain_or, over_verdict}
use Rattle.dpl_rules.specs.Expressions.{none_where, kind_read, read_or_type, item_type, item_breaches, item_parts, items_breaches, side_part, side_breaches}
use Rattle.dpl_rules.proofs.Admission.{first_empty, second_empty}
use Rattle.dpl_sound.proofs.Given.{some-same, judged-gives, with_type-gives}
use Rattle.dpl_sound.proofs.Known.{IsTold, IsTyped, told-typed, judged-told, AreKnown, item_type-known, items-known}
use Rattle.dpl_memory.specs.Memory.{VariableKind, DomainKind}
use Rattle.dpl_typed.specs.declared.typed.Typed.{Typed}
use Rattle.dpl_typed.specs.Leaves.{kind_if, value_kind, kind_by, IsFound}
use Rattle.dpl_typed.specs.Simple.{IsSimpleItem}
use Rattle.dpl_typed.specs.Typed.{type_of_typed, types_of, is_rank, has_node}
use Rattle.dpl_bound.specs.Sights.{AreKnownScopes}
use Rattle.dpl_bound.proofs.Sights.{lookup-known}
use Rattle.dpl_assignments.proofs.Sides.{item-unread}
use Rattle.dpl_types.proofs.Unbroken.{owed-holds}
use Rattle.dpl_declarations.specs.Told.{over_told}

-- ---- names
kind-typed : (o : Option ValueType) (k : VariableKind) → kind_by o ≡ Some k → IsTyped o
kind-typed None k e = absurd (none-some k e)
kind-typed (Some t) k e = (t, refl)

known-types : (ss : Scopes) → AreKnownScopes ss → AreKnown ss
known-types ss h x d e =
    let name = lookup-known ss x h d e in
    kind-typed d.type name.kind name.of_kind

some-found : (found : Option Typed) (u : ValueType) → types_of found ≡ Some u → (v : Typed) × (found ≡ Some v) × (type_of_typed v ≡ u)
some-found None u e = absurd (none-some u e)
some-found (Some v) u e = (v, refl, some-same (type_of_typed v) u e)

-- ---- what an array is over, or a domain is created from
domain_or-told : (d : Option (ℕ × Bool)) (r : Verdict) → IsTold r → IsTold (domain_or d r)
domain_or-told None r h = h
domain_or-told (Some d) r h = tt

one-told : (o : Option ValueType) (r : Verdict) → is_some o ≡ true → IsTold r → IsTold (with_type o (λ t. domain_or (domain_of t) r))
one-told None r k h = absurd (let e : false ≡ true = k in cc)
one-told (Some t) r k h = domain_or-told (domain_of t) r h

first-so : (a b : Bool) → (a && b) ≡ true → a ≡ true
first-so true b e = refl
first-so false b e = absurd (let f : false ≡ true = e in cc)

ranges-told : (from : Place) (ps : List Part) → all_known ps ≡ true → IsTold (ranges_verdict from ps)
ranges-told from ps k = judged-told (all_known ps) (ranges_breaches from ps) (Domain (length ps) (any_strided ps)) k

over-told : (from : Place) (ps : List Part) → all_known ps ≡ true → IsTold (over_verdict from ps)
over-told from [] k = ranges-told from [] k
over-told from (p ∷ []) k = one-told p.type (ranges_verdict from (p ∷ [])) (first-so (is_some p.type) true k) (ranges-told from (p ∷ []) k)
over-told from (p ∷ q ∷ ps) k = ranges-told from (p ∷ q ∷ ps) k

ranges-domain : (from : Place) (ps : List Part) (t : ValueType) → type_by (ranges_verdict from ps) ≡ Some t → is_domain t ≡ true
ranges-domain from ps t e = ap is_domain (sym (judged-gives (all_known ps) (ranges_breaches from ps) (Domain (length ps) (any_strided ps)) t e).2)

or-domain : (from : Place) (ps : List Part) (o : Option (ℕ × Bool)) (t : ValueType) → type_by (domain_or o (ranges_verdict from ps)) ≡ Some t → is_domain t ≡ true
or-domain from ps None t e = ranges-domain from ps t e
or-domain from ps (Some d) t e = ap is_domain (sym (some-same (Domain d.0 d.1) t e))

over-domain : (from : Place) (ps : List Part) (t : ValueType) → type_by (over_verdict from ps) ≡ Some t → is_domain t ≡ true
over-domain from [] t e = ranges-domain from [] t e
over-domain from (p ∷ []) t e =
    let given = with_type-gives p.type (λ t. domain_or (domain_of t) (ranges_verdict from (p ∷ []))) t e in
    or-domain from (p ∷ []) (domain_of given.0) t given.2
over-domain from (p ∷ q ∷ ps) t e = ranges-domain from (p ∷ q ∷ ps) t e

module _ (ss : Scopes) (known : AreKnownScopes ss) where
  -- a right side
  pub side-found : (item : ItemTree Text) (found : Option Typed) → IsSimpleItem (IsFound ss) item → side_breaches ss item ≡ [] → types_of found ≡ (side_part ss item).type → (v : Typed) × (found ≡ Some v)
  side-found item found simple none typed =
      let unread : kind_read ss (item_read item) ≡ None = ap (kind_read ss) (item-unread ss item simple) in
      let broken : item_breaches ss item ≡ [] = subst (λ k. none_where k (item_breaches ss item) ≡ []) unread none in
      let type = item_type-known ss (known-types ss known) item broken in
      let given = some-found found type.0 (typed ∙ ap (λ k. read_or_type k (item_type ss item)) unread ∙ type.1) in
      (given.0, given.1)

  -- a domain
  pub over-found : (from : Place) (items : Items Text) (found : Option Typed) → over_told ss from items ≡ [] → types_of found ≡ type_by (over_verdict from (item_parts ss items))
      → (v : Typed) × (found ≡ Some v) × (is_domain (type_of_typed v) ≡ true)
  over-found from items found none typed =
      let verdict = over_verdict from (item_parts ss items) in
      let own = first_empty (items_breaches ss items) (broken_by verdict) none in
      let type = told-typed verdict (over-told from (item_parts ss items) (items-known ss (known-types ss known) items own)) (second_empty (items_breaches ss items) (broken_by verdict) none) in
      let given = some-found found type.0 (typed ∙ type.1) in
      (given.0, given.1, ap is_domain given.2 ∙ over-domain from (item_parts ss items) type.0 type.1)

-- ---- tests
pub owed_type-holds : (test : ValueType → Bool) (at : Place) (o : Option ValueType) (t : ValueType) → o ≡ Some t → owed_type test at o ≡ [] → test t ≡ true
owed_type-holds test at o t e h = owed-holds (test t) at WrongType (subst (λ o. owed_type test at o ≡ []) e h)

same_kind-is : (k l : Kind) → same_kind k l ≡ true → l ≡ k
same_kind-is IntKind IntKind h = refl
same_kind-is IntKind BoolKind h = absurd cc
same_kind-is BoolKind IntKind h = absurd cc
same_kind-is BoolKind BoolKind h = refl

pub is_scalar-is : (k : Kind) (t : ValueType) → is_scalar k t ≡ true → t ≡ Scalar k
is_scalar-is k (Scalar l) h = ap Scalar (same_kind-is k l h)
is_scalar-is k _ h = absurd cc

-- a domain that has a node is of a rank, and its names have a kind
pub kind-chosen : (b : Bool) (k : VariableKind) → b ≡ true → kind_if b k ≡ Some k
kind-chosen true k e = refl
kind-chosen false k e = absurd (let f : false ≡ true = e in cc)

pub record IsRanked (t : ValueType) : Type 0 where
  pub rank : ℕ
  pub strided : Bool
  pub is : domain_of t ≡ Some (rank, strided)
  pub holds : is_rank rank ≡ true
  pub of_kind : value_kind t ≡ Some DomainKind

pub domain-ranked : (t : ValueType) → is_domain t ≡ true → has_node t ≡ true → IsRanked t
domain-ranked (Domain rank strided) d n = record { rank = rank; strided = strided; is = refl; holds = n; of_kind = kind-chosen (is_rank rank) DomainKind n }
domain-ranked _ d n = absurd (let f : false ≡ true = d in cc)

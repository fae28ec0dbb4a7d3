-- What is known where no rule was told and an assignment is plain: what is assigned has a type, what it is given has one too,
-- and the first takes the second.
use Rattle.std.proofs.Common.{◌≡◌, ℕ, Bool, true, false, [], ◌++◌, Option, Some, None, refl, sym, ap, ◌∙◌, subst}
use Rattle.std.proofs.lemmas.Option.{none-some}
use Rattle.dpl_syntax.specs.declared.place.Place.{Place}
use Rattle.dpl_syntax.specs.declared.refusal.Breach.{Breach}
use Rattle.dpl_language.specs.Tree.{Placed, Assign, AssignTree, ItemTree, Rounds}
use Rattle.dpl_language.specs.Names.{Text}
use Rattle.dpl_language.specs.Phrases.{item_read}
use Rattle.dpl_tree.specs.declared.statement.Element.{Element as ElementNode}
use Rattle.dpl_tree.specs.View.{name_view, exprs_view}
use Rattle.dpl_rules.specs.Types.{ValueType, Scalar, Cell, is_scalar}
use Rattle.dpl_rules.specs.Verdicts.{type_by, broken_by, with_type}
use Rattle.dpl_rules.specs.Breaches.{least_from}
use Rattle.dpl_rules.specs.Sights.{Declared, Scopes, lookup, type_declared}
use Rattle.dpl_rules.specs.Expressions.{plain_name, name_verdict, none_where, kind_read, read_or_type, item_type, item_breaches, exprs_breaches, side_breaches}
use Rattle.dpl_rules.specs.Assignments.{fitting, fitting_target}
use Rattle.dpl_rules.proofs.Admission.{first_empty, second_empty}
use Rattle.dpl_sound.proofs.Given.{some-same}
use Rattle.dpl_sound.proofs.Known.{IsTyped, told-typed, AreKnown, post-told, item_type-known}
use Rattle.dpl_scopes.specs.Slots.{slot_in}
use Rattle.dpl_memory.specs.Memory.{VariableKind}
use Rattle.dpl_typed.specs.declared.typed.Typed.{Typed}
use Rattle.dpl_typed.specs.Leaves.{value_kind, kind_by, type_in}
use Rattle.dpl_typed.specs.Typed.{type_of_typed, types_of}
use Rattle.dpl_bound.specs.Sights.{is_promoted_type, is_promoted_by, AreKnownScopes}
use Rattle.dpl_bound.proofs.Sights.{IsKnownName, lookup-known}
use Rattle.dpl_assignments.specs.declared.element.Indexed.{Indexed}
use Rattle.dpl_assignments.specs.Plain.{IsReducible, IsPlainSide, IsPlainWhole, IsPlainElement}
use Rattle.dpl_assignments.specs.Takes.{element_by, Takes}
use Rattle.dpl_assignments.specs.Told.{element_verdict, indexed_type, indexed_types}
use Rattle.dpl_types.proofs.Unbroken.{unbroken}
use Rattle.dpl_assignments.proofs.Fitting.{side_of, fitting-takes, element-takes}
use Rattle.dpl_assignments.proofs.Sides.{item-unread}

-- ---- names
kind-typed : (o : Option ValueType) (k : VariableKind) → kind_by o ≡ Some k → (t : ValueType) × (o ≡ Some t) × (value_kind t ≡ Some k)
kind-typed None k e = absurd (none-some k e)
kind-typed (Some t) k e = (t, refl, e)

known-types : (ss : Scopes) → AreKnownScopes ss → AreKnown ss
known-types ss h x d e =
    let name = lookup-known ss x h d e in
    let typed = kind-typed d.type name.kind name.of_kind in
    (typed.0, typed.1)

single : (o : Option Declared) (t : ValueType) → type_declared o ≡ Some t → ((d : Declared) → o ≡ Some d → IsKnownName d) → is_promoted_type t ≡ false
single None t e h = absurd (none-some t e)
single (Some d) t e h = ap is_promoted_by (sym e) ∙ (h d refl).single

-- a name whose type has a kind is no cell
plain-kind : (at : Place) (t : ValueType) (k : VariableKind) → value_kind t ≡ Some k → type_by (plain_name at t) ≡ Some t
plain-kind at (Cell l) k e = absurd (none-some k e)
plain-kind at _ k e = refl

named-kind : (at : Place) (o : Option Declared) (t : ValueType) (k : VariableKind) → type_declared o ≡ Some t → value_kind t ≡ Some k → type_by (name_verdict at o) ≡ Some t
named-kind at None t k e h = absurd (none-some t e)
named-kind at (Some d) t k e h = ap (λ o. type_by (with_type o (plain_name at))) e ∙ plain-kind at t k h

-- ---- right sides
some-found : (found : Option Typed) (u : ValueType) → types_of found ≡ Some u → (v : Typed) × (found ≡ Some v) × (type_of_typed v ≡ u)
some-found None u e = absurd (none-some u e)
some-found (Some v) u e = (v, refl, some-same (type_of_typed v) u e)

some-indexed : (x : Option Indexed) (u : ValueType) → indexed_types x ≡ Some u → (y : Indexed) × (x ≡ Some y) × (Scalar y.kind ≡ u)
some-indexed None u e = absurd (none-some u e)
some-indexed (Some y) u e = (y, refl, some-same (indexed_type y) u e)

module _ (ss : Scopes) (x : Placed Text) (sign : AssignTree) (item : ItemTree Text) (plain : IsPlainSide ss x sign item) where
  unread : kind_read ss (item_read item) ≡ None
  unread = ap (kind_read ss) (item-unread ss item plain.simple)

  -- what is told of no breach is of a type
  pub side-found : (found : Option Typed) (o p : Option Breach) → types_of found ≡ read_or_type (kind_read ss (item_read item)) (item_type ss item) → p ≡ least_from o (side_breaches ss item) → p ≡ None
      → (v : Typed) × (found ≡ Some v) × (o ≡ None)
  side-found found o p typed told none =
      let whole = unbroken o (side_breaches ss item) (sym told ∙ none) in
      let broken : item_breaches ss item ≡ [] = subst (λ k. none_where k (item_breaches ss item) ≡ []) unread whole.1 in
      let type = item_type-known ss (known-types ss plain.known) item broken in
      let given = some-found found type.0 (typed ∙ ap (λ k. read_or_type k (item_type ss item)) unread ∙ type.1) in
      (given.0, given.1, whole.0)

-- what the operator owes, where what is assigned and what it is given have types
fitted-target : (sign : AssignTree) (may : Bool) (first : Place) (found : Option Typed) (v : Typed) (target : Option ValueType) (t : ValueType) → found ≡ Some v → target ≡ Some t
    → fitting_target sign may (record { at = first; type = types_of found }) target ≡ [] → fitting sign sign.op may (side_of first (type_of_typed v)) t ≡ []
fitted-target sign may first found v target t is there h =
    subst (λ o. fitting sign sign.op may (record { at = first; type = types_of o }) t ≡ []) is (subst (λ o. fitting_target sign may (record { at = first; type = types_of found }) o ≡ []) there h)

-- ---- an assignment to a name
pub record IsGiven (ss : Scopes) (x : Text) (op : Assign) (found : Option Typed) : Type 0 where
  pub type : ValueType
  pub value : Typed
  pub kind : VariableKind
  pub slot : ℕ
  pub declared : type_in ss x ≡ Some type
  pub is : found ≡ Some value
  pub of_kind : value_kind type ≡ Some kind
  pub at : slot_in ss x ≡ Some slot
  pub takes : Takes op type (type_of_typed value)

pub name-given : (ss : Scopes) (x : Placed Text) (sign : AssignTree) (item : ItemTree Text) (may : Bool) (first : Place) (found : Option Typed) (target : Option ValueType) (o p q : Option Breach)
    → target ≡ type_in ss x.name → types_of found ≡ read_or_type (kind_read ss (item_read item)) (item_type ss item) → p ≡ least_from o (side_breaches ss item)
    → q ≡ least_from p (fitting_target sign may (record { at = first; type = types_of found }) target) → q ≡ None → IsPlainWhole ss x sign item → IsGiven ss x.name sign.op found
name-given ss x sign item may first found target o p q declared typed told fits none (plain, reduces) =
    let fit = unbroken p (fitting_target sign may (record { at = first; type = types_of found }) target) (sym fits ∙ none) in
    let value = side-found ss x sign item plain found o p typed told fit.0 in
    let named = kind-typed (type_in ss x.name) plain.found.0 plain.found.2 in
    let alone = single (lookup ss x.name) named.0 named.1 (lookup-known ss x.name plain.known) in
    let fitted = fitted-target sign may first found value.0 target named.0 value.1 (declared ∙ named.1) fit.1 in
    record {
      type = named.0;
      value = value.0;
      kind = plain.found.0;
      slot = plain.found.1;
      declared = named.1;
      is = value.1;
      of_kind = named.2;
      at = plain.found.3;
      takes = fitting-takes sign sign.op may first named.0 (type_of_typed value.0) plain.found.0 named.2 alone (subst (IsReducible sign.op) named.1 reduces) fitted;
    }

-- ---- an assignment to an element
pub record IsGivenAt (op : Assign) (x : Option Indexed) (found : Option Typed) : Type 0 where
  pub element : Indexed
  pub value : Typed
  pub there : x ≡ Some element
  pub is : found ≡ Some value
  pub scalar : is_scalar element.kind (type_of_typed value) ≡ true
  pub takes : element_by element.kind op ≡ true

-- the rule of an element is looked at where its array's name has a type and its index breaks no rule
element-typed : (ss : Scopes) (e : ElementNode) → AreKnown ss → (t : ValueType) → type_by (name_verdict e.name.at (lookup ss e.name.text.now)) ≡ Some t
    → exprs_breaches ss (exprs_view e.exprs) ++ broken_by (element_verdict ss e) ≡ [] → IsTyped (type_by (element_verdict ss e))
element-typed ss e known t named h =
    let array = type_by (name_verdict e.name.at (lookup ss e.name.text.now)) in
    let parts = first_empty (exprs_breaches ss (exprs_view e.exprs)) (broken_by (element_verdict ss e)) h in
    told-typed (element_verdict ss e) (post-told ss known (Rounds e.from (exprs_view e.exprs) e.upto) e.name.at array (t, named) parts)
    (second_empty (exprs_breaches ss (exprs_view e.exprs)) (broken_by (element_verdict ss e)) h)

fitted-element : (sign : AssignTree) (first : Place) (found : Option Typed) (v : Typed) (x : Option Indexed) (y : Indexed) (target : Option ValueType) → found ≡ Some v → x ≡ Some y → target ≡ indexed_types x
    → fitting_target sign false (record { at = first; type = types_of found }) target ≡ [] → (is_scalar y.kind (type_of_typed v) ≡ true) × (element_by y.kind sign.op ≡ true)
fitted-element sign first found v x y target is there same h =
    element-takes sign sign.op first y.kind (type_of_typed v) (fitted-target sign false first found v target (Scalar y.kind) is (same ∙ ap indexed_types there) h)

pub element-given : (ss : Scopes) (e : ElementNode) (sign : AssignTree) (item : ItemTree Text) (first : Place) (x : Option Indexed) (target : Option ValueType) (found : Option Typed) (n o p q : Option Breach)
    → target ≡ indexed_types x → indexed_types x ≡ type_by (element_verdict ss e) → o ≡ least_from n (exprs_breaches ss (exprs_view e.exprs) ++ broken_by (element_verdict ss e))
    → types_of found ≡ read_or_type (kind_read ss (item_read item)) (item_type ss item) → p ≡ least_from o (side_breaches ss item)
    → q ≡ least_from p (fitting_target sign false (record { at = first; type = types_of found }) target) → q ≡ None
    → IsPlainElement ss (name_view e.name) (exprs_view e.exprs) sign item → IsGivenAt sign.op x found
element-given ss e sign item first x target found n o p q same judged indexed typed told fits none (plain, simple, near) =
    let fit = unbroken p (fitting_target sign false (record { at = first; type = types_of found }) target) (sym fits ∙ none) in
    let value = side-found ss (name_view e.name) sign item plain found o p typed told fit.0 in
    let parts = unbroken n (exprs_breaches ss (exprs_view e.exprs) ++ broken_by (element_verdict ss e)) (sym indexed ∙ value.2) in
    let named = kind-typed (type_in ss e.name.text.now) plain.found.0 plain.found.2 in
    let array = named-kind e.name.at (lookup ss e.name.text.now) named.0 plain.found.0 named.1 named.2 in
    let type = element-typed ss e (known-types ss plain.known) named.0 array parts.1 in
    let there = some-indexed x type.0 (judged ∙ type.1) in
    let takes = fitted-element sign first found value.0 x there.0 target value.1 there.1 same fit.1 in
    record { element = there.0; value = value.0; there = there.1; is = value.1; scalar = takes.0; takes = takes.1 }

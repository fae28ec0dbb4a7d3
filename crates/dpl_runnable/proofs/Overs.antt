-- Which domain an array in sight is over: its type has the bare name that stands between its declaration's brackets.
-- So an array that is declared is in sight as the scopes have it, and the name that it is over resolves.
use Rattle.std.proofs.Common.{◌≡◌, ℕ, suc, Bool, true, false, List, [], ◌∷◌, length, is_some, Option, Some, None, refl, sym, ap, ◌∙◌, subst, ◌≤◌, arith}
use Rattle.std.specs.Prelude.{bytes_eq, ◌==◌, ◌&&◌, if◌then◌else◌, option_map}
use Rattle.std.specs.Option.{option_or}
use Rattle.std.proofs.lemmas.Option.{none-some}
use Rattle.std.proofs.lemmas.Slice.Eq.{bytes_eq-Decides}
use Rattle.dpl_syntax.specs.declared.place.Place.{Place}
use Rattle.dpl_language.specs.Tree.{Op, Kind, IntKind, BoolKind, Placed, Number, TruthWord, Named, LocalesWord, LocaleCount, HereWord, Grouped, DomainLiteral, Prefixed, Reduced, Chain, Postfixed, One, RangeItem, Items, FirstItem, NoItems, NextItem}
use Rattle.dpl_language.specs.Names.{Text}
use Rattle.dpl_language.specs.Phrases.{declared_over}
use Rattle.dpl_agreement.proofs.Slots.{same_slot, other_slot}
use Rattle.dpl_rules.specs.Types.{Origin, Over, ValueType, Scalar, Range, Domain, Array, Promoted, Tuple, same_origin, has, is_domain, domain_of}
use Rattle.dpl_rules.specs.Sights.{Declared, Scope, Scopes, find, lookup, declared_here, type_declared, origin_in}
use Rattle.dpl_rules.specs.Verdicts.{type_by}
use Rattle.dpl_rules.specs.Operators.{ranges_verdict, domain_or, over_verdict}
use Rattle.dpl_rules.specs.Expressions.{type_of, item_parts}
use Rattle.dpl_rules.specs.Declarations.{base_by, base_over}
use Rattle.dpl_sound.proofs.Given.{some-same, with_type-gives}
use Rattle.dpl_sound.proofs.Names.{name_verdict-gives}
use Rattle.dpl_scopes.specs.Slots.{slot_in}
use Rattle.dpl_scopes.proofs.Slots.{slot_in-lookup}
use Rattle.dpl_words.specs.Words.{IntLeaf, TruthLeaf, RangeLeaf}
use Rattle.dpl_memory.specs.Memory.{VariableKind, PlainKind, DomainKind, TupleKind, ArrayKind}
use Rattle.dpl_memory.specs.Resolved.{Shape, Bound, Seen, if_domain, domain_among, OverResolves}
use Rattle.dpl_typed.specs.Typed.{is_rank, is_tuple_rank}
use Rattle.dpl_typed.specs.Leaves.{kind_by, kind_in, leaf_by, leaf_in, type_in, IsFound}
use Rattle.dpl_bound.specs.Shapes.{shape_of, shape_by}
use Rattle.dpl_typed.specs.Simple.{AreSimpleItems}
use Rattle.dpl_bound.specs.Sights.{bound_in, over_by, sight_of, IsKnownScope, AreKnownScopes}
use Rattle.dpl_runnable.proofs.Kept.{kind_if-some}
use Rattle.dpl_runnable.proofs.Sights.{HasKnownKind, find-name, lookup-name, lookup-known, innermost-found}

-- DECLARATIONS IN SIGHT stand as deep as their scope
find-depth : (depth : ℕ) (s : Scope) (x : Text) (d : Declared) → IsKnownScope depth s → find s x ≡ Some d → d.origin.depth ≡ depth
find-depth depth [] x d h = λ e. absurd (none-some d e)
find-depth depth (c ∷ cs) x d h =
    elim (bytes_eq x c.origin.name) as (λ b. (if b then Some c else find cs x) ≡ Some d → d.origin.depth ≡ depth)
    [ true ↦ λ e. sym (ap (λ (d : Declared). d.origin.depth) (some-same c d e)) ∙ h.0.2 | false ↦ λ e. find-depth depth cs x d h.2 e ]

lookup-depth : (ss : Scopes) (x : Text) (d : Declared) → AreKnownScopes ss → lookup ss x ≡ Some d → d.origin.depth ≤ length ss
lookup-depth [] x d h e = absurd (none-some d e)
lookup-depth (s ∷ ss) x d h e = by (find s x) (find-depth (suc (length ss)) s x d h.0) (lookup-depth ss x d h.1) e
  where
    by : (o : Option Declared) → (o ≡ Some d → d.origin.depth ≡ suc (length ss)) → (lookup ss x ≡ Some d → d.origin.depth ≤ length ss) → option_or o (lookup ss x) ≡ Some d → d.origin.depth ≤ suc (length ss)
    by None here outside e =
        let below : d.origin.depth ≤ length ss = outside e in
        omega (arith, below)
    by (Some c) here outside e =
        let same : d.origin.depth ≡ suc (length ss) = here e in
        omega (arith, same)

-- a name that its scope hasn't yet has an origin that nothing in sight has
and-false : (b c : Bool) → c ≡ false → (b && c) ≡ false
and-false true c e = e
and-false false c e = refl

some-declared : (s : Scope) (a : Text) (d : Declared) → find s a ≡ Some d → is_some (find s a) ≡ true
some-declared s a d e = ap is_some e

new-origin : (ss : Scopes) (a x : Text) (d : Declared) → AreKnownScopes ss → declared_here ss a ≡ false → lookup ss x ≡ Some d → same_origin d.origin (origin_in ss a) ≡ false
new-origin [] a x d h fresh e = absurd (none-some d e)
new-origin (s ∷ ss) a x d h fresh e = by (find s x) refl e
  where
    other_name : find s x ≡ Some d → bytes_eq d.origin.name a ≡ false
    other_name here =
        (elim (bytes_eq d.origin.name a) as (λ b. (b ≡ true → d.origin.name ≡ a) → b ≡ false) [
          | true ↦ λ same.
              let there : find s a ≡ Some d = subst (λ y. find s y ≡ Some d) (find-name s x d here ∙ same refl) here in
              absurd (let f : false ≡ true = sym fresh ∙ some-declared s a d there in cc)
          | false ↦ λ same. refl
        ]) (bytes_eq-Decides d.origin.name a).0

    by : (o : Option Declared) → find s x ≡ o → option_or o (lookup ss x) ≡ Some d → same_origin d.origin (origin_in (s ∷ ss) a) ≡ false
    by None none e =
        let below : d.origin.depth ≤ length ss = lookup-depth ss x d h.1 e in
        ap (λ b. b && bytes_eq d.origin.name a) (other_slot d.origin.depth (suc (length ss)) (λ same. omega (arith, below, same)))
    by (Some c) here e = and-false (d.origin.depth == suc (length ss)) (bytes_eq d.origin.name a) (other_name (here ∙ e))

own-origin : (o : Origin) → same_origin o o ≡ true
own-origin o = ap (λ b. b && bytes_eq o.name o.name) (same_slot o.depth) ∙ (bytes_eq-Decides o.name o.name).1 refl

-- WHAT AN ARRAY IS OVER, by its type's base
abbrev over_base : Scopes → Origin → Origin → Option Bound
over_base ss self base = if same_origin base self then None else Some (bound_in ss base.name)

own-base : (ss : Scopes) (self : Origin) → over_base ss self self ≡ None
own-base ss self = ap (λ b. if b then None else Some (bound_in ss self.name)) (own-origin self)

-- a domain's name has a domain's kind, and no other has
abbrev IfDomain : Option ValueType → VariableKind → Type 0
IfDomain o k = (b : Bound) → if_domain k b ≡ (if has is_domain o then Some b else None)

kind-domain : (o : Option ValueType) (k : VariableKind) → kind_by o ≡ Some k → IfDomain o k
kind-domain (Some (Scalar IntKind)) k e = subst (IfDomain (Some (Scalar IntKind))) (some-same (PlainKind IntLeaf) k e) (λ b. refl)
kind-domain (Some (Scalar BoolKind)) k e = subst (IfDomain (Some (Scalar BoolKind))) (some-same (PlainKind TruthLeaf) k e) (λ b. refl)
kind-domain (Some (Range strided)) k e = subst (IfDomain (Some (Range strided))) (some-same (PlainKind RangeLeaf) k e) (λ b. refl)
kind-domain (Some (Domain rank strided)) k e = subst (IfDomain (Some (Domain rank strided))) (kind_if-some (is_rank rank) DomainKind k e).1 (λ b. refl)
kind-domain (Some (Array l over)) k e = subst (IfDomain (Some (Array l over))) (kind_if-some (is_rank over.rank) (ArrayKind l) k e).1 (λ b. refl)
kind-domain (Some (Promoted l over)) k e = subst (IfDomain (Some (Promoted l over))) (kind_if-some (is_rank over.rank) (ArrayKind l) k e).1 (λ b. refl)
kind-domain (Some (Tuple rank)) k e = subst (IfDomain (Some (Tuple rank))) (kind_if-some (is_tuple_rank rank) TupleKind k e).1 (λ b. refl)
kind-domain _ k e = absurd (none-some k e)

-- the kind of a name's leaf, where it is in sight, and where it isn't
leaf-found : (o : Option VariableKind) (p : Option ℕ) (k : VariableKind) → o ≡ Some k → is_some p ≡ true → (leaf_by o p).kind ≡ k
leaf-found o None k e there = absurd (let f : false ≡ true = there in cc)
leaf-found o (Some n) k e there = ap (λ o. (leaf_by o (Some n)).kind) e

leaf-kind : (ss : Scopes) (y : Text) (d : Declared) (k : VariableKind) → lookup ss y ≡ Some d → kind_by d.type ≡ Some k → (leaf_in ss y).kind ≡ k
leaf-kind ss y d k e kind = leaf-found (kind_in ss y) (slot_in ss y) k (ap (λ o. kind_by (type_declared o)) e ∙ kind) (slot_in-lookup ss y ∙ ap is_some e)

-- a name that is declared as an array is in sight over the domain of its bare name
pub over-declared : (ss : Scopes) → AreKnownScopes ss → (a : Text) → declared_here ss a ≡ false → (o : Option Text) (k : Kind) (over : Over) → over.base ≡ base_over ss (origin_in ss a) o
    → domain_among (option_map (bound_in ss) o) ≡ over_by ss (origin_in ss a) (Some (Array k over))
over-declared ss known a fresh o k over base = by o ∙ sym (ap (over_base ss (origin_in ss a)) base)
  where
    by_kind : (y : Text) (d : Declared) (k : VariableKind) → lookup ss y ≡ Some d → kind_by d.type ≡ Some k
        → if_domain (leaf_in ss y).kind (bound_in ss y) ≡ over_base ss (origin_in ss a) (if has is_domain d.type then d.origin else origin_in ss a)
    by_kind y d k e kind =
        ap (λ k. if_domain k (bound_in ss y)) (leaf-kind ss y d k e kind) ∙ kind-domain d.type k kind (bound_in ss y)
        ∙ (elim (has is_domain d.type) as (λ b. (if b then Some (bound_in ss y) else None) ≡ over_base ss (origin_in ss a) (if b then d.origin else origin_in ss a)) [
          | true ↦
              ap (λ y. Some (bound_in ss y)) (lookup-name ss y d e)
              ∙ sym (ap (λ b. if b then None else Some (bound_in ss d.origin.name)) (new-origin ss a y d known fresh e))
          | false ↦ sym (own-base ss (origin_in ss a))
        ])

    by_name : (y : Text) (f : Option Declared) → lookup ss y ≡ f → HasKnownKind f → if_domain (leaf_in ss y).kind (bound_in ss y) ≡ over_base ss (origin_in ss a) (base_by (origin_in ss a) f)
    by_name y None e h =
        ap (λ o. if_domain (leaf_by (kind_by (type_declared o)) (slot_in ss y)).kind (bound_in ss y)) e ∙ sym (own-base ss (origin_in ss a))
    by_name y (Some d) e h = by_kind y d h.0 e h.1

    by : (o : Option Text) → domain_among (option_map (bound_in ss) o) ≡ over_base ss (origin_in ss a) (base_over ss (origin_in ss a) o)
    by None = sym (own-base ss (origin_in ss a))
    by (Some y) = by_name y (lookup ss y) refl (lookup-known ss y known)

-- THE NAME IT IS OVER is in sight, and a domain's has the array's shape
module _ (ss : Scopes) (known : AreKnownScopes ss) (intents : List (Bound × Op)) where
  abbrev g : Seen
  g = record { frames = sight_of ss; intents = intents }

  -- a name with a domain's leaf is of a domain's type
  chosen : (b : Bound) (c : Bool) → Some b ≡ (if c then Some b else None) → c ≡ true
  chosen b true e = refl
  chosen b false e = cc

  is-domain : (y : Text) (t : ValueType) → type_in ss y ≡ Some t → (leaf_in ss y).kind ≡ DomainKind → is_domain t ≡ true
  is-domain y t is kind = by (lookup ss y) refl (lookup-known ss y known)
    where
      by : (o : Option Declared) → lookup ss y ≡ o → HasKnownKind o → is_domain t ≡ true
      by None e h = absurd (none-some t (sym (ap type_declared e) ∙ is))
      by (Some d) e h =
          let same : h.0 ≡ DomainKind = sym (leaf-kind ss y d h.0 e h.1) ∙ kind in
          let of : d.type ≡ Some t = sym (ap type_declared e) ∙ is in
          chosen (bound_in ss y) (is_domain t) (
          ap (λ k. if_domain k (bound_in ss y)) (sym same) ∙ kind-domain d.type h.0 h.1 (bound_in ss y)
          ∙ ap (λ o. if has is_domain o then Some (bound_in ss y) else None) of
          )

  -- an array over a domain that stands alone has its shape
  domain-shape : (from : Place) (x : Placed Text) (t w : ValueType) (rank : ℕ) (strided : Bool) → is_domain t ≡ true
      → type_by (domain_or (domain_of t) (ranges_verdict from (item_parts ss (FirstItem (One (Named x)) NoItems)))) ≡ Some w → domain_of w ≡ Some (rank, strided)
      → shape_of t ≡ record { rank = rank; strided = strided }
  domain-shape from x (Domain n s) w rank strided is e of =
      let same : (n, s) ≡ (rank, strided) = some-same (n, s) (rank, strided) (ap domain_of (some-same (Domain n s) w e) ∙ of) in
      ap (λ (p : ℕ × Bool). record { rank = p.0; strided = p.1 }) same
  domain-shape from x _ w rank strided is e of = absurd (let f : false ≡ true = is in cc)

  module _ (from : Place) (w : ValueType) (rank : ℕ) (strided : Bool) (of : domain_of w ≡ Some (rank, strided)) where
    abbrev shape : Shape
    shape = record { rank = rank; strided = strided }

    name-resolves : (x : Placed Text) → IsFound ss x.name → type_by (over_verdict from (item_parts ss (FirstItem (One (Named x)) NoItems))) ≡ Some w → OverResolves (Some (bound_in ss x.name)) shape g
    name-resolves x found e =
        let given = with_type-gives (type_of ss (Named x)) (λ t. domain_or (domain_of t) (ranges_verdict from (item_parts ss (FirstItem (One (Named x)) NoItems)))) w e in
        let is : type_in ss x.name ≡ Some given.0 = name_verdict-gives x.at (lookup ss x.name) given.0 given.1 in
        (innermost-found x.name ss known found, λ kind. ap shape_by is ∙ domain-shape from x given.0 w rank strided (is-domain x.name given.0 is kind) given.2 of)

    pub over-resolves : (items : Items Text) → AreSimpleItems (IsFound ss) items → type_by (over_verdict from (item_parts ss items)) ≡ Some w
        → OverResolves (option_map (bound_in ss) (declared_over items)) shape g
    over-resolves (FirstItem (One (Number at n)) NoItems) simple e = tt
    over-resolves (FirstItem (One (TruthWord at b)) NoItems) simple e = tt
    over-resolves (FirstItem (One (Named x)) NoItems) simple e = name-resolves x simple.0 e
    over-resolves (FirstItem (One (LocalesWord at)) NoItems) simple e = tt
    over-resolves (FirstItem (One (LocaleCount at)) NoItems) simple e = tt
    over-resolves (FirstItem (One (HereWord at)) NoItems) simple e = tt
    over-resolves (FirstItem (One (Grouped at item upto)) NoItems) simple e = tt
    over-resolves (FirstItem (One (DomainLiteral at items upto)) NoItems) simple e = tt
    over-resolves (FirstItem (One (Prefixed at op a)) NoItems) simple e = tt
    over-resolves (FirstItem (One (Reduced at op word a)) NoItems) simple e = tt
    over-resolves (FirstItem (One (Chain a rest)) NoItems) simple e = tt
    over-resolves (FirstItem (One (Postfixed a posts)) NoItems) simple e = tt
    over-resolves (FirstItem (RangeItem low at dots high by) NoItems) simple e = tt
    over-resolves (FirstItem i (NextItem comma j more)) simple e = tt

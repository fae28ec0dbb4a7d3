-- A declaration that breaks no rule, where each name in sight has a type: its initial value has one, so has its name
-- behind it, and the state that it leaves has what the scopes then declare.
use Rattle.std.proofs.Common.{◌≡◌, ℕ, Bool, true, false, List, [], ◌∷◌, ◌++◌, length, Option, Some, None, refl, sym, ap, ◌∙◌, subst}
use Rattle.std.specs.Prelude.{◌&&◌, is_some, bytes_eq, if◌then◌else◌}
use Rattle.std.specs.Option.{option_or}
use Rattle.dpl_syntax.specs.declared.place.Place.{Place}
use Rattle.dpl_syntax.specs.declared.refusal.Breach.{Breach}
use Rattle.dpl_syntax.specs.declared.refusal.Code.TheVariants.{WrongType, NameTwice}
use Rattle.dpl_language.specs.Tree.{Kind, ItemTree, TypeTree, ScalarType, SyncType, DomainType as DomainWritten, ArrayType as ArrayWritten}
use Rattle.dpl_language.specs.Tree.{ArrayTypeTree, InitTree, ItemInit, CreateInit, InitialTree, DeclareTree, Declare}
use Rattle.dpl_language.specs.Names.{Text, State, by_name}
use Rattle.dpl_language.specs.Outcome.{Deeds}
use Rattle.dpl_language.specs.Environment.{Limits}
use Rattle.dpl_language.specs.Phrases.{item_read}
use Rattle.dpl_language.specs.Declarations.{type_of as written_type}
use Rattle.dpl_language.specs.Statements.{exec}
use Rattle.dpl_rules.specs.Types.{Origin, ValueType, Scalar, Domain as DomainType, Cell as CellType, domain_of}
use Rattle.dpl_rules.specs.Verdicts.{Part, type_by, broken_by, breach, owed_type, with_type, all_known}
use Rattle.dpl_rules.specs.Places.{first_of_item}
use Rattle.dpl_rules.specs.Sights.{Declared, Scopes, find, lookup, declared_here, origin_in, add}
use Rattle.dpl_rules.specs.Operators.{any_strided, ranges_breaches, ranges_verdict, domain_or, over_verdict}
use Rattle.dpl_rules.specs.Expressions.{item_type, item_parts, read_or_type, item_breaches, items_breaches, kind_read, side_part, side_breaches, none_where}
use Rattle.dpl_rules.specs.Maps.{mapped_breaches}
use Rattle.dpl_rules.specs.Loops.{behind}
use Rattle.dpl_rules.specs.Declarations.{domain_in, type_rank, agreeing, unmapped, is_untyped, unless_refused, over_domain, declared_type, type_breaches, create_breaches, init_part}
use Rattle.dpl_rules.specs.Declarations.{untyped_breaches, typed_breaches, typed_initial, config_breaches, written_breaches, type_given, declaration_breaches, declared_by}
use Rattle.dpl_rules.proofs.Admission.{first_empty, second_empty}
use Rattle.dpl_language.specs.Spelled.{SaysType}
use Rattle.dpl_sound.specs.Formed.{InitialFormed, TypeFormed}
use Rattle.dpl_sound.specs.Runs.{Keeps, Leaves, InitialReplied, InitialTyped, GivenFits}
use Rattle.dpl_sound.proofs.Given.{owed_not-holds, some-same, judged-gives, with_type-gives}
use Rattle.dpl_sound.proofs.Known.{IsTold, IsTyped, told-typed, judged-told, AreKnown, item_type-known, items-known}
use Rattle.dpl_sound.proofs.Declarations.{declare-leaves}

-- ---- a domain by one domain or by ranges
part_known : (o : Option ValueType) → (is_some o && true) ≡ true → IsTyped o
part_known None h = absurd cc
part_known (Some t) h = (t, refl)

ranges-told : (from : Place) (ps : List Part) → all_known ps ≡ true → IsTold (ranges_verdict from ps)
ranges-told from ps k = judged-told (all_known ps) (ranges_breaches from ps) (DomainType (length ps) (any_strided ps)) k

domain_or-told : (from : Place) (ps : List Part) (o : Option (ℕ × Bool)) → all_known ps ≡ true → IsTold (domain_or o (ranges_verdict from ps))
domain_or-told from ps None k = ranges-told from ps k
domain_or-told from ps (Some d) k = tt

over_verdict-told : (from : Place) (ps : List Part) → all_known ps ≡ true → IsTold (over_verdict from ps)
over_verdict-told from [] k = ranges-told from [] k
over_verdict-told from (p ∷ []) k =
    let type = part_known p.type k in
    subst (λ o. IsTold (with_type o (λ t. domain_or (domain_of t) (ranges_verdict from (p ∷ []))))) (sym type.1) (domain_or-told from (p ∷ []) (domain_of type.0) k)
over_verdict-told from (p ∷ q ∷ ps) k = ranges-told from (p ∷ q ∷ ps) k

-- and its type is a domain's
abbrev IsDomainType : ValueType → Type 0
IsDomainType t = (d : ℕ × Bool) × (domain_of t ≡ Some d)

ranges-domain : (from : Place) (ps : List Part) (u : ValueType) → type_by (ranges_verdict from ps) ≡ Some u → IsDomainType u
ranges-domain from ps u h =
    let type = (judged-gives (all_known ps) (ranges_breaches from ps) (DomainType (length ps) (any_strided ps)) u h).2 in
    ((length ps, any_strided ps), ap domain_of (sym type))

domain_or-domain : (from : Place) (ps : List Part) (o : Option (ℕ × Bool)) (u : ValueType) → type_by (domain_or o (ranges_verdict from ps)) ≡ Some u → IsDomainType u
domain_or-domain from ps None u h = ranges-domain from ps u h
domain_or-domain from ps (Some d) u h = ((d.0, d.1), ap domain_of (sym (some-same (DomainType d.0 d.1) u h)))

over_verdict-domain : (from : Place) (ps : List Part) (u : ValueType) → type_by (over_verdict from ps) ≡ Some u → IsDomainType u
over_verdict-domain from [] u h = ranges-domain from [] u h
over_verdict-domain from (p ∷ []) u h =
    let given = with_type-gives p.type (λ t. domain_or (domain_of t) (ranges_verdict from (p ∷ []))) u h in
    domain_or-domain from (p ∷ []) (domain_of given.0) u given.2
over_verdict-domain from (p ∷ q ∷ ps) u h = ranges-domain from (p ∷ q ∷ ps) u h

module _ (scopes : Scopes) (known : AreKnown scopes) where
  -- ---- initial values
  read_or-known : (o : Option Kind) (t : Option ValueType) (bs : List Breach) → (bs ≡ [] → IsTyped t) → none_where o bs ≡ [] → IsTyped (read_or_type o t)
  read_or-known None t bs p h = p h
  read_or-known (Some k) t bs p h = (Scalar k, refl)

  side-known : (item : ItemTree Text) → side_breaches scopes item ≡ [] → IsTyped (side_part scopes item).type
  side-known item h =
      read_or-known (kind_read scopes (item_read item)) (item_type scopes item) (item_breaches scopes item) (λ none. item_type-known scopes known item none) h

  untyped-known : (init : InitTree Text) → untyped_breaches scopes init ≡ [] → IsTyped (init_part scopes init).type
  untyped-known (ItemInit item mapped) h =
      let kept = owed_type (is_untyped mapped) (first_of_item item) (side_part scopes item).type in
      side-known item
      (first_empty (side_breaches scopes item) kept (first_empty (side_breaches scopes item ++ kept) (mapped_breaches scopes (type_rank (side_part scopes item).type) mapped) h))
  untyped-known (CreateInit c) h =
      let ps = item_parts scopes c.items in
      told-typed (over_verdict c.from ps)
      (over_verdict-told c.from ps (items-known scopes known c.items (first_empty (items_breaches scopes c.items) (broken_by (over_verdict c.from ps)) h)))
      (second_empty (items_breaches scopes c.items) (broken_by (over_verdict c.from ps)) h)

  typed-known : (declared : Option ValueType) (init : InitTree Text) → typed_breaches scopes declared init ≡ [] → IsTyped (init_part scopes init).type
  typed-known declared (ItemInit item mapped) h =
      let sides = side_breaches scopes item in
      let agrees = agreeing declared (side_part scopes item) in
      let maps = mapped_breaches scopes (type_rank (side_part scopes item).type) mapped in
      side-known item (first_empty sides agrees (first_empty (sides ++ agrees) (unmapped mapped) (first_empty (sides ++ agrees ++ unmapped mapped) maps h)))
  typed-known declared (CreateInit c) h = untyped-known (CreateInit c) (first_empty (create_breaches scopes c) (breach c.at WrongType) h)

  initial-known : (self : Origin) (w : Option (TypeTree Text)) (initial : Option (InitialTree Text)) → written_breaches scopes self w initial ≡ [] → InitialTyped scopes initial
  initial-known self w None h = tt
  initial-known self None (Some i) h = untyped-known i.init h
  initial-known self (Some t) (Some i) h =
      typed-known (declared_type scopes self t) i.init (second_empty (type_breaches scopes t) (typed_breaches scopes (declared_type scopes self t) i.init) h)

  -- ---- the name behind the declaration
  over_domain-known : (self : Origin) (a : ArrayTypeTree Text) (o : Option ValueType) → IsTyped o → ((u : ValueType) → o ≡ Some u → IsDomainType u)
      → IsTyped (over_domain scopes self a (domain_in o))
  over_domain-known self a o p q =
      let domain = q p.0 p.1 in
      subst (λ o. IsTyped (over_domain scopes self a o)) (sym (ap domain_in p.1 ∙ domain.1)) (_, refl)

  declared_type-known : (self : Origin) (t : TypeTree Text) → type_breaches scopes t ≡ [] → IsTyped (declared_type scopes self t)
  declared_type-known self (ScalarType at k) h = (Scalar k, refl)
  declared_type-known self (SyncType at kind_at k) h = (CellType k, refl)
  declared_type-known self (DomainWritten d) h = (DomainType d.rank false, refl)
  declared_type-known self (ArrayWritten a) h =
      let ps = item_parts scopes a.over in
      over_domain-known self a (type_by (over_verdict a.from ps))
      (told-typed (over_verdict a.from ps)
      (over_verdict-told a.from ps (items-known scopes known a.over (first_empty (items_breaches scopes a.over) (broken_by (over_verdict a.from ps)) h)))
      (second_empty (items_breaches scopes a.over) (broken_by (over_verdict a.from ps)) h))
      (λ u e. over_verdict-domain a.from ps u e)

  given-known : (self : Origin) (w : Option (TypeTree Text)) (initial : Option (InitialTree Text)) → SaysType w initial → written_breaches scopes self w initial ≡ []
      → IsTyped (type_given scopes self w initial)
  given-known self None None s h = elim s [ ]
  given-known self None (Some i) s h = untyped-known i.init h
  given-known self (Some t) initial s h = declared_type-known self t (first_empty (type_breaches scopes t) (typed_initial scopes (declared_type scopes self t) initial) h)

  refused-known : (bs : List Breach) (o : Option ValueType) → bs ≡ [] → IsTyped o → IsTyped (unless_refused bs o)
  refused-known [] o h p = p
  refused-known (b ∷ bs) o h p = absurd cc

found-known : (b : Bool) (d : Declared) (o p : Option Declared) → IsTyped d.type → ((c : Declared) → option_or o p ≡ Some c → IsTyped c.type)
    → (c : Declared) → option_or (if b then Some d else o) p ≡ Some c → IsTyped c.type
found-known true d o p typed others c h = subst (λ (c : Declared). IsTyped c.type) (some-same d c h) typed
found-known false d o p typed others c h = others c h

add-known : (scopes : Scopes) (d : Declared) → AreKnown scopes → IsTyped d.type → AreKnown (add d scopes)
add-known [] d known typed x c h = found-known (bytes_eq x d.origin.name) d None None typed (λ c e. known x c e) c h
add-known (s ∷ ss) d known typed x c h = found-known (bytes_eq x d.origin.name) d (find s x) (lookup ss x) typed (known x) c h

-- ---- a declaration that breaks no rule
module _ (limits : Limits) (scopes : Scopes) (known : AreKnown scopes) (d : DeclareTree Text) (sound : declaration_breaches scopes d ≡ []) where
  written : written_breaches scopes (origin_in scopes d.name.name) (written_type d.typed) d.initial ≡ []
  written = second_empty _ (written_breaches scopes (origin_in scopes d.name.name) (written_type d.typed) d.initial) (first_empty _ (config_breaches scopes d.config d) sound)

  new : declared_here scopes d.name.name ≡ false
  new =
      owed_not-holds (declared_here scopes d.name.name) d.name.at NameTwice
      (first_empty _ (written_breaches scopes (origin_in scopes d.name.name) (written_type d.typed) d.initial) (first_empty _ (config_breaches scopes d.config d) sound))

  -- each name in sight behind it has a type
  pub declaration-known : SaysType (written_type d.typed) d.initial → AreKnown (behind scopes (Declare d))
  declaration-known says =
      add-known scopes (declared_by scopes d) known
      (refused-known scopes known (declaration_breaches scopes d) (type_given scopes (origin_in scopes d.name.name) (written_type d.typed) d.initial) sound
      (given-known scopes known (origin_in scopes d.name.name) (written_type d.typed) d.initial says written))

  -- and the state that it leaves has what these scopes declare
  pub declaration-leaves : (s : State) (done : Deeds) → TypeFormed (written_type d.typed) → InitialFormed d.initial → InitialReplied d.initial s
      → GivenFits (declared_by scopes d) s → Keeps scopes s → Leaves (Keeps (behind scopes (Declare d))) (exec limits by_name (Declare d) s done)
  declaration-leaves s done w f replied given kept =
      declare-leaves limits scopes d s done new w f (initial-known scopes known (origin_in scopes d.name.name) (written_type d.typed) d.initial written) replied given kept

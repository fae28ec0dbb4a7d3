-- In a memory in which each name in sight has a value of its shape, an item has a value of the type that the check gives it.
-- So the shape of what a name is given, and of what a loop gives its variable, is known before the run.
use Rattle.std.proofs.Common.{◌≡◌, ℕ, suc, ℤ, Bool, true, false, List, [], ◌∷◌, length, is_some, Option, Some, None, Ok, refl, sym, ap, ◌∙◌, subst, map}
use Rattle.std.specs.Prelude.{All, option_map, flat_map, ◌&&◌, ◌||◌, ◌==◌, not, if◌then◌else◌}
use Rattle.std.proofs.lemmas.Bool.Decides.{Decides-eqb}
use Rattle.std.proofs.lemmas.List.Elements.{All-nil, All-cons, All-append, All-map, All-weaker}
use Rattle.std.proofs.lemmas.Option.{none-some}
use Rattle.dpl_sets.specs.Indices.{tuples, indices}
use Rattle.dpl_sets.specs.TextRanges.{TextRange}
use Rattle.dpl_sets.specs.Ranges.{members_of}
use Rattle.dpl_language.specs.Tree.{Op, Kind, IntKind, BoolKind, ItemTree, LoopWord}
use Rattle.dpl_language.specs.Names.{Text}
use Rattle.dpl_language.specs.Values.{Value, Index}
use Rattle.dpl_language.specs.Ranges.{indices_in, loop_ranges, loop_value}
use Rattle.dpl_language.specs.Environment.{Limits}
use Rattle.dpl_language.specs.Expressions.{item_of}
use Rattle.dpl_agreement.specs.Renamed.{renamed_item}
use Rattle.dpl_agreement.proofs.Through.{through, item_of-through_at}
use Rattle.dpl_agreement.proofs.RenamedTwice.{renamed_item-twice}
use Rattle.dpl_rules.specs.Types.{ValueType, Scalar, Range, Domain, Array, Promoted, Tuple, Locale, AllLocales, Cell}
use Rattle.dpl_rules.specs.Sights.{Declared, Scopes, lookup, type_declared}
use Rattle.dpl_rules.specs.Expressions.{item_type}
use Rattle.dpl_rules.specs.Loops.{runs_over, one_type}
use Rattle.dpl_sound.specs.Typed.{OfKind, MayStride, HasType, type_at, Fits}
use Rattle.dpl_sound.proofs.Given.{some-same}
use Rattle.dpl_sound.proofs.Outcomes.{item_sound}
use Rattle.dpl_sound.proofs.Loops.{TurnsHave, loop_value-has}
use Rattle.dpl_scopes.specs.Slots.{slot_in}
use Rattle.dpl_scopes.proofs.Slots.{slot_in-lookup}
use Rattle.dpl_words.specs.Words.{IntLeaf, TruthLeaf, RangeLeaf}
use Rattle.dpl_memory.specs.Memory.{VariableKind, PlainKind, DomainKind, TupleKind, ArrayKind, Memory, array_at, held_at, element_as, element_in, value_in, in_memory}
use Rattle.dpl_memory.specs.Resolved.{Bound, Seen, variable_of, HasShape, MayHold, IsShaped, SuitsTurns}
use Rattle.dpl_runnable.specs.Kinds.{is_promoted}
use Rattle.dpl_typed.specs.Simple.{IsSimpleItem}
use Rattle.dpl_typed.specs.Typed.{is_rank, is_tuple_rank}
use Rattle.dpl_typed.specs.Leaves.{value_kind, kind_by, kind_in, leaf_by, leaf_in, IsFound}
use Rattle.dpl_bound.specs.Shapes.{shape_of, shape_by, takes_shape}
use Rattle.dpl_bound.specs.Sights.{bound_in, sight_of, is_promoted_type, is_promoted_by, AreKnownScopes}
use Rattle.dpl_runnable.proofs.Kept.{kind_if-some}
use Rattle.dpl_runnable.proofs.Sights.{HasKnownKind, lookup-known, innermost-found}
use Rattle.dpl_runnable.proofs.Formed.{item-formed}

-- TYPES AND SHAPES of what is no array
whole-absurd : (k : VariableKind) (l : Kind) → ArrayKind l ≡ k → is_promoted k ≡ false → (A : Type 0) → A
whole-absurd k l e single A = absurd (let f : true ≡ false = ap is_promoted e ∙ single in cc)

-- a variable's value is of a type of its kind, where it is of the type's shape; no variable is promoted
pub shape-typed : (t : ValueType) (k : VariableKind) (slot : ℕ) (s : Memory) → value_kind t ≡ Some k → is_promoted_type t ≡ false → HasShape k (shape_of t) (value_in k slot s) → HasType (value_in k slot s) t
shape-typed (Scalar IntKind) k slot s e single = subst (λ k. HasShape k (shape_of (Scalar IntKind)) (value_in k slot s) → HasType (value_in k slot s) (Scalar IntKind)) (some-same (PlainKind IntLeaf) k e) (λ h. (_, refl))
shape-typed (Scalar BoolKind) k slot s e single = subst (λ k. HasShape k (shape_of (Scalar BoolKind)) (value_in k slot s) → HasType (value_in k slot s) (Scalar BoolKind)) (some-same (PlainKind TruthLeaf) k e) (λ h. (_, refl))
shape-typed (Range strided) k slot s e single =
    subst (λ k. HasShape k (shape_of (Range strided)) (value_in k slot s) → HasType (value_in k slot s) (Range strided)) (some-same (PlainKind RangeLeaf) k e) (λ h. (_, refl, h))
shape-typed (Domain rank strided) k slot s e single =
    subst (λ k. HasShape k (shape_of (Domain rank strided)) (value_in k slot s) → HasType (value_in k slot s) (Domain rank strided)) (kind_if-some (is_rank rank) DomainKind k e).1 (λ h. (_, refl, h))
shape-typed (Array l over) k slot s e single =
    subst (λ k. HasShape k (shape_of (Array l over)) (value_in k slot s) → HasType (value_in k slot s) (Array l over)) (kind_if-some (is_rank over.rank) (ArrayKind l) k e).1 (λ h. (_, refl, h))
shape-typed (Promoted l over) k slot s e single = absurd (let f : true ≡ false = single in cc)
shape-typed (Tuple rank) k slot s e single =
    subst (λ k. HasShape k (shape_of (Tuple rank)) (value_in k slot s) → HasType (value_in k slot s) (Tuple rank)) (kind_if-some (is_tuple_rank rank) TupleKind k e).1 (λ h. (_, refl, h))
shape-typed Locale k slot s e single = absurd (none-some k e)
shape-typed AllLocales k slot s e single = absurd (none-some k e)
shape-typed (Cell l) k slot s e single = absurd (none-some k e)

-- a value of a type may be held by a name of the type's kind and shape
pub typed-held : (t : ValueType) (k : VariableKind) (v : Value) → value_kind t ≡ Some k → is_promoted k ≡ false → HasType v t → MayHold k (shape_of t) v
typed-held (Scalar IntKind) k v e single h = subst (λ k. MayHold k (shape_of (Scalar IntKind)) v) (some-same (PlainKind IntLeaf) k e) (h, λ n. tt)
typed-held (Scalar BoolKind) k v e single h = subst (λ k. MayHold k (shape_of (Scalar BoolKind)) v) (some-same (PlainKind TruthLeaf) k e) (h, λ n. tt)
typed-held (Range strided) k v e single h =
    subst (λ k. MayHold k (shape_of (Range strided)) v) (some-same (PlainKind RangeLeaf) k e) (subst (MayHold (PlainKind RangeLeaf) (shape_of (Range strided))) (sym h.1) ((h.0, refl), λ n. h.2))
typed-held (Domain rank strided) k v e single h =
    subst (λ k. MayHold k (shape_of (Domain rank strided)) v) (kind_if-some (is_rank rank) DomainKind k e).1 (subst (MayHold DomainKind (shape_of (Domain rank strided))) (sym h.1) ((h.0, refl), λ n. h.2))
typed-held (Array l over) k v e single h = whole-absurd k l (kind_if-some (is_rank over.rank) (ArrayKind l) k e).1 single _
typed-held (Promoted l over) k v e single h = absurd h
typed-held (Tuple rank) k v e single h =
    subst (λ k. MayHold k (shape_of (Tuple rank)) v) (kind_if-some (is_tuple_rank rank) TupleKind k e).1 (subst (MayHold TupleKind (shape_of (Tuple rank))) (sym h.1) ((h.0, refl), λ n. h.2))
typed-held Locale k v e single h = absurd (none-some k e)
typed-held AllLocales k v e single h = absurd (none-some k e)
typed-held (Cell l) k v e single h = absurd (none-some k e)

-- evaluated once, what is no array has a value of its own type
once-typed : (t : ValueType) (k : VariableKind) (v : Value) → value_kind t ≡ Some k → is_promoted k ≡ false → HasType v (type_at t None) → HasType v t
once-typed (Promoted l over) k v e single h = whole-absurd k l (kind_if-some (is_rank over.rank) (ArrayKind l) k e).1 single _
once-typed _ k v e single h = h

-- A SHAPE THAT IS TAKEN: of a wider stride, and the same rank
wider : (may strided : Bool) (rs : List TextRange) → (may || not strided) ≡ true → MayStride strided rs → MayStride may rs
wider true strided rs e h = tt
wider false true rs e h = absurd (let f : false ≡ true = e in cc)
wider false false rs e h = h

both : (a b : Bool) → (a && b) ≡ true → (a ≡ true) × (b ≡ true)
both true b e = (refl, e)
both false b e = absurd (let f : false ≡ true = e in cc)

range-taken : (strided : Bool) (u : ValueType) (v : Value) → takes_shape (Range strided) u ≡ true → HasType v (type_at u None) → HasShape (PlainKind RangeLeaf) (shape_of (Range strided)) v
range-taken strided (Range other) v e h = subst (HasShape (PlainKind RangeLeaf) (shape_of (Range strided))) (sym h.1) (wider strided other (h.0 ∷ []) e h.2)
range-taken strided _ v e h = absurd (let f : false ≡ true = e in cc)

domain-taken : (rank : ℕ) (strided : Bool) (u : ValueType) (v : Value) → takes_shape (Domain rank strided) u ≡ true → HasType v (type_at u None) → HasShape DomainKind (shape_of (Domain rank strided)) v
domain-taken rank strided (Domain n other) v e h =
    let (same, may) = both (n == rank) (strided || not other) e in
    subst (HasShape DomainKind (shape_of (Domain rank strided))) (sym h.1) (h.2.0 ∙ (Decides-eqb n rank).0 same, wider strided other h.0 may h.2.1)
domain-taken rank strided _ v e h = absurd (let f : false ≡ true = e in cc)

pub taken-shape : (t u : ValueType) (k : VariableKind) (v : Value) → value_kind t ≡ Some k → is_promoted k ≡ false → takes_shape t u ≡ true → HasType v (type_at u None) → HasShape k (shape_of t) v
taken-shape (Scalar IntKind) u k v e single taken h = subst (λ k. HasShape k (shape_of (Scalar IntKind)) v) (some-same (PlainKind IntLeaf) k e) tt
taken-shape (Scalar BoolKind) u k v e single taken h = subst (λ k. HasShape k (shape_of (Scalar BoolKind)) v) (some-same (PlainKind TruthLeaf) k e) tt
taken-shape (Range strided) u k v e single taken h = subst (λ k. HasShape k (shape_of (Range strided)) v) (some-same (PlainKind RangeLeaf) k e) (range-taken strided u v taken h)
taken-shape (Domain rank strided) u k v e single taken h = subst (λ k. HasShape k (shape_of (Domain rank strided)) v) (kind_if-some (is_rank rank) DomainKind k e).1 (domain-taken rank strided u v taken h)
taken-shape (Array l over) u k v e single taken h = whole-absurd k l (kind_if-some (is_rank over.rank) (ArrayKind l) k e).1 single _
taken-shape (Promoted l over) u k v e single taken h = absurd (let f : false ≡ true = taken in cc)
taken-shape (Tuple rank) u k v e single taken h = absurd (let f : false ≡ true = taken in cc)
taken-shape Locale u k v e single taken h = absurd (none-some k e)
taken-shape AllLocales u k v e single taken h = absurd (none-some k e)
taken-shape (Cell l) u k v e single taken h = absurd (none-some k e)

-- THE INDICES of a domain have a coordinate for each of its ranges.
longer : (i : ℤ) (n : ℕ) (ts : List Index) → All (λ t. length t ≡ n) ts → All (λ t. length t ≡ suc n) (map (λ t. i ∷ t) ts)
longer i n ts h = All-map (λ t. length t ≡ suc n) (λ t. i ∷ t) ts (All-weaker (λ t. length t ≡ n) (λ t. suc (length t) ≡ suc n) (λ t e. ap (λ n. suc n) e) ts h)

in_each : (n : ℕ) (ts : List Index) → All (λ t. length t ≡ n) ts → (is : List ℤ) → All (λ t. length t ≡ suc n) (flat_map (λ i. map (λ t. i ∷ t) ts) is)
in_each n ts h [] = All-nil (λ t. length t ≡ suc n)
in_each n ts h (i ∷ is) = All-append (λ t. length t ≡ suc n) (map (λ t. i ∷ t) ts) (flat_map (λ i. map (λ t. i ∷ t) ts) is) (longer i n ts h) (in_each n ts h is)

tuples-length : (iss : List (List ℤ)) → All (λ t. length t ≡ length iss) (tuples iss)
tuples-length [] = All-cons (λ t. length t ≡ 0) [] [] refl (All-nil (λ t. length t ≡ 0))
tuples-length (is ∷ rest) = in_each (length rest) (tuples rest) (tuples-length rest) is

length-ranges : (rs : List TextRange) → length (map members_of (map (λ (r : TextRange). r.value) rs)) ≡ length rs
length-ranges [] = refl
length-ranges (r ∷ rs) = ap (λ n. suc n) (length-ranges rs)

indices_in-length : (rs : List TextRange) → All (λ t. length t ≡ length rs) (indices_in rs)
unfolding indices
indices_in-length rs =
    subst (λ n. All (λ t. length t ≡ n) (tuples (map members_of (map (λ (r : TextRange). r.value) rs)))) (length-ranges rs) (tuples-length (map members_of (map (λ (r : TextRange). r.value) rs)))

-- an array's elements are of its kind
element_as-of : (l : Kind) (w : ℤ) → OfKind l (element_as l w)
element_as-of IntKind w = (w, refl)
element_as-of BoolKind w = (_, refl)

element-of : (l : Kind) (slot : ℕ) (t : Index) (s : Memory) (v : Value) → element_in (ArrayKind l) slot t s ≡ Some v → OfKind l v
element-of l slot t s v = by (held_at t (array_at slot s))
  where
    by : (o : Option ℤ) → option_map (element_as l) o ≡ Some v → OfKind l v
    by None e = cc
    by (Some w) e =
        let same : element_as l w ≡ v = cc in
        subst (OfKind l) same (element_as-of l w)

-- NAMES IN SIGHT
module _ (scopes : Scopes) (known : AreKnownScopes scopes) (intents : List (Bound × Op)) where
  abbrev g : Seen
  g = record { frames = sight_of scopes; intents = intents }

  found-slot : (o : Option Declared) (p : Option ℕ) (t : ValueType) → is_some p ≡ is_some o → type_declared o ≡ Some t → (n : ℕ) × (p ≡ Some n)
  found-slot None p t both e = absurd (none-some t e)
  found-slot (Some d) None t both e = absurd (let f : false ≡ true = both in cc)
  found-slot (Some d) (Some n) t both e = (n, refl)

  found-kind : (o : Option Declared) (t : ValueType) → HasKnownKind o → type_declared o ≡ Some t → (k : VariableKind) × (value_kind t ≡ Some k) × (is_promoted_type t ≡ false)
  found-kind None t h e = absurd (none-some t e)
  found-kind (Some d) t h e = (h.0, sym (ap kind_by e) ∙ h.1, sym (ap is_promoted_by e) ∙ h.2)

  leaf-kind : (o : Option VariableKind) (p : Option ℕ) (k : VariableKind) (n : ℕ) → o ≡ Some k → p ≡ Some n → (leaf_by o p).kind ≡ k
  leaf-kind o p k n e f = ap (λ o. (leaf_by o p).kind) e ∙ ap (λ p. (leaf_by (Some k) p).kind) f

  pub fits-shaped : (s : Memory) → IsShaped g s → Fits (through (leaf_in scopes) in_memory) scopes s
  fits-shaped s shaped = record {
    values = λ x t e.
        let (k, of_kind, named) = found-kind (lookup scopes x) t (lookup-known scopes x known) e in
        let (n, at) = found-slot (lookup scopes x) (slot_in scopes x) t (slot_in-lookup scopes x) e in
        let kind : kind_in scopes x ≡ Some k = ap kind_by e ∙ of_kind in
        let here = shaped (bound_in scopes x) (innermost-found x scopes known (k, n, kind, at)) in
        let leaf : (leaf_in scopes x).kind ≡ k = leaf-kind (kind_in scopes x) (slot_in scopes x) k n kind at in
        let there : HasShape k (shape_of t) (value_in k (leaf_in scopes x).slot s) =
        subst (λ k. HasShape k (shape_of t) (value_in k (leaf_in scopes x).slot s)) leaf (subst (λ shape. HasShape (leaf_in scopes x).kind shape (value_in (leaf_in scopes x).kind (leaf_in scopes x).slot s)) (ap shape_by e) here) in
        subst (λ k. HasType (value_in k (leaf_in scopes x).slot s) t) (sym leaf) (shape-typed t k (leaf_in scopes x).slot s of_kind named there);
    elements = λ x l over e t v here.
        let (k, of_kind, named) = found-kind (lookup scopes x) (Array l over) (lookup-known scopes x known) e in
        let (n, at) = found-slot (lookup scopes x) (slot_in scopes x) (Array l over) (slot_in-lookup scopes x) e in
        let leaf : (leaf_in scopes x).kind ≡ ArrayKind l =
        leaf-kind (kind_in scopes x) (slot_in scopes x) k n (ap kind_by e ∙ of_kind) at ∙ sym (kind_if-some (is_rank over.rank) (ArrayKind l) k of_kind).1 in
        element-of l (leaf_in scopes x).slot t s v (subst (λ k. element_in k (leaf_in scopes x).slot t s ≡ Some v) leaf here);
  }

  -- ITEMS
  module _ (item : ItemTree Text) (simple : IsSimpleItem (IsFound scopes) item) (u : ValueType) (is : item_type scopes item ≡ Some u) where
    pub item-typed_at : (limits : Limits) (s : Memory) → IsShaped g s → (t : Option Index) (v : Value) → item_of limits in_memory (renamed_item variable_of (renamed_item (bound_in scopes) item)) t s ≡ Ok v → HasType v (type_at u t)
    item-typed_at limits s shaped t v e =
        item_sound limits (through (leaf_in scopes) in_memory) scopes s (fits-shaped s shaped) item u t v (item-formed (IsFound scopes) item simple) is
        (item_of-through_at limits (leaf_in scopes) in_memory item t s ∙ ap (λ i. item_of limits in_memory i t s) (sym (renamed_item-twice variable_of (bound_in scopes) item)) ∙ e)

    pub item-typed : (limits : Limits) (s : Memory) → IsShaped g s → (v : Value) → item_of limits in_memory (renamed_item variable_of (renamed_item (bound_in scopes) item)) None s ≡ Ok v → HasType v (type_at u None)
    item-typed limits s shaped v e = item-typed_at limits s shaped None v e

    -- a loop over the item gives its variable values of the rules' type
    pub loop-turns : (word : LoopWord) (w : ValueType) (k : VariableKind) → value_kind w ≡ Some k → is_promoted k ≡ false → (if runs_over word u then Some (one_type u) else None) ≡ Some w
        → SuitsTurns k (shape_of w) (renamed_item (bound_in scopes) item) g
    loop-turns word w k of_kind single runs limits s shaped over e =
        let has : TurnsHave limits.locales over w = loop_value-has limits.locales word u w over (item-typed limits s shaped over e) runs in
        All-weaker (λ t. length t ≡ length (loop_ranges limits.locales over)) (λ t. MayHold k (shape_of w) (loop_value over t)) (λ t n. typed-held w k (loop_value over t) of_kind single (has t n))
        (indices_in (loop_ranges limits.locales over)) (indices_in-length (loop_ranges limits.locales over))

-- Right sides that run suit what they are given to: by type soundness they have values of their types, which the names' types take.
-- A name of one slot is given a value of its kind and its shape, a whole array what its elements may be, and an element such a value.
use Rattle.std.proofs.Common.{◌≡◌, inl, inr, true, false, List, Option, Some, None, refl, sym, ap, ◌∙◌, subst}
use Rattle.std.proofs.lemmas.Option.{none-some}
use Rattle.dpl_language.specs.Tree.{Op, Kind, IntKind, BoolKind, ItemTree}
use Rattle.dpl_language.specs.Names.{Text}
use Rattle.dpl_language.specs.Values.{Value, Index}
use Rattle.dpl_agreement.specs.Renamed.{renamed_item}
use Rattle.dpl_rules.specs.Types.{ValueType, Scalar, Range, Domain, Array, Promoted, Tuple, Locale, AllLocales, Cell, Operand, operand_of, is_array}
use Rattle.dpl_rules.specs.Sights.{Scopes}
use Rattle.dpl_rules.specs.Expressions.{item_type}
use Rattle.dpl_sound.specs.Typed.{OfKind, HasType, type_at}
use Rattle.dpl_sound.proofs.Given.{some-same}
use Rattle.dpl_sound.proofs.Outcomes.{type_at-operand}
use Rattle.dpl_words.specs.Words.{LeafKind}
use Rattle.dpl_memory.specs.Memory.{VariableKind, PlainKind, ArrayKind}
use Rattle.dpl_memory.specs.Resolved.{Bound, Shape, Seen, IsElement, HasNoArray, GivesOnce, SuitsKind, OrReplies, Suits, SuitsElement}
use Rattle.dpl_memory.proofs.Suiting.{unread-suits}
use Rattle.dpl_runnable.specs.Kinds.{operand_kind, leaf_of, is_promoted, IsGivenTo}
use Rattle.dpl_typed.specs.Typed.{is_rank}
use Rattle.dpl_typed.specs.Leaves.{value_kind, IsFound}
use Rattle.dpl_bound.specs.Shapes.{shape_of, takes_shape}
use Rattle.dpl_typed.specs.Simple.{IsSimpleItem}
use Rattle.dpl_bound.specs.Sights.{bound_in, AreKnownScopes}
use Rattle.dpl_runnable.proofs.Kept.{kind_if-some}
use Rattle.dpl_runnable.proofs.Operands.{IsOperand, operand}
use Rattle.dpl_runnable.proofs.Shaped.{typed-held, taken-shape, item-typed_at}
use Rattle.dpl_runnable.proofs.Fits.{unread-simple}
use Rattle.dpl_runnable.proofs.SuitedArrays.{element-suits}
use Rattle.dpl_runnable.specs.InSight.{seen_of}
use Rattle.dpl_runnable.proofs.Expressions.{variable-cases}
use Rattle.dpl_runnable.proofs.Fitting.{item-unread}
use Rattle.dpl_runnable.proofs.Wholes.{none-array}

-- ---- VALUES
-- evaluated once, what is no array has a value of its own type
once-typed : (t : ValueType) (k : VariableKind) (v : Value) → is_promoted k ≡ false → value_kind t ≡ Some k → HasType v (type_at t None) → HasType v t
once-typed t k v single e = variable-cases (λ t. HasType v (type_at t None) → HasType v t) (λ l h. h) (λ s h. h) (λ rank s r h. h) (λ rank r h. h) t k single e

-- of an operand's type there are values of its kind at each index
same_kind_by : (j : VariableKind) (k : Kind) (o : Option Operand) → IsOperand j o → operand_kind j ≡ Some k → (p : Operand) × (o ≡ Some p) × (p.kind ≡ k)
same_kind_by j k None h e = absurd (none-some k (sym h ∙ e))
same_kind_by j k (Some o) h e = (o, refl, some-same o.kind k (sym h ∙ e))

turn-value : (u : ValueType) (j : VariableKind) (k : Kind) (t : Index) (v : Value) → value_kind u ≡ Some j → operand_kind j ≡ Some k → HasType v (type_at u (Some t)) → OfKind k v
turn-value u j k t v e kind h =
    let (o, is, same) = same_kind_by j k (operand_of u) (operand u j e) kind in
    subst (λ k. OfKind k v) same (subst (HasType v) (type_at-operand u o t is) h)

element-value : (k : Kind) (v : Value) → OfKind k v → IsElement k v
element-value IntKind v h = h
element-value BoolKind v h = h

-- ---- KINDS
kind-suits : (k : VariableKind) (shape : Shape) (item : ItemTree Bound) (g : Seen) → is_promoted k ≡ false → GivesOnce k shape item g → SuitsKind k shape item g
kind-suits (ArrayKind k) shape item g single h = absurd (let f : true ≡ false = single in cc)
kind-suits _ shape item g single h = h

leaf-operand : (l : Kind) → operand_kind (PlainKind (leaf_of l)) ≡ Some l
leaf-operand IntKind = refl
leaf-operand BoolKind = refl

-- what is of an element's kind is no whole array
leaf-array : (u : ValueType) (l : LeafKind) → value_kind u ≡ Some (PlainKind l) → is_array u ≡ true → ⊥
leaf-array (Array k over) l e h = let f : ArrayKind k ≡ PlainKind l = (kind_if-some (is_rank over.rank) (ArrayKind k) (PlainKind l) e).1 in cc
leaf-array _ l e h = let f : false ≡ true = h in cc

-- ---- RIGHT SIDES
module _ (ss : Scopes) (known : AreKnownScopes ss) (is : List (Bound × Op)) (item : ItemTree Text) (found : IsSimpleItem (IsFound ss) item) (u : ValueType) (typed : item_type ss item ≡ Some u) where
  abbrev g : Seen
  g = seen_of ss is

  abbrev made : ItemTree Bound
  made = renamed_item (bound_in ss) item

  -- to a name of one slot
  once-given : (t : ValueType) (k : VariableKind) → value_kind t ≡ Some k → value_kind u ≡ Some k → is_promoted k ≡ false → takes_shape t u ≡ true → GivesOnce k (shape_of t) made g
  once-given t k of_name of_value single taken limits s shaped v e =
      let value = item-typed_at ss known is item found u typed limits s shaped None v e in
      ((typed-held u k v of_value single (once-typed u k v single of_value value)).0, λ n. taken-shape t u k v of_name single taken value)

  pub single-suits : (t : ValueType) (k : VariableKind) → value_kind t ≡ Some k → value_kind u ≡ Some k → is_promoted k ≡ false → takes_shape t u ≡ true → Suits k (shape_of t) made g
  single-suits t k of_name of_value single taken =
      unread-suits k (shape_of t) (SuitsKind k (shape_of t) made g) made (item-unread ss item found) (kind-suits k (shape_of t) made g single (once-given t k of_name of_value single taken))

  module _ (k : Kind) (shape : Shape) (j : VariableKind) (of : value_kind u ≡ Some j) (operand : operand_kind j ≡ Some k) where
    -- to an element
    element-given : (is_array u ≡ true → ⊥) → SuitsElement (ArrayKind k) shape made g
    element-given single = element-suits ss known is item found (unread-simple (IsFound ss) item found) u typed k shape j of operand single

    -- to a whole array
    none-whole : HasNoArray made → is_array u ≡ true → ⊥
    none-whole none array = by u typed array
      where
        by : (w : ValueType) → item_type ss item ≡ Some w → is_array w ≡ true → ⊥
        by (Scalar l) e h = let f : false ≡ true = h in cc
        by (Range strided) e h = let f : false ≡ true = h in cc
        by (Domain rank strided) e h = let f : false ≡ true = h in cc
        by (Array l over) e h = none-array none.0 none.1 ss item found l over e none.2
        by (Promoted l over) e h = let f : false ≡ true = h in cc
        by (Tuple rank) e h = let f : false ≡ true = h in cc
        by Locale e h = let f : false ≡ true = h in cc
        by AllLocales e h = let f : false ≡ true = h in cc
        by (Cell l) e h = let f : false ≡ true = h in cc

    pub array-suits : Suits (ArrayKind k) shape made g
    array-suits =
        unread-suits (ArrayKind k) shape (SuitsKind (ArrayKind k) shape made g) made (item-unread ss item found) (
          λ none. subst (OrReplies (ArrayKind k) shape (GivesOnce (ArrayKind k) shape made g)) (item-unread ss item found) (element-given (none-whole none)),
          λ limits s shaped i v ok. element-value k v (turn-value u j k i v of operand (item-typed_at ss known is item found u typed limits s shaped (Some i) v ok)),
        )

  pub leaf-suits : (k : Kind) (shape : Shape) → value_kind u ≡ Some (PlainKind (leaf_of k)) → SuitsElement (ArrayKind k) shape made g
  leaf-suits k shape of = element-given k shape (PlainKind (leaf_of k)) of (leaf-operand k) (leaf-array u (leaf_of k) of)

-- what an array is given has elements of its kind
pub given-operand : (l : Kind) (k : VariableKind) → IsGivenTo (ArrayKind l) k → operand_kind k ≡ Some l
given-operand l k (inl e) = ap operand_kind e
given-operand l k (inr e) = ap operand_kind e ∙ leaf-operand l

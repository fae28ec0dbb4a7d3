-- Right sides that have values of a kind, and loops that give them: forms by which a program is seen to fit.
-- Numbers, truth values, names of plain variables and ranges as they are written; and a loop over a range, each of whose
-- turns is an int.
use Rattle.std.proofs.Common.{◌≡◌, ℤ, Bool, true, false, List, [], ◌∷◌, refl, sym, subst, Ok, Err, None, Result}
use Rattle.std.specs.Prelude.{All, flat_map, map, ◌||◌, if◌then◌else◌}
use Rattle.std.proofs.lemmas.List.Elements.{All-nil, All-cons}
use Rattle.dpl_syntax.specs.declared.place.Place.{Place}
use Rattle.dpl_sets.specs.Indices.{indices}
use Rattle.dpl_sets.specs.TextRanges.{TextRange}
use Rattle.dpl_sets.specs.Ranges.{members_of}
use Rattle.dpl_language.specs.Tree.{Placed, Dots, ExprTree, Number, TruthWord, Named, ItemTree, One, RangeItem, NoStride}
use Rattle.dpl_language.specs.Values.{Value, Range, number, Fault, fault, PastLimit}
use Rattle.dpl_language.specs.Ranges.{unstrided, past_limit, high_bound, bad_count, bounded, indices_in, index_value, loop_ranges, loop_value}
use Rattle.dpl_language.specs.Outcome.{with_ok}
use Rattle.dpl_language.specs.Phrases.{item_read}
use Rattle.dpl_language.specs.Expressions.{value_of}
use Rattle.dpl_agreement.specs.Renamed.{renamed_expr}
use Rattle.dpl_sound.specs.Typed.{IsPlain, MayStride}
use Rattle.dpl_words.specs.Words.{LeafKind, IntLeaf, TruthLeaf, RangeLeaf, value_at}
use Rattle.dpl_words.proofs.OfKind.{value_at-kind}
use Rattle.dpl_memory.specs.Memory.{VariableKind, PlainKind, value_in, in_memory}
use Rattle.dpl_memory.specs.Resolved.{Shape, Bound, Seen, variable_of, HasShape, MayHold, Resolves, GivesOnce, OrReplies, Suits, SuitsTurns}

-- RIGHT SIDES
-- of one that reads no cell what is given holds
pub unread-suits : (kind : VariableKind) (shape : Shape) (given : Type 0) (item : ItemTree Bound) → item_read item ≡ None → given → OrReplies kind shape given (item_read item)
unread-suits kind shape given item unread h = subst (OrReplies kind shape given) (sym unread) h

pub Suits-number : (shape : Shape) (g : Seen) (at : Place) (n : ℤ) → Suits (PlainKind IntLeaf) shape (One (Number at n)) g
Suits-number shape g at n limits s shaped v e = ((n, cc), λ p. tt)

pub Suits-truth : (shape : Shape) (g : Seen) (at : Place) (b : Bool) → Suits (PlainKind TruthLeaf) shape (One (TruthWord at b)) g
Suits-truth shape g at b limits s shaped v e = ((b, cc), λ p. tt)

-- a name gives what is in its slot, which is of its shape
pub Suits-name : (g : Seen) (x : Placed Bound) (k : LeafKind) → x.name.variable.kind ≡ PlainKind k → Resolves x.name g → Suits (PlainKind k) x.name.shape (One (Named x)) g
Suits-name g x k is resolves limits s shaped v e =
    let same : value_at k x.name.variable.slot s.words ≡ v = cc in
    let there : HasShape (PlainKind k) x.name.shape (value_at k x.name.variable.slot s.words) = subst (λ j. HasShape j x.name.shape (value_in j x.name.variable.slot s)) is (shaped x.name resolves) in
    subst (MayHold (PlainKind k) x.name.shape) same (value_at-kind k x.name.variable.slot s.words, λ p. there)

-- a value that is found goes through what is done with it
with_ok-through : {A B : Type 0} (P : B → Type 0) (a : Result A Fault) (go : A → Result B Fault) → ((w : A) (v : B) → go w ≡ Ok v → P v) → (v : B) → with_ok a go ≡ Ok v → P v
with_ok-through P (Ok w) go p v e = p w v e
with_ok-through P (Err f) go p v e = cc

-- a range without a stride is of each range's shape
plain-strides : (strided : Bool) (r : TextRange) → IsPlain r → MayStride strided (r ∷ [])
plain-strides true r h = tt
plain-strides false r h = (h, tt)

pub bounded-plain : (at : Place) (dots : Dots) (low z : ℤ) (r : TextRange) → bounded at dots low z ≡ Ok r → IsPlain r
bounded-plain at dots low z r =
    elim (bad_count dots z || past_limit low || past_limit (high_bound dots low z)) as (λ b. (if b then Err (fault PastLimit at) else Ok (unstrided low (high_bound dots low z))) ≡ Ok r → IsPlain r)
    [ true ↦ λ e. cc | false ↦ λ e. let same : unstrided low (high_bound dots low z) ≡ r = cc in subst IsPlain same refl ]

bounded-range : (shape : Shape) (at : Place) (dots : Dots) (low z : ℤ) (v : Value) → with_ok (bounded at dots low z) (λ r. Ok (Range r)) ≡ Ok v → MayHold (PlainKind RangeLeaf) shape v
bounded-range shape at dots low z v = by (bounded at dots low z) (bounded-plain at dots low z)
  where
    by : (range : Result TextRange Fault) → ((r : TextRange) → range ≡ Ok r → IsPlain r) → with_ok range (λ r. Ok (Range r)) ≡ Ok v → MayHold (PlainKind RangeLeaf) shape v
    by (Ok r) plain e =
        let same : Range r ≡ v = cc in
        subst (MayHold (PlainKind RangeLeaf) shape) same ((r, refl), λ p. plain-strides shape.strided r (plain r refl))
    by (Err f) plain e = cc

pub Suits-range_item : (shape : Shape) (g : Seen) (low : ExprTree Bound) (at : Place) (dots : Dots) (high : ExprTree Bound) → Suits (PlainKind RangeLeaf) shape (RangeItem low at dots high NoStride) g
Suits-range_item shape g low at dots high limits s shaped =
    with_ok-through (MayHold (PlainKind RangeLeaf) shape) (value_of limits in_memory (renamed_expr variable_of low) None s) _
    (λ l. with_ok-through (MayHold (PlainKind RangeLeaf) shape) (value_of limits in_memory (renamed_expr variable_of high) None s) _
    (λ h. bounded-range shape at dots (number l) (number h)))

-- LOOPS
each_turn : (shape : Shape) (is : List ℤ) → All (λ t. MayHold (PlainKind IntLeaf) shape (index_value t)) (flat_map (λ i. map (λ t. i ∷ t) ([] ∷ [])) is)
each_turn shape [] = All-nil (λ t. MayHold (PlainKind IntLeaf) shape (index_value t))
each_turn shape (i ∷ is) = All-cons (λ t. MayHold (PlainKind IntLeaf) shape (index_value t)) (i ∷ []) (flat_map (λ i. map (λ t. i ∷ t) ([] ∷ [])) is) ((i, refl), λ p. tt) (each_turn shape is)

-- along one range the indices have one coordinate
pub line_turns : (shape : Shape) (r : TextRange) → All (λ t. MayHold (PlainKind IntLeaf) shape (index_value t)) (indices_in (r ∷ []))
unfolding indices
line_turns shape r = each_turn shape (members_of r.value)

pub SuitsTurns-ranges : (item : ItemTree Bound) (shape other : Shape) (g : Seen) → GivesOnce (PlainKind RangeLeaf) other item g → SuitsTurns (PlainKind IntLeaf) shape item g
SuitsTurns-ranges item shape other g f limits s shaped over e =
    let range = (f limits s shaped over e).0 in
    subst (λ v. All (λ t. MayHold (PlainKind IntLeaf) shape (loop_value v t)) (indices_in (loop_ranges limits.locales v))) (sym range.1) (line_turns shape range.0)

-- A turn binds its index: some slots begin anew, and the loop's variables hold the index.
use Rattle.std.proofs.Common.{◌≡◌, ℕ, ◌<◌, ℤ, pos, Bool, true, false, List, [], ◌∷◌, map, length, get_or, set, refl, ap, ◌∙◌, arith}
use Rattle.std.specs.Prelude.{◌==◌, ◌||◌}
use Rattle.std.specs.List.{AllByRecursion}
use Rattle.std.proofs.lemmas.List.{get_or-set_same, get_or-set_other}
use Rattle.dpl_sets.specs.TextRanges.{TextRange}
use Rattle.dpl_language.specs.Values.{Int, Domain, Index, number, coordinates}
use Rattle.dpl_language.specs.Ranges.{index_value}
use Rattle.dpl_language.specs.Loops.{declare_each, bound_to}
use Rattle.dpl_lowered.specs.Shapes.{nowhere}
use Rattle.dpl_words.specs.Words.{IntLeaf, no_range}
use Rattle.dpl_memory.specs.Memory.{PlainKind, TupleKind, Memory, no_tuple, with_value_in, renewed, anew, is_among, in_memory}
use Rattle.dpl_language.specs.Tree.{Placed, AfterComma}
use Rattle.dpl_memory.specs.Memory.{Variable}
use Rattle.dpl_apart.specs.Rows.{AreOnce}
use Rattle.dpl_turns.specs.Alongside.{put_in, slots_in, begun}
use Rattle.dpl_turns.specs.Bodies.{OwnNames, NoNames, OneInt, Ints, OneTuple, own_slots, Hold, AreOfRank, leaf_along, loop_variables, slots_onto, own_numbers, own_tuples}
use Rattle.dpl_turns.proofs.Lists.{not-equal, put-length}

-- ---- what begins anew, as values that are put
abbrev pub zeroed : List ℕ → List (ℕ × ℤ)
zeroed slots = map {A = ℕ} {B = ℕ × ℤ} (λ slot. (slot, pos 0)) slots

abbrev pub emptied : List ℕ → List (ℕ × TextRange)
emptied slots = map {A = ℕ} {B = ℕ × TextRange} (λ slot. (slot, no_range)) slots

abbrev pub untupled : List ℕ → List (ℕ × Index)
untupled slots = map {A = ℕ} {B = ℕ × Index} (λ slot. (slot, no_tuple)) slots

-- a coordinate for each slot; a slot without one gets 0
abbrev pub numbered_onto : List ℕ → Index → List (ℕ × ℤ) → List (ℕ × ℤ)
numbered_onto [] t behind = behind
numbered_onto (slot ∷ slots) [] behind = numbered_onto slots [] ((slot, pos 0) ∷ behind)
numbered_onto (slot ∷ slots) (i ∷ t) behind = numbered_onto slots t ((slot, i) ∷ behind)

abbrev pub number_puts : OwnNames → List ℕ → Index → List (ℕ × ℤ)
number_puts NoNames along t = zeroed along
number_puts (OneInt slot) along t = (slot, number (index_value t)) ∷ zeroed along
number_puts (Ints first others) along t = numbered_onto (first ∷ others) t (zeroed along)
number_puts (OneTuple slot) along t = zeroed along

abbrev pub tuple_puts : OwnNames → List ℕ → Index → List (ℕ × Index)
tuple_puts NoNames along t = untupled along
tuple_puts (OneInt slot) along t = untupled along
tuple_puts (Ints first others) along t = untupled along
tuple_puts (OneTuple slot) along t = (slot, coordinates (index_value t)) ∷ untupled along

anew-begun : (along : List ℕ) (s : Memory) → anew along s ≡ begun (zeroed along) (emptied along) (untupled along) s
anew-begun [] s = refl
anew-begun (slot ∷ slots) s = ap (renewed slot) (anew-begun slots s)

abbrev pub others_of : List ℕ → List (Placed Variable)
others_of slots = map {A = AfterComma (Placed Variable)} {B = Placed Variable} (λ x. x.part) (map {A = ℕ} {B = AfterComma (Placed Variable)} (λ slot. record { comma = nowhere; part = leaf_along (PlainKind IntLeaf) slot [] }) slots)

each-begun : (slots : List ℕ) (t : Index) (ns : List (ℕ × ℤ)) (rs : List (ℕ × TextRange)) (ts : List (ℕ × Index)) (s : Memory)
    → declare_each in_memory (others_of slots) t (begun ns rs ts s) ≡ begun (numbered_onto slots t ns) rs ts s
each-begun [] t ns rs ts s = refl
each-begun (slot ∷ slots) [] ns rs ts s = each-begun slots [] ((slot, pos 0) ∷ ns) rs ts s
each-begun (slot ∷ slots) (i ∷ t) ns rs ts s = each-begun slots t ((slot, i) ∷ ns) rs ts s

pub bound-begun : (own : OwnNames) (rank : ℕ) (along : List ℕ) (t : Index) (s : Memory) → AreOfRank own rank
    → bound_to in_memory (loop_variables own along) (Domain []) t s ≡ begun (number_puts own along t) (emptied along) (tuple_puts own along t) s
bound-begun NoNames rank along t s of_rank = absurd of_rank
bound-begun (OneInt slot) rank along t s of_rank = ap (with_value_in (PlainKind IntLeaf) slot (index_value t)) (anew-begun along s)
bound-begun (Ints first others) rank along [] s of_rank =
    ap (λ s. declare_each in_memory (others_of others) [] (with_value_in (PlainKind IntLeaf) first (Int (pos 0)) s)) (anew-begun along s)
    ∙ each-begun others [] ((first, pos 0) ∷ zeroed along) (emptied along) (untupled along) s
bound-begun (Ints first others) rank along (i ∷ t) s of_rank =
    ap (λ s. declare_each in_memory (others_of others) t (with_value_in (PlainKind IntLeaf) first (Int i) s)) (anew-begun along s)
    ∙ each-begun others t ((first, i) ∷ zeroed along) (emptied along) (untupled along) s
bound-begun (OneTuple slot) rank along t s of_rank = ap (with_value_in TupleKind slot (index_value t)) (anew-begun along s)

-- ---- the slots of these
zeroed-slots : (along : List ℕ) → slots_in (zeroed along) ≡ along
zeroed-slots [] = refl
zeroed-slots (slot ∷ slots) = ap (λ ss. slot ∷ ss) (zeroed-slots slots)

pub emptied-slots : (along : List ℕ) → slots_in (emptied along) ≡ along
emptied-slots [] = refl
emptied-slots (slot ∷ slots) = ap (λ ss. slot ∷ ss) (emptied-slots slots)

untupled-slots : (along : List ℕ) → slots_in (untupled along) ≡ along
untupled-slots [] = refl
untupled-slots (slot ∷ slots) = ap (λ ss. slot ∷ ss) (untupled-slots slots)

onto-slots : (slots : List ℕ) (t : Index) (behind : List (ℕ × ℤ)) → slots_in (numbered_onto slots t behind) ≡ slots_onto slots (slots_in behind)
onto-slots [] t behind = refl
onto-slots (slot ∷ slots) [] behind = onto-slots slots [] ((slot, pos 0) ∷ behind)
onto-slots (slot ∷ slots) (i ∷ t) behind = onto-slots slots t ((slot, i) ∷ behind)

pub number-slots : (own : OwnNames) (along : List ℕ) (t : Index) → slots_in (number_puts own along t) ≡ own_numbers own along
number-slots NoNames along t = zeroed-slots along
number-slots (OneInt slot) along t = ap (λ ss. slot ∷ ss) (zeroed-slots along)
number-slots (Ints first others) along t = onto-slots (first ∷ others) t (zeroed along) ∙ ap (slots_onto (first ∷ others)) (zeroed-slots along)
number-slots (OneTuple slot) along t = zeroed-slots along

pub tuple-slots : (own : OwnNames) (along : List ℕ) (t : Index) → slots_in (tuple_puts own along t) ≡ own_tuples own along
tuple-slots NoNames along t = untupled-slots along
tuple-slots (OneInt slot) along t = untupled-slots along
tuple-slots (Ints first others) along t = untupled-slots along
tuple-slots (OneTuple slot) along t = ap (λ ss. slot ∷ ss) (untupled-slots along)

-- ---- the index that the variables hold
abbrev pub taken : List ℕ → Index → Index
taken [] t = []
taken (slot ∷ slots) [] = pos 0 ∷ taken slots []
taken (slot ∷ slots) (i ∷ t) = i ∷ taken slots t

abbrev pub seen : OwnNames → Index → Index
seen NoNames t = t
seen (OneInt slot) t = number (index_value t) ∷ []
seen (Ints first others) t = taken (first ∷ others) t
seen (OneTuple slot) t = coordinates (index_value t)

taken-all : (slots : List ℕ) (t : Index) → length t ≡ length slots → taken slots t ≡ t
taken-all [] [] e = refl
taken-all [] (i ∷ t) e = absurd (omega (arith, e))
taken-all (slot ∷ slots) [] e = absurd (omega (arith, e))
taken-all (slot ∷ slots) (i ∷ t) e = ap (λ is. i ∷ is) (taken-all slots t (omega (arith, e)))

one-seen : (t : Index) → length t ≡ 1 → number (index_value t) ∷ [] ≡ t
one-seen [] e = absurd (omega (arith, e))
one-seen (i ∷ []) e = refl
one-seen (i ∷ j ∷ is) e = absurd (omega (arith, e))

tuple-seen : (t : Index) → coordinates (index_value t) ≡ t
tuple-seen [] = refl
tuple-seen (i ∷ []) = refl
tuple-seen (i ∷ j ∷ is) = refl

-- is that of the turn, where this is of the loop's rank
pub seen-own : (own : OwnNames) (rank : ℕ) (t : Index) → AreOfRank own rank → length t ≡ rank → seen own t ≡ t
seen-own NoNames rank t of_rank e = refl
seen-own (OneInt slot) rank t of_rank e = one-seen t (e ∙ of_rank)
seen-own (Ints first others) rank t of_rank e = taken-all (first ∷ others) t (e ∙ of_rank)
seen-own (OneTuple slot) rank t of_rank e = tuple-seen t

onto-other : (slots : List ℕ) (t : Index) (behind : List (ℕ × ℤ)) (ns : List ℤ) (j : ℕ) → is_among j slots ≡ false
    → get_or (put_in (numbered_onto slots t behind) ns) j (pos 0) ≡ get_or (put_in behind ns) j (pos 0)
onto-other [] t behind ns j none = refl
onto-other (slot ∷ slots) [] behind ns j none = by (j == slot) refl none (onto-other slots [] ((slot, pos 0) ∷ behind) ns j) where
  by : (c : Bool) → (j == slot) ≡ c → (c || is_among j slots) ≡ false
      → (is_among j slots ≡ false → get_or (put_in (numbered_onto slots [] ((slot, pos 0) ∷ behind)) ns) j (pos 0) ≡ get_or (set (put_in behind ns) slot (pos 0)) j (pos 0))
      → get_or (put_in (numbered_onto slots [] ((slot, pos 0) ∷ behind)) ns) j (pos 0) ≡ get_or (put_in behind ns) j (pos 0)
  by true e none rest = absurd cc
  by false e none rest = rest none ∙ get_or-set_other (put_in behind ns) slot j (pos 0) (pos 0) (not-equal j slot e)
onto-other (slot ∷ slots) (i ∷ t) behind ns j none = by (j == slot) refl none (onto-other slots t ((slot, i) ∷ behind) ns j) where
  by : (c : Bool) → (j == slot) ≡ c → (c || is_among j slots) ≡ false
      → (is_among j slots ≡ false → get_or (put_in (numbered_onto slots t ((slot, i) ∷ behind)) ns) j (pos 0) ≡ get_or (set (put_in behind ns) slot i) j (pos 0))
      → get_or (put_in (numbered_onto slots t ((slot, i) ∷ behind)) ns) j (pos 0) ≡ get_or (put_in behind ns) j (pos 0)
  by true e none rest = absurd cc
  by false e none rest = rest none ∙ get_or-set_other (put_in behind ns) slot j i (pos 0) (not-equal j slot e)

put-here : {A : Type 0} (ps : List (ℕ × A)) (xs : List A) (slot : ℕ) (v d : A) → slot < length xs → get_or (set (put_in ps xs) slot v) slot d ≡ v
put-here ps xs slot v d below = let long = put-length ps xs in get_or-set_same (put_in ps xs) slot v d (omega (arith, below, long))

onto-read : (slots : List ℕ) (t : Index) (behind : List (ℕ × ℤ)) (ns : List ℤ) → AreOnce slots → AllByRecursion (λ slot. slot < length ns) slots
    → map (λ slot. get_or (put_in (numbered_onto slots t behind) ns) slot (pos 0)) slots ≡ taken slots t
onto-read [] t behind ns once room = refl
onto-read (slot ∷ slots) [] behind ns once room =
    let here = onto-other slots [] ((slot, pos 0) ∷ behind) ns slot once.0 ∙ put-here behind ns slot (pos 0) (pos 0) room.0 in
    let rest = onto-read slots [] ((slot, pos 0) ∷ behind) ns once.1 room.1 in
    λ k. here k ∷ rest k
onto-read (slot ∷ slots) (i ∷ t) behind ns once room =
    let here = onto-other slots t ((slot, i) ∷ behind) ns slot once.0 ∙ put-here behind ns slot i (pos 0) room.0 in
    let rest = onto-read slots t ((slot, i) ∷ behind) ns once.1 room.1 in
    λ k. here k ∷ rest k

onto-parts : (P : ℕ → Type 0) (slots behind : List ℕ) → AllByRecursion P (slots_onto slots behind) → AllByRecursion P slots × AllByRecursion P behind
onto-parts P [] behind all = (tt, all)
onto-parts P (slot ∷ slots) behind all = let parts = onto-parts P slots (slot ∷ behind) all in ((parts.1.0, parts.0), parts.1.1)

pub holds-seen : (own : OwnNames) (along : List ℕ) (t : Index) (ns : List ℤ) (ts : List Index) → AreOnce (own_slots own) → AllByRecursion (λ slot. slot < length ns) (own_numbers own along)
    → AllByRecursion (λ slot. slot < length ts) (own_tuples own along) → Hold own (seen own t) (put_in (number_puts own along t) ns) (put_in (tuple_puts own along t) ts)
holds-seen NoNames along t ns ts once room tuple_room = tt
holds-seen (OneInt slot) along t ns ts once room tuple_room = ap (λ w. w ∷ []) (put-here (zeroed along) ns slot (number (index_value t)) (pos 0) room.0)
holds-seen (Ints first others) along t ns ts once room tuple_room = onto-read (first ∷ others) t (zeroed along) ns once (onto-parts (λ slot. slot < length ns) (first ∷ others) along room).0
holds-seen (OneTuple slot) along t ns ts once room tuple_room = put-here (untupled along) ts slot (coordinates (index_value t)) no_tuple tuple_room.0

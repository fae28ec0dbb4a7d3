-- Pieces that are taken out and put back, and the array that they make together.
use Rattle.std.proofs.Common.{◌≡◌, ℕ, zero, suc, List, [], ◌∷◌, ℤ, pos, map, Option, Some, None, refl, ap, sym, ◌∙◌, slice_index_or, slice_set}
use Rattle.std.specs.Prelude.{unwrap_or}
use Rattle.dpl_sets.specs.TextRanges.{TextRange}
use Rattle.dpl_map.specs.Maps.{AxisValue, owner}
use Rattle.dpl_language.specs.Values.{Index}
use Rattle.dpl_language.specs.Ranges.{indices_in}
use Rattle.dpl_memory.specs.Memory.{Held, Memory, held_at, array_at}
use Rattle.dpl_memory.specs.Pieces.{left_by, rejoined}
use Rattle.dpl_array.specs.Rows.{StandsIn}
use Rattle.dpl_array.proofs.ElementLemmas.{stands-later}
use Rattle.dpl_contents.specs.Parted.{Parted, parted, piece_of, with_piece, word_in, whole_of}

put-same : (xs : List (Option Held)) (l : ℕ) (a : Held) → slice_index_or xs l None ≡ Some a → slice_set (slice_set xs l None) l (Some a) ≡ xs
put-same [] l a is = absurd cc
put-same (x ∷ xs) zero a is = ap (λ (o : Option Held). o ∷ xs) (sym is)
put-same (x ∷ xs) (suc l) a is = ap (λ (ys : List (Option Held)). x ∷ ys) (put-same xs l a is)

-- a piece that is put back unchanged
pub put-taken : (l : ℕ) (a : Held) (p : Parted) → piece_of l p ≡ Some a → a.ranges ≡ p.ranges → with_piece l (Some (record a { ranges = p.ranges })) (with_piece l None p) ≡ p
put-taken l a p is ranges =
    ap (λ (rs : List TextRange). with_piece l (Some (record a { ranges = rs })) (with_piece l None p)) (sym ranges)
    ∙ ap (λ (xs : List (Option Held)). record p { pieces = xs }) (put-same p.pieces l a is)

-- an array that is taken apart and put together unchanged: by what `ArrayWords::take_pieces` and `PiecesWords::put_back` say
pub back-again : (axes : List AxisValue) (a b : Held) (p : Parted) → p ≡ parted axes a → whole_of p ≡ a → b ≡ whole_of (parted axes a) → b ≡ a
back-again axes a b p is back made = made ∙ ap whole_of (sym is) ∙ back

-- WHAT WORKERS LEAVE
maps-on : {A B : Type 0} (f g : A → B) (xs : List A) → ((x : A) → StandsIn xs x → f x ≡ g x) → map f xs ≡ map g xs
maps-on f g [] same = refl
maps-on f g (x ∷ xs) same = ap (λ y. y ∷ map f xs) (same x (0, refl)) ∙ ap (λ ys. g x ∷ ys) (maps-on f g xs (λ y at. same y (stands-later x xs y at)))

-- where the piece of each index's owner has the word that the owner's worker has left, the pieces make the array that workers leave together
pub whole-rejoined : (p : Parted) (a : Held) (ws : List (ℕ × Memory)) (m : Memory) (slot : ℕ) → a.ranges ≡ p.ranges → a.keys ≡ indices_in a.ranges
    → ((t : Index) → StandsIn a.keys t → word_in t (piece_of (owner p.axes t) p) ≡ held_at t (array_at slot (left_by (owner p.axes t) ws m)))
    → whole_of p ≡ rejoined (owner p.axes) ws m slot a
whole-rejoined p a ws m slot ranges keys left =
    ap (λ (rs : List TextRange). made rs (indices_in rs) (map has (indices_in rs))) (sym ranges)
    ∙ ap (λ (ks : List Index). made a.ranges ks (map has ks)) (sym keys)
    ∙ ap (made a.ranges a.keys) (maps-on has leaves a.keys (λ t at. ap (λ o. unwrap_or o (pos 0)) (left t at)))
  where
    has : Index → ℤ
    has t = unwrap_or (word_in t (piece_of (owner p.axes t) p)) (pos 0)

    leaves : Index → ℤ
    leaves t = unwrap_or (held_at t (array_at slot (left_by (owner p.axes t) ws m))) (pos 0)

    made : List TextRange → List Index → List ℤ → Held
    made rs ks ws = record { ranges = rs; keys = ks; words = ws }

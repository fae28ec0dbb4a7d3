-- Words put along a row and then more along the rest of it: it is putting them all along the row.
use Rattle.std.proofs.Common.{◌≡◌, ◌<◌, ◌≤◌, ◌+◌, ◌-◌, ⊎_elim, ℕ, zero, suc, ℤ, true, List, [], ◌∷◌, length, take, drop, set, get_or, slice_get, Option, Some, None, is_some, refl, sym, ap, ◌∙◌, arith}
use Rattle.std.proofs.lemmas.Bool.{cases_lt}
use Rattle.std.proofs.lemmas.List.{length-drop}
use Rattle.std.proofs.lemmas.Option.{slice_get_past}
use Rattle.std.proofs.Math.Seq.{take-length}
use Rattle.dpl_array.specs.Elements.{Row, behind, put_some, put_in_row}
use Rattle.dpl_language.specs.Values.{Index}
use Rattle.dpl_memory.specs.Memory.{Held, no_array, array_at, with_array, held_at, held_with}
use Rattle.dpl_frame.specs.Frames.{Framed, with_memory}
use Rattle.dpl_strips.proofs.RowParts.{behind-more}
use Rattle.dpl_elements.proofs.Alongside.{held-still}

-- what stands in the rest of a list
slice_get-drop : (n : ℕ) (ws : List ℤ) (k : ℕ) → slice_get (drop n ws) k ≡ slice_get ws (n + k)
slice_get-drop zero ws k =
    let same : k ≡ 0 + k = omega arith in
    ap (slice_get ws) same
slice_get-drop (suc n) [] k = slice_get_past [] k (omega arith) ∙ sym (slice_get_past [] (suc n + k) (omega arith))
slice_get-drop (suc n) (w ∷ ws) k =
    let same : suc (n + k) ≡ suc n + k = omega arith in
    slice_get-drop n ws k ∙ ap (slice_get (w ∷ ws)) same

-- all that is left of a list, told by how much that is
pub all-left : (n : ℕ) (ws : List ℤ) → take (length ws - n) (drop n ws) ≡ drop n ws
all-left n ws = ap (λ k. take k (drop n ws)) (sym (length-drop n ws)) ∙ take-length (drop n ws)

-- an index that is there stays there
put-still : (u : Index) (t : Row) (ws : List ℤ) (k : ℕ) (a : Held) → is_some (held_at u (put_in_row held_with t ws k a)) ≡ is_some (held_at u a)
put-still u t ws zero a = refl
put-still u t ws (suc k) a = by (slice_get ws k) ∙ put-still u t ws k a
  where
    by : (o : Option ℤ) → is_some (held_at u (put_some held_with (behind k t) o (put_in_row held_with t ws k a))) ≡ is_some (held_at u (put_in_row held_with t ws k a))
    by None = refl
    by (Some w) = held-still (behind k t) u w (put_in_row held_with t ws k a)

-- a slot that is written twice
put-twice : (arrays : List Held) (slot : ℕ) (a : Held) (f : Held → Held) → set (set arrays slot a) slot (f (get_or (set arrays slot a) slot no_array)) ≡ set arrays slot (f a)
put-twice [] slot a f = refl
put-twice (b ∷ arrays) zero a f = refl
put-twice (b ∷ arrays) (suc slot) a f = ap {B = List Held} (λ rest. b ∷ rest) (put-twice arrays slot a f)

slot-still : (arrays : List Held) (slot : ℕ) (f : Held → Held) (u : Index) → ((a : Held) → is_some (held_at u (f a)) ≡ is_some (held_at u a))
    → is_some (held_at u (get_or (set arrays slot (f (get_or arrays slot no_array))) slot no_array)) ≡ is_some (held_at u (get_or arrays slot no_array))
slot-still [] slot f u still = refl
slot-still (b ∷ arrays) zero f u still = still b
slot-still (b ∷ arrays) (suc slot) f u still = slot-still arrays slot f u still

-- a frame after so many words along a row
abbrev pub frame_put : ℕ → Row → List ℤ → ℕ → Framed → Framed
frame_put slot t ws n f = with_memory (with_array slot (put_in_row held_with t ws n (array_at slot f.memory)) f.memory) f

module _ (slot : ℕ) (at rest : Row) (ws : List ℤ) (a b : ℕ) (is : rest ≡ record { first = behind a at; step = at.step }) where
  behind-first : (j : ℕ) → behind j rest ≡ behind (a + j) at
  behind-first j = ap (behind j) is ∙ behind-more at a j

  put-more : (n : ℕ) (h : Held) → put_in_row held_with rest (drop a ws) n (put_in_row held_with at ws a h) ≡ put_in_row held_with at ws (a + n) h
  put-more zero h =
      let same : a ≡ a + 0 = omega arith in
      ap (λ n. put_in_row held_with at ws n h) same
  put-more (suc j) h =
      let same : suc (a + j) ≡ a + suc j = omega arith in
      let so_far = put_in_row held_with at ws (a + j) h in
      ap (put_some held_with (behind j rest) (slice_get (drop a ws) j)) (put-more j h)
      ∙ ap (λ o. put_some held_with (behind j rest) o so_far) (slice_get-drop a ws j)
      ∙ ap (λ t. put_some held_with t (slice_get ws (a + j)) so_far) (behind-first j)
      ∙ ap (λ n. put_in_row held_with at ws n h) same

  -- and after those along the rest
  pub both-put : (f g h : Framed) → g ≡ frame_put slot at ws a f → h ≡ frame_put slot rest (take (length ws - a) (drop a ws)) b g → h ≡ frame_put slot at ws (a + b) f
  both-put f g h first second =
      second
      ∙ ap (λ vs. frame_put slot rest vs b g) (all-left a ws)
      ∙ ap (frame_put slot rest (drop a ws) b) first
      ∙ ap (λ held. with_memory (record f.memory { arrays = held }) f)
      (put-twice f.memory.arrays slot (put_in_row held_with at ws a (array_at slot f.memory)) (put_in_row held_with rest (drop a ws) b)
      ∙ ap (set f.memory.arrays slot) (put-more b (array_at slot f.memory)))

  pub both-there : (f g : Framed) → g ≡ frame_put slot at ws a f → ((k : ℕ) → k < a → is_some (held_at (behind k at) (array_at slot f.memory)) ≡ true)
      → ((k : ℕ) → k < b → is_some (held_at (behind k rest) (array_at slot g.memory)) ≡ true) → (k : ℕ) → k < a + b → is_some (held_at (behind k at) (array_at slot f.memory)) ≡ true
  both-there f g first there there_behind k below =
      ⊎_elim
      (λ (less : k < a). there k less)
      (λ (later : a ≤ k).
      let j = k - a in
      let same : a + j ≡ k = omega (arith, later) in
      sym (slot-still f.memory.arrays slot (put_in_row held_with at ws a) (behind k at) (put-still (behind k at) at ws a))
      ∙ ap (λ (g : Framed). is_some (held_at (behind k at) (array_at slot g.memory))) (sym first)
      ∙ ap (λ t. is_some (held_at t (array_at slot g.memory))) (ap (λ k. behind k at) (sym same) ∙ sym (behind-first j))
      ∙ there_behind j (omega (arith, later, below)))
      (cases_lt k a)

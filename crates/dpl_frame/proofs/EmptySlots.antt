-- Slots without an array: what they hold, how many of them there are, and what is put into slots.
-- Each lemma has what such slots hold on its left side.
use Rattle.std.proofs.Common.{◌≡◌, ℕ, ◌+◌, ◌<◌, ◌≤◌, ℤ, pos, List, [], ◌∷◌, ◌++◌, length, map, replicate, set, get_or, Option, None, refl, sym, subst, ap, ◌∙◌}
use Rattle.std.specs.Prelude.{unwrap_or}
use Rattle.std.proofs.Math.ListN.{get_or-eq_default}
use Rattle.std.proofs.lemmas.List.{get_or-map, map-set, set-set, set_past, length-map, replicate-append-replicate}
use Rattle.dpl_sets.specs.TextRanges.{TextRange}
use Rattle.dpl_language.specs.Values.{Index}
use Rattle.dpl_language.specs.Ranges.{indices_in}
use Rattle.dpl_memory.specs.Memory.{Held, whole_held, no_array, held_at, held_with, held_over}
use Rattle.dpl_frame.specs.Frames.{held_in}

-- such an array has no element
pub held_at_none : (t : Index) → held_at t no_array ≡ None
held_at_none t = refl

-- and none is put there
pub held_with_none : (t : Index) (w : ℤ) → held_with t w no_array ≡ no_array
held_with_none t w = refl

-- an array is put into a slot
pub held_set : (xs : List (Option Held)) (k : ℕ) (a : Option Held) → map held_in (set xs k a) ≡ set (map held_in xs) k (held_in a)
held_set xs k a = map-set held_in xs k a

-- past the last slot there is none, and nothing is changed
pub put_past : (xs : List (Option Held)) (slot : ℕ) (a : Held) → length xs ≤ slot → set (map held_in xs) slot a ≡ map held_in xs
put_past xs slot a past = set_past (map held_in xs) slot a (subst (λ n. n ≤ slot) (sym (length-map xs held_in)) past)

pub none_past : (xs : List (Option Held)) (slot : ℕ) → length xs ≤ slot → get_or (map held_in xs) slot no_array ≡ no_array
none_past xs slot past = get_or-eq_default (map held_in xs) no_array (subst (λ n. n ≤ slot) (sym (length-map xs held_in)) past)

pub held_within : (xs : List (Option Held)) (slot : ℕ) (d : Option Held) → slot < length xs → get_or (map held_in xs) slot no_array ≡ held_in (get_or xs slot d)
held_within xs slot d within = get_or-map held_in xs slot d no_array within

-- what is read of a slot that is there, and what is put into it
module _ (xs : List (Option Held)) (slot : ℕ) (was : Option Held) (seen : List Held) (view : map held_in xs ≡ seen) (within : slot < length xs) (is : was ≡ get_or xs slot was) where
  pub held-seen : get_or seen slot no_array ≡ held_in was
  held-seen = sym (ap (λ hs. get_or hs slot no_array) view) ∙ held_within xs slot was within ∙ sym (ap held_in is)

  pub set-seen : (f : Held → Held) (a : Option Held) → held_in a ≡ f (held_in was) → map held_in (set xs slot a) ≡ set seen slot (f (get_or seen slot no_array))
  set-seen f a e = held_set xs slot a ∙ ap (λ hs. set hs slot (held_in a)) view ∙ ap (set seen slot) (e ∙ ap f (sym held-seen))

  -- what stood there before changes nothing
  pub set-taken : (f : Held → Held) (gone a : Option Held) → held_in a ≡ f (held_in was) → map held_in (set (set xs slot gone) slot a) ≡ set seen slot (f (get_or seen slot no_array))
  set-taken f gone a e = ap (map held_in) (set-set xs slot gone a) ∙ set-seen f a e

-- over another domain it holds 0 everywhere
zeros-held : (ts : List Index) → map (λ t. unwrap_or (held_at t no_array) (pos 0)) ts ≡ map (λ t. pos 0) ts
zeros-held [] = refl
zeros-held (t ∷ ts) = ap (λ o. unwrap_or o (pos 0) ∷ map (λ t. unwrap_or (held_at t no_array) (pos 0)) ts) (held_at_none t) ∙ ap (λ ws. pos 0 ∷ ws) (zeros-held ts)

pub held_over_none : (rs : List TextRange) → held_over rs no_array ≡ whole_held rs (map (λ t. pos 0) (indices_in rs))
held_over_none rs = ap (λ ws. whole_held rs ws) (zeros-held (indices_in rs))

-- one more thing of a kind
pub replicate_next : {A : Type 0} (n : ℕ) (x : A) → replicate n x ++ x ∷ [] ≡ replicate (n + 1) x
replicate_next n x = replicate-append-replicate n 1 x

-- Ints that go into elements side by side, by an operator that doesn't divide: each is the change of its element.
use Rattle.std.proofs.Common.{◌≡◌, ◌≢◌, ◌<◌, ◌+◌, ℕ, suc, ℤ, pos, true, false, List, length, set, get_or, slice_get, Option, Some, None, option_map, is_some, refl, ap, ◌∙◌, arith}
use Rattle.dpl_syntax.specs.declared.place.Place.{Place}
use Rattle.dpl_array.specs.Elements.{Row, behind}
use Rattle.dpl_language.specs.Tree.{Assign, IntKind}
use Rattle.dpl_language.specs.Values.{Value, Int, Index}
use Rattle.dpl_language.specs.Arithmetic.{assigned, assign_divides, tested_divisor}
use Rattle.dpl_language.specs.Outcome.{Deeds, Done, with_value}
use Rattle.dpl_language.specs.Environment.{Limits}
use Rattle.dpl_language.specs.Expressions.{found}
use Rattle.dpl_language.specs.Assignments.{change}
use Rattle.dpl_memory.specs.Memory.{ArrayKind, Held, Memory, no_array, array_at, with_array, with_element_in, held_at, held_with, element_as, in_memory}
use Rattle.dpl_nodes.specs.declared.step.ArrayName.{ArrayName}
use Rattle.dpl_nodes.specs.Steps.{array_leaf}
use Rattle.dpl_loop.specs.declared.strip.Strip.{Strip}
use Rattle.dpl_elements.specs.Changes.{signed}
use Rattle.dpl_elements.specs.Rows.{ArePut}
use Rattle.dpl_elements.proofs.Alongside.{arrays_put, held-within, none-put, others-put, next-same, next-put}

some-of : (o : Option ℤ) → is_some o ≡ true → (n : ℤ) × (o ≡ Some n)
some-of None there = absurd cc
some-of (Some n) there = (n, refl)

-- an element that is there goes into what such an operator makes of it
pub change-there : (limits : Limits) (x : ArrayName) (op : Assign) (sign : Place) (t : Index) (v : Value) (u : Memory) (done : Deeds) (old w : ℤ)
    → held_at t (array_at x.slot u) ≡ Some old → assign_divides op ≡ false → assigned op None (Int old) v ≡ Int w
    → change limits in_memory (array_leaf IntKind x) (signed op sign) t v u done ≡ Done (with_array x.slot (held_with t w (array_at x.slot u)) u) done
change-there limits x op sign t v u done old w there divides becomes =
    ap (λ o. with_value (found x.at.now (option_map (element_as IntKind) o)) (λ old. with_value (tested_divisor (assign_divides op) sign v) (λ w s done. Done (with_element_in (ArrayKind IntKind) x.slot t (assigned op None old w) s) done)) u done) there
    ∙ ap (λ b. with_value (tested_divisor b sign v) (λ w s done. Done (with_element_in (ArrayKind IntKind) x.slot t (assigned op None (Int old) w) s) done) u done) divides
    ∙ ap (λ w. Done (with_element_in (ArrayKind IntKind) x.slot t w u) done) becomes

module _
    (limits : Limits) (x : ArrayName) (op : Assign) (sign : Place) (at : Row) (strip : Strip) (size : ℕ) (ws : List ℤ) (arrays : List Held)
    (some : 0 < length at.first) (divides : 0 < size → assign_divides op ≡ false) (moves : at.step ≢ pos 0)
    (there : (k : ℕ) → k < size → is_some (held_at (behind k at) (get_or arrays x.slot no_array)) ≡ true)
    (words : (k : ℕ) → k < size → (w : ℤ) × (slice_get ws k ≡ Some w) × ((old : ℤ) → held_at (behind k at) (get_or arrays x.slot no_array) ≡ Some old → assigned op None (Int old) (Int (get_or strip.words k (pos 0))) ≡ Int w)) where
  within : (k : ℕ) → k < size → x.slot < length arrays
  within k below = held-within x.slot (behind k at) arrays (there k below)

  one-put : (k : ℕ) → k < size → (u : Memory) → u.arrays ≡ arrays_put x.slot at ws arrays k → (done : Deeds)
      → change limits in_memory (array_leaf IntKind x) (signed op sign) (behind k at) (Int (get_or strip.words k (pos 0))) u done ≡ Done (record u { arrays = arrays_put x.slot at ws arrays (k + 1) }) done
  one-put k below u same done =
      let word = words k below in
      let old = some-of (held_at (behind k at) (get_or arrays x.slot no_array)) (there k below) in
      let next : suc k ≡ k + 1 = omega arith in
      let here = ap (λ held. held_at (behind k at) (get_or held x.slot no_array)) same ∙ next-same x.slot at ws arrays (within k below) some moves k x.slot ∙ old.1 in
      change-there limits x op sign (behind k at) (Int (get_or strip.words k (pos 0))) u done old.0 word.0 here (divides (omega (arith, below))) (word.2 old.0 old.1)
      ∙ ap (λ held. Done (record u { arrays = set held x.slot (held_with (behind k at) word.0 (get_or held x.slot no_array)) }) done) same
      ∙ ap (λ held. Done (record u { arrays = held }) done) (next-put x.slot at ws arrays (within k below) some moves k word.0 word.1)
      ∙ ap (λ n. Done (record u { arrays = arrays_put x.slot at ws arrays n }) done) next

  pub are-put : ArePut limits x (signed op sign) at strip size arrays (arrays_put x.slot at ws arrays size)
  are-put = record {
    between = arrays_put x.slot at ws arrays;
    begins = none-put x.slot at ws arrays;
    ends = refl;
    each = one-put;
    others = λ k slot other. others-put x.slot at ws arrays k slot other;
    next = λ k slot below. next-same x.slot at ws arrays (within k below) some moves k slot;
  }

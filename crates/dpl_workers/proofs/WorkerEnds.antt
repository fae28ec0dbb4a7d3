-- How a forall ends by how its workers' turns ended: the soonest of their ends is that of the forall.
use Rattle.std.proofs.Common.{◌≡◌, ◌<◌, ◌≤◌, ◌+◌, ◌-◌, ℕ, zero, suc, ◌==◌, ℤ, pos, Bool, true, false, cond, List, [], ◌∷◌, ◌++◌, Option, Some, None, Result, Ok, Err, length, take, drop, get_or, slice_get, refl, sym, ap, ◌∙◌, subst, arith}
use Rattle.std.specs.Prelude.{nat_lt, if◌then◌else◌}
use Rattle.std.specs.List.{AllByRecursion}
use Rattle.std.proofs.lemmas.Bool.Decides.{nat_tests}
use Rattle.std.proofs.lemmas.Option.{none-some, same_Some}
use Rattle.dpl_language.specs.Tree.{Op}
use Rattle.dpl_language.specs.Values.{Index, InTurn}
use Rattle.dpl_language.specs.Ranges.{same_index}
use Rattle.dpl_memory.specs.Memory.{Memory}
use Rattle.dpl_apart.specs.Apart.{last_index}
use Rattle.dpl_apart.specs.Rows.{place_in}
use Rattle.dpl_apart.proofs.Indices.{same_index-refl, same_index-sound}
use Rattle.dpl_frame.specs.declared.fault.Turn.{Turn}
use Rattle.dpl_frame.specs.declared.fault.Turn.TheVariants as turn
use Rattle.dpl_frame.specs.Faults.{turn_view}
use Rattle.dpl_loop.specs.declared.stop.RunStop.{RunStop}
use Rattle.dpl_loop.specs.declared.stop.RunStop.TheVariants as stop
use Rattle.dpl_workers.specs.declared.job.Worked.{Worked}
use Rattle.dpl_frame.specs.Shares.{Plain}
use Rattle.dpl_workers.specs.Joined.{word_left, words_left, words_behind, words_by}
use Rattle.dpl_workers.specs.Workers.{IsUnmade}
use Rattle.dpl_workers.specs.Soonest.{spot_in, rank_in, sooner_in, EndsFrom, IsSoonest}

-- ---- lists
-- a list that isn't empty is its first thing and the others
take-length : {A : Type 0} (xs : List A) → take (length xs) xs ≡ xs
take-length [] = refl
take-length (x ∷ xs) = ap (λ ys. x ∷ ys) (take-length xs)

pub first-rest : {A : Type 0} (xs : List A) (x : A) → 1 ≤ length xs → x ≡ get_or xs 0 x → x ∷ take (length xs - 1) (drop 1 xs) ≡ xs
first-rest [] x some is = absurd (omega (arith, some))
first-rest (y ∷ ys) x some is = let e : suc (length ys) - 1 ≡ length ys = omega arith in ap (λ n. x ∷ take n ys) e ∙ (λ i. is i ∷ take-length ys i)

append-none : {A : Type 0} (xs : List A) → xs ++ [] ≡ xs
append-none [] = refl
append-none (x ∷ xs) = ap (λ ys. x ∷ ys) (append-none xs)

-- one thing more before others
push-on : {A : Type 0} (xs : List A) (y : A) (ys : List A) → (xs ++ y ∷ []) ++ ys ≡ xs ++ y ∷ ys
push-on [] y ys = refl
push-on (x ∷ xs) y ys = ap (λ zs. x ∷ zs) (push-on xs y ys)

-- the last index of a list stands at its last place
last-behind : (before : Option Index) (t : Index) (ts : List Index) → last_index before (t ∷ ts) ≡ slice_get (t ∷ ts) (length ts)
last-behind before t [] = refl
last-behind before t (x ∷ xs) = last-behind (Some t) x xs

pub last-at : (ts : List Index) (n : ℕ) → n ≡ length ts → (n ≡ 0 → ⊥) → slice_get ts (n - 1) ≡ last_index None ts
last-at [] n long some = absurd (some long)
last-at (t ∷ ts) n long some = let e : n - 1 ≡ length ts = omega (arith, long) in ap (slice_get (t ∷ ts)) e ∙ sym (last-behind None t ts)

-- ---- what workers have left
pub words-behind : (ns : List ℤ) (ps : List (ℕ × Op)) (ws : List Worked) (m : Memory) → words_behind ns ps ws m ≡ ns ++ words_left ps ws m
words-behind ns [] ws m = sym (append-none ns)
words-behind ns (p ∷ ps) ws m =
    words-behind (ns ++ word_left p ws (get_or m.words.numbers p.0 (pos 0)) ∷ []) ps ws m ∙ push-on ns (word_left p ws (get_or m.words.numbers p.0 (pos 0))) (words_left ps ws m)

pub words-last : (l : ℕ) (ws : List Worked) (w : Worked) (p : Plain) → words_by l (ws ++ w ∷ []) p ≡ (if w.locale == l then w.words else words_by l ws p)
words-last l [] w p = refl
words-last l (v ∷ ws) w p = words-last l ws w (if v.locale == l then v.words else p)

-- ---- places
-- an index that stands somewhere is found
pub place-found : (t : Index) (ts : List Index) (k : ℕ) → slice_get ts k ≡ Some t → slice_get ts (place_in ts t) ≡ Some t
place-found t [] k at = absurd (none-some t at)
place-found t (x ∷ xs) k at = by (same_index t x) refl k at (λ k. place-found t xs k) where
  by : (c : Bool) → same_index t x ≡ c → (k : ℕ) → slice_get (x ∷ xs) k ≡ Some t → ((k : ℕ) → slice_get xs k ≡ Some t → slice_get xs (place_in xs t) ≡ Some t)
      → slice_get (x ∷ xs) (cond c 0 (suc (place_in xs t))) ≡ Some t
  by true e k at rest = ap Some (sym (same_index-sound t x e))
  by false e zero at rest = absurd (let same : x ≡ t = same_Some x t at in let no : true ≡ false = sym (same_index-refl t) ∙ ap (same_index t) (sym same) ∙ e in cc)
  by false e (suc k) at rest = rest k at

-- and one that stands nowhere is behind all
pub place-none : (t : Index) (ts : List Index) → ((k : ℕ) → slice_get ts k ≡ Some t → ⊥) → place_in ts t ≡ length ts
place-none t [] none = refl
place-none t (x ∷ xs) none = by (same_index t x) refl (place-none t xs (λ k at. none (suc k) at)) where
  by : (c : Bool) → same_index t x ≡ c → place_in xs t ≡ length xs → cond c 0 (suc (place_in xs t)) ≡ suc (length xs)
  by true e rest = absurd (none 0 (ap Some (sym (same_index-sound t x e))))
  by false e rest = ap suc rest

-- an index of a turn is told, and stands where the turn does
pub index-told : (u : Turn) (o : Option Index) → (u ≡ turn.Absent → ⊥) → ((t : Index) → turn_view u ≡ InTurn t → o ≡ Some t) → o ≡ None → ⊥
index-told turn.Absent o some told none = some refl
index-told (turn.Line i) o some told none = let no = sym (told (i ∷ []) refl) ∙ none in cc
index-told (turn.Plane i j) o some told none = let no = sym (told (i ∷ j ∷ []) refl) ∙ none in cc
index-told (turn.Space i j k) o some told none = let no = sym (told (i ∷ j ∷ k ∷ []) refl) ∙ none in cc

pub spot-told : (ts : List Index) (u : Turn) (o : Option Index) → (u ≡ turn.Absent → ⊥) → ((t : Index) → turn_view u ≡ InTurn t → o ≡ Some t) → (t : Index) → o ≡ Some t → place_in ts t ≡ spot_in ts (turn_view u)
spot-told ts turn.Absent o some told t is = absurd (some refl)
spot-told ts (turn.Line i) o some told t is = ap (place_in ts) (same_Some t (i ∷ []) (sym is ∙ told (i ∷ []) refl))
spot-told ts (turn.Plane i j) o some told t is = ap (place_in ts) (same_Some t (i ∷ j ∷ []) (sym is ∙ told (i ∷ j ∷ []) refl))
spot-told ts (turn.Space i j k) o some told t is = ap (place_in ts) (same_Some t (i ∷ j ∷ k ∷ []) (sym is ∙ told (i ∷ j ∷ k ∷ []) refl))

pub place-within : (t : Index) (ts : List Index) → place_in ts t ≤ length ts
place-within t [] = omega arith
place-within t (x ∷ xs) = by (same_index t x) (place-within t xs) where
  by : (c : Bool) → place_in xs t ≤ length xs → cond c 0 (suc (place_in xs t)) ≤ suc (length xs)
  by true rest = omega arith
  by false rest = omega (arith, rest)

-- ---- what is told where workers were not all made
sooner-unmade : (ts : List Index) (h i : RunStop) → IsUnmade h → nat_lt (rank_in ts i) (rank_in ts h) ≡ true → IsUnmade i
sooner-unmade ts h stop.Memory un less = tt
sooner-unmade ts h stop.Thread un less = tt
sooner-unmade ts stop.Memory stop.Gate un less = absurd cc
sooner-unmade ts stop.Thread stop.Gate un less = absurd cc
sooner-unmade ts stop.Gate stop.Gate un less = absurd un
sooner-unmade ts (stop.Fault g) stop.Gate un less = absurd un
sooner-unmade ts stop.Memory (stop.Fault f) un less = let below : 3 + spot_in ts (turn_view f.turn) < 0 = grind (arith, nat_tests) in absurd (omega (arith, below))
sooner-unmade ts stop.Thread (stop.Fault f) un less = let below : 3 + spot_in ts (turn_view f.turn) < 1 = grind (arith, nat_tests) in absurd (omega (arith, below))
sooner-unmade ts stop.Gate (stop.Fault f) un less = absurd un
sooner-unmade ts (stop.Fault g) (stop.Fault f) un less = absurd un

abbrev told_of : Bool → RunStop → RunStop → Result (Unit {0}) RunStop
told_of c i h = if c then Err i else Err h

pub told-unmade : (ts : List Index) (h : RunStop) (end : Result (Unit {0}) RunStop) (told : RunStop) → IsUnmade h → sooner_in ts (Err h) end ≡ Err told → IsUnmade told
told-unmade ts h (Ok v) told un is = let same : h ≡ told = cc in subst IsUnmade same un
told-unmade ts h (Err i) told un is = by (nat_lt (rank_in ts i) (rank_in ts h)) refl is where
  by : (c : Bool) → nat_lt (rank_in ts i) (rank_in ts h) ≡ c → told_of c i h ≡ Err told → IsUnmade told
  by true less is = let same : i ≡ told = cc in subst IsUnmade same (sooner-unmade ts h i un less)
  by false less is = let same : h ≡ told = cc in subst IsUnmade same un

-- ---- the soonest of several ends
ends-later : (ts : List Index) (n k : ℕ) (e : Result (Unit {0}) RunStop) → k ≤ n → EndsFrom ts n e → EndsFrom ts k e
ends-later ts n k (Ok v) less from = tt
ends-later ts n k (Err h) less from = omega (arith, less, from)

all-later : (ts : List Index) (n k : ℕ) (ws : List Worked) → k ≤ n → AllByRecursion (λ (w : Worked). EndsFrom ts n w.end) ws → AllByRecursion (λ (w : Worked). EndsFrom ts k w.end) ws
all-later ts n k [] less all = tt
all-later ts n k (w ∷ ws) less all = (ends-later ts n k w.end less all.0, all-later ts n k ws less all.1)

all-well : (ts : List Index) (n : ℕ) (ws : List Worked) → AllByRecursion (λ (w : Worked). w.end ≡ Ok tt) ws → AllByRecursion (λ (w : Worked). EndsFrom ts n w.end) ws
all-well ts n [] all = tt
all-well ts n (w ∷ ws) all = (subst (EndsFrom ts n) (sym all.0) tt, all-well ts n ws all.1)

pub soonest-next : (ts : List Index) (w : Worked) (ws : List Worked) (behind : Result (Unit {0}) RunStop) → IsSoonest ts ws behind → IsSoonest ts (w ∷ ws) (sooner_in ts w.end behind)
soonest-next ts w ws behind soonest = by w.end refl behind soonest where
  at-first : (h : RunStop) → w.end ≡ Err h → (n : ℕ) → n ≡ rank_in ts h → AllByRecursion (λ (w : Worked). EndsFrom ts n w.end) ws → IsSoonest ts (w ∷ ws) (Err h)
  at-first h is n e all =
      ((0, w, refl, is), (subst (EndsFrom ts (rank_in ts h)) (sym is) (omega arith), subst (λ n. AllByRecursion (λ (w : Worked). EndsFrom ts n w.end) ws) e all))

  by : (end : Result (Unit {0}) RunStop) → w.end ≡ end → (behind : Result (Unit {0}) RunStop) → IsSoonest ts ws behind → IsSoonest ts (w ∷ ws) (sooner_in ts end behind)
  by (Ok v) is (Ok u) soonest = (is, soonest)
  by (Ok v) is (Err i) soonest = ((suc soonest.0.0, soonest.0.1, soonest.0.2, soonest.0.3), (subst (EndsFrom ts (rank_in ts i)) (sym is) tt, soonest.1))
  by (Err h) is (Ok u) soonest = at-first h is (rank_in ts h) refl (all-well ts (rank_in ts h) ws soonest)
  by (Err h) is (Err i) soonest = of (nat_lt (rank_in ts i) (rank_in ts h)) refl where
    of : (c : Bool) → nat_lt (rank_in ts i) (rank_in ts h) ≡ c → IsSoonest ts (w ∷ ws) (if c then Err i else Err h)
    of true less =
        let below : rank_in ts i ≤ rank_in ts h = grind (arith, nat_tests) in
        ((suc soonest.0.0, soonest.0.1, soonest.0.2, soonest.0.3), (subst (EndsFrom ts (rank_in ts i)) (sym is) below, soonest.1))
    of false less =
        let below : rank_in ts h ≤ rank_in ts i = grind (arith, nat_tests) in
        at-first h is (rank_in ts h) refl (all-later ts (rank_in ts i) (rank_in ts h) ws below soonest.1)

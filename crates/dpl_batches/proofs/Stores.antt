-- What turns leave in variables: each such store is put into a slot of its own, so that it's one whether they are put turn by turn, or each in all turns.
-- They leave all else of a memory as it is, and the variables of the loop may be bound before them or after.
use Rattle.std.proofs.Common.{◌≡◌, ◌≢◌, ◌<◌, ◌≤◌, ℕ, zero, suc, ℤ, pos, Bool, true, false, List, [], ◌∷◌, map, take, length, length-set, set, get_or, slice_get, Option, Some, None, is_some, refl, sym, subst, ap, ◌∙◌, ⊎_elim, arith}
use Rattle.std.proofs.lemmas.Bool.{cases_Bool, cases_lt}
use Rattle.std.proofs.lemmas.List.{set-get_or, get_or_past, get_or-set_same, get_or-set_other}
use Rattle.std.proofs.lemmas.Option.{none-some, same_Some, slice_get-get_or}
use Rattle.dpl_array.specs.Elements.{Row, behind, put_some, put_in_row}
use Rattle.dpl_language.specs.Values.{Int, Index}
use Rattle.dpl_language.specs.Ranges.{same_index}
use Rattle.dpl_words.specs.Words.{IntLeaf}
use Rattle.dpl_memory.specs.Memory.{PlainKind, Held, Memory, no_array, array_at, with_array, word_at, with_word, held_at, held_with, with_value_in}
use Rattle.dpl_nodes.specs.declared.fold.IntFold.{IntFold}
use Rattle.dpl_nodes.specs.declared.step.Names.{Names}
use Rattle.dpl_strips.specs.Strips.{Written, IsFree}
use Rattle.dpl_elements.specs.Turns.{bound_at, IsApart, HasRoom}
use Rattle.dpl_elements.proofs.Alongside.{index-apart, held-elsewhere}
use Rattle.dpl_elements.proofs.BoundAgain.{bound_at-over, bound_at-twice, bound_at-number, bound_at-arrays, bound_at-long}
use Rattle.dpl_batches.specs.Folded.{folded_one_where, folded_where}
use Rattle.dpl_batches.specs.Stores.{unmade, stored_by, stored, all_stored, stored_in_turns, each_stored, HasElement, HaveElements, AreApart, HaveRoom}
use Rattle.dpl_batches.specs.declared.store.Store.{Store}

-- A LIST WITH ANOTHER THING AT A PLACE, which is made of the one that is there
module _ {A : Type 0} where
  abbrev changed : ℕ → A → (A → A) → List A → List A
  changed i d f l = set l i (f (get_or l i d))

  -- at two places
  changed-apart : (l : List A) (i j : ℕ) (d : A) (f g : A → A) → i ≢ j → changed i d f (changed j d g l) ≡ changed j d g (changed i d f l)
  changed-apart [] i j d f g apart = refl
  changed-apart (a ∷ l) zero zero d f g apart = absurd (apart refl)
  changed-apart (a ∷ l) zero (suc j) d f g apart = refl
  changed-apart (a ∷ l) (suc i) zero d f g apart = refl
  changed-apart (a ∷ l) (suc i) (suc j) d f g apart = ap {B = List A} (λ l. a ∷ l) (changed-apart l i j d f g (λ same. apart (ap suc same)))

  -- twice at one place
  changed-twice : (l : List A) (i : ℕ) (d : A) (f g h : A → A) → ((a : A) → g (f a) ≡ h a) → changed i d g (changed i d f l) ≡ changed i d h l
  changed-twice [] i d f g h same = refl
  changed-twice (a ∷ l) zero d f g h same = ap {B = List A} (λ b. b ∷ l) (same a)
  changed-twice (a ∷ l) (suc i) d f g h same = ap {B = List A} (λ l. a ∷ l) (changed-twice l i d f g h same)

  -- and what is there then
  changed-at : (l : List A) (i : ℕ) (d : A) (f : A → A) → f d ≡ d → get_or (changed i d f l) i d ≡ f (get_or l i d)
  changed-at [] i d f none = sym none
  changed-at (a ∷ l) zero d f none = refl
  changed-at (a ∷ l) (suc i) d f none = changed-at l i d f none

-- A MEMORY WITH OTHER NUMBERS, OR ARRAYS
abbrev with_numbers : Memory → List ℤ → Memory
with_numbers u ns = record u { words = record u.words { numbers = ns } }

abbrev with_arrays : Memory → List Held → Memory
with_arrays u held = record u { arrays = held }

-- the word of one store in a turn, put into an element; or folded onto an int
abbrev pub word_of : Store → ℕ → ℤ
word_of x k = get_or x.words k (pos 0)

abbrev pub put_word : ℕ → Row → ℕ → ℤ → Memory → Memory
put_word slot at k w u = with_array slot (held_with (behind k at) w (array_at slot u)) u

abbrev pub folded_by : IntFold → Store → ℕ → ℤ → ℤ
folded_by f x k n = folded_one_where f n (get_or x.mask k (pos 0)) (word_of x k)

abbrev pub fold_word : ℕ → IntFold → Store → ℕ → Memory → Memory
fold_word slot f x k u = with_value_in (PlainKind IntLeaf) slot (Int (folded_by f x k (get_or u.words.numbers slot (pos 0)))) u

-- TWO STORES
-- of two slots
apart-by : (b c : Bool) (f g : Option IntFold) (x y : Store) (j k : ℕ) (u : Memory) → x.slot ≢ y.slot
    → stored_by b f x j (stored_by c g y k u) ≡ stored_by c g y k (stored_by b f x j u)
apart-by false c f g x y j k u apart = refl
apart-by true false f g x y j k u apart = refl
apart-by true true None None x y j k u apart =
    ap (with_arrays u) (changed-apart u.arrays x.slot y.slot no_array (held_with (behind j x.at) (word_of x j)) (held_with (behind k y.at) (word_of y k)) apart)
apart-by true true None (Some g) x y j k u apart = refl
apart-by true true (Some f) None x y j k u apart = refl
apart-by true true (Some f) (Some g) x y j k u apart =
    ap (with_numbers u) (changed-apart u.words.numbers x.slot y.slot (pos 0) (folded_by f x j) (folded_by g y k) apart)

pub stored-apart : (x y : Store) (j k : ℕ) (u : Memory) → x.slot ≢ y.slot → stored x j (stored y k u) ≡ stored y k (stored x j u)
stored-apart x y j k u apart = apart-by x.is_made y.is_made x.fold y.fold x y j k u apart

-- of one slot, the second at the same index
with_word-twice : (t : Index) (v w : ℤ) (is : List Index) (ws : List ℤ) → with_word t w is (with_word t v is ws) ≡ with_word t w is ws
with_word-twice t v w [] ws = refl
with_word-twice t v w (i ∷ is) [] = refl
with_word-twice t v w (i ∷ is) (u ∷ ws) =
    ⊎_elim
    (λ (here : same_index t i ≡ true). rw here (rw here refl))
    (λ (there : same_index t i ≡ false). rw there (rw there (ap {B = List ℤ} (λ ws. u ∷ ws) (with_word-twice t v w is ws))))
    (cases_Bool (same_index t i))

held_with-twice : (t : Index) (v w : ℤ) (a : Held) → held_with t w (held_with t v a) ≡ held_with t w a
held_with-twice t v w a = ap {B = Held} (λ ws. record a { words = ws }) (with_word-twice t v w a.keys a.words)

-- ONE STORE AFTER OTHERS, each of another slot
pub stored-all : (x : Store) (xs : List Store) (j k : ℕ) (u : Memory) → IsFree (map unmade xs) x.slot
    → stored x j (all_stored xs k u) ≡ all_stored xs k (stored x j u)
stored-all x [] j k u free = refl
stored-all x (y ∷ xs) j k u free = stored-all x xs j k (stored y k u) free.1 ∙ ap (all_stored xs k) (stored-apart x y j k u free.0)

-- all, turn by turn
abbrev pub turns_stored : List Store → ℕ → Memory → Memory
turns_stored xs zero s = s
turns_stored xs (suc k) s = all_stored xs k (turns_stored xs k s)

stored-turns : (x : Store) (xs : List Store) (j n : ℕ) (u : Memory) → IsFree (map unmade xs) x.slot
    → stored x j (turns_stored xs n u) ≡ turns_stored xs n (stored x j u)
stored-turns x xs j zero u free = refl
stored-turns x xs j (suc k) u free = stored-all x xs j k (turns_stored xs k u) free ∙ ap (all_stored xs k) (stored-turns x xs j k u free)

-- the first in all turns, and then the others turn by turn
pub turns-first : (x : Store) (xs : List Store) (n : ℕ) (u : Memory) → IsFree (map unmade xs) x.slot
    → turns_stored (x ∷ xs) n u ≡ turns_stored xs n (stored_in_turns x n u)
turns-first x xs zero u free = refl
turns-first x xs (suc k) u free =
    ap (λ m. all_stored xs k (stored x k m)) (turns-first x xs k u free)
    ∙ ap (all_stored xs k) (stored-turns x xs k k (stored_in_turns x k u) free)

turns-none : (n : ℕ) (u : Memory) → turns_stored [] n u ≡ u
turns-none zero u = refl
turns-none (suc k) u = turns-none k u

-- each in all turns, one store after another
pub turns-each : (names : Names) (xs : List Store) (n : ℕ) (u : Memory) → AreApart names xs → turns_stored xs n u ≡ each_stored xs n u
turns-each names [] n u apart = turns-none n u
turns-each names (x ∷ xs) n u apart = turns-first x xs n u apart.0 ∙ turns-each names xs n (stored_in_turns x n u) apart.4

-- WHAT THEY LEAVE AS IT IS: all but what is in some slots of numbers, and of arrays
pub record Leaves (Other : ℕ → Type 0) (u v : Memory) : Type 0 where
  pub numbers : (slot : ℕ) → Other slot → get_or v.words.numbers slot (pos 0) ≡ get_or u.words.numbers slot (pos 0)
  pub tuples : v.tuples ≡ u.tuples
  pub arrays : (slot : ℕ) → Other slot → array_at slot v ≡ array_at slot u
  pub long : length v.words.numbers ≡ length u.words.numbers
  pub intents : v.words.intents ≡ u.words.intents

leaves-itself : (Other : ℕ → Type 0) (u : Memory) → Leaves Other u u
leaves-itself Other u = record { numbers = λ slot other. refl; tuples = refl; arrays = λ slot other. refl; long = refl; intents = refl }

leaves-twice : (Other Fewer : ℕ → Type 0) (u v w : Memory) → ((slot : ℕ) → Fewer slot → Other slot) → Leaves Other u v → Leaves Fewer v w → Leaves Fewer u w
leaves-twice Other Fewer u v w fewer once again = record {
  numbers = λ slot other. again.numbers slot other ∙ once.numbers slot (fewer slot other);
  tuples = again.tuples ∙ once.tuples;
  arrays = λ slot other. again.arrays slot other ∙ once.arrays slot (fewer slot other);
  long = again.long ∙ once.long;
  intents = again.intents ∙ once.intents;
}

leaves-fewer : (Other Fewer : ℕ → Type 0) (u v : Memory) → ((slot : ℕ) → Fewer slot → Other slot) → Leaves Other u v → Leaves Fewer u v
leaves-fewer Other Fewer u v fewer leaves = leaves-twice Other Fewer u v v fewer leaves (leaves-itself Fewer v)

leaves-by : (b : Bool) (f : Option IntFold) (x : Store) (k : ℕ) (u : Memory) → Leaves (λ slot. slot ≢ x.slot) u (stored_by b f x k u)
leaves-by false f x k u = leaves-itself (λ slot. slot ≢ x.slot) u
leaves-by true None x k u = record {
  numbers = λ slot other. refl;
  tuples = refl;
  arrays = λ slot other. get_or-set_other u.arrays x.slot slot (held_with (behind k x.at) (word_of x k) (array_at x.slot u)) no_array other;
  long = refl;
  intents = refl;
}
leaves-by true (Some f) x k u =
    let n = folded_by f x k (get_or u.words.numbers x.slot (pos 0)) in
    record {
      numbers = λ slot other. get_or-set_other u.words.numbers x.slot slot n (pos 0) other;
      tuples = refl;
      arrays = λ slot other. refl;
      long = length-set u.words.numbers x.slot n;
      intents = refl;
    }

pub leaves-stored : (x : Store) (k : ℕ) (u : Memory) → Leaves (λ slot. slot ≢ x.slot) u (stored x k u)
leaves-stored x k u = leaves-by x.is_made x.fold x k u

pub leaves-in_turns : (x : Store) (n : ℕ) (u : Memory) → Leaves (λ slot. slot ≢ x.slot) u (stored_in_turns x n u)
leaves-in_turns x zero u = leaves-itself (λ slot. slot ≢ x.slot) u
leaves-in_turns x (suc k) u =
    let other : ℕ → Type 0 = λ slot. slot ≢ x.slot in
    let v = stored_in_turns x k u in
    leaves-twice other other u v (stored x k v) (λ slot is. is) (leaves-in_turns x k u) (leaves-stored x k v)

pub leaves-all_stored : (xs : List Store) (k : ℕ) (u : Memory) → Leaves (IsFree (map unmade xs)) u (all_stored xs k u)
leaves-all_stored [] k u = leaves-itself (IsFree []) u
leaves-all_stored (x ∷ xs) k u =
    let free = IsFree (map unmade (x ∷ xs)) in
    let v = stored x k u in
    let rest = leaves-fewer (IsFree (map unmade xs)) free v (all_stored xs k v) (λ slot f. f.1) (leaves-all_stored xs k v) in
    leaves-twice (λ slot. slot ≢ x.slot) free u v (all_stored xs k v) (λ slot f. f.0) (leaves-stored x k u) rest

pub leaves-turns : (xs : List Store) (n : ℕ) (u : Memory) → Leaves (IsFree (map unmade xs)) u (turns_stored xs n u)
leaves-turns xs zero u = leaves-itself (IsFree (map unmade xs)) u
leaves-turns xs (suc k) u =
    let free = IsFree (map unmade xs) in
    let v = turns_stored xs k u in
    leaves-twice free free u v (all_stored xs k v) (λ slot f. f) (leaves-turns xs k u) (leaves-all_stored xs k v)

-- and elements at other indices
elsewhere-by : (b : Bool) (f : Option IntFold) (x : Store) (j : ℕ) (u : Memory) (t : Index) → same_index t (behind j x.at) ≡ false
    → held_at t (array_at x.slot (stored_by b f x j u)) ≡ held_at t (array_at x.slot u)
elsewhere-by false f x j u t other = refl
elsewhere-by true None x j u t other =
    ap (held_at t) (changed-at u.arrays x.slot no_array (held_with (behind j x.at) (word_of x j)) refl)
    ∙ held-elsewhere (behind j x.at) t (word_of x j) (array_at x.slot u) other
elsewhere-by true (Some f) x j u t other = refl

-- so that a turn finds its own element as if those before it had not been
pub own-left : (x : Store) (n k : ℕ) (u : Memory) → 0 < length x.at.first → x.at.step ≢ pos 0 → n ≤ k
    → held_at (behind k x.at) (array_at x.slot (stored_in_turns x n u)) ≡ held_at (behind k x.at) (array_at x.slot u)
own-left x zero k u some moves before = refl
own-left x (suc j) k u some moves before =
    let below : j < k = omega (arith, before) in
    elsewhere-by x.is_made x.fold x j (stored_in_turns x j u) (behind k x.at) (index-apart j k x.at some moves below)
    ∙ own-left x j k u some moves (omega (arith, before))

-- what it puts there is what is there then, if there is an element
word_at-put : (t : Index) (w : ℤ) (is : List Index) (ws : List ℤ) → is_some (word_at t is ws) ≡ true → word_at t is (with_word t w is ws) ≡ Some w
word_at-put t w [] ws there = cc
word_at-put t w (i ∷ is) [] there = cc
word_at-put t w (i ∷ is) (v ∷ ws) there =
    ⊎_elim
    (λ (here : same_index t i ≡ true). rw here (rw here refl))
    (λ (not : same_index t i ≡ false).
    let rest : is_some (word_at t is ws) ≡ true = rw not at there in
    rw not (rw not (word_at-put t w is ws rest)))
    (cases_Bool (same_index t i))

pub own-put : (x : Store) (k : ℕ) (u : Memory) → is_some (held_at (behind k x.at) (array_at x.slot u)) ≡ true
    → held_at (behind k x.at) (array_at x.slot (stored_by true None x k u)) ≡ Some (word_of x k)
own-put x k u there =
    let t = behind k x.at in
    let a = array_at x.slot u in
    ap (held_at t) (changed-at u.arrays x.slot no_array (held_with t (word_of x k)) refl) ∙ word_at-put t (word_of x k) a.keys a.words there

-- THE VARIABLES OF THE LOOP
-- no other int changes as they are bound
bound_at-other : (names : Names) (slot : ℕ) (t : Index) (u : Memory) → IsApart names slot
    → get_or (bound_at names t u).words.numbers slot (pos 0) ≡ get_or u.words.numbers slot (pos 0)
bound_at-other names slot t u apart =
    let ns = u.words.numbers in
    let n = get_or ns slot (pos 0) in
    let m = bound_at names t u in
    let same : m.words.numbers ≡ set m.words.numbers slot n =
    ap (λ ns. (bound_at names t (with_numbers u ns)).words.numbers) (sym (set-get_or ns slot (pos 0)))
    ∙ ap (λ (m : Memory). m.words.numbers) (bound_at-number names slot n t u apart) in
    let long : length m.words.numbers ≡ length ns = bound_at-long names t u in
    ⊎_elim
    (λ (within : slot < length ns). ap (λ ns. get_or ns slot (pos 0)) same ∙ get_or-set_same m.words.numbers slot n (pos 0) (omega (arith, within, long)))
    (λ (past : length ns ≤ slot). get_or_past m.words.numbers slot (pos 0) (omega (arith, past, long)) ∙ sym (get_or_past ns slot (pos 0) past))
    (cases_lt slot (length ns))

bound-by : (names : Names) (b : Bool) (f : Option IntFold) (x : Store) (k : ℕ) (t : Index) (u : Memory) → IsApart names x.slot
    → bound_at names t (stored_by b f x k u) ≡ stored_by b f x k (bound_at names t u)
bound-by names false f x k t u apart = refl
bound-by names true None x k t u apart =
    let put : List Held → List Held = λ held. changed x.slot no_array (held_with (behind k x.at) (word_of x k)) held in
    bound_at-over names t u (put u.arrays)
    ∙ ap (λ held. with_arrays (bound_at names t u) (put held)) (sym (bound_at-arrays names t u))
bound-by names true (Some f) x k t u apart =
    bound_at-number names x.slot (folded_by f x k (get_or u.words.numbers x.slot (pos 0))) t u apart
    ∙ ap (λ n. with_value_in (PlainKind IntLeaf) x.slot (Int (folded_by f x k n)) (bound_at names t u)) (sym (bound_at-other names x.slot t u apart))

pub bound-all_stored : (names : Names) (xs : List Store) (k : ℕ) (t : Index) (u : Memory) → AreApart names xs
    → bound_at names t (all_stored xs k u) ≡ all_stored xs k (bound_at names t u)
bound-all_stored names [] k t u apart = refl
bound-all_stored names (x ∷ xs) k t u apart =
    bound-all_stored names xs k t (stored x k u) apart.4
    ∙ ap (all_stored xs k) (bound-by names x.is_made x.fold x k t u apart.1)

-- what they held before is gone
pub bound-stored : (names : Names) (xs : List Store) (k : ℕ) (t v : Index) (u : Memory) → AreApart names xs
    → bound_at names t (all_stored xs k (bound_at names v u)) ≡ bound_at names t (all_stored xs k u)
bound-stored names xs k t v u apart =
    bound-all_stored names xs k t (bound_at names v u) apart
    ∙ ap (all_stored xs k) (bound_at-twice names t v u)
    ∙ sym (bound-all_stored names xs k t u apart)

pub bound-turns : (names : Names) (xs : List Store) (n : ℕ) (t : Index) (u : Memory) → AreApart names xs
    → bound_at names t (turns_stored xs n u) ≡ turns_stored xs n (bound_at names t u)
bound-turns names xs zero t u apart = refl
bound-turns names xs (suc k) t u apart = bound-all_stored names xs k t (turns_stored xs k u) apart ∙ ap (all_stored xs k) (bound-turns names xs k t u apart)

-- A STORE THAT IS MADE, OR MADE ANEW: put after all, it replaces the one at its place, where what it puts replaces what that one put
pub made-stored : (names : Names) (xs : List Store) (i : ℕ) (x y : Store) (k : ℕ) (u : Memory) → AreApart names xs → slice_get xs i ≡ Some x → y.slot ≡ x.slot
    → ((u : Memory) → stored y k (stored x k u) ≡ stored y k u) → all_stored (set xs i y) k u ≡ stored y k (all_stored xs k u)
made-stored names [] i x y k u apart at same over = absurd (none-some x at)
made-stored names (z ∷ xs) zero x y k u apart at same over =
    let is : z ≡ x = same_Some z x at in
    let free : IsFree (map unmade xs) y.slot = subst (IsFree (map unmade xs)) (ap (λ (z : Store). z.slot) is ∙ sym same) apart.0 in
    ap (all_stored xs k) (sym (over u) ∙ ap (λ x. stored y k (stored x k u)) (sym is)) ∙ sym (stored-all y xs k k (stored z k u) free)
made-stored names (z ∷ xs) (suc i) x y k u apart at same over = made-stored names xs i x y k (stored z k u) apart.4 at same over

over-by : (b : Bool) (x : Store) (k : ℕ) (w : ℤ) (u : Memory) → put_word x.slot x.at k w (stored_by b None x k u) ≡ put_word x.slot x.at k w u
over-by false x k w u = refl
over-by true x k w u =
    let t = behind k x.at in
    ap (with_arrays u) (changed-twice u.arrays x.slot no_array (held_with t (word_of x k)) (held_with t w) (held_with t w) (held_with-twice t (word_of x k) w))

module _
    (names : Names) (xs : List Store) (i : ℕ) (x y : Store) (apart : AreApart names xs) (at : slice_get xs i ≡ Some x) (same : y.slot ≡ x.slot)
    (made : y.is_made ≡ true) where
  -- its words go into an array's elements, which may have got others in the same turns
  pub made-put : y.at ≡ x.at → x.fold ≡ None → y.fold ≡ None → (k : ℕ) (u : Memory)
      → all_stored (set xs i y) k u ≡ put_word x.slot x.at k (word_of y k) (all_stored xs k u)
  made-put row plain puts k u =
      let w = word_of y k in
      let is : (m : Memory) → stored y k m ≡ put_word x.slot x.at k w m =
      λ m.
      ap (λ b. stored_by b y.fold y k m) made
      ∙ ap (λ f. stored_by true f y k m) puts
      ∙ ap (λ slot. put_word slot y.at k w m) same
      ∙ ap (λ at. put_word x.slot at k w m) row in
      let over : (m : Memory) → stored y k (stored x k m) ≡ stored y k m =
      λ m.
      is (stored x k m)
      ∙ ap (λ f. put_word x.slot x.at k w (stored_by x.is_made f x k m)) plain
      ∙ over-by x.is_made x k w m
      ∙ sym (is m) in
      made-stored names xs i x y k u apart at same over ∙ is (all_stored xs k u)

  -- or they are folded onto an int, which nothing has been folded onto
  pub made-fold : (f : IntFold) → x.is_made ≡ false → y.fold ≡ Some f → (k : ℕ) (u : Memory)
      → all_stored (set xs i y) k u ≡ fold_word x.slot f y k (all_stored xs k u)
  made-fold f not_made folds k u =
      let m = all_stored xs k u in
      let over : (m : Memory) → stored y k (stored x k m) ≡ stored y k m = λ m. ap (λ b. stored y k (stored_by b x.fold x k m)) not_made in
      made-stored names xs i x y k u apart at same over
      ∙ ap (λ b. stored_by b y.fold y k m) made
      ∙ ap (λ f. stored_by true f y k m) folds
      ∙ ap (λ slot. fold_word slot f y k m) same

-- it is written where the one at its place was
pub unmade-set : (xs : List Store) (i : ℕ) (x y : Store) → slice_get xs i ≡ Some x → y.slot ≡ x.slot → y.at ≡ x.at → map unmade (set xs i y) ≡ map unmade xs
unmade-set [] i x y at same row = absurd (none-some x at)
unmade-set (z ∷ xs) zero x y at same row =
    let is : z ≡ x = same_Some z x at in
    ap {B = List Written} (λ slot. record { slot = slot; at = y.at; words = None } ∷ map unmade xs) same
    ∙ ap {B = List Written} (λ at. record { slot = x.slot; at = at; words = None } ∷ map unmade xs) row
    ∙ ap {B = List Written} (λ x. unmade x ∷ map unmade xs) (sym is)
unmade-set (z ∷ xs) (suc i) x y at same row = ap {B = List Written} (λ ws. unmade z ∷ ws) (unmade-set xs i x y at same row)

pub apart-set : (names : Names) (xs : List Store) (i : ℕ) (x y : Store) → slice_get xs i ≡ Some x → y.slot ≡ x.slot → y.at ≡ x.at → AreApart names xs
    → AreApart names (set xs i y)
apart-set names [] i x y at same row apart = absurd (none-some x at)
apart-set names (z ∷ xs) zero x y at same row apart =
    let is : z ≡ x = same_Some z x at in
    let slots : z.slot ≡ y.slot = ap (λ (z : Store). z.slot) is ∙ sym same in
    let rows : z.at ≡ y.at = ap (λ (z : Store). z.at) is ∙ sym row in (
      subst (IsFree (map unmade xs)) slots apart.0,
      subst (IsApart names) slots apart.1,
      subst (λ (at : Row). 0 < length at.first) rows apart.2,
      subst (λ (at : Row). at.step ≢ pos 0) rows apart.3,
      apart.4,
    )
apart-set names (z ∷ xs) (suc i) x y at same row apart = (
  subst (λ ws. IsFree ws z.slot) (sym (unmade-set xs i x y at same row)) apart.0,
  apart.1,
  apart.2,
  apart.3,
  apart-set names xs i x y at same row apart.4,
)

pub elements-set : (xs : List Store) (i : ℕ) (x y : Store) (k : ℕ) (s : Memory) → slice_get xs i ≡ Some x → HasElement y.is_made y.fold y k s
    → HaveElements xs k s → HaveElements (set xs i y) k s
elements-set [] i x y k s at here there = absurd (none-some x at)
elements-set (z ∷ xs) zero x y k s at here there = (here, there.1)
elements-set (z ∷ xs) (suc i) x y k s at here there = (there.0, elements-set xs i x y k s at here there.1)

-- WHAT ONE STORE COMES TO IN SO MANY TURNS
-- its words are folded onto the int one after another
folds-by : (b : Bool) (o : Option IntFold) (f : IntFold) (x : Store) (k : ℕ) (n : ℤ) (s : Memory) → b ≡ true → o ≡ Some f
    → stored_by b o x k (with_value_in (PlainKind IntLeaf) x.slot (Int n) s) ≡ with_value_in (PlainKind IntLeaf) x.slot (Int (folded_by f x k n)) s
folds-by b o f x k n s made folds =
    let m = with_value_in (PlainKind IntLeaf) x.slot (Int n) s in
    ap (λ b. stored_by b o x k m) made
    ∙ ap (λ o. stored_by true o x k m) folds
    ∙ ap (with_numbers s) (changed-twice s.words.numbers x.slot (pos 0) (λ a. n) (folded_by f x k) (λ a. folded_by f x k n) (λ a. refl))

pub turns-folded : (x : Store) (f : IntFold) (n : ℕ) (s : Memory) → x.is_made ≡ true → x.fold ≡ Some f
    → stored_in_turns x n s ≡ with_value_in (PlainKind IntLeaf) x.slot (Int (folded_where f (get_or s.words.numbers x.slot (pos 0)) x.mask x.words n)) s
turns-folded x f zero s made folds = ap (with_numbers s) (sym (set-get_or s.words.numbers x.slot (pos 0)))
turns-folded x f (suc k) s made folds =
    ap (stored x k) (turns-folded x f k s made folds)
    ∙ folds-by x.is_made x.fold f x k (folded_where f (get_or s.words.numbers x.slot (pos 0)) x.mask x.words k) s made folds

-- or put into the array's elements
puts-by : (b : Bool) (o : Option IntFold) (x : Store) (k : ℕ) (a : Held) (s : Memory) → b ≡ true → o ≡ None
    → stored_by b o x k (with_array x.slot a s) ≡ with_array x.slot (held_with (behind k x.at) (word_of x k) a) s
puts-by b o x k a s made puts =
    let m = with_array x.slot a s in
    let put = held_with (behind k x.at) (word_of x k) in
    ap (λ b. stored_by b o x k m) made
    ∙ ap (λ o. stored_by true o x k m) puts
    ∙ ap (with_arrays s) (changed-twice s.arrays x.slot no_array (λ b. a) put (λ b. put a) (λ b. refl))

pub turns-put : (x : Store) (n : ℕ) (s : Memory) → n ≤ length x.words → x.is_made ≡ true → x.fold ≡ None
    → stored_in_turns x n s ≡ with_array x.slot (put_in_row held_with x.at x.words n (array_at x.slot s)) s
turns-put x zero s within made puts = ap (with_arrays s) (sym (set-get_or s.arrays x.slot no_array))
turns-put x (suc k) s within made puts =
    let a = put_in_row held_with x.at x.words k (array_at x.slot s) in
    ap (stored x k) (turns-put x k s (omega (arith, within)) made puts)
    ∙ puts-by x.is_made x.fold x k a s made puts
    ∙ ap (λ o. with_array x.slot (put_some held_with (behind k x.at) o a) s) (sym (slice_get-get_or x.words k (pos 0) (omega (arith, within))))

-- of words that are taken from others, as far as they go
slice_get-take : (n : ℕ) (ws : List ℤ) (k : ℕ) → k < n → slice_get (take n ws) k ≡ slice_get ws k
slice_get-take zero ws k below = absurd (omega (arith, below))
slice_get-take (suc n) [] k below = refl
slice_get-take (suc n) (w ∷ ws) zero below = refl
slice_get-take (suc n) (w ∷ ws) (suc k) below = slice_get-take n ws k (omega (arith, below))

pub taken-put : (at : Row) (ws : List ℤ) (n k : ℕ) (a : Held) → k ≤ n → put_in_row held_with at (take n ws) k a ≡ put_in_row held_with at ws k a
taken-put at ws n zero a few = refl
taken-put at ws n (suc k) a few =
    ap (λ o. put_some held_with (behind k at) o (put_in_row held_with at (take n ws) k a)) (slice_get-take n ws k (omega (arith, few)))
    ∙ ap (put_some held_with (behind k at) (slice_get ws k)) (taken-put at ws n k a (omega (arith, few)))

-- an unmade one nothing
pub turns-unmade : (x : Store) (n : ℕ) (s : Memory) → x.is_made ≡ false → stored_in_turns x n s ≡ s
turns-unmade x zero s none = refl
turns-unmade x (suc k) s none = ap (λ b. stored_by b x.fold x k (stored_in_turns x k s)) none ∙ turns-unmade x k s none

-- each has the room that all have
pub room-at : (xs : List Store) (k : ℕ) (x : Store) → slice_get xs k ≡ Some x → HaveRoom xs → HasRoom x.at 64
room-at [] k x at room = absurd (none-some x at)
room-at (z ∷ xs) zero x at room = subst (λ (x : Store). HasRoom x.at 64) (same_Some z x at) room.0
room-at (z ∷ xs) (suc k) x at room = room-at xs k x at room.1

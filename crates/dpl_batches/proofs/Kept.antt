-- A statement that is found in several turns and kept back: in each turn it comes to the store that is made, where the mask lets it be done; where
-- it doesn't, the store puts what is there already, or folds nothing.
use Rattle.std.proofs.Common.{◌≡◌, ◌<◌, ◌≤◌, ⊎_elim, ℕ, zero, suc, ℤ, pos, Bool, true, false, not, if◌then◌else◌, List, [], ◌∷◌, map, length, set, get_or, slice_get, Option, Some, None, is_some, Ok, refl, sym, subst, ap, ◌∙◌, arith}
use Rattle.std.specs.Ordering.{int_eq}
use Rattle.std.proofs.lemmas.Bool.{cases_Bool}
use Rattle.std.proofs.lemmas.List.{set-get_or}
use Rattle.std.proofs.lemmas.Option.{none-some, same_Some}
use Rattle.dpl_syntax.specs.declared.place.Place.{Place}
use Rattle.dpl_array.specs.Elements.{Row, behind}
use Rattle.dpl_language.specs.Tree.{Assign, Set, IntKind, BoolKind, One, StmtTree, Stmts, NoStmts, Then}
use Rattle.dpl_language.specs.Values.{Int, Truth, Index, kept_number}
use Rattle.dpl_language.specs.Ranges.{same_index}
use Rattle.dpl_language.specs.Arithmetic.{assigned, assign_divides}
use Rattle.dpl_language.specs.Outcome.{Deeds, Done, with_ok, then_do}
use Rattle.dpl_language.specs.Environment.{Limits}
use Rattle.dpl_language.specs.Expressions.{value_of}
use Rattle.dpl_language.specs.Statements.{exec, exec_all}
use Rattle.dpl_lowered.specs.Shapes.{nowhere}
use Rattle.dpl_words.specs.Words.{IntLeaf, intent_at}
use Rattle.dpl_memory.specs.Memory.{PlainKind, Held, Memory, Variable, no_array, array_at, with_array, word_at, with_word, held_at, held_with, with_value_in, in_memory}
use Rattle.dpl_nodes.specs.declared.tree.IntExpr.{IntExpr}
use Rattle.dpl_nodes.specs.declared.tree.BoolExpr.{BoolExpr}
use Rattle.dpl_nodes.specs.declared.tree.IndexExpr.{IndexExpr}
use Rattle.dpl_nodes.specs.declared.fold.IntFold.{IntFold}
use Rattle.dpl_nodes.specs.declared.step.ArrayName.{ArrayName}
use Rattle.dpl_nodes.specs.declared.step.IntDeed.{IntDeed}
use Rattle.dpl_nodes.specs.declared.step.Names.{Names}
use Rattle.dpl_nodes.specs.Typed.{int_view, truth_view}
use Rattle.dpl_nodes.specs.Steps.{array_leaf, element_set, int_changed}
use Rattle.dpl_nodes.proofs.Unread.{cell_read-int, cell_read-truth}
use Rattle.dpl_loop.specs.declared.strip.Strip.{Strip}
use Rattle.dpl_strips.specs.Strips.{IsInOwnTurn, OwnWords, HoldsInTurns, GoesFrom, own_word}
use Rattle.dpl_strips.specs.Truths.{TruthsHoldInTurns}
use Rattle.dpl_elements.specs.Changes.{int_changed_by, int_put, ends_as}
use Rattle.dpl_elements.proofs.Changing.{exec-int}
use Rattle.dpl_elements.proofs.Elements.{exec-element, change-put}
use Rattle.dpl_elements.proofs.PutRows.{change-there}
use Rattle.dpl_batches.specs.Folded.{folded_one, folded_one_where, Folds}
use Rattle.dpl_batches.specs.Stores.{by_now, all_stored, HasElement, HaveElements, AreApart, Begins, AreFound, kept_words, goes_in, done_where}
use Rattle.dpl_batches.specs.declared.store.Store.{Store}
use Rattle.dpl_batches.proofs.Stores.{made-put, made-fold, unmade-set, elements-set, leaves-all_stored}
use Rattle.dpl_batches.proofs.StoreTurns.{own-now}

-- A WORD THAT IS THERE is put once more
own-put : (t : Index) (w : ℤ) (is : List Index) (ws : List ℤ) → word_at t is ws ≡ Some w → with_word t w is ws ≡ ws
own-put t w [] ws there = refl
own-put t w (i ∷ is) [] there = refl
own-put t w (i ∷ is) (v ∷ ws) there =
    ⊎_elim
    (λ (here : same_index t i ≡ true). let found : Some v ≡ Some w = rw here at there in rw here (ap (λ u. u ∷ ws) (sym (same_Some v w found))))
    (λ (other : same_index t i ≡ false). let rest : word_at t is ws ≡ Some w = rw other at there in rw other (ap (λ us. v ∷ us) (own-put t w is ws rest)))
    (cases_Bool (same_index t i))

own-array : (slot : ℕ) (t : Index) (w : ℤ) (u : Memory) → held_at t (array_at slot u) ≡ Some w → with_array slot (held_with t w (array_at slot u)) u ≡ u
own-array slot t w u there =
    ap {A = List ℤ} (λ ws. with_array slot (record (array_at slot u) { words = ws }) u) (own-put t w (array_at slot u).keys (array_at slot u).words there)
    ∙ ap {A = List Held} {B = Memory} (λ held. record u { arrays = held }) (set-get_or u.arrays slot no_array)

-- a turn's own word, by its store
own-at : (xs : List Store) (i : ℕ) (x : Store) (k : ℕ) (s u : Memory) → slice_get xs i ≡ Some x → OwnWords (map by_now xs) k s u
    → held_at (behind k x.at) (array_at x.slot u) ≡ own_word (by_now x) k s
own-at [] i x k s u at own = absurd (none-some x at)
own-at (z ∷ xs) zero x k s u at own =
    let is : z ≡ x = same_Some z x at in
    subst (λ (x : Store). held_at (behind k x.at) (array_at x.slot u) ≡ own_word (by_now x) k s) is own.0
own-at (z ∷ xs) (suc i) x k s u at own = own-at xs i x k s u at own.1

-- THE ELEMENTS THAT ARE THERE
element-at : (xs : List Store) (i : ℕ) (x : Store) (k : ℕ) (s : Memory) → slice_get xs i ≡ Some x → HaveElements xs k s → HasElement x.is_made x.fold x k s
element-at [] i x k s at there = absurd (none-some x at)
element-at (z ∷ xs) zero x k s at there = subst (λ (x : Store). HasElement x.is_made x.fold x k s) (same_Some z x at) there.0
element-at (z ∷ xs) (suc i) x k s at there = element-at xs i x k s at there.1

-- an element that a turn finds was there at first
was-there : (s : Memory) (b : Bool) (f : Option IntFold) (x : Store) (w : ℤ) (k : ℕ) → f ≡ None → HasElement b f x k s
    → own_word (record { slot = x.slot; at = x.at; words = kept_words b f x.words }) k s ≡ Some w → is_some (held_at (behind k x.at) (array_at x.slot s)) ≡ true
was-there s true None x w k plain there own = there
was-there s true (Some fold) x w k plain there own = absurd (none-some fold (sym plain))
was-there s false f x w k plain there own = ap is_some own

has-element : (s : Memory) (x y : Store) (k : ℕ) → y.slot ≡ x.slot → y.at ≡ x.at → y.is_made ≡ true → y.fold ≡ None
    → is_some (held_at (behind k x.at) (array_at x.slot s)) ≡ true → HasElement y.is_made y.fold y k s
has-element s x y k same beside made puts there =
    subst (λ b. HasElement b y.fold y k s) (sym made)
    (subst (λ f. HasElement true f y k s) (sym puts)
    (ap (λ at. is_some (held_at (behind k at) (array_at y.slot s))) beside ∙ ap (λ slot. is_some (held_at (behind k x.at) (array_at slot s))) same ∙ there))

has-none : (s : Memory) (y : Store) (k : ℕ) → y.is_made ≡ true → (fold : IntFold) → y.fold ≡ Some fold → HasElement y.is_made y.fold y k s
has-none s y k made fold folds = subst (λ b. HasElement b y.fold y k s) (sym made) (subst (λ f. HasElement true f y k s) (sym folds) tt)

-- NONE IS FOUND, or fewer are
module _ (limits : Limits) (names : Names) (row : Row) (s : Memory) (mask : Option (List ℤ)) where
  pub none-found : (body : Stmts Variable) (xs : List Store) → AreFound limits names row s body mask 0 xs xs
  none-found body xs = record {
    alike = refl;
    there = λ k below. absurd (omega (arith, below));
    does = λ k below. absurd (omega (arith, below));
  }

  pub fewer-found : (body : Stmts Variable) (size fewer : ℕ) (xs ys : List Store) → fewer ≤ size → AreFound limits names row s body mask size xs ys → AreFound limits names row s body mask fewer xs ys
  fewer-found body size fewer xs ys few found = record {
    alike = found.alike;
    there = λ k below. found.there k (omega (arith, below, few));
    does = λ k below. found.does k (omega (arith, below, few));
  }

  -- a statement by itself, where it is done and where it isn't
  one-statement : (stmt : StmtTree Variable) (b : Bool) (m next : Memory) (done : Deeds)
      → (b ≡ true → exec limits in_memory stmt m done ≡ Done next done) → (b ≡ false → m ≡ next)
      → exec_all limits in_memory (done_where b (Then stmt NoStmts)) m done ≡ Done next done
  one-statement stmt true m next done does leaves = ap (λ o. then_do o (exec_all limits in_memory NoStmts)) (does refl)
  one-statement stmt false m next done does leaves = ap (λ (m : Memory). Done m done) (leaves refl)

  -- AN ELEMENT is assigned: the store at a place is made, or made anew, by another one
  module _
      (xs : List Store) (apart : AreApart names xs) (i : ℕ) (x y : Store) (at : slice_get xs i ≡ Some x) (plain : x.fold ≡ None)
      (same : y.slot ≡ x.slot) (beside : y.at ≡ x.at) (made : y.is_made ≡ true) (puts : y.fold ≡ None)
      (size : ℕ) (own : List ℤ) (owns : (k : ℕ) → k < size → own_word (by_now x) k s ≡ Some (get_or own k (pos 0))) where
    abbrev memory_in : ℕ → Memory → Memory
    memory_in k u = all_stored xs k u

    abbrev memory_with : ℕ → ℤ → Memory → Memory
    memory_with k w u = with_array x.slot (held_with (behind k x.at) w (array_at x.slot (memory_in k u))) (memory_in k u)

    is-own : (k : ℕ) → HaveElements xs k s → (u : Memory) → Begins names xs row k s u → IsInOwnTurn names (map by_now xs) row k s (memory_in k u)
    is-own k there u begun = own-now names xs row k s u apart there begun

    held-now : (k : ℕ) → k < size → HaveElements xs k s → (u : Memory) → Begins names xs row k s u
        → held_at (behind k x.at) (array_at x.slot (memory_in k u)) ≡ Some (get_or own k (pos 0))
    held-now k below there u begun = own-at xs i x k s (memory_in k u) at (is-own k there u begun).own ∙ owns k below

    does-true : (k : ℕ) (u : Memory) (done : Deeds) → Done (memory_with k (get_or y.words k (pos 0)) u) done ≡ Done (all_stored (set xs i y) k u) done
    does-true k u done = ap (λ (m : Memory). Done m done) (sym (made-put names xs i x y apart at same made beside plain puts k u))

    -- where the statement isn't done the element's own word is put
    leaves-false : (k : ℕ) → k < size → HaveElements xs k s → (u : Memory) → Begins names xs row k s u → get_or y.words k (pos 0) ≡ get_or own k (pos 0)
        → memory_in k u ≡ all_stored (set xs i y) k u
    leaves-false k below there u begun is =
        sym (own-array x.slot (behind k x.at) (get_or own k (pos 0)) (memory_in k u) (held-now k below there u begun))
        ∙ ap (λ w. memory_with k w u) (sym is)
        ∙ sym (made-put names xs i x y apart at same made beside plain puts k u)

    now-there : (k : ℕ) → k < size → HaveElements xs k s → HaveElements (set xs i y) k s
    now-there k below there =
        let was = was-there s x.is_made x.fold x (get_or own k (pos 0)) k plain (element-at xs i x k s at there) (owns k below) in
        elements-set xs i x y k s at (has-element s x y k same beside made puts was) there

    pub found-element : (stmt : StmtTree Variable)
        → ((k : ℕ) → k < size → k < 64 → HaveElements xs k s → (u : Memory) → Begins names xs row k s u → goes_in mask k ≡ true → (done : Deeds)
        → exec limits in_memory stmt (memory_in k u) done ≡ Done (memory_with k (get_or y.words k (pos 0)) u) done)
        → ((k : ℕ) → k < size → k < 64 → goes_in mask k ≡ false → get_or y.words k (pos 0) ≡ get_or own k (pos 0))
        → AreFound limits names row s (Then stmt NoStmts) mask size xs (set xs i y)
    found-element stmt does leaves = record {
      alike = unmade-set xs i x y at same beside;
      there = λ k below cap there. now-there k below there;
      does = λ k below cap there u begun done.
          one-statement stmt (goes_in mask k) (memory_in k u) (all_stored (set xs i y) k u) done
          (λ goes. does k below cap there u begun goes done ∙ does-true k u done)
          (λ not. leaves-false k below there u begun (leaves k below cap not));
    }

    -- of an int, by whichever operator divides none
    module _ (name : ArrayName) (index : IndexExpr) (slot_is : x.slot ≡ name.slot) (goes : GoesFrom limits names (map by_now xs) row s index x.at) where
      pub found-int : (op : Assign) (sign : Place) (e : IntExpr) (source : Strip) (begins : source.row ≡ row) (enough : size ≤ source.size)
          → HoldsInTurns names (map by_now xs) (λ u. value_of limits in_memory (int_view e) None u) s source
          → (0 < size → assign_divides op ≡ false) → (words : List ℤ)
          → ((k : ℕ) → k < size → k < 64 → assigned op None (Int (get_or own k (pos 0))) (Int (get_or source.words k (pos 0))) ≡ Int (get_or words k (pos 0)))
          → ((k : ℕ) → k < size → k < 64 → get_or y.words k (pos 0) ≡ (if goes_in mask k then get_or words k (pos 0) else get_or own k (pos 0)))
          → AreFound limits names row s (Then (element_set (array_leaf IntKind name) index op sign (int_view e)) NoStmts) mask size xs (set xs i y)
      found-int op sign e source begins enough values divides words changed blended =
          found-element (element_set (array_leaf IntKind name) index op sign (int_view e))
          (λ k below within there u begun done_there done.
          let m = memory_in k u in
          let t = behind k x.at in
          let turn = is-own k there u begun in
          let w = get_or source.words k (pos 0) in
          let new = get_or words k (pos 0) in
          let held = ap (λ slot. held_at t (array_at slot m)) (sym slot_is) ∙ held-now k below there u begun in
          let new_is : get_or y.words k (pos 0) ≡ new = blended k below within ∙ ap (λ b. if b then new else get_or own k (pos 0)) done_there in
          exec-element limits (array_leaf IntKind name) index op sign (int_view e) m done (Int w) (Ok t) (cell_read-int e)
          (values k (omega (arith, below, enough)) within m (subst (λ row. IsInOwnTurn names (map by_now xs) row k s m) (sym begins) turn))
          (goes k within m turn.turn)
          ∙ change-there limits name op sign t (Int w) m done (get_or own k (pos 0)) new held (divides (omega (arith, below))) (changed k below within)
          ∙ ap (λ slot. Done (with_array slot (held_with t new (array_at slot m)) m) done) (sym slot_is)
          ∙ ap (λ w. Done (memory_with k w u) done) (sym new_is))
          (λ k below within not. blended k below within ∙ ap (λ b. if b then get_or words k (pos 0) else get_or own k (pos 0)) not)

      -- of a truth value
      pub found-truth : (e : BoolExpr) (source : Strip) (begins : source.row ≡ row) (enough : size ≤ source.size)
          → TruthsHoldInTurns names (map by_now xs) (λ u. value_of limits in_memory (truth_view e) None u) s source
          → ((k : ℕ) → k < size → k < 64 → get_or y.words k (pos 0) ≡ (if goes_in mask k then get_or source.words k (pos 0) else get_or own k (pos 0)))
          → AreFound limits names row s (Then (element_set (array_leaf BoolKind name) index Set nowhere (truth_view e)) NoStmts) mask size xs (set xs i y)
      found-truth e source begins enough values blended =
          found-element (element_set (array_leaf BoolKind name) index Set nowhere (truth_view e))
          (λ k below within there u begun done_there done.
          let m = memory_in k u in
          let t = behind k x.at in
          let turn = is-own k there u begun in
          let truth = values k (omega (arith, below, enough)) within in
          let w = kept_number (Truth truth.0) in
          let new = get_or source.words k (pos 0) in
          let held = ap (λ slot. held_at t (array_at slot m)) (sym slot_is) ∙ held-now k below there u begun in
          let new_is : get_or y.words k (pos 0) ≡ new = blended k below within ∙ ap (λ b. if b then new else get_or own k (pos 0)) done_there in
          exec-element limits (array_leaf BoolKind name) index Set nowhere (truth_view e) m done (Truth truth.0) (Ok t) (cell_read-truth e)
          (truth.2 m (subst (λ row. IsInOwnTurn names (map by_now xs) row k s m) (sym begins) turn))
          (goes k within m turn.turn)
          ∙ change-put limits BoolKind name Set nowhere t (Truth truth.0) m done refl (λ old new. refl)
          ∙ sym (change-put limits IntKind name Set nowhere t (Int w) m done refl (λ old new. refl))
          ∙ change-there limits name Set nowhere t (Int w) m done (get_or own k (pos 0)) w held refl refl
          ∙ ap (λ slot. Done (with_array slot (held_with t w (array_at slot m)) m) done) (sym slot_is)
          ∙ ap (λ w. Done (memory_with k w u) done) (sym (new_is ∙ truth.1)))
          (λ k below within not. blended k below within ∙ ap (λ b. if b then get_or source.words k (pos 0) else get_or own k (pos 0)) not)

  -- AN INT is folded, which none has been folded onto
  module _
      (xs : List Store) (apart : AreApart names xs) (i : ℕ) (x y : Store) (at : slice_get xs i ≡ Some x) (unmade : x.is_made ≡ false)
      (same : y.slot ≡ x.slot) (beside : y.at ≡ x.at) (made : y.is_made ≡ true) (fold : IntFold) (folds : y.fold ≡ Some fold)
      (size : ℕ) (deed : IntDeed) (slot : ℕ) (slot_is : x.slot ≡ slot) (within : slot < length s.words.numbers) (intent : Folds deed (intent_at slot s.words.intents) fold)
      (e : IntExpr) (source : Strip) (begins : source.row ≡ row) (enough : size ≤ source.size) (words : y.words ≡ source.words)
      (values : HoldsInTurns names (map by_now xs) (λ u. value_of limits in_memory (int_view e) None u) s source)
      (masked : (k : ℕ) → k < 64 → goes_in (Some y.mask) k ≡ goes_in mask k) where
    abbrev int_in : ℕ → Memory → ℤ
    int_in k u = get_or (all_stored xs k u).words.numbers x.slot (pos 0)

    abbrev with_int : ℕ → ℤ → Memory → Memory
    with_int k n u = with_value_in (PlainKind IntLeaf) x.slot (Int n) (all_stored xs k u)

    int-made : (k : ℕ) (u : Memory) → all_stored (set xs i y) k u ≡ with_int k (folded_one_where fold (int_in k u) (get_or y.mask k (pos 0)) (get_or source.words k (pos 0))) u
    int-made k u =
        made-fold names xs i x y apart at same made fold unmade folds k u
        ∙ ap (λ ws. with_int k (folded_one_where fold (int_in k u) (get_or y.mask k (pos 0)) (get_or ws k (pos 0))) u) words

    -- where the mask lets it be folded, and where it doesn't
    counts : (n m w : ℤ) → not (int_eq m (pos 0)) ≡ true → folded_one_where fold n m w ≡ folded_one fold n w
    counts n m w some = ap (λ b. if b then n else folded_one fold n w) (opposite (int_eq m (pos 0)) some)
      where
        opposite : (b : Bool) → not b ≡ true → b ≡ false
        opposite true is = cc
        opposite false is = refl

    passes : (n m w : ℤ) → not (int_eq m (pos 0)) ≡ false → folded_one_where fold n m w ≡ n
    passes n m w none = ap (λ b. if b then n else folded_one fold n w) (opposite (int_eq m (pos 0)) none)
      where
        opposite : (b : Bool) → not b ≡ false → b ≡ true
        opposite true is = refl
        opposite false is = cc

    one-fold : (k : ℕ) → k < size → k < 64 → HaveElements xs k s → (u : Memory) → Begins names xs row k s u → (done : Deeds)
        → exec limits in_memory (int_changed deed slot (One (int_view e))) (all_stored xs k u) done ≡ Done (with_int k (folded_one fold (int_in k u) (get_or source.words k (pos 0))) u) done
    one-fold k below cap there u begun done =
        let m = all_stored xs k u in
        let w = get_or source.words k (pos 0) in
        let turn = own-now names xs row k s u apart there begun in
        let value = values k (omega (arith, below, enough)) cap m (subst (λ row. IsInOwnTurn names (map by_now xs) row k s m) (sym begins) turn) in
        let does = intent slot w m (ap (intent_at slot) ((leaves-all_stored xs k u).intents ∙ begun.intents)) in
        exec-int limits deed slot (One (int_view e)) m done (cell_read-int e)
        ∙ ap (λ given. ends_as (int_changed_by limits given deed slot (One (int_view e)) m) done) does.0
        ∙ ap (λ r. ends_as (with_ok r (λ v. int_put deed slot v m)) done) value
        ∙ ap (λ r. ends_as r done) does.1
        ∙ ap (λ slot. Done (with_value_in (PlainKind IntLeaf) slot (Int (folded_one fold (get_or m.words.numbers slot (pos 0)) w)) m) done) (sym slot_is)

    same-int : (k : ℕ) (u : Memory) → with_int k (int_in k u) u ≡ all_stored xs k u
    same-int k u =
        let m = all_stored xs k u in
        ap {A = List ℤ} {B = Memory} (λ ns. record m { words = record m.words { numbers = ns } }) (set-get_or m.words.numbers x.slot (pos 0))

    now-there-too : (k : ℕ) → HaveElements xs k s → HaveElements (set xs i y) k s
    now-there-too k there = elements-set xs i x y k s at (has-none s y k made fold folds) there

    pub found-fold : AreFound limits names row s (Then (int_changed deed slot (One (int_view e))) NoStmts) mask size xs (set xs i y)
    found-fold = record {
      alike = unmade-set xs i x y at same beside;
      there = λ k below cap there. now-there-too k there;
      does = λ k below cap there u begun done.
          let m = get_or y.mask k (pos 0) in
          let w = get_or source.words k (pos 0) in
          one-statement (int_changed deed slot (One (int_view e))) (goes_in mask k) (all_stored xs k u) (all_stored (set xs i y) k u) done
          (λ goes.
          one-fold k below cap there u begun done
          ∙ ap (λ n. Done (with_int k n u) done) (sym (counts (int_in k u) m w (masked k cap ∙ goes)))
          ∙ ap (λ (m : Memory). Done m done) (sym (int-made k u)))
          (λ not. sym (same-int k u) ∙ ap (λ n. with_int k n u) (sym (passes (int_in k u) m w (masked k cap ∙ not))) ∙ sym (int-made k u));
    }

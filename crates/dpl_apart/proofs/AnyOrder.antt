-- In whatever order turns that keep apart are made, the same of them have faults, and where none has the same is left.
use Rattle.std.proofs.Common.{◌≡◌, ℕ, ◌+◌, ◌<◌, ◌≤◌, Bool, true, false, cond, List, [], ◌∷◌, ◌++◌, Option, refl, sym, ap, ◌∙◌, subst, arith}
use Rattle.std.specs.Prelude.{IsPermutation}
use Rattle.std.specs.List.{All, AllByRecursion, sum_by}
use Rattle.std.proofs.lemmas.List.Elements.{recursion_from_All}
use Rattle.std.proofs.lemmas.List.Sorted.{sum_by-IsPermutation, All-permutation, IsPermutation-sym}
use Rattle.std.proofs.lemmas.List.Recursion.{is_sum_by}
use Rattle.dpl_language.specs.Values.{Index}
use Rattle.dpl_language.specs.Ranges.{same_index}
use Rattle.dpl_language.specs.Outcome.{Deeds, Done, Run, in_order}
use Rattle.dpl_rules.specs.AnyOrder.{EndsAs, InAnyOrder}
use Rattle.dpl_apart.specs.Rows.{Turned, Leaves, Fails, Finished, Failed, Loop, with_row, run, IsRising, Adds, IsReducing}
use Rattle.dpl_apart.specs.Apart.{Holding, turn_left, loop_left, last_index, IsApart}
use Rattle.dpl_apart.proofs.Indices.{same_index-refl, same_index-sound, not-same}
use Rattle.dpl_apart.proofs.Split.{run-leaves, run-fails, to-first}
use Rattle.dpl_apart.proofs.InOrder.{in_order-run, has-held}

-- how often an index is listed
abbrev once : Index → Index → ℕ
once x t = cond (same_index x t) 1 0

abbrev times : Index → List Index → ℕ
times x [] = 0
times x (t ∷ ts) = once x t + times x ts

times-sum : (x : Index) (ts : List Index) → times x ts ≡ sum_by (once x) ts
times-sum x ts = is_sum_by (times x) (once x) refl (λ _ _. refl) ts

times-append : (x : Index) (xs ys : List Index) → times x (xs ++ ys) ≡ times x xs + times x ys
times-append x [] ys = omega arith
times-append x (t ∷ xs) ys = let rest = times-append x xs ys in omega (arith, rest)

once-self : (t : Index) → once t t ≡ 1
once-self t = rw (same_index-refl t) refl

once-other : (x t : Index) → once x t ≡ 0 → same_index x t ≡ false
once-other x t h = by (same_index x t) h where
  by : (b : Bool) → ◌≡◌ {A = ℕ} (cond b 1 0) 0 → b ≡ false
  by true h = absurd (omega (arith, h))
  by false h = refl

permuted : (us vs : List Index) → IsPermutation us vs → (x : Index) → times x us ≡ times x vs
permuted us vs p x = times-sum x us ∙ sym (times-sum x vs ∙ sum_by-IsPermutation (once x) us vs p)

-- an index that is listed, with what stands before it and behind it
module _ (u : Index) where
  record IsFound (ts : List Index) : Type 0 where
    before : List Index
    behind : List Index
    is : ts ≡ before ++ u ∷ behind
    first : times u before ≡ 0

  found : (ts : List Index) → 0 < times u ts → IsFound ts
  found [] h = absurd (omega (arith, h))
  found (t ∷ ts) h = by (same_index u t) refl (found ts) where
    by : (b : Bool) → same_index u t ≡ b → (0 < times u ts → IsFound ts) → IsFound (t ∷ ts)
    by true e rest = record { before = []; behind = ts; is = ap (λ x. x ∷ ts) (sym (same_index-sound u t e)); first = refl }
    by false e rest =
        let none : once u t ≡ 0 = rw e refl in
        let more : 0 < times u ts = omega (arith, h, none) in
        let r = rest more in
        record { before = t ∷ r.before; behind = r.behind; is = ap (λ xs. t ∷ xs) r.is; first = omega (arith, none, r.first) }

-- an index whose place lies before those of a list isn't listed there
unlisted : (place : Index → ℕ) (t : Index) (ts : List Index) → AllByRecursion (λ x. place t < place x) ts → times t ts ≡ 0
unlisted place t [] h = refl
unlisted place t (x ∷ xs) h =
    let other : same_index t x ≡ false = not-same t x (λ e. let same = ap place e in let less = h.0 in omega (arith, same, less)) in
    let none : once t x ≡ 0 = rw other refl in
    let rest = unlisted place t xs h.1 in
    omega (arith, none, rest)

-- where places rise each index is listed once at the most
at-most-once : (place : Index → ℕ) (ts : List Index) → IsRising place ts → (x : Index) → times x ts ≤ 1
at-most-once place [] h x = omega arith
at-most-once place (t ∷ ts) h x = by (same_index x t) refl (at-most-once place ts h.1 x) where
  by : (b : Bool) → same_index x t ≡ b → times x ts ≤ 1 → times x (t ∷ ts) ≤ 1
  by true e rest =
      let none : times x ts ≡ 0 = ap (λ y. times y ts) (same_index-sound x t e) ∙ unlisted place t ts h.0 in
      let here : once x t ≡ 1 = rw e refl in
      omega (arith, none, here)
  by false e rest = let here : once x t ≡ 0 = rw e refl in omega (arith, rest, here)

all-parts : {X : Type 0} (P : X → Type 0) (xs ys : List X) → AllByRecursion P (xs ++ ys) → AllByRecursion P xs × AllByRecursion P ys
all-parts P [] ys h = (tt, h)
all-parts P (x ∷ xs) ys h = let rest = all-parts P xs ys h.1 in ((h.0, rest.0), rest.1)

-- ---- rows
with_row-other : {T : Type 0} (t : Index) (row : T) (rows : Index → T) (x : Index) → same_index x t ≡ false → with_row t row rows x ≡ rows x
with_row-other t row rows x e = rw e refl

-- two rows that are put at two indices, in either order
with_row-twice : {T : Type 0} (s t : Index) (row other : T) (rows : Index → T) → (s ≡ t → ⊥) → with_row s row (with_row t other rows) ≡ with_row t other (with_row s row rows)
with_row-twice s t row other rows apart = λ i x. at x (same_index x s) (same_index x t) refl refl i where
  at : (x : Index) (b c : Bool) → same_index x s ≡ b → same_index x t ≡ c → with_row s row (with_row t other rows) x ≡ with_row t other (with_row s row rows) x
  at x true true es et = absurd (apart (sym (same_index-sound x s es) ∙ same_index-sound x t et))
  at x true false es et = rw (es, et) refl
  at x false true es et = rw (es, et) refl
  at x false false es et = rw (es, et) refl

module _ {T V : Type 0} {IsOne : V → Type 0} {unit : V} (loop : Loop T V) (lawful : IsReducing IsOne unit loop) where
  -- what an end without a fault says of the first turn
  record HasLeft (t : Index) (ts : List Index) (rows : Index → T) (a : V) (end : Index → T) (sum : V) : Type 0 where
    row : T
    adds : V
    turn : loop.turn t (rows t) ≡ Leaves row adds
    rest : run loop ts (with_row t row rows) (loop.join a adds) ≡ Finished end sum

  has-left : (t : Index) (ts : List Index) (rows : Index → T) (a : V) (end : Index → T) (sum : V) → run loop (t ∷ ts) rows a ≡ Finished end sum → HasLeft t ts rows a end sum
  has-left t ts rows a end sum h =
      elim (loop.turn t (rows t)) as (λ w. loop.turn t (rows t) ≡ w → HasLeft t ts rows a end sum) [
        | Leaves row v ↦ λ e. record { row = row; adds = v; turn = e; rest = sym (run-leaves loop t ts rows a row v e) ∙ h }
        | Fails f ↦ λ e. absurd (let no : Failed (loop.place t) f ≡ Finished end sum = sym (run-fails loop t ts rows a f e) ∙ h in cc)
      ] refl

  leaves-first : (t : Index) (ts : List Index) (rows : Index → T) (a : V) (row : T) (v : V) (end : Index → T) (sum : V) → loop.turn t (rows t) ≡ Leaves row v
      → run loop ts (with_row t row rows) (loop.join a v) ≡ Finished end sum → run loop (t ∷ ts) rows a ≡ Finished end sum
  leaves-first t ts rows a row v end sum e h = run-leaves loop t ts rows a row v e ∙ h

  -- the row of an index that has no turn stays
  pub row-stays : (ts : List Index) (rows : Index → T) (a : V) (end : Index → T) (sum : V) (x : Index) → run loop ts rows a ≡ Finished end sum → times x ts ≡ 0 → end x ≡ rows x
  row-stays [] rows a end sum x h none = let e : rows ≡ end = cc in λ i. sym e i x
  row-stays (t ∷ ts) rows a end sum x h none =
      let r = has-left t ts rows a end sum h in
      let not_here : once x t ≡ 0 = omega (arith, none) in
      let not_there : times x ts ≡ 0 = omega (arith, none) in
      row-stays ts (with_row t r.row rows) (loop.join a r.adds) end sum x r.rest not_there ∙ with_row-other t r.row rows x (once-other x t not_here)

  -- what a turn adds may be put together, and is put to what may be
  added : (t : Index) (r row : T) (v : V) → loop.turn t r ≡ Leaves row v → IsOne v
  added t r row v e = subst (Adds IsOne) e (lawful.adds t r)

  joined : (a v : V) → IsOne a → IsOne v → IsOne (loop.join a v)
  joined a v ha hv = lawful.monoid.closed a v ha hv

  -- two turns in either order
  two-turns : (u x : Index) (zs : List Index) (rows : Index → T) (a : V) (first second : T) (v w : V) → IsOne a → (u ≡ x → ⊥) → loop.turn x (rows x) ≡ Leaves first v → loop.turn u (rows u) ≡ Leaves second w
      → run loop (u ∷ x ∷ zs) rows a ≡ run loop (x ∷ u ∷ zs) rows a
  two-turns u x zs rows a first second v w ha apart of_x of_u =
      let still_x : loop.turn x (with_row u second rows x) ≡ Leaves first v = ap (loop.turn x) (with_row-other u second rows x (not-same x u (λ e. apart (sym e)))) ∙ of_x in
      let still_u : loop.turn u (with_row x first rows u) ≡ Leaves second w = ap (loop.turn u) (with_row-other x first rows u (not-same u x apart)) ∙ of_u in
      run-leaves loop u (x ∷ zs) rows a second w of_u
      ∙ run-leaves loop x zs (with_row u second rows) (loop.join a w) first v still_x
      ∙ ap (λ rs. run loop zs rs (loop.join (loop.join a w) v)) (with_row-twice x u first second rows (λ e. apart (sym e)))
      ∙ ap (run loop zs (with_row u second (with_row x first rows))) (to-first loop lawful.monoid a w v ha (added u (rows u) second w of_u) (added x (rows x) first v of_x))
      ∙ sym (run-leaves loop x (u ∷ zs) rows a first v of_x ∙ run-leaves loop u zs (with_row x first rows) (loop.join a v) second w still_u)

  -- a turn behind another one may be made before it
  one-before : (u x : Index) (zs : List Index) (rows : Index → T) (a : V) (first : T) (v : V) (end : Index → T) (sum : V) → IsOne a → same_index u x ≡ false → loop.turn x (rows x) ≡ Leaves first v
      → run loop (u ∷ zs) (with_row x first rows) (loop.join a v) ≡ Finished end sum → run loop (u ∷ x ∷ zs) rows a ≡ Finished end sum
  one-before u x zs rows a first v end sum ha other of_x behind =
      let apart : u ≡ x → ⊥ = λ e. let yes : same_index u x ≡ true = ap (same_index u) (sym e) ∙ same_index-refl u in let no : true ≡ false = sym yes ∙ other in cc in
      let second = has-left u zs (with_row x first rows) (loop.join a v) end sum behind in
      let of_u : loop.turn u (rows u) ≡ Leaves second.row second.adds = ap (loop.turn u) (sym (with_row-other x first rows u other)) ∙ second.turn in
      two-turns u x zs rows a first second.row v second.adds ha apart of_x of_u ∙ run-leaves loop x (u ∷ zs) rows a first v of_x ∙ behind

  -- and a turn behind several ones before these
  turn-first : (u : Index) (xs ys : List Index) (rows : Index → T) (a : V) (end : Index → T) (sum : V) → IsOne a → times u xs ≡ 0
      → run loop (xs ++ u ∷ ys) rows a ≡ Finished end sum → run loop (u ∷ (xs ++ ys)) rows a ≡ Finished end sum
  turn-first u [] ys rows a end sum ha none h = h
  turn-first u (x ∷ xs) ys rows a end sum ha none h =
      let first = has-left x (xs ++ u ∷ ys) rows a end sum h in
      one-before u x (xs ++ ys) rows a first.row first.adds end sum ha (once-other u x (omega (arith, none))) first.turn
      (turn-first u xs ys (with_row x first.row rows) (loop.join a first.adds) end sum (joined a first.adds ha (added x (rows x) first.row first.adds first.turn)) (omega (arith, none)) first.rest)

  -- the same turns in another order
  pub run-permuted : (us ts : List Index) (rows : Index → T) (a : V) (end : Index → T) (sum : V) → IsOne a → ((x : Index) → times x us ≡ times x ts)
      → run loop ts rows a ≡ Finished end sum → run loop us rows a ≡ Finished end sum
  run-permuted [] [] rows a end sum ha same h = h
  run-permuted [] (t ∷ ts) rows a end sum ha same h = absurd (let listed = same t in let here = once-self t in omega (arith, listed, here))
  run-permuted (u ∷ us) ts rows a end sum ha same h =
      let listed = same u in
      let here = once-self u in
      let at = found u ts (omega (arith, listed, here)) in
      let left = has-left u (at.before ++ at.behind) rows a end sum (turn-first u at.before at.behind rows a end sum ha at.first (ap (λ ts. run loop ts rows a) (sym at.is) ∙ h)) in
      let others : (x : Index) → times x us ≡ times x (at.before ++ at.behind) =
      λ x.
      let all : times x (u ∷ us) ≡ times x (at.before ++ u ∷ at.behind) = same x ∙ ap (times x) at.is in
      let parts = times-append x at.before (u ∷ at.behind) in
      let both = times-append x at.before at.behind in
      omega (arith, all, parts, both) in
      leaves-first u us rows a left.row left.adds end sum left.turn
      (run-permuted us (at.before ++ at.behind) (with_row u left.row rows) (loop.join a left.adds) end sum (joined a left.adds ha (added u (rows u) left.row left.adds left.turn)) others left.rest)

-- ---- over a state
module _ {T V S : Type 0} {IsIndex : Index → Type 0} {IsOne : V → Type 0} {unit : V} (holding : Holding T V S) (loop : Loop T V) (turn : Index → Run S) (lawful : IsReducing IsOne unit loop) (apart : IsApart IsIndex IsOne holding loop turn) where
  ends-alike : (t : Index) (rows ends : Index → T) (a b : V) (done made : Deeds) (w : Turned T V)
      → EndsAs (turn_left holding loop.join t rows a done w) (turn_left holding loop.join t ends b made w)
  ends-alike t rows ends a b done made (Leaves row v) = (_, _, refl)
  ends-alike t rows ends a b done made (Fails f) = (_, refl)

  -- a turn behind others ends as it does before them, where it isn't one of them
  pub turn-behind : (before : List Index) (t : Index) (last : Option Index) (rows : Index → T) (a : V) (done : Deeds) (u : S) (made : Deeds) → IsOne a → AllByRecursion IsIndex before → IsIndex t → times t before ≡ 0
      → in_order turn before (holding last rows a) done ≡ Done u made → EndsAs (turn t (holding last rows a) done) (turn t u made)
  turn-behind before t last rows a done u made ha all among none h =
      let held = has-held holding loop turn lawful apart before last rows a done u made ha all h in
      let its_row : held.end t ≡ rows t = row-stays loop lawful before rows a held.end held.sum t held.ran none in
      let alone : turn_left holding loop.join t rows a done (loop.turn t (rows t)) ≡ turn t (holding last rows a) done = sym (apart.each t last rows a done among ha) in
      let behind : turn_left holding loop.join t held.end held.sum made (loop.turn t (rows t)) ≡ turn t u made =
      ap (λ row. turn_left holding loop.join t held.end held.sum made (loop.turn t row)) (sym its_row)
      ∙ sym (apart.each t (last_index last before) held.end held.sum made among held.is_one)
      ∙ ap (λ s. turn t s made) held.state in
      subst (λ o. EndsAs o (turn t u made)) alone (subst (EndsAs (turn_left holding loop.join t rows a done (loop.turn t (rows t)))) behind (ends-alike t rows held.end a held.sum done made (loop.turn t (rows t))))

  -- The same turns in another order leave the same rows and the same reduce variables. What is left besides is what their own last one leaves.
  pub leaves-but-last : (us ts : List Index) (last : Option Index) (rows : Index → T) (a : V) (done : Deeds) (u : S) (made : Deeds) → IsOne a → All IsIndex ts → IsPermutation us ts
      → in_order turn ts (holding last rows a) done ≡ Done u made
      → (ends : Index → T) × (sum : V) × (u ≡ holding (last_index last ts) ends sum) × (in_order turn us (holding last rows a) done ≡ Done (holding (last_index last us) ends sum) made)
  leaves-but-last us ts last rows a done u made ha all p h =
      let held = has-held holding loop turn lawful apart ts last rows a done u made ha (recursion_from_All IsIndex ts all) h in (
        held.end,
        held.sum,
        sym held.state,
        in_order-run holding loop turn lawful apart us last rows a done ha (recursion_from_All IsIndex us (All-permutation IsIndex ts us (IsPermutation-sym us ts p) all))
            ∙ ap (loop_left holding (last_index last us) done) (run-permuted loop lawful us ts rows a held.end held.sum ha (permuted us ts p) held.ran)
            ∙ ap (λ d. Done (holding (last_index last us) held.end held.sum) d) held.deeds,
      )

  -- A turn behind some of the turns of a loop, of which it is none, ends as it does before them all.
  pub faults-anywhere : (ts : List Index) (last : Option Index) (rows : Index → T) (a : V) (done : Deeds) → IsOne a → All IsIndex ts → IsRising loop.place ts
      → (before : List Index) (t : Index) (rest : List Index) (u : S) (made : Deeds) → IsPermutation (before ++ t ∷ rest) ts
      → in_order turn before (holding last rows a) done ≡ Done u made → EndsAs (turn t (holding last rows a) done) (turn t u made)
  faults-anywhere ts last rows a done ha all rising before t rest u made p h =
      let one = at-most-once loop.place ts rising t in
      let same = permuted (before ++ t ∷ rest) ts p t in
      let parts = times-append t before (t ∷ rest) in
      let here = once-self t in
      let among : AllByRecursion IsIndex (before ++ t ∷ rest) = recursion_from_All IsIndex (before ++ t ∷ rest) (All-permutation IsIndex ts (before ++ t ∷ rest) (IsPermutation-sym (before ++ t ∷ rest) ts p) all) in
      let both = all-parts IsIndex before (t ∷ rest) among in
      turn-behind before t last rows a done u made ha both.0 both.1.0 (omega (arith, one, same, parts, here)) h

  -- So turns that keep apart may be made in any order, where what the last one leaves besides isn't seen in the state.
  pub in_any_order : (ts : List Index) (last : Option Index) (rows : Index → T) (a : V) (done : Deeds) → IsOne a → All IsIndex ts → IsRising loop.place ts
      → ((l m : Option Index) (ends : Index → T) (sum : V) → holding l ends sum ≡ holding m ends sum) → InAnyOrder turn ts (holding last rows a) done
  in_any_order ts last rows a done ha all rising unseen = record {
    faults = faults-anywhere ts last rows a done ha all rising;
    leaves = λ us u made p h.
        let same = leaves-but-last us ts last rows a done u made ha all p h in
        same.3 ∙ ap (λ s. Done s made) (unseen (last_index last us) (last_index last ts) same.0 same.1 ∙ sym same.2);
  }

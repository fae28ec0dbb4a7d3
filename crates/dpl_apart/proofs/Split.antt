-- A loop is what its two parts come to, merged; and its reduce variables may be put to it afterwards.
use Rattle.std.proofs.Common.{◌≡◌, ℕ, ◌<◌, Bool, true, false, cond, not, ltb, List, [], ◌∷◌, refl, sym, ap, ◌∙◌, subst, arith}
use Rattle.std.specs.List.{AllByRecursion, filter}
use Rattle.std.proofs.lemmas.Bool.Decides.{nat_tests}
use Rattle.dpl_language.specs.Values.{Index, Fault}
use Rattle.dpl_language.specs.Ranges.{same_index}
use Rattle.dpl_apart.specs.Operands.{IsCommutativeMonoid}
use Rattle.dpl_apart.proofs.Indices.{same_index-sound}
use Rattle.dpl_apart.specs.Rows.{Leaves, Fails, Failed, Loop, with_row, run, either, merge, onto, IsRising, Adds, AddsThen, AllAdd, Comes, Turned}

-- ---- rows
module _ {T : Type 0} (is_first : Index → Bool) (xs ys : Index → T) (t : Index) (row : T) where
  with_row-first : is_first t ≡ true → with_row t row (either is_first xs ys) ≡ either is_first (with_row t row xs) ys
  with_row-first e = λ i x. at x i where
    at : (x : Index) → with_row t row (either is_first xs ys) x ≡ either is_first (with_row t row xs) ys x
    at x = by (same_index x t) refl where
      by : (b : Bool) → same_index x t ≡ b → with_row t row (either is_first xs ys) x ≡ either is_first (with_row t row xs) ys x
      by true h = let q : is_first x ≡ true = ap is_first (same_index-sound x t h) ∙ e in rw (h, q) refl
      by false h = rw h refl

  with_row-second : is_first t ≡ false → with_row t row (either is_first xs ys) ≡ either is_first xs (with_row t row ys)
  with_row-second e = λ i x. at x i where
    at : (x : Index) → with_row t row (either is_first xs ys) x ≡ either is_first xs (with_row t row ys) x
    at x = by (same_index x t) refl where
      by : (b : Bool) → same_index x t ≡ b → with_row t row (either is_first xs ys) x ≡ either is_first xs (with_row t row ys) x
      by true h = let q : is_first x ≡ false = ap is_first (same_index-sound x t h) ∙ e in rw (h, q) refl
      by false h = rw h refl

pub less : (a b : ℕ) → a < b → ltb a b ≡ true
less a b h = grind (arith, nat_tests)

pub not_less : (a b : ℕ) → b < a → ltb a b ≡ false
not_less a b h = grind (arith, nat_tests)

-- ---- lists
pub each-filter : {X : Type 0} (P : X → Type 0) (p : X → Bool) (xs : List X) → AllByRecursion P xs → AllByRecursion P (filter p xs)
each-filter P p [] h = h
each-filter P p (x ∷ xs) h =
    elim (p x) as (λ b. AllByRecursion P (cond b (x ∷ filter p xs) (filter p xs))) [
      | true ↦ (h.0, each-filter P p xs h.1)
      | false ↦ each-filter P p xs h.1
    ]

pub each-weaker : {X : Type 0} (P Q : X → Type 0) (xs : List X) → ((x : X) → P x → Q x) → AllByRecursion P xs → AllByRecursion Q xs
each-weaker P Q [] go h = tt
each-weaker P Q (x ∷ xs) go h = (go x h.0, each-weaker P Q xs go h.1)

pub rising-filter : (place : Index → ℕ) (p : Index → Bool) (ts : List Index) → IsRising place ts → IsRising place (filter p ts)
rising-filter place p [] h = h
rising-filter place p (t ∷ ts) h =
    elim (p t) as (λ b. IsRising place (cond b (t ∷ filter p ts) (filter p ts))) [
      | true ↦ (each-filter _ p ts h.0, rising-filter place p ts h.1)
      | false ↦ rising-filter place p ts h.1
    ]

filter-yes : {X : Type 0} (p : X → Bool) (x : X) (xs : List X) → p x ≡ true → filter p (x ∷ xs) ≡ x ∷ filter p xs
filter-yes p x xs e = rw e refl

filter-no : {X : Type 0} (p : X → Bool) (x : X) (xs : List X) → p x ≡ false → filter p (x ∷ xs) ≡ filter p xs
filter-no p x xs e = rw e refl

-- ---- a turn, and those behind it
module _ {T V : Type 0} (loop : Loop T V) where
  pub run-leaves : (t : Index) (ts : List Index) (rows : Index → T) (a : V) (row : T) (v : V) → loop.turn t (rows t) ≡ Leaves row v
      → run loop (t ∷ ts) rows a ≡ run loop ts (with_row t row rows) (loop.join a v)
  run-leaves t ts rows a row v e = rw e refl

  pub run-fails : (t : Index) (ts : List Index) (rows : Index → T) (a : V) (f : Fault) → loop.turn t (rows t) ≡ Fails f
      → run loop (t ∷ ts) rows a ≡ Failed (loop.place t) f
  run-fails t ts rows a f e = rw e refl

  -- a fault goes before whatever turns of greater places come to
  module _ (is_first : Index → Bool) (t : Index) (f : Fault) where
    before-second : (ts : List Index) (rows : Index → T) (a : V) → AllByRecursion (λ x. loop.place t < loop.place x) ts
        → merge loop.join is_first (Failed (loop.place t) f) (run loop ts rows a) ≡ Failed (loop.place t) f
    before-second [] rows a h = refl
    before-second (x ∷ xs) rows a h =
        elim (loop.turn x (rows x)) as (λ w. loop.turn x (rows x) ≡ w → merge loop.join is_first (Failed (loop.place t) f) (run loop (x ∷ xs) rows a) ≡ Failed (loop.place t) f) [
          | Leaves row v ↦ λ e. rw (run-leaves x xs rows a row v e) (before-second xs (with_row x row rows) (loop.join a v) h.1)
          | Fails g ↦ λ e. rw (run-fails x xs rows a g e, less (loop.place t) (loop.place x) h.0) refl
        ] refl

    before-first : (ts : List Index) (rows : Index → T) (a : V) → AllByRecursion (λ x. loop.place t < loop.place x) ts
        → merge loop.join is_first (run loop ts rows a) (Failed (loop.place t) f) ≡ Failed (loop.place t) f
    before-first [] rows a h = refl
    before-first (x ∷ xs) rows a h =
        elim (loop.turn x (rows x)) as (λ w. loop.turn x (rows x) ≡ w → merge loop.join is_first (run loop (x ∷ xs) rows a) (Failed (loop.place t) f) ≡ Failed (loop.place t) f) [
          | Leaves row v ↦ λ e. rw (run-leaves x xs rows a row v e) (before-first xs (with_row x row rows) (loop.join a v) h.1)
          | Fails g ↦ λ e. rw (run-fails x xs rows a g e, not_less (loop.place x) (loop.place t) h.0) refl
        ] refl

-- loops whose turns do the same at each index of a list run it alike
pub run-alike : {T V : Type 0} (loop : Loop T V) (other : Index → T → Turned T V) (ts : List Index) (rows : Index → T) (a : V) → AllByRecursion (λ t. (row : T) → loop.turn t row ≡ other t row) ts
    → run loop ts rows a ≡ run (record loop { turn = other }) ts rows a
run-alike loop other [] rows a same = refl
run-alike loop other (t ∷ ts) rows a same =
    let others : Loop _ _ = record loop { turn = other } in
    elim (loop.turn t (rows t)) as (λ w. loop.turn t (rows t) ≡ w → run loop (t ∷ ts) rows a ≡ run others (t ∷ ts) rows a) [
      | Leaves row v ↦ λ e.
          run-leaves loop t ts rows a row v e ∙ run-alike loop other ts (with_row t row rows) (loop.join a v) same.1
          ∙ sym (run-leaves others t ts rows a row v (sym (same.0 (rows t)) ∙ e))
      | Fails f ↦ λ e. run-fails loop t ts rows a f e ∙ sym (run-fails others t ts rows a f (sym (same.0 (rows t)) ∙ e))
    ] refl

-- ---- what turns add
module _ {T V : Type 0} (IsOne : V → Type 0) (loop : Loop T V) where
  -- a turn without a fault adds, and so do those behind it
  pub adds-first : (t : Index) (ts : List Index) (rows : Index → T) (row : T) (v : V) → AllAdd IsOne loop (t ∷ ts) rows → loop.turn t (rows t) ≡ Leaves row v
      → IsOne v × AllAdd IsOne loop ts (with_row t row rows)
  adds-first t ts rows row v h e = subst (λ w. AddsThen IsOne w (λ row. AllAdd IsOne loop ts (with_row t row rows))) e h

  pub adds-leaves : (t : Index) (ts : List Index) (rows : Index → T) (row : T) (v : V) → loop.turn t (rows t) ≡ Leaves row v → IsOne v → AllAdd IsOne loop ts (with_row t row rows)
      → AllAdd IsOne loop (t ∷ ts) rows
  adds-leaves t ts rows row v e one rest = subst (λ w. AddsThen IsOne w (λ row. AllAdd IsOne loop ts (with_row t row rows))) (sym e) (one, rest)

  pub adds-fails : (t : Index) (ts : List Index) (rows : Index → T) (f : Fault) → loop.turn t (rows t) ≡ Fails f → AllAdd IsOne loop (t ∷ ts) rows
  adds-fails t ts rows f e = subst (λ w. AddsThen IsOne w (λ row. AllAdd IsOne loop ts (with_row t row rows))) (sym e) tt

  -- where every turn adds, those of a list do
  pub all-add : ((t : Index) (row : T) → Adds IsOne (loop.turn t row)) → (ts : List Index) (rows : Index → T) → AllAdd IsOne loop ts rows
  all-add adds [] rows = tt
  all-add adds (t ∷ ts) rows =
      elim (loop.turn t (rows t)) as (λ w. loop.turn t (rows t) ≡ w → AllAdd IsOne loop (t ∷ ts) rows) [
        | Leaves row v ↦ λ e. adds-leaves t ts rows row v e (subst (Adds IsOne) e (adds t (rows t))) (all-add adds ts (with_row t row rows))
        | Fails f ↦ λ e. adds-fails t ts rows f e
      ] refl

  -- where the turns of two parts add, those of both do
  pub adds-split : (is_first : Index → Bool) (ts : List Index) (xs ys : Index → T) → AllAdd IsOne loop (filter is_first ts) xs → AllAdd IsOne loop (filter (λ t. not (is_first t)) ts) ys
      → AllAdd IsOne loop ts (either is_first xs ys)
  adds-split is_first [] xs ys hx hy = tt
  adds-split is_first (t ∷ ts) xs ys hx hy =
      let is_second : Index → Bool = λ t. not (is_first t) in
      elim (is_first t) as (λ q. is_first t ≡ q → AllAdd IsOne loop (t ∷ ts) (either is_first xs ys)) [
        | true ↦ λ q.
            let here : either is_first xs ys t ≡ xs t = rw q refl in
            let other : is_second t ≡ false = rw q refl in
            let firsts : AllAdd IsOne loop (t ∷ filter is_first ts) xs = subst (λ zs. AllAdd IsOne loop zs xs) (filter-yes is_first t ts q) hx in
            let seconds : AllAdd IsOne loop (filter is_second ts) ys = subst (λ zs. AllAdd IsOne loop zs ys) (filter-no is_second t ts other) hy in
            elim (loop.turn t (xs t)) as (λ w. loop.turn t (xs t) ≡ w → AllAdd IsOne loop (t ∷ ts) (either is_first xs ys)) [
              | Leaves row v ↦ λ e.
                  let more = adds-first t (filter is_first ts) xs row v firsts e in
                  adds-leaves t ts (either is_first xs ys) row v (ap (loop.turn t) here ∙ e) more.0
                  (subst (AllAdd IsOne loop ts) (sym (with_row-first is_first xs ys t row q)) (adds-split is_first ts (with_row t row xs) ys more.1 seconds))
              | Fails f ↦ λ e. adds-fails t ts (either is_first xs ys) f (ap (loop.turn t) here ∙ e)
            ] refl
        | false ↦ λ q.
            let here : either is_first xs ys t ≡ ys t = rw q refl in
            let other : is_second t ≡ true = rw q refl in
            let firsts : AllAdd IsOne loop (filter is_first ts) xs = subst (λ zs. AllAdd IsOne loop zs xs) (filter-no is_first t ts q) hx in
            let seconds : AllAdd IsOne loop (t ∷ filter is_second ts) ys = subst (λ zs. AllAdd IsOne loop zs ys) (filter-yes is_second t ts other) hy in
            elim (loop.turn t (ys t)) as (λ w. loop.turn t (ys t) ≡ w → AllAdd IsOne loop (t ∷ ts) (either is_first xs ys)) [
              | Leaves row v ↦ λ e.
                  let more = adds-first t (filter is_second ts) ys row v seconds e in
                  adds-leaves t ts (either is_first xs ys) row v (ap (loop.turn t) here ∙ e) more.0
                  (subst (AllAdd IsOne loop ts) (sym (with_row-second is_first xs ys t row q)) (adds-split is_first ts xs (with_row t row ys) firsts more.1))
              | Fails f ↦ λ e. adds-fails t ts (either is_first xs ys) f (ap (loop.turn t) here ∙ e)
            ] refl
      ] refl

module _ {T V : Type 0} {IsOne : V → Type 0} {unit : V} (loop : Loop T V) (monoid : IsCommutativeMonoid IsOne loop.join unit) where
  -- to put a value to two that are put together is to put it to either of them
  pub to-first : (a b v : V) → IsOne a → IsOne b → IsOne v → loop.join (loop.join a b) v ≡ loop.join (loop.join a v) b
  to-first a b v ha hb hv = monoid.assoc a b v ha hb hv ∙ ap (loop.join a) (monoid.comm b v hb hv) ∙ sym (monoid.assoc a v b ha hv hb)

  -- A loop over a list is the loops over what passes a test and over what doesn't, merged.
  pub run-split : (is_first : Index → Bool) (ts : List Index) (xs ys : Index → T) (a b : V) → IsRising loop.place ts → IsOne a → IsOne b
      → AllAdd IsOne loop (filter is_first ts) xs → AllAdd IsOne loop (filter (λ t. not (is_first t)) ts) ys
      → run loop ts (either is_first xs ys) (loop.join a b) ≡ merge loop.join is_first (run loop (filter is_first ts) xs a) (run loop (filter (λ t. not (is_first t)) ts) ys b)
  run-split is_first [] xs ys a b h ha hb hx hy = refl
  run-split is_first (t ∷ ts) xs ys a b h ha hb hx hy =
      let is_second : Index → Bool = λ t. not (is_first t) in
      let Goal : List Index → List Index → Type 0 = λ firsts seconds. run loop (t ∷ ts) (either is_first xs ys) (loop.join a b) ≡ merge loop.join is_first (run loop firsts xs a) (run loop seconds ys b) in
      elim (is_first t) as (λ q. is_first t ≡ q → Goal (filter is_first (t ∷ ts)) (filter is_second (t ∷ ts))) [
        | true ↦ λ q.
            let here : either is_first xs ys t ≡ xs t = rw q refl in
            let other : is_second t ≡ false = rw q refl in
            let firsts : AllAdd IsOne loop (t ∷ filter is_first ts) xs = subst (λ zs. AllAdd IsOne loop zs xs) (filter-yes is_first t ts q) hx in
            let seconds : AllAdd IsOne loop (filter is_second ts) ys = subst (λ zs. AllAdd IsOne loop zs ys) (filter-no is_second t ts other) hy in
            rw (filter-yes is_first t ts q, filter-no is_second t ts other)
            (elim (loop.turn t (xs t)) as (λ w. loop.turn t (xs t) ≡ w → Goal (t ∷ filter is_first ts) (filter is_second ts)) [
              | Leaves row v ↦ λ e.
                  let more = adds-first IsOne loop t (filter is_first ts) xs row v firsts e in
                  run-leaves loop t ts (either is_first xs ys) (loop.join a b) row v (ap (loop.turn t) here ∙ e)
                  ∙ rw (with_row-first is_first xs ys t row q, to-first a b v ha hb more.0)
                  (run-split is_first ts (with_row t row xs) ys (loop.join a v) b h.1 (monoid.closed a v ha more.0) hb more.1 seconds
                  ∙ ap (λ r. merge loop.join is_first r (run loop (filter is_second ts) ys b)) (sym (run-leaves loop t (filter is_first ts) xs a row v e)))
              | Fails f ↦ λ e.
                  run-fails loop t ts (either is_first xs ys) (loop.join a b) f (ap (loop.turn t) here ∙ e)
                  ∙ rw (run-fails loop t (filter is_first ts) xs a f e) (sym (before-second loop is_first t f (filter is_second ts) ys b (each-filter _ is_second ts h.0)))
            ] refl)
        | false ↦ λ q.
            let here : either is_first xs ys t ≡ ys t = rw q refl in
            let other : is_second t ≡ true = rw q refl in
            let firsts : AllAdd IsOne loop (filter is_first ts) xs = subst (λ zs. AllAdd IsOne loop zs xs) (filter-no is_first t ts q) hx in
            let seconds : AllAdd IsOne loop (t ∷ filter is_second ts) ys = subst (λ zs. AllAdd IsOne loop zs ys) (filter-yes is_second t ts other) hy in
            rw (filter-no is_first t ts q, filter-yes is_second t ts other)
            (elim (loop.turn t (ys t)) as (λ w. loop.turn t (ys t) ≡ w → Goal (filter is_first ts) (t ∷ filter is_second ts)) [
              | Leaves row v ↦ λ e.
                  let more = adds-first IsOne loop t (filter is_second ts) ys row v seconds e in
                  run-leaves loop t ts (either is_first xs ys) (loop.join a b) row v (ap (loop.turn t) here ∙ e)
                  ∙ rw (with_row-second is_first xs ys t row q, monoid.assoc a b v ha hb more.0)
                  (run-split is_first ts xs (with_row t row ys) a (loop.join b v) h.1 ha (monoid.closed b v hb more.0) firsts more.1
                  ∙ ap (merge loop.join is_first (run loop (filter is_first ts) xs a)) (sym (run-leaves loop t (filter is_second ts) ys b row v e)))
              | Fails f ↦ λ e.
                  run-fails loop t ts (either is_first xs ys) (loop.join a b) f (ap (loop.turn t) here ∙ e)
                  ∙ rw (run-fails loop t (filter is_second ts) ys b f e) (sym (before-first loop is_first t f (filter is_first ts) xs a (each-filter _ is_first ts h.0)))
            ] refl)
      ] refl

  -- a loop from two values put together is the loop from the second, put onto the first
  pub run-onto : (ts : List Index) (rows : Index → T) (a b : V) → IsOne a → IsOne b → AllAdd IsOne loop ts rows → run loop ts rows (loop.join a b) ≡ onto loop.join a (run loop ts rows b)
  run-onto [] rows a b ha hb h = refl
  run-onto (t ∷ ts) rows a b ha hb h =
      elim (loop.turn t (rows t)) as (λ w. loop.turn t (rows t) ≡ w → run loop (t ∷ ts) rows (loop.join a b) ≡ onto loop.join a (run loop (t ∷ ts) rows b)) [
        | Leaves row v ↦ λ e.
            let more = adds-first IsOne loop t ts rows row v h e in
            run-leaves loop t ts rows (loop.join a b) row v e ∙ ap (run loop ts (with_row t row rows)) (monoid.assoc a b v ha hb more.0)
            ∙ run-onto ts (with_row t row rows) a (loop.join b v) ha (monoid.closed b v hb more.0) more.1
            ∙ ap (onto loop.join a) (sym (run-leaves loop t ts rows b row v e))
        | Fails f ↦ λ e. run-fails loop t ts rows (loop.join a b) f e ∙ ap (onto loop.join a) (sym (run-fails loop t ts rows b f e))
      ] refl

  -- So it is the loop that begins with nothing added, put onto the values as they were: these are counted once.
  pub run-from : (ts : List Index) (rows : Index → T) (a : V) → IsOne a → AllAdd IsOne loop ts rows → run loop ts rows a ≡ onto loop.join a (run loop ts rows unit)
  run-from ts rows a ha h = ap (run loop ts rows) (sym (monoid.neutral a ha)) ∙ run-onto ts rows a unit ha monoid.one h

  pub run-comes : (ts : List Index) (rows : Index → T) (a : V) → IsOne a → AllAdd IsOne loop ts rows → Comes IsOne (run loop ts rows a)
  run-comes [] rows a ha h = ha
  run-comes (t ∷ ts) rows a ha h =
      elim (loop.turn t (rows t)) as (λ w. loop.turn t (rows t) ≡ w → Comes IsOne (run loop (t ∷ ts) rows a)) [
        | Leaves row v ↦ λ e.
            let more = adds-first IsOne loop t ts rows row v h e in
            subst (Comes IsOne) (sym (run-leaves loop t ts rows a row v e)) (run-comes ts (with_row t row rows) (loop.join a v) (monoid.closed a v ha more.0) more.1)
        | Fails f ↦ λ e. subst (Comes IsOne) (sym (run-fails loop t ts rows a f e)) tt
      ] refl

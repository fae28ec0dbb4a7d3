-- Turns that keep apart, made in order over a state, are the loop over its rows.
use Rattle.std.proofs.Common.{◌≡◌, List, [], ◌∷◌, Option, Some, refl, sym, ap, ◌∙◌, subst, ℕ}
use Rattle.std.specs.List.{AllByRecursion}
use Rattle.dpl_language.specs.Values.{Index, Fault, InTurn, in_the_turn}
use Rattle.dpl_language.specs.Outcome.{Deeds, Run, then_do, in_order, naming, Done, Stop}
use Rattle.dpl_language.specs.Loops.{named_turn}
use Rattle.dpl_apart.specs.Rows.{Turned, Leaves, Fails, Ran, Finished, Failed, Loop, with_row, run, Adds, Comes, IsReducing}
use Rattle.dpl_apart.specs.Apart.{Holding, turn_left, loop_left, last_index, IsApart, named, named_loop}
use Rattle.dpl_apart.proofs.Split.{run-leaves, run-fails, all-add, run-comes}

-- what one end without a fault is, another is too
done-parts : {S : Type 0} (s u : S) (done made : Deeds) → Done s done ≡ Done u made → (s ≡ u) × (done ≡ made)
done-parts s u done made e = let states : s ≡ u = cc in let deeds : done ≡ made = cc in (states, deeds)

module _ {T V S : Type 0} {IsIndex : Index → Type 0} {IsOne : V → Type 0} {unit : V} (holding : Holding T V S) (loop : Loop T V) (turn : Index → Run S) (lawful : IsReducing IsOne unit loop) (apart : IsApart IsIndex IsOne holding loop turn) where
  pub in_order-run : (ts : List Index) (last : Option Index) (rows : Index → T) (a : V) (done : Deeds) → IsOne a → AllByRecursion IsIndex ts
      → in_order turn ts (holding last rows a) done ≡ loop_left holding (last_index last ts) done (run loop ts rows a)
  in_order-run [] last rows a done ha all = refl
  in_order-run (t ∷ ts) last rows a done ha all =
      elim (loop.turn t (rows t)) as (λ w. loop.turn t (rows t) ≡ w → in_order turn (t ∷ ts) (holding last rows a) done ≡ loop_left holding (last_index last (t ∷ ts)) done (run loop (t ∷ ts) rows a)) [
        | Leaves row v ↦ λ e.
            ap (λ o. then_do o (in_order turn ts)) (apart.each t last rows a done all.0 ha ∙ ap (turn_left holding loop.join t rows a done) e)
            ∙ in_order-run ts (Some t) (with_row t row rows) (loop.join a v) done (lawful.monoid.closed a v ha (subst (Adds IsOne) e (lawful.adds t (rows t)))) all.1
            ∙ ap (loop_left holding (last_index (Some t) ts) done) (sym (run-leaves loop t ts rows a row v e))
        | Fails f ↦ λ e.
            ap (λ o. then_do o (in_order turn ts)) (apart.each t last rows a done all.0 ha ∙ ap (turn_left holding loop.join t rows a done) e)
            ∙ ap (loop_left holding (last_index (Some t) ts) done) (sym (run-fails loop t ts rows a f e))
      ] refl

  -- turns without a fault leave a state that holds rows and reduce variables
  pub record HasHeld (ts : List Index) (last : Option Index) (rows : Index → T) (a : V) (done : Deeds) (u : S) (made : Deeds) : Type 0 where
    pub end : Index → T
    pub sum : V
    pub ran : run loop ts rows a ≡ Finished end sum
    pub is_one : IsOne sum
    pub state : holding (last_index last ts) end sum ≡ u
    pub deeds : done ≡ made

  pub has-held : (ts : List Index) (last : Option Index) (rows : Index → T) (a : V) (done : Deeds) (u : S) (made : Deeds) → IsOne a → AllByRecursion IsIndex ts
      → in_order turn ts (holding last rows a) done ≡ Done u made → HasHeld ts last rows a done u made
  has-held ts last rows a done u made ha all h = by (run loop ts rows a) refl where
    by : (r : Ran T V) → run loop ts rows a ≡ r → HasHeld ts last rows a done u made
    by (Finished end sum) e =
        let ends : Done (holding (last_index last ts) end sum) done ≡ Done u made =
        sym (in_order-run ts last rows a done ha all ∙ ap (loop_left holding (last_index last ts) done) e) ∙ h in
        let parts = done-parts (holding (last_index last ts) end sum) u done made ends in
        record { end = end; sum = sum; ran = e; is_one = subst (Comes IsOne) e (run-comes loop lawful.monoid ts rows a ha (all-add IsOne loop lawful.adds ts rows)); state = parts.0; deeds = parts.1 }
    by (Failed k f) e =
        absurd (let no : Stop f done ≡ Done u made = sym (in_order-run ts last rows a done ha all ∙ ap (loop_left holding (last_index last ts) done) e) ∙ h in cc)

  -- and turns that stop with a fault are a loop that has it
  pub has-stopped : (ts : List Index) (last : Option Index) (rows : Index → T) (a : V) (done : Deeds) (f : Fault) (made : Deeds) → IsOne a → AllByRecursion IsIndex ts
      → in_order turn ts (holding last rows a) done ≡ Stop f made → (k : ℕ) × (run loop ts rows a ≡ Failed k f)
  has-stopped ts last rows a done f made ha all h = by (run loop ts rows a) refl where
    ends : (r : Ran T V) → run loop ts rows a ≡ r → loop_left holding (last_index last ts) done r ≡ Stop f made
    ends r e = sym (in_order-run ts last rows a done ha all ∙ ap (loop_left holding (last_index last ts) done) e) ∙ h

    by : (r : Ran T V) → run loop ts rows a ≡ r → (k : ℕ) × (run loop ts rows a ≡ Failed k f)
    by (Finished end sum) e = absurd (let no : Done (holding (last_index last ts) end sum) done ≡ Stop f made = ends (Finished end sum) e in cc)
    by (Failed k g) e = let stops : Stop g done ≡ Stop f made = ends (Failed k g) e in let same : g ≡ f = cc in (k, e ∙ ap (Failed k) same)

-- ---- turns whose faults name them
left-named : {T V S : Type 0} (holding : Holding T V S) (join : V → V → V) (t : Index) (rows : Index → T) (a : V) (done : Deeds) (w : Turned T V)
    → naming t (turn_left holding join t rows a done w) ≡ turn_left holding join t rows a done (named t w)
left-named holding join t rows a done (Leaves row v) = refl
left-named holding join t rows a done (Fails f) = refl

pub named-apart : {T V S : Type 0} {IsIndex : Index → Type 0} {IsOne : V → Type 0} (holding : Holding T V S) (loop : Loop T V) (turn : Index → Run S)
    → IsApart IsIndex IsOne holding loop turn → IsApart IsIndex IsOne holding (named_loop loop) (named_turn turn)
named-apart holding loop turn apart = record {
  each = λ t last rows a done among ha. ap (naming t) (apart.each t last rows a done among ha) ∙ left-named holding loop.join t rows a done (loop.turn t (rows t));
}

named-adds : {T V : Type 0} (IsOne : V → Type 0) (t : Index) (w : Turned T V) → Adds IsOne w → Adds IsOne (named t w)
named-adds IsOne t (Leaves row v) h = h
named-adds IsOne t (Fails f) h = tt

pub named-reducing : {T V : Type 0} {IsOne : V → Type 0} {unit : V} (loop : Loop T V) → IsReducing IsOne unit loop → IsReducing IsOne unit (named_loop loop)
named-reducing loop lawful = record { monoid = lawful.monoid; adds = λ t row. named-adds _ t (loop.turn t row) (lawful.adds t row) }

-- a fault that names its turn tells the place of the turn that has it
module _ {T V : Type 0} (loop : Loop T V) where
  fails-named : (t : Index) (w : Turned T V) (f : Fault) → named t w ≡ Fails f → f.turn ≡ InTurn t
  fails-named t (Leaves row v) f e = absurd cc
  fails-named t (Fails g) f e = let same : in_the_turn (InTurn t) g ≡ f = cc in sym (ap (λ (f : Fault). f.turn) same)

  -- and is one of those that are made
  pub failed-among : (P : Index → Type 0) (ts : List Index) (rows : Index → T) (a : V) (k : ℕ) (f : Fault) → AllByRecursion P ts → run (named_loop loop) ts rows a ≡ Failed k f
      → (t : Index) × P t × (f.turn ≡ InTurn t) × (k ≡ loop.place t)
  failed-among P [] rows a k f all h = absurd cc
  failed-among P (t ∷ ts) rows a k f all h =
      elim (named t (loop.turn t (rows t))) as (λ w. named t (loop.turn t (rows t)) ≡ w → (x : Index) × P x × (f.turn ≡ InTurn x) × (k ≡ loop.place x)) [
        | Leaves row v ↦ λ e. failed-among P ts (with_row t row rows) (loop.join a v) k f all.1 (sym (run-leaves (named_loop loop) t ts rows a row v e) ∙ h)
        | Fails g ↦ λ e.
            let ends : Failed (loop.place t) g ≡ Failed k f = sym (run-fails (named_loop loop) t ts rows a g e) ∙ h in
            let places : loop.place t ≡ k = cc in
            let faults : g ≡ f = cc in
            (t, all.0, ap (λ (f : Fault). f.turn) (sym faults) ∙ fails-named t (loop.turn t (rows t)) g e, sym places)
      ] refl

  pub failed-at : (ts : List Index) (rows : Index → T) (a : V) (k : ℕ) (f : Fault) → run (named_loop loop) ts rows a ≡ Failed k f → (t : Index) × (f.turn ≡ InTurn t) × (k ≡ loop.place t)
  failed-at ts rows a k f h = let at = failed-among (λ t. Unit {0}) ts rows a k f (no-matter ts) h in (at.0, at.2, at.3) where
    no-matter : (ts : List Index) → AllByRecursion (λ t. Unit {0}) ts
    no-matter [] = tt
    no-matter (t ∷ ts) = (tt, no-matter ts)

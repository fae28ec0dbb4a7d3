-- A forall is what its workers leave together, each of which makes the turns of a locale's indices over its share of the memory. Where some of
-- them stop, the forall stops with the fault of the earliest turn.
use Rattle.std.proofs.Common.{◌≡◌, ℕ, zero, suc, ◌<◌, ◌≤◌, ◌==◌, ◌||◌, Bool, true, false, cond, ℤ, List, [], ◌∷◌, Some, None, Result, Ok, Err, length, slice_get, refl, sym, ap, ◌∙◌, subst, arith}
use Rattle.std.specs.List.{All, AllByRecursion, list_any}
use Rattle.std.proofs.lemmas.Bool.Decides.{nat_tests}
use Rattle.std.proofs.lemmas.List.Elements.{recursion_from_All}
use Rattle.std.proofs.lemmas.Option.{none-some, same_Some}
use Rattle.dpl_sets.specs.Ranges.{RangeValue}
use Rattle.dpl_sets.specs.Indices.{indices}
use Rattle.dpl_domain.proofs.DistinctLemmas.{AreRanges, indices-distinct}
use Rattle.dpl_map.specs.Maps.{AxisValue, owner}
use Rattle.dpl_map.specs.Parts.{part}
use Rattle.dpl_language.specs.Values.{Index, Fault, InTurn}
use Rattle.dpl_language.specs.Ranges.{same_index}
use Rattle.dpl_language.specs.Outcome.{Deeds, no_deeds, Done, Stop, Run, in_order}
use Rattle.dpl_language.specs.Loops.{named_turn}
use Rattle.dpl_memory.specs.Memory.{Memory, is_among}
use Rattle.dpl_apart.specs.Operands.{all_combined, unit_words, AreExact}
use Rattle.dpl_apart.specs.Rows.{Ran, Failed, onto, part_of, is_owned, AreOnce, IsDistinct, place_in}
use Rattle.dpl_apart.specs.Apart.{loop_left, last_index}
use Rattle.dpl_apart.specs.Memories.{Changes, Row, IsFormed, MayBeApart, IsOfRank, words_in, operators_of, held_in, row_in, ran_in}
use Rattle.dpl_apart.specs.Workers.{worker_memory, locales_of, worker_end, together}
use Rattle.dpl_apart.proofs.Split.{each-filter, each-weaker}
use Rattle.dpl_apart.proofs.Places.{place_in-at, indices-of-rank}
use Rattle.dpl_apart.proofs.Foralls.{worker-stopped, stopped-among, named-may, part-owners, each-both}
use Rattle.dpl_apart.proofs.Shares.{each-at, worker-formed, worker-units}
use Rattle.dpl_apart.proofs.Rejoined.{or-true}
use Rattle.dpl_apart.proofs.Indices.{same_index-refl, same_index-sound}
use Rattle.dpl_apart.proofs.Least.{IsLater, merged-least}
use Rattle.dpl_apart.proofs.SharedForalls.{each-mapped, all-owned, forall-shared, keeps, part-of-rank, share-ended, all-done}

-- ---- lists
among-at : {A : Type 0} (ws : List (ℕ × A)) (k : ℕ) (l : ℕ) (r : A) → slice_get ws k ≡ Some (l, r) → list_any (λ m. l == m) (locales_of ws) ≡ true
among-at [] k l r at = absurd (none-some (l, r) at)
among-at {A} (w ∷ ws) zero l r at =
    let same : w.0 ≡ l = ap (λ (v : ℕ × A). v.0) (same_Some w (l, r) at) in
    let yes : (l == w.0) ≡ true = grind (arith, nat_tests) in
    rw yes refl
among-at (w ∷ ws) (suc k) l r at = ap (λ c. (l == w.0) || c) (among-at ws k l r at) ∙ or-true (l == w.0)

-- an index of a list is found at its place
found-first : (x : Index) (ts : List Index) → slice_get (x ∷ ts) (place_in (x ∷ ts) x) ≡ Some x
found-first x ts = ap (λ c. slice_get (x ∷ ts) (cond c 0 (suc (place_in ts x)))) (same_index-refl x)

found-behind : (x t : Index) (ts : List Index) → slice_get ts (place_in ts t) ≡ Some t → slice_get (x ∷ ts) (place_in (x ∷ ts) t) ≡ Some t
found-behind x t ts at = by (same_index t x) refl where
  by : (c : Bool) → same_index t x ≡ c → slice_get (x ∷ ts) (cond c 0 (suc (place_in ts t))) ≡ Some t
  by true e = ap Some (sym (same_index-sound t x e))
  by false e = at

all-found : (ts : List Index) → AllByRecursion (λ t. slice_get ts (place_in ts t) ≡ Some t) ts
all-found [] = tt
all-found (x ∷ xs) = (found-first x xs, each-weaker _ _ xs (λ t. found-behind x t xs) (all-found xs))

-- ---- workers of which some stop
module _ (h : Changes) (turn : Index → Run Memory) (may : MayBeApart h turn) (m : Memory) (formed : IsFormed h m) (exact : AreExact (operators_of h.reduced) (words_in h.reduced m)) (owns : Index → ℕ) (ts : List Index) (distinct : IsDistinct ts) (all : AllByRecursion (IsOfRank h) ts) where
  abbrev share : ℕ → Memory
  share l = worker_memory h owns l m

  abbrev ran : ℕ → Ran Row (List ℤ)
  ran l = ran_in h (place_in ts) (named_turn turn) (part_of owns l ts) (share l)

  -- a worker's turns end so
  abbrev pub Ends : ℕ × Result Memory Fault → Type 0
  Ends w = (done : Deeds) → in_order (named_turn turn) (part_of owns w.0 ts) (share w.0) done ≡ worker_end w.1 done

  -- it stops no earlier than the turn of an index
  abbrev pub StopsFrom : Index → ℕ × Result Memory Fault → Type 0
  StopsFrom t w = (g : Fault) (s : Index) → w.1 ≡ Err g → g.turn ≡ InTurn s → place_in ts t ≤ place_in ts s

  -- an index of a locale's part is its own, and stands at its place
  abbrev IsIn : ℕ → Index → Type 0
  IsIn l t = (owns t ≡ l) × (slice_get ts (place_in ts t) ≡ Some t)

  part-in : (l : ℕ) → AllByRecursion (IsIn l) (part_of owns l ts)
  part-in l = each-both (λ t. owns t ≡ l) (λ t. slice_get ts (place_in ts t) ≡ Some t) (part_of owns l ts) (part-owners owns l ts) (each-filter _ (λ t. owns t == l) ts (all-found ts))

  -- the turn that stops a worker: one of its locale's, which the fault names
  pub record HasStopped (l : ℕ) (f : Fault) : Type 0 where
    pub index : Index
    pub own : owns index ≡ l
    pub found : slice_get ts (place_in ts index) ≡ Some index
    pub turn_of : f.turn ≡ InTurn index
    pub fails : ran l ≡ Failed (place_in ts index) f

  pub share-stopped : (l : ℕ) (f : Fault) → Ends (l, Err f) → HasStopped l f
  share-stopped l f e =
      let its = worker-stopped h (share l) (place_in ts) (named_turn turn) (keeps h (named_turn turn) (named-may h turn may) m formed exact owns ts distinct all l) (worker-formed h owns l m formed).pieces
      (worker-units h owns l m formed) (part_of owns l ts) (part-of-rank h (named_turn turn) (named-may h turn may) m formed exact owns ts distinct all l) no_deeds f no_deeds (e no_deeds) in
      let at = stopped-among (IsIn l) h (share l) (place_in ts) turn (part_of owns l ts) its.0 f (part-in l) its.1 in
      record { index = at.0; own = at.1.0; found = at.1.1; turn_of = at.2; fails = its.1 ∙ ap (λ k. Failed k f) at.3 }

  -- a worker of another locale stops later, if it does
  is-later : (t : Index) → slice_get ts (place_in ts t) ≡ Some t → (w : ℕ × Result Memory Fault) → Ends w → StopsFrom t w → (w.0 ≡ owns t → ⊥) → IsLater (place_in ts t) (ran w.0)
  is-later t found w ends from other = by w.1 refl where
    by : (r : Result Memory Fault) → w.1 ≡ r → IsLater (place_in ts t) (ran w.0)
    by (Ok u) e =
        let its = share-ended h (named_turn turn) (named-may h turn may) m formed exact owns ts distinct all w.0 u (λ done. ends done ∙ ap (λ r. worker_end r done) e) in
        subst (IsLater (place_in ts t)) (sym its.ran) tt
    by (Err g) e =
        let its = share-stopped w.0 g (λ done. ends done ∙ ap (λ r. worker_end r done) e) in
        let least = from g its.index e its.turn_of in
        let apart : place_in ts t ≡ place_in ts its.index → ⊥ =
        λ same. let is : t ≡ its.index = same_Some t its.index (sym found ∙ ap (slice_get ts) same ∙ its.found) in other (sym its.own ∙ ap owns (sym is)) in
        let less : place_in ts t < place_in ts its.index = grind arith in
        subst (IsLater (place_in ts t)) (sym its.fails) less

  pub first-stops : (ws : List (ℕ × Result Memory Fault)) → AreOnce (locales_of ws) → AllByRecursion (λ t. is_owned owns (locales_of ws) t ≡ true) ts → AllByRecursion Ends ws
      → (k l : ℕ) (f : Fault) (t : Index) → slice_get ws k ≡ Some (l, Err f) → f.turn ≡ InTurn t → AllByRecursion (StopsFrom t) ws → (done : Deeds)
      → in_order (named_turn turn) ts m done ≡ Stop f done
  first-stops ws once owned ended k l f t at its_turn from done =
      let its = share-stopped l f (each-at Ends ws k (l, Err f) ended at) in
      let turns : InTurn its.index ≡ InTurn t = sym its.turn_of ∙ its_turn in
      let same : its.index ≡ t = cc in
      let found : slice_get ts (place_in ts t) ≡ Some t = subst (λ t. slice_get ts (place_in ts t) ≡ Some t) same its.found in
      let own : owns t ≡ l = ap owns (sym same) ∙ its.own in
      let fails : ran l ≡ Failed (place_in ts t) f = its.fails ∙ ap (λ t. Failed (place_in ts t) f) same in
      let later : AllByRecursion (λ x. (x ≡ l → ⊥) → IsLater (place_in ts t) (ran x)) (locales_of ws) =
      each-mapped _ _ ws
      (each-weaker _ _ ws (λ (w : ℕ × Result Memory Fault) (both : Ends w × StopsFrom t w) other. is-later t found w both.0 both.1 (λ e. other (e ∙ own))) (each-both Ends (StopsFrom t) ws ended from)) in
      forall-shared h (named_turn turn) (named-may h turn may) m formed exact owns ts distinct all (locales_of ws) once owned done
      ∙ ap (λ r. loop_left (held_in h m) (last_index None ts) done (onto (all_combined (operators_of h.reduced)) (words_in h.reduced m) r))
      (merged-least (all_combined (operators_of h.reduced)) (unit_words (operators_of h.reduced)) owns ran (row_in h m) (place_in ts t) f l (locales_of ws) once (among-at ws k l (Err f) at) fails later)

module _ (h : Changes) (turn : Index → Run Memory) (may : MayBeApart h turn) (m : Memory) (formed : IsFormed h m) (exact : AreExact (operators_of h.reduced) (words_in h.reduced m)) (axes : List AxisValue) (ranges : List RangeValue) (limits : AreRanges ranges) (of_rank : length ranges ≡ h.rank) (n : ℕ) (below : (t : Index) → owner axes t < n) where
  -- Workers that all end, one for each locale whose part isn't empty, leave together what the forall leaves.
  pub workers-done : (ws : List (ℕ × Memory)) → AreOnce (locales_of ws) → ((l : ℕ) → l < n → (part ranges axes l ≡ [] → ⊥) → is_among l (locales_of ws) ≡ true)
      → All (λ (w : ℕ × Memory). (done : Deeds) → in_order (named_turn turn) (part ranges axes w.0) (worker_memory h (owner axes) w.0 m) done ≡ Done w.1 done) ws → (done : Deeds)
      → in_order (named_turn turn) (indices ranges) m done ≡ Done (together h (owner axes) ws (last_index None (indices ranges)) m) done
  unfolding part
  workers-done ws once there ended done =
      all-done h (named_turn turn) (named-may h turn may) m formed exact (owner axes) (indices ranges) (indices-distinct ranges limits) (indices-of-rank ranges h.rank of_rank) ws once
      (all-owned (owner axes) (indices ranges) n below (locales_of ws) there) (recursion_from_All _ ws ended) done

  -- Workers of which some stop: the forall stops with the fault of the turn that has the least place.
  pub workers-stopped : (ws : List (ℕ × Result Memory Fault)) → AreOnce (locales_of ws) → ((l : ℕ) → l < n → (part ranges axes l ≡ [] → ⊥) → is_among l (locales_of ws) ≡ true)
      → All (λ (w : ℕ × Result Memory Fault). (done : Deeds) → in_order (named_turn turn) (part ranges axes w.0) (worker_memory h (owner axes) w.0 m) done ≡ worker_end w.1 done) ws
      → (k l : ℕ) (f : Fault) (t : Index) → slice_get ws k ≡ Some (l, Err f) → f.turn ≡ InTurn t
      → All (λ (w : ℕ × Result Memory Fault). (g : Fault) (s : Index) → w.1 ≡ Err g → g.turn ≡ InTurn s → place_in (indices ranges) t ≤ place_in (indices ranges) s) ws → (done : Deeds)
      → in_order (named_turn turn) (indices ranges) m done ≡ Stop f done
  unfolding part
  workers-stopped ws once there ended k l f t at its_turn from done =
      first-stops h turn may m formed exact (owner axes) (indices ranges) (indices-distinct ranges limits) (indices-of-rank ranges h.rank of_rank) ws once
      (all-owned (owner axes) (indices ranges) n below (locales_of ws) there) (recursion_from_All _ ws ended) k l f t at its_turn (recursion_from_All _ ws from) done

  -- The same, where each fault comes with the place of its turn.
  pub workers-stopped-at : (ws : List (ℕ × Result Memory Fault)) → AreOnce (locales_of ws) → ((l : ℕ) → l < n → (part ranges axes l ≡ [] → ⊥) → is_among l (locales_of ws) ≡ true)
      → All (λ (w : ℕ × Result Memory Fault). (done : Deeds) → in_order (named_turn turn) (part ranges axes w.0) (worker_memory h (owner axes) w.0 m) done ≡ worker_end w.1 done) ws
      → (k l place : ℕ) (f : Fault) (t : Index) → slice_get ws k ≡ Some (l, Err f) → slice_get (indices ranges) place ≡ Some t → f.turn ≡ InTurn t
      → All (λ (w : ℕ × Result Memory Fault). (g : Fault) → w.1 ≡ Err g → (s : Index) × (other : ℕ) × (g.turn ≡ InTurn s) × (slice_get (indices ranges) other ≡ Some s) × (place ≤ other)) ws → (done : Deeds)
      → in_order (named_turn turn) (indices ranges) m done ≡ Stop f done
  workers-stopped-at ws once there ended k l place f t at found its_turn from done =
      workers-stopped ws once there ended k l f t at its_turn
      (λ i d within g s e named.
      let its = from i d within g e in
      let turns : InTurn s ≡ InTurn its.0 = sym named ∙ its.2 in
      let same : s ≡ its.0 = cc in
      let here : place_in (indices ranges) t ≡ place = place_in-at (indices ranges) (indices-distinct ranges limits) place t found in
      let there : place_in (indices ranges) s ≡ its.1 = ap (place_in (indices ranges)) same ∙ place_in-at (indices ranges) (indices-distinct ranges limits) its.1 its.0 its.3 in
      let least = its.4 in
      omega (arith, here, there, least))
      done

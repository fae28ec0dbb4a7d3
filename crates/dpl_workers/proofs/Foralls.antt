-- A forall is what its workers have left, put together; or it ends as the soonest of them.
use Rattle.std.proofs.Common.{◌≡◌, ◌≤◌, ◌+◌, ◌<◌, ◌==◌, ◌||◌, ℕ, zero, suc, Bool, true, false, ℤ, pos, List, [], ◌∷◌, Option, Some, None, Result, Ok, Err, map, length, get_or, slice_get, refl, sym, ap, ◌∙◌, subst, arith}
use Rattle.std.specs.Prelude.{if◌then◌else◌}
use Rattle.std.specs.List.{AllByRecursion, list_any}
use Rattle.std.proofs.lemmas.Bool.Decides.{nat_tests}
use Rattle.std.proofs.lemmas.List.Elements.{All-from_recursion}
use Rattle.std.proofs.lemmas.Option.{none-some, same_Some}
use Rattle.dpl_sets.specs.Ranges.{RangeValue}
use Rattle.dpl_sets.specs.Indices.{indices}
use Rattle.dpl_domain.proofs.DistinctLemmas.{AreRanges, indices-distinct}
use Rattle.dpl_map.specs.Maps.{AxisValue, owner, locales as locales_in}
use Rattle.dpl_map.specs.Parts.{part}
use Rattle.dpl_language.specs.Tree.{Op}
use Rattle.dpl_language.specs.Values.{Index, Fault, InTurn}
use Rattle.dpl_language.specs.Environment.{Limits}
use Rattle.dpl_language.specs.Outcome.{Deeds, no_deeds, Outcome, Done, Stop, Run, in_order}
use Rattle.dpl_language.specs.Loops.{named_turn}
use Rattle.dpl_memory.specs.Memory.{Held, Memory}
use Rattle.dpl_memory.specs.Pieces.{shares_from, left_by}
use Rattle.dpl_apart.specs.Operands.{combined_words, AreExact}
use Rattle.dpl_apart.specs.Apart.{last_index}
use Rattle.dpl_apart.specs.Rows.{AreOnce, part_of, place_in}
use Rattle.dpl_apart.specs.Memories.{Changes, Row, IsFormed, held_in, MayBeApart, words_in, operators_of}
use Rattle.dpl_apart.specs.Workers.{worker_memory, locales_of, HaveWorkers, worker_end, word_joined, words_joined, rejoined_from, together}
use Rattle.dpl_apart.proofs.Foralls.{named-may}
use Rattle.dpl_apart.proofs.Memories.{element-length}
use Rattle.dpl_apart.proofs.Places.{indices-of-rank}
use Rattle.dpl_apart.proofs.SharedForalls.{share-ended}
use Rattle.dpl_apart.proofs.Shares.{each-at}
use Rattle.dpl_apart.proofs.Workers.{share-stopped, workers-done, workers-stopped}
use Rattle.dpl_frame.specs.Faults.{fault_view, turn_view}
use Rattle.dpl_frame.specs.Frames.{Framed, with_memory}
use Rattle.dpl_frame.specs.Shares.{Plain, plain_of, with_plain}
use Rattle.dpl_loop.specs.declared.stop.RunStop.{RunStop}
use Rattle.dpl_loop.specs.declared.stop.RunStop.TheVariants as stop
use Rattle.dpl_workers.specs.declared.job.Job.{Job}
use Rattle.dpl_workers.specs.declared.job.Worked.{Worked}
use Rattle.dpl_workers.specs.declared.taken.Taken.{Taken}
use Rattle.dpl_loop.specs.Runs.{RunsTo}
use Rattle.dpl_workers.specs.Workers.{HasWorked, HaveDone}
use Rattle.dpl_workers.specs.Parts.{indices_of}
use Rattle.dpl_workers.specs.Parts.{IsJob}
use Rattle.dpl_workers.specs.Formed.{IsWhole}
use Rattle.dpl_workers.specs.declared.plan.Plan.{Plan}
use Rattle.dpl_workers.specs.Taken.{IsCut, AreTaken, ArePieces, AllStay, taken_from, lacking, given_back}
use Rattle.dpl_workers.specs.Joined.{word_left, words_left, words_by, reduced_to}
use Rattle.dpl_workers.specs.Soonest.{spot_in, rank_in, EndsFrom, IsSoonest}
use Rattle.dpl_workers.specs.Foralls.{IsPlan, HaveMade, with_last, put_together}
use Rattle.dpl_workers.proofs.TakenApart.{emptied-arrays}
use Rattle.dpl_workers.proofs.Back.{HaveLeft, given-together}

abbrev locales : List Worked → List ℕ
locales ws = map (λ (w : Worked). w.locale) ws

-- what no worker of a locale has left
words-none : (l : ℕ) (ws : List Worked) (q : Plain) → list_any (λ k. l == k) (locales ws) ≡ false → words_by l ws q ≡ q
words-none l [] q none = refl
words-none l (w ∷ ws) q none = by (l == w.locale) refl none (words-none l ws q) where
  by : (c : Bool) → (l == w.locale) ≡ c → (c || list_any (λ k. l == k) (locales ws)) ≡ false → (list_any (λ k. l == k) (locales ws) ≡ false → words_by l ws q ≡ q)
      → words_by l ws (if w.locale == l then w.words else q) ≡ q
  by true e none rest = absurd cc
  by false e none rest =
      let other : (w.locale == l) ≡ false = grind (arith, nat_tests) in
      ap (λ c. words_by l ws (if c then w.words else q)) other ∙ rest none

-- how a worker ended, with the memory that it left
abbrev end_of : Result (Unit {0}) RunStop → Memory → Result Memory Fault
end_of (Ok v) u = Ok u
end_of (Err (stop.Fault f)) u = Err (fault_view f)
end_of (Err stop.Memory) u = Ok u
end_of (Err stop.Thread) u = Ok u
end_of (Err stop.Gate) u = Ok u

module _ (may : Type 0) (h : Changes) (turn : Index → Run Memory) (whole : List RangeValue) (axes : List AxisValue) (m : Memory) where
  abbrev HasMade : Worked → Type 0
  HasMade w = HasWorked may (named_turn turn) (part whole axes w.locale) (worker_memory h (owner axes) w.locale m) w

  -- the memories that workers have left
  abbrev pub afters : (ws : List Worked) → AllByRecursion HasMade ws → List (ℕ × Memory)
  afters [] all = []
  afters (w ∷ ws) all = (w.locale, all.0.after) ∷ afters ws all.1

  pub afters-locales : (ws : List Worked) (all : AllByRecursion HasMade ws) → locales_of (afters ws all) ≡ locales ws
  afters-locales [] all = refl
  afters-locales (w ∷ ws) all = ap (λ ls. w.locale ∷ ls) (afters-locales ws all.1)

  -- ---- jobs that are done
  pub done-made : (f : Framed) (limits : Limits → Index → Run Memory) → named_turn turn ≡ limits f.limits → (js : List Job) (ws : List Worked) → AllByRecursion (IsJob h whole axes m f) js → HaveDone may limits whole axes js ws
      → (map (λ (j : Job). j.locale) js ≡ locales ws) × AllByRecursion HasMade ws
  done-made f limits same [] [] jobs done = (refl, tt)
  done-made f limits same [] (w ∷ ws) jobs done = absurd done
  done-made f limits same (j ∷ js) [] jobs done = absurd done
  done-made f limits same (j ∷ js) (w ∷ ws) jobs done =
      let rest = done-made f limits same js ws jobs.1 done.1 in
      let here = done.0.0 in
      let began = jobs.0.frame in
      let its : HasWorked may (limits f.limits) (part whole axes j.locale) (worker_memory h (owner axes) j.locale m) w =
      subst (λ ts. HasWorked may (limits f.limits) ts (worker_memory h (owner axes) j.locale m) w) jobs.0.part
      (subst (λ (g : Framed). HasWorked may (limits g.limits) (indices_of j.part.now whole axes j.locale) g.memory w) began done.0.1) in (
        (λ i. sym here i ∷ rest.0 i),
        (
          subst (λ l. HasWorked may (named_turn turn) (part whole axes l) (worker_memory h (owner axes) l m) w) (sym here)
              (subst (λ t. HasWorked may t (part whole axes j.locale) (worker_memory h (owner axes) j.locale m) w) (sym same) its),
          rest.1,
        ),
      )

  -- ---- what they leave besides arrays
  word-same : (p : ℕ × Op) (ws : List Worked) (all : AllByRecursion HasMade ws) (w : ℤ) → word_left p ws w ≡ word_joined p (afters ws all) w
  word-same p [] all w = refl
  word-same p (v ∷ ws) all w =
      ap (λ (q : Plain). word_left p ws (combined_words p.1 w (get_or q.numbers p.0 (pos 0)))) all.0.words
      ∙ word-same p ws all.1 (combined_words p.1 w (get_or all.0.after.words.numbers p.0 (pos 0)))

  words-same : (ps : List (ℕ × Op)) (ws : List Worked) (all : AllByRecursion HasMade ws) → words_left ps ws m ≡ words_joined ps (afters ws all) m
  words-same ps ws all = ap (λ (f : ℕ × Op → ℤ). map f ps) (λ i p. word-same p ws all (get_or m.words.numbers p.0 (pos 0)) i)

  plain-left : (l : ℕ) (ws : List Worked) (all : AllByRecursion HasMade ws) → AreOnce (locales ws) → words_by l ws (plain_of m) ≡ plain_of (left_by l (afters ws all) m)
  plain-left l [] all once = refl
  plain-left l (w ∷ ws) all once = by (w.locale == l) refl (plain-left l ws all.1 once.1) where
    by : (c : Bool) → (w.locale == l) ≡ c → words_by l ws (plain_of m) ≡ plain_of (left_by l (afters ws all.1) m)
        → words_by l ws (if c then w.words else plain_of m) ≡ plain_of (if c then all.0.after else left_by l (afters ws all.1) m)
    by true e rest =
        let same : w.locale ≡ l = grind (arith, nat_tests) in
        words-none l ws w.words (subst (λ l. list_any (λ k. l == k) (locales ws) ≡ false) same once.0) ∙ all.0.words
    by false e rest = rest

  pub put-made : (last : Option Index) (ts : List Taken) (ws : List Worked) (all : AllByRecursion HasMade ws) (e : Memory) → AreOnce (locales ws) → e ≡ record m { arrays = e.arrays }
      → given_back ts ws e ≡ record m { arrays = rejoined_from 0 h.written (owner axes) (afters ws all) m m.arrays }
      → put_together h (owner axes) last ts ws e ≡ together h (owner axes) (afters ws all) last m
  put-made last ts ws all e once kept given =
      ap (λ (s : Memory). reduced_to h.reduced (words_left h.reduced ws s) (with_last (owner axes) last ws (given_back ts ws e))) kept
      ∙ ap (λ s. reduced_to h.reduced (words_left h.reduced ws m) (with_last (owner axes) last ws s)) given
      ∙ ap (λ words. reduced_to h.reduced words (with_last (owner axes) last ws (record m { arrays = rejoined_from 0 h.written (owner axes) (afters ws all) m m.arrays }))) (words-same h.reduced ws all)
      ∙ by last
    where
      by : (last : Option Index) → reduced_to h.reduced (words_joined h.reduced (afters ws all) m) (with_last (owner axes) last ws (record m { arrays = rejoined_from 0 h.written (owner axes) (afters ws all) m m.arrays }))
          ≡ together h (owner axes) (afters ws all) last m
      by None = refl
      by (Some t) =
          ap (λ p. reduced_to h.reduced (words_joined h.reduced (afters ws all) m) (with_plain p (record m { arrays = rejoined_from 0 h.written (owner axes) (afters ws all) m m.arrays })))
          (plain-left (owner axes t) ws all once)

  -- ---- workers of which none is refused anything
  abbrev told : (ws : List Worked) → AllByRecursion HasMade ws → List (ℕ × Result Memory Fault)
  told [] all = []
  told (w ∷ ws) all = (w.locale, end_of w.end all.0.after) ∷ told ws all.1

  told-locales : (ws : List Worked) (all : AllByRecursion HasMade ws) → locales_of (told ws all) ≡ locales ws
  told-locales [] all = refl
  told-locales (w ∷ ws) all = ap (λ ls. w.locale ∷ ls) (told-locales ws all.1)

  told-at : (ws : List Worked) (all : AllByRecursion HasMade ws) (k : ℕ) (w : Worked) (f : _) → slice_get ws k ≡ Some w → w.end ≡ Err (stop.Fault f) → slice_get (told ws all) k ≡ Some (w.locale, Err (fault_view f))
  told-at [] all k w f at is = absurd (none-some w at)
  told-at (v ∷ ws) all zero w f at is =
      let same : v ≡ w = same_Some v w at in
      let end : v.end ≡ Err (stop.Fault f) = ap (λ (w : Worked). w.end) same ∙ is in
      (λ i. Some ((same i).locale, end_of (end i) all.0.after))
  told-at (v ∷ ws) all (suc k) w f at is = told-at ws all.1 k w f at is

  ends-told : (ts : List Index) (e : Result (Unit {0}) RunStop) (u : Memory) (o : Deeds → Outcome Memory) → ((done : Deeds) → RunsTo may e u done (o done)) → EndsFrom ts 3 e → (done : Deeds) → o done ≡ worker_end (end_of e u) done
  ends-told ts (Ok v) u o runs from done = runs done
  ends-told ts (Err (stop.Fault f)) u o runs from done = runs done
  ends-told ts (Err stop.Memory) u o runs from done = absurd (omega (arith, from))
  ends-told ts (Err stop.Thread) u o runs from done = absurd (omega (arith, from))
  ends-told ts (Err stop.Gate) u o runs from done = absurd (omega (arith, from))

  abbrev IsTold : ℕ × Result Memory Fault → Type 0
  IsTold v = (done : Deeds) → in_order (named_turn turn) (part whole axes v.0) (worker_memory h (owner axes) v.0 m) done ≡ worker_end v.1 done

  all-told : (ts : List Index) (n : ℕ) → 3 ≤ n → (ws : List Worked) (all : AllByRecursion HasMade ws) → AllByRecursion (λ (w : Worked). EndsFrom ts n w.end) ws → AllByRecursion IsTold (told ws all)
  all-told ts n past [] all from = tt
  all-told ts n past (w ∷ ws) all from =
      (ends-told ts w.end all.0.after (λ done. in_order (named_turn turn) (part whole axes w.locale) (worker_memory h (owner axes) w.locale m) done) all.0.ends (past-all w.end from.0), all-told ts n past ws all.1 from.1)
    where
      past-all : (e : Result (Unit {0}) RunStop) → EndsFrom ts n e → EndsFrom ts 3 e
      past-all (Ok v) from = tt
      past-all (Err h) from = omega (arith, past, from)

  all-from : (ts : List Index) (place : ℕ) (ws : List Worked) (all : AllByRecursion HasMade ws) → AllByRecursion (λ (w : Worked). EndsFrom ts (3 + place) w.end) ws
      → AllByRecursion (λ (v : ℕ × Result Memory Fault). (g : Fault) (s : Index) → v.1 ≡ Err g → g.turn ≡ InTurn s → place ≤ place_in ts s) (told ws all)
  all-from ts place [] all from = tt
  all-from ts place (w ∷ ws) all from = (its w.end from.0, all-from ts place ws all.1 from.1) where
    its : (e : Result (Unit {0}) RunStop) → EndsFrom ts (3 + place) e → (g : Fault) (s : Index) → end_of e all.0.after ≡ Err g → g.turn ≡ InTurn s → place ≤ place_in ts s
    its (Ok v) from g s is turn_of = absurd cc
    its (Err (stop.Fault f)) from g s is turn_of =
        let same : fault_view f ≡ g = cc in
        let at : turn_view f.turn ≡ InTurn s = ap (λ (f : Fault). f.turn) same ∙ turn_of in
        let spot : spot_in ts (turn_view f.turn) ≡ place_in ts s = ap (spot_in ts) at in
        omega (arith, from, spot)
    its (Err stop.Memory) from g s is turn_of = absurd cc
    its (Err stop.Thread) from g s is turn_of = absurd cc
    its (Err stop.Gate) from g s is turn_of = absurd cc

  -- ---- how the forall ends
  module _ (apart : MayBeApart h turn) (formed : IsFormed h m) (exact : AreExact (operators_of h.reduced) (words_in h.reduced m)) (limits : AreRanges whole) (of_rank : length whole ≡ h.rank) (n : ℕ) (below : (t : Index) → owner axes t < n) (ws : List Worked) (made : HaveMade may (named_turn turn) h whole axes n m ws) where
    all-well : (ws : List Worked) (all : AllByRecursion HasMade ws) → AllByRecursion (λ (w : Worked). w.end ≡ Ok tt) ws
        → AllByRecursion (λ (u : ℕ × Memory). (done : Deeds) → in_order (named_turn turn) (part whole axes u.0) (worker_memory h (owner axes) u.0 m) done ≡ Done u.1 done) (afters ws all)
    all-well [] all well = tt
    all-well (w ∷ ws) all well =
        (λ done. subst (λ e. RunsTo may e all.0.after done (in_order (named_turn turn) (part whole axes w.locale) (worker_memory h (owner axes) w.locale m) done)) well.0 (all.0.ends done), all-well ws all.1 well.1)

    -- all of them end well
    pub made-done : AllByRecursion (λ (w : Worked). w.end ≡ Ok tt) ws → (done : Deeds)
        → in_order (named_turn turn) (indices whole) m done ≡ Done (together h (owner axes) (afters ws made.each) (last_index None (indices whole)) m) done
    made-done well done =
        let same = sym (afters-locales ws made.each) in
        workers-done h turn apart m formed exact axes whole limits of_rank n below (afters ws made.each) (subst AreOnce same made.locales.once)
        (subst (λ ls. (l : ℕ) → l < n → (part whole axes l ≡ [] → ⊥) → list_any (λ k. l == k) ls ≡ true) same made.locales.there)
        (All-from_recursion _ (afters ws made.each) (all-well ws made.each well)) done

    -- ---- what they have of arrays
    shares-long : (l first : ℕ) (written : List ℕ) (hs : List Held) → length (shares_from first written (owner axes) l hs) ≡ length hs
    shares-long l first written [] = refl
    shares-long l first written (a ∷ more) = ap suc (shares-long l (first + 1) written more)

    held-long : (b : Memory) (last : Option Index) (rows : Index → Row) (words : List ℤ) → length (held_in h b last rows words).arrays ≡ length b.arrays
    held-long b None rows words = element-length 0 h.written rows b.arrays
    held-long b (Some t) rows words = element-length 0 h.written rows b.arrays

    left-long : (w : Worked) (its : HasMade w) → w.end ≡ Ok tt → length its.after.arrays ≡ length m.arrays
    unfolding part
    left-long w its well =
        let b : Memory = worker_memory h (owner axes) w.locale m in
        let ended = share-ended h (named_turn turn) (named-may h turn apart) m formed exact (owner axes) (indices whole) (indices-distinct whole limits) (indices-of-rank whole h.rank of_rank) w.locale its.after
        (λ done. subst (λ e. RunsTo may e its.after done (in_order (named_turn turn) (part whole axes w.locale) b done)) well (its.ends done)) in
        ap (λ (s : Memory). length s.arrays) (sym ended.state)
        ∙ held-long b (last_index None (part_of (owner axes) w.locale (indices whole))) ended.rows ended.words
        ∙ shares-long w.locale 0 h.written m.arrays

    have-left : (ws : List Worked) (all : AllByRecursion HasMade ws) → AllByRecursion (λ (w : Worked). w.end ≡ Ok tt) ws → HaveLeft (length m.arrays) ws (afters ws all)
    have-left [] all well = tt
    have-left (w ∷ ws) all well = (record { locale = refl; shares = all.0.shares; long = left-long w all.0 well.0 }, have-left ws all.1 well.1)

    all-cut : (slots : List ℕ) → AllByRecursion (IsWhole m) slots → n ≡ locales_in axes → AllByRecursion (IsCut axes m) slots
    all-cut [] whole count = tt
    all-cut (slot ∷ slots) whole count = (record { whole = whole.0; owners = λ t. subst (λ k. owner axes t < k) count (below t) }, all-cut slots whole.1 count)

    -- put together, what they have left is the memory after the forall
    pub made-together : (last : Option Index) (ts before : List Taken) (e : Memory) → AreTaken axes h.written m before e → ts ≡ map (lacking (locales ws)) before → AllByRecursion (λ (t : Taken). ArePieces ws t.slot) ts
        → AllByRecursion (IsWhole m) h.written → n ≡ locales_in axes → AllByRecursion (λ (w : Worked). w.end ≡ Ok tt) ws
        → put_together h (owner axes) last ts ws e ≡ together h (owner axes) (afters ws made.each) last m
    made-together last ts before e taken lacks are whole_arrays count well =
        let us : List (ℕ × Memory) = afters ws made.each in
        let same : locales_of us ≡ locales ws = afters-locales ws made.each in
        let kept : e ≡ record m { arrays = e.arrays } = taken.stays ∙ emptied-arrays h.written m ∙ ap (λ (x : Memory). record m { arrays = x.arrays }) (sym taken.stays) in
        let is : ts ≡ map (lacking (locales_of us)) (map (taken_from axes m) h.written) = lacks ∙ ap (map (lacking (locales ws))) taken.taken ∙ ap (λ ls. map (lacking ls) (map (taken_from axes m) h.written)) (sym same) in
        let given = given-together axes m ws us (have-left ws made.each well) (subst AreOnce (sym same) made.locales.once) h formed (all-cut h.written whole_arrays count)
        (subst (λ ts. AllByRecursion (λ (t : Taken). ArePieces ws t.slot) ts) is are) e (ap (λ (x : Memory). x.arrays) taken.stays) in
        put-made last ts ws made.each e made.locales.once kept
        (ap (λ ts. given_back ts ws e) is ∙ given ∙ ap (λ (x : Memory). record x { arrays = rejoined_from 0 h.written (owner axes) us m m.arrays }) kept)

    -- or the fault of one of them stands first
    fault-first : (f : _) → IsSoonest (indices whole) ws (Err (stop.Fault f)) → (done : Deeds) → in_order (named_turn turn) (indices whole) m done ≡ Stop (fault_view f) done
    unfolding part
    fault-first f soonest done =
        let ts = indices whole in
        let k = soonest.0.0 in
        let w = soonest.0.1 in
        let ts_told = told ws made.each in
        let at : slice_get ts_told k ≡ Some (w.locale, Err (fault_view f)) = told-at ws made.each k w f soonest.0.2 soonest.0.3 in
        let past : 3 ≤ rank_in ts (stop.Fault f) = omega arith in
        let ends : AllByRecursion IsTold ts_told = all-told ts (rank_in ts (stop.Fault f)) past ws made.each soonest.1 in
        let its = share-stopped h turn apart m formed exact (owner axes) ts (indices-distinct whole limits) (indices-of-rank whole h.rank of_rank) w.locale (fault_view f)
        (each-at IsTold ts_told k (w.locale, Err (fault_view f)) ends at) in
        let spot : rank_in ts (stop.Fault f) ≡ 3 + place_in ts its.index = ap (λ t. 3 + spot_in ts t) its.turn_of in
        let same = sym (told-locales ws made.each) in
        workers-stopped h turn apart m formed exact axes whole limits of_rank n below ts_told (subst AreOnce same made.locales.once)
        (subst (λ ls. (l : ℕ) → l < n → (part whole axes l ≡ [] → ⊥) → list_any (λ k. l == k) ls ≡ true) same made.locales.there)
        (All-from_recursion IsTold ts_told ends) k w.locale (fault_view f) its.index at its.turn_of
        (All-from_recursion _ ts_told (all-from ts (place_in ts its.index) ws made.each (subst (λ n. AllByRecursion (λ (w : Worked). EndsFrom ts n w.end) ws) spot soonest.1))) done

    pub made-ends : (r : RunStop) → IsSoonest (indices whole) ws (Err r) → (s : Memory) (done : Deeds) → RunsTo may (Err r) s done (in_order (named_turn turn) (indices whole) m done)
    made-ends (stop.Fault f) soonest s done = fault-first f soonest done
    made-ends stop.Memory soonest s done = tt
    made-ends stop.Thread soonest s done = tt
    made-ends stop.Gate soonest s done =
        let its = each-at HasMade ws soonest.0.0 soonest.0.1 made.each soonest.0.2 in
        subst (λ e. RunsTo may e its.after no_deeds (in_order (named_turn turn) (part whole axes soonest.0.1.locale) (worker_memory h (owner axes) soonest.0.1.locale m) no_deeds)) soonest.0.3 (its.ends no_deeds)

-- ---- what the calls of a forall say, put together
done-locales : (may : Type 0) (turn : Limits → Index → Run Memory) (whole : List RangeValue) (axes : List AxisValue) (js : List Job) (ws : List Worked) → HaveDone may turn whole axes js ws → map (λ (j : Job). j.locale) js ≡ locales ws
done-locales may turn whole axes [] [] done = refl
done-locales may turn whole axes [] (w ∷ ws) done = absurd done
done-locales may turn whole axes (j ∷ js) [] done = absurd done
done-locales may turn whole axes (j ∷ js) (w ∷ ws) done = let rest = done-locales may turn whole axes js ws done.1 in (λ i. sym done.0.0 i ∷ rest i)

pub done-lacking : (may : Type 0) (turn : Limits → Index → Run Memory) (whole : List RangeValue) (axes : List AxisValue) (js : List Job) (ws : List Worked) (before after : List Taken) → HaveDone may turn whole axes js ws
    → after ≡ map (lacking (map (λ (j : Job). j.locale) js)) before → after ≡ map (lacking (locales ws)) before
done-lacking may turn whole axes js ws before after done lacks = lacks ∙ ap (λ ls. map (lacking ls) before) (done-locales may turn whole axes js ws done)

pub made-from : (may : Type 0) (turn : Limits → Index → Run Memory) (h : Changes) (whole : List RangeValue) (axes : List AxisValue) (n : ℕ) (m : Memory) (f : Framed) (js : List Job) (ws : List Worked)
    → AllByRecursion (IsJob h whole axes m f) js → HaveWorkers (part whole axes) n (map (λ (j : Job). j.locale) js) → HaveDone may (λ limits. named_turn (turn limits)) whole axes js ws
    → HaveMade may (named_turn (turn f.limits)) h whole axes n m ws
made-from may turn h whole axes n m f js ws jobs workers done =
    let its = done-made may h (turn f.limits) whole axes m f (λ limits. named_turn (turn limits)) refl js ws jobs done in
    record { locales = subst (HaveWorkers (part whole axes) n) its.0 workers; each = its.1 }

words-stay : (l : ℕ) (ws vs : List Worked) (p : Plain) → AllStay ws vs → words_by l vs p ≡ words_by l ws p
words-stay l [] [] p stay = refl
words-stay l [] (v ∷ vs) p stay = absurd stay
words-stay l (w ∷ ws) [] p stay = absurd stay
words-stay l (w ∷ ws) (v ∷ vs) p stay =
    ap (λ k. words_by l vs (if k == l then v.words else p)) stay.0.locale ∙ ap (λ q. words_by l vs (if w.locale == l then q else p)) stay.0.words
    ∙ words-stay l ws vs (if w.locale == l then w.words else p) stay.1

pub stay-long : (ws vs : List Worked) → AllStay ws vs → length vs ≡ length ws
stay-long [] [] stay = refl
stay-long [] (v ∷ vs) stay = absurd stay
stay-long (w ∷ ws) [] stay = absurd stay
stay-long (w ∷ ws) (v ∷ vs) stay = ap suc (stay-long ws vs stay.1)

-- the worker of the last index
pub took-last : (owns : Index → ℕ) (last : Option Index) (t : Index) (l : ℕ) (ws vs : List Worked) (f g : Framed) → last ≡ Some t → l ≡ owns t → AllStay ws vs
    → g ≡ with_memory (with_plain (words_by l vs (plain_of f.memory)) f.memory) f → g ≡ with_memory (with_last owns last ws f.memory) f
took-last owns last t l ws vs f g is locale stay taken =
    taken
    ∙ ap (λ p. with_memory (with_plain p f.memory) f) (words-stay l ws vs (plain_of f.memory) stay ∙ ap (λ l. words_by l ws (plain_of f.memory)) locale)
    ∙ ap (λ last. with_memory (with_last owns last ws f.memory) f) (sym is)

pub put-steps : (h : Changes) (owns : Index → ℕ) (last : Option Index) (ts : List Taken) (ws : List Worked) (words : List ℤ) (f f1 f2 f3 : Framed) → words ≡ words_left h.reduced ws f.memory
    → f1 ≡ with_memory (given_back ts ws f.memory) f → f2 ≡ with_memory (with_last owns last ws f1.memory) f1 → f3 ≡ with_memory (reduced_to h.reduced words f2.memory) f2
    → f3 ≡ with_memory (put_together h owns last ts ws f.memory) f
put-steps h owns last ts ws words f f1 f2 f3 left given took set =
    set
    ∙ (λ i. with_memory (reduced_to h.reduced (left i) (took i).memory) (took i))
    ∙ (λ i. with_memory (reduced_to h.reduced (words_left h.reduced ws f.memory) (with_last owns last ws (given i).memory)) (given i))

-- A forall whose workers all end well leaves what is put together.
pub forall-made : (may : Type 0) (turns : Limits → Index → Run Memory) (limits : Limits) (whole : List RangeValue) (axes : List AxisValue) (m e s : Memory) (p : Plan) (before ts : List Taken) (ws : List Worked)
    → IsPlan turns whole axes m p → AreRanges whole → AreTaken axes p.apart.written m before e → HaveMade may (named_turn (turns limits)) p.apart whole axes (length p.parts.items) m ws
    → AllByRecursion (λ (w : Worked). w.end ≡ Ok tt) ws → ts ≡ map (lacking (locales ws)) before → AllByRecursion (λ (t : Taken). ArePieces ws t.slot) ts
    → s ≡ put_together p.apart (owner axes) (last_index None (indices whole)) ts ws e → (done : Deeds)
    → in_order (named_turn (turns limits)) (indices whole) m done ≡ Done s done
forall-made may turns limits whole axes m e s p before ts ws plan ranges taken made well lacks are is done =
    let n = length p.parts.items in
    made-done may p.apart (turns limits) whole axes m (plan.may limits) plan.formed plan.exact ranges plan.rank n plan.parts.owners ws made well done
    ∙ ap (λ s. Done s done)
    (sym (is ∙ made-together may p.apart (turns limits) whole axes m (plan.may limits) plan.formed plan.exact ranges plan.rank n plan.parts.owners ws made (last_index None (indices whole)) ts before e taken lacks are plan.whole_arrays plan.parts.count well))

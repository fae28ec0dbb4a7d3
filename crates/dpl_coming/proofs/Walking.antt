-- Walks one after another, and of their parts.
-- What was made of two of them is what both made, and what was to come before both was to come to the first.
use Rattle.std.proofs.Common.{⊎_elim, ◌≡◌, inl, inr, ℕ, List, [], ◌∷◌, ◌++◌, Result, Ok, Err, refl, sym, ap, ◌∙◌, subst, append_assoc, append-nil}
use Rattle.dpl_syntax.specs.declared.place.Place.{Place}
use Rattle.dpl_history.specs.declared.cell.CellOp.{CellOp}
use Rattle.dpl_language.specs.Tree.{StmtTree}
use Rattle.dpl_language.specs.Values.{Fault}
use Rattle.dpl_language.specs.Outcome.{Entered, Deeds, no_deeds, Outcome, Done, Stop, Waits, Run, then_do}
use Rattle.dpl_language.specs.Environment.{Limits}
use Rattle.dpl_language.specs.Statements.{exec}
use Rattle.dpl_language.specs.Together.{AllTogether}
use Rattle.dpl_memory.specs.Memory.{Variable, Coming, Memory, in_memory}
use Rattle.dpl_frame.specs.Faults.{fault_view}
use Rattle.dpl_loop.specs.declared.stop.RunStop.{RunStop}
use Rattle.dpl_loop.specs.declared.stop.RunStop.TheVariants as stop
use Rattle.dpl_loop.specs.Runs.{RunsTo}
use Rattle.dpl_coming.specs.Taken.{with_coming, ends_with, replies_in, behind_replies, before, and_then}
use Rattle.dpl_coming.specs.Calm.{CalmIf, IsCalm}
use Rattle.dpl_coming.specs.Noting.{Note, noting}
use Rattle.dpl_coming.specs.Walks.{Site, Outside, InTurn, InTask, Known, IsComing, with_rest, end_with_rest, IsMade, finish, EndsSo, Walks, Goes}
use Rattle.dpl_coming.proofs.Taken.{before-nothing, before-both, and_then-nothing, and_then-assoc}
use Rattle.dpl_coming.proofs.Unseen.{exec-unseen}
use Rattle.dpl_coming.proofs.Unnoted.{exec-unnoted}

-- WHAT WAS MADE, and what may come before it
coming-before : (site : Site) (made : Deeds) (rest : Coming) → IsComing site rest → IsComing site (before made rest)
coming-before Outside made rest is = ap (behind_replies (replies_in made.operations)) is
coming-before InTurn made rest is = tt
coming-before InTask made rest is = (replies_in made.operations ++ is.0, ap (behind_replies (replies_in made.operations)) is.1)

together-both : (es fs : List Entered) → AllTogether es → AllTogether fs → AllTogether (es ++ fs)
together-both [] fs a b = b
together-both (e ∷ es) fs a b = (a.0, together-both es fs a.1 b)

made-nothing : (site : Site) (o : Known) → IsMade site o no_deeds o
made-nothing Outside o = (sym (append-nil o.text), tt, λ more. refl)
made-nothing InTurn o = refl
made-nothing InTask o = (sym (append-nil o.operations), refl, refl, refl)

made-both : (site : Site) (o1 o2 o3 : Known) (a b : Deeds) → IsMade site o1 a o2 → IsMade site o2 b o3 → IsMade site o1 (and_then a b) o3
made-both Outside o1 o2 o3 a b f g = (
  g.0 ∙ ap (λ t. t ++ b.text) f.0 ∙ append_assoc o1.text a.text b.text,
  together-both a.entered b.entered f.1 g.1,
  λ more. g.2 more ∙ f.2 (b.loops ++ more) ∙ ap o1.counts (sym (append_assoc a.loops b.loops more)),
)
made-both InTurn o1 o2 o3 a b f g = ap (λ d. and_then d b) f ∙ g
made-both InTask o1 o2 o3 a b f g = (
  g.0 ∙ ap (λ os. os ++ b.operations) f.0 ∙ append_assoc o1.operations a.operations b.operations,
  ap (λ t. t ++ b.text) f.1 ∙ g.1,
  ap (λ es. es ++ b.entered) f.2 ∙ g.2,
  ap (λ ls. ls ++ b.loops) f.3 ∙ g.3,
)

-- ENDS
finish-done : (site : Site) (s : Memory) (done : Deeds) → finish site (Done s done) ≡ Done s done
finish-done Outside s done = refl
finish-done InTurn s done = refl
finish-done InTask s done = refl

finish-stop : (site : Site) (f : Fault) (done : Deeds) → finish site (Stop f done) ≡ Stop f done
finish-stop Outside f done = refl
finish-stop InTurn f done = refl
finish-stop InTask f done = refl

done-finished : (site : Site) (o : Outcome Memory) (s : Memory) (done : Deeds) → finish site o ≡ Done s done → o ≡ Done s done
done-finished Outside (Done s did) t done e = e
done-finished Outside (Stop f did) t done e = e
done-finished Outside (Waits at c op did) t done e = absurd cc
done-finished InTurn o t done e = e
done-finished InTask o t done e = e

stopped-before : (site : Site) (o : Outcome Memory) (f : Fault) (done : Deeds) (b : Run Memory) → finish site o ≡ Stop f done → finish site (then_do o b) ≡ Stop f done
stopped-before Outside (Done s did) f done b e = absurd cc
stopped-before Outside (Stop g did) f done b e = e
stopped-before Outside (Waits at c op did) f done b e = e
stopped-before InTurn o f done b e = ap (λ o. then_do o b) e
stopped-before InTask o f done b e = ap (λ o. then_do o b) e

module _ (site : Site) where
  -- ON THE WAY
  pub goes-nothing : (o : Known) (s : Memory) (a : Run Memory) → Goes site o o s s a a
  goes-nothing o s a = record {
    made = no_deeds;
    known = made-nothing site o;
    on = λ rest done is. ap (λ c. a (with_rest site c s) done) (before-nothing rest) ∙ ap (a (with_rest site rest s)) (sym (and_then-nothing done));
  }

  -- one that does nothing but go over to another run, in a memory
  pub goes-over : (o : Known) (s1 s2 : Memory) (a b : Run Memory) → ((rest : Coming) (done : Deeds) → a (with_rest site rest s1) done ≡ b (with_rest site rest s2) done) → Goes site o o s1 s2 a b
  goes-over o s1 s2 a b same = record {
    made = no_deeds;
    known = made-nothing site o;
    on = λ rest done is. ap (λ c. a (with_rest site c s1) done) (before-nothing rest) ∙ same rest done ∙ ap (b (with_rest site rest s2)) (sym (and_then-nothing done));
  }

  -- one that is done, before another
  pub goes-before : (o : Known) (s1 s2 : Memory) (a b : Run Memory) → ((rest : Coming) (done : Deeds) → a (with_rest site rest s1) done ≡ Done (with_rest site rest s2) done) → Goes site o o s1 s2 (λ s done. then_do (a s done) b) b
  goes-before o s1 s2 a b made = goes-over o s1 s2 _ b (λ rest done. ap (λ o. then_do o b) (made rest done))

  pub goes-then : (o1 o2 o3 : Known) (s1 s2 s3 : Memory) (a b c : Run Memory) → Goes site o1 o2 s1 s2 a b → Goes site o2 o3 s2 s3 b c → Goes site o1 o3 s1 s3 a c
  goes-then o1 o2 o3 s1 s2 s3 a b c f g = record {
    made = and_then f.made g.made;
    known = made-both site o1 o2 o3 f.made g.made f.known g.known;
    on = λ rest done is.
        ap (λ c. a (with_rest site c s1) done) (before-both f.made g.made rest)
        ∙ f.on (before g.made rest) done (coming-before site g.made rest is)
        ∙ g.on rest (and_then done f.made) is
        ∙ ap (c (with_rest site rest s3)) (and_then-assoc done f.made g.made);
  }

  module _ (may : Type 0) (waiting : Place → ℕ → CellOp → Type 0) where
    -- what is done goes over to what is left
    pub goes-done : (v : Unit {0}) (o1 o2 : Known) (s1 s2 : Memory) (a b : Run Memory) → Walks may site waiting (Ok v) o1 o2 s1 s2 a → Goes site o1 o2 s1 s2 (λ s done. then_do (a s done) b) b
    goes-done v o1 o2 s1 s2 a b k = record {
      made = k.made;
      known = k.known tt;
      on = λ rest done is. ap (λ o. then_do o b) (done-finished site _ (with_rest site rest s2) (and_then done k.made) (k.ends rest done is));
    }

    -- A WALK on the way to its end
    pub walks-goes : (r : Result (Unit {0}) RunStop) (o1 o2 o3 : Known) (s1 s2 s3 : Memory) (a b : Run Memory) → Goes site o1 o2 s1 s2 a b → Walks may site waiting r o2 o3 s2 s3 b → Walks may site waiting r o1 o3 s1 s3 a
    walks-goes r o1 o2 o3 s1 s2 s3 a b f k = record {
      made = and_then f.made k.made;
      known = λ told. made-both site o1 o2 o3 f.made k.made f.known (k.known told);
      ends = λ rest done is.
          subst (λ d. EndsSo may site waiting r rest s3 d (a (with_rest site (before (and_then f.made k.made) rest) s1) done)) (and_then-assoc done f.made k.made)
          (subst (λ o. EndsSo may site waiting r rest s3 (and_then (and_then done f.made) k.made) o)
          (sym (ap (λ c. a (with_rest site c s1) done) (before-both f.made k.made rest) ∙ f.on (before k.made rest) done (coming-before site k.made rest is)))
          (k.ends rest (and_then done f.made) is));
    }

    -- nothing is left
    pub walks-end : (v : Unit {0}) (o1 o2 : Known) (s1 s2 : Memory) (a b : Run Memory) → ((rest : Coming) (done : Deeds) → b (with_rest site rest s2) done ≡ Done (with_rest site rest s2) done) → Goes site o1 o2 s1 s2 a b
        → Walks may site waiting (Ok v) o1 o2 s1 s2 a
    walks-end v o1 o2 s1 s2 a b ends f = record {
      made = f.made;
      known = λ told. f.known;
      ends = λ rest done is. ap (finish site) (f.on rest done is ∙ ends rest _) ∙ finish-done site (with_rest site rest s2) (and_then done f.made);
    }

    -- where one run is the other from this memory on, whatever is to come
    pub walks-same : (r : Result (Unit {0}) RunStop) (o1 o2 : Known) (s1 s2 : Memory) (a b : Run Memory) → ((rest : Coming) (done : Deeds) → a (with_rest site rest s1) done ≡ b (with_rest site rest s1) done)
        → Walks may site waiting r o1 o2 s1 s2 b → Walks may site waiting r o1 o2 s1 s2 a
    walks-same r o1 o2 s1 s2 a b same k = record {
      made = k.made;
      known = k.known;
      ends = λ rest done is. subst (λ o. EndsSo may site waiting r rest s2 (and_then done k.made) o) (sym (same (before k.made rest) done)) (k.ends rest done is);
    }

    -- where a run ends as the language's meaning does, it ends so
    ends-so : (r : Result (Unit {0}) RunStop) (rest : Coming) (s : Memory) (done : Deeds) (o : Outcome Memory) → RunsTo may r (with_rest site rest s) done o → EndsSo may site waiting r rest s done o
    ends-so (Ok v) rest s done o e = ap (finish site) e ∙ finish-done site (with_rest site rest s) done
    ends-so (Err (stop.Fault f)) rest s done o e = ap (finish site) e ∙ finish-stop site (fault_view f) done
    ends-so (Err stop.Memory) rest s done o e = tt
    ends-so (Err stop.Thread) rest s done o e = tt
    ends-so (Err stop.Gate) rest s done o e = inl e

    -- one that does nothing that is known of
    pub walks-over : (r : Result (Unit {0}) RunStop) (o : Known) (s1 s2 : Memory) (a : Run Memory) → ((rest : Coming) (done : Deeds) → RunsTo may r (with_rest site rest s2) done (a (with_rest site rest s1) done))
        → Walks may site waiting r o o s1 s2 a
    walks-over r o s1 s2 a e = record {
      made = no_deeds;
      known = λ told. made-nothing site o;
      ends = λ rest done is.
          subst (λ d. EndsSo may site waiting r rest s2 d (a (with_rest site (before no_deeds rest) s1) done)) (sym (and_then-nothing done))
          (subst (λ c. EndsSo may site waiting r rest s2 done (a (with_rest site c s1) done)) (sym (before-nothing rest)) (ends-so r rest s2 done _ (e rest done)));
    }

    -- one that ended early ends what would follow it
    halts-before : (h : RunStop) (rest : Coming) (s : Memory) (done : Deeds) (o : Outcome Memory) (b : Run Memory) → EndsSo may site waiting (Err h) rest s done o → EndsSo may site waiting (Err h) rest s done (then_do o b)
    halts-before (stop.Fault f) rest s done o b e = stopped-before site o (fault_view f) done b e
    halts-before stop.Memory rest s done o b e = tt
    halts-before stop.Thread rest s done o b e = tt
    halts-before stop.Gate rest s done o b (inl m) = inl m
    halts-before stop.Gate rest s done o b (inr k) = inr (k.0, k.1, k.2, k.3, λ over. ap (λ o. then_do o b) (k.4 over))

    pub walks-halts : (h : RunStop) (o1 o2 : Known) (s1 s2 : Memory) (a b : Run Memory) → Walks may site waiting (Err h) o1 o2 s1 s2 a → Walks may site waiting (Err h) o1 o2 s1 s2 (λ s done. then_do (a s done) b)
    walks-halts h o1 o2 s1 s2 a b k = record {
      made = k.made;
      known = k.known;
      ends = λ rest done is. halts-before h rest s2 (and_then done k.made) _ b (k.ends rest done is);
    }

    -- where more may be refused
    wider-so : (more : Type 0) (r : Result (Unit {0}) RunStop) (rest : Coming) (s : Memory) (done : Deeds) (o : Outcome Memory) → (may → more) → EndsSo may site waiting r rest s done o → EndsSo more site waiting r rest s done o
    wider-so more (Ok v) rest s done o go e = e
    wider-so more (Err (stop.Fault f)) rest s done o go e = e
    wider-so more (Err stop.Memory) rest s done o go e = tt
    wider-so more (Err stop.Thread) rest s done o go e = tt
    wider-so more (Err stop.Gate) rest s done o go (inl m) = inl (go m)
    wider-so more (Err stop.Gate) rest s done o go (inr k) = inr k

    pub walks-wider : (more : Type 0) (r : Result (Unit {0}) RunStop) (o1 o2 : Known) (s1 s2 : Memory) (a : Run Memory) → (may → more) → Walks may site waiting r o1 o2 s1 s2 a → Walks more site waiting r o1 o2 s1 s2 a
    walks-wider more r o1 o2 s1 s2 a go k = record {
      made = k.made;
      known = k.known;
      ends = λ rest done is. wider-so more r rest s2 (and_then done k.made) _ go (k.ends rest done is);
    }

-- A CALM STATEMENT, by how it ends in a frame's own memory
with_coming-lifted : (may : Type 0) (r : Result (Unit {0}) RunStop) (rest : Coming) (s : Memory) (done : Deeds) (o : Outcome Memory) → RunsTo may r s done o → RunsTo may r (with_coming rest s) done (ends_with rest o)
with_coming-lifted may (Ok v) rest s done o e = ap (ends_with rest) e
with_coming-lifted may (Err (stop.Fault f)) rest s done o e = ap (ends_with rest) e
with_coming-lifted may (Err stop.Memory) rest s done o e = tt
with_coming-lifted may (Err stop.Thread) rest s done o e = tt
with_coming-lifted may (Err stop.Gate) rest s done o e = e

with_rest-lifted : (site : Site) (may : Type 0) (r : Result (Unit {0}) RunStop) (rest : Coming) (s : Memory) (done : Deeds) (o : Outcome Memory) → RunsTo may r s done o → RunsTo may r (with_rest site rest s) done (end_with_rest site rest o)
with_rest-lifted Outside may r rest s done o e = with_coming-lifted may r rest s done o e
with_rest-lifted InTurn may r rest s done o e = e
with_rest-lifted InTask may r rest s done o e = with_coming-lifted may r rest s done o e

module _ (site : Site) (may : Type 0) (waiting : Place → ℕ → CellOp → Type 0) (limits : Limits) (t : StmtTree Variable) (r : Result (Unit {0}) RunStop) (o : Known) (s1 s2 : Memory)
    (ends : (done : Deeds) → RunsTo may r s2 done (exec limits in_memory t s1 done)) where
  pub walks-unseen : (foralls : Type 0) → CalmIf foralls t → Walks may site waiting r o o s1 s2 (exec limits in_memory t)
  walks-unseen foralls calm =
      walks-over site may waiting r o s1 s2 (exec limits in_memory t)
      (λ rest done. subst (λ o. RunsTo may r (with_rest site rest s2) done o) (sym (exec-unseen limits site rest foralls t s1 done calm)) (with_rest-lifted site may r rest s2 done _ (ends done)))

  -- nor is anything noted
  pub walks-calm : (note : Note) → IsCalm t → Walks may site waiting r o o s1 s2 (exec limits (noting note) t)
  walks-calm note calm = subst (λ (a : Run Memory). Walks may site waiting r o o s1 s2 a) (sym (exec-unnoted limits note t calm)) (walks-unseen ⊥ calm)

-- IN A TURN the meaning ends so in the frame's own memory, and nothing else is said
module _ (may : Type 0) (o1 o2 : Known) (s1 s2 : Memory) (a : Run Memory) where
  pub ends-in-turn : (r : Result (Unit {0}) RunStop) → Walks may InTurn (λ at c op. ⊥) r o1 o2 s1 s2 a → (done : Deeds) → RunsTo may r s2 done (a s1 done)
  ends-in-turn (Ok v) k done = k.ends s1.coming done tt ∙ ap (Done s2) (ap (and_then done) (k.known tt) ∙ and_then-nothing done)
  ends-in-turn (Err (stop.Fault f)) k done = k.ends s1.coming done tt ∙ ap (Stop (fault_view f)) (ap (and_then done) (k.known tt) ∙ and_then-nothing done)
  ends-in-turn (Err stop.Memory) k done = tt
  ends-in-turn (Err stop.Thread) k done = tt
  ends-in-turn (Err stop.Gate) k done = ⊎_elim (λ m. m) (λ stuck. absurd stuck.3) (k.ends s1.coming done tt)

-- One more task, when its thread has been joined.
-- What the gatherer's seat knew of the others it still knows, and now what this task's seat knows.
use Rattle.std.proofs.Common.{◌≡◌, ℕ, ◌+◌, ◌<◌, ◌≤◌, List, [], ◌∷◌, ◌++◌, map, length, All, Ok, sym, ap, ◌∙◌, subst, arith, length-append, append_assoc, append-nil}
use mathlib.Core.Logic.{dite}
use native.Mathlib.Decide.{ℕ_discrete}
use Rattle.dpl_history.specs.declared.cell.CellOp.{CellOp}
use Rattle.dpl_history.specs.declared.cell.Reply.{Reply}
use Rattle.dpl_history.specs.declared.history.Event.{Event}
use Rattle.dpl_history.specs.declared.history.Miss.{Miss}
use Rattle.dpl_history.specs.Histories.{of_task, StartsWith}
use Rattle.dpl_history.proofs.Histories.{StartsWith-trans}
use Rattle.dpl_language.specs.Outcome.{Solo}
use Rattle.dpl_cell.specs.Seats.{BoardValue, SeatValue, IsSeatOf, Has}
use Rattle.dpl_cell.specs.Calls.{KeepsNumbers, IsMissAt, Waited, Joined}
use Rattle.dpl_cell.proofs.Numbers.{Has-head, Has-append_left, Has-append_right}
use Rattle.dpl_task.specs.declared.end.TaskEnd.{TaskEnd as EndNode}
use Rattle.dpl_task.specs.declared.end.TaskEnd.TheVariants as end
use Rattle.dpl_task.specs.Ends.{solo}
use Rattle.dpl_task.specs.Together.{AllFrom}
use Rattle.dpl_task.specs.Ran.{WaitsSo, Ran}
use Rattle.dpl_task.specs.Levels.{KnowsMisses, HasWaitedSo, HasEnded, HaveRun}

pub AllFrom-push : {A : Type 0} (P : ℕ → A → Type 0) (k n : ℕ) (xs : List A) (x : A) → n ≡ k + length xs → AllFrom P k xs → P n x → AllFrom P k (xs ++ x ∷ [])
AllFrom-push P k n [] x e all p = let same : n ≡ k = omega arith in (subst (λ (j : ℕ). P j x) same p, tt)
AllFrom-push P k n (y ∷ xs) x e all p = let next : n ≡ (k + 1) + length xs = omega arith in (all.0, AllFrom-push P (k + 1) n xs x next all.1 p)

pub AllFrom-last : {A : Type 0} (P : ℕ → A → Type 0) (k n : ℕ) (xs : List A) (x : A) → n ≡ k + length xs → AllFrom P k (xs ++ x ∷ []) → AllFrom P k xs × P n x
AllFrom-last P k n [] x e all = let same : k ≡ n = omega arith in (tt, subst (λ (j : ℕ). P j x) same all.0)
AllFrom-last P k n (y ∷ xs) x e all = let next : n ≡ (k + 1) + length xs = omega arith in let rest = AllFrom-last P (k + 1) n xs x next all.1 in ((all.0, rest.0), rest.1)

pub AllFrom-weaker : {A : Type 0} (P Q : ℕ → A → Type 0) (k n : ℕ) (xs : List A) → k + length xs ≤ n → ((j : ℕ) (x : A) → j < n → P j x → Q j x) → AllFrom P k xs → AllFrom Q k xs
AllFrom-weaker P Q k n [] l f all = tt
AllFrom-weaker P Q k n (x ∷ xs) l f all =
    let low : k < n = omega arith in let next : (k + 1) + length xs ≤ n = omega arith in (f k x low all.0, AllFrom-weaker P Q (k + 1) n xs next f all.1)

-- a seat that has just waited knows its misses
knows-waited : (tries k c : ℕ) (op : CellOp) (v s : SeatValue) → s.number ≡ k → s.numbers ≡ k ∷ [] → KeepsNumbers v s → Waited tries v c op s → KnowsMisses tries k c op s
knows-waited tries k c op v s is numbers keeps w =
    let own : Has k v.numbers = subst (λ (ns : List ℕ). Has k ns) (sym numbers ∙ keeps.1) (Has-head k []) in
    let ms : List Miss = w.missed.0 in
    record {
      front = v.history;
      begins = w.begins;
      quiet = w.quiet k own;
      high = length s.history;
      before = v.misses;
      misses = ms;
      behind = [];
      among = w.missed.1 ∙ ap (λ (l : List Miss). v.misses ++ l) (sym (append-nil ms));
      count = w.missed.2;
      each = subst (λ (j : ℕ). All (IsMissAt j c op (length v.history) (length s.history)) ms) (sym keeps.0 ∙ is) w.missed.3;
    }

waited-so : (tries k : ℕ) (s : SeatValue) (e : EndNode) → s.number ≡ k → s.numbers ≡ k ∷ [] → WaitsSo tries s e → HasWaitedSo tries s k e
waited-so tries k s end.Ended is numbers q = tt
waited-so tries k s (end.Faulted f) is numbers q = tt
waited-so tries k s (end.Waiting at c op) is numbers q = knows-waited tries k c op q.0 s is numbers q.1 q.2

-- what is a part of a list is one of a longer list
part-more : (front before part behind rest : List Miss) → front ++ ((before ++ (part ++ behind)) ++ rest) ≡ (front ++ before) ++ (part ++ (behind ++ rest))
part-more front before part behind rest = simp append_assoc

-- a seat that knows more, and whose misses have those of the other one among them
module _ (k : ℕ) (u w : SeatValue) (begins : StartsWith w.history u.history) (same : of_task k w.history ≡ of_task k u.history) (front rest : List Miss) (has : w.misses ≡ front ++ (u.misses ++ rest)) where
  knows-more : (tries c : ℕ) (op : CellOp) → KnowsMisses tries k c op u → KnowsMisses tries k c op w
  knows-more tries c op q = record {
    front = q.front;
    begins = StartsWith-trans q.front u.history w.history q.begins begins;
    quiet = same ∙ q.quiet;
    high = q.high;
    before = front ++ q.before;
    misses = q.misses;
    behind = q.behind ++ rest;
    among = has ∙ ap (λ (l : List Miss). front ++ (l ++ rest)) q.among ∙ part-more front q.before q.misses q.behind rest;
    count = q.count;
    each = q.each;
  }

  waited-more : (tries : ℕ) (e : EndNode) → HasWaitedSo tries u k e → HasWaitedSo tries w k e
  waited-more tries end.Ended q = tt
  waited-more tries (end.Faulted f) q = tt
  waited-more tries (end.Waiting at c op) q = knows-more tries c op q

  ended-more : (alone : ℕ → List Reply → Solo → Type 0) (tries : ℕ) (e : EndNode) → HasEnded alone tries u k e → HasEnded alone tries w k e
  ended-more alone tries e q =
      (subst (λ (es : List Event). alone k (map {A = Event} {B = Reply} (λ x. x.reply) es) (solo es e)) (sym same) q.0, waited-more tries e q.1)

pub have_run_more : (b : BoardValue) (alone : ℕ → List Reply → Solo → Type 0) (may : ℕ → ℕ → Type 0) (tries n : ℕ) (g u v w : SeatValue) (ends : List EndNode) (e : EndNode)
    → HaveRun b alone tries n g u ends → Ran b alone may tries n v (Ok e) → IsSeatOf b w → Joined u v w → HaveRun b alone tries (n + 1) g w (ends ++ e ∷ [])
have_run_more b alone may tries n g u v w ends e h t own j =
    let from_u : (k : ℕ) → Has k u.numbers → Has k w.numbers = λ k x. subst (λ (ns : List ℕ). Has k ns) (sym j.numbers) (Has-append_left k u.numbers v.numbers x) in
    let mine : Has n v.numbers = subst (λ (ns : List ℕ). Has n ns) (sym t.numbers) (Has-head n []) in
    let from_v : Has n w.numbers = subst (λ (ns : List ℕ). Has n ns) (sym j.numbers) (Has-append_right n u.numbers v.numbers mine) in
    let last : w.misses ≡ u.misses ++ (v.misses ++ []) = j.misses ∙ ap (λ (l : List Miss). u.misses ++ l) (sym (append-nil v.misses)) in
    let upto : 0 + length ends ≤ n = let c = h.count in omega arith in
    let next : n ≡ 0 + length ends = let c = h.count in omega arith in
    record {
      own = own;
      all = λ k l. dite (ℕ_discrete k n) (λ q. subst (λ (i : ℕ). Has i w.numbers) (sym q) from_v) (λ ne. from_u k (h.all k (omega arith)));
      before = λ k x. let p = h.before k x in (from_u k p.0, j.mine k p.0 ∙ p.1);
      count = length-append ends (e ∷ []) ∙ ap (λ (m : ℕ). m + 1) h.count;
      each = AllFrom-push (HasEnded alone tries w) 0 n ends e next
          (AllFrom-weaker (HasEnded alone tries u) (HasEnded alone tries w) 0 n ends upto (λ k x l q. ended-more k u w j.left (j.mine k (h.all k l)) [] v.misses j.misses alone tries x q) h.each)
          (ended-more n v w j.right (j.theirs n mine) u.misses [] last alone tries e (t.ends.0, waited-so tries n v e t.number t.numbers t.ends.1));
    }

-- Tasks that count up in one cell leave what one task would have left that did all their rounds.
-- By induction over the history: either the cell is full and every task is between two rounds, or one task has its value.
use Rattle.std.proofs.Common.{◌≡◌, ◌≢◌, ℕ, zero, suc, ◌+◌, ◌*◌, ◌<◌, ◌≤◌, ℤ, pos, List, [], ◌∷◌, ◌++◌, Bool, cond, Option, Some, None, sym, refl, ap, ◌∙◌, subst, arith, le_refl, eq-eqb, ne_eqb, append_assoc, length, length-append, Result, Ok, Err, IfOk, IfSome}
use Rattle.std.specs.Option.{option_to_list}
use Rattle.std.proofs.Math.Nat.{suc-mul, zero-mul}
use Rattle.std.proofs.lemmas.List.Elements.{All-head, All-tail}
use mathlib.Core.Logic.{dite}
use native.Mathlib.Decide.{ℕ_discrete}
use Rattle.dpl_history.specs.declared.cell.CellState.{CellState}
use Rattle.dpl_history.specs.declared.cell.CellState.TheVariants.{Empty, Full}
use Rattle.dpl_history.specs.declared.cell.CellOp.TheVariants.{ReadFE, WriteEF}
use Rattle.dpl_history.specs.declared.cell.Reply.{Reply}
use Rattle.dpl_history.specs.declared.cell.Reply.TheVariants.{Value, Done}
use Rattle.dpl_history.specs.declared.history.Event.{Event}
use Rattle.dpl_history.specs.Cells.{effect, IsReplyTo}
use Rattle.dpl_history.specs.Histories.{event, cell_at, after_event, after, legal, Legal, of_task, AllUpTo}
use Rattle.dpl_history.proofs.Histories.{head_same, tail_same}
use Rattle.dpl_history.proofs.Replies.{no_effect}
use Rattle.dpl_cell.specs.declared.tried.Stuck.{Stuck}
use Rattle.dpl_cell.specs.Seats.{BoardValue, SeatValue, IsSeatOf, Has, AnswersForAll, fresh_seat}
use Rattle.dpl_cell.specs.Calls.{KeepsNumbers, DidAfter, Joined}
use Rattle.dpl_cell_tests.specs.Counting.{next, counted, takes, puts_next, Counts, HasCounted, HasCountedAlone, HaveCounted}
use Rattle.dpl_cell.proofs.Numbers.{Has-head, Has-append_left, Has-append_right}
use Rattle.dpl_cell.proofs.Telling.{DidAfter-mine}
use Rattle.dpl_cell.proofs.Views.{changed_at, changed_at-same, changed_at-other}

nil_cons : (a : Event) (x : List Event) → [] ≡ a ∷ x → ⊥
nil_cons a x e = cc

-- Sums

-- f of 0 to t, added up
abbrev pub sum_to : (ℕ → ℕ) → ℕ → ℕ
sum_to f zero = f 0
sum_to f (suc t) = f (suc t) + sum_to f t

sum_to-zero : (f : ℕ → ℕ) (t : ℕ) → ((k : ℕ) → k ≤ t → f k ≡ 0) → sum_to f t ≡ 0
sum_to-zero f zero h = h 0 (omega arith)
sum_to-zero f (suc t) h = let a = h (suc t) (le_refl (suc t)) in let b = sum_to-zero f t (λ k l. h k (omega arith)) in omega arith

sum_to-same : (f g : ℕ → ℕ) (t : ℕ) → ((k : ℕ) → k ≤ t → g k ≡ f k) → sum_to g t ≡ sum_to f t
sum_to-same f g zero h = h 0 (omega arith)
sum_to-same f g (suc t) h = let a = h (suc t) (le_refl (suc t)) in let b = sum_to-same f g t (λ k l. h k (omega arith)) in omega arith

-- one of the numbers is one less
sum_to-less : (f g : ℕ → ℕ) (j t : ℕ) → j ≤ t → f j ≡ suc (g j) → ((k : ℕ) → k ≢ j → g k ≡ f k) → sum_to f t ≡ suc (sum_to g t)
sum_to-less f g j zero low less others = let e : j ≡ 0 = omega arith in subst (λ (i : ℕ). f i ≡ suc (g i)) e less
sum_to-less f g j (suc t) low less others = dite (ℕ_discrete j (suc t))
    (λ e. let a = subst (λ (i : ℕ). f i ≡ suc (g i)) e less in let b = sum_to-same f g t (λ k l. others k (λ (q : k ≡ j). omega arith)) in omega arith)
    (λ ne. let a = others (suc t) (λ q. ne (sym q)) in let b = sum_to-less f g j t (omega arith) less others in omega arith)

sum_to-all : (f : ℕ → ℕ) (t n : ℕ) → ((k : ℕ) → k ≤ t → f k ≡ n) → sum_to f t ≡ suc t * n
sum_to-all f zero n h = let a = h 0 (omega arith) in let b = suc-mul 0 n in let c = zero-mul n in omega arith
sum_to-all f (suc t) n h = let a = h (suc t) (le_refl (suc t)) in let b = sum_to-all f t n (λ k l. h k (omega arith)) in let c = suc-mul (suc t) n in omega arith

-- all but the last of the numbers are n, and that is 0
sum_to-but_last : (f : ℕ → ℕ) (t n : ℕ) → ((k : ℕ) → k < t → f k ≡ n) → f t ≡ 0 → sum_to f t ≡ t * n
sum_to-but_last f zero n h last = last ∙ sym (zero-mul n)
sum_to-but_last f (suc t) n h last = let b = sum_to-all f t n (λ k l. h k (omega arith)) in omega arith

-- Rounds

first_round : (k n : ℕ) (e : Event) (es : List Event) → Counts k n (e ∷ es)
    → (m : ℕ) × (v : ℤ) × (rest : List Event) × (n ≡ suc m) × (e ≡ takes k v) × (es ≡ puts_next k v ∷ rest) × Counts k m rest
first_round k zero e es c = absurd (nil_cons e es (sym c))
first_round k (suc m) e es c = (m, c.0, c.1, refl, head_same e (takes k c.0) es (puts_next k c.0 ∷ c.1) c.2, tail_same e (takes k c.0) es (puts_next k c.0 ∷ c.1) c.2, c.3)

no_rounds : (k n : ℕ) → Counts k n [] → n ≡ 0
no_rounds k zero c = refl
no_rounds k (suc n) c = absurd (nil_cons (takes k c.0) (puts_next k c.0 ∷ c.1) c.2)

pub Counts-push : (k n : ℕ) (es : List Event) (v : ℤ) → Counts k n es → Counts k (suc n) (es ++ takes k v ∷ puts_next k v ∷ [])
Counts-push k zero es v c = (v, [], ap (λ l. l ++ takes k v ∷ puts_next k v ∷ []) c, refl)
Counts-push k (suc n) es v c = (c.0, c.1 ++ takes k v ∷ puts_next k v ∷ [], ap (λ l. l ++ takes k v ∷ puts_next k v ∷ []) c.2, Counts-push k n c.1 v c.3)

of_task-same : (e : Event) (es : List Event) → of_task e.task (e ∷ es) ≡ e ∷ of_task e.task es
of_task-same e es = ap (λ (b : Bool). cond b (e ∷ of_task e.task es) (of_task e.task es)) (eq-eqb e.task e.task refl)

of_task-other : (k : ℕ) (e : Event) (es : List Event) → e.task ≢ k → of_task k (e ∷ es) ≡ of_task k es
of_task-other k e es ne = ap (λ (b : Bool). cond b (e ∷ of_task k es) (of_task k es)) (ne_eqb e.task k ne)

-- Histories

-- each task up to t has rounds ahead
abbrev AllCount : ℕ → (ℕ → ℕ) → List Event → Type 0
AllCount t left es = (k : ℕ) → k ≤ t → Counts k (left k) (of_task k es)

-- task j has taken v out, and is to put the next value in
record HasTaken (t j : ℕ) (left : ℕ → ℕ) (v : ℤ) (es : List Event) : Type 0 where
  rest : List Event
  next_is : of_task j es ≡ puts_next j v ∷ rest
  mine : Counts j (left j) rest
  others : (k : ℕ) → k ≤ t → k ≢ j → Counts k (left k) (of_task k es)

-- what is left of a full cell, and of a cell whose value a task has
abbrev FromFull : ℕ → List Event → Type 0
FromFull t es =
    (left : ℕ → ℕ) (v : ℤ) → Legal (Full v ∷ []) es → AllUpTo t es → AllCount t left es
    → after (Full v ∷ []) es ≡ Full (counted v (sum_to left t)) ∷ []

abbrev FromEmpty : ℕ → List Event → Type 0
FromEmpty t es =
    (left : ℕ → ℕ) (j : ℕ) (v : ℤ) → j ≤ t → Legal (Empty ∷ []) es → AllUpTo t es → HasTaken t j left v es
    → after (Empty ∷ []) es ≡ Full (counted (next v) (sum_to left t)) ∷ []

-- the value of a reply, and of an effect
abbrev value_in : Reply → ℤ
value_in (Value v) = v
value_in Done = pos 0

abbrev value_of : Option (CellState × Reply) → ℤ
value_of None = pos 0
value_of (Some x) = value_in x.1

FromFull-cons : (t : ℕ) (e : Event) (es : List Event) → FromEmpty t es → FromFull t (e ∷ es)
FromFull-cons t e es more left v p a c =
    let P : Event → Type 0 = λ (x : Event). x.task ≤ t in
    let j : ℕ = e.task in let low : j ≤ t = All-head P e es a in
    let r = first_round j (left j) e (of_task j es) (subst (λ (l : List Event). Counts j (left j) l) (of_task-same e es) (c j low)) in
    let u : ℤ = r.1 in let is : e ≡ takes j u = r.4 in
    let does : effect e.op (cell_at (Full v ∷ []) e.cell) ≡ Some (Empty, Value v) = ap (λ (x : Event). effect x.op (cell_at (Full v ∷ []) x.cell)) is in
    let same : v ≡ u = ap value_of (sym does ∙ p.0.1.1) ∙ ap (λ (x : Event). value_in x.reply) is in
    let left_is : after_event (Full v ∷ []) e ≡ Empty ∷ [] = ap (λ (x : Event). after_event (Full v ∷ []) x) is in
    let g : ℕ → ℕ = changed_at left j r.0 in
    let taken : HasTaken t j g u es = record {
      rest = r.2;
      next_is = r.5;
      mine = subst (λ (n : ℕ). Counts j n r.2) (sym (changed_at-same left j r.0)) r.6;
      others = λ k l ne. subst (λ (n : ℕ). Counts k n (of_task k es)) (sym (changed_at-other left j r.0 k ne))
          (subst (λ (l : List Event). Counts k (left k) l) (of_task-other k e es (λ q. ne (sym q))) (c k l));
    } in
    let sum : sum_to left t ≡ suc (sum_to g t) = sum_to-less left g j t low (r.3 ∙ ap suc (sym (changed_at-same left j r.0))) (changed_at-other left j r.0) in
    ap (λ (xs : List CellState). after xs es) left_is
    ∙ (more g j u low (subst (λ (xs : List CellState). Legal xs es) left_is p.1) (All-tail P e es a) taken
    ∙ sym (λ i. Full (counted (same i) (sum i)) ∷ []))

FromEmpty-cons : (t : ℕ) (e : Event) (es : List Event) → FromFull t es → FromEmpty t (e ∷ es)
FromEmpty-cons t e es more left j v low p a b =
    let P : Event → Type 0 = λ (x : Event). x.task ≤ t in dite (ℕ_discrete e.task j)
    (λ same.
    let mine : of_task j (e ∷ es) ≡ e ∷ of_task j es = subst (λ (k : ℕ). of_task k (e ∷ es) ≡ e ∷ of_task k es) same (of_task-same e es) in
    let both : e ∷ of_task j es ≡ puts_next j v ∷ b.rest = sym mine ∙ b.next_is in
    let is : e ≡ puts_next j v = head_same e (puts_next j v) (of_task j es) b.rest both in
    let later : of_task j es ≡ b.rest = tail_same e (puts_next j v) (of_task j es) b.rest both in
    let left_is : after_event (Empty ∷ []) e ≡ Full (next v) ∷ [] = ap (λ (x : Event). after_event (Empty ∷ []) x) is in
    ap (λ (xs : List CellState). after xs es) left_is
    ∙ more left (next v) (subst (λ (xs : List CellState). Legal xs es) left_is p.1) (All-tail P e es a)
    (λ k l. dite (ℕ_discrete k j)
    (λ q. subst (λ (i : ℕ). Counts i (left i) (of_task i es)) (sym q) (subst (λ (l : List Event). Counts j (left j) l) (sym later) b.mine))
    (λ ne. subst (λ (l : List Event). Counts k (left k) l) (of_task-other k e es (λ q. ne (sym q ∙ same))) (b.others k l ne))))
    (λ other.
    let i : ℕ = e.task in
    let r = first_round i (left i) e (of_task i es) (subst (λ (l : List Event). Counts i (left i) l) (of_task-same e es) (b.others i (All-head P e es a) other)) in
    let does : effect e.op (cell_at (Empty ∷ []) e.cell) ≡ None = ap (λ (x : Event). effect x.op (cell_at (Empty ∷ []) x.cell)) r.4 in
    absurd (no_effect _ (sym does ∙ p.0.1.1)))

counted_up : (t : ℕ) (es : List Event) → FromFull t es × FromEmpty t es
counted_up t [] = (
  λ left v p a c. ap (λ (n : ℕ). Full (counted v n) ∷ []) (sym (sum_to-zero left t (λ k l. no_rounds k (left k) (c k l)))),
  λ left j v low p a b. absurd (nil_cons (puts_next j v) b.rest b.next_is),
)
counted_up t (e ∷ es) = let more = counted_up t es in (FromFull-cons t e es more.1, FromEmpty-cons t e es more.0)

-- n rounds of each of t tasks, in any legal order
pub after-counted : (t n : ℕ) (es : List Event) → Legal (Full (pos 0) ∷ []) es → AllUpTo t es → ((k : ℕ) → k < t → Counts k n (of_task k es)) → of_task t es ≡ []
    → after (Full (pos 0) ∷ []) es ≡ Full (counted (pos 0) (t * n)) ∷ []
after-counted t n es p a c none =
    let left : ℕ → ℕ = changed_at (λ _. n) t 0 in
    let sum : sum_to left t ≡ t * n = sum_to-but_last left t n (λ k l. changed_at-other (λ _. n) t 0 k (λ (q : k ≡ t). omega arith)) (changed_at-same (λ _. n) t 0) in
    (counted_up t es).0 left (pos 0) p a
    (λ k l. dite (ℕ_discrete k t)
    (λ q. subst (λ (i : ℕ). Counts i (left i) (of_task i es)) (sym q) (subst (λ (m : ℕ). Counts t m (of_task t es)) (sym (changed_at-same (λ _. n) t 0)) none))
    (λ ne. subst (λ (m : ℕ). Counts k m (of_task k es)) (sym (changed_at-other (λ _. n) t 0 k ne)) (c k (omega arith))))
    ∙ ap (λ (m : ℕ). Full (counted (pos 0) m) ∷ []) sum

-- What the calls on a board told

is_done : (v : ℤ) (r : Reply) → IsReplyTo (WriteEF v) r → r ≡ Done
is_done v (Value u) p = absurd p
is_done v Done p = refl

-- one round more
pub HasCounted-suc : (n t : ℕ) (v u x w : SeatValue) (val : ℤ) (r q : Reply) → v.numbers ≡ v.number ∷ [] → KeepsNumbers v u → HasCounted n v u
    → KeepsNumbers u x → DidAfter t u 0 ReadFE r x → r ≡ Value val → DidAfter t x 0 (WriteEF (next val)) q w → IsReplyTo (WriteEF (next val)) q → HasCounted (n + 1) v w
HasCounted-suc n t v u x w val r q alone keeps h still read is wrote fits =
    let k : ℕ = v.number in let new : List Event = takes k val ∷ puts_next k val ∷ [] in
    let has : Has k v.numbers = subst (λ (ns : List ℕ). Has k ns) (sym alone) (Has-head k []) in
    let has_u : Has u.number u.numbers = subst (λ (z : ℕ × List ℕ). Has z.0 z.1) (λ i. (sym keeps.0 i, sym keeps.1 i)) has in
    let has_x : Has x.number x.numbers = subst (λ (z : ℕ × List ℕ). Has z.0 z.1) (λ i. (sym still.0 i, sym still.1 i)) has_u in
    let first = subst (λ (z : ℕ × Reply). of_task z.0 x.history ≡ of_task z.0 u.history ++ event z.0 0 ReadFE z.1 ∷ []) (λ i. (keeps.0 i, is i))
    (DidAfter-mine t u x 0 ReadFE r has_u read) in
    let second = subst (λ (z : ℕ × Reply). of_task z.0 w.history ≡ of_task z.0 x.history ++ event z.0 0 (WriteEF (next val)) z.1 ∷ [])
    (λ i. ((still.0 ∙ keeps.0) i, is_done (next val) q fits i)) (DidAfter-mine t x w 0 (WriteEF (next val)) q has_x wrote) in
    let one_more : suc n ≡ n + 1 = omega arith in (
      h.0 ++ new,
      second ∙ (ap (λ (l : List Event). l ++ puts_next k val ∷ []) first
          ∙ (append_assoc (of_task k u.history) (takes k val ∷ []) (puts_next k val ∷ [])
          ∙ (ap (λ (l : List Event). l ++ new) h.1 ∙ append_assoc (of_task k v.history) h.0 new))),
      subst (λ (m : ℕ). Counts k m (h.0 ++ new)) one_more (Counts-push k n h.0 val h.2),
    )

counts_alone : (b : BoardValue) (k n : ℕ) (s : SeatValue) (ended : Result Unit Stuck) → IfOk ended (λ _. HasCounted n (fresh_seat b k) s) → IfOk ended (λ _. Counts k n (of_task k s.history))
counts_alone b k n s (Ok x) h = subst (λ (es : List Event). Counts k n es) (sym h.1) h.2
counts_alone b k n s (Err x) h = tt

pub HasCountedAlone-fresh : (b : BoardValue) (k n : ℕ) (v s : SeatValue) (ended : Result Unit Stuck) → v ≡ fresh_seat b k → IsSeatOf b s → KeepsNumbers v s
    → IfOk ended (λ _. HasCounted n v s) → HasCountedAlone b k n s ended
HasCountedAlone-fresh b k n v s ended fresh own keeps counts = record {
  own = own;
  numbers = keeps.1 ∙ ap (λ (x : SeatValue). x.numbers) fresh;
  counts = counts_alone b k n s ended (subst (λ (x : SeatValue). IfOk ended (λ _. HasCounted n x s)) fresh counts);
}

pub HaveCounted-zero : (b : BoardValue) (n : ℕ) (g : SeatValue) → IsSeatOf b g → HaveCounted b 0 n g g
HaveCounted-zero b n g own = record { own = own; tasks = λ k l. absurd (omega arith); before = λ k h. (h, refl) }

-- one task's seat more
pub HaveCounted-suc : (b : BoardValue) (m n : ℕ) (g u s w : SeatValue) → HaveCounted b m n g u → s.numbers ≡ m ∷ [] → Counts m n (of_task m s.history)
    → IsSeatOf b w → Joined u s w → HaveCounted b (m + 1) n g w
HaveCounted-suc b m n g u s w h numbers counts own j =
    let from_u : (k : ℕ) → Has k u.numbers → Has k w.numbers = λ k x. subst (λ (ns : List ℕ). Has k ns) (sym j.numbers) (Has-append_left k u.numbers s.numbers x) in
    let mine : Has m s.numbers = subst (λ (ns : List ℕ). Has m ns) (sym numbers) (Has-head m []) in
    let from_s : Has m w.numbers = subst (λ (ns : List ℕ). Has m ns) (sym j.numbers) (Has-append_right m u.numbers s.numbers mine) in record {
      own = own;
      tasks = λ k l. dite (ℕ_discrete k m)
          (λ q. subst (λ (i : ℕ). Has i w.numbers × Counts i n (of_task i w.history)) (sym q)
          (from_s, subst (λ (es : List Event). Counts m n es) (sym (j.theirs m mine)) counts))
          (λ ne. let t = h.tasks k (omega arith) in (from_u k t.0, subst (λ (es : List Event). Counts k n es) (sym (j.mine k t.0)) t.1));
      before = λ k x. let t = h.before k x in (from_u k t.0, j.mine k t.0 ∙ t.1);
    }

-- the seat that has taken in those of all tasks answers for all
pub AnswersForAll-counted : (b : BoardValue) (n : ℕ) (s : SeatValue) → HaveCounted b b.tasks n (fresh_seat b b.tasks) s → AnswersForAll s
AnswersForAll-counted b n s h = λ k l. let low : k ≤ b.tasks = subst (λ (x : BoardValue). k ≤ x.tasks) h.own l in dite (ℕ_discrete k b.tasks)
    (λ q. (h.before k (subst (λ (i : ℕ). Has k (i ∷ [])) q (Has-head k []))).0)
    (λ ne. (h.tasks k (omega arith)).0)

-- the one cell, at the end
pub after-all_counted : (b : BoardValue) (n : ℕ) (s : SeatValue) (left : List CellState) → b.opening ≡ Full (pos 0) ∷ [] → HaveCounted b b.tasks n (fresh_seat b b.tasks) s
    → legal b.opening s.history left → AllUpTo b.tasks s.history → left ≡ Full (counted (pos 0) (b.tasks * n)) ∷ []
after-all_counted b n s left opening h law ours =
    let is : legal (Full (pos 0) ∷ []) s.history left = subst (λ (cs : List CellState). legal cs s.history left) opening law in
    is.1 ∙ after-counted b.tasks n s.history is.0 ours (λ k l. (h.tasks k l).1) (h.before b.tasks (Has-head b.tasks [])).1

last_same : (ys : List CellState) (z x : CellState) → ys ++ z ∷ [] ≡ x ∷ [] → z ≡ x
last_same [] z x e = cc
last_same (y ∷ ys) z x e = let n : suc (length (ys ++ z ∷ [])) ≡ 1 = ap length e in let m = length-append ys (z ∷ []) in absurd (omega arith)

-- what was popped from a list of one
pub popped_one : (r : Option CellState) (xs ys : List CellState) (x : CellState) → xs ≡ x ∷ [] → xs ≡ ys ++ option_to_list r → IfSome r (λ z. z ≡ x)
popped_one None xs ys x is p = tt
popped_one (Some z) xs ys x is p = last_same ys z x (sym p ∙ is)

-- What a call tells its caller, from what its steps told.
-- A try is a taking and a publishing, or a miss; `op` is some misses and then a try; a join is followed by what the rule vouches for.
use Rattle.std.proofs.Common.{◌≡◌, ℕ, ◌+◌, ◌≤◌, List, [], ◌∷◌, ◌++◌, length, Some, sym, refl, ap, ◌∙◌, subst, arith, append_assoc, length-append, All}
use Rattle.std.proofs.lemmas.List.Elements.{All-append, All-weaker, All-nil, All-cons, All-head, All-tail}
use Rattle.dpl_history.specs.declared.cell.CellState.{CellState}
use Rattle.dpl_history.specs.declared.cell.CellOp.{CellOp}
use Rattle.dpl_history.specs.declared.cell.Reply.{Reply}
use Rattle.dpl_history.specs.declared.history.Event.{Event}
use Rattle.dpl_history.specs.declared.history.Miss.{Miss}
use Rattle.dpl_cell.specs.declared.view.Growth.{Growth}
use Rattle.dpl_cell.specs.declared.view.Hold.{Hold}
use Rattle.atomic_table.specs.Seated.{TableId}
use Rattle.dpl_cell.specs.declared.view.View.{View}
use Rattle.dpl_cell.specs.Seats.{SeatValue}
use Rattle.dpl_cell.specs.Shown.{shown_seat}
use Rattle.dpl_history.specs.Cells.{effect, IsReplyTo}
use Rattle.dpl_history.specs.Histories.{Legal, of_task, event, StartsWith}
use Rattle.dpl_history.specs.Looks.{miss}
use Rattle.dpl_cell.specs.Seats.{Has}
use Rattle.dpl_cell.specs.Calls.{KeepsNumbers, Did, DidAfter, Missed, IsMissAt, Waited, longer, Joined}
use Rattle.dpl_cell.specs.Rule.{cell_of, Grows}
use Rattle.dpl_cell.specs.Steps.{TokenState, hold, Took, Ends, growth, gathered}
use Rattle.dpl_history.proofs.Replies.{IsReplyTo-last}
use Rattle.dpl_history.proofs.Histories.{of_task-push_same, of_task-push_other, StartsWith-trans, StartsWith-length}
use Rattle.dpl_cell.proofs.Taking.{holding}

Did-holding : (i j : TableId) (v : View) (h : Hold) (m m' : TokenState) (c : ℕ) (op : CellOp) (r : Reply) → Has v.number v.numbers → Ends (holding v h, m.1) c op r m' → Did (shown_seat i v) c op r (shown_seat j m'.0)
Did-holding i j v h m m' c op r acts e = let es : List Event = e.history in let a = e.adds in
    let new : Event = event v.number c op r in let before : List Event = v.history ++ a.between in
    subst (λ (u : View). Did (shown_seat i v) c op r (shown_seat j u)) (sym (ap (λ (x : TokenState). x.0) e.is)) record {
      begins = (a.between ++ new ∷ [], a.is ∙ append_assoc v.history a.between (new ∷ []));
      ends = (before, a.is);
      mine = ap (of_task v.number) a.is ∙ (of_task-push_same v.number before c op r ∙ ap (λ l. l ++ new ∷ []) (a.quiet v.number acts));
      others = λ k has ne. ap (of_task k) a.is ∙ (of_task-push_other k v.number before c op r ne ∙ a.quiet k has);
      misses = refl;
    }

-- whatever the seat held, the operation has ended
pub Ends-holding : (m m' : TokenState) (h : Hold) (c : ℕ) (op : CellOp) (r : Reply) → Ends (holding m.0 h, m.1) c op r m' → Ends m c op r m'
Ends-holding m m' h c op r e = let a = e.adds in record {
  history = e.history;
  adds = record { between = a.between; is = a.is; legal = a.legal; ours = a.ours; quiet = a.quiet };
  is = e.is;
}

-- an operation that ended has replied what such an operation replies
pub IsReplyTo-ends : (m m' : TokenState) (c : ℕ) (op : CellOp) (r : Reply) → Ends m c op r m' → IsReplyTo op r
IsReplyTo-ends m m' c op r e = let a = e.adds in let before : List Event = m.0.history ++ a.between in let new : Event = event m.0.number c op r in
    IsReplyTo-last m.0.opening before new (subst (λ (es : List Event). Legal m.0.opening es) a.is a.legal)

-- the operation's effect on the cell that was read is its effect on the cell that was taken
pub effect-read : (op : CellOp) (state n value : ℕ) (x y : CellState) (r : Reply) → value ≡ n → x ≡ cell_of state value → effect op x ≡ Some (y, r) → effect op (cell_of state n) ≡ Some (y, r)
effect-read op state n value x y r same is does = ap (effect op) (sym (is ∙ ap (cell_of state) same)) ∙ does

-- a cell was taken, and given back with the operation done
pub Did-ends : (i j : TableId) (v : View) (m m' : TokenState) (c : ℕ) (op : CellOp) (r : Reply) (w : ℕ) → Has v.number v.numbers → Took v c w m.0 → Ends m c op r m' → Did (shown_seat i v) c op r (shown_seat j m'.0)
Did-ends i j v m m' c op r w acts t e = Did-holding i j v (hold c (cell_of w t.value) t.value) m m' c op r acts (subst (λ (u : View). Ends (u, m.1) c op r m') t.is e)

pub KeepsNumbers-trans : (v u w : SeatValue) → KeepsNumbers v u → KeepsNumbers u w → KeepsNumbers v w
KeepsNumbers-trans v u w a b = (b.0 ∙ a.0, b.1 ∙ a.1)

-- the operation's event is all that the number did meanwhile
pub DidAfter-mine : (n : ℕ) (v w : SeatValue) (c : ℕ) (op : CellOp) (r : Reply) → Has v.number v.numbers → DidAfter n v c op r w
    → of_task v.number w.history ≡ of_task v.number v.history ++ event v.number c op r ∷ []
DidAfter-mine n v w c op r acts d = let u = d.between in let k : ℕ = v.number in
    subst (λ (j : ℕ). of_task j w.history ≡ of_task j u.history ++ event j c op r ∷ []) d.numbers.0 d.did.mine
    ∙ ap (λ l. l ++ event k c op r ∷ []) (d.waited.quiet k acts)

pub Waited-suc : (n : ℕ) (v u w : SeatValue) (c : ℕ) (op : CellOp) (word : ℕ) → Waited n v c op u → KeepsNumbers v u → Missed u c op word w → Waited (n + 1) v c op w
Waited-suc n v u w c op word a same b = let x = a.missed in
    let m : Miss = miss u.number (length w.history) c word in
    let low : length v.history ≤ length u.history = StartsWith-length v.history u.history a.begins in
    let high : length u.history ≤ length w.history = StartsWith-length u.history w.history b.begins in
    let many : length x.0 ≡ n = x.2 in
    let At : Miss → Type 0 = IsMissAt v.number c op (length v.history) (length w.history) in
    let later : (m : Miss) → IsMissAt v.number c op (length v.history) (length u.history) m → At m = λ m t. let p = t.until in
    record { task = t.task; cell_is = t.cell_is; since = t.since; until = omega arith; seen = t.seen; unfit = t.unfit } in
    let last : At m = record { task = same.0; cell_is = refl; since = omega arith; until = omega arith; seen = b.seen; unfit = b.unfit } in record {
      begins = StartsWith-trans v.history u.history w.history a.begins b.begins;
      quiet = λ k has. b.quiet k (subst (λ ns. Has k ns) (sym same.1) has) ∙ a.quiet k has;
      missed = (
        x.0 ++ m ∷ [],
        b.misses ∙ (ap (λ l. l ++ m ∷ []) x.1 ∙ append_assoc v.misses x.0 (m ∷ [])),
        omega (arith, length-append x.0 (m ∷ [])),
        All-append At x.0 (m ∷ []) (All-weaker _ At later x.0 x.3) (All-cons At m [] last (All-nil At)),
      );
    }

pub Joined-gathered : (i j n : TableId) (v w u : View) → u ≡ gathered v w → All Grows u.joins → Joined (shown_seat i v) (shown_seat j w) (shown_seat n u)
Joined-gathered i j n v w u is grew = let es : List Event = longer v.history w.history in
    let a : Growth = growth v.numbers v.history es in let b : Growth = growth w.numbers w.history es in
    let all : All Grows (a ∷ b ∷ []) = subst (λ (x : View). All Grows x.joins) is grew in
    let left : Grows a = All-head Grows a (b ∷ []) all in
    let right : Grows b = All-head Grows b [] (All-tail Grows a (b ∷ []) all) in
    let history : es ≡ u.history = ap (λ (x : View). x.history) (sym is) in record {
      number = ap (λ (x : View). x.number) is;
      numbers = ap (λ (x : View). x.numbers) is;
      misses = ap (λ (x : View). x.misses) is;
      history = sym history;
      left = subst (λ fs. StartsWith fs v.history) history left.0;
      right = subst (λ fs. StartsWith fs w.history) history right.0;
      mine = λ k h. ap (of_task k) (sym history) ∙ left.1 k h;
      theirs = λ k h. ap (of_task k) (sym history) ∙ right.1 k h;
    }

-- `count_together`: the gatherer's seat has taken in those of all tasks, so its history leaves the cell counted up.
-- By `CountingLemmas`.
use Rattle.std.proofs.Common.{rules, ◌≡◌, ℕ, ◌*◌, [], ◌∷◌, pos, vec_len, ap, ◌∙◌, subst}
use Rattle.dpl_history.specs.declared.cell.CellState.TheVariants.{Full}
use Rattle.dpl_cell.specs.Seats.{SeatValue, fresh_seat}
use Rattle.dpl_cell_tests.specs.Counting.{counted, HaveCounted}
use Rattle.dpl_cell_tests.proofs.CountingLemmas.{AnswersForAll-counted, after-all_counted, popped_one}
use Rattle.dpl_cell_tests.proofs.counting.count_together.Goals as goal

pub close-requires-clause-all : goal.close-requires-clause-all
close-requires-clause-all g c = let b = c.in-Ok.board in let s = c.in_ok-gatherer.gatherer in let n : ℕ = c.args.rounds in
    let m : ℕ = vec_len c.last_seat-gatherer.new.seats in let is : m ≡ b.tasks = search rules in
    AnswersForAll-counted b n s (subst (λ (z : ℕ × SeatValue). HaveCounted b z.0 n z.1 s) (λ i. (is i, (c.last_seat-gatherer.ensures.seat ∙ ap (fresh_seat b) is) i)) c.in_ok-gatherer.ensures)

pub returns : goal.returns
returns g c = let b = c.in-Ok.board in let s = c.in_ok-gatherer.gatherer in let n : ℕ = c.args.rounds in
    let opening : b.opening ≡ Full (pos 0) ∷ [] = search rules in
    let m : ℕ = vec_len c.last_seat-gatherer.new.seats in let is : m ≡ b.tasks = search rules in
    let have : HaveCounted b b.tasks n (fresh_seat b b.tasks) s =
    subst (λ (z : ℕ × SeatValue). HaveCounted b z.0 n z.1 s) (λ i. (is i, (c.last_seat-gatherer.ensures.seat ∙ ap (fresh_seat b) is) i)) c.in_ok-gatherer.ensures in
    let left : c.close.result.items ≡ Full (counted (pos 0) (b.tasks * n)) ∷ [] = after-all_counted b n s c.close.result.items opening have c.close.ensures.legal c.close.ensures.ours in
    popped_one c.pop.result c.close.result.items c.pop.new.self.items (Full (counted (pos 0) (c.args.tasks * n)))
    (left ∙ ap (λ (t : ℕ). Full (counted (pos 0) (t * n)) ∷ []) c.in-Ok.ensures.tasks) c.pop.ensures.items

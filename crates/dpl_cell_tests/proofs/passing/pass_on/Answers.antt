-- `pass_on`: the gatherer's seat knows what both tasks did, and the law of channels puts the two together.
-- By `PassingLemmas`.
use Rattle.std.proofs.Common.{rules, ◌≡◌, ℕ, [], ◌∷◌, vec_len, ap, ◌∙◌, subst}
use Rattle.dpl_history.specs.declared.cell.CellState.TheVariants.{Empty}
use Rattle.dpl_history.specs.Histories.{cell_at, of_task, AllUpTo}
use Rattle.dpl_cell.specs.Seats.{fresh_seat}
use Rattle.dpl_cell_tests.specs.Passing.{sends, receives}
use Rattle.dpl_cell_tests.proofs.PassingLemmas.{passed_on, both_joined}
use Rattle.dpl_cell_tests.proofs.passing.pass_on.Goals as goal

pub returns : goal.returns
returns g c = let b = c.in-Ok.board in let s = c.join-sent.result.0.0 in let t = c.join-sent.result.1.0 in let w = c.join-2.new.seat in
    let m : ℕ = vec_len c.last_seat-gatherer.new.seats in let two : m ≡ 2 = search rules in
    let fresh = c.last_seat-gatherer.ensures.seat ∙ ap (fresh_seat b) two in
    let zero_is : s.numbers ≡ 0 ∷ [] = search rules in let one_is : t.numbers ≡ 1 ∷ [] = search rules in
    let sent : of_task 0 s.history ≡ sends 0 c.args.values.now = search rules in
    let received : of_task 1 t.history ≡ receives 1 c.in_ok-got.got.items = search rules in
    let both = both_joined b _ s t c.join.new.seat w fresh zero_is one_is c.join.ensures.joined c.join-2.ensures.joined in
    let ours : AllUpTo 2 w.history = subst (λ (k : ℕ). AllUpTo k w.history) c.in-Ok.ensures.tasks c.close.ensures.ours in
    let empty : cell_at b.opening 0 ≡ Empty = search rules in
    passed_on w.history c.args.values.now c.in_ok-got.got.items ours (both.0 ∙ sent) (both.1 ∙ received) both.2 b.opening c.close.result.items c.close.ensures.legal empty

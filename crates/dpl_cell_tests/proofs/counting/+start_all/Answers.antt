-- `start_all`: the seat of the task that was joined last is one more that has counted.
-- What its thread promised says so.
use Rattle.std.proofs.Common.{rules, ◌≡◌, ℕ, ◌+◌, [], ◌∷◌, vec_len, Result, IfOk, sym, ap, ◌∙◌, subst}
use Rattle.dpl_history.specs.Histories.{of_task}
use Rattle.dpl_cell_tests.specs.declared.counting.Counting.{Counting}
use Rattle.dpl_cell.specs.declared.tried.Stuck.{Stuck}
use Rattle.dpl_cell_tests.specs.Counting.{Counts, HasCountedAlone, HaveCounted}
use Rattle.dpl_cell_tests.proofs.CountingLemmas.{HaveCounted-suc}
use Rattle.dpl_cell_tests.proofs.counting.+start_all.Goals as goal

pub returns : goal.returns
returns g t c =
    let n : ℕ = vec_len c.last_seat-seat.new.seats in let rounds : ℕ = c.args.rounds in let b = c.args.board.now in
    let number : c.len-number.result ≡ n = search rules in
    let s = c.join-seat.result.0 in let ended = c.join-seat.result.1 in
    let alone : HasCountedAlone b c.len-number.result rounds s ended = subst (λ (p : Counting). HasCountedAlone p.board.now p.number p.rounds s ended) c.in-Ok.ensures.ok c.join-seat.ensures in
    let counts = subst (λ (r : Result Unit Stuck). IfOk r (λ _. Counts c.len-number.result rounds (of_task c.len-number.result s.history))) c.in-Ok-ended.is alone.counts in
    let more : HaveCounted b (n + 1) rounds c.args.gatherer c.join.new.seat = HaveCounted-suc b n rounds c.args.gatherer c.in_ok-gatherer.gatherer s c.join.new.seat
    c.in_ok-gatherer.ensures (alone.numbers ∙ ap (λ (m : ℕ). m ∷ []) number) (subst (λ (m : ℕ). Counts m rounds (of_task m s.history)) number counts)
    c.join.ensures.own c.join.ensures.joined in
    subst (λ (m : ℕ). HaveCounted b m rounds c.args.gatherer c.join.new.seat) (sym c.last_seat-seat.ensures.count) more

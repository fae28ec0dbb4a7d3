-- `coforall`: the gatherer's seat has taken in those of all tasks, so they ran together with its history.
-- By `Gathering`.
use Rattle.std.proofs.Common.{rules, ◌≡◌, ℕ, All, vec_len, sym, ap, ◌∙◌, subst}
use Rattle.dpl_history.specs.Histories.{legal, AllUpTo}
use Rattle.dpl_history.specs.Looks.{Agrees}
use Rattle.dpl_cell.specs.Seats.{SeatValue, fresh_seat}
use Rattle.dpl_task.specs.Together.{AllFrom, HaveRunTogether}
use Rattle.dpl_task.specs.Levels.{HaveRun}
use Rattle.dpl_task.proofs.Gathering.{run_together}
use Rattle.dpl_task.proofs.together.coforall.Goals as goal

pub returns-clause-together : goal.returns-clause-together
returns-clause-together g c =
    let b = c.in_ok-board.board in
    let alone = g.T.Tasks.alone c.args.tasks.now in
    let tries : ℕ = c.args.tries in
    let u : SeatValue = c.in_ok-seat.field-0.seat in
    let ends = c.in_ok-seat.field-0.ends.items in
    let n : ℕ = vec_len c.last_seat-seat.new.seats in
    let all : n ≡ b.tasks = search rules in
    let have : HaveRun b alone tries b.tasks (fresh_seat b b.tasks) u ends = subst (λ (z : ℕ × SeatValue). HaveRun b alone tries z.0 z.1 u ends)
    (λ i. (all i, (c.last_seat-seat.ensures.seat ∙ ap (fresh_seat b) all) i)) c.in_ok-seat.ensures.ran in
    let law : legal b.opening u.history c.close.result.items = search rules in
    let ours : AllUpTo b.tasks u.history = search rules in
    let agree : All (Agrees b.opening u.history) u.misses = search rules in
    subst (λ (s : SeatValue). HaveRunTogether alone tries c.args.cells.items ends s c.close.result.items) (sym c.of-known.ensures)
    (subst (λ cs. HaveRunTogether alone tries cs ends u c.close.result.items) c.in_ok-board.ensures.opening
    (run_together b alone tries u ends c.close.result.items c.requires.tries have law ours agree))

pub run_all-requires-after_bounds : goal.run_all-requires-after_bounds
run_all-requires-after_bounds g c κs within = record {
  some = c.requires.tries;
  own = search rules;
  fresh = c.last_seat-seat.ensures.fresh;
  start = subst (λ cells. AllFrom (λ k frame. g.T.Tasks.starts c.args.tasks.now k cells frame) 0 c.args.frames.items) (sym c.in_ok-board.ensures.opening) c.requires.starts;
  count = search rules;
  few = search rules;
  empty = search rules;
  room = search rules;
}

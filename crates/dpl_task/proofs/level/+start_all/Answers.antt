-- `start_all`: the task that was joined last is one more that has ended.
-- What its thread promised says how; where something was refused, the levels below or this task's thread told it.
use Rattle.std.proofs.Common.{rules, arith, ◌≡◌, ℕ, ◌+◌, List, [], ◌∷◌, ◌++◌, length, vec_len, Ok, IfOk, sym, subst}
use Rattle.dpl_cell.specs.Seats.{SeatValue}
use Rattle.dpl_task.specs.declared.level.Running.{Running}
use Rattle.dpl_task.specs.declared.end.TaskEnd.{TaskEnd as EndNode}
use Rattle.dpl_task.specs.Ran.{Ran}
use Rattle.dpl_task.specs.Levels.{HaveRun}
use Rattle.dpl_task.specs.Together.{AllFrom}
use Rattle.dpl_task.proofs.Levels.{AllFrom-last, have_run_more}
use Rattle.dpl_task.proofs.level.+start_all.Goals as goal

pub returns-clause-ran : goal.returns-clause-ran
returns-clause-ran g t c =
    let b = c.args.site.now.board.now in
    let alone = g.T.Tasks.alone c.args.site.now.tasks.now in
    let may = g.G.Gate.may_refuse c.args.site.now.gate.now in
    let tries : ℕ = c.args.site.now.tries in
    let n : ℕ = vec_len c.last_seat-seat.new.seats in
    let number : c.len-number.result ≡ n = search rules in
    let first : SeatValue = c.args.gathering.seat in
    let seat : SeatValue = c.join-seat.result.0 in
    let r = c.join-seat.result.1 in
    let below = c.in_ok-gathering.gathering in
    let end = c.in_ok-gathering.end in
    let promised : Ran b alone may tries c.len-number.result seat r = subst
    (λ (p : Running _ _). Ran p.site.now.board.now (g.T.Tasks.alone p.site.now.tasks.now) (g.G.Gate.may_refuse p.site.now.gate.now) p.site.now.tries p.number seat r)
    c.in-Ok.ensures.ok c.join-seat.ensures in
    let ran : Ran b alone may tries n seat (Ok end) = subst (λ x. Ran b alone may tries n seat x) c.in_ok-gathering.ensures.ok.1
    (subst (λ (m : ℕ). Ran b alone may tries m seat r) number promised) in
    let have : HaveRun b alone tries n first below.seat below.ends.items =
    subst (λ x. IfOk x (λ y. HaveRun b alone tries n first y.seat y.ends.items)) c.in_ok-gathering.ensures.ok.0 c.start_all-below.ensures.ran in
    let ends : List EndNode = c.push_reserved.new.self.items in
    let pushed : below.ends.items ++ end ∷ [] ≡ ends = sym {A = List EndNode} c.push_reserved.ensures.items in
    subst (λ (l : List EndNode). HaveRun b alone tries (vec_len c.args.seats) first c.join.new.seat l) pushed
    (subst (λ (m : ℕ). HaveRun b alone tries m first c.join.new.seat (below.ends.items ++ end ∷ [])) (sym c.last_seat-seat.ensures.count)
    (have_run_more b alone may tries n first below.seat seat c.join.new.seat below.ends.items end have ran c.join.ensures.own c.join.ensures.joined))

-- the last frame is that of the task that is started, and the others are those of the tasks before it
pub start-requires-clause-runs : goal.start-requires-clause-runs
start-requires-clause-runs g t c κs within =
    let P : ℕ → g.row.T-Frame.Denot → Type 0 = λ k frame. g.T.Tasks.starts c.args.site.now.tasks.now k c.args.site.now.board.now.opening frame in
    let count : length c.pop.new.self.items ≡ length c.last_seat-seat.new.seats.items = search rules in
    let number : c.len-number.result ≡ length c.last_seat-seat.new.seats.items = search rules in
    let size : c.len-number.result ≡ 0 + length c.pop.new.self.items = omega (arith, count, number) in
    let starts = AllFrom-last P 0 c.len-number.result c.pop.new.self.items c.in-Some.frame size (subst (AllFrom P 0) c.in-Some.ensures.items c.requires.start) in
    search (rules, starts.1)

pub start_all-below-requires-after_bounds : goal.start_all-below-requires-after_bounds
start_all-below-requires-after_bounds g t c κs within =
    let P : ℕ → g.row.T-Frame.Denot → Type 0 = λ k frame. g.T.Tasks.starts c.args.site.now.tasks.now k c.args.site.now.board.now.opening frame in
    let count : length c.pop.new.self.items ≡ length c.last_seat-seat.new.seats.items = search rules in
    let number : c.len-number.result ≡ length c.last_seat-seat.new.seats.items = search rules in
    let size : c.len-number.result ≡ 0 + length c.pop.new.self.items = omega (arith, count, number) in
    let starts = AllFrom-last P 0 c.len-number.result c.pop.new.self.items c.in-Some.frame size (subst (AllFrom P 0) c.in-Some.ensures.items c.requires.start) in
    record {
      some = c.requires.some;
      own = c.requires.own;
      fresh = c.last_seat-seat.ensures.fresh;
      start = starts.0;
      count = count;
      few = search rules;
      empty = c.requires.empty;
      room = search rules;
    }

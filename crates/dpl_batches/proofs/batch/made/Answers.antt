-- What is kept back and then put is what the turns do one after another; the variables hold the index of the last one.
-- These are the answers to the goals of `made`.
use Rattle.std.proofs.Common.{◌≡◌, ◌≤◌, ◌-◌, suc, ℕ, sym, subst, ap, ◌∙◌, arith, rules}
use Rattle.dpl_array.specs.Elements.{behind}
use Rattle.dpl_memory.specs.Memory.{Memory}
use Rattle.dpl_standing.specs.Standing.{Outside}
use Rattle.dpl_frame.specs.Frames.{Framed}
use Rattle.dpl_readings.specs.Readings.{steps_in}
use Rattle.dpl_loop.specs.Runs.{AreDone}
use Rattle.dpl_elements.specs.Turns.{bound_at, index_turn}
use Rattle.dpl_elements.proofs.RowTurns.{none-done}
use Rattle.dpl_batches.proofs.StoreTurns.{turns-done}
use Rattle.dpl_batches.proofs.Found.{room-alike}
use Rattle.dpl_batches.proofs.batch.made.Goals as goal

pub returns-then-not-has_room-clause-done : goal.returns-then-not-has_room-clause-done
returns-then-not-has_room-clause-done g c w = none-done _ c.args.row c.args.frame.now.memory

pub returns-then-size-eq0-clause-done : goal.returns-then-size-eq0-clause-done
returns-then-size-eq0-clause-done g c w = none-done _ c.args.row c.args.frame.now.memory

pub put_all-requires-clause-room : goal.put_all-requires-clause-room
put_all-requires-clause-room g c =
    room-alike c.args.stores.now c.statements-size.new.stores (c.statements-size.ensures.found Outside).alike (c.are_apart.ensures.room (search rules))

pub returns-clause-done : goal.returns-clause-done
returns-clause-done g c w =
    let f = c.args.frame.now in
    let names = c.args.names.now in
    let row = c.args.row in
    let xs = c.args.stores.now in
    let ys = c.statements-size.new.stores in
    let size = c.statements-size.result in
    let found = c.statements-size.ensures.found w in
    let last : ℕ = size - 1 in
    let some : size ≡ suc last = omega (arith, c.if-size-eq0.false) in
    let cap : size ≤ 64 = omega (arith, c.statements-size.ensures.most, c.min.ensures) in
    let body = steps_in w c.args.body.now in
    let memory =
    ap (λ (f : Framed). f.memory) c.bind.ensures
    ∙ ap (λ t. bound_at names t c.put_all.new.frame.memory) c.behind.ensures
    ∙ ap (λ (f : Framed). bound_at names (behind last row) f.memory) c.in_ok-put_all.ensures.stored in
    subst (λ (m : Memory). AreDone (index_turn f.limits names body) row size f.memory m) (sym memory)
    (turns-done f.limits names body row xs ys size size last f.memory c.statements-size.ensures.apart (c.are_apart.ensures.unmade (search rules)) found (omega arith) cap some)

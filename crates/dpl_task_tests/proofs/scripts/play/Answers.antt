-- `play`: a deed more, a fault, an operation at which the task waits, and the end of the script.
-- By `Playing`.
use Rattle.std.proofs.Common.{rules, ◌≡◌, ℕ, ◌+◌, ◌≤◌, ℤ, List, [], ◌∷◌, ◌++◌, length, drop, refl, sym, subst, arith, w64, to_z, of_z}
use Rattle.std.proofs.lemmas.List.{drop_more}
use Rattle.dpl_syntax.proofs.Walks.{drop-end}
use Rattle.dpl_history.specs.declared.history.Event.{Event}
use Rattle.dpl_history.specs.Histories.{event, of_task}
use Rattle.dpl_language.specs.Outcome.{Ended}
use Rattle.dpl_frame.specs.Faults.{fault_view}
use Rattle.dpl_cell.specs.Seats.{SeatValue}
use Rattle.dpl_cell.proofs.Telling.{KeepsNumbers-trans}
use Rattle.dpl_task.specs.declared.end.TaskEnd.TheVariants as end
use Rattle.dpl_task_tests.specs.declared.scripts.Deed.{Deed}
use Rattle.dpl_task_tests.specs.Scripts.{read_by, HasPlayed}
use Rattle.dpl_task_tests.proofs.Playing.{GoesOn, called-over, goes_on-more, goes_on-end, ends-faulted, ends-waiting, did-one, did-none}
use Rattle.dpl_task_tests.proofs.scripts.play.Goals as goal

pub returns-in-Err-clause-ran : goal.returns-in-Err-clause-ran
returns-in-Err-clause-ran c =
    let cells : ℕ = length c.args.board.now.opening in
    let script : List Deed = c.args.script.now in
    let i : ℕ = c.loop-deed.deed-index in
    let v : ℤ = to_z w64 c.loop-deed.value-bits in
    let es : List Event = of_task c.args.seat.number c.loop-deed.seat.history in
    ends-faulted cells script es _ (drop (i + 1) script) v (fault_view c.in-Err.fault) (called-over _ cells _ v _ c.count.ensures c.in-Err.ensures.err)
    (subst (λ (ds : List Deed). GoesOn cells script es ds v) (drop_more script i _ c.loop-deed-test.true) c.loop-deed.invariant.goes)

pub returns-in_default-clause-ran : goal.returns-in_default-clause-ran
returns-in_default-clause-ran c =
    let cells : ℕ = length c.args.board.now.opening in
    let script : List Deed = c.args.script.now in
    let i : ℕ = c.loop-deed.deed-index in
    let v : ℤ = to_z w64 c.loop-deed.value-bits in
    let x = c.in-Ok.call in
    let es : List Event = of_task c.args.seat.number c.loop-deed.seat.history in
    let same = did-none c.args.tries c.args.board.now c.args.seat c.loop-deed.seat c.op.new.seat x.1 x.2 c.requires.fresh c.loop-deed.invariant.numbers c.in_default.ensures.stuck in
    subst (λ (l : List Event). HasPlayed cells script l (end.Waiting x.0 x.1 x.2)) (sym same)
    (ends-waiting cells script es _ (drop (i + 1) script) v x.0 x.1 x.2 (called-over _ cells _ v _ c.count.ensures c.in-Ok.ensures.ok)
    (subst (λ (ds : List Deed). GoesOn cells script es ds v) (drop_more script i _ c.loop-deed-test.true) c.loop-deed.invariant.goes))

pub loop-deed-preserved : goal.loop-deed-preserved
loop-deed-preserved c =
    let cells : ℕ = length c.args.board.now.opening in
    let script : List Deed = c.args.script.now in
    let i : ℕ = c.loop-deed.deed-index in
    let v : ℤ = to_z w64 c.loop-deed.value-bits in
    let x = c.in-Ok.call in
    let r = c.in-Ok-op.reply in
    let k : ℕ = c.args.seat.number in
    let u : SeatValue = c.loop-deed.seat in
    let w : SeatValue = c.op.new.seat in
    let es : List Event = of_task k u.history in
    let now : to_z w64 (of_z w64 c.read-value.result) ≡ read_by v r = search rules in
    let did = did-one c.args.tries c.args.board.now c.args.seat u w x.1 x.2 r c.requires.fresh c.loop-deed.invariant.numbers c.in-Ok-op.ensures.done in
    let more = goes_on-more cells script es _ (drop (i + 1) script) v k x.0 x.1 x.2 r (called-over _ cells _ v _ c.count.ensures c.in-Ok.ensures.ok)
    (subst (λ (ds : List Deed). GoesOn cells script es ds v) (drop_more script i _ c.loop-deed-test.true) c.loop-deed.invariant.goes) in
    record {
      own = c.op.ensures.own;
      numbers = KeepsNumbers-trans c.args.seat u w c.loop-deed.invariant.numbers c.op.ensures.numbers;
      goes = subst (λ (l : List Event). GoesOn cells script l (drop (i + 1) script) (to_z w64 (of_z w64 c.read-value.result))) (sym did)
          (subst (λ (z : ℤ). GoesOn cells script (es ++ event k x.1 x.2 r ∷ []) (drop (i + 1) script) z) (sym now) more);
    }

pub returns-clause-ran : goal.returns-clause-ran
returns-clause-ran c =
    let cells : ℕ = length c.args.board.now.opening in
    let script : List Deed = c.args.script.now in
    let v : ℤ = to_z w64 c.loop-deed.value-bits in
    let es : List Event = of_task c.args.seat.number c.loop-deed.seat.history in
    let i : ℕ = c.loop-deed.deed-index in
    let past : length script ≤ i = omega arith in
    goes_on-end cells script es [] v Ended refl (subst (λ (ds : List Deed). GoesOn cells script es ds v) (drop-end script i past) c.loop-deed.invariant.goes)

-- `play_together`: each task's frame is the script of its number.
-- By `Playing`.
use Rattle.std.proofs.Common.{rules, ◌≡◌, List, length, sym, ap, subst}
use Rattle.dpl_task.specs.Together.{AllFrom}
use Rattle.dpl_task_tests.specs.declared.scripts.Deed.{Deed}
use Rattle.dpl_task_tests.specs.Scripts.{script_of}
use Rattle.dpl_task_tests.proofs.Playing.{each-its-own}
use Rattle.dpl_task_tests.proofs.scripts.play_together.Goals as goal

pub coforall-requires-clause-starts : goal.coforall-requires-clause-starts
coforall-requires-clause-starts g c κs within =
    let cells : c.len.result ≡ length c.args.cells.items = search rules in
    subst (λ (ys : List (List Deed)). AllFrom (λ k x. (c.len.result ≡ length c.args.cells.items) × (x ≡ script_of ys k)) 0 c.args.all.items) (sym (ap (λ v. v.items) c.of.ensures))
    (each-its-own (c.len.result ≡ length c.args.cells.items) cells c.args.all.items)

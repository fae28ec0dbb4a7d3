-- One slot more is none of those behind it.
use Rattle.std.proofs.Common.{◌≡◌, ◌+◌, ◌==◌, false, drop, get_or, sym, ap, ◌∙◌}
use Rattle.std.proofs.lemmas.List.{take_rest}
use Rattle.std.specs.List.{list_any}
use Rattle.dpl_apart.specs.Rows.{AreOnce}
use Rattle.dpl_workers.proofs.FormedMemories.{once-next, left-next}
use Rattle.dpl_workers.proofs.formed.are_once.Goals as goal

pub loop-k-preserved : goal.loop-k-preserved
loop-k-preserved c =
    let slots = c.args.slots.now in
    let k = c.loop-k.k in
    let none : list_any (λ y. y == get_or slots k 0) (drop (k + 1) slots) ≡ false =
    ap (list_any (λ y. y == get_or slots k 0)) (sym (take_rest slots (k + 1))) ∙ sym c.contains.ensures.value ∙ c.if-contains.false in
    left-next AreOnce slots k 0 c.loop-k-test.true c.loop-k.invariant (once-next (get_or slots k 0) (drop (k + 1) slots) none)

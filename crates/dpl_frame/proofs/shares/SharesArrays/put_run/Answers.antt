-- Words are put into a worker's own array.
use Rattle.std.proofs.Common.{rules, ◌<◌, length, is_some, ap, ◌∙◌}
use Rattle.dpl_array.specs.Elements.{behind, put_in_row}
use Rattle.dpl_memory.specs.Memory.{held_at, held_with}
use Rattle.dpl_frame.proofs.OwnShares.{own-seen, own-put}
use Rattle.dpl_frame.proofs.shares.SharesArrays.put_run.Goals as goal

pub returns-then-slot-len-clause-there : goal.returns-then-slot-len-clause-there
returns-then-slot-len-clause-there c k below =
    let p = c.self.inside in
    let within : c.args.slot < length p.own.items = search rules in
    ap (λ a. is_some (held_at (behind k c.args.row) a)) (own-seen p.own.items p.lent.now c.self.invariant c.args.slot c.args.self.now c.self.view_is c.index_mut.result.now within c.index_mut.ensures.value)
    ∙ c.put_run.ensures.there p.lent.now c.args.slot k below

pub returns-then-slot-len-clause-changes : goal.returns-then-slot-len-clause-changes
returns-then-slot-len-clause-changes c =
    let p = c.self.inside in
    let within : c.args.slot < length p.own.items = search rules in
    own-put p.own.items p.lent.now c.self.invariant c.args.slot c.args.self.now c.self.view_is c.index_mut.result.now within c.index_mut.ensures.value (put_in_row held_with c.args.row c.args.words.now c.put_run.result) c.put_run.new.self (c.put_run.ensures.changes p.lent.now c.args.slot)

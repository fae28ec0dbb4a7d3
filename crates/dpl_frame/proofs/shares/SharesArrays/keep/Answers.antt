-- The array stands in the slot, if that is there.
use Rattle.std.proofs.Common.{rules, ◌<◌, ◌≤◌, length, set, sym, ap, ◌∙◌}
use Rattle.dpl_frame.proofs.OwnShares.{set-past, own-kept}
use Rattle.dpl_frame.proofs.shares.SharesArrays.keep.Goals as goal

pub returns-then-slot-len : goal.returns-then-slot-len
returns-then-slot-len c =
    let p = c.self.inside in
    let within : c.args.slot < length p.own.items = search rules in
    own-kept p.own.items p.lent.now c.self.invariant c.args.slot c.args.self.now c.self.view_is c.index_mut.result.now within c.index_mut.ensures.value c.keep.new.self
    ∙ ap (set c.args.self.now c.args.slot) (c.keep.ensures p.lent.now c.args.slot)

pub returns-else-slot-len : goal.returns-else-slot-len
returns-else-slot-len c =
    let p = c.self.inside in
    let past : length p.own.items ≤ c.args.slot = search rules in
    sym (set-past p.own.items p.lent.now c.self.invariant c.args.slot c.args.self.now c.self.view_is past c.args.array)

-- The array in a slot is the worker's own, or the one that it is lent.
use Rattle.std.proofs.Common.{rules, ◌≡◌, ◌<◌, ◌≤◌, length, get_or, sym, ◌∙◌}
use Rattle.dpl_frame.proofs.OwnShares.{none-past, own-seen}
use Rattle.dpl_frame.proofs.shares.Shares.seen.Goals as goal

pub returns-in-Some : goal.returns-in-Some
returns-in-Some c =
    let p = c.self.inside in
    let s = c.in-Some.share.now in
    let within : c.args.slot < length p.own.items = search rules in
    let is : s ≡ get_or p.own.items c.args.slot s = search rules in
    c.seen.ensures ∙ sym (own-seen p.own.items p.lent.now c.self.invariant c.args.slot c.args.self.now c.self.view_is s within is)

pub returns-in-None : goal.returns-in-None
returns-in-None c =
    let p = c.self.inside in
    let past : length p.own.items ≤ c.args.slot = search rules in
    sym (none-past p.own.items p.lent.now c.self.invariant c.args.slot c.args.self.now c.self.view_is past)

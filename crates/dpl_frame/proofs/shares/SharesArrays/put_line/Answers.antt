-- A word is put into a worker's own array.
use Rattle.std.proofs.Common.{rules, ◌<◌, ◌≤◌, [], ◌∷◌, is_some, length, sym, ap, w64, FitsSigned}
use Rattle.std.proofs.lemmas.Int.{to_z-of_z}
use Rattle.dpl_memory.specs.Memory.{held_at, held_with}
use Rattle.dpl_frame.proofs.OwnShares.{ok-is, ok-then, none-past, set-past, own-seen, own-put}
use Rattle.dpl_frame.proofs.shares.SharesArrays.put_line.Goals as goal

pub returns-then-slot-len-clause-there : goal.returns-then-slot-len-clause-there
returns-then-slot-len-clause-there c =
    let i_fits : FitsSigned w64 c.args.i = c.ranges.i in
    let p = c.self.inside in
    let within : c.args.slot < length p.own.items = search rules in
    let there = simp to_z-of_z at c.put_line.ensures.there in
    ok-is c.put_line.result _ _ (ap (λ a. is_some (held_at (c.args.i ∷ []) a)) (sym (own-seen p.own.items p.lent.now c.self.invariant c.args.slot c.args.self.now c.self.view_is c.index_mut.result.now within c.index_mut.ensures.value))) there

pub returns-then-slot-len-clause-changes : goal.returns-then-slot-len-clause-changes
returns-then-slot-len-clause-changes c =
    let i_fits : FitsSigned w64 c.args.i = c.ranges.i in
    let word_fits : FitsSigned w64 c.args.word = c.ranges.word in
    let p = c.self.inside in
    let within : c.args.slot < length p.own.items = search rules in
    let changes = simp to_z-of_z at c.put_line.ensures.changes in
    ok-then c.put_line.result (own-put p.own.items p.lent.now c.self.invariant c.args.slot c.args.self.now c.self.view_is c.index_mut.result.now within c.index_mut.ensures.value (held_with (c.args.i ∷ []) c.args.word) c.put_line.new.self) changes

pub returns-else-slot-len-clause-there : goal.returns-else-slot-len-clause-there
returns-else-slot-len-clause-there c =
    let p = c.self.inside in
    let past : length p.own.items ≤ c.args.slot = search rules in
    sym (ap (λ a. is_some (held_at (c.args.i ∷ []) a)) (none-past p.own.items p.lent.now c.self.invariant c.args.slot c.args.self.now c.self.view_is past))

pub returns-else-slot-len-clause-changes : goal.returns-else-slot-len-clause-changes
returns-else-slot-len-clause-changes c =
    let p = c.self.inside in
    let past : length p.own.items ≤ c.args.slot = search rules in
    sym (set-past p.own.items p.lent.now c.self.invariant c.args.slot c.args.self.now c.self.view_is past _)

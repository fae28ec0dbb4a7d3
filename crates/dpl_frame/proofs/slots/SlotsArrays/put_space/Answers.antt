-- A word is put into the array of a slot that is there.
use Rattle.std.proofs.Common.{rules, ◌<◌, [], ◌∷◌, is_some, length, sym, ap, ◌∙◌, w64, FitsSigned}
use Rattle.std.proofs.lemmas.Int.{to_z-of_z}
use Rattle.dpl_memory.specs.Memory.{held_at, held_with}
use Rattle.dpl_frame.proofs.EmptySlots.{held-seen, set-seen}
use Rattle.dpl_frame.proofs.slots.SlotsArrays.put_space.Goals as goal

pub returns-then-slot-len-clause-there : goal.returns-then-slot-len-clause-there
returns-then-slot-len-clause-there c =
    let i_fits : FitsSigned w64 c.args.i = c.ranges.i in
    let j_fits : FitsSigned w64 c.args.j = c.ranges.j in
    let k_fits : FitsSigned w64 c.args.k = c.ranges.k in
    let there = simp to_z-of_z at c.put_space_in.ensures.there in
    let within : c.args.slot < length c.self.inside.arrays.items = search rules in
    there ∙ ap (λ a. is_some (held_at (c.args.i ∷ c.args.j ∷ c.args.k ∷ []) a)) (sym (held-seen c.self.inside.arrays.items c.args.slot c.index_mut.result.now c.args.self.now c.self.view_is within c.index_mut.ensures.value))

pub returns-then-slot-len-clause-changes : goal.returns-then-slot-len-clause-changes
returns-then-slot-len-clause-changes c =
    let i_fits : FitsSigned w64 c.args.i = c.ranges.i in
    let j_fits : FitsSigned w64 c.args.j = c.ranges.j in
    let k_fits : FitsSigned w64 c.args.k = c.ranges.k in
    let word_fits : FitsSigned w64 c.args.word = c.ranges.word in
    let changes = simp to_z-of_z at c.put_space_in.ensures.changes in
    let within : c.args.slot < length c.self.inside.arrays.items = search rules in
    set-seen c.self.inside.arrays.items c.args.slot c.index_mut.result.now c.args.self.now c.self.view_is within c.index_mut.ensures.value (held_with (c.args.i ∷ c.args.j ∷ c.args.k ∷ []) c.args.word) c.put_space_in.new.array changes

-- A word is put into the array of a slot that is there.
use Rattle.std.proofs.Common.{rules, ◌<◌, [], ◌∷◌, length, w64, FitsSigned}
use Rattle.std.proofs.lemmas.Int.{to_z-of_z}
use Rattle.dpl_memory.specs.Memory.{held_with}
use Rattle.dpl_frame.proofs.EmptySlots.{set-seen}
use Rattle.dpl_frame.proofs.slots.SlotsArrays.put_plane.Goals as goal

pub returns-then-slot-len-clause-changes : goal.returns-then-slot-len-clause-changes
returns-then-slot-len-clause-changes c =
    let i_fits : FitsSigned w64 c.args.i = c.ranges.i in
    let j_fits : FitsSigned w64 c.args.j = c.ranges.j in
    let word_fits : FitsSigned w64 c.args.word = c.ranges.word in
    let changes = simp to_z-of_z at c.put_plane_in.ensures.changes in
    let within : c.args.slot < length c.self.inside.arrays.items = search rules in
    set-seen c.self.inside.arrays.items c.args.slot c.index_mut.result.now c.args.self.now c.self.view_is within c.index_mut.ensures.value (held_with (c.args.i ∷ c.args.j ∷ []) c.args.word) c.put_plane_in.new.array changes

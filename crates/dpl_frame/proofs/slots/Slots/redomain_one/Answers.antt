-- One array is moved over the domain, and put back.
use Rattle.std.proofs.Common.{rules, ◌≡◌, ◌<◌, true, Some, length, set, get_or, sym, subst, ap, ◌∙◌}
use Rattle.std.proofs.lemmas.List.{length-map}
use Rattle.dpl_memory.specs.Memory.{no_array, held_over, held_over_if, is_among}
use Rattle.dpl_frame.specs.Frames.{held_in}
use Rattle.dpl_frame.proofs.EmptySlots.{held_set, set-taken}
use Rattle.dpl_frame.proofs.slots.Slots.redomain_one.Goals as goal

pub returns-in_ok-array : goal.returns-in_ok-array
returns-in_ok-array c =
    let xs = c.self.inside.arrays.items in
    let now = c.args.self.now in
    let within : c.args.k < length xs = subst (λ n. c.args.k < n) (length-map xs held_in) (subst (λ hs. c.args.k < length hs) (sym c.self.view_is) c.requires.within) in
    let among : is_among c.args.k c.args.slots.now ≡ true = search rules in
    let moved : c.in_ok-array.array ≡ held_over c.args.domain (held_in c.index_mut.result.now) = search rules in
    c.keep.ensures
    ∙ sym (held_set _ c.args.k (Some c.in_ok-array.array))
    ∙ set-taken xs c.args.k c.index_mut.result.now now c.self.view_is within c.index_mut.ensures.value (held_over c.args.domain) c.take-array.new.self (Some c.in_ok-array.array) moved
    ∙ ap (λ b. set now c.args.k (held_over_if b c.args.domain (get_or now c.args.k no_array))) (sym among)

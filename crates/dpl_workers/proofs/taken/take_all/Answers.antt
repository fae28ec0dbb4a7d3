-- The next array is taken apart, and then those that are left.
use Rattle.std.proofs.Common.{◌≡◌, ◌+◌, ◌++◌, List, [], ◌∷◌, ℕ, drop, get_or, sym, subst, ap, ◌∙◌}
use Rattle.std.proofs.lemmas.List.{drop_more}
use Rattle.dpl_memory.specs.Memory.{array_at}
use Rattle.dpl_contents.specs.Parted.{Parted, parted}
use Rattle.dpl_apart.specs.Rows.{AreOnce}
use Rattle.dpl_frame.specs.Frames.{Framed, with_memory}
use Rattle.dpl_workers.specs.declared.taken.Taken.{Taken}
use Rattle.dpl_workers.specs.Taken.{emptied, all_taken}
use Rattle.dpl_workers.proofs.TakenApart.{taken-next}
use Rattle.dpl_workers.proofs.taken.take_all.Goals as goal

pub loop-slot-preserved : goal.loop-slot-preserved
loop-slot-preserved c =
    let at = c.loop-slot in
    let slots = c.args.slots.now in
    let slot = get_or slots at.slot-index 0 in
    let rest = drop (at.slot-index + 1) slots in
    let axes = c.args.map.now in
    let m = at.frame.memory in
    let split = drop_more slots at.slot-index 0 c.loop-slot-test.true in
    let once : AreOnce (slot ∷ rest) = subst AreOnce split at.invariant.once in
    let left = c.take_array.ensures.leaves in
    let cut : c.in-Ok.pieces ≡ parted axes (array_at slot m) = c.in-Ok.ensures.pieces ∙ ap (parted axes) c.in-Some.ensures.array in
    let t : Taken = record { slot = slot; pieces = c.in-Ok.pieces } in record {
      once = once.1;
      memory =
          ap (λ (f : Framed). with_memory (emptied rest f.memory) f) left ∙ ap (λ (ss : List ℕ). with_memory (emptied ss m) at.frame) (sym split) ∙ at.invariant.memory;
      limits = ap (λ (f : Framed). f.limits) left ∙ at.invariant.limits;
      taken =
          ap (λ (ts : List Taken). ts ++ all_taken axes c.take_array.new.self.memory rest) c.in_ok-push.ensures.items
          ∙ ap (λ (f : Framed). (at.taken.items ++ t ∷ []) ++ all_taken axes f.memory rest) left
          ∙ taken-next axes m slot rest at.taken.items t once (ap (λ (p : Parted). record { slot = slot; pieces = p }) cut)
          ∙ ap (λ (ss : List ℕ). at.taken.items ++ all_taken axes m ss) (sym split)
          ∙ at.invariant.taken;
    }

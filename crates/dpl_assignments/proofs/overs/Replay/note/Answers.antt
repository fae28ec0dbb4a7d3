-- An array over the domain is found behind those of its scope; anything else changes nothing.
use Rattle.std.proofs.Common.{rules, ◌≡◌, true, false, Some, sym, ap, ◌∙◌}
use Rattle.std.specs.Prelude.{insert}
use Rattle.dpl_scopes.specs.Types.{of_type}
use Rattle.dpl_scopes.specs.View.{declared_view}
use Rattle.dpl_typed.specs.Leaves.{kind_by, leaf_by}
use Rattle.dpl_typed.proofs.Standing.{on_both}
use Rattle.dpl_assignments.proofs.FoundArrays.{found-array, found-other}
use Rattle.dpl_assignments.proofs.overs.Replay.note.Goals as goal

pub returns-then-is_over-clause-found : goal.returns-then-is_over-clause-found
returns-then-is_over-clause-found c =
    let old = c.args.self.now in
    let d = c.args.declared in
    let is : c.is_over.result ≡ true = search rules in
    let slot = c.slot_of-found.ensures ∙ ap (λ n. (leaf_by (kind_by (of_type d.value_type)) (Some n)).slot) c.next_slot.ensures in
    on_both c.find.result
    (λ slots inner. found-array c.args.slot old.before (declared_view d) old.slots.items old.inner c.requires (sym c.is_over.ensures ∙ is) c.find.new.self.slots.items c.find.new.self.inner (slots ∙ ap (insert old.slots.items old.inner) slot) inner)
    c.find.ensures.slots c.find.ensures.inner

pub returns-else-is_over-clause-found : goal.returns-else-is_over-clause-found
returns-else-is_over-clause-found c =
    let old = c.args.self.now in
    let is : c.is_over.result ≡ false = search rules in
    found-other c.args.slot old.before (declared_view c.args.declared) old.slots.items old.inner c.requires (sym c.is_over.ensures ∙ is)

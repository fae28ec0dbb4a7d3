-- The room for the mark was there before the map changed, so that the two change together.
use Rattle.std.proofs.Common.{◌≡◌, ◌∙◌, refl, ap, sym, subst, [], ◌∷◌, ◌++◌, length, max, Some, arith}
use Rattle.std.specs.Option.{option_flatten}
use Rattle.std.specs.Prelude.{if◌then◌else◌}
use Rattle.indexmap.specs.IndexMap.{Updates}
use Rattle.dpl_scopes.specs.declared.scopes.Entry.{Entry}
use Rattle.dpl_scopes.specs.declared.scopes.Mark.TheVariants.{Declares}
use Rattle.dpl_scopes.specs.Slots.{next_slot_in}
use Rattle.dpl_scopes.specs.Kept.{same_text, IsKept}
use Rattle.dpl_scopes.proofs.Places.{IsKept-declared}
use Rattle.dpl_scopes.proofs.scopes.Scopes.declare.Goals as goal

pub invariant_of-self-2 : goal.invariant_of-self-2
invariant_of-self-2 c =
    let was = c.self.inside in
    let e : Entry =
    record {
      declared = record { origin = record { name = c.args.name; depth = was.depth }; sort = c.args.sort; value_type = c.args.value_type; slot = c.next_slot-slot.result };
      hidden = c.flatten-hidden.result;
    } in
    let place : c.len.result ≡ length was.marks.items = omega (arith, c.len.ensures, c.reserve.ensures.len, was.marks.ok) in
    let room = c.reserve.new.self.items in
    let done = c.push.ensures.succeeds (omega (arith, c.in_ok-reserve.ensures.ok)) in
    let pushed : c.push.new.self.items ≡ was.marks.items ++ Declares e ∷ [] =
    c.push.ensures.items ∙ ap (λ t. if t then room ++ Declares e ∷ [] else room) done ∙ ap (λ ms. ms ++ Declares e ∷ []) c.reserve.ensures.items in
    let hides = c.flatten-hidden.ensures ∙ ap option_flatten c.in_ok-insert.ensures.old in
    let written = subst (λ n. Updates same_text was.places c.insert.new.self c.args.name (Some (Some n))) place c.in_ok-insert.ensures.updates in
    let slot = c.next_slot-slot.ensures ∙ ap next_slot_in (sym c.self.view_is) in
    let kept = IsKept-declared was.marks.items was.places c.insert.new.self was.depth e c.self.invariant refl slot hides written in
    subst (IsKept c.push.new.self.items c.insert.new.self) (sym c.max-self-inside.ensures)
    (subst (λ ms. IsKept ms c.insert.new.self (max was.depth 1)) (sym pushed) kept)

-- What breaks no rule is given to the element, which takes it.
-- What the declaration of its array's name tells is known of what the look-up answered.
use Rattle.std.proofs.Common.{map, ap}
use Rattle.std.specs.Prelude.{option_map}
use Rattle.dpl_tree.specs.View.{item_view}
use Rattle.dpl_tree.specs.Statements.{sign_view}
use Rattle.dpl_scopes.specs.Types.{of_type}
use Rattle.dpl_scopes.specs.View.{declared_view, IsSighted}
use Rattle.dpl_deeds.specs.View.{deed_view}
use Rattle.dpl_typed.proofs.Standing.{if_ok, on_any}
use Rattle.dpl_assignments.proofs.Judged.{element-given}
use Rattle.dpl_assignments.proofs.Parts.{element-told, element-done}
use Rattle.dpl_assignments.proofs.Steps.{element-step}
use Rattle.dpl_assignments.proofs.assignment.to_element.Goals as goal

pub returns-clause-told : goal.returns-clause-told
returns-clause-told c =
    let sighted : IsSighted c.args.scopes.now c.args.target.now.name.text.now c.lookup-declared.result = (c.lookup-declared.ensures.declared, c.lookup-declared.ensures.slot) in
    let judged = c.in-Ok.ensures.told sighted in
    on_any c.given_to_element.result
    (element-told c.args.scopes.now c.args.target.now (sign_view c.args.written.now.sign) (item_view c.args.written.now.value) c.lookup-declared.result c.in-Ok.found c.in-Ok-side.part
    (of_type c.element_type-target_type.result) c.args.first.now c.written_name.new.first c.element.new.first c.side.new.first c.fitting.new.first
    c.lookup-declared.ensures.declared c.element_type-target_type.ensures judged.0 c.in-Ok-side.ensures.told.0 c.written_name.ensures judged.1 c.in-Ok-side.ensures.told.1 c.fitting.ensures)

pub returns-clause-node : goal.returns-clause-node
returns-clause-node c =
    let ss = c.args.scopes.now in
    let e = c.args.target.now in
    let sign = sign_view c.args.written.now.sign in
    let item = item_view c.args.written.now.value in
    let found = c.in-Ok.found in
    let part = c.in-Ok-side.part in
    let sighted : IsSighted c.args.scopes.now c.args.target.now.name.text.now c.lookup-declared.result = (c.lookup-declared.ensures.declared, c.lookup-declared.ensures.slot) in
    let judged = c.in-Ok.ensures.told sighted in
    if_ok c.given_to_element.result
    (λ step h. λ none plain.
    let g = element-given ss e sign item part.at found (of_type c.element_type-target_type.result) part.found c.written_name.new.first c.element.new.first c.side.new.first c.fitting.new.first
    c.element_type-target_type.ensures judged.0 judged.1 (ap (λ p. p.type) c.in-Ok-side.ensures.told.0) c.in-Ok-side.ensures.told.1 c.fitting.ensures none plain in
    element-step ss e sign item c.args.written.now.semicolon found part.found g step (c.in-Ok.ensures.node sighted plain.0.found plain.0.named plain.1 plain.2)
    (c.in-Ok-side.ensures.node plain.0.simple plain.0.near) (h g.element g.value g.there g.is g.scalar g.takes plain.0.signed))
    c.given_to_element.ensures

pub returns-clause-deeds : goal.returns-clause-deeds
returns-clause-deeds c =
    on_any c.given_to_element.result
    (element-done c.args.scopes.now c.args.target.now c.args.written.now.sign.op (item_view c.args.written.now.value) (option_map declared_view c.lookup-declared.result)
    (map deed_view c.args.deeds.now.items) (map deed_view c.element.new.deeds.items) (map deed_view c.side.new.deeds.items) (map deed_view c.element_written.new.deeds.items)
    c.lookup-declared.ensures.declared c.in-Ok.ensures.deeds c.in-Ok-side.ensures.deeds c.in-Ok-element_written.ensures)

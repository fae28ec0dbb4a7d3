-- What breaks no rule is given to the name, which takes it.
-- Whether it may be promoted is told by what the right side did.
use Rattle.std.proofs.Common.{rules, ◌≡◌, length, map, drop, ap, ◌∙◌}
use Rattle.std.specs.Prelude.{option_map}
use Rattle.dpl_tree.specs.View.{name_view, item_view}
use Rattle.dpl_tree.specs.Statements.{sign_view}
use Rattle.dpl_rules.specs.Sights.{type_declared}
use Rattle.dpl_scopes.specs.Types.{of_type}
use Rattle.dpl_scopes.specs.View.{declared_view}
use Rattle.dpl_deeds.specs.View.{deed_view}
use Rattle.dpl_bodies.specs.Promoted.{promoted_by}
use Rattle.dpl_typed.proofs.Standing.{if_ok, on_any}
use Rattle.dpl_assignments.specs.Around.{reducing_view}
use Rattle.dpl_assignments.proofs.Judged.{name-given}
use Rattle.dpl_assignments.proofs.Parts.{promoted-told, name-told, name-done, told-before}
use Rattle.dpl_assignments.proofs.Steps.{name-step}
use Rattle.dpl_assignments.proofs.assignment.to_name.Goals as goal

pub returns-clause-told : goal.returns-clause-told
returns-clause-told c =
    let ss = c.args.scopes.now in
    let x = name_view c.args.name.now in
    let item = item_view c.args.written.now.value in
    let found = c.lookup-declared.ensures in
    let part = c.in-Ok.part in
    let before = c.args.deeds.now.items in
    let counted : c.len-start.result ≡ length before = search rules in
    on_any c.given_to_name.result
    (name-told ss x (sign_view c.args.written.now.sign) item (option_map reducing_view c.args.around.now) c.lookup-declared.result part c.may_reduce-may_reduce.result (of_type c.type_in-target.result)
    c.args.first.now c.written_name.new.first c.side.new.first c.fitting.new.first c.promoted_breaches.new.first
    found.declared c.may_reduce-may_reduce.ensures c.type_in-target.ensures c.in-Ok.ensures.told.0 c.written_name.ensures c.in-Ok.ensures.told.1 c.fitting.ensures
    (promoted-told ss x item c.lookup-declared.result c.is_promoted-promoted.result part before c.side.new.deeds.items c.behind.result.now c.fitting.new.first c.promoted_breaches.new.first
    found.declared c.is_promoted-promoted.ensures c.in-Ok.ensures.told.0 c.in-Ok.ensures.deeds
    (c.behind.ensures ∙ ap (λ n. drop n c.as_slice.result.now) counted ∙ ap (drop (length before)) c.as_slice.ensures.value) c.promoted_breaches.ensures))

pub returns-clause-node : goal.returns-clause-node
returns-clause-node c =
    let ss = c.args.scopes.now in
    let x = name_view c.args.name.now in
    let sign = sign_view c.args.written.now.sign in
    let item = item_view c.args.written.now.value in
    let part = c.in-Ok.part in
    let found = c.lookup-declared.ensures in
    let declared = ap type_declared found.declared in
    if_ok c.given_to_name.result
    (λ step h. λ none plain.
    let g = name-given ss x sign item c.may_reduce-may_reduce.result part.at part.found (of_type c.type_in-target.result) c.written_name.new.first c.side.new.first c.fitting.new.first
    (c.type_in-target.ensures ∙ declared) (ap (λ p. p.type) c.in-Ok.ensures.told.0) c.in-Ok.ensures.told.1 c.fitting.ensures
    (told-before c.fitting.new.first c.promoted_breaches.new.first (promoted_by (option_map declared_view c.lookup-declared.result) c.is_promoted-promoted.result (map deed_view c.behind.result.now)) c.promoted_breaches.ensures none) plain in
    name-step ss x sign item c.args.written.now.semicolon part.found g step (c.in-Ok.ensures.node plain.0.simple plain.0.near)
    (h g.type g.value g.kind g.slot (declared ∙ g.declared) g.is g.of_kind (found.slot ∙ g.at) g.takes plain.0.signed plain.0.named))
    c.given_to_name.ensures

pub returns-clause-deeds : goal.returns-clause-deeds
returns-clause-deeds c =
    on_any c.given_to_name.result
    (name-done c.args.scopes.now (name_view c.args.name.now) c.args.written.now.sign.op (item_view c.args.written.now.value) (option_map declared_view c.lookup-declared.result)
    (map deed_view c.args.deeds.now.items) (map deed_view c.side.new.deeds.items) (map deed_view c.name_written.new.deeds.items)
    c.lookup-declared.ensures.declared c.in-Ok.ensures.deeds c.in-Ok-name_written.ensures)

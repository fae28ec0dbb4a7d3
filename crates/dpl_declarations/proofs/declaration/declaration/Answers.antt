-- What is told apart is what the declaration owes; where nothing was told, the step stands for it.
-- The name is new, and has the type that was found.
use Rattle.std.proofs.Common.{not, ◌++◌, None, map, sym, ap, ◌∙◌, append_assoc}
use Rattle.dpl_syntax.specs.declared.refusal.Code.TheVariants.{NameTwice}
use Rattle.dpl_tree.specs.Declarations.{declare_view}
use Rattle.dpl_language.specs.Declarations.{type_of as written_type}
use Rattle.dpl_rules.specs.Deeds.{ADeclaration, held_if}
use Rattle.dpl_rules.specs.Doings.{is_apart, type_deeds, initial_deeds}
use Rattle.dpl_rules.specs.Places.{first_of_declaration}
use Rattle.dpl_rules.specs.Verdicts.{owed}
use Rattle.dpl_rules.specs.Sights.{declared_here, origin_in}
use Rattle.dpl_rules.specs.Breaches.{least_from, or_lesser}
use Rattle.dpl_rules.specs.Declarations.{written_breaches, config_breaches, declaration_breaches}
use Rattle.dpl_types.proofs.Breaches.{least_from_append}
use Rattle.dpl_deeds.specs.View.{deed_view}
use Rattle.dpl_deeds.proofs.Steps.{added_then}
use Rattle.dpl_declarations.specs.Apart.{apart_as}
use Rattle.dpl_declarations.proofs.Apart.{told_apart}
use Rattle.dpl_declarations.proofs.FoundTypes.{apart_found}
use Rattle.dpl_declarations.proofs.Whole.{declared-node, declared-known}
use Rattle.dpl_declarations.proofs.declaration.declaration.Goals as goal

pub returns-clause-told : goal.returns-clause-told
returns-clause-told c =
    let scopes = c.args.scopes.now in
    let d = declare_view c.args.written.now in
    let twice = owed (not (declared_here scopes d.name.name)) d.name.at NameTwice in
    let written = written_breaches scopes (origin_in scopes d.name.name) (written_type d.typed) d.initial in
    let config = config_breaches scopes d.config d in
    let here = ap (λ b. least_from None (owed (not b) d.name.at NameTwice)) c.declared_here.ensures in
    c.tell.ensures
    ∙ ap (or_lesser c.args.first.now) (c.in-Ok.ensures.told.1
    ∙ ap (λ o. least_from o (written ++ config)) (c.owed.ensures.1 ∙ here)
    ∙ sym (least_from_append None twice (written ++ config)) ∙ ap (least_from None) (sym (append_assoc twice written config)))
    ∙ told_apart c.args.first.now (declaration_breaches scopes d)

pub returns-clause-node : goal.returns-clause-node
returns-clause-node c = λ none plain.
    let d = declare_view c.args.written.now in
    let here = ap (λ b. least_from None (owed (not b) d.name.at NameTwice)) c.declared_here.ensures in
    declared-node c.args.scopes.now d c.in-Ok.found c.args.first.now c.owed.new.first c.name.new.first (c.owed.ensures.1 ∙ here) c.in-Ok.ensures.told c.in-Ok.ensures.node (sym c.tell.ensures ∙ none) plain

pub returns-clause-known : goal.returns-clause-known
returns-clause-known c = λ none plain.
    let d = declare_view c.args.written.now in
    let here = ap (λ b. least_from None (owed (not b) d.name.at NameTwice)) c.declared_here.ensures in
    declared-known c.args.scopes.now d c.in-Ok.found c.args.first.now c.owed.new.first c.name.new.first (c.owed.ensures.1 ∙ here) c.in-Ok.ensures.told c.in-Ok.ensures.node (sym c.tell.ensures ∙ none) plain

pub returns-clause-deeds : goal.returns-clause-deeds
returns-clause-deeds c =
    let scopes = c.args.scopes.now in
    let d = declare_view c.args.written.now in
    let types = type_deeds scopes (written_type d.typed) in
    let initial = initial_deeds scopes d.initial in
    let apart = held_if (is_apart scopes (written_type d.typed) d.initial) (first_of_declaration d) ADeclaration in
    let before = map deed_view c.args.deeds.now.items in
    let behind = map deed_view c.name.new.deeds.items in
    let holds =
    c.declares_apart-is_apart.ensures
    ∙ ap (apart_as (written_type d.typed) d.initial) c.in-Ok.ensures.told.0
    ∙ apart_found scopes (origin_in scopes d.name.name) (written_type d.typed) d.initial in
    c.in-Ok-held_if.ensures
    ∙ ap (λ b. behind ++ held_if b c.first_of.result ADeclaration) holds
    ∙ ap (λ at. behind ++ held_if (is_apart scopes (written_type d.typed) d.initial) at ADeclaration) c.first_of.ensures
    ∙ added_then before behind (types ++ initial) apart c.in-Ok.ensures.deeds

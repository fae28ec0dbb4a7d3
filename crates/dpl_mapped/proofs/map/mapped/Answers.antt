-- What is told of a map, and then of the reductions in its arguments; where nothing is, the map is made.
use Rattle.std.proofs.Common.{◌≡◌, length, map, drop, Some, None, sym, ap, subst, ◌∙◌, arith}
use Rattle.dpl_tree.specs.Declarations.{optional, map_view as map_tree, mapped_view}
use Rattle.dpl_rules.specs.Breaches.{least_from}
use Rattle.dpl_rules.specs.Deeds.{map_deeds}
use Rattle.dpl_rules.specs.Maps.{map_breaches, mapped_breaches}
use Rattle.dpl_nodes.specs.Steps.{map_view}
use Rattle.dpl_deeds.specs.View.{deed_view}
use Rattle.dpl_mapped.specs.Named.{IsPlainMapped, IsMappedAs}
use Rattle.dpl_mapped.specs.Made.{IsMapAs}
use Rattle.dpl_mapped.proofs.Inner.{inner-told, before-inner}
use Rattle.dpl_mapped.proofs.map.mapped.Goals as goal

pub returns-in_default-made-clause-told : goal.returns-in_default-made-clause-told
returns-in_default-made-clause-told c =
    let ss = c.args.scopes.now in
    let m = map_tree c.in-Some.mapped.map in
    let old = c.args.deeds.now.items in
    let start = c.len-start.result in
    let count : start ≡ length old = omega (arith, c.len-start.ensures, c.args.deeds.now.ok) in
    subst (λ w. c.inner_reductions.new.first ≡ least_from c.args.first.now (mapped_breaches ss c.args.rank (optional mapped_view w))) (sym c.in-Some.is)
    (inner-told old c.map.new.deeds.items c.behind.result.now start (map_deeds ss m) (map_breaches ss c.args.rank m) c.args.first.now c.map.new.first c.inner_reductions.new.first
    c.in-Ok.ensures.deeds (c.behind.ensures ∙ ap (drop start) c.as_slice.ensures.value) count c.in-Ok.ensures.told c.inner_reductions.ensures)

pub returns-in_default-made-clause-node : goal.returns-in_default-made-clause-node
returns-in_default-made-clause-node c = λ none plain.
    let ss = c.args.scopes.now in
    let m = map_tree c.in-Some.mapped.map in
    let before = before-inner (map deed_view c.behind.result.now) c.map.new.first c.inner_reductions.new.first c.inner_reductions.ensures none in
    let here = subst (λ w. IsPlainMapped ss c.args.rank (optional mapped_view w)) c.in-Some.is plain in
    subst (λ w. IsMappedAs ss (optional mapped_view w) None) (sym c.in-Some.is) (subst (IsMapAs ss m) c.in_default-made.is (c.in-Ok.ensures.node before here))

pub returns-in-Ok-node-clause-told : goal.returns-in-Ok-node-clause-told
returns-in-Ok-node-clause-told c =
    let ss = c.args.scopes.now in
    let m = map_tree c.in-Some.mapped.map in
    let old = c.args.deeds.now.items in
    let start = c.len-start.result in
    let count : start ≡ length old = omega (arith, c.len-start.ensures, c.args.deeds.now.ok) in
    subst (λ w. c.inner_reductions.new.first ≡ least_from c.args.first.now (mapped_breaches ss c.args.rank (optional mapped_view w))) (sym c.in-Some.is)
    (inner-told old c.map.new.deeds.items c.behind.result.now start (map_deeds ss m) (map_breaches ss c.args.rank m) c.args.first.now c.map.new.first c.inner_reductions.new.first
    c.in-Ok.ensures.deeds (c.behind.ensures ∙ ap (drop start) c.as_slice.ensures.value) count c.in-Ok.ensures.told c.inner_reductions.ensures)

pub returns-in-Ok-node-clause-node : goal.returns-in-Ok-node-clause-node
returns-in-Ok-node-clause-node c = λ none plain.
    let ss = c.args.scopes.now in
    let m = map_tree c.in-Some.mapped.map in
    let before = before-inner (map deed_view c.behind.result.now) c.map.new.first c.inner_reductions.new.first c.inner_reductions.ensures none in
    let here = subst (λ w. IsPlainMapped ss c.args.rank (optional mapped_view w)) c.in-Some.is plain in
    subst (λ w. IsMappedAs ss (optional mapped_view w) (Some c.in-Ok-node.here)) (sym c.in-Some.is)
    (ap map_view c.in-Ok-node.ensures ∙ subst (IsMapAs ss m) c.in-Some-made.is (c.in-Ok.ensures.node before here))

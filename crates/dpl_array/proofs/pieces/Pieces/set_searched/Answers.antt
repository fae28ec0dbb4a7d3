-- The piece of the owner is written.
-- These are the answers to the goals of `Pieces::set_searched`.
use Rattle.std.proofs.Common.{◌≡◌, ap, sym, ◌∙◌, None, Some, map, slice_set, slice_index_or, ◌<◌, length, arith}
use Rattle.std.specs.Option.{option_map}
use Rattle.std.proofs.lemmas.List.{map-set, get_or_read}
use Rattle.std.proofs.lemmas.Option.{same_Some}
use Rattle.dpl_map.specs.Maps.{owner, locales}
use Rattle.dpl_array.specs.Elements.{with_value}
use Rattle.dpl_array.specs.Arrays.{with_slot}
use Rattle.dpl_array.specs.PiecesFields.{slot_of}
use Rattle.dpl_array.proofs.HeldLemmas.{held-set, held-with, slot-at}
use Rattle.dpl_array.proofs.pieces.Pieces.set_searched.Goals as goal

pub invariant_of-self-2 : goal.invariant_of-self-2
invariant_of-self-2 g c =
    let p = c.self.inside in
    let o = c.seat-owner.result in
    let map_is : locales p.map ≡ locales c.args.self.now.map = ap (λ q. locales q.map) c.self.view_is in
    let within : o < length p.held.items = omega (arith, c.seat-owner.ensures.below, c.self.invariant.long, map_is) in
    let there = sym (get_or_read p.held.items o c.index_mut.result.now within c.index_mut.ensures.value None) ∙ c.in-Some.is in
    held-set p.domain p.map p.held.items c.self.invariant o (Some c.set.new.self)
    (λ q is. held-with p.domain p.map p.held.items c.self.invariant o c.in-Some.piece there c.args.index c.args.value q (sym (same_Some c.set.new.self q is) ∙ c.set.ensures.changes))

pub returns-clause-changes : goal.returns-clause-changes
returns-clause-changes g c =
    let p = c.self.inside in
    let o = c.seat-owner.result in
    let t = c.args.index in
    let v = c.args.value in
    let slots = map slot_of p.held.items in
    let map_is : locales p.map ≡ locales c.args.self.now.map = ap (λ q. locales q.map) c.self.view_is in
    let within : o < length p.held.items = omega (arith, c.seat-owner.ensures.below, c.self.invariant.long, map_is) in
    let there = sym (get_or_read p.held.items o c.index_mut.result.now within c.index_mut.ensures.value None) ∙ c.in-Some.is in
    let slot = slot-at p.held.items o ∙ ap slot_of there in
    let written = ap (λ q. Some q.elements) c.set.ensures.changes ∙ ap (option_map (with_value t v)) (sym slot) in
    ap (λ ss. record { domain = p.domain; map = p.map; slots = ss }) (map-set slot_of p.held.items o (Some c.set.new.self) ∙ ap (slice_set slots o) written)
    ∙ ap (λ l. record { domain = p.domain; map = p.map; slots = slice_set slots l (option_map (with_value t v) (slice_index_or slots l None)) }) (c.seat-owner.ensures.owner ∙ ap (λ q. owner q.map t) (sym c.self.view_is))
    ∙ ap (λ ps. with_slot ps (owner ps.map t) (option_map (with_value t v) (slice_index_or ps.slots (owner ps.map t) None))) c.self.view_is

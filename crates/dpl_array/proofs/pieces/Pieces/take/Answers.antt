-- The place of a locale is emptied.
-- These are the answers to the goals of `Pieces::take`.
use Rattle.std.proofs.Common.{ap, sym, ◌∙◌, None, map, slice_set, arith, refl}
use Rattle.std.proofs.lemmas.List.{map-set, get_or_read}
use Rattle.std.proofs.lemmas.Option.{none-some}
use Rattle.dpl_array.specs.Arrays.{piece_in, with_slot}
use Rattle.dpl_array.specs.PiecesFields.{slot_of}
use Rattle.dpl_array.proofs.HeldLemmas.{held-set, held-piece}
use Rattle.dpl_array.proofs.pieces.Pieces.take.Goals as goal

pub invariant_of-self-2 : goal.invariant_of-self-2
invariant_of-self-2 g c =
    let p = c.self.inside in
    held-set p.domain p.map p.held.items c.self.invariant c.args.locale c.take.new.self (λ q there. absurd (none-some q (sym c.take.ensures.after ∙ there)))

pub returns-clause-piece : goal.returns-clause-piece
returns-clause-piece g c =
    let p = c.self.inside in
    let within = c.in_ok-get_mut.ensures.variant.0 refl in
    let there = get_or_read p.held.items c.args.locale c.in_ok-get_mut.field-0.now (omega (arith, within)) c.in_ok-get_mut.ensures.value None in
    c.take.ensures.value ∙ held-piece p.domain p.map p.held.items c.self.invariant c.args.locale c.in_ok-get_mut.field-0.now (sym there) ∙ ap (λ ps. piece_in ps c.args.locale) c.self.view_is

pub returns-clause-leaves : goal.returns-clause-leaves
returns-clause-leaves g c =
    let p = c.self.inside in
    ap (λ ss. record { domain = p.domain; map = p.map; slots = ss }) (map-set slot_of p.held.items c.args.locale c.take.new.self ∙ ap (λ o. slice_set (map slot_of p.held.items) c.args.locale (slot_of o)) c.take.ensures.after)
    ∙ ap (λ ps. with_slot ps c.args.locale None) c.self.view_is

-- The piece is put into the free place of its locale.
-- These are the answers to the goals of `Pieces::put`.
use Rattle.std.proofs.Common.{◌≡◌, ap, sym, ◌∙◌, None, Some, map, slice_get, slice_set, arith, refl, subst}
use Rattle.std.proofs.lemmas.List.{length-map, map-set}
use Rattle.std.proofs.lemmas.Option.{same_Some, slice_get_within}
use Rattle.dpl_sets.specs.TextDomains.{SameDomain}
use Rattle.dpl_array.specs.Arrays.{with_slot}
use Rattle.dpl_array.specs.PiecesFields.{slot_of}
use Rattle.dpl_array.specs.Same.{texts_of}
use Rattle.dpl_array.proofs.HeldLemmas.{held-set, put-fits}
use Rattle.dpl_array.proofs.SameLemmas.{same-indices}
use Rattle.dpl_array.proofs.pieces.Pieces.put.Goals as goal

pub over-requires : goal.over-requires
over-requires g c =
    let takes = c.if-not-takes.ensures.0 refl in
    let same : SameDomain (texts_of c.args.piece.domain) (texts_of c.self.inside.domain) = subst (λ ps. SameDomain (texts_of c.args.piece.domain) (texts_of ps.domain)) (sym c.self.view_is) takes.0 in
    sym (same-indices c.args.piece.domain c.self.inside.domain same)

pub index_mut-requires : goal.index_mut-requires
index_mut-requires g c =
    let held = c.self.inside.held.items in
    let l = c.locale-locale.result in
    let free = ap (λ ps. slice_get ps.slots l) c.self.view_is ∙ ap (slice_get c.args.self.now.slots) c.locale-locale.ensures.locale ∙ (c.if-not-takes.ensures.0 refl).2 in
    let within = slice_get_within (map slot_of held) l None free in
    omega (arith, within, length-map held slot_of)

pub invariant_of-self : goal.invariant_of-self
invariant_of-self g c =
    let p = c.self.inside in
    let takes = c.if-not-takes.ensures.0 refl in
    let same : SameDomain (texts_of c.args.piece.domain) (texts_of p.domain) = subst (λ ps. SameDomain (texts_of c.args.piece.domain) (texts_of ps.domain)) (sym c.self.view_is) takes.0 in
    let maps : p.map ≡ c.args.piece.map = ap (λ ps. ps.map) c.self.view_is ∙ sym takes.1 in
    held-set p.domain p.map p.held.items c.self.invariant c.locale-locale.result (Some c.over.result)
    (λ q is. put-fits p.domain p.map c.locale-locale.result c.args.piece q (sym (same-indices c.args.piece.domain p.domain same)) maps c.locale-locale.ensures.locale c.locale-locale.ensures.over (sym (same_Some c.over.result q is) ∙ c.over.ensures))

pub returns-clause-fits : goal.returns-clause-fits
returns-clause-fits g c = ((λ ok. c.if-not-takes.ensures.0 refl), (λ fits. refl))

pub returns-clause-put : goal.returns-clause-put
returns-clause-put g c =
    let p = c.self.inside in
    let put = map-set slot_of p.held.items c.locale-locale.result (Some c.over.result) ∙ ap (λ q. slice_set (map slot_of p.held.items) c.locale-locale.result (Some q.elements)) c.over.ensures in
    ap (λ ss. record { domain = p.domain; map = p.map; slots = ss }) put
    ∙ ap (λ ps. with_slot ps c.locale-locale.result (Some c.args.piece.elements)) c.self.view_is
    ∙ ap (λ l. with_slot c.args.self.now l (Some c.args.piece.elements)) c.locale-locale.ensures.locale

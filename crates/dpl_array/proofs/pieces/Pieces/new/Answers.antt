-- One piece for each locale.
-- These are the answers to the goals of `Pieces::new`.
use Rattle.std.proofs.Common.{◌≡◌, ◌+◌, ap, ◌∙◌, length, arith, Some}
use Rattle.std.proofs.lemmas.List.{length_push}
use Rattle.dpl_map.specs.Maps.{locales}
use Rattle.dpl_array.proofs.HeldLemmas.{held-formed, new-held, new-slots, piece_filled, places-push}
use Rattle.dpl_array.proofs.pieces.Pieces.new.Goals as goal

pub loop-locale-preserved : goal.loop-locale-preserved
loop-locale-preserved g c =
    let held = c.loop-locale.held.items in
    let k = c.loop-locale.locale in
    let long = c.loop-locale.invariant.0 in
    let pushed = c.in_ok-push.ensures.items in (
      ap length pushed ∙ length_push held (Some c.in_ok-piece.piece) ∙ ap (λ n. n + 1) long,
      rw pushed (places-push held k (Some c.in_ok-piece.piece) (λ l. Some (piece_filled c.args.domain c.args.map c.args.value l)) long (ap Some c.in_ok-piece.ensures) c.loop-locale.invariant.1),
    )

pub invariant_of-result : goal.invariant_of-result
invariant_of-result g c =
    let end : c.loop-locale.locale ≡ locales c.args.map = omega (arith, c.locales-locales.ensures.locales, c.loop-locale-test.false, c.loop-locale.auto.locale-end) in
    new-held c.args.domain c.args.map c.args.value c.loop-locale.held.items (λ k below. c.loop-locale.invariant.1 k (omega (arith, below, end))) (c.loop-locale.invariant.0 ∙ end) (λ t. let low = c.locales-locales.ensures.owners t in omega (arith, low, c.locales-locales.ensures.locales))

pub returns-clause-pieces : goal.returns-clause-pieces
returns-clause-pieces g c =
    let end : c.loop-locale.locale ≡ locales c.args.map = omega (arith, c.locales-locales.ensures.locales, c.loop-locale-test.false, c.loop-locale.auto.locale-end) in
    ap (λ ss. record { domain = c.args.domain; map = c.args.map; slots = ss })
    (new-slots c.args.domain c.args.map c.args.value c.loop-locale.held.items (λ k below. c.loop-locale.invariant.1 k (omega (arith, below, end))) (c.loop-locale.invariant.0 ∙ end))

pub returns-clause-formed : goal.returns-clause-formed
returns-clause-formed g c =
    let end : c.loop-locale.locale ≡ locales c.args.map = omega (arith, c.locales-locales.ensures.locales, c.loop-locale-test.false, c.loop-locale.auto.locale-end) in
    held-formed c.args.domain c.args.map c.loop-locale.held.items
    (new-held c.args.domain c.args.map c.args.value c.loop-locale.held.items (λ k below. c.loop-locale.invariant.1 k (omega (arith, below, end))) (c.loop-locale.invariant.0 ∙ end) (λ t. let low = c.locales-locales.ensures.owners t in omega (arith, low, c.locales-locales.ensures.locales)))

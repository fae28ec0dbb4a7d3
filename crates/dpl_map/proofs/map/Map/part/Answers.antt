-- A domain that is empty or of another rank, and a locale that is no place.
use Rattle.std.proofs.Common.{rules, inl, ◌≡◌, ◌≢◌, [], ◌∷◌, ap, sym, ◌∙◌, arith, length}
use Rattle.std.proofs.lemmas.List.Elements.{All-nil, All-cons}
use Rattle.dpl_sets.specs.Indices.{indices}
use Rattle.dpl_map.specs.Parts.{part}
use Rattle.dpl_map.proofs.CutLemmas.{AreCut-none, AreCut-one}
use Rattle.dpl_map.proofs.FewLemmas.{AreFew-none, AreFew-some}
use Rattle.dpl_map.proofs.PartLemmas.{part-empty, part-unowned, part-other_first, part-other_rest}
use Rattle.dpl_map.proofs.SizeLemmas.{sizes, in-one}
use Rattle.dpl_map.proofs.map.Map.part.Goals as goal
use Rattle.dpl_map.proofs.map.Map.part.Goals.{then-locales-locale-via-then-locales-locale, then-locales-locale-via-else-locales-locale+then-size-eq0, then-locale-eq0+in_ok-map_err, else-locale-eq0}

pub returns-then-locales-locale-clause-cut : goal.returns-then-locales-locale-clause-cut
returns-then-locales-locale-clause-cut c =
    let none : part c.args.domain.now c.args.self.now c.args.locale ≡ [] =
    elim c.then-locales-locale.branch [
      | then-locales-locale-via-then-locales-locale w ↦ part-unowned c.args.domain.now c.args.self.now c.args.locale (λ t e. omega (arith, c.locales.ensures.owners t, e, w.if-locales-locale.true))
      | then-locales-locale-via-else-locales-locale+then-size-eq0 w ↦ part-empty c.args.domain.now c.args.self.now c.args.locale (omega (arith, w.size.ensures.size, w.if-size-eq0.true))
    ] in
    rw (c.new.ensures.items, none) (AreCut-none indices)

pub returns-then-locales-locale-clause-few : goal.returns-then-locales-locale-clause-few
returns-then-locales-locale-clause-few c =
    rw c.new.ensures.items (AreFew-none c.args.self.now (part c.args.domain.now c.args.self.now c.args.locale) c.locales.ensures.limits)

pub returns-clause-few : goal.returns-clause-few
returns-clause-few c =
    let other : length c.args.domain.now ≡ length c.args.self.now → ⊥ = λ same. c.if-rank.false (c.rank.ensures.rank ∙ same ∙ sym c.rank-2.ensures) in
    elim c.if-locale-eq0.branch [
      | then-locale-eq0+in_ok-map_err w ↦
          let items : c.if-locale-eq0.domains.items ≡ c.args.domain.now ∷ [] = search rules in
          let whole = part-other_first c.args.domain.now c.args.self.now other in
          rw (items, w.if-locale-eq0.true)
          (AreFew-some c.args.self.now (part c.args.domain.now c.args.self.now 0) (omega (arith, ap length whole, c.size.ensures.size, c.if-size-eq0.false)) c.locales.ensures.limits)
      | else-locale-eq0 w ↦
          let items : c.if-locale-eq0.domains.items ≡ [] = search rules in
          rw items (AreFew-none c.args.self.now (part c.args.domain.now c.args.self.now c.args.locale) c.locales.ensures.limits)
    ]

pub returns-clause-cut : goal.returns-clause-cut
returns-clause-cut c =
    let other : length c.args.domain.now ≡ length c.args.self.now → ⊥ = λ same. c.if-rank.false (c.rank.ensures.rank ∙ same ∙ sym c.rank-2.ensures) in
    elim c.if-locale-eq0.branch [
      | then-locale-eq0+in_ok-map_err w ↦
          let items : c.if-locale-eq0.domains.items ≡ c.args.domain.now ∷ [] = search rules in
          rw (items, w.if-locale-eq0.true) (AreCut-one indices (part c.args.domain.now c.args.self.now 0) c.args.domain.now (part-other_first c.args.domain.now c.args.self.now other))
      | else-locale-eq0 w ↦
          let items : c.if-locale-eq0.domains.items ≡ [] = search rules in
          let none = part-other_rest c.args.domain.now c.args.self.now c.args.locale other w.if-locale-eq0.false in
          rw (items, none) (AreCut-none indices)
    ]

pub returns-then-locales-locale-clause-some : goal.returns-then-locales-locale-clause-some
returns-then-locales-locale-clause-some c = rw c.new.ensures.items (All-nil (λ domain. indices domain ≢ []))

pub returns-clause-some : goal.returns-clause-some
returns-clause-some c =
    elim c.if-locale-eq0.branch [
      | then-locale-eq0+in_ok-map_err w ↦
          let items : c.if-locale-eq0.domains.items ≡ c.args.domain.now ∷ [] = search rules in
          rw items
          (All-cons (λ domain. indices domain ≢ []) c.args.domain.now [] (λ none. omega (arith, ap length none, c.size.ensures.size, c.if-size-eq0.false)) (All-nil (λ domain. indices domain ≢ [])))
      | else-locale-eq0 w ↦
          let items : c.if-locale-eq0.domains.items ≡ [] = search rules in
          rw items (All-nil (λ domain. indices domain ≢ []))
    ]

pub returns-then-locales-locale-clause-rows : goal.returns-then-locales-locale-clause-rows
returns-then-locales-locale-clause-rows c = rw c.new.ensures.items (inl (omega arith))

pub returns-clause-rows : goal.returns-clause-rows
returns-clause-rows c =
    inl (elim c.if-locale-eq0.branch [
      | then-locale-eq0+in_ok-map_err w ↦ let items : c.if-locale-eq0.domains.items ≡ c.args.domain.now ∷ [] = search rules in rw items (omega arith)
      | else-locale-eq0 w ↦ let items : c.if-locale-eq0.domains.items ≡ [] = search rules in rw items (omega arith)
    ])

-- what is cut out of the part has its sizes, and each of its tuples in one domain
pub returns-then-locales-locale-clause-apart : goal.returns-then-locales-locale-clause-apart
returns-then-locales-locale-clause-apart c = in-one (part c.args.domain.now c.args.self.now c.args.locale) c.new.result.items (returns-then-locales-locale-clause-cut c)

pub returns-then-locales-locale-clause-sizes : goal.returns-then-locales-locale-clause-sizes
returns-then-locales-locale-clause-sizes c = sizes indices (part c.args.domain.now c.args.self.now c.args.locale) c.new.result.items (returns-then-locales-locale-clause-cut c)

pub returns-clause-apart : goal.returns-clause-apart
returns-clause-apart c = in-one (part c.args.domain.now c.args.self.now c.args.locale) c.if-locale-eq0.domains.items (returns-clause-cut c)

pub returns-clause-sizes : goal.returns-clause-sizes
returns-clause-sizes c = sizes indices (part c.args.domain.now c.args.self.now c.args.locale) c.if-locale-eq0.domains.items (returns-clause-cut c)

pub returns-then-rank-clause-apart : goal.returns-then-rank-clause-apart
returns-then-rank-clause-apart c = in-one (part c.args.domain.now c.args.self.now c.args.locale) c.in_ok-owned.field-0.items c.in_ok-owned.ensures.cut

pub returns-then-rank-clause-sizes : goal.returns-then-rank-clause-sizes
returns-then-rank-clause-sizes c = sizes indices (part c.args.domain.now c.args.self.now c.args.locale) c.in_ok-owned.field-0.items c.in_ok-owned.ensures.cut

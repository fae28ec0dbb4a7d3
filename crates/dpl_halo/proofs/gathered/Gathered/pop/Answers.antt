-- The first entry is an element, and the others stay.
-- These are the answers to the goals of `Gathered::pop`.
use Rattle.std.proofs.Common.{◌≡◌, ◌+◌, ◌<◌, ◌≤◌, ℕ, ℤ, List, [], None, false, true, length, slice_get, nat_cmp, arith, ap, sym, subst, ◌∙◌, ⊎_elim}
use Rattle.std.specs.BTreeMap.{get}
use Rattle.std.proofs.lemmas.Bool.{cases_lt}
use Rattle.std.proofs.lemmas.Option.{none-some, slice_get-get_or}
use Rattle.dpl_sets.specs.Indices.{indices}
use Rattle.dpl_halo.specs.Gathering.{IsTaken, chosen}
use Rattle.dpl_halo.proofs.ChosenLemmas.{chosen-nothing, chosen-taken, entry-none, entry-taken, none-left, within-taken}
use Rattle.dpl_halo.proofs.gathered.Gathered.pop.Goals as goal

nth-there : (ts : List (List ℤ)) (k : ℕ) → k < length ts → None ≡ slice_get ts k → ⊥
nth-there ts k below none = none-some _ (none ∙ slice_get-get_or ts k [] below)

pub returns-in_err-place-clause-end : goal.returns-in_err-place-clause-end
returns-in_err-place-clause-end g c =
    let p = c.self.inside in
    let entries : p.held.entries ≡ [] =
    ⊎_elim
    (λ (some : 0 < length p.held.entries). absurd (let e : false ≡ true = c.in_err-place.ensures.variant.1 some in cc))
    (λ (none : length p.held.entries ≤ 0). none-left p.held.entries (omega (arith, none)))
    (cases_lt 0 (length p.held.entries)) in
    rw c.from_residual.ensures (ap (λ q. q.elements) (sym c.self.view_is) ∙ chosen-nothing (indices p.domain) (get nat_cmp p.held) (entry-none p.held entries))

pub invariant_of-self-in_err-index : goal.invariant_of-self-in_err-index
invariant_of-self-in_err-index g c =
    let p = c.self.inside in
    absurd (nth-there (indices p.domain) c.in_ok-place.place (c.self.invariant.within c.in_ok-place.place c.in_ok-place.value c.in_ok-place.ensures.value) c.in_err-index.ensures)

pub returns-in_err-index-clause-end : goal.returns-in_err-index-clause-end
returns-in_err-index-clause-end g c =
    let p = c.self.inside in
    absurd (nth-there (indices p.domain) c.in_ok-place.place (c.self.invariant.within c.in_ok-place.place c.in_ok-place.value c.in_ok-place.ensures.value) c.in_err-index.ensures)

pub invariant_of-self-2 : goal.invariant_of-self-2
invariant_of-self-2 g c =
    let p = c.self.inside in
    let k = c.in_ok-place.place in
    let f = get nat_cmp p.held in
    let h = get nat_cmp c.pop_first.new.self in
    let change = entry-taken p.held c.pop_first.new.self k c.in_ok-place.value c.in_ok-place.ensures.value c.in_ok-place.ensures.updates in
    let taken = chosen-taken p.domain f h k c.in_ok-index.index c.in_ok-place.value c.self.invariant.distinct (sym c.in_ok-index.ensures) c.in_ok-place.ensures.updates.1 change in
    let fewer : length (chosen (indices p.domain) h) + 1 ≡ length (chosen (indices p.domain) f) = taken.fewer in
    record {
      distinct = c.self.invariant.distinct;
      small = c.self.invariant.small;
      within = within-taken (length (indices p.domain)) k c.in_ok-place.value h f change c.self.invariant.within;
      count = omega (arith, fewer, c.self.invariant.count);
    }

pub returns-clause-taken : goal.returns-clause-taken
returns-clause-taken g c =
    let p = c.self.inside in
    let k = c.in_ok-place.place in
    let f = get nat_cmp p.held in
    let h = get nat_cmp c.pop_first.new.self in
    let change = entry-taken p.held c.pop_first.new.self k c.in_ok-place.value c.in_ok-place.ensures.value c.in_ok-place.ensures.updates in
    subst (λ q. IsTaken c.in_ok-index.index c.in_ok-place.value q (record { domain = p.domain; elements = chosen (indices p.domain) h })) c.self.view_is
    (chosen-taken p.domain f h k c.in_ok-index.index c.in_ok-place.value c.self.invariant.distinct (sym c.in_ok-index.ensures) c.in_ok-place.ensures.updates.1 change)

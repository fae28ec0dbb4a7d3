-- What stands side by side in both arrays is taken over at once, or the element at the place alone.
-- These are the answers to the goals of `take_from`.
use Rattle.std.proofs.Common.{◌≡◌, ◌<◌, ◌≤◌, ◌+◌, ℕ, List, [], Some, length, take, get_or, slice_get, ap, sym, subst, ◌∙◌, arith, rules, FitsSigned, w64}
use Rattle.std.proofs.lemmas.Int.{to_z-of_z}
use Rattle.std.proofs.lemmas.Option.{none-some, slice_get-get_or}
use Rattle.dpl_sets.specs.Ranges.{RangeValue}
use Rattle.dpl_sets.specs.Indices.{indices}
use Rattle.dpl_array.specs.Elements.{behind, put_in_row}
use Rattle.dpl_array.specs.Arrays.{array_with}
use Rattle.dpl_array.proofs.ElementLemmas.{over-some}
use Rattle.dpl_contents.specs.Dealt.{HasTaken}
use Rattle.dpl_contents.proofs.DealtLemmas.{row-within, take-few, taken-one, taken-row, taken-some}
use Rattle.dpl_contents.proofs.dealt.take_from.Goals as goal
use Rattle.dpl_contents.proofs.dealt.take_from.Goals.{in-Some-get, in_default-get}

pub unreachable-requires : goal.unreachable-requires
unreachable-requires c =
    let xs = indices c.domain-domain.result in
    let within : c.args.place < length xs = subst (λ (d : List RangeValue). c.args.place < length (indices d)) (sym c.domain-domain.ensures.domain) c.requires.place in
    none-some (get_or xs c.args.place []) (sym c.in_default.is ∙ c.nth.ensures ∙ slice_get-get_or xs c.args.place [] within)

pub returns-then-taken-ne0-clause-next : goal.returns-then-taken-ne0-clause-next
returns-then-taken-ne0-clause-next c =
    let place = c.args.place in
    let row = c.of-row.result.0 in
    let size = c.min-size.result in
    let few : size ≤ c.of-row.result.1 = search rules in
    let n = c.set_run-taken.result in
    let short = take-few size c.run-words.result.now in
    let most = c.set_run-taken.ensures.most in
    let there : (k : ℕ) → k < c.of-row.result.1 → slice_get (indices c.args.other.now.domain) (place + k) ≡ Some (behind k row) =
    subst (λ (d : List RangeValue). (k : ℕ) → k < c.of-row.result.1 → slice_get (indices d) (place + k) ≡ Some (behind k row)) c.domain-domain.ensures.domain c.of-row.ensures.there in
    (omega (arith, c.if-taken-ne0.true), row-within (indices c.args.other.now.domain) place c.of-row.result.1 n (λ k. behind k row) there (omega (arith, few, short, most)) c.requires.place)

pub returns-then-taken-ne0-clause-taken : goal.returns-then-taken-ne0-clause-taken
returns-then-taken-ne0-clause-taken c =
    let a = c.args.other.now in
    let axes = c.args.array.now.map in
    let place = c.args.place in
    let row = c.of-row.result.0 in
    let size = c.min-size.result in
    let few : size ≤ c.of-row.result.1 = search rules in
    let n = c.set_run-taken.result in
    let words = c.run-words.result.now in
    let short = take-few size words in
    let most = c.set_run-taken.ensures.most in
    let there : (k : ℕ) → k < c.of-row.result.1 → slice_get (indices a.domain) (place + k) ≡ Some (behind k row) =
    subst (λ (d : List RangeValue). (k : ℕ) → k < c.of-row.result.1 → slice_get (indices d) (place + k) ≡ Some (behind k row)) c.domain-domain.ensures.domain c.of-row.ensures.there in
    subst (HasTaken a axes (place + n)) (sym c.set_run-taken.ensures.changes)
    (taken-row a axes place row (take size words) c.args.array.now c.requires.taken (λ k v some. c.run-words.ensures k v (taken-some words size k v some).1) n most (λ k below. there k (omega (arith, few, short, most, below))))

pub returns-clause-taken : goal.returns-clause-taken
returns-clause-taken c =
    let a = c.args.other.now in
    let axes = c.args.array.now.map in
    let place = c.args.place in
    let first = c.in-Some.first in
    let n = c.set_run-taken.result in
    let none : n ≡ 0 = omega (arith, c.if-taken-ne0.false) in
    let words = take c.min-size.result c.run-words.result.now in
    let same : c.set_run-taken.new.self ≡ c.args.array.now = c.set_run-taken.ensures.changes ∙ ap (λ n. put_in_row array_with c.of-row.result.0 words n c.args.array.now) none in
    let here : slice_get (indices a.domain) place ≡ Some first = sym (ap (λ (d : List RangeValue). slice_get (indices d) place) c.domain-domain.ensures.domain) ∙ sym c.nth.ensures ∙ c.in-Some.is in
    elim c.match-get.branch [
      | in-Some-get w ↦
          let word = w.in-Some-get.word in
          let fits : FitsSigned w64 word = search rules in
          let changes = simp to_z-of_z at w.set.ensures.changes in
          subst (HasTaken a axes (place + 1)) (sym (w.array-is ∙ changes ∙ ap (array_with first word) same))
          (taken-one a axes place first word c.args.array.now c.requires.taken here (sym c.get.ensures ∙ w.in-Some-get.is))
      | in_default-get w ↦
          let there = over-some (indices a.domain) a.elements first c.domain-domain.ensures.keys (place, here) in
          absurd (none-some there.0 (sym w.in_default-get.is ∙ c.get.ensures ∙ there.1))
    ]

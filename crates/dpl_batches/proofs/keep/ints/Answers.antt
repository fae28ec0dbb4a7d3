-- The words that are kept back are the ints that the statement puts, or the own ones.
-- These are the answers to the goals of `ints`.
use Rattle.std.proofs.Common.{◌≡◌, ◌<◌, ◌≤◌, ℕ, pos, true, Some, length, get_or, slice_set, option_map, sym, subst, ap, ◌∙◌, arith, rules}
use Rattle.std.proofs.lemmas.Option.{get_or_from_slice_get}
use Rattle.dpl_language.specs.Tree.{NoStmts, Then}
use Rattle.dpl_readings.specs.Readings.{step_in}
use Rattle.dpl_strips.specs.Strips.{own_word}
use Rattle.dpl_batches.specs.Stores.{by_now, AreFound}
use Rattle.dpl_batches.specs.declared.store.Store.{Store}
use Rattle.dpl_standing.specs.Standing.{Outside}
use Rattle.dpl_batches.proofs.Found.{apart-alike, as-many}
use Rattle.dpl_batches.proofs.Kept.{found-int}
use Rattle.dpl_batches.proofs.keep.ints.Goals as goal

pub returns-clause-found : goal.returns-clause-found
returns-clause-found g c w =
    let f = c.args.frame.now in
    let names = c.args.lanes.now.names.now in
    let row = c.args.lanes.now.row in
    let xs = c.args.stores.now in
    let mask = option_map (λ ms. ms.now) c.args.lanes.now.mask in
    let i = c.in-Some.i in
    let place = c.in-Some.ensures in
    let x = place.0 in
    let here = get_or_from_slice_get xs i x c.index-stores-i.result place.1 in
    let own = c.own_words-own.result.now in
    let source = c.found_ints.new.strip in
    let combined = c.combine.new.strip in
    let strip = c.blend.new.strip in
    let size = c.min.result in
    let few : size ≤ strip.size = search rules in
    let y = c.put.new.self in
    let is : y ≡ record x { is_made = true; words = strip.words } = c.put.ensures ∙ ap (λ (x : Store). record x { is_made = true; words = strip.words }) (get_or_from_slice_get xs i x _ place.1) in
    let owns = subst (λ (x : Store). (k : ℕ) → k < length own → own_word (by_now x) k f.memory ≡ Some (get_or own k (pos 0))) here c.own_words-own.ensures in
    subst (λ t. AreFound f.limits names row f.memory (Then (step_in w t) NoStmts) mask size xs (slice_set xs i y)) (sym c.in-SetElement.is)
    (found-int f.limits names row f.memory mask xs c.requires.apart i x y place.1 place.3 (ap (λ (x : Store). x.slot) is) (ap (λ (x : Store). x.at) is) (ap (λ (x : Store). x.is_made) is) (ap (λ (x : Store). x.fold) is ∙ place.3)
    size own (λ k below. owns k (omega (arith, below, few, c.blend.ensures.own)))
    c.in-SetElement.name.now c.in-SetElement.index.now place.2 place.4
    c.in-SetElement.op c.in-SetElement.field-3.now c.in-SetElement.e.now source c.found_ints.ensures.row
    (omega (arith, few, c.blend.ensures.size, c.combine.ensures.size)) c.found_ints.ensures.values (λ some. c.combine.ensures.divides (omega (arith, some, few, c.blend.ensures.size))) combined.words
    (λ k below cap. c.combine.ensures.words k (omega (arith, below, few, c.blend.ensures.size)) cap)
    (λ k below cap. ap (λ (x : Store). get_or x.words k (pos 0)) is ∙ c.blend.ensures.words k (omega (arith, below, few)) cap))

pub returns-clause-few : goal.returns-clause-few
returns-clause-few g c = omega (arith, as-many c.args.stores.now (slice_set c.args.stores.now c.in-Some.i c.put.new.self) (returns-clause-found g c Outside).alike, c.requires.few)

pub returns-clause-apart : goal.returns-clause-apart
returns-clause-apart g c =
    apart-alike c.args.lanes.now.names.now c.args.stores.now (slice_set c.args.stores.now c.in-Some.i c.put.new.self) (returns-clause-found g c Outside).alike c.requires.apart

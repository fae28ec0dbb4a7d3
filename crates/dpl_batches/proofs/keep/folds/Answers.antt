-- The ints that are kept back are those that the statement folds, where the mask lets it.
-- These are the answers to the goals of `folds`.
use Rattle.std.proofs.Common.{pos, ◌≡◌, ◌≤◌, true, Some, slice_set, option_map, sym, subst, ap, ◌∙◌, arith, rules}
use Rattle.std.proofs.lemmas.Option.{get_or_from_slice_get}
use Rattle.dpl_language.specs.Tree.{NoStmts, Then}
use Rattle.dpl_readings.specs.Readings.{step_in}
use Rattle.dpl_strips.proofs.Strips.{repeated}
use Rattle.dpl_batches.specs.Stores.{goes_in, AreFound}
use Rattle.dpl_batches.specs.declared.store.Store.{Store}
use Rattle.dpl_batches.specs.Folded.{Folds}
use Rattle.dpl_standing.specs.Standing.{Outside}
use Rattle.dpl_batches.proofs.Found.{apart-alike, as-many}
use Rattle.dpl_batches.proofs.Kept.{found-fold}
use Rattle.dpl_batches.proofs.keep.folds.Goals as goal

pub returns-clause-found : goal.returns-clause-found
returns-clause-found g c w =
    let f = c.args.frame.now in
    let names = c.args.lanes.now.names.now in
    let row = c.args.lanes.now.row in
    let xs = c.args.stores.now in
    let mask = option_map (λ ms. ms.now) c.args.lanes.now.mask in
    let i = c.in-Some-place_of.i in
    let place = c.in-Some-place_of.ensures in
    let x = place.0 in
    let source = c.found_ints.new.strip in
    let size = c.min.result in
    let few : size ≤ source.size = search rules in
    let fold = c.in-Some.fold in
    let y = c.fold.new.self in
    let here = c.index-stores-i.is ∙ get_or_from_slice_get xs i x c.index-stores-i.result place.1 in
    let unmade = ap (λ (x : Store). x.is_made) (sym here) ∙ search rules in
    let is : y ≡ record x { fold = Some fold; is_made = true; words = source.words; mask = c.mask_or.result.now } =
    c.fold.ensures ∙ ap (λ (x : Store). record x { fold = Some fold; is_made = true; words = source.words; mask = c.mask_or.result.now }) (get_or_from_slice_get xs i x _ place.1) in
    let e = c.in-Int.e.now in
    let folds = subst (λ intent. Folds c.in-Int.deed intent fold) c.operator.ensures c.in-Some.ensures in
    subst (λ t. AreFound f.limits names row f.memory (Then (step_in w t) NoStmts) mask size xs (slice_set xs i y)) (sym c.in-Int.is)
    (found-fold f.limits names row f.memory mask xs c.requires.apart i x y place.1 unmade (ap (λ (x : Store). x.slot) is) (ap (λ (x : Store). x.at) is) (ap (λ (x : Store). x.is_made) is) fold (ap (λ (x : Store). x.fold) is)
    size c.in-Int.deed c.in-Int.slot place.2 (search rules) folds e source c.found_ints.ensures.row few (ap (λ (x : Store). x.words) is) c.found_ints.ensures.values
    (λ k cap. ap (λ (x : Store). goes_in (Some x.mask) k) is ∙ c.mask_or.ensures k cap))

pub returns-clause-few : goal.returns-clause-few
returns-clause-few g c = omega (arith, as-many c.args.stores.now (slice_set c.args.stores.now c.in-Some-place_of.i c.fold.new.self) (returns-clause-found g c Outside).alike, c.requires.few)

pub returns-clause-apart : goal.returns-clause-apart
returns-clause-apart g c =
    apart-alike c.args.lanes.now.names.now c.args.stores.now (slice_set c.args.stores.now c.in-Some-place_of.i c.fold.new.self) (returns-clause-found g c Outside).alike c.requires.apart

pub mask_or-requires : goal.mask_or-requires
mask_or-requires g c k below = repeated 64 k (pos 1) below

-- An element that is there takes another value.
-- These are the answers to the goals of `Gathered::set`.
use Rattle.std.proofs.Common.{◌≡◌, ◌+◌, cond, is_some, false, true, length, arith, nat_cmp, refl, sym, ap, ◌∙◌}
use Rattle.std.specs.BTreeMap.{get}
use Rattle.std.proofs.lemmas.Option.{none-some, slice_get_within}
use Rattle.dpl_sets.specs.Indices.{indices}
use Rattle.dpl_array.specs.Elements.{value_at}
use Rattle.dpl_array.proofs.ElementLemmas.{with_value-absent}
use Rattle.dpl_array.proofs.UnionLemmas.{absent, some-of}
use Rattle.dpl_halo.specs.Gathering.{chosen}
use Rattle.dpl_halo.specs.GatheredFields.{gathered_of}
use Rattle.dpl_halo.proofs.ChosenLemmas.{chosen-at, chosen-none, chosen-set, chosen-count, entry-put, put-elements, within-put}
use Rattle.dpl_halo.proofs.gathered.Gathered.set.Goals as goal

pub returns-in_default-clause-there : goal.returns-in_default-clause-there
returns-in_default-clause-there g c =
    let p = c.self.inside in
    sym (ap is_some (chosen-none (indices p.domain) (get nat_cmp p.held) c.args.index (λ at. none-some at.0 ((c.in_default.ensures at.0).1 at.1))))
    ∙ ap (λ q. is_some (value_at c.args.index q.elements)) c.self.view_is

pub returns-in_default-clause-changes : goal.returns-in_default-clause-changes
returns-in_default-clause-changes g c =
    let p = c.self.inside in
    let none = ap (λ q. value_at c.args.index q.elements) (sym c.self.view_is) ∙ chosen-none (indices p.domain) (get nat_cmp p.held) c.args.index (λ at. none-some at.0 ((c.in_default.ensures at.0).1 at.1)) in
    sym (ap (λ es. record c.args.self.now { elements = es }) (with_value-absent c.args.index c.args.value c.args.self.now.elements none))

pub returns-then-not-contains_key-clause-there : goal.returns-then-not-contains_key-clause-there
returns-then-not-contains_key-clause-there g c =
    let p = c.self.inside in
    let k = c.in-Some.place in
    let at = chosen-at (indices p.domain) (get nat_cmp p.held) k c.args.index c.self.invariant.distinct ((c.in-Some.ensures k).0 refl) in
    let none : is_some (get nat_cmp p.held k) ≡ false = sym c.if-not-contains_key.ensures in
    sym none ∙ sym (ap is_some at) ∙ ap (λ q. is_some (value_at c.args.index q.elements)) c.self.view_is

pub returns-then-not-contains_key-clause-changes : goal.returns-then-not-contains_key-clause-changes
returns-then-not-contains_key-clause-changes g c =
    let p = c.self.inside in
    let k = c.in-Some.place in
    let at = chosen-at (indices p.domain) (get nat_cmp p.held) k c.args.index c.self.invariant.distinct ((c.in-Some.ensures k).0 refl) in
    let none : is_some (get nat_cmp p.held k) ≡ false = sym c.if-not-contains_key.ensures in
    sym (ap (λ es. record c.args.self.now { elements = es }) (with_value-absent c.args.index c.args.value c.args.self.now.elements (ap (λ q. value_at c.args.index q.elements) (sym c.self.view_is) ∙ at ∙ absent (get nat_cmp p.held k) none)))

pub invariant_of-self-2 : goal.invariant_of-self-2
invariant_of-self-2 g c =
    let p = c.self.inside in
    let ts = indices p.domain in
    let f = get nat_cmp p.held in
    let h = get nat_cmp c.insert.new.self in
    let k = c.in-Some.place in
    let there : is_some (f k) ≡ true = sym c.if-not-contains_key.ensures in
    let same : length (chosen ts h) ≡ length (chosen ts f) + 0 =
    chosen-count ts f h k c.args.index c.args.value ((c.in-Some.ensures k).0 refl) (entry-put p.held c.insert.new.self k c.args.value c.in-Ok.ensures.updates) ∙ ap (λ b. length (chosen ts f) + cond b 0 1) there in
    record { distinct = c.self.invariant.distinct; small = c.self.invariant.small; within = within-put (length ts) k c.args.value f h (entry-put p.held c.insert.new.self k c.args.value c.in-Ok.ensures.updates) (slice_get_within ts k c.args.index ((c.in-Some.ensures k).0 refl)) c.self.invariant.within; count = omega (arith, c.self.invariant.count, same) }

pub returns-clause-there : goal.returns-clause-there
returns-clause-there g c =
    let p = c.self.inside in
    let k = c.in-Some.place in
    let at = chosen-at (indices p.domain) (get nat_cmp p.held) k c.args.index c.self.invariant.distinct ((c.in-Some.ensures k).0 refl) in
    c.if-not-contains_key.ensures ∙ sym (ap is_some at) ∙ ap (λ q. is_some (value_at c.args.index q.elements)) c.self.view_is

pub returns-clause-changes : goal.returns-clause-changes
returns-clause-changes g c =
    let p = c.self.inside in
    let k = c.in-Some.place in
    let was = some-of (get nat_cmp p.held k) (sym c.if-not-contains_key.ensures) in
    put-elements p.domain c.args.index c.args.value (chosen (indices p.domain) (get nat_cmp c.insert.new.self)) (gathered_of p) c.args.self.now c.self.view_is
    (chosen-set (indices p.domain) (get nat_cmp p.held) (get nat_cmp c.insert.new.self) k c.args.index c.args.value c.self.invariant.distinct ((c.in-Some.ensures k).0 refl) (entry-put p.held c.insert.new.self k c.args.value c.in-Ok.ensures.updates) was.0 was.1)

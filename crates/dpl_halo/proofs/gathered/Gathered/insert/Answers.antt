-- The place of the index has the value, and there is one element more where it had none.
-- These are the answers to the goals of `Gathered::insert`.
use Rattle.std.proofs.Common.{◌≡◌, ◌+◌, Some, is_some, not, false, true, cond, length, nat_cmp, arith, refl, sym, ap, ◌∙◌}
use Rattle.std.specs.BTreeMap.{get}
use Rattle.std.proofs.lemmas.Option.{slice_get_within}
use Rattle.dpl_sets.specs.Indices.{indices}
use Rattle.dpl_array.specs.Elements.{same_index, value_at}
use Rattle.dpl_halo.specs.Gathering.{chosen}
use Rattle.dpl_halo.proofs.ChosenLemmas.{chosen-put, chosen-count, chosen-short, entry-put, within-put}
use Rattle.dpl_halo.proofs.gathered.Gathered.insert.Goals as goal

pub overflow_add-self : goal.overflow_add-self
overflow_add-self g c =
    let p = c.self.inside in
    let ts = indices p.domain in
    let f = get nat_cmp p.held in
    let h = get nat_cmp c.insert.new.self in
    let k = c.in-Some.place in
    let fresh : is_some (f k) ≡ false = ap is_some (sym c.in_ok-insert.ensures.old) ∙ c.is_none.ensures ∙ ap not c.if-is_none.true in
    let more : length (chosen ts h) ≡ length (chosen ts f) + 1 =
    chosen-count ts f h k c.args.index c.args.value ((c.in-Some.ensures k).0 refl) (entry-put p.held c.insert.new.self k c.args.value c.in_ok-insert.ensures.updates) ∙ ap (λ b. length (chosen ts f) + cond b 0 1) fresh in
    let short = chosen-short ts h in
    record { fits = omega (arith, c.self.invariant.count, more, short, c.self.invariant.small) }

pub invariant_of-self-then-is_none : goal.invariant_of-self-then-is_none
invariant_of-self-then-is_none g c =
    let p = c.self.inside in
    let ts = indices p.domain in
    let f = get nat_cmp p.held in
    let h = get nat_cmp c.insert.new.self in
    let k = c.in-Some.place in
    let fresh : is_some (f k) ≡ false = ap is_some (sym c.in_ok-insert.ensures.old) ∙ c.is_none.ensures ∙ ap not c.if-is_none.true in
    let more : length (chosen ts h) ≡ length (chosen ts f) + 1 =
    chosen-count ts f h k c.args.index c.args.value ((c.in-Some.ensures k).0 refl) (entry-put p.held c.insert.new.self k c.args.value c.in_ok-insert.ensures.updates) ∙ ap (λ b. length (chosen ts f) + cond b 0 1) fresh in
    record { distinct = c.self.invariant.distinct; small = c.self.invariant.small; within = within-put (length ts) k c.args.value f h (entry-put p.held c.insert.new.self k c.args.value c.in_ok-insert.ensures.updates) (slice_get_within ts k c.args.index ((c.in-Some.ensures k).0 refl)) c.self.invariant.within; count = omega (arith, c.self.invariant.count, more) }

pub invariant_of-self-else-is_none : goal.invariant_of-self-else-is_none
invariant_of-self-else-is_none g c =
    let p = c.self.inside in
    let ts = indices p.domain in
    let f = get nat_cmp p.held in
    let h = get nat_cmp c.insert.new.self in
    let k = c.in-Some.place in
    let old : is_some (f k) ≡ true = ap is_some (sym c.in_ok-insert.ensures.old) ∙ c.is_none.ensures ∙ ap not c.if-is_none.false in
    let same : length (chosen ts h) ≡ length (chosen ts f) + 0 =
    chosen-count ts f h k c.args.index c.args.value ((c.in-Some.ensures k).0 refl) (entry-put p.held c.insert.new.self k c.args.value c.in_ok-insert.ensures.updates) ∙ ap (λ b. length (chosen ts f) + cond b 0 1) old in
    record { distinct = c.self.invariant.distinct; small = c.self.invariant.small; within = within-put (length ts) k c.args.value f h (entry-put p.held c.insert.new.self k c.args.value c.in_ok-insert.ensures.updates) (slice_get_within ts k c.args.index ((c.in-Some.ensures k).0 refl)) c.self.invariant.within; count = omega (arith, c.self.invariant.count, same) }

pub returns-then-is_none-clause-values : goal.returns-then-is_none-clause-values
returns-then-is_none-clause-values g c = λ t.
    let p = c.self.inside in
    let k = c.in-Some.place in
    chosen-put (indices p.domain) (get nat_cmp p.held) (get nat_cmp c.insert.new.self) k c.args.index c.args.value c.self.invariant.distinct ((c.in-Some.ensures k).0 refl) (entry-put p.held c.insert.new.self k c.args.value c.in_ok-insert.ensures.updates) t
    ∙ ap (λ q. cond (same_index c.args.index t) (Some c.args.value) (value_at t q.elements)) c.self.view_is

pub returns-else-is_none-clause-values : goal.returns-else-is_none-clause-values
returns-else-is_none-clause-values g c = λ t.
    let p = c.self.inside in
    let k = c.in-Some.place in
    chosen-put (indices p.domain) (get nat_cmp p.held) (get nat_cmp c.insert.new.self) k c.args.index c.args.value c.self.invariant.distinct ((c.in-Some.ensures k).0 refl) (entry-put p.held c.insert.new.self k c.args.value c.in_ok-insert.ensures.updates) t
    ∙ ap (λ q. cond (same_index c.args.index t) (Some c.args.value) (value_at t q.elements)) c.self.view_is

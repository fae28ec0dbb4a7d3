-- An empty map gives nothing of any place.
-- These are the answers to the goals of `Gathered::new`.
use Rattle.std.proofs.Common.{length, nat_cmp, sym, ap, ◌∙◌}
use Rattle.std.specs.BTreeMap.{get}
use Rattle.std.proofs.lemmas.Option.{none-some}
use Rattle.dpl_sets.specs.Indices.{indices}
use Rattle.dpl_halo.proofs.ChosenLemmas.{chosen-nothing, entry-none}
use Rattle.dpl_halo.proofs.gathered.Gathered.new.Goals as goal

pub invariant_of-result : goal.invariant_of-result
invariant_of-result g c = record {
  distinct = c.each_once.ensures.distinct;
  small = c.each_once.ensures.small;
  within = λ k v some. absurd (none-some v (sym (entry-none c.new.result c.new.ensures.empty k) ∙ some));
  count = sym (ap length (chosen-nothing (indices c.args.domain) (get nat_cmp c.new.result) (entry-none c.new.result c.new.ensures.empty)));
}

pub returns-clause-elements : goal.returns-clause-elements
returns-clause-elements g c = chosen-nothing (indices c.args.domain) (get nat_cmp c.new.result) (entry-none c.new.result c.new.ensures.empty)

-- What was tested is all that the law asks.
use Rattle.std.proofs.Common.{map, subst, sym, ◌∙◌}
use Rattle.std.specs.List.{AllByRecursion}
use Rattle.dpl_memory.specs.Memory.{intents_by_slot}
use Rattle.dpl_nodes.specs.Steps.{intent_view}
use Rattle.dpl_apart.specs.Memories.{IsFormed, words_in, operators_of}
use Rattle.dpl_apart.specs.Operands.{AreExact}
use Rattle.dpl_apart.specs.Rows.{AreOnce}
use Rattle.dpl_workers.proofs.FormedMemories.{memory-formed, reduced-exact, all-whole}
use Rattle.dpl_workers.specs.Formed.{IsWhole}
use Rattle.dpl_workers.proofs.formed.may_start.Goals as goal

pub returns-clause-formed : goal.returns-clause-formed
returns-clause-formed c e =
    let m = c.args.frame.now.memory in
    let a = c.apart.inside in
    subst (λ h. IsFormed h m) c.apart.view_is
    (memory-formed
    (record { rank = a.rank; written = a.written.now; reduced = intents_by_slot (map intent_view a.reduced.now); numbers = a.numbers.now; ranges = a.ranges.now; tuples = a.tuples.now })
    m
    (sym c.intents.ensures ∙ c.are_same.ensures c.if-not-are_same.false)
    (c.have_elements.ensures c.if-not-have_elements.false)
    (c.are_reduced.ensures c.if-not-are_reduced.false)
    (c.have_numbers.ensures c.if-not-have_numbers.false)
    (c.have_tuples.ensures e))

pub returns-clause-exact : goal.returns-clause-exact
returns-clause-exact c e =
    let m = c.args.frame.now.memory in
    let a = c.apart.inside in
    subst (λ h. AreExact (operators_of h.reduced) (words_in h.reduced m)) c.apart.view_is
    (reduced-exact a.numbers.now m (intents_by_slot (map intent_view a.reduced.now)) (c.are_reduced.ensures c.if-not-are_reduced.false))

pub returns-clause-once : goal.returns-clause-once
returns-clause-once c e = subst (λ h. AreOnce h.written) c.apart.view_is (c.are_once.ensures c.if-not-are_once.false)

pub returns-clause-whole : goal.returns-clause-whole
returns-clause-whole c e =
    let m = c.args.frame.now.memory in
    subst (λ h. AllByRecursion (IsWhole m) h.written) c.apart.view_is (all-whole m c.apart.inside.written.now (c.have_elements.ensures c.if-not-have_elements.false))

-- The arrays come back, then what the worker of the last index has left, and then the words of reduce variables.
use Rattle.std.proofs.Common.{◌≡◌, [], None, map, subst, sym, ap, ◌∙◌}
use Rattle.std.specs.List.{AllByRecursion}
use Rattle.dpl_sets.specs.Indices.{indices}
use Rattle.dpl_map.specs.Maps.{owner}
use Rattle.dpl_memory.specs.Memory.{intents_by_slot}
use Rattle.dpl_nodes.specs.Steps.{intent_view}
use Rattle.dpl_apart.specs.Apart.{last_index}
use Rattle.dpl_frame.specs.Frames.{with_memory}
use Rattle.dpl_workers.specs.declared.plan.Plan.{Plan}
use Rattle.dpl_workers.specs.Taken.{ArePieces, AllStay, given_back}
use Rattle.dpl_workers.specs.Joined.{words_left, words_behind}
use Rattle.dpl_workers.specs.Foralls.{with_last, put_together}
use Rattle.std.specs.Vec.{with_items}
use Rattle.std.proofs.lemmas.List.{with_items_is}
use Rattle.dpl_workers.proofs.Foralls.{stay-long, took-last, put-steps}
use Rattle.dpl_workers.proofs.WorkerEnds.{words-behind}
use Rattle.dpl_workers.proofs.plan.put_together.Goals as goal
use Rattle.dpl_workers.proofs.plan.put_together.Goals.{in-Some, in_default}

pub returns-clause-together : goal.returns-clause-together
returns-clause-together g c =
    let owns = owner c.args.site.now.map.now in
    let last = last_index None (indices c.args.site.now.whole.now) in
    let a = c.plan.inside.0.0 in
    let ps = intents_by_slot (map intent_view a.reduced.now) in
    let ws = c.args.worked.items in
    let m = c.args.frame.now.memory in
    let given : c.give_back.new.frame ≡ with_memory (given_back c.args.taken.items ws m) c.args.frame.now =
    c.in_ok-give_back.ensures.memory ∙ ap (λ ws. with_memory (given_back c.args.taken.items ws m) c.args.frame.now) c.deref_mut.ensures.value in
    let left : c.deref-2.result.now ≡ words_left ps ws m =
    c.deref-2.ensures.value ∙ c.in_ok-words.ensures ∙ (λ i. words_behind (c.new.ensures.items i) ps (c.deref.ensures.value i) m) ∙ words-behind [] ps ws m in
    let took : c.match-last.frame ≡ with_memory (with_last owns last ws c.give_back.new.frame.memory) c.give_back.new.frame =
    elim c.match-last.branch [
      | in-Some w ↦
          let stay = c.in_ok-give_back.ensures.stay in
          let back = with_items_is c.args.worked c.give_back.new.worked (stay-long c.deref_mut.result.now c.give_back.new.worked stay ∙ c.deref_mut.ensures.len) in
          w.frame-is
          ∙ took-last owns last w.in-Some.index w.owner.result ws (with_items c.args.worked c.give_back.new.worked).items c.give_back.new.frame w.take_left.new.frame
          (sym c.last.ensures ∙ w.in-Some.is) w.owner.ensures.owner (subst (λ vs. AllStay ws vs) (sym back) (subst (λ ws. AllStay ws c.give_back.new.worked) c.deref_mut.ensures.value stay)) w.take_left.ensures
      | in_default w ↦ w.frame-is ∙ ap (λ l. with_memory (with_last owns l ws c.give_back.new.frame.memory) c.give_back.new.frame) (sym w.in_default.is ∙ c.last.ensures)
    ] in
    subst (λ (p : Plan). c.set_words.new.frame ≡ with_memory (put_together p.apart owns last c.args.taken.items ws m) c.args.frame.now) c.plan.view_is
    (put-steps (record { rank = a.rank; written = a.written.now; reduced = ps; numbers = a.numbers.now; ranges = a.ranges.now; tuples = a.tuples.now })
    owns last c.args.taken.items ws c.deref-2.result.now c.args.frame.now c.give_back.new.frame c.match-last.frame c.set_words.new.frame left given took c.set_words.ensures)

pub returns-clause-pieces : goal.returns-clause-pieces
returns-clause-pieces g c = subst (λ ws. AllByRecursion (λ t. ArePieces ws t.slot) c.args.taken.items) c.deref_mut.ensures.value c.in_ok-give_back.ensures.pieces

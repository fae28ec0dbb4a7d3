-- What is put along the rest of the row is put along the row behind the words before.
-- These are the answers to the goals of `put_along`.
use Rattle.std.proofs.Common.{◌≡◌, ◌+◌, length, ap, subst, arith}
use Rattle.std.proofs.lemmas.List.{length-drop}
use Rattle.dpl_elements.proofs.PutAlong.{all-left, frame_put, both-put, both-there}
use Rattle.dpl_elements.proofs.row.put_along.Goals as goal

pub loop-made-preserved : goal.loop-made-preserved
loop-made-preserved g c =
    let before = c.loop-made.invariant in
    let slot = c.args.slot in
    let at = c.args.at in
    let rest = c.in-Some.rest in
    let words = c.args.words.now in
    let made = c.loop-made.made in
    let more = c.put_run-more.result in
    let f = c.args.frame.now in
    let now = c.loop-made.frame in
    let few = c.put_run-more.ensures.most in
    record {
      within = omega (arith, few, ap length (all-left made words), length-drop made words, before.within);
      there = both-there slot at rest words made more c.in-Some.ensures f now before.changes before.there c.put_run-more.ensures.there;
      changes = both-put slot at rest words made more c.in-Some.ensures f now c.put_run-more.new.self before.changes c.put_run-more.ensures.changes;
    }

pub returns-then-more-eq0-clause-changes : goal.returns-then-more-eq0-clause-changes
returns-then-more-eq0-clause-changes g c =
    let before = c.loop-made.invariant in
    let made = c.loop-made.made in
    let f = c.args.frame.now in
    let same : made + c.put_run-more.result ≡ made = omega (arith, c.if-more-eq0.true) in
    subst (λ n. c.put_run-more.new.self ≡ frame_put c.args.slot c.args.at c.args.words.now n f) same
    (both-put c.args.slot c.args.at c.in-Some.rest c.args.words.now made c.put_run-more.result c.in-Some.ensures f c.loop-made.frame c.put_run-more.new.self before.changes c.put_run-more.ensures.changes)

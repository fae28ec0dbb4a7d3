-- Words that are put side by side are what the store leaves in as many turns.
-- These are the answers to the goals of `put_words`.
use Rattle.std.proofs.Common.{◌≡◌, ◌≤◌, length, sym, ap, ◌∙◌, arith, rules}
use Rattle.dpl_memory.specs.Memory.{array_at, with_array}
use Rattle.dpl_frame.specs.Frames.{with_memory}
use Rattle.dpl_strips.proofs.Strips.{take-few}
use Rattle.dpl_batches.proofs.Stores.{turns-put, taken-put}
use Rattle.dpl_batches.proofs.store.put_words.Goals as goal

pub loop-k-init : goal.loop-k-init
loop-k-init g c =
    let f = c.args.frame.now in
    let x = c.args.store.now in
    let made = c.put_run-made.result in
    let long : length x.words ≡ 64 = search rules in
    let few : made ≤ c.args.size = omega (arith, c.put_run-made.ensures.most, take-few c.args.size x.words) in
    c.put_run-made.ensures.changes
    ∙ ap (λ a. with_memory (with_array x.slot a f.memory) f) (taken-put x.at x.words c.args.size made (array_at x.slot f.memory) few)
    ∙ ap (λ m. with_memory m f) (sym (turns-put x made f.memory (omega (arith, few, long, c.requires.cap)) c.requires.made c.requires.puts))

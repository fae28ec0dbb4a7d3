-- Before the last variable, or the last word, none is set.
use Rattle.std.proofs.Common.{ℤ, List, sym, ap, arith}
use Rattle.dpl_memory.specs.Memory.{Memory}
use Rattle.dpl_frame.specs.Frames.{with_memory}
use Rattle.dpl_workers.proofs.Intents.{words-none}
use Rattle.dpl_workers.proofs.joined.set_words.Goals as goal

pub loop-k-init : goal.loop-k-init
loop-k-init c =
    let f = c.args.frame.now in
    let m : Memory = f.memory in
    ap (λ (numbers : List ℤ). with_memory (record m { words = record m.words { numbers = numbers } }) f)
    (sym (words-none c.args.intents.now c.args.words.now c.min-k.result m.words.numbers (λ some more. omega (arith, some, more, c.min-k.ensures))))

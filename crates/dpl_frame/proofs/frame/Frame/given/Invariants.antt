use Rattle.std.proofs.Common.{◌≡◌, drop}
use Rattle.dpl_words.specs.Words.{set_at}
use Rattle.dpl_frame.proofs.frame.Frame.given.Given as goal

-- what is left to look through gives what all gives
abbrev pub invariant-loop-set : goal.invariant-loop-set
invariant-loop-set g l = set_at l.slot (drop l.set-index l.self.memory.words.sets) ≡ set_at l.slot l.self.memory.words.sets

-- What the workers that are left have added to the word so far, all have added to the first word.
use Rattle.std.proofs.Common.{◌≡◌, drop}
use Rattle.dpl_workers.specs.Joined.{word_left}
use Rattle.dpl_workers.proofs.joined.joined.Given as goal

abbrev pub invariant-loop-one : goal.invariant-loop-one
invariant-loop-one l = word_left (l.slot, l.op) (drop l.one-index l.worked) l.word ≡ word_left (l.slot, l.op) l.worked l.initial.word

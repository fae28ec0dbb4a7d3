-- The words so far, and those of the sets that are left, are the words of all.
use Rattle.std.proofs.Common.{◌≡◌, ◌++◌, map, drop}
use Rattle.dpl_given.specs.Words.{words_in}
use Rattle.dpl_given.proofs.sets.given.Given as goal

abbrev pub invariant-loop-set : goal.invariant-loop-set
invariant-loop-set l =
    l.words.items ++ words_in l.scopes (map (λ set. set.now) (drop l.set-index l.sets)) ≡ words_in l.scopes (map (λ set. set.now) l.sets)

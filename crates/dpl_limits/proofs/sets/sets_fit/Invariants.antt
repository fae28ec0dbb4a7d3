-- The sets so far fit, and what is left fits behind their names, if all do.
use Rattle.std.proofs.Common.{◌≡◌, [], List, map, drop}
use Rattle.dpl_language.specs.Names.{Text}
use Rattle.dpl_rules.specs.Sound.{sets_fit}
use Rattle.dpl_limits.specs.Sets.{AreNames}
use Rattle.dpl_limits.proofs.sets.sets_fit.Given as goal

abbrev pub invariant-loop-set : goal.invariant-loop-set
invariant-loop-set l =
    (earlier : List Text) × AreNames l.names earlier
    × (sets_fit l.scopes earlier (map (λ set. set.now) (drop l.set-index l.sets)) ≡ sets_fit l.scopes [] (map (λ set. set.now) l.sets))

-- Of the arrays from one on the locale's pieces are taken out, and each is in its slot; those before are as they were.
use Rattle.std.proofs.Common.{◌≡◌, ℕ, length, List, [], ◌∷◌, ◌++◌, map, take, drop, get_or}
use Rattle.dpl_frame.specs.declared.share.Share.TheVariants.{Lent}
use Rattle.dpl_workers.specs.Taken.{AreThere, share_of, lacking}
use Rattle.dpl_workers.proofs.jobs.own_of.Given as goal

abbrev pub invariant-loop-k : goal.invariant-loop-k
invariant-loop-k l = let from = drop l.k l.initial.taken in record {
  taken : l.taken ≡ take l.k l.initial.taken ++ map (lacking (l.locale ∷ [])) from;
  there : AreThere l.locale from;
  own : (slot : ℕ) → get_or l.own.items slot Lent ≡ share_of l.locale slot from;
}

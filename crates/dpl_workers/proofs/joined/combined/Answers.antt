-- A sum wraps, as the language's does.
use Rattle.std.proofs.Common.{rules}
use Rattle.std.proofs.lemmas.Int.{wraps}
use Rattle.dpl_workers.proofs.joined.combined.Goals as goal

pub returns-in-Sum : goal.returns-in-Sum
returns-in-Sum c = search (rules, wraps)

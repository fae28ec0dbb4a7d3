-- What clap finds by the command that is built is what it finds by the command line, which is a simple one.
use Rattle.std.proofs.Common.{map, refl, subst}
use Rattle.clap.specs.Words.{HasMatchesOf}
use Rattle.dpl_settings.specs.CommandLine.{found}
use Rattle.dpl_settings.proofs.command.matches.Goals as goal

pub returns-in-Ok-clause-found : goal.returns-in-Ok-clause-found
unfolding found
returns-in-Ok-clause-found c =
    (subst (λ a. HasMatchesOf a (map (λ w. w.now) c.args.words.now) c.in-Ok.matches) c.in_ok-command.ensures c.in-Ok.ensures.matches refl).0

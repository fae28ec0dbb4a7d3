-- A turn that is made asks no gate, so that it isn't told as a refused entry.
use Rattle.std.proofs.Common.{◌≡◌, refl, subst}
use Rattle.std.specs.Prelude.{IfErr}
use Rattle.dpl_language.specs.Outcome.{no_deeds}
use Rattle.dpl_loop.proofs.Ends.{named-asked}
use Rattle.dpl_loop.proofs.loops.entered.Goals as goal

pub returns-in-Err-clause-unmade : goal.returns-in-Err-clause-unmade
returns-in-Err-clause-unmade g c is =
    let refused = subst (λ r. IfErr r (λ e. c.in_turn.result ≡ e)) is refl in
    let run = g.T.Turns.turn c.args.turns.now c.args.frame.now.limits c.args.index c.args.frame.now.memory no_deeds in
    absurd (named-asked c.args.index c.in-Err.stop c.in_turn.result c.make.new.frame.memory no_deeds run (c.in-Err.ensures.ends no_deeds) c.in_turn.ensures refused)

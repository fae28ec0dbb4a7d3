-- A run by the sets that were handed on, and by the settings that were made, is one by these sets and these settings.
use Rattle.std.proofs.Common.{◌≡◌, ℕ, List, map, ap, subst, Err}
use Rattle.dpl_language.specs.Environment.{Limits}
use Rattle.dpl_run.specs.Headline.{Says}
use Rattle.dpl_outcome.specs.Settings.{limits_of}
use Rattle.dpl_command.specs.Asked.{settings_of}
use Rattle.dpl_command.proofs.Reading.{IsRunOf-refused}
use Rattle.dpl_command.proofs.run.run_bytes.Goals as goal

by_equals : (P : List (List ℕ) → Limits → Type 0) (sets words : List (List ℕ)) (limits by : Limits) → sets ≡ words → limits ≡ by → P sets limits → P words by
by_equals P sets words limits by same also h = subst (P words) also (subst (λ s. P s limits) same h)

pub returns-in-Ok : goal.returns-in-Ok
returns-in-Ok g c =
    let w = c.in-Ok.ensures.written in (
      w.0,
      w.1,
      by_equals (λ s l. Says c.args.text.now s l c.in-Ok.outcome w.0) _ _ _ _
          (ap (map (λ set. set.now)) c.as_slice-sets.ensures.value) (ap limits_of c.config_of-config.ensures) w.2,
    )

pub returns-in-Err : goal.returns-in-Err
returns-in-Err g c = IsRunOf-refused c.args.text.now (map (λ set. set.now) c.args.asked.now.sets.items) (settings_of c.args.asked.now) _ _ c.in-Err.refused
    (λ p. (c.in-Err.ensures.memory (ap Err p)).0)
    (λ p. (c.in-Err.ensures.thread (ap Err p)).0)
    (λ p. let may = (c.in-Err.ensures.gate (ap Err p)).0 in may.2)
    (λ p. let w = (c.in-Err.ensures.writer (ap Err p)).1 in (
      w.0,
      w.1,
      by_equals (λ s l. Says c.args.text.now s l w.0 w.1) _ _ _ _
          (ap (map (λ set. set.now)) c.as_slice-sets.ensures.value) (ap limits_of c.config_of-config.ensures) w.2,
      w.3,
    ))

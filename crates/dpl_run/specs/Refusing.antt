-- What the private parts of a run say of a text that comes to no end of a run.
-- That memory ran out says nothing of the text.
use Rattle.std.specs.Prelude.{◌≡◌, ℕ, List, [], ◌∷◌, ◌++◌}
use Rattle.dpl_syntax.specs.declared.refusal.Refusal.{Refusal}
use Rattle.dpl_syntax.specs.declared.stop.Stop.{Stop}
use Rattle.dpl_syntax.specs.declared.stop.Stop.TheVariants as stage
use Rattle.dpl_syntax.specs.Lines.{refusal_text}
use Rattle.dpl_outcome.specs.declared.outcome.Outcome.{Outcome}
use Rattle.dpl_outcome.specs.declared.outcome.Outcome.TheVariants.{Rejected}
use Rattle.dpl_outcome.specs.declared.refused.Refused.{Refused}
use Rattle.dpl_outcome.specs.declared.refused.Refused.TheVariants as refused
use Rattle.dpl_run.specs.Headline.{IsRefused}

-- a refusal is the text's
abbrev pub IsCause : List ℕ → List (List ℕ) → Stop → Type 0
IsCause text sets (stage.Refused r) = IsRefused text sets r
IsCause text sets stage.Memory = Unit {0}

-- a refusal's line alone
abbrev pub IsRejection : Refusal → Outcome → List ℕ → Type 0
IsRejection r o said = (o ≡ Rejected r) × (said ≡ refusal_text r ++ 10 ∷ [])

-- why a run came to no outcome before anything was written: memory ran out, a worker was not started, or a gate refused an entry, as it
-- may
abbrev pub IsUnwritten : Type 0 → Refused → Type 0
IsUnwritten may refused.Memory = Unit {0}
IsUnwritten may refused.Thread = Unit {0}
IsUnwritten may refused.Gate = may
IsUnwritten may refused.Writer = ⊥

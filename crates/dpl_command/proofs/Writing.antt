-- Writes that are cut off.
use Rattle.std.proofs.Common.{◌≡◌, sym, subst, ℕ, Bool, true, List, Option, Result, Ok, Err}
use Rattle.std.specs.Prelude.{IfErr, OnErr}
use Rattle.dpl_outcome.specs.declared.refused.Refused.{Refused}
use Rattle.dpl_outcome.specs.declared.refused.Refused.TheVariants.{Writer}
use Rattle.dpl_outcome.specs.Writers.{Partly}
use Rattle.dpl_command.specs.Ending.{IsCutBy}

-- what a writer failed to take whole
pub cut_all : (bytes : List ℕ) (old new : Option (List ℕ)) (failed : Bool) (r : Result Unit Refused)
    → OnErr r (Partly old new bytes) → OnErr r (failed ≡ true) → IfErr r (λ e. e ≡ Writer) → IfErr r (IsCutBy bytes old new failed)
cut_all bytes old new failed (Ok u) partly fails writer = tt
cut_all bytes old new failed (Err e) partly fails writer = subst (IsCutBy bytes old new failed) (sym writer) (fails, partly)

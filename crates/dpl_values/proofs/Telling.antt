-- What walks hand back, by what they tell.
use Rattle.std.proofs.Common.{◌≡◌, ℕ, Result, Err, sym, subst, ap, ◌∙◌}
use Rattle.dpl_language.specs.Values.{Fault, InNone, in_the_turn}
use Rattle.dpl_frame.specs.declared.fault.Turn.{Turn}
use Rattle.dpl_frame.specs.Frames.{Framed}
use Rattle.dpl_frame.specs.Faults.{Halt, Faulted, Tells, turn_view}
use Rattle.dpl_values.specs.Reductions.{MayRefuseReduction}

module _ {A B : Type 0} (may : Type 0) (value : A → B) (t : Turn) where
  -- a fault in no turn is told
  pub told : (h : Halt) (f : Fault) (v : Result B Fault) → h ≡ Faulted f → turn_view t ≡ InNone → v ≡ Err (in_the_turn InNone f) → Tells may value t (Err h) v
  told h f v is none e = subst (λ h. Tells may value t (Err h) v) (sym is) (e ∙ ap (λ t. Err (in_the_turn t f)) (sym none))

-- a reduction in a part is one in the whole
pub refused-within : (may : ℕ → ℕ → Type 0) (f : Framed) (part whole : (ℕ → Type 0) → Type 0) → ((Holds : ℕ → Type 0) → whole Holds → part Holds) → MayRefuseReduction may f part → MayRefuseReduction may f whole
refused-within may f part whole go (some, refused) = (some, λ all. refused (go _ all))

-- Turns that do nothing: in order they leave the memory as it is, and they may be made apart.
use Rattle.std.proofs.Common.{◌≡◌, ℕ, List, [], ◌∷◌, refl}
use Rattle.dpl_language.specs.Values.{Index}
use Rattle.dpl_language.specs.Outcome.{Deeds, Done, in_order}
use Rattle.dpl_language.specs.Environment.{Limits}
use Rattle.dpl_language.specs.Loops.{named_turn}
use Rattle.dpl_memory.specs.Memory.{Memory}
use Rattle.dpl_apart.specs.Memories.{MayBeApart, held_in}
use Rattle.dpl_turns.proofs.Begins.{begins}
use Rattle.dpl_turns.proofs.Ends.{may_be_apart}
use Rattle.dpl_turns.proofs.Quiet.{quiet-done}
use Rattle.dpl_elements.specs.declared.whole.WholeTurns.TheVariants.{Made}
use Rattle.dpl_elements.specs.Wholes.{whole_turn, no_changes}

pub in_order-made : (limits : Limits) (rank : ℕ) (ts : List Index) (s : Memory) (done : Deeds) → in_order (named_turn (whole_turn (Made rank) limits)) ts s done ≡ Done s done
in_order-made limits rank [] s done = refl
in_order-made limits rank (t ∷ ts) s done = in_order-made limits rank ts s done

pub made-apart : (limits : Limits) (rank : ℕ) → MayBeApart (no_changes rank) (whole_turn (Made rank) limits)
made-apart limits rank =
    may_be_apart (no_changes rank) (whole_turn (Made rank) limits) (λ t. t) (λ t of_rank. refl)
    (λ t. quiet-done (λ s. s) (λ s. refl))
    (λ t first second formed_first formed like last rows row words its exact. (
      held_in (no_changes rank) second last rows words,
      begins (no_changes rank) t first second formed_first formed like [] [] [] (λ j. refl) (λ j. refl) (λ j. refl) last rows row words its exact,
      refl,
    ))

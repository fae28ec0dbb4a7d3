-- An int or a truth value is shown like itself.
-- Each lemma has what is shown on its left side.
use Rattle.std.proofs.Common.{◌≡◌, ℤ, Bool, Option, Some, None, refl}
use Rattle.dpl_language.specs.Tree.{Placed}
use Rattle.dpl_language.specs.Values.{Int, Truth}
use Rattle.dpl_language.specs.Printing.{printed}
use Rattle.dpl_language.specs.Environment.{Limits}
use Rattle.dpl_language.specs.Writing.{shown}
use Rattle.dpl_memory.specs.Memory.{Variable, Memory, in_memory}

pub shown_int : (limits : Limits) (b : Option (Placed Variable)) (n : ℤ) (s : Memory) → shown limits in_memory b (Int n) s ≡ printed (Int n)
shown_int limits None n s = refl
shown_int limits (Some x) n s = refl

pub shown_truth : (limits : Limits) (b : Option (Placed Variable)) (v : Bool) (s : Memory) → shown limits in_memory b (Truth v) s ≡ printed (Truth v)
shown_truth limits None v s = refl
shown_truth limits (Some x) v s = refl

-- The element at an index is the value that its word is.
use Rattle.std.proofs.Common.{◌≡◌, ℤ, List, Option, Some, None, Result, Ok, Err, option_map, ap}
use Rattle.dpl_syntax.specs.declared.place.Place.{Place}
use Rattle.dpl_language.specs.Tree.{Kind}
use Rattle.dpl_language.specs.Values.{Value, Fault, index_of}
use Rattle.dpl_language.specs.Outcome.{with_ok}
use Rattle.dpl_language.specs.Expressions.{found}
use Rattle.dpl_memory.specs.Memory.{Held, element_as, held_at}
use Rattle.dpl_values.specs.Elements.{word_found}

module _ (k : Kind) (at : Place) (n : ℤ) where
  word-found : (o : Option ℤ) → word_found at o ≡ Ok n → with_ok (found at (option_map (element_as k) o)) (λ w. Ok w) ≡ Ok (element_as k n)
  word-found None e = absurd cc
  word-found (Some w) e = let same : w ≡ n = cc in ap (λ w. Ok (element_as k w)) same

  pub element-found : (held : Held) (items : Result (List Value) Fault) → with_ok items (λ vs. word_found at (held_at (index_of vs) held)) ≡ Ok n
      → with_ok (with_ok items (λ vs. found at (option_map (element_as k) (held_at (index_of vs) held)))) (λ w. Ok w) ≡ Ok (element_as k n)
  element-found held (Ok vs) e = word-found (held_at (index_of vs) held) e
  element-found held (Err f) e = absurd cc

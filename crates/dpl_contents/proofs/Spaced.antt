-- What is listed of an array: its first element behind a space, and then the others.
use Rattle.std.proofs.Common.{◌≡◌, ℕ, ℤ, List, [], ◌∷◌, ◌++◌, refl, ap, take, drop}
use Rattle.std.proofs.lemmas.List.{append-nil}
use Rattle.dpl_language.specs.Tree.{Kind}
use Rattle.dpl_language.specs.Printing.{printed}
use Rattle.dpl_memory.specs.Memory.{element_as}
use Rattle.dpl_array.specs.Elements.{Elements}
use Rattle.dpl_contents.specs.Arrays.{words_of}
use Rattle.dpl_contents.specs.Layout.{texts_of, spaced}

abbrev pub listed : Kind → Elements ℤ → List ℕ
listed kind es = spaced (texts_of kind (words_of es))

pub spaced_next : (kind : Kind) (es : Elements ℤ) → spaced (texts_of kind (words_of (take 1 es))) ++ spaced (texts_of kind (words_of (drop 1 es))) ≡ spaced (texts_of kind (words_of es))
spaced_next kind [] = refl
spaced_next kind (e ∷ es) = ap (λ t. 32 ∷ t ++ listed kind es) (append-nil (printed (element_as kind e.1)))

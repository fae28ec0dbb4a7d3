-- A piece of an array, of which some elements are there; and slots that begin anew with a declaration.
-- Rows: the piece of 2 and 3 of an array over 1..4, and a memory of three slots.
use Rattle.std.proofs.Common.{◌≡◌, [], ◌∷◌, pos, refl, Some, None}
use Rattle.std.specs.Prelude.{get_or}
use Rattle.dpl_language.specs.Ranges.{unstrided}
use Rattle.dpl_language.specs.Values.{Int}
use Rattle.dpl_language.specs.Environment.{Plain}
use Rattle.dpl_words.specs.Words.{IntLeaf, no_range}
use Rattle.dpl_language.specs.Distributions.{no_root}
use Rattle.dpl_memory.specs.Memory.{PlainKind, Held, Memory, no_tuple, no_domain, no_array, held_at, held_with, declared}

abbrev piece : Held
piece = record { ranges = unstrided (pos 1) (pos 4) ∷ []; keys = (pos 2 ∷ []) ∷ (pos 3 ∷ []) ∷ []; words = pos 20 ∷ pos 30 ∷ [] }

own_element : held_at (pos 3 ∷ []) piece ≡ Some (pos 30)
own_element = refl

-- an index of the array's domain that the piece doesn't have is as one past the domain
no_element : held_at (pos 4 ∷ []) piece ≡ None
no_element = refl

own_word_put : held_with (pos 2 ∷ []) (pos 5) piece ≡ record piece { words = pos 5 ∷ pos 30 ∷ [] }
own_word_put = refl

nothing_put : held_with (pos 4 ∷ []) (pos 5) piece ≡ piece
nothing_put = refl

-- a turn's variable in slot 0, and a variable of its body in slot 1, where the turn before left 7
abbrev before : Memory
before = record {
  words = record { numbers = pos 1 ∷ pos 7 ∷ pos 9 ∷ []; ranges = no_range ∷ no_range ∷ no_range ∷ []; intents = []; sets = [] };
  domains = no_domain ∷ no_domain ∷ no_domain ∷ [];
  tuples = no_tuple ∷ (pos 3 ∷ pos 4 ∷ []) ∷ no_tuple ∷ [];
  arrays = no_array ∷ no_array ∷ no_array ∷ [];
  roots = no_root ∷ no_root ∷ no_root ∷ [];
  cells = [];
  here = pos 0;
  coming = record { replies = None; histories = [] };
}

abbrev turn : Memory
turn = declared (record { kind = PlainKind IntLeaf; slot = 0; along = 1 ∷ []; cells = [] }) (Plain (Int (pos 2))) before

begun_anew : turn.words.numbers ≡ pos 2 ∷ pos 0 ∷ pos 9 ∷ []
begun_anew = refl

tuple_anew : get_or turn.tuples 1 [] ≡ no_tuple
tuple_anew = refl

-- with no slot along all else stays
left_there : (declared (record { kind = PlainKind IntLeaf; slot = 0; along = []; cells = [] }) (Plain (Int (pos 2))) before).words.numbers ≡ pos 2 ∷ pos 7 ∷ pos 9 ∷ []
left_there = refl

-- The words of an array's pieces, which are kept as finite maps from indices.
use Rattle.std.specs.Prelude.{◌≡◌, ℤ, Option, Some, None, List, map}
use Rattle.dpl_sets.specs.TextRanges.{TextRange}
use Rattle.dpl_sets.specs.TextDomains.{values_of}
use Rattle.dpl_memory.specs.Memory.{Held}
use Rattle.dpl_array.specs.Elements.{Elements, keys_of}
use Rattle.dpl_array.specs.Arrays.{PieceValue, PiecesValue, IsPiece, ArePieces}
use Rattle.dpl_contents.specs.Arrays.{words_of}
use Rattle.dpl_contents.specs.Domains.{AreWritten}
use Rattle.dpl_contents.specs.Parted.{Parted}

-- elements as an array over the domain with these ranges that has no others
abbrev pub held_piece : List TextRange → Elements ℤ → Held
held_piece ranges es = record { ranges = ranges; keys = keys_of es; words = words_of es }

-- the same of what stands in a locale's place
abbrev pub held_slot : List TextRange → Option (Elements ℤ) → Option Held
held_slot ranges None = None
held_slot ranges (Some es) = Some (held_piece ranges es)

abbrev pub held_pieces : List TextRange → PiecesValue ℤ → Parted
held_pieces ranges ps = record { ranges = ranges; axes = ps.map; pieces = map (held_slot ranges) ps.slots }

-- the piece is one of an array over the domain with these ranges
pub record IsPieceOver (ranges : List TextRange) (p : PieceValue ℤ) : Type 0 where
  pub domain : p.domain ≡ values_of ranges
  pub keys : IsPiece p
  pub written : AreWritten (values_of ranges)

-- the pieces are those of one
pub record ArePiecesOver (ranges : List TextRange) (ps : PiecesValue ℤ) : Type 0 where
  pub domain : ps.domain ≡ values_of ranges
  pub formed : ArePieces ps
  pub written : AreWritten (values_of ranges)

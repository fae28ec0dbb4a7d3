-- Arrays that are taken apart for workers: what stays of a memory, what is left of the pieces, and the arrays that come back.
use Rattle.std.specs.Prelude.{◌≡◌, ◌==◌, ◌<◌, if◌then◌else◌, ℕ, Option, Some, None, IsSome, List, [], ◌∷◌, map, get_or}
use Rattle.std.specs.List.{AllByRecursion}
use Rattle.dpl_map.specs.Maps.{AxisValue, owner, locales}
use Rattle.dpl_language.specs.Values.{Index}
use Rattle.dpl_language.specs.Ranges.{indices_in}
use Rattle.dpl_memory.specs.Memory.{Held, Memory, no_array, array_at, with_array}
use Rattle.dpl_contents.specs.Parted.{Parted, parted, piece_of, whole_of, with_piece}
use Rattle.dpl_frame.specs.declared.share.Share.{Share}
use Rattle.dpl_frame.specs.declared.share.Share.TheVariants.{Lent, Piece, Whole}
use Rattle.dpl_workers.specs.declared.job.Worked.{Worked}
use Rattle.dpl_workers.specs.declared.taken.Taken.{Taken}

-- BEFORE THE WORKERS
-- an array can be taken apart by a map: it has all elements of its domain, and each index has an owner
pub record IsCut (axes : List AxisValue) (m : Memory) (slot : ℕ) : Type 0 where
  pub whole : (array_at slot m).keys ≡ indices_in (array_at slot m).ranges
  pub owners : (t : Index) → owner axes t < locales axes

-- a memory without the arrays in some slots
abbrev pub emptied : List ℕ → Memory → Memory
emptied [] m = m
emptied (slot ∷ slots) m = emptied slots (with_array slot no_array m)

-- the array in a slot, taken apart by a map
abbrev pub taken_from : List AxisValue → Memory → ℕ → Taken
taken_from axes m slot = record { slot = slot; pieces = parted axes (array_at slot m) }

-- those in some slots
abbrev pub all_taken : List AxisValue → Memory → List ℕ → List Taken
all_taken axes m slots = map (taken_from axes m) slots

-- arrays were taken out of some slots of a memory, and apart by a map; another memory is what stays of it
pub record AreTaken (axes : List AxisValue) (slots : List ℕ) (m : Memory) (ts : List Taken) (n : Memory) : Type 0 where
  pub taken : ts ≡ all_taken axes m slots
  pub stays : n ≡ emptied slots m

-- each of them has a locale's piece
abbrev pub AreThere : ℕ → List Taken → Type 0
AreThere l ts = AllByRecursion (λ t. IsSome (piece_of l t.pieces)) ts

-- a locale's share in a slot: its piece of the array that was taken from there; where none was, it is lent
abbrev pub piece_share : Option Held → Share
piece_share None = Lent
piece_share (Some p) = Piece p

abbrev pub share_of : ℕ → ℕ → List Taken → Share
share_of l slot [] = Lent
share_of l slot (t ∷ ts) = if slot == t.slot then piece_share (piece_of l t.pieces) else share_of l slot ts

-- what is taken apart, without the pieces of some locales
abbrev pub without : List ℕ → Parted → Parted
without [] p = p
without (l ∷ ls) p = without ls (with_piece l None p)

abbrev pub lacking : List ℕ → Taken → Taken
lacking ls t = record { slot = t.slot; pieces = without ls t.pieces }

-- BEHIND THE WORKERS
-- what a worker has of its own in a slot is a piece
abbrev pub IsPieceShare : Share → Type 0
IsPieceShare Lent = ⊥
IsPieceShare (Piece p) = Unit {0}
IsPieceShare (Whole a) = ⊥

-- so it is of each worker
abbrev pub ArePieces : List Worked → ℕ → Type 0
ArePieces ws slot = AllByRecursion (λ (w : Worked). IsPieceShare (get_or w.own.items slot Lent)) ws

-- a share in a locale's place, if it is a piece
abbrev pub put_in : ℕ → Share → Parted → Parted
put_in l Lent p = p
put_in l (Piece q) p = with_piece l (Some (record q { ranges = p.ranges })) p
put_in l (Whole a) p = p

-- what workers hand back of a slot, in their places
abbrev pub all_put : ℕ → List Worked → Parted → Parted
all_put slot [] p = p
all_put slot (w ∷ ws) p = all_put slot ws (put_in w.locale (get_or w.own.items slot Lent) p)

-- a memory into whose slots the arrays come back
abbrev pub given_back : List Taken → List Worked → Memory → Memory
given_back [] ws m = m
given_back (t ∷ ts) ws m = given_back ts ws (with_array t.slot (whole_of (all_put t.slot ws t.pieces)) m)

-- what a worker has while its pieces are taken out: all else stays, and a piece that is still there is the one that was
pub record Stays (w v : Worked) : Type 0 where
  pub locale : v.locale ≡ w.locale
  pub words : v.words ≡ w.words
  pub ended : v.end ≡ w.end
  pub pieces : (slot : ℕ) → IsPieceShare (get_or v.own.items slot Lent) → get_or v.own.items slot Lent ≡ get_or w.own.items slot Lent

abbrev pub AllStay : List Worked → List Worked → Type 0
AllStay [] [] = Unit {0}
AllStay (w ∷ ws) (v ∷ vs) = Stays w v × AllStay ws vs
AllStay _ _ = ⊥

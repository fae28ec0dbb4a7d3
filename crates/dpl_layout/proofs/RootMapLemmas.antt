-- A map that a root gets is the value that `root_map` computes.
-- Each lemma has what is said of the map as its last premise.
use Rattle.std.proofs.Common.{◌≡◌, ◌≤ℤ◌, ◌&&◌, nat_eq, ℕ, ℤ, pos, Bool, true, false, if◌then◌else◌, int_le, List, [], ◌∷◌, All, Contains, length, fold, ⊎_elim, refl, sym, subst, ap, ◌∙◌, arith}
use Rattle.std.specs.Int.{int_min, int_max}
use Rattle.std.proofs.lemmas.Bool.{eq-eqb, eqb-true}
use Rattle.std.proofs.lemmas.Int.{ints, fold-int_min_bounds, fold-int_min_reached, fold-int_max_bounds, fold-int_max_reached}
use Rattle.std.proofs.lemmas.List.Elements.{All-nil, All-cons, All-head, All-tail, All-contains}
use Rattle.dpl_sets.specs.Ranges.{RangeValue, members_of, IsBound, is_bound}
use Rattle.dpl_sets.specs.Indices.{indices}
use Rattle.dpl_range.proofs.LimitLemmas.{is_bound-IsBound}
use Rattle.dpl_map.specs.Maps.{AxisValue, Block as BlockRule, IsBox, IsBlockMap, IsBlocksize, whole_map, cyclic_map, block_cyclic_map}
use Rattle.dpl_map.proofs.ListLemmas.{Contains-nothing, tells}
use Rattle.dpl_layout.specs.declared.maps.Maps.{Maps}
use Rattle.dpl_layout.specs.declared.maps.Maps.TheVariants as roots
use Rattle.dpl_layout.specs.declared.named.Named.{Named}
use Rattle.dpl_layout.specs.declared.named.Named.TheVariants.{Whole, Block, Cyclic, BlockCyclic}
use Rattle.dpl_layout.specs.Layouts.{LayoutValue, grid_of}
use Rattle.dpl_layout.specs.Roots.{AreBlocks, IsBlockOf, IsCyclicFrom, IsBlockCyclicFrom, IsLeastOf, IsCyclicOf, IsNamed, IsChosen, IsRootMap}
use Rattle.dpl_layout.specs.RootMaps.{least_of, greatest_of, box_axis, box_map, corner_of, unless_empty, are_bounds, are_blocksizes, block_over, cyclic_at, block_cyclic_at, named_map, chosen_map, root_map}

-- ENDS
one-end : (a b : ℤ) → a ≤ℤ b → b ≤ℤ a → a ≡ b
one-end a b below above = omega (arith, ints, below, above)

least-is : (is : List ℤ) (low : ℤ) → Contains is low → All (λ k. low ≤ℤ k) is → low ≡ least_of is
least-is [] low member least = absurd (Contains-nothing low member)
least-is (i ∷ is) low member least =
    let m = fold int_min i is in
    let bounds = fold-int_min_bounds i is m refl in
    let below : m ≤ℤ low = All-contains (λ k. m ≤ℤ k) (i ∷ is) low (All-cons (λ k. m ≤ℤ k) i is bounds.0 bounds.1) member in
    let above : low ≤ℤ m =
    ⊎_elim
    (λ first. subst (λ k. low ≤ℤ k) (sym first) (All-head (λ k. low ≤ℤ k) i is least))
    (λ later. All-contains (λ k. low ≤ℤ k) is m (All-tail (λ k. low ≤ℤ k) i is least) later)
    (fold-int_min_reached i is m refl) in
    one-end low m above below

greatest-is : (is : List ℤ) (high : ℤ) → Contains is high → All (λ k. k ≤ℤ high) is → high ≡ greatest_of is
greatest-is [] high member greatest = absurd (Contains-nothing high member)
greatest-is (i ∷ is) high member greatest =
    let m = fold int_max i is in
    let bounds = fold-int_max_bounds i is m refl in
    let below : high ≤ℤ m = All-contains (λ k. k ≤ℤ m) (i ∷ is) high (All-cons (λ k. k ≤ℤ m) i is bounds.0 bounds.1) member in
    let above : m ≤ℤ high =
    ⊎_elim
    (λ first. subst (λ k. k ≤ℤ high) (sym first) (All-head (λ k. k ≤ℤ high) i is greatest))
    (λ later. All-contains (λ k. k ≤ℤ high) is m (All-tail (λ k. k ≤ℤ high) i is greatest) later)
    (fold-int_max_reached i is m refl) in
    one-end high m below above

abbrev axis_from : ℕ → ℤ → ℤ → AxisValue
axis_from n low high = record { rule = BlockRule low high; extent = n }

box-is : (r : RangeValue) (n : ℕ) (low high : ℤ) → IsBox r low high → axis_from n low high ≡ box_axis (members_of r) n
box-is r n low high is =
    ap (λ low. axis_from n low high) (least-is (members_of r) low is.low_is_member is.low_is_least)
    ∙ ap (axis_from n (least_of (members_of r))) (greatest-is (members_of r) high is.high_is_member is.high_is_greatest)

block-is : (rs : List RangeValue) (ns : List ℕ) (m : List AxisValue) → IsBlockMap rs ns m → m ≡ box_map rs ns
block-is [] [] [] is = refl
block-is [] [] (a ∷ m) is = absurd is
block-is [] (n ∷ ns) m is = absurd is
block-is (r ∷ rs) [] m is = absurd is
block-is (r ∷ rs) (n ∷ ns) [] is = absurd is
block-is (r ∷ rs) (n ∷ ns) (a ∷ m) is =
    ap (λ (b : AxisValue). b ∷ m) (is.0.3 ∙ box-is r n is.0.0 is.0.1 is.0.2)
    ∙ ap (λ (z : List AxisValue). box_axis (members_of r) n ∷ z) (block-is rs ns m is.1)

corner-is : (rs : List RangeValue) (t : List ℤ) → IsLeastOf rs t → t ≡ corner_of rs
corner-is [] [] is = refl
corner-is [] (i ∷ t) is = absurd is
corner-is (r ∷ rs) [] is = absurd is
corner-is (r ∷ rs) (i ∷ t) is =
    ap (λ (k : ℤ). k ∷ t) (least-is (members_of r) i is.0.is_member is.0.is_least)
    ∙ ap (λ (u : List ℤ). least_of (members_of r) ∷ u) (corner-is rs t is.1)

-- TESTS
both-first : (a b : Bool) → (a && b) ≡ true → a ≡ true
both-first true b e = refl
both-first false b e = absurd (let no : false ≡ true = e in cc)

both-second : (a b : Bool) → (a && b) ≡ true → b ≡ true
both-second true b e = e
both-second false b e = absurd (let no : false ≡ true = e in cc)

both-true : (a b : Bool) → a ≡ true → b ≡ true → (a && b) ≡ true
both-true a b first second = ap (λ c. c && b) first ∙ second

bounds-all : (is : List ℤ) → are_bounds is ≡ true → All IsBound is
bounds-all [] e = All-nil IsBound
bounds-all (i ∷ is) e =
    All-cons IsBound i is ((is_bound-IsBound i).0 (both-first (is_bound i) (are_bounds is) e)) (bounds-all is (both-second (is_bound i) (are_bounds is) e))

all-bounds : (is : List ℤ) → All IsBound is → are_bounds is ≡ true
all-bounds [] all = refl
all-bounds (i ∷ is) all =
    both-true (is_bound i) (are_bounds is) ((is_bound-IsBound i).1 (All-head IsBound i is all)) (all-bounds is (All-tail IsBound i is all))

size-is : (size : ℤ) → int_le (pos 1) size ≡ true → IsBlocksize size
size-is size e = grind (arith, ints)

is-size : (size : ℤ) → IsBlocksize size → int_le (pos 1) size ≡ true
is-size size is = grind (arith, ints)

sizes-all : (is : List ℤ) → are_blocksizes is ≡ true → All IsBlocksize is
sizes-all [] e = All-nil IsBlocksize
sizes-all (i ∷ is) e =
    All-cons IsBlocksize i is
    (size-is i (both-first (int_le (pos 1) i) (are_blocksizes is) e))
    (sizes-all is (both-second (int_le (pos 1) i) (are_blocksizes is) e))

all-sizes : (is : List ℤ) → All IsBlocksize is → are_blocksizes is ≡ true
all-sizes [] all = refl
all-sizes (i ∷ is) all =
    both-true (int_le (pos 1) i) (are_blocksizes is) (is-size i (All-head IsBlocksize i is all)) (all-sizes is (All-tail IsBlocksize i is all))

abbrev as_many : List ℤ → List ℤ → Bool
as_many start sizes = nat_eq (length sizes) (length start)

abbrev are_blocks : List ℤ → List ℤ → Bool
are_blocks start sizes = are_bounds start && (as_many start sizes && are_blocksizes sizes)

blocks-are : (start sizes : List ℤ) → are_blocks start sizes ≡ true → AreBlocks start sizes
blocks-are start sizes e =
    let rest = both-second (are_bounds start) (as_many start sizes && are_blocksizes sizes) e in (
      bounds-all start (both-first (are_bounds start) (as_many start sizes && are_blocksizes sizes) e),
      eqb-true (length sizes) (length start) (both-first (as_many start sizes) (are_blocksizes sizes) rest),
      sizes-all sizes (both-second (as_many start sizes) (are_blocksizes sizes) rest),
    )

are-blocks : (start sizes : List ℤ) → AreBlocks start sizes → are_blocks start sizes ≡ true
are-blocks start sizes are =
    both-true (are_bounds start) (as_many start sizes && are_blocksizes sizes) (all-bounds start are.0)
    (both-true (as_many start sizes) (are_blocksizes sizes) (eq-eqb (length sizes) (length start) are.1) (all-sizes sizes are.2))

not-false : (b : Bool) → b ≡ true → b ≡ false → ⊥
not-false b is isnt = let e : true ≡ false = sym is ∙ isnt in cc

-- a map that is one where a test holds, and the whole map elsewhere
chosen-is : (P : Type 0) (b : Bool) (m some : List AxisValue) → (b ≡ true → P) → (P → b ≡ true) → (P → m ≡ some) → ((¬ P) → m ≡ whole_map) → m ≡ (if b then some else whole_map)
chosen-is P b m some holds told where_held elsewhere =
    ⊎_elim
    (λ is. where_held (holds is) ∙ sym (ap (λ c. if c then some else whole_map) is))
    (λ is. elsewhere (λ p. not-false b (told p) is) ∙ sym (ap (λ c. if c then some else whole_map) is))
    (tells b)

filled-is : (ts : List (List ℤ)) (m some : List AxisValue) → (ts ≡ [] → m ≡ whole_map) → ((ts ≡ [] → ⊥) → m ≡ some) → m ≡ unless_empty ts some
filled-is [] m some none filled = none refl
filled-is (t ∷ ts) m some none filled = filled (λ e. cc)

-- MAPS
module _ (l : LayoutValue) (m : List AxisValue) where
  block_over-is : (box : List RangeValue) → IsBlockOf l box m → m ≡ block_over l box
  block_over-is box is = filled-is (indices box) m (box_map box (grid_of l (length box))) is.empty (λ some. block-is box (grid_of l (length box)) m (is.some some))

  cyclic_at-is : (start : List ℤ) → IsCyclicFrom l start m → m ≡ cyclic_at l start
  cyclic_at-is start is = chosen-is (All IsBound start) (are_bounds start) m (cyclic_map start (grid_of l (length start))) (bounds-all start) (all-bounds start) is.within is.past

  block_cyclic_at-is : (start sizes : List ℤ) → IsBlockCyclicFrom l start sizes m → m ≡ block_cyclic_at l start sizes
  block_cyclic_at-is start sizes is =
      chosen-is (AreBlocks start sizes) (are_blocks start sizes) m (block_cyclic_map start sizes (grid_of l (length start)))
      (blocks-are start sizes) (are-blocks start sizes) is.blocks is.none

  cyclic_of-is : (d : List RangeValue) → IsCyclicOf l d m → m ≡ unless_empty (indices d) (cyclic_at l (corner_of d))
  cyclic_of-is d is =
      filled-is (indices d) m (cyclic_at l (corner_of d)) is.empty
      (λ some.
      let from = is.some some in
      cyclic_at-is from.0 from.2 ∙ ap (cyclic_at l) (corner-is d from.0 from.1))

  named-is : (named : Named) → IsNamed l named m → m ≡ named_map l named
  named-is Whole is = is
  named-is (Block box) is = block_over-is box is
  named-is (Cyclic start) is = cyclic_at-is start is
  named-is (BlockCyclic start sizes) is = block_cyclic_at-is start sizes is

  chosen_map-is : (maps : Maps) (named : Named) (d : List RangeValue) → IsChosen maps l named d m → m ≡ chosen_map l maps named d
  chosen_map-is roots.AsIs named d is = named-is named is
  chosen_map-is roots.Block named d is = block_over-is d is
  chosen_map-is roots.Cyclic named d is = cyclic_of-is d is

  -- a map that a root may get is this one
  pub root_map-is : (named : Named) (d : List RangeValue) → IsRootMap l named d m → m ≡ root_map l named d
  root_map-is named d is = chosen_map-is l.maps named d is

-- of what is neither a domain nor an array, by whichever layout
chosen_map-none : (l : LayoutValue) (maps : Maps) → chosen_map l maps Whole [] ≡ whole_map
unfolding indices
chosen_map-none l roots.AsIs = refl
chosen_map-none l roots.Block = refl
chosen_map-none l roots.Cyclic = refl

pub root_map-none : (l : LayoutValue) → root_map l Whole [] ≡ whole_map
root_map-none l = chosen_map-none l l.maps

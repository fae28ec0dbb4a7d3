-- A part's domains are few where the ranges of each dimension are.
use Rattle.std.proofs.Common.{◌≡◌, ◌≤◌, ◌<◌, ◌*◌, ℕ, zero, suc, List, [], ◌∷◌, ◌++◌, ℤ, pos, ◌≤ℤ◌, map, flat_map, length, All, Contains, Result, Ok, Err, IfOk, Bool, true, false, nat_eq, if◌then◌else◌, refl, ap, sym, subst, ◌∙◌, arith, ⊎_elim}
use Rattle.std.proofs.Math.Nat.{mul_assoc}
use Rattle.std.proofs.lemmas.Int.{ints}
use Rattle.std.proofs.lemmas.List.Elements.{All-nil, All-cons, All-head, All-tail, Contains-append_left, Contains-append_right}
use Rattle.dpl_sets.specs.Indices.{tuples}
use Rattle.dpl_domain.specs.Ranks.{last_of}
use Rattle.dpl_map.specs.Maps.{RuleValue, Block, Cyclic, BlockCyclic, AxisValue}
use Rattle.dpl_map.specs.Axes.{IsSingle, cut_rule}
use Rattle.dpl_map.specs.AxisFields.{IsAxis, IsRule}
use Rattle.dpl_map.specs.MapFields.{IsMap}
use Rattle.dpl_map.specs.Cuts.{behind}
use Rattle.dpl_map.specs.Counts.{rule_block, rule_offsets, AreFewRanges, AreFew, first_of, rest_of}
use Rattle.dpl_map.proofs.ValueLemmas.{IsWithinValues-more, IsWithinValues-length, IsWithinValues-none, IsWithinValues-one}
use Rattle.dpl_map.proofs.OwnerLemmas.{nat_eq-false}
use Rattle.dpl_map.proofs.ListLemmas.{Contains-cases, Contains-here, Contains-map, Contains-nothing, map-Contains}

-- what holds of a result by one clause and by another
pub IfOk-both : {X E : Type 0} (r : Result X E) (P Q : X → Type 0) → IfOk r P → IfOk r Q → IfOk r (λ x. P x × Q x)
IfOk-both (Ok x) P Q first second = (first, second)
IfOk-both (Err e) P Q first second = tt

-- an axis is cut by its rule, but where it has one coordinate
pub cut_rule-one : (axis : AxisValue) → axis.extent ≡ 1 → cut_rule axis ≡ Cyclic (pos 0)
cut_rule-one axis one = rw one refl

pub cut_rule-more : (axis : AxisValue) → (axis.extent ≡ 1 → ⊥) → cut_rule axis ≡ axis.rule
cut_rule-more axis more = rw (nat_eq-false axis.extent 1 more) refl

IsRule-cut : (axis : AxisValue) → IsAxis axis → IsRule (cut_rule axis)
IsRule-cut axis limits = go (nat_eq axis.extent 1)
  where
    go : (one : Bool) → IsRule (if one then Cyclic (pos 0) else axis.rule)
    go true = (omega (arith, ints), omega (arith, ints))
    go false = limits.rule

-- the blocks that an axis is cut by have some size
sized : (axis : AxisValue) → IsAxis axis → pos 1 ≤ℤ rule_offsets (cut_rule axis)
sized axis limits = go (cut_rule axis) (IsRule-cut axis limits)
  where
    go : (rule : RuleValue) → IsRule rule → pos 1 ≤ℤ rule_offsets rule
    go (Block low high) is = omega (arith, ints)
    go (Cyclic start) is = omega (arith, ints)
    go (BlockCyclic start size) is = is.1

pub All-axes : (rank : ℕ) (o m i : AxisValue) → IsMap rank o m i → All IsAxis (last_of rank o m i)
All-axes zero o m i is = All-nil IsAxis
All-axes (suc zero) o m i is = All-cons IsAxis i [] is.inner_limits (All-nil IsAxis)
All-axes (suc (suc zero)) o m i is = All-cons IsAxis m (i ∷ []) is.middle_limits (All-cons IsAxis i [] is.inner_limits (All-nil IsAxis))
All-axes (suc (suc (suc n))) o m i is =
    All-cons IsAxis o (m ∷ i ∷ []) is.outer_limits (All-cons IsAxis m (i ∷ []) is.middle_limits (All-cons IsAxis i [] is.inner_limits (All-nil IsAxis)))

-- no domain is few
pub AreFew-none : (axes : List AxisValue) (ts : List (List ℤ)) → All IsAxis axes → AreFew axes ts 0
AreFew-none [] ts some = omega arith
AreFew-none (axis ∷ axes) ts some = (
  0,
  0,
  (let size = sized axis (All-head IsAxis axis axes some) in omega (arith, ints, size), IsWithinValues-none (rule_block (cut_rule axis)) (map first_of ts)),
  AreFew-none axes (map rest_of ts) (All-tail IsAxis axis axes some),
  omega arith,
)

-- and one is where there is a tuple
AreFew-one : (axes : List AxisValue) (ts : List (List ℤ)) (t : List ℤ) → Contains ts t → All IsAxis axes → AreFew axes ts 1
AreFew-one [] ts t member some = omega arith
AreFew-one (axis ∷ axes) ts t member some = (
  1,
  1,
  (sized axis (All-head IsAxis axis axes some), IsWithinValues-one (rule_block (cut_rule axis)) (map first_of ts) (first_of t) (Contains-map first_of ts t member)),
  AreFew-one axes (map rest_of ts) (rest_of t) (Contains-map rest_of ts t member) (All-tail IsAxis axis axes some),
  omega arith,
)

pub AreFew-some : (axes : List AxisValue) (ts : List (List ℤ)) → 1 ≤ length ts → All IsAxis axes → AreFew axes ts 1
AreFew-some axes [] some limits = absurd (omega (arith, some))
AreFew-some axes (t ∷ ts) some limits = AreFew-one axes (t ∷ ts) t (Contains-here t ts) limits

map-among : {X Y : Type 0} (f : X → Y) (xs ys : List X) → ((x : X) → Contains xs x → Contains ys x) → (y : Y) → Contains (map f xs) y → Contains (map f ys) y
map-among f xs ys among y member =
    let at = map-Contains f xs y member in
    subst (Contains (map f ys)) at.2 (Contains-map f ys at.0 (among at.0 at.1))

-- what is few for some tuples is few for those and others
pub AreFew-more : (axes : List AxisValue) (ts us : List (List ℤ)) (n : ℕ) → ((t : List ℤ) → Contains ts t → Contains us t) → AreFew axes ts n → AreFew axes us n
AreFew-more [] ts us n among few = few
AreFew-more (axis ∷ axes) ts us n among few = (
  few.0,
  few.1,
  (few.2.0, IsWithinValues-more (rule_block (cut_rule axis)) (map first_of ts) (map first_of us) few.0 (map-among first_of ts us among) few.2.1),
  AreFew-more axes (map rest_of ts) (map rest_of us) few.1 (map-among rest_of ts us among) few.3,
  few.4,
)

-- a list of each dimension is in few ranges, so many together
abbrev pub FewEach : List AxisValue → List (List ℤ) → ℕ → Type 0
FewEach [] [] n = n ≡ 1
FewEach (axis ∷ axes) (is ∷ iss) n = (ranges : ℕ) × (rest : ℕ) × AreFewRanges (cut_rule axis) is ranges × FewEach axes iss rest × (n ≡ ranges * rest)
FewEach _ _ n = ⊥

pub FewEach-last_of : (rank : ℕ) (o m i : AxisValue) (os ms is : List ℤ) (a b c : ℕ) → 1 ≤ rank → rank ≤ 3 → (rank < 3 → a ≡ 1) → (rank < 2 → b ≡ 1) → AreFewRanges (cut_rule o) os a → AreFewRanges (cut_rule m) ms b → AreFewRanges (cut_rule i) is c → FewEach (last_of rank o m i) (last_of rank os ms is) (a * b * c)
FewEach-last_of zero o m i os ms is a b c some most first second outer middle inner = absurd (omega (arith, some))
FewEach-last_of (suc zero) o m i os ms is a b c some most first second outer middle inner =
    (c, 1, inner, refl, (let one : a ≡ 1 = first (omega arith) in let single : b ≡ 1 = second (omega arith) in rw (one, single) (omega arith)))
FewEach-last_of (suc (suc zero)) o m i os ms is a b c some most first second outer middle inner =
    (b, c, middle, (c, 1, inner, refl, omega arith), (let one : a ≡ 1 = first (omega arith) in rw one (ap (λ n. n * c) (let e : 1 * b ≡ b = omega arith in e))))
FewEach-last_of (suc (suc (suc zero))) o m i os ms is a b c some most first second outer middle inner =
    (a, b * c, outer, (b, c, middle, (c, 1, inner, refl, omega arith), refl), mul_assoc a b c)
FewEach-last_of (suc (suc (suc (suc n)))) o m i os ms is a b c some most first second outer middle inner = absurd (omega (arith, most))

-- where a row has no tuple, there is none behind its element
pub row-nothing : (i : ℤ) (rows rest : List (List ℤ)) → map (λ t. i ∷ t) rows ++ rest ≡ [] → rows ≡ []
row-nothing i [] rest none = refl
row-nothing i (t ∷ rows) rest none = absurd cc

-- where there is no tuple, some dimension has no range
FewEach-nothing : (axes : List AxisValue) (iss : List (List ℤ)) (n : ℕ) → tuples iss ≡ [] → FewEach axes iss n → n ≡ 0
FewEach-nothing [] [] n none each = absurd cc
FewEach-nothing [] (is ∷ iss) n none each = absurd each
FewEach-nothing (axis ∷ axes) [] n none each = absurd each
FewEach-nothing (axis ∷ axes) ([] ∷ iss) n none each =
    let few = IsWithinValues-length (rule_block (cut_rule axis)) [] each.0 each.2.1 in
    let zero_ranges : each.0 ≡ 0 = omega (arith, few) in
    each.4 ∙ ap (λ m. m * each.1) zero_ranges ∙ omega arith
FewEach-nothing (axis ∷ axes) ((i ∷ is) ∷ iss) n none each =
    let rest : each.1 ≡ 0 = FewEach-nothing axes iss each.1 (row-nothing i (tuples iss) (flat_map (λ i. map (λ t. i ∷ t) (tuples iss)) is) none) each.3 in
    each.4 ∙ ap (λ k. each.0 * k) rest ∙ omega arith

-- an element in front of a tuple
row-member : (is : List ℤ) (rows : List (List ℤ)) (i : ℤ) (t : List ℤ) → Contains is i → Contains rows t → Contains (flat_map (λ i. map (λ t. i ∷ t) rows) is) (i ∷ t)
row-member [] rows i t first rest = absurd (Contains-nothing i first)
row-member (j ∷ is) rows i t first rest =
    ⊎_elim
    (λ here.
    Contains-append_left (map (λ t. j ∷ t) rows) (flat_map (λ i. map (λ t. i ∷ t) rows) is) (i ∷ t)
    (subst (λ k. Contains (map (λ t. j ∷ t) rows) (k ∷ t)) here (Contains-map (λ t. j ∷ t) rows t rest)))
    (λ later. Contains-append_right (map (λ t. j ∷ t) rows) (flat_map (λ i. map (λ t. i ∷ t) rows) is) (i ∷ t) (row-member is rows i t later rest))
    (Contains-cases j is i first)

-- the products of few ranges of each dimension are few domains
pub AreFew-tuples : (axes : List AxisValue) (iss : List (List ℤ)) (n : ℕ) → All IsAxis axes → FewEach axes iss n → AreFew axes (tuples iss) n
AreFew-tuples [] [] n some each = omega (arith, each)
AreFew-tuples [] (is ∷ iss) n some each = absurd each
AreFew-tuples (axis ∷ axes) [] n some each = absurd each
AreFew-tuples (axis ∷ axes) ([] ∷ iss) n some each =
    subst (AreFew (axis ∷ axes) []) (sym (FewEach-nothing (axis ∷ axes) ([] ∷ iss) n refl each)) (AreFew-none (axis ∷ axes) [] some)
AreFew-tuples (axis ∷ axes) ((i ∷ is) ∷ iss) n some each = go (tuples iss) refl (AreFew-tuples axes iss each.1 (All-tail IsAxis axis axes some) each.3)
  where
    go : (rows : List (List ℤ)) → tuples iss ≡ rows → AreFew axes rows each.1 → AreFew (axis ∷ axes) (flat_map (λ i. map (λ t. i ∷ t) rows) (i ∷ is)) n
    go [] none few =
        let rest : each.1 ≡ 0 = FewEach-nothing axes iss each.1 none each.3 in
        let nothing : n ≡ 0 = each.4 ∙ ap (λ k. each.0 * k) rest ∙ omega arith in
        subst (AreFew (axis ∷ axes) (flat_map (λ i. map (λ t. i ∷ t) []) (i ∷ is))) (sym nothing) (AreFew-none (axis ∷ axes) (flat_map (λ i. map (λ t. i ∷ t) []) (i ∷ is)) some)
    go (t ∷ rows) is_rows few =
        let whole = flat_map (λ i. map (λ t. i ∷ t) (t ∷ rows)) (i ∷ is) in (
          each.0,
          each.1,
          (
            each.2.0,
            IsWithinValues-more (rule_block (cut_rule axis)) (i ∷ is) (map first_of whole) each.0
                (λ j first. Contains-map first_of whole (j ∷ t) (row-member (i ∷ is) (t ∷ rows) j t first (Contains-here t rows))) each.2.1,
          ),
          AreFew-more axes (t ∷ rows) (map rest_of whole) each.1
              (λ u rest. Contains-map rest_of whole (i ∷ u) (row-member (i ∷ is) (t ∷ rows) i u (Contains-here i is) rest)) few,
          omega (arith, each.4),
        )

single-offsets : (rule : RuleValue) → IsSingle rule → (z : ℤ) → z ≤ℤ pos 1 → z ≤ℤ rule_offsets rule
single-offsets (Block low high) single z few = few
single-offsets (Cyclic start) single z few = few
single-offsets (BlockCyclic start size) single z few = absurd single

-- by a rule by which a coordinate has its indices of a range in one range, that one is few
pub AreFewRanges-single : {P : Type 0} (rule : RuleValue) (is : List ℤ) (p : P) → IsSingle rule → AreFewRanges rule is (length (behind is p []))
AreFewRanges-single rule [] p single = (single-offsets rule single (pos 0) (omega (arith, ints)), IsWithinValues-none (rule_block rule) [])
AreFewRanges-single rule (i ∷ is) p single =
    (single-offsets rule single (pos 1) (omega (arith, ints)), IsWithinValues-one (rule_block rule) (i ∷ is) i (Contains-here i is))

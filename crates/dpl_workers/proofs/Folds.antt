-- The parts of a reduction's domain: what each comes to by itself, and what they come to together.
use Rattle.std.proofs.Common.{◌≡◌, ◌<◌, ◌≤◌, ◌==◌, ◌+◌, ◌-◌, ℕ, suc, ℤ, arith, Bool, true, false, nat_lt, get_or, List, [], ◌∷◌, Result, Ok, Err, refl, sym, subst, ap, ◌∙◌}
use Rattle.std.specs.Prelude.{if◌then◌else◌}
use Rattle.std.specs.List.{AllByRecursion, filter}
use Rattle.dpl_sets.specs.Ranges.{RangeValue}
use Rattle.dpl_sets.specs.Indices.{indices}
use Rattle.dpl_domain.proofs.DistinctLemmas.{AreRanges}
use Rattle.dpl_map.specs.Maps.{AxisValue, owner}
use Rattle.dpl_map.specs.Parts.{part}
use Rattle.dpl_language.specs.Tree.{Op}
use Rattle.dpl_language.specs.Values.{Value, Index, Fault, in_the_turn}
use Rattle.dpl_language.specs.Arithmetic.{combined, unit_of}
use Rattle.dpl_language.specs.Expressions.{folded}
use Rattle.dpl_frame.specs.declared.fault.Turn.{Turn}
use Rattle.dpl_frame.specs.Faults.{Halt, Faulted, Refused, OutOfMemory, Tells, turn_view}
use Rattle.dpl_apart.specs.Operands.{IsOperand}
use Rattle.dpl_apart.specs.Rows.{Ran, Finished, Failed, Loop, run, merge, numbered, place_in, either, AllAdd}
use Rattle.dpl_apart.specs.Folds.{adding, fold_loop, no_rows, fold_of}
use Rattle.dpl_apart.specs.Apart.{named_loop}
use Rattle.dpl_apart.proofs.Folds.{folded-run, fold-named, reduced-merged}
use Rattle.dpl_apart.proofs.Split.{adds-leaves, adds-fails}
use Rattle.dpl_apart.proofs.InOrder.{failed-at}
use Rattle.dpl_apart.proofs.Places.{indices-rising}
use Rattle.dpl_apart.proofs.Located.{among, numbered-apart}
use Rattle.dpl_workers.specs.Soonest.{spot_in}
use Rattle.dpl_loop.specs.Folds.{in_turns, OperandThen, AreOperands, FoldEnds}
use Rattle.dpl_workers.specs.PartFolds.{part_ran, parts_ran, ArePartOperands, PartsEnd, GoesFirst, IsBoth, IsNothing}

-- ---- where there are no rows
no-rows : (rows : Index → Unit {0}) → rows ≡ no_rows
no-rows rows = λ i t. tt

-- ---- operands are what may be put together in any order
pub operands-add : (op : Op) (value : Index → Result Value Fault) (place : Index → ℕ) (ts : List Index) → AreOperands op value ts → AllAdd (IsOperand op) (fold_loop op value place) ts no_rows
operands-add op value place [] h = tt
operands-add op value place (t ∷ ts) h =
    elim (value t) as (λ r. value t ≡ r → AllAdd (IsOperand op) (fold_loop op value place) (t ∷ ts) no_rows) [
      | Ok v ↦ λ e.
          let both : IsOperand op v × AreOperands op value ts = subst (λ r. OperandThen op r (AreOperands op value ts)) e h in
          adds-leaves (IsOperand op) (fold_loop op value place) t ts no_rows tt v (ap adding e) both.0 (operands-add op value place ts both.1)
      | Err f ↦ λ e. adds-fails (IsOperand op) (fold_loop op value place) t ts no_rows f (ap adding e)
    ] refl

-- ---- one part
module _ (op : Op) (meaning : Index → Result Value Fault) (whole : List RangeValue) (axes : List AxisValue) where
  abbrev loop : Loop (Unit {0}) Value
  loop = fold_loop op (in_turns meaning) (place_in (indices whole))

  ran-ok : (r : Ran (Unit {0}) Value) (v : Value) → fold_of r ≡ Ok v → r ≡ Finished no_rows v
  ran-ok (Finished rows w) v e = let same : w ≡ v = cc in ap (Finished no_rows) same
  ran-ok (Failed k f) v e = absurd cc

  ran-err : (r : Ran (Unit {0}) Value) (f : Fault) → fold_of r ≡ Err f → (k : ℕ) × (r ≡ Failed k f)
  ran-err (Finished rows w) f e = absurd cc
  ran-err (Failed k g) f e = let same : g ≡ f = cc in (k, ap (Failed k) same)

  -- a fault of a part stands at the place of its turn in the whole domain
  part-fails : (l : ℕ) (turn : Turn) (f : Fault) → fold_of (part_ran op (in_turns meaning) whole axes l) ≡ Err (in_the_turn (turn_view turn) f)
      → part_ran op (in_turns meaning) whole axes l ≡ Failed (spot_in (indices whole) (turn_view turn)) (in_the_turn (turn_view turn) f)
  part-fails l turn f e =
      let failed = ran-err (part_ran op (in_turns meaning) whole axes l) (in_the_turn (turn_view turn) f) e in
      let named : run (named_loop (fold_loop op meaning (place_in (indices whole)))) (part whole axes l) no_rows (unit_of op) ≡ Failed failed.0 (in_the_turn (turn_view turn) f) =
      ap (λ loop. run loop (part whole axes l) no_rows (unit_of op)) (sym (fold-named op meaning (place_in (indices whole)))) ∙ failed.1 in
      let at = failed-at (fold_loop op meaning (place_in (indices whole))) (part whole axes l) no_rows (unit_of op) failed.0 (in_the_turn (turn_view turn) f) named in
      let spot : failed.0 ≡ spot_in (indices whole) (turn_view turn) = at.2 ∙ ap (spot_in (indices whole)) (sym at.1) in
      failed.1 ∙ ap (λ k. Failed k (in_the_turn (turn_view turn) f)) spot

  -- what a worker tells of a part, by the part of the whole domain
  pub part-ends : {A : Type 0} → (may : Type 0) (as_value : A → Value) (l : ℕ) (ts : List Index) (turn : Turn) (r : Result A Halt) → ts ≡ part whole axes l
      → FoldEnds may as_value op (in_turns meaning) ts turn r
      → PartsEnd may as_value (indices whole) (part_ran op (in_turns meaning) whole axes l) (AreOperands op (in_turns meaning) (part whole axes l)) turn r
  part-ends may as_value l ts turn r is ends = by r (subst (λ ts. FoldEnds may as_value op (in_turns meaning) ts turn r) is ends) where
    ran : (v : Result Value Fault) → folded op (in_turns meaning) (part whole axes l) (unit_of op) ≡ v → fold_of (part_ran op (in_turns meaning) whole axes l) ≡ v
    ran v e = sym (folded-run op (in_turns meaning) (place_in (indices whole)) (part whole axes l) (unit_of op)) ∙ e

    by : (r : Result _ Halt) → FoldEnds may as_value op (in_turns meaning) (part whole axes l) turn r
        → PartsEnd may as_value (indices whole) (part_ran op (in_turns meaning) whole axes l) (AreOperands op (in_turns meaning) (part whole axes l)) turn r
    by (Ok a) ends = (ran-ok (part_ran op (in_turns meaning) whole axes l) (as_value a) (ran (Ok (as_value a)) ends.0), ends.1)
    by (Err (Faulted f)) ends = (part-fails l turn f (ran (Err (in_the_turn (turn_view turn) f)) ends.0), ends.1)
    by (Err Refused) ends = ends
    by (Err OutOfMemory) ends = tt

  -- a part without indices
  pub no-part : {A : Type 0} (may : Type 0) (as_value : A → Value) (l : ℕ) (turn : Turn) (a : A) → part whole axes l ≡ [] → as_value a ≡ unit_of op
      → PartsEnd may as_value (indices whole) (part_ran op (in_turns meaning) whole axes l) (AreOperands op (in_turns meaning) (part whole axes l)) turn (Ok a)
  no-part may as_value l turn a none e = (
    ap (λ ts. run loop ts no_rows (unit_of op)) none ∙ ap (Finished no_rows) (sym e),
    subst (AreOperands op (in_turns meaning)) (sym none) tt,
  )

-- ---- two ends as one
module _ {A : Type 0} (op : Op) (may : Type 0) (as_value : A → Value) (ts : List Index) (is_first : Index → Bool) (r s : Ran (Unit {0}) Value) (p q : Type 0) where
  abbrev merged_ran : Ran (Unit {0}) Value
  merged_ran = merge (combined op) is_first r s

  values-merge : (a b c : A) → as_value c ≡ combined op (as_value a) (as_value b) → r ≡ Finished no_rows (as_value a) → s ≡ Finished no_rows (as_value b) → merged_ran ≡ Finished no_rows (as_value c)
  values-merge a b c e first behind =
      ap (λ r. merge (combined op) is_first r s) first ∙ ap (merge (combined op) is_first (Finished no_rows (as_value a))) behind
      ∙ ap (Finished (either is_first no_rows no_rows)) (sym e) ∙ ap (λ rows. Finished rows (as_value c)) (no-rows (either is_first no_rows no_rows))

  pub both-values : (turn other told : Turn) (a b c : A) → as_value c ≡ combined op (as_value a) (as_value b) → PartsEnd may as_value ts r p turn (Ok a) → PartsEnd may as_value ts s q other (Ok b)
      → PartsEnd may as_value ts merged_ran (p × q) told (Ok c)
  both-values turn other told a b c e first behind = (values-merge a b c e first.0 behind.0, (first.1, behind.1))

  pub first-halts : (turn other : Turn) (h : Halt) (b : A) → PartsEnd may as_value ts r p turn (Err h) → PartsEnd may as_value ts s q other (Ok b) → PartsEnd may as_value ts merged_ran (p × q) turn (Err h)
  first-halts turn other (Faulted f) b first behind =
      (ap (λ r. merge (combined op) is_first r s) first.0 ∙ ap (merge (combined op) is_first (Failed (spot_in ts (turn_view turn)) (in_the_turn (turn_view turn) f))) behind.0, (first.1, behind.1))
  first-halts turn other Refused b first behind = first
  first-halts turn other OutOfMemory b first behind = tt

  pub behind-halts : (turn other : Turn) (a : A) (i : Halt) → PartsEnd may as_value ts r p turn (Ok a) → PartsEnd may as_value ts s q other (Err i) → PartsEnd may as_value ts merged_ran (p × q) other (Err i)
  behind-halts turn other a (Faulted g) first behind =
      (ap (λ r. merge (combined op) is_first r s) first.0 ∙ ap (merge (combined op) is_first (Finished no_rows (as_value a))) behind.0, (first.1, behind.1))
  behind-halts turn other a Refused first behind = behind
  behind-halts turn other a OutOfMemory first behind = tt

  -- two faults, of which the one of the lesser place is told
  faults-merge : (turn other : Turn) (f g : Fault)
      → r ≡ Failed (spot_in ts (turn_view turn)) (in_the_turn (turn_view turn) f) → s ≡ Failed (spot_in ts (turn_view other)) (in_the_turn (turn_view other) g)
      → merged_ran ≡ (if nat_lt (spot_in ts (turn_view turn)) (spot_in ts (turn_view other)) then Failed (spot_in ts (turn_view turn)) (in_the_turn (turn_view turn) f)
      else Failed (spot_in ts (turn_view other)) (in_the_turn (turn_view other) g))
  faults-merge turn other f g first behind =
      ap (λ r. merge (combined op) is_first r s) first ∙ ap (merge (combined op) is_first (Failed (spot_in ts (turn_view turn)) (in_the_turn (turn_view turn) f))) behind

  pub first-told : (turn other : Turn) (h i : Halt) → GoesFirst ts turn other h i true → PartsEnd may as_value ts r p turn (Err h) → PartsEnd may as_value ts s q other (Err i) → PartsEnd may as_value ts merged_ran (p × q) turn (Err h)
  first-told turn other (Faulted f) (Faulted g) goes first behind =
      let less : true ≡ nat_lt (spot_in ts (turn_view turn)) (spot_in ts (turn_view other)) = goes.faults f g refl refl in (
        faults-merge turn other f g first.0 behind.0
            ∙ ap (λ c. if c then Failed (spot_in ts (turn_view turn)) (in_the_turn (turn_view turn) f) else Failed (spot_in ts (turn_view other)) (in_the_turn (turn_view other) g)) (sym less),
        (first.1, behind.1),
      )
  first-told turn other (Faulted f) Refused goes first behind = absurd (let no = goes.no_refusal_behind f refl refl in let is : Refused ≡ Faulted no.0 = no.1 in cc)
  first-told turn other (Faulted f) OutOfMemory goes first behind = absurd (let no = goes.no_refusal_behind f refl refl in let is : OutOfMemory ≡ Faulted no.0 = no.1 in cc)
  first-told turn other Refused i goes first behind = first
  first-told turn other OutOfMemory i goes first behind = tt

  pub behind-told : (turn other : Turn) (h i : Halt) → GoesFirst ts turn other h i false → PartsEnd may as_value ts r p turn (Err h) → PartsEnd may as_value ts s q other (Err i) → PartsEnd may as_value ts merged_ran (p × q) other (Err i)
  behind-told turn other (Faulted f) (Faulted g) goes first behind =
      let less : false ≡ nat_lt (spot_in ts (turn_view turn)) (spot_in ts (turn_view other)) = goes.faults f g refl refl in (
        faults-merge turn other f g first.0 behind.0
            ∙ ap (λ c. if c then Failed (spot_in ts (turn_view turn)) (in_the_turn (turn_view turn) f) else Failed (spot_in ts (turn_view other)) (in_the_turn (turn_view other) g)) (sym less),
        (first.1, behind.1),
      )
  behind-told turn other Refused (Faulted g) goes first behind = absurd (let no = goes.no_refusal_before g refl refl in let is : Refused ≡ Faulted no.0 = no.1 in cc)
  behind-told turn other OutOfMemory (Faulted g) goes first behind = absurd (let no = goes.no_refusal_before g refl refl in let is : OutOfMemory ≡ Faulted no.0 = no.1 in cc)
  behind-told turn other h Refused goes first behind = behind
  behind-told turn other h OutOfMemory goes first behind = tt

-- what two ends come to as one is what the first locale and those behind it come to, merged
pub both-end : (op : Op) (may : Type 0) (as_value : ℤ → Value) (ts : List Index) (is_first : Index → Bool) (r s : Ran (Unit {0}) Value) (p q : Type 0) (one behind all : Result ℤ Halt) (turn other told : Turn)
    → IsBoth op as_value ts one turn behind other all told → PartsEnd may as_value ts r p turn one → PartsEnd may as_value ts s q other behind
    → PartsEnd may as_value ts (merge (combined op) is_first r s) (p × q) told all
both-end op may as_value ts is_first r s p q (Ok a) (Ok b) (Ok c) turn other told both first second = both-values op may as_value ts is_first r s p q turn other told a b c both first second
both-end op may as_value ts is_first r s p q (Ok a) (Ok b) (Err h) turn other told both first second = absurd both
both-end op may as_value ts is_first r s p q (Err h) (Ok b) all turn other told both first second =
    rw (both.0, both.1) (first-halts op may as_value ts is_first r s p q turn other h b first second)
both-end op may as_value ts is_first r s p q (Ok a) (Err i) all turn other told both first second =
    rw (both.0, both.1) (behind-halts op may as_value ts is_first r s p q turn other a i first second)
both-end op may as_value ts is_first r s p q (Err h) (Err i) all turn other told both first second = by both.0 both.1 both.2 both.3 where
  by : (chosen : Bool) → GoesFirst ts turn other h i chosen → all ≡ Err (if chosen then h else i) → told ≡ (if chosen then turn else other) → PartsEnd may as_value ts (merge (combined op) is_first r s) (p × q) told all
  by true goes is_all is_told = rw (is_all, is_told) (first-told op may as_value ts is_first r s p q turn other h i goes first second)
  by false goes is_all is_told = rw (is_all, is_told) (behind-told op may as_value ts is_first r s p q turn other h i goes first second)

-- the parts from a locale on are its own, and those of the locales behind it
pub parts-next : (op : Op) (value : Index → Result Value Fault) (whole : List RangeValue) (axes : List AxisValue) (l n : ℕ) → l < n
    → (merge (combined op) (λ t. owner axes t == l) (part_ran op value whole axes l) (parts_ran op value whole axes (l + 1) (n - (l + 1))) ≡ parts_ran op value whole axes l (n - l))
    × ((AreOperands op value (part whole axes l) × ArePartOperands op value whole axes (l + 1) (n - (l + 1))) ≡ ArePartOperands op value whole axes l (n - l))
parts-next op value whole axes l n below =
    let next : l + 1 ≡ suc l = omega arith in
    let more : n - l ≡ suc (n - (l + 1)) = omega (arith, below) in
    rw more (rw next (refl, refl))

pub parts-none : (op : Op) (value : Index → Result Value Fault) (whole : List RangeValue) (axes : List AxisValue) (l n : ℕ) → n ≤ l → n - l ≡ 0
parts-none op value whole axes l n past = omega (arith, past)

-- what the first locale and those behind it come to as one, by all of these
pub level-ends : (op : Op) (meaning : Index → Result Value Fault) (whole : List RangeValue) (axes : List AxisValue) (l n : ℕ) → l < n → (may : Type 0) (as_value : ℤ → Value)
    (one behind all : Result ℤ Halt) (turn other told : Turn) → IsBoth op as_value (indices whole) one turn behind other all told
    → PartsEnd may as_value (indices whole) (part_ran op (in_turns meaning) whole axes l) (AreOperands op (in_turns meaning) (part whole axes l)) turn one
    → PartsEnd may as_value (indices whole) (parts_ran op (in_turns meaning) whole axes (l + 1) (n - (l + 1))) (ArePartOperands op (in_turns meaning) whole axes (l + 1) (n - (l + 1))) other behind
    → PartsEnd may as_value (indices whole) (parts_ran op (in_turns meaning) whole axes l (n - l)) (ArePartOperands op (in_turns meaning) whole axes l (n - l)) told all
level-ends op meaning whole axes l n below may as_value one behind all turn other told both first second =
    let next = parts-next op (in_turns meaning) whole axes l n below in
    let is_first : Index → Bool = λ t. owner axes t == l in
    let r = part_ran op (in_turns meaning) whole axes l in
    let s = parts_ran op (in_turns meaning) whole axes (l + 1) (n - (l + 1)) in
    let p = AreOperands op (in_turns meaning) (part whole axes l) in
    let q = ArePartOperands op (in_turns meaning) whole axes (l + 1) (n - (l + 1)) in
    subst (λ r. PartsEnd may as_value (indices whole) r (ArePartOperands op (in_turns meaning) whole axes l (n - l)) told all) next.0
    (subst (λ operands. PartsEnd may as_value (indices whole) (merge (combined op) is_first r s) operands told all) next.1
    (both-end op may as_value (indices whole) is_first r s p q one behind all turn other told both first second))

-- a locale without indices
pub nothing-ends : (op : Op) (meaning : Index → Result Value Fault) (whole : List RangeValue) (axes : List AxisValue) (may : Type 0) (as_value : ℤ → Value) (l : ℕ) (turn : Turn) (r : Result ℤ Halt)
    → part whole axes l ≡ [] → IsNothing as_value (unit_of op) r
    → PartsEnd may as_value (indices whole) (part_ran op (in_turns meaning) whole axes l) (AreOperands op (in_turns meaning) (part whole axes l)) turn r
nothing-ends op meaning whole axes may as_value l turn (Ok a) none is = no-part op meaning whole axes may as_value l turn a none is
nothing-ends op meaning whole axes may as_value l turn (Err h) none is = absurd is

-- ---- all parts
module _ (op : Op) (meaning : Index → Result Value Fault) (whole : List RangeValue) (axes : List AxisValue) (n : ℕ) (below : (t : Index) → owner axes t < n) where
  -- what all parts come to together is the fold over the whole domain
  pub all-parts : AreRanges whole → ArePartOperands op (in_turns meaning) whole axes 0 n → folded op (in_turns meaning) (indices whole) (unit_of op) ≡ fold_of (parts_ran op (in_turns meaning) whole axes 0 n)
  unfolding part
  all-parts limits operands =
      reduced-merged op (in_turns meaning) (place_in (indices whole)) (owner axes) (indices whole) (indices-rising whole limits) (numbered 0 n) (numbered-apart 0 n)
      (λ k d within. let less = below (get_or (indices whole) k d) in among (owner axes (get_or (indices whole) k d)) 0 n (omega arith) (omega (arith, less)))
      (each-operand (numbered 0 n) operands)
    where
      each-operand : (ls : List ℕ) → AllByRecursion (λ l. AreOperands op (in_turns meaning) (filter (λ t. owner axes t == l) (indices whole))) ls
          → AllByRecursion (λ l. AllAdd (IsOperand op) (fold_loop op (in_turns meaning) (place_in (indices whole))) (filter (λ t. owner axes t == l) (indices whole)) no_rows) ls
      each-operand [] h = tt
      each-operand (l ∷ ls) h = (operands-add op (in_turns meaning) (place_in (indices whole)) (filter (λ t. owner axes t == l) (indices whole)) h.0, each-operand ls h.1)

  pub all-end : {A : Type 0} → AreRanges whole → (may : Type 0) (as_value : A → Value) (turn : Turn) (r : Result A Halt)
      → PartsEnd may as_value (indices whole) (parts_ran op (in_turns meaning) whole axes 0 n) (ArePartOperands op (in_turns meaning) whole axes 0 n) turn r
      → Tells may as_value turn r (folded op (in_turns meaning) (indices whole) (unit_of op))
  all-end limits may as_value turn (Ok a) ends = all-parts limits ends.1 ∙ ap fold_of ends.0
  all-end limits may as_value turn (Err (Faulted f)) ends = all-parts limits ends.1 ∙ ap fold_of ends.0
  all-end limits may as_value turn (Err Refused) ends = ends
  all-end limits may as_value turn (Err OutOfMemory) ends = tt

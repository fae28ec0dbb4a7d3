-- The turns of an assignment to a whole array may be made apart, where the value of each is the same in memories that are like for its index.
use Rattle.std.proofs.Common.{◌≡◌, ℕ, true, ℤ, List, [], ◌∷◌, Some, None, Result, Ok, refl, sym, ap, ◌∙◌, arith}
use Rattle.std.specs.Prelude.{◌==◌, option_map}
use Rattle.std.proofs.lemmas.Bool.Decides.{nat_tests}
use Rattle.dpl_syntax.specs.declared.place.Place.{Place}
use Rattle.dpl_language.specs.Tree.{Placed, ExprTree, AssignTree, Kind}
use Rattle.dpl_language.specs.Values.{Value, Index, Fault}
use Rattle.dpl_language.specs.Arithmetic.{assigned, assign_divides, tested_divisor}
use Rattle.dpl_language.specs.Outcome.{Deeds, no_deeds, Done, Run, with_value}
use Rattle.dpl_language.specs.Environment.{Limits}
use Rattle.dpl_language.specs.Expressions.{found, value_of}
use Rattle.dpl_language.specs.Assignments.{change}
use Rattle.dpl_memory.specs.Memory.{ArrayKind, Memory, Variable, variable, element_as, is_among, in_memory}
use Rattle.dpl_agreement.specs.Agreement.{EndsAlike}
use Rattle.dpl_agreement.proofs.RunsAlike.{with_value-alike}
use Rattle.dpl_agreement.proofs.RenamedSame.{renamed_expr-same}
use Rattle.dpl_agreement.proofs.ExpressionsAlike.{value_of-renamed}
use Rattle.dpl_apart.specs.Operands.{AreExact}
use Rattle.dpl_apart.specs.Memories.{Row, Changes, IsFormed, IsLike, MayBeApart, held_in}
use Rattle.dpl_turns.specs.Alongside.{IsAlongside}
use Rattle.dpl_turns.specs.Wholes.{whole_changes, IsSeenAt, ReadsOwn}
use Rattle.dpl_turns.specs.Bodies.{NoNames, turn_scoping}
use Rattle.dpl_turns.proofs.Ends.{element-along, like-along, may_be_apart}
use Rattle.dpl_turns.proofs.Begins.{begins, put-along}
use Rattle.dpl_turns.proofs.Scoped.{GoAlong, turn-simulates}
use Rattle.dpl_turns.proofs.Quiet.{quiet-value, quiet-change}

listed : (slot : ℕ) → is_among slot (slot ∷ []) ≡ true
listed slot = let yes : (slot == slot) ≡ true = grind (arith, nat_tests) in rw yes refl

-- ---- a change of an element in two memories that go along
module _ (h : Changes) (t : Index) (first second : Memory) (formed_first : IsFormed h first) (formed : IsFormed h second) (like : IsLike h t first second) (rows : Index → Row) (words : List ℤ) where
  abbrev Along : Memory → Memory → Type 0
  Along = IsAlongside h t first second rows words

  change-along : (limits : Limits) (slot : ℕ) (k : Kind) (at : Place) (sign : AssignTree) (w : Value) (s u : Memory) (done : Deeds) → is_among slot h.written ≡ true → Along s u
      → EndsAlike Along (change limits in_memory (record { at = at; name = variable (ArrayKind k) slot }) sign t w s done)
      (change limits in_memory (record { at = at; name = variable (ArrayKind k) slot }) sign t w u done)
  change-along limits slot k at sign w s u done written along =
      with_value-alike Along (found at (in_memory.element (variable (ArrayKind k) slot) t s)) (found at (in_memory.element (variable (ArrayKind k) slot) t u)) (go s) (go u) s u done
      (ap (λ o. found at (option_map (element_as k) o)) (element-along h t first second formed_first formed like rows words s u along slot written))
      (λ old. with_value-alike Along (tested_divisor (assign_divides sign.op) sign.at w) (tested_divisor (assign_divides sign.op) sign.at w)
      (λ w s done. Done (in_memory.put_element (variable (ArrayKind k) slot) t (assigned sign.op None old w) s) done)
      (λ w s done. Done (in_memory.put_element (variable (ArrayKind k) slot) t (assigned sign.op None old w) s) done) s u done refl
      (λ w. (in_memory.put_element (variable (ArrayKind k) slot) t (assigned sign.op None old w) u, put-along h t first second formed_first formed rows words slot k (assigned sign.op None old w) s u written along, refl)))
    where
      go : Memory → Value → Run Memory
      go s old = with_value (tested_divisor (assign_divides sign.op) sign.at w) (λ w s done. Done (in_memory.put_element (variable (ArrayKind k) slot) t (assigned sign.op None old w) s) done)

module _ (limits : Limits) (rank slot : ℕ) (k : Kind) (at : Place) (sign : AssignTree) where
  abbrev target : Placed Variable
  target = record { at = at; name = variable (ArrayKind k) slot }

  abbrev change_at : Index → Value → Run Memory
  change_at = change limits in_memory target sign

  -- in memories that go along a value is the same
  abbrev IsSeenAlong : Index → (Memory → Result Value Fault) → Type 0
  IsSeenAlong t value =
      (first second : Memory) → IsFormed (whole_changes rank slot) first → IsFormed (whole_changes rank slot) second → IsLike (whole_changes rank slot) t first second → (rows : Index → Row) (words : List ℤ)
      → AreExact [] words → (s u : Memory) → IsAlongside (whole_changes rank slot) t first second rows words s u → value s ≡ value u

  each-apart : (value : Index → Memory → Result Value Fault) → ((t : Index) → IsSeenAlong t (value t)) → MayBeApart (whole_changes rank slot) (λ t s done. with_value (value t s) (change_at t) s done)
  each-apart value seen =
      may_be_apart (whole_changes rank slot) (λ t s done. with_value (value t s) (change_at t) s done) (λ t. t) (λ t of_rank. refl)
      (λ t. quiet-value (value t) (change_at t) (quiet-change limits target sign t))
      (λ t first second formed_first formed like last rows row words its exact.
      let s : Memory = held_in (whole_changes rank slot) first None (λ x. row) [] in
      let u : Memory = held_in (whole_changes rank slot) second last rows words in
      let along : IsAlongside (whole_changes rank slot) t first second rows words s u =
      begins (whole_changes rank slot) t first second formed_first formed like [] [] [] (λ j. refl) (λ j. refl) (λ j. refl) last rows row words its exact in
      with_value-alike (IsAlongside (whole_changes rank slot) t first second rows words) (value t s) (value t u) (change_at t) (change_at t) s u no_deeds
      (seen t first second formed_first formed like rows words exact s u along)
      (λ w. change-along (whole_changes rank slot) t first second formed_first formed like rows words limits slot k at sign w s u no_deeds (listed slot) along))

  -- Each index has a value of its own, which is the same in memories that are like for it.
  pub whole-apart : (value : Index → Memory → Result Value Fault) → ((t : Index) → IsSeenAt (whole_changes rank slot) t (value t))
      → MayBeApart (whole_changes rank slot) (λ t s done. with_value (value t s) (change limits in_memory target sign t) s done)
  whole-apart value seen =
      each-apart value
      (λ t first second formed_first formed like rows words exact s u along. seen t s u (like-along (whole_changes rank slot) t first second formed_first formed like rows words s u along))

  -- All have one value.
  pub fill-apart : (w : Value) → MayBeApart (whole_changes rank slot) (λ t. change limits in_memory target sign t w)
  fill-apart w = whole-apart (λ t s. Ok w) (λ t s b like. refl)

  -- The value is a promoted expression's, that reads the array at the turn's own index alone.
  pub promoted-apart : (e : ExprTree Variable) → ReadsOwn rank slot e
      → MayBeApart (whole_changes rank slot) (λ t s done. with_value (value_of limits in_memory e (Some t) s) (change limits in_memory target sign t) s done)
  promoted-apart e reads =
      each-apart (λ t. value_of limits in_memory e (Some t))
      (λ t first second formed_first formed like rows words exact s u along.
      ap (λ e. value_of limits in_memory e (Some t) s) (sym (renamed_expr-same e))
      ∙ value_of-renamed limits (λ x. x) (turn_scoping (whole_changes rank slot) NoNames t) in_memory in_memory (GoAlong limits (whole_changes rank slot) NoNames t first second formed_first formed like rows words exact)
      (turn-simulates limits (whole_changes rank slot) NoNames t first second formed_first formed like rows words exact) e (Some t) tt s u (along, tt) (reads t))

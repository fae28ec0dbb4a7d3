-- Turns whose ints, or truth values, go into elements side by side: the body of each is one assignment to an element.
-- In each turn the variables hold its index, and the arrays are as the turns before have left them.
use Rattle.std.proofs.Common.{◌≡◌, ◌<◌, ◌≤◌, ◌+◌, ◌-◌, ⊎_elim, ℕ, zero, suc, pos, false, List, get_or, None, Ok, refl, sym, subst, ap, ◌∙◌, arith}
use Rattle.std.proofs.lemmas.Bool.{cases_lt}
use Rattle.dpl_syntax.specs.declared.place.Place.{Place}
use Rattle.dpl_array.specs.Elements.{Row, behind}
use Rattle.dpl_language.specs.Tree.{Assign, AssignTree, Set, IntKind, BoolKind, StmtTree, NoStmts, Then}
use Rattle.dpl_language.specs.Values.{Value, Int, Truth, Index}
use Rattle.dpl_language.specs.Arithmetic.{assigned, assign_divides}
use Rattle.dpl_language.specs.Outcome.{Run, Deeds, Done, then_do}
use Rattle.dpl_language.specs.Environment.{Limits}
use Rattle.dpl_language.specs.Expressions.{value_of}
use Rattle.dpl_language.specs.Assignments.{change}
use Rattle.dpl_language.specs.Statements.{exec, exec_all}
use Rattle.dpl_lowered.specs.Shapes.{nowhere}
use Rattle.dpl_memory.specs.Memory.{Held, Memory, Variable, in_memory}
use Rattle.dpl_nodes.specs.declared.tree.IntExpr.{IntExpr}
use Rattle.dpl_nodes.specs.declared.tree.BoolExpr.{BoolExpr}
use Rattle.dpl_nodes.specs.declared.tree.IndexExpr.{IndexExpr}
use Rattle.dpl_nodes.specs.declared.step.ArrayName.{ArrayName}
use Rattle.dpl_nodes.specs.declared.step.Names.{Names}
use Rattle.dpl_nodes.specs.Typed.{int_view, truth_view}
use Rattle.dpl_nodes.specs.Steps.{array_leaf, element_set}
use Rattle.dpl_nodes.proofs.Unread.{cell_read-int, cell_read-truth}
use Rattle.dpl_loop.specs.declared.strip.Strip.{Strip}
use Rattle.dpl_loop.specs.Runs.{AreDone}
use Rattle.dpl_strips.specs.Strips.{IsSameAt, one_written, IsInTurn, IsInOwnTurn, HoldsInTurns, GoesFrom}
use Rattle.dpl_strips.specs.Truths.{TruthsHoldInTurns}
use Rattle.dpl_strips.proofs.RowParts.{behind-more}
use Rattle.dpl_elements.specs.Changes.{signed, ends_as, put_memory}
use Rattle.dpl_elements.specs.Rows.{ArePut}
use Rattle.dpl_elements.specs.Turns.{bound_at, index_turn}
use Rattle.dpl_elements.proofs.BoundAgain.{bound_at-again, bound_at-arrays}
use Rattle.dpl_elements.proofs.Elements.{exec-element, change-put}

-- no turns are done where nothing has changed
pub none-done : (turn : Index → Run Memory) (t : Row) (s : Memory) → AreDone turn t 0 s s
none-done turn t s = record { between = λ k. s; begins = refl; ends = refl; each = λ k below done. absurd (omega (arith, below)) }

-- A ROW IN PARTS: its first turns, and those of the rest of it behind them
-- what stands between the first turns and those behind them
abbrev joined : ℕ → (ℕ → Memory) → (ℕ → Memory) → ℕ → Memory
joined zero f g k = g k
joined (suc a) f g zero = f zero
joined (suc a) f g (suc k) = joined a (λ j. f (suc j)) g k

joined-first : (a : ℕ) (f g : ℕ → Memory) (k : ℕ) → f a ≡ g 0 → k ≤ a → joined a f g k ≡ f k
joined-first zero f g zero meets most = sym meets
joined-first zero f g (suc k) meets most = absurd (omega (arith, most))
joined-first (suc a) f g zero meets most = refl
joined-first (suc a) f g (suc k) meets most = joined-first a (λ j. f (suc j)) g k meets (omega (arith, most))

joined-behind : (a : ℕ) (f g : ℕ → Memory) (j : ℕ) → joined a f g (a + j) ≡ g j
joined-behind zero f g j =
    let same : 0 + j ≡ j = omega arith in
    ap g same
joined-behind (suc a) f g j =
    let same : suc a + j ≡ suc (a + j) = omega arith in
    ap (joined (suc a) f g) same ∙ joined-behind a (λ j. f (suc j)) g j

pub rest-done : (turn : Index → Run Memory) (row rest : Row) (a b : ℕ) (s m n : Memory) → rest ≡ record { first = behind a row; step = row.step }
    → AreDone turn row a s m → AreDone turn rest b m n → AreDone turn row (a + b) s n
rest-done turn row rest a b s m n is first second = record {
  between = joined a first.between second.between;
  begins = joined-first a first.between second.between 0 meets (omega arith) ∙ first.begins;
  ends = joined-behind a first.between second.between b ∙ second.ends;
  each = each;
}
  where
    meets : first.between a ≡ second.between 0
    meets = first.ends ∙ sym second.begins

    f : ℕ → Memory
    f = joined a first.between second.between

    here : (k : ℕ) → k < a → (done : Deeds) → turn (behind k row) (f k) done ≡ Done (f (k + 1)) done
    here k below done =
        ap (λ m. turn (behind k row) m done) (joined-first a first.between second.between k meets (omega (arith, below)))
        ∙ first.each k below done
        ∙ ap (λ m. Done m done) (sym (joined-first a first.between second.between (k + 1) meets (omega (arith, below))))

    there : (j : ℕ) → j < b → (done : Deeds) → turn (behind (a + j) row) (f (a + j)) done ≡ Done (f (a + j + 1)) done
    there j below done =
        let next : a + (j + 1) ≡ a + j + 1 = omega arith in
        ap (λ m. turn (behind (a + j) row) m done) (joined-behind a first.between second.between j)
        ∙ ap (λ t. turn t (second.between j) done) (sym (ap (behind j) is ∙ behind-more row a j))
        ∙ second.each j below done
        ∙ ap (λ m. Done m done) (sym (joined-behind a first.between second.between (j + 1)) ∙ ap f next)

    each : (k : ℕ) → k < a + b → (done : Deeds) → turn (behind k row) (f k) done ≡ Done (f (k + 1)) done
    each k below done =
        ⊎_elim
        (λ (first : k < a). here k first done)
        (λ (later : a ≤ k).
        let same : a + (k - a) ≡ k = omega (arith, later) in
        subst (λ k. turn (behind k row) (f k) done ≡ Done (f (k + 1)) done) same (there (k - a) (omega (arith, later, below)) done))
        (cases_lt k a)

-- turns that change the element at their own index
pub whole-row : (limits : Limits) (x : ArrayName) (sign : AssignTree) (turn : Index → Run Memory) (first : Row) (strip : Strip) (size : ℕ) (s : Memory) (arrays : List Held) → ArePut limits x sign first strip size s.arrays arrays
    → ((k : ℕ) → k < size → (u : Memory) → IsSameAt (behind k first) s u → (done : Deeds) → turn (behind k first) u done ≡ change limits in_memory (array_leaf IntKind x) sign (behind k first) (Int (get_or strip.words k (pos 0))) u done)
    → AreDone turn first size s (record s { arrays = arrays })
whole-row limits x sign turn first strip size s arrays put changes = record {
  between = λ k. record s { arrays = put.between k };
  begins = ap {A = List Held} {B = Memory} (λ held. record s { arrays = held }) put.begins;
  ends = ap {A = List Held} {B = Memory} (λ held. record s { arrays = held }) put.ends;
  each = λ k below done.
      let u : Memory = record s { arrays = put.between k } in
      changes k below u (record { words = refl; elements = λ slot. put.next k slot below }) done ∙ put.each k below u refl done;
}

-- turns whose body is one statement, which changes arrays alone: in each turn they are as it has left them in those before
module _ (limits : Limits) (names : Names) (stmt : StmtTree Variable) (first : Row) (size : ℕ) (s : Memory) (between : ℕ → List Held) (begun : between 0 ≡ s.arrays) where
  -- in the turn of an index, with these arrays
  abbrev pub turn_with : ℕ → List Held → Memory
  turn_with k held = record (bound_at names (behind k first) s) { arrays = held }

  -- the memory after so many turns
  abbrev pub turns_made : ℕ → Memory
  turns_made zero = s
  turns_made (suc k) = turn_with k (between (suc k))

  bound-again : (k : ℕ) → bound_at names (behind k first) (turns_made k) ≡ turn_with k (between k)
  bound-again zero = ap (λ held. turn_with 0 held) (bound_at-arrays names (behind 0 first) s ∙ sym begun)
  bound-again (suc k) = bound_at-again names (behind (suc k) first) (behind k first) s (between (suc k))

  pub arrays-done : (after : List Held) → between size ≡ after → size ≡ 0 → AreDone (index_turn limits names (Then stmt NoStmts)) first size s (record s { arrays = after })
  arrays-done after ends none = record {
    between = λ k. s;
    begins = refl;
    ends = ap (λ held. record s { arrays = held }) (sym begun ∙ ap between (sym none) ∙ ends);
    each = λ k below done. absurd (omega (arith, below, none));
  }

  pub arrays-made : (after : List Held) → between size ≡ after → (last : ℕ) → size ≡ suc last
      → ((k : ℕ) → k < size → (done : Deeds) → exec limits in_memory stmt (turn_with k (between k)) done ≡ Done (turn_with k (between (k + 1))) done)
      → AreDone (index_turn limits names (Then stmt NoStmts)) first size s (turn_with last after)
  arrays-made after ends last some does = record {
    between = turns_made;
    begins = refl;
    ends = ap turns_made some ∙ ap (turn_with last) (ap between (sym some) ∙ ends);
    each = λ k below done.
        let next : suc k ≡ k + 1 = omega arith in
        ap (λ m. then_do (exec limits in_memory stmt m done) (exec_all limits in_memory NoStmts)) (bound-again k)
        ∙ ap (λ o. then_do o (exec_all limits in_memory NoStmts)) (does k below done)
        ∙ ap (λ n. Done (turn_with k (between n)) done) (sym next)
        ∙ ap (λ n. Done (turns_made n) done) next;
  }

-- the memory of a turn, with the elements that those before it have put
module _
    (limits : Limits) (names : Names) (x : ArrayName) (index : IndexExpr) (op : Assign) (sign : Place) (first at : Row) (strip : Strip) (size : ℕ) (s : Memory) (arrays : List Held)
    (put : ArePut limits x (signed op sign) at strip size s.arrays arrays) (begins : strip.row ≡ first) (few : size ≤ strip.size) (cap : size ≤ 64)
    (goes : GoesFrom limits names (one_written x.slot first) first s index at) where
  abbrev memory_in : ℕ → Memory
  memory_in k = record (bound_at names (behind k first) s) { arrays = put.between k }

  is-turn : (row : Row) (k : ℕ) → IsInTurn names (one_written x.slot row) (behind k first) s (memory_in k)
  is-turn row k = record { numbers = λ slot free. refl; tuples = λ slot. refl; arrays = λ slot free. put.others k slot free.0 }

  is-own : (k : ℕ) → k < size → IsInOwnTurn names (one_written x.slot at) strip.row k s (memory_in k)
  is-own k below =
      subst (λ row. IsInOwnTurn names (one_written x.slot at) row k s (memory_in k)) (sym begins)
      (record { turn = is-turn at k; own = (put.next k x.slot below, tt) })

  -- of ints
  module _ (e : IntExpr) (values : HoldsInTurns names (one_written x.slot at) (λ u. value_of limits in_memory (int_view e) None u) s strip) where
    abbrev sets : StmtTree Variable
    sets = element_set (array_leaf IntKind x) index op sign (int_view e)

    int-assigned : (k : ℕ) → k < size → (done : Deeds) → exec limits in_memory sets (memory_in k) done ≡ Done (record (memory_in k) { arrays = put.between (k + 1) }) done
    int-assigned k below done =
        let m = memory_in k in
        let w = Int (get_or strip.words k (pos 0)) in
        exec-element limits (array_leaf IntKind x) index op sign (int_view e) m done w (Ok (behind k at)) (cell_read-int e)
        (values k (omega (arith, below, few)) (omega (arith, below, cap)) m (is-own k below)) (goes k (omega (arith, below, cap)) m (is-turn first k))
        ∙ put.each k below m refl done

    pub row-done : size ≡ 0 → AreDone (index_turn limits names (Then sets NoStmts)) first size s (record s { arrays = arrays })
    row-done none = arrays-done limits names sets first size s put.between put.begins arrays put.ends none

    pub row-made : (last : ℕ) → size ≡ suc last → AreDone (index_turn limits names (Then sets NoStmts)) first size s (record (bound_at names (behind last first) s) { arrays = arrays })
    row-made last some = arrays-made limits names sets first size s put.between put.begins arrays put.ends last some int-assigned

  -- of truth values, which are put as their words are by an operator that has no use for the old value
  module _
      (e : BoolExpr) (values : TruthsHoldInTurns names (one_written x.slot at) (λ u. value_of limits in_memory (truth_view e) None u) s strip)
      (divides : assign_divides op ≡ false) (replaces : (old new : Value) → assigned op None old new ≡ new) where
    abbrev sets_truth : StmtTree Variable
    sets_truth = element_set (array_leaf BoolKind x) index Set nowhere (truth_view e)

    truth-assigned : (k : ℕ) → k < size → (done : Deeds) → exec limits in_memory sets_truth (memory_in k) done ≡ Done (record (memory_in k) { arrays = put.between (k + 1) }) done
    truth-assigned k below done =
        let m = memory_in k in
        let word = get_or strip.words k (pos 0) in
        let truth = values k (omega (arith, below, few)) (omega (arith, below, cap)) in
        exec-element limits (array_leaf BoolKind x) index Set nowhere (truth_view e) m done (Truth truth.0) (Ok (behind k at)) (cell_read-truth e)
        (truth.2 m (is-own k below)) (goes k (omega (arith, below, cap)) m (is-turn first k))
        ∙ change-put limits BoolKind x Set nowhere (behind k at) (Truth truth.0) m done refl (λ old new. refl)
        ∙ ap (λ w. ends_as (put_memory x.at.now x.slot (behind k at) w m) done) (sym truth.1)
        ∙ sym (change-put limits IntKind x op sign (behind k at) (Int word) m done divides replaces)
        ∙ put.each k below m refl done

    pub truths-done : size ≡ 0 → AreDone (index_turn limits names (Then sets_truth NoStmts)) first size s (record s { arrays = arrays })
    truths-done none = arrays-done limits names sets_truth first size s put.between put.begins arrays put.ends none

    pub truths-made : (last : ℕ) → size ≡ suc last → AreDone (index_turn limits names (Then sets_truth NoStmts)) first size s (record (bound_at names (behind last first) s) { arrays = arrays })
    truths-made last some = arrays-made limits names sets_truth first size s put.between put.begins arrays put.ends last some truth-assigned

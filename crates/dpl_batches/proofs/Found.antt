-- Statements that are found one after another, and by the branches of an `if`: what they come to in a turn.
use Rattle.std.proofs.Common.{◌≡◌, ◌≢◌, ◌<◌, ◌≤◌, ℕ, suc, ℤ, pos, Bool, true, false, not, ◌&&◌, if◌then◌else◌, List, [], ◌∷◌, map, length, get_or, Option, Some, None, Ok, refl, sym, subst, ap, ◌∙◌, arith}
use Rattle.std.specs.Ordering.{int_eq}
use Rattle.dpl_array.specs.Elements.{Row}
use Rattle.dpl_language.specs.Tree.{ExprTree, Block, If, Else, NoElse, ElseDo, StmtTree, Stmts, NoStmts, Then}
use Rattle.dpl_language.specs.Values.{Truth, kept_number}
use Rattle.dpl_language.specs.Outcome.{Deeds, Outcome, Done, Stop, Waits, then_do}
use Rattle.dpl_language.specs.Environment.{Limits}
use Rattle.dpl_language.specs.Expressions.{value_of}
use Rattle.dpl_language.specs.Statements.{exec, exec_all, exec_else}
use Rattle.dpl_lowered.specs.Shapes.{nowhere}
use Rattle.dpl_memory.specs.Memory.{Variable, Memory, in_memory}
use Rattle.dpl_nodes.specs.declared.step.Names.{Names}
use Rattle.dpl_nodes.specs.Steps.{listed}
use Rattle.dpl_loop.specs.declared.strip.Strip.{Strip}
use Rattle.dpl_strips.specs.Strips.{Written, IsFree, IsInOwnTurn}
use Rattle.dpl_strips.specs.Truths.{TruthsHoldInTurns}
use Rattle.dpl_elements.specs.Turns.{IsApart, HasRoom}
use Rattle.dpl_batches.specs.Stores.{unmade, AreApart, HaveRoom, AreFound, HaveElements, Begins, goes_in, done_where, else_body, by_now, all_stored}
use Rattle.dpl_batches.specs.declared.store.Store.{Store}
use Rattle.dpl_batches.proofs.StoreTurns.{own-now}
use Rattle.dpl_elements.proofs.Branching.{then_do-done, scoped-same, if-then, if-else}

-- STORES ALIKE: of the same slots and rows
first_of : Written → List Written → Written
first_of d [] = d
first_of d (x ∷ xs) = x

rest_of : List Written → List Written
rest_of [] = []
rest_of (x ∷ xs) = xs

pub apart-alike : (names : Names) (xs ys : List Store) → map unmade ys ≡ map unmade xs → AreApart names xs → AreApart names ys
unfolding first_of rest_of
apart-alike names [] [] alike apart = tt
apart-alike names [] (y ∷ ys) alike apart = cc
apart-alike names (x ∷ xs) [] alike apart = cc
apart-alike names (x ∷ xs) (y ∷ ys) alike apart =
    let same : unmade y ≡ unmade x = ap (first_of (unmade y)) alike in
    let others : map unmade ys ≡ map unmade xs = ap rest_of alike in
    let slots : y.slot ≡ x.slot = ap (λ (w : Written). w.slot) same in
    let rows : y.at ≡ x.at = ap (λ (w : Written). w.at) same in (
      subst (λ ws. IsFree ws y.slot) (sym others) (subst (IsFree (map unmade xs)) (sym slots) apart.0),
      subst (λ slot. IsApart names slot) (sym slots) apart.1,
      subst (λ (at : Row). 0 < length at.first) (sym rows) apart.2,
      subst (λ (at : Row). at.step ≢ pos 0) (sym rows) apart.3,
      apart-alike names xs ys others apart.4,
    )

pub room-alike : (xs ys : List Store) → map unmade ys ≡ map unmade xs → HaveRoom xs → HaveRoom ys
unfolding first_of rest_of
room-alike [] [] alike room = tt
room-alike [] (y ∷ ys) alike room = cc
room-alike (x ∷ xs) [] alike room = cc
room-alike (x ∷ xs) (y ∷ ys) alike room =
    let same : unmade y ≡ unmade x = ap (first_of (unmade y)) alike in
    let others : map unmade ys ≡ map unmade xs = ap rest_of alike in
    let rows : x.at ≡ y.at = ap (λ (w : Written). w.at) (sym same) in
    (subst (λ (at : Row). HasRoom at 64) rows room.0, room-alike xs ys others room.1)

pub as-many : (xs ys : List Store) → map unmade ys ≡ map unmade xs → length ys ≡ length xs
unfolding rest_of
as-many [] [] alike = refl
as-many [] (y ∷ ys) alike = cc
as-many (x ∷ xs) [] alike = cc
as-many (x ∷ xs) (y ∷ ys) alike = ap suc (as-many xs ys (ap rest_of alike))

pub begins-alike : (names : Names) (xs ys : List Store) (row : Row) (k : ℕ) (s u : Memory) → map unmade ys ≡ map unmade xs → Begins names xs row k s u → Begins names ys row k s u
begins-alike names xs ys row k s u alike begun = record {
  own = subst (λ ws. IsInOwnTurn names ws row k s u) (sym alike) begun.own;
  long = begun.long;
  intents = begun.intents;
}

-- ONE STATEMENT MORE
done-same : (m next : Memory) (done : Deeds) → Done m done ≡ Done next done → m ≡ next
done-same m next done is = ap (λ o. memory_of o m) is
  where
    memory_of : Outcome Memory → Memory → Memory
    memory_of (Done s done) d = s
    memory_of (Stop f done) d = d
    memory_of (Waits at c op done) d = d

module _ (limits : Limits) where
  pub next-found : (b : Bool) (t : StmtTree Variable) (rest : Stmts Variable) (m next : Memory) (done : Deeds)
      → exec_all limits in_memory (done_where b (Then t NoStmts)) m done ≡ Done next done
      → exec_all limits in_memory (done_where b rest) next done ≡ exec_all limits in_memory (done_where b (Then t rest)) m done
  next-found true t rest m next done is =
      sym (ap (λ o. then_do o (exec_all limits in_memory rest)) (sym (then_do-done (exec limits in_memory t m done)) ∙ is))
  next-found false t rest m next done is = sym is

  pub none-left : (b : Bool) (m : Memory) (done : Deeds) → exec_all limits in_memory (done_where b NoStmts) m done ≡ Done m done
  none-left true m done = refl
  none-left false m done = refl

  -- what stands behind `else`, as statements
  else-runs : (other : Else Variable) (m : Memory) (done : Deeds) → exec_else limits in_memory other m done ≡ exec_all limits in_memory (else_body other) m done
  else-runs NoElse m done = refl
  else-runs (ElseDo at t) m done = scoped-same (exec limits in_memory t) m done ∙ sym (then_do-done (exec limits in_memory t m done))

  -- AN IF, by what its branches come to
  pub if-found : (b c : Bool) (e : ExprTree Variable) (body : Stmts Variable) (other : Else Variable) (m after next : Memory) (done : Deeds)
      → value_of limits in_memory e None m ≡ Ok (Truth c)
      → exec_all limits in_memory (done_where (b && c) body) m done ≡ Done after done
      → exec_all limits in_memory (done_where (b && not c) (else_body other)) after done ≡ Done next done
      → exec_all limits in_memory (done_where b (Then (If nowhere e (listed body) other) NoStmts)) m done ≡ Done next done
  if-found true true e body other m after next done value first second =
      ap (λ o. then_do o (exec_all limits in_memory NoStmts)) (if-then limits e body other m done value ∙ first ∙ second)
  if-found true false e body other m after next done value first second =
      let same : m ≡ after = done-same m after done first in
      ap (λ o. then_do o (exec_all limits in_memory NoStmts))
      (if-else limits e body other m done value ∙ else-runs other m done ∙ ap (λ m. exec_all limits in_memory (else_body other) m done) same ∙ second)
  if-found false c e body other m after next done value first second = first ∙ second

-- THE MASK OF A CONDITION
pub goes-truth : (b : Bool) (ws : List ℤ) (k : ℕ) → get_or ws k (pos 0) ≡ kept_number (Truth b) → goes_in (Some ws) k ≡ b
goes-truth true ws k is = ap (λ w. not (int_eq w (pos 0))) is
goes-truth false ws k is = ap (λ w. not (int_eq w (pos 0))) is

-- where it holds, and where it doesn't
pub chosen-goes : (m h : ℤ) → not (int_eq (if int_eq m (pos 0) then pos 0 else h) (pos 0)) ≡ (not (int_eq m (pos 0)) && not (int_eq h (pos 0)))
chosen-goes m h = by (int_eq m (pos 0))
  where
    by : (b : Bool) → not (int_eq (if b then pos 0 else h) (pos 0)) ≡ (not b && not (int_eq h (pos 0)))
    by true = refl
    by false = refl

pub opposite-goes : (h : ℤ) → not (int_eq (if int_eq h (pos 0) then pos 1 else pos 0) (pos 0)) ≡ not (not (int_eq h (pos 0)))
opposite-goes h = by (int_eq h (pos 0))
  where
    by : (b : Bool) → not (int_eq (if b then pos 1 else pos 0) (pos 0)) ≡ not (not b)
    by true = refl
    by false = refl

-- where it is met, and where a mask counts all the same
pub not-both : (m h b : Bool) → b ≡ (m && h) → (m && not b) ≡ (m && not h)
not-both true h b is = ap not is
not-both false h b is = refl

-- NO STATEMENT leaves all as it is
pub nothing-found : (limits : Limits) (names : Names) (row : Row) (s : Memory) (mask : Option (List ℤ)) (size : ℕ) (xs : List Store) → AreFound limits names row s NoStmts mask size xs xs
nothing-found limits names row s mask size xs = record {
  alike = refl;
  there = λ k below cap there. there;
  does = λ k below cap there u begun done. none-left limits (goes_in mask k) (all_stored xs k u) done;
}

-- A BRANCH, in the turns of a row, and another one
module _
    (limits : Limits) (names : Names) (row : Row) (s : Memory) (mask : Option (List ℤ)) (met : List ℤ) (e : ExprTree Variable) (body : Stmts Variable)
    (xs ys : List Store) (known left : ℕ) (apart : AreApart names xs) (holds : Strip) (begins : holds.row ≡ row) (enough : known ≤ holds.size) (few : left ≤ known)
    (is_met : (k : ℕ) → k < 64 → goes_in (Some met) k ≡ (goes_in mask k && goes_in (Some holds.words) k))
    (truths : TruthsHoldInTurns names (map by_now xs) (λ u. value_of limits in_memory e None u) s holds)
    (first : AreFound limits names row s body (Some met) left xs ys) where
  -- the condition's value in a turn, and what the first branch comes to by it
  Condition : ℕ → Memory → Type 0
  Condition k m = (b : Bool) × (value_of limits in_memory e None m ≡ Ok (Truth b)) × (goes_in (Some holds.words) k ≡ b)

  condition : (k : ℕ) → k < left → k < 64 → HaveElements xs k s → (u : Memory) → Begins names xs row k s u → Condition k (all_stored xs k u)
  unfolding Condition
  condition k below cap there u begun =
      let truth = truths k (omega (arith, below, few, enough)) cap in
      let m = all_stored xs k u in
      let turn = own-now names xs row k s u apart there begun in
      (truth.0, truth.2 m (subst (λ row. IsInOwnTurn names (map by_now xs) row k s m) (sym begins) turn), goes-truth truth.0 holds.words k truth.1)

  one-branch : (k : ℕ) (b : Bool) → goes_in (Some holds.words) k ≡ b → k < left → k < 64 → HaveElements xs k s → (u : Memory) → Begins names xs row k s u → (done : Deeds)
      → exec_all limits in_memory (done_where (goes_in mask k && b) body) (all_stored xs k u) done ≡ Done (all_stored ys k u) done
  one-branch k b is below cap there u begun done =
      let goes = is_met k cap ∙ ap (λ b. goes_in mask k && b) is in
      ap (λ b. exec_all limits in_memory (done_where b body) (all_stored xs k u) done) (sym goes) ∙ first.does k below cap there u begun done

  pub branch-found : AreFound limits names row s (Then (If nowhere e (listed body) NoElse) NoStmts) mask left xs ys
  unfolding Condition
  branch-found = record {
    alike = first.alike;
    there = first.there;
    does = λ k below cap there u begun done.
        let c = condition k below cap there u begun in
        let next = all_stored ys k u in
        if-found limits (goes_in mask k) c.0 e body NoElse (all_stored xs k u) next next done c.1 (one-branch k c.0 c.2 below cap there u begun done)
        (none-left limits (goes_in mask k && not c.0) next done);
  }

  module _
      (other : Else Variable) (unmet : List ℤ) (zs : List Store) (size : ℕ) (fewer : size ≤ left)
      (is_unmet : (k : ℕ) → k < 64 → goes_in (Some unmet) k ≡ (goes_in mask k && not (goes_in (Some met) k)))
      (second : AreFound limits names row s (else_body other) (Some unmet) size ys zs) where
    pub branches-found : AreFound limits names row s (Then (If nowhere e (listed body) other) NoStmts) mask size xs zs
    unfolding Condition
    branches-found = record {
      alike = second.alike ∙ first.alike;
      there = λ k below cap there. second.there k below cap (first.there k (omega (arith, below, fewer)) cap there);
      does = λ k below cap there u begun done.
          let before : k < left = omega (arith, below, fewer) in
          let c = condition k before cap there u begun in
          let next = all_stored ys k u in
          let goes = is_unmet k cap ∙ not-both (goes_in mask k) (goes_in (Some holds.words) k) (goes_in (Some met) k) (is_met k cap) ∙ ap (λ b. goes_in mask k && not b) c.2 in
          if-found limits (goes_in mask k) c.0 e body other (all_stored xs k u) next (all_stored zs k u) done c.1
          (one-branch k c.0 c.2 before cap there u begun done)
          (ap (λ b. exec_all limits in_memory (done_where b (else_body other)) next done) (sym goes)
          ∙ second.does k below cap (first.there k before cap there) u (begins-alike names xs ys row k s u first.alike begun) done);
    }

-- THE NEXT STATEMENT of a list
module _ (limits : Limits) (names : Names) (row : Row) (s : Memory) (mask : Option (List ℤ)) (whole : Stmts Variable) (xs : List Store) where
  -- statements that are left come, from these stores on, to what all come to at the start
  abbrev pub LeftToFind : Stmts Variable → ℕ → List Store → Type 0
  LeftToFind body size ys =
      (k : ℕ) → k < size → k < 64 → HaveElements xs k s → (u : Memory) → Begins names xs row k s u → (done : Deeds)
      → exec_all limits in_memory (done_where (goes_in mask k) body) (all_stored ys k u) done ≡ exec_all limits in_memory (done_where (goes_in mask k) whole) (all_stored xs k u) done

  pub next-left : (t : StmtTree Variable) (rest : Stmts Variable) (ys zs : List Store) (left size : ℕ) → size ≤ left → map unmade ys ≡ map unmade xs
      → ((k : ℕ) → k < left → k < 64 → HaveElements xs k s → HaveElements ys k s)
      → LeftToFind (Then t rest) left ys → AreFound limits names row s (Then t NoStmts) mask size ys zs → LeftToFind rest size zs
  next-left t rest ys zs left size fewer alike elements before found k below cap there u begun done =
      let here = elements k (omega (arith, below, fewer)) cap there in
      next-found limits (goes_in mask k) t rest (all_stored ys k u) (all_stored zs k u) done
      (found.does k below cap here u (begins-alike names xs ys row k s u alike begun) done)
      ∙ before k (omega (arith, below, fewer)) cap there u begun done

-- AN OWN WORD where a mask has the word 0, and else another one
pub blended-goes : (m own word : ℤ) → (if int_eq m (pos 0) then own else word) ≡ (if not (int_eq m (pos 0)) then word else own)
blended-goes m own word = by (int_eq m (pos 0))
  where
    by : (b : Bool) → (if b then own else word) ≡ (if not b then word else own)
    by true = refl
    by false = refl

-- A BLOCK comes to what its statements come to, and nothing comes to itself
pub block-found : (limits : Limits) (names : Names) (row : Row) (s : Memory) (mask : Option (List ℤ)) (body : Stmts Variable) (size : ℕ) (xs ys : List Store)
    → AreFound limits names row s body mask size xs ys → AreFound limits names row s (Then (Block nowhere body nowhere) NoStmts) mask size xs ys
block-found limits names row s mask body size xs ys found = record {
  alike = found.alike;
  there = found.there;
  does = λ k below cap there u begun done. by (goes_in mask k) (all_stored xs k u) (all_stored ys k u) done (found.does k below cap there u begun done);
}
  where
    by : (b : Bool) (m next : Memory) (done : Deeds) → exec_all limits in_memory (done_where b body) m done ≡ Done next done
        → exec_all limits in_memory (done_where b (Then (Block nowhere body nowhere) NoStmts)) m done ≡ Done next done
    by true m next done is = ap (λ o. then_do o (exec_all limits in_memory NoStmts)) (scoped-same (exec_all limits in_memory body) m done ∙ is)
    by false m next done is = is

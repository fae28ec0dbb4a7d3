-- The words of the turns of a row's indices, as the variables of the loop have them.
-- Each lemma has an int or the words of a turn, or what is put into slots in it, on its left side.
use Rattle.std.proofs.Common.{◌≡◌, ◌+◌, arith, ℕ, ℤ, pos, ◌+ℤ◌, ◌*ℤ◌, List, [], ◌∷◌, map, length, get_or, set, Option, IfSome, FitsSigned, w64, refl, sym, subst, ap, ◌∙◌}
use Rattle.std.proofs.lemmas.Int.{ints, int_wrap_fits}
use Rattle.std.proofs.lemmas.Option.{IfSome_then}
use Rattle.std.proofs.Math.IntN.{*ℤ_comm, suc_ℤ-*ℤ}
use Rattle.std.proofs.Math.Numerals.{add-one}
use Rattle.dpl_domain.specs.Ranks.{last_of}
use Rattle.dpl_array.specs.Elements.{Row, along, behind}
use Rattle.dpl_language.specs.Arithmetic.{wrap}
use Rattle.dpl_language.specs.Tree.{Placed, AfterComma}
use Rattle.dpl_language.specs.Values.{Int, Index}
use Rattle.dpl_language.specs.Loops.{declare_each}
use Rattle.dpl_words.specs.Words.{IntLeaf}
use Rattle.dpl_memory.specs.Memory.{PlainKind, Variable, Memory, int_leaf, with_value_in, in_memory}
use Rattle.dpl_nodes.specs.Steps.{unplaced_leaf, next_name}
use Rattle.dpl_strips.specs.declared.pace.Pace.{Pace}
use Rattle.dpl_strips.specs.declared.pace.Pace.TheVariants.{Steady, Stepping}
use Rattle.dpl_strips.specs.declared.apply.Wrapping.{Wrapping}
use Rattle.dpl_strips.specs.Strips.{FitsTurns, GoesAs, GoesIn, each_put, made_by, paced}

-- ---- ints that step
-- what an operator makes of two ints, where that is an int that steps so and fits a word: wrapping doesn't change it
pub goes-stepping : (op : Wrapping) (step from : ℤ) (a b : Pace) (r : Option Pace)
    → ((k : ℕ) → made_by op (paced step a k) (paced step b k) ≡ wrap (from +ℤ step *ℤ pos k))
    → IfSome r (λ p. FitsTurns step p × (p ≡ Stepping from)) → IfSome r (GoesAs op step a b)
goes-stepping op step from a b r made goes =
    IfSome_then r goes (λ (p : Pace) has. (
      has.0,
      λ k below.
          let at : paced step p k ≡ from +ℤ step *ℤ pos k = ap (λ p. paced step p k) has.1 in
          made k ∙ ap wrap (sym at) ∙ int_wrap_fits w64 (paced step p k) (has.0 k below),
    ))

-- one step more
pub further : (from step : ℤ) (k : ℕ) → (from +ℤ step *ℤ pos k) +ℤ step ≡ from +ℤ step *ℤ pos (k + 1)
further from step k =
    let next : step *ℤ pos (k + 1) ≡ step *ℤ pos k +ℤ step =
    *ℤ_comm step (pos (k + 1)) ∙ ap (λ n. pos n *ℤ step) (add-one k) ∙ suc_ℤ-*ℤ (pos k) step ∙ ap (λ z. z +ℤ step) (*ℤ_comm (pos k) step) in
    omega (arith, ints, next)

-- ---- the variables of a loop
-- words that are the same go the same
pub GoesIn-same : (step : ℤ) (numbers others : ℕ → List ℤ) (slot : ℕ) (p : Pace) → ((k : ℕ) → others k ≡ numbers k) → GoesIn step numbers slot p → GoesIn step others slot p
GoesIn-same step numbers others slot p same goes = (goes.0, λ k within. ap (λ ws. get_or ws slot (pos 0)) (same k) ∙ goes.1 k within)

-- what no turn changes stays
pub GoesIn-steady : (step : ℤ) (words : List ℤ) (slot : ℕ) (n : ℤ) → FitsSigned w64 n → n ≡ get_or words slot (pos 0) → GoesIn step (λ k. words) slot (Steady n)
GoesIn-steady step words slot n fits is = ((λ k within. fits), λ k within. sym is)

-- a variable for each coordinate
declare_each-numbers : (slots : List ℕ) (t : Index) (s : Memory)
    → (declare_each in_memory (map {A = AfterComma (Placed Variable)} {B = Placed Variable} (λ x. x.part) (map next_name slots)) t s).words.numbers ≡ each_put slots t s.words.numbers
declare_each-numbers [] t s = refl
declare_each-numbers (slot ∷ slots) [] s = declare_each-numbers slots [] (with_value_in (PlainKind IntLeaf) slot (Int (pos 0)) s)
declare_each-numbers (slot ∷ slots) (i ∷ t) s = declare_each-numbers slots t (with_value_in (PlainKind IntLeaf) slot (Int i) s)

pub declare_each-each : (variable : ℕ) (others : List ℕ) (t : Index) (s : Memory)
    → (declare_each in_memory (unplaced_leaf (int_leaf variable) ∷ map {A = AfterComma (Placed Variable)} {B = Placed Variable} (λ x. x.part) (map next_name others)) t s).words.numbers ≡ each_put (variable ∷ others) t s.words.numbers
declare_each-each variable others [] s = declare_each-numbers others [] (with_value_in (PlainKind IntLeaf) variable (Int (pos 0)) s)
declare_each-each variable others (i ∷ t) s = declare_each-numbers others t (with_value_in (PlainKind IntLeaf) variable (Int i) s)

-- by the rank
module _ (r : Option Pace) (slot variable : ℕ) (ws : List ℤ) (row : Row) (x y z : ℤ) (coordinates : row.first ≡ last_of (length row.first) x y z) where
  first_is : (n : ℕ) → length row.first ≡ n → row.first ≡ last_of n x y z
  first_is n long = coordinates ∙ ap (λ n. last_of n x y z) long

  -- the last coordinate in a turn
  abbrev last : ℕ → ℤ
  last k = z +ℤ row.step *ℤ pos k

  -- what is put into slots from another index on
  abbrev PutFrom : List ℕ → Index → Type 0
  PutFrom slots t = IfSome r (GoesIn row.step (λ k. each_put slots (along (row.step *ℤ pos k) t) ws) slot)

  pub each_put-one : (others : List ℕ) → length row.first ≡ 1 → length others ≡ 0 → IfSome r (GoesIn row.step (λ k. set ws variable (last k)) slot)
      → IfSome r (GoesIn row.step (λ k. each_put (variable ∷ others) (behind k row) ws) slot)
  each_put-one [] one none goes = subst (PutFrom (variable ∷ [])) (sym (first_is 1 one)) goes
  each_put-one (o ∷ others) one none goes = absurd (omega (arith, none))

  pub each_put-two : (others : List ℕ) (o : ℕ) → length row.first ≡ 2 → length others ≡ 1 → get_or others 0 o ≡ o → IfSome r (GoesIn row.step (λ k. set (set ws variable y) o (last k)) slot)
      → IfSome r (GoesIn row.step (λ k. each_put (variable ∷ others) (behind k row) ws) slot)
  each_put-two [] o two one is goes = absurd (omega (arith, one))
  each_put-two (a ∷ []) o two one is goes =
      subst (PutFrom (variable ∷ a ∷ [])) (sym (first_is 2 two))
      (subst (λ o. IfSome r (GoesIn row.step (λ k. set (set ws variable y) o (last k)) slot)) (sym is) goes)
  each_put-two (a ∷ b ∷ others) o two one is goes = absurd (omega (arith, one))

  pub each_put-three : (others : List ℕ) (o p : ℕ) → length row.first ≡ 3 → length others ≡ 2 → get_or others 0 o ≡ o → get_or others 1 p ≡ p
      → IfSome r (GoesIn row.step (λ k. set (set (set ws variable x) o y) p (last k)) slot)
      → IfSome r (GoesIn row.step (λ k. each_put (variable ∷ others) (behind k row) ws) slot)
  each_put-three [] o p three two is also goes = absurd (omega (arith, two))
  each_put-three (a ∷ []) o p three two is also goes = absurd (omega (arith, two))
  each_put-three (a ∷ b ∷ []) o p three two is also goes =
      subst (PutFrom (variable ∷ a ∷ b ∷ [])) (sym (first_is 3 three))
      (subst (λ o. IfSome r (GoesIn row.step (λ k. set (set (set ws variable x) o y) b (last k)) slot)) (sym is) (subst (λ p. IfSome r (GoesIn row.step (λ k. set (set (set ws variable x) o y) p (last k)) slot)) (sym also) goes))
  each_put-three (a ∷ b ∷ c ∷ others) o p three two is also goes = absurd (omega (arith, two))

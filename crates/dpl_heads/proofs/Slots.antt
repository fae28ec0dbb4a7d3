-- How many slots there are behind a loop's variables: as many as the next one says, since each has the next slot.
use Rattle.std.proofs.Common.{◌≡◌, ◌≤◌, ℕ, ◌+◌, max, map, List, [], ◌∷◌, Option, ap, ◌∙◌, sym, arith}
use Rattle.dpl_language.specs.Tree.{Placed, AfterComma, VariablesTree, OneVariable, ManyVariables}
use Rattle.dpl_language.specs.Names.{Text}
use Rattle.dpl_rules.specs.Types.{ValueType}
use Rattle.dpl_rules.specs.Sights.{Declared, Scopes, add}
use Rattle.dpl_rules.specs.Loops.{variables_of, add_variables}
use Rattle.dpl_scopes.specs.Slots.{next_slot_in}
use Rattle.dpl_scopes.proofs.Slots.{count_in-add}
use Rattle.dpl_bound.specs.Bounds.{loop_variable, with_slot, slots_each}

next-one : (d : Declared) (ss : Scopes) → next_slot_in (add d ss) ≡ next_slot_in ss + 1
next-one d ss = let more = count_in-add d ss in omega (arith, more)

next-later : (t : Option ValueType) (xs : List (Placed Text)) (ss : Scopes) → next_slot_in ss ≤ next_slot_in (add_variables t xs ss)
next-later t [] ss = omega arith
next-later t (x ∷ xs) ss =
    let d = loop_variable t ss x.name in
    let here = next-one d ss in
    let more = next-later t xs (add d ss) in
    omega (arith, here, more)

most : (n a b c : ℕ) → a + 1 ≡ b → b ≤ c → max (max n (a + 1)) c ≡ max n c
most n a b c e h = omega (arith, e, h)

slots-next : (t : Option ValueType) (x : Placed Text) (xs : List (Placed Text)) (ss : Scopes) (n : ℕ) → slots_each t (x ∷ xs) ss n ≡ max n (next_slot_in (add_variables t (x ∷ xs) ss))
slots-next t x [] ss n = ap (max n) (sym (next-one (loop_variable t ss x.name) ss))
slots-next t x (y ∷ ys) ss n =
    let d = loop_variable t ss x.name in
    slots-next t y ys (add d ss) (with_slot ss n)
    ∙ most n (next_slot_in ss) (next_slot_in (add d ss)) (next_slot_in (add_variables t (y ∷ ys) (add d ss))) (sym (next-one d ss)) (next-later t (y ∷ ys) (add d ss))

pub variables-slots : (t : Option ValueType) (xs : VariablesTree Text) (ss : Scopes) (n : ℕ) → slots_each t (variables_of xs) ss n ≡ max n (next_slot_in (add_variables t (variables_of xs) ss))
variables-slots t (OneVariable x) ss n = slots-next t x [] ss n
variables-slots t (ManyVariables from xs upto) ss n = slots-next t xs.first (map {A = AfterComma (Placed Text)} {B = Placed Text} (λ x. x.part) xs.others) ss n

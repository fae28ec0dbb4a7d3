-- Intents by their operators: whether a list of them reduces a name, and whether an assignment goes on with it.
-- A list with commas is its first part and the others.
use Rattle.std.proofs.Common.{◌≡◌, true, false, List, [], ◌∷◌, map, Some, None, refl}
use Rattle.std.specs.Prelude.{bytes_eq, if◌then◌else◌, is_some}
use Rattle.dpl_language.specs.Tree.{AfterComma, Op, Assign, IntentTree, ReduceIntent, RefIntent}
use Rattle.dpl_language.specs.Names.{Text}
use Rattle.dpl_language.specs.Phrases.{reduce_intents}
use Rattle.dpl_rules.specs.Sights.{reduces}
use Rattle.dpl_rules.specs.Bodies.{goes_on, goes_on_in}
use Rattle.dpl_bodies.specs.Intents.{operator_of, intent_operator, next_operator, goes_on_with, or_operator}

pub reduces_operator : (vs : List (Text × Op)) (x : Text) → reduces vs x ≡ is_some (operator_of vs x)
reduces_operator [] x = refl
reduces_operator (v ∷ vs) x =
    elim (bytes_eq x v.0) as (λ t. (if t then true else reduces vs x) ≡ is_some (if t then Some v.1 else operator_of vs x))
    [ true ↦ refl | false ↦ reduces_operator vs x ]

pub goes_on_in_operator : (vs : List (Text × Op)) (x : Text) (sign : Assign) → goes_on_in vs x sign ≡ goes_on_with (operator_of vs x) sign
goes_on_in_operator [] x sign = refl
goes_on_in_operator (v ∷ vs) x sign =
    elim (bytes_eq x v.0) as (λ t. (if t then goes_on sign v.1 else goes_on_in vs x sign) ≡ goes_on_with (if t then Some v.1 else operator_of vs x) sign)
    [ true ↦ refl | false ↦ goes_on_in_operator vs x sign ]

pub operator_of_first : (i : IntentTree Text) (js : List (IntentTree Text)) (x : Text) →
    operator_of (reduce_intents (i ∷ js)) x ≡ or_operator (intent_operator i x) (operator_of (reduce_intents js) x)
operator_of_first (ReduceIntent at op word y) js x =
    let rest = operator_of (reduce_intents js) x in
    elim (bytes_eq x y.name) as (λ t. (if t then Some op else rest) ≡ or_operator (if t then Some op else None) rest)
    [ true ↦ refl | false ↦ refl ]
operator_of_first (RefIntent at y) js x = refl

pub next_operator_first : (n : AfterComma (IntentTree Text)) (ns : List (AfterComma (IntentTree Text))) (x : Text) →
    next_operator (n ∷ ns) x ≡ or_operator (intent_operator n.part x) (next_operator ns x)
next_operator_first n ns x = operator_of_first n.part (map {A = AfterComma (IntentTree Text)} {B = IntentTree Text} (λ x. x.part) ns) x

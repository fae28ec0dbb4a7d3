-- The operator by which a list of intents reduces a name: that of the first that names it.
-- The rules ask whether there is one, and whether an assignment goes on with it.
use Rattle.std.specs.Prelude.{Bool, false, bytes_eq, if◌then◌else◌, List, [], ◌∷◌, map, Option, Some, None}
use Rattle.dpl_language.specs.Tree.{AfterComma, Op, Assign, IntentTree}
use Rattle.dpl_language.specs.Names.{Text}
use Rattle.dpl_language.specs.Phrases.{reduce_intents}
use Rattle.dpl_rules.specs.Bodies.{goes_on}

abbrev pub operator_of : List (Text × Op) → Text → Option Op
operator_of [] x = None
operator_of (v ∷ vs) x = if bytes_eq x v.0 then Some v.1 else operator_of vs x

-- by one intent alone
abbrev pub intent_operator : IntentTree Text → Text → Option Op
intent_operator i x = operator_of (reduce_intents (i ∷ [])) x

-- by intents behind commas
abbrev pub next_operator : List (AfterComma (IntentTree Text)) → Text → Option Op
next_operator is x = operator_of (reduce_intents (map {A = AfterComma (IntentTree Text)} {B = IntentTree Text} (λ x. x.part) is)) x

-- the assignment goes on with the operator, if there is one
abbrev pub goes_on_with : Option Op → Assign → Bool
goes_on_with None sign = false
goes_on_with (Some op) sign = goes_on sign op

abbrev pub or_operator : Option Op → Option Op → Option Op
or_operator None other = other
or_operator (Some op) other = Some op

-- Scopes, and the turns of loops.
-- A block, a loop and a body open a scope; a loop's variables stand in one, and its body in another inside it.
use Rattle.std.specs.Prelude.{nat_lt, pos, List, [], ◌∷◌}
use Rattle.dpl_syntax.specs.declared.place.Place.{Place}
use Rattle.dpl_language.specs.Tree.{Placed, VariablesTree, OneVariable, ManyVariables}
use Rattle.dpl_sets.specs.TextRanges.{TextRange}
use Rattle.dpl_language.specs.Values.{Value, Int, Index, fault, Budget}
use Rattle.dpl_language.specs.Ranges.{indices_in, size_in, loop_value}
use Rattle.dpl_language.specs.Outcome.{Done, Run, then_do, unless, in_order, naming}
use Rattle.dpl_language.specs.Environment.{Environment, Limits, Plain}
use Rattle.dpl_language.specs.Phrases.{parts}

-- A loop over a domain: more indices than the budget are F5, before its first turn; else its turns, in domain order.
abbrev pub within_budget : {S : Type 0} → Limits → Place → List TextRange → (Index → Run S) → Run S
within_budget limits at rs turn =
    unless (nat_lt limits.budget (size_in rs)) (fault Budget at) (in_order turn (indices_in rs))

-- a turn whose fault names it
abbrev pub named_turn : {S : Type 0} → (Index → Run S) → Index → Run S
named_turn turn t s done = naming t (turn t s done)

module _ {N S : Type 0} (env : Environment N S) where
  -- a run in a scope of its own
  abbrev pub scoped : Run S → Run S
  scoped body s done = then_do (body (env.enter s) done) (λ s done. Done (env.leave s) done)

  -- a name for each coordinate; a name without one, which no sound program has, is 0
  abbrev pub declare_each : List (Placed N) → Index → S → S
  declare_each [] t s = s
  declare_each (x ∷ xs) [] s = declare_each xs [] (env.declare x.name (Plain (Int (pos 0))) s)
  declare_each (x ∷ xs) (i ∷ t) s = declare_each xs t (env.declare x.name (Plain (Int i)) s)

  -- a loop's variables in a turn: one, whose value is by what the loop runs over, or one for each coordinate
  abbrev pub bound_to : VariablesTree N → Value → Index → S → S
  bound_to (OneVariable x) over t s = env.declare x.name (Plain (loop_value over t)) s
  bound_to (ManyVariables from xs upto) over t s = declare_each (parts xs) t s

  -- a turn of a loop
  abbrev pub turn_of : VariablesTree N → Value → Run S → Index → Run S
  turn_of xs over body t = scoped (λ s done. scoped body (bound_to xs over t s) done)

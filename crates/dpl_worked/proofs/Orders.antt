-- The turns of a text's first forall, made in another order than that of its indices, computed from the text's bytes on.
-- Where the forall is admitted every order leaves the same variables; rows of foralls that the rules refuse show the difference.
use Rattle.std.proofs.Common.{◌≡◌, ℤ, pos, ℕ, List, [], ◌∷◌, Option, Some, None, Result, Ok, Err, refl, sym, ap, ◌∙◌, arith}
use Rattle.std.specs.Prelude.{codes, IsPermutation}
use Rattle.std.specs.Int.{int_wrap}
use Rattle.dpl_sets.specs.Members.{members}
use Rattle.dpl_sets.specs.Indices.{indices}
use Rattle.dpl_syntax.specs.declared.token.Token.{Token}
use Rattle.dpl_grammar.specs.Reader.{Read}
use Rattle.dpl_language.specs.Tree.{Stmts, NoStmts, Then, VariablesTree, Body, Loop, ForallWord}
use Rattle.dpl_language.specs.Values.{Value, Int, Index, Fault}
use Rattle.dpl_language.specs.Ranges.{indices_in, loop_ranges}
use Rattle.dpl_language.specs.Environment.{Limits, Content, ArrayOf}
use Rattle.dpl_language.specs.Phrases.{intents_of}
use Rattle.dpl_language.specs.Outcome.{Deeds, Outcome, Done, Stop, Waits, in_order, no_deeds}
use Rattle.dpl_language.specs.Expressions.{item_of}
use Rattle.dpl_language.specs.Statements.{exec}
use Rattle.dpl_language.specs.Names.{Text, Entry, State, by_name}
use Rattle.dpl_language.specs.Program.{first_state, left}
use Rattle.dpl_rules.specs.AnyOrder.{turns_by_name, AnyOrder}
use Rattle.dpl_spelling.specs.Grammar.{Program}
use Rattle.dpl_spelling.proofs.Programs.{read}
use Rattle.dpl_worked.proofs.Lexer.{tokens_of}
use Rattle.dpl_worked.proofs.Texts.{by_text}

abbrev limits : Limits
limits = record { budget = 16777216; locales = 1 }

-- a forall, and the state in which its turns begin
record Reached : Type 0 where
  variables : VariablesTree Text
  over : Value
  body : Body Text
  state : State
  done : Deeds

abbrev reached : VariablesTree Text → Body Text → Result Value Fault → State → Deeds → Option Reached
reached xs body (Ok v) s done = Some (record { variables = xs; over = v; body = body; state = s; done = done })
reached xs body (Err f) s done = None

abbrev behind : Outcome State → (State → Deeds → Option Reached) → Option Reached
behind (Done s done) go = go s done
behind (Stop f done) go = None
behind (Waits at c op done) go = None

abbrev first_forall : Stmts Text → State → Deeds → Option Reached
first_forall NoStmts s done = None
first_forall (Then (Loop ForallWord at xs word item intents body) rest) s done =
    reached xs body (item_of limits by_name item None s) (by_name.intend (intents_of intents) s) done
first_forall (Then t rest) s done = behind (exec limits by_name t s done) (first_forall rest)

abbrev in_tree : Read Program → Option Reached
in_tree (Ok x) = first_forall x.0.stmts (first_state [] []) no_deeds
in_tree (Err e) = None

abbrev in_tokens : Option (List Token) → Option Reached
in_tokens None = None
in_tokens (Some ks) = in_tree (read 64 ks)

abbrev forall_of : List ℕ → Option Reached
forall_of text = in_tokens (tokens_of text)

-- the turns of these indices, one behind the other
abbrev made : List Index → Option Reached → Option (Outcome State)
made ts None = None
made ts (Some r) = Some (in_order (turns_by_name limits r.variables r.over r.body) ts r.state r.done)

abbrev on_a_line : List ℤ → List Index
on_a_line [] = []
on_a_line (i ∷ is) = (i ∷ []) ∷ on_a_line is

abbrev in_turns : List ℕ → List ℤ → Option (Outcome State)
in_turns text ts = made (on_a_line ts) (forall_of text)

-- ---- admitted foralls
abbrev a_sum_of_elements : List ℕ
a_sum_of_elements = codes "var A: [1..3] int; var s = 5; forall i in 1..3 with (+ reduce s) { A[i] = i * i; s += A[i]; }"

backwards : in_turns a_sum_of_elements (pos 3 ∷ pos 2 ∷ pos 1 ∷ []) ≡ in_turns a_sum_of_elements (pos 1 ∷ pos 2 ∷ pos 3 ∷ [])
unfolding by_text int_wrap members indices
backwards = refl

-- a turn faults whether it is the first or the last
abbrev past_the_array : List ℕ
past_the_array = codes "var A: [1..2] int; forall i in 1..3 do A[i] = i;"

faults_anywhere : in_turns past_the_array (pos 3 ∷ pos 1 ∷ pos 2 ∷ []) ≡ in_turns past_the_array (pos 1 ∷ pos 2 ∷ pos 3 ∷ [])
unfolding by_text int_wrap members indices
faults_anywhere = refl

-- ---- a forall that the rules refuse: each turn writes one element
abbrev one_element : List ℕ
one_element = codes "var A: [1..1] int; forall i in 1..2 do A[1] = i;"

abbrev elements_in : Content Text → List Value
elements_in (ArrayOf over k rs vs) = vs
elements_in _ = []

abbrev elements : Option (List Entry) → List Value
elements (Some (e ∷ es)) = elements_in e.content
elements _ = []

abbrev elements_left : Option (Outcome State) → List Value
elements_left None = []
elements_left (Some o) = elements (left o)

last_wins : elements_left (in_turns one_element (pos 1 ∷ pos 2 ∷ [])) ≡ Int (pos 2) ∷ []
unfolding by_text int_wrap members indices
last_wins = refl

first_wins : elements_left (in_turns one_element (pos 2 ∷ pos 1 ∷ [])) ≡ Int (pos 1) ∷ []
unfolding by_text int_wrap members indices
first_wins = refl

-- so its turns are not free of their order
abbrev IsFree : Option Reached → Type 0
IsFree None = Unit {0}
IsFree (Some r) = AnyOrder limits r.variables r.over r.body r.state r.done

abbrev in_its_order : Option Reached → List Index
in_its_order None = []
in_its_order (Some r) = indices_in (loop_ranges limits.locales r.over)

orders-agree : (x : Option Reached) → IsFree x → (us : List Index) → IsPermutation us (in_its_order x) → (v : Value) (vs : List Value)
    → elements_left (made (in_its_order x) x) ≡ v ∷ vs → elements_left (made us x) ≡ v ∷ vs
orders-agree None free us p v vs e = e
orders-agree (Some r) free us p v vs e = by (in_order (turns_by_name limits r.variables r.over r.body) (in_its_order (Some r)) r.state r.done) refl e
  where
    by : (o : Outcome State) → in_order (turns_by_name limits r.variables r.over r.body) (in_its_order (Some r)) r.state r.done ≡ o
        → elements (left o) ≡ v ∷ vs → elements_left (made us (Some r)) ≡ v ∷ vs
    by (Done s done) is e = ap (λ o. elements (left o)) (free.leaves us s done p is) ∙ e
    by (Stop f done) is e = absurd cc
    by (Waits at c op done) is e = absurd cc

both_ways : IsPermutation ((pos 2 ∷ []) ∷ (pos 1 ∷ []) ∷ []) (in_its_order (forall_of one_element))
unfolding by_text int_wrap members indices
both_ways = record { moves = (0, 1) ∷ []; below = (omega arith, omega arith, tt); is = refl }

its_order : elements_left (made (in_its_order (forall_of one_element)) (forall_of one_element)) ≡ Int (pos 2) ∷ []
unfolding by_text int_wrap members indices
its_order = refl

not_free : IsFree (forall_of one_element) → ⊥
not_free free =
    let other : elements_left (made ((pos 2 ∷ []) ∷ (pos 1 ∷ []) ∷ []) (forall_of one_element)) ≡ Int (pos 2) ∷ [] =
    orders-agree (forall_of one_element) free ((pos 2 ∷ []) ∷ (pos 1 ∷ []) ∷ []) both_ways (Int (pos 2)) [] its_order in
    let e : Int (pos 1) ∷ [] ≡ Int (pos 2) ∷ [] = sym first_wins ∙ other in
    absurd cc

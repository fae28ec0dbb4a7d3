-- What texts write, computed from their bytes on: programs that enter no coforall.
-- `writes_said` is what a row says: the text comes to these bytes.
use Rattle.std.proofs.Common.{◌≡◌, inr, ℕ, List, [], ◌∷◌, Option, Some, None, Ok, Err, refl, subst, sym}
use Rattle.std.specs.Prelude.{codes}
use Rattle.std.specs.Int.{int_wrap}
use Rattle.std.specs.Fmt.{digits}
use Rattle.dpl_sets.specs.Members.{members}
use Rattle.dpl_sets.specs.Indices.{indices}
use Rattle.dpl_syntax.specs.Text.{Lexes}
use Rattle.dpl_syntax.specs.declared.token.Token.{Token}
use Rattle.dpl_syntax.specs.declared.refusal.Refusal.{Refusal}
use Rattle.dpl_grammar.specs.Reader.{Read}
use Rattle.dpl_language.specs.Names.{State, by_name}
use Rattle.dpl_language.specs.Values.{fault, CellStuck}
use Rattle.dpl_language.specs.Outcome.{Entered, Outcome, Done, Stop, Waits, no_deeds}
use Rattle.dpl_language.specs.Statements.{exec_all}
use Rattle.dpl_language.specs.Environment.{Limits}
use Rattle.dpl_language.specs.Program.{settled, first_state, written, deeds_of, top_level, own_frame}
use Rattle.dpl_language.specs.Together.{Happened, AllTogether}
use Rattle.dpl_spelling.specs.Grammar.{Program}
use Rattle.dpl_spelling.proofs.Programs.{read, read_spelled}
use Rattle.dpl_rules.specs.Sound.{refusal}
use Rattle.dpl_says.specs.Given.{given}
use Rattle.dpl_says.specs.Says.{Ending, Leaves, Faults, ending_of, run_of, IsProgram, ComesTo}
use Rattle.dpl_worked.proofs.Lexer.{tokens_of}
use Rattle.dpl_worked.proofs.Lexed.{tokens_lexed}
use Rattle.dpl_worked.proofs.Texts.{by_text, by_rules}

-- ---- what is written, by sets and limits
module _ (sets : List (List ℕ)) (limits : Limits) where
  abbrev run : Program → Outcome State
  run t = run_of t sets limits []

  -- what is written, where no coforall was entered
  abbrev without_tasks : List Entered → List ℕ → Option (List ℕ)
  without_tasks [] text = Some text
  without_tasks (e ∷ es) text = None

  abbrev of_sound : Option Refusal → Program → Option (List ℕ)
  of_sound None t = without_tasks (deeds_of (run t)).entered (written (run t))
  of_sound (Some r) t = None

  abbrev of_tree : Program → List Token → Option (List ℕ)
  of_tree t [] = of_sound (refusal t sets) t
  of_tree t (k ∷ ks) = None

  abbrev of_read : Read Program → Option (List ℕ)
  of_read (Ok x) = of_tree x.0 x.1
  of_read (Err e) = None

  abbrev of_tokens : Option (List Token) → Option (List ℕ)
  of_tokens None = None
  of_tokens (Some ks) = of_read (read 64 ks)

  abbrev pub writes_by : List ℕ → Option (List ℕ)
  writes_by text = of_tokens (tokens_of text)

  -- ---- what that is

  -- the text comes to some end, and to these bytes
  abbrev SaysSo : List ℕ → List ℕ → Type 0
  SaysSo text said = (e : Ending) × ComesTo [] text sets limits [] e said

  -- a run has an end: none waits for ever
  settled_ends : (o : Outcome State) → (e : Ending) × (ending_of (settled o) ≡ Some e)
  settled_ends (Done s done) = (Leaves (own_frame (top_level s.store)), refl)
  settled_ends (Stop f done) = (Faults f, refl)
  settled_ends (Waits at c op done) = (Faults (fault CellStuck at), refl)

  run_ends : (t : Program) → (e : Ending) × (ending_of (run t) ≡ Some e)
  run_ends t = settled_ends (exec_all limits by_name t.stmts (first_state (given t sets) []) no_deeds)

  -- nothing happened that could not
  run_said : (t : Program) (said : List ℕ) → without_tasks (deeds_of (run t)).entered (written (run t)) ≡ Some said
      → Happened (run t) × (said ≡ written (run t))
  run_said t said e = at (deeds_of (run t)).entered refl e
    where
      at : (es : List Entered) → (deeds_of (run t)).entered ≡ es → without_tasks es (written (run t)) ≡ Some said
          → Happened (run t) × (said ≡ written (run t))
      at [] a e = (subst AllTogether (sym a) tt, cc)
      at (c ∷ es) a e = absurd cc

  -- What is computed of a text is what it says.
  writes_said : (text said : List ℕ) → writes_by text ≡ Some said → SaysSo text said
  writes_said text said e = by_tokens (tokens_of text) refl e
    where
      by_refusal : (ks : List Token) → Lexes text ks → (t : Program) → read 64 ks ≡ Ok (t, [])
          → (r : Option Refusal) → refusal t sets ≡ r → of_sound r t ≡ Some said → SaysSo text said
      by_refusal ks lexes t reads None none e =
          let s = run_said t said e in
          let ends = run_ends t in
          let is : IsProgram [] text sets t = record { tokens = ks; lexes = lexes; spells = read_spelled 64 ks t reads; unrefused = by_rules ks (refusal t sets) None none } in
          (ends.0, inr (t, is, record { happened = s.0; writes = s.1; ends = ends.1 }))
      by_refusal ks lexes t reads (Some r) some e = absurd cc

      by_tree : (ks : List Token) → Lexes text ks → (t : Program) (rest : List Token) → read 64 ks ≡ Ok (t, rest)
          → of_tree t rest ≡ Some said → SaysSo text said
      by_tree ks lexes t [] reads e = by_refusal ks lexes t reads (refusal t sets) refl e
      by_tree ks lexes t (k ∷ rest) reads e = absurd cc

      by_read : (ks : List Token) → Lexes text ks → (o : Read Program) → read 64 ks ≡ o → of_read o ≡ Some said → SaysSo text said
      by_read ks lexes (Ok (t, rest)) reads e = by_tree ks lexes t rest reads e
      by_read ks lexes (Err stop) reads e = absurd cc

      by_tokens : (o : Option (List Token)) → tokens_of text ≡ o → of_tokens o ≡ Some said → SaysSo text said
      by_tokens None a e = absurd cc
      by_tokens (Some ks) a e = by_read ks (tokens_lexed text ks a) (read 64 ks) refl e

-- with no sets, and the budget that a run has by default
abbrev pub writes : List ℕ → Option (List ℕ)
writes text = writes_by [] (record { budget = 16777216; locales = 1 }) text

-- with another budget
abbrev pub writes_within : ℕ → List ℕ → Option (List ℕ)
writes_within budget text = writes_by [] (record { budget = budget; locales = 1 }) text

-- ---- rows

a_sum : writes (codes "var s: int; forall i in 1..8 by 2 with (+ reduce s) do s += i*i; writeln(s);") ≡ Some (codes "84\n")
unfolding by_text int_wrap digits members indices
a_sum = refl

-- a turn sees what it has written
own_write_seen : writes (codes "var A: [1..3] int; forall i in A.domain { A[i] = i; A[i] += A[i]; } writeln(A);") ≡ Some (codes "2 4 6\n")
unfolding by_text int_wrap digits members indices
own_write_seen = refl

-- each partial result begins from nothing, and the variable's value counts once
variable_once : writes (codes "var s: int = 10; forall i in 1..4 with (+ reduce s) do s reduce= i; writeln(s);") ≡ Some (codes "20\n")
unfolding by_text int_wrap digits members indices
variable_once = refl

fault_in_a_turn : writes (codes "var A: [1..3] int; write(A); forall i in 1..4 do A[i] = i;") ≡ Some (codes "0 0 0\n! F1 at 1:50 in turn 4\n")
unfolding by_text int_wrap digits members indices
fault_in_a_turn = refl

-- What `write` and `writeln` mean: all arguments are evaluated from left to right, and then they are printed.
-- An argument may be a cell read, which changes the state even where a later argument is a fault.
use Rattle.std.specs.Prelude.{ℕ, pos, Bool, true, false, Option, Some, None, List, [], ◌∷◌, ◌++◌, map, unwrap_or}
use Rattle.dpl_language.specs.Tree.{Placed, One, ArgumentTree, TextArgument, ExprArgument, Listed, WriteTree}
use Rattle.dpl_sets.specs.TextRanges.{TextRange}
use Rattle.dpl_language.specs.Values.{Value, Int, array_domain}
use Rattle.dpl_language.specs.Ranges.{indices_in}
use Rattle.dpl_language.specs.Printing.{printed, printed_array}
use Rattle.dpl_language.specs.Outcome.{Done, Run, with_text}
use Rattle.dpl_language.specs.Environment.{Environment, Limits}
use Rattle.dpl_language.specs.Phrases.{bare_name, parts}
use Rattle.dpl_language.specs.Assignments.{evaluated}

-- `writeln` ends the line
abbrev pub line_end : Bool → List ℕ
line_end true = 10 ∷ []
line_end false = []

abbrev pub arguments_of : {N : Type 0} → Option (Listed (ArgumentTree N)) → List (ArgumentTree N)
arguments_of None = []
arguments_of (Some xs) = parts xs

module _ {N S : Type 0} (limits : Limits) (env : Environment N S) where
  -- what a bare name shows: of a whole array its elements in domain order, of which each index of its domain has one
  abbrev pub name_shown : Placed N → Value → Option (List TextRange) → S → List ℕ
  name_shown x v None s = printed v
  name_shown x v (Some rs) s = printed_array rs (map (λ t. unwrap_or (env.element x.name t s) (Int (pos 0))) (indices_in rs))

  abbrev pub shown : Option (Placed N) → Value → S → List ℕ
  shown None v s = printed v
  shown (Some x) v s = name_shown x v (array_domain v) s

  -- the arguments' texts behind a text, and what is done with it
  abbrev pub arguments_then : List (ArgumentTree N) → List ℕ → (List ℕ → Run S) → Run S
  arguments_then [] text go s done = go text s done
  arguments_then (TextArgument at cs ∷ rest) text go s done = arguments_then rest (text ++ cs) go s done
  arguments_then (ExprArgument e ∷ rest) text go s done =
      evaluated limits env (One e) (λ v s done. arguments_then rest (text ++ shown (bare_name e) v s) go s done) s done

  abbrev pub write : WriteTree N → Run S
  write w = arguments_then (arguments_of w.arguments) []
      (λ text s done. Done s (with_text (text ++ line_end w.ends_line) done))

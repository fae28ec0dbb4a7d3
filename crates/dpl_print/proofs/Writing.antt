-- What `write` prints, by the texts of its arguments.
-- Each lemma has the meaning of the plain arguments or of the plain statement on its left side.
use Rattle.std.proofs.Common.{◌≡◌, ℕ, Bool, List, [], ◌∷◌, ◌++◌, map, None, Result, Ok, Err, refl, sym, ap, ◌∙◌}
use Rattle.std.proofs.lemmas.List.{append_assoc, append-nil}
use Rattle.dpl_language.specs.Tree.{AfterComma, ExprTree, One, ArgumentTree, ExprArgument}
use Rattle.dpl_language.specs.Values.{Value, Fault}
use Rattle.dpl_language.specs.Outcome.{Deeds, Done, Run, with_ok, with_value, with_text}
use Rattle.dpl_language.specs.Environment.{Limits}
use Rattle.dpl_language.specs.Phrases.{bare_name, cell_read}
use Rattle.dpl_language.specs.Expressions.{value_of}
use Rattle.dpl_language.specs.Assignments.{read_or}
use Rattle.dpl_language.specs.Writing.{line_end, shown, arguments_of, arguments_then}
use Rattle.dpl_language.specs.Statements.{exec}
use Rattle.dpl_memory.specs.Memory.{Variable, Memory, in_memory}
use Rattle.dpl_nodes.specs.declared.step.Argument.{Argument}
use Rattle.dpl_nodes.specs.declared.step.Argument.TheVariants.{Text, Int, Truth, Array}
use Rattle.dpl_nodes.specs.Typed.{int_view, truth_view}
use Rattle.dpl_nodes.specs.Steps.{argument_view, next_argument_view, arguments_view, written_as}
use Rattle.dpl_print.specs.Texts.{array_text, arguments_text, behind}
use Rattle.dpl_nodes.proofs.Unread.{cell_read-int, cell_read-truth}

-- one text behind another
pub behind-append : (text more : List ℕ) (r : Result (List ℕ) Fault) → behind (text ++ more) r ≡ behind text (with_ok r (λ rest. Ok (more ++ rest)))
behind-append text more (Ok rest) = ap Ok (append_assoc text more rest)
behind-append text more (Err f) = refl

parts-map : (xs : List Argument) → map {A = AfterComma (ArgumentTree Variable)} {B = ArgumentTree Variable} (λ x. x.part) (map next_argument_view xs) ≡ map argument_view xs
parts-map [] = refl
parts-map (a ∷ xs) = ap (λ rest. argument_view a ∷ rest) (parts-map xs)

arguments-listed : (xs : List Argument) → arguments_of (arguments_view xs) ≡ map argument_view xs
arguments-listed [] = refl
arguments-listed (a ∷ xs) = ap (λ rest. argument_view a ∷ rest) (parts-map xs)

module _ (limits : Limits) where
  -- the texts of the other arguments, behind whatever text
  abbrev AreTexts : List Argument → Type 0
  AreTexts xs = (text : List ℕ) (go : List ℕ → Run Memory) (s : Memory) (done : Deeds)
      → arguments_then limits in_memory (map argument_view xs) text go s done ≡ with_value (behind text (arguments_text limits xs s)) go s done

  value-text : (e : ExprTree Variable) (xs : List Argument) (text : List ℕ) (go : List ℕ → Run Memory) (s : Memory) (done : Deeds) (r : Result Value Fault) → AreTexts xs
      → with_value r (λ v s done. arguments_then limits in_memory (map argument_view xs) (text ++ shown limits in_memory (bare_name e) v s) go s done) s done
      ≡ with_value (behind text (with_ok (with_ok r (λ v. Ok (shown limits in_memory (bare_name e) v s))) (λ t. with_ok (arguments_text limits xs s) (λ more. Ok (t ++ more))))) go s done
  value-text e xs text go s done (Ok v) others =
      others (text ++ shown limits in_memory (bare_name e) v s) go s done ∙ ap (λ r. with_value r go s done) (behind-append text (shown limits in_memory (bare_name e) v s) (arguments_text limits xs s))
  value-text e xs text go s done (Err f) others = refl

  argument-text : (e : ExprTree Variable) (xs : List Argument) (text : List ℕ) (go : List ℕ → Run Memory) (s : Memory) (done : Deeds) → cell_read e ≡ None → AreTexts xs
      → arguments_then limits in_memory (ExprArgument e ∷ map argument_view xs) text go s done
      ≡ with_value (behind text (with_ok (with_ok (value_of limits in_memory e None s) (λ v. Ok (shown limits in_memory (bare_name e) v s))) (λ t. with_ok (arguments_text limits xs s) (λ more. Ok (t ++ more))))) go s done
  argument-text e xs text go s done read others =
      ap (λ o. read_or limits in_memory o (One e) (λ v s done. arguments_then limits in_memory (map argument_view xs) (text ++ shown limits in_memory (bare_name e) v s) go s done) s done) read
      ∙ value-text e xs text go s done (value_of limits in_memory e None s) others

  arguments-text : (xs : List Argument) → AreTexts xs
  arguments-text [] text go s done = ap (λ t. go t s done) (sym (append-nil text))
  arguments-text (Text bytes ∷ xs) text go s done =
      arguments-text xs (text ++ bytes.now) go s done ∙ ap (λ r. with_value r go s done) (behind-append text bytes.now (arguments_text limits xs s))
  arguments-text (Int e ∷ xs) text go s done = argument-text (int_view e.now) xs text go s done (cell_read-int e.now) (arguments-text xs)
  arguments-text (Array k slot ∷ xs) text go s done =
      arguments-text xs (text ++ array_text k slot s) go s done ∙ ap (λ r. with_value r go s done) (behind-append text (array_text k slot s) (arguments_text limits xs s))
  arguments-text (Truth e ∷ xs) text go s done = argument-text (truth_view e.now) xs text go s done (cell_read-truth e.now) (arguments-text xs)

  behind-nothing : (r : Result (List ℕ) Fault) → behind [] r ≡ r
  behind-nothing (Ok t) = refl
  behind-nothing (Err f) = refl

  pub exec-written : (ends_line : Bool) (xs : List Argument) (s : Memory) (done : Deeds)
      → exec limits in_memory (written_as ends_line xs) s done ≡ with_value (arguments_text limits xs s) (λ text s done. Done s (with_text (text ++ line_end ends_line) done)) s done
  exec-written ends_line xs s done =
      ap (λ ys. arguments_then limits in_memory ys [] (λ text s done. Done s (with_text (text ++ line_end ends_line) done)) s done) (arguments-listed xs)
      ∙ arguments-text xs [] (λ text s done. Done s (with_text (text ++ line_end ends_line) done)) s done
      ∙ ap (λ r. with_value r (λ text s done. Done s (with_text (text ++ line_end ends_line) done)) s done) (behind-nothing (arguments_text limits xs s))

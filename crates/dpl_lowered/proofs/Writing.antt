-- A lowered write prints what the write prints that it comes from.
-- Each argument is the same cell read or none, has the same value, and is shown the same.
use Rattle.std.proofs.Common.{◌≡◌, ℕ, true, false, List, [], ◌∷◌, ◌++◌, refl, sym, ap, ◌∙◌, Some, None, Option, map}
use Rattle.std.specs.Prelude.{unwrap_or, pos}
use mathlib.Core.Path.{fun_ext}
use Rattle.dpl_sets.specs.TextRanges.{TextRange}
use Rattle.dpl_language.specs.Values.{Value, array_domain, Int}
use Rattle.dpl_language.specs.Ranges.{indices_in}
use Rattle.dpl_language.specs.Printing.{printed, printed_array}
use Rattle.dpl_language.specs.Tree.{Placed, ExprTree, One}
use Rattle.dpl_language.specs.Tree.{ArgumentTree, TextArgument, ExprArgument, WriteTree}
use Rattle.dpl_language.specs.Outcome.{Deeds, Done, Run, with_text, with_value}
use Rattle.dpl_language.specs.Environment.{Environment, Limits}
use Rattle.dpl_language.specs.Phrases.{bare_name, cell_read, name_of}
use Rattle.dpl_language.specs.Expressions.{named, value_of}
use Rattle.dpl_language.specs.Assignments.{evaluated}
use Rattle.dpl_language.specs.Writing.{line_end, arguments_of, name_shown, shown, arguments_then, write}
use Rattle.dpl_lowered.specs.Known.{Known, Unknown, WholeArray, NoArray, PlainValue, may_be_array, IsAsKnown, IsKnown}
use Rattle.dpl_lowered.specs.Shapes.{hidden}
use Rattle.dpl_lowered.specs.LoweredExpressions.{Once, lowered_expr}
use Rattle.dpl_lowered.specs.LoweredStatements.{array_name, lowered_shown, lowered_argument, lowered_write}
use Rattle.dpl_lowered.proofs.Nests.{hidden-value}
use Rattle.dpl_lowered.proofs.Seen.{bare_name-is, shown-read, Shows, SameName, NoArrayName, shown-shows}
use Rattle.dpl_lowered.proofs.Values.{value_of-lowered}
use Rattle.dpl_lowered.proofs.Parts.{arguments-relisted}
use Rattle.dpl_lowered.proofs.Assignments.{evaluated-same}

module _ {N S : Type 0} (limits : Limits) (env : Environment N S) where
  name_shown-same : (x y : Placed N) (v : Value) (o : Option (List TextRange)) (s : S) → x.name ≡ y.name → name_shown limits env x v o s ≡ name_shown limits env y v o s
  name_shown-same x y v None s e = refl
  name_shown-same x y v (Some rs) s e = ap (λ n. printed_array rs (map (λ t. unwrap_or (env.element n t s) (Int (pos 0))) (indices_in rs))) e

  -- a bare name is shown by its name
  shown-same : (a b : Option (Placed N)) (v : Value) (s : S) → name_of a ≡ name_of b → shown limits env a v s ≡ shown limits env b v s
  shown-same None None v s e = refl
  shown-same None (Some y) v s e = absurd (let no : None ≡ Some y.name = e in cc)
  shown-same (Some x) None v s e = absurd (let no : Some x.name ≡ None = e in cc)
  shown-same (Some x) (Some y) v s e = name_shown-same x y v (array_domain v) s (let same : Some x.name ≡ Some y.name = e in cc)

-- what is known to be no array has no array's domain
no_domain : (k : Known) (v : Value) → may_be_array k ≡ false → IsAsKnown k v → array_domain v ≡ None
no_domain Unknown v e h = absurd (let no : true ≡ false = e in cc)
no_domain WholeArray v e h = absurd (let no : true ≡ false = e in cc)
no_domain NoArray v e h = h
no_domain PlainValue v e h = h.0

module _ {N S : Type 0} (limits : Limits) (env : Environment N S) (known : N → Known) (is : IsKnown known env) where
  shown-value : (e : ExprTree N) (s : S) → value_of limits env (lowered_shown known e (lowered_expr known Once e)) None s ≡ value_of limits env e None s
  shown-value e s =
      hidden-value limits env (bare_name e) (array_name known (bare_name (lowered_expr known Once e))) (hidden (cell_read e) (cell_read (lowered_expr known Once e)) (lowered_expr known Once e)) None s
      ∙ hidden-value limits env (cell_read e) (cell_read (lowered_expr known Once e)) (lowered_expr known Once e) None s
      ∙ value_of-lowered limits env known is Once e None s tt

  -- the other arguments print the same, behind whatever text
  abbrev AreLowered : List (ArgumentTree N) → Type 0
  AreLowered rest = (text : List ℕ) (go : List ℕ → Run S) (s : S) (done : Deeds)
      → arguments_then limits env (map (lowered_argument known) rest) text go s done ≡ arguments_then limits env rest text go s done

  -- an argument that is the same bare name or none; or the bare name of what is no array, which is shown like its value
  argument-shown : (e : ExprTree N) (rest : List (ArgumentTree N)) (text : List ℕ) (go : List ℕ → Run S) (s : S) (done : Deeds) → AreLowered rest → Shows known e (lowered_shown known e (lowered_expr known Once e))
      → arguments_then limits env (lowered_argument known (ExprArgument e) ∷ map (lowered_argument known) rest) text go s done ≡ arguments_then limits env (ExprArgument e ∷ rest) text go s done
  argument-shown e rest text go s done others-lowered (SameName same) =
      evaluated-same limits env known is (One (lowered_shown known e (lowered_expr known Once e))) (One e) _ s done (shown-read known e) (shown-value e s)
      ∙ ap (λ go. evaluated limits env (One e) go s done) (fun_ext (λ v. fun_ext (λ s. fun_ext (λ done.
      ap (λ more. arguments_then limits env (map (lowered_argument known) rest) (text ++ more) go s done) (shown-same limits env _ _ v s same)
      ∙ others-lowered (text ++ shown limits env (bare_name e) v s) go s done))))
  argument-shown e rest text go s done others-lowered (NoArrayName x name k none) =
      let l = lowered_shown known e (lowered_expr known Once e) in
      let v = env.get x.name s in
      let more : Option (Placed N) → Value → Run S = λ b v s done. arguments_then limits env (map (lowered_argument known) rest) (text ++ shown limits env b v s) go s done in
      let others : Option (Placed N) → Value → Run S = λ b v s done. arguments_then limits env rest (text ++ shown limits env b v s) go s done in
      ap (λ b. evaluated limits env (One l) (more b) s done) name
      ∙ ap (λ l. evaluated limits env (One l) (more (Some x)) s done) (bare_name-is l x name)
      ∙ ap (λ o. with_value (named limits env None x o v s) (more (Some x)) s done) (no_domain (known x.name) v k (is x.name s))
      ∙ ap (λ o. arguments_then limits env (map (lowered_argument known) rest) (text ++ name_shown limits env x v o s) go s done) (no_domain (known x.name) v k (is x.name s))
      ∙ others-lowered (text ++ printed v) go s done
      ∙ sym (ap (λ o. with_value (named limits env None x o v s) (others None) s done) (no_domain (known x.name) v k (is x.name s)))
      ∙ sym (ap (λ l. evaluated limits env (One l) (others None) s done) (bare_name-is l x name))
      ∙ evaluated-same limits env known is (One l) (One e) (others None) s done (shown-read known e) (shown-value e s)
      ∙ sym (ap (λ b. evaluated limits env (One e) (others b) s done) none)

  arguments-lowered : (xs : List (ArgumentTree N)) → AreLowered xs
  arguments-lowered [] text go s done = refl
  arguments-lowered (TextArgument at cs ∷ rest) text go s done = arguments-lowered rest (text ++ cs) go s done
  arguments-lowered (ExprArgument e ∷ rest) text go s done = argument-shown e rest text go s done (arguments-lowered rest) (shown-shows known e)

  pub write-lowered : (w : WriteTree N) (s : S) (done : Deeds) → write limits env (lowered_write known w) s done ≡ write limits env w s done
  write-lowered w s done =
      ap (λ xs. arguments_then limits env xs [] (λ text s done. Done s (with_text (text ++ line_end w.ends_line) done)) s done) (arguments-relisted (lowered_argument known) w.arguments)
      ∙ arguments-lowered (arguments_of w.arguments) [] _ s done

-- How what was printed grows by the texts of arguments, one by one, and what a `write` leaves of it.
-- Where an argument is a fault, cutting the text back to what it was leaves what was printed before.
use Rattle.std.proofs.Common.{◌≡◌, ℕ, zero, suc, ◌+◌, ◌<◌, arith, Bool, List, [], ◌∷◌, ◌++◌, length, drop, take, get_or, Result, Ok, Err, sym, subst, ap, ◌∙◌}
use Rattle.std.proofs.lemmas.List.{append_assoc, append-nil}
use Rattle.std.proofs.Math.Seq.{take-append_seam}
use Rattle.dpl_syntax.proofs.Walks.{drop-at}
use Rattle.dpl_language.specs.Values.{Fault}
use Rattle.dpl_language.specs.Outcome.{Deeds, Done, Stop, with_ok, with_value, with_text}
use Rattle.dpl_language.specs.Environment.{Limits}
use Rattle.dpl_language.specs.Writing.{line_end}
use Rattle.dpl_language.specs.Statements.{exec}
use Rattle.dpl_memory.specs.Memory.{Memory, in_memory}
use Rattle.dpl_nodes.specs.declared.step.Argument.{Argument}
use Rattle.dpl_nodes.specs.Steps.{written_as}
use Rattle.dpl_frame.specs.Faults.{fault_view}
use Rattle.dpl_loop.specs.declared.stop.RunStop.{RunStop}
use Rattle.dpl_loop.specs.declared.stop.RunStop.TheVariants as stop
use Rattle.dpl_loop.specs.Runs.{RunsTo, having_printed}
use Rattle.dpl_print.specs.Texts.{argument_text, arguments_text, behind, Grew, GrewBy}
use Rattle.dpl_values.specs.Arguments.{EachInArgument, EachInArguments}
use Rattle.dpl_print.proofs.Writing.{behind-append, exec-written}

-- TEXTS THAT GREW
pub grew_nothing : (t : List ℕ) → Grew t t
grew_nothing t = ([], sym (append-nil t))

grew_more : (a b c : List ℕ) → Grew a b → Grew b c → Grew a c
grew_more a b c first second = (first.0 ++ second.0, second.1 ∙ ap (λ t. t ++ second.0) first.1 ∙ append_assoc a first.0 second.0)

behind-grew : (old new : List ℕ) (r : Result (List ℕ) Fault) → behind old r ≡ Ok new → Grew old new
behind-grew old new (Ok t) e = let same : Ok (old ++ t) ≡ Ok new = e in let grown : new ≡ old ++ t = cc in (t, grown)
behind-grew old new (Err f) e = absurd (let no : Err f ≡ Ok new = e in cc)

behind-then : (old new : List ℕ) (r rest : Result (List ℕ) Fault) → behind old r ≡ Ok new → behind old (with_ok r (λ t. with_ok rest (λ more. Ok (t ++ more)))) ≡ behind new rest
behind-then old new (Ok t) rest e =
    let same : Ok (old ++ t) ≡ Ok new = e in let grown : old ++ t ≡ new = cc in sym (behind-append old t rest) ∙ ap (λ text. behind text rest) grown
behind-then old new (Err f) rest e = absurd (let no : Err f ≡ Ok new = e in cc)

behind-fault : (old : List ℕ) (r : Result (List ℕ) Fault) (f : Fault) → behind old r ≡ Err f → r ≡ Err f
behind-fault old (Ok t) f e = absurd (let no : Ok (old ++ t) ≡ Err f = e in cc)
behind-fault old (Err g) f e = e

-- what holds of the reductions in all arguments holds of those in each
pub each-argument : (xs : List Argument) (k : ℕ) (a : Argument) (Holds : ℕ → Type 0) → k < length xs → a ≡ get_or xs k a → EachInArguments xs Holds → EachInArgument a Holds
each-argument [] k a Holds within is all = absurd (omega (arith, within))
each-argument (x ∷ xs) zero a Holds within is all = subst (λ x. EachInArgument x Holds) (sym is) all.0
each-argument (x ∷ xs) (suc k) a Holds within is all = each-argument xs k a Holds (omega (arith, within)) is all.1

module _ (limits : Limits) where
  -- ARGUMENTS ONE BY ONE
  texts-at : (xs : List Argument) (k : ℕ) (a : Argument) (s : Memory) → k < length xs → a ≡ get_or xs k a
      → arguments_text limits (drop k xs) s ≡ with_ok (argument_text limits a s) (λ t. with_ok (arguments_text limits (drop (k + 1) xs) s) (λ more. Ok (t ++ more)))
  texts-at xs k a s within is = ap (λ ys. arguments_text limits ys s) (drop-at xs k a within is)

  pub texts-step : (xs : List Argument) (k : ℕ) (a : Argument) (s : Memory) (first old new : List ℕ) → k < length xs → a ≡ get_or xs k a → behind old (argument_text limits a s) ≡ Ok new
      → (behind old (arguments_text limits (drop k xs) s) ≡ behind first (arguments_text limits xs s)) × Grew first old
      → (behind new (arguments_text limits (drop (k + 1) xs) s) ≡ behind first (arguments_text limits xs s)) × Grew first new
  texts-step xs k a s first old new within is shown so_far = (
    sym (behind-then old new (argument_text limits a s) (arguments_text limits (drop (k + 1) xs) s) shown) ∙ sym (ap (behind old) (texts-at xs k a s within is)) ∙ so_far.0,
    grew_more first old new so_far.1 (behind-grew old new (argument_text limits a s) shown),
  )

  pub texts-halt : (may more : Type 0) (xs : List Argument) (k : ℕ) (a : Argument) (s : Memory) (first old new : List ℕ) (h : RunStop) → (may → more) → k < length xs → a ≡ get_or xs k a → GrewBy may (Err h) old new (argument_text limits a s)
      → (behind old (arguments_text limits (drop k xs) s) ≡ behind first (arguments_text limits xs s)) × Grew first old → GrewBy more (Err h) first new (arguments_text limits xs s)
  texts-halt may more xs k a s first old new (stop.Fault f) wider within is shown so_far = (
    behind-fault first (arguments_text limits xs s) (fault_view f)
        (sym so_far.0 ∙ ap (behind old) (texts-at xs k a s within is ∙ ap (λ r. with_ok r (λ t. with_ok (arguments_text limits (drop (k + 1) xs) s) (λ more. Ok (t ++ more)))) shown.0)),
    grew_more first old new so_far.1 shown.1,
  )
  texts-halt may more xs k a s first old new stop.Memory wider within is shown so_far = tt
  texts-halt may more xs k a s first old new stop.Thread wider within is shown so_far = tt
  texts-halt may more xs k a s first old new stop.Gate wider within is shown so_far = wider shown

  -- WRITES
  written-value : (ends_line : Bool) (s : Memory) (done : Deeds) (old new : List ℕ) (r : Result (List ℕ) Fault) → behind old r ≡ Ok new
      → with_value r (λ text s done. Done s (with_text (text ++ line_end ends_line) done)) s (having_printed old done) ≡ Done s (having_printed (new ++ line_end ends_line) done)
  written-value ends_line s done old new (Ok t) e =
      let same : Ok (old ++ t) ≡ Ok new = e in let grown : old ++ t ≡ new = cc in
      ap (λ text. Done s (having_printed text done)) (sym (append_assoc old t (line_end ends_line)) ∙ ap (λ text. text ++ line_end ends_line) grown)
  written-value ends_line s done old new (Err f) e = absurd (let no : Err f ≡ Ok new = e in cc)

  pub written-ends : (ends_line : Bool) (xs : List Argument) (s : Memory) (done : Deeds) (old new : List ℕ) → behind old (arguments_text limits xs s) ≡ Ok new
      → exec limits in_memory (written_as ends_line xs) s (having_printed old done) ≡ Done s (having_printed (new ++ line_end ends_line) done)
  written-ends ends_line xs s done old new e =
      exec-written limits ends_line xs s (having_printed old done) ∙ written-value ends_line s done old new (arguments_text limits xs s) e

  pub written-halts : (may : Type 0) (ends_line : Bool) (xs : List Argument) (s : Memory) (done : Deeds) (old new : List ℕ) (h : RunStop) → GrewBy may (Err h) old new (arguments_text limits xs s)
      → RunsTo may (Err h) s (having_printed (take (length old) new) done) (exec limits in_memory (written_as ends_line xs) s (having_printed old done))
  written-halts may ends_line xs s done old new (stop.Fault f) e =
      exec-written limits ends_line xs s (having_printed old done)
      ∙ ap (λ r. with_value r (λ text s done. Done s (with_text (text ++ line_end ends_line) done)) s (having_printed old done)) e.0
      ∙ ap (λ text. Stop (fault_view f) (having_printed text done)) (sym (ap (take (length old)) e.1.1 ∙ take-append_seam old e.1.0))
  written-halts may ends_line xs s done old new stop.Memory e = tt
  written-halts may ends_line xs s done old new stop.Thread e = tt
  written-halts may ends_line xs s done old new stop.Gate e = e

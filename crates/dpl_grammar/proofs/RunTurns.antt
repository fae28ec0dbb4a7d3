-- Loops that read a run: as many values as there are, up to one that lets no other follow.
-- Where the loop stands, the values read before go in front of what is still read, and together these are what the whole reads.
use Rattle.std.proofs.Common.{◌≡◌, ℕ, zero, suc, ◌≤◌, ◌<◌, Bool, true, false, List, [], ◌∷◌, ◌++◌, length, Ok, Err, refl, sym, ap, ◌∙◌, arith}
use Rattle.std.proofs.lemmas.List.{append-nil}
use Rattle.dpl_syntax.specs.declared.token.Token.{Token}
use Rattle.dpl_syntax.specs.declared.stop.Stop.{Stop}
use Rattle.dpl_syntax.specs.declared.stop.Stop.TheVariants.{Memory, Refused}
use Rattle.dpl_grammar.specs.Classes.{Class}
use Rattle.dpl_grammar.specs.Reader.{Cause, Reader, on_read, next_in, run_turns_at, run_at}
use Rattle.dpl_grammar.specs.Gives.{Fails}
use Rattle.dpl_grammar.proofs.Turns.{with_front, front_none, regroup}

-- what was read before, all of which lets more follow, and what is still read
pub record IsRunSoFar {T : Type 0} (F : Class) (more : T → Bool) (p : Reader T) (tokens : List Token) (front : List T) (rest : List Token) : Type 0 where
  pub turns : ℕ
  pub enough : length rest ≤ turns
  pub whole : with_front front (run_turns_at F more p turns rest) ≡ run_at F more p tokens
  pub shorter : length rest ≤ length tokens

module _ {T : Type 0} (F : Class) (more : T → Bool) (p : Reader T) (tokens : List Token) where
  pub run_begins : IsRunSoFar F more p tokens [] tokens
  run_begins = record { turns = length tokens; enough = omega arith; whole = front_none (run_at F more p tokens); shorter = omega arith }

  goes_on_at : (n : ℕ) (front : List T) (rest : List Token) (x : T) (after : List Token) → length rest ≤ n → with_front front (run_turns_at F more p n rest) ≡ run_at F more p tokens → length rest ≤ length tokens
      → next_in F rest ≡ true → p rest ≡ Ok (x, after) → more x ≡ true → length after < length rest → IsRunSoFar F more p tokens (front ++ x ∷ []) after
  unfolding run_turns_at
  goes_on_at zero front rest x after le w s is e m lt = absurd (omega arith)
  goes_on_at (suc n) front rest x after le w s is e m lt =
      let one : run_turns_at F more p (suc n) rest ≡ on_read (run_turns_at F more p n after) (λ xs. Ok (x ∷ xs.0, xs.1)) = rw (is, e, m) refl in
      record { turns = n; enough = omega arith; whole = sym (regroup front x (run_turns_at F more p n after)) ∙ sym (ap (with_front front) one) ∙ w; shorter = omega arith }

  pub run_goes_on : (front : List T) (rest : List Token) (x : T) (after : List Token) → IsRunSoFar F more p tokens front rest
      → next_in F rest ≡ true → p rest ≡ Ok (x, after) → more x ≡ true → length after < length rest → IsRunSoFar F more p tokens (front ++ x ∷ []) after
  run_goes_on front rest x after h is e m lt = goes_on_at h.turns front rest x after h.enough h.whole h.shorter is e m lt

  last_at : (n : ℕ) (front : List T) (rest : List Token) (x : T) (after : List Token) → length rest ≤ n → with_front front (run_turns_at F more p n rest) ≡ run_at F more p tokens
      → next_in F rest ≡ true → p rest ≡ Ok (x, after) → more x ≡ false → length after < length rest → run_at F more p tokens ≡ Ok (front ++ x ∷ [], after)
  unfolding run_turns_at
  last_at zero front rest x after le w is e m lt = absurd (omega arith)
  last_at (suc n) front rest x after le w is e m lt =
      let one : run_turns_at F more p (suc n) rest ≡ Ok (x ∷ [], after) = rw (is, e, m) refl in
      sym w ∙ ap (with_front front) one

  pub run_last : (front : List T) (rest : List Token) (x : T) (after : List Token) → IsRunSoFar F more p tokens front rest
      → next_in F rest ≡ true → p rest ≡ Ok (x, after) → more x ≡ false → length after < length rest → run_at F more p tokens ≡ Ok (front ++ x ∷ [], after)
  run_last front rest x after h is e m lt = last_at h.turns front rest x after h.enough h.whole is e m lt

  ends_at : (n : ℕ) (front : List T) (rest : List Token) → with_front front (run_turns_at F more p n rest) ≡ run_at F more p tokens → next_in F rest ≡ false → run_at F more p tokens ≡ Ok (front, rest)
  unfolding run_turns_at
  ends_at zero front rest w not = sym w ∙ ap (λ (l : List T). Ok (l, rest)) (append-nil front)
  ends_at (suc n) front rest w not =
      let none : run_turns_at F more p (suc n) rest ≡ Ok ([], rest) = rw not refl in
      sym w ∙ ap (with_front front) none ∙ ap (λ (l : List T). Ok (l, rest)) (append-nil front)

  pub run_ends : (front : List T) (rest : List Token) → IsRunSoFar F more p tokens front rest → next_in F rest ≡ false → run_at F more p tokens ≡ Ok (front, rest)
  run_ends front rest h not = ends_at h.turns front rest h.whole not

  fails_at : (n : ℕ) (front : List T) (rest : List Token) (e : Cause × List Token) → length rest ≤ n → with_front front (run_turns_at F more p n rest) ≡ run_at F more p tokens → next_in F rest ≡ true → p rest ≡ Err e → run_at F more p tokens ≡ Err e
  unfolding run_turns_at
  fails_at zero front [] e le w is er = absurd cc
  fails_at zero front (k ∷ rest) e le w is er = absurd (omega arith)
  fails_at (suc n) front rest e le w is er =
      let one : run_turns_at F more p (suc n) rest ≡ Err e = rw (is, er) refl in
      sym w ∙ ap (with_front front) one

  pub run_fails : (front : List T) (rest : List Token) (e : Stop) → IsRunSoFar F more p tokens front rest → next_in F rest ≡ true → Fails e (p rest) → Fails e (run_at F more p tokens)
  run_fails front rest Memory h is f = tt
  run_fails front rest (Refused refusal) h is f = (f.0, f.1, fails_at h.turns front rest (f.0, f.1) h.enough h.whole is f.2, f.3)

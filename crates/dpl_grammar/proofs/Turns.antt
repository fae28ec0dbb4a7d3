-- Loops that read as many values as there are.
-- Where the loop stands, the values read before go in front of what is still read, and together these are what the whole reads.
use Rattle.std.proofs.Common.{◌≡◌, ℕ, zero, suc, ◌≤◌, ◌<◌, true, false, List, [], ◌∷◌, ◌++◌, length, Ok, Err, refl, sym, ap, ◌∙◌, append_assoc, arith}
use Rattle.std.proofs.lemmas.List.{append-nil}
use Rattle.dpl_syntax.specs.declared.token.Token.{Token}
use Rattle.dpl_grammar.specs.Classes.{Class}
use Rattle.dpl_grammar.specs.Reader.{Cause, Read, Reader, on_read, next_in, each_at, many_at}
use Rattle.dpl_grammar.specs.Gives.{Fails}
use Rattle.dpl_syntax.specs.declared.stop.Stop.{Stop}
use Rattle.dpl_syntax.specs.declared.stop.Stop.TheVariants.{Memory, Refused}

abbrev pub with_front : {T : Type 0} → List T → Read (List T) → Read (List T)
with_front front r = on_read r (λ x. Ok (front ++ x.0, x.1))

-- what was read before, and what is still read
pub record IsSoFar {T : Type 0} (F : Class) (p : Reader T) (tokens : List Token) (front : List T) (rest : List Token) : Type 0 where
  pub turns : ℕ
  pub enough : length rest ≤ turns
  pub whole : with_front front (each_at F p turns rest) ≡ many_at F p tokens
  pub shorter : length rest ≤ length tokens

pub front_none : {T : Type 0} (r : Read (List T)) → with_front [] r ≡ r
front_none (Ok x) = refl
front_none (Err e) = refl

pub regroup : {X : Type 0} (front : List X) (x : X) (r : Read (List X)) → with_front front (on_read r (λ xs. Ok (x ∷ xs.0, xs.1))) ≡ with_front (front ++ x ∷ []) r
regroup {X = X} front x (Ok xs) = ap (λ (l : List X). Ok (l, xs.1)) (simp append_assoc)
regroup front x (Err e) = refl

module _ {T : Type 0} (F : Class) (p : Reader T) (tokens : List Token) where
  pub begins : IsSoFar F p tokens [] tokens
  begins = record { turns = length tokens; enough = omega arith; whole = front_none (many_at F p tokens); shorter = omega arith }

  goes_on_at : (n : ℕ) (front : List T) (rest : List Token) (x : T) (after : List Token) → length rest ≤ n → with_front front (each_at F p n rest) ≡ many_at F p tokens → length rest ≤ length tokens
      → next_in F rest ≡ true → p rest ≡ Ok (x, after) → length after < length rest → IsSoFar F p tokens (front ++ x ∷ []) after
  unfolding each_at
  goes_on_at zero front rest x after le w s is e lt = absurd (omega arith)
  goes_on_at (suc n) front rest x after le w s is e lt =
      let one : each_at F p (suc n) rest ≡ on_read (each_at F p n after) (λ xs. Ok (x ∷ xs.0, xs.1)) = rw (is, e) refl in
      record { turns = n; enough = omega arith; whole = sym (regroup front x (each_at F p n after)) ∙ sym (ap (with_front front) one) ∙ w; shorter = omega arith }

  pub goes_on : (front : List T) (rest : List Token) (x : T) (after : List Token) → IsSoFar F p tokens front rest
      → next_in F rest ≡ true → p rest ≡ Ok (x, after) → length after < length rest → IsSoFar F p tokens (front ++ x ∷ []) after
  goes_on front rest x after h is e lt = goes_on_at h.turns front rest x after h.enough h.whole h.shorter is e lt

  ends_at : (n : ℕ) (front : List T) (rest : List Token) → with_front front (each_at F p n rest) ≡ many_at F p tokens → next_in F rest ≡ false → many_at F p tokens ≡ Ok (front, rest)
  unfolding each_at
  ends_at zero front rest w not = sym w ∙ ap (λ (l : List T). Ok (l, rest)) (append-nil front)
  ends_at (suc n) front rest w not =
      let none : each_at F p (suc n) rest ≡ Ok ([], rest) = rw not refl in
      sym w ∙ ap (with_front front) none ∙ ap (λ (l : List T). Ok (l, rest)) (append-nil front)

  pub ends : (front : List T) (rest : List Token) → IsSoFar F p tokens front rest → next_in F rest ≡ false → many_at F p tokens ≡ Ok (front, rest)
  ends front rest h not = ends_at h.turns front rest h.whole not

  fails_at : (n : ℕ) (front : List T) (rest : List Token) (e : Cause × List Token) → length rest ≤ n → with_front front (each_at F p n rest) ≡ many_at F p tokens → next_in F rest ≡ true → p rest ≡ Err e → many_at F p tokens ≡ Err e
  unfolding each_at
  fails_at zero front [] e le w is er = absurd cc
  fails_at zero front (k ∷ rest) e le w is er = absurd (omega arith)
  fails_at (suc n) front rest e le w is er =
      let one : each_at F p (suc n) rest ≡ Err e = rw (is, er) refl in
      sym w ∙ ap (with_front front) one

  pub fails : (front : List T) (rest : List Token) (e : Cause × List Token) → IsSoFar F p tokens front rest → next_in F rest ≡ true → p rest ≡ Err e → many_at F p tokens ≡ Err e
  fails front rest e h is er = fails_at h.turns front rest e h.enough h.whole is er

pub so_fails : {T : Type 0} (F : Class) (p : Reader T) (tokens : List Token) (front : List T) (rest : List Token) (e : Stop) → IsSoFar F p tokens front rest → next_in F rest ≡ true → Fails e (p rest) → Fails e (many_at F p tokens)
so_fails F p tokens front rest Memory h is f = tt
so_fails F p tokens front rest (Refused refusal) h is f = (f.0, f.1, fails F p tokens front rest (f.0, f.1) h is f.2, f.3)

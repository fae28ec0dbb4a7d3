-- What a parser's results say: the value of tokens that are read to their end, or the tokens' refusal.
-- These are the steps from what the reader gives to the clauses of a parse.
use Rattle.std.proofs.Common.{◌≡◌, ◌⊎◌, inl, inr, ℕ, suc, Bool, List, [], ◌∷◌, length, Result, Ok, Err, refl, sym, ap, subst, ◌∙◌}
use Rattle.dpl_syntax.specs.declared.token.Token.{Token}
use Rattle.dpl_syntax.specs.declared.refusal.Code.TheVariants.{Unexpected as UnexpectedCode}
use Rattle.dpl_syntax.specs.declared.refusal.Refusal.{Refusal}
use Rattle.dpl_syntax.specs.declared.stop.Stop.{Stop}
use Rattle.dpl_syntax.specs.declared.stop.Stop.TheVariants.{Memory, Refused}
use Rattle.dpl_grammar.specs.Classes.{Class}
use Rattle.dpl_grammar.specs.Language.{Language}
use Rattle.dpl_grammar.specs.Reader.{Reader}
use Rattle.dpl_grammar.specs.Laws.{Reads}
use Rattle.dpl_grammar.specs.Gives.{place_of, Fails}
use Rattle.dpl_grammar.specs.Parsing.{Spells, Refuses}
use Rattle.dpl_grammar.proofs.Depths.{read_spelled, read_only}
use Rattle.dpl_grammar.proofs.Refusals.{refusal_one, refused_unspelled, stopped_refused, left_refused}

nothing_left : (rest : List Token) → length rest ≡ 0 → rest ≡ []
nothing_left [] e = refl
nothing_left (k ∷ rest) e = absurd cc

-- errors

abbrev pub bad : {Y : Type 0} → Stop → Result Y Stop
bad e = Err e

pub bad_is : {Y : Type 0} (e f : Stop) → bad {Y = Y} e ≡ bad {Y = Y} f → e ≡ f
bad_is e f h = cc

refused_is : (r s : Refusal) → Refused r ≡ Refused s → r ≡ s
refused_is r s h = cc

-- each refusal that the error is, is that of the tokens
abbrev pub IsTheirs : {T : Type 0} → (ℕ → Language T) → ℕ → List Token → Stop → Type 0
IsTheirs L n ts e = (refusal : Refusal) → e ≡ Refused refusal → Refuses L n ts refusal

module _ {T : Type 0} {X : Class} {L : ℕ → Language T} {p : ℕ → Reader T} {empty : Bool} {F C : Class}
    (every : (d : ℕ) → Reads X (L d) (L (suc d)) (p d) (p (suc d)) empty F (λ x. C)) (n : ℕ) where
  -- a value that is read with nothing left behind it

  pub whole_spelled : (ts rest : List Token) (x : T) → length rest ≡ 0 → p n ts ≡ Ok (x, rest) → Spells L n ts x
  whole_spelled ts rest x none is = read_spelled every n ts x (is ∙ ap (λ (l : List Token). Ok (x, l)) (nothing_left rest none))

  pub whole_only : (d : ℕ) (ts rest : List Token) (x y : T) → p n ts ≡ Ok (x, rest) → Spells L d ts y → x ≡ y
  whole_only d ts rest x y is s = (read_only every n d ts x y rest is s).0

  -- a refusal: where something is left, and where reading stops

  pub left_over : (ts rest : List Token) (x : T) → (length rest ≡ 0 → ⊥) → p n ts ≡ Ok (x, rest) → Refuses L n ts (record { code = UnexpectedCode; place = place_of rest })
  left_over ts [] x some is = absurd (some refl)
  left_over ts (k ∷ rest) x some is = left_refused every n ts rest x k is

  fails_refused : (ts : List Token) (refusal : Refusal) → Fails (Refused refusal) (p n ts) → Refuses L n ts refusal
  fails_refused ts refusal (c, rest, is, e) = rw e (stopped_refused every n ts rest c is)

  pub fails_is : (ts : List Token) (e : Stop) → Fails e (p n ts) → IsTheirs L n ts e
  fails_is ts e f refusal is = fails_refused ts refusal (rw is at f)

  pub left_is : (ts : List Token) (e : Stop) (r : Refusal) → e ≡ Refused r → Refuses L n ts r → IsTheirs L n ts e
  left_is ts e r is h refusal as_well = subst (Refuses L n ts) (refused_is r refusal (sym is ∙ as_well)) h

  -- what an error says, where each refusal is that of the tokens

  pub not_spelled : (ts : List Token) (e : Stop) → IsTheirs L n ts e → (x : T) → Spells L n ts x → e ≡ Memory
  not_spelled ts Memory h x s = refl
  not_spelled ts (Refused refusal) h x s = absurd (refused_unspelled every n ts refusal x (h refusal refl) s)

  -- the refusal of the tokens is told, unless memory ran out
  pub told : {Y : Type 0} (ts : List Token) (e : Stop) → IsTheirs L n ts e → (refusal : Refusal) → Refuses L n ts refusal → (bad {Y = Y} e ≡ bad (Refused refusal)) ⊎ (bad {Y = Y} e ≡ bad Memory)
  told ts Memory h refusal g = inr refl
  told {Y = Y} ts (Refused s) h refusal g = inl (ap (λ (r : Refusal). bad {Y = Y} (Refused r)) (refusal_one every n ts s refusal (h s refl) g))

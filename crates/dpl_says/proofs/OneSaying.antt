-- Each text is a program or has a refusal, and not both; so by given histories it says one thing, and ends in one way.
-- Its tokens, its tree and its refusal are the only ones that it has.
use Rattle.std.proofs.Common.{◌≡◌, ◌⊎◌, inl, inr, ⊎_elim, ℕ, List, [], ◌∷◌, ◌++◌, sym, ap, ◌∙◌, subst, Some, None, Option, refl}
use Rattle.dpl_syntax.specs.declared.token.Token.{Token}
use Rattle.dpl_syntax.specs.declared.refusal.Refusal.{Refusal}
use Rattle.dpl_syntax.specs.Text.{Lexes}
use Rattle.dpl_syntax.specs.Lines.{refusal_text}
use Rattle.dpl_lexer.proofs.Laws.{lexes_once, lexes_unrefused, refuses_once}
use Rattle.dpl_lexer.proofs.Total.{lexes_or_refuses}
use Rattle.dpl_history.specs.declared.history.Event.{Event}
use Rattle.dpl_grammar.specs.Classes.{Class}
use Rattle.dpl_language.specs.Tree.{ProgramTree}
use Rattle.dpl_language.specs.Names.{Text}
use Rattle.dpl_language.specs.Environment.{Limits}
use Rattle.dpl_spelling.specs.Theorem.{Spells, Refuses}
use Rattle.dpl_spelling.proofs.Programs.{spelled_once, refusal_one, refused_unspelled, spelled_or_refused}
use Rattle.dpl_says.specs.Says.{refusal_of, IsProgram, IsRefused, IsRead, Ending, Refused, Means, ComesTo}

module _ (closed : Class) (text : List ℕ) (sets : List (List ℕ)) where
  abbrev told : List Token → ProgramTree Text → Option Refusal
  told = refusal_of closed sets

  pub IsProgram-one : (t u : ProgramTree Text) → IsProgram closed text sets t → IsProgram closed text sets u → t ≡ u
  IsProgram-one t u a b = spelled_once 64 64 b.tokens t u (subst (λ ks. Spells 64 ks t) (lexes_once text a.tokens b.tokens a.lexes b.lexes) a.spells) b.spells

  -- a program has no refusal
  pub IsProgram-unrefused : (t : ProgramTree Text) (r : Refusal) → IsProgram closed text sets t → IsRefused closed text sets r → ⊥
  IsProgram-unrefused t r a refused =
      ⊎_elim (lexes_unrefused text a.tokens r a.lexes)
      (λ b.
      let tokens : a.tokens ≡ b.0 = lexes_once text a.tokens b.0 a.lexes b.1 in
      let spells : Spells 64 b.0 t = subst (λ ks. Spells 64 ks t) tokens a.spells in
      ⊎_elim (λ p. refused_unspelled b.0 r t p spells)
      (λ c.
      let none : Some r ≡ None = sym c.2 ∙ ap (λ u. told b.0 u) (spelled_once 64 64 b.0 c.0 t c.1 spells) ∙ ap (λ ks. told ks t) (sym tokens) ∙ a.unrefused in
      cc)
      b.2)
      refused

  tree_refusal_one : (ks : List Token) (t u : ProgramTree Text) (r q : Refusal) → Spells 64 ks t → Spells 64 ks u → told ks t ≡ Some r → told ks u ≡ Some q → r ≡ q
  tree_refusal_one ks t u r q a b e f =
      let same : Some r ≡ Some q = sym e ∙ ap (λ t. told ks t) (spelled_once 64 64 ks t u a b) ∙ f in
      cc

  abbrev OfTokens : List Token → Refusal → Type 0
  OfTokens ks r = Refuses ks r ⊎ ((t : ProgramTree Text) × Spells 64 ks t × (told ks t ≡ Some r))

  token_refusal_one : (ks : List Token) (r q : Refusal) → OfTokens ks r → OfTokens ks q → r ≡ q
  token_refusal_one ks r q a b =
      ⊎_elim (λ x. ⊎_elim (λ y. refusal_one ks r q x y) (λ y. absurd (refused_unspelled ks r y.0 x y.1)) b)
      (λ x. ⊎_elim (λ y. absurd (refused_unspelled ks q x.0 y x.1)) (λ y. tree_refusal_one ks x.0 y.0 r q x.1 y.1 x.2 y.2) b) a

  pub IsRefused-one : (r q : Refusal) → IsRefused closed text sets r → IsRefused closed text sets q → r ≡ q
  IsRefused-one r q a b =
      ⊎_elim
      (λ x. ⊎_elim (λ y. refuses_once text r q x y) (λ y. absurd (lexes_unrefused text y.0 r y.1 x)) b)
      (λ x. ⊎_elim (λ y. absurd (lexes_unrefused text x.0 q x.1 y))
      (λ y. token_refusal_one y.0 r q (subst (λ ks. OfTokens ks r) (lexes_once text x.0 y.0 x.1 y.1) x.2) y.2) b)
      a

  -- what its tokens spell is refused, or is a program
  tree_read : (ks : List Token) (t : ProgramTree Text) → Lexes text ks → Spells 64 ks t → IsRead closed text sets
  tree_read ks t lexes spells = at (told ks t) refl
    where
      at : (r : Option Refusal) → told ks t ≡ r → IsRead closed text sets
      at (Some r) e = inr (r, inr (ks, lexes, inr (t, spells, e)))
      at None e = inl (t, record { tokens = ks; lexes = lexes; spells = spells; unrefused = e })

  -- Every text is a program or has a refusal.
  pub is_read : IsRead closed text sets
  is_read =
      ⊎_elim
      (λ a. ⊎_elim (λ b. tree_read a.0 b.0 a.1 b.1) (λ b. inr (b.0, inr (a.0, a.1, inl b.1))) (spelled_or_refused a.0))
      (λ a. inr (a.0, inl a.1))
      (lexes_or_refuses text)

  module _ (limits : Limits) (histories : List (List Event)) where
    refusals_one : (r q : Refusal) (e f : Ending) (said says : List ℕ) → q ≡ r → e ≡ Refused r → f ≡ Refused q → said ≡ refusal_text r ++ 10 ∷ [] → says ≡ refusal_text q ++ 10 ∷ [] → (f ≡ e) × (says ≡ said)
    refusals_one r q e f said says same a b x y = (b ∙ ap Refused same ∙ sym a, y ∙ ap (λ r. refusal_text r ++ 10 ∷ []) same ∙ sym x)

    Means-one : (t : ProgramTree Text) (e f : Ending) (said says : List ℕ) → Means t sets limits histories e said → Means t sets limits histories f says → (f ≡ e) × (says ≡ said)
    Means-one t e f said says a b =
        let same : Some f ≡ Some e = sym b.ends ∙ a.ends in
        (cc, b.writes ∙ sym a.writes)

    -- By given limits and histories a text comes to one end and to one list of bytes.
    pub ComesTo-one : (e f : Ending) (said says : List ℕ) → ComesTo closed text sets limits histories e said → ComesTo closed text sets limits histories f says → (f ≡ e) × (says ≡ said)
    ComesTo-one e f said says a b =
        ⊎_elim
        (λ x. ⊎_elim (λ y. refusals_one x.0 y.0 e f said says (IsRefused-one y.0 x.0 y.1 x.1) x.2 y.2 x.3 y.3) (λ y. absurd (IsProgram-unrefused y.0 x.0 y.1 x.1)) b)
        (λ x. ⊎_elim (λ y. absurd (IsProgram-unrefused x.0 y.0 x.1 y.1))
        (λ y. Means-one y.0 e f said says (subst (λ t. Means t sets limits histories e said) (IsProgram-one x.0 y.0 x.1 y.1) x.2) y.2) b)
        a

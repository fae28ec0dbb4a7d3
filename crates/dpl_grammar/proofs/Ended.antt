-- A value with END behind it: a front whose last token is END is whole, where nothing before that END has one.
-- So a refusal of a whole text has a place.
use Rattle.std.proofs.Common.{◌≡◌, inl, inr, Bool, true, List, [], ◌∷◌, ◌++◌, refl, sym, ap, ◌∙◌}
use Rattle.std.proofs.lemmas.List.{append-nil}
use Rattle.dpl_syntax.specs.declared.token.Kind.TheVariants.{End}
use Rattle.dpl_syntax.specs.declared.token.Token.{Token}
use Rattle.dpl_grammar.specs.Classes.{Class, in_class, end}
use Rattle.dpl_grammar.specs.Language.{Language, token, ◌>>=◌, done}
use Rattle.dpl_grammar.specs.Reader.{Reader}
use Rattle.dpl_grammar.specs.Laws.{Reads}
use Rattle.dpl_grammar.proofs.Classes.{lacks_last}

-- a value, END, and what the two make
abbrev pub ended : {A T : Type 0} → Language A → (A → Token → T) → Language T
ended L f = L >>= λ x. token end >>= λ k. done (f x k)

module _ {A : Type 0} {L M : Language A} {p q : Reader A} {empty : Bool} {F : Class} {C : A → Class} (reads : Reads end L M p q empty F C) where
  -- what has no END doesn't end in one
  open_front : (u : List Token) (k : Token) → k.kind ≡ End → L.Front (u ++ k ∷ []) → ⊥
  open_front u k is f =
      let not = lacks_last end u k (reads.lacks (u ++ k ∷ []) f) in
      let ended : in_class end k ≡ true = rw is refl in
      absurd cc

  -- a front whose last token is END is whole
  pub ended_spelled : {T : Type 0} (f : A → Token → T) (u : List Token) (k : Token) → k.kind ≡ End → (ended L f).Front (u ++ k ∷ []) → (x : T) × (ended L f).Spells (u ++ k ∷ []) x
  unfolding token ◌>>=◌ done
  ended_spelled f u k is (inl h) = absurd (open_front u k is h)
  ended_spelled f u k is (inr (a, b, x, e, s, inl (inl none))) =
      let whole : u ++ k ∷ [] ≡ a = e ∙ ap (λ (l : List Token). a ++ l) none ∙ append-nil a in
      absurd (open_front u k is (rw whole (reads.whole a x s)))
  ended_spelled f u k is (inr (a, b, x, e, s, inl (inr (j, one, h)))) =
      (f x j, (a, b, x, e, s, (b, [], j, sym (append-nil b), (one, h), (refl, refl))))
  ended_spelled f u k is (inr (a, b, x, e, s, inr (c, g, j, cut, one, none))) =
      (f x j, (a, b, x, e, s, (c, g, j, cut, one, (none, refl))))

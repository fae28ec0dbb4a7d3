-- Reading a text piece by piece and token by token, as the lexer does.
use Rattle.std.proofs.Common.{◌≡◌, ℕ, List, [], ◌∷◌, ◌++◌, take, drop, refl, sym, ap, subst, ◌∙◌, append_assoc}
use Rattle.std.proofs.lemmas.List.{take-append-drop}
use Rattle.dpl_syntax.specs.Gaps.{IsPiece, joined}
use Rattle.dpl_syntax.specs.Text.{after, Begins, IsLexeme, Ends}
use Rattle.dpl_syntax.specs.declared.place.Place.{Place}
use Rattle.dpl_syntax.specs.declared.token.Kind.{Kind}
use Rattle.dpl_syntax.specs.declared.token.Token.{Token}
use Rattle.dpl_lexer.proofs.Gaps.{joined_one, gap_grows}

pub after-append : (a b : List ℕ) (p : Place) → after p (a ++ b) ≡ after (after p a) b
after-append [] b p = refl
after-append (c ∷ a) b p = after-append a b (after p (c ∷ []))

-- one more piece of a gap
pub skips : (ks : List Token) (p q : Place) (text u rest : List ℕ) → IsPiece u rest → Begins p text ks q (u ++ rest) → Begins p text ks (after q u) rest
skips [] p q text u rest piece (gap, e, is_gap, at) = (
  gap ++ u ∷ [],
  e ∙ sym (append_assoc (joined gap) u rest) ∙ ap (λ (l : List ℕ). l ++ rest) (sym (joined_one gap u)),
  gap_grows gap u rest is_gap piece,
  ap (λ (r : Place). after r u) at ∙ sym (after-append (joined gap) u p) ∙ ap (after p) (sym (joined_one gap u)),
)
skips (k ∷ ks) p q text u rest piece (gap, v, more, e, is_gap, at, is, ends, h) =
    (gap, v, more, e, is_gap, at, is, ends, skips ks (after p (joined gap ++ v)) q more u rest piece h)

-- one more token
pub takes : (ks : List Token) (p q : Place) (text u rest : List ℕ) (k : Kind) → IsLexeme k u → Ends u rest → Begins p text ks q (u ++ rest)
    → Begins p text (ks ++ record { kind = k; at = q } ∷ []) (after q u) rest
takes [] p q text u rest k is ends (gap, e, is_gap, at) =
    (gap, u, rest, e, is_gap, at, is, ends, ([], refl, tt, ap (λ (r : Place). after r u) at ∙ sym (after-append (joined gap) u p)))
takes (j ∷ ks) p q text u rest k is ends (gap, v, more, e, is_gap, at, was, ended, h) =
    (gap, v, more, e, is_gap, at, was, ended, takes ks (after p (joined gap ++ v)) q more u rest k is ends h)

-- the same at a split
pub skips_one : (ks : List Token) (p q : Place) (text rest : List ℕ) (n : ℕ) → IsPiece (take n rest) (drop n rest) → Begins p text ks q rest → Begins p text ks (after q (take n rest)) (drop n rest)
skips_one ks p q text rest n piece h = skips ks p q text (take n rest) (drop n rest) piece (subst (Begins p text ks q) (sym (take-append-drop n rest)) h)

pub takes_one : (ks : List Token) (p q : Place) (text rest : List ℕ) (n : ℕ) (k : Kind) → IsLexeme k (take n rest) → Ends (take n rest) (drop n rest) → Begins p text ks q rest
    → Begins p text (ks ++ record { kind = k; at = q } ∷ []) (after q (take n rest)) (drop n rest)
takes_one ks p q text rest n k is ends h = takes ks p q text (take n rest) (drop n rest) k is ends (subst (Begins p text ks q) (sym (take-append-drop n rest)) h)

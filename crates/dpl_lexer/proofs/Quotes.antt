-- Texts in quotes: where one ends, and what its escapes are.
use Rattle.std.proofs.Common.{◌≡◌, ℕ, zero, suc, ◌+◌, ◌-◌, ◌<◌, ◌≤◌, Bool, true, false, List, [], ◌∷◌, ◌++◌, length, take, drop, get_or, Some, None, refl, sym, ap, ◌∙◌, arith}
use Rattle.std.specs.Prelude.{eqb}
use Rattle.std.proofs.lemmas.Bool.{and_from, and_parts}
use Rattle.std.proofs.lemmas.List.{take-append-drop}
use Rattle.std.proofs.Common.{length-take, add-one}
use Rattle.dpl_syntax.specs.Gaps.{next_is, ends_there}
use Rattle.dpl_syntax.specs.Text.{is_quote, after_quote, after_escape, is_quoted, between}
use Rattle.dpl_lexer.proofs.Fronts.{same_front, same_rest}
use Rattle.dpl_lexer.proofs.Gaps.{ends_there_is, some_is}

-- ---- one byte of a text

pub line_ends : (q c : ℕ) (cs : List ℕ) → eqb c 10 ≡ true → after_quote q (c ∷ cs) ≡ None
line_ends q c cs h = rw h refl

pub quote_ends : (q c : ℕ) (cs : List ℕ) → eqb c 10 ≡ false → eqb c q ≡ true → after_quote q (c ∷ cs) ≡ Some cs
quote_ends q c cs h k = rw (h, k) refl

pub backslash : (q c : ℕ) (cs : List ℕ) → eqb c 10 ≡ false → eqb c q ≡ false → eqb c 92 ≡ true → after_quote q (c ∷ cs) ≡ after_escape q cs
backslash q c cs h k l = rw (h, k, l) refl

pub plain_byte : (q c : ℕ) (cs : List ℕ) → eqb c 10 ≡ false → eqb c q ≡ false → eqb c 92 ≡ false → after_quote q (c ∷ cs) ≡ after_quote q cs
plain_byte q c cs h k l = rw (h, k, l) refl

pub escape_unended : (q c : ℕ) (cs : List ℕ) → eqb c 10 ≡ true → after_escape q (c ∷ cs) ≡ None
escape_unended q c cs h = rw h refl

pub escaped_byte : (q c : ℕ) (cs : List ℕ) → eqb c 10 ≡ false → after_escape q (c ∷ cs) ≡ after_quote q cs
escaped_byte q c cs h = rw h refl

-- ---- the end of a text

-- the bytes before what a text leaves, with whose last one it ends
pub record Ended (q : ℕ) (text l : List ℕ) : Type 0 where
  pub used : List ℕ
  pub is : text ≡ used ++ l
  pub closes : after_quote q used ≡ Some []

mutual
  -- bytes behind the end don't matter
  pub after_quote-append : (q : ℕ) (u l w : List ℕ) → after_quote q u ≡ Some l → after_quote q (u ++ w) ≡ Some (l ++ w)
  after_quote-append q [] l w h = absurd cc
  after_quote-append q (c ∷ cs) l w h = at (eqb c 10) refl (eqb c q) refl (eqb c 92) refl (after_escape-append q cs l w) (after_quote-append q cs l w)
    where
      at : (a : Bool) → eqb c 10 ≡ a → (b : Bool) → eqb c q ≡ b → (d : Bool) → eqb c 92 ≡ d
          → (after_escape q cs ≡ Some l → after_escape q (cs ++ w) ≡ Some (l ++ w)) → (after_quote q cs ≡ Some l → after_quote q (cs ++ w) ≡ Some (l ++ w))
          → after_quote q (c ∷ cs ++ w) ≡ Some (l ++ w)
      at true ha b hb d hd escape more = absurd (cc (line_ends q c cs ha, h))
      at false ha true hb d hd escape more =
          let same : cs ≡ l = some_is cs l (sym (quote_ends q c cs ha hb) ∙ h) in
          quote_ends q c (cs ++ w) ha hb ∙ ap (λ (x : List ℕ). Some (x ++ w)) same
      at false ha false hb true hd escape more = backslash q c (cs ++ w) ha hb hd ∙ escape (sym (backslash q c cs ha hb hd) ∙ h)
      at false ha false hb false hd escape more = plain_byte q c (cs ++ w) ha hb hd ∙ more (sym (plain_byte q c cs ha hb hd) ∙ h)

  after_escape-append : (q : ℕ) (u l w : List ℕ) → after_escape q u ≡ Some l → after_escape q (u ++ w) ≡ Some (l ++ w)
  after_escape-append q [] l w h = absurd cc
  after_escape-append q (c ∷ cs) l w h = at (eqb c 10) refl (after_quote-append q cs l w)
    where
      at : (a : Bool) → eqb c 10 ≡ a → (after_quote q cs ≡ Some l → after_quote q (cs ++ w) ≡ Some (l ++ w)) → after_escape q (c ∷ cs ++ w) ≡ Some (l ++ w)
      at true ha more = absurd (cc (escape_unended q c cs ha, h))
      at false ha more = escaped_byte q c (cs ++ w) ha ∙ more (sym (escaped_byte q c cs ha) ∙ h)

-- the same behind a backslash
record Escaped (q : ℕ) (text l : List ℕ) : Type 0 where
  used : List ℕ
  is : text ≡ used ++ l
  closes : after_escape q used ≡ Some []

mutual
  pub after_quote_used : (q : ℕ) (text l : List ℕ) → after_quote q text ≡ Some l → Ended q text l
  after_quote_used q [] l h = absurd cc
  after_quote_used q (c ∷ cs) l h = at (eqb c 10) refl (eqb c q) refl (eqb c 92) refl (after_escape_used q cs l) (after_quote_used q cs l)
    where
      at : (a : Bool) → eqb c 10 ≡ a → (b : Bool) → eqb c q ≡ b → (d : Bool) → eqb c 92 ≡ d
          → (after_escape q cs ≡ Some l → Escaped q cs l) → (after_quote q cs ≡ Some l → Ended q cs l) → Ended q (c ∷ cs) l
      at true ha b hb d hd escape more = absurd (cc (line_ends q c cs ha, h))
      at false ha true hb d hd escape more =
          let same : cs ≡ l = some_is cs l (sym (quote_ends q c cs ha hb) ∙ h) in
          record { used = c ∷ []; is = ap (λ (x : List ℕ). c ∷ x) same; closes = quote_ends q c [] ha hb }
      at false ha false hb true hd escape more =
          let k = escape (sym (backslash q c cs ha hb hd) ∙ h) in
          record { used = c ∷ k.used; is = ap (λ (x : List ℕ). c ∷ x) k.is; closes = backslash q c k.used ha hb hd ∙ k.closes }
      at false ha false hb false hd escape more =
          let k = more (sym (plain_byte q c cs ha hb hd) ∙ h) in
          record { used = c ∷ k.used; is = ap (λ (x : List ℕ). c ∷ x) k.is; closes = plain_byte q c k.used ha hb hd ∙ k.closes }

  after_escape_used : (q : ℕ) (text l : List ℕ) → after_escape q text ≡ Some l → Escaped q text l
  after_escape_used q [] l h = absurd cc
  after_escape_used q (c ∷ cs) l h = at (eqb c 10) refl (after_quote_used q cs l)
    where
      at : (a : Bool) → eqb c 10 ≡ a → (after_quote q cs ≡ Some l → Ended q cs l) → Escaped q (c ∷ cs) l
      at true ha more = absurd (cc (escape_unended q c cs ha, h))
      at false ha more =
          let k = more (sym (escaped_byte q c cs ha) ∙ h) in
          record { used = c ∷ k.used; is = ap (λ (x : List ℕ). c ∷ x) k.is; closes = escaped_byte q c k.used ha ∙ k.closes }

-- ---- a text at the front

-- what is left behind a text in quotes, whatever follows it
pub quoted_left : (u w : List ℕ) → is_quoted u ≡ true → after_quote (get_or u 0 0) (drop 1 (u ++ w)) ≡ Some w
quoted_left [] w h = absurd cc
quoted_left (q ∷ cs) w h =
    let p = and_parts (is_quote q) (ends_there (after_quote q cs)) h in
    after_quote-append q cs [] w (ends_there_is (after_quote q cs) p.1)

closed_quoted : (q : ℕ) (cs : List ℕ) → is_quote q ≡ true → after_quote q cs ≡ Some [] → is_quoted (q ∷ cs) ≡ true
closed_quoted q cs quote closes = and_from (is_quote q) (ends_there (after_quote q cs)) quote (ap ends_there closes)

-- the text at the front, by what is left behind it
pub quoted_piece : (text : List ℕ) (n : ℕ) → next_is is_quote text ≡ true → 2 ≤ n → n ≤ length text → after_quote (get_or text 0 0) (drop 1 text) ≡ Some (drop n text) → is_quoted (take n text) ≡ true
quoted_piece [] n quote two within left = absurd cc
quoted_piece (q ∷ cs) n quote two within left =
    let k = after_quote_used q cs (drop n (q ∷ cs)) left in
    let whole : take n (q ∷ cs) ++ drop n (q ∷ cs) ≡ (q ∷ k.used) ++ drop n (q ∷ cs) = take-append-drop n (q ∷ cs) ∙ ap (λ (r : List ℕ). q ∷ r) k.is in
    let used : take n (q ∷ cs) ≡ q ∷ k.used = same_front (take n (q ∷ cs)) (q ∷ k.used) (drop n (q ∷ cs)) whole in
    ap is_quoted used ∙ closed_quoted q k.used quote k.closes

-- two texts at one place are the same
pub same_quoted : (u rest v w : List ℕ) → u ++ rest ≡ v ++ w → is_quoted u ≡ true → is_quoted v ≡ true → u ≡ v
same_quoted [] rest v w e hu hv = absurd cc
same_quoted (q ∷ u) rest [] w e hu hv = absurd cc
same_quoted (q ∷ u) rest (r ∷ v) w e hu hv =
    let same : q ≡ r = cc in
    let left : rest ≡ w = some_is rest w (sym (quoted_left (q ∷ u) rest hu) ∙ ap (λ (l : List ℕ). after_quote q (drop 1 l)) e ∙ ap (λ (x : ℕ). after_quote x (v ++ w)) same ∙ quoted_left (r ∷ v) w hv) in
    same_rest (q ∷ u) rest (r ∷ v) w e left

-- ---- bytes before a bad escape

take_within : (n m : ℕ) (l : List ℕ) → n ≤ m → take n (take m l) ≡ take n l
take_within zero m l le = refl
take_within (suc n) zero l le = absurd (omega arith)
take_within (suc n) (suc m) [] le = refl
take_within (suc n) (suc m) (c ∷ l) le = ap (λ (r : List ℕ). c ∷ r) (take_within n m l (omega arith))

-- the quote and n bytes between the quotes are the first n + 1 of the text
pub front_between : (text : List ℕ) (len n : ℕ) → len ≤ length text → n < length (between (take len text)) → take (n + 1) text ≡ take 1 (take len text) ++ take n (between (take len text))
front_between [] len n within lt = absurd (none len lt)
  where
    none : (m : ℕ) → n < length (between (take m [])) → ⊥
    none zero lt = absurd (omega arith)
    none (suc m) lt = absurd (omega arith)
front_between (q ∷ cs) zero n within lt = absurd (omega arith)
front_between (q ∷ cs) (suc m) n within lt =
    let k : ℕ = length (q ∷ take m cs) - 2 in
    let le : n < k = omega (arith, length-take k (take m cs)) in
    let short : k ≤ m = omega (arith, length-take m cs) in
    rw add-one (ap (λ (r : List ℕ). q ∷ r) (sym (take_within n k (take m cs) (omega arith) ∙ take_within n m cs (omega arith))))

-- What the lexer finds at the front of a text, from what its parts find.
use Rattle.std.proofs.Common.{◌≡◌, ◌≢◌, inl, inr, ℕ, zero, suc, pos, ◌+◌, ◌-◌, ◌<◌, ◌≤◌, true, false, List, [], ◌∷◌, ◌++◌, length, take, drop, get_or, Option, Some, None, refl, sym, ap, subst, ◌∙◌, arith, length-append}
use Rattle.std.specs.Prelude.{IfSome, IfNone, codes, eqb}
use Rattle.std.specs.List.{starts_with}
use Rattle.std.proofs.lemmas.Slice.Eq.{starts_is}
use Rattle.std.proofs.lemmas.Bool.Decides.{Decides-eqb}
use Rattle.std.proofs.lemmas.List.{take-append-drop, take_at, length-drop}
use Rattle.std.proofs.Common.{length-take}
use Rattle.std.proofs.lemmas.Bool.{and_from}
use Rattle.dpl_syntax.specs.Tokens.{sign_text}
use Rattle.dpl_syntax.specs.Gaps.{all_are, next_is, opens_block, opens_comment}
use Rattle.dpl_syntax.specs.Text.{is_letter, is_quote, goes_on, sticks, after_quote, between, well_escaped, is_word, is_number, number_value, greatest, IsToken, Longest}
use Rattle.dpl_syntax.specs.Refused.{IsNumberAt}
use Rattle.dpl_lexer.specs.Scan.{IsDark, IsBare, IsLexemeAt, IsFlawAt, IsSignAt}
use Rattle.dpl_syntax.specs.declared.token.Sign.{Sign}
use Rattle.dpl_syntax.specs.declared.token.Sign.TheVariants.{DotDotLess, DotDot, Dot, Equal, NotEqual, LessEqual, GreaterEqual, AndAnd, OrOr, PlusAssign, MinusAssign, StarAssign, SlashAssign, PercentAssign, Assign, Less, Greater, Not, Plus, Minus, Star, Slash, Percent, And, Or, Caret, Hash, OpenRound, CloseRound, OpenSquare, CloseSquare, OpenCurly, CloseCurly, Comma, Semicolon, Colon}
use Rattle.dpl_lexer.specs.declared.scan.LexemeKind.TheVariants.{Word, Number, Text, Sign as Signed}
use Rattle.dpl_syntax.specs.declared.refusal.Code.TheVariants.{BadCharacter}
use Rattle.dpl_lexer.proofs.ByteTests.{all_are-tail, letter_goes_on}
use Rattle.dpl_lexer.proofs.Signs.{is_sign_text}
use Rattle.dpl_lexer.proofs.Sorts.{Beginning, Wordy, Digital, Quoting, Other, other_sort, IsSort, word_sort, number_sort, quoted_sort, sign_sort, one_sort, of_sort}
use Rattle.dpl_lexer.proofs.Quotes.{quoted_piece, front_between}
use Rattle.dpl_lexer.proofs.Numerals.{IsTaken}
use Rattle.dpl_lexer.proofs.Lexemes.{word_longest, quoted_longest, sign_longest, plain_sort}

-- ---- words

word_front : (text : List ℕ) (n : ℕ) → 0 < length text → is_letter (get_or text 0 0) ≡ true → all_are goes_on (take n text) ≡ true → next_is goes_on (drop n text) ≡ false → (0 < n) × (is_word (take n text) ≡ true)
word_front [] n some letter all ended = absurd (omega arith)
word_front (c ∷ cs) zero some letter all ended = absurd (cc (letter_goes_on c letter, ended))
word_front (c ∷ cs) (suc n) some letter all ended = (omega arith, and_from (is_letter c) (all_are goes_on (take n cs)) letter (all_are-tail goes_on c (take n cs) all))

-- what is of one sort is no number
pub no_number : (s : Beginning) (u : List ℕ) → IsSort s u → (s ≡ Digital → ⊥) → is_number u ≡ true → ⊥
no_number s u a other number = other (one_sort s Digital u [] u [] refl a (number_sort u number))

-- a word, as long as it can be
pub word_found : (text : List ℕ) (n : ℕ) → 0 < length text → n ≤ length text → is_letter (get_or text 0 0) ≡ true → all_are goes_on (take n text) ≡ true → next_is goes_on (drop n text) ≡ false
    → IsLexemeAt text (record { shape = Word; len = n })
word_found text n some within letter all ended =
    let front = word_front text n some letter all ended in
    let sorted = word_sort (take n text) front.1 in
    record {
      some = front.0;
      within = within;
      shape = front.1;
      ends = record {
        longest = word_longest (take n text) (drop n text) front.1 ended;
        plain = plain_sort Wordy (take n text) (drop n text) sorted (λ same. absurd cc);
        free = λ number. absurd (no_number Wordy (take n text) sorted (λ same. absurd cc) number);
      };
    }

-- ---- numbers

-- the number at the front
pub number_at : (text digits : List ℕ) (base len : ℕ) → IsTaken text digits base len → IsNumberAt text (take len text) (drop len text)
number_at text digits base len taken = record { is = sym (take-append-drop len text); number = taken.number; longest = taken.longest }

-- a number, as long as it can be
pub number_found : (text digits : List ℕ) (base len : ℕ) (value : _) → len ≤ length text → IsTaken text digits base len → next_is sticks (drop len text) ≡ false
    → value ≡ pos (number_value (take len text)) → number_value (take len text) ≤ greatest → IsLexemeAt text (record { shape = Number value; len = len })
number_found text digits base len value within taken free is small = record {
  some = taken.some;
  within = within;
  shape = (is, taken.number, small);
  ends = record {
    longest = taken.longest;
    plain = plain_sort Digital (take len text) (drop len text) (number_sort (take len text) taken.number) (λ same. absurd cc);
    free = λ _. free;
  };
}

-- ---- texts in quotes

-- a text whose escapes are good
pub quoted_found : (text : List ℕ) (n : ℕ) → next_is is_quote text ≡ true → 2 ≤ n → n ≤ length text → after_quote (get_or text 0 0) (drop 1 text) ≡ Some (drop n text)
    → well_escaped (between (take n text)) ≡ between (take n text) → IsLexemeAt text (record { shape = Text; len = n })
quoted_found text n quote two within left good =
    let quoted = quoted_piece text n quote two within left in
    let sorted = quoted_sort (take n text) quoted in
    record {
      some = omega arith;
      within = within;
      shape = (quoted, good);
      ends = record {
        longest = quoted_longest (take n text) (drop n text) quoted;
        plain = plain_sort Quoting (take n text) (drop n text) sorted (λ same. absurd cc);
        free = λ number. absurd (no_number Quoting (take n text) sorted (λ same. absurd cc) number);
      };
    }

-- a text with a bad escape, whose backslash stands behind n bytes between the quotes
pub escape_found : (text : List ℕ) (len n : ℕ) → next_is is_quote text ≡ true → 2 ≤ len → len ≤ length text → after_quote (get_or text 0 0) (drop 1 text) ≡ Some (drop len text)
    → n < length (between (take len text)) → well_escaped (between (take len text)) ≡ take n (between (take len text)) → IsFlawAt text (record { code = BadCharacter; offset = n + 1 })
escape_found text len n quote two within left before well =
    let inner : List ℕ = between (take len text) in
    record {
      within = omega (arith, length_between text len two within);
      flawed = inr (inr (inl (
        refl,
        record {
          u = take len text;
          rest = drop len text;
          is = sym (take-append-drop len text);
          quoted = quoted_piece text len quote two within left;
          bad = λ same. shorter inner n before (sym well ∙ same);
          before_is = front_between text len n within before ∙ ap (λ (l : List ℕ). take 1 (take len text) ++ l) (sym well);
        },
      )));
    }
  where
    shorter : (l : List ℕ) (n : ℕ) → n < length l → take n l ≡ l → ⊥
    shorter l n lt e = absurd (omega (arith, ap (length {A = ℕ}) e, length-take n l))

    length_between : (text : List ℕ) (len : ℕ) → 2 ≤ len → len ≤ length text → length (between (take len text)) + 2 ≤ length text
    length_between text len two within =
        omega (arith, length-take len text, length-drop 1 (take len text), length-take (length (take len text) - 2) (drop 1 (take len text)))

pub unended_found : (text : List ℕ) → next_is is_quote text ≡ true → after_quote (get_or text 0 0) (drop 1 text) ≡ None → IsFlawAt text (record { code = BadCharacter; offset = 0 })
unended_found [] quote unended = absurd cc
unended_found (q ∷ cs) quote unended = record { within = omega arith; flawed = inr (inl (refl, refl, inr (q, cs, refl, quote, unended))) }

-- ---- signs

-- only one sign is of three bytes
three_bytes : (s : Sign) → 3 ≤ length (sign_text s) → sign_text s ≡ codes "..<"
unfolding sign_text
three_bytes DotDotLess le = refl
three_bytes DotDot le = absurd (omega (arith, le))
three_bytes Dot le = absurd (omega (arith, le))
three_bytes Equal le = absurd (omega (arith, le))
three_bytes NotEqual le = absurd (omega (arith, le))
three_bytes LessEqual le = absurd (omega (arith, le))
three_bytes GreaterEqual le = absurd (omega (arith, le))
three_bytes AndAnd le = absurd (omega (arith, le))
three_bytes OrOr le = absurd (omega (arith, le))
three_bytes PlusAssign le = absurd (omega (arith, le))
three_bytes MinusAssign le = absurd (omega (arith, le))
three_bytes StarAssign le = absurd (omega (arith, le))
three_bytes SlashAssign le = absurd (omega (arith, le))
three_bytes PercentAssign le = absurd (omega (arith, le))
three_bytes Assign le = absurd (omega (arith, le))
three_bytes Less le = absurd (omega (arith, le))
three_bytes Greater le = absurd (omega (arith, le))
three_bytes Not le = absurd (omega (arith, le))
three_bytes Plus le = absurd (omega (arith, le))
three_bytes Minus le = absurd (omega (arith, le))
three_bytes Star le = absurd (omega (arith, le))
three_bytes Slash le = absurd (omega (arith, le))
three_bytes Percent le = absurd (omega (arith, le))
three_bytes And le = absurd (omega (arith, le))
three_bytes Or le = absurd (omega (arith, le))
three_bytes Caret le = absurd (omega (arith, le))
three_bytes Hash le = absurd (omega (arith, le))
three_bytes OpenRound le = absurd (omega (arith, le))
three_bytes CloseRound le = absurd (omega (arith, le))
three_bytes OpenSquare le = absurd (omega (arith, le))
three_bytes CloseSquare le = absurd (omega (arith, le))
three_bytes OpenCurly le = absurd (omega (arith, le))
three_bytes CloseCurly le = absurd (omega (arith, le))
three_bytes Comma le = absurd (omega (arith, le))
three_bytes Semicolon le = absurd (omega (arith, le))
three_bytes Colon le = absurd (omega (arith, le))

-- a sign at the front is its first byte, or its first two, or the one of three
data SignFront (s : Sign) (c : ℕ) (cs : List ℕ) : Type 0 where
  One : sign_text s ≡ c ∷ [] → SignFront s c cs
  Two : (d : ℕ) (ds : List ℕ) → cs ≡ d ∷ ds → sign_text s ≡ c ∷ d ∷ [] → SignFront s c cs
  Three : (w : List ℕ) → c ∷ cs ≡ codes "..<" ++ w → SignFront s c cs

sign_front : (s : Sign) (w : List ℕ) (c : ℕ) (cs : List ℕ) → c ∷ cs ≡ sign_text s ++ w → SignFront s c cs
sign_front s w c cs e = let t = is_sign_text s in at t.first t.others t.is
  where
    at : (first : ℕ) (others : List ℕ) → sign_text s ≡ first ∷ others → SignFront s c cs
    at first [] is =
        let whole : c ∷ cs ≡ first ∷ w = e ∙ ap (λ (l : List ℕ). l ++ w) is in
        let same : c ≡ first = cc in
        One (is ∙ ap (λ (x : ℕ). x ∷ []) (sym same))
    at first (d ∷ []) is =
        let whole : c ∷ cs ≡ first ∷ d ∷ w = e ∙ ap (λ (l : List ℕ). l ++ w) is in
        let same : c ≡ first = cc in
        let left : cs ≡ d ∷ w = cc in
        Two d w left (is ∙ ap (λ (x : ℕ). x ∷ d ∷ []) (sym same))
    at first (d ∷ b ∷ others) is =
        let long : 3 ≤ length (sign_text s) = omega (arith, ap (length {A = ℕ}) is) in
        Three w (e ∙ ap (λ (l : List ℕ). l ++ w) (three_bytes s long))

abbrev pub NoPair : List ℕ → Type 0
NoPair text = 2 ≤ length text → (s : Sign) → sign_text s ≢ get_or text 0 0 ∷ get_or text 1 0 ∷ []

abbrev pub NoTriple : List ℕ → Type 0
NoTriple text = (w : List ℕ) → text ≢ codes "..<" ++ w

pub no_triple : (text : List ℕ) → starts_with eqb text (codes "..<") ≡ false → NoTriple text
no_triple text fails w e = let yes = (starts_is Decides-eqb text (codes "..<") _ refl).1 w e in absurd (cc (fails, yes))

pub no_sign_at_end : (text : List ℕ) → length text < 1 → IsSignAt text None
no_sign_at_end [] le s w e = let t = is_sign_text s in absurd (cc (e ∙ ap (λ (l : List ℕ). l ++ w) t.is))
no_sign_at_end (c ∷ cs) le s w e = absurd (omega arith)

pub one_byte : (text : List ℕ) (o : Option Sign) → 1 ≤ length text → NoTriple text → NoPair text → IfSome o (λ s. sign_text s ≡ get_or text 0 0 ∷ []) → IfNone o ((s : Sign) → sign_text s ≢ get_or text 0 0 ∷ []) → IsSignAt text o
one_byte [] o le triple pair some none = absurd (omega arith)
one_byte (c ∷ cs) None le triple pair some none = λ s w e. at s (sign_front s w c cs e)
  where
    at : (s : Sign) → SignFront s c cs → ⊥
    at s (One h) = none s h
    at s (Two d ds left h) = pair (omega (arith, ap (length {A = ℕ}) left)) s (h ∙ ap (λ (l : List ℕ). c ∷ get_or l 0 0 ∷ []) (sym left))
    at s (Three w h) = triple w h
one_byte (c ∷ cs) (Some s) le triple pair some none = (subst (λ (u : List ℕ). c ∷ cs ≡ u ++ drop (length u) (c ∷ cs)) (sym some) refl, λ t w e. at t (sign_front t w c cs e))
  where
    at : (t : Sign) → SignFront t c cs → length (sign_text t) ≤ length (sign_text s)
    at t (One h) = omega (arith, ap (length {A = ℕ}) (h ∙ sym some))
    at t (Two d ds left h) = absurd (pair (omega (arith, ap (length {A = ℕ}) left)) t (h ∙ ap (λ (l : List ℕ). c ∷ get_or l 0 0 ∷ []) (sym left)))
    at t (Three w h) = absurd (triple w h)

pub two_bytes : (text : List ℕ) (s : Sign) → 2 ≤ length text → NoTriple text → sign_text s ≡ get_or text 0 0 ∷ get_or text 1 0 ∷ [] → IsSignAt text (Some s)
two_bytes [] s le triple is = absurd (omega arith)
two_bytes (c ∷ []) s le triple is = absurd (omega arith)
two_bytes (c ∷ d ∷ cs) s le triple is = (subst (λ (u : List ℕ). c ∷ d ∷ cs ≡ u ++ drop (length u) (c ∷ d ∷ cs)) (sym is) refl, λ t w e. at t (sign_front t w c (d ∷ cs) e))
  where
    at : (t : Sign) → SignFront t c (d ∷ cs) → length (sign_text t) ≤ length (sign_text s)
    at t (One h) = omega (arith, ap (length {A = ℕ}) is, ap (length {A = ℕ}) h)
    at t (Two b ds left h) = omega (arith, ap (length {A = ℕ}) is, ap (length {A = ℕ}) h)
    at t (Three w h) = absurd (triple w h)

pub three_bytes_found : (text : List ℕ) → starts_with eqb text (codes "..<") ≡ true → IsSignAt text (Some DotDotLess)
unfolding sign_text
three_bytes_found text passes = ((starts_is Decides-eqb text (codes "..<") _ refl).0 passes, λ t w e. let h = is_sign_text t in omega (arith, ap (length {A = ℕ}) h.is, h.short))

-- a sign, the longest there
pub sign_found : (text : List ℕ) (s : Sign) (n : ℕ) → n ≡ length (sign_text s) → opens_comment text ≡ false → IsSignAt text (Some s) → IsLexemeAt text (record { shape = Signed s; len = n })
sign_found text s n len plain (is, most) =
    let front : take n text ≡ sign_text s = ap (take n) is ∙ take_at (sign_text s) (drop (length (sign_text s)) text) n (sym len) in
    let h = is_sign_text s in
    let longest = sign_longest s (drop n text) (λ t w e. most t w (is ∙ ap (λ (m : ℕ). sign_text s ++ drop m text) (sym len) ∙ e)) in
    record {
      some = omega (arith, ap (length {A = ℕ}) h.is);
      within = omega (arith, ap (length {A = ℕ}) is, length-append (sign_text s) (drop (length (sign_text s)) text));
      shape = front;
      ends = record {
        longest = subst (λ (u : List ℕ). Longest u (drop n text)) (sym front) longest;
        plain = ap opens_comment (take-append-drop n text) ∙ plain;
        free = λ number. absurd (no_number Other (take n text) (sign_sort s (take n text) front) (λ same. absurd cc) number);
      };
    }

-- where no comment opens
pub opens_none : (text : List ℕ) → IsDark text → opens_block text ≡ false → opens_comment text ≡ false
opens_none text dark none = rw (dark.no_line, none) refl

-- a comment that isn't ended
pub block_unended : (text : List ℕ) → IsDark text → opens_block text ≡ true → IsFlawAt text (record { code = BadCharacter; offset = 0 })
block_unended text dark opens = record { within = omega arith; flawed = inr (inl (refl, refl, inl (opens, dark.no_block opens))) }

-- a byte that begins no token is a bad one
pub bad_byte : (text : List ℕ) → IsDark text → IsBare text → IsSignAt text None → IsFlawAt text (record { code = BadCharacter; offset = 0 })
bad_byte [] dark bare none = let some = bare.some in absurd (omega arith)
bad_byte (c ∷ cs) dark bare none = record { within = omega arith; flawed = inl (refl, refl, record { some = omega arith; dark = dark.no_space; no_quote = bare.no_quote; none = no_token }) }
  where
    sorted : IsSort Other (c ∷ [])
    sorted = record { some = omega arith; is = other_sort c bare.no_letter bare.no_digit bare.no_quote; dark = dark.no_space }

    no_token : (u rest : List ℕ) → c ∷ cs ≡ u ++ rest → IsToken u → ⊥
    no_token u rest e token =
        let s = of_sort Other (c ∷ []) cs u rest e sorted token in
        none s.0 rest (e ∙ ap (λ (l : List ℕ). l ++ rest) s.1)

-- What the lexer of rows reads is what the definition of tokens says.
use Rattle.std.proofs.Common.{◌≡◌, ◌≢◌, inl, inr, ℕ, zero, suc, pos, ◌<◌, ◌≤◌, Bool, true, false, cond, List, [], ◌∷◌, ◌++◌, length, get_or, ◌+◌, ◌-◌, take, drop, Option, Some, None, refl, sym, ap, subst, ◌∙◌, arith}
use Rattle.std.specs.Prelude.{not, ◌&&◌, ◌==◌, bytes_eq, nat_le, nat_lt}
use Rattle.std.proofs.lemmas.Str.{IsUtf8-from_ascii}
use Rattle.std.proofs.lemmas.List.{take-append-drop}
use Rattle.std.proofs.lemmas.Bool.{and_parts, cases_eq}
use Rattle.std.proofs.lemmas.Bool.Decides.{nat_tests}
use Rattle.dpl_syntax.specs.Gaps.{all_are, next_is, is_space, opens_comment}
use Rattle.dpl_syntax.specs.Text.{is_letter, is_digit, is_quote, goes_on, goes_on_in, sticks, is_word, is_digits, is_quoted, between, well_escaped, number_value, greatest, longest_text, IsText, IsLexeme, Ends, Begins, Lexes, start, after, after_byte, end_at}
use Rattle.dpl_syntax.specs.Tokens.{sign_text}
use Rattle.dpl_syntax.specs.declared.place.Place.{Place}
use Rattle.dpl_syntax.specs.declared.token.Sign.{Sign}
use Rattle.dpl_syntax.specs.declared.token.Kind.TheVariants.{Number, Text, Sign as Signed}
use Rattle.dpl_syntax.specs.declared.token.Token.{Token}
use Rattle.dpl_lexer.specs.Scan.{special_text, special_at, starts_based}
use Rattle.dpl_lexer.specs.declared.keyword.Special.{Special}
use Rattle.dpl_lexer.specs.declared.keyword.Special.TheVariants.{Keyword, Contextual}
use Rattle.dpl_lexer.proofs.ByteTests.{bytes_eq-true, bytes_eq-same}
use Rattle.dpl_lexer.proofs.Specials.{is_listed, before_small}
use Rattle.dpl_lexer.proofs.Signs.{all, each_sign, none_longer, longest_sign}
use Rattle.dpl_lexer.proofs.Sorts.{Wordy, Digital, Quoting, Other, word_sort, digits_sort, quoted_sort, sign_sort}
use Rattle.dpl_lexer.proofs.Numerals.{decimal_number, decimal_longest}
use Rattle.dpl_lexer.proofs.Lexemes.{word_longest, quoted_longest, sign_longest, plain_sort}
use Rattle.dpl_lexer.proofs.Scans.{no_number}
use Rattle.dpl_worked.proofs.Lexer.{Found, found, when, span, special_kind, kind_by, special_in, word_kind, word_at, is_decimal, number_at, quoted_at, is_sign, sign_at, or_found, sign_of, quoted_or_sign, number_or_other, front, and_token, behind, lexed, is_plain, tokens_of}

-- a token stands at the front
record Shown (text : List ℕ) (f : Found) : Type 0 where
  is : IsLexeme f.kind (take f.len text)
  ends : Ends (take f.len text) (drop f.len text)

when_some : (b : Bool) (f g : Found) → when b f ≡ Some g → (b ≡ true) × (f ≡ g)
when_some true f g e = (refl, cc)
when_some false f g e = absurd cc

is_false : (b : Bool) → not b ≡ true → b ≡ false
is_false true e = absurd cc
is_false false e = refl

nat_le_is : (m n : ℕ) → nat_le m n ≡ true → m ≤ n
nat_le_is m n h = grind (arith, nat_tests)

nat_lt_is : (m n : ℕ) → nat_lt m n ≡ true → m < n
nat_lt_is m n h = grind (arith, nat_tests)

-- ---- words

special_lexeme : (s : Special) (u : List ℕ) → u ≡ special_text s → IsLexeme (special_kind s) u
special_lexeme (Keyword k) u e = e
special_lexeme (Contextual w) u e = e

-- a word that is found is spelled so, and where none is found none is
special_spelled : (n : ℕ) (u : List ℕ) (s : Special) → special_in n u ≡ Some s → u ≡ special_text s
special_spelled zero u s e = absurd cc
special_spelled (suc n) u s e = at (bytes_eq (special_text (special_at n)) u) refl (special_spelled n u s) e
  where
    at : (b : Bool) → bytes_eq (special_text (special_at n)) u ≡ b → (special_in n u ≡ Some s → u ≡ special_text s)
        → cond b (Some (special_at n)) (special_in n u) ≡ Some s → u ≡ special_text s
    at true same others e =
        let is : special_at n ≡ s = cc in
        sym (bytes_eq-true (special_text (special_at n)) u same) ∙ ap special_text is
    at false other others e = others e

none_spelled : (n : ℕ) (u : List ℕ) → special_in n u ≡ None → (i : ℕ) → i < n → u ≢ special_text (special_at i)
none_spelled zero u e i lt same = absurd (omega (arith, lt))
none_spelled (suc n) u e i lt same = at (bytes_eq (special_text (special_at n)) u) refl (λ f below. none_spelled n u f i below same) e
  where
    at : (b : Bool) → bytes_eq (special_text (special_at n)) u ≡ b → (special_in n u ≡ None → i < n → ⊥)
        → cond b (Some (special_at n)) (special_in n u) ≡ None → ⊥
    at true is others e = absurd cc
    at false other others e =
        elim (cases_eq i n) [
          | inl here ↦ absurd (cc (other, bytes_eq-same (special_text (special_at n)) u (ap (λ (j : ℕ). special_text (special_at j)) (sym here) ∙ sym same)))
          | inr there ↦ others e (omega (arith, lt, there))
        ]

no_special : (u : List ℕ) → special_in 59 u ≡ None → (s : Special) → u ≢ special_text s
no_special u e s same =
    let l = is_listed s in
    let small = before_small (get_or (special_text s) 0 0 - 65 + 1) in
    none_spelled 59 u e l.index (omega (arith, l.upto, small)) (same ∙ ap special_text (sym l.is))

word_lexeme : (u : List ℕ) → is_word u ≡ true → IsLexeme (word_kind u) u
word_lexeme u word = at (special_in 59 u) refl
  where
    at : (o : Option Special) → special_in 59 u ≡ o → IsLexeme (kind_by o u) u
    at (Some s) e = special_lexeme s u (special_spelled 59 u s e)
    at None e = (refl, word, (λ k. no_special u e (Keyword k)), (λ w. no_special u e (Contextual w)))

word_ends : (u rest : List ℕ) → is_word u ≡ true → next_is goes_on rest ≡ false → Ends u rest
word_ends u rest word stop =
    let sorted = word_sort u word in
    record {
      longest = word_longest u rest word stop;
      plain = plain_sort Wordy u rest sorted (λ same. absurd cc);
      free = λ number. absurd (no_number Wordy u sorted (λ same. absurd cc) number);
    }

word_shown : (text : List ℕ) (n : ℕ) (f : Found) → word_at text n ≡ Some f → Shown text f
word_shown text n f e =
    let u : List ℕ = take n text in
    let rest : List ℕ = drop n text in
    let w = when_some (is_word u && not (next_is goes_on rest)) (found (word_kind u) n) f e in
    let p = and_parts (is_word u) (not (next_is goes_on rest)) w.0 in
    subst (Shown text) w.1 (record { is = word_lexeme u p.0; ends = word_ends u rest p.0 (is_false (next_is goes_on rest) p.1) })

-- ---- numbers

number_shown : (text : List ℕ) (n : ℕ) (f : Found) → number_at text n ≡ Some f → Shown text f
number_shown text n f e =
    let u : List ℕ = take n text in
    let rest : List ℕ = drop n text in
    let small : Bool = nat_le (number_value u) greatest in
    let free : Bool = not (next_is sticks rest) && small in
    let plain : Bool = not (starts_based (u ++ rest)) && free in
    let stops : Bool = not (next_is (goes_on_in 10) rest) && plain in
    let w = when_some (is_decimal u rest) (found (Number (pos (number_value u))) n) f e in
    let a = and_parts (is_digits 10 u) stops w.0 in
    let b = and_parts (not (next_is (goes_on_in 10) rest)) plain a.1 in
    let c = and_parts (not (starts_based (u ++ rest))) free b.1 in
    let d = and_parts (not (next_is sticks rest)) small c.1 in
    subst (Shown text) w.1 (record {
      is = (refl, decimal_number u a.0, nat_le_is (number_value u) greatest d.1);
      ends = record {
        longest = decimal_longest u rest a.0 (is_false (next_is (goes_on_in 10) rest) b.0) (is_false (starts_based (u ++ rest)) c.0);
        plain = plain_sort Digital u rest (digits_sort u a.0) (λ same. absurd cc);
        free = λ _. is_false (next_is sticks rest) d.0;
      };
    })

-- ---- texts in quotes

quoted_shown : (text : List ℕ) (n : ℕ) (f : Found) → quoted_at text n ≡ Some f → Shown text f
quoted_shown text n f e =
    let u : List ℕ = take n text in
    let w = when_some (is_quoted u && bytes_eq (well_escaped (between u)) (between u)) (found (Text (between u)) n) f e in
    let p = and_parts (is_quoted u) (bytes_eq (well_escaped (between u)) (between u)) w.0 in
    let sorted = quoted_sort u p.0 in
    subst (Shown text) w.1 (record {
      is = (refl, p.0, bytes_eq-true (well_escaped (between u)) (between u) p.1);
      ends = record {
        longest = quoted_longest u (drop n text) p.0;
        plain = plain_sort Quoting u (drop n text) sorted (λ same. absurd cc);
        free = λ number. absurd (no_number Quoting u sorted (λ same. absurd cc) number);
      };
    })

-- ---- signs

sign_ends : (s : Sign) (rest : List ℕ) → is_sign s rest ≡ true → Ends (sign_text s) rest
sign_ends s rest h =
    let p = and_parts (each_sign (none_longer (length (sign_text s)) (sign_text s ++ rest)) all) (not (opens_comment (sign_text s ++ rest))) h in
    record {
      longest = sign_longest s rest (longest_sign (length (sign_text s)) (sign_text s ++ rest) p.0);
      plain = is_false (opens_comment (sign_text s ++ rest)) p.1;
      free = λ number. absurd (no_number Other (sign_text s) (sign_sort s (sign_text s) refl) (λ same. absurd cc) number);
    }

sign_shown : (s : Sign) (text : List ℕ) (n : ℕ) (f : Found) → sign_at s text n ≡ Some f → Shown text f
sign_shown s text n f e =
    let u : List ℕ = take n text in
    let w = when_some (bytes_eq (sign_text s) u && is_sign s (drop n text)) (found (Signed s) n) f e in
    let p = and_parts (bytes_eq (sign_text s) u) (is_sign s (drop n text)) w.0 in
    let same : sign_text s ≡ u = bytes_eq-true (sign_text s) u p.0 in
    subst (Shown text) w.1 (record { is = sym same; ends = subst (λ v. Ends v (drop n text)) same (sign_ends s (drop n text) p.1) })

one_shown : (ss : List Sign) (text : List ℕ) (f : Found) → sign_of ss text ≡ Some f → Shown text f
one_shown [] text f e = absurd cc
one_shown (s ∷ ss) text f e = at (sign_at s text (length (sign_text s))) refl (one_shown ss text f) e
  where
    at : (o : Option Found) → sign_at s text (length (sign_text s)) ≡ o → (sign_of ss text ≡ Some f → Shown text f)
        → or_found o (sign_of ss text) ≡ Some f → Shown text f
    at None a others e = others e
    at (Some g) a others e = sign_shown s text (length (sign_text s)) f (a ∙ e)

-- ---- what stands at the front

quoted_or_sign_shown : (c : ℕ) (cs : List ℕ) (f : Found) → quoted_or_sign c cs ≡ Some f → Shown (c ∷ cs) f
quoted_or_sign_shown c cs f e = at (is_quote c) e
  where
    at : (b : Bool) → cond b (quoted_at (c ∷ cs) (span (λ d. not (d == c)) cs + 2)) (sign_of all (c ∷ cs)) ≡ Some f → Shown (c ∷ cs) f
    at true e = quoted_shown (c ∷ cs) (span (λ d. not (d == c)) cs + 2) f e
    at false e = one_shown all (c ∷ cs) f e

number_or_other_shown : (c : ℕ) (cs : List ℕ) (f : Found) → number_or_other c cs ≡ Some f → Shown (c ∷ cs) f
number_or_other_shown c cs f e = at (is_digit c) e
  where
    at : (b : Bool) → cond b (number_at (c ∷ cs) (span (goes_on_in 10) (c ∷ cs))) (quoted_or_sign c cs) ≡ Some f → Shown (c ∷ cs) f
    at true e = number_shown (c ∷ cs) (span (goes_on_in 10) (c ∷ cs)) f e
    at false e = quoted_or_sign_shown c cs f e

front_shown : (c : ℕ) (cs : List ℕ) (f : Found) → front c cs ≡ Some f → Shown (c ∷ cs) f
front_shown c cs f e = at (is_letter c) e
  where
    at : (b : Bool) → cond b (word_at (c ∷ cs) (span goes_on (c ∷ cs))) (number_or_other c cs) ≡ Some f → Shown (c ∷ cs) f
    at true e = word_shown (c ∷ cs) (span goes_on (c ∷ cs)) f e
    at false e = number_or_other_shown c cs f e

-- ---- a whole text

-- one more space in front
space_before : (c : ℕ) (p : Place) (text : List ℕ) (ks : List Token) (q : Place)
    → is_space c ≡ true → Begins (after_byte p c) text ks q [] → Begins p (c ∷ text) ks q []
space_before c p text [] q space (gap, e, is_gap, at) = ((c ∷ []) ∷ gap, ap (λ (l : List ℕ). c ∷ l) e, (inl (c, refl, space), is_gap), at)
space_before c p text (k ∷ ks) q space (gap, u, more, e, is_gap, at, is, ends, h) =
    ((c ∷ []) ∷ gap, u, more, ap (λ (l : List ℕ). c ∷ l) e, (inl (c, refl, space), is_gap), at, is, ends, h)

-- what is read from a place on: tokens and the end
record Read (p : Place) (text : List ℕ) (ks : List Token) : Type 0 where
  front : List Token
  end : Place
  begins : Begins p text front end []
  are : ks ≡ front ++ end_at end ∷ []

lexed_read : (fuel : ℕ) (p : Place) (text : List ℕ) (ks : List Token) → lexed fuel p text ≡ Some ks → Read p text ks
lexed_read fuel p [] ks e = record { front = []; end = p; begins = ([], refl, tt, refl); are = cc }
lexed_read zero p (c ∷ cs) ks e = absurd cc
lexed_read (suc fuel) p (c ∷ cs) ks e = by_space (is_space c) refl (lexed_read fuel) e
  where
    Further : Type 0
    Further = (p : Place) (text : List ℕ) (ks : List Token) → lexed fuel p text ≡ Some ks → Read p text ks

    by_rest : (f : Found) → Shown (c ∷ cs) f → Further
        → (o : Option (List Token)) → lexed fuel (after p (take f.len (c ∷ cs))) (drop f.len (c ∷ cs)) ≡ o
        → and_token (record { kind = f.kind; at = p }) o ≡ Some ks → Read p (c ∷ cs) ks
    by_rest f s further None a e = absurd cc
    by_rest f s further (Some js) a e =
        let r = further (after p (take f.len (c ∷ cs))) (drop f.len (c ∷ cs)) js a in
        let k : Token = record { kind = f.kind; at = p } in
        let same : k ∷ js ≡ ks = cc in
        record {
          front = k ∷ r.front;
          end = r.end;
          begins = ([], take f.len (c ∷ cs), drop f.len (c ∷ cs), sym (take-append-drop f.len (c ∷ cs)), tt, refl, s.is, s.ends, r.begins);
          are = sym same ∙ ap (λ (l : List Token). k ∷ l) r.are;
        }

    by_front : (o : Option Found) → front c cs ≡ o → Further → behind (lexed fuel) p (c ∷ cs) o ≡ Some ks → Read p (c ∷ cs) ks
    by_front None a further e = absurd cc
    by_front (Some f) a further e = by_rest f (front_shown c cs f a) further (lexed fuel (after p (take f.len (c ∷ cs))) (drop f.len (c ∷ cs))) refl e

    by_space : (b : Bool) → is_space c ≡ b → Further
        → cond b (lexed fuel (after_byte p c) cs) (behind (lexed fuel) p (c ∷ cs) (front c cs)) ≡ Some ks → Read p (c ∷ cs) ks
    by_space true a further e =
        let r = further (after_byte p c) cs ks e in
        record { front = r.front; end = r.end; begins = space_before c p cs r.front r.end a r.begins; are = r.are }
    by_space false a further e = by_front (front c cs) refl further e

-- a text whose bytes are ASCII
is_text : (text : List ℕ) → is_plain text ≡ true → IsText text
is_text text h =
    let p = and_parts (nat_le (length text) longest_text) (all_are (λ c. nat_lt c 128) text) h in
    record { short = nat_le_is (length text) longest_text p.0; utf8 = IsUtf8-from_ascii text (ascii text p.1) }
  where
    ascii : (l : List ℕ) → all_are (λ c. nat_lt c 128) l ≡ true → (i : ℕ) → get_or l i 0 < 128
    ascii [] h i = omega arith
    ascii (c ∷ l) h zero = nat_lt_is c 128 ((and_parts (nat_lt c 128) (all_are (λ d. nat_lt d 128) l) h).0)
    ascii (c ∷ l) h (suc i) = ascii l ((and_parts (nat_lt c 128) (all_are (λ d. nat_lt d 128) l) h).1) i

-- What is found of a text is its tokens.
pub tokens_lexed : (text : List ℕ) (ks : List Token) → tokens_of text ≡ Some ks → Lexes text ks
tokens_lexed text ks e = at (is_plain text) refl e
  where
    at : (b : Bool) → is_plain text ≡ b → cond b (lexed (length text) start text) None ≡ Some ks → Lexes text ks
    at true a e =
        let r = lexed_read (length text) start text ks e in
        record { is_text = is_text text a; front = r.front; end = r.end; reads = r.begins; tokens_are = r.are }
    at false a e = absurd cc

-- Texts worked out by the definition of their tokens.
-- Where a row has one token or one flaw, a lemma above the rows says what is left to compute.
use Rattle.std.proofs.Common.{◌≡◌, ◌≢◌, inl, inr, ℕ, zero, suc, pos, ◌<◌, ◌≤◌, true, false, List, [], ◌∷◌, ◌++◌, length, get_or, take, drop, None, refl, sym, arith}
use Rattle.std.specs.Prelude.{codes, nat_le, nat_lt, bytes_eq}
use Rattle.std.specs.Str.{IsUtf8}
use Rattle.std.proofs.lemmas.Str.{IsUtf8-from_ascii}
use Rattle.std.proofs.lemmas.List.{append-nil}
use Rattle.std.proofs.lemmas.Bool.{and_parts}
use Rattle.std.proofs.lemmas.Bool.Decides.{nat_tests}
use Rattle.dpl_syntax.specs.Tokens.{keyword_text, contextual_text, sign_text}
use Rattle.dpl_syntax.specs.Gaps.{all_are, next_is, opens_block, opens_comment, after_comments, joined, IsGap}
use Rattle.dpl_syntax.specs.Text.{goes_on, goes_on_in, base_named, sticks, after_quote, is_word, is_digits, is_based, is_number, is_quoted, is_quote, between, well_escaped, text_value, number_value, greatest, longest_text, IsText, IsLexeme, Ends, Lexes, start, after, end_at}
use Rattle.dpl_syntax.specs.Refused.{refusal_at, IsFlaw, LexRefuses}
use Rattle.dpl_lexer.specs.Scan.{special_text, starts_based, IsDark, IsBare}
use Rattle.dpl_syntax.specs.declared.place.Place.{Place}
use Rattle.dpl_syntax.specs.declared.token.Keyword.TheVariants.{Var}
use Rattle.dpl_syntax.specs.declared.token.Contextual.TheVariants.{Size}
use Rattle.dpl_syntax.specs.declared.token.Sign.{Sign}
use Rattle.dpl_syntax.specs.declared.token.Sign.TheVariants.{DotDotLess, DotDot, Dot, AndAnd, And}
use Rattle.dpl_syntax.specs.declared.token.Kind.{Kind}
use Rattle.dpl_syntax.specs.declared.token.Kind.TheVariants.{Name, Contextual as ContextualKind, Number, Text, Keyword as Reserved, Sign as Signed}
use Rattle.dpl_syntax.specs.declared.token.Token.{Token}
use Rattle.dpl_syntax.specs.declared.refusal.Code.{Code}
use Rattle.dpl_syntax.specs.declared.refusal.Code.TheVariants.{BadCharacter, NumberTooLarge}
use Rattle.dpl_lexer.specs.declared.keyword.Special.TheVariants.{Keyword as KeywordWord, Contextual as ContextualWord}
use Rattle.dpl_lexer.specs.declared.keyword.TheConstants.{SPECIALS}
use Rattle.dpl_lexer.proofs.Specials.{first_of_text as special_of, no_special}
use Rattle.dpl_lexer.proofs.Signs.{all, each_sign, none_longer, not_begun, longest_sign, no_sign_here}
use Rattle.dpl_lexer.proofs.Sorts.{Wordy, Digital, Quoting, Other, word_sort, digits_sort, based_sort, quoted_sort, sign_sort}
use Rattle.dpl_lexer.proofs.Numerals.{decimal_number, decimal_longest, based_longest}
use Rattle.dpl_lexer.proofs.Lexemes.{word_longest, quoted_longest, sign_longest, plain_sort}
use Rattle.dpl_lexer.proofs.Scans.{no_number, bad_byte}

abbrev place : ℕ → ℕ → Place
place line column = record { line = line; column = column }

abbrev token : ℕ → ℕ → Kind → Token
token line column kind = record { kind = kind; at = place line column }

-- ---- what is left to compute

nat_le_is : (m n : ℕ) → nat_le m n ≡ true → m ≤ n
nat_le_is m n h = grind (arith, nat_tests)

nat_lt_is : (m n : ℕ) → nat_lt m n ≡ true → m < n
nat_lt_is m n h = grind (arith, nat_tests)

-- a text whose bytes are ASCII
is_text : (text : List ℕ) → nat_le (length text) longest_text ≡ true → all_are (λ c. nat_lt c 128) text ≡ true → IsText text
is_text text short small = record { short = nat_le_is (length text) longest_text short; utf8 = IsUtf8-from_ascii text (ascii text small) }
  where
    ascii : (l : List ℕ) → all_are (λ c. nat_lt c 128) l ≡ true → (i : ℕ) → get_or l i 0 < 128
    ascii [] h i = omega arith
    ascii (c ∷ l) h zero = nat_lt_is c 128 ((and_parts (nat_lt c 128) (all_are (λ d. nat_lt d 128) l) h).0)
    ascii (c ∷ l) h (suc i) = ascii l ((and_parts (nat_lt c 128) (all_are (λ d. nat_lt d 128) l) h).1) i

-- a text that is the UTF-8 of characters
is_utf8_text : (text : List ℕ) → nat_le (length text) longest_text ≡ true → IsUtf8 text → IsText text
is_utf8_text text short valid = record { short = nat_le_is (length text) longest_text short; utf8 = valid }

word_ends : (u rest : List ℕ) → is_word u ≡ true → next_is goes_on rest ≡ false → Ends u rest
word_ends u rest word stop =
    let sorted = word_sort u word in
    record { longest = word_longest u rest word stop; plain = plain_sort Wordy u rest sorted (λ same. absurd cc); free = λ number. absurd (no_number Wordy u sorted (λ same. absurd cc) number) }

decimal_ends : (u rest : List ℕ) → is_digits 10 u ≡ true → next_is (goes_on_in 10) rest ≡ false → starts_based (u ++ rest) ≡ false → next_is sticks rest ≡ false → Ends u rest
decimal_ends u rest digits stop decimal free =
    record { longest = decimal_longest u rest digits stop decimal; plain = plain_sort Digital u rest (digits_sort u digits) (λ same. absurd cc); free = λ _. free }

based_ends : (u rest : List ℕ) → is_based u ≡ true → next_is (goes_on_in (base_named (get_or u 1 0))) rest ≡ false → next_is sticks rest ≡ false → Ends u rest
based_ends u rest based stop free =
    record { longest = based_longest u rest based stop; plain = plain_sort Digital u rest (based_sort u based) (λ same. absurd cc); free = λ _. free }

quoted_ends : (u rest : List ℕ) → is_quoted u ≡ true → Ends u rest
quoted_ends u rest quoted =
    let sorted = quoted_sort u quoted in
    record { longest = quoted_longest u rest quoted; plain = plain_sort Quoting u rest sorted (λ same. absurd cc); free = λ number. absurd (no_number Quoting u sorted (λ same. absurd cc) number) }

-- a sign is the longest where none that begins the text is longer
sign_ends : (s : Sign) (rest : List ℕ) → each_sign (none_longer (length (sign_text s)) (sign_text s ++ rest)) all ≡ true → opens_comment (sign_text s ++ rest) ≡ false → Ends (sign_text s) rest
sign_ends s rest most plain = record {
  longest = sign_longest s rest (longest_sign (length (sign_text s)) (sign_text s ++ rest) most);
  plain = plain;
  free = λ number. absurd (no_number Other (sign_text s) (sign_sort s (sign_text s) refl) (λ same. absurd cc) number);
}

-- a word that is neither reserved nor contextual
name_lexeme : (u : List ℕ) → is_word u ≡ true → bytes_eq (special_text (special_of SPECIALS u)) u ≡ false → IsLexeme (Name u) u
name_lexeme u word other = (refl, word, (λ k. no_special u other (KeywordWord k)), (λ w. no_special u other (ContextualWord w)))

-- a text that is one token
alone : (u : List ℕ) (k : Kind) → IsText u → IsLexeme k u → Ends u [] → Lexes u (token 1 1 k ∷ end_at (after start u) ∷ [])
alone u k text is ends = record {
  is_text = text;
  front = token 1 1 k ∷ [];
  end = after start u;
  reads = ([], u, [], sym (append-nil u), tt, refl, is, ends, ([], refl, tt, refl));
  tokens_are = refl;
}

decimal : (u : List ℕ) → is_digits 10 u ≡ true → starts_based (u ++ []) ≡ false → number_value u ≤ greatest → IsText u → Lexes u (token 1 1 (Number (pos (number_value u))) ∷ end_at (after start u) ∷ [])
decimal u digits not_based small text = alone u (Number (pos (number_value u))) text (refl, decimal_number u digits, small) (decimal_ends u [] digits refl not_based refl)

based : (u : List ℕ) → is_based u ≡ true → is_number u ≡ true → number_value u ≤ greatest → IsText u → Lexes u (token 1 1 (Number (pos (number_value u))) ∷ end_at (after start u) ∷ [])
based u is number small text = alone u (Number (pos (number_value u))) text (refl, number, small) (based_ends u [] is refl refl)

quoted : (u : List ℕ) → is_quoted u ≡ true → well_escaped (between u) ≡ between u → IsText u → Lexes u (token 1 1 (Text (between u)) ∷ end_at (after start u) ∷ [])
quoted u is good text = alone u (Text (between u)) text (refl, is, good) (quoted_ends u [] is)

-- a text that is one gap
gap_alone : (gap : List (List ℕ)) → IsText (joined gap) → IsGap gap [] → Lexes (joined gap) (end_at (after start (joined gap)) ∷ [])
gap_alone gap text is = record {
  is_text = text;
  front = [];
  end = after start (joined gap);
  reads = (gap, sym (append-nil (joined gap)), is, refl);
  tokens_are = refl;
}

-- a text that can't be read on where it begins
flawed : (text : List ℕ) (code : Code) (before : List ℕ) → IsText text → IsFlaw text code before → LexRefuses text (refusal_at code (after start before))
flawed text code before is flaw = inr (inr (record {
  is_text = is;
  front = [];
  at = start;
  rest = text;
  reads = ([], refl, tt, refl);
  code = code;
  before = before;
  flaw = flaw;
  refusal_is = refl;
}))

bad : (c : ℕ) (cs : List ℕ) → IsText (c ∷ cs) → IsDark (c ∷ cs) → IsBare (c ∷ cs) → each_sign (not_begun (c ∷ cs)) all ≡ true → LexRefuses (c ∷ cs) (refusal_at BadCharacter start)
bad c cs is dark bare none = flawed (c ∷ cs) BadCharacter [] is ((bad_byte (c ∷ cs) dark bare (no_sign_here (c ∷ cs) none)).flawed)

unended_block : (text : List ℕ) → opens_block text ≡ true → after_comments 1 (drop 2 text) ≡ None → IsText text → LexRefuses text (refusal_at BadCharacter start)
unended_block text opens unended is = flawed text BadCharacter [] is (inr (inl (refl, refl, inl (opens, unended))))

unended_quote : (q : ℕ) (cs : List ℕ) → is_quote q ≡ true → after_quote q cs ≡ None → IsText (q ∷ cs) → LexRefuses (q ∷ cs) (refusal_at BadCharacter start)
unended_quote q cs quote unended is = flawed (q ∷ cs) BadCharacter [] is (inr (inl (refl, refl, inr (q, cs, refl, quote, unended))))

-- a text in quotes whose escapes are well up to the backslash behind these bytes
bad_escape : (u before : List ℕ) → is_quoted u ≡ true → before ≡ take 1 u ++ well_escaped (between u) → well_escaped (between u) ≢ between u → IsText u → LexRefuses u (refusal_at BadCharacter (after start before))
bad_escape u before is at bad text = flawed u BadCharacter before text (inr (inr (inl (refl, record { u = u; rest = []; is = sym (append-nil u); quoted = is; bad = bad; before_is = at }))))

-- decimal digits with a letter or $ straight after them
stuck : (u rest : List ℕ) → is_digits 10 u ≡ true → next_is (goes_on_in 10) rest ≡ false → starts_based (u ++ rest) ≡ false → next_is sticks rest ≡ true → number_value u ≤ greatest → IsText (u ++ rest)
    → LexRefuses (u ++ rest) (refusal_at BadCharacter (after start u))
stuck u rest digits stop not_based sticks_on small is =
    flawed (u ++ rest) BadCharacter u is (inr (inr (inr (inl (refl, (rest, record { is = refl; number = decimal_number u digits; longest = decimal_longest u rest digits stop not_based }, sticks_on, small))))))

-- ---- gaps

-- `/**/`
empty_comment : Lexes (codes "/**/") (end_at (place 1 5) ∷ [])
empty_comment = gap_alone (codes "/**/" ∷ []) (is_text (codes "/**/") refl refl) (inr (inr refl), tt)

-- `//` at the end
line_comment : Lexes (codes "//") (end_at (place 1 3) ∷ [])
line_comment = gap_alone (codes "//" ∷ []) (is_text (codes "//") refl refl) (inr (inl (refl, refl, refl)), tt)

-- comments nest, and bytes past ASCII stand in them
nested_comment : Lexes (codes "/* a /* " ++ 195 ∷ 169 ∷ codes "*/ c */") (end_at (place 1 18) ∷ [])
unfolding lib.Utf8.encode
nested_comment = gap_alone ((codes "/* a /* " ++ 195 ∷ 169 ∷ codes "*/ c */") ∷ []) (is_utf8_text (codes "/* a /* " ++ 195 ∷ 169 ∷ codes "*/ c */") refl (codes "/* a /* " ++ 233 ∷ codes "*/ c */", (refl, refl))) (inr (inr refl), tt)

-- `/*/`: the slash doesn't end the comment that it is the beginning of
begun_comment : LexRefuses (codes "/*/") (refusal_at BadCharacter (place 1 1))
begun_comment = unended_block (codes "/*/") refl refl (is_text (codes "/*/") refl refl)

-- only the inner comment is ended
outer_unended : LexRefuses (codes "/* a /* b */ c") (refusal_at BadCharacter (place 1 1))
outer_unended = unended_block (codes "/* a /* b */ c") refl refl (is_text (codes "/* a /* b */ c") refl refl)

-- `a //b`: one name and a comment, and not two signs and another name
name_comment : Lexes (codes "a //b") (token 1 1 (Name (codes "a")) ∷ end_at (place 1 6) ∷ [])
unfolding keyword_text contextual_text
name_comment = record {
  is_text = is_text (codes "a //b") refl refl;
  front = token 1 1 (Name (codes "a")) ∷ [];
  end = place 1 6;
  reads = (
    [],
    codes "a",
    codes " //b",
    refl,
    tt,
    refl,
    name_lexeme (codes "a") refl refl,
    word_ends (codes "a") (codes " //b") refl refl,
    (codes " " ∷ codes "//b" ∷ [], refl, (inl (32, refl, refl), (inr (inl (refl, refl, refl)), tt)), refl),
  );
  tokens_are = refl;
}

-- a form feed, and a byte past ASCII
form_feed : LexRefuses (12 ∷ []) (refusal_at BadCharacter (place 1 1))
unfolding sign_text
form_feed = bad 12 [] (is_text (12 ∷ []) refl refl) (record { no_space = refl; no_line = refl; no_block = λ opens. absurd cc }) (record { some = omega arith; no_letter = refl; no_digit = refl; no_quote = refl }) refl

past_ascii : LexRefuses (195 ∷ 169 ∷ []) (refusal_at BadCharacter (place 1 1))
unfolding sign_text lib.Utf8.encode
past_ascii = bad 195 (169 ∷ []) (is_utf8_text (195 ∷ 169 ∷ []) refl (233 ∷ [], (refl, refl))) (record { no_space = refl; no_line = refl; no_block = λ opens. absurd cc }) (record { some = omega arith; no_letter = refl; no_digit = refl; no_quote = refl }) refl

-- ---- numbers

-- leading zeros
zeros : Lexes (codes "007") (token 1 1 (Number (pos 7)) ∷ end_at (place 1 4) ∷ [])
zeros = decimal (codes "007") refl refl (omega arith) (is_text (codes "007") refl refl)

-- _ may stand last
low_last : Lexes (codes "1_000_") (token 1 1 (Number (pos 1000)) ∷ end_at (place 1 7) ∷ [])
low_last = decimal (codes "1_000_") refl refl (omega arith) (is_text (codes "1_000_") refl refl)

-- and more than one
lows : Lexes (codes "1__") (token 1 1 (Number (pos 1)) ∷ end_at (place 1 4) ∷ [])
lows = decimal (codes "1__") refl refl (omega arith) (is_text (codes "1__") refl refl)

-- the greatest number
the_greatest : Lexes (codes "9223372036854775807") (token 1 1 (Number (pos 9223372036854775807)) ∷ end_at (place 1 20) ∷ [])
the_greatest = decimal (codes "9223372036854775807") refl refl (omega arith) (is_text (codes "9223372036854775807") refl refl)

-- and with a base
hex : Lexes (codes "0x7fffffffffffffff") (token 1 1 (Number (pos 9223372036854775807)) ∷ end_at (place 1 19) ∷ [])
hex = based (codes "0x7fffffffffffffff") refl refl (omega arith) (is_text (codes "0x7fffffffffffffff") refl refl)

-- _ between digits of a base
binary : Lexes (codes "0b1_01") (token 1 1 (Number (pos 5)) ∷ end_at (place 1 7) ∷ [])
binary = based (codes "0b1_01") refl refl (omega arith) (is_text (codes "0b1_01") refl refl)

-- either case of the base's letter
octal : Lexes (codes "0O17") (token 1 1 (Number (pos 15)) ∷ end_at (place 1 5) ∷ [])
octal = based (codes "0O17") refl refl (omega arith) (is_text (codes "0O17") refl refl)

-- one more than the greatest is told at its first digit, also where a letter stands behind it
too_large : LexRefuses (codes "9223372036854775808x") (refusal_at NumberTooLarge (place 1 1))
too_large =
    let u : List ℕ = codes "9223372036854775808" in
    flawed (codes "9223372036854775808x") NumberTooLarge [] (is_text (codes "9223372036854775808x") refl refl)
    (inr (inr (inr (inr (refl, refl, (u, codes "x", record { is = refl; number = refl; longest = decimal_longest u (codes "x") refl refl refl }, omega arith))))))

-- `0x` and `0x_1`: the base's letter stands straight after the 0
no_digits : LexRefuses (codes "0x") (refusal_at BadCharacter (place 1 2))
no_digits = stuck (codes "0") (codes "x") refl refl refl refl (omega arith) (is_text (codes "0x") refl refl)

low_first : LexRefuses (codes "0x_1") (refusal_at BadCharacter (place 1 2))
low_first = stuck (codes "0") (codes "x_1") refl refl refl refl (omega arith) (is_text (codes "0x_1") refl refl)

-- a letter or $ straight after a number
letter_after : LexRefuses (codes "1a") (refusal_at BadCharacter (place 1 2))
letter_after = stuck (codes "1") (codes "a") refl refl refl refl (omega arith) (is_text (codes "1a") refl refl)

dollar_after : LexRefuses (codes "1$") (refusal_at BadCharacter (place 1 2))
dollar_after = stuck (codes "1") (codes "$") refl refl refl refl (omega arith) (is_text (codes "1$") refl refl)

-- `0b12`: two numbers, for 2 is no letter
two_numbers : Lexes (codes "0b12") (token 1 1 (Number (pos 1)) ∷ token 1 4 (Number (pos 2)) ∷ end_at (place 1 5) ∷ [])
two_numbers = record {
  is_text = is_text (codes "0b12") refl refl;
  front = token 1 1 (Number (pos 1)) ∷ token 1 4 (Number (pos 2)) ∷ [];
  end = place 1 5;
  reads = (
    [],
    codes "0b1",
    codes "2",
    refl,
    tt,
    refl,
    (refl, refl, omega arith),
    based_ends (codes "0b1") (codes "2") refl refl refl,
    ([], codes "2", [], refl, tt, refl, (refl, refl, omega arith), decimal_ends (codes "2") [] refl refl refl refl, ([], refl, tt, refl)),
  );
  tokens_are = refl;
}

-- ---- texts in quotes

-- both quotes; a quote within the other ones
double_quotes : Lexes (34 ∷ codes "a'b" ++ 34 ∷ []) (token 1 1 (Text (codes "a'b")) ∷ end_at (place 1 6) ∷ [])
double_quotes = quoted (34 ∷ codes "a'b" ++ 34 ∷ []) refl refl (is_text (34 ∷ codes "a'b" ++ 34 ∷ []) refl refl)

single_quotes : Lexes (39 ∷ 34 ∷ 39 ∷ []) (token 1 1 (Text (34 ∷ [])) ∷ end_at (place 1 4) ∷ [])
single_quotes = quoted (39 ∷ 34 ∷ 39 ∷ []) refl refl (is_text (39 ∷ 34 ∷ 39 ∷ []) refl refl)

-- bytes past ASCII stand in it
quoted_past_ascii : Lexes (39 ∷ 195 ∷ 169 ∷ 39 ∷ []) (token 1 1 (Text (195 ∷ 169 ∷ [])) ∷ end_at (place 1 5) ∷ [])
unfolding lib.Utf8.encode
quoted_past_ascii = quoted (39 ∷ 195 ∷ 169 ∷ 39 ∷ []) refl refl (is_utf8_text (39 ∷ 195 ∷ 169 ∷ 39 ∷ []) refl (39 ∷ 233 ∷ 39 ∷ [], (refl, refl)))

-- each escape: \n \t \" \' \\
abbrev escapes : List ℕ
escapes = 92 ∷ 110 ∷ 92 ∷ 116 ∷ 92 ∷ 34 ∷ 92 ∷ 39 ∷ 92 ∷ 92 ∷ []

each_escape : Lexes (39 ∷ escapes ++ 39 ∷ []) (token 1 1 (Text escapes) ∷ end_at (place 1 13) ∷ [])
each_escape = quoted (39 ∷ escapes ++ 39 ∷ []) refl refl (is_text (39 ∷ escapes ++ 39 ∷ []) refl refl)

each_value : text_value escapes ≡ 10 ∷ 9 ∷ 34 ∷ 39 ∷ 92 ∷ []
each_value = refl

-- a text that its line or the whole text ends, or whose last quote is escaped
unended_by_line : LexRefuses (39 ∷ 97 ∷ 10 ∷ 39 ∷ []) (refusal_at BadCharacter (place 1 1))
unended_by_line = unended_quote 39 (97 ∷ 10 ∷ 39 ∷ []) refl refl (is_text (39 ∷ 97 ∷ 10 ∷ 39 ∷ []) refl refl)

unended_by_end : LexRefuses (39 ∷ 97 ∷ 34 ∷ []) (refusal_at BadCharacter (place 1 1))
unended_by_end = unended_quote 39 (97 ∷ 34 ∷ []) refl refl (is_text (39 ∷ 97 ∷ 34 ∷ []) refl refl)

quote_escaped : LexRefuses (39 ∷ 92 ∷ 39 ∷ []) (refusal_at BadCharacter (place 1 1))
quote_escaped = unended_quote 39 (92 ∷ 39 ∷ []) refl refl (is_text (39 ∷ 92 ∷ 39 ∷ []) refl refl)

-- a bad escape is told at its backslash, and where the text isn't ended, at the quote
bad_letter : LexRefuses (39 ∷ 97 ∷ 92 ∷ 113 ∷ 39 ∷ []) (refusal_at BadCharacter (place 1 3))
bad_letter = bad_escape (39 ∷ 97 ∷ 92 ∷ 113 ∷ 39 ∷ []) (39 ∷ 97 ∷ []) refl refl (λ e. absurd cc) (is_text (39 ∷ 97 ∷ 92 ∷ 113 ∷ 39 ∷ []) refl refl)

bad_and_unended : LexRefuses (39 ∷ 92 ∷ 113 ∷ []) (refusal_at BadCharacter (place 1 1))
bad_and_unended = unended_quote 39 (92 ∷ 113 ∷ []) refl refl (is_text (39 ∷ 92 ∷ 113 ∷ []) refl refl)

-- ---- signs and words

-- `..<` is one sign, and `...` two
dots_less : Lexes (codes "..<") (token 1 1 (Signed DotDotLess) ∷ end_at (place 1 4) ∷ [])
unfolding sign_text
dots_less = alone (codes "..<") (Signed DotDotLess) (is_text (codes "..<") refl refl) refl (sign_ends DotDotLess [] refl refl)

three_dots : Lexes (codes "...") (token 1 1 (Signed DotDot) ∷ token 1 3 (Signed Dot) ∷ end_at (place 1 4) ∷ [])
unfolding sign_text
three_dots = record {
  is_text = is_text (codes "...") refl refl;
  front = token 1 1 (Signed DotDot) ∷ token 1 3 (Signed Dot) ∷ [];
  end = place 1 4;
  reads = ([], codes "..", codes ".", refl, tt, refl, refl, sign_ends DotDot (codes ".") refl refl, ([], codes ".", [], refl, tt, refl, refl, sign_ends Dot [] refl refl, ([], refl, tt, refl)));
  tokens_are = refl;
}

-- `1..2`: two numbers and what stands between them
one_to_two : Lexes (codes "1..2") (token 1 1 (Number (pos 1)) ∷ token 1 2 (Signed DotDot) ∷ token 1 4 (Number (pos 2)) ∷ end_at (place 1 5) ∷ [])
unfolding sign_text
one_to_two = record {
  is_text = is_text (codes "1..2") refl refl;
  front = token 1 1 (Number (pos 1)) ∷ token 1 2 (Signed DotDot) ∷ token 1 4 (Number (pos 2)) ∷ [];
  end = place 1 5;
  reads = (
    [],
    codes "1",
    codes "..2",
    refl,
    tt,
    refl,
    (refl, refl, omega arith),
    decimal_ends (codes "1") (codes "..2") refl refl refl refl,
    (
      [],
      codes "..",
      codes "2",
      refl,
      tt,
      refl,
      refl,
      sign_ends DotDot (codes "2") refl refl,
      ([], codes "2", [], refl, tt, refl, (refl, refl, omega arith), decimal_ends (codes "2") [] refl refl refl refl, ([], refl, tt, refl)),
    ),
  );
  tokens_are = refl;
}

-- `a&&&b`: the longer sign first
three_ands : Lexes (codes "a&&&b") (token 1 1 (Name (codes "a")) ∷ token 1 2 (Signed AndAnd) ∷ token 1 4 (Signed And) ∷ token 1 5 (Name (codes "b")) ∷ end_at (place 1 6) ∷ [])
unfolding keyword_text contextual_text sign_text
three_ands = record {
  is_text = is_text (codes "a&&&b") refl refl;
  front = token 1 1 (Name (codes "a")) ∷ token 1 2 (Signed AndAnd) ∷ token 1 4 (Signed And) ∷ token 1 5 (Name (codes "b")) ∷ [];
  end = place 1 6;
  reads = (
    [],
    codes "a",
    codes "&&&b",
    refl,
    tt,
    refl,
    name_lexeme (codes "a") refl refl,
    word_ends (codes "a") (codes "&&&b") refl refl,
    (
      [],
      codes "&&",
      codes "&b",
      refl,
      tt,
      refl,
      refl,
      sign_ends AndAnd (codes "&b") refl refl,
      (
        [],
        codes "&",
        codes "b",
        refl,
        tt,
        refl,
        refl,
        sign_ends And (codes "b") refl refl,
        ([], codes "b", [], refl, tt, refl, name_lexeme (codes "b") refl refl, word_ends (codes "b") [] refl refl, ([], refl, tt, refl)),
      ),
    ),
  );
  tokens_are = refl;
}

-- `var s`: a reserved word, a space and a name; behind a newline a contextual word
var_s : Lexes (codes "var s" ++ 10 ∷ codes "size") (token 1 1 (Reserved Var) ∷ token 1 5 (Name (codes "s")) ∷ token 2 1 (ContextualKind Size) ∷ end_at (place 2 5) ∷ [])
unfolding keyword_text contextual_text
var_s = record {
  is_text = is_text (codes "var s" ++ 10 ∷ codes "size") refl refl;
  front = token 1 1 (Reserved Var) ∷ token 1 5 (Name (codes "s")) ∷ token 2 1 (ContextualKind Size) ∷ [];
  end = place 2 5;
  reads = (
    [],
    codes "var",
    codes " s" ++ 10 ∷ codes "size",
    refl,
    tt,
    refl,
    refl,
    word_ends (codes "var") (codes " s" ++ 10 ∷ codes "size") refl refl,
    (
      codes " " ∷ [],
      codes "s",
      10 ∷ codes "size",
      refl,
      (inl (32, refl, refl), tt),
      refl,
      name_lexeme (codes "s") refl refl,
      word_ends (codes "s") (10 ∷ codes "size") refl refl,
      ((10 ∷ []) ∷ [], codes "size", [], refl, (inl (10, refl, refl), tt), refl, refl, word_ends (codes "size") [] refl refl, ([], refl, tt, refl)),
    ),
  );
  tokens_are = refl;
}

-- Each text has tokens or a refusal.
-- At each place stands a piece of a gap, a token, or what keeps the text from being read on.
use Rattle.std.proofs.Common.{◌≡◌, ◌≢◌, ◌⊎◌, inl, inr, ℕ, zero, suc, pos, ◌+◌, ◌<◌, ◌≤◌, Bool, true, false, List, [], ◌∷◌, ◌++◌, length, take, drop, get_or, Option, Some, None, refl, sym, ap, subst, ◌∙◌, length-append, arith}
use Rattle.std.specs.Str.{is_utf8, IsUtf8, IsValidUpTo}
use Rattle.std.specs.Prelude.{bytes_eq, codes, eqb}
use Rattle.std.specs.List.{starts_with}
use Rattle.std.proofs.lemmas.Bool.{cases_lt, cases_eq, eqb-true}
use Rattle.std.proofs.lemmas.List.{take_all, length-drop, drop_at, take_at, append-nil}
use Rattle.std.proofs.lemmas.Str.{IsUtf8-from_is_utf8, is_utf8-from_IsUtf8, IsUtf8-nil}
use Rattle.dpl_syntax.specs.Tokens.{sign_text}
use Rattle.dpl_syntax.specs.Gaps.{is_space, on_line, all_are, next_is, opens_line, opens_block, after_comments}
use Rattle.dpl_syntax.specs.Text.{is_letter, is_digit, is_quote, goes_on, goes_on_in, base_named, sticks, after_quote, between, is_escaped, well_escaped, well_escape, is_word, number_value, greatest, IsLexeme, Ends, longest_text, IsText, start, after, end_at, Begins, Lexes}
use Rattle.dpl_syntax.specs.Refused.{refusal_at, IsFlaw, LexRefuses}
use Rattle.dpl_lexer.specs.Scan.{IsDark, IsBare, IsPieceAt, IsOfKind, IsLexemeAt, IsFlawAt, IsSignAt, starts_based, IsStart, special_text}
use Rattle.dpl_syntax.specs.declared.place.Place.{Place}
use Rattle.dpl_syntax.specs.declared.token.Sign.{Sign}
use Rattle.dpl_syntax.specs.declared.token.Sign.TheVariants.{DotDotLess}
use Rattle.dpl_syntax.specs.declared.token.Token.{Token}
use Rattle.dpl_syntax.specs.declared.token.Kind.{Kind}
use Rattle.dpl_syntax.specs.declared.token.Kind.TheVariants.{Name, Contextual as ContextualKind, Number, Text, Keyword as Reserved, Sign as Signed}
use Rattle.dpl_lexer.specs.declared.keyword.Special.{Special}
use Rattle.dpl_lexer.specs.declared.keyword.Special.TheVariants.{Keyword as KeywordWord, Contextual as ContextualWord}
use Rattle.dpl_lexer.specs.declared.keyword.TheConstants.{SPECIALS}
use Rattle.dpl_lexer.specs.declared.scan.LexemeKind.{LexemeKind}
use Rattle.dpl_lexer.specs.declared.scan.LexemeKind.TheVariants.{Word, Number as NumberShape, Text as TextShape, Sign as SignShape}
use Rattle.dpl_lexer.specs.declared.scan.Lexeme.{Lexeme}
use Rattle.dpl_lexer.specs.declared.scan.Flaw.{Flaw}
use Rattle.dpl_syntax.specs.declared.refusal.Code.{Code}
use Rattle.dpl_syntax.specs.declared.refusal.Code.TheVariants.{NotText, BadCharacter, NumberTooLarge}
use Rattle.dpl_syntax.specs.declared.refusal.Refusal.{Refusal}
use Rattle.dpl_lexer.proofs.ByteTests.{all_are-cons, bytes_eq-true, bytes_eq-same}
use Rattle.dpl_lexer.proofs.Gaps.{two_bytes_are, after_comments_used, line_found, block_found}
use Rattle.dpl_lexer.proofs.Specials.{first_of_text as special_of, no_special}
use Rattle.dpl_lexer.proofs.Signs.{all as all_signs, first_of_text as sign_of, no_sign}
use Rattle.dpl_lexer.proofs.Quotes.{after_quote_used}
use Rattle.dpl_lexer.proofs.Numerals.{IsTaken, number_taken}
use Rattle.dpl_lexer.proofs.Scans.{word_found, number_at, number_found, quoted_found, escape_found, unended_found, NoPair, NoTriple, no_triple, one_byte, two_bytes, three_bytes_found, sign_found, opens_none, block_unended, bad_byte}
use Rattle.dpl_lexer.proofs.Steps.{skips_one, takes_one}

-- ---- how far a test goes

-- as many bytes as pass a test
record Span (p : ℕ → Bool) (text : List ℕ) : Type 0 where
  len : ℕ
  within : len ≤ length text
  each : all_are p (take len text) ≡ true
  ended : next_is p (drop len text) ≡ false

span : (p : ℕ → Bool) (text : List ℕ) → Span p text
span p [] = record { len = 0; within = omega arith; each = refl; ended = refl }
span p (c ∷ cs) = at (p c) refl (span p cs)
  where
    at : (b : Bool) → p c ≡ b → Span p cs → Span p (c ∷ cs)
    at false fails s = record { len = 0; within = omega arith; each = refl; ended = fails }
    at true passes s =
        let le = s.within in
        record { len = suc s.len; within = omega arith; each = all_are-cons p c (take s.len cs) passes s.each; ended = s.ended }

-- ---- what stands at a place

-- a piece of a gap, a token, or what keeps the text from being read on
data Front (text : List ℕ) : Type 0 where
  Gap : (n : ℕ) → IsPieceAt text n → Front text
  Here : (k : Kind) (n : ℕ) → 0 < n → n ≤ length text → IsLexeme k (take n text) → Ends (take n text) (drop n text) → Front text
  Flawed : (code : Code) (before : List ℕ) → IsFlaw text code before → Front text

-- a word is reserved, contextual or a name
word_kind : (u : List ℕ) → is_word u ≡ true → (k : Kind) × IsLexeme k u
word_kind u word = at (bytes_eq (special_text (special_of SPECIALS u)) u) refl
  where
    special : (s : Special) → u ≡ special_text s → (k : Kind) × IsLexeme k u
    special (KeywordWord k) e = (Reserved k, e)
    special (ContextualWord w) e = (ContextualKind w, e)

    at : (b : Bool) → bytes_eq (special_text (special_of SPECIALS u)) u ≡ b → (k : Kind) × IsLexeme k u
    at true same = special (special_of SPECIALS u) (sym (bytes_eq-true (special_text (special_of SPECIALS u)) u same))
    at false other = (Name u, (refl, word, λ k. no_special u other (KeywordWord k), λ w. no_special u other (ContextualWord w)))

kind_found : (shape : LexemeKind) (u : List ℕ) → IsOfKind shape u → (k : Kind) × IsLexeme k u
kind_found Word u word = word_kind u word
kind_found (NumberShape n) u number = (Number n, number)
kind_found TextShape u (quoted, good) = (Text (between u), (refl, quoted, good))
kind_found (SignShape s) u sign = (Signed s, sign)

front_lexeme : (text : List ℕ) (found : Lexeme) → IsLexemeAt text found → Front text
front_lexeme text found at =
    let kind = kind_found found.shape (take found.len text) at.shape in
    Here kind.0 found.len at.some at.within kind.1 at.ends

front_flaw : (text : List ℕ) (flaw : Flaw) → IsFlawAt text flaw → Front text
front_flaw text flaw at = Flawed flaw.code (take flaw.offset text) at.flawed

-- ---- numbers

-- digits are a number, or one past the greatest, or go on with a letter
front_digits : (text : List ℕ) (base skipped : ℕ) → IsStart text base skipped → skipped ≤ length text → Front text
front_digits text base skipped begins le = sized (span (goes_on_in base) (drop skipped text))
  where
    free : (digits : List ℕ) (len : ℕ) (b : Bool) → len ≤ length text → IsTaken text digits base len → number_value (take len text) ≤ greatest → next_is sticks (drop len text) ≡ b → Front text
    free digits len false within taken small ends = front_lexeme text _ (number_found text digits base len (pos (number_value (take len text))) within taken ends refl small)
    free digits len true within taken small sticks_on =
        Flawed BadCharacter (take len text) (inr (inr (inr (inl (refl, (drop len text, number_at text digits base len taken, sticks_on, small))))))

    large : (digits : List ℕ) (len : ℕ) → IsTaken text digits base len → greatest < number_value (take len text) → Front text
    large digits len taken lt = Flawed NumberTooLarge [] (inr (inr (inr (inr (refl, refl, (take len text, drop len text, number_at text digits base len taken, lt))))))

    sized : Span (goes_on_in base) (drop skipped text) → Front text
    sized s =
        let taken = number_taken text base skipped s.len begins s.each s.ended in
        let within : skipped + s.len ≤ length text = omega (arith, s.within, length-drop skipped text) in
        elim (cases_lt greatest (number_value (take (skipped + s.len) text))) [
          | inl lt ↦ large (take s.len (drop skipped text)) (skipped + s.len) taken lt
          | inr small ↦ free (take s.len (drop skipped text)) (skipped + s.len) (next_is sticks (drop (skipped + s.len) text)) within taken small refl
        ]

front_number : (c : ℕ) (cs : List ℕ) → is_digit c ≡ true → Front (c ∷ cs)
front_number c cs digit = at cs (starts_based (c ∷ cs)) refl
  where
    at : (cs : List ℕ) (b : Bool) → starts_based (c ∷ cs) ≡ b → Front (c ∷ cs)
    at cs false decimal = front_digits (c ∷ cs) 10 0 (inl (refl, refl, digit, decimal)) (omega arith)
    at [] true based = absurd cc
    at (l ∷ cs) true based = front_digits (c ∷ l ∷ cs) (base_named l) 2 (inr (refl, refl, based)) (omega arith)

-- ---- texts in quotes

-- what is well escaped is a front
mutual
  well_front : (l : List ℕ) → (r : List ℕ) × (l ≡ well_escaped l ++ r)
  well_front [] = ([], refl)
  well_front (c ∷ cs) = at (eqb c 92) refl (well_front_escape c cs) (well_front cs)
    where
      at : (b : Bool) → eqb c 92 ≡ b → (c ≡ 92 → (r : List ℕ) × (c ∷ cs ≡ well_escape cs ++ r)) → ((r : List ℕ) × (cs ≡ well_escaped cs ++ r)) → (r : List ℕ) × (c ∷ cs ≡ well_escaped (c ∷ cs) ++ r)
      at true h escape more = let w = escape (eqb-true c 92 h) in (w.0, rw h w.1)
      at false h escape more = (more.0, rw h (ap (λ (l : List ℕ). c ∷ l) more.1))

  well_front_escape : (c : ℕ) (cs : List ℕ) → c ≡ 92 → (r : List ℕ) × (c ∷ cs ≡ well_escape cs ++ r)
  well_front_escape c [] h = (c ∷ [], refl)
  well_front_escape c (d ∷ cs) h = at (is_escaped d) refl (well_front cs)
    where
      at : (b : Bool) → is_escaped d ≡ b → ((r : List ℕ) × (cs ≡ well_escaped cs ++ r)) → (r : List ℕ) × (c ∷ d ∷ cs ≡ well_escape (d ∷ cs) ++ r)
      at true k more = (more.0, rw k (ap (λ (x : ℕ). x ∷ d ∷ cs) h ∙ ap (λ (l : List ℕ). 92 ∷ d ∷ l) more.1))
      at false k more = (c ∷ d ∷ cs, rw k refl)

-- a front that isn't all is shorter
shorter : (inner well r : List ℕ) → inner ≡ well ++ r → bytes_eq well inner ≡ false → length well < length inner
shorter inner well [] e bad = absurd (cc (bad, bytes_eq-same well inner (sym (append-nil well) ∙ sym e)))
shorter inner well (c ∷ r) e bad = omega (arith, ap (length {A = ℕ}) e, length-append well (c ∷ r))

front_quote : (q : ℕ) (cs : List ℕ) → is_quote q ≡ true → Front (q ∷ cs)
front_quote q cs quote = at (after_quote q cs) refl
  where
    escaped_at : (n : ℕ) → 2 ≤ n → n ≤ length (q ∷ cs) → after_quote q cs ≡ Some (drop n (q ∷ cs)) → (b : Bool) → bytes_eq (well_escaped (between (take n (q ∷ cs)))) (between (take n (q ∷ cs))) ≡ b → Front (q ∷ cs)
    escaped_at n two within left true good = front_lexeme (q ∷ cs) _ (quoted_found (q ∷ cs) n quote two within left (bytes_eq-true (well_escaped (between (take n (q ∷ cs)))) (between (take n (q ∷ cs))) good))
    escaped_at n two within left false bad =
        let inner : List ℕ = between (take n (q ∷ cs)) in
        let well : List ℕ = well_escaped inner in
        let w = well_front inner in
        let front : well ≡ take (length well) inner = sym (take_at well w.0 (length well) refl) ∙ ap (take (length well)) (sym w.1) in
        front_flaw (q ∷ cs) _ (escape_found (q ∷ cs) n (length well) quote two within left (shorter inner well w.0 w.1 bad) front)

    ended : (l : List ℕ) → after_quote q cs ≡ Some l → Front (q ∷ cs)
    ended l left =
        let k = after_quote_used q cs l left in
        let n : ℕ = suc (length k.used) in
        let rest : drop n (q ∷ cs) ≡ l = ap (drop (length k.used)) k.is ∙ drop_at k.used l (length k.used) refl in
        let within : n ≤ length (q ∷ cs) = omega (arith, ap (length {A = ℕ}) k.is, length-append k.used l) in
        escaped_at n (some k.used k.closes) within (left ∙ ap Some (sym rest)) (bytes_eq (well_escaped (between (take n (q ∷ cs)))) (between (take n (q ∷ cs)))) refl
      where
        some : (u : List ℕ) → after_quote q u ≡ Some [] → 2 ≤ suc (length u)
        some [] h = absurd cc
        some (c ∷ u) h = omega arith

    at : (o : Option (List ℕ)) → after_quote q cs ≡ o → Front (q ∷ cs)
    at None unended = front_flaw (q ∷ cs) _ (unended_found (q ∷ cs) quote unended)
    at (Some l) left = ended l left

-- ---- signs

-- the sign of one spelling, where it is one
sign_cases : (u : List ℕ) → ((s : Sign) × (sign_text s ≡ u)) ⊎ ((s : Sign) → sign_text s ≢ u)
sign_cases u = at (bytes_eq (sign_text (sign_of all_signs u)) u) refl
  where
    at : (b : Bool) → bytes_eq (sign_text (sign_of all_signs u)) u ≡ b → ((s : Sign) × (sign_text s ≡ u)) ⊎ ((s : Sign) → sign_text s ≢ u)
    at true same = inl (sign_of all_signs u, bytes_eq-true (sign_text (sign_of all_signs u)) u same)
    at false other = inr (no_sign u other)

front_sign : (c : ℕ) (cs : List ℕ) → IsDark (c ∷ cs) → IsBare (c ∷ cs) → opens_block (c ∷ cs) ≡ false → Front (c ∷ cs)
front_sign c cs dark bare plain = triple (starts_with eqb (c ∷ cs) (codes "..<")) refl
  where
    found : (s : Sign) → IsSignAt (c ∷ cs) (Some s) → Front (c ∷ cs)
    found s at = front_lexeme (c ∷ cs) _ (sign_found (c ∷ cs) s (length (sign_text s)) refl (opens_none (c ∷ cs) dark plain) at)

    missed : IsSignAt (c ∷ cs) None → Front (c ∷ cs)
    missed none = front_flaw (c ∷ cs) _ (bad_byte (c ∷ cs) dark bare none)

    single : NoTriple (c ∷ cs) → NoPair (c ∷ cs) → Front (c ∷ cs)
    single none no_pair =
        elim (sign_cases (c ∷ [])) [
          | inl is ↦ found is.0 (one_byte (c ∷ cs) (Some is.0) (omega arith) none no_pair is.1 tt)
          | inr not ↦ missed (one_byte (c ∷ cs) None (omega arith) none no_pair tt not)
        ]

    pair : NoTriple (c ∷ cs) → (ds : List ℕ) → cs ≡ ds → Front (c ∷ cs)
    pair less [] none = single less (λ two. absurd (omega (arith, ap (length {A = ℕ}) none)))
    pair less (d ∷ ds) is =
        let second : get_or (c ∷ cs) 1 0 ≡ d = ap (λ (l : List ℕ). get_or (c ∷ l) 1 0) is in
        elim (sign_cases (c ∷ d ∷ [])) [
          | inl passes ↦ found passes.0 (two_bytes (c ∷ cs) passes.0 (omega (arith, ap (length {A = ℕ}) is)) less (passes.1 ∙ ap (λ x. c ∷ x ∷ []) (sym second)))
          | inr fails ↦ single less (λ two s e. fails s (e ∙ ap (λ x. c ∷ x ∷ []) second))
        ]

    triple : (b : Bool) → starts_with eqb (c ∷ cs) (codes "..<") ≡ b → Front (c ∷ cs)
    triple true passes = found DotDotLess (three_bytes_found (c ∷ cs) passes)
    triple false fails = pair (no_triple (c ∷ cs) fails) cs refl

-- ---- what stands where no gap does

front : (c : ℕ) (cs : List ℕ) → IsDark (c ∷ cs) → Front (c ∷ cs)
front c cs dark = by_letter (is_letter c) refl
  where
    by_block : (b : Bool) → IsBare (c ∷ cs) → opens_block (c ∷ cs) ≡ b → Front (c ∷ cs)
    by_block true bare opens = front_flaw (c ∷ cs) _ (block_unended (c ∷ cs) dark opens)
    by_block false bare plain = front_sign c cs dark bare plain

    by_quote : (b : Bool) → is_letter c ≡ false → is_digit c ≡ false → is_quote c ≡ b → Front (c ∷ cs)
    by_quote true letter digit passes = front_quote c cs passes
    by_quote false letter digit fails = by_block (opens_block (c ∷ cs)) (record { some = omega arith; no_letter = letter; no_digit = digit; no_quote = fails }) refl

    by_digit : (b : Bool) → is_letter c ≡ false → is_digit c ≡ b → Front (c ∷ cs)
    by_digit true letter passes = front_number c cs passes
    by_digit false letter fails = by_quote (is_quote c) letter fails refl

    by_letter : (b : Bool) → is_letter c ≡ b → Front (c ∷ cs)
    by_letter true passes =
        let s = span goes_on (c ∷ cs) in
        front_lexeme (c ∷ cs) _ (word_found (c ∷ cs) s.len (omega arith) s.within passes s.each s.ended)
    by_letter false fails = by_digit (is_digit c) fails refl

-- a comment that is ended
block_front : (text l : List ℕ) → opens_block text ≡ true → after_comments 1 (drop 2 text) ≡ Some l → Front text
block_front text l opens left =
    let t = two_bytes_are 47 42 text opens in
    let k = after_comments_used 1 (drop 2 text) l left in
    let n : ℕ = suc (suc (length k.used)) in
    let rest : drop n text ≡ l =
    ap (drop n) t.is ∙ ap (drop (length k.used)) (sym (ap (drop 2) t.is) ∙ k.is) ∙ drop_at k.used l (length k.used) refl in
    let within : n ≤ length text = omega (arith, ap (length {A = ℕ}) t.is, ap (length {A = ℕ}) (ap (drop 2) t.is), ap (length {A = ℕ}) k.is, length-append k.used l) in
    Gap n (block_found text n opens (omega arith) within (left ∙ ap Some (sym rest)))

-- what stands at a place
at_place : (c : ℕ) (cs : List ℕ) → Front (c ∷ cs)
at_place c cs = by_space (is_space c) refl
  where
    by_end : is_space c ≡ false → opens_line (c ∷ cs) ≡ false → opens_block (c ∷ cs) ≡ true → (o : Option (List ℕ)) → after_comments 1 (drop 2 (c ∷ cs)) ≡ o → Front (c ∷ cs)
    by_end dark line opens None unended = front c cs (record { no_space = dark; no_line = line; no_block = λ _. unended })
    by_end dark line opens (Some l) left = block_front (c ∷ cs) l opens left

    by_block : (b : Bool) → is_space c ≡ false → opens_line (c ∷ cs) ≡ false → opens_block (c ∷ cs) ≡ b → Front (c ∷ cs)
    by_block true dark line opens = by_end dark line opens (after_comments 1 (drop 2 (c ∷ cs))) refl
    by_block false dark line plain = front c cs (record { no_space = dark; no_line = line; no_block = λ opens. absurd (cc (opens, plain)) })

    by_line : (b : Bool) → is_space c ≡ false → opens_line (c ∷ cs) ≡ b → Front (c ∷ cs)
    by_line true dark opens = let s = span on_line (c ∷ cs) in Gap s.len (line_found (c ∷ cs) s.len opens s.within s.each s.ended)
    by_line false dark line = by_block (opens_block (c ∷ cs)) dark line refl

    by_space : (b : Bool) → is_space c ≡ b → Front (c ∷ cs)
    by_space true space = Gap 1 (record { some = omega arith; within = omega arith; piece = inl (c, refl, space) })
    by_space false dark = by_line (opens_line (c ∷ cs)) dark refl

-- ---- a whole text

-- the text is read to its end, or up to a flaw
abbrev Reading : List ℕ → Type 0
Reading text =
    ((ks : List Token) × (q : Place) × Begins start text ks q [])
    ⊎ ((ks : List Token) × (q : Place) × (rest : List ℕ) × (code : Code) × (before : List ℕ) × Begins start text ks q rest × IsFlaw rest code before)

-- on from a place up to which it is read
reading : (fuel : ℕ) (text : List ℕ) (ks : List Token) (q : Place) (rest : List ℕ) → length rest ≤ fuel → Begins start text ks q rest → Reading text
reading fuel text ks q [] le so_far = inl (ks, q, so_far)
reading zero text ks q (c ∷ cs) le so_far = absurd (omega arith)
reading (suc fuel) text ks q (c ∷ cs) le so_far = at (at_place c cs) (reading fuel text)
  where
    Further : Type 0
    Further = (ks : List Token) (q : Place) (rest : List ℕ) → length rest ≤ fuel → Begins start text ks q rest → Reading text

    at : Front (c ∷ cs) → Further → Reading text
    at (Gap n found) further =
        let some = found.some in
        further ks (after q (take n (c ∷ cs))) (drop n (c ∷ cs)) (omega (arith, length-drop n (c ∷ cs))) (skips_one ks start q text (c ∷ cs) n found.piece so_far)
    at (Here k n some within is ends) further =
        further (ks ++ record { kind = k; at = q } ∷ []) (after q (take n (c ∷ cs))) (drop n (c ∷ cs)) (omega (arith, length-drop n (c ∷ cs)))
        (takes_one ks start q text (c ∷ cs) n k is ends so_far)
    at (Flawed code before flaw) further = inr (ks, q, c ∷ cs, code, before, so_far, flaw)

-- bytes that are no UTF-8 have a longest front that is; it is sought from the end
valid_up_to : (text : List ℕ) (n : ℕ) → n < length text → ((m : ℕ) → n < m → ¬ (IsUtf8 (take m text))) → (k : ℕ) × IsValidUpTo text k
valid_up_to text zero short longer = (0, record { short = short; front = IsUtf8-nil; longest = longer })
valid_up_to text (suc n) short longer = at (is_utf8 (take (suc n) text)) refl (valid_up_to text n (omega arith))
  where
    shorter : is_utf8 (take (suc n) text) ≡ false → (m : ℕ) → n < m → ¬ (IsUtf8 (take m text))
    shorter fails m lt valid =
        elim (cases_eq m (suc n)) [
          | inl same ↦ absurd (cc (fails, is_utf8-from_IsUtf8 (take (suc n) text) (subst (λ k. IsUtf8 (take k text)) same valid)))
          | inr other ↦ longer m (omega arith) valid
        ]

    at : (b : Bool) → is_utf8 (take (suc n) text) ≡ b → (((m : ℕ) → n < m → ¬ (IsUtf8 (take m text))) → (k : ℕ) × IsValidUpTo text k) → (k : ℕ) × IsValidUpTo text k
    at true passes before = (suc n, record { short = short; front = IsUtf8-from_is_utf8 (take (suc n) text) passes; longest = longer })
    at false fails before = before (shorter fails)

no_utf8 : (text : List ℕ) → is_utf8 text ≡ false → (k : ℕ) × IsValidUpTo text k
no_utf8 [] fails = absurd (cc (fails, is_utf8-from_IsUtf8 [] IsUtf8-nil))
no_utf8 (c ∷ cs) fails = valid_up_to (c ∷ cs) (length cs) (omega arith) whole
  where
    whole : (m : ℕ) → length cs < m → ¬ (IsUtf8 (take m (c ∷ cs)))
    whole m lt valid =
        let all : take m (c ∷ cs) ≡ c ∷ cs = take_all m (c ∷ cs) (omega arith) in
        absurd (cc (fails, is_utf8-from_IsUtf8 (c ∷ cs) (subst IsUtf8 all valid)))

-- each text has tokens or a refusal
pub lexes_or_refuses : (text : List ℕ) → ((tokens : List Token) × Lexes text tokens) ⊎ ((refusal : Refusal) × LexRefuses text refusal)
lexes_or_refuses text = sized (cases_lt longest_text (length text))
  where
    read : IsText text → Reading text → ((tokens : List Token) × Lexes text tokens) ⊎ ((refusal : Refusal) × LexRefuses text refusal)
    read is (inl (ks, q, reads)) = inl (ks ++ end_at q ∷ [], record { is_text = is; front = ks; end = q; reads = reads; tokens_are = refl })
    read is (inr (ks, q, rest, code, before, reads, flaw)) =
        inr (refusal_at code (after q before), inr (inr (record { is_text = is; front = ks; at = q; rest = rest; reads = reads; code = code; before = before; flaw = flaw; refusal_is = refl })))

    valid : (b : Bool) → length text ≤ longest_text → is_utf8 text ≡ b → ((tokens : List Token) × Lexes text tokens) ⊎ ((refusal : Refusal) × LexRefuses text refusal)
    valid true short passes = read (record { short = short; utf8 = IsUtf8-from_is_utf8 text passes }) (reading (length text) text [] start text (omega arith) ([], refl, tt, refl))
    valid false short fails =
        let v = no_utf8 text fails in
        inr (refusal_at NotText (after start (take v.0 text)), inr (inl (record { short = short; valid = v.0; first = v.1; refusal_is = refl })))

    sized : (longest_text < length text) ⊎ (length text ≤ longest_text) → ((tokens : List Token) × Lexes text tokens) ⊎ ((refusal : Refusal) × LexRefuses text refusal)
    sized (inl long) = inr (refusal_at NotText start, inl (long, refl))
    sized (inr short) = valid (is_utf8 text) short refl

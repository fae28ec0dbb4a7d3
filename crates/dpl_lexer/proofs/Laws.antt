-- A text has one list of tokens or one refusal at the most.
-- Two readings of one text agree as far as both can go.
use Rattle.std.proofs.Common.{◌≡◌, ◌≢◌, inl, inr, ℕ, ◌<◌, Bool, true, false, ◌||◌, List, [], ◌∷◌, ◌++◌, length, take, drop, Some, None, refl, sym, ap, subst, ◌∙◌, arith}
use Rattle.std.specs.Prelude.{IsUtf8}
use Rattle.std.specs.Str.{IsValidUpTo}
use Rattle.std.specs.List.{AllByRecursion}
use Rattle.dpl_syntax.specs.Tokens.{sign_text}
use Rattle.dpl_syntax.specs.Gaps.{is_space, next_is, opens_line, opens_block, opens_comment, after_comments, joined}
use Rattle.dpl_syntax.specs.Text.{is_quote, is_number, is_quoted, sticks, after_quote, between, well_escaped, number_value, IsToken, start, after, end_at, IsLexeme, Ends, Begins, Lexes, EndsOnce}
use Rattle.dpl_syntax.specs.Refused.{refusal_at, IsBadByte, IsUnended, IsBadEscape, IsNumberAt, IsFlaw, IsUnread, LexRefuses}
use Rattle.dpl_lexer.specs.Scan.{IsDark}
use Rattle.dpl_syntax.specs.declared.place.Place.{Place}
use Rattle.dpl_syntax.specs.declared.token.Sign.TheVariants.{Slash}
use Rattle.dpl_syntax.specs.declared.token.Kind.{Kind}
use Rattle.dpl_syntax.specs.declared.token.Kind.TheVariants.{End}
use Rattle.dpl_syntax.specs.declared.token.Token.{Token}
use Rattle.dpl_syntax.specs.declared.refusal.Code.{Code}
use Rattle.dpl_syntax.specs.declared.refusal.Code.TheVariants.{NotText}
use Rattle.dpl_syntax.specs.declared.refusal.Refusal.{Refusal}
use Rattle.dpl_lexer.proofs.ByteTests.{quote_no_space}
use Rattle.dpl_lexer.proofs.Gaps.{slash_first, block_opens_comment, both_open, same_gap}
use Rattle.dpl_lexer.proofs.Quotes.{quoted_left, same_quoted}
use Rattle.dpl_lexer.proofs.Sorts.{Beginning, Digital, Quoting, IsSort, quote_sort, number_sort, quoted_sort, one_sort, has_sort, of_sort}
use Rattle.dpl_lexer.proofs.Lexemes.{plain_sort, lexeme_token, number_lexeme, text_lexeme, same_kind, same_token}

or_false : (a b : Bool) → (a || b) ≡ false → (a ≡ false) × (b ≡ false)
or_false true b h = absurd cc
or_false false b h = (refl, h)

-- ---- where no reading goes on

-- neither a gap nor a token stands here
record Halts (rest : List ℕ) : Type 0 where
  dark : IsDark rest
  none : (k : Kind) (u more : List ℕ) → rest ≡ u ++ more → IsLexeme k u → Ends u more → ⊥

-- what begins with no comment, and with a byte that is no white space
plain_dark : (text : List ℕ) → next_is is_space text ≡ false → opens_comment text ≡ false → IsDark text
plain_dark text space plain =
    let p = or_false (opens_line text) (opens_block text) plain in
    record { no_space = space; no_line = p.0; no_block = λ opens. absurd (cc (opens, p.1)) }

sort_dark : (s : Beginning) (u more : List ℕ) → IsSort s u → next_is is_space (u ++ more) ≡ false
sort_dark s [] more a = absurd (omega (arith, a.some))
sort_dark s (c ∷ u) more a = a.dark

token_dark : (k : Kind) (u more : List ℕ) → IsLexeme k u → Ends u more → IsDark (u ++ more)
token_dark k u more is ends = let a = has_sort u (lexeme_token k u is) in plain_dark (u ++ more) (sort_dark a.sort_of u more a.is) ends.plain

halts_end : Halts []
halts_end = record { dark = plain_dark [] refl refl; none = λ k u more e is ends. no_token k u more e is }
  where
    no_token : (k : Kind) (u more : List ℕ) → [] ≡ u ++ more → IsLexeme k u → ⊥
    no_token k [] more e is = let a = has_sort [] (lexeme_token k [] is) in let some = a.is.some in absurd (omega arith)
    no_token k (c ∷ u) more e is = absurd cc

-- the number at the front is the token there
number_is : (k : Kind) (rest u more v left : List ℕ) → rest ≡ u ++ more → IsLexeme k u → Ends u more → IsNumberAt rest v left → (u ≡ v) × (more ≡ left)
number_is k rest u more v left e is ends at = same_token u more v left (lexeme_token k u is) (inr (inl at.number)) ends.longest at.longest (sym e ∙ at.is)

number_dark : (rest v left : List ℕ) → IsNumberAt rest v left → IsDark rest
number_dark rest v left at =
    let a = number_sort v at.number in
    subst IsDark (sym at.is) (plain_dark (v ++ left) (sort_dark Digital v left a) (plain_sort Digital v left a (λ same. absurd cc)))

-- a bad byte opens no comment, for / is a sign
bad_slash : (c : ℕ) (cs : List ℕ) → IsBadByte (c ∷ cs) → c ≡ 47 → ⊥
unfolding sign_text
bad_slash c cs bad same = bad.none (c ∷ []) cs refl (inr (inr (inr (Slash, ap (λ (x : ℕ). x ∷ []) same))))

bad_plain : (rest : List ℕ) → IsBadByte rest → opens_comment rest ≡ false
bad_plain rest bad = at rest bad (opens_comment rest) refl
  where
    at : (text : List ℕ) → IsBadByte text → (b : Bool) → opens_comment text ≡ b → b ≡ false
    at text bad false h = refl
    at [] bad true h = absurd cc
    at (c ∷ cs) bad true h = absurd (bad_slash c cs bad (slash_first c cs h))

halts_bad : (rest : List ℕ) → IsBadByte rest → Halts rest
halts_bad rest bad = record { dark = plain_dark rest bad.dark (bad_plain rest bad); none = λ k u more e is ends. bad.none u more e (lexeme_token k u is) }

block_space : (rest : List ℕ) → opens_block rest ≡ true → next_is is_space rest ≡ false
block_space [] h = absurd cc
block_space (c ∷ cs) h = ap is_space (slash_first c cs (block_opens_comment (c ∷ cs) h))

block_line : (rest : List ℕ) (b : Bool) → opens_block rest ≡ true → opens_line rest ≡ b → b ≡ false
block_line rest false h k = refl
block_line rest true h k = absurd (both_open rest k h)

halts_block : (rest : List ℕ) → opens_block rest ≡ true → after_comments 1 (drop 2 rest) ≡ None → Halts rest
halts_block rest opens unended = record {
  dark = record { no_space = block_space rest opens; no_line = block_line rest (opens_line rest) opens refl; no_block = λ _. unended };
  none = λ k u more e is ends. absurd (cc (ends.plain, ap opens_comment e, block_opens_comment rest opens));
}

quote_some : (q : ℕ) (cs : List ℕ) → is_quote q ≡ true → IsSort Quoting (q ∷ [])
quote_some q cs quote = record { some = omega arith; is = quote_sort q quote; dark = quote_no_space q quote }

-- no token stands at a quote that isn't ended
no_quoted : (q : ℕ) (cs u more : List ℕ) → is_quote q ≡ true → after_quote q cs ≡ None → q ∷ cs ≡ u ++ more → IsToken u → ⊥
no_quoted q cs u more quote unended e token = at u e (of_sort Quoting (q ∷ []) cs u more e (quote_some q cs quote) token)
  where
    at : (u : List ℕ) → q ∷ cs ≡ u ++ more → is_quoted u ≡ true → ⊥
    at [] e h = absurd cc
    at (r ∷ u) e h =
        let same : q ≡ r = cc in
        let others : cs ≡ u ++ more = cc in
        let ended : after_quote r (u ++ more) ≡ Some more = quoted_left (r ∷ u) more h in
        absurd (cc (unended, ended, ap (λ (x : ℕ). after_quote x cs) same, ap (after_quote r) others))

halts_quote : (rest : List ℕ) (q : ℕ) (cs : List ℕ) → rest ≡ q ∷ cs → is_quote q ≡ true → after_quote q cs ≡ None → Halts rest
halts_quote rest q cs is quote unended = record {
  dark = subst IsDark (sym is) (plain_dark (q ∷ cs) (quote_no_space q quote) (plain_sort Quoting (q ∷ []) cs (quote_some q cs quote) (λ same. absurd cc)));
  none = λ k u more e is' ends. no_quoted q cs u more quote unended (sym is ∙ e) (lexeme_token k u is');
}

halts_escape : (rest before : List ℕ) → IsBadEscape rest before → Halts rest
halts_escape rest before bad = record {
  dark =
      let a = quoted_sort bad.u bad.quoted in
      subst IsDark (sym bad.is) (plain_dark (bad.u ++ bad.rest) (sort_dark Quoting bad.u bad.rest a) (plain_sort Quoting bad.u bad.rest a (λ same. absurd cc)));
  none = no_token;
}
  where
    no_token : (k : Kind) (u more : List ℕ) → rest ≡ u ++ more → IsLexeme k u → Ends u more → ⊥
    no_token k u more e is ends =
        let whole : bad.u ++ bad.rest ≡ u ++ more = sym bad.is ∙ e in
        let quoted : is_quoted u ≡ true = of_sort Quoting bad.u bad.rest u more whole (quoted_sort bad.u bad.quoted) (lexeme_token k u is) in
        let same : bad.u ≡ u = same_quoted bad.u bad.rest u more whole bad.quoted quoted in
        bad.bad (subst (λ (l : List ℕ). well_escaped (between l) ≡ between l) (sym same) (text_lexeme k u quoted is))

halts_flaw : (rest before : List ℕ) (code : Code) → IsFlaw rest code before → Halts rest
halts_flaw rest before code (inl (_, _, bad)) = halts_bad rest bad
halts_flaw rest before code (inr (inl (_, _, inl (opens, unended)))) = halts_block rest opens unended
halts_flaw rest before code (inr (inl (_, _, inr (q, cs, is, quote, unended)))) = halts_quote rest q cs is quote unended
halts_flaw rest before code (inr (inr (inl (_, bad)))) = halts_escape rest before bad
halts_flaw rest before code (inr (inr (inr (inl (_, (left, at, next, small)))))) = record { dark = number_dark rest before left at; none = no_token }
  where
    no_token : (k : Kind) (u more : List ℕ) → rest ≡ u ++ more → IsLexeme k u → Ends u more → ⊥
    no_token k u more e is ends =
        let same = number_is k rest u more before left e is ends at in
        let free : next_is sticks more ≡ false = ends.free (ap is_number same.0 ∙ at.number) in
        absurd (cc (free, next, ap (next_is sticks) same.1))
halts_flaw rest before code (inr (inr (inr (inr (_, _, (v, left, at, large)))))) = record { dark = number_dark rest v left at; none = no_token }
  where
    no_token : (k : Kind) (u more : List ℕ) → rest ≡ u ++ more → IsLexeme k u → Ends u more → ⊥
    no_token k u more e is ends =
        let same = number_is k rest u more v left e is ends at in
        let small = number_lexeme k u (ap is_number same.0 ∙ at.number) is in
        absurd (omega (arith, ap number_value same.0))

-- ---- two readings

record IsSame (ks js : List Token) (q r : Place) (rest more : List ℕ) : Type 0 where
  tokens : ks ≡ js
  place : q ≡ r
  left : rest ≡ more

same_here : (k j : Token) → k.kind ≡ j.kind → k.at ≡ j.at → k ≡ j
same_here k j e f = ap (λ (x : Kind). record { kind = x; at = k.at }) e ∙ ap (λ (q : Place). record { kind = j.kind; at = q }) f

same_reading : (ks js : List Token) (p q r : Place) (text rest more : List ℕ) → Begins p text ks q rest → Begins p text js r more → Halts rest → Halts more → IsSame ks js q r rest more
same_reading [] [] p q r text rest more (g, eg, gs, qg) (h, eh, hs, rh) stop halt =
    let gap = same_gap g rest h more (sym eg ∙ eh) gs hs stop.dark halt.dark in
    record { tokens = refl; place = qg ∙ ap (λ (l : List (List ℕ)). after p (joined l)) gap.0 ∙ sym rh; left = gap.1 }
same_reading [] (j ∷ js) p q r text rest more (g, eg, gs, qg) (h, v, m, eh, hs, at, is, ends, b) stop halt =
    let gap = same_gap g rest h (v ++ m) (sym eg ∙ eh) gs hs stop.dark (token_dark j.kind v m is ends) in
    absurd (stop.none j.kind v m gap.1 is ends)
same_reading (k ∷ ks) [] p q r text rest more (g, u, m, eg, gs, at, is, ends, b) (h, eh, hs, rh) stop halt =
    let gap = same_gap h more g (u ++ m) (sym eh ∙ eg) hs gs halt.dark (token_dark k.kind u m is ends) in
    absurd (halt.none k.kind u m gap.1 is ends)
same_reading (k ∷ ks) (j ∷ js) p q r text rest more (g, u, m, eg, gs, kat, kis, kends, kb) (h, v, n, eh, hs, jat, jis, jends, jb) stop halt =
    let gap = same_gap g (u ++ m) h (v ++ n) (sym eg ∙ eh) gs hs (token_dark k.kind u m kis kends) (token_dark j.kind v n jis jends) in
    let token = same_token u m v n (lexeme_token k.kind u kis) (lexeme_token j.kind v jis) kends.longest jends.longest gap.1 in
    let kind : k.kind ≡ j.kind = same_kind k.kind j.kind v (subst (IsLexeme k.kind) token.0 kis) jis in
    let gone : joined g ≡ joined h = ap joined gap.0 in
    let first : k ≡ j = same_here k j kind (kat ∙ ap (after p) gone ∙ sym jat) in
    let used : joined h ++ v ≡ joined g ++ u = cc (gone, token.0) in
    let moved : Begins (after p (joined g ++ u)) n js r more = subst (λ (l : List ℕ). Begins (after p l) n js r more) used jb in
    let here : Begins (after p (joined g ++ u)) m js r more = subst (λ (l : List ℕ). Begins (after p (joined g ++ u)) l js r more) (sym token.1) moved in
    let ih = same_reading ks js (after p (joined g ++ u)) q r m rest more kb here stop halt in
    record { tokens = cc (first, ih.tokens); place = ih.place; left = ih.left }

-- a text has one list of tokens at the most
pub lexes_once : (text : List ℕ) (ks js : List Token) → Lexes text ks → Lexes text js → ks ≡ js
lexes_once text ks js a b =
    let same = same_reading a.front b.front start a.end b.end text [] [] a.reads b.reads halts_end halts_end in
    a.tokens_are ∙ ap (λ (l : List Token). l ++ end_at a.end ∷ []) same.tokens ∙ ap (λ (q : Place). b.front ++ end_at q ∷ []) same.place ∙ sym b.tokens_are

-- ---- the end

no_end : (ks : List Token) (p q : Place) (text rest : List ℕ) → Begins p text ks q rest → AllByRecursion (λ k. k.kind ≢ End) ks
no_end [] p q text rest h = tt
no_end (k ∷ ks) p q text rest (g, u, m, e, gs, at, is, ends, h) = (λ end. subst (λ (j : Kind). IsLexeme j u) end is, no_end ks (after p (joined g ++ u)) q m rest h)

-- the end is the last token and no other
pub lexes_ends : (text : List ℕ) (ks : List Token) → Lexes text ks → EndsOnce ks
lexes_ends text ks h = record { front = h.front; end = h.end; is = h.tokens_are; no_other = no_end h.front start h.end text [] h.reads }

-- ---- refusals

-- nothing of a sort stands at the end
no_sort : (s : Beginning) (u more : List ℕ) → IsSort s u → [] ≡ u ++ more → ⊥
no_sort s [] more a e = absurd (omega (arith, a.some))
no_sort s (c ∷ u) more a e = absurd cc

utf8_valid : (text : List ℕ) (n : ℕ) → IsUtf8 text → IsValidUpTo text n → ⊥
utf8_valid text n is valid = valid.longest (length text) valid.short (subst IsUtf8 (sym (take-all text)) is)
  where
    take-all : (l : List ℕ) → take (length l) l ≡ l
    take-all [] = refl
    take-all (c ∷ l) = ap (λ (m : List ℕ). c ∷ m) (take-all l)

valid_once : (text : List ℕ) (m n : ℕ) → IsValidUpTo text m → IsValidUpTo text n → m ≡ n
valid_once text m n a b =
    let above : m < n → ⊥ = λ lt. a.longest n lt b.front in
    let below : n < m → ⊥ = λ lt. b.longest m lt a.front in
    omega arith

flaw_no_end : (before : List ℕ) (code : Code) → IsFlaw [] code before → ⊥
flaw_no_end before code (inl (_, _, bad)) = let some = bad.some in absurd (omega arith)
flaw_no_end before code (inr (inl (_, _, inl (opens, _)))) = absurd cc
flaw_no_end before code (inr (inl (_, _, inr (q, cs, is, _, _)))) = absurd cc
flaw_no_end before code (inr (inr (inl (_, bad)))) = no_sort Quoting bad.u bad.rest (quoted_sort bad.u bad.quoted) bad.is
flaw_no_end before code (inr (inr (inr (inl (_, (left, at, next, small)))))) = no_sort Digital before left (number_sort before at.number) at.is
flaw_no_end before code (inr (inr (inr (inr (_, _, (v, left, at, large)))))) = no_sort Digital v left (number_sort v at.number) at.is

same_number : (rest u more v left : List ℕ) → IsNumberAt rest u more → IsNumberAt rest v left → u ≡ v
same_number rest u more v left a b = (same_token u more v left (inr (inl a.number)) (inr (inl b.number)) a.longest b.longest (sym a.is ∙ b.is)).0

-- a comment or a text that isn't ended begins no text with a bad escape, and no number
unended_no_quoted : (rest u more : List ℕ) → IsUnended rest → rest ≡ u ++ more → is_quoted u ≡ true → ⊥
unended_no_quoted rest u more (inl (opens, _)) e quoted =
    let plain = plain_sort Quoting u more (quoted_sort u quoted) (λ same. absurd cc) in
    absurd (cc (plain, ap opens_comment e, block_opens_comment rest opens))
unended_no_quoted rest u more (inr (q, cs, is, quote, unended)) e quoted = no_quoted q cs u more quote unended (sym is ∙ e) (inr (inr (inl quoted)))

unended_no_number : (rest v left : List ℕ) → IsUnended rest → IsNumberAt rest v left → ⊥
unended_no_number rest v left (inl (opens, _)) at =
    let plain = plain_sort Digital v left (number_sort v at.number) (λ same. absurd cc) in
    absurd (cc (plain, ap opens_comment at.is, block_opens_comment rest opens))
unended_no_number rest v left (inr (q, cs, is, quote, unended)) at = no_quoted q cs v left quote unended (sym is ∙ at.is) (inr (inl at.number))

quoted_no_number : (rest u more v left : List ℕ) → rest ≡ u ++ more → is_quoted u ≡ true → IsNumberAt rest v left → ⊥
quoted_no_number rest u more v left e quoted at =
    let same : Quoting ≡ Digital = one_sort Quoting Digital u more v left (sym e ∙ at.is) (quoted_sort u quoted) (number_sort v at.number) in
    absurd cc

same_escape : (rest b e : List ℕ) → IsBadEscape rest b → IsBadEscape rest e → b ≡ e
same_escape rest b e p q =
    let same : p.u ≡ q.u = same_quoted p.u p.rest q.u q.rest (sym p.is ∙ q.is) p.quoted q.quoted in
    p.before_is ∙ ap (λ (l : List ℕ). take 1 l ++ well_escaped (between l)) same ∙ sym q.before_is

flaw_once : (rest b e : List ℕ) (c d : Code) → IsFlaw rest c b → IsFlaw rest d e → (c ≡ d) × (b ≡ e)
flaw_once rest b e c d (inl (p, q, _)) (inl (r, s, _)) = (p ∙ sym r, q ∙ sym s)
flaw_once rest b e c d (inl (p, q, _)) (inr (inl (r, s, _))) = (p ∙ sym r, q ∙ sym s)
flaw_once rest b e c d (inl (_, _, bad)) (inr (inr (inl (_, k)))) = absurd (bad.none k.u k.rest k.is (inr (inr (inl k.quoted))))
flaw_once rest b e c d (inl (_, _, bad)) (inr (inr (inr (inl (_, (left, at, _, _)))))) = absurd (bad.none e left at.is (inr (inl at.number)))
flaw_once rest b e c d (inl (_, _, bad)) (inr (inr (inr (inr (_, _, (v, left, at, _)))))) = absurd (bad.none v left at.is (inr (inl at.number)))
flaw_once rest b e c d (inr (inl (p, q, _))) (inl (r, s, _)) = (p ∙ sym r, q ∙ sym s)
flaw_once rest b e c d (inr (inl (p, q, _))) (inr (inl (r, s, _))) = (p ∙ sym r, q ∙ sym s)
flaw_once rest b e c d (inr (inl (_, _, h))) (inr (inr (inl (_, k)))) = absurd (unended_no_quoted rest k.u k.rest h k.is k.quoted)
flaw_once rest b e c d (inr (inl (_, _, h))) (inr (inr (inr (inl (_, (left, at, _, _)))))) = absurd (unended_no_number rest e left h at)
flaw_once rest b e c d (inr (inl (_, _, h))) (inr (inr (inr (inr (_, _, (v, left, at, _)))))) = absurd (unended_no_number rest v left h at)
flaw_once rest b e c d (inr (inr (inl (_, k)))) (inl (_, _, bad)) = absurd (bad.none k.u k.rest k.is (inr (inr (inl k.quoted))))
flaw_once rest b e c d (inr (inr (inl (_, k)))) (inr (inl (_, _, h))) = absurd (unended_no_quoted rest k.u k.rest h k.is k.quoted)
flaw_once rest b e c d (inr (inr (inl (p, k)))) (inr (inr (inl (r, l)))) = (p ∙ sym r, same_escape rest b e k l)
flaw_once rest b e c d (inr (inr (inl (_, k)))) (inr (inr (inr (inl (_, (left, at, _, _)))))) = absurd (quoted_no_number rest k.u k.rest e left k.is k.quoted at)
flaw_once rest b e c d (inr (inr (inl (_, k)))) (inr (inr (inr (inr (_, _, (v, left, at, _)))))) = absurd (quoted_no_number rest k.u k.rest v left k.is k.quoted at)
flaw_once rest b e c d (inr (inr (inr (inl (_, (left, at, _, _)))))) (inl (_, _, bad)) = absurd (bad.none b left at.is (inr (inl at.number)))
flaw_once rest b e c d (inr (inr (inr (inl (_, (left, at, _, _)))))) (inr (inl (_, _, h))) = absurd (unended_no_number rest b left h at)
flaw_once rest b e c d (inr (inr (inr (inl (_, (left, at, _, _)))))) (inr (inr (inl (_, k)))) = absurd (quoted_no_number rest k.u k.rest b left k.is k.quoted at)
flaw_once rest b e c d (inr (inr (inr (inl (p, (left, at, _, _)))))) (inr (inr (inr (inl (r, (more, here, _, _)))))) = (p ∙ sym r, same_number rest b left e more at here)
flaw_once rest b e c d (inr (inr (inr (inl (_, (left, at, _, small)))))) (inr (inr (inr (inr (_, _, (v, more, here, large)))))) = absurd (omega (arith, ap number_value (same_number rest b left v more at here)))
flaw_once rest b e c d (inr (inr (inr (inr (_, _, (v, left, at, _)))))) (inl (_, _, bad)) = absurd (bad.none v left at.is (inr (inl at.number)))
flaw_once rest b e c d (inr (inr (inr (inr (_, _, (v, left, at, _)))))) (inr (inl (_, _, h))) = absurd (unended_no_number rest v left h at)
flaw_once rest b e c d (inr (inr (inr (inr (_, _, (v, left, at, _)))))) (inr (inr (inl (_, k)))) = absurd (quoted_no_number rest k.u k.rest v left k.is k.quoted at)
flaw_once rest b e c d (inr (inr (inr (inr (_, _, (v, more, here, large)))))) (inr (inr (inr (inl (_, (left, at, _, small)))))) = absurd (omega (arith, ap number_value (same_number rest e left v more at here)))
flaw_once rest b e c d (inr (inr (inr (inr (p, q, _))))) (inr (inr (inr (inr (r, s, _))))) = (p ∙ sym r, q ∙ sym s)

-- a text with tokens isn't refused
pub lexes_unrefused : (text : List ℕ) (ks : List Token) (refusal : Refusal) → Lexes text ks → LexRefuses text refusal → ⊥
lexes_unrefused text ks refusal a (inl (long, _)) = let short = a.is_text.short in absurd (omega arith)
lexes_unrefused text ks refusal a (inr (inl b)) = utf8_valid text b.valid a.is_text.utf8 b.first
lexes_unrefused text ks refusal a (inr (inr b)) =
    let same = same_reading a.front b.front start a.end b.at text [] b.rest a.reads b.reads halts_end (halts_flaw b.rest b.before b.code b.flaw) in
    flaw_no_end b.before b.code (subst (λ (l : List ℕ). IsFlaw l b.code b.before) (sym same.left) b.flaw)

unread_once : (text : List ℕ) (r s : Refusal) → IsUnread text r → IsUnread text s → r ≡ s
unread_once text r s a b =
    let same = same_reading a.front b.front start a.at b.at text a.rest b.rest a.reads b.reads (halts_flaw a.rest a.before a.code a.flaw) (halts_flaw b.rest b.before b.code b.flaw) in
    let flaw = flaw_once b.rest a.before b.before a.code b.code (subst (λ (l : List ℕ). IsFlaw l a.code a.before) same.left a.flaw) b.flaw in
    a.refusal_is
    ∙ ap (λ (c : Code). refusal_at c (after a.at a.before)) flaw.0
    ∙ ap (λ (q : Place). refusal_at b.code (after q a.before)) same.place
    ∙ ap (λ (l : List ℕ). refusal_at b.code (after b.at l)) flaw.1
    ∙ sym b.refusal_is

-- a text has one refusal at the most
pub refuses_once : (text : List ℕ) (r s : Refusal) → LexRefuses text r → LexRefuses text s → r ≡ s
refuses_once text r s (inl (_, e)) (inl (_, f)) = e ∙ sym f
refuses_once text r s (inl (long, _)) (inr (inl b)) = let short = b.short in absurd (omega arith)
refuses_once text r s (inl (long, _)) (inr (inr b)) = let short = b.is_text.short in absurd (omega arith)
refuses_once text r s (inr (inl a)) (inl (long, _)) = let short = a.short in absurd (omega arith)
refuses_once text r s (inr (inl a)) (inr (inl b)) =
    a.refusal_is ∙ ap (λ (n : ℕ). refusal_at NotText (after start (take n text))) (valid_once text a.valid b.valid a.first b.first) ∙ sym b.refusal_is
refuses_once text r s (inr (inl a)) (inr (inr b)) = absurd (utf8_valid text a.valid b.is_text.utf8 a.first)
refuses_once text r s (inr (inr a)) (inl (long, _)) = let short = a.is_text.short in absurd (omega arith)
refuses_once text r s (inr (inr a)) (inr (inl b)) = absurd (utf8_valid text b.valid a.is_text.utf8 b.first)
refuses_once text r s (inr (inr a)) (inr (inr b)) = unread_once text r s a b

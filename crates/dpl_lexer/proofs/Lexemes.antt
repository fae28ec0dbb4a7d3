-- One token: what ends where it should is the longest, and no other token stands there.
use Rattle.std.proofs.Common.{◌≡◌, ◌≢◌, inl, inr, ℕ, pos, ◌≤◌, Bool, true, false, cond, List, [], ◌∷◌, ◌++◌, length, refl, sym, ap, ◌∙◌, arith}
use Rattle.std.specs.Prelude.{bytes_eq}
use Rattle.std.proofs.lemmas.Bool.{and_parts}
use Rattle.dpl_syntax.specs.Tokens.{keyword_text, contextual_text, sign_text}
use Rattle.dpl_syntax.specs.Gaps.{all_are, next_is, opens_comment}
use Rattle.dpl_syntax.specs.Text.{is_letter, goes_on, is_word, is_number, is_quoted, between, well_escaped, number_value, greatest, IsToken, Longest, IsLexeme}
use Rattle.dpl_lexer.specs.Scan.{special_text}
use Rattle.dpl_syntax.specs.declared.token.Keyword.{Keyword}
use Rattle.dpl_syntax.specs.declared.token.Contextual.{Contextual}
use Rattle.dpl_syntax.specs.declared.token.Sign.{Sign}
use Rattle.dpl_syntax.specs.declared.token.Kind.{Kind}
use Rattle.dpl_syntax.specs.declared.token.Kind.TheVariants.{Name, Contextual as ContextualKind, Number, Text, Keyword as Reserved, Sign as Signed, End}
use Rattle.dpl_lexer.specs.declared.keyword.Special.{Special}
use Rattle.dpl_lexer.specs.declared.keyword.Special.TheVariants.{Keyword as KeywordWord, Contextual as ContextualWord}
use Rattle.dpl_lexer.specs.declared.keyword.TheConstants.{SPECIALS}
use Rattle.dpl_lexer.proofs.ByteTests.{no_further, bytes_eq-same, bytes_eq-true}
use Rattle.dpl_lexer.proofs.Fronts.{same_split}
use Rattle.dpl_lexer.proofs.Gaps.{slash_first}
use Rattle.dpl_lexer.proofs.Quotes.{same_quoted}
use Rattle.dpl_lexer.proofs.Specials.{special_text-word, first_of_text, read}
use Rattle.dpl_lexer.proofs.Signs.{all as all_signs, first_of_text as sign_of, read as read_sign}
use Rattle.dpl_lexer.proofs.Sorts.{Beginning, Wordy, Digital, Quoting, Other, sort, IsSort, word_sort, number_sort, quoted_sort, sign_sort, one_sort, of_sort}

-- ---- what can't go on is the longest

pub word_longest : (u rest : List ℕ) → is_word u ≡ true → next_is goes_on rest ≡ false → Longest u rest
word_longest [] rest h stop v w e token = absurd cc
word_longest (c ∷ cs) rest h stop v w e token = at v e (of_sort Wordy (c ∷ cs) rest v w e (word_sort (c ∷ cs) h) token)
  where
    at : (v : List ℕ) → c ∷ cs ++ rest ≡ v ++ w → is_word v ≡ true → length v ≤ length (c ∷ cs)
    at [] e word = omega arith
    at (d ∷ v) e word =
        let others : cs ++ rest ≡ v ++ w = cc in
        let le = no_further goes_on cs rest v w stop ((and_parts (is_letter d) (all_are goes_on v) word).1) others in
        omega (arith, le)

pub quoted_longest : (u rest : List ℕ) → is_quoted u ≡ true → Longest u rest
quoted_longest u rest h v w e token =
    let same : u ≡ v = same_quoted u rest v w e h (of_sort Quoting u rest v w e (quoted_sort u h) token) in
    omega (arith, ap (length {A = ℕ}) same)

-- a sign is the longest token where it is the longest sign
pub sign_longest : (s : Sign) (rest : List ℕ) → ((t : Sign) (w : List ℕ) → sign_text s ++ rest ≡ sign_text t ++ w → length (sign_text t) ≤ length (sign_text s)) → Longest (sign_text s) rest
sign_longest s rest most v w e token =
    let t = of_sort Other (sign_text s) rest v w e (sign_sort s (sign_text s) refl) token in
    let le = most t.0 w (e ∙ ap (λ (l : List ℕ). l ++ w) t.1) in
    omega (arith, ap (length {A = ℕ}) t.1, le)

-- no comment opens where a word, a number or a text does
pub plain_sort : (s : Beginning) (u rest : List ℕ) → IsSort s u → (s ≡ Other → ⊥) → opens_comment (u ++ rest) ≡ false
plain_sort s [] rest a other = absurd (omega (arith, a.some))
plain_sort s (c ∷ u) rest a other = at (opens_comment (c ∷ u ++ rest)) refl
  where
    at : (b : Bool) → opens_comment (c ∷ u ++ rest) ≡ b → b ≡ false
    at false h = refl
    at true h = absurd (other (sym a.is ∙ ap sort (slash_first c (u ++ rest) h)))

-- ---- one kind of token

pub keyword_word : (k : Keyword) (u : List ℕ) → u ≡ keyword_text k → is_word u ≡ true
keyword_word k u e = ap is_word e ∙ special_text-word (KeywordWord k)

pub contextual_word : (w : Contextual) (u : List ℕ) → u ≡ contextual_text w → is_word u ≡ true
contextual_word w u e = ap is_word e ∙ special_text-word (ContextualWord w)

pub lexeme_token : (k : Kind) (u : List ℕ) → IsLexeme k u → IsToken u
lexeme_token (Name text) u (e, word, _, _) = inl word
lexeme_token (ContextualKind w) u e = inl (contextual_word w u e)
lexeme_token (Number n) u (e, number, small) = inr (inl number)
lexeme_token (Text text) u (e, quoted, _) = inr (inr (inl quoted))
lexeme_token (Reserved k) u e = inl (keyword_word k u e)
lexeme_token (Signed s) u e = inr (inr (inr (s, e)))
lexeme_token End u h = absurd h

abbrev sort_of : Kind → Beginning
sort_of (Name text) = Wordy
sort_of (ContextualKind w) = Wordy
sort_of (Number n) = Digital
sort_of (Text text) = Quoting
sort_of (Reserved k) = Wordy
sort_of (Signed s) = Other
sort_of End = Other

pub lexeme_sort : (k : Kind) (u : List ℕ) → IsLexeme k u → IsSort (sort_of k) u
lexeme_sort (Name text) u (e, word, _, _) = word_sort u word
lexeme_sort (ContextualKind w) u e = word_sort u (contextual_word w u e)
lexeme_sort (Number n) u (e, number, small) = number_sort u number
lexeme_sort (Text text) u (e, quoted, _) = quoted_sort u quoted
lexeme_sort (Reserved k) u e = word_sort u (keyword_word k u e)
lexeme_sort (Signed s) u e = sign_sort s u e
lexeme_sort End u h = absurd h

-- the kind of a word that is looked up
abbrev special_kind : Special → Kind
special_kind (KeywordWord k) = Reserved k
special_kind (ContextualWord w) = ContextualKind w

abbrev word_kind : List ℕ → Kind
word_kind u = cond (bytes_eq (special_text (first_of_text SPECIALS u)) u) (special_kind (first_of_text SPECIALS u)) (Name u)

-- the kind of token that bytes of a sort are
abbrev kind_at : Beginning → List ℕ → Kind
kind_at Wordy u = word_kind u
kind_at Digital u = Number (pos (number_value u))
kind_at Quoting u = Text (between u)
kind_at Other u = Signed (sign_of all_signs u)

special_is : (s : Special) (u : List ℕ) → u ≡ special_text s → special_kind s ≡ word_kind u
special_is s u e =
    let found : first_of_text SPECIALS u ≡ s = ap (first_of_text SPECIALS) e ∙ read s in
    let text : special_text (first_of_text SPECIALS u) ≡ u = ap special_text found ∙ sym e in
    let same : bytes_eq (special_text (first_of_text SPECIALS u)) u ≡ true = bytes_eq-same (special_text (first_of_text SPECIALS u)) u text in
    rw same (ap special_kind (sym found))

name_is : (u : List ℕ) (b : Bool) → bytes_eq (special_text (first_of_text SPECIALS u)) u ≡ b → ((s : Special) → u ≢ special_text s) → Name u ≡ word_kind u
name_is u true h free = absurd (free (first_of_text SPECIALS u) (sym (bytes_eq-true (special_text (first_of_text SPECIALS u)) u h)))
name_is u false h free = rw h refl

free_special : (u : List ℕ) → ((k : Keyword) → u ≢ keyword_text k) → ((w : Contextual) → u ≢ contextual_text w) → (s : Special) → u ≢ special_text s
free_special u no_keyword no_contextual (KeywordWord k) = no_keyword k
free_special u no_keyword no_contextual (ContextualWord w) = no_contextual w

kind_is : (k : Kind) (u : List ℕ) → IsLexeme k u → k ≡ kind_at (sort_of k) u
kind_is (Name text) u (e, word, no_keyword, no_contextual) = ap Name e ∙ name_is u (bytes_eq (special_text (first_of_text SPECIALS u)) u) refl (free_special u no_keyword no_contextual)
kind_is (ContextualKind w) u e = special_is (ContextualWord w) u e
kind_is (Number n) u (e, _, _) = ap Number e
kind_is (Text text) u (e, _, _) = ap Text e
kind_is (Reserved k) u e = special_is (KeywordWord k) u e
kind_is (Signed s) u e = ap Signed (sym (ap (sign_of all_signs) e ∙ read_sign s))
kind_is End u h = absurd h

-- the same bytes are one kind of token
pub same_kind : (j k : Kind) (u : List ℕ) → IsLexeme j u → IsLexeme k u → j ≡ k
same_kind j k u h l =
    kind_is j u h ∙ ap (λ (s : Beginning). kind_at s u) (one_sort (sort_of j) (sort_of k) u [] u [] refl (lexeme_sort j u h) (lexeme_sort k u l)) ∙ sym (kind_is k u l)

-- a number's bytes are no other token's
pub number_lexeme : (k : Kind) (u : List ℕ) → is_number u ≡ true → IsLexeme k u → number_value u ≤ greatest
number_lexeme k u number is = at k is (one_sort Digital (sort_of k) u [] u [] refl (number_sort u number) (lexeme_sort k u is))
  where
    at : (k : Kind) → IsLexeme k u → Digital ≡ sort_of k → number_value u ≤ greatest
    at (Name text) h same = absurd cc
    at (ContextualKind w) h same = absurd cc
    at (Number n) (e, is, small) same = small
    at (Text text) h same = absurd cc
    at (Reserved k) h same = absurd cc
    at (Signed s) h same = absurd cc
    at End h same = absurd h

-- the escapes of a text that is a token are good
pub text_lexeme : (k : Kind) (u : List ℕ) → is_quoted u ≡ true → IsLexeme k u → well_escaped (between u) ≡ between u
text_lexeme k u quoted is = at k is (one_sort Quoting (sort_of k) u [] u [] refl (quoted_sort u quoted) (lexeme_sort k u is))
  where
    at : (k : Kind) → IsLexeme k u → Quoting ≡ sort_of k → well_escaped (between u) ≡ between u
    at (Name text) h same = absurd cc
    at (ContextualKind w) h same = absurd cc
    at (Number n) h same = absurd cc
    at (Text text) (e, _, good) same = rw (← e) good
    at (Reserved k) h same = absurd cc
    at (Signed s) h same = absurd cc
    at End h same = absurd h

-- two longest tokens at one place are the same
pub same_token : (u rest v w : List ℕ) → IsToken u → IsToken v → Longest u rest → Longest v w → u ++ rest ≡ v ++ w → (u ≡ v) × (rest ≡ w)
same_token u rest v w hu hv lu lv e =
    let le : length v ≤ length u = lu v w e hv in
    let ge : length u ≤ length v = lv u rest (sym e) hu in
    same_split u rest v w e (omega arith)

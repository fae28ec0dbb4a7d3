-- Texts that are too long or no UTF-8, L1; and the lines that tell refusals.
-- A row of bytes has what is left to compute in a lemma above it.
use Rattle.std.proofs.Common.{◌≡◌, inl, inr, ℕ, zero, suc, ◌+◌, ◌≤◌, true, false, List, [], ◌∷◌, ◌++◌, map, replicate, length, take, Some, None, refl, sym, ap, subst, ◌∙◌, arith}
use Rattle.std.specs.Prelude.{codes}
use Rattle.std.specs.Str.{is_utf8, chars, IsUtf8}
use Rattle.std.specs.Fmt.{digits}
use Rattle.std.proofs.lemmas.Str.{IsUtf8-from_is_utf8, is_utf8-from_IsUtf8}
use Rattle.std.proofs.Padding.{replicate-IsUtf8}
use Rattle.std.proofs.lemmas.List.{take_all, append-nil, length-replicate}
use Rattle.dpl_syntax.specs.Gaps.{joined, IsGap}
use Rattle.dpl_syntax.specs.Text.{longest_text, start, after, end_at, Lexes}
use Rattle.dpl_syntax.specs.Refused.{refusal_at, LexRefuses}
use Rattle.dpl_syntax.specs.Lines.{code_text, refusal_text}
use Rattle.dpl_syntax.specs.declared.place.Place.{Place}
use Rattle.dpl_syntax.specs.declared.refusal.Code.TheVariants.{NotText, BadCharacter, NumberTooLarge, Unexpected, TooDeep, UnknownName, NameTwice, WrongType, ConstantWritten, WrongRank, WrittenElsewhere, ReadElsewhere, OuterChanged, NotInForall, NotInCoforall, CellMisused, TooMany, BadSet}
use Rattle.dpl_says.specs.Says.{Refused, ComesTo}
use Rattle.dpl_worked.proofs.Texts.{told_refused, by_text}

abbrev place : ℕ → ℕ → Place
place line column = record { line = line; column = column }

-- ---- L1 at the first byte that begins no character, here the last one

last_byte : (text : List ℕ) (n : ℕ) → length text ≡ suc n → length text ≤ longest_text → is_utf8 (take n text) ≡ true → is_utf8 text ≡ false
    → LexRefuses text (refusal_at NotText (after start (take n text)))
last_byte text n long short front fails = inr (inl (record {
  short = short;
  valid = n;
  first = record {
    short = omega (arith, long);
    front = IsUtf8-from_is_utf8 (take n text) front;
    longest = λ m lt valid. absurd (cc (fails, is_utf8-from_IsUtf8 text (subst IsUtf8 (take_all m text (omega (arith, long, lt))) valid)));
  };
  refusal_is = refl;
}))

-- on line 2
no_character : LexRefuses (codes "var\n x" ++ 128 ∷ []) (refusal_at NotText (place 2 3))
unfolding is_utf8 chars lib.Utf8.encode
no_character = last_byte (codes "var\n x" ++ 128 ∷ []) 6 refl (omega arith) refl refl

-- a character that the text's end cuts off
cut_off : LexRefuses (39 ∷ 195 ∷ []) (refusal_at NotText (place 1 2))
unfolding is_utf8 chars lib.Utf8.encode
cut_off = last_byte (39 ∷ 195 ∷ []) 1 refl (omega arith) refl refl

-- it is told before a bad character that stands before it
before_all_else : LexRefuses (codes "@" ++ 255 ∷ []) (refusal_at NotText (place 1 2))
unfolding is_utf8 chars lib.Utf8.encode
before_all_else = last_byte (codes "@" ++ 255 ∷ []) 1 refl (omega arith) refl refl

-- ---- L1 of a text that is too long, whatever its bytes

too_long : (text : List ℕ) → length text ≡ 1048577 → LexRefuses text (refusal_at NotText (place 1 1))
too_long text long = inl (omega (arith, long), refl)

spaces : ℕ → List ℕ
spaces n = replicate n 32

spaces_gap : (n : ℕ) → (gap : List (List ℕ)) × (spaces n ≡ joined gap) × IsGap gap []
unfolding spaces
spaces_gap zero = ([], refl, tt)
spaces_gap (suc n) =
    let r = spaces_gap n in
    ((32 ∷ []) ∷ r.0, ap (λ (l : List ℕ). 32 ∷ l) r.1, (inl (32, refl, refl), r.2))

spaces_after : (n column : ℕ) → after (place 1 column) (spaces n) ≡ place 1 (column + n)
unfolding spaces
spaces_after zero column = ap (λ c. place 1 c) (omega arith)
spaces_after (suc n) column = spaces_after n (column + 1) ∙ ap (λ c. place 1 c) (omega arith)

spaces_utf8 : (n : ℕ) → IsUtf8 (spaces n)
unfolding spaces
spaces_utf8 n = replicate-IsUtf8 n 32 (omega arith)

spaces_lexed : (n : ℕ) → n ≤ longest_text → Lexes (spaces n) (end_at (place 1 (1 + n)) ∷ [])
unfolding spaces
spaces_lexed n short =
    let gap = spaces_gap n in
    record {
      is_text = record { short = omega (arith, short, length-replicate {A = ℕ} n 32); utf8 = spaces_utf8 n };
      front = [];
      end = place 1 (1 + n);
      reads = (gap.0, gap.1 ∙ sym (append-nil (joined gap.0)), gap.2, sym (spaces_after n 1) ∙ ap (λ l. after start l) gap.1);
      tokens_are = refl;
    }

-- as many bytes as may be
long_enough : Lexes (spaces 1048576) (end_at (place 1 1048577) ∷ [])
long_enough = spaces_lexed 1048576 (omega arith)

-- ---- lines of refusals

each_code :
    map code_text (NotText ∷ BadCharacter ∷ NumberTooLarge ∷ Unexpected ∷ TooDeep ∷ UnknownName ∷ NameTwice ∷ WrongType ∷ ConstantWritten
    ∷ WrongRank ∷ WrittenElsewhere ∷ ReadElsewhere ∷ OuterChanged ∷ NotInForall ∷ NotInCoforall ∷ CellMisused ∷ TooMany ∷ BadSet ∷ [])
    ≡ codes "L1" ∷ codes "L2" ∷ codes "L3" ∷ codes "P1" ∷ codes "P2" ∷ codes "C1" ∷ codes "C2" ∷ codes "C3" ∷ codes "C4"
    ∷ codes "C5" ∷ codes "C6" ∷ codes "C7" ∷ codes "C8" ∷ codes "C9" ∷ codes "C10" ∷ codes "C12" ∷ codes "C13" ∷ codes "C14" ∷ []
each_code = refl

a_line : refusal_text (record { code = NotInCoforall; place = Some (place 12 345) }) ≡ codes "! C10 at 12:345"
unfolding digits
a_line = refl

no_place : refusal_text (record { code = BadSet; place = None }) ≡ codes "! C14"
no_place = refl

-- the line, which is ended, is all that a refused text says
cut_short : ComesTo [] (codes "writeln(1") [] (record { budget = 16777216; locales = 1 }) [] (Refused (refusal_at Unexpected (place 1 10))) (codes "! P1 at 1:10\n")
unfolding by_text digits
cut_short = inl (refusal_at Unexpected (place 1 10), told_refused (codes "writeln(1") (refusal_at Unexpected (place 1 10)) refl, refl, refl)

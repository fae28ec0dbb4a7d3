-- Where the tokens of a text stand: no token's line or column is greater than the length of the text and one more.
-- A byte begins a line, or takes one column.
use Rattle.std.proofs.Common.{◌≡◌, ℕ, suc, ◌+◌, ◌≤◌, Bool, true, false, ◌==◌, if◌then◌else◌, List, [], ◌∷◌, ◌++◌, length, sym, ap, ◌∙◌, subst, arith, length-append, append_assoc}
use Rattle.dpl_syntax.specs.declared.place.Place.{Place}
use Rattle.dpl_syntax.specs.declared.token.Token.{Token}
use Rattle.dpl_syntax.specs.Gaps.{joined}
use Rattle.dpl_syntax.specs.Text.{after_byte, after, start, Begins, longest_text, end_at, Lexes}
use Rattle.dpl_syntax.specs.Places.{IsWithin, AllWithin}

-- so many further bytes stay within a bound
abbrev Reaches : ℕ → ℕ → Place → Type 0
Reaches most n p = (p.line + n ≤ most) × (p.column + n ≤ most)

byte_reaches : (most n c : ℕ) (p : Place) → Reaches most (suc n) p → Reaches most n (after_byte p c)
byte_reaches most n c p h = by (c == 10)
  where
    by : (b : Bool) → Reaches most n (if b then record { line = p.line + 1; column = 1 } else record { line = p.line; column = p.column + 1 })
    by true = (omega (arith, h.0), omega (arith, h.1))
    by false = (omega (arith, h.0), omega (arith, h.1))

after_reaches : (most n : ℕ) (u : List ℕ) (p : Place) → Reaches most (length u + n) p → Reaches most n (after p u)
after_reaches most n [] p h = (omega (arith, h.0), omega (arith, h.1))
after_reaches most n (c ∷ cs) p h =
    let one_more : Reaches most (suc (length cs + n)) p = (omega (arith, h.0), omega (arith, h.1)) in
    after_reaches most n cs (after_byte p c) (byte_reaches most (length cs + n) c p one_more)

-- a text of two parts
parts_reach : (most : ℕ) (text u more : List ℕ) (p : Place) → text ≡ u ++ more → Reaches most (length text) p → Reaches most (length more) (after p u)
parts_reach most text u more p e h = after_reaches most (length more) u p (subst (λ n. Reaches most n p) (ap length e ∙ length-append u more) h)

within : (most n : ℕ) (p : Place) → Reaches most n p → IsWithin most p
within most n p h = (omega (arith, h.0), omega (arith, h.1))

begins_within : (most : ℕ) (ks : List Token) (p q : Place) (text rest : List ℕ) → Begins p text ks q rest → Reaches most (length text) p → AllWithin most ks × IsWithin most q
begins_within most [] p q text rest (gap, e, is, at) h =
    (tt, subst (IsWithin most) (sym at) (within most (length rest) (after p (joined gap)) (parts_reach most text (joined gap) rest p e h)))
begins_within most (k ∷ ks) p q text rest (gap, u, more, e, is, at, lexeme, ends, go) h =
    let here : Reaches most (length (u ++ more)) (after p (joined gap)) = parts_reach most text (joined gap) (u ++ more) p e h in
    let there : Reaches most (length more) (after p (joined gap ++ u)) = parts_reach most text (joined gap ++ u) more p (e ∙ sym (append_assoc (joined gap) u more)) h in
    let others : AllWithin most ks × IsWithin most q = begins_within most ks (after p (joined gap ++ u)) q more rest go there in
    ((subst (IsWithin most) (sym at) (within most (length (u ++ more)) (after p (joined gap)) here), others.0), others.1)

all_within_end : (most : ℕ) (ks : List Token) (q : Place) → AllWithin most ks → IsWithin most q → AllWithin most (ks ++ end_at q ∷ [])
all_within_end most [] q h k = (k, tt)
all_within_end most (t ∷ ts) q h k = (h.0, all_within_end most ts q h.1 k)

-- each token of a text stands in a line and a column up to 2^20 + 1
pub Lexes-within : (text : List ℕ) (tokens : List Token) → Lexes text tokens → AllWithin (suc longest_text) tokens
Lexes-within text tokens l =
    let room : Reaches (suc longest_text) (length text) start = (omega (arith, l.is_text.short), omega (arith, l.is_text.short)) in
    let all : AllWithin (suc longest_text) l.front × IsWithin (suc longest_text) l.end = begins_within (suc longest_text) l.front start l.end text [] l.reads room in
    subst (AllWithin (suc longest_text)) (sym l.tokens_are) (all_within_end (suc longest_text) l.front l.end all.0 all.1)

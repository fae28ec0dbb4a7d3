-- Signs: how each begins, how long it is, and that no two are spelled alike.
use Rattle.std.proofs.Common.{◌≡◌, ◌≢◌, ℕ, zero, suc, ◌<◌, ◌≤◌, Bool, true, false, not, ◌&&◌, cond, List, [], ◌∷◌, ◌++◌, length, get_or, refl, sym, ap, subst, ◌∙◌, arith}
use Rattle.std.proofs.lemmas.Bool.{and_parts}
use Rattle.std.proofs.lemmas.Bool.Decides.{nat_tests}
use Rattle.std.specs.Prelude.{bytes_eq, nat_le}
use Rattle.dpl_syntax.specs.Tokens.{sign_text}
use Rattle.dpl_syntax.specs.Gaps.{is_space}
use Rattle.dpl_syntax.specs.Text.{is_letter, is_digit, is_quote}
use Rattle.dpl_syntax.specs.declared.token.Sign.{Sign}
use Rattle.dpl_syntax.specs.declared.token.Sign.TheVariants.{DotDotLess, DotDot, Dot, Equal, NotEqual, LessEqual, GreaterEqual, AndAnd, OrOr, PlusAssign, MinusAssign, StarAssign, SlashAssign, PercentAssign, Assign, Less, Greater, Not, Plus, Minus, Star, Slash, Percent, And, Or, Caret, Hash, OpenRound, CloseRound, OpenSquare, CloseSquare, OpenCurly, CloseCurly, Comma, Semicolon, Colon}
use Rattle.dpl_lexer.proofs.ByteTests.{bytes_eq-same, begins, begins_front}

-- a sign is one byte to three, and begins no word, no number and no white space
pub record IsSignText (u : List ℕ) : Type 0 where
  pub first : ℕ
  pub others : List ℕ
  pub is : u ≡ first ∷ others
  pub no_letter : is_letter first ≡ false
  pub no_digit : is_digit first ≡ false
  pub no_quote : is_quote first ≡ false
  pub no_space : is_space first ≡ false
  pub short : length others ≤ 2

pub is_sign_text : (s : Sign) → IsSignText (sign_text s)
unfolding sign_text
is_sign_text DotDotLess = record { first = 46; others = 46 ∷ 60 ∷ []; is = refl; no_letter = refl; no_digit = refl; no_quote = refl; no_space = refl; short = omega arith }
is_sign_text DotDot = record { first = 46; others = 46 ∷ []; is = refl; no_letter = refl; no_digit = refl; no_quote = refl; no_space = refl; short = omega arith }
is_sign_text Dot = record { first = 46; others = []; is = refl; no_letter = refl; no_digit = refl; no_quote = refl; no_space = refl; short = omega arith }
is_sign_text Equal = record { first = 61; others = 61 ∷ []; is = refl; no_letter = refl; no_digit = refl; no_quote = refl; no_space = refl; short = omega arith }
is_sign_text NotEqual = record { first = 33; others = 61 ∷ []; is = refl; no_letter = refl; no_digit = refl; no_quote = refl; no_space = refl; short = omega arith }
is_sign_text LessEqual = record { first = 60; others = 61 ∷ []; is = refl; no_letter = refl; no_digit = refl; no_quote = refl; no_space = refl; short = omega arith }
is_sign_text GreaterEqual = record { first = 62; others = 61 ∷ []; is = refl; no_letter = refl; no_digit = refl; no_quote = refl; no_space = refl; short = omega arith }
is_sign_text AndAnd = record { first = 38; others = 38 ∷ []; is = refl; no_letter = refl; no_digit = refl; no_quote = refl; no_space = refl; short = omega arith }
is_sign_text OrOr = record { first = 124; others = 124 ∷ []; is = refl; no_letter = refl; no_digit = refl; no_quote = refl; no_space = refl; short = omega arith }
is_sign_text PlusAssign = record { first = 43; others = 61 ∷ []; is = refl; no_letter = refl; no_digit = refl; no_quote = refl; no_space = refl; short = omega arith }
is_sign_text MinusAssign = record { first = 45; others = 61 ∷ []; is = refl; no_letter = refl; no_digit = refl; no_quote = refl; no_space = refl; short = omega arith }
is_sign_text StarAssign = record { first = 42; others = 61 ∷ []; is = refl; no_letter = refl; no_digit = refl; no_quote = refl; no_space = refl; short = omega arith }
is_sign_text SlashAssign = record { first = 47; others = 61 ∷ []; is = refl; no_letter = refl; no_digit = refl; no_quote = refl; no_space = refl; short = omega arith }
is_sign_text PercentAssign = record { first = 37; others = 61 ∷ []; is = refl; no_letter = refl; no_digit = refl; no_quote = refl; no_space = refl; short = omega arith }
is_sign_text Assign = record { first = 61; others = []; is = refl; no_letter = refl; no_digit = refl; no_quote = refl; no_space = refl; short = omega arith }
is_sign_text Less = record { first = 60; others = []; is = refl; no_letter = refl; no_digit = refl; no_quote = refl; no_space = refl; short = omega arith }
is_sign_text Greater = record { first = 62; others = []; is = refl; no_letter = refl; no_digit = refl; no_quote = refl; no_space = refl; short = omega arith }
is_sign_text Not = record { first = 33; others = []; is = refl; no_letter = refl; no_digit = refl; no_quote = refl; no_space = refl; short = omega arith }
is_sign_text Plus = record { first = 43; others = []; is = refl; no_letter = refl; no_digit = refl; no_quote = refl; no_space = refl; short = omega arith }
is_sign_text Minus = record { first = 45; others = []; is = refl; no_letter = refl; no_digit = refl; no_quote = refl; no_space = refl; short = omega arith }
is_sign_text Star = record { first = 42; others = []; is = refl; no_letter = refl; no_digit = refl; no_quote = refl; no_space = refl; short = omega arith }
is_sign_text Slash = record { first = 47; others = []; is = refl; no_letter = refl; no_digit = refl; no_quote = refl; no_space = refl; short = omega arith }
is_sign_text Percent = record { first = 37; others = []; is = refl; no_letter = refl; no_digit = refl; no_quote = refl; no_space = refl; short = omega arith }
is_sign_text And = record { first = 38; others = []; is = refl; no_letter = refl; no_digit = refl; no_quote = refl; no_space = refl; short = omega arith }
is_sign_text Or = record { first = 124; others = []; is = refl; no_letter = refl; no_digit = refl; no_quote = refl; no_space = refl; short = omega arith }
is_sign_text Caret = record { first = 94; others = []; is = refl; no_letter = refl; no_digit = refl; no_quote = refl; no_space = refl; short = omega arith }
is_sign_text Hash = record { first = 35; others = []; is = refl; no_letter = refl; no_digit = refl; no_quote = refl; no_space = refl; short = omega arith }
is_sign_text OpenRound = record { first = 40; others = []; is = refl; no_letter = refl; no_digit = refl; no_quote = refl; no_space = refl; short = omega arith }
is_sign_text CloseRound = record { first = 41; others = []; is = refl; no_letter = refl; no_digit = refl; no_quote = refl; no_space = refl; short = omega arith }
is_sign_text OpenSquare = record { first = 91; others = []; is = refl; no_letter = refl; no_digit = refl; no_quote = refl; no_space = refl; short = omega arith }
is_sign_text CloseSquare = record { first = 93; others = []; is = refl; no_letter = refl; no_digit = refl; no_quote = refl; no_space = refl; short = omega arith }
is_sign_text OpenCurly = record { first = 123; others = []; is = refl; no_letter = refl; no_digit = refl; no_quote = refl; no_space = refl; short = omega arith }
is_sign_text CloseCurly = record { first = 125; others = []; is = refl; no_letter = refl; no_digit = refl; no_quote = refl; no_space = refl; short = omega arith }
is_sign_text Comma = record { first = 44; others = []; is = refl; no_letter = refl; no_digit = refl; no_quote = refl; no_space = refl; short = omega arith }
is_sign_text Semicolon = record { first = 59; others = []; is = refl; no_letter = refl; no_digit = refl; no_quote = refl; no_space = refl; short = omega arith }
is_sign_text Colon = record { first = 58; others = []; is = refl; no_letter = refl; no_digit = refl; no_quote = refl; no_space = refl; short = omega arith }

abbrev pub all : List Sign
all = DotDotLess ∷ DotDot ∷ Dot ∷ Equal ∷ NotEqual ∷ LessEqual ∷ GreaterEqual ∷ AndAnd ∷ OrOr ∷ PlusAssign ∷ MinusAssign ∷ StarAssign ∷ SlashAssign ∷ PercentAssign ∷ Assign ∷ Less ∷ Greater ∷ Not ∷ Plus ∷ Minus ∷ Star ∷ Slash ∷ Percent ∷ And ∷ Or ∷ Caret ∷ Hash ∷ OpenRound ∷ CloseRound ∷ OpenSquare ∷ CloseSquare ∷ OpenCurly ∷ CloseCurly ∷ Comma ∷ Semicolon ∷ Colon ∷ []

-- the first sign of a list that is spelled so
abbrev pub first_of_text : List Sign → List ℕ → Sign
first_of_text [] u = Colon
first_of_text (s ∷ ss) u = cond (bytes_eq (sign_text s) u) s (first_of_text ss u)

pub read : (s : Sign) → first_of_text all (sign_text s) ≡ s
unfolding sign_text
read DotDotLess = refl
read DotDot = refl
read Dot = refl
read Equal = refl
read NotEqual = refl
read LessEqual = refl
read GreaterEqual = refl
read AndAnd = refl
read OrOr = refl
read PlusAssign = refl
read MinusAssign = refl
read StarAssign = refl
read SlashAssign = refl
read PercentAssign = refl
read Assign = refl
read Less = refl
read Greater = refl
read Not = refl
read Plus = refl
read Minus = refl
read Star = refl
read Slash = refl
read Percent = refl
read And = refl
read Or = refl
read Caret = refl
read Hash = refl
read OpenRound = refl
read CloseRound = refl
read OpenSquare = refl
read CloseSquare = refl
read OpenCurly = refl
read CloseCurly = refl
read Comma = refl
read Semicolon = refl
read Colon = refl

-- no two are spelled alike
pub sign_text-injective : (s t : Sign) → sign_text s ≡ sign_text t → s ≡ t
sign_text-injective s t e = sym (read s) ∙ ap (first_of_text all) e ∙ read t

-- a spelling is no sign's where it isn't that of the one which is looked up for it
pub no_sign : (u : List ℕ) → bytes_eq (sign_text (first_of_text all u)) u ≡ false → (s : Sign) → sign_text s ≢ u
no_sign u other s e =
    let found : first_of_text all u ≡ s = ap (first_of_text all) (sym e) ∙ read s in
    let text : sign_text (first_of_text all u) ≡ u = ap sign_text found ∙ e in
    let yes : bytes_eq (sign_text (first_of_text all u)) u ≡ true = bytes_eq-same (sign_text (first_of_text all u)) u text in
    absurd (cc (other, yes))

-- where a sign stands among all
index : Sign → ℕ
index DotDotLess = 0
index DotDot = 1
index Dot = 2
index Equal = 3
index NotEqual = 4
index LessEqual = 5
index GreaterEqual = 6
index AndAnd = 7
index OrOr = 8
index PlusAssign = 9
index MinusAssign = 10
index StarAssign = 11
index SlashAssign = 12
index PercentAssign = 13
index Assign = 14
index Less = 15
index Greater = 16
index Not = 17
index Plus = 18
index Minus = 19
index Star = 20
index Slash = 21
index Percent = 22
index And = 23
index Or = 24
index Caret = 25
index Hash = 26
index OpenRound = 27
index CloseRound = 28
index OpenSquare = 29
index CloseSquare = 30
index OpenCurly = 31
index CloseCurly = 32
index Comma = 33
index Semicolon = 34
index Colon = 35

listed : (s : Sign) → get_or all (index s) Colon ≡ s
unfolding index
listed DotDotLess = refl
listed DotDot = refl
listed Dot = refl
listed Equal = refl
listed NotEqual = refl
listed LessEqual = refl
listed GreaterEqual = refl
listed AndAnd = refl
listed OrOr = refl
listed PlusAssign = refl
listed MinusAssign = refl
listed StarAssign = refl
listed SlashAssign = refl
listed PercentAssign = refl
listed Assign = refl
listed Less = refl
listed Greater = refl
listed Not = refl
listed Plus = refl
listed Minus = refl
listed Star = refl
listed Slash = refl
listed Percent = refl
listed And = refl
listed Or = refl
listed Caret = refl
listed Hash = refl
listed OpenRound = refl
listed CloseRound = refl
listed OpenSquare = refl
listed CloseSquare = refl
listed OpenCurly = refl
listed CloseCurly = refl
listed Comma = refl
listed Semicolon = refl
listed Colon = refl

within : (s : Sign) → index s < 36
unfolding index
within DotDotLess = omega arith
within DotDot = omega arith
within Dot = omega arith
within Equal = omega arith
within NotEqual = omega arith
within LessEqual = omega arith
within GreaterEqual = omega arith
within AndAnd = omega arith
within OrOr = omega arith
within PlusAssign = omega arith
within MinusAssign = omega arith
within StarAssign = omega arith
within SlashAssign = omega arith
within PercentAssign = omega arith
within Assign = omega arith
within Less = omega arith
within Greater = omega arith
within Not = omega arith
within Plus = omega arith
within Minus = omega arith
within Star = omega arith
within Slash = omega arith
within Percent = omega arith
within And = omega arith
within Or = omega arith
within Caret = omega arith
within Hash = omega arith
within OpenRound = omega arith
within CloseRound = omega arith
within OpenSquare = omega arith
within CloseSquare = omega arith
within OpenCurly = omega arith
within CloseCurly = omega arith
within Comma = omega arith
within Semicolon = omega arith
within Colon = omega arith

-- whether a test passes at each sign of a list
abbrev pub each_sign : (Sign → Bool) → List Sign → Bool
each_sign p [] = true
each_sign p (s ∷ ss) = p s && each_sign p ss

each_sign-at : (p : Sign → Bool) (ss : List Sign) (i : ℕ) → each_sign p ss ≡ true → i < length ss → p (get_or ss i Colon) ≡ true
each_sign-at p [] i h lt = absurd (omega arith)
each_sign-at p (s ∷ ss) zero h lt = (and_parts (p s) (each_sign p ss) h).0
each_sign-at p (s ∷ ss) (suc i) h lt = each_sign-at p ss i ((and_parts (p s) (each_sign p ss) h).1) (omega arith)

-- a test that passes at each of the list of all passes at every sign
pub each_sign_all : (p : Sign → Bool) → each_sign p all ≡ true → (s : Sign) → p s ≡ true
each_sign_all p h s = subst (λ (t : Sign). p t ≡ true) (listed s) (each_sign-at p all (index s) h (within s))

-- whether no sign of the list that begins the text is longer than n
abbrev pub none_longer : ℕ → List ℕ → Sign → Bool
none_longer n text t = cond (begins (sign_text t) text) (nat_le (length (sign_text t)) n) true

pub longest_sign : (n : ℕ) (text : List ℕ) → each_sign (none_longer n text) all ≡ true → (t : Sign) (w : List ℕ) → text ≡ sign_text t ++ w → length (sign_text t) ≤ n
longest_sign n text h t w e =
    let here : begins (sign_text t) text ≡ true = begins_front (sign_text t) w text e in
    let passes = each_sign_all (none_longer n text) h t in
    let le : nat_le (length (sign_text t)) n ≡ true = rw here at passes in
    grind (arith, nat_tests)

-- whether the sign doesn't begin the text
abbrev pub not_begun : List ℕ → Sign → Bool
not_begun text t = not (begins (sign_text t) text)

pub no_sign_here : (text : List ℕ) → each_sign (not_begun text) all ≡ true → (t : Sign) (w : List ℕ) → text ≢ sign_text t ++ w
no_sign_here text h t w e =
    let here : begins (sign_text t) text ≡ true = begins_front (sign_text t) w text e in
    let passes : not (begins (sign_text t) text) ≡ true = each_sign_all (not_begun text) h t in
    let fails : not true ≡ true = rw here at passes in
    absurd cc

-- The tokens of a text stand at places that rise: each has a byte, behind which the next one stands.
use Rattle.std.proofs.Common.{◌≡◌, ℕ, ◌<◌, ◌+◌, Bool, true, false, ◌==◌, if◌then◌else◌, List, [], ◌∷◌, ◌++◌, length, map, sym, subst, arith}
use Rattle.std.specs.List.{AllByRecursion}
use Rattle.std.proofs.lemmas.Bool.Decides.{nat_tests}
use Rattle.dpl_syntax.specs.declared.place.Place.{Place}
use Rattle.dpl_syntax.specs.declared.token.Token.{Token}
use Rattle.dpl_syntax.specs.Gaps.{joined}
use Rattle.dpl_syntax.specs.Text.{after_byte, after, start, Begins, end_at, Lexes}
use Rattle.dpl_lexer.proofs.Lexemes.{lexeme_sort}
use Rattle.dpl_lexer.proofs.Steps.{after-append}
use Rattle.dpl_rules.specs.Breaches.{place_before}
use Rattle.dpl_places.specs.Rising.{IsRising}

-- ---- the order of places
before-trans : (p q r : Place) → place_before p q ≡ true → place_before q r ≡ true → place_before p r ≡ true
before-trans p q r h k = grind (arith, nat_tests, h, k)

-- from a place on
abbrev IsFrom : Place → Place → Type 0
IsFrom p q = place_before q p ≡ false

from-itself : (p : Place) → IsFrom p p
from-itself p = grind (arith, nat_tests)

from-before : (p q : Place) → place_before p q ≡ true → IsFrom p q
from-before p q h = grind (arith, nat_tests, h)

from-trans : (p q r : Place) → IsFrom p q → IsFrom q r → IsFrom p r
from-trans p q r h k = grind (arith, nat_tests, h, k)

before-from : (p q r : Place) → place_before p q ≡ true → IsFrom q r → place_before p r ≡ true
before-from p q r h k = grind (arith, nat_tests, h, k)

-- ---- places after bytes
byte-before : (p : Place) (c : ℕ) → place_before p (after_byte p c) ≡ true
byte-before p c = by (c == 10)
  where
    by : (b : Bool) → place_before p (if b then record { line = p.line + 1; column = 1 } else record { line = p.line; column = p.column + 1 }) ≡ true
    by true = grind (arith, nat_tests)
    by false = grind (arith, nat_tests)

after-from : (u : List ℕ) (p : Place) → IsFrom p (after p u)
after-from [] p = from-itself p
after-from (c ∷ u) p = from-trans p (after_byte p c) (after (after_byte p c) u) (from-before p (after_byte p c) (byte-before p c)) (after-from u (after_byte p c))

after-before : (u : List ℕ) (p : Place) → 0 < length u → place_before p (after p u) ≡ true
after-before [] p some = absurd (omega (arith, some))
after-before (c ∷ u) p some = before-from p (after_byte p c) (after (after_byte p c) u) (byte-before p c) (after-from u (after_byte p c))

-- ---- tokens
abbrev pub places : List Token → List Place
places ks = map (λ k. k.at) ks

all-from : (p q : Place) (rs : List Place) → IsFrom p q → AllByRecursion (IsFrom q) rs → AllByRecursion (IsFrom p) rs
all-from p q [] h all = tt
all-from p q (r ∷ rs) h all = (from-trans p q r h all.0, all-from p q rs h all.1)

all-before : (p q : Place) (rs : List Place) → place_before p q ≡ true → AllByRecursion (IsFrom q) rs → AllByRecursion (λ r. place_before p r ≡ true) rs
all-before p q [] h all = tt
all-before p q (r ∷ rs) h all = (before-from p q r h all.0, all-before p q rs h all.1)

-- they rise, and none is before a place
abbrev RiseFrom : Place → List Place → Type 0
RiseFrom p rs = AllByRecursion (IsFrom p) rs × IsRising rs

begins-rising : (ks : List Token) (p q : Place) (text rest : List ℕ) → Begins p text ks q rest → RiseFrom p (places (ks ++ end_at q ∷ []))
begins-rising [] p q text rest (gap, e, is, at) = ((subst (IsFrom p) (sym at) (after-from (joined gap) p), tt), (tt, tt))
begins-rising (k ∷ ks) p q text rest (gap, u, more, e, is, at, lexeme, ends, go) =
    let behind : Place = after p (joined gap ++ u) in
    let others : RiseFrom behind (places (ks ++ end_at q ∷ [])) = begins-rising ks behind q more rest go in
    let here : IsFrom p k.at = subst (IsFrom p) (sym at) (after-from (joined gap) p) in
    let past : place_before k.at behind ≡ true =
    subst (λ r. place_before r behind ≡ true) (sym at) (subst (λ r. place_before (after p (joined gap)) r ≡ true) (sym (after-append (joined gap) u p))
    (after-before u (after p (joined gap)) (lexeme_sort k.kind u lexeme).some))
    in
    let on : AllByRecursion (IsFrom p) (places (ks ++ end_at q ∷ [])) = all-from p behind (places (ks ++ end_at q ∷ [])) (after-from (joined gap ++ u) p) others.0 in
    ((here, on), (all-before k.at behind (places (ks ++ end_at q ∷ [])) past others.0, others.1))

pub Lexes-rising : (text : List ℕ) (tokens : List Token) → Lexes text tokens → IsRising (places tokens)
Lexes-rising text tokens l = subst (λ ks. IsRising (places ks)) (sym l.tokens_are) (begins-rising l.front start l.end text [] l.reads).1

-- Readers of tokens, from left to right.
-- A reader is written as its language is, and where two ways part a class of next tokens says which one is taken.
use Rattle.std.specs.Prelude.{ℕ, zero, suc, List, [], ◌∷◌, length, Bool, false, cond, Result, Ok, Err, Option, Some, None}
use Rattle.dpl_syntax.specs.declared.token.Token.{Token}
use Rattle.dpl_syntax.specs.declared.place.Place.{Place}
use Rattle.dpl_grammar.specs.Classes.{Class, in_class}

-- why reading stops at a token: nothing goes on with it, or it wants one more level of nesting than there is room for
pub data Cause : Type 0 where
  Unexpected : Cause
  NoRoom : Cause

-- a value and the tokens after it, or why reading stops and the tokens from the one on at which it does
abbrev pub Read : Type 0 → Type 0
Read T = Result (T × List Token) (Cause × List Token)

abbrev pub Reader : Type 0 → Type 0
Reader T = List Token → Read T

-- the tokens that are left
abbrev pub rest_of : {T : Type 0} → Read T → List Token
rest_of (Ok x) = x.1
rest_of (Err e) = e.1

-- what f makes of a value and the tokens after it
abbrev pub on_read : {T U : Type 0} → Read T → (T × List Token → Read U) → Read U
on_read (Ok x) f = f x
on_read (Err e) f = Err e

-- the one, and then the other
infixl 10 ◌>>=◌
abbrev pub ◌>>=◌ : {T U : Type 0} → Reader T → (T → Reader U) → Reader U
p >>= r = λ ts. on_read (p ts) (λ x. r x.0 x.1)

-- no token
abbrev pub done_at : {T : Type 0} → T → Reader T
done_at x ts = Ok (x, ts)

-- whether the next token is of the class
abbrev pub next_in : Class → List Token → Bool
next_in class [] = false
next_in class (k ∷ ks) = in_class class k

-- one token of a class
abbrev pub token_at : Class → Reader Token
token_at class [] = Err (Unexpected, [])
token_at class (k ∷ ks) = cond (in_class class k) (Ok (k, ks)) (Err (Unexpected, k ∷ ks))

-- the one where the next token is of the class, and else the other
abbrev pub choose : {T : Type 0} → Class → Reader T → Reader T → Reader T
choose class p r = λ ts. cond (next_in class ts) (p ts) (r ts)

-- the one where the test says so, and else the other
abbrev pub decide : {T : Type 0} → (List Token → Bool) → Reader T → Reader T → Reader T
decide test p r = λ ts. cond (test ts) (p ts) (r ts)

-- the one where the next token is of the class, and else nothing
abbrev pub maybe_at : {T : Type 0} → Class → Reader T → Reader (Option T)
maybe_at class p = choose class (p >>= λ x. done_at (Some x)) (done_at None)

-- one token of a class, which stands for x there
abbrev pub means_at : {T : Type 0} → Class → T → Reader (Place × T)
means_at class x = token_at class >>= λ k. done_at (k.at, x)

-- as many as begin with a token of the class; the number bounds the turns
unfoldable pub each_at : {T : Type 0} → Class → Reader T → ℕ → Reader (List T)
each_at class one zero ts = Ok ([], ts)
each_at class one (suc n) ts = cond (next_in class ts) (on_read (one ts) (λ x. on_read (each_at class one n x.1) (λ xs. Ok (x.0 ∷ xs.0, xs.1)))) (Ok ([], ts))

-- as many as begin with a token of the class
abbrev pub many_at : {T : Type 0} → Class → Reader T → Reader (List T)
many_at class one ts = each_at class one (length ts) ts

-- as many as begin with a token of the class, up to one that lets no other follow; the number bounds the turns
unfoldable pub run_turns_at : {T : Type 0} → Class → (T → Bool) → Reader T → ℕ → Reader (List T)
run_turns_at class more one zero ts = Ok ([], ts)
run_turns_at class more one (suc n) ts =
    cond (next_in class ts)
    (on_read (one ts) (λ x. cond (more x.0) (on_read (run_turns_at class more one n x.1) (λ xs. Ok (x.0 ∷ xs.0, xs.1))) (Ok (x.0 ∷ [], x.1))))
    (Ok ([], ts))

-- as many as begin with a token of the class, up to one that lets no other follow
abbrev pub run_at : {T : Type 0} → Class → (T → Bool) → Reader T → Reader (List T)
run_at class more one ts = run_turns_at class more one (length ts) ts

-- stops at the next token: for want of room, if it is of the class
abbrev pub no_room : {T : Type 0} → Class → Reader T
no_room class ts = cond (next_in class ts) (Err (NoRoom, ts)) (Err (Unexpected, ts))

-- How classes lie to each other, and what that says of the next token.
-- Where classes are written out, each of these facts is shown by computation.
use Rattle.std.proofs.Common.{◌≡◌, ℕ, Bool, true, false, cond, eqb, List, [], ◌∷◌, ◌++◌, refl}
use Rattle.std.proofs.lemmas.Bool.{eqb-true, eq-eqb}
use Rattle.dpl_syntax.specs.declared.token.Token.{Token}
use Rattle.dpl_grammar.specs.Numbers.{kind_number}
use Rattle.dpl_grammar.specs.Classes.{Class, has, in_class, Lacks, apart, within}
use Rattle.dpl_grammar.specs.Reader.{next_in}

pub apart_is : (F C : Class) (n : ℕ) → apart F C ≡ true → has F n ≡ true → has C n ≡ false
apart_is [] C n h m = absurd cc
apart_is (k ∷ F) C n h m = at (has C k) refl (eqb n k) refl h m (apart_is F C n)
  where
    at : (b : Bool) → has C k ≡ b → (e : Bool) → eqb n k ≡ e → cond b false (apart F C) ≡ true → cond e true (has F n) ≡ true → (apart F C ≡ true → has F n ≡ true → has C n ≡ false) → has C n ≡ false
    at true hb e he h m ih = absurd cc
    at false hb true he h m ih = rw (eqb-true n k he) hb
    at false hb false he h m ih = ih h m

pub within_is : (F C : Class) (n : ℕ) → within F C ≡ true → has F n ≡ true → has C n ≡ true
within_is [] C n h m = absurd cc
within_is (k ∷ F) C n h m = at (has C k) refl (eqb n k) refl h m (within_is F C n)
  where
    at : (b : Bool) → has C k ≡ b → (e : Bool) → eqb n k ≡ e → cond b (within F C) false ≡ true → cond e true (has F n) ≡ true → (within F C ≡ true → has F n ≡ true → has C n ≡ true) → has C n ≡ true
    at false hb e he h m ih = absurd cc
    at true hb true he h m ih = rw (eqb-true n k he) hb
    at true hb false he h m ih = ih h m

pub apart_none : (F : Class) → apart F [] ≡ true
apart_none [] = refl
apart_none (k ∷ F) = apart_none F

within_grown : (F C : Class) (k : ℕ) → within F C ≡ true → within F (k ∷ C) ≡ true
within_grown [] C k h = refl
within_grown (j ∷ F) C k h = at (has C j) (eqb j k) h (within_grown F C k)
  where
    at : (b e : Bool) → cond b (within F C) false ≡ true → (within F C ≡ true → within F (k ∷ C) ≡ true) → cond (cond e true b) (within F (k ∷ C)) false ≡ true
    at true true h ih = ih h
    at true false h ih = ih h
    at false e h ih = absurd cc

pub within_self : (F : Class) → within F F ≡ true
within_self [] = refl
within_self (k ∷ F) = rw (eq-eqb k k refl) (within_grown F F k (within_self F))

pub within_append : (D F C : Class) → within F C ≡ true → within F (D ++ C) ≡ true
within_append [] F C h = h
within_append (k ∷ D) F C h = within_grown F (D ++ C) k (within_append D F C h)

pub within_front : (F C : Class) → within F (F ++ C) ≡ true
within_front [] C = refl
within_front (k ∷ F) C = rw (eq-eqb k k refl) (within_grown F (F ++ C) k (within_front F C))

-- what doesn't begin with a class doesn't begin with a part of it
pub next_within : (F C : Class) (ts : List Token) → within F C ≡ true → next_in C ts ≡ false → next_in F ts ≡ false
next_within F C [] h m = refl
next_within F C (k ∷ ts) h m = at (in_class F k) refl
  where
    at : (b : Bool) → in_class F k ≡ b → b ≡ false
    at false e = refl
    at true e = let x = within_is F C (kind_number k.kind) h e in absurd cc

pub next_apart : (F C : Class) (k : Token) → apart F C ≡ true → in_class F k ≡ true → in_class C k ≡ false
next_apart F C k h m = apart_is F C (kind_number k.kind) h m

-- the next token is of two classes together, if it is of the one or of the other
pub next_in_either : (C D : Class) (ts : List Token) → next_in (C ++ D) ts ≡ cond (next_in C ts) true (next_in D ts)
next_in_either C D [] = refl
next_in_either [] D (k ∷ ts) = refl
next_in_either (j ∷ C) D (k ∷ ts) = at (eqb (kind_number k.kind) j) (next_in_either C D (k ∷ ts))
  where
    at : (b : Bool) → has (C ++ D) (kind_number k.kind) ≡ cond (has C (kind_number k.kind)) true (has D (kind_number k.kind))
        → cond b true (has (C ++ D) (kind_number k.kind)) ≡ cond (cond b true (has C (kind_number k.kind))) true (has D (kind_number k.kind))
    at true h = refl
    at false h = h

-- the empty class has no token
pub lacks_none : (u : List Token) → Lacks [] u
lacks_none [] = tt
lacks_none (k ∷ u) = (refl, lacks_none u)

pub lacks_append : (X : Class) (u v : List Token) → Lacks X u → Lacks X v → Lacks X (u ++ v)
lacks_append X [] v h g = g
lacks_append X (k ∷ u) v h g = (h.0, lacks_append X u v h.1 g)

pub lacks_last : (X : Class) (u : List Token) (k : Token) → Lacks X (u ++ k ∷ []) → in_class X k ≡ false
lacks_last X [] k h = h.0
lacks_last X (j ∷ u) k h = lacks_last X u k h.1

-- The laws where what goes on with a value depends on the value: late tokens, and what may extend a value.
-- They are the laws of dpl_grammar's proofs/Rules, with classes that hang on whether a value lets late tokens follow.
use Rattle.std.proofs.Common.{◌≡◌, inl, inr, Bool, true, false, cond, not, [], ◌∷◌, ◌++◌, refl, subst}
use Rattle.dpl_grammar.specs.Numbers.{kind_number}
use Rattle.dpl_grammar.specs.Classes.{Class, has, apart, within}
use Rattle.dpl_grammar.specs.Language.{Language, done, either, ◌>>=◌}
use Rattle.dpl_grammar.specs.Reader as reader
use Rattle.dpl_grammar.specs.Reader.{Reader, done_at}
use Rattle.dpl_grammar.specs.Laws.{Reads}
use Rattle.dpl_grammar.specs.Rule.{Beginning, Whole, Begun, extension, completion}
use Rattle.dpl_grammar.specs.Reading.{extension_at, completion_at}
use Rattle.dpl_grammar.proofs.Classes.{within_is, within_self, within_front, within_append}
use Rattle.dpl_grammar.proofs.Basic.{done_reads}
use Rattle.dpl_grammar.proofs.Rules.{and_then_at, or_else_at}

-- classes within classes

pub within_joined : (F G C : Class) → within F C ≡ true → within G C ≡ true → within (F ++ G) C ≡ true
within_joined [] G C f g = g
within_joined (k ∷ F) G C f g = at (has C k) f (λ h. within_joined F G C h g)
  where
    at : (b : Bool) → cond b (within F C) false ≡ true → (within F C ≡ true → within (F ++ G) C ≡ true) → cond b (within (F ++ G) C) false ≡ true
    at true h ih = ih h
    at false h ih = absurd cc

pub within_then : (F G C : Class) → within F G ≡ true → within G C ≡ true → within F C ≡ true
within_then [] G C f g = refl
within_then (k ∷ F) G C f g = at (has G k) refl f (λ h. within_then F G C h g)
  where
    at : (b : Bool) → has G k ≡ b → cond b (within F G) false ≡ true → (within F G ≡ true → within F C ≡ true) → cond (has C k) (within F C) false ≡ true
    at true e h ih = rw (within_is G C k g e) (ih h)
    at false e h ih = absurd cc

pub within_wider : (F C D : Class) → within F C ≡ true → within F (C ++ D) ≡ true
within_wider F C D h = within_then F C (C ++ D) h (within_front C D)

-- what may go on with a value: tokens of the first class, and where it lets that those of the second
abbrev pub goes_on : Bool → Class → Class → Class
goes_on true more late = more ++ late
goes_on false more late = more

pub goes_on_within : (b : Bool) (C L D M : Class) → within C D ≡ true → within L M ≡ true → within (goes_on b C L) (goes_on b D M) ≡ true
goes_on_within true C L D M c l = within_joined C L (D ++ M) (within_wider C D M c) (within_append D L M l)
goes_on_within false C L D M c l = c

pub whole_within : (b : Bool) (C L D : Class) → within C D ≡ true → within L D ≡ true → within (goes_on b C L) D ≡ true
whole_within true C L D c l = within_joined C L D c l
whole_within false C L D c l = c

pub within_more : (b : Bool) (F C L : Class) → within F C ≡ true → within F (goes_on b C L) ≡ true
within_more true F C L h = within_wider F C L h
within_more false F C L h = h

pub within_late : (b : Bool) (F C L : Class) → b ≡ true → within F L ≡ true → within F (goes_on b C L) ≡ true
within_late true F C L e h = within_append C F L h
within_late false F C L e h = absurd cc

-- nothing late goes on with a value that lets none
pub goes_on_apart : (b : Bool) (F C L : Class) → not b ≡ true → apart F C ≡ true → apart F (goes_on b C L) ≡ true
goes_on_apart true F C L e h = absurd cc
goes_on_apart false F C L e h = h

-- laws

pub nullable_is : {T : Type 0} {X : Class} {L M : Language T} {p q : Reader T} {n m : Bool} {F : Class} {C : T → Class} → n ≡ m → Reads X L M p q n F C → Reads X L M p q m F C
nullable_is {X = X} {L = L} {M = M} {p = p} {q = q} {F = F} {C = C} e r = subst (λ n. Reads X L M p q n F C) e r

pub begins_more : {T : Type 0} {X : Class} {L M : Language T} {p q : Reader T} {n : Bool} {F : Class} {C : T → Class} (G : Class) → within F G ≡ true → Reads X L M p q n F C → Reads X L M p q n G C
begins_more {F = F} G w r = record {
  empty = r.empty;
  whole = r.whole;
  before = r.before;
  lacks = r.lacks;
  solid = r.solid;
  first = λ k u h. within_is F G (kind_number k.kind) w (r.first k u h);
  wider = r.wider;
  wider_front = r.wider_front;
  tells = r.tells;
  again = r.again;
  reaches = r.reaches;
  same = r.same;
}

-- a value made of what is read
pub made_at : {T U : Type 0} {X : Class} {A A' : Language T} {p p' : Reader T} {n : Bool} {F : Class} {C : T → Class} (f : T → U) (E : U → Class) → ((x : T) → within (C x) (E (f x)) ≡ true) → Reads X A A' p p' n F C
    → Reads X (A >>= λ x. done (f x)) (A' >>= λ x. done (f x)) (reader.◌>>=◌ p (λ x. done_at (f x))) (reader.◌>>=◌ p' (λ x. done_at (f x))) n F E
unfolding done
made_at {n = n} {F = F} {C = C} f E w one =
    nullable_is (same n) (and_then_at one (λ x. done_reads {C = λ y. []} (f x)) F E (λ x. refl) (λ x y. refl) (λ x y h. rw h.1 (w x)) (within_self F) (λ x. at n))
  where
    same : (n : Bool) → cond n true false ≡ n
    same true = refl
    same false = refl

    at : (n : Bool) → cond n true true ≡ true
    at true = refl
    at false = refl

-- what extends a value is read, whether it may be extended or not
module _ {B T : Type 0} {X : Class} {L M : Language B} {p q : Reader B} {F : Class} {C : B → Class} (f : B → T) (x : T) (E : T → Class) (one : Reads X L M p q false F C) where
  pub extension_reads : (may : Bool) → ((y : B) → within (C y) (E (f y)) ≡ true) → within F (E x) ≡ true
      → Reads X (extension may L f x) (extension may M f x) (extension_at F may p f x) (extension_at F may q f x) true (cond may F []) E
  unfolding done
  extension_reads true c e = or_else_at (made_at f E c one) (done_reads {C = λ y. []} x) F E refl (λ y. within_self (E y)) (λ y. refl) (λ y h. rw h.1 e) (within_self F) refl
  extension_reads false c e = done_reads x

  -- no token spells x alone
  pub extension_empty : (may : Bool) (y : T) → (extension may L f x).Spells [] y → y ≡ x
  unfolding done either ◌>>=◌
  extension_empty true y (inl ([], b, z, is, s, t)) = absurd (one.solid refl z s)
  extension_empty true y (inl (k ∷ a, b, z, is, s, t)) = absurd cc
  extension_empty true y (inr h) = h.1
  extension_empty false y h = h.1

-- what completes a value that is begun is read, and no token behind one that is whole

maybe_empty : {T : Type 0} {X : Class} {L M : Language T} {p q : Reader T} {n : Bool} {F : Class} {C : T → Class} → Reads X L M p q n F C → Reads X L M p q true F C
maybe_empty r = record {
  empty = r.empty;
  before = r.before;
  lacks = r.lacks;
  solid = λ e x h. absurd cc;
  first = r.first;
  whole = r.whole;
  wider = r.wider;
  wider_front = r.wider_front;
  tells = r.tells;
  again = r.again;
  reaches = r.reaches;
  same = r.same;
}

pub completion_reads : {B T : Type 0} {X : Class} {L M : Language (B → T)} {p q : Reader (B → T)} {n : Bool} {F D : Class} (C : Class)
    → Reads X L M p q n F (λ h. D) → (x : Beginning B T)
    → Reads X (completion L x) (completion M x) (completion_at p x) (completion_at q x) true F (λ y. C ++ D)
completion_reads {F = F} {D = D} C one (Whole x) = begins_more F refl (done_reads x)
completion_reads {F = F} {D = D} C one (Begun x) = maybe_empty (made_at (λ h. h x) (λ y. C ++ D) (λ h. within_append C D D (within_self D)) one)

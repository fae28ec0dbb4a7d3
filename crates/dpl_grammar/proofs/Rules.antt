-- The laws as a grammar's rules use them, one call for each combinator.
-- The conditions on classes come last; for classes that are written out each of them is `refl`.
use Rattle.std.proofs.Common.{◌≡◌, inl, inr, Bool, true, false, cond, List, [], ◌∷◌, ◌++◌, Err, refl, ◌∙◌}
use Rattle.dpl_syntax.specs.declared.token.Token.{Token}
use Rattle.dpl_grammar.specs.Classes.{Class, apart, within}
use Rattle.dpl_grammar.specs.Language.{Language, never, done, token, ◌>>=◌, either, maybe, means, many, run}
use Rattle.dpl_grammar.specs.Reader as reader
use Rattle.dpl_grammar.specs.Reader.{Unexpected, NoRoom, Reader, on_read, done_at, next_in, token_at, choose, maybe_at, means_at, many_at, run_at, no_room}
use Rattle.dpl_grammar.specs.Laws.{Reads}
use Rattle.std.specs.Prelude.{Some, None}
use Rattle.dpl_grammar.proofs.Classes.{next_within, lacks_none, apart_none, within_self, within_front, within_append}
use Rattle.dpl_grammar.proofs.Basic.{token_reads, done_reads, bind_reads}
use Rattle.dpl_grammar.proofs.Choice.{choose_reads, no_room_reads}
use Rattle.dpl_grammar.proofs.Same.{same_itself, reads_along, never_bind}
use Rattle.dpl_grammar.proofs.Many.{many_reads}
use Rattle.dpl_grammar.proofs.Run.{run_reads}

empty_or : (n w : Bool) → cond n w true ≡ true → (n ≡ false → ⊥) → w ≡ true
empty_or true w h not = h
empty_or false w h not = absurd (not refl)

-- one after the other, where what ends the first depends on the second's value
pub and_then_at : {T U : Type 0} {X : Class} {A A' : Language T} {p p' : Reader T} {nA : Bool} {F : Class} {C : T → Class}
    {B B' : T → Language U} {r r' : T → Reader U} {nB : Bool} {G : T → Class} {D : T → U → Class}
    → Reads X A A' p p' nA F C → ((x : T) → Reads X (B x) (B' x) (r x) (r' x) nB (G x) (D x)) → (FF : Class) (E : U → Class)
    → ((x : T) → apart (G x) (C x) ≡ true)
    → ((x : T) (y : U) → within (D x y) (E y) ≡ true)
    → ((x : T) (y : U) → (B x).Spells [] y → within (C x) (E y) ≡ true)
    → within F FF ≡ true
    → ((x : T) → cond nA (within (G x) FF) true ≡ true)
    → Reads X (A >>= B) (A' >>= B') (reader.◌>>=◌ p r) (reader.◌>>=◌ p' r') (cond nA nB false) FF E
and_then_at {X = X} {A = A} {A' = A'} {p = p} {p' = p'} {nA = nA} {F = F} {C = C} {B = B} {B' = B'} {r = r} {r' = r'} {nB = nB} {G = G} {D = D} one two FF E a b c d e =
    bind_reads X A A' p p' nA F C one B B' r r' nB G D two FF E a b c d e

-- the one where the next token is of F, and else the other, where what ends it depends on the value
pub or_else_at : {T : Type 0} {X : Class} {A A' : Language T} {p p' : Reader T} {F : Class} {C : T → Class}
    {B B' : Language T} {r r' : Reader T} {nB : Bool} {G : Class} {D : T → Class}
    → Reads X A A' p p' false F C → Reads X B B' r r' nB G D → (FF : Class) (E : T → Class)
    → apart G F ≡ true
    → ((x : T) → within (C x) (E x) ≡ true)
    → ((x : T) → within (D x) (E x) ≡ true)
    → ((x : T) → B.Spells [] x → within F (E x) ≡ true)
    → within F FF ≡ true
    → within G FF ≡ true
    → Reads X (either A B) (either A' B') (choose F p r) (choose F p' r') nB FF E
or_else_at {X = X} {A = A} {A' = A'} {p = p} {p' = p'} {F = F} {C = C} {B = B} {B' = B'} {r = r} {r' = r'} {nB = nB} {G = G} {D = D} one two FF E a b c d e f =
    choose_reads X A A' p p' F C one B B' r r' nB G D two FF E a b c d e f

-- any number, where what ends one depends on its value
pub as_many : {T : Type 0} {X : Class} {A A' : Language T} {p p' : Reader T} {F : Class} {C : T → Class}
    → Reads X A A' p p' false F C → (E : Class)
    → ((x : T) → apart F (C x) ≡ true)
    → ((x : T) → within (C x) E ≡ true)
    → within F E ≡ true
    → Reads X (many A) (many A') (many_at F p) (many_at F p') true F (λ xs. E)
as_many {X = X} {A = A} {A' = A'} {p = p} {p' = p'} {F = F} {C = C} one E a b c = many_reads X A A' p p' F C one E a b c

-- any number, of which one that lets no other follow is the last, where what ends one depends on its value
pub as_run : {T : Type 0} {X : Class} {A A' : Language T} {p p' : Reader T} {F : Class} {C : T → Class} (more : T → Bool)
    → Reads X A A' p p' false F C → (E : Class)
    → ((x : T) → more x ≡ true → apart F (C x) ≡ true)
    → ((x : T) → within (C x) E ≡ true)
    → within F E ≡ true
    → Reads X (run more A) (run more A') (run_at F more p) (run_at F more p') true F (λ xs. E)
as_run {X = X} {A = A} {A' = A'} {p = p} {p' = p'} {F = F} {C = C} more one E a b c = run_reads X more A A' p p' F C one E a b c

-- what answers the same reads the same
pub reads_by : {T : Type 0} {X : Class} {L M : Language T} {p q p' q' : Reader T} {n : Bool} {F : Class} {C : T → Class} → ((ts : List Token) → p' ts ≡ p ts) → ((ts : List Token) → q' ts ≡ q ts) → Reads X L M p q n F C → Reads X L M p' q' n F C
reads_by {L = L} {M = M} {p = p} {q = q} {p' = p'} {q' = q'} e f r = record {
  empty = r.empty;
  before = r.before;
  lacks = r.lacks;
  solid = r.solid;
  first = r.first;
  whole = r.whole;
  wider = r.wider;
  wider_front = r.wider_front;
  tells = λ ts. rw (e ts) (r.tells ts);
  again = λ u x rest h d. e (u ++ rest) ∙ r.again u x rest h d;
  reaches = λ u w h. rw (e (u ++ w)) (r.reaches u w h);
  same = λ ts. rw (e ts, f ts) (r.same ts);
}

-- more may end it
pub ends_more : {T : Type 0} {X : Class} {L M : Language T} {p q : Reader T} {n : Bool} {F : Class} {C : T → Class} (E : T → Class) → ((x : T) → within (C x) (E x) ≡ true) → Reads X L M p q n F C → Reads X L M p q n F E
ends_more {C = C} E w r = record {
  empty = r.empty;
  before = r.before;
  lacks = r.lacks;
  solid = r.solid;
  first = r.first;
  whole = r.whole;
  wider = r.wider;
  wider_front = r.wider_front;
  tells = r.tells;
  again = λ u x rest h d. r.again u x rest h (next_within (C x) (E x) rest (w x) d);
  reaches = r.reaches;
  same = r.same;
}

-- the rules where no class depends on a value

-- one after the other: what the second begins with doesn't go on with the first
pub then_reads : {T U : Type 0} {X : Class} {A A' : Language T} {p p' : Reader T} {nA : Bool} {F C : Class}
    {B B' : T → Language U} {r r' : T → Reader U} {nB : Bool} {G E : Class}
    → Reads X A A' p p' nA F (λ x. C) → ((x : T) → Reads X (B x) (B' x) (r x) (r' x) nB G (λ y. E))
    → apart G C ≡ true
    → cond nB (within C E) true ≡ true
    → Reads X (A >>= B) (A' >>= B') (reader.◌>>=◌ p r) (reader.◌>>=◌ p' r') (cond nA nB false) (cond nA (F ++ G) F) (λ y. E)
then_reads {nA = nA} {F = F} {C = C} {nB = nB} {G = G} {E = E} one two a c =
    and_then_at one two (cond nA (F ++ G) F) (λ y. E) (λ x. a) (λ x y. within_self E) (λ x y h. empty_or nB (within C E) c (λ is. (two x).solid is y h)) (begins nA) (λ x. begins_two nA)
  where
    begins : (n : Bool) → within F (cond n (F ++ G) F) ≡ true
    begins true = within_front F G
    begins false = within_self F

    begins_two : (n : Bool) → cond n (within G (cond n (F ++ G) F)) true ≡ true
    begins_two true = within_append F G G (within_self G)
    begins_two false = refl

-- a value made of what is read
pub made_reads : {T U : Type 0} {X : Class} {A A' : Language T} {p p' : Reader T} {n : Bool} {F C : Class} (f : T → U)
    → Reads X A A' p p' n F (λ x. C)
    → Reads X (A >>= λ x. done (f x)) (A' >>= λ x. done (f x)) (reader.◌>>=◌ p (λ x. done_at (f x))) (reader.◌>>=◌ p' (λ x. done_at (f x))) (cond n true false) F (λ y. C)
made_reads {n = n} {F = F} {C = C} f one =
    and_then_at one (λ x. done_reads (f x)) F (λ y. C) (λ x. refl) (λ x y. within_self C) (λ x y h. within_self C) (within_self F) (λ x. at n)
  where
    at : (n : Bool) → cond n true true ≡ true
    at true = refl
    at false = refl

-- a token, and then the other
pub token_then : {U : Type 0} {X : Class} {B B' : Token → Language U} {r r' : Token → Reader U} {nB : Bool} {G E : Class} (F : Class)
    → apart F X ≡ true → ((k : Token) → Reads X (B k) (B' k) (r k) (r' k) nB G (λ y. E))
    → Reads X (token F >>= B) (token F >>= B') (reader.◌>>=◌ (token_at F) r) (reader.◌>>=◌ (token_at F) r') false F (λ y. E)
token_then {X = X} {nB = nB} {G = G} F a two = then_reads (token_reads X F a) two (apart_none G) (at nB)
  where
    at : (n : Bool) → cond n true true ≡ true
    at true = refl
    at false = refl

-- a token that stands for a value
pub means_reads : {T : Type 0} {X : Class} (F : Class) (x : T) → apart F X ≡ true → Reads X (means F x) (means F x) (means_at F x) (means_at F x) false F (λ y. [])
means_reads F x a = token_then F a (λ k. done_reads (k.at, x))

-- the one or the other: what the second begins with doesn't begin the first
pub else_reads : {T : Type 0} {X : Class} {A A' : Language T} {p p' : Reader T} {F C : Class}
    {B B' : Language T} {r r' : Reader T} {nB : Bool} {G : Class}
    → Reads X A A' p p' false F (λ x. C) → Reads X B B' r r' nB G (λ x. C)
    → apart G F ≡ true
    → cond nB (within F C) true ≡ true
    → Reads X (either A B) (either A' B') (choose F p r) (choose F p' r') nB (F ++ G) (λ x. C)
else_reads {F = F} {C = C} {nB = nB} {G = G} one two a c =
    or_else_at one two (F ++ G) (λ x. C) a (λ x. within_self C) (λ x. within_self C) (λ x s. empty_or nB (within F C) c (λ is. two.solid is x s)) (within_front F G) (within_append F G G (within_self G))

-- any number: what one begins with doesn't go on with the one before
pub many_read : {T : Type 0} {X : Class} {A A' : Language T} {p p' : Reader T} {F C : Class}
    → Reads X A A' p p' false F (λ x. C) → apart F C ≡ true → Reads X (many A) (many A') (many_at F p) (many_at F p') true F (λ xs. F ++ C)
many_read {F = F} {C = C} one a = as_many one (F ++ C) (λ x. a) (λ x. within_append F C C (within_self C)) (within_front F C)

-- the one, or nothing
pub maybe_reads : {T : Type 0} {X : Class} {A A' : Language T} {p p' : Reader T} {F C : Class}
    → Reads X A A' p p' false F (λ x. C) → Reads X (maybe A) (maybe A') (maybe_at F p) (maybe_at F p') true F (λ x. F ++ C)
maybe_reads {F = F} {C = C} one =
    or_else_at (then_reads one (λ x. done_reads (Some x)) refl (within_append F C C (within_self C))) (done_reads None) F (λ x. F ++ C)
    refl (λ x. within_self (F ++ C)) (λ x. within_self (F ++ C)) (λ x s. within_front F C) (within_self F) refl

-- no room for a token that goes deeper, and what follows it, where the wider language has room for it
pub room_reads : {T : Type 0} (X F : Class) (B B' : Token → Language T) (r r' : Token → Reader T) (C : T → Class)
    → Reads X (never >>= B) (token F >>= B') (reader.◌>>=◌ (no_room F) r) (reader.◌>>=◌ (token_at F) r') false F C
unfolding token ◌>>=◌
room_reads X F B B' r r' C = reads_by (λ ts. stays ts (next_in F ts)) (λ ts. refl)
    (reads_along (never_bind B) (same_itself (token F >>= B')) (no_room_reads X F (token F >>= B') (reader.◌>>=◌ (token_at F) r') (λ k h. inl (inr (k, refl, h))) (inl (inl refl)) refuses C))
  where
    stays : (ts : List Token) (b : Bool) → on_read (cond b (Err (NoRoom, ts)) (Err (Unexpected, ts))) (λ x. r x.0 x.1) ≡ cond b (Err (NoRoom, ts)) (Err (Unexpected, ts))
    stays ts true = refl
    stays ts false = refl

    refuses : (ts : List Token) → next_in F ts ≡ false → on_read (token_at F ts) (λ x. r' x.0 x.1) ≡ Err (Unexpected, ts)
    refuses [] h = refl
    refuses (k ∷ ts) h = rw h refl

-- what lacks a class lacks the empty one
pub lacks_nothing : {T : Type 0} {X : Class} {L M : Language T} {p q : Reader T} {n : Bool} {F : Class} {C : T → Class} → Reads X L M p q n F C → Reads [] L M p q n F C
lacks_nothing r = record {
  empty = r.empty;
  before = r.before;
  lacks = λ u h. lacks_none u;
  solid = r.solid;
  first = r.first;
  whole = r.whole;
  wider = r.wider;
  wider_front = r.wider_front;
  tells = r.tells;
  again = r.again;
  reaches = r.reaches;
  same = r.same;
}

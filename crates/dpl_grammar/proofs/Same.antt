-- Languages that are the same, and what reads them.
-- A rule whose parts begin alike is read as the same language with what they have in common in front.
use Rattle.std.proofs.Common.{inl, inr, Bool, List, [], ◌∷◌, ◌++◌, Ok, Err, refl, sym, ap, ◌∙◌, append_assoc}
use Rattle.dpl_syntax.specs.declared.token.Token.{Token}
use Rattle.dpl_grammar.specs.Classes.{Class}
use Rattle.dpl_grammar.specs.Language.{Language, never, ◌>>=◌, either}
use Rattle.dpl_grammar.specs.Reader.{Read, Reader}
use Rattle.dpl_grammar.specs.Laws.{Tells, Reads}
use Rattle.dpl_grammar.specs.Same.{Same}

pub same_itself : {T : Type 0} (L : Language T) → Same L L
same_itself L = record { there = λ u x h. h; back = λ u x h. h; front_there = λ u h. h; front_back = λ u h. h }

pub same_then : {T : Type 0} {L M N : Language T} → Same L M → Same M N → Same L N
same_then e f = record {
  there = λ u x h. f.there u x (e.there u x h);
  back = λ u x h. e.back u x (f.back u x h);
  front_there = λ u h. f.front_there u (e.front_there u h);
  front_back = λ u h. e.front_back u (f.front_back u h);
}

tells_along : {T : Type 0} {L L' M M' : Language T} → Same L L' → Same M M' → (ts : List Token) (r : Read T) → Tells L' M' ts r → Tells L M ts r
tells_along e f ts (Ok x) h = (h.0, h.1, e.back h.0 x.0 h.2)
tells_along e f ts (Err x) h = (h.0, h.1, e.front_back h.0 h.2, λ is. let d = h.3 is in (d.0, d.1, d.2, f.front_back (h.0 ++ d.0 ∷ []) d.3))

-- what reads a language reads the same language
pub reads_along : {T : Type 0} {X : Class} {L L' M M' : Language T} {p q : Reader T} {n : Bool} {F : Class} {C : T → Class} → Same L L' → Same M M' → Reads X L' M' p q n F C → Reads X L M p q n F C
reads_along {p = p} e f r = record {
  empty = e.front_back [] r.empty;
  before = λ u v h. e.front_back u (r.before u v (e.front_there (u ++ v) h));
  lacks = λ u h. r.lacks u (e.front_there u h);
  solid = λ is x h. r.solid is x (e.there [] x h);
  first = λ k u h. r.first k u (e.front_there (k ∷ u) h);
  whole = λ u x h. e.front_back u (r.whole u x (e.there u x h));
  wider = λ u x h. f.back u x (r.wider u x (e.there u x h));
  wider_front = λ u h. f.front_back u (r.wider_front u (e.front_there u h));
  tells = λ ts. tells_along e f ts (p ts) (r.tells ts);
  again = λ u x rest h. r.again u x rest (e.there u x h);
  reaches = λ u w h. r.reaches u w (e.front_there u h);
  same = r.same;
}

pub never_bind : {T U : Type 0} (B : T → Language U) → Same (never >>= B) never
unfolding never ◌>>=◌
never_bind B = record {
  there = λ u y h. let (a, b, x, is, s, t) = h in absurd s;
  back = λ u y h. absurd h;
  front_there = λ u h. elim h [ inl f ↦ f | inr f ↦ let (a, b, x, is, s, t) = f in absurd s ];
  front_back = λ u h. inl h;
}

pub bind_left : {T U : Type 0} {A A' : Language T} (B : T → Language U) → Same A A' → Same (A >>= B) (A' >>= B)
unfolding ◌>>=◌
bind_left B e = record {
  there = λ u y h. let (a, b, x, is, s, t) = h in (a, b, x, is, e.there a x s, t);
  back = λ u y h. let (a, b, x, is, s, t) = h in (a, b, x, is, e.back a x s, t);
  front_there = λ u h. elim h [ inl f ↦ inl (e.front_there u f) | inr f ↦ let (a, b, x, is, s, t) = f in inr (a, b, x, is, e.there a x s, t) ];
  front_back = λ u h. elim h [ inl f ↦ inl (e.front_back u f) | inr f ↦ let (a, b, x, is, s, t) = f in inr (a, b, x, is, e.back a x s, t) ];
}

pub bind_right : {T U : Type 0} (A : Language T) {B B' : T → Language U} → ((x : T) → Same (B x) (B' x)) → Same (A >>= B) (A >>= B')
unfolding ◌>>=◌
bind_right A e = record {
  there = λ u y h. let (a, b, x, is, s, t) = h in (a, b, x, is, s, (e x).there b y t);
  back = λ u y h. let (a, b, x, is, s, t) = h in (a, b, x, is, s, (e x).back b y t);
  front_there = λ u h. elim h [ inl f ↦ inl f | inr f ↦ let (a, b, x, is, s, t) = f in inr (a, b, x, is, s, (e x).front_there b t) ];
  front_back = λ u h. elim h [ inl f ↦ inl f | inr f ↦ let (a, b, x, is, s, t) = f in inr (a, b, x, is, s, (e x).front_back b t) ];
}

pub bind_assoc : {T U V : Type 0} (A : Language T) (B : T → Language U) (C : U → Language V) → Same ((A >>= B) >>= C) (A >>= λ x. B x >>= C)
unfolding ◌>>=◌
bind_assoc A B C = record {
  there = λ u z h. let (ab, c, y, is, s, t) = h in let (a, b, x, e, p, q) = s in
      (a, b ++ c, x, is ∙ ap (λ (l : List Token). l ++ c) e ∙ append_assoc a b c, p, (b, c, y, refl, q, t));
  back = λ u z h. let (a, bc, x, is, p, s) = h in let (b, c, y, e, q, t) = s in
      (a ++ b, c, y, is ∙ ap (λ (l : List Token). a ++ l) e ∙ sym (append_assoc a b c), (a, b, x, refl, p, q), t);
  front_there = λ u h. elim h [
    | inl f ↦ elim f [ inl g ↦ inl g | inr g ↦ let (a, b, x, e, p, q) = g in inr (a, b, x, e, p, inl q) ]
    | inr f ↦ let (ab, c, y, is, s, t) = f in let (a, b, x, e, p, q) = s in
        inr (a, b ++ c, x, is ∙ ap (λ (l : List Token). l ++ c) e ∙ append_assoc a b c, p, inr (b, c, y, refl, q, t))
  ];
  front_back = λ u h. elim h [
    | inl f ↦ inl (inl f)
    | inr f ↦ let (a, bc, x, is, p, s) = f in elim s [
      | inl g ↦ inl (inr (a, bc, x, is, p, g))
      | inr g ↦ let (b, c, y, e, q, t) = g in inr (a ++ b, c, y, is ∙ ap (λ (l : List Token). a ++ l) e ∙ sym (append_assoc a b c), (a, b, x, refl, p, q), t)
    ]
  ];
}

pub either_same : {T : Type 0} {A A' B B' : Language T} → Same A A' → Same B B' → Same (either A B) (either A' B')
unfolding either
either_same e f = record {
  there = λ u x h. elim h [ inl s ↦ inl (e.there u x s) | inr s ↦ inr (f.there u x s) ];
  back = λ u x h. elim h [ inl s ↦ inl (e.back u x s) | inr s ↦ inr (f.back u x s) ];
  front_there = λ u h. elim h [ inl s ↦ inl (e.front_there u s) | inr s ↦ inr (f.front_there u s) ];
  front_back = λ u h. elim h [ inl s ↦ inl (e.front_back u s) | inr s ↦ inr (f.front_back u s) ];
}

pub either_swap : {T : Type 0} (A B : Language T) → Same (either A B) (either B A)
unfolding either
either_swap A B = record {
  there = λ u x h. elim h [ inl s ↦ inr s | inr s ↦ inl s ];
  back = λ u x h. elim h [ inl s ↦ inr s | inr s ↦ inl s ];
  front_there = λ u h. elim h [ inl s ↦ inr s | inr s ↦ inl s ];
  front_back = λ u h. elim h [ inl s ↦ inr s | inr s ↦ inl s ];
}

-- two that begin alike, read by what they have in common
pub either_bind : {T U : Type 0} (A : Language T) (B C : T → Language U) → Same (either (A >>= B) (A >>= C)) (A >>= λ x. either (B x) (C x))
unfolding either ◌>>=◌
either_bind A B C = record {
  there = λ u y h. elim h [
    | inl s ↦ let (a, b, x, e, p, q) = s in (a, b, x, e, p, inl q)
    | inr s ↦ let (a, b, x, e, p, q) = s in (a, b, x, e, p, inr q)
  ];
  back = λ u y h. let (a, b, x, e, p, q) = h in elim q [ inl r ↦ inl (a, b, x, e, p, r) | inr r ↦ inr (a, b, x, e, p, r) ];
  front_there = λ u h. elim h [
    | inl s ↦ elim s [ inl f ↦ inl f | inr f ↦ let (a, b, x, e, p, q) = f in inr (a, b, x, e, p, inl q) ]
    | inr s ↦ elim s [ inl f ↦ inl f | inr f ↦ let (a, b, x, e, p, q) = f in inr (a, b, x, e, p, inr q) ]
  ];
  front_back = λ u h. elim h [
    | inl f ↦ inl (inl f)
    | inr s ↦ let (a, b, x, e, p, q) = s in elim q [ inl r ↦ inl (inr (a, b, x, e, p, r)) | inr r ↦ inr (inr (a, b, x, e, p, r)) ]
  ];
}

-- what follows either of two follows each
pub bind_either : {T U : Type 0} (X Y : Language T) (B : T → Language U) → Same (either X Y >>= B) (either (X >>= B) (Y >>= B))
unfolding either ◌>>=◌
bind_either X Y B = record {
  there = λ u y h. let (a, b, x, e, p, q) = h in elim p [ inl s ↦ inl (a, b, x, e, s, q) | inr s ↦ inr (a, b, x, e, s, q) ];
  back = λ u y h. elim h [ inl s ↦ let (a, b, x, e, p, q) = s in (a, b, x, e, inl p, q) | inr s ↦ let (a, b, x, e, p, q) = s in (a, b, x, e, inr p, q) ];
  front_there = λ u h. elim h [
    | inl f ↦ elim f [ inl g ↦ inl (inl g) | inr g ↦ inr (inl g) ]
    | inr f ↦ let (a, b, x, e, p, q) = f in elim p [ inl s ↦ inl (inr (a, b, x, e, s, q)) | inr s ↦ inr (inr (a, b, x, e, s, q)) ]
  ];
  front_back = λ u h. elim h [
    | inl f ↦ elim f [ inl g ↦ inl (inl g) | inr g ↦ let (a, b, x, e, p, q) = g in inr (a, b, x, e, inl p, q) ]
    | inr f ↦ elim f [ inl g ↦ inl (inr g) | inr g ↦ let (a, b, x, e, p, q) = g in inr (a, b, x, e, inr p, q) ]
  ];
}

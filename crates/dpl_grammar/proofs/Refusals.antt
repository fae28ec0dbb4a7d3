-- Tokens have one refusal at the most, and then spell no value of so many levels.
-- With the reader's own answer: they have one or the other.
use Rattle.std.proofs.Common.{◌≡◌, ◌⊎◌, inl, inr, ℕ, suc, Bool, List, [], ◌∷◌, ◌++◌, Option, Some, None, Ok, Err, refl, sym, ap, subst, ◌∙◌, append_assoc}
use Rattle.std.proofs.lemmas.List.{append-nil}
use Rattle.dpl_syntax.specs.declared.place.Place.{Place}
use Rattle.dpl_syntax.specs.declared.token.Kind.TheVariants.{End}
use Rattle.dpl_syntax.specs.declared.token.Token.{Token}
use Rattle.dpl_syntax.specs.declared.refusal.Code.{Code}
use Rattle.dpl_syntax.specs.declared.refusal.Code.TheVariants.{Unexpected as UnexpectedCode, TooDeep}
use Rattle.dpl_syntax.specs.declared.refusal.Refusal.{Refusal}
use Rattle.dpl_grammar.specs.Classes.{Class}
use Rattle.dpl_grammar.specs.Language.{Language}
use Rattle.dpl_grammar.specs.Reader.{Cause, Unexpected, NoRoom, Read, Reader, rest_of}
use Rattle.dpl_grammar.specs.Laws.{Tells, Reads}
use Rattle.dpl_grammar.specs.Gives.{place_of, code_of}
use Rattle.dpl_grammar.specs.Parsing.{Spells, IsFront, IsUnexpected, IsTooDeep, IsUnended, RefusesBy, Refuses}
use Rattle.dpl_grammar.proofs.Lists.{cuts}
use Rattle.dpl_grammar.proofs.Depths as depths

-- the tokens before a token are a front within so many levels, and with it they are none
record IsStop {T : Type 0} (L : ℕ → Language T) (levels : ℕ) (tokens before : List Token) (token : Token) : Type 0 where
  after : List Token
  split : tokens ≡ before ++ token ∷ after
  begins : IsFront L levels before
  ends : IsFront L levels (before ++ token ∷ []) → ⊥

-- a refusal, by its cause
abbrev Causes : {T : Type 0} → (ℕ → Language T) → ℕ → List Token → Refusal → Type 0
Causes L n ts r = ((at : Place) × (r ≡ record { code = UnexpectedCode; place = Some at }) × IsUnexpected L n ts at)
    ⊎ (((r ≡ record { code = UnexpectedCode; place = None }) × IsUnended L n ts)
    ⊎ ((at : Place) × (r ≡ record { code = TooDeep; place = Some at }) × IsTooDeep L n ts at))

module _ {T : Type 0} {L : ℕ → Language T} (n : ℕ) where
  unexpected_stop : (ts : List Token) (at : Place) (h : IsUnexpected L n ts at) → IsStop L n ts h.stop.before h.stop.token
  unexpected_stop ts at h = record { after = h.stop.after; split = h.stop.split; begins = h.stop.begins; ends = h.no_front n }

  deep_stop : (ts : List Token) (at : Place) (h : IsTooDeep L n ts at) → IsStop L n ts h.stop.before h.stop.token
  deep_stop ts at h = record { after = h.stop.after; split = h.stop.split; begins = h.stop.begins; ends = h.no_room }

  causes : (ts : List Token) (code : Code) (place : Option Place) → RefusesBy L n ts code place → Causes L n ts (record { code = code; place = place })
  causes ts UnexpectedCode (Some at) h = inl (at, refl, h)
  causes ts UnexpectedCode None h = inr (inl (refl, h))
  causes ts TooDeep (Some at) h = inr (inr (at, refl, h))
  causes ts TooDeep None h = absurd h
  causes ts _ _ h = absurd h

-- A refusal of tokens whose last one is END has a place, where a front whose last token is END is whole.
pub refusal_placed : {T : Type 0} (L : ℕ → Language T) (n : ℕ) → ((u : List Token) (k : Token) → k.kind ≡ End → IsFront L n (u ++ k ∷ []) → (x : T) × Spells L n (u ++ k ∷ []) x)
    → (u : List Token) (k : Token) (r : Refusal) → k.kind ≡ End → Refuses L n (u ++ k ∷ []) r → (at : Place) × (r.place ≡ Some at)
refusal_placed L n ended u k r is g = at (causes n (u ++ k ∷ []) r.code r.place g)
  where
    at : Causes L n (u ++ k ∷ []) r → (at : Place) × (r.place ≡ Some at)
    at (inl (a, e, x)) = (a, ap (λ (q : Refusal). q.place) e)
    at (inr (inl (e, x))) = let t = ended u k is x.begins in absurd (x.not_spelled n t.0 t.1)
    at (inr (inr (a, e, x))) = (a, ap (λ (q : Refusal). q.place) e)

module _ {T : Type 0} {X : Class} {L : ℕ → Language T} {p : ℕ → Reader T} {empty : Bool} {F C : Class}
    (every : (d : ℕ) → Reads X (L d) (L (suc d)) (p d) (p (suc d)) empty F (λ x. C)) (n : ℕ) where
  -- no front goes on behind a stop
  stop_end : (ts u : List Token) (k : Token) → IsStop L n ts u k → IsFront L n ts → ⊥
  stop_end ts u k h f =
      let whole : ts ≡ (u ++ k ∷ []) ++ h.after = h.split ∙ sym (append_assoc u (k ∷ []) h.after) in
      h.ends ((every n).before (u ++ k ∷ []) h.after (rw whole at f))

  stop_behind : (u v c w : List Token) (k : Token) → (IsFront L n (u ++ k ∷ []) → ⊥) → v ≡ u ++ k ∷ c → IsFront L n v → ⊥
  stop_behind u v c w k not e f =
      let whole : v ≡ (u ++ k ∷ []) ++ c = e ∙ sym (append_assoc u (k ∷ []) c) in
      not ((every n).before (u ++ k ∷ []) c (rw whole at f))

  -- there is one stop
  stop_one : (ts u v : List Token) (k j : Token) → IsStop L n ts u k → IsStop L n ts v j → (u ≡ v) × (k ≡ j)
  stop_one ts u v k j g h = elim (cuts u (k ∷ g.after) v (j ∷ h.after) (sym g.split ∙ h.split)) [
    | inl x ↦ forward u v k j g.after h.after x.0 x.1 x.2 g.ends h.begins
    | inr x ↦ let same = forward v u j k h.after g.after x.0 x.1 x.2 h.ends g.begins in (sym same.0, sym same.1)
  ]
    where
      forward : (u v : List Token) (k j : Token) (w x c : List Token) → v ≡ u ++ c → k ∷ w ≡ c ++ j ∷ x → (IsFront L n (u ++ k ∷ []) → ⊥) → IsFront L n v → (u ≡ v) × (k ≡ j)
      forward u v k j w x [] e is not f = (sym (e ∙ append-nil u), cc)
      forward u v k j w x (i ∷ c) e is not f = let same : k ≡ i = cc in absurd (stop_behind u v c w k not (rw same e) f)

  -- two refusals at one place
  same_unexpected : (ts : List Token) (a b : Place) → IsUnexpected L n ts a → IsUnexpected L n ts b → a ≡ b
  same_unexpected ts a b g h =
      let one = stop_one ts g.stop.before h.stop.before g.stop.token h.stop.token (unexpected_stop n ts a g) (unexpected_stop n ts b h) in
      g.stop.place ∙ ap (λ (k : Token). k.at) one.1 ∙ sym h.stop.place

  same_deep : (ts : List Token) (a b : Place) → IsTooDeep L n ts a → IsTooDeep L n ts b → a ≡ b
  same_deep ts a b g h =
      let one = stop_one ts g.stop.before h.stop.before g.stop.token h.stop.token (deep_stop n ts a g) (deep_stop n ts b h) in
      g.stop.place ∙ ap (λ (k : Token). k.at) one.1 ∙ sym h.stop.place

  not_both : (ts : List Token) (a b : Place) → IsUnexpected L n ts a → IsTooDeep L n ts b → ⊥
  not_both ts a b g h =
      let one = stop_one ts g.stop.before h.stop.before g.stop.token h.stop.token (unexpected_stop n ts a g) (deep_stop n ts b h) in
      g.no_front (suc n) (rw (one.0, one.1) h.deeper)

  -- Tokens have one refusal at the most.
  pub refusal_one : (ts : List Token) (r s : Refusal) → Refuses L n ts r → Refuses L n ts s → r ≡ s
  refusal_one ts r s g h = at (causes n ts r.code r.place g) (causes n ts s.code s.place h)
    where
      at : Causes L n ts r → Causes L n ts s → r ≡ s
      at (inl (a, e, x)) (inl (b, f, y)) = e ∙ ap (λ (p : Place). record { code = UnexpectedCode; place = Some p }) (same_unexpected ts a b x y) ∙ sym f
      at (inl (a, e, x)) (inr (inl (f, y))) = absurd (stop_end ts x.stop.before x.stop.token (unexpected_stop n ts a x) y.begins)
      at (inl (a, e, x)) (inr (inr (b, f, y))) = absurd (not_both ts a b x y)
      at (inr (inl (e, x))) (inl (b, f, y)) = absurd (stop_end ts y.stop.before y.stop.token (unexpected_stop n ts b y) x.begins)
      at (inr (inl (e, x))) (inr (inl (f, y))) = e ∙ sym f
      at (inr (inl (e, x))) (inr (inr (b, f, y))) = absurd (stop_end ts y.stop.before y.stop.token (deep_stop n ts b y) x.begins)
      at (inr (inr (a, e, x))) (inl (b, f, y)) = absurd (not_both ts b a y x)
      at (inr (inr (a, e, x))) (inr (inl (f, y))) = absurd (stop_end ts x.stop.before x.stop.token (deep_stop n ts a x) y.begins)
      at (inr (inr (a, e, x))) (inr (inr (b, f, y))) = e ∙ ap (λ (p : Place). record { code = TooDeep; place = Some p }) (same_deep ts a b x y) ∙ sym f

  -- What is refused spells no value of so many levels.
  pub refused_unspelled : (ts : List Token) (r : Refusal) (x : T) → Refuses L n ts r → Spells L n ts x → ⊥
  refused_unspelled ts r t g s = at (causes n ts r.code r.place g) ((every n).whole ts t s)
    where
      at : Causes L n ts r → IsFront L n ts → ⊥
      at (inl (a, e, x)) f = stop_end ts x.stop.before x.stop.token (unexpected_stop n ts a x) f
      at (inr (inl (e, x))) f = x.not_spelled n t s
      at (inr (inr (a, e, x))) f = stop_end ts x.stop.before x.stop.token (deep_stop n ts a x) f

  -- of what is read

  -- where reading stops for a cause, that is the refusal
  pub stopped_refused : (ts rest : List Token) (c : Cause) → p n ts ≡ Err (c, rest) → Refuses L n ts (record { code = code_of c; place = place_of rest })
  stopped_refused ts rest Unexpected is = at rest (subst (Tells (L n) (L (suc n)) ts) is ((every n).tells ts)) is
    where
      at : (rest : List Token) → Tells (L n) (L (suc n)) ts (Err (Unexpected, rest)) → p n ts ≡ Err (Unexpected, rest) → Refuses L n ts (record { code = UnexpectedCode; place = place_of rest })
      at [] h is = record {
        begins = rw (h.1, append-nil h.0) h.2;
        not_spelled = λ d x s. depths.read_unspelled every n d ts [] x is s;
      }
      at (k ∷ rest) h is = record {
        stop = record {
          before = h.0;
          token = k;
          after = rest;
          split = h.1;
          place = refl;
          begins = h.2;
        };
        no_front = λ d f. depths.stops_no_front_at_all every n d h.0 rest k (Err (Unexpected, k ∷ rest)) (λ l e. depths.not_room (k ∷ rest) l e) refl (ap (p n) (sym h.1) ∙ is) f;
      }
  stopped_refused ts rest NoRoom is = at rest (subst (Tells (L n) (L (suc n)) ts) is ((every n).tells ts)) is
    where
      at : (rest : List Token) → Tells (L n) (L (suc n)) ts (Err (NoRoom, rest)) → p n ts ≡ Err (NoRoom, rest) → Refuses L n ts (record { code = TooDeep; place = place_of rest })
      at [] h is = let x = h.3 refl in absurd cc
      at (k ∷ rest) h is =
          let x = h.3 refl in
          let same : k ≡ x.0 = cc in
          record {
            stop = record {
              before = h.0;
              token = k;
              after = rest;
              split = h.1;
              place = refl;
              begins = h.2;
            };
            no_room = λ f. depths.stops_no_front every n h.0 rest k (ap (λ (l : List Token). rest_of (p n l)) (sym h.1) ∙ ap rest_of is) f;
            deeper = rw same x.3;
          }

  -- where tokens are left behind the value, the first of them is the refusal
  pub left_refused : (ts rest : List Token) (x : T) (k : Token) → p n ts ≡ Ok (x, k ∷ rest) → Refuses L n ts (record { code = UnexpectedCode; place = Some k.at })
  left_refused ts rest x k is =
      let h = subst (Tells (L n) (L (suc n)) ts) is ((every n).tells ts) in
      record {
        stop = record {
          before = h.0;
          token = k;
          after = rest;
          split = h.1;
          place = refl;
          begins = (every n).whole h.0 x h.2;
        };
        no_front = λ d f. depths.stops_no_front_at_all every n d h.0 rest k (Ok (x, k ∷ rest)) (λ l e. absurd cc) refl (ap (p n) (sym h.1) ∙ is) f;
      }

  -- Tokens spell a value of so many levels, or have a refusal.
  pub spelled_or_refused : (ts : List Token) → ((x : T) × Spells L n ts x) ⊎ ((r : Refusal) × Refuses L n ts r)
  spelled_or_refused ts = at (p n ts) refl
    where
      at : (r : Read T) → p n ts ≡ r → ((x : T) × Spells L n ts x) ⊎ ((r : Refusal) × Refuses L n ts r)
      at (Ok (x, [])) is = inl (x, depths.read_spelled every n ts x is)
      at (Ok (x, k ∷ rest)) is = inr (record { code = UnexpectedCode; place = Some k.at }, left_refused ts rest x k is)
      at (Err (c, rest)) is = inr (record { code = code_of c; place = place_of rest }, stopped_refused ts rest c is)

-- Places of a value that are those of some of the tokens that spell it, in their order: one lemma for each thing that a rule is made of,
-- so that a grammar shows it rule by rule. What is true of a value whatever its tokens are is told by proofs/Values.antt of dpl_grammar.
use Rattle.std.proofs.Common.{◌≡◌, inl, inr, Bool, true, false, not, List, [], ◌∷◌, ◌++◌, refl, sym, subst, append_assoc}
use Rattle.std.specs.Prelude.{flat_map}
use Rattle.std.proofs.lemmas.List.{map-append, append-nil}
use Rattle.dpl_syntax.specs.declared.token.Token.{Token}
use Rattle.dpl_syntax.specs.declared.place.Place.{Place}
use Rattle.dpl_grammar.specs.Classes.{Class}
use Rattle.dpl_grammar.specs.Each.{Each}
use Rattle.dpl_grammar.specs.Language as language
use Rattle.dpl_grammar.specs.Language.{Language, SpellsEach}
use Rattle.dpl_grammar.specs.Rule.{Names, Rule, token, below, either, many, whole, ◌⟶◌, Parts, none, ◌⨾◌, ◌↓◌, Late, closed, lower, choice, ended, dangling, means, Deep, where_room, extension, spelled, spelled_parts, spelled_late}
use Rattle.dpl_grammar.proofs.Values.{Holds, OfRule, of_any}
use Rattle.dpl_places.specs.Rising.{IsPart}
use Rattle.dpl_places.proofs.Parts.{part-none, part-both}
use Rattle.dpl_places.proofs.Tokens.{places}

-- Of each value of a language that stands behind others: where these have some places, it has some, `taken`, theirs among them.
pub record TakesBehind {T : Type 0} (before : List Place) (L : Language T) (taken : T → List Place) : Type 0 where
  pub holds : (v u : List Token) (x : T) → L.Spells u x → IsPart before (places v) → IsPart (taken x) (places (v ++ u))

-- of each value of a language
abbrev pub Takes : {T : Type 0} → Language T → (T → List Place) → Type 0
Takes L taken = TakesBehind [] L taken

-- tokens of which nothing is asked
abbrev pub Anything : Token → Type 0
Anything k = Unit {0}

each-anything : (u : List Token) → Each Anything u
each-anything [] = tt
each-anything (k ∷ u) = (tt, each-anything u)

-- ---- lists of tokens
both-taken : (ps qs : List Place) (u v : List Token) → IsPart ps (places u) → IsPart qs (places v) → IsPart (ps ++ qs) (places (u ++ v))
both-taken ps qs u v h k = subst (IsPart (ps ++ qs)) (sym (map-append (λ k. k.at) u v)) (part-both ps qs (places u) (places v) h k)

first-taken : (ps : List Place) (u v : List Token) → IsPart ps (places u) → IsPart ps (places (u ++ v))
first-taken ps u v h = subst (λ qs. IsPart qs (places (u ++ v))) (append-nil ps) (both-taken ps [] u v h (part-none (places v)))

-- ---- languages
-- behind others whose places are kept: its places are taken, or it has none
takes_more : {T : Type 0} {L : Language T} {taken : T → List Place} (before : List Place) → Takes L taken → TakesBehind before L (λ x. before ++ taken x)
takes_more {taken = taken} before h = record { holds = λ v u x s part. both-taken before (taken x) v u part (h.holds [] u x s refl) }

takes_none : {T : Type 0} {L : Language T} (before : List Place) → TakesBehind before L (λ x. before)
takes_none before = record { holds = λ v u x s part. first-taken before v u part }

then_takes : {A T : Type 0} {L : Language A} {M : A → Language T} {before : List Place} {between : A → List Place} {taken : T → List Place} (Q : A → Type 0)
    → TakesBehind before L between → Holds Anything L Q → ((a : A) → Q a → TakesBehind (between a) (M a) taken) → TakesBehind before (language.◌>>=◌ L M) taken
unfolding language.◌>>=◌
then_takes {A = A} {T = T} {L = L} {M = M} {before = before} {taken = taken} Q h q k = record { holds = λ v u y s part. by v u y s part }
  where
    by : (v u : List Token) (y : T) → ((a b : List Token) × (x : A) × (u ≡ a ++ b) × L.Spells a x × (M x).Spells b y) → IsPart before (places v) → IsPart (taken y) (places (v ++ u))
    by v u y (a, b, x, e, s, t) part =
        let all : IsPart (taken y) (places ((v ++ a) ++ b)) = (k x (q a x s (each-anything a))).holds (v ++ a) b y t (h.holds v a x s part) in
        subst (λ w. IsPart (taken y) (places (v ++ w))) (sym e) (subst (λ w. IsPart (taken y) (places w)) (append_assoc v a b) all)

then_any : {A T : Type 0} {L : Language A} {M : A → Language T} {before : List Place} {between : A → List Place} {taken : T → List Place}
    → TakesBehind before L between → ((a : A) → TakesBehind (between a) (M a) taken) → TakesBehind before (language.◌>>=◌ L M) taken
then_any h k = then_takes (λ a. Unit {0}) h (λ u x s all. tt) (λ a q. k a)

token_takes : (class : Class) → Takes (language.token class) (λ k. k.at ∷ [])
unfolding language.token
token_takes class = record { holds = λ v u k s part. subst (λ w. IsPart (k.at ∷ []) (places (v ++ w))) (sym s.0) (both-taken [] (k.at ∷ []) v (k ∷ []) part (inl (refl, refl))) }

done_takes : {T : Type 0} {x : T} {before : List Place} (taken : T → List Place) → taken x ≡ before → TakesBehind before (language.done x) taken
unfolding language.done
done_takes taken e =
    record { holds = λ v u y s part. first-taken (taken y) v u (subst (λ z. IsPart (taken z) (places v)) (sym s.1) (subst (λ ps. IsPart ps (places v)) (sym e) part)) }

pub never_takes : {T : Type 0} (taken : T → List Place) → Takes language.never taken
unfolding language.never
never_takes taken = record { holds = λ v u x s part. absurd s }

either_takes : {T : Type 0} {L M : Language T} {before : List Place} {taken : T → List Place} → TakesBehind before L taken → TakesBehind before M taken → TakesBehind before (language.either L M) taken
unfolding language.either
either_takes h k = record { holds = λ v u x s part. elim s [ inl a ↦ h.holds v u x a part | inr b ↦ k.holds v u x b part ] }

each_takes : {T : Type 0} {L : Language T} {taken : T → List Place} → Takes L taken → (u : List Token) (xs : List T) → SpellsEach L u xs → IsPart (flat_map taken xs) (places u)
each_takes h u [] s = part-none (places u)
each_takes {taken = taken} h u (x ∷ xs) (a, b, e, s, more) =
    subst (λ w. IsPart (flat_map taken (x ∷ xs)) (places w)) (sym e) (both-taken (taken x) (flat_map taken xs) a b (h.holds [] a x s refl) (each_takes h b xs more))

many_takes : {T : Type 0} {L : Language T} {taken : T → List Place} → Takes L taken → Takes (language.many L) (flat_map taken)
unfolding language.many
many_takes {taken = taken} h = record { holds = λ v u xs s part. both-taken [] (flat_map taken xs) v u part (each_takes h u xs s) }

room_takes : (room : Bool) (class : Class) → Takes (where_room room class) (λ k. k.at ∷ [])
room_takes true class = token_takes class
room_takes false class = never_takes (λ k. k.at ∷ [])

extension_takes : {B T : Type 0} (may : Bool) {b : Language B} {f : B → T} {x : T} {before : List Place} {second : B → List Place} (taken : T → List Place)
    → Takes b second → ((y : B) → taken (f y) ≡ before ++ second y) → taken x ≡ before → TakesBehind before (extension may b f x) taken
extension_takes true {before = before} taken h k e = either_takes (then_any (takes_more before h) (λ y. done_takes taken (k y))) (done_takes taken e)
extension_takes false taken h k e = done_takes taken e

-- ---- rules
module _ {W : Names} (deep : Deep W) where
  pub record RuleTakes {T : Type 0} (r : Rule W T) (taken : T → List Place) : Type 0 where
    pub takes : Takes (spelled r deep) taken

  pub record PartsTake {R T : Type 0} (parts : Parts W R T) (f : R) (before : List Place) (taken : T → List Place) : Type 0 where
    pub takes : TakesBehind before (spelled_parts parts f deep) taken

  pub record LateTakes {T : Type 0} {lets : T → Bool} (a : Late W T lets) (taken : T → List Place) : Type 0 where
    pub takes : Takes (spelled_late a deep) taken

module _ {W : Names} {deep : Deep W} where
  pub of_token : {class : Class} → RuleTakes deep (token class) (λ k. k.at ∷ [])
  of_token {class = class} = record { takes = token_takes class }

  -- what has no places that are asked for
  pub of_nowhere : {T : Type 0} {r : Rule W T} → RuleTakes deep r (λ x. [])
  of_nowhere = record { takes = takes_none [] }

  pub of_either : {T : Type 0} {a b : Rule W T} {taken : T → List Place} → RuleTakes deep a taken → RuleTakes deep b taken → RuleTakes deep (either a b) taken
  of_either h k = record { takes = either_takes h.takes k.takes }

  pub of_many : {T : Type 0} {a : Rule W T} {taken : T → List Place} → RuleTakes deep a taken → RuleTakes deep (many a) (flat_map taken)
  of_many h = record { takes = many_takes h.takes }

  pub of_whole : {T : Type 0} {lets : T → Bool} {a : Late W T lets} {taken : T → List Place} → LateTakes deep a taken → RuleTakes deep (whole a) taken
  of_whole h = record { takes = h.takes }

  -- parts: a rule whose places are taken, of whose value something is true, and a rule whose places are not
  pub of_none : {T : Type 0} {x : T} {before : List Place} {taken : T → List Place} → taken x ≡ before → PartsTake deep none x before taken
  of_none e = record { takes = done_takes _ e }

  pub of_both : {A R T : Type 0} {a : Rule W A} {parts : Parts W R T} {f : A → R} {before : List Place} {first : A → List Place} {taken : T → List Place} {Q : A → Type 0}
      → RuleTakes deep a first → OfRule deep Anything a Q → ((x : A) → Q x → PartsTake deep parts (f x) (before ++ first x) taken) → PartsTake deep (a ⨾ parts) f before taken
  of_both {before = before} h q k = record { takes = then_takes _ (takes_more before h.takes) q.holds (λ x p. (k x p).takes) }

  pub of_part : {A R T : Type 0} {a : Rule W A} {parts : Parts W R T} {f : A → R} {before : List Place} {first : A → List Place} {taken : T → List Place}
      → RuleTakes deep a first → ((x : A) → PartsTake deep parts (f x) (before ++ first x) taken) → PartsTake deep (a ⨾ parts) f before taken
  of_part h k = of_both h of_any (λ x q. k x)

  pub of_made : {A R T : Type 0} {a : Rule W A} {parts : Parts W R T} {f : A → R} {before : List Place} {taken : T → List Place} {Q : A → Type 0}
      → OfRule deep Anything a Q → ((x : A) → Q x → PartsTake deep parts (f x) before taken) → PartsTake deep (a ⨾ parts) f before taken
  of_made {before = before} q k = record { takes = then_takes _ (takes_none before) q.holds (λ x p. (k x p).takes) }

  pub of_skip : {A R T : Type 0} {a : Rule W A} {parts : Parts W R T} {f : A → R} {before : List Place} {taken : T → List Place}
      → ((x : A) → PartsTake deep parts (f x) before taken) → PartsTake deep (a ⨾ parts) f before taken
  of_skip k = of_made of_any (λ x q. k x)

  -- the same of a token that opens one more level
  pub of_deeper : {R T : Type 0} {class : Class} {parts : Parts W R T} {f : Token → R} {before : List Place} {taken : T → List Place}
      → ((k : Token) → PartsTake deep parts (f k) (before ++ k.at ∷ []) taken) → PartsTake deep (class ↓ parts) f before taken
  of_deeper {class = class} {before = before} h = record { takes = then_any (takes_more before (room_takes deep.room class)) (λ k. (h k).takes) }

  pub of_deeper_skip : {R T : Type 0} {class : Class} {parts : Parts W R T} {f : Token → R} {before : List Place} {taken : T → List Place}
      → ((k : Token) → PartsTake deep parts (f k) before taken) → PartsTake deep (class ↓ parts) f before taken
  of_deeper_skip {before = before} h = record { takes = then_any (takes_none before) (λ k. (h k).takes) }

  pub of_parts : {R T : Type 0} {parts : Parts W R T} {f : R} {taken : T → List Place} → PartsTake deep parts f [] taken → RuleTakes deep (parts ⟶ f) taken
  of_parts h = record { takes = h.takes }

  pub of_means : {T : Type 0} {class : Class} {x : T} → RuleTakes deep (means class x) (λ w. w.0 ∷ [])
  of_means = of_parts (of_part of_token (λ k. of_none refl))

  -- rules with late tokens
  pub of_closed : {T : Type 0} {lets : T → Bool} {a : Rule W T} {taken : T → List Place} → RuleTakes deep a taken → LateTakes deep (closed {lets = lets} a) taken
  of_closed h = record { takes = h.takes }

  pub of_lower : (n : W.Name) (taken : W.Value n → List Place) → RuleTakes deep (below n) taken → LateTakes deep (lower n) taken
  of_lower n taken h = record { takes = h.takes }

  pub of_choice : {T : Type 0} {lets : T → Bool} {a b : Late W T lets} {taken : T → List Place} → LateTakes deep a taken → LateTakes deep b taken → LateTakes deep (choice a b) taken
  of_choice h k = record { takes = either_takes h.takes k.takes }

  pub of_ended : {A B T : Type 0} {last_lets : B → Bool} {lets : T → Bool} {a : Rule W A} {b : Late W B last_lets} {f : A → B → T} {e : (x : A) (y : B) → lets (f x y) ≡ last_lets y}
      (first : A → List Place) (second : B → List Place) {taken : T → List Place}
      → RuleTakes deep a first → LateTakes deep b second → ((x : A) (y : B) → taken (f x y) ≡ first x ++ second y) → LateTakes deep (ended {lets = lets} a b f e) taken
  of_ended first second h k q =
      record { takes = then_any (takes_more [] h.takes) (λ x. then_any (takes_more (first x) k.takes) (λ y. done_takes _ (q x y))) }

  pub of_dangling : {A B T : Type 0} {first_lets : A → Bool} {second_lets : B → Bool} {lets : T → Bool} {a : Late W A first_lets} {b : Late W B second_lets}
      {alone : A → T} {both : A → B → T} {e : (x : A) → lets (alone x) ≡ true} {g : (x : A) (y : B) → lets (both x y) ≡ second_lets y}
      (first : A → List Place) (second : B → List Place) {taken : T → List Place}
      → LateTakes deep a first → LateTakes deep b second → ((x : A) → taken (alone x) ≡ first x) → ((x : A) (y : B) → taken (both x y) ≡ first x ++ second y)
      → LateTakes deep (dangling {lets = lets} a b alone both e g) taken
  of_dangling {first_lets = first_lets} first second h k q r =
      record { takes = then_any (takes_more [] h.takes) (λ x. extension_takes (not (first_lets x)) _ k.takes (r x) (q x)) }

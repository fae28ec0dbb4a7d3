-- What is true of each value that a rule spells, where something is true of each of its tokens.
-- One lemma for each thing that a rule is made of, so that a grammar shows what is true of its trees rule by rule.
use Rattle.std.proofs.Common.{◌≡◌, inl, inr, Bool, true, false, not, List, [], ◌∷◌, ◌++◌, sym, subst}
use Rattle.dpl_syntax.specs.declared.token.Token.{Token}
use Rattle.dpl_syntax.specs.declared.place.Place.{Place}
use Rattle.dpl_grammar.specs.Classes.{Class, in_class}
use Rattle.dpl_grammar.specs.Each.{Each, IfThere}
use Rattle.dpl_grammar.specs.Language as language
use Rattle.dpl_grammar.specs.Language.{Language, SpellsEach, SpellsRun}
use Rattle.dpl_grammar.specs.Rule.{Names, Rule, token, below, either, many, run, complete, whole, ◌⟶◌, Parts, none, ◌⨾◌, ◌↓◌, Late, closed, opened, lower, choice, ended, dangling, Beginning, Whole, Begun, done, maybe, means, Deep, where_room, extension, completion, spelled, spelled_parts, spelled_late}

Each-front : {A : Type 0} (P : A → Type 0) (a b : List A) → Each P (a ++ b) → Each P a
Each-front P [] b h = tt
Each-front P (x ∷ a) b h = (h.0, Each-front P a b h.1)

Each-rest : {A : Type 0} (P : A → Type 0) (a b : List A) → Each P (a ++ b) → Each P b
Each-rest P [] b h = h
Each-rest P (x ∷ a) b h = Each-rest P a b h.1

-- of the beginning of a value: of a whole one what is true of values, and else what is true of what is begun
abbrev pub Begins : {B T : Type 0} → (B → Type 0) → (T → Type 0) → Beginning B T → Type 0
Begins PB Q (Whole x) = Q x
Begins PB Q (Begun b) = PB b

-- of each value of a language, spelled by tokens of which something is true
abbrev pub Holds : {T : Type 0} → (Token → Type 0) → Language T → (T → Type 0) → Type 0
Holds {T = T} P L Q = (u : List Token) (x : T) → L.Spells u x → Each P u → Q x

module _ (P : Token → Type 0) where
  -- one language and then another
  then_holds : {A T : Type 0} (L : Language A) (M : A → Language T) (PA : A → Type 0) (Q : T → Type 0) → Holds P L PA → ((a : A) → PA a → Holds P (M a) Q) → Holds P (language.◌>>=◌ L M) Q
  unfolding language.◌>>=◌
  then_holds L M PA Q h k u y (a, b, x, e, s, t) all =
      let both : Each P (a ++ b) = subst (Each P) e all in
      k x (h a x s (Each-front P a b both)) b y t (Each-rest P a b both)

  token_holds : (class : Class) → Holds P (language.token class) P
  unfolding language.token
  token_holds class u k s all = (subst (Each P) s.0 all).0

  done_holds : {T : Type 0} (x : T) (Q : T → Type 0) → Q x → Holds P (language.done x) Q
  unfolding language.done
  done_holds x Q q u y s all = subst Q (sym s.1) q

  pub never_holds : {T : Type 0} (Q : T → Type 0) → Holds P language.never Q
  unfolding language.never
  never_holds Q u x s all = absurd s

  either_holds : {T : Type 0} (L M : Language T) (Q : T → Type 0) → Holds P L Q → Holds P M Q → Holds P (language.either L M) Q
  unfolding language.either
  either_holds L M Q h k u x (inl s) all = h u x s all
  either_holds L M Q h k u x (inr s) all = k u x s all

  each_holds : {T : Type 0} (L : Language T) (Q : T → Type 0) → Holds P L Q → (u : List Token) (xs : List T) → SpellsEach L u xs → Each P u → Each Q xs
  each_holds L Q h u [] s all = tt
  each_holds L Q h u (x ∷ xs) (a, b, e, s, more) all =
      let both : Each P (a ++ b) = subst (Each P) e all in
      (h a x s (Each-front P a b both), each_holds L Q h b xs more (Each-rest P a b both))

  many_holds : {T : Type 0} (L : Language T) (Q : T → Type 0) → Holds P L Q → Holds P (language.many L) (Each Q)
  unfolding language.many
  many_holds L Q h u xs s all = each_holds L Q h u xs s all

  run_each : {T : Type 0} (L : Language T) (more : T → Bool) (Q : T → Type 0) → Holds P L Q → (u : List Token) (xs : List T) → SpellsRun L more u xs → Each P u → Each Q xs
  run_each L more Q h u [] s all = tt
  run_each L more Q h u (x ∷ xs) (a, b, e, s, lets, rest) all =
      let both : Each P (a ++ b) = subst (Each P) e all in
      (h a x s (Each-front P a b both), run_each L more Q h b xs rest (Each-rest P a b both))

  run_holds : {T : Type 0} (more : T → Bool) (L : Language T) (Q : T → Type 0) → Holds P L Q → Holds P (language.run more L) (Each Q)
  unfolding language.run
  run_holds more L Q h u xs s all = run_each L more Q h u xs s all

  completion_holds : {B T : Type 0} (b : Language (B → T)) (PB : B → Type 0) (Q : T → Type 0) → Holds P b (λ h. (y : B) → PB y → Q (h y))
      → (x : Beginning B T) → Begins PB Q x → Holds P (completion b x) Q
  completion_holds b PB Q k (Whole x) q = done_holds x Q q
  completion_holds b PB Q k (Begun y) q = then_holds b _ (λ h. (y : _) → PB y → Q (h y)) Q k (λ h q1. done_holds (h y) Q (q1 y q))

  room_holds : (room : Bool) (class : Class) → Holds P (where_room room class) P
  room_holds true class = token_holds class
  room_holds false class = never_holds P

  extension_holds : {B T : Type 0} (may : Bool) (b : Language B) (f : B → T) (x : T) (PB : B → Type 0) (Q : T → Type 0)
      → Holds P b PB → ((y : B) → PB y → Q (f y)) → Q x → Holds P (extension may b f x) Q
  extension_holds true b f x PB Q h k q =
      either_holds _ _ Q (then_holds b _ PB Q h (λ y r. done_holds (f y) Q (k y r))) (done_holds x Q q)
  extension_holds false b f x PB Q h k q = done_holds x Q q

module _ {W : Names} (deep : Deep W) (P : Token → Type 0) where
  -- of each value of a rule, of what parts make of a function, and of a rule with late tokens
  pub record OfRule {T : Type 0} (r : Rule W T) (Q : T → Type 0) : Type 0 where
    pub holds : Holds P (spelled r deep) Q

  pub record OfParts {R T : Type 0} (parts : Parts W R T) (f : R) (Q : T → Type 0) : Type 0 where
    pub holds : Holds P (spelled_parts parts f deep) Q

  pub record OfLate {T : Type 0} {lets : T → Bool} (a : Late W T lets) (Q : T → Type 0) : Type 0 where
    pub holds : Holds P (spelled_late a deep) Q

module _ {W : Names} {deep : Deep W} {P : Token → Type 0} where
  pub of_token : {class : Class} → OfRule deep P (token class) P
  of_token {class = class} = record { holds = token_holds P class }

  -- a token is of its class
  pub of_class : {class : Class} → OfRule deep P (token class) (λ k. P k × (in_class class k ≡ true))
  unfolding language.token
  of_class {class = class} = record { holds = λ u k s all. (token_holds P class u k s all, s.1) }

  -- of each value what follows from what is true of it
  pub of_weaker : {T : Type 0} {r : Rule W T} {Q R : T → Type 0} → OfRule deep P r Q → ((x : T) → Q x → R x) → OfRule deep P r R
  of_weaker h k = record { holds = λ u x s all. k x (h.holds u x s all) }

  -- of each value something that is true of all
  pub of_any : {T : Type 0} {r : Rule W T} → OfRule deep P r (λ x. Unit {0})
  of_any = record { holds = λ u x s all. tt }

  pub of_either : {T : Type 0} {a b : Rule W T} {Q : T → Type 0} → OfRule deep P a Q → OfRule deep P b Q → OfRule deep P (either a b) Q
  of_either {a = a} {b = b} {Q = Q} h k = record { holds = either_holds P (spelled a deep) (spelled b deep) Q h.holds k.holds }

  pub of_many : {T : Type 0} {a : Rule W T} {Q : T → Type 0} → OfRule deep P a Q → OfRule deep P (many a) (Each Q)
  of_many {a = a} {Q = Q} h = record { holds = many_holds P (spelled a deep) Q h.holds }

  pub of_run : {T : Type 0} {is_last : T → Bool} {a : Late W T is_last} {Q : T → Type 0} → OfLate deep P a Q → OfRule deep P (run is_last a) (Each Q)
  of_run {is_last = is_last} {a = a} {Q = Q} h = record { holds = run_holds P (λ x. not (is_last x)) (spelled_late a deep) Q h.holds }

  pub of_complete : {A B T : Type 0} {a : Rule W A} {see : A → Beginning B T} {b : Rule W (B → T)} (PA : A → Type 0) (PB : B → Type 0) {Q : T → Type 0}
      → OfRule deep P a PA → ((x : A) → PA x → Begins PB Q (see x)) → OfRule deep P b (λ h. (y : B) → PB y → Q (h y)) → OfRule deep P (complete a see b) Q
  of_complete {a = a} {see = see} {b = b} PA PB {Q = Q} h s k =
      record { holds = then_holds P (spelled a deep) _ PA Q h.holds (λ x p. completion_holds P (spelled b deep) PB Q k.holds (see x) (s x p)) }

  pub of_whole : {T : Type 0} {lets : T → Bool} {a : Late W T lets} {Q : T → Type 0} → OfLate deep P a Q → OfRule deep P (whole a) Q
  of_whole h = record { holds = h.holds }

  -- parts
  pub of_none : {T : Type 0} {x : T} {Q : T → Type 0} → Q x → OfParts deep P none x Q
  of_none {x = x} {Q = Q} q = record { holds = done_holds P x Q q }

  pub of_part : {A R T : Type 0} {a : Rule W A} {parts : Parts W R T} {f : A → R} {PA : A → Type 0} {Q : T → Type 0}
      → OfRule deep P a PA → ((x : A) → PA x → OfParts deep P parts (f x) Q) → OfParts deep P (a ⨾ parts) f Q
  of_part {a = a} {PA = PA} {Q = Q} h k = record { holds = then_holds P (spelled a deep) _ PA Q h.holds (λ x p. (k x p).holds) }

  pub of_deeper : {R T : Type 0} {class : Class} {parts : Parts W R T} {f : Token → R} {Q : T → Type 0}
      → ((k : Token) → P k → OfParts deep P parts (f k) Q) → OfParts deep P (class ↓ parts) f Q
  of_deeper {class = class} {Q = Q} h =
      record { holds = then_holds P (where_room deep.room class) _ P Q (room_holds P deep.room class) (λ k p. (h k p).holds) }

  pub of_parts : {R T : Type 0} {parts : Parts W R T} {f : R} {Q : T → Type 0} → OfParts deep P parts f Q → OfRule deep P (parts ⟶ f) Q
  of_parts h = record { holds = h.holds }

  -- rules with late tokens
  pub of_closed : {T : Type 0} {lets : T → Bool} {a : Rule W T} {Q : T → Type 0} → OfRule deep P a Q → OfLate deep P (closed {lets = lets} a) Q
  of_closed h = record { holds = h.holds }

  pub of_lower : (n : W.Name) (Q : W.Value n → Type 0) → OfRule deep P (below n) Q → OfLate deep P (lower n) Q
  of_lower n Q h = record { holds = h.holds }

  pub of_opened : {A T : Type 0} {lets : T → Bool} {a : Rule W A} {f : A → T} {e : (a : A) → lets (f a) ≡ true} (PA : A → Type 0) {Q : T → Type 0}
      → OfRule deep P a PA → ((x : A) → PA x → Q (f x)) → OfLate deep P (opened {lets = lets} a f e) Q
  of_opened {a = a} {f = f} PA {Q = Q} h k = record { holds = then_holds P (spelled a deep) _ PA Q h.holds (λ x p. done_holds P (f x) Q (k x p)) }

  pub of_choice : {T : Type 0} {lets : T → Bool} {a b : Late W T lets} {Q : T → Type 0} → OfLate deep P a Q → OfLate deep P b Q → OfLate deep P (choice a b) Q
  of_choice {a = a} {b = b} {Q = Q} h k = record { holds = either_holds P (spelled_late a deep) (spelled_late b deep) Q h.holds k.holds }

  pub of_ended : {A B T : Type 0} {last_lets : B → Bool} {lets : T → Bool} {a : Rule W A} {b : Late W B last_lets} {f : A → B → T} {e : (x : A) (y : B) → lets (f x y) ≡ last_lets y}
      (PA : A → Type 0) (PB : B → Type 0) {Q : T → Type 0} → OfRule deep P a PA → OfLate deep P b PB → ((x : A) (y : B) → PA x → PB y → Q (f x y)) → OfLate deep P (ended {lets = lets} a b f e) Q
  of_ended {a = a} {b = b} {f = f} PA PB {Q = Q} h k q =
      record { holds = then_holds P (spelled a deep) _ PA Q h.holds (λ x p. then_holds P (spelled_late b deep) _ PB Q k.holds (λ y r. done_holds P (f x y) Q (q x y p r))) }

  pub of_dangling : {A B T : Type 0} {first_lets : A → Bool} {second_lets : B → Bool} {lets : T → Bool} {a : Late W A first_lets} {b : Late W B second_lets}
      {alone : A → T} {both : A → B → T} {e : (x : A) → lets (alone x) ≡ true} {g : (x : A) (y : B) → lets (both x y) ≡ second_lets y}
      (PA : A → Type 0) (PB : B → Type 0) {Q : T → Type 0} → OfLate deep P a PA → OfLate deep P b PB → ((x : A) → PA x → Q (alone x)) → ((x : A) (y : B) → PA x → PB y → Q (both x y))
      → OfLate deep P (dangling {lets = lets} a b alone both e g) Q
  of_dangling {first_lets = first_lets} {a = a} {b = b} {alone = alone} {both = both} PA PB {Q = Q} h k q r =
      record { holds = then_holds P (spelled_late a deep) _ PA Q h.holds (λ x p. extension_holds P (not (first_lets x)) (spelled_late b deep) (both x) (alone x) PB Q k.holds (λ y s. r x y p s) (q x p)) }

  -- what is made of these
  pub of_done : {T : Type 0} {x : T} {Q : T → Type 0} → Q x → OfRule deep P (done x) Q
  of_done q = of_parts (of_none q)

  -- one rule, and what the function makes of its value
  pub of_last : {A T : Type 0} {a : Rule W A} {f : A → T} {PA : A → Type 0} {Q : T → Type 0} → OfRule deep P a PA → ((x : A) → PA x → Q (f x)) → OfParts deep P (a ⨾ none) f Q
  of_last h k = of_part h (λ x p. of_none (k x p))

  pub of_maybe : {T : Type 0} {a : Rule W T} {Q : T → Type 0} → OfRule deep P a Q → OfRule deep P (maybe a) (IfThere Q)
  of_maybe h = of_either (of_parts (of_last h (λ x p. p))) (of_done tt)

  -- a token, and what it stands for
  pub of_means : {T : Type 0} {class : Class} {x : T} {Q : Place × T → Type 0} → ((k : Token) → P k → Q (k.at, x)) → OfRule deep P (means class x) Q
  of_means h = of_parts (of_last of_token h)

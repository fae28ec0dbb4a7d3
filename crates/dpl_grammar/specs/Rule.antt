-- Rules of a grammar, as data, and the language that each of them spells.
-- The data come first, and at the end of this file a rule's language, by recursion on the rule.
use Rattle.std.specs.Prelude.{◌≡◌, ℕ, zero, suc, List, Bool, true, false, not, Option, Some, None}
use Rattle.dpl_syntax.specs.declared.token.Token.{Token}
use Rattle.dpl_syntax.specs.declared.place.Place.{Place}
use Rattle.dpl_grammar.specs.Classes.{Class}
use Rattle.dpl_grammar.specs.Language as language
use Rattle.dpl_grammar.specs.Language.{Language, never}

-- What a reader is told of these rules, and tested; no language looks at it. `first` has each token that a rule begins with, `more` each
-- one that may go on with any value of it, and `late` each further one that may go on with a value that `lets` it.
pub record Hints (Name : Type 0) : Type 0 where
  pub first : Name → Class
  pub more : Name → Class
  pub late : Name → Class

-- The rules that may stand one level deeper: their names, and the type of what each one spells.
-- `lets` says with which values late tokens go on.
pub record Names : Type 1 where
  pub Name : Type 0
  pub Value : Name → Type 0
  pub lets : (n : Name) → Value n → Bool
  pub hints : Hints Name

-- A value that is whole, or the beginning of one.
pub data Beginning (B T : Type 0) : Type 0 where
  Whole : T → Beginning B T
  Begun : B → Beginning B T

infixr 20 ◌⨾◌ ◌↓◌
infix 10 ◌⟶◌
mutual
  -- A rule that spells a T.
  pub data Rule (W : Names) : Type 0 → Type 1 where
    -- one token of the class
    token : Class → Rule W Token
    -- the rule of that name, one level deeper
    below : (n : W.Name) → Rule W (W.Value n)
    -- the one or the other
    either : {T : Type 0} → Rule W T → Rule W T → Rule W T
    -- any number
    many : {T : Type 0} → Rule W T → Rule W (List T)
    -- any number, of which one that `is_last` is the last
    run : {T : Type 0} (is_last : T → Bool) → Late W T is_last → Rule W (List T)
    -- the first, of whose values the function says whether they are whole or only begun, and behind one that is begun the second, whose value makes it whole
    complete : {A B T : Type 0} → Rule W A → (A → Beginning B T) → Rule W (B → T) → Rule W T
    -- one with late tokens, for what follows it like any other
    whole : {T : Type 0} {lets : T → Bool} → Late W T lets → Rule W T
    -- the parts, one after the other, of whose values the function makes what is spelled
    ◌⟶◌ : {R T : Type 0} → Parts W R T → R → Rule W T

  -- Parts that take a function R to a T.
  pub data Parts (W : Names) : Type 0 → Type 0 → Type 1 where
    none : {T : Type 0} → Parts W T T
    -- a rule, and further parts
    ◌⨾◌ : {A R T : Type 0} → Rule W A → Parts W R T → Parts W (A → R) T
    -- a token of the class, which opens one more level and stands only where there is room for it, and further parts: what stands on that level is `below`
    ◌↓◌ : {R T : Type 0} → Class → Parts W R T → Parts W (Token → R) T

  -- A rule with late tokens, which go on with some of its values and with others not: with those that the test lets.
  -- So an `else` goes on with an `if` that has none, and not with one that has.
  pub data Late (W : Names) : (T : Type 0) → (T → Bool) → Type 1 where
    -- a rule that no late token goes on with
    closed : {T : Type 0} {lets : T → Bool} → Rule W T → Late W T lets
    -- a rule that late tokens alone go on with, and what the function makes of its value
    opened : {A T : Type 0} {lets : T → Bool} → Rule W A → (f : A → T) → ((a : A) → lets (f a) ≡ true) → Late W T lets
    -- the rule of that name, one level deeper
    lower : (n : W.Name) → Late W (W.Value n) (W.lets n)
    -- the one or the other
    choice : {T : Type 0} {lets : T → Bool} → Late W T lets → Late W T lets → Late W T lets
    -- a rule, and then a last one: late tokens go on with the whole where they do with the last one
    ended : {P A T : Type 0} {last_lets : A → Bool} {lets : T → Bool} → Rule W P → Late W A last_lets → (f : P → A → T) → ((p : P) (a : A) → lets (f p a) ≡ last_lets a) → Late W T lets
    -- the first, and behind a value that late tokens don't go on with maybe the second:
    -- they go on with the first where it stands alone, and else where they do with the second
    dangling : {A B T : Type 0} {first_lets : A → Bool} {second_lets : B → Bool} {lets : T → Bool}
        → Late W A first_lets → Late W B second_lets → (alone : A → T) → (both : A → B → T)
        → ((a : A) → lets (alone a) ≡ true) → ((a : A) (b : B) → lets (both a b) ≡ second_lets b) → Late W T lets

-- the last part
infix 30 ◌∎
abbrev pub ◌∎ : {W : Names} {A T : Type 0} → Rule W A → Parts W (A → T) T
a ∎ = a ⨾ none

-- a value of no tokens
abbrev pub done : {W : Names} {T : Type 0} → T → Rule W T
done x = none ⟶ x

-- the one, or nothing
abbrev pub maybe : {W : Names} {T : Type 0} → Rule W T → Rule W (Option T)
maybe a = either (a ∎ ⟶ λ x. Some x) (done None)

-- one token of a class, which stands for x there
abbrev pub means : {W : Names} {T : Type 0} → Class → T → Rule W (Place × T)
means class x = token class ∎ ⟶ λ k. (k.at, x)

-- what stands one level deeper, and whether there is room for it
pub record Deep (W : Names) : Type 1 where
  pub room : Bool
  pub rule : (n : W.Name) → Language (W.Value n)

-- a token that goes one level deeper
abbrev pub where_room : Bool → Class → Language Token
where_room true class = language.token class
where_room false class = never

-- no token, or where x may be extended maybe what extends it
abbrev pub extension : {B T : Type 0} → Bool → Language B → (B → T) → T → Language T
extension true b f x = language.either (language.◌>>=◌ b (λ y. language.done (f y))) (language.done x)
extension false b f x = language.done x

-- no token behind a whole value, and behind a begun one what completes it
abbrev pub completion : {B T : Type 0} → Language (B → T) → Beginning B T → Language T
completion b (Whole x) = language.done x
completion b (Begun x) = language.◌>>=◌ b (λ h. language.done (h x))

-- the language of a rule
abbrev mutual
  pub spelled : {W : Names} {T : Type 0} → Rule W T → Deep W → Language T
  spelled (token class) deep = language.token class
  spelled (below n) deep = deep.rule n
  spelled (either a b) deep = language.either (spelled a deep) (spelled b deep)
  spelled (many a) deep = language.many (spelled a deep)
  spelled (run is_last a) deep = language.run (λ x. not (is_last x)) (spelled_late a deep)
  spelled (complete a see b) deep = language.◌>>=◌ (spelled a deep) (λ x. completion (spelled b deep) (see x))
  spelled (whole a) deep = spelled_late a deep
  spelled (parts ⟶ f) deep = spelled_parts parts f deep

  pub spelled_parts : {W : Names} {R T : Type 0} → Parts W R T → R → Deep W → Language T
  spelled_parts none x deep = language.done x
  spelled_parts (a ⨾ parts) f deep = language.◌>>=◌ (spelled a deep) (λ x. spelled_parts parts (f x) deep)
  spelled_parts (class ↓ parts) f deep = language.◌>>=◌ (where_room deep.room class) (λ k. spelled_parts parts (f k) deep)

  pub spelled_late : {W : Names} {T : Type 0} {lets : T → Bool} → Late W T lets → Deep W → Language T
  spelled_late (closed a) deep = spelled a deep
  spelled_late (opened a f h) deep = language.◌>>=◌ (spelled a deep) (λ x. language.done (f x))
  spelled_late (lower n) deep = deep.rule n
  spelled_late (choice a b) deep = language.either (spelled_late a deep) (spelled_late b deep)
  spelled_late (ended head a f h) deep = language.◌>>=◌ (spelled head deep) (λ p. language.◌>>=◌ (spelled_late a deep) (λ x. language.done (f p x)))
  spelled_late (dangling {first_lets = first_lets} a b alone both h i) deep = language.◌>>=◌ (spelled_late a deep) (λ x. extension (not (first_lets x)) (spelled_late b deep) (both x) (alone x))

-- a grammar: the rules that may stand one level deeper
pub record Grammar (W : Names) : Type 1 where
  pub rule : (n : W.Name) → Late W (W.Value n) (W.lets n)

-- with d levels of nesting: one level deeper there is one less, and with none there is no room
abbrev pub deep : {W : Names} → Grammar W → ℕ → Deep W
deep g zero = record { room = false; rule = λ n. never }
deep g (suc d) = record { room = true; rule = λ n. spelled_late (g.rule n) (deep g d) }

-- Languages of tokens: which tokens spell a value, and which are a front of such a spelling.
-- A grammar is made of these combinators, each of which says both for what it makes.
use Rattle.std.specs.Prelude.{◌≡◌, ◌⊎◌, List, [], ◌∷◌, ◌++◌, Bool, true, Option, Some, None}
use Rattle.dpl_syntax.specs.declared.token.Token.{Token}
use Rattle.dpl_syntax.specs.declared.place.Place.{Place}
use Rattle.dpl_grammar.specs.Classes.{Class, in_class}

-- A language of values of T.
-- A front of a rule is nothing, or spellings of the rule's first parts followed by a front of its next part.
pub record Language (T : Type 0) : Type 1 where
  pub Spells : List Token → T → Type 0
  pub Front : List Token → Type 0

-- nothing is spelled
unfoldable pub never : {T : Type 0} → Language T
never = record { Spells = λ u x. ⊥; Front = λ u. u ≡ [] }

-- no token, which spells x
unfoldable pub done : {T : Type 0} → T → Language T
done x = record { Spells = λ u y. (u ≡ []) × (y ≡ x); Front = λ u. u ≡ [] }

-- one token of a class, which spells itself; its fronts are nothing and itself
unfoldable pub token : Class → Language Token
token class = record {
  Spells = λ u k. (u ≡ k ∷ []) × (in_class class k ≡ true);
  Front = λ u. (u ≡ []) ⊎ ((k : Token) × (u ≡ k ∷ []) × (in_class class k ≡ true));
}

-- the one, and then the other, which may look at the first one's value
infixl 10 ◌>>=◌
unfoldable pub ◌>>=◌ : {T U : Type 0} → Language T → (T → Language U) → Language U
A >>= B = record {
  Spells = λ u y. (a b : _) × (x : _) × (u ≡ a ++ b) × A.Spells a x × (B x).Spells b y;
  Front = λ u. A.Front u ⊎ ((a b : _) × (x : _) × (u ≡ a ++ b) × A.Spells a x × (B x).Front b);
}

-- the one or the other
unfoldable pub either : {T : Type 0} → Language T → Language T → Language T
either A B = record { Spells = λ u x. A.Spells u x ⊎ B.Spells u x; Front = λ u. A.Front u ⊎ B.Front u }

-- the one, or nothing
abbrev pub maybe : {T : Type 0} → Language T → Language (Option T)
maybe A = either (A >>= λ x. done (Some x)) (done None)

-- one token of a class, which stands for x there
abbrev pub means : {T : Type 0} → Class → T → Language (Place × T)
means class x = token class >>= λ k. done (k.at, x)

-- the tokens spell the values, one after the other
abbrev pub SpellsEach : {T : Type 0} → Language T → List Token → List T → Type 0
SpellsEach A u [] = u ≡ []
SpellsEach A u (x ∷ xs) = (a b : List Token) × (u ≡ a ++ b) × A.Spells a x × SpellsEach A b xs

-- any number
unfoldable pub many : {T : Type 0} → Language T → Language (List T)
many A = record {
  Spells = SpellsEach A;
  Front = λ u. (xs : _) × (a b : _) × (u ≡ a ++ b) × SpellsEach A a xs × A.Front b;
}

-- where another value follows x, x lets it
abbrev pub LetsMore : {T : Type 0} → (T → Bool) → T → List T → Type 0
LetsMore more x [] = Unit {0}
LetsMore more x (y ∷ ys) = more x ≡ true

-- the tokens spell the values, one after the other, of which only the last may be one that lets no other follow
abbrev pub SpellsRun : {T : Type 0} → Language T → (T → Bool) → List Token → List T → Type 0
SpellsRun A more u [] = u ≡ []
SpellsRun A more u (x ∷ xs) = (a b : List Token) × (u ≡ a ++ b) × A.Spells a x × LetsMore more x xs × SpellsRun A more b xs

-- each value lets another one follow
abbrev pub EachLetsMore : {T : Type 0} → (T → Bool) → List T → Type 0
EachLetsMore more [] = Unit {0}
EachLetsMore more (x ∷ xs) = (more x ≡ true) × EachLetsMore more xs

-- any number, of which one that lets no other follow is the last
unfoldable pub run : {T : Type 0} → (T → Bool) → Language T → Language (List T)
run more A = record {
  Spells = SpellsRun A more;
  Front = λ u. ((xs : _) × SpellsRun A more u xs) ⊎ ((xs : _) × (a b : _) × (u ≡ a ++ b) × SpellsEach A a xs × EachLetsMore more xs × A.Front b);
}

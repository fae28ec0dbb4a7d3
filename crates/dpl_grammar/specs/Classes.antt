-- Classes of tokens, by their kinds.
-- Whether a token is of a class, and how two classes lie to each other, computes.
use Rattle.std.specs.Prelude.{◌≡◌, ℕ, zero, suc, List, length, [], ◌∷◌, ◌++◌, Bool, true, false, cond, ◌==◌, Option, Some, None}
use Rattle.dpl_syntax.specs.declared.place.Place.{Place}
use Rattle.dpl_syntax.specs.declared.token.Keyword.{Keyword}
use Rattle.dpl_syntax.specs.declared.token.Keyword.TheVariants.{Coforall, Here, Locales, NumLocales, On, Sync}
use Rattle.dpl_syntax.specs.declared.token.Contextual.{Contextual}
use Rattle.dpl_syntax.specs.contracts.token.Contextual.{the_type as contextuals}
use Rattle.dpl_syntax.specs.declared.token.Sign.{Sign}
use Rattle.dpl_syntax.specs.declared.token.Token.{Token}
use Rattle.dpl_grammar.specs.Numbers.{sign_number, keyword_number, contextual_number, kind_number}

-- a class: the numbers of its kinds
abbrev pub Class : Type 0
Class = List ℕ

-- so many numbers, from one on
abbrev numbers_from : ℕ → ℕ → Class
numbers_from first zero = []
numbers_from first (suc n) = first ∷ numbers_from (suc first) n

-- every name, contextual words among them
abbrev pub names : Class
names = 0 ∷ numbers_from 200 (length contextuals.parts)

-- every number
abbrev pub numbers : Class
numbers = 1 ∷ []

-- every text in quotes
abbrev pub texts : Class
texts = 3 ∷ []

-- the end of the text
abbrev pub end : Class
end = 2 ∷ []

-- one sign
abbrev pub sign : Sign → Class
sign s = sign_number s ∷ []

-- one reserved word
abbrev pub keyword : Keyword → Class
keyword w = keyword_number w ∷ []

-- one contextual word
abbrev pub contextual : Contextual → Class
contextual w = contextual_number w ∷ []

-- the words of tasks: those that a program needs to name a locale, a task or a cell
abbrev pub task_words : Class
task_words = keyword Coforall ++ (keyword On ++ (keyword Sync ++ (keyword Locales ++ (keyword NumLocales ++ keyword Here))))

-- whether a class has the kind with the number
abbrev pub has : Class → ℕ → Bool
has [] n = false
has (k ∷ ks) n = cond (n == k) true (has ks n)

-- whether a token is of a class
abbrev pub in_class : Class → Token → Bool
in_class class k = has class (kind_number k.kind)

-- where the first token of a class stands
abbrev pub first_of : Class → List Token → Option Place
first_of class [] = None
first_of class (k ∷ ks) = cond (in_class class k) (Some k.at) (first_of class ks)

-- no token of a list is of the class
abbrev pub Lacks : Class → List Token → Type 0
Lacks class [] = Unit {0}
Lacks class (k ∷ ks) = (in_class class k ≡ false) × Lacks class ks

-- whether no kind of the first class is in the second
abbrev pub apart : Class → Class → Bool
apart [] D = true
apart (k ∷ C) D = cond (has D k) false (apart C D)

-- whether each kind of the first class is in the second
abbrev pub within : Class → Class → Bool
within [] D = true
within (k ∷ C) D = cond (has D k) (within C D) false

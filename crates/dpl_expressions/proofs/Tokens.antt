-- The derived `==` of signs and of words tells whether a token is of the class of one.
-- Two of a sort with one number are one. Without this a proof would go through each pair of them.
use Rattle.std.proofs.Common.{◌≡◌, ℕ, Bool, true, false, cond, eqb, List, [], ◌∷◌, ◌≤◌, length, get_or, refl, ap, arith}
use Rattle.std.proofs.lemmas.Bool.{eqb-true, eq-eqb}
use denote.Enum.Declared.{Declared}
use denote.Enum.Bare.{Bare, sameb, same_true, same_false}
use Rattle.dpl_syntax.specs.declared.token.Token.{Token}
use Rattle.dpl_syntax.specs.declared.token.Sign.{Sign}
use Rattle.dpl_syntax.specs.declared.token.Keyword.{Keyword}
use Rattle.dpl_syntax.specs.declared.token.Contextual.{Contextual}
use Rattle.dpl_syntax.specs.declared.token.Kind.TheVariants.{Contextual as ContextualKind, Keyword as KeywordKind, Sign as SignKind}
use Rattle.dpl_syntax.specs.contracts.token.Sign.{the_type as signs}
use Rattle.dpl_syntax.specs.contracts.token.Keyword.{the_type as words}
use Rattle.dpl_syntax.specs.contracts.token.Contextual.{the_type as contextuals}
use Rattle.dpl_grammar.specs.Numbers.{sign_number, keyword_number, contextual_number, kind_number}
use Rattle.dpl_grammar.specs.Classes.{Class, has}
use Rattle.dpl_grammar.specs.Reader.{next_in}
use Rattle.dpl_grammar.proofs.Numbers.{numbers_told}

-- the next token is of a class, if its kind is
pub next_kind : (C : Class) (ts : List Token) (k : Token) → 1 ≤ length ts → k ≡ get_or ts 0 k → next_in C ts ≡ has C (kind_number k.kind)
next_kind C [] k some e = absurd (omega arith)
next_kind C (j ∷ ts) k some e = let is : k ≡ j = e in rw is refl

module _ (D : Declared) (bare : Bare D.parts) (number : D.D → ℕ) (told : (a b : D.D) → number a ≡ number b → a ≡ b) where
  same_number : (a b : D.D) → sameb D a b ≡ cond (eqb (number a) (number b)) true false
  same_number a b = at (sameb D a b) refl (eqb (number a) (number b)) refl
    where
      at : (s : Bool) → sameb D a b ≡ s → (e : Bool) → eqb (number a) (number b) ≡ e → s ≡ cond e true false
      at true h true i = refl
      at false h false i = refl
      at true h false i = let n = eq-eqb (number a) (number b) (ap number (same_true D bare a b h)) in absurd cc
      at false h true i = absurd (same_false D a b h (told a b (eqb-true (number a) (number b) i)))

pub same_sign : (a b : Sign) → sameb signs a b ≡ cond (eqb (sign_number a) (sign_number b)) true false
same_sign = same_number signs tt sign_number (λ a b e. let k = numbers_told (SignKind a) (SignKind b) e in cc)

pub same_keyword : (a b : Keyword) → sameb words a b ≡ cond (eqb (keyword_number a) (keyword_number b)) true false
same_keyword = same_number words tt keyword_number (λ a b e. let k = numbers_told (KeywordKind a) (KeywordKind b) e in cc)

pub same_contextual : (a b : Contextual) → sameb contextuals a b ≡ cond (eqb (contextual_number a) (contextual_number b)) true false
same_contextual = same_number contextuals tt contextual_number (λ a b e. let k = numbers_told (ContextualKind a) (ContextualKind b) e in cc)

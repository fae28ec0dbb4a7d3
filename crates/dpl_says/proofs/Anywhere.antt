-- What a data-parallel text comes to, it comes to on every number of locales.
-- None of its tokens names a locale, so its tree doesn't; and the command line gives ints and truth values alone.
use Rattle.std.proofs.Common.{◌≡◌, ◌≢◌, inl, inr, ℕ, List, [], ◌∷◌, Option, Some, None, sym, ap, ◌∙◌, subst}
use Rattle.std.specs.Prelude.{All, option_and_then}
use Rattle.dpl_rules.specs.Verdicts.{where_given}
use Rattle.dpl_rules.specs.Types.{scalar_of}
use Rattle.std.proofs.lemmas.List.Elements.{All-nil, All-cons, All-append}
use Rattle.dpl_syntax.specs.declared.token.Token.{Token}
use Rattle.dpl_history.specs.declared.history.Event.{Event}
use Rattle.dpl_grammar.specs.Classes.{Class}
use Rattle.dpl_grammar.specs.Each.{Each}
use Rattle.dpl_language.specs.Tree.{Kind, IntKind, BoolKind, ProgramTree}
use Rattle.dpl_language.specs.Values.{Value, AllLocales}
use Rattle.dpl_language.specs.Names.{Text, State}
use Rattle.dpl_language.specs.Environment.{Limits}
use Rattle.dpl_language.specs.Outcome.{Outcome}
use Rattle.dpl_language.specs.Program.{written}
use Rattle.dpl_language.specs.Together.{Happened}
use Rattle.dpl_agreement.specs.Untasked.{UntaskedStmts}
use Rattle.dpl_agreement.proofs.LocalesFree.{locales-free}
use Rattle.dpl_rules.specs.Sights.{Scopes, lookup, type_declared}
use Rattle.dpl_rules.specs.Breaches.{top}
use Rattle.dpl_rules.specs.Sound.{name_and_value, behind_all}
use Rattle.dpl_says.specs.Given.{value_by, word_by, words_by, given}
use Rattle.dpl_says.specs.Says.{IsProgram, ending_of, run_of, Ending, Means, ComesTo, IsDataParallel, Says}
use Rattle.dpl_says.proofs.OneSaying.{ComesTo-one}
use Rattle.dpl_says.proofs.Untasked.{stmts-untasked, Spells-untasked}

-- ---- what the command line gives
abbrev Plain : Text × Value → Type 0
Plain p = p.1 ≢ AllLocales

abbrev NoLocales : List (Text × Value) → Type 0
NoLocales given = All Plain given

value-plain : (k : Kind) (text : List ℕ) → value_by k text ≢ AllLocales
value-plain IntKind text e = absurd cc
value-plain BoolKind text e = absurd cc

set-plain : (o : Option Kind) (x : Text) (text : List ℕ) → NoLocales (where_given o (λ j. (x, value_by j text) ∷ []))
set-plain None x text = All-nil Plain
set-plain (Some k) x text = All-cons Plain (x, value_by k text) [] (value-plain k text) (All-nil Plain)

word-plain : (ss : Scopes) (o : Option (Text × List ℕ)) → NoLocales (word_by ss o)
word-plain ss None = All-nil Plain
word-plain ss (Some p) = set-plain (option_and_then scalar_of (type_declared (lookup ss p.0))) p.0 p.1

words-plain : (ss : Scopes) (ws : List (List ℕ)) → NoLocales (words_by ss ws)
words-plain ss [] = All-nil Plain
words-plain ss (w ∷ ws) = All-append Plain (word_by ss (name_and_value w)) (words_by ss ws) (word-plain ss (name_and_value w)) (words-plain ss ws)

-- ---- the tree
each-any : (ks : List Token) → Each (λ k. Unit {0}) ks
each-any [] = tt
each-any (k ∷ ks) = (tt, each-any ks)

module _ (closed : Class) (text : List ℕ) (sets : List (List ℕ)) (parallel : IsDataParallel text) where
  program-untasked : (t : ProgramTree Text) → IsProgram closed text sets t → UntaskedStmts t.stmts
  program-untasked t is =
      stmts-untasked (λ at. Unit {0}) t.stmts (Spells-untasked (λ at. Unit {0}) 64 is.tokens t is.spells (parallel is.tokens is.lexes) (each-any is.tokens))

  module _ (limits : Limits) (locales : ℕ) (histories : List (List Event)) where
    abbrev elsewhere : Limits
    elsewhere = record limits { locales = locales }

    run-alike : (t : ProgramTree Text) → IsProgram closed text sets t → run_of t sets limits histories ≡ run_of t sets elsewhere histories
    run-alike t is = locales-free t (program-untasked t is) (given t sets) (words-plain (behind_all top t.stmts) sets) limits.budget limits.locales locales histories

    means-alike : (t : ProgramTree Text) (e : Ending) (said : List ℕ) → IsProgram closed text sets t → Means t sets limits histories e said → Means t sets elsewhere histories e said
    means-alike t e said is means =
        let same = run-alike t is in
        record {
          happened = subst (λ (o : Outcome State). Happened o) same means.happened;
          writes = means.writes ∙ ap written same;
          ends = ap ending_of (sym same) ∙ means.ends;
        }

    comes-alike : (e : Ending) (said : List ℕ) → ComesTo closed text sets limits histories e said → ComesTo closed text sets elsewhere histories e said
    comes-alike e said (inl refused) = inl refused
    comes-alike e said (inr a) = inr (a.0, a.1, means-alike a.0 e said a.1 a.2)

-- What a text comes to by all histories is what it says.
pub says : (closed : Class) (text : List ℕ) (sets : List (List ℕ)) (limits : Limits) (e : Ending) (said : List ℕ)
    → ((histories : List (List Event)) → ComesTo closed text sets limits histories e said) → Says closed text sets limits e said
says closed text sets limits e said comes = record {
  histories = [];
  comes = record { comes = comes []; only = λ other says. ComesTo-one closed text sets limits [] e other said says (comes []) };
  alike = λ parallel locales others.
      let here = comes-alike closed text sets parallel limits locales others e said (comes others) in
      record { comes = here; only = λ other says. ComesTo-one closed text sets (record limits { locales = locales }) others e other said says here };
}

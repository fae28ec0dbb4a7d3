-- Where the first word of tasks of a text stands, computed from its bytes on.
-- A text that has none is data-parallel. A text in quotes and a longer name are no such words.
use Rattle.std.proofs.Common.{◌≡◌, ℕ, List, [], Option, Some, None, Ok, Err, refl}
use Rattle.std.specs.Prelude.{codes, option_map}
use Rattle.dpl_syntax.specs.declared.place.Place.{Place}
use Rattle.dpl_syntax.specs.declared.token.Token.{Token}
use Rattle.dpl_syntax.specs.declared.refusal.Code.TheVariants.{Unexpected, WrongType}
use Rattle.dpl_grammar.specs.Classes.{task_words, first_of}
use Rattle.dpl_grammar.specs.Reader.{Read}
use Rattle.dpl_grammar.specs.Gives.{place_of, code_of}
use Rattle.dpl_spelling.specs.Grammar.{Program}
use Rattle.dpl_spelling.proofs.Programs.{read}
use Rattle.dpl_says.specs.Says.{refusal_of}
use Rattle.dpl_worked.proofs.Lexer.{tokens_of}
use Rattle.dpl_worked.proofs.Texts.{Said, told, by_text}

-- nothing where the lexer of rows doesn't read the text
abbrev closed_in : List ℕ → Option (Option Place)
closed_in text = option_map (first_of task_words) (tokens_of text)

abbrev at : ℕ → Option (Option Place)
at column = Some (Some (record { line = 1; column = column }))

a_coforall : closed_in (codes "coforall k in 1..2 do ;") ≡ at 1
unfolding by_text
a_coforall = refl

an_on : closed_in (codes "if b then on l do ;") ≡ at 11
unfolding by_text
an_on = refl

a_cell : closed_in (codes "var c: sync int;") ≡ at 8
unfolding by_text
a_cell = refl

the_locales : closed_in (codes "for l in Locales do ;") ≡ at 10
unfolding by_text
the_locales = refl

how_many : closed_in (codes "writeln(numLocales);") ≡ at 9
unfolding by_text
how_many = refl

in_a_map : closed_in (codes "const D = {1..3} dmapped new cyclicDist(startIdx=here.id);") ≡ at 50
unfolding by_text
in_a_map = refl

the_first_of_two : closed_in (codes "x = 1; const D = E dmapped new cyclicDist(here.id); on D do ;") ≡ at 43
unfolding by_text
the_first_of_two = refl

data_parallel : closed_in (codes "var onward: int; forall i in 1..4 with (+ reduce onward) do onward += i; writeln(\"here\");") ≡ Some None
unfolding by_text
data_parallel = refl

-- ---- what a text is refused for where these words don't run: such a word goes before each rule, and behind a token that may not stand where it does

abbrev of_read : List Token → Read Program → Said
of_read ks (Ok x) = Some (refusal_of task_words [] ks x.0)
of_read ks (Err e) = Some (Some (record { code = code_of e.0; place = place_of e.1 }))

abbrev of_tokens : Option (List Token) → Said
of_tokens None = None
of_tokens (Some ks) = of_read ks (read 64 ks)

abbrev said_closed : List ℕ → Said
said_closed text = of_tokens (tokens_of text)

before_a_broken_rule : said_closed (codes "x = 1; on y do ;") ≡ told 1 8 Unexpected
unfolding by_text
before_a_broken_rule = refl

rules_without_such_a_word : said_closed (codes "var x = 1; x = true; y = 2;") ≡ told 1 16 WrongType
unfolding by_text
rules_without_such_a_word = refl

no_program : said_closed (codes "on x do )") ≡ told 1 9 Unexpected
unfolding by_text
no_program = refl

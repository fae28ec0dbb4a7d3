-- What the definitions say of a text, computed: its tokens, the tree that they spell, and the rules that the tree breaks.
-- `told_refused` and `sound_program` are what a row says of its text: that it is refused so, or that it is a program.
use Rattle.std.proofs.Common.{◌≡◌, inl, inr, ℕ, List, [], ◌∷◌, ◌++◌, Option, Some, None, Ok, Err, refl, ap, ◌∙◌, subst}
use Rattle.std.specs.Prelude.{⊤, codes}
use Rattle.dpl_syntax.specs.Tokens.{keyword_text, contextual_text, sign_text}
use Rattle.dpl_syntax.specs.Text.{Lexes}
use Rattle.dpl_syntax.specs.declared.token.Token.{Token}
use Rattle.dpl_syntax.specs.declared.refusal.Code.{Code}
use Rattle.dpl_syntax.specs.declared.refusal.Refusal.{Refusal}
use Rattle.dpl_grammar.specs.Reader.{Read}
use Rattle.dpl_grammar.specs.Gives.{place_of, code_of}
use Rattle.dpl_lexer.specs.Scan.{special_at}
use Rattle.dpl_language.specs.Tree.{ProgramTree}
use Rattle.dpl_language.specs.Names.{Text}
use Rattle.dpl_spelling.specs.Grammar.{Program}
use Rattle.dpl_spelling.specs.Theorem.{Spells, Refuses}
use Rattle.dpl_spelling.proofs.OnRows.{parser_on_rows}
use Rattle.dpl_spelling.proofs.Programs.{read, read_spelled, stopped_refused}
use Rattle.dpl_grammar.specs.Classes.{first_of}
use Rattle.dpl_rules.specs.Sound.{refusal}
use Rattle.dpl_says.specs.Says.{closed_at, IsProgram, IsRefused}
use Rattle.dpl_worked.proofs.Lexer.{tokens_of}
use Rattle.dpl_worked.proofs.Lexed.{tokens_lexed}

-- a text's refusal, or that it has none; nothing where the lexer of rows doesn't read the text
abbrev pub Said : Type 0
Said = Option (Option Refusal)

abbrev of_tree : Program → List Token → Said
of_tree t [] = Some (refusal t [])
of_tree t (k ∷ ks) = None

abbrev of_read : Read Program → Said
of_read (Ok x) = of_tree x.0 x.1
of_read (Err e) = Some (Some (record { code = code_of e.0; place = place_of e.1 }))

abbrev of_tokens : Option (List Token) → Said
of_tokens None = None
of_tokens (Some ks) = of_read (read 64 ks)

-- what is said of a text, with no sets
abbrev pub said : List ℕ → Said
said text = of_tokens (tokens_of text)

-- declarations of each sort and type, which many texts stand behind: they are on line 2
abbrev house : List ℕ
house =
    codes "const D = {1..8}; var E = {1..4, 1..4}; const S = {1..8 by 2}; const T = {1..2, 1..2, 1..2}; "
    ++ codes "var A: [D] int; var B: [E] int; var C: [D] int; var F: [D] bool; var G: [1..8] int; const r = 1..8; "
    ++ codes "const q = 1..8 by 2; var n: int; var b: bool; const k = 3; var c: sync int; var f: sync bool; "
    ++ codes "var h = here; var V = {1..8}; config const m = 4; var z = 1..2;\n"

abbrev pub in_house : List ℕ → Said
in_house text = said (house ++ text)

abbrev pub told : ℕ → ℕ → Code → Said
told line column code = Some (Some (record { code = code; place = Some (record { line = line; column = column }) }))

abbrev pub sound : Said
sound = Some None

-- what a row unfolds: how words and signs are spelled, the reader and the rules of the grammar
unfoldable pub by_text : ⊤
unfolding keyword_text contextual_text sign_text special_at parser_on_rows
by_text = tt

-- ---- what a row says

-- of no class there is a first token, so of the rules alone a program is refused
none_closed : (ks : List Token) → first_of [] ks ≡ None
none_closed [] = refl
none_closed (k ∷ ks) = none_closed ks

pub by_rules : (ks : List Token) (o r : Option Refusal) → o ≡ r → closed_at (first_of [] ks) o ≡ r
by_rules ks o r e = ap (λ at. closed_at at o) (none_closed ks) ∙ e

-- the tokens and the tree of a text, and what the tree is refused for
record Judged (text : List ℕ) (r : Option Refusal) : Type 0 where
  tokens : List Token
  lexes : Lexes text tokens
  tree : ProgramTree Text
  spells : Spells 64 tokens tree
  told : refusal tree [] ≡ r

tree_judged : (text : List ℕ) (ks : List Token) (r : Option Refusal) → Lexes text ks
    → (t : Program) (rest : List Token) → read 64 ks ≡ Ok (t, rest) → of_tree t rest ≡ Some r → Judged text r
tree_judged text ks r lexes t [] reads e = record { tokens = ks; lexes = lexes; tree = t; spells = read_spelled 64 ks t reads; told = cc }
tree_judged text ks r lexes t (k ∷ more) reads e = absurd cc

-- What is told of a text is its refusal.
pub told_refused : (text : List ℕ) (r : Refusal) → said text ≡ Some (Some r) → IsRefused [] text [] r
told_refused text r e = by_tokens (tokens_of text) refl e
  where
    by_read : (ks : List Token) → Lexes text ks → (o : Read Program) → read 64 ks ≡ o → of_read o ≡ Some (Some r) → IsRefused [] text [] r
    by_read ks lexes (Ok (t, rest)) reads e =
        let j = tree_judged text ks (Some r) lexes t rest reads e in
        inr (j.tokens, j.lexes, inr (j.tree, j.spells, by_rules j.tokens (refusal j.tree []) (Some r) j.told))
    by_read ks lexes (Err (c, rest)) reads e =
        let same : record { code = code_of c; place = place_of rest } ≡ r = cc in
        inr (ks, lexes, inl (subst (Refuses ks) same (stopped_refused ks rest c reads)))

    by_tokens : (o : Option (List Token)) → tokens_of text ≡ o → of_tokens o ≡ Some (Some r) → IsRefused [] text [] r
    by_tokens None a e = absurd cc
    by_tokens (Some ks) a e = by_read ks (tokens_lexed text ks a) (read 64 ks) refl e

-- A text that is said to be sound is a program.
pub sound_program : (text : List ℕ) → said text ≡ sound → (t : ProgramTree Text) × IsProgram [] text [] t
sound_program text e = by_tokens (tokens_of text) refl e
  where
    by_read : (ks : List Token) → Lexes text ks → (o : Read Program) → read 64 ks ≡ o → of_read o ≡ sound → (t : ProgramTree Text) × IsProgram [] text [] t
    by_read ks lexes (Ok (t, rest)) reads e =
        let j = tree_judged text ks None lexes t rest reads e in
        (j.tree, record { tokens = j.tokens; lexes = j.lexes; spells = j.spells; unrefused = by_rules j.tokens (refusal j.tree []) None j.told })
    by_read ks lexes (Err (c, rest)) reads e = absurd cc

    by_tokens : (o : Option (List Token)) → tokens_of text ≡ o → of_tokens o ≡ sound → (t : ProgramTree Text) × IsProgram [] text [] t
    by_tokens None a e = absurd cc
    by_tokens (Some ks) a e = by_read ks (tokens_lexed text ks a) (read 64 ks) refl e

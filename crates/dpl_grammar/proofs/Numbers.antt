-- Two kinds of tokens with one number are alike, but for what they carry: a name's text, a number's value, a text's bytes.
-- So a class, which is a list of numbers, is a set of kinds.
use Rattle.std.proofs.Common.{◌≡◌, ℕ, ◌+◌, pos, [], refl, sym, ap, ◌∙◌, arith}
use Rattle.std.specs.Prelude.{nat_lt, if◌then◌else◌}
use denote.Enum.Declared.{Declared, tag_of}
use denote.Enum.Bare.{Bare, tag_one}
use Rattle.dpl_syntax.specs.declared.token.Keyword.TheVariants.{Bool}
use Rattle.dpl_syntax.specs.declared.token.Sign.TheVariants.{DotDotLess}
use Rattle.dpl_syntax.specs.declared.token.Contextual.TheVariants.{BlockDist}
use Rattle.dpl_syntax.specs.declared.token.Kind.{Kind}
use Rattle.dpl_syntax.specs.declared.token.Kind.TheVariants.{Name, Contextual, Number, Text, Keyword, Sign, End}
use Rattle.dpl_syntax.specs.contracts.token.Sign.{the_type as signs}
use Rattle.dpl_syntax.specs.contracts.token.Keyword.{the_type as words}
use Rattle.dpl_syntax.specs.contracts.token.Contextual.{the_type as contextuals}
use Rattle.dpl_grammar.specs.Numbers.{kind_number}

-- a kind without what it carries
abbrev pub bare : Kind → Kind
bare (Name text) = Name []
bare (Number n) = Number (pos 0)
bare (Text text) = Text []
bare k = k

-- the least number of a kind's sort, and that of the sort to which a number belongs
abbrev sort : Kind → ℕ
sort (Sign s) = 10
sort (Keyword w) = 100
sort (Contextual w) = 200
sort k = kind_number k

abbrev sort_at : ℕ → ℕ
sort_at n = if nat_lt n 10 then n else if nat_lt n 100 then 10 else if nat_lt n 200 then 100 else 200

sorted : (k : Kind) → sort_at (kind_number k) ≡ sort k
sorted (Sign DotDotLess) = refl
sorted (Sign _) = refl
sorted (Keyword Bool) = refl
sorted (Keyword _) = refl
sorted (Contextual BlockDist) = refl
sorted (Contextual _) = refl
sorted _ = refl

-- two of a sort with one number are one
same : (D : Declared) (least : ℕ) → Bare D.parts → (a b : D.D) → least + tag_of D a ≡ least + tag_of D b → a ≡ b
same D least bare a b e = tag_one D bare a b (omega arith)

-- Kinds with one number are alike.
pub numbers_told : (j k : Kind) → kind_number j ≡ kind_number k → bare j ≡ bare k
numbers_told (Name _) (Name _) e = refl
numbers_told (Number _) (Number _) e = refl
numbers_told (Text _) (Text _) e = refl
numbers_told End End e = refl
numbers_told (Sign s) (Sign t) e = ap Sign (same signs 10 tt s t e)
numbers_told (Keyword v) (Keyword w) e = ap Keyword (same words 100 tt v w e)
numbers_told (Contextual v) (Contextual w) e = ap Contextual (same contextuals 200 tt v w e)
numbers_told j k e = let one : sort j ≡ sort k = sym (sorted j) ∙ ap sort_at e ∙ sorted k in absurd (omega arith)

-- What dpl_grammar proves of any language with a reader, for programs: each has one tree or one refusal.
-- `every` is the one thing that it asks of a grammar.
use Rattle.std.proofs.Common.{◌≡◌, ◌⊎◌, ℕ, suc, List, [], ◌∷◌, ◌++◌, Some, Ok, Err}
use Rattle.dpl_syntax.specs.declared.place.Place.{Place}
use Rattle.dpl_syntax.specs.declared.token.Kind.TheVariants.{End}
use Rattle.dpl_syntax.specs.declared.token.Token.{Token}
use Rattle.dpl_syntax.specs.declared.refusal.Refusal.{Refusal}
use Rattle.dpl_grammar.specs.Laws.{Reads}
use Rattle.dpl_grammar.specs.Reader.{Cause, Reader}
use Rattle.dpl_grammar.specs.Reading.{shape}
use Rattle.dpl_grammar.specs.Gives.{place_of, code_of}
use Rattle.dpl_grammar.proofs.Depths as depths
use Rattle.dpl_grammar.proofs.Ended as ended
use Rattle.dpl_grammar.proofs.Refusals as refusals
use Rattle.dpl_spelling.specs.Grammar.{Program, program}
use Rattle.dpl_spelling.specs.Reading.{at}
use Rattle.dpl_spelling.specs.Theorem.{programs, Spells, IsFront, Refuses}
use Rattle.dpl_spelling.proofs.Rules.{program_reads, tops_read}

-- what is read with d levels
abbrev pub read : ℕ → Reader Program
read = at program

-- programs are read, with any number of levels
pub every : (d : ℕ) → Reads [] (programs d) (programs (suc d)) (read d) (read (suc d)) (shape program).nullable (shape program).first (λ x. (shape program).more)
every = program_reads

-- What is read is spelled.
pub read_spelled : (d : ℕ) (ts : List Token) (t : Program) → read d ts ≡ Ok (t, []) → Spells d ts t
read_spelled = depths.read_spelled every

-- Where reading stops for a cause, that is the refusal.
pub stopped_refused : (ts rest : List Token) (c : Cause) → read 64 ts ≡ Err (c, rest) → Refuses ts (record { code = code_of c; place = place_of rest })
stopped_refused = refusals.stopped_refused every 64

-- Two programs that the same tokens spell are the same.
pub spelled_once : (d e : ℕ) (ts : List Token) (t s : Program) → Spells d ts t → Spells e ts s → t ≡ s
spelled_once = depths.spelled_once every

-- Tokens have one refusal at the most.
pub refusal_one : (ts : List Token) (r s : Refusal) → Refuses ts r → Refuses ts s → r ≡ s
refusal_one = refusals.refusal_one every 64

-- What is refused is no program of at most 64 levels.
pub refused_unspelled : (ts : List Token) (r : Refusal) (t : Program) → Refuses ts r → Spells 64 ts t → ⊥
refused_unspelled = refusals.refused_unspelled every 64

-- Tokens spell a program of at most 64 levels, or have a refusal.
pub spelled_or_refused : (ts : List Token) → ((t : Program) × Spells 64 ts t) ⊎ ((r : Refusal) × Refuses ts r)
spelled_or_refused = refusals.spelled_or_refused every 64

-- A front whose last token is END is a whole program.
pub ended_spelled : (d : ℕ) (u : List Token) (k : Token) → k.kind ≡ End → IsFront d (u ++ k ∷ []) → (t : Program) × Spells d (u ++ k ∷ []) t
unfolding program
ended_spelled d = ended.ended_spelled (tops_read d) (λ make k. make k.at)

-- A refusal of tokens whose last one is END has a place.
pub refusal_placed : (u : List Token) (k : Token) (r : Refusal) → k.kind ≡ End → Refuses (u ++ k ∷ []) r → (at : Place) × (r.place ≡ Some at)
refusal_placed = refusals.refusal_placed programs 64 (ended_spelled 64)

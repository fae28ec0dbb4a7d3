-- What a reader owes to the language that it reads.
-- The language comes with a wider one, which has one more level of nesting, and the reader with that one's reader.
use Rattle.std.specs.Prelude.{◌≡◌, ◌≤◌, List, [], ◌∷◌, ◌++◌, length, ◌⊎◌, Bool, true, false, Ok, Err}
use Rattle.dpl_syntax.specs.declared.token.Token.{Token}
use Rattle.dpl_grammar.specs.Classes.{Class, in_class, Lacks}
use Rattle.dpl_grammar.specs.Language.{Language}
use Rattle.dpl_grammar.specs.Reader.{Cause, NoRoom, Read, Reader, rest_of, next_in}

-- where reading stopped for want of room, the tokens read and the next one are a front of M
abbrev pub IsFrontDeeper : {T : Type 0} → Language T → List Token → Cause × List Token → Type 0
IsFrontDeeper M u e = (e.0 ≡ NoRoom) → (k : Token) × (r : List Token) × (e.1 ≡ k ∷ r) × M.Front (u ++ k ∷ [])

-- the tokens read spell the value, or are a front
abbrev pub Tells : {T : Type 0} → Language T → Language T → List Token → Read T → Type 0
Tells L M ts (Ok x) = (u : List Token) × (ts ≡ u ++ x.1) × L.Spells u x.0
Tells L M ts (Err e) = (u : List Token) × (ts ≡ u ++ e.1) × L.Front u × IsFrontDeeper M u e

-- the two readings are the same, or the first one wants room
abbrev pub Settles : {T : Type 0} → Read T → Read T → Type 0
Settles r s = (r ≡ s) ⊎ ((ts : List Token) × (r ≡ Err (NoRoom, ts)))

-- p reads L, and q reads M, which is L with one more level.
-- X: no front has a token of it. nullable: whether no token may spell a value. F: what the first token may be.
-- C: which next token may belong to a value that ends there.
pub record Reads {T : Type 0} (X : Class) (L M : Language T) (p q : Reader T) (nullable : Bool) (F : Class) (C : T → Class) : Type 0 where
  -- of the language: what fronts are
  pub empty : L.Front []
  pub whole : (u : List Token) (x : T) → L.Spells u x → L.Front u
  pub before : (u v : List Token) → L.Front (u ++ v) → L.Front u
  pub lacks : (u : List Token) → L.Front u → Lacks X u
  -- of the language: what the first token is
  pub solid : nullable ≡ false → (x : T) → L.Spells [] x → ⊥
  pub first : (k : Token) (u : List Token) → L.Front (k ∷ u) → in_class F k ≡ true
  -- of one more level: it only adds
  pub wider : (u : List Token) (x : T) → L.Spells u x → M.Spells u x
  pub wider_front : (u : List Token) → L.Front u → M.Front u
  -- of the reader: what it reads is so
  pub tells : (ts : List Token) → Tells L M ts (p ts)
  -- of the reader: what is so it reads, if nothing follows that may belong to it
  pub again : (u : List Token) (x : T) (rest : List Token) → L.Spells u x → next_in (C x) rest ≡ false → p (u ++ rest) ≡ Ok (x, rest)
  -- of the reader: it never stops within a front
  pub reaches : (u w : List Token) → L.Front u → length (rest_of (p (u ++ w))) ≤ length w
  -- of both readers: more room changes nothing but a stop for want of room
  pub same : (ts : List Token) → Settles (p ts) (q ts)

-- A language with any number of levels, and its reader: what the laws for one level more say of all numbers.
-- One more level changes nothing but a stop for want of room, so what holds with d levels holds with more.
use Rattle.std.proofs.Common.{◌≡◌, inl, inr, ℕ, zero, suc, ◌+◌, ◌≤◌, Bool, List, [], ◌∷◌, ◌++◌, length, Ok, Err, refl, sym, ap, subst, ◌∙◌, append_assoc, arith}
use Rattle.std.proofs.lemmas.List.{append-nil}
use Rattle.dpl_syntax.specs.declared.token.Token.{Token}
use Rattle.dpl_grammar.specs.Classes.{Class}
use Rattle.dpl_grammar.specs.Language.{Language}
use Rattle.dpl_grammar.specs.Reader.{Cause, Unexpected, NoRoom, Read, Reader, rest_of}
use Rattle.dpl_grammar.specs.Laws.{Tells, Settles, Reads}

-- results of reading

module _ {T : Type 0} where
  abbrev read_ok : T × List Token → Read T
  read_ok x = Ok x

  abbrev read_err : Cause × List Token → Read T
  read_err e = Err e

  pub ok_is : (a b : T × List Token) → read_ok a ≡ read_ok b → a ≡ b
  ok_is a b e = cc

  pub err_is : (a b : Cause × List Token) → read_err a ≡ read_err b → a ≡ b
  err_is a b e = cc

  pub not_room : (a b : List Token) → read_err (Unexpected, a) ≡ read_err (NoRoom, b) → ⊥
  not_room a b e = let c = ap (λ (x : Cause × List Token). x.0) (err_is (Unexpected, a) (NoRoom, b) e) in absurd cc

  read_not : (x : T × List Token) (e : Cause × List Token) → read_ok x ≡ read_err e → ⊥
  read_not x e h = absurd cc

module _ {T : Type 0} {X : Class} {L : ℕ → Language T} {p : ℕ → Reader T} {n : Bool} {F C : Class} (every : (d : ℕ) → Reads X (L d) (L (suc d)) (p d) (p (suc d)) n F (λ x. C)) where
  -- what isn't stopped for want of room is the same with more room
  pub stays : (d e : ℕ) (ts : List Token) (r : Read T) → ((l : List Token) → r ≡ Err (NoRoom, l) → ⊥) → p d ts ≡ r → p (e + d) ts ≡ r
  stays d zero ts r not is = let z : 0 + d ≡ d = omega arith in rw z is
  stays d (suc e) ts r not is =
      let n : suc e + d ≡ suc (e + d) = omega arith in
      rw n (at ((every (e + d)).same ts) (stays d e ts r not is))
    where
      at : Settles (p (e + d) ts) (p (suc (e + d)) ts) → p (e + d) ts ≡ r → p (suc (e + d)) ts ≡ r
      at (inl same) is = sym same ∙ is
      at (inr deep) is = absurd (not deep.0 (sym is ∙ deep.1))

  pub wider_front : (d e : ℕ) (u : List Token) → (L d).Front u → (L (e + d)).Front u
  wider_front d zero u f = let z : 0 + d ≡ d = omega arith in rw z f
  wider_front d (suc e) u f = let n : suc e + d ≡ suc (e + d) = omega arith in rw n ((every (e + d)).wider_front u (wider_front d e u f))

  pub wider : (d e : ℕ) (u : List Token) (x : T) → (L d).Spells u x → (L (e + d)).Spells u x
  wider d zero u x s = let z : 0 + d ≡ d = omega arith in rw z s
  wider d (suc e) u x s = let n : suc e + d ≡ suc (e + d) = omega arith in rw n ((every (e + d)).wider u x (wider d e u x s))

  -- the tokens up to the one at which reading stops are no front
  pub stops_no_front : (d : ℕ) (u rest : List Token) (k : Token) → rest_of (p d (u ++ k ∷ rest)) ≡ k ∷ rest → (L d).Front (u ++ k ∷ []) → ⊥
  stops_no_front d u rest k is f =
      let reach = (every d).reaches (u ++ k ∷ []) rest f in
      let whole : (u ++ k ∷ []) ++ rest ≡ u ++ k ∷ rest = append_assoc u (k ∷ []) rest in
      let said : length (rest_of (p d (u ++ k ∷ rest))) ≤ length rest = rw whole at reach in
      let long : suc (length rest) ≤ length rest = rw is at said in
      omega arith

  -- nor are they with any other number of levels, where reading doesn't stop for want of room
  pub stops_no_front_at_all : (d e : ℕ) (u rest : List Token) (k : Token) (r : Read T) → ((l : List Token) → r ≡ Err (NoRoom, l) → ⊥) → rest_of r ≡ k ∷ rest
      → p d (u ++ k ∷ rest) ≡ r → (L e).Front (u ++ k ∷ []) → ⊥
  stops_no_front_at_all d e u rest k r not stop is f =
      let is2 = stays d e (u ++ k ∷ rest) r not is in
      let f2 = wider_front e d (u ++ k ∷ []) f in
      let same : d + e ≡ e + d = omega arith in
      stops_no_front (e + d) u rest k (ap rest_of is2 ∙ stop) (rw same at f2)

  -- what is spelled is read
  pub spelled_read : (d : ℕ) (ts : List Token) (x : T) → (L d).Spells ts x → p d ts ≡ Ok (x, [])
  spelled_read d ts x s = sym (ap (p d) (append-nil ts)) ∙ (every d).again ts x [] s refl

  -- what is read with d levels is spelled, and nothing else is with any number
  pub read_spelled : (d : ℕ) (ts : List Token) (x : T) → p d ts ≡ Ok (x, []) → (L d).Spells ts x
  read_spelled d ts x is = let h = subst (Tells (L d) (L (suc d)) ts) is ((every d).tells ts) in rw (h.1 ∙ append-nil h.0) h.2

  pub read_only : (d e : ℕ) (ts : List Token) (x y : T) (rest : List Token) → p d ts ≡ Ok (x, rest) → (L e).Spells ts y → (x ≡ y) × (rest ≡ [])
  read_only d e ts x y rest is s =
      let one = stays d e ts (Ok (x, rest)) (λ l h. absurd cc) is in
      let same : d + e ≡ e + d = omega arith in
      let two = spelled_read (e + d) ts y (rw same at (wider e d ts y s)) in
      let both = ok_is (x, rest) (y, []) (sym one ∙ two) in
      (ap (λ (z : T × List Token). z.0) both, ap (λ (z : T × List Token). z.1) both)

  pub read_unspelled : (d e : ℕ) (ts rest : List Token) (x : T) → p d ts ≡ Err (Unexpected, rest) → (L e).Spells ts x → ⊥
  read_unspelled d e ts rest x is s =
      let one = stays d e ts (Err (Unexpected, rest)) (λ l h. not_room rest l h) is in
      let same : d + e ≡ e + d = omega arith in
      let two = spelled_read (e + d) ts x (rw same at (wider e d ts x s)) in
      read_not (x, []) (Unexpected, rest) (sym two ∙ one)

  -- two values that the same tokens spell are the same
  pub spelled_once : (d e : ℕ) (ts : List Token) (x y : T) → (L d).Spells ts x → (L e).Spells ts y → x ≡ y
  spelled_once d e ts x y r s = (read_only d e ts x y [] (spelled_read d ts x r) s).0

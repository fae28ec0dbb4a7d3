-- What a rule's reader does one level deeper, and where the rule doesn't begin: what each parser's functions are proved by.
-- Each equation has a reader with a number of levels on its left side, and what it is there on its right.
use Rattle.std.proofs.Common.{◌≡◌, ℕ, zero, suc, ◌+◌, ◌<◌, Bool, true, false, List, [], ◌∷◌, ◌++◌, Ok, Err, refl, subst, ◌∙◌, arith}
use Rattle.dpl_syntax.specs.declared.token.Token.{Token}
use Rattle.dpl_grammar.specs.Classes.{Class, in_class}
use Rattle.dpl_grammar.specs.Language.{Language}
use Rattle.dpl_grammar.specs.Reader.{Cause, Unexpected, NoRoom, Read, Reader, next_in, token_at, no_room}
use Rattle.dpl_grammar.specs.Laws.{Tells, Reads}
use Rattle.dpl_grammar.specs.Rule.{Names, Rule, below, Late, Grammar}
use Rattle.dpl_grammar.specs.Reading.{shape, shape_late, first, first_late, where_room_at, deep_at, read, read_late, faults, late_faults, below_faults}
use Rattle.dpl_grammar.proofs.Classes.{next_within}
use Rattle.dpl_grammar.proofs.Faults.{fits}
use Rattle.dpl_grammar.proofs.Late.{nullable_is}
use Rattle.dpl_grammar.proofs.Grammars.{reads, reads_late}

module _ {W : Names} (g : Grammar W) (ts : List Token) where
  -- a token that goes one level deeper

  pub deeper_with_room : (d : ℕ) (class : Class) → 0 < d → where_room_at (deep_at g d).room class ts ≡ token_at class ts
  deeper_with_room zero class h = absurd (omega arith)
  deeper_with_room (suc d) class h = refl

  pub deeper_without_room : (d : ℕ) (class : Class) → d ≡ 0 → where_room_at (deep_at g d).room class ts ≡ no_room class ts
  deeper_without_room zero class h = refl
  deeper_without_room (suc d) class h = absurd (omega arith)

  -- a rule one level deeper

  pub below_with_room : (n : W.Name) (d e : ℕ) → e + 1 ≡ d → read (below n) (deep_at g d) ts ≡ read_late (g.rule n) (deep_at g e) ts
  below_with_room n d e h = let is : d ≡ suc e = omega arith in rw is refl

  pub below_without_room : (n : W.Name) (d : ℕ) → d ≡ 0 → read (below n) (deep_at g d) ts ≡ no_room (W.hints.first n) ts
  below_without_room n zero h = refl
  below_without_room n (suc d) h = absurd (omega arith)

-- a reader refuses the next token where no value begins with it, and none does with one more level

module _ {T : Type 0} {X : Class} {L M : Language T} {p q : Reader T} {F : Class} {C : T → Class} (one : Reads X L M p q false F C)
    (begins : (k : Token) (u : List Token) → M.Front (k ∷ u) → in_class F k ≡ true) (ts : List Token) (h : next_in F ts ≡ false) where
  not_begun : (k : Token) (u rest : List Token) → ts ≡ (k ∷ u) ++ rest → in_class F k ≡ true → ⊥
  not_begun k u rest e is = let none = subst (λ (l : List Token). next_in F l ≡ false) e h in absurd cc

  abbrev Refuses : Read T → Type 0
  Refuses r = r ≡ Err (Unexpected, ts)

  stopped : (u : List Token) (e : Cause × List Token) → ts ≡ u ++ e.1 → L.Front u → (e.0 ≡ NoRoom → (k : Token) × (r : List Token) × (e.1 ≡ k ∷ r) × M.Front (u ++ k ∷ [])) → Refuses (Err e)
  stopped (k ∷ u) e is f deep = absurd (not_begun k u e.1 is (one.first k u f))
  stopped [] (Unexpected, rest) is f deep = rw is refl
  stopped [] (NoRoom, rest) is f deep =
      let d = deep refl in
      absurd (not_begun d.0 [] d.1 (is ∙ d.2) (begins d.0 [] d.3))

  refused : (r : Read T) → Tells L M ts r → Refuses r
  refused (Ok x) ([], is, s) = absurd (one.solid refl x.0 s)
  refused (Ok x) (k ∷ u, is, s) = absurd (not_begun k u x.1 is (one.first k u (one.whole (k ∷ u) x.0 s)))
  refused (Err e) (u, is, f, deep) = stopped u e is f deep

  reads_refuses : Refuses (p ts)
  reads_refuses = refused (p ts) (one.tells ts)

module _ {W : Names} (g : Grammar W) (X : Class) (good : (n : W.Name) → below_faults g X n ≡ []) (d : ℕ) (ts : List Token) where
  -- a rule without faults refuses what it doesn't begin with, with any number of levels

  pub rule_refuses : {T : Type 0} (r : Rule W T) → faults g X false r ≡ [] → (shape r).nullable ≡ false → next_in (first r) ts ≡ false → read r (deep_at g d) ts ≡ Err (Unexpected, ts)
  rule_refuses r right solid h = reads_refuses (nullable_is solid (reads g X good r right d)) (reads g X good r right (suc d)).first ts h

  pub late_refuses : {T : Type 0} {lets : T → Bool} (a : Late W T lets) → late_faults g X false a ≡ [] → (shape_late a).nullable ≡ false → next_in (first_late a) ts ≡ false → read_late a (deep_at g d) ts ≡ Err (Unexpected, ts)
  late_refuses a right solid h = reads_refuses (nullable_is solid (reads_late g X good a right d)) (reads_late g X good a right (suc d)).first ts h

module _ {W : Names} (g : Grammar W) (X : Class) (good : (n : W.Name) → below_faults g X n ≡ []) (n : W.Name) (ts : List Token) (h : next_in (W.hints.first n) ts ≡ false) where
  -- a rule that may stand one level deeper refuses what its names lack, where it stands and one level deeper

  pub named_refuses : (d : ℕ) → read_late (g.rule n) (deep_at g d) ts ≡ Err (Unexpected, ts)
  named_refuses d =
      let fit = fits g X n (good n) in
      late_refuses g X good d ts (g.rule n) fit.right fit.solid (next_within (first_late (g.rule n)) (W.hints.first n) ts fit.first h)

  pub below_refuses : (d : ℕ) → read (below n) (deep_at g d) ts ≡ Err (Unexpected, ts)
  below_refuses zero = rw h refl
  below_refuses (suc d) = named_refuses d

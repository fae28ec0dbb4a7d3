-- The views of a table's seats as a list, in which a step changes one.
-- A seat's number in the list is its place.
use Rattle.std.proofs.Common.{◌≡◌, ◌≢◌, ℕ, zero, suc, ◌⊎◌, List, [], ◌∷◌, ◌++◌, length, set, Bool, cond, eqb, Some, None, sym, refl, ap, ◌∙◌, subst, inl, inr, ⊎_elim, eq-eqb, ne_eqb}
use mathlib.Core.Option.{some, some-injective, some-ne-none}
use mathlib.Core.Logic.{dite}
use native.Mathlib.Decide.{ℕ_discrete}
use lib.ListN.{get_elem?}
use Rattle.atomic_table.proofs.Lists.{at_set, set_else}
use Rattle.dpl_cell.specs.declared.view.Hold.{Hold}
use Rattle.dpl_cell.specs.declared.view.View.{View}
use Rattle.dpl_cell.specs.Rule.{HeldBy}

pub get_elem?-set_same : {A : Type 0} (l : List A) (i : ℕ) (a b : A) → get_elem? l i ≡ some a → get_elem? (set l i b) i ≡ some b
get_elem?-set_same [] i a b e = absurd (some-ne-none a (sym e))
get_elem?-set_same (x ∷ xs) zero a b e = refl
get_elem?-set_same (x ∷ xs) (suc i) a b e = get_elem?-set_same xs i a b e

pub get_elem?-push : {A : Type 0} (l : List A) (a b : A) (j : ℕ) → get_elem? (l ++ a ∷ []) j ≡ some b → (get_elem? l j ≡ some b) ⊎ ((j ≡ length l) × (a ≡ b))
get_elem?-push [] a b zero e = inr (refl, some-injective a b e)
get_elem?-push [] a b (suc j) e = absurd (some-ne-none b (sym e))
get_elem?-push (x ∷ xs) a b zero e = inl e
get_elem?-push (x ∷ xs) a b (suc j) e = ⊎_elim (λ t. inl t) (λ t. inr (ap suc t.0, t.1)) (get_elem?-push xs a b j e)

-- a function on numbers, changed at one of them
abbrev pub changed_at : (ℕ → ℕ) → ℕ → ℕ → ℕ → ℕ
changed_at f c j d = cond (eqb d c) j (f d)

pub changed_at-same : (f : ℕ → ℕ) (c j : ℕ) → changed_at f c j c ≡ j
changed_at-same f c j = ap (λ (b : Bool). cond b j (f c)) (eq-eqb c c refl)

pub changed_at-other : (f : ℕ → ℕ) (c j d : ℕ) → d ≢ c → changed_at f c j d ≡ f d
changed_at-other f c j d ne = ap (λ (b : Bool). cond b j (f d)) (ne_eqb d c ne)

pub no_hold : (h : Hold) → None ≡ Some h → ⊥
no_hold h e = cc

-- a seat that holds nothing does not hold this cell
pub holds_nothing : (v : View) (c : ℕ) → v.held ≡ None → (h : Hold) → v.held ≡ Some h → h.cell ≡ c → ⊥
holds_nothing v c idle h e _ = cc

-- what holds of each view and its place, after a change of one
pub each_set : (K : ℕ → View → Type 0) (vs : List View) (id : ℕ) (u : View) → K id u → ((j : ℕ) (v : View) → j ≢ id → get_elem? vs j ≡ some v → K j v)
    → (j : ℕ) (v : View) → get_elem? (set vs id u) j ≡ some v → K j v
each_set K vs id u mine others j v e = ⊎_elim (λ (t : (j ≡ id) × (u ≡ v)). subst (λ (x : ℕ × View). K x.0 x.1) (λ i. (sym t.0 i, t.1 i)) mine)
    (λ (t : (j ≢ id) × (get_elem? vs j ≡ some v)). others j v t.0 t.1) (at_set vs id j u v e)

-- a seat that holds as before leaves each cell with its holder
pub HeldBy-set_same : (vs : List View) (id j c : ℕ) (v u : View) → get_elem? vs id ≡ some v → u.held ≡ v.held → HeldBy vs j c → HeldBy (set vs id u) j c
HeldBy-set_same vs id j c v u at same b = dite (ℕ_discrete j id)
    (λ e. (
      u,
      b.1,
      subst (λ (i : ℕ). get_elem? (set vs id u) i ≡ some u) (sym e) (get_elem?-set_same vs id v u at),
      same ∙ (ap (λ (w : View). w.held) (some-injective v b.0 (sym at ∙ subst (λ (i : ℕ). get_elem? vs i ≡ some b.0) e b.2)) ∙ b.3),
      b.4,
    ))
    (λ ne. (b.0, b.1, set_else vs id j u ne ∙ b.2, b.3, b.4))

-- a change of a seat that does not hold the cell leaves it with its holder
pub HeldBy-set_other : (vs : List View) (id j c : ℕ) (v u : View) → get_elem? vs id ≡ some v → ((h : Hold) → v.held ≡ Some h → h.cell ≡ c → ⊥) → HeldBy vs j c → HeldBy (set vs id u) j c
HeldBy-set_other vs id j c v u at not b = dite (ℕ_discrete j id)
    (λ e. absurd (not b.1 (ap (λ (w : View). w.held) (some-injective v b.0 (sym at ∙ subst (λ (i : ℕ). get_elem? vs i ≡ some b.0) e b.2)) ∙ b.3) b.4))
    (λ ne. (b.0, b.1, set_else vs id j u ne ∙ b.2, b.3, b.4))

-- of a holding seat: it holds no other cell than the one that it is known to hold
pub holds_other : (v : View) (h : Hold) (d : ℕ) → v.held ≡ Some h → d ≢ h.cell → (o : Hold) → v.held ≡ Some o → o.cell ≡ d → ⊥
holds_other v h d is ne o oh od = let same : h ≡ o = cc in ne (sym od ∙ sym (ap (λ (z : Hold). z.cell) same))

-- The arrays over a domain, as the scopes are gone through: what is declared stands behind those of its scope.
-- Before each mark stand the scopes that the marks before it leave open.
use Rattle.std.proofs.Common.{◌≡◌, ℕ, ◌+◌, ◌<◌, ◌≤◌, Bool, true, false, List, [], ◌∷◌, ◌++◌, length, get_or, take, drop, reverse, is_some, Option, Some, None, refl, sym, ap, ◌∙◌, subst, append-nil, length-append, arith}
use Rattle.std.specs.Prelude.{◌==◌, if◌then◌else◌, insert, option_map}
use Rattle.std.proofs.lemmas.List.{reverse-append, take_more, take-append-drop}
use Rattle.std.proofs.lemmas.List.Edits.{insert-append_left, insert_end}
use Rattle.dpl_rules.specs.Sights.{Declared, Scopes, enter, add}
use Rattle.dpl_scopes.specs.declared.scopes.Mark.{Mark}
use Rattle.dpl_scopes.specs.declared.scopes.Mark.TheVariants.{Opens, Declares}
use Rattle.dpl_scopes.specs.Marks.{scopes_by, AreKept}
use Rattle.dpl_scopes.specs.Slots.{next_slot_in}
use Rattle.dpl_memory.specs.Memory.{VariableKind}
use Rattle.dpl_memory.specs.Resolved.{Bound, Sighted, Sight, bind, is_over, arrays_in, arrays_over}
use Rattle.dpl_typed.specs.Leaves.{kind_if, kind_by, leaf_by}
use Rattle.dpl_bound.specs.Sights.{over_by, sighted_at, sight_of}
use Rattle.dpl_assignments.specs.Overs.{slot_of_bound, innermost_arrays, IsFoundBy, passed, IsAsDeep}
use Rattle.dpl_bound.proofs.Sights.{sight_of-next}

-- ---- SLOTS
pub some_if : (b : Bool) (k : VariableKind) → is_some (kind_if b k) ≡ b
some_if true k = refl
some_if false k = refl

pub leaf_slot : (o : Option VariableKind) (slot : ℕ) → (leaf_by o (Some slot)).slot ≡ (if is_some o then slot else 0)
leaf_slot None slot = refl
leaf_slot (Some k) slot = refl

pub over_some : (slot other : ℕ) (o : Option Bound) → Some other ≡ option_map slot_of_bound o → is_over slot o ≡ (slot == other)
over_some slot other None e = cc
over_some slot other (Some y) e = let same : other ≡ y.variable.slot = cc in ap (λ n. slot == n) (sym same)

pub over_none : (slot : ℕ) (o : Option Bound) → None ≡ option_map slot_of_bound o → is_over slot o ≡ false
over_none slot None e = refl
over_none slot (Some y) e = cc

-- ---- ONE MORE NAME
abbrev array_found : Bool → ℕ → List ℕ
array_found true slot = slot ∷ []
array_found false slot = []

arrays_in-append : (slot : ℕ) (bs : List Sighted) (b : Sighted) → arrays_in slot (bs ++ b ∷ []) ≡ arrays_in slot bs ++ array_found (is_over slot b.over) b.slot
arrays_in-append slot [] b =
    elim (is_over slot b.over) as (λ c. (if c then b.slot ∷ [] else []) ≡ array_found c b.slot) [ true ↦ refl | false ↦ refl ]
arrays_in-append slot (c ∷ bs) b =
    elim (is_over slot c.over) as (λ t. (if t then c.slot ∷ arrays_in slot (bs ++ b ∷ []) else arrays_in slot (bs ++ b ∷ [])) ≡ (if t then c.slot ∷ arrays_in slot bs else arrays_in slot bs) ++ array_found (is_over slot b.over) b.slot)
    [ true ↦ ap (λ ns. c.slot ∷ ns) (arrays_in-append slot bs b) | false ↦ arrays_in-append slot bs b ]

-- those of the innermost scope, and of the others
abbrev outer_arrays : ℕ → Sight → List ℕ
outer_arrays slot [] = []
outer_arrays slot (f ∷ fs) = arrays_over slot fs

arrays_over-split : (slot : ℕ) (fs : Sight) → arrays_over slot fs ≡ innermost_arrays slot fs ++ outer_arrays slot fs
arrays_over-split slot [] = refl
arrays_over-split slot (f ∷ fs) = refl

bound-inner : (slot : ℕ) (b : Sighted) (fs : Sight) → innermost_arrays slot (bind b fs) ≡ innermost_arrays slot fs ++ array_found (is_over slot b.over) b.slot
bound-inner slot b [] = arrays_in-append slot [] b
bound-inner slot b (f ∷ fs) = arrays_in-append slot f b

bound-outer : (slot : ℕ) (b : Sighted) (fs : Sight) → outer_arrays slot (bind b fs) ≡ outer_arrays slot fs
bound-outer slot b [] = refl
bound-outer slot b (f ∷ fs) = refl

bound-arrays : (slot : ℕ) (b : Sighted) (fs : Sight) → arrays_over slot (bind b fs) ≡ (innermost_arrays slot fs ++ array_found (is_over slot b.over) b.slot) ++ outer_arrays slot fs
bound-arrays slot b fs =
    arrays_over-split slot (bind b fs) ∙ ap (λ ns. ns ++ outer_arrays slot (bind b fs)) (bound-inner slot b fs)
    ∙ ap (λ ns. (innermost_arrays slot fs ++ array_found (is_over slot b.over) b.slot) ++ ns) (bound-outer slot b fs)

insert-between : (xs ys : List ℕ) (y : ℕ) → insert (xs ++ ys) (length xs) y ≡ (xs ++ y ∷ []) ++ ys
insert-between xs ys y = insert-append_left xs ys (length xs) y (omega arith) ∙ ap (λ zs. zs ++ ys) (insert_end xs y)

-- ---- FOUND SO FAR
pub found-begun : (slot : ℕ) (ss : Scopes) (found : List ℕ) (inner : ℕ) → ss ≡ [] → found ≡ [] → inner ≡ 0 → IsFoundBy slot ss found inner
found-begun slot ss found inner none empty at =
    subst (λ ss. IsFoundBy slot ss found inner) (sym none) (record { all = empty; first = at })

pub found-opened : (slot : ℕ) (ss : Scopes) (found : List ℕ) (inner : ℕ) → IsFoundBy slot ss found inner → IsFoundBy slot (enter ss) found 0
found-opened slot ss found inner h = record { all = h.all; first = refl }

pub found-within : (slot : ℕ) (ss : Scopes) (found : List ℕ) (inner : ℕ) → IsFoundBy slot ss found inner → inner ≤ length found
found-within slot ss found inner h =
    let fs = sight_of ss in
    let long = ap length (h.all ∙ arrays_over-split slot fs) ∙ length-append (innermost_arrays slot fs) (outer_arrays slot fs) in
    omega (arith, h.first, long)

module _ (slot : ℕ) (ss : Scopes) (d : Declared) (found : List ℕ) (inner : ℕ) (h : IsFoundBy slot ss found inner) where
  abbrev fs : Sight
  fs = sight_of ss

  abbrev b : Sighted
  b = sighted_at ss d (next_slot_in ss)

  -- what is declared is an array over the domain, or isn't
  with-found : (c : Bool) → is_over slot (over_by ss d.origin d.type) ≡ c → arrays_over slot (sight_of (add d ss)) ≡ (innermost_arrays slot fs ++ array_found c b.slot) ++ outer_arrays slot fs
  with-found c e = ap (arrays_over slot) (sight_of-next d ss) ∙ bound-arrays slot b fs ∙ ap (λ c. (innermost_arrays slot fs ++ array_found c b.slot) ++ outer_arrays slot fs) e

  with-inner : (c : Bool) → is_over slot (over_by ss d.origin d.type) ≡ c → innermost_arrays slot (sight_of (add d ss)) ≡ innermost_arrays slot fs ++ array_found c b.slot
  with-inner c e = ap (innermost_arrays slot) (sight_of-next d ss) ∙ bound-inner slot b fs ∙ ap (λ c. innermost_arrays slot fs ++ array_found c b.slot) e

  pub found-array : is_over slot (over_by ss d.origin d.type) ≡ true → (next : List ℕ) (n : ℕ) → next ≡ insert found inner (leaf_by (kind_by d.type) (Some (next_slot_in ss))).slot → n ≡ inner + 1 → IsFoundBy slot (add d ss) next n
  found-array e next n more one = record {
    all = more ∙ ap (λ ns. insert ns inner b.slot) (h.all ∙ arrays_over-split slot fs) ∙ ap (λ i. insert (innermost_arrays slot fs ++ outer_arrays slot fs) i b.slot) h.first
        ∙ insert-between (innermost_arrays slot fs) (outer_arrays slot fs) b.slot ∙ sym (with-found true e);
    first =
        let long = ap length (with-inner true e) ∙ length-append (innermost_arrays slot fs) (b.slot ∷ []) in
        omega (arith, one, h.first, long);
  }

  pub found-other : is_over slot (over_by ss d.origin d.type) ≡ false → IsFoundBy slot (add d ss) found inner
  found-other e = record {
    all = h.all ∙ arrays_over-split slot fs ∙ ap (λ ns. ns ++ outer_arrays slot fs) (sym (append-nil (innermost_arrays slot fs))) ∙ sym (with-found false e);
    first = h.first ∙ ap length (sym (with-inner false e ∙ append-nil (innermost_arrays slot fs)));
  }

-- ---- MARKS
pub take-mark : (ms : List Mark) (i : ℕ) (past : Mark) → i < length ms → reverse (take (i + 1) ms) ≡ get_or ms i past ∷ reverse (take i ms)
take-mark ms i past h = ap reverse (take_more ms i past h) ∙ reverse-append (take i ms) (get_or ms i past ∷ [])

kept-behind : (ls ms : List Mark) → AreKept (ls ++ ms) → AreKept ms
kept-behind [] ms h = h
kept-behind (Opens ∷ ls) ms h = kept-behind ls ms h
kept-behind (Declares e ∷ ls) ms h = kept-behind ls ms h.3

-- what is declared is as deep as the scopes before it
kept-at : (ms : List Mark) (i : ℕ) (past : Mark) → i < length ms → AreKept (reverse ms) → AreKept (get_or ms i past ∷ reverse (take i ms))
kept-at ms i past h kept =
    let split : take (i + 1) ms ++ drop (i + 1) ms ≡ ms = take-append-drop (i + 1) ms in
    subst AreKept (take-mark ms i past h)
    (kept-behind (reverse (drop (i + 1) ms)) (reverse (take (i + 1) ms)) (subst AreKept (ap reverse (sym split) ∙ reverse-append (take (i + 1) ms) (drop (i + 1) ms)) kept))

pub scopes_by-passed : (m : Mark) (ms : List Mark) → scopes_by (m ∷ ms) ≡ passed m (scopes_by ms)
scopes_by-passed Opens ms = refl
scopes_by-passed (Declares e) ms = refl

kept-deep : (m : Mark) (ms : List Mark) → AreKept (m ∷ ms) → IsAsDeep m (scopes_by ms)
kept-deep Opens ms h = tt
kept-deep (Declares e) ms h = h.0

pub deep-at : (ms : List Mark) (i : ℕ) (past : Mark) (ss : Scopes) → i < length ms → AreKept (reverse ms) → ss ≡ scopes_by (reverse (take i ms)) → IsAsDeep (get_or ms i past) ss
deep-at ms i past ss h kept before = subst (IsAsDeep (get_or ms i past)) (sym before) (kept-deep (get_or ms i past) (reverse (take i ms)) (kept-at ms i past h kept))

pub passed-at : (ms : List Mark) (i : ℕ) (past : Mark) (ss : Scopes) → i < length ms → ss ≡ scopes_by (reverse (take i ms)) → passed (get_or ms i past) ss ≡ scopes_by (reverse (take (i + 1) ms))
passed-at ms i past ss h before =
    ap (passed (get_or ms i past)) before ∙ sym (scopes_by-passed (get_or ms i past) (reverse (take i ms))) ∙ ap scopes_by (sym (take-mark ms i past h))

pub found-entered : (slot : ℕ) (ss : Scopes) (found : List ℕ) (inner : ℕ) (gs : List ℕ) (n : ℕ) → IsFoundBy slot ss found inner → gs ≡ found → n ≡ 0 → IsFoundBy slot (enter ss) gs n
found-entered slot ss found inner gs n h same none =
    subst (λ gs. IsFoundBy slot (enter ss) gs n) (sym same) (subst (IsFoundBy slot (enter ss) found) (sym none) (found-opened slot ss found inner h))

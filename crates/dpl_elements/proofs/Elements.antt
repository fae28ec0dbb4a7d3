-- Assignments to elements and to domains, by the values of their parts.
-- Each lemma has the meaning of the plain statement on its left side.
use Rattle.std.proofs.Common.{◌≡◌, ℕ, ℤ, Bool, true, false, ◌&&◌, List, Option, Some, None, option_map, Result, Ok, Err, refl, ap, ◌∙◌}
use Rattle.dpl_syntax.specs.declared.place.Place.{Place}
use Rattle.dpl_sets.specs.TextRanges.{TextRange}
use Rattle.dpl_language.specs.Tree.{Placed, Kind, Assign, Set, ExprTree, One}
use Rattle.dpl_language.specs.Values.{Value, Domain, Index, index_of, kept_number, ranges_in, Fault, fault, ArrayTooLarge}
use Rattle.dpl_language.specs.Arithmetic.{assign_divides, tested_divisor, assigned}
use Rattle.dpl_language.specs.Ranges.{too_large}
use Rattle.dpl_language.specs.Outcome.{Deeds, Done, Stop, Run, with_ok, with_value, unless}
use Rattle.dpl_language.specs.Environment.{Limits}
use Rattle.dpl_language.specs.Phrases.{cell_read}
use Rattle.dpl_language.specs.Expressions.{found, value_of, values_of}
use Rattle.dpl_language.specs.Assignments.{change}
use Rattle.dpl_language.specs.Statements.{exec}
use Rattle.dpl_lowered.specs.Shapes.{nowhere, kept}
use Rattle.dpl_memory.specs.Memory.{ArrayKind, Variable, Memory, element_as, with_element_in, array_at, with_array, held_at, held_with, redomained_in, is_some_array, in_memory}
use Rattle.dpl_nodes.specs.declared.tree.IndexExpr.{IndexExpr}
use Rattle.dpl_nodes.specs.declared.step.ArrayName.{ArrayName}
use Rattle.dpl_nodes.specs.declared.step.DomainName.{DomainName}
use Rattle.dpl_nodes.specs.Typed.{index_exprs}
use Rattle.dpl_nodes.specs.Steps.{domain_leaf, array_leaf, element_set, whole_set}
use Rattle.dpl_values.specs.Elements.{word_found}
use Rattle.dpl_elements.specs.Changes.{ends_as, signed, put_memory, for_array_at}
use Rattle.dpl_elements.proofs.Changing.{evaluated-item}

-- the place of an operator that doesn't divide is never told
tested-kept : (divides : Bool) (at : Place) (w : Value) → tested_divisor divides (kept divides at) w ≡ tested_divisor divides at w
tested-kept true at w = refl
tested-kept false at w = refl

-- the indices' values, as the index that they are
index-ends : (r : Result (List Value) Fault) (q : Result Index Fault) (go : Index → Run Memory) (s : Memory) (done : Deeds) → with_ok r (λ vs. Ok (index_of vs)) ≡ q
    → with_value r (λ vs. go (index_of vs)) s done ≡ with_value q go s done
index-ends (Ok vs) q go s done e = ap (λ q. with_value q go s done) e
index-ends (Err f) q go s done e = ap (λ q. with_value q go s done) e

module _ (limits : Limits) where
  change-kept : (x : Placed Variable) (op : Assign) (at : Place) (t : Index) (w : Value) (s : Memory) (done : Deeds)
      → change limits in_memory x (signed op (kept (assign_divides op) at)) t w s done ≡ change limits in_memory x (signed op at) t w s done
  change-kept x op at t w s done =
      ap (λ r. with_value (found x.at (in_memory.element x.name t s))
      (λ old. with_value r (λ w s done. Done (in_memory.put_element x.name t (assigned op None old w) s) done)) s done) (tested-kept (assign_divides op) at w)

  -- an assignment to an element, by the right side and the index
  pub exec-element : (x : Placed Variable) (t : IndexExpr) (op : Assign) (at : Place) (e : ExprTree Variable) (s : Memory) (done : Deeds) (w : Value) (q : Result Index Fault)
      → cell_read e ≡ None → value_of limits in_memory e None s ≡ Ok w → with_ok (values_of limits in_memory (index_exprs t) s) (λ vs. Ok (index_of vs)) ≡ q
      → exec limits in_memory (element_set x t op at e) s done ≡ with_value q (λ i. change limits in_memory x (signed op at) i w) s done
  exec-element x t op at e s done w q read value index =
      let signed_at = signed op (kept (assign_divides op) at) in
      evaluated-item limits (One e) (λ w s done. with_value (values_of limits in_memory (index_exprs t) s) (λ is. change limits in_memory x signed_at (index_of is) w) s done) s done read
      ∙ ap (λ r. with_value r (λ w s done. with_value (values_of limits in_memory (index_exprs t) s) (λ is. change limits in_memory x signed_at (index_of is) w) s done) s done) value
      ∙ index-ends (values_of limits in_memory (index_exprs t) s) q (λ i. change limits in_memory x signed_at i w) s done index
      ∙ kept-ends q
    where
      kept-ends : (q : Result Index Fault)
          → with_value q (λ i. change limits in_memory x (signed op (kept (assign_divides op) at)) i w) s done ≡ with_value q (λ i. change limits in_memory x (signed op at) i w) s done
      kept-ends (Ok i) = change-kept x op at i w s done
      kept-ends (Err f) = refl

  -- an element that is found is put by an operator that has no use for the old value
  put-found : (k : Kind) (a : Place) (slot : ℕ) (op : Assign) (at : Place) (t : Index) (w : Value) (s : Memory) (done : Deeds) (o : Option ℤ)
      → assign_divides op ≡ false → ((old new : Value) → assigned op None old new ≡ new)
      → with_value (found a (option_map (element_as k) o)) (λ old. with_value (tested_divisor (assign_divides op) at w) (λ w s done. Done (with_element_in (ArrayKind k) slot t (assigned op None old w) s) done)) s done
      ≡ ends_as (with_ok (word_found a o) (λ old. Ok (with_array slot (held_with t (kept_number w) (array_at slot s)) s))) done
  put-found k a slot op at t w s done None divides replaces = refl
  put-found k a slot op at t w s done (Some n) divides replaces =
      ap (λ b. with_value (tested_divisor b at w) (λ w s done. Done (with_element_in (ArrayKind k) slot t (assigned op None (element_as k n) w) s) done) s done) divides
      ∙ ap (λ v. Done (with_element_in (ArrayKind k) slot t v s) done) (replaces (element_as k n) w)

  pub change-put : (k : Kind) (x : ArrayName) (op : Assign) (at : Place) (t : Index) (w : Value) (s : Memory) (done : Deeds)
      → assign_divides op ≡ false → ((old new : Value) → assigned op None old new ≡ new)
      → change limits in_memory (array_leaf k x) (signed op at) t w s done ≡ ends_as (put_memory x.at.now x.slot t (kept_number w) s) done
  change-put k x op at t w s done = put-found k x.at.now x.slot op at t w s done (held_at t (array_at x.slot s))

  -- an element is assigned by such an operator
  pub exec-put : (k : Kind) (x : ArrayName) (t : IndexExpr) (op : Assign) (at : Place) (e : ExprTree Variable) (s : Memory) (done : Deeds) (w : Value)
      → cell_read e ≡ None → value_of limits in_memory e None s ≡ Ok w → assign_divides op ≡ false → ((old new : Value) → assigned op None old new ≡ new)
      → exec limits in_memory (element_set (array_leaf k x) t op at e) s done
      ≡ ends_as (with_ok (values_of limits in_memory (index_exprs t) s) (λ vs. put_memory x.at.now x.slot (index_of vs) (kept_number w) s)) done
  exec-put k x t op at e s done w read value divides replaces =
      exec-element (array_leaf k x) t op at e s done w (with_ok (values_of limits in_memory (index_exprs t) s) (λ vs. Ok (index_of vs))) read value refl
      ∙ by (values_of limits in_memory (index_exprs t) s)
    where
      by : (r : Result (List Value) Fault) → with_value (with_ok r (λ vs. Ok (index_of vs))) (λ i. change limits in_memory (array_leaf k x) (signed op at) i w) s done
          ≡ ends_as (with_ok r (λ vs. put_memory x.at.now x.slot (index_of vs) (kept_number w) s)) done
      by (Err f) = refl
      by (Ok vs) = change-put k x op at (index_of vs) w s done divides replaces

  -- an assignment to an element whose right side is a fault
  pub exec-element-fault : (x : Placed Variable) (t : IndexExpr) (op : Assign) (at : Place) (e : ExprTree Variable) (s : Memory) (done : Deeds) (f : Fault)
      → cell_read e ≡ None → value_of limits in_memory e None s ≡ Err f → exec limits in_memory (element_set x t op at e) s done ≡ Stop f done
  exec-element-fault x t op at e s done f read value =
      let signed_at = signed op (kept (assign_divides op) at) in
      let go = λ (w : Value) (s : Memory) (done : Deeds). with_value (values_of limits in_memory (index_exprs t) s) (λ is. change limits in_memory x signed_at (index_of is) w) s done in
      evaluated-item limits (One e) go s done read ∙ ap (λ r. with_value r go s done) value

  -- an assignment to a domain, by its value
  pub exec-domain : (x : DomainName) (e : ExprTree Variable) (s : Memory) (done : Deeds) (rs : List TextRange) → cell_read e ≡ None → value_of limits in_memory e None s ≡ Ok (Domain rs)
      → exec limits in_memory (whole_set (domain_leaf x) Set nowhere e) s done
      ≡ unless (too_large rs && is_some_array x.arrays.now) (fault ArrayTooLarge x.at.now) (λ s done. Done (redomained_in (domain_leaf x).name rs s) done) s done
  exec-domain x e s done rs read value =
      evaluated-item limits (One e) (λ v s done. unless (too_large (ranges_in v) && is_some_array x.arrays.now) (fault ArrayTooLarge x.at.now) (λ s done. Done (redomained_in (domain_leaf x).name (ranges_in v) s) done) s done) s done read
      ∙ ap (λ r. with_value r (λ v s done. unless (too_large (ranges_in v) && is_some_array x.arrays.now) (fault ArrayTooLarge x.at.now) (λ s done. Done (redomained_in (domain_leaf x).name (ranges_in v) s) done) s done) s done) value

  pub exec-domain-fault : (x : DomainName) (e : ExprTree Variable) (s : Memory) (done : Deeds) (f : Fault) → cell_read e ≡ None → value_of limits in_memory e None s ≡ Err f
      → exec limits in_memory (whole_set (domain_leaf x) Set nowhere e) s done ≡ Stop f done
  exec-domain-fault x e s done f read value =
      let go = λ (v : Value) (s : Memory) (done : Deeds). unless (too_large (ranges_in v) && is_some_array x.arrays.now) (fault ArrayTooLarge x.at.now) (λ s done. Done (redomained_in (domain_leaf x).name (ranges_in v) s) done) s done in
      evaluated-item limits (One e) go s done read ∙ ap (λ r. with_value r go s done) value

-- what the test of a domain tells
pub for_array-fault : (at : Place) (rs : List TextRange) (f : Fault) → for_array_at at rs ≡ Err f → (too_large rs ≡ true) × (fault ArrayTooLarge at ≡ f)
for_array-fault at rs f e = by (too_large rs) refl e
  where
    by : (b : Bool) → too_large rs ≡ b → for_array_at at rs ≡ Err f → (too_large rs ≡ true) × (fault ArrayTooLarge at ≡ f)
    by true is e = (is, let same : Err (fault ArrayTooLarge at) ≡ Err f = rw is at e in cc)
    by false is e = absurd (let no : Ok rs ≡ Err f = rw is at e in cc)

pub for_array-value : (at : Place) (rs qs : List TextRange) → for_array_at at rs ≡ Ok qs → (too_large rs ≡ false) × (qs ≡ rs)
for_array-value at rs qs e = by (too_large rs) refl e
  where
    by : (b : Bool) → too_large rs ≡ b → for_array_at at rs ≡ Ok qs → (too_large rs ≡ false) × (qs ≡ rs)
    by true is e = absurd (let no : Err (fault ArrayTooLarge at) ≡ Ok qs = rw is at e in cc)
    by false is e = (is, let same : Ok rs ≡ Ok qs = rw is at e in cc)

pub and-false : (b : Bool) → (b && false) ≡ false
and-false true = refl
and-false false = refl

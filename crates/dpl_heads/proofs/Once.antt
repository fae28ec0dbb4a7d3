-- The variables of a loop are each there once, whatever type they have.
-- Which names stand in the innermost scope is all that is asked.
use Rattle.std.proofs.Common.{◌≡◌, ◌<◌, ℕ, ◌+◌, Bool, true, false, not, ◌||◌, if◌then◌else◌, is_some, List, [], ◌∷◌, ◌++◌, length, drop, get_or, Option, Some, None, refl, sym, ap, ◌∙◌, append_assoc}
use Rattle.std.specs.Prelude.{bytes_eq}
use Rattle.std.proofs.lemmas.List.{drop_more, append-nil}
use Rattle.dpl_syntax.specs.declared.refusal.Breach.{Breach}
use Rattle.dpl_syntax.specs.declared.refusal.Code.TheVariants.{NameTwice}
use Rattle.dpl_language.specs.Tree.{Placed}
use Rattle.dpl_language.specs.Names.{Text}
use Rattle.dpl_tree.specs.declared.statement.NextName.{NextName}
use Rattle.dpl_tree.specs.View.{name_view}
use Rattle.dpl_rules.specs.Types.{ValueType}
use Rattle.dpl_rules.specs.Verdicts.{owed}
use Rattle.dpl_rules.specs.Sights.{Declared, Scopes, find, declared_here, add}
use Rattle.dpl_rules.specs.Loops.{each_once, add_variables}
use Rattle.dpl_rules.specs.Breaches.{least_from}
use Rattle.dpl_scopes.specs.Slots.{next_slot_in}
use Rattle.dpl_types.proofs.Breaches.{least_from_append}
use Rattle.dpl_bound.specs.Bounds.{loop_variable}
use Rattle.dpl_heads.specs.Listed.{names_in, slots_from}

-- the innermost scopes of both have the same names
abbrev Same : Scopes → Scopes → Type 0
Same ss us = (x : Text) → declared_here ss x ≡ declared_here us x

pub declared_here_add : (d : Declared) (ss : Scopes) (x : Text) → declared_here (add d ss) x ≡ (bytes_eq x d.origin.name || declared_here ss x)
declared_here_add d [] x = by_test (bytes_eq x d.origin.name)
  where
    by_test : (b : Bool) → is_some (if b then Some d else None) ≡ (b || false)
    by_test true = refl
    by_test false = refl
declared_here_add d (s ∷ ss) x = by_test (bytes_eq x d.origin.name)
  where
    by_test : (b : Bool) → is_some (if b then Some d else find s x) ≡ (b || is_some (find s x))
    by_test true = refl
    by_test false = refl

same_variable : (t u : Option ValueType) (x : Placed Text) (ss us : Scopes) → Same ss us → Same (add (loop_variable t ss x.name) ss) (add (loop_variable u us x.name) us)
same_variable t u x ss us same = λ y.
    declared_here_add (loop_variable t ss x.name) ss y
    ∙ ap (λ b. bytes_eq y x.name || b) (same y)
    ∙ sym (declared_here_add (loop_variable u us x.name) us y)

each_once_same : (xs : List (Placed Text)) (ss us : Scopes) → Same ss us → each_once ss xs ≡ each_once us xs
each_once_same [] ss us same = refl
each_once_same (x ∷ xs) ss us same =
    ap (λ b. owed (not b) x.at NameTwice ++ each_once (add (loop_variable None ss x.name) ss) xs) (same x.name)
    ∙ ap (λ bs. owed (not (declared_here us x.name)) x.at NameTwice ++ bs)
    (each_once_same xs (add (loop_variable None ss x.name) ss) (add (loop_variable None us x.name) us) (same_variable None None x ss us same))

-- with a type or without
pub each_once_typed : (t : Option ValueType) (x : Placed Text) (ss : Scopes) (xs : List (Placed Text)) → each_once (add (loop_variable t ss x.name) ss) xs ≡ each_once (add (loop_variable None ss x.name) ss) xs
each_once_typed t x ss xs = each_once_same xs (add (loop_variable t ss x.name) ss) (add (loop_variable None ss x.name) ss) (same_variable t None x ss ss (λ y. refl))

-- ---- one variable of those behind commas
module _ (t : Option ValueType) (xs : List NextName) (k : ℕ) (d : NextName) (within : k < length xs) (ss us : Scopes) (opened : us ≡ add_variables t (name_view (get_or xs k d).name ∷ []) ss) where
  pub variables_step : (o p : Option Breach) → p ≡ least_from o (each_once ss (name_view (get_or xs k d).name ∷ [])) →
      (add_variables t (names_in (drop (k + 1) xs)) us ≡ add_variables t (names_in (drop k xs)) ss)
      × (least_from p (each_once us (names_in (drop (k + 1) xs))) ≡ least_from o (each_once ss (names_in (drop k xs))))
  variables_step o p told =
      let x = name_view (get_or xs k d).name in
      let left = names_in (drop (k + 1) xs) in
      let twice = owed (not (declared_here ss x.name)) x.at NameTwice in
      rw (drop_more xs k d within) (
        ap (add_variables t left) opened,
        ap (λ q. least_from q (each_once us left)) (told ∙ ap (least_from o) (append-nil twice))
            ∙ sym (least_from_append o twice (each_once us left))
            ∙ ap (λ bs. least_from o (twice ++ bs)) (ap (λ ss. each_once ss left) opened ∙ each_once_typed t x ss left),
      )

  pub slots_step : (slot : ℕ) (ns ms : List ℕ) → slot ≡ next_slot_in ss → ms ≡ ns ++ slot ∷ []
      → ms ++ slots_from t (names_in (drop (k + 1) xs)) us ≡ ns ++ slots_from t (names_in (drop k xs)) ss
  slots_step slot ns ms next pushed =
      let x = name_view (get_or xs k d).name in
      let left = names_in (drop (k + 1) xs) in
      rw (drop_more xs k d within) (
      ap (λ ls. ls ++ slots_from t left us) pushed
      ∙ append_assoc ns (slot ∷ []) (slots_from t left us)
      ∙ ap (λ us. ns ++ slot ∷ slots_from t left us) opened
      ∙ ap (λ n. ns ++ n ∷ slots_from t left (add (loop_variable t ss x.name) ss)) next
      )

-- the first of several variables, and then the others
pub variables_begin : (t : Option ValueType) (x : Placed Text) (xs : List (Placed Text)) (ss us : Scopes) (o p q : Option Breach) →
    us ≡ add_variables t (x ∷ []) ss → p ≡ least_from o (each_once ss (x ∷ [])) → q ≡ least_from p (each_once us xs) → q ≡ least_from o (each_once ss (x ∷ xs))
variables_begin t x xs ss us o p q opened head rest =
    let twice = owed (not (declared_here ss x.name)) x.at NameTwice in
    rest
    ∙ ap (λ p. least_from p (each_once us xs)) (head ∙ ap (least_from o) (append-nil twice))
    ∙ sym (least_from_append o twice (each_once us xs))
    ∙ ap (λ bs. least_from o (twice ++ bs)) (ap (λ ss. each_once ss xs) opened ∙ each_once_typed t x ss xs)

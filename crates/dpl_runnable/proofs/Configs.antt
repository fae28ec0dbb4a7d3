-- What the command line owes the top level's names: what holds behind a declaration holds before it.
-- A name is declared once in the only scope, so that a later declaration hides none.
use Rattle.std.proofs.Common.{◌≡◌, suc, ◌+◌, Bool, true, false, [], ◌∷◌, length, Option, Some, None, refl, sym, ap, subst}
use Rattle.std.specs.Prelude.{bytes_eq, if◌then◌else◌}
use Rattle.std.specs.Option.{option_or}
use Rattle.std.proofs.lemmas.Slice.Eq.{bytes_eq-Decides}
use Rattle.dpl_syntax.specs.declared.place.Place.{Place}
use Rattle.dpl_language.specs.Tree.{DeclareTree, StmtTree, Stmts, NoStmts, Then}
use Rattle.dpl_language.specs.Names.{Text}
use Rattle.dpl_rules.specs.Sights.{Declared, Scope, Scopes, find, lookup, type_declared, declared_here, add}
use Rattle.dpl_rules.specs.Loops.{behind}
use Rattle.dpl_rules.specs.Sound.{is_configured, behind_all}
use Rattle.dpl_rules.specs.Declarations.{sort_of, declared_by}
use Rattle.dpl_scopes.specs.Slots.{count_in, place_in, slot_or, slot_in}
use Rattle.dpl_memory.specs.Resolved.{Bound, Start}
use Rattle.dpl_typed.specs.Leaves.{kind_by, leaf_by}
use Rattle.dpl_bound.specs.Shapes.{shape_by}
use Rattle.dpl_bound.specs.Sights.{bound_in, bound_at, AreKnownScopes}
use Rattle.dpl_bound.specs.Bounds.{bound_new}
use Rattle.dpl_runnable.specs.Given.{IsOfLeaf, IsGiven, IsConfig, AreGiven}
use Rattle.dpl_runnable.specs.InSight.{AreOpen, IsOneScope, AreOwed, IsOwedBy, IsOwed}
use Rattle.dpl_runnable.proofs.Scoped.{unfound, next_open, added-new, behind-cases}

one-add : (d : Declared) (ss : Scopes) → IsOneScope ss → IsOneScope (add d ss)
one-add d [] h = absurd h
one-add d (s ∷ []) h = tt
one-add d (s ∷ t ∷ ss) h = absurd h

one-before : (d : Declared) (ss : Scopes) → AreOpen ss → IsOneScope (add d ss) → IsOneScope ss
one-before d [] opened h = absurd opened
one-before d (s ∷ []) opened h = tt
one-before d (s ∷ t ∷ ss) opened h = absurd h

-- the top level stays one scope
pub tops-one : (ts : Stmts Text) (ss : Scopes) → IsOneScope ss → IsOneScope (behind_all ss ts)
tops-one NoStmts ss h = h
tops-one (Then t rest) ss h = tops-one rest (behind ss t) (behind-cases IsOneScope t ss h (λ d. one-add d ss h))

-- a name, as it is resolved behind a declaration, by whether it is the declared one
abbrev bound_by : Declared → Scope → Scopes → Text → Bool → Bound
bound_by d s ss x t = record {
  text = x;
  variable = leaf_by (kind_by (type_declared (option_or (if t then Some d else find s x) (lookup ss x)))) (slot_or (if t then Some (length s + suc (count_in ss)) else place_in s x (suc (count_in ss))) (slot_in ss x));
  shape = shape_by (type_declared (option_or (if t then Some d else find s x) (lookup ss x)));
}

abbrev GivenBy : Start → Declared → Scope → Scopes → Text → Bool → Type 0
GivenBy start d s ss x t = IsConfig (option_or (if t then Some d else find s x) (lookup ss x)) → IsGiven start (bound_by d s ss x t)

given-before : (start : Start) (d : Declared) (ss : Scopes) → declared_here ss d.origin.name ≡ false → IsOneScope ss → AreGiven start (add d ss) → AreGiven start ss
given-before start d [] alone h given = absurd h
given-before start d (s ∷ t ∷ ss) alone h given = absurd h
given-before start d (s ∷ []) alone h given = λ x c. other x c (bytes_eq x d.origin.name) refl (given x)
  where
    other : (x : Text) → IsConfig (lookup (s ∷ []) x) → (t : Bool) → bytes_eq x d.origin.name ≡ t → GivenBy start d s [] x t → IsGiven start (bound_in (s ∷ []) x)
    other x c true e g =
        let none : find s x ≡ None = subst (λ y. find s y ≡ None) (sym ((bytes_eq-Decides x d.origin.name).0 e)) (unfound (find s d.origin.name) alone) in
        absurd (subst (λ o. IsConfig (option_or o None)) none c)
    other x c false e g = g c

-- so what is owed behind a statement is owed before it
pub owed-before : (t : StmtTree Text) (ss : Scopes) (start : Start) → AreOpen ss → AreKnownScopes (behind ss t) → AreOwed start (behind ss t) → AreOwed start ss
owed-before t ss start opened =
    behind-cases (λ to. AreKnownScopes to → AreOwed start to → AreOwed start ss) t ss (λ known owed. owed)
    (λ d known owed. let one = one-before d ss opened owed.0 in (one, given-before start d ss (added-new d ss known) one owed.1))

same-text : (x : Text) → bytes_eq x x ≡ true
same-text x = (bytes_eq-Decides x x).1 refl

-- a `config const` is told by its name behind its declaration
given-new : (start : Start) (d : Declared) (ss : Scopes) → IsConfig (Some d) → AreGiven start (add d ss) → IsGiven start (bound_new ss d)
given-new start d [] config given = subst (GivenBy start d [] [] d.origin.name) (same-text d.origin.name) (given d.origin.name) config
given-new start d (s ∷ ss) config given =
    subst (λ n. IsGiven start (bound_at d n)) (next_open s ss) (subst (GivenBy start d s ss d.origin.name) (same-text d.origin.name) (given d.origin.name) config)

pub given-owed : (start : Start) (ss : Scopes) (d : DeclareTree Text) → ((at : Place) → d.config ≡ Some at → IsOfLeaf (declared_by ss d)) → AreGiven start (add (declared_by ss d) ss) → IsOwed start ss d
given-owed start ss d leaf given = by d.config refl
  where
    by : (config : Option Place) → d.config ≡ config → IsOwedBy config start (bound_new ss (declared_by ss d))
    by None e = tt
    by (Some at) e = given-new start (declared_by ss d) ss (ap (λ c. is_configured (sort_of c d.constant)) e, leaf at e) given

-- Where an assignment's operator breaks no rule, what is assigned takes the value.
-- A name in sight is of a type that has a kind, and of none of promoted expressions.
use Rattle.std.proofs.Common.{◌≡◌, Bool, true, false, ◌&&◌, [], Some, refl, ◌∙◌}
use Rattle.std.proofs.lemmas.Option.{none-some}
use Rattle.dpl_syntax.specs.declared.place.Place.{Place}
use Rattle.dpl_syntax.specs.declared.refusal.Code.TheVariants.{WrongType}
use Rattle.dpl_language.specs.Tree.{Kind, IntKind, Assign, Set, SetAdd, SetSubtract, SetMultiply, SetDivide, SetRemainder, SetReduce, AssignTree}
use Rattle.dpl_rules.specs.Types.{ValueType, Scalar, Range, Domain, Array, Promoted, Tuple, Locale, AllLocales, Cell, same_kind, is_scalar, is_domain_of, fits_array}
use Rattle.dpl_rules.specs.Verdicts.{Part}
use Rattle.dpl_rules.specs.Assignments.{set_breaches, change_breaches, fitting}
use Rattle.dpl_memory.specs.Memory.{VariableKind}
use Rattle.dpl_typed.specs.Leaves.{value_kind}
use Rattle.dpl_bound.specs.Sights.{is_promoted_type}
use Rattle.dpl_assignments.specs.Plain.{IsReducible}
use Rattle.dpl_assignments.specs.Takes.{element_by, scalar_by, Takes}
use Rattle.dpl_types.proofs.Unbroken.{owed-holds, both-hold}

-- a side of a type
abbrev pub side_of : Place → ValueType → Part
side_of at u = record { at = at; type = Some u }

module _ (at first : Place) (u : ValueType) where
  -- ---- `=`
  set-takes : (t : ValueType) (k : VariableKind) → value_kind t ≡ Some k → is_promoted_type t ≡ false → set_breaches at (side_of first u) t ≡ [] → Takes Set t u
  set-takes (Scalar l) k e p h = (owed-holds (is_scalar l u) first WrongType h, refl)
  set-takes (Range strided) k e p h = absurd cc
  set-takes (Domain rank strided) k e p h = (owed-holds (is_domain_of rank strided u) first WrongType h, refl)
  set-takes (Array l over) k e p h = (owed-holds (fits_array l over u) first WrongType h, refl)
  set-takes (Promoted l over) k e p h = absurd (let f : true ≡ false = p in cc)
  set-takes (Tuple rank) k e p h = absurd cc
  set-takes Locale k e p h = absurd (none-some k e)
  set-takes AllLocales k e p h = absurd (none-some k e)
  set-takes (Cell l) k e p h = absurd (none-some k e)

  -- ---- `reduce=`
  reduce-takes : (t : ValueType) → Takes Set t u → IsReducible SetReduce (Some t) → Takes SetReduce t u
  reduce-takes (Scalar l) h r = (h.0, refl)
  reduce-takes (Domain rank strided) h r = absurd (let f : false ≡ true = r in cc)
  reduce-takes (Array l over) h r = absurd (let f : false ≡ true = r in cc)
  reduce-takes _ h r = h

  -- ---- the operators of arithmetic, which all take the same
  module _ (op : Assign) (element : (l : Kind) → element_by l op ≡ same_kind IntKind l) (variable : (l : Kind) → scalar_by l op ≡ same_kind IntKind l) where
    change-takes : (t : ValueType) (k : VariableKind) → value_kind t ≡ Some k → is_promoted_type t ≡ false → change_breaches at (side_of first u) t ≡ [] → Takes op t u
    change-takes (Scalar l) k e p h =
        let both = both-hold (same_kind IntKind l) (is_scalar l u) (owed-holds (same_kind IntKind l && is_scalar l u) at WrongType h) in
        (both.1, variable l ∙ both.0)
    change-takes (Array l over) k e p h =
        let both = both-hold (same_kind IntKind l) (fits_array l over u) (owed-holds (same_kind IntKind l && fits_array l over u) at WrongType h) in
        (both.1, element l ∙ both.0)
    change-takes (Promoted l over) k e p h = absurd (let f : true ≡ false = p in cc)
    change-takes AllLocales k e p h = absurd (none-some k e)
    change-takes (Cell l) k e p h = absurd (none-some k e)
    change-takes _ k e p h = absurd cc

-- ---- an assignment to a name
pub fitting-takes : (sign : AssignTree) (op : Assign) (may : Bool) (first : Place) (t u : ValueType) (k : VariableKind) → value_kind t ≡ Some k → is_promoted_type t ≡ false → IsReducible op (Some t)
    → fitting sign op may (side_of first u) t ≡ [] → Takes op t u
fitting-takes sign Set may first t u k e p r h = set-takes sign.at first u t k e p h
fitting-takes sign SetAdd may first t u k e p r h = change-takes sign.at first u SetAdd (λ l. refl) (λ l. refl) t k e p h
fitting-takes sign SetSubtract may first t u k e p r h = change-takes sign.at first u SetSubtract (λ l. refl) (λ l. refl) t k e p h
fitting-takes sign SetMultiply may first t u k e p r h = change-takes sign.at first u SetMultiply (λ l. refl) (λ l. refl) t k e p h
fitting-takes sign SetDivide may first t u k e p r h = change-takes sign.at first u SetDivide (λ l. refl) (λ l. refl) t k e p h
fitting-takes sign SetRemainder may first t u k e p r h = change-takes sign.at first u SetRemainder (λ l. refl) (λ l. refl) t k e p h
fitting-takes sign SetReduce true first t u k e p r h = reduce-takes sign.at first u t (set-takes sign.at first u t k e p h) r
fitting-takes sign SetReduce false first t u k e p r h = absurd cc

-- ---- an assignment to an element, to which no value is given by `reduce=`
arithmetic-takes : (at : Place) (l : Kind) (u : ValueType) → change_breaches at (side_of at u) (Scalar l) ≡ [] → (is_scalar l u ≡ true) × (same_kind IntKind l ≡ true)
arithmetic-takes at l u h =
    let both = both-hold (same_kind IntKind l) (is_scalar l u) (owed-holds (same_kind IntKind l && is_scalar l u) at WrongType h) in
    (both.1, both.0)

pub element-takes : (sign : AssignTree) (op : Assign) (first : Place) (l : Kind) (u : ValueType) → fitting sign op false (side_of first u) (Scalar l) ≡ [] → (is_scalar l u ≡ true) × (element_by l op ≡ true)
element-takes sign Set first l u h = (owed-holds (is_scalar l u) first WrongType h, refl)
element-takes sign SetReduce first l u h = absurd cc
element-takes sign _ first l u h = arithmetic-takes sign.at l u h

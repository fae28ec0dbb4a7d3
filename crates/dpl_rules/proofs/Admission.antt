-- A forall is admitted exactly where its body breaks none of the rules C6 to C9.
-- Both speak of what the body does, deed by deed.
use Rattle.std.proofs.Common.{◌≡◌, ◌↔◌, Bool, true, false, not, ◌||◌, List, [], ◌∷◌, ◌++◌, refl, sym, ap, ◌∙◌, append_assoc}
use Rattle.dpl_syntax.specs.declared.place.Place.{Place}
use Rattle.dpl_syntax.specs.declared.refusal.Breach.{Breach}
use Rattle.dpl_rules.specs.Types.{Origin, has}
use Rattle.dpl_syntax.specs.declared.refusal.Code.{Code}
use Rattle.dpl_syntax.specs.declared.refusal.Code.TheVariants.{WrittenElsewhere, ReadElsewhere, OuterChanged, NotInForall}
use Rattle.dpl_rules.specs.Verdicts.{owed}
use Rattle.dpl_rules.specs.Sights.{is_reduced}
use Rattle.dpl_rules.specs.Deeds.{Holding, APrint, AForall, ACoforall, AReduction, ACellCall, AnOn, AHere, ADeclaration, AReduceIntent, Deed, Reads, ReadsAt, Writes, WritesAt, Holds, each}
use Rattle.dpl_rules.specs.Bodies.{ForallScope, is_outer, is_outer_array, is_own, is_in, written_arrays, is_scalar_or_domain, goes_on_in, may_change, forall_holds, write_breaches, read_breaches, change_breaches, holding_breaches, deed_breaches, forall_breaches}
use Rattle.dpl_rules.specs.Foralls.{ForallIn, scope_in, deeds_in}
use Rattle.dpl_rules.specs.Admitted.{MayHold, MayDo, MayDoAll, IsAdmittedBody, IsAdmitted}

-- ---- lists and tests
pub first_empty : {A : Type 0} (xs ys : List A) → xs ++ ys ≡ [] → xs ≡ []
first_empty [] ys h = refl
first_empty (x ∷ xs) ys h = absurd cc

pub second_empty : {A : Type 0} (xs ys : List A) → xs ++ ys ≡ [] → ys ≡ []
second_empty [] ys h = h
second_empty (x ∷ xs) ys h = absurd cc

-- what is told of deeds, of some and of others
each-append : (g : Deed → List Breach) (ds es : List Deed) → each g (ds ++ es) ≡ each g ds ++ each g es
each-append g [] es = refl
each-append g (d ∷ ds) es = ap (λ bs. g d ++ bs) (each-append g ds es) ∙ sym (append_assoc (g d) (each g ds) (each g es))

pub first-each : (g : Deed → List Breach) (ds es : List Deed) → each g (ds ++ es) ≡ [] → each g ds ≡ []
first-each g ds es none = first_empty (each g ds) (each g es) (sym (each-append g ds es) ∙ none)

pub second-each : (g : Deed → List Breach) (ds es : List Deed) → each g (ds ++ es) ≡ [] → each g es ≡ []
second-each g ds es none = second_empty (each g ds) (each g es) (sym (each-append g ds es) ∙ none)

both_empty : {A : Type 0} (xs ys : List A) → xs ≡ [] → ys ≡ [] → xs ++ ys ≡ []
both_empty [] ys p q = q
both_empty (x ∷ xs) ys p q = absurd cc

owed_holds : (b : Bool) (at : Place) (code : Code) → owed b at code ≡ [] → b ≡ true
owed_holds true at code h = refl
owed_holds false at code h = absurd cc

holds_owed : (b : Bool) (at : Place) (code : Code) → b ≡ true → owed b at code ≡ []
holds_owed true at code h = refl
holds_owed false at code h = absurd cc

not_so : (b : Bool) → not b ≡ true → b ≡ false
not_so true h = absurd cc
not_so false h = refl

so_not : (b : Bool) → b ≡ false → not b ≡ true
so_not true h = absurd cc
so_not false h = refl

never : (b : Bool) → b ≡ false → b ≡ true → ⊥
never true p q = absurd cc
never false p q = absurd cc

never_so : (b : Bool) → (b ≡ true → ⊥) → b ≡ false
never_so true f = absurd (f refl)
never_so false f = refl

implied : (a b : Bool) → (not a || b) ≡ true → a ≡ true → b ≡ true
implied true b h p = h
implied false b h p = absurd cc

implies : (a b : Bool) → (a ≡ true → b ≡ true) → (not a || b) ≡ true
implies true b f = f refl
implies false b f = refl

implied_twice : (a b c : Bool) → (not a || (not b || c)) ≡ true → a ≡ true → b ≡ true → c ≡ true
implied_twice a b c h p = implied b c (implied a (not b || c) h p)

implies_twice : (a b c : Bool) → (a ≡ true → b ≡ true → c ≡ true) → (not a || (not b || c)) ≡ true
implies_twice a b c f = implies a (not b || c) (λ p. implies b c (f p))

-- ---- what a body holds
may_hold : (h : Holding) → forall_holds h ≡ true → MayHold h
may_hold APrint e = absurd cc
may_hold AForall e = absurd cc
may_hold ACoforall e = absurd cc
may_hold AReduction e = absurd cc
may_hold ACellCall e = absurd cc
may_hold AnOn e = absurd cc
may_hold AHere e = absurd cc
may_hold ADeclaration e = absurd cc
may_hold AReduceIntent e = tt

is_held : (h : Holding) → MayHold h → forall_holds h ≡ true
is_held APrint e = absurd e
is_held AForall e = absurd e
is_held ACoforall e = absurd e
is_held AReduction e = absurd e
is_held ACellCall e = absurd e
is_held AnOn e = absurd e
is_held AHere e = absurd e
is_held ADeclaration e = absurd e
is_held AReduceIntent e = refl

-- ---- one deed
module _ (loop : ForallScope) (written : List Origin) where
  may_do : (d : Deed) → write_breaches loop d ≡ [] → read_breaches loop written d ≡ [] → change_breaches loop d ≡ [] → holding_breaches d ≡ []
      → MayDo loop written d
  may_do (Reads at d) w r c h = (
    never (is_in d.origin written) (not_so (is_in d.origin written) (owed_holds (not (is_in d.origin written)) at ReadElsewhere r)),
    not_so (is_reduced loop.reducing d) (owed_holds (not (is_reduced loop.reducing d)) at OuterChanged c),
  )
  may_do (ReadsAt at d is) w r c h = (
    implied (is_in d.origin written) (is_own loop is) (owed_holds (not (is_in d.origin written) || is_own loop is) at ReadElsewhere r),
    not_so (is_reduced loop.reducing d) (owed_holds (not (is_reduced loop.reducing d)) at OuterChanged c),
  )
  may_do (Writes at d op) w r c h = (
    not_so (is_outer_array loop d) (owed_holds (not (is_outer_array loop d)) at WrittenElsewhere w),
    implied_twice (is_outer loop d) (has is_scalar_or_domain d.type) (goes_on_in loop.reducing.variables d.origin.name op)
        (owed_holds (may_change loop d op) at OuterChanged c),
  )
  may_do (WritesAt at d is op) w r c h = (
    implied (is_outer_array loop d) (is_own loop is) (owed_holds (not (is_outer_array loop d) || is_own loop is) at WrittenElsewhere w),
    implied_twice (is_outer loop d) (has is_scalar_or_domain d.type) (goes_on_in loop.reducing.variables d.origin.name op)
        (owed_holds (may_change loop d op) at OuterChanged c),
  )
  may_do (Holds at h) w r c e = may_hold h (owed_holds (forall_holds h) at NotInForall e)

  no_write : (d : Deed) → MayDo loop written d → write_breaches loop d ≡ []
  no_write (Reads at d) m = refl
  no_write (ReadsAt at d is) m = refl
  no_write (Writes at d op) m = holds_owed (not (is_outer_array loop d)) at WrittenElsewhere (so_not (is_outer_array loop d) m.0)
  no_write (WritesAt at d is op) m =
      holds_owed (not (is_outer_array loop d) || is_own loop is) at WrittenElsewhere (implies (is_outer_array loop d) (is_own loop is) m.0)
  no_write (Holds at h) m = refl

  no_read : (d : Deed) → MayDo loop written d → read_breaches loop written d ≡ []
  no_read (Reads at d) m =
      holds_owed (not (is_in d.origin written)) at ReadElsewhere (so_not (is_in d.origin written) (never_so (is_in d.origin written) m.0))
  no_read (ReadsAt at d is) m =
      holds_owed (not (is_in d.origin written) || is_own loop is) at ReadElsewhere (implies (is_in d.origin written) (is_own loop is) m.0)
  no_read (Writes at d op) m = refl
  no_read (WritesAt at d is op) m = refl
  no_read (Holds at h) m = refl

  no_change : (d : Deed) → MayDo loop written d → change_breaches loop d ≡ []
  no_change (Reads at d) m =
      holds_owed (not (is_reduced loop.reducing d)) at OuterChanged (so_not (is_reduced loop.reducing d) m.1)
  no_change (ReadsAt at d is) m =
      holds_owed (not (is_reduced loop.reducing d)) at OuterChanged (so_not (is_reduced loop.reducing d) m.1)
  no_change (Writes at d op) m =
      holds_owed (may_change loop d op) at OuterChanged
      (implies_twice (is_outer loop d) (has is_scalar_or_domain d.type) (goes_on_in loop.reducing.variables d.origin.name op) m.1)
  no_change (WritesAt at d is op) m =
      holds_owed (may_change loop d op) at OuterChanged
      (implies_twice (is_outer loop d) (has is_scalar_or_domain d.type) (goes_on_in loop.reducing.variables d.origin.name op) m.1)
  no_change (Holds at h) m = refl

  no_holding : (d : Deed) → MayDo loop written d → holding_breaches d ≡ []
  no_holding (Reads at d) m = refl
  no_holding (ReadsAt at d is) m = refl
  no_holding (Writes at d op) m = refl
  no_holding (WritesAt at d is op) m = refl
  no_holding (Holds at h) m = holds_owed (forall_holds h) at NotInForall (is_held h m)

  -- ---- all of them
  deed_admitted : (d : Deed) → deed_breaches loop written d ≡ [] → MayDo loop written d
  deed_admitted d e =
      let w = write_breaches loop d in
      let r = read_breaches loop written d in
      let c = change_breaches loop d in
      let h = holding_breaches d in
      let wrc = first_empty (w ++ r ++ c) h e in
      let wr = first_empty (w ++ r) c wrc in
      may_do d (first_empty w r wr) (second_empty w r wr) (second_empty (w ++ r) c wrc) (second_empty (w ++ r ++ c) h e)

  deed_unbroken : (d : Deed) → MayDo loop written d → deed_breaches loop written d ≡ []
  deed_unbroken d m =
      let w = write_breaches loop d in
      let r = read_breaches loop written d in
      let c = change_breaches loop d in
      let h = holding_breaches d in
      both_empty (w ++ r ++ c) h (both_empty (w ++ r) c (both_empty w r (no_write d m) (no_read d m)) (no_change d m)) (no_holding d m)

  may_do_all : (ds : List Deed) → each (deed_breaches loop written) ds ≡ [] → MayDoAll loop written ds
  may_do_all [] e = tt
  may_do_all (d ∷ ds) e = (
    deed_admitted d (first_empty (deed_breaches loop written d) (each (deed_breaches loop written) ds) e),
    may_do_all ds (second_empty (deed_breaches loop written d) (each (deed_breaches loop written) ds) e),
  )

  none_broken : (ds : List Deed) → MayDoAll loop written ds → each (deed_breaches loop written) ds ≡ []
  none_broken [] m = refl
  none_broken (d ∷ ds) m =
      both_empty (deed_breaches loop written d) (each (deed_breaches loop written) ds) (deed_unbroken d m.0) (none_broken ds m.1)

-- ---- a body, and a forall
pub unbroken_admitted : (loop : ForallScope) (ds : List Deed) → forall_breaches loop ds ≡ [] → IsAdmittedBody loop ds
unbroken_admitted loop ds e = may_do_all loop (written_arrays loop ds) ds e

pub admitted_unbroken : (loop : ForallScope) (ds : List Deed) → IsAdmittedBody loop ds → forall_breaches loop ds ≡ []
admitted_unbroken loop ds m = none_broken loop (written_arrays loop ds) ds m

pub admitted_exactly : (f : ForallIn) → IsAdmitted f ↔ (forall_breaches (scope_in f) (deeds_in f) ≡ [])
admitted_exactly f = (admitted_unbroken (scope_in f) (deeds_in f), unbroken_admitted (scope_in f) (deeds_in f))

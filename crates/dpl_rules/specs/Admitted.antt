-- What a forall may do, by the language's rules; it speaks of names alone.
-- An admitted forall writes outer arrays at its own index alone and reads those only there; it changes outer scalars only
-- by their intents' operators, and doesn't read these; it changes no outer domain, and holds nothing that waits, prints,
-- or makes turns or tasks of its own.
use Rattle.std.specs.Prelude.{◌≡◌, true, false, List, [], ◌∷◌}
use Rattle.dpl_language.specs.Tree.{Assign}
use Rattle.dpl_rules.specs.Types.{Origin, has}
use Rattle.dpl_rules.specs.Sights.{Declared, is_reduced}
use Rattle.dpl_rules.specs.Deeds.{IndexPart, Holding, AReduceIntent, Deed, Reads, ReadsAt, Writes, WritesAt, Holds}
use Rattle.dpl_rules.specs.Bodies.{ForallScope, is_outer, is_outer_array, is_own, is_in, written_arrays, is_scalar_or_domain, goes_on_in}
use Rattle.dpl_rules.specs.Foralls.{ForallIn, scope_in, deeds_in}

-- what a body holds: of all that is told apart here a reduce intent alone, and none is there without its forall
abbrev pub MayHold : Holding → Type 0
MayHold AReduceIntent = Unit {0}
MayHold _ = ⊥

module _ (loop : ForallScope) (written : List Origin) where
  -- an array that the body writes
  abbrev pub IsWritten : Declared → Type 0
  IsWritten d = is_in d.origin written ≡ true

  abbrev pub IsOwn : List IndexPart → Type 0
  IsOwn is = is_own loop is ≡ true

  -- a reduce variable isn't read
  abbrev pub IsUnreduced : Declared → Type 0
  IsUnreduced d = is_reduced loop.reducing d ≡ false

  -- an outer scalar or domain is changed by its intent's operator
  abbrev pub ChangesByIntent : Declared → Assign → Type 0
  ChangesByIntent d op =
      is_outer loop d ≡ true → has is_scalar_or_domain d.type ≡ true → goes_on_in loop.reducing.variables d.origin.name op ≡ true

  abbrev pub MayDo : Deed → Type 0
  MayDo (Reads at d) = (IsWritten d → ⊥) × IsUnreduced d
  MayDo (ReadsAt at d is) = (IsWritten d → IsOwn is) × IsUnreduced d
  MayDo (Writes at d op) = (is_outer_array loop d ≡ false) × ChangesByIntent d op
  MayDo (WritesAt at d is op) = (is_outer_array loop d ≡ true → IsOwn is) × ChangesByIntent d op
  MayDo (Holds at h) = MayHold h

  abbrev pub MayDoAll : List Deed → Type 0
  MayDoAll [] = Unit {0}
  MayDoAll (d ∷ ds) = MayDo d × MayDoAll ds

abbrev pub IsAdmittedBody : ForallScope → List Deed → Type 0
IsAdmittedBody loop ds = MayDoAll loop (written_arrays loop ds) ds

abbrev pub IsAdmitted : ForallIn → Type 0
IsAdmitted f = IsAdmittedBody (scope_in f) (deeds_in f)

-- each of some foralls is admitted
abbrev pub AreAdmitted : List ForallIn → Type 0
AreAdmitted [] = Unit {0}
AreAdmitted (f ∷ fs) = IsAdmitted f × AreAdmitted fs

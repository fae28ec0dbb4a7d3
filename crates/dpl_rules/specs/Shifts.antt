-- Shifted reads: which elements a forall reads at its own index moved by numbers, as far as the text tells it.
-- Each index is a variable of the forall, or `+` or `-` of one on the left and a number on the right; or the list is the
-- tuple name. They stand for the remote elements of a loop, and are looked at whether or not a turn reaches them.
use Rattle.std.specs.Prelude.{ℕ, zero, suc, ℤ, pos, if◌then◌else◌, List, [], ◌∷◌, ◌++◌, Option, Some, None}
use Rattle.dpl_sets.specs.declared.subscript.Subscript.{Subscript}
use Rattle.dpl_sets.specs.Subscripts.{subscript}
use Rattle.dpl_language.specs.Names.{Text}
use Rattle.dpl_rules.specs.Types.{Origin, ValueType, tuple_of}
use Rattle.dpl_rules.specs.Sights.{Declared}
use Rattle.dpl_rules.specs.Deeds.{IndexPart, AtName, Shifted, Elsewhere, Deed, ReadsAt}
use Rattle.dpl_rules.specs.Bodies.{ForallScope, is_variable, is_in, written_arrays}

-- which variable of the forall a declaration is, counted from 0
abbrev pub coordinate_from : ℕ → ForallScope → List Text → Declared → Option ℕ
coordinate_from n loop [] d = None
coordinate_from n loop (x ∷ xs) d = if is_variable loop x d then Some n else coordinate_from (suc n) loop xs d

abbrev pub offset_by : ℤ → Option ℕ → Option Subscript
offset_by z None = None
offset_by z (Some n) = Some (subscript n z)

abbrev pub subscript_of : ForallScope → IndexPart → Option Subscript
subscript_of loop (AtName d) = offset_by (pos 0) (coordinate_from 0 loop loop.variables d)
subscript_of loop (Shifted d z) = offset_by z (coordinate_from 0 loop loop.variables d)
subscript_of loop Elsewhere = None

abbrev pub and_subscript : Option Subscript → Option (List Subscript) → Option (List Subscript)
and_subscript None others = None
and_subscript (Some s) None = None
and_subscript (Some s) (Some others) = Some (s ∷ others)

abbrev pub subscripts_of : ForallScope → List IndexPart → Option (List Subscript)
subscripts_of loop [] = Some []
subscripts_of loop (i ∷ is) = and_subscript (subscript_of loop i) (subscripts_of loop is)

-- the tuple name takes each coordinate as it is
abbrev pub unmoved : ℕ → ℕ → List Subscript
unmoved n zero = []
unmoved n (suc more) = subscript n (pos 0) ∷ unmoved (suc n) more

abbrev pub tuple_rank : Option ValueType → Option ℕ
tuple_rank None = None
tuple_rank (Some t) = tuple_of t

abbrev pub tuple_or : Option ℕ → Option (List Subscript) → Option (List Subscript)
tuple_or None shift = shift
tuple_or (Some rank) None = None
tuple_or (Some rank) (Some shift) = Some (unmoved 0 rank)

-- a tuple name stands alone in its list
abbrev pub shifted_at : ForallScope → List IndexPart → Option (List Subscript)
shifted_at loop [] = None
shifted_at loop (AtName d ∷ []) = tuple_or (tuple_rank d.type) (subscripts_of loop (AtName d ∷ []))
shifted_at loop (Shifted d z ∷ []) = subscripts_of loop (Shifted d z ∷ [])
shifted_at loop (Elsewhere ∷ []) = None
shifted_at loop (i ∷ j ∷ is) = subscripts_of loop (i ∷ j ∷ is)

-- the shifted reads of arrays that a body doesn't write: the array, and the subscript in each of its dimensions
abbrev pub with_shift : Origin → Option (List Subscript) → List (Origin × List Subscript)
with_shift o None = []
with_shift o (Some shift) = (o, shift) ∷ []

abbrev pub shifts_in : ForallScope → List Origin → List Deed → List (Origin × List Subscript)
shifts_in loop written [] = []
shifts_in loop written (ReadsAt at d is ∷ ds) =
    (if is_in d.origin written then [] else with_shift d.origin (shifted_at loop is)) ++ shifts_in loop written ds
shifts_in loop written (_ ∷ ds) = shifts_in loop written ds

abbrev pub shifted_reads : ForallScope → List Deed → List (Origin × List Subscript)
shifted_reads loop ds = shifts_in loop (written_arrays loop ds) ds

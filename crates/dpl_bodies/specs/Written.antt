-- The outer arrays that a body writes, each once, in the order in which they are first written.
-- The rules ask of them whether an array is among them.
use Rattle.std.specs.Prelude.{ℕ, if◌then◌else◌, List, [], ◌∷◌, ◌++◌}
use Rattle.std.specs.Borrow.{Bor}
use Rattle.dpl_language.specs.Names.{Text}
use Rattle.dpl_rules.specs.Types.{Origin}
use Rattle.dpl_rules.specs.Sights.{Declared}
use Rattle.dpl_rules.specs.Deeds.{Deed, Reads, ReadsAt, Writes, WritesAt, Holds}
use Rattle.dpl_rules.specs.Bodies.{ForallScope, is_outer_array, is_in}

-- an array by its depth and its name
abbrev pub key_origin : ℕ × Bor Text → Origin
key_origin k = record { name = k.1.now; depth = k.0 }

abbrev pub with_origin : List Origin → Origin → List Origin
with_origin os o = if is_in o os then os else os ++ o ∷ []

abbrev pub with_outer : ForallScope → List Origin → Declared → List Origin
with_outer loop os d = if is_outer_array loop d then with_origin os d.origin else os

-- with the array that a deed writes
abbrev pub with_written : ForallScope → List Origin → Deed → List Origin
with_written loop os (Reads at d) = os
with_written loop os (ReadsAt at d is) = os
with_written loop os (Writes at d op) = with_outer loop os d
with_written loop os (WritesAt at d is op) = with_outer loop os d
with_written loop os (Holds at h) = os

abbrev pub all_written : ForallScope → List Origin → List Deed → List Origin
all_written loop os [] = os
all_written loop os (d ∷ ds) = all_written loop (with_written loop os d) ds

-- What is left is a part of the rows.
use Rattle.std.proofs.Common.{length}
use denote.Text.{Utf8}
use denote.Shadow.{shadow}
use Rattle.dpl_hints.specs.Hints.{Holds}
use Rattle.dpl_hints.proofs.find.first_told.Given as goal

abbrev pub invariant-rows : goal.invariant-rows
invariant-rows l = shadow (Utf8 l.rest) × Holds l.fn.rows l.rest

abbrev pub decreases-rows : goal.decreases-rows
decreases-rows l = length l.rest

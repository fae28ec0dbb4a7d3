-- A sample with its names in slots: it fits, and it writes by slots what it writes by names.
-- Its domain is assigned where an array in an inner scope is declared over it.
use Rattle.std.proofs.Common.{◌≡◌, ℕ, [], refl, rules}
use Rattle.std.specs.Prelude.{codes, bytes_eq, ◌==◌, if◌then◌else◌}
use Rattle.std.specs.Int.{int_wrap}
use Rattle.std.specs.Fmt.{digits}
use Rattle.dpl_sets.specs.Members.{members}
use Rattle.dpl_sets.specs.Indices.{indices}
use Rattle.dpl_agreement.proofs.Slots.{Bound}
use Rattle.dpl_language.specs.Tree.{ProgramTree}
use Rattle.dpl_language.specs.Environment.{Plain}
use Rattle.dpl_language.specs.Values.{AllLocales}
use Rattle.dpl_language.specs.Names.{Text}
use Rattle.dpl_language.specs.Program.{written}
use Rattle.dpl_agreement.specs.Renamed.{renamed_program}
use Rattle.dpl_agreement.specs.Scopes.{fits_all}
use Rattle.dpl_language.proofs.Says.{limits}
use Rattle.dpl_language.proofs.ArraysSamples.{inner_array}
use Rattle.dpl_agreement.proofs.Slots.{Slots, text_of}
use Rattle.dpl_agreement.proofs.ProgramsAlike.{run_from}
use Rattle.dpl_agreement.proofs.SlotsAgree.{by_slot, resolving, first_slots, first_seen}

-- D has slot 0, and A slot 1
abbrev names : ℕ → Text
names k = if k == 0 then codes "D" else codes "A"

abbrev resolved : Text → Bound
resolved x = record { text = x; slot = if bytes_eq x (codes "D") then 0 else 1 }

abbrev inner_array_in_slots : ProgramTree Bound
inner_array_in_slots = renamed_program resolved inner_array

-- no slot holds what a declaration leaves there
abbrev before : Slots
before k = Plain AllLocales

inner_array_fits : fits_all (resolving names) inner_array_in_slots.stmts first_seen
inner_array_fits = search rules

inner_array_spelled : renamed_program text_of inner_array_in_slots ≡ inner_array
inner_array_spelled = refl

-- var D = {1..2}; { var A: [D] int = 1; D = {2..3}; writeln(A); }
inner_array_writes : written (run_from (limits 16777216 1) by_slot inner_array_in_slots (first_slots before [] [])) ≡ codes "1 0\n"
unfolding int_wrap digits members indices
inner_array_writes = refl

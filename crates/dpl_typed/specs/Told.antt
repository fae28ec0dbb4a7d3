-- What a walk over a part of a program promises of its types: the part's, and the first breach so far.
-- Of all breaches that are told the first is kept, by place and then by code.
use Rattle.std.specs.Prelude.{◌≡◌, List, Option, map}
use Rattle.dpl_syntax.specs.declared.refusal.Breach.{Breach}
use Rattle.dpl_rules.specs.Types.{ValueType}
use Rattle.dpl_rules.specs.Verdicts.{Part, Verdict, type_by, broken_by}
use Rattle.dpl_rules.specs.Breaches.{least_from}
use Rattle.dpl_typed.specs.declared.typed.Typed.{Typed}
use Rattle.dpl_typed.specs.declared.part.Part.{Part as PartNode}
use Rattle.dpl_typed.specs.Typed.{types_of, part_view}

-- a type, and the first of a breach that was told before and these
abbrev pub Tells : Option ValueType → List Breach → Option Typed → Option Breach → Option Breach → Type 0
Tells type breaches result old new = (types_of result ≡ type) × (new ≡ least_from old breaches)

-- the same of a verdict
abbrev pub Judges : Verdict → Option Typed → Option Breach → Option Breach → Type 0
Judges verdict result old new = Tells (type_by verdict) (broken_by verdict) result old new

abbrev pub TellsPart : Part → List Breach → PartNode → Option Breach → Option Breach → Type 0
TellsPart part breaches result old new = (part_view result ≡ part) × (new ≡ least_from old breaches)

abbrev pub TellsParts : List Part → List Breach → List PartNode → Option Breach → Option Breach → Type 0
TellsParts parts breaches result old new = (map part_view result ≡ parts) × (new ≡ least_from old breaches)

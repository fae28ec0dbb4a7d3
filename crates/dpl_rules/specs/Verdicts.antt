-- What a rule says of a part of a program: its type, or where it breaks the rule, and by which code.
-- A rule is looked at only where the parts that it speaks of have types.
use Rattle.std.specs.Prelude.{Bool, true, false, ◌&&◌, List, [], ◌∷◌, ◌++◌, Option, Some, None, is_some}
use Rattle.dpl_syntax.specs.declared.place.Place.{Place}
use Rattle.dpl_syntax.specs.declared.refusal.Breach.{Breach}
use Rattle.dpl_syntax.specs.declared.refusal.Code.{Code}
use Rattle.dpl_syntax.specs.declared.refusal.Code.TheVariants.{WrongType, WrongRank}
use Rattle.dpl_rules.specs.Types.{ValueType}

-- a part of a form, as its rule sees it: its first token, and its type if it has one
pub record Part : Type 0 where
  pub at : Place
  pub type : Option ValueType

abbrev pub part : Place → Option ValueType → Part
part at t = record { at = at; type = t }

-- What a rule says of a form: the type that the form has, or the breaches of the rule. Where a part has no type
-- the rule may say neither: then the form has no type and nothing is broken.
pub data Verdict : Type 0 where
  Has : ValueType → Verdict
  Breaks : List Breach → Verdict

abbrev pub type_by : Verdict → Option ValueType
type_by (Has t) = Some t
type_by (Breaks bs) = None

abbrev pub broken_by : Verdict → List Breach
broken_by (Has t) = []
broken_by (Breaks bs) = bs

-- one breach
abbrev pub breach : Place → Code → List Breach
breach at code = record { at = at; code = code } ∷ []

-- a breach where a test fails
abbrev pub owed : Bool → Place → Code → List Breach
owed true at code = []
owed false at code = breach at code

-- ---- verdicts
-- the rule isn't looked at
abbrev pub untold : Verdict
untold = Breaks []

abbrev pub mistyped : Place → Verdict
mistyped at = Breaks (breach at WrongType)

abbrev pub misranked : Place → Verdict
misranked at = Breaks (breach at WrongRank)

-- a type where a test holds, else the wrong type at a token
abbrev pub has_if : Bool → ValueType → Place → Verdict
has_if true t at = Has t
has_if false t at = mistyped at

-- a type where nothing is broken and all parts have types
abbrev pub judged : Bool → List Breach → ValueType → Verdict
judged known (b ∷ bs) t = Breaks (b ∷ bs)
judged true [] t = Has t
judged false [] t = untold

-- goes on with a type, where there is one
abbrev pub with_type : Option ValueType → (ValueType → Verdict) → Verdict
with_type None go = untold
with_type (Some t) go = go t

-- goes on with what a value has to be, which it is, or else is the wrong type at a token
abbrev pub needs : {A : Type 0} → Place → Option A → (A → Verdict) → Verdict
needs at None go = mistyped at
needs at (Some x) go = go x

-- ---- parts
abbrev pub all_known : List Part → Bool
all_known [] = true
all_known (p ∷ ps) = is_some p.type && all_known ps

-- what is told of what there is; nothing of what is missing
abbrev pub where_given : {A B : Type 0} → Option A → (A → List B) → List B
where_given None f = []
where_given (Some x) f = f x

-- a type that isn't taken is told at the part's first token
abbrev pub owed_type : (ValueType → Bool) → Place → Option ValueType → List Breach
owed_type test at t = where_given t (λ t. owed (test t) at WrongType)

abbrev pub wanted : (ValueType → Bool) → Part → List Breach
wanted test p = owed_type test p.at p.type

abbrev pub each_wanted : (ValueType → Bool) → List Part → List Breach
each_wanted test [] = []
each_wanted test (p ∷ ps) = wanted test p ++ each_wanted test ps

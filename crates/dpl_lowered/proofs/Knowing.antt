-- The laws' premise can be met, whatever is said to be known: by an environment whose values are made so.
-- A machine meets it where what stands for a name has a type, by which its values are read.
use Rattle.std.proofs.Common.{◌≡◌, pos, refl, None}
use Rattle.dpl_language.specs.Tree.{IntKind}
use Rattle.dpl_language.specs.Values.{Value, Int, Truth, Range, Domain, Array, Cell, Locale, AllLocales, Tuple, number, ranges_in, array_domain}
use Rattle.dpl_language.specs.Environment.{Environment}
use Rattle.dpl_lowered.specs.Known.{Known, Unknown, WholeArray, NoArray, PlainValue, IsAsKnown, IsKnown}

-- a value that is no array
abbrev no_array : Value → Value
no_array (Int n) = Int n
no_array (Truth b) = Truth b
no_array (Range r) = Range r
no_array (Domain rs) = Domain rs
no_array (Array k rs) = Int (pos 0)
no_array (Cell k) = Cell k
no_array (Locale k) = Locale k
no_array AllLocales = AllLocales
no_array (Tuple t) = Tuple t

-- a value, read as what is known
abbrev as_known : Known → Value → Value
as_known Unknown v = v
as_known WholeArray v = Array IntKind (ranges_in v)
as_known NoArray v = no_array v
as_known PlainValue v = Int (number v)

abbrev reading : {N S : Type 0} → (N → Known) → Environment N S → Environment N S
reading known env = record env { get = λ x s. as_known (known x) (env.get x s) }

array_domain-no_array : (v : Value) → array_domain (no_array v) ≡ None
array_domain-no_array (Int n) = refl
array_domain-no_array _ = refl

as_known-so : (k : Known) (v : Value) → IsAsKnown k (as_known k v)
as_known-so Unknown v = tt
as_known-so WholeArray v = (ranges_in v, refl)
as_known-so NoArray v = array_domain-no_array v
as_known-so PlainValue v = (refl, refl)

pub reading-known : {N S : Type 0} (known : N → Known) (env : Environment N S) → IsKnown known (reading known env)
reading-known known env x s = as_known-so (known x) (env.get x s)

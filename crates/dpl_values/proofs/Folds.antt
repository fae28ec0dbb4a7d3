-- A reduction is the fold of its domain, if that has no more indices than the budget.
use Rattle.std.proofs.Common.{◌≡◌, Bool, true, false, List, Some, Result, Ok, Err, refl}
use Rattle.std.specs.Prelude.{if◌then◌else◌, nat_lt}
use Rattle.dpl_syntax.specs.declared.place.Place.{Place}
use Rattle.dpl_sets.specs.TextRanges.{TextRange}
use Rattle.dpl_language.specs.Tree.{Op}
use Rattle.dpl_language.specs.Values.{Value, Index, Fault, fault, Budget}
use Rattle.dpl_language.specs.Ranges.{size_in}
use Rattle.dpl_language.specs.Outcome.{with_ok}
use Rattle.dpl_language.specs.Environment.{Limits}
use Rattle.dpl_language.specs.Expressions.{fold_over, reduction}
use Rattle.dpl_words.specs.Words.{is_logical}
use Rattle.dpl_nodes.specs.declared.fold.IntFold.{IntFold}
use Rattle.dpl_nodes.specs.declared.fold.IntFold.TheVariants as ints
use Rattle.dpl_nodes.specs.Typed.{int_fold_view}
use Rattle.dpl_values.specs.Elements.{within_at}

pub reduction-within : (limits : Limits) (at : Place) (op : Op) (value : Index → Result Value Fault) (rs : List TextRange)
    → reduction limits.budget at op value (Some rs) ≡ with_ok (within_at limits at rs) (λ v. fold_over op value rs)
reduction-within limits at op value rs = by (nat_lt limits.budget (size_in rs))
  where
    by : (b : Bool) → (if b then Err (fault Budget at) else fold_over op value rs) ≡ with_ok (if b then Err (fault Budget at) else Ok (tt {0})) (λ v. fold_over op value rs)
    by true = refl
    by false = refl

-- the operators on ints are none on truth values
pub of-ints : (f : IntFold) → is_logical (int_fold_view f) ≡ false
of-ints ints.Sum = refl
of-ints ints.Product = refl
of-ints ints.BitAnd = refl
of-ints ints.BitOr = refl
of-ints ints.BitXor = refl
of-ints ints.Least = refl
of-ints ints.Greatest = refl

pub with_ok-same : {A : Type 0} (r : Result A Fault) → with_ok r (λ v. Ok v) ≡ r
with_ok-same (Ok v) = refl
with_ok-same (Err f) = refl

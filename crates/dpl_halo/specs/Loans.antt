-- Loans: elements of an array that are lent to be written.
-- When a loan is settled, the array takes its values, and keeps all others.
use Rattle.std.specs.Prelude.{List, ℤ, map, filter, flat_map}
use Rattle.dpl_sets.specs.Ranges.{RangeValue}
use Rattle.dpl_sets.specs.Indices.{indices}
use Rattle.dpl_array.specs.Elements.{Elements, value_at, with_value}
use Rattle.dpl_array.specs.Arrays.{ArrayValue, or_value}
use Rattle.dpl_halo.specs.Listed.{is_listed}

-- a loan knows the domain of its array, and has a finite map from indices to values
pub record LoanValue (T : Type 0) : Type 0 where
  pub domain : List RangeValue
  pub elements : Elements T

-- the elements of an array whose index is in one of some domains
abbrev pub lent : {T : Type 0} → ArrayValue T → List (List RangeValue) → LoanValue T
lent a domains = record { domain = a.domain; elements = filter (λ e. is_listed (flat_map indices domains) e.0) a.elements }

-- the loan with another value at an index, if it has the index
abbrev pub loan_with : {T : Type 0} → List ℤ → T → LoanValue T → LoanValue T
loan_with t v loan = record loan { elements = with_value t v loan.elements }

-- the array with the values of a loan at the indices that the loan has
abbrev pub settled : {T : Type 0} → LoanValue T → ArrayValue T → ArrayValue T
settled loan a = record a { elements = map (λ e. (e.0, or_value (value_at e.0 loan.elements) e.1)) a.elements }

-- What a place in a form takes, as a test on types.
-- Each is a test of dpl_rules.
use Rattle.std.specs.Prelude.{Bool, false, ◌||◌}
use Rattle.dpl_rules.specs.Types.{ValueType, is_int, is_bool, is_scalar, is_any_scalar, is_range, is_plain_range, is_domain, is_domain_of, is_locale, is_cell, is_array, fits_array}
use Rattle.dpl_rules.specs.Declarations.{is_kept}
use Rattle.dpl_types.specs.declared.want.Want.{Want}
use Rattle.dpl_types.specs.declared.want.Want.TheVariants as want
use Rattle.dpl_scopes.specs.Types.{over_view}

abbrev pub takes : Want → ValueType → Bool
takes want.Nothing t = false
takes want.Int t = is_int t
takes want.Bool t = is_bool t
takes (want.Scalar k) t = is_scalar k t
takes want.AnyScalar t = is_any_scalar t
takes want.Range t = is_range t
takes want.PlainRange t = is_plain_range t
takes want.Domain t = is_domain t
takes (want.RankedDomain rank may_stride) t = is_domain_of rank may_stride t
takes want.Locale t = is_locale t
takes want.Cell t = is_cell t
takes (want.Given k over) t = fits_array k (over_view over) t
takes want.Kept t = is_kept t
takes want.Printed t = is_any_scalar t || is_array t

-- The array of a slot without one: it is over `{1..0}`, which has no indices.
use Rattle.std.proofs.Common.{◌≡◌, pos, map, refl}
use Rattle.dpl_sets.specs.Members.{members}
use Rattle.dpl_sets.specs.Indices.{indices}
use Rattle.dpl_language.specs.Ranges.{indices_in}
use Rattle.dpl_memory.specs.Memory.{whole_held, no_domain, no_array}

pub empty_array : whole_held no_domain (map (λ t. pos 0) (indices_in no_domain)) ≡ no_array
unfolding members indices
empty_array = refl

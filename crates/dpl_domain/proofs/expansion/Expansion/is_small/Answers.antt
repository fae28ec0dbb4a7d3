-- The product of the sizes says how many tuples there are.
use Rattle.std.proofs.Common.{◌≡◌, ◌*◌, ◌-◌, ◌^◌, ◌∙◌, arith, length, min}
use Rattle.std.proofs.lemmas.Bool.Decides.{nat_tests}
use Rattle.dpl_sets.specs.Ranges.{members_of}
use Rattle.dpl_domain.proofs.ExpansionLemmas.{IsSmall-sizes}
use Rattle.dpl_domain.proofs.expansion.Expansion.is_small.Goals as goal

pub returns : goal.returns
returns c =
    let is : c.product.result ≡ min (min (length (members_of c.self.inside.outer)) (2 ^ 64 - 1) * min (length (members_of c.self.inside.middle)) (2 ^ 64 - 1) * min (length (members_of c.self.inside.inner)) (2 ^ 64 - 1)) (2 ^ 64 - 1) =
    c.product.ensures ∙ rw (c.size.ensures, c.size-2.ensures, c.size-3.ensures) in
    let few = IsSmall-sizes c.self.inside.rank c.self.inside.outer c.self.inside.middle c.self.inside.inner c.self.invariant c.product.result is in
    rw (← c.self.view_is) ((λ test. few.0 (grind (arith, nat_tests))), (λ small. let fits = few.1 small in grind (arith, nat_tests)))

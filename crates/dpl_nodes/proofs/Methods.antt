-- The words of methods: a method's word names it, and what a word names has that word. So the two tables are one, read both ways.
use Rattle.std.proofs.Common.{◌≡◌, Some, refl}
use Rattle.std.specs.Prelude.{IfSome}
use Rattle.dpl_language.specs.Tree.{Word, Size, First, Last, Low, High}
use Rattle.dpl_nodes.specs.declared.tree.RangeMethod.{RangeMethod}
use Rattle.dpl_nodes.specs.declared.tree.RangeMethod.TheVariants as of_range
use Rattle.dpl_nodes.specs.declared.tree.DomainMethod.{DomainMethod}
use Rattle.dpl_nodes.specs.declared.tree.DomainMethod.TheVariants as of_domain
use Rattle.dpl_nodes.specs.Typed.{range_word, domain_word, range_method, domain_method}

pub range-named : (m : RangeMethod) → range_method (range_word m) ≡ Some m
range-named of_range.Size = refl
range-named of_range.First = refl
range-named of_range.Last = refl
range-named of_range.Low = refl
range-named of_range.High = refl

pub range-worded : (w : Word) → IfSome (range_method w) (λ m. range_word m ≡ w)
range-worded Size = refl
range-worded First = refl
range-worded Last = refl
range-worded Low = refl
range-worded High = refl
range-worded _ = tt

pub domain-named : (m : DomainMethod) → domain_method (domain_word m) ≡ Some m
domain-named of_domain.Size = refl

pub domain-worded : (w : Word) → IfSome (domain_method w) (λ m. domain_word m ≡ w)
domain-worded Size = refl
domain-worded _ = tt

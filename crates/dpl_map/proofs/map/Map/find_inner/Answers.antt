-- The domain that the search stops at has the index, if any has.
use Rattle.std.proofs.Common.{◌≡◌, ◌↔◌, ℕ, sym}
use Rattle.dpl_map.specs.Orders.{IsAt}
use Rattle.dpl_map.proofs.FindLemmas.{found-at, none-at, same-place}
use Rattle.dpl_map.proofs.map.Map.find_inner.Goals as goal

pub returns-clause-found : goal.returns-clause-found
returns-clause-found c = found-at c.place_in.result (λ k place. (j : ℕ) → (place ≡ j) ↔ IsAt c.args.domains.now k j c.args.index) (λ k place is. same-place c.place_in.result (λ k j. IsAt c.args.domains.now k j c.args.index) c.number-number.result c.place_in.ensures k place is)

pub returns-clause-none : goal.returns-clause-none
returns-clause-none c = λ none rows k j at. none-at c.place_in.result k j none ((c.place_in.ensures k j).1 (sym (c.number-number.ensures rows k j at), at))

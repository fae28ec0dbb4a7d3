-- Bounds within the limits are machine numbers, and with the stride 1 they make a range.
use Rattle.std.proofs.Common.{◌≡◌, ◌∙◌, sym, arith, rules, w64, to_z, of_z}
use Rattle.std.proofs.lemmas.Int.{ints}
use Rattle.dpl_domain.proofs.expansion.Moved.range.Goals as goal
use Rattle.dpl_domain.proofs.expansion.Moved.range.Goals.{After-ok-3}

low-is : (c : After-ok-3) → to_z w64 (of_z w64 c.in_ok-low.low) ≡ c.args.self.now.low
low-is c = search (rules, c.try_from.ensures, c.in_ok-low.ensures.value)

high-is : (c : After-ok-3) → to_z w64 (of_z w64 c.in_ok-high.high) ≡ c.args.self.now.high
high-is c = grind (arith, ints, c.try_from-2.ensures, c.in_ok-high.ensures.value)

pub returns-clause-bounded : goal.returns-clause-bounded
returns-clause-bounded c =
    let made = rw (low-is c, high-is c) at c.new.ensures.ok in (
      (λ some. let m = made.0 (sym c.ok-3.ensures.variant ∙ some) in (m.0, m.1)),
      (λ bounds. c.ok-3.ensures.variant ∙ made.1 (bounds.0, bounds.1, (omega arith, omega arith))),
    )

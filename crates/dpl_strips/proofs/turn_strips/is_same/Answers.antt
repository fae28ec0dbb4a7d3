-- Rows whose first indices have the same coordinates, and which step the same, are one row.
-- These are the answers to the goals of `is_same`.
use Rattle.std.proofs.Common.{◌≡◌, ℕ, ℤ, length, sym, ap, ◌∙◌, arith, rules}
use Rattle.dpl_domain.specs.Ranks.{last_of}
use Rattle.dpl_array.specs.Elements.{Row}
use Rattle.dpl_array.proofs.SameLemmas.{words-same}
use Rattle.dpl_language.specs.Values.{Index}
use Rattle.dpl_strips.proofs.turn_strips.is_same.Goals as goal

same_row : (a b : Row) → a.first ≡ b.first → a.step ≡ b.step → a ≡ b
same_row a b first step = ap {A = Index} {B = Row} (λ t. record { first = t; step = a.step }) first ∙ ap {A = ℤ} {B = Row} (λ n. record { first = b.first; step = n }) step

same_index : (n m : ℕ) (x y z u v w : ℤ) → n ≡ m → x ≡ u → y ≡ v → z ≡ w → last_of n x y z ≡ last_of m u v w
same_index n m x y z u v w rank outer middle inner =
    ap (λ n. last_of n x y z) rank ∙ ap (λ x. last_of m x y z) outer ∙ ap (λ y. last_of m u y z) middle ∙ ap (last_of m u v) inner

pub returns : goal.returns
returns c same =
    let x = c.numbers-x.result in
    let u = c.numbers-u.result in
    let rank : length c.first-one.result ≡ length c.first-other.result = omega (arith, c.rank.ensures.rank, c.rank-2.ensures.rank, c.if-rank.false) in
    let firsts : c.first-one.result ≡ c.first-other.result =
    c.numbers-x.ensures.coordinates
    ∙ same_index (length c.first-one.result) (length c.first-other.result) x.0 x.1 x.2 u.0 u.1 u.2 rank
    (words-same x.0 u.0 (search rules) (search rules) c.if-x-u.false) (words-same x.1 u.1 (search rules) (search rules) c.if-y-v.false) (words-same x.2 u.2 (search rules) (search rules) c.if-z-w.false)
    ∙ sym c.numbers-u.ensures.coordinates in
    same_row c.args.a c.args.b (sym c.first-one.ensures ∙ firsts ∙ c.first-other.ensures)
    (sym c.step.ensures.step ∙ words-same c.step.result c.step-2.result (search rules) (search rules) c.if-step.false ∙ c.step-2.ensures.step)

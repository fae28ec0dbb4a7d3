-- The order of indices, which the derive makes of their fields, is row by row; it is total, and it ties no two
-- indices, as finite maps keyed by indices need.
use Rattle.std.proofs.Common.{◌≡◌, List, [], ◌∷◌, length, refl, ap, sym, ◌∙◌, arith, ℤ, Less, Equal, Greater}
use Rattle.std.specs.declared.cmp.Ordering.{Ordering}
use Rattle.std.specs.Ordering.{ordering_then, nat_cmp, int_cmp}
use Rattle.std.specs.Cmp.{IsTotalOrder}
use Rattle.std.specs.Cmp.Lexicographic.{slice_cmp}
use Rattle.std.proofs.lemmas.Cmp.{nat_cmp_total, int_cmp_total, on_total, then_total, lists_total, int_ranked, tied_itself}
use Rattle.dpl_sets.specs.Indices.{IsRank}
use Rattle.dpl_sets.specs.Order.{row_order}
use Rattle.dpl_domain.specs.contracts.tuple.IndexOrd.TheImpl.{cmp-value}

-- the order that the derive makes: of the ranks, and then of the three numbers
abbrev pub index_order : List ℤ → List ℤ → Ordering
index_order = cmp-value.it

then-Equal : (o : Ordering) → ordering_then o Equal ≡ o
then-Equal Less = refl
then-Equal Equal = refl
then-Equal Greater = refl

no_rank : {A : Type 0} → IsRank {A = ℤ} [] → A
no_rank rank = absurd (omega (arith, rank.0))

long : {A : Type 0} (a b c d : ℤ) (rest : List ℤ) → IsRank (a ∷ b ∷ c ∷ d ∷ rest) → A
long a b c d rest rank = absurd (omega (arith, rank.1))

-- it is row by row
pub index_order-rows : (s t : List ℤ) → IsRank s → IsRank t → index_order s t ≡ row_order s t
index_order-rows [] t s_rank t_rank = no_rank s_rank
index_order-rows (a ∷ b ∷ c ∷ d ∷ rest) t s_rank t_rank = long a b c d rest s_rank
index_order-rows s [] s_rank t_rank = no_rank t_rank
index_order-rows s (x ∷ y ∷ z ∷ w ∷ rest) s_rank t_rank = long x y z w rest t_rank
index_order-rows (c ∷ []) (z ∷ []) s_rank t_rank = sym (then-Equal (int_cmp c z))
index_order-rows (c ∷ []) (y ∷ z ∷ []) s_rank t_rank = refl
index_order-rows (c ∷ []) (x ∷ y ∷ z ∷ []) s_rank t_rank = refl
index_order-rows (b ∷ c ∷ []) (z ∷ []) s_rank t_rank = refl
index_order-rows (b ∷ c ∷ []) (y ∷ z ∷ []) s_rank t_rank = ap (ordering_then (int_cmp b y)) (sym (then-Equal (int_cmp c z)))
index_order-rows (b ∷ c ∷ []) (x ∷ y ∷ z ∷ []) s_rank t_rank = refl
index_order-rows (a ∷ b ∷ c ∷ []) (z ∷ []) s_rank t_rank = refl
index_order-rows (a ∷ b ∷ c ∷ []) (y ∷ z ∷ []) s_rank t_rank = refl
index_order-rows (a ∷ b ∷ c ∷ []) (x ∷ y ∷ z ∷ []) s_rank t_rank =
    ap (λ o. ordering_then (int_cmp a x) (ordering_then (int_cmp b y) o)) (sym (then-Equal (int_cmp c z)))

-- to compare the other way round is to turn the answer round, what comes before stands in a chain, and what ties
-- compares alike
pub row_order-total : IsTotalOrder row_order
row_order-total = then_total (on_total length nat_cmp_total) (lists_total int_cmp_total)

int_cmp-Equal : (a x : ℤ) → int_cmp a x ≡ Equal → a ≡ x
int_cmp-Equal a x tie = rw tie at (int_ranked a x (int_cmp a x) refl)

then-ties : (o p : Ordering) → ordering_then o p ≡ Equal → (o ≡ Equal) × (p ≡ Equal)
then-ties Less p tie = absurd cc
then-ties Equal p tie = (refl, tie)
then-ties Greater p tie = absurd cc

slice_cmp-Equal : (s t : List ℤ) → slice_cmp int_cmp s t ≡ Equal → s ≡ t
slice_cmp-Equal [] [] tie = refl
slice_cmp-Equal [] (x ∷ t) tie = absurd cc
slice_cmp-Equal (a ∷ s) [] tie = absurd cc
slice_cmp-Equal (a ∷ s) (x ∷ t) tie =
    let ties = then-ties (int_cmp a x) (slice_cmp int_cmp s t) tie in
    let heads : a ≡ x = int_cmp-Equal a x ties.0 in
    let tails : s ≡ t = slice_cmp-Equal s t ties.1 in
    cc

-- no two tuples tie
pub row_order-Equal : (s t : List ℤ) → row_order s t ≡ Equal → s ≡ t
row_order-Equal s t tie = slice_cmp-Equal s t (then-ties (nat_cmp (length s) (length t)) (slice_cmp int_cmp s t) tie).1

pub index_order-Equal : (s t : List ℤ) → IsRank s → IsRank t → index_order s t ≡ Equal → s ≡ t
index_order-Equal s t s_rank t_rank tie = row_order-Equal s t (sym (index_order-rows s t s_rank t_rank) ∙ tie)

-- and each ties with itself
pub row_order-self : (s : List ℤ) → row_order s s ≡ Equal
row_order-self s = tied_itself row_order-total s

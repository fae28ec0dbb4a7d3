-- Each variable is put after the one before it.
-- These are the answers to the goals of `each_held`.
use Rattle.std.proofs.Common.{◌≡◌, ℕ, ℤ, List, subst, length, get_or, set, refl, sym, ap, ◌∙◌, length-set, FitsSigned, w64, to_z, of_z, rules}
use Rattle.std.proofs.lemmas.Int.{to_z-of_z}
use Rattle.dpl_domain.specs.Ranks.{last_of}
use Rattle.dpl_strips.proofs.Paces.{GoesIn-steady, each_put-one, each_put-two, each_put-three}
use Rattle.dpl_strips.proofs.pace.each_held.Goals as goal

-- an int as its word
abbrev word_of : ℤ → ℤ
word_of n = to_z w64 (of_z w64 n)

-- the coordinates of the first index are those of the row's
from_first : (t u : List ℤ) (x y z : ℤ) → t ≡ u → t ≡ last_of (length t) x y z → u ≡ last_of (length u) x y z
from_first t u x y z same is = subst (λ t. t ≡ last_of (length t) x y z) same is

pub returns-in-1-eq0 : goal.returns-in-1-eq0
returns-in-1-eq0 g c =
    let ws = c.args.frame.now.memory.words.numbers in
    let at = c.numbers-outer.result in
    let n_fits : FitsSigned w64 c.number.result = search rules in
    let z_fits : FitsSigned w64 at.2 = search rules in
    let n_is = to_z-of_z w64 c.number.result n_fits in
    let z_is = to_z-of_z w64 at.2 z_fits in
    let before = GoesIn-steady c.args.row.step ws c.args.slot (word_of c.number.result) (search rules) (n_is ∙ c.number.ensures) in
    each_put-one c.after.result c.args.slot c.args.variable ws c.args.row at.0 at.1 (word_of at.2) (from_first c.first-first.result c.args.row.first _ _ _ c.first-first.ensures (c.numbers-outer.ensures.coordinates ∙ ap (last_of (length c.first-first.result) at.0 at.1) (sym z_is))) c.args.others.now (ap length (sym c.first-first.ensures) ∙ search rules) (search rules)
    (c.after.ensures (λ k. ws) (λ k. refl) before)

pub returns-in-2-eq1 : goal.returns-in-2-eq1
returns-in-2-eq1 g c =
    let ws = c.args.frame.now.memory.words.numbers in
    let at = c.numbers-outer.result in
    let n_fits : FitsSigned w64 c.number.result = search rules in
    let y_fits : FitsSigned w64 at.1 = search rules in
    let z_fits : FitsSigned w64 at.2 = search rules in
    let n_is = to_z-of_z w64 c.number.result n_fits in
    let y_is = to_z-of_z w64 at.1 y_fits in
    let z_is = to_z-of_z w64 at.2 z_fits in
    let before = GoesIn-steady c.args.row.step ws c.args.slot (word_of c.number.result) (search rules) (n_is ∙ c.number.ensures) in
    let first = c.after-before.ensures (λ k. ws) (λ k. refl) before in
    each_put-two c.after-in-2-eq1.result c.args.slot c.args.variable ws c.args.row at.0 (word_of at.1) (word_of at.2)
    (from_first c.first-first.result c.args.row.first _ _ _ c.first-first.ensures (c.numbers-outer.ensures.coordinates ∙ ap (λ y. last_of (length c.first-first.result) at.0 y at.2) (sym y_is) ∙ ap (last_of (length c.first-first.result) at.0 (word_of at.1)) (sym z_is))) c.args.others.now _ (ap length (sym c.first-first.ensures) ∙ search rules) (search rules) (search rules)
    (c.after-in-2-eq1.ensures (λ k. set ws c.args.variable (word_of at.1)) (λ k. length-set ws c.args.variable (word_of at.1)) first)

pub returns-in-3-eq2 : goal.returns-in-3-eq2
returns-in-3-eq2 g c =
    let ws = c.args.frame.now.memory.words.numbers in
    let at = c.numbers-outer.result in
    let n_fits : FitsSigned w64 c.number.result = search rules in
    let x_fits : FitsSigned w64 at.0 = search rules in
    let y_fits : FitsSigned w64 at.1 = search rules in
    let z_fits : FitsSigned w64 at.2 = search rules in
    let n_is = to_z-of_z w64 c.number.result n_fits in
    let x_is = to_z-of_z w64 at.0 x_fits in
    let y_is = to_z-of_z w64 at.1 y_fits in
    let z_is = to_z-of_z w64 at.2 z_fits in
    let before = GoesIn-steady c.args.row.step ws c.args.slot (word_of c.number.result) (search rules) (n_is ∙ c.number.ensures) in
    let first = c.after-before-in-3-eq2.ensures (λ k. ws) (λ k. refl) before in
    let one = λ (k : ℕ). set ws c.args.variable (word_of at.0) in
    let one_long = λ (k : ℕ). length-set ws c.args.variable (word_of at.0) in
    let second = c.after-before-in-3-eq2-2.ensures one one_long first in
    let two = λ (k : ℕ). set (one k) (get_or c.args.others.now 0 0) (word_of at.1) in
    each_put-three c.after-in-3-eq2.result c.args.slot c.args.variable ws c.args.row (word_of at.0) (word_of at.1) (word_of at.2)
    (from_first c.first-first.result c.args.row.first _ _ _ c.first-first.ensures (c.numbers-outer.ensures.coordinates ∙ ap (λ x. last_of (length c.first-first.result) x at.1 at.2) (sym x_is) ∙ ap (λ y. last_of (length c.first-first.result) (word_of at.0) y at.2) (sym y_is)
    ∙ ap (last_of (length c.first-first.result) (word_of at.0) (word_of at.1)) (sym z_is))) c.args.others.now (get_or c.args.others.now 0 0) _ (ap length (sym c.first-first.ensures) ∙ search rules) (search rules) (search rules) (search rules)
    (c.after-in-3-eq2.ensures two (λ k. length-set (one k) (get_or c.args.others.now 0 0) (word_of at.1) ∙ one_long k) second)

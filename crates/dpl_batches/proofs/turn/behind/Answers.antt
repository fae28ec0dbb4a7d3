-- The last coordinate lies so many steps further.
-- These are the answers to the goals of `behind`.
use Rattle.std.proofs.Common.{◌≡◌, ◌+ℤ◌, ◌*ℤ◌, [], ◌∷◌, length, FitsSigned, w64, to_z, subst, sym, ap, ◌∙◌, arith, rules}
use Rattle.std.proofs.lemmas.Int.{to_z-of_z}
use Rattle.dpl_domain.specs.Ranks.{last_of}
use Rattle.dpl_batches.proofs.Rooms.{word_of, product-fits, sum-fits, last-word, behind-is}
use Rattle.dpl_batches.proofs.turn.behind.Goals as goal

pub overflow_mul-last : goal.overflow_mul-last
overflow_mul-last c =
    let row = c.args.row in
    let at = c.numbers-outer.result in
    let coordinates : row.first ≡ last_of (length row.first) at.0 at.1 at.2 = subst (λ t. t ≡ last_of (length t) at.0 at.1 at.2) c.first-first.ensures c.numbers-outer.ensures.coordinates in
    let z_fits : FitsSigned w64 at.2 = search rules in
    let s_fits : FitsSigned w64 c.step.result = search rules in
    product-fits row c.args.k at.0 at.1 at.2 c.step.result coordinates c.requires.room c.requires.most c.step.ensures.step z_fits s_fits

pub overflow_add-last : goal.overflow_add-last
overflow_add-last c =
    let row = c.args.row in
    let at = c.numbers-outer.result in
    let coordinates : row.first ≡ last_of (length row.first) at.0 at.1 at.2 = subst (λ t. t ≡ last_of (length t) at.0 at.1 at.2) c.first-first.ensures c.numbers-outer.ensures.coordinates in
    let z_fits : FitsSigned w64 at.2 = search rules in
    let s_fits : FitsSigned w64 c.step.result = search rules in
    sum-fits row c.args.k at.0 at.1 at.2 c.step.result coordinates c.requires.room c.requires.most c.step.ensures.step z_fits s_fits

pub returns-in-1 : goal.returns-in-1
returns-in-1 c =
    let row = c.args.row in
    let at = c.numbers-outer.result in
    let coordinates : row.first ≡ last_of (length row.first) at.0 at.1 at.2 = subst (λ t. t ≡ last_of (length t) at.0 at.1 at.2) c.first-first.ensures c.numbers-outer.ensures.coordinates in
    let z_fits : FitsSigned w64 at.2 = search rules in
    let s_fits : FitsSigned w64 c.step.result = search rules in
    let one : length row.first ≡ 1 = ap length (sym c.first-first.ensures) ∙ sym c.rank.ensures.rank ∙ c.in-1.is in
    c.coordinate.ensures ∙ ap (λ i. i ∷ []) (last-word row c.args.k at.0 at.1 at.2 c.step.result coordinates c.requires.room c.requires.most c.step.ensures.step z_fits s_fits) ∙ behind-is row c.args.k at.0 at.1 at.2 c.step.result coordinates c.requires.room c.requires.most c.step.ensures.step z_fits s_fits 1 one

pub returns-in-2 : goal.returns-in-2
returns-in-2 c =
    let row = c.args.row in
    let at = c.numbers-outer.result in
    let coordinates : row.first ≡ last_of (length row.first) at.0 at.1 at.2 = subst (λ t. t ≡ last_of (length t) at.0 at.1 at.2) c.first-first.ensures c.numbers-outer.ensures.coordinates in
    let z_fits : FitsSigned w64 at.2 = search rules in
    let s_fits : FitsSigned w64 c.step.result = search rules in
    let y_fits : FitsSigned w64 at.1 = search rules in
    let last = word_of (word_of at.2 +ℤ word_of (word_of c.step.result *ℤ to_z w64 c.args.k)) in
    let two : length row.first ≡ 2 = ap length (sym c.first-first.ensures) ∙ sym c.rank.ensures.rank ∙ c.in-2.is in
    c.plane.ensures ∙ ap (λ i. i ∷ last ∷ []) (to_z-of_z w64 at.1 y_fits) ∙ ap (λ i. at.1 ∷ i ∷ []) (last-word row c.args.k at.0 at.1 at.2 c.step.result coordinates c.requires.room c.requires.most c.step.ensures.step z_fits s_fits) ∙ behind-is row c.args.k at.0 at.1 at.2 c.step.result coordinates c.requires.room c.requires.most c.step.ensures.step z_fits s_fits 2 two

pub returns-in_default : goal.returns-in_default
returns-in_default c =
    let row = c.args.row in
    let at = c.numbers-outer.result in
    let coordinates : row.first ≡ last_of (length row.first) at.0 at.1 at.2 = subst (λ t. t ≡ last_of (length t) at.0 at.1 at.2) c.first-first.ensures c.numbers-outer.ensures.coordinates in
    let z_fits : FitsSigned w64 at.2 = search rules in
    let s_fits : FitsSigned w64 c.step.result = search rules in
    let x_fits : FitsSigned w64 at.0 = search rules in
    let y_fits : FitsSigned w64 at.1 = search rules in
    let last = word_of (word_of at.2 +ℤ word_of (word_of c.step.result *ℤ to_z w64 c.args.k)) in
    let three : length row.first ≡ 3 = ap length (sym c.first-first.ensures) ∙ omega (arith, c.rank.ensures.rank, c.rank.ensures.limits, c.in_default) in
    c.space.ensures ∙ ap (λ i. i ∷ word_of at.1 ∷ last ∷ []) (to_z-of_z w64 at.0 x_fits) ∙ ap (λ i. at.0 ∷ i ∷ last ∷ []) (to_z-of_z w64 at.1 y_fits) ∙ ap (λ i. at.0 ∷ at.1 ∷ i ∷ []) (last-word row c.args.k at.0 at.1 at.2 c.step.result coordinates c.requires.room c.requires.most c.step.ensures.step z_fits s_fits) ∙ behind-is row c.args.k at.0 at.1 at.2 c.step.result coordinates c.requires.room c.requires.most c.step.ensures.step z_fits s_fits 3 three

-- An index with neither one nor two coordinates has three.
use Rattle.std.proofs.Common.{◌≡◌, ◌∷◌, [], ◌∙◌, ap, arith, length, append_assoc, FitsSigned, w64, rules}
use Rattle.std.proofs.lemmas.Int.{to_z-of_z}
use Rattle.dpl_domain.specs.Ranks.{last_of}
use Rattle.dpl_domain.proofs.tuple.IndexDisplay.fmt.Goals as goal

pub returns-in_default-clause-writes : goal.returns-in_default-clause-writes
returns-in_default-clause-writes g c =
    let three : length c.args.self.now ≡ 3 = omega arith in
    let are : c.args.self.now ≡ c.numbers-outer.result.0 ∷ c.numbers-outer.result.1 ∷ c.numbers-outer.result.2 ∷ [] =
    c.numbers-outer.ensures.coordinates ∙ ap (λ n. last_of n c.numbers-outer.result.0 c.numbers-outer.result.1 c.numbers-outer.result.2) three in
    let outer_fits : FitsSigned w64 c.numbers-outer.result.0 = search rules in
    let middle_fits : FitsSigned w64 c.numbers-outer.result.1 = search rules in
    let inner_fits : FitsSigned w64 c.numbers-outer.result.2 = search rules in
    rw are (simp append_assoc (simp to_z-of_z at c.write-in_default.ensures.writes))

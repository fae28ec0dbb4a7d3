-- The index of the member at that place.
-- These are the answers to the goals of `at` of a range.
use Rattle.std.proofs.Common.{rules, w64, FitsSigned, ◌∷◌, [], Some, ap, sym, ◌∙◌}
use Rattle.std.proofs.lemmas.Int.{to_z-of_z}
use Rattle.std.specs.Option.{option_map}
use Rattle.dpl_contents.specs.Range.{range_word}
use Rattle.dpl_loop.proofs.Lines.{line-at}
use Rattle.dpl_loop.proofs.rows.RangeWordPlaces.at.Goals as goal

pub returns-in-None : goal.returns-in-None
returns-in-None c = sym (line-at (range_word c.args.self.now) c.args.place ∙ ap (option_map (λ i. i ∷ [])) (sym c.nth.ensures ∙ c.in-None.is))

pub returns-in-Some : goal.returns-in-Some
returns-in-Some c =
    let fits : FitsSigned w64 c.in-Some.i = search rules in
    let line = simp to_z-of_z at c.line.ensures in
    ap Some line ∙ sym (line-at (range_word c.args.self.now) c.args.place ∙ ap (option_map (λ i. i ∷ [])) (sym c.nth.ensures ∙ c.in-Some.is))

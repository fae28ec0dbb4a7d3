-- What stands from the place on is what the text ends with.
use Rattle.std.proofs.Common.{rules, ◌≡◌, ap, sym, ◌∙◌, ◌-◌, List, ℕ, drop, length, ◌≤◌, subst}
use Rattle.dpl_explain.specs.Excerpt.{behind_place}
use Rattle.dpl_explain.proofs.Parts.{behind_place-cut, behind_place-ends, drop-ends, ends-length}
use Rattle.dpl_explain.proofs.line.parted_at.Goals as goal

pub overflow_sub-text : goal.overflow_sub-text
overflow_sub-text c =
    let cut : c.split_at.result.1.now ≡ behind_place c.args.at.line c.args.at.column c.args.text.now =
    behind_place-cut c.args.at.line c.args.at.column c.min-before.result c.args.text.now c.from_line-line.result.now c.split_at.result.1.now
    c.from_line-line.ensures (search rules) c.split_at.ensures.back in
    let P : List ℕ → Type 0 = λ rest. length rest ≤ length c.args.text.now in
    subst P (sym cut) (ends-length c.args.text.now _ (behind_place-ends c.args.at.line c.args.at.column c.args.text.now))

pub returns-clause-behind : goal.returns-clause-behind
returns-clause-behind c =
    let cut : c.split_at.result.1.now ≡ behind_place c.args.at.line c.args.at.column c.args.text.now =
    behind_place-cut c.args.at.line c.args.at.column c.min-before.result c.args.text.now c.from_line-line.result.now c.split_at.result.1.now
    c.from_line-line.ensures (search rules) c.split_at.ensures.back in
    c.split_at-2.ensures.back ∙ ap (λ (rest : List ℕ). drop (length c.args.text.now - length rest) c.args.text.now) cut
    ∙ drop-ends c.args.text.now _ (behind_place-ends c.args.at.line c.args.at.column c.args.text.now)

-- `finish`: the cell that `apply` gets is the one that was taken, so its effect is the one that is published.
-- One answer where the cell is left empty and one where it is left full.
use Rattle.std.proofs.Common.{ℕ, Some, refl, ap, ◌∙◌, subst}
use Rattle.dpl_cell.specs.Rule.{cell_of}
use Rattle.dpl_cell.specs.Steps.{TokenState, hold, Ends}
use Rattle.dpl_history.specs.declared.cell.CellState.{CellState}
use Rattle.dpl_history.specs.declared.cell.CellState.TheVariants.{Empty, Full}
use Rattle.dpl_cell.specs.declared.view.Hold.{Hold}
use Rattle.dpl_cell.proofs.Telling.{Ends-holding, effect-read}
use Rattle.dpl_cell.proofs.words.Words.finish.Goals as goal

pub publish-requires-clause-held : goal.publish-requires-clause-held
publish-requires-clause-held c =
    let n : ℕ = c.requires.held.0 in let is = c.requires.held.1 in let h : Hold = hold c.args.cell (cell_of c.args.state n) n in
    let does = effect-read _ _ n _ _ _ _ (c.read-value.ensures.read h is) c.to_cell-after.ensures (c.in-Some.ensures.done ∙ (λ i. Some (c.in-Empty.is i, c.in-Some.reply))) in
    (h, Empty, c.in-Some.reply, ap (λ (m : TokenState). m.0.held) c.read-value.ensures.same.1 ∙ is, refl, does, refl)

pub write-requires-clause-held : goal.write-requires-clause-held
write-requires-clause-held c = (hold c.args.cell (cell_of c.args.state c.requires.held.0) c.requires.held.0, ap (λ (m : TokenState). m.0.held) c.read-value.ensures.same.1 ∙ c.requires.held.1, refl)

pub returns-in-Empty-clause-told : goal.returns-in-Empty-clause-told
returns-in-Empty-clause-told c =
    let n : ℕ = c.requires.held.0 in let is = c.requires.held.1 in let h : Hold = hold c.args.cell (cell_of c.args.state n) n in
    let does = effect-read _ _ n _ _ _ _ (c.read-value.ensures.read h is) c.to_cell-after.ensures (c.in-Some.ensures.done ∙ (λ i. Some (c.in-Empty.is i, c.in-Some.reply))) in
    subst (λ (m : TokenState). Ends m c.args.cell c.args.op c.in-Some.reply c.publish.new.token.me) c.read-value.ensures.same.1
    (c.publish.ensures.told h Empty c.in-Some.reply (ap (λ (m : TokenState). m.0.held) c.read-value.ensures.same.1 ∙ is) does)

pub returns-in-Full-clause-told : goal.returns-in-Full-clause-told
returns-in-Full-clause-told c =
    let n : ℕ = c.requires.held.0 in let is = c.requires.held.1 in let same = c.read-value.ensures.same.1 in
    let h : Hold = hold c.args.cell (cell_of c.args.state n) n in let written : Hold = record h { value = c.to_word.result } in
    let y : CellState = Full c.in-Full.left in
    let does = effect-read _ _ n _ _ _ _ (c.read-value.ensures.read h is) c.to_cell-after.ensures (c.in-Some.ensures.done ∙ (λ i. Some (c.in-Full.is i, c.in-Some.reply))) in
    let held = c.write.ensures.held h (ap (λ (m : TokenState). m.0.held) same ∙ is) in
    let told = c.publish-in-Full.ensures.told written y c.in-Some.reply (ap (λ (m : TokenState). m.0.held) held) does in
    subst (λ (m : TokenState). Ends m c.args.cell c.args.op c.in-Some.reply c.publish-in-Full.new.token.me) same
    (Ends-holding c.read-value.new.token.me c.publish-in-Full.new.token.me written _ _ _
    (subst (λ (m : TokenState). Ends m c.args.cell c.args.op c.in-Some.reply c.publish-in-Full.new.token.me) held told))

-- Ints folded onto a word are the turns one after another; the variables hold the index of the last one.
-- These are the answers to the goals of `fold_row`.
use Rattle.std.proofs.Common.{◌≡◌, ◌<◌, ◌≤◌, ◌-◌, suc, ℕ, pos, length, get_or, arith, rules, ap, sym, subst, ◌∙◌, FitsSigned, w64}
use Rattle.std.proofs.lemmas.Int.{to_z-of_z}
use Rattle.dpl_array.specs.Elements.{behind}
use Rattle.dpl_language.specs.Tree.{NoStmts, Then}
use Rattle.dpl_language.specs.Values.{Int}
use Rattle.dpl_words.specs.Words.{IntLeaf}
use Rattle.dpl_memory.specs.Memory.{PlainKind, Memory, with_value_in}
use Rattle.dpl_frame.specs.Frames.{Framed}
use Rattle.dpl_loop.specs.Runs.{AreDone}
use Rattle.dpl_readings.specs.Readings.{step_in}
use Rattle.dpl_elements.specs.Turns.{bound_at, index_turn}
use Rattle.dpl_elements.proofs.RowTurns.{none-done}
use Rattle.dpl_batches.specs.Folded.{folded_words, Folds}
use Rattle.dpl_batches.proofs.FoldedTurns.{row-folded}
use Rattle.dpl_batches.proofs.turn.fold_row.Goals as goal

pub behind-requires-clause-room : goal.behind-requires-clause-room
behind-requires-clause-room g c = c.has_room.ensures (search rules)

pub returns-then-not-has_room-clause-done : goal.returns-then-not-has_room-clause-done
returns-then-not-has_room-clause-done g c w = none-done _ c.args.row c.args.frame.now.memory

pub returns-in_default-clause-done : goal.returns-in_default-clause-done
returns-in_default-clause-done g c w = none-done _ c.args.row c.args.frame.now.memory

pub returns-in_default-fold_of-clause-done : goal.returns-in_default-fold_of-clause-done
returns-in_default-fold_of-clause-done g c w = none-done _ c.args.row c.args.frame.now.memory

pub returns-then-made-gt0-clause-done : goal.returns-then-made-gt0-clause-done
returns-then-made-gt0-clause-done g c w =
    let f = c.args.frame.now in
    let names = c.args.names.now in
    let first = c.args.row in
    let slot = c.in-Int.slot in
    let fold = c.in-Some.fold in
    let strip = c.turn_ints.new.strip in
    let made = c.min-made.result in
    let last : ℕ = made - 1 in
    let some : made ≡ suc last = omega (arith, c.if-made-gt0.true) in
    let there : slot < length f.memory.words.numbers = search rules in
    let few : made ≤ strip.size = search rules in
    let cap : made ≤ 64 = search rules in
    let number_fits : FitsSigned w64 c.number.result = search rules in
    let word_fits : FitsSigned w64 c.folded-word.result = search rules in
    let word_is = (simp to_z-of_z at c.folded-word.ensures) ∙ ap (λ n. folded_words fold n strip.words made) c.number.ensures in
    let set = simp to_z-of_z at c.set_number.ensures in
    let memory =
    ap (λ (g : Framed). g.memory) set
    ∙ ap (λ (g : Framed). with_value_in (PlainKind IntLeaf) slot (Int c.folded-word.result) g.memory) c.bind.ensures
    ∙ ap (λ t. with_value_in (PlainKind IntLeaf) slot (Int c.folded-word.result) (bound_at names t f.memory)) c.behind.ensures
    ∙ ap (λ n. with_value_in (PlainKind IntLeaf) slot (Int n) (bound_at names (behind last first) f.memory)) word_is in
    let folds = subst (λ intent. Folds c.in-Int.deed intent fold) c.operator.ensures c.in-Some.ensures in
    let turn = index_turn f.limits names (Then (step_in w c.args.step.now) NoStmts) in
    subst (λ (m : Memory). AreDone turn first made f.memory m) (sym memory)
    (subst (λ t. AreDone (index_turn f.limits names (Then (step_in w t) NoStmts)) first made f.memory
    (with_value_in (PlainKind IntLeaf) slot (Int (folded_words fold (get_or f.memory.words.numbers slot (pos 0)) strip.words made)) (bound_at names (behind last first) f.memory))) (sym c.in-Int.is)
    (row-folded f.limits names c.in-Int.deed slot c.in-Int.e.now fold first strip made f.memory (c.is_variable.ensures c.if-is_variable.false) there folds
    c.turn_ints.ensures.row few cap c.turn_ints.ensures.values last some))

pub returns-else-made-gt0-clause-done : goal.returns-else-made-gt0-clause-done
returns-else-made-gt0-clause-done g c w =
    let f = c.args.frame.now in
    let none : c.min-made.result ≡ 0 = omega (arith, c.if-made-gt0.false) in
    let turn = index_turn f.limits c.args.names.now (Then (step_in w c.args.step.now) NoStmts) in
    subst (λ k. AreDone turn c.args.row k f.memory f.memory) (sym none) (none-done turn c.args.row f.memory)

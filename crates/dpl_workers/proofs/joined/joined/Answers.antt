-- What one worker more has added is put to the word.
use Rattle.std.proofs.Common.{◌≡◌, ◌+◌, ℕ, ℤ, pos, drop, get_or, sym, ap, ◌∙◌, w64, to_z, of_z, rules}
use Rattle.std.proofs.lemmas.List.{at_drop_more}
use Rattle.dpl_language.specs.Tree.{Op}
use Rattle.dpl_apart.specs.Operands.{combined_words}
use Rattle.dpl_workers.specs.declared.job.Worked.{Worked}
use Rattle.dpl_workers.specs.Joined.{word_left}
use Rattle.dpl_workers.proofs.joined.joined.Goals as goal

pub loop-one-preserved : goal.loop-one-preserved
loop-one-preserved c =
    let p : ℕ × Op = (c.args.slot, c.args.op) in
    let ws = c.args.worked.now in
    let k = c.loop-one.one-index in
    let one : Worked = c.one-item.result in
    let word : ℤ = to_z w64 c.loop-one.word-bits in
    let made : to_z w64 (of_z w64 c.combined-word.result) ≡ combined_words c.args.op word (get_or one.words.numbers c.args.slot (pos 0)) = search rules in
    ap (word_left p (drop (k + 1) ws)) made
    ∙ ap (λ (w : Worked). word_left p (drop (k + 1) ws) (combined_words c.args.op word (get_or w.words.numbers c.args.slot (pos 0)))) c.one-item.is
    ∙ sym (at_drop_more (λ vs. word_left p vs word) ws k one c.loop-one-test.true)
    ∙ c.loop-one.invariant

-- `close`: the cells that are filled from the words are those that the seat's history leaves.
-- By `Closing`.
use Rattle.std.proofs.Common.{rules, ◌≡◌, ℕ, ◌+◌, ◌<◌, ◌≤◌, length, sym, ◌∙◌, subst, arith}
use Rattle.dpl_history.specs.Histories.{cell_at}
use Rattle.dpl_cell.specs.Rule.{cell_of}
use Rattle.dpl_cell.proofs.Looking.{word_at}
use Rattle.dpl_cell.proofs.Closing.{Closes-final, get_or-get_elem?, cell_at-set, after-filled}
use Rattle.dpl_cell.proofs.words.Words.close.Goals as goal

pub loop-cell-preserved : goal.loop-cell-preserved
loop-cell-preserved c = let ws = c.close_with-closed.result.words.items in let n : ℕ = c.args.self.count in let i : ℕ = c.loop-cell.cell in
    let state : word_at ws i ≡ c.word.result = get_or-get_elem? ws i c.word.result 0 c.word.ensures in
    let value : word_at ws (n + i) ≡ c.word-in-loop-cell.result = get_or-get_elem? ws (n + i) c.word-in-loop-cell.result 0 c.word-in-loop-cell.ensures in record {
      wide = search rules;
      filled = cell_at-set c.loop-cell.cells.items i c.to_cell.result (λ k. cell_of (word_at ws k) (word_at ws (n + k))) (search rules) c.loop-cell.invariant.filled (c.to_cell.ensures ∙ (λ j. cell_of (sym state j) (sym value j)));
    }

pub returns-clause-legal : goal.returns-clause-legal
returns-clause-legal c = let v = c.args.token.me.0 in
    let z = Closes-final _ _ _ v _ _ c.close_with-closed.ensures.values.2 c.requires.idle c.requires.acts c.requires.all in
    let ws = c.close_with-closed.result.words.items in let n : ℕ = c.args.self.count in
    let long : length c.loop-cell.cells.items ≡ n = search rules in
    let done : n ≤ c.loop-cell.cell = search rules in (
      z.legal,
      after-filled _ v _ _ z (long ∙ c.args.self.sized)
          (subst (λ (m : ℕ). (k : ℕ) → k < m → cell_at c.loop-cell.cells.items k ≡ cell_of (word_at ws k) (word_at ws (m + k))) c.args.self.sized
          (λ k h. c.loop-cell.invariant.filled k (omega arith))),
    )

pub returns-clause-ours : goal.returns-clause-ours
returns-clause-ours c = (Closes-final _ _ _ c.args.token.me.0 _ _ c.close_with-closed.ensures.values.2 c.requires.idle c.requires.acts c.requires.all).ours

pub returns-clause-misses : goal.returns-clause-misses
returns-clause-misses c = (Closes-final _ _ _ c.args.token.me.0 _ _ c.close_with-closed.ensures.values.2 c.requires.idle c.requires.acts c.requires.all).misses

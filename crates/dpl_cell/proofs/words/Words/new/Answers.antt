-- `Words::new`: the opening words and the first view keep the rule.
-- By `Opening`.
use Rattle.std.proofs.Common.{ℕ, List, sym, subst}
use Rattle.dpl_cell.specs.Rule.{AreOpening}
use Rattle.dpl_cell.proofs.Opening.{IsKept-first_view}
use Rattle.dpl_cell.proofs.words.Words.new.Goals as goal

pub of_words-requires : goal.of_words-requires
of_words-requires c = IsKept-first_view c.args.plan.now c.as_slice.result.now (subst (λ (ws : List ℕ). AreOpening c.args.plan.now.cells.items ws) (sym c.as_slice.ensures.value) c.in_ok-words.ensures)

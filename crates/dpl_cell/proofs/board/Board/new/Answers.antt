-- `Board::new`: seat k has the number k alone, and the last seat the gatherer's.
-- Each turn of the loop gives the next number away.
use Rattle.std.proofs.Common.{rules, ◌≡◌, ℕ, ◌+◌, ◌-◌, ◌<◌, List, [], length, sym, ap, ◌∙◌, subst, arith, Some}
use Rattle.std.specs.List.{slice_get}
use Rattle.dpl_cell.specs.declared.view.View.{View}
use Rattle.dpl_cell.specs.declared.rule.Plan.{Plan}
use Rattle.dpl_cell.specs.Seats.{SeatValue}
use Rattle.dpl_cell.specs.Shown.{shown_seat}
use Rattle.dpl_cell.specs.Steps.{TokenState, without_first, with_first}
use Rattle.dpl_cell.proofs.Opening.{first_view_from, fresh_view, numbers_from-suc, without_first-first_view_from, with_first-first_view_from, first_view_from-last}
use Rattle.dpl_cell.proofs.SeatLists.{each_push}
use Rattle.dpl_cell.proofs.board.Board.new.Goals as goal

pub split-token-requires-clause-numbers : goal.split-token-requires-clause-numbers
split-token-requires-clause-numbers c = let p : Plan = c.in_ok-words.words.table.shared.key in let i : ℕ = c.loop-number.number in
    let same : p.tasks ≡ c.args.tasks = ap (λ (q : Plan). q.tasks) c.in_ok-words.ensures.words in
    let below : i < p.tasks = omega arith in
    (i, (p.tasks + 1) - (i + 1), ap (λ (m : TokenState). m.0.numbers) c.loop-number.invariant.rest ∙ numbers_from-suc p.tasks i below)

pub loop-number-preserved : goal.loop-number-preserved
loop-number-preserved c = let w = c.in_ok-words.words in let p : Plan = w.table.shared.key in let i : ℕ = c.loop-number.number in let inv = c.loop-number.invariant in
    let same : p.tasks ≡ c.args.tasks = ap (λ (q : Plan). q.tasks) c.in_ok-words.ensures.words in
    let below : i < p.tasks = omega arith in
    let split = c.split-token.ensures in record {
      own = split.own.0 ∙ inv.own;
      rest = split.left ∙ (ap (λ (m : TokenState). (without_first m.0, m.1)) inv.rest ∙ ap (λ (v : View). (v, [])) (without_first-first_view_from p i below));
      count = search rules;
      room = search rules;
      seats = let xs : List SeatValue = c.loop-number.seats.items in let long : length xs ≡ i = search rules in
          let P : ℕ → SeatValue → Type 0 = λ k s. s ≡ shown_seat w.table.shared.table_id (fresh_view p k) in
          let own = split.own.1 ∙ inv.own in
          let knows = ap (λ (m : TokenState). m.0) split.right ∙ (ap (λ (m : TokenState). with_first m.0) inv.rest ∙ with_first-first_view_from p i below) in
          subst (λ (l : List SeatValue). (k : ℕ) (s : SeatValue) → slice_get l k ≡ Some s → P k s) (sym c.push_reserved.ensures.items)
          (each_push P xs _ i long inv.seats (λ j. shown_seat (own j) (knows j)));
    }

pub returns-clause-seats : goal.returns-clause-seats
returns-clause-seats c = let w = c.in_ok-words.words in let p : Plan = w.table.shared.key in let i : ℕ = c.loop-number.number in let inv = c.loop-number.invariant in
    let same : p.tasks ≡ c.args.tasks = ap (λ (q : Plan). q.tasks) c.in_ok-words.ensures.words in
    let at_end : p.tasks ≡ i = omega arith in
    let xs : List SeatValue = c.loop-number.seats.items in let long : length xs ≡ i = search rules in
    let P : ℕ → SeatValue → Type 0 = λ k s. s ≡ shown_seat w.table.shared.table_id (fresh_view p k) in
    let last = subst (λ (j : ℕ). first_view_from p j ≡ fresh_view p j) at_end (first_view_from-last p) in
    let knows = ap (λ (m : TokenState). m.0) inv.rest ∙ last in
    subst (λ (l : List SeatValue). (k : ℕ) (s : SeatValue) → slice_get l k ≡ Some s → P k s) (sym c.push_reserved-2.ensures.items)
    (each_push P xs _ i long inv.seats (λ j. shown_seat (inv.own j) (knows j)))

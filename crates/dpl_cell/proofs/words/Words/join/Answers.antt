-- `join`: putting two seats together keeps the rule, and the load after it tells what came of it.
-- By `Joining` and `Telling`.
use Rattle.std.proofs.Common.{rules, sym, subst, ap}
use Rattle.dpl_cell.specs.declared.view.View.{View}
use Rattle.dpl_cell.specs.Seats.{Has}
use Rattle.dpl_cell.specs.Calls.{Joined}
use Rattle.dpl_cell.specs.Steps.{TokenState}
use Rattle.dpl_cell.specs.Shown.{shown_seat}
use Rattle.dpl_cell.proofs.Numbers.{Has-append_left}
use Rattle.dpl_cell.proofs.Joining.{Joins-gathered, Allows-vouch}
use Rattle.dpl_cell.proofs.Telling.{Joined-gathered}
use Rattle.dpl_cell.proofs.words.Words.join.Goals as goal

pub join_seat-requires : goal.join_seat-requires
join_seat-requires c = (search rules, search rules, search rules, search rules, Joins-gathered _ _ _ _ _ _ c.requires.idle.0 c.requires.idle.1 c.requires.acts)

pub load-requires : goal.load-requires
load-requires c = let v = c.args.token.now.me.0 in let w = c.args.other.me.0 in
    (search rules, search rules, Allows-vouch _ _ _ _ _ _ (subst (λ (u : View). Has u.number u.numbers) (sym (ap (λ (m : TokenState). m.0) c.join_seat.ensures.2)) (Has-append_left v.number v.numbers w.numbers c.requires.acts)))

pub returns-clause-joined : goal.returns-clause-joined
returns-clause-joined c = let told = c.load.ensures.2 in let v = c.args.token.now.me.0 in let w = c.args.other.me.0 in
    let i = c.args.token.now.table_id in let j = c.args.other.table_id in let n = c.load.new.seat.table_id in
    subst (λ (u : View). Joined (shown_seat i v) (shown_seat j w) (shown_seat n u)) (sym (ap (λ (m : TokenState). m.0) told.0)) (Joined-gathered i j n v w c.join_seat.new.seat.me.0 (ap (λ (m : TokenState). m.0) c.join_seat.ensures.2) told.3)

-- All texts, and then the line's end; or what was printed before, alone.
use Rattle.std.proofs.Common.{rules, ◌≡◌, length, take, sym, ap, ◌∙◌}
use Rattle.dpl_language.specs.Outcome.{Done}
use Rattle.dpl_loop.specs.Runs.{having_printed}
use Rattle.dpl_print.proofs.Growing.{written-ends, written-halts}
use Rattle.dpl_print.proofs.print.write.Goals as goal

pub returns-in-Err : goal.returns-in-Err
returns-in-Err g c done =
    let cut : c.truncate.new.self.items ≡ take (length c.args.out.now.items) c.show_all.new.out.items = search rules in
    rw cut
    (written-halts c.args.frame.now.limits _ c.args.ends_line c.args.arguments.now c.args.frame.now.memory done c.args.out.now.items c.show_all.new.out.items c.in-Err.halt c.in-Err.ensures)

pub returns : goal.returns
returns g c done =
    written-ends c.args.frame.now.limits c.args.ends_line c.args.arguments.now c.args.frame.now.memory done c.args.out.now.items c.show_all.new.out.items c.in_default.ensures
    ∙ ap (λ text. Done c.args.frame.now.memory (having_printed text done)) (sym c.in_ok-end_line.ensures)

-- `receive`: a readFE is one value more.
-- By `PassingLemmas`.
use Rattle.std.proofs.Common.{rules, ◌≡◌, ℤ, List, [], ◌∷◌, ◌++◌, sym, ap, ◌∙◌, subst}
use Rattle.dpl_history.specs.declared.cell.CellOp.TheVariants.{ReadFE}
use Rattle.dpl_history.specs.declared.cell.Reply.TheVariants.{Value}
use Rattle.dpl_history.specs.declared.history.Event.{Event}
use Rattle.dpl_cell_tests.specs.Passing.{receives, HasDone}
use Rattle.dpl_cell.proofs.Telling.{KeepsNumbers-trans}
use Rattle.dpl_cell_tests.proofs.PassingLemmas.{HasDone-push, receives-push}
use Rattle.dpl_cell_tests.proofs.passing.receive.Goals as goal

pub loop-made-preserved : goal.loop-made-preserved
loop-made-preserved c = let i = c.loop-made.invariant in let read = c.in-Ok.ensures in
    let v = c.args.seat.now in let u = c.loop-made.seat in let w = c.op.new.seat in let got : List ℤ = c.loop-made.got.items in let x : ℤ = c.in-Value.value in
    let items : c.push.new.self.items ≡ got ++ x ∷ [] = search rules in
    let done = HasDone-push _ v u w (receives v.number got) ReadFE c.in-Ok.reply (Value x) c.requires.alone i.numbers i.received read.done c.in-Value.is in record {
      own = read.own;
      numbers = KeepsNumbers-trans v u w i.numbers read.numbers;
      received = subst (λ (es : List Event). HasDone es v w) (sym (ap (receives v.number) items ∙ receives-push v.number got x)) done;
    }

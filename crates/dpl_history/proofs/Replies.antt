-- What an operation with an effect replies.
-- A read replies a value, and every other operation that it was done.
use Rattle.std.proofs.Common.{◌≡◌, List, [], ◌∷◌, ◌++◌, Option, Some, None, subst}
use Rattle.dpl_history.specs.declared.cell.CellState.{CellState}
use Rattle.dpl_history.specs.declared.cell.CellState.TheVariants.{Empty, Full}
use Rattle.dpl_history.specs.declared.cell.CellOp.{CellOp}
use Rattle.dpl_history.specs.declared.cell.CellOp.TheVariants.{ReadFE, ReadFF, WriteEF, WriteFF, WriteXF, Reset}
use Rattle.dpl_history.specs.declared.cell.Reply.{Reply}
use Rattle.dpl_history.specs.declared.cell.Reply.TheVariants.{Value, Done}
use Rattle.dpl_history.specs.declared.history.Event.{Event}
use Rattle.dpl_history.specs.Cells.{effect, IsReplyTo}
use Rattle.dpl_history.specs.Histories.{Legal}
use Rattle.dpl_history.proofs.Histories.{Legal-last}

pub no_effect : {X : Type 0} (x : X) → None ≡ Some x → ⊥
no_effect x e = cc

pub same_effect : {X : Type 0} (x y : X) → Some x ≡ Some y → x ≡ y
same_effect x y e = cc

replies : (op : CellOp) (x y : CellState) (q r : Reply) → IsReplyTo op q → ◌≡◌ {A = Option (CellState × Reply)} (Some (x, q)) (Some (y, r)) → IsReplyTo op r
replies op x y q r fits e = subst (λ (t : CellState × Reply). IsReplyTo op t.1) (same_effect (x, q) (y, r) e) fits

pub IsReplyTo-effect : (op : CellOp) (x y : CellState) (r : Reply) → effect op x ≡ Some (y, r) → IsReplyTo op r
IsReplyTo-effect ReadFE Empty y r e = absurd (no_effect (y, r) e)
IsReplyTo-effect ReadFE (Full v) y r e = replies ReadFE Empty y (Value v) r tt e
IsReplyTo-effect ReadFF Empty y r e = absurd (no_effect (y, r) e)
IsReplyTo-effect ReadFF (Full v) y r e = replies ReadFF (Full v) y (Value v) r tt e
IsReplyTo-effect (WriteEF v) Empty y r e = replies (WriteEF v) (Full v) y Done r tt e
IsReplyTo-effect (WriteEF v) (Full u) y r e = absurd (no_effect (y, r) e)
IsReplyTo-effect (WriteFF v) Empty y r e = absurd (no_effect (y, r) e)
IsReplyTo-effect (WriteFF v) (Full u) y r e = replies (WriteFF v) (Full v) y Done r tt e
IsReplyTo-effect (WriteXF v) Empty y r e = replies (WriteXF v) (Full v) y Done r tt e
IsReplyTo-effect (WriteXF v) (Full u) y r e = replies (WriteXF v) (Full v) y Done r tt e
IsReplyTo-effect Reset Empty y r e = replies Reset Empty y Done r tt e
IsReplyTo-effect Reset (Full u) y r e = replies Reset Empty y Done r tt e

-- so does the last event of a legal history
pub IsReplyTo-last : (cs : List CellState) (es : List Event) (e : Event) → Legal cs (es ++ e ∷ []) → IsReplyTo e.op e.reply
IsReplyTo-last cs es e p = let h = Legal-last cs es e p in IsReplyTo-effect e.op _ h.1.0 e.reply h.1.1

-- Statements that are found for the lanes of a strip: those where its mask, if there is one, has another word than 0.
use Rattle.std.specs.Prelude.{ℕ, List, option_map}
use Rattle.dpl_language.specs.Tree.{Stmts}
use Rattle.dpl_memory.specs.Memory.{Variable}
use Rattle.dpl_frame.specs.Frames.{Framed}
use Rattle.dpl_batches.specs.Stores.{AreFound}
use Rattle.dpl_batches.specs.declared.store.Store.{Store}
use Rattle.dpl_batches.specs.declared.keep.Lanes.{Lanes}

abbrev pub AreFoundIn : Lanes → Framed → Stmts Variable → ℕ → List Store → List Store → Type 0
AreFoundIn lanes frame body size before after =
    AreFound frame.limits lanes.names.now lanes.row frame.memory body (option_map (λ ms. ms.now) lanes.mask) size before after

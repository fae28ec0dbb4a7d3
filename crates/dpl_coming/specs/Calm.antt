-- Calm statements: they operate on no cell and enter no coforall, so they neither see nor change what is to come to a run. Whether they may
-- enter foralls, of which a record may be kept, is said beside.
use Rattle.dpl_language.specs.Tree.{StmtTree, Stmts, Else}
use Rattle.dpl_agreement.specs.Scopes.{Scoping, fits, fits_all, fits_else}
use Rattle.dpl_memory.specs.Memory.{Variable}

-- any name may be used in any way, but no cell is operated on, and no coforall is entered
abbrev pub calm : {N : Type 0} → Type 0 → Scoping N (Unit {0})
calm foralls = record {
  reads = λ x g. Unit {0};
  reads_at = λ x t g. Unit {0};
  reads_element = λ x items g. Unit {0};
  assigns = λ x op g. Unit {0};
  assigns_at = λ x t g. Unit {0};
  assigns_element = λ x items g. Unit {0};
  calls = λ x g. ⊥;
  declares = λ x form g. Unit {0};
  gives = λ x g. Unit {0};
  holds = λ x c. Unit {0};
  suits = λ x item g. Unit {0};
  suits_element = λ x item g. Unit {0};
  turns = λ x item g. Unit {0};
  spans = λ x items g. Unit {0};
  spans_array = λ x k items g. Unit {0};
  intends = λ is g. foralls;
  coforalls = λ x g. ⊥;
  moves = λ g. Unit {0};
  add = λ x form g. g;
  enter = λ g. g;
  leave = λ g. g;
  intend = λ is g. g;
  begin = λ g. g;
}

-- with foralls where they may be entered
abbrev pub CalmIf : Type 0 → StmtTree Variable → Type 0
CalmIf foralls t = fits (calm foralls) t tt

abbrev pub AllCalmIf : Type 0 → Stmts Variable → Type 0
AllCalmIf foralls ts = fits_all (calm foralls) ts tt

abbrev pub ElseCalmIf : Type 0 → Else Variable → Type 0
ElseCalmIf foralls o = fits_else (calm foralls) o tt

-- without any
abbrev pub IsCalm : StmtTree Variable → Type 0
IsCalm t = CalmIf ⊥ t

abbrev pub AreCalm : Stmts Variable → Type 0
AreCalm ts = AllCalmIf ⊥ ts

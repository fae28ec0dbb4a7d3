-- Scopes that are left: behind whatever was declared in a scope, leaving it gives the scopes around it.
-- Each lemma has the scopes that are left on its left side.
use Rattle.std.proofs.Common.{◌≡◌, List, [], ◌∷◌, drop, Option, refl, ap, ◌∙◌}
use Rattle.dpl_language.specs.Tree.{Placed, StmtTree, Declare, Stmts, NoStmts, Then}
use Rattle.dpl_language.specs.Names.{Text}
use Rattle.dpl_rules.specs.Types.{ValueType}
use Rattle.dpl_rules.specs.Sights.{Scope, Scopes, LoopVariable, origin_in}
use Rattle.dpl_rules.specs.Declarations.{declared_by}
use Rattle.dpl_rules.specs.Loops.{add_variables, behind}
use Rattle.dpl_rules.specs.Sound.{behind_all}

-- behind a statement the innermost scope may have one more name, and the others are as they were
abbrev behind_here : Scope → Scopes → StmtTree Text → Scope
behind_here s ss (Declare d) = declared_by (s ∷ ss) d ∷ s
behind_here s ss _ = s

behind_open : (s : Scope) (ss : Scopes) (t : StmtTree Text) → behind (s ∷ ss) t ≡ behind_here s ss t ∷ ss
behind_open s ss (Declare d) = refl
behind_open s ss _ = refl

pub leave_behind : (s : Scope) (ss : Scopes) (t : StmtTree Text) → drop 1 (behind (s ∷ ss) t) ≡ ss
leave_behind s ss t = ap (drop 1) (behind_open s ss t)

pub leave_behind_all : (s : Scope) (ss : Scopes) (ts : Stmts Text) → drop 1 (behind_all (s ∷ ss) ts) ≡ ss
leave_behind_all s ss NoStmts = refl
leave_behind_all s ss (Then t rest) =
    ap (λ scopes. drop 1 (behind_all scopes rest)) (behind_open s ss t) ∙ leave_behind_all (behind_here s ss t) ss rest

pub leave_variables : (t : Option ValueType) (xs : List (Placed Text)) (s : Scope) (ss : Scopes) → drop 1 (add_variables t xs (s ∷ ss)) ≡ ss
leave_variables t [] s ss = refl
leave_variables t (x ∷ xs) s ss =
    leave_variables t xs (record { origin = origin_in (s ∷ ss) x.name; sort = LoopVariable; type = t } ∷ s) ss

-- What a program that runs declares at its top level is of a kind that a declaration gives.
-- So what is left at its end is an int, a truth value, a range or a domain.
use Rattle.std.proofs.Common.{true, false, [], ◌∷◌, Some, None}
use Rattle.std.specs.Prelude.{bytes_eq, if◌then◌else◌}
use Rattle.std.specs.Option.{option_or}
use Rattle.dpl_language.specs.Tree.{StmtTree, Declare, Stmts, NoStmts, Then}
use Rattle.dpl_language.specs.Names.{Text}
use Rattle.dpl_rules.specs.Breaches.{top}
use Rattle.dpl_rules.specs.Declarations.{declared_by}
use Rattle.dpl_rules.specs.Loops.{behind}
use Rattle.dpl_rules.specs.Sights.{Declared, Scopes, find, lookup, add}
use Rattle.dpl_rules.specs.Sound.{behind_all}
use Rattle.dpl_runnable.specs.Runnable.{IsRunnableTop, AreRunnableTops}
use Rattle.dpl_run.specs.TopLevel.{IsLeft, AreLeft}

pub top-left : AreLeft top
top-left = λ x. tt

add-left : (d : Declared) (ss : Scopes) → IsLeft (Some d) → AreLeft ss → AreLeft (add d ss)
add-left d [] is h = λ x. elim (bytes_eq x d.origin.name) as (λ b. IsLeft (option_or (if b then Some d else None) None)) [ true ↦ is | false ↦ tt ]
add-left d (s ∷ ss) is h = λ x. elim (bytes_eq x d.origin.name) as (λ b. IsLeft (option_or (if b then Some d else find s x) (lookup ss x))) [ true ↦ is | false ↦ h x ]

behind-left : (t : StmtTree Text) (ss : Scopes) → IsRunnableTop ss t → AreLeft ss → AreLeft (behind ss t)
behind-left (Declare d) ss r h = add-left (declared_by ss d) ss (r.kind, r.declared, r.kept) h
behind-left _ ss r h = h

pub tops-left : (ts : Stmts Text) (ss : Scopes) → AreRunnableTops ss ts → AreLeft ss → AreLeft (behind_all ss ts)
tops-left NoStmts ss r h = h
tops-left (Then t rest) ss r h = tops-left rest (behind ss t) r.1 (behind-left t ss r.0 h)

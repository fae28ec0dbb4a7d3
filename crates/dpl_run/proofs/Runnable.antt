-- A program that has no refusal runs: what the lexer, the grammar and the rules leave of it is one, and plain, so that the walk makes its steps.
-- Its places are near, since its text is short.
use Rattle.std.proofs.Common.{◌≡◌, ℕ, suc, arith, List, [], ◌∷◌, Option, Some, None, refl}
use Rattle.dpl_syntax.specs.declared.place.Place.{Place}
use Rattle.dpl_syntax.specs.declared.refusal.Breach.{Breach}
use Rattle.dpl_syntax.specs.declared.token.Token.{Token}
use Rattle.dpl_syntax.specs.Places.{IsWithin, AllWithin}
use Rattle.dpl_syntax.specs.Text.{longest_text}
use Rattle.dpl_lexer.proofs.Places.{Lexes-within}
use Rattle.dpl_language.specs.Tree.{ProgramTree}
use Rattle.dpl_language.specs.Names.{Text}
use Rattle.dpl_grammar.specs.Each.{Each}
use Rattle.dpl_spelling.specs.Spelt.{StmtsSpelt}
use Rattle.dpl_rules.specs.Breaches.{top, top_sight, stmts_breaches, count_breaches, all_declarations, first_breach}
use Rattle.dpl_rules.specs.Sound.{IsSound, sets_fit, behind_all, refusal_by}
use Rattle.dpl_rules.proofs.Admission.{first_empty}
use Rattle.dpl_rules.proofs.Soundness.{sound_exactly, sound_admitted}
use Rattle.dpl_nodes.specs.Spots.{IsNear}
use Rattle.dpl_checker.specs.Plain.{ArePlainStmts}
use Rattle.dpl_runnable.specs.Runnable.{AreRunnableTops}
use Rattle.dpl_runnable.proofs.Spelled.{Spells-written}
use Rattle.dpl_runnable.proofs.Statements.{program-runnable}
use Rattle.dpl_runnable.proofs.Plain.{tops-plain}
use Rattle.dpl_agreement.specs.Untasked.{UntaskedStmts}
use Rattle.dpl_says.proofs.Untasked.{stmts-untasked, Spells-untasked}
use Rattle.dpl_places.proofs.Programs.{stmts-rising}
use Rattle.dpl_run.specs.Headline.{IsProgram}
use Rattle.dpl_run.specs.Programs.{IsAllowed}
use Rattle.dpl_run.proofs.Stages.{program-open, program-unrefused}

near : (p : Place) → IsWithin (suc longest_text) p → IsNear p
near p h = let a = h.0 in let b = h.1 in (omega (arith, a), omega (arith, b))

all-near : (ks : List Token) → AllWithin (suc longest_text) ks → Each (λ k. IsNear k.at) ks
all-near [] h = tt
all-near (k ∷ ks) h = (near k.at h.0, all-near ks h.1)

-- a tree that has no refusal breaks no rule
pub unbroken : (b : Option Breach) (fit : _) → refusal_by b fit ≡ None → b ≡ None
unbroken None fit e = refl
unbroken (Some b) fit e = absurd cc

-- of a sound program the walk over its statements tells no breach
pub walk-unbroken : (t : ProgramTree Text) → IsSound t → stmts_breaches top_sight t.stmts ≡ []
walk-unbroken t h =
    first_empty (stmts_breaches top_sight t.stmts) (count_breaches (all_declarations t.stmts)) h

module _ (text : List ℕ) (sets : List (List ℕ)) (t : ProgramTree Text) (is : IsProgram text sets t) where
  pub program-spelt : StmtsSpelt IsNear ⊥ t.stmts
  program-spelt = Spells-untasked IsNear 64 is.tokens t is.spells (program-open text sets t is) (all-near is.tokens (Lexes-within text is.tokens is.lexes))

  pub program-untasked : UntaskedStmts t.stmts
  program-untasked = stmts-untasked IsNear t.stmts program-spelt

  program-sound : IsSound t
  program-sound = (sound_exactly t).1 (unbroken (first_breach t) (sets_fit (behind_all top t.stmts) [] sets) (program-unrefused text sets t is))

  pub program-runs : AreRunnableTops top t.stmts
  program-runs = program-runnable t.stmts program-spelt program-untasked (Spells-written 64 is.tokens t is.spells) (walk-unbroken t program-sound)

  pub program-plain : ArePlainStmts top t.stmts
  program-plain = tops-plain t.stmts top (tt, tt) program-runs (Spells-written 64 is.tokens t is.spells)

  pub program-allowed : IsAllowed t
  program-allowed = record { sound = program-sound; admitted = sound_admitted t program-sound; placed = stmts-rising text is.tokens 64 t is.lexes is.spells }

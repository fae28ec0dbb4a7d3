-- The statements of the tree that a text's tokens spell stand at places that rise, and so do the foralls of any tree whose statements do.
-- Of places that rise no two are one.
use Rattle.std.proofs.Common.{◌≡◌, ◌≢◌, ℕ, true, List, [], ◌∷◌, sym, subst, arith}
use Rattle.std.specs.List.{All, AllByRecursion, AllPairs}
use Rattle.std.proofs.lemmas.Bool.Decides.{nat_tests}
use Rattle.std.proofs.lemmas.List.Elements.{All-nil, All-cons}
use Rattle.std.proofs.lemmas.List.Kept.{AllPairs-cons}
use Rattle.dpl_syntax.specs.declared.place.Place.{Place}
use Rattle.dpl_syntax.specs.declared.token.Token.{Token}
use Rattle.dpl_syntax.specs.Text.{Lexes}
use Rattle.dpl_language.specs.Names.{Text}
use Rattle.dpl_language.specs.Tree.{ProgramTree, Stmts}
use Rattle.dpl_spelling.specs.Theorem.{Spells}
use Rattle.dpl_rules.specs.Sights.{Scopes}
use Rattle.dpl_rules.specs.Breaches.{place_before}
use Rattle.dpl_rules.specs.Foralls.{all_foralls}
use Rattle.dpl_places.specs.Statements.{stmts_places}
use Rattle.dpl_places.specs.Rising.{IsRising}
use Rattle.dpl_places.proofs.Parts.{rising-part}
use Rattle.dpl_places.proofs.Tokens.{places, Lexes-rising}
use Rattle.dpl_places.proofs.Spelled.{Spells-part}
use Rattle.dpl_places.proofs.Foralls.{forall_places, all_foralls-part}

-- ---- places that rise are apart
before-itself : (p : Place) → place_before p p ≡ true → ⊥
before-itself p h = grind (arith, nat_tests, h)

before-apart : (p q : Place) → place_before p q ≡ true → p ≢ q
before-apart p q h e = before-itself p (subst (λ r. place_before p r ≡ true) (sym e) h)

all-apart : (p : Place) (ps : List Place) → AllByRecursion (λ q. place_before p q ≡ true) ps → All (λ q. p ≢ q) ps
all-apart p [] h = All-nil (λ q. p ≢ q)
all-apart p (q ∷ ps) h = All-cons (λ q. p ≢ q) q ps (before-apart p q h.0) (all-apart p ps h.1)

pub rising-apart : (ps : List Place) → IsRising ps → AllPairs (λ p q. p ≢ q) ps
rising-apart [] h = λ i j d below within. absurd (omega (arith, below, within))
rising-apart (p ∷ ps) h = AllPairs-cons (λ p q. p ≢ q) p ps (all-apart p ps h.0) (rising-apart ps h.1)

-- ---- programs
pub stmts-rising : (text : List ℕ) (tokens : List Token) (d : ℕ) (t : ProgramTree Text) → Lexes text tokens → Spells d tokens t → IsRising (stmts_places t.stmts)
stmts-rising text tokens d t lexes spells = rising-part (stmts_places t.stmts) (places tokens) (Lexes-rising text tokens lexes) (Spells-part d tokens t spells)

pub foralls-rising : (ts : Stmts Text) (ss : Scopes) → IsRising (stmts_places ts) → IsRising (forall_places (all_foralls ss ts))
foralls-rising ts ss rising = rising-part (forall_places (all_foralls ss ts)) (stmts_places ts) rising (all_foralls-part ts ss)

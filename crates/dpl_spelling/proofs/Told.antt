-- Rules of functions that are told what they go on with: their readers, one part after the other.
-- Each equation has a rule's reader on its left side, and its parts' on its right.
use Rattle.std.proofs.Common.{◌≡◌, ℕ, List, Ok, Err, refl}
use Rattle.dpl_syntax.specs.declared.token.Token.{Token}
use Rattle.dpl_syntax.specs.declared.token.Sign.TheVariants.{Semicolon}
use Rattle.dpl_language.specs.Tree.{Placed, Assigned}
use Rattle.dpl_grammar.specs.Classes.{sign}
use Rattle.dpl_grammar.specs.Reader.{Read, on_read, token_at}
use Rattle.dpl_spelling.specs.Expressions.{item}
use Rattle.dpl_spelling.specs.Statements.{target_end, assign_sign, assignment_end}
use Rattle.dpl_spelling.specs.Parts.{told}
use Rattle.dpl_spelling.specs.Reading.{at}

read_assoc : {A B C : Type 0} (r : Read A) (f : A × List Token → Read B) (g : B × List Token → Read C) → on_read (on_read r f) g ≡ on_read r (λ x. on_read (f x) g)
read_assoc (Ok x) f g = refl
read_assoc (Err e) f g = refl

pub read_assignment : (x : Placed (List ℕ)) (d : ℕ) (ts : List Token) →
    at (told x assignment_end) d ts
    ≡ on_read (at (told x target_end) d ts) (λ t. on_read (at assign_sign 0 t.1) (λ s. on_read (at item d s.1) (λ i. on_read (token_at (sign Semicolon) i.1) (λ k. Ok (Assigned t.0 s.0 i.0 k.0.at, k.1)))))
unfolding told assignment_end assign_sign
read_assignment x d ts = simp read_assoc

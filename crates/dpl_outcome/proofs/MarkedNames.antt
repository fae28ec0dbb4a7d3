-- What marks declare are the names of the scopes that they leave open.
use Rattle.std.proofs.Common.{◌≡◌, List, [], ◌∷◌, ◌++◌, reverse, refl, sym, ap, ◌∙◌, append_assoc}
use Rattle.std.proofs.lemmas.List.{append-nil, reverse-append, reverse-reverse}
use Rattle.dpl_rules.specs.Sights.{Declared, Scopes, add}
use Rattle.dpl_scopes.specs.declared.scopes.Mark.{Mark}
use Rattle.dpl_scopes.specs.declared.scopes.Mark.TheVariants.{Opens, Declares}
use Rattle.dpl_scopes.specs.Marks.{scopes_by}
use Rattle.dpl_scopes.specs.View.{declared_view}
use Rattle.dpl_outcome.specs.Names.{names_in, names_of, marked_by, marked_names}

marked_names-append : (ms ns : List Mark) → marked_names (ms ++ ns) ≡ marked_names ms ++ marked_names ns
marked_names-append [] ns = refl
marked_names-append (m ∷ ms) ns =
    ap (λ xs. marked_by m ++ xs) (marked_names-append ms ns) ∙ sym (append_assoc (marked_by m) (marked_names ms) (marked_names ns))

names-add : (d : Declared) (ss : Scopes) → names_of (add d ss) ≡ names_of ss ++ d.origin.name ∷ []
names-add d [] = refl
names-add d (s ∷ ss) = sym (append_assoc (names_of ss) (names_in s) (d.origin.name ∷ []))

-- one more mark
marked_names-more : (m : Mark) (ms : List Mark) → marked_names (reverse (m ∷ ms)) ≡ marked_names (reverse ms) ++ marked_names (m ∷ [])
marked_names-more m ms = ap marked_names (reverse-append (m ∷ []) ms) ∙ marked_names-append (reverse ms) (m ∷ [])

-- the latest first
names-latest : (ms : List Mark) → names_of (scopes_by ms) ≡ marked_names (reverse ms)
names-latest [] = refl
names-latest (Opens ∷ ms) =
    append-nil (names_of (scopes_by ms)) ∙ names-latest ms ∙ sym (marked_names-more Opens ms ∙ append-nil (marked_names (reverse ms)))
names-latest (Declares e ∷ ms) =
    names-add (declared_view e.declared) (scopes_by ms) ∙ ap (λ xs. xs ++ e.declared.origin.name.now ∷ []) (names-latest ms)
    ∙ sym (marked_names-more (Declares e) ms)

-- in order
pub names_marked : (ss : Scopes) (ms : List Mark) → scopes_by (reverse ms) ≡ ss → marked_names ms ≡ names_of ss
names_marked ss ms leaves = ap marked_names (sym (reverse-reverse ms)) ∙ sym (names-latest (reverse ms)) ∙ ap names_of leaves

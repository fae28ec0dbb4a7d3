-- Counts behind one list of declarations and then another, and what is told of the counts behind all of them.
-- What is past a limit is what the language's check has past it.
use Rattle.std.proofs.Common.{◌≡◌, ℕ, zero, suc, List, [], ◌∷◌, ◌++◌, Some, None, refl, sym, ap, ◌∙◌}
use Rattle.dpl_syntax.specs.declared.place.Place.{Place}
use Rattle.dpl_language.specs.Tree.{DeclareTree}
use Rattle.dpl_language.specs.Names.{Text}
use Rattle.dpl_language.specs.Declarations.{type_of as written_type}
use Rattle.dpl_rules.specs.Breaches.{of_cell, cells_among, past, count_breaches}
use Rattle.dpl_limits.specs.declared.count.Count.{Count}
use Rattle.dpl_limits.specs.declared.count.Counts.{Counts}
use Rattle.dpl_limits.specs.Counts.{one_more, all_more, counted, counts_after, none_yet, told, all_told}

all_more_append : (c : Count) (ds es : List (DeclareTree Text)) → all_more c (ds ++ es) ≡ all_more (all_more c ds) es
all_more_append c [] es = refl
all_more_append c (d ∷ ds) es = all_more_append (one_more c d.name.at) ds es

pub counts_after_append : (c : Counts) (ds es : List (DeclareTree Text)) → counts_after c (ds ++ es) ≡ counts_after (counts_after c ds) es
counts_after_append c [] es = refl
counts_after_append c (d ∷ ds) es = counts_after_append (counted c d) ds es

-- each count by itself
names_after : (c : Counts) (ds : List (DeclareTree Text)) → (counts_after c ds).names ≡ all_more c.names ds
names_after c [] = refl
names_after c (d ∷ ds) = names_after (counted c d) ds

cells_after : (c : Counts) (ds : List (DeclareTree Text)) → (counts_after c ds).cells ≡ all_more c.cells (cells_among ds)
cells_after c [] = refl
cells_after c (d ∷ ds) = cells_after (counted c d) ds ∙ sym (all_more_append c.cells (of_cell d (written_type d.typed)) (cells_among ds))

-- what was past the limit first, stays so
told_kept : (at : Place) (ds : List (DeclareTree Text)) → (all_more (record { left = 0; past = Some at }) ds).past ≡ Some at
told_kept at [] = refl
told_kept at (d ∷ ds) = told_kept at ds

told_past : (limit : ℕ) (ds : List (DeclareTree Text)) → told (all_more (record { left = limit; past = None }) ds).past ≡ past limit ds
told_past zero [] = refl
told_past zero (d ∷ ds) = ap told (told_kept d.name.at ds)
told_past (suc n) [] = refl
told_past (suc n) (d ∷ ds) = told_past n ds

pub counts_told : (ds : List (DeclareTree Text)) → all_told (counts_after none_yet ds) ≡ count_breaches ds
counts_told ds =
    let c = counts_after none_yet ds in
    ap (λ (n : Count). told n.past ++ told c.cells.past) (names_after none_yet ds)
    ∙ ap (λ bs. bs ++ told c.cells.past) (told_past 4096 ds)
    ∙ ap (λ (n : Count). past 4096 ds ++ told n.past) (cells_after none_yet ds)
    ∙ ap (λ bs. past 4096 ds ++ bs) (told_past 64 (cells_among ds))

-- What shifted reads name in the turns of a part, and in those of its domains.
-- The domains have the indices of the part, so both are the same.
use Rattle.std.proofs.Common.{◌≡◌, ℤ, List, map, All, subst}
use Rattle.std.specs.List.{flat_map}
use Rattle.dpl_sets.specs.Ranges.{RangeValue}
use Rattle.dpl_sets.specs.Indices.{indices}
use Rattle.dpl_sets.specs.declared.subscript.Subscript.{Subscript}
use Rattle.dpl_map.specs.Cuts.{AreCut}
use Rattle.dpl_map.specs.Orders.{StandsInOne}
use Rattle.dpl_array.specs.Rows.{StandsIn}
use Rattle.dpl_array.proofs.RowLemmas.{row-same}
use Rattle.dpl_halo.specs.Listed.{is_listed}
use Rattle.dpl_halo.specs.Shifts.{shifted, reads}
use Rattle.dpl_halo.proofs.ListedLemmas.{listed-same, stands-flat, flat-stands, stands-map, map-stands}

-- what is read in some turns is read in others that have them
reads-more : (shifts : List (List Subscript)) (turns more : List (List ℤ)) → ((u : List ℤ) → StandsIn turns u → StandsIn more u) → (t : List ℤ) → StandsIn (reads shifts turns) t → StandsIn (reads shifts more) t
reads-more shifts turns more into t at =
    let by = flat-stands (λ shift. map (shifted shift) turns) shifts t at in
    let turn = map-stands (shifted by.0) turns t by.2 in
    stands-flat (λ shift. map (shifted shift) more) shifts by.0 t by.1 (subst (StandsIn (map (shifted by.0) more)) turn.2 (stands-map (shifted by.0) more turn.0 (into turn.0 turn.1)))

pub reads-same : (shifts : List (List Subscript)) (ts : List (List ℤ)) (ds : List (List RangeValue)) → AreCut indices ts ds → All (StandsInOne ds) ts → (t : List ℤ) → is_listed (flat_map (λ d. reads shifts (indices d)) ds) t ≡ is_listed (reads shifts ts) t
reads-same shifts ts ds cut apart = listed-same (flat_map (λ d. reads shifts (indices d)) ds) (reads shifts ts) into back
  where
    into : (t : List ℤ) → StandsIn (flat_map (λ d. reads shifts (indices d)) ds) t → StandsIn (reads shifts ts) t
    into t at =
        let d = flat-stands (λ d. reads shifts (indices d)) ds t at in
        reads-more shifts (indices d.0) ts (λ u here. (row-same ts ds cut apart u).0 (stands-flat indices ds d.0 u d.1 here)) t d.2

    back : (t : List ℤ) → StandsIn (reads shifts ts) t → StandsIn (flat_map (λ d. reads shifts (indices d)) ds) t
    back t at =
        let by = flat-stands (λ shift. map (shifted shift) ts) shifts t at in
        let turn = map-stands (shifted by.0) ts t by.2 in
        let d = flat-stands indices ds turn.0 ((row-same ts ds cut apart turn.0).1 turn.1) in
        stands-flat (λ e. reads shifts (indices e)) ds d.0 t d.1
        (stands-flat (λ shift. map (shifted shift) (indices d.0)) shifts by.0 t by.1 (subst (StandsIn (map (shifted by.0) (indices d.0))) turn.2 (stands-map (shifted by.0) (indices d.0) turn.0 d.2)))

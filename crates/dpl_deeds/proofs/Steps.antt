-- Deeds that are added part by part: those of one part and then those of the next are those of both.
-- And what stands behind the deeds that stood in a list before.
use Rattle.std.proofs.Common.{◌≡◌, ◌++◌, List, length, map, drop, sym, ap, ◌∙◌, append_assoc}
use Rattle.std.proofs.Math.Seq.{drop-append_seam}
use Rattle.std.proofs.lemmas.List.{drop-map, length-map}
use Rattle.dpl_rules.specs.Deeds.{Deed}
use Rattle.dpl_deeds.specs.declared.deed.Deed.{Deed as DeedNode}
use Rattle.dpl_deeds.specs.View.{deed_view, Adds}

-- deeds that were added, and those that are left
pub added_then : (o p : List Deed) (ds es : List Deed) → p ≡ o ++ ds → p ++ es ≡ o ++ (ds ++ es)
added_then o p ds es added = ap (λ l. l ++ es) added ∙ append_assoc o ds es

-- what was added is what stands behind the deeds that stood there before
pub added_behind : (old new : List DeedNode) (ds : List Deed) → Adds ds old new → map deed_view (drop (length old) new) ≡ ds
added_behind old new ds added =
    sym (drop-map deed_view (length old) new)
    ∙ ap (drop (length old)) added
    ∙ ap (λ n. drop n (map deed_view old ++ ds)) (sym (length-map old deed_view))
    ∙ drop-append_seam (map deed_view old) ds

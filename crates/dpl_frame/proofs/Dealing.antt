-- Roots by slots, and the map that each gets.
use Rattle.std.proofs.Common.{◌≡◌, ℕ, zero, suc, ◌<◌, ◌≤◌, List, ◌∷◌, map, replicate, length, set, get_or, refl, sym, subst, ap, ◌∙◌}
use Rattle.std.proofs.Math.ListN.{get_or-eq_default}
use Rattle.std.proofs.lemmas.List.{get_or-map, map-set, length-map}
use Rattle.dpl_sets.specs.TextDomains.{values_of}
use Rattle.dpl_sets.specs.TextRanges.{TextRange}
use Rattle.dpl_map.specs.Maps.{AxisValue, whole_map}
use Rattle.dpl_layout.specs.Layouts.{LayoutValue}
use Rattle.dpl_layout.specs.Roots.{IsRootMap}
use Rattle.dpl_layout.proofs.RootMapLemmas.{root_map-is, root_map-none}
use Rattle.dpl_language.specs.Distributions.{Distribution, Root, no_root}
use Rattle.dpl_memory.specs.Memory.{with_root}
use Rattle.dpl_frame.specs.declared.root.Root.{Root as RootNode}
use Rattle.dpl_frame.specs.declared.root.Root.TheVariants.{Absent}
use Rattle.dpl_frame.specs.Roots.{root_view, named_of, map_of_root, map_of, maps_of}
use Rattle.dpl_frame.specs.Frames.{Framed, with_memory}

-- the map that a layout gives
pub root_gets : (l : LayoutValue) (named : Distribution) (rs : List TextRange) (m : List AxisValue) → IsRootMap l (named_of named) (values_of rs) m
    → m ≡ map_of_root l (record { named = named; domain = rs })
root_gets l named rs m is = root_map-is l m (named_of named) (values_of rs) is

pub none_gets : (l : LayoutValue) → whole_map ≡ map_of_root l no_root
none_gets l = sym (root_map-none l)

-- so many slots that hold neither a domain nor an array
pub roots_absent : (n : ℕ) → map root_view (replicate n Absent) ≡ replicate n no_root
roots_absent zero = refl
roots_absent (suc n) = ap (λ (rs : List Root). no_root ∷ rs) (roots_absent n)

pub maps_absent : (l : LayoutValue) (n : ℕ) (m : List AxisValue) → m ≡ whole_map → replicate n m ≡ maps_of l (replicate n Absent)
maps_absent l zero m e = refl
maps_absent l (suc n) m e =
    ap (λ (m : List AxisValue). m ∷ replicate n m) (e ∙ none_gets l)
    ∙ ap (λ (ms : List (List AxisValue)). map_of_root l no_root ∷ ms) (ap (replicate n) (sym (none_gets l) ∙ sym e) ∙ maps_absent l n m e)

-- a slot that gets a root
pub maps_set : (l : LayoutValue) (rs : List RootNode) (ms : List (List AxisValue)) (k : ℕ) (r : RootNode) (m : List AxisValue)
    → ms ≡ maps_of l rs → m ≡ map_of l r → set ms k m ≡ maps_of l (set rs k r)
maps_set l rs ms k r m are is =
    ap (λ ms. set ms k m) are ∙ ap (set (maps_of l rs) k) is ∙ sym (map-set (map_of l) rs k r)

-- what a frame stands for in which a slot gets one
pub view_set : (v f : Framed) (rs : List RootNode) (k : ℕ) (r : RootNode) → v ≡ f → v.memory.roots ≡ map root_view rs
    → with_memory (record v.memory { roots = map root_view (set rs k r) }) v ≡ with_memory (with_root k (root_view r) f.memory) f
view_set v f rs k r is roots =
    ap (λ (qs : List Root). with_memory (record v.memory { roots = qs }) v) (map-set root_view rs k r ∙ ap (λ qs. set qs k (root_view r)) (sym roots))
    ∙ ap (λ (f : Framed). with_memory (with_root k (root_view r) f.memory) f) is

-- the map of a slot
module _ (l : LayoutValue) (rs : List RootNode) (ms : List (List AxisValue)) (are : ms ≡ maps_of l rs) (slot : ℕ) where
  pub as-many : length ms ≡ length rs
  as-many = ap length are ∙ length-map rs (map_of l)

  pub owner_at : (m : List AxisValue) → slot < length ms → m ≡ get_or ms slot m → m ≡ map_of_root l (get_or (map root_view rs) slot no_root)
  owner_at m within is =
      is
      ∙ ap (λ ms. get_or ms slot m) are
      ∙ get_or-map (map_of l) rs slot Absent m (subst (λ n. slot < n) as-many within)
      ∙ ap (map_of_root l) (sym (get_or-map root_view rs slot Absent no_root (subst (λ n. slot < n) as-many within)))

  pub owner_past : length ms ≤ slot → whole_map ≡ map_of_root l (get_or (map root_view rs) slot no_root)
  owner_past past =
      none_gets l
      ∙ ap (map_of_root l)
      (sym (get_or-eq_default (map root_view rs) no_root (subst (λ n. n ≤ slot) (as-many ∙ sym (length-map rs root_view)) past)))

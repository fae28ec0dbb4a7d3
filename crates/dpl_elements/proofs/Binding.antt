-- The variables of a loop over a domain: what they hold in the turn of an index.
-- Each lemma has the coordinates that are left to put into slots on its left side.
use Rattle.std.proofs.Common.{◌≡◌, ℕ, zero, suc, ◌+◌, ◌<◌, arith, pos, List, [], ◌∷◌, drop, length, map, get_or, refl, ap, ◌∙◌}
use Rattle.dpl_syntax.proofs.Walks.{drop-at}
use Rattle.dpl_language.specs.Tree.{Placed, AfterComma}
use Rattle.dpl_language.specs.Values.{Int, Index, coordinates}
use Rattle.dpl_language.specs.Ranges.{index_value}
use Rattle.dpl_language.specs.Environment.{Plain}
use Rattle.dpl_language.specs.Loops.{declare_each}
use Rattle.dpl_words.specs.Words.{IntLeaf}
use Rattle.dpl_memory.specs.Memory.{PlainKind, Variable, Memory, int_leaf, with_value_in, in_memory}
use Rattle.dpl_nodes.specs.Steps.{unplaced_leaf, next_name}
use Rattle.dpl_elements.specs.Turns.{each_bound}

-- a tuple holds the index itself
pub coordinates_index_value : (t : Index) → coordinates (index_value t) ≡ t
coordinates_index_value [] = refl
coordinates_index_value (i ∷ []) = refl
coordinates_index_value (i ∷ j ∷ is) = refl

-- the next slot
pub each_bound_at : (slots : List ℕ) (d k slot : ℕ) (t : Index) (s : Memory) → k < length slots → slot ≡ get_or slots k slot
    → each_bound d (drop k slots) t s ≡ each_bound (d + 1) (drop (k + 1) slots) t (with_value_in (PlainKind IntLeaf) slot (Int (get_or t d (pos 0))) s)
each_bound_at slots d k slot t s within is = ap (λ slots. each_bound d slots t s) (drop-at slots k slot within is)

-- names that are declared by the coordinates from d on
declare-next : (x : Placed Variable) (xs : List (Placed Variable)) (d : ℕ) (t : Index) (s : Memory)
    → declare_each in_memory (x ∷ xs) (drop d t) s ≡ declare_each in_memory xs (drop (suc d) t) (in_memory.declare x.name (Plain (Int (get_or t d (pos 0)))) s)
declare-next x xs zero [] s = refl
declare-next x xs zero (i ∷ t) s = refl
declare-next x xs (suc d) [] s = refl
declare-next x xs (suc d) (i ∷ t) s = declare-next x xs d t s

declare-each_bound : (slots : List ℕ) (d : ℕ) (t : Index) (s : Memory)
    → declare_each in_memory (map {A = AfterComma (Placed Variable)} {B = Placed Variable} (λ x. x.part) (map next_name slots)) (drop d t) s ≡ each_bound d slots t s
declare-each_bound [] d t s = refl
declare-each_bound (slot ∷ slots) d t s =
    declare-next (next_name slot).part (map {A = AfterComma (Placed Variable)} {B = Placed Variable} (λ x. x.part) (map next_name slots)) d t s
    ∙ declare-each_bound slots (suc d) t (with_value_in (PlainKind IntLeaf) slot (Int (get_or t d (pos 0))) s)
    ∙ (let next : suc d ≡ d + 1 = omega arith in ap (λ e. each_bound e slots t (with_value_in (PlainKind IntLeaf) slot (Int (get_or t d (pos 0))) s)) next)

pub declare-names : (first : ℕ) (others : List ℕ) (t : Index) (s : Memory)
    → declare_each in_memory (unplaced_leaf (int_leaf first) ∷ map {A = AfterComma (Placed Variable)} {B = Placed Variable} (λ x. x.part) (map next_name others)) t s
    ≡ each_bound 1 others t (with_value_in (PlainKind IntLeaf) first (Int (get_or t 0 (pos 0))) s)
declare-names first others t s =
    declare-next (unplaced_leaf (int_leaf first)) (map {A = AfterComma (Placed Variable)} {B = Placed Variable} (λ x. x.part) (map next_name others)) 0 t s
    ∙ declare-each_bound others 1 t (with_value_in (PlainKind IntLeaf) first (Int (get_or t 0 (pos 0))) s)

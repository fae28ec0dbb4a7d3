-- Elements in words are elements by names: a read, a write, an array that is made, and one that gets another domain.
-- Each lemma has what the language says of a list of values on its left side, the values being what the words are.
use Rattle.std.proofs.Common.{◌≡◌, ℤ, pos, true, false, List, [], ◌∷◌, map, refl, sym, ap, ◌∙◌, Some, None, Option}
use Rattle.std.specs.Prelude.{All, if◌then◌else◌, option_map, unwrap_or}
use Rattle.std.proofs.lemmas.List.Elements.{All-head, All-tail}
use Rattle.dpl_sets.specs.TextRanges.{TextRange}
use Rattle.dpl_language.specs.Tree.{Kind, IntKind, BoolKind, Assign, Set, SetAdd, SetSubtract, SetMultiply, SetDivide, SetRemainder, SetReduce}
use Rattle.dpl_language.specs.Values.{Value, Int, Truth, Index, kept_number, default}
use Rattle.dpl_language.specs.Arithmetic.{assigned}
use Rattle.dpl_language.specs.Ranges.{indices_in, same_index}
use Rattle.dpl_language.specs.Names.{element_at, with_element, redomained}
use Rattle.dpl_words.specs.Words.{is_true}
use Rattle.dpl_memory.specs.Memory.{Held, element_as, word_at, with_word, held_at, held_over}
use Rattle.dpl_memory.specs.Resolved.{IsElement, element_takes}

-- A WORD is an element of its kind, and an element is what its word is
pub element_as-kind : (k : Kind) (w : ℤ) → IsElement k (element_as k w)
element_as-kind IntKind w = (w, refl)
element_as-kind BoolKind w = (_, refl)

kept-truth : (b : _) → is_true (kept_number (Truth b)) ≡ Truth b
kept-truth true = refl
kept-truth false = refl

pub element_as-kept : (k : Kind) (v : Value) → IsElement k v → element_as k (kept_number v) ≡ v
element_as-kept IntKind v p = ap (λ v. Int (kept_number v)) p.1 ∙ sym p.1
element_as-kept BoolKind v p = ap (λ v. is_true (kept_number v)) p.1 ∙ kept-truth p.0 ∙ sym p.1

element_as-default : (k : Kind) → element_as k (pos 0) ≡ default k
element_as-default IntKind = refl
element_as-default BoolKind = refl

-- A READ
pub element_at-words : (k : Kind) (t : Index) (is : List Index) (ws : List ℤ) → element_at t is (map (element_as k) ws) ≡ option_map (element_as k) (word_at t is ws)
element_at-words k t [] ws = refl
element_at-words k t (i ∷ is) [] = refl
element_at-words k t (i ∷ is) (w ∷ ws) =
    elim (same_index t i) as (λ b. (if b then Some (element_as k w) else element_at t is (map (element_as k) ws)) ≡ option_map (element_as k) (if b then Some w else word_at t is ws))
    [ true ↦ refl | false ↦ element_at-words k t is ws ]

-- A WRITE
pub with_element-words : (k : Kind) (t : Index) (v : Value) (is : List Index) (ws : List ℤ) → IsElement k v
    → with_element t v is (map (element_as k) ws) ≡ map (element_as k) (with_word t (kept_number v) is ws)
with_element-words k t v [] ws p = refl
with_element-words k t v (i ∷ is) [] p = refl
with_element-words k t v (i ∷ is) (w ∷ ws) p =
    elim (same_index t i) as (λ b. (if b then v ∷ map (element_as k) ws else element_as k w ∷ with_element t v is (map (element_as k) ws))
    ≡ map (element_as k) (if b then kept_number v ∷ ws else w ∷ with_word t (kept_number v) is ws))
    [ true ↦ ap (λ u. u ∷ map (element_as k) ws) (sym (element_as-kept k v p)) | false ↦ ap (λ vs. element_as k w ∷ vs) (with_element-words k t v is ws p) ]

-- AN ARRAY THAT IS MADE
pub elements-kept : (k : Kind) (vs : List Value) → All (IsElement k) vs → map (element_as k) (map kept_number vs) ≡ vs
elements-kept k [] all = refl
elements-kept k (v ∷ vs) all =
    ap (λ u. u ∷ map (element_as k) (map kept_number vs)) (element_as-kept k v (All-head (IsElement k) v vs all))
    ∙ ap (λ us. v ∷ us) (elements-kept k vs (All-tail (IsElement k) v vs all))

-- ANOTHER DOMAIN
default-words : (k : Kind) (o : Option ℤ) → unwrap_or (option_map (element_as k) o) (default k) ≡ element_as k (unwrap_or o (pos 0))
default-words k None = sym (element_as-default k)
default-words k (Some w) = refl

redomained-each : (k : Kind) (a : Held) (ts : List Index) → map (λ t. unwrap_or (element_at t a.keys (map (element_as k) a.words)) (default k)) ts
    ≡ map (element_as k) (map (λ t. unwrap_or (held_at t a) (pos 0)) ts)
redomained-each k a [] = refl
redomained-each k a (t ∷ ts) =
    ap (λ o. unwrap_or o (default k) ∷ map (λ t. unwrap_or (element_at t a.keys (map (element_as k) a.words)) (default k)) ts) (element_at-words k t a.keys a.words)
    ∙ ap (λ v. v ∷ map (λ t. unwrap_or (element_at t a.keys (map (element_as k) a.words)) (default k)) ts) (default-words k (held_at t a))
    ∙ ap (λ vs. element_as k (unwrap_or (held_at t a) (pos 0)) ∷ vs) (redomained-each k a ts)

pub redomained-words : (k : Kind) (a : Held) (rs : List TextRange) → a.keys ≡ indices_in a.ranges
    → redomained k a.ranges (map (element_as k) a.words) rs ≡ map (element_as k) (held_over rs a).words
redomained-words k a rs whole =
    ap (λ is. map (λ t. unwrap_or (element_at t is (map (element_as k) a.words)) (default k)) (indices_in rs)) (sym whole)
    ∙ redomained-each k a (indices_in rs)

-- WHAT AN ASSIGNMENT MAKES OF AN ELEMENT
arithmetic-element : (k : Kind) (n : ℤ) → element_takes k SetAdd ≡ true → IsElement k (Int n)
arithmetic-element IntKind n t = (n, refl)
arithmetic-element BoolKind n t = cc

takes-alike : (k : Kind) → (element_takes k SetSubtract ≡ element_takes k SetAdd) × (element_takes k SetMultiply ≡ element_takes k SetAdd) × (element_takes k SetDivide ≡ element_takes k SetAdd) × (element_takes k SetRemainder ≡ element_takes k SetAdd)
takes-alike IntKind = (refl, refl, refl, refl)
takes-alike BoolKind = (refl, refl, refl, refl)

pub assigned-element : (k : Kind) (op : Assign) (old v : Value) → element_takes k op ≡ true → IsElement k v → IsElement k (assigned op None old v)
assigned-element k Set old v t p = p
assigned-element k SetAdd old v t p = arithmetic-element k _ t
assigned-element k SetSubtract old v t p = arithmetic-element k _ (sym (takes-alike k).0 ∙ t)
assigned-element k SetMultiply old v t p = arithmetic-element k _ (sym (takes-alike k).1 ∙ t)
assigned-element k SetDivide old v t p = arithmetic-element k _ (sym (takes-alike k).2 ∙ t)
assigned-element k SetRemainder old v t p = arithmetic-element k _ (sym (takes-alike k).3 ∙ t)
assigned-element k SetReduce old v t p = p

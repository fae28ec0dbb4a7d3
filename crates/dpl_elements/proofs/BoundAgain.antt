-- The variables of a turn after those of another: what they held before is gone, and what other slots hold stays.
-- Each lemma has on its left side what binds the variables again.
use Rattle.std.proofs.Common.{◌≡◌, ◌≢◌, ◌+◌, ⊎_elim, ℕ, zero, suc, ℤ, pos, List, [], ◌∷◌, set, get_or, length, length-set, Some, refl, sym, ap, ◌∙◌}
use Rattle.std.proofs.lemmas.List.{set-set, set_comm}
use Rattle.std.proofs.lemmas.Option.{none-some, same_Some}
use Rattle.dpl_array.specs.Rows.{StandsIn}
use Rattle.dpl_language.specs.Values.{Int, Index, coordinates}
use Rattle.dpl_language.specs.Ranges.{index_value}
use Rattle.dpl_words.specs.Words.{IntLeaf}
use Rattle.dpl_memory.specs.Memory.{PlainKind, Held, Memory, with_value_in}
use Rattle.dpl_nodes.specs.declared.step.Names.{Names}
use Rattle.dpl_nodes.specs.declared.step.Names.TheVariants.{Int as IntName, Tuple as TupleName, Each}
use Rattle.dpl_elements.specs.Turns.{each_bound, bound_at, IsApart}
use Rattle.dpl_elements.proofs.Alongside.{slots-apart}
use Rattle.dpl_elements.proofs.Binding.{declare-names}

-- THE NUMBERS IN SLOTS
-- the coordinates of an index, from dimension d on, in the slots
abbrev numbers_bound : ℕ → List ℕ → Index → List ℤ → List ℤ
numbers_bound d [] t ns = ns
numbers_bound d (slot ∷ slots) t ns = numbers_bound (d + 1) slots t (set ns slot (get_or t d (pos 0)))

each_bound-numbers : (d : ℕ) (slots : List ℕ) (t : Index) (s : Memory) → each_bound d slots t s ≡ record s { words = record s.words { numbers = numbers_bound d slots t s.words.numbers } }
each_bound-numbers d [] t s = refl
each_bound-numbers d (slot ∷ slots) t s = each_bound-numbers (d + 1) slots t (with_value_in (PlainKind IntLeaf) slot (Int (get_or t d (pos 0))) s)

-- a number that stands in one of the slots is gone
numbers_bound-over : (d : ℕ) (slots : List ℕ) (t : Index) (ns : List ℤ) (slot : ℕ) (n : ℤ) → StandsIn slots slot → numbers_bound d slots t (set ns slot n) ≡ numbers_bound d slots t ns
numbers_bound-over d [] t ns slot n at = absurd (none-some slot at.1)
numbers_bound-over d (a ∷ slots) t ns slot n at =
    ⊎_elim
    (λ (same : slot ≡ a).
    ap (λ b. numbers_bound (d + 1) slots t (set (set ns b n) a (get_or t d (pos 0)))) same
    ∙ ap (numbers_bound (d + 1) slots t) (set-set ns a n (get_or t d (pos 0))))
    (λ (apart : slot ≢ a).
    ap (numbers_bound (d + 1) slots t) (set_comm ns slot a n (get_or t d (pos 0)) apart)
    ∙ numbers_bound-over (d + 1) slots t (set ns a (get_or t d (pos 0))) slot n (later apart at))
    (slots-apart slot a)
  where
    later : slot ≢ a → StandsIn (a ∷ slots) slot → StandsIn slots slot
    later apart (zero, here) = absurd (apart (sym (same_Some a slot here)))
    later apart (suc k, there) = (k, there)

numbers_bound-again : (d e : ℕ) (slots some : List ℕ) (t u : Index) (ns : List ℤ) → ((slot : ℕ) → StandsIn some slot → StandsIn slots slot) → numbers_bound d slots t (numbers_bound e some u ns) ≡ numbers_bound d slots t ns
numbers_bound-again d e slots [] t u ns all = refl
numbers_bound-again d e slots (a ∷ some) t u ns all =
    numbers_bound-again d (e + 1) slots some t u (set ns a (get_or u e (pos 0))) (λ slot at. all slot (suc at.0, at.1))
    ∙ numbers_bound-over d slots t ns a (get_or u e (pos 0)) (all a (0, refl))

-- a number in another slot stays
numbers_bound-apart : (d : ℕ) (slots : List ℕ) (t : Index) (ns : List ℤ) (slot : ℕ) (n : ℤ) → (StandsIn slots slot → ⊥) → numbers_bound d slots t (set ns slot n) ≡ set (numbers_bound d slots t ns) slot n
numbers_bound-apart d [] t ns slot n apart = refl
numbers_bound-apart d (a ∷ slots) t ns slot n apart =
    ap (numbers_bound (d + 1) slots t) (set_comm ns slot a n (get_or t d (pos 0)) (λ same. apart (0, ap Some (sym same))))
    ∙ numbers_bound-apart (d + 1) slots t (set ns a (get_or t d (pos 0))) slot n (λ at. apart (suc at.0, at.1))

numbers_bound-long : (d : ℕ) (slots : List ℕ) (t : Index) (ns : List ℤ) → length (numbers_bound d slots t ns) ≡ length ns
numbers_bound-long d [] t ns = refl
numbers_bound-long d (a ∷ slots) t ns = numbers_bound-long (d + 1) slots t (set ns a (get_or t d (pos 0))) ∙ length-set ns a (get_or t d (pos 0))

-- THE VARIABLES
pub bound_at-again : (names : Names) (t u : Index) (s : Memory) (arrays : List Held) → bound_at names t (record (bound_at names u s) { arrays = arrays }) ≡ record (bound_at names t s) { arrays = arrays }
bound_at-again (IntName slot) t u s arrays =
    ap {A = List ℤ} {B = Memory} (λ ns. record s { words = record s.words { numbers = ns }; arrays = arrays }) (set-set s.words.numbers slot _ _)
bound_at-again (TupleName slot) t u s arrays =
    ap {A = List Index} {B = Memory} (λ ts. record s { tuples = ts; arrays = arrays }) (set-set s.tuples slot (coordinates (index_value u)) (coordinates (index_value t)))
bound_at-again (Each first others) t u s arrays =
    let slots = first ∷ others.now in
    let put : List ℤ → Memory = λ ns. record s { words = record s.words { numbers = ns }; arrays = arrays } in
    declare-names first others.now t (record (bound_at (Each first others) u s) { arrays = arrays })
    ∙ ap (λ (m : Memory). each_bound 0 slots t (record m { arrays = arrays })) (declare-names first others.now u s ∙ each_bound-numbers 0 slots u s)
    ∙ each_bound-numbers 0 slots t (put (numbers_bound 0 slots u s.words.numbers))
    ∙ ap put (numbers_bound-again 0 0 slots slots t u s.words.numbers (λ slot at. at))
    ∙ ap {A = Memory} {B = Memory} (λ m. record m { arrays = arrays }) (sym (declare-names first others.now t s ∙ each_bound-numbers 0 slots t s))

-- they change no array
pub bound_at-arrays : (names : Names) (t : Index) (s : Memory) → (bound_at names t s).arrays ≡ s.arrays
bound_at-arrays (IntName slot) t s = refl
bound_at-arrays (TupleName slot) t s = refl
bound_at-arrays (Each first others) t s = ap (λ m. m.arrays) (declare-names first others.now t s ∙ each_bound-numbers 0 (first ∷ others.now) t s)

-- nor do they look at one
pub bound_at-over : (names : Names) (t : Index) (s : Memory) (arrays : List Held) → bound_at names t (record s { arrays = arrays }) ≡ record (bound_at names t s) { arrays = arrays }
bound_at-over (IntName slot) t s arrays = refl
bound_at-over (TupleName slot) t s arrays = refl
bound_at-over (Each first others) t s arrays =
    let slots = first ∷ others.now in
    declare-names first others.now t (record s { arrays = arrays })
    ∙ each_bound-numbers 0 slots t (record s { arrays = arrays })
    ∙ ap {A = Memory} {B = Memory} (λ m. record m { arrays = arrays }) (sym (declare-names first others.now t s ∙ each_bound-numbers 0 slots t s))

-- what they held before is gone
pub bound_at-twice : (names : Names) (t u : Index) (s : Memory) → bound_at names t (bound_at names u s) ≡ bound_at names t s
bound_at-twice names t u s =
    bound_at-again names t u s (bound_at names u s).arrays
    ∙ ap {A = List Held} {B = Memory} (λ held. record (bound_at names t s) { arrays = held }) (bound_at-arrays names u s ∙ sym (bound_at-arrays names t s))

-- an int that is none of them stays
pub bound_at-number : (names : Names) (slot : ℕ) (n : ℤ) (t : Index) (s : Memory) → IsApart names slot
    → bound_at names t (with_value_in (PlainKind IntLeaf) slot (Int n) s) ≡ with_value_in (PlainKind IntLeaf) slot (Int n) (bound_at names t s)
bound_at-number (IntName variable) slot n t s apart =
    ap {A = List ℤ} {B = Memory} (λ ns. record s { words = record s.words { numbers = ns } }) (set_comm s.words.numbers slot variable n _ (λ same. apart (sym same)))
bound_at-number (TupleName variable) slot n t s apart = refl
bound_at-number (Each first others) slot n t s apart =
    let slots = first ∷ others.now in
    declare-names first others.now t (with_value_in (PlainKind IntLeaf) slot (Int n) s)
    ∙ each_bound-numbers 0 slots t (with_value_in (PlainKind IntLeaf) slot (Int n) s)
    ∙ ap {A = List ℤ} {B = Memory} (λ ns. record s { words = record s.words { numbers = ns } }) (numbers_bound-apart 0 slots t s.words.numbers slot n apart)
    ∙ ap (with_value_in (PlainKind IntLeaf) slot (Int n)) (sym (declare-names first others.now t s ∙ each_bound-numbers 0 slots t s))

-- there are as many numbers, and the same reduce variables
pub bound_at-long : (names : Names) (t : Index) (s : Memory) → length (bound_at names t s).words.numbers ≡ length s.words.numbers
bound_at-long (IntName slot) t s = length-set s.words.numbers slot _
bound_at-long (TupleName slot) t s = refl
bound_at-long (Each first others) t s =
    ap (λ m. length m.words.numbers) (declare-names first others.now t s ∙ each_bound-numbers 0 (first ∷ others.now) t s)
    ∙ numbers_bound-long 0 (first ∷ others.now) t s.words.numbers

pub bound_at-intents : (names : Names) (t : Index) (s : Memory) → (bound_at names t s).words.intents ≡ s.words.intents
bound_at-intents (IntName slot) t s = refl
bound_at-intents (TupleName slot) t s = refl
bound_at-intents (Each first others) t s = ap (λ m. m.words.intents) (declare-names first others.now t s ∙ each_bound-numbers 0 (first ∷ others.now) t s)

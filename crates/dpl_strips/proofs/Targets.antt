-- What turns write, by the slot that it is in.
use Rattle.std.proofs.Common.{◌≡◌, ◌≢◌, ◌==◌, if◌then◌else◌, ℕ, ℤ, pos, Bool, true, false, List, [], ◌∷◌, get_or, Option, Some, None, is_some, option_map, refl, sym, subst, ap, ◌∙◌}
use Rattle.std.specs.Bool.{Decides}
use Rattle.std.proofs.lemmas.Bool.{false≢true}
use Rattle.std.proofs.lemmas.Bool.Decides.{Decides-eqb}
use Rattle.dpl_array.specs.Elements.{Row, behind}
use Rattle.dpl_memory.specs.Memory.{Memory, held_at, array_at}
use Rattle.dpl_strips.specs.Strips.{Written, written_at, IsFree, own_word, OwnWords}

module _ (slot : ℕ) where
  -- none is in the slot
  first-free : (x : Written) (rest : Option Written) (same : Bool) → Decides same (x.slot ≡ slot) → (if same then Some x else rest) ≡ None → (slot ≢ x.slot) × (rest ≡ None)
  first-free x rest true decides none = absurd cc
  first-free x rest false decides none = (λ is. false≢true (decides.1 (sym is)), none)

  pub written_at-free : (xs : List Written) → written_at slot xs ≡ None → IsFree xs slot
  written_at-free [] none = tt
  written_at-free (x ∷ xs) none =
      let both = first-free x (written_at slot xs) (x.slot == slot) (Decides-eqb x.slot slot) none in (both.0, written_at-free xs both.1)

  pub none-free : {A : Type 0} (xs : List Written) (view : A → Written) (found : Option A) → option_map view found ≡ written_at slot xs → is_some found ≡ false → IsFree xs slot
  none-free xs view None is none = written_at-free xs (sym is)
  none-free xs view (Some x) is none = absurd cc

  -- the one in the slot, of which a turn finds the element that it writes itself
  module _ (k : ℕ) (s u : Memory) where
    abbrev pub IsOwn : Written → Type 0
    IsOwn x = (x.slot ≡ slot) × (held_at (behind k x.at) (array_at slot u) ≡ own_word x k s)

    own-first : (x y : Written) (rest : Option Written) (same : Bool) → Decides same (y.slot ≡ slot) → (rest ≡ Some x → IsOwn x) → held_at (behind k y.at) (array_at y.slot u) ≡ own_word y k s
        → (if same then Some y else rest) ≡ Some x → IsOwn x
    own-first x y rest true decides of_rest own is =
        let there : y.slot ≡ slot = decides.0 refl in
        let same : y ≡ x = cc in subst IsOwn same (there, subst (λ slot. held_at (behind k y.at) (array_at slot u) ≡ own_word y k s) there own)
    own-first x y rest false decides of_rest own is = of_rest is

    pub written_at-own : (xs : List Written) (x : Written) → OwnWords xs k s u → written_at slot xs ≡ Some x → IsOwn x
    written_at-own [] x own is = absurd cc
    written_at-own (y ∷ xs) x own is = own-first x y (written_at slot xs) (y.slot == slot) (Decides-eqb y.slot slot) (written_at-own xs x own.1) own.0 is

    -- it is what has been found for it, or as it was
    pub own-words : (x : Written) (at : Row) (ws : List ℤ) → IsOwn x → at ≡ x.at → x.words ≡ Some ws → held_at (behind k at) (array_at slot u) ≡ Some (get_or ws k (pos 0))
    own-words x at ws own same is =
        ap (λ at. held_at (behind k at) (array_at slot u)) same ∙ own.1 ∙ ap (λ (o : Option (List ℤ)). own_word (record x { words = o }) k s) is

    pub own-kept : (x : Written) (at : Row) → IsOwn x → at ≡ x.at → x.words ≡ None → held_at (behind k at) (array_at slot u) ≡ held_at (behind k at) (array_at slot s)
    own-kept x at own same none =
        ap (λ at. held_at (behind k at) (array_at slot u)) same ∙ own.1 ∙ ap (λ (o : Option (List ℤ)). own_word (record x { words = o }) k s) none
        ∙ ap (λ t. held_at (behind k x.at) (array_at t s)) own.0 ∙ ap (λ at. held_at (behind k at) (array_at slot s)) (sym same)

-- Roots by slots stand for the roots of names: each name in sight has that of its slot.
-- A list of roots is what these are, in the order of the names, with a mark where each scope was opened.
use Rattle.std.proofs.Common.{◌≡◌, ◌≢◌, ℕ, true, false, [], ◌∷◌, refl, sym, ap, ◌∙◌, Some}
use Rattle.std.specs.Prelude.{bytes_eq, ◌==◌, if◌then◌else◌}
use Rattle.dpl_language.specs.Distributions.{Root, no_root}
use Rattle.dpl_language.specs.Names.{Text, Entered, Opened, Declared, Scoped, innermost, change_in, without_innermost}
use Rattle.dpl_agreement.proofs.Slots.{Bound, Mark, Name, Sight, slot_of, IsFresh, IsApart, without_frame, same_slot, other_slot, slot_of-apart}

abbrev pub Roots : Type 0
Roots = ℕ → Root

abbrev pub set_root : ℕ → Root → Roots → Roots
set_root k r q j = if j == k then r else q j

abbrev pub root_at : Roots → Bound → Entered Root
root_at q b = record { name = b.text; content = q b.slot }

abbrev pub roots_at : Roots → Sight → Scoped Root
roots_at q [] = []
roots_at q (Mark ∷ g) = Opened ∷ roots_at q g
roots_at q (Name b ∷ g) = Declared (root_at q b) ∷ roots_at q g

pub set_root_here : (k : ℕ) (r : Root) (q : Roots) → set_root k r q k ≡ r
set_root_here k r q = ap (λ b. if b then r else q k) (same_slot k)

pub set_root_other : (j k : ℕ) (r : Root) (q : Roots) → j ≢ k → set_root k r q j ≡ q j
set_root_other j k r q ne = ap (λ b. if b then r else q j) (other_slot j k ne)

-- roots that agree where names are in sight stand for one list
abbrev pub SameRoots : Roots → Roots → Sight → Type 0
SameRoots p q [] = Unit {0}
SameRoots p q (Mark ∷ g) = SameRoots p q g
SameRoots p q (Name b ∷ g) = (p b.slot ≡ q b.slot) × SameRoots p q g

pub roots_at-same : (p q : Roots) (g : Sight) → SameRoots p q g → roots_at p g ≡ roots_at q g
roots_at-same p q [] e = refl
roots_at-same p q (Mark ∷ g) e = ap (λ es. Opened ∷ es) (roots_at-same p q g e)
roots_at-same p q (Name b ∷ g) e =
    ap (λ r. Declared (record { name = b.text; content = r }) ∷ roots_at p g) e.0 ∙ ap (λ es. Declared (root_at q b) ∷ es) (roots_at-same p q g e.1)

SameRoots-set : (k : ℕ) (r : Root) (q : Roots) (g : Sight) → IsFresh k g → SameRoots (set_root k r q) q g
SameRoots-set k r q [] h = tt
SameRoots-set k r q (Mark ∷ g) h = SameRoots-set k r q g h
SameRoots-set k r q (Name b ∷ g) h = (set_root_other b.slot k r q (λ e. h.0 (sym e)), SameRoots-set k r q g h.1)

pub roots_at-set : (k : ℕ) (r : Root) (q : Roots) (g : Sight) → IsFresh k g → roots_at (set_root k r q) g ≡ roots_at q g
roots_at-set k r q g h = roots_at-same (set_root k r q) q g (SameRoots-set k r q g h)

-- looked up
pub root-slot : (x : Text) (k : ℕ) (g : Sight) (q : Roots) → slot_of x g ≡ Some k → innermost no_root x (roots_at q g) ≡ q k
root-slot x k [] q = λ e. cc
root-slot x k (Mark ∷ g) q = root-slot x k g q
root-slot x k (Name b ∷ g) q =
    elim (bytes_eq x b.text) as (λ t. (if t then Some b.slot else slot_of x g) ≡ Some k → (if t then q b.slot else innermost no_root x (roots_at q g)) ≡ q k)
    [ true ↦ λ e. ap q (let at : b.slot ≡ k = cc in at) | false ↦ λ e. root-slot x k g q e ]

-- declared
pub declared-root : (x : Bound) (r : Root) (g : Sight) (q : Roots) → IsFresh x.slot g
    → Declared (record { name = x.text; content = r }) ∷ roots_at q g ≡ roots_at (set_root x.slot r q) (Name x ∷ g)
declared-root x r g q fresh =
    ap (λ d. Declared (record { name = x.text; content = d }) ∷ roots_at q g) (sym (set_root_here x.slot r q))
    ∙ ap (λ es. Declared (root_at (set_root x.slot r q) x) ∷ es) (sym (roots_at-set x.slot r q g fresh))

-- and dealt out
pub deal-slot : (x : Text) (r : Root) (g : Sight) (q : Roots) (k : ℕ) → IsApart g → slot_of x g ≡ Some k → change_in x (λ old. r) (roots_at q g) ≡ roots_at (set_root k r q) g
deal-slot x r [] q k apart = λ e. cc
deal-slot x r (Mark ∷ g) q k apart = λ e. ap (λ es. Opened ∷ es) (deal-slot x r g q k apart e)
deal-slot x r (Name b ∷ g) q k apart =
    elim (bytes_eq x b.text) as (λ t. (if t then Some b.slot else slot_of x g) ≡ Some k
    → (if t then Declared (record { name = b.text; content = r }) ∷ roots_at q g else Declared (root_at q b) ∷ change_in x (λ old. r) (roots_at q g))
    ≡ roots_at (set_root k r q) (Name b ∷ g)) [
      | true ↦ λ e.
          let at : b.slot ≡ k = cc in
          declared-root b r g q apart.0 ∙ ap (λ j. roots_at (set_root j r q) (Name b ∷ g)) at
      | false ↦ λ e.
          ap (λ es. Declared (root_at q b) ∷ es) (deal-slot x r g q k apart.1 e)
          ∙ ap (λ d. Declared (record { name = b.text; content = d }) ∷ roots_at (set_root k r q) g)
          (sym (set_root_other b.slot k r q (slot_of-apart x g b.slot k apart.0 e)))
    ]

pub left-roots : (q : Roots) (g : Sight) → without_innermost (roots_at q g) ≡ roots_at q (without_frame g)
left-roots q [] = refl
left-roots q (Mark ∷ g) = refl
left-roots q (Name b ∷ g) = left-roots q g

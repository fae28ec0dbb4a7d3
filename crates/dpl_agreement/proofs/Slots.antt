-- Names in slots: each declaration in sight has a slot of its own, which holds what the name holds.
-- The store that slots stand for is a function of what is in sight, so each step is an equation.
use Rattle.std.proofs.Common.{◌≡◌, ◌≢◌, ℕ, true, false, pos, List, [], ◌∷◌, refl, sym, ap, ◌∙◌, Some, None, Option}
use Rattle.std.specs.Prelude.{bytes_eq, ◌==◌, if◌then◌else◌}
use Rattle.std.proofs.lemmas.Bool.Decides.{Decides-eqb}
use Rattle.dpl_language.specs.Values.{Int}
use Rattle.dpl_language.specs.Environment.{Content, Plain}
use Rattle.dpl_language.specs.Names.{Text, Entry, Opened, Declared, Store, look_up, change_in, without_innermost}
use Rattle.dpl_agreement.specs.Renamed.{renamed_content}

-- a name's text, and the slot of its declaration
pub record Bound : Type 0 where
  pub text : List ℕ
  pub slot : ℕ

-- WHAT IS IN SIGHT: names, the latest first, with a mark where each scope was opened
pub data Spot : Type 0 where
  Mark : Spot
  Name : Bound → Spot

abbrev pub Sight : Type 0
Sight = List Spot

-- the slot of a name's innermost declaration
abbrev pub slot_of : Text → Sight → Option ℕ
slot_of x [] = None
slot_of x (Mark ∷ g) = slot_of x g
slot_of x (Name b ∷ g) = if bytes_eq x b.text then Some b.slot else slot_of x g

-- no name in sight has the slot, and no two names have one
abbrev pub IsFresh : ℕ → Sight → Type 0
IsFresh k [] = Unit {0}
IsFresh k (Mark ∷ g) = IsFresh k g
IsFresh k (Name b ∷ g) = (k ≢ b.slot) × IsFresh k g

abbrev pub IsApart : Sight → Type 0
IsApart [] = Unit {0}
IsApart (Mark ∷ g) = IsApart g
IsApart (Name b ∷ g) = IsFresh b.slot g × IsApart g

-- what is in sight behind the innermost scope
abbrev pub without_frame : Sight → Sight
without_frame [] = []
without_frame (Mark ∷ g) = g
without_frame (Name b ∷ g) = without_frame g

-- SLOTS
abbrev pub Slots : Type 0
Slots = ℕ → Content Bound

abbrev pub set_slot : ℕ → Content Bound → Slots → Slots
set_slot k c m j = if j == k then c else m j

abbrev pub text_of : Bound → Text
text_of b = b.text

-- what a slot's name holds, by names
abbrev pub spelled : Content Bound → Content Text
spelled c = renamed_content text_of c

-- the store that slots stand for
abbrev pub entry_at : Slots → Bound → Entry
entry_at m b = record { name = b.text; content = spelled (m b.slot) }

abbrev pub store_at : Slots → Sight → Store
store_at m [] = []
store_at m (Mark ∷ g) = Opened ∷ store_at m g
store_at m (Name b ∷ g) = Declared (entry_at m b) ∷ store_at m g

pub same_slot : (k : ℕ) → (k == k) ≡ true
same_slot k = (Decides-eqb k k).1 refl

pub other_slot : (j k : ℕ) → j ≢ k → (j == k) ≡ false
other_slot j k ne =
    (elim (j == k) as (λ b. (b ≡ true → j ≡ k) → b ≡ false) [ true ↦ λ h. absurd (ne (h refl)) | false ↦ λ h. refl ]) (Decides-eqb j k).0

pub set_slot_here : (k : ℕ) (c : Content Bound) (m : Slots) → set_slot k c m k ≡ c
set_slot_here k c m = ap (λ b. if b then c else m k) (same_slot k)

pub set_slot_other : (j k : ℕ) (c : Content Bound) (m : Slots) → j ≢ k → set_slot k c m j ≡ m j
set_slot_other j k c m ne = ap (λ b. if b then c else m j) (other_slot j k ne)

-- SLOTS THAT AGREE where names are in sight stand for one store
abbrev pub SameIn : Slots → Slots → Sight → Type 0
SameIn m n [] = Unit {0}
SameIn m n (Mark ∷ g) = SameIn m n g
SameIn m n (Name b ∷ g) = (m b.slot ≡ n b.slot) × SameIn m n g

pub store_at-same : (m n : Slots) (g : Sight) → SameIn m n g → store_at m g ≡ store_at n g
store_at-same m n [] e = refl
store_at-same m n (Mark ∷ g) e = ap (λ es. Opened ∷ es) (store_at-same m n g e)
store_at-same m n (Name b ∷ g) e =
    ap (λ c. Declared (record { name = b.text; content = spelled c }) ∷ store_at m g) e.0 ∙ ap (λ es. Declared (entry_at n b) ∷ es) (store_at-same m n g e.1)

SameIn-set : (k : ℕ) (c : Content Bound) (m : Slots) (g : Sight) → IsFresh k g → SameIn (set_slot k c m) m g
SameIn-set k c m [] h = tt
SameIn-set k c m (Mark ∷ g) h = SameIn-set k c m g h
SameIn-set k c m (Name b ∷ g) h = (set_slot_other b.slot k c m (λ e. h.0 (sym e)), SameIn-set k c m g h.1)

pub store_at-set : (k : ℕ) (c : Content Bound) (m : Slots) (g : Sight) → IsFresh k g → store_at (set_slot k c m) g ≡ store_at m g
store_at-set k c m g h = store_at-same (set_slot k c m) m g (SameIn-set k c m g h)

-- A READ
abbrev content_at : Slots → Option ℕ → Content Text
content_at m None = Plain (Int (pos 0))
content_at m (Some k) = spelled (m k)

look_up-store_at : (x : Text) (g : Sight) (m : Slots) → look_up x (store_at m g) ≡ content_at m (slot_of x g)
look_up-store_at x [] m = refl
look_up-store_at x (Mark ∷ g) m = look_up-store_at x g m
look_up-store_at x (Name b ∷ g) m =
    elim (bytes_eq x b.text) as (λ t. (if t then spelled (m b.slot) else look_up x (store_at m g)) ≡ content_at m (if t then Some b.slot else slot_of x g))
    [ true ↦ refl | false ↦ look_up-store_at x g m ]

pub look_up-slot : (x : Text) (k : ℕ) (g : Sight) (m : Slots) → slot_of x g ≡ Some k → look_up x (store_at m g) ≡ spelled (m k)
look_up-slot x k g m e = look_up-store_at x g m ∙ ap (content_at m) e

-- A SLOT THAT IS FOUND is none that no name has
pub slot_of-apart : (x : Text) (g : Sight) (j k : ℕ) → IsFresh j g → slot_of x g ≡ Some k → j ≢ k
slot_of-apart x [] j k h = λ e. cc
slot_of-apart x (Mark ∷ g) j k h = slot_of-apart x g j k h
slot_of-apart x (Name b ∷ g) j k h =
    elim (bytes_eq x b.text) as (λ t. (if t then Some b.slot else slot_of x g) ≡ Some k → j ≢ k)
    [ true ↦ λ e same. h.0 (cc) | false ↦ λ e. slot_of-apart x g j k h.1 e ]

-- A DECLARATION
pub declared-slot : (x : Bound) (c : Content Bound) (g : Sight) (m : Slots) → IsFresh x.slot g
    → Declared (record { name = x.text; content = spelled c }) ∷ store_at m g ≡ store_at (set_slot x.slot c m) (Name x ∷ g)
declared-slot x c g m fresh =
    ap (λ d. Declared (record { name = x.text; content = spelled d }) ∷ store_at m g) (sym (set_slot_here x.slot c m))
    ∙ ap (λ es. Declared (entry_at (set_slot x.slot c m) x) ∷ es) (sym (store_at-set x.slot c m g fresh))

-- A CHANGE
module _ (x : Text) (a : Content Text → Content Text) (u : Content Bound → Content Bound) (p : (c : Content Bound) → a (spelled c) ≡ spelled (u c)) where
  pub change_in-slot : (g : Sight) (m : Slots) (k : ℕ) → IsApart g → slot_of x g ≡ Some k → change_in x a (store_at m g) ≡ store_at (set_slot k (u (m k)) m) g
  change_in-slot [] m k apart = λ e. cc
  change_in-slot (Mark ∷ g) m k apart = λ e. ap (λ es. Opened ∷ es) (change_in-slot g m k apart e)
  change_in-slot (Name b ∷ g) m k apart =
      elim (bytes_eq x b.text) as (λ t. (if t then Some b.slot else slot_of x g) ≡ Some k
      → (if t then Declared (record { name = b.text; content = a (spelled (m b.slot)) }) ∷ store_at m g else Declared (entry_at m b) ∷ change_in x a (store_at m g))
      ≡ store_at (set_slot k (u (m k)) m) (Name b ∷ g)) [
        | true ↦ λ e.
            let at : b.slot ≡ k = cc in
            ap (λ c. Declared (record { name = b.text; content = c }) ∷ store_at m g) (p (m b.slot))
            ∙ declared-slot b (u (m b.slot)) g m apart.0
            ∙ ap (λ j. store_at (set_slot j (u (m j)) m) (Name b ∷ g)) at
        | false ↦ λ e.
            ap (λ es. Declared (entry_at m b) ∷ es) (change_in-slot g m k apart.1 e)
            ∙ ap (λ d. Declared (record { name = b.text; content = spelled d }) ∷ store_at (set_slot k (u (m k)) m) g)
            (sym (set_slot_other b.slot k (u (m k)) m (slot_of-apart x g b.slot k apart.0 e)))
      ]

-- A SCOPE LEFT
pub IsApart-without_frame : (g : Sight) → IsApart g → IsApart (without_frame g)
IsApart-without_frame [] h = tt
IsApart-without_frame (Mark ∷ g) h = h
IsApart-without_frame (Name b ∷ g) h = IsApart-without_frame g h.1

pub without_innermost-store_at : (m : Slots) (g : Sight) → without_innermost (store_at m g) ≡ store_at m (without_frame g)
without_innermost-store_at m [] = refl
without_innermost-store_at m (Mark ∷ g) = refl
without_innermost-store_at m (Name b ∷ g) = without_innermost-store_at m g

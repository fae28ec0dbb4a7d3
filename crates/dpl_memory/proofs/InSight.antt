-- Resolved names in sight, as names in slots (dpl_agreement/proofs/Slots.antt): where it is told of each slot in sight which name,
-- which kind and which domain it has, a slot holds what the memory has there.
use Rattle.std.proofs.Common.{◌≡◌, ◌≢◌, ℕ, ◌<◌, Bool, true, false, List, [], ◌∷◌, ◌++◌, refl, sym, ap, ◌∙◌, subst, Some, None, Option}
use Rattle.std.specs.Prelude.{bytes_eq, ◌==◌, if◌then◌else◌, option_map}
use Rattle.std.specs.Option.{option_or}
use Rattle.std.proofs.lemmas.Bool.Decides.{Decides-eqb}
use Rattle.std.proofs.lemmas.Slice.Eq.{bytes_eq-Decides}
use Rattle.dpl_language.specs.Tree.{Op}
use Rattle.dpl_language.specs.Environment.{Content}
use Rattle.dpl_language.specs.Names.{Text, Opened, Declared, Store}
use Rattle.dpl_language.specs.Program.{own_content}
use Rattle.dpl_agreement.proofs.Slots.{Sight as SlotSight, Bound as SlotBound, Mark, Name, slot_of, IsFresh, IsApart, without_frame as slots_without_frame, Slots, set_slot, spelled, SameIn, store_at, store_at-same, same_slot, other_slot}
use Rattle.dpl_agreement.proofs.SlotDomains.{OverResolves, Overs, Overs-kept}
use Rattle.dpl_memory.specs.Memory.{VariableKind, PlainKind, ArrayKind, Memory, intended}
use Rattle.dpl_memory.specs.Resolved.{Shape, Bound, Sighted, Sight, Known, known_in, innermost, IsUnusedIn, IsUnused, bind, without_frame, text_of, content_in, entry_in, declared_in, own_store, store_in}
use Rattle.dpl_memory.proofs.OfKind.{content_in-intend}

-- AS NAMES IN SLOTS
abbrev pub placed : Bound → SlotBound
placed b = record { text = b.text; slot = b.variable.slot }

abbrev pub placed_over : Option Bound → Option SlotBound
placed_over o = option_map placed o

abbrev pub placed_name : Sighted → SlotBound
placed_name b = record { text = b.text; slot = b.slot }

-- the names of a frame, in order of declaration, before what was in sight
abbrev pub with_names : List Sighted → SlotSight → SlotSight
with_names [] g = g
with_names (b ∷ bs) g = with_names bs (Name (placed_name b) ∷ g)

abbrev pub in_slots : Sight → SlotSight
in_slots [] = []
in_slots (f ∷ fs) = with_names f (Mark ∷ in_slots fs)

-- some scope is open
abbrev pub IsOpen : Sight → Type 0
IsOpen [] = ⊥
IsOpen (f ∷ fs) = Unit {0}

pub IsOpen-bind : (x : Sighted) (fs : Sight) → IsOpen (bind x fs)
IsOpen-bind x [] = tt
IsOpen-bind x (f ∷ fs) = tt

abbrev slot_known : Known → ℕ
slot_known k = k.1

slot_of-names : (x : Text) (bs : List Sighted) (g : SlotSight) → slot_of x (with_names bs g) ≡ option_or (option_map slot_known (known_in x bs)) (slot_of x g)
slot_of-names x [] g = refl
slot_of-names x (b ∷ bs) g = slot_of-names x bs (Name (placed_name b) ∷ g) ∙ latest (known_in x bs) (bytes_eq x b.text)
  where
    latest : (o : Option Known) (t : Bool) → option_or (option_map slot_known o) (if t then Some b.slot else slot_of x g)
        ≡ option_or (option_map slot_known (option_or o (if t then Some (b.kind, b.slot, b.shape) else None))) (slot_of x g)
    latest None true = refl
    latest None false = refl
    latest (Some k) t = refl

slot_of-placed : (x : Text) (fs : Sight) → slot_of x (in_slots fs) ≡ option_map slot_known (innermost x fs)
slot_of-placed x [] = refl
slot_of-placed x (f ∷ fs) =
    slot_of-names x f (Mark ∷ in_slots fs) ∙ ap (option_or (option_map slot_known (known_in x f))) (slot_of-placed x fs) ∙ either (known_in x f) (innermost x fs)
  where
    either : (o p : Option Known) → option_or (option_map slot_known o) (option_map slot_known p) ≡ option_map slot_known (option_or o p)
    either None p = refl
    either (Some k) p = refl

pub slot_of-innermost : (x : Text) (k : Known) (fs : Sight) → innermost x fs ≡ Some k → slot_of x (in_slots fs) ≡ Some k.1
slot_of-innermost x k fs e = slot_of-placed x fs ∙ ap (option_map slot_known) e

IsFresh-names : (slot : ℕ) (bs : List Sighted) (g : SlotSight) → IsUnusedIn slot bs → IsFresh slot g → IsFresh slot (with_names bs g)
IsFresh-names slot [] g h i = i
IsFresh-names slot (b ∷ bs) g h i = IsFresh-names slot bs (Name (placed_name b) ∷ g) h.1 (h.0, i)

pub IsFresh-in_slots : (slot : ℕ) (fs : Sight) → IsUnused slot fs → IsFresh slot (in_slots fs)
IsFresh-in_slots slot [] h = tt
IsFresh-in_slots slot (f ∷ fs) h = IsFresh-names slot f (Mark ∷ in_slots fs) h.0 (IsFresh-in_slots slot fs h.1)

names-bind : (x : Sighted) (bs : List Sighted) (g : SlotSight) → with_names (bs ++ x ∷ []) g ≡ Name (placed_name x) ∷ with_names bs g
names-bind x [] g = refl
names-bind x (b ∷ bs) g = names-bind x bs (Name (placed_name b) ∷ g)

pub in_slots-bind : (x : Sighted) (fs : Sight) → IsOpen fs → in_slots (bind x fs) ≡ Name (placed_name x) ∷ in_slots fs
in_slots-bind x [] within = elim within [ ]
in_slots-bind x (f ∷ fs) within = names-bind x f (Mark ∷ in_slots fs)

without-names : (bs : List Sighted) (g : SlotSight) → slots_without_frame (with_names bs g) ≡ slots_without_frame g
without-names [] g = refl
without-names (b ∷ bs) g = without-names bs (Name (placed_name b) ∷ g)

pub in_slots-without_frame : (fs : Sight) → in_slots (without_frame fs) ≡ slots_without_frame (in_slots fs)
in_slots-without_frame [] = refl
in_slots-without_frame (f ∷ fs) = sym (without-names f (Mark ∷ in_slots fs))

-- NO TWO NAMES HAVE ONE SLOT
abbrev pub IsApartFrame : List Sighted → Sight → Type 0
IsApartFrame [] fs = Unit {0}
IsApartFrame (b ∷ bs) fs = IsUnusedIn b.slot bs × IsUnused b.slot fs × IsApartFrame bs fs

abbrev pub AreApart : Sight → Type 0
AreApart [] = Unit {0}
AreApart (f ∷ fs) = IsApartFrame f fs × AreApart fs

IsUnusedIn-append : (k : ℕ) (bs : List Sighted) (x : Sighted) → IsUnusedIn k bs → k ≢ x.slot → IsUnusedIn k (bs ++ x ∷ [])
IsUnusedIn-append k [] x h ne = (ne, tt)
IsUnusedIn-append k (b ∷ bs) x h ne = (h.0, IsUnusedIn-append k bs x h.1 ne)

IsApartFrame-append : (x : Sighted) (bs : List Sighted) (fs : Sight) → IsApartFrame bs fs → IsUnusedIn x.slot bs → IsUnused x.slot fs → IsApartFrame (bs ++ x ∷ []) fs
IsApartFrame-append x [] fs apart unused outer = (tt, outer, tt)
IsApartFrame-append x (b ∷ bs) fs apart unused outer =
    (IsUnusedIn-append b.slot bs x apart.0 (λ e. unused.0 (sym e)), apart.1, IsApartFrame-append x bs fs apart.2 unused.1 outer)

pub AreApart-bind : (x : Sighted) (fs : Sight) → AreApart fs → IsUnused x.slot fs → AreApart (bind x fs)
AreApart-bind x [] apart unused = ((tt, tt, tt), tt)
AreApart-bind x (f ∷ fs) apart unused = (IsApartFrame-append x f fs apart.0 unused.0 unused.1, apart.1)

pub AreApart-without_frame : (fs : Sight) → AreApart fs → AreApart (without_frame fs)
AreApart-without_frame [] apart = tt
AreApart-without_frame (f ∷ fs) apart = apart.1

-- of some names each has a slot that none in sight has
abbrev AreFresh : List Sighted → SlotSight → Type 0
AreFresh [] g = Unit {0}
AreFresh (b ∷ bs) g = IsFresh b.slot g × AreFresh bs g

AreFresh-more : (b : Sighted) (bs : List Sighted) (g : SlotSight) → IsUnusedIn b.slot bs → AreFresh bs g → AreFresh bs (Name (placed_name b) ∷ g)
AreFresh-more b [] g h f = tt
AreFresh-more b (c ∷ bs) g h f = ((λ e. h.0 (sym e), f.0), AreFresh-more b bs g h.1 f.1)

AreFresh-outside : (bs : List Sighted) (fs : Sight) → IsApartFrame bs fs → AreFresh bs (Mark ∷ in_slots fs)
AreFresh-outside [] fs a = tt
AreFresh-outside (b ∷ bs) fs a = (IsFresh-in_slots b.slot fs a.1, AreFresh-outside bs fs a.2)

IsApart-names : (bs : List Sighted) (fs : Sight) (g : SlotSight) → IsApart g → AreFresh bs g → IsApartFrame bs fs → IsApart (with_names bs g)
IsApart-names [] fs g a f h = a
IsApart-names (b ∷ bs) fs g a f h = IsApart-names bs fs (Name (placed_name b) ∷ g) (f.0, a) (AreFresh-more b bs g h.0 f.1) h.2

pub IsApart-in_slots : (fs : Sight) → AreApart fs → IsApart (in_slots fs)
IsApart-in_slots [] a = tt
IsApart-in_slots (f ∷ fs) a = IsApart-names f fs (Mark ∷ in_slots fs) (IsApart-in_slots fs a.1) (AreFresh-outside f fs a.0) a.0

pub without_frame-bind : (x : Sighted) (fs : Sight) → without_frame (bind x fs) ≡ without_frame fs
without_frame-bind x [] = refl
without_frame-bind x (f ∷ fs) = refl

-- WHAT IS TOLD OF A SLOT: the text of its name, its kind, the shape of its values, and of an array the bare name that it is over,
-- be that a domain's or a range's
pub record Told : Type 0 where
  pub text : Text
  pub kind : VariableKind
  pub shape : Shape
  pub over : Option SlotBound

abbrev pub told_of : Sighted → Option SlotBound → Told
told_of b over = record { text = b.text; kind = b.kind; shape = b.shape; over = over }

abbrev pub texts_of : (ℕ → Told) → ℕ → Text
texts_of told j = (told j).text

-- it is so of each slot in sight, and each is one of the memory's
abbrev pub IsToldIn : (ℕ → Told) → ℕ → List Sighted → Type 0
IsToldIn told slots [] = Unit {0}
IsToldIn told slots (b ∷ bs) = (told b.slot ≡ told_of b (told b.slot).over) × (b.slot < slots) × IsToldIn told slots bs

abbrev pub IsTold : (ℕ → Told) → ℕ → Sight → Type 0
IsTold told slots [] = Unit {0}
IsTold told slots (f ∷ fs) = IsToldIn told slots f × IsTold told slots fs

-- what is told of a name that is found
pub record Finds (told : ℕ → Told) (slots : ℕ) (x : Text) (k : Known) : Type 0 where
  pub text : (told k.1).text ≡ x
  pub kind : (told k.1).kind ≡ k.0
  pub shape : (told k.1).shape ≡ k.2
  pub within : k.1 < slots

module _ (told : ℕ → Told) (slots : ℕ) where
  known_in-told : (x : Text) (k : Known) (bs : List Sighted) → IsToldIn told slots bs → known_in x bs ≡ Some k → Finds told slots x k
  known_in-told x k [] h = λ e. cc
  known_in-told x k (b ∷ bs) h =
      (elim (known_in x bs) as (λ o. (o ≡ Some k → Finds told slots x k) → option_or o (if bytes_eq x b.text then Some (b.kind, b.slot, b.shape) else None) ≡ Some k → Finds told slots x k)
      [ None ↦ λ p e. own (bytes_eq x b.text) (bytes_eq-Decides x b.text).0 e | Some i ↦ λ p e. p e ]) (known_in-told x k bs h.2)
    where
      own : (t : Bool) → (t ≡ true → x ≡ b.text) → (if t then Some (b.kind, b.slot, b.shape) else None) ≡ Some k → Finds told slots x k
      own true p e =
          let at : (b.kind, b.slot, b.shape) ≡ k = cc in
          subst (Finds told slots x) at (record { text = ap (λ (t : Told). t.text) h.0 ∙ sym (p refl); kind = ap (λ (t : Told). t.kind) h.0; shape = ap (λ (t : Told). t.shape) h.0; within = h.1 })
      own false p e = absurd cc

  pub innermost-told : (x : Text) (k : Known) (fs : Sight) → IsTold told slots fs → innermost x fs ≡ Some k → Finds told slots x k
  innermost-told x k [] h = λ e. cc
  innermost-told x k (f ∷ fs) h =
      (elim (known_in x f) as (λ o. (o ≡ Some k → Finds told slots x k) → option_or o (innermost x fs) ≡ Some k → Finds told slots x k)
      [ None ↦ λ p e. innermost-told x k fs h.1 e | Some i ↦ λ p e. p e ]) (known_in-told x k f h.0)

-- another thing told of a slot
abbrev pub with_told : ℕ → Told → (ℕ → Told) → ℕ → Told
with_told slot t told j = if j == slot then t else told j

pub with_told_here : (slot : ℕ) (t : Told) (told : ℕ → Told) → with_told slot t told slot ≡ t
with_told_here slot t told = ap (λ b. if b then t else told slot) (same_slot slot)

pub with_told_other : (j slot : ℕ) (t : Told) (told : ℕ → Told) → j ≢ slot → with_told slot t told j ≡ told j
with_told_other j slot t told ne = ap (λ b. if b then t else told j) (other_slot j slot ne)

-- what is told of a name, whatever it is over
told-here : (t : Told) (b : Sighted) (over : Option SlotBound) → t ≡ told_of b over → t ≡ told_of b t.over
told-here t b over e = e ∙ sym (ap (λ (t : Told). told_of b t.over) e)

told-still : (t u : Told) (b : Sighted) → u ≡ t → t ≡ told_of b t.over → u ≡ told_of b u.over
told-still t u b e h = e ∙ h ∙ sym (ap (λ (t : Told). told_of b t.over) e)

module _ (x : Sighted) (over : Option SlotBound) (told : ℕ → Told) (slots : ℕ) where
  abbrev after : ℕ → Told
  after = with_told x.slot (told_of x over) told

  IsToldIn-after : (bs : List Sighted) → IsUnusedIn x.slot bs → IsToldIn told slots bs → IsToldIn after slots bs
  IsToldIn-after [] u h = tt
  IsToldIn-after (b ∷ bs) u h = (told-still (told b.slot) (after b.slot) b (with_told_other b.slot x.slot (told_of x over) told (λ e. u.0 (sym e))) h.0, h.1, IsToldIn-after bs u.1 h.2)

  pub IsTold-after : (fs : Sight) → IsUnused x.slot fs → IsTold told slots fs → IsTold after slots fs
  IsTold-after [] u h = tt
  IsTold-after (f ∷ fs) u h = (IsToldIn-after f u.0 h.0, IsTold-after fs u.1 h.1)

IsToldIn-append : (told : ℕ → Told) (slots : ℕ) (x : Sighted) (bs : List Sighted) → IsToldIn told slots bs → told x.slot ≡ told_of x (told x.slot).over → x.slot < slots → IsToldIn told slots (bs ++ x ∷ [])
IsToldIn-append told slots x [] h t within = (t, within, tt)
IsToldIn-append told slots x (b ∷ bs) h t within = (h.0, h.1, IsToldIn-append told slots x bs h.2 t within)

IsTold-append : (told : ℕ → Told) (slots : ℕ) (x : Sighted) (fs : Sight) → IsTold told slots fs → told x.slot ≡ told_of x (told x.slot).over → x.slot < slots → IsTold told slots (bind x fs)
IsTold-append told slots x [] h t within = ((t, within, tt), tt)
IsTold-append told slots x (f ∷ fs) h t within = (IsToldIn-append told slots x f h.0 t within, h.1)

pub IsTold-bind : (x : Sighted) (over : Option SlotBound) (told : ℕ → Told) (slots : ℕ) (fs : Sight) → IsUnused x.slot fs → x.slot < slots → IsTold told slots fs
    → IsTold (with_told x.slot (told_of x over) told) slots (bind x fs)
IsTold-bind x over told slots fs u within h =
    IsTold-append (with_told x.slot (told_of x over) told) slots x fs (IsTold-after x over told slots fs u h)
    (told-here (with_told x.slot (told_of x over) told x.slot) x over (with_told_here x.slot (told_of x over) told)) within

pub IsTold-without_frame : (told : ℕ → Told) (slots : ℕ) (fs : Sight) → IsTold told slots fs → IsTold told slots (without_frame fs)
IsTold-without_frame told slots [] h = tt
IsTold-without_frame told slots (f ∷ fs) h = h.1

-- WHAT THE SLOTS HOLD by the memory
abbrev pub contents : (ℕ → Told) → Memory → Slots
contents told s j = content_in (told j).kind j (told j).over s

-- by itself
content_in-own : (k : VariableKind) (slot : ℕ) (over : Option SlotBound) (s : Memory) → own_content (spelled (content_in k slot over s)) ≡ content_in k slot None s
content_in-own (PlainKind k) slot over s = refl
content_in-own _ slot over s = refl

names-contents : (told : ℕ → Told) (slots : ℕ) (s : Memory) (bs : List Sighted) (g : SlotSight) (es : Store) → IsToldIn told slots bs → own_store (store_at (contents told s) g) ≡ es
    → own_store (store_at (contents told s) (with_names bs g)) ≡ declared_in s bs es
names-contents told slots s [] g es h e = e
names-contents told slots s (b ∷ bs) g es h e =
    names-contents told slots s bs (Name (placed_name b) ∷ g) (Declared (entry_in s b) ∷ es) h.2
    (ap (λ c. Declared (record { name = b.text; content = c }) ∷ own_store (store_at (contents told s) g))
    (content_in-own (told b.slot).kind b.slot (told b.slot).over s ∙ ap (λ (t : Told). content_in t.kind b.slot None s) h.0)
    ∙ ap (λ es. Declared (entry_in s b) ∷ es) e)

-- they stand for the store that the memory is
pub store_at-contents : (told : ℕ → Told) (slots : ℕ) (s : Memory) (fs : Sight) → IsTold told slots fs → own_store (store_at (contents told s) (in_slots fs)) ≡ store_in s fs
store_at-contents told slots s [] h = refl
store_at-contents told slots s (f ∷ fs) h =
    names-contents told slots s f (Mark ∷ in_slots fs) (Opened ∷ store_in s fs) h.0 (ap (λ es. Opened ∷ es) (store_at-contents told slots s fs h.1))

-- the same of any name that an array is over
pub over_text-placed : (o : Option Bound) → option_map (λ (b : SlotBound). b.text) (placed_over o) ≡ option_map text_of o
over_text-placed None = refl
over_text-placed (Some y) = refl

SameIn-each : (m n : Slots) → ((j : ℕ) → m j ≡ n j) → (g : SlotSight) → SameIn m n g
SameIn-each m n e [] = tt
SameIn-each m n e (Mark ∷ g) = SameIn-each m n e g
SameIn-each m n e (Name b ∷ g) = (e b.slot, SameIn-each m n e g)

pub store_at-each : (m n : Slots) → ((j : ℕ) → m j ≡ n j) → (g : SlotSight) → store_at m g ≡ store_at n g
store_at-each m n e g = store_at-same m n g (SameIn-each m n e g)

pub store_at-intend : (told : ℕ → Told) (is : List (ℕ × Op)) (s : Memory) (g : SlotSight) → store_at (contents told s) g ≡ store_at (contents told (intended is s)) g
store_at-intend told is s g = store_at-each (contents told s) (contents told (intended is s)) (λ j. content_in-intend (told j).kind j (told j).over is s) g

-- a slot's content put there again
pub set_slot_same : (slot : ℕ) (m : Slots) (j : ℕ) → set_slot slot (m slot) m j ≡ m j
set_slot_same slot m j =
    (elim (j == slot) as (λ t. (t ≡ true → j ≡ slot) → (if t then m slot else m j) ≡ m j) [ true ↦ λ h. ap m (sym (h refl)) | false ↦ λ h. refl ]) (Decides-eqb j slot).0

-- one slot changed, and all others as they were
pub set_slot-each : (slot : ℕ) (c : Content SlotBound) (m n : Slots) → c ≡ n slot → ((j : ℕ) → j ≢ slot → m j ≡ n j) → (j : ℕ) → set_slot slot c m j ≡ n j
set_slot-each slot c m n here other j =
    (elim (j == slot) as (λ t. (t ≡ true → j ≡ slot) → (j ≡ slot → t ≡ true) → (if t then c else m j) ≡ n j)
    [ true ↦ λ h i. here ∙ ap n (sym (h refl)) | false ↦ λ h i. other j (λ e. let t = i e in cc) ]) (Decides-eqb j slot).0 (Decides-eqb j slot).1

-- WHICH DOMAINS ARRAYS ARE OVER is no matter of what the memory holds
over-stays : (names : ℕ → Text) (k : VariableKind) (slot : ℕ) (over : Option SlotBound) (s u : Memory) (p : SlotSight) → OverResolves names (content_in k slot over s) p → OverResolves names (content_in k slot over u) p
over-stays names (ArrayKind k) slot over s u p r = r
over-stays names _ slot over s u p r = tt

pub Overs-contents : (names : ℕ → Text) (told : ℕ → Told) (s u : Memory) (g : SlotSight) → Overs names (contents told s) g → Overs names (contents told u) g
Overs-contents names told s u g o = Overs-kept names (contents told s) (contents told u) (λ j p. over-stays names (told j).kind j (told j).over s u p) g o

pub Overs-each : (names : ℕ → Text) (m n : Slots) (g : SlotSight) → ((j : ℕ) → m j ≡ n j) → Overs names m g → Overs names n g
Overs-each names m n g e o = Overs-kept names m n (λ j p r. subst (λ c. OverResolves names c p) (e j) r) g o

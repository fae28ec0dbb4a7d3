-- Slots, by the marks: the next is as many as there are marks, behind the scope that no mark opened, and that of a name is what its mark holds.
-- Marks are the latest first here, and in order where a lemma says `reverse`.
use Rattle.std.proofs.Common.{◌≡◌, ℕ, suc, ◌+◌, max, true, false, List, [], ◌∷◌, ◌++◌, length, reverse, Option, Some, None, is_some, slice_get, refl, sym, ap, ◌∙◌, arith}
use Rattle.std.proofs.lemmas.List.{length-reverse, reverse-append, reverse-reverse}
use Rattle.std.specs.Prelude.{bytes_eq, if◌then◌else◌}
use Rattle.std.specs.Borrow.{Bor}
use Rattle.std.specs.Option.{option_flatten, option_or}
use Rattle.indexmap.specs.IndexMap.{IndexMap, get}
use Rattle.dpl_language.specs.Names.{Text}
use Rattle.dpl_rules.specs.Sights.{Declared, Scope, Scopes, find, lookup, add}
use Rattle.dpl_scopes.specs.declared.scopes.Mark.{Mark}
use Rattle.dpl_scopes.specs.declared.scopes.Mark.TheVariants.{Opens, Declares}
use Rattle.dpl_scopes.specs.View.{declared_view}
use Rattle.dpl_scopes.specs.Marks.{scopes_by, place, unmarked, unmarked_by, AreKept}
use Rattle.dpl_scopes.specs.Kept.{same_text, IsKept}
use Rattle.dpl_scopes.specs.Slots.{count_in, next_slot_in, place_in, slot_or, slot_in}
use Rattle.dpl_scopes.proofs.Marks.{place-below, read_at, earlier, latest}

-- ---- one more declaration
pub count_in-add : (d : Declared) (ss : Scopes) → count_in (add d ss) ≡ suc (next_slot_in ss)
count_in-add d [] = refl
count_in-add d (s ∷ ss) = omega arith

pub slot_in-add : (d : Declared) (ss : Scopes) (x : Text) → slot_in (add d ss) x ≡ (if bytes_eq x d.origin.name then Some (next_slot_in ss) else slot_in ss x)
slot_in-add d [] x =
    elim (bytes_eq x d.origin.name) as (λ t. slot_or (if t then Some 1 else None) None ≡ (if t then Some 1 else None)) [ true ↦ refl | false ↦ refl ]
slot_in-add d (s ∷ ss) x =
    let begin = suc (count_in ss) in
    let next : length s + begin ≡ max (length s + begin) 1 = omega arith in
    elim (bytes_eq x d.origin.name) as (λ t. slot_or (if t then Some (length s + begin) else place_in s x begin) (slot_in ss x) ≡ (if t then Some (max (length s + begin) 1) else slot_or (place_in s x begin) (slot_in ss x)))
    [ true ↦ ap Some next | false ↦ refl ]

-- ---- by the marks
pub count_in-scopes_by : (ms : List Mark) → count_in (scopes_by ms) ≡ length ms + unmarked ms
count_in-scopes_by [] = refl
count_in-scopes_by (Opens ∷ ms) = omega (arith, count_in-scopes_by ms)
count_in-scopes_by (Declares e ∷ []) = refl
count_in-scopes_by (Declares e ∷ m ∷ ms) =
    let more = count_in-add (declared_view e.declared) (scopes_by (m ∷ ms)) in
    omega (arith, more, count_in-scopes_by (m ∷ ms))

-- ---- by the mark that was made first
unmarked-last : (ms : List Mark) (m : Mark) → unmarked (ms ++ m ∷ []) ≡ unmarked_by (Some m)
unmarked-last [] Opens = refl
unmarked-last [] (Declares e) = refl
unmarked-last (Opens ∷ ms) m = unmarked-last ms m
unmarked-last (Declares e ∷ []) m = unmarked-last [] m
unmarked-last (Declares e ∷ n ∷ ms) m = unmarked-last (n ∷ ms) m

pub unmarked-reverse : (ms : List Mark) → unmarked (reverse ms) ≡ unmarked_by (slice_get ms 0)
unmarked-reverse [] = refl
unmarked-reverse (m ∷ ms) = ap unmarked (reverse-append (m ∷ []) ms) ∙ unmarked-last (reverse ms) m

-- ---- what is answered
pub next_slot-marks : (marks : List Mark) → max (length marks + unmarked_by (slice_get marks 0)) 1 ≡ next_slot_in (scopes_by (reverse marks))
next_slot-marks marks = omega (arith, count_in-scopes_by (reverse marks), length-reverse marks, unmarked-reverse marks)

abbrev pub slot_of : Option Mark → Option ℕ
slot_of None = None
slot_of (Some Opens) = None
slot_of (Some (Declares e)) = Some e.declared.slot

-- what was declared last is at the place of the name, with its slot
slot-scopes_by : (ms : List Mark) → AreKept ms → (x : Text) → read_at slot_of (reverse ms) (place ms x) ≡ slot_in (scopes_by ms) x
slot-scopes_by [] kept x = refl
slot-scopes_by (Opens ∷ ms) kept x =
    ap (λ l. read_at slot_of l (place ms x)) (reverse-append (Opens ∷ []) ms)
    ∙ earlier slot_of ms Opens (place ms x) (place-below ms x)
    ∙ slot-scopes_by ms kept x
slot-scopes_by (Declares e ∷ ms) kept x =
    ap (λ l. read_at slot_of l (place (Declares e ∷ ms) x)) (reverse-append (Declares e ∷ []) ms)
    ∙ (elim (bytes_eq x e.declared.origin.name.now) as (λ t. read_at slot_of (reverse ms ++ Declares e ∷ []) (if t then Some (length ms) else place ms x) ≡ (if t then Some (next_slot_in (scopes_by ms)) else slot_in (scopes_by ms) x))
    [ true ↦ latest slot_of ms (Declares e) ∙ ap Some kept.1 | false ↦ earlier slot_of ms (Declares e) (place ms x) (place-below ms x) ∙ slot-scopes_by ms kept.3 x ])
    ∙ sym (slot_in-add (declared_view e.declared) (scopes_by ms) x)

module _ {S : Type 0} (marks : List Mark) (places : IndexMap (Bor Text) (Option ℕ) S) (depth : ℕ) (kept : IsKept marks places depth) (name : Bor Text) where
  pub slot-get : (found : Option (Option ℕ)) → found ≡ get same_text places name → slot_in (scopes_by (reverse marks)) name.now ≡ read_at slot_of marks (option_flatten found)
  slot-get found is =
      sym (slot-scopes_by (reverse marks) kept.kept name.now)
      ∙ ap (λ l. read_at slot_of l (place (reverse marks) name.now)) (reverse-reverse marks)
      ∙ ap (read_at slot_of marks) (sym (kept.placed name) ∙ ap option_flatten (sym is))

  -- by the mark at its place
  pub slot-mark : (k : ℕ) (mark : Option Mark) → Some (Some k) ≡ get same_text places name → slice_get marks k ≡ mark → slot_in (scopes_by (reverse marks)) name.now ≡ slot_of mark
  slot-mark k mark is at = slot-get (Some (Some k)) is ∙ ap slot_of at

-- ---- names that are in sight, and no others, have slots
place_in-find : (s : Scope) (x : Text) (begin : ℕ) → is_some (place_in s x begin) ≡ is_some (find s x)
place_in-find [] x begin = refl
place_in-find (d ∷ ds) x begin =
    elim (bytes_eq x d.origin.name) as (λ t. is_some (if t then Some (length ds + begin) else place_in ds x begin) ≡ is_some (if t then Some d else find ds x))
    [ true ↦ refl | false ↦ place_in-find ds x begin ]

either : (a b : Option ℕ) (c d : Option Declared) → is_some a ≡ is_some c → is_some b ≡ is_some d → is_some (slot_or a b) ≡ is_some (option_or c d)
either None b None d e f = f
either (Some k) b (Some y) d e f = refl
either None b (Some y) d e f = absurd (let no : false ≡ true = e in cc)
either (Some k) b None d e f = absurd (let no : true ≡ false = e in cc)

pub slot_in-lookup : (ss : Scopes) (x : Text) → is_some (slot_in ss x) ≡ is_some (lookup ss x)
slot_in-lookup [] x = refl
slot_in-lookup (s ∷ ss) x =
    either (place_in s x (suc (count_in ss))) (slot_in ss x) (find s x) (lookup ss x) (place_in-find s x (suc (count_in ss))) (slot_in-lookup ss x)

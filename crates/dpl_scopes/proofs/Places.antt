-- How the places of names follow the marks: what is written to the map when a name is declared, and when its scope is closed.
-- So what is at a name's place is what the scopes find.
use Rattle.std.proofs.Common.{◌≡◌, ℕ, max, Bool, true, false, cond, List, [], ◌∷◌, ◌++◌, length, reverse, Option, Some, None, slice_get, refl, sym, ap, subst, ◌∙◌}
use Rattle.std.proofs.lemmas.Cmp.{nat_list_eq_equiv}
use Rattle.std.proofs.lemmas.Slice.Eq.{bytes_eq-Decides}
use Rattle.std.proofs.lemmas.List.{length-reverse, reverse-append}
use Rattle.std.proofs.lemmas.Option.{none-some}
use Rattle.std.specs.Borrow.{Bor, MutBor}
use Rattle.std.specs.Option.{option_flatten, option_copied_mut}
use Rattle.std.specs.Prelude.{bytes_eq, if◌then◌else◌}
use Rattle.indexmap.specs.IndexMap.{IndexMap, get, Updates}
use Rattle.dpl_language.specs.Names.{Text}
use Rattle.dpl_scopes.specs.declared.scopes.Entry.{Entry}
use Rattle.dpl_scopes.specs.declared.scopes.Mark.{Mark}
use Rattle.dpl_scopes.specs.declared.scopes.Mark.TheVariants.{Declares}
use Rattle.dpl_rules.specs.Sights.{lookup}
use Rattle.dpl_scopes.specs.View.{declared_view}
use Rattle.dpl_scopes.specs.Marks.{scopes_by, place, AreKept}
use Rattle.dpl_scopes.specs.Slots.{next_slot_in}
use Rattle.dpl_scopes.specs.Kept.{same_text, ArePlaces, IsKept}
use Rattle.dpl_scopes.proofs.Sights.{length-add}
use Rattle.dpl_scopes.proofs.Marks.{declaration, read_at, lookup-marks}

turned : (x y : Text) → bytes_eq x y ≡ bytes_eq y x
turned = nat_list_eq_equiv.symm

module _ {S : Type 0} (old new : IndexMap (Bor Text) (Option ℕ) S) (ms : List Mark) (e : Entry) where
  pub ArePlaces-declared : ArePlaces old ms → Updates same_text old new e.declared.origin.name (Some (Some (length ms))) → ArePlaces new (Declares e ∷ ms)
  ArePlaces-declared placed written name =
      let own = e.declared.origin.name in
      ap option_flatten (written.0 name)
      ∙ (rw (turned name.now own.now)
      (elim (bytes_eq own.now name.now) as (λ t. option_flatten (cond t (Some (Some (length ms))) (get same_text old name)) ≡ (if t then Some (length ms) else place ms name.now))
      [ true ↦ refl | false ↦ placed name ]))

  -- the name has again the place of what was hidden
  pub ArePlaces-closed : AreKept (Declares e ∷ ms) → ArePlaces old (Declares e ∷ ms) → Updates same_text old new e.declared.origin.name (Some e.hidden) → ArePlaces new ms
  ArePlaces-closed kept placed written name = ap option_flatten (written.0 name) ∙ by (bytes_eq own.now name.now) refl
    where
      own : Bor Text
      own = e.declared.origin.name

      by : (t : Bool) → bytes_eq own.now name.now ≡ t → option_flatten (cond t (Some e.hidden) (get same_text old name)) ≡ place ms name.now
      by true same = kept.2 ∙ ap (place ms) ((bytes_eq-Decides own.now name.now).0 same)
      by false other =
          placed name
          ∙ ap (λ t. if t then Some (length ms) else place ms name.now) (turned name.now own.now ∙ other)

-- a name that is declared is in the map
pub declared-found : {S : Type 0} (places : IndexMap (Bor Text) (Option ℕ) S) (ms : List Mark) (e : Entry) → ArePlaces places (Declares e ∷ ms)
    → (found : Option (MutBor (Option ℕ))) → option_copied_mut found ≡ get same_text places e.declared.origin.name → ((x : MutBor (Option ℕ)) → found ≡ Some x → ⊥) → ⊥
declared-found places ms e placed None is absent =
    let own = e.declared.origin.name in
    let there : place (Declares e ∷ ms) own.now ≡ Some (length ms) = ap (λ t. if t then Some (length ms) else place ms own.now) (nat_list_eq_equiv.refl own.now) in
    none-some (length ms) (ap option_flatten is ∙ placed own ∙ there)
declared-found places ms e placed (Some x) is absent = absent x refl

-- scopes are kept when a name is declared
pub IsKept-declared : {S : Type 0} (marks : List Mark) (old new : IndexMap (Bor Text) (Option ℕ) S) (depth : ℕ) (e : Entry)
    → IsKept marks old depth → e.declared.origin.depth ≡ depth → e.declared.slot ≡ next_slot_in (scopes_by (reverse marks)) → e.hidden ≡ option_flatten (get same_text old e.declared.origin.name)
    → Updates same_text old new e.declared.origin.name (Some (Some (length marks))) → IsKept (marks ++ Declares e ∷ []) new (max depth 1)
IsKept-declared marks old new depth e was deep slot hides written =
    let ms = reverse marks in
    let own = e.declared.origin.name in
    let pushed : reverse (marks ++ Declares e ∷ []) ≡ Declares e ∷ ms = reverse-append marks (Declares e ∷ []) in
    let written_at = subst (λ n. Updates same_text old new own (Some (Some n))) (sym (length-reverse marks)) written in
    record {
      kept = subst AreKept (sym pushed) (deep ∙ was.deep, slot, hides ∙ was.placed own, was.kept);
      placed = subst (ArePlaces new) (sym pushed) (ArePlaces-declared old new ms e was.placed written_at);
      deep = ap (λ n. max n 1) was.deep ∙ sym (length-add (declared_view e.declared) (scopes_by ms)) ∙ ap (λ l. length (scopes_by l)) (sym pushed);
    }

-- ---- what a look-up answers
module _ {S : Type 0} (marks : List Mark) (places : IndexMap (Bor Text) (Option ℕ) S) (placed : ArePlaces places (reverse marks)) (name : Bor Text) where
  pub lookup-get : (found : Option (Option ℕ)) → found ≡ get same_text places name → lookup (scopes_by (reverse marks)) name.now ≡ read_at declaration marks (option_flatten found)
  lookup-get found is = sym (lookup-marks marks name.now) ∙ ap (read_at declaration marks) (sym (placed name) ∙ ap option_flatten (sym is))

  -- by the mark at its place
  pub lookup-mark : (k : ℕ) (mark : Option Mark) → Some (Some k) ≡ get same_text places name → slice_get marks k ≡ mark → lookup (scopes_by (reverse marks)) name.now ≡ declaration mark
  lookup-mark k mark is at = lookup-get (Some (Some k)) is ∙ ap declaration at

-- Each turn takes one declaration of the scope back.
use Rattle.std.proofs.Common.{◌≡◌, ◌∙◌, ap, sym, subst, [], ◌∷◌, ◌++◌, drop, reverse, is_some}
use Rattle.std.proofs.lemmas.List.{reverse-append}
use Rattle.dpl_scopes.specs.declared.scopes.Mark.TheVariants.{Declares}
use Rattle.dpl_scopes.specs.View.{declared_view}
use Rattle.dpl_scopes.specs.Marks.{scopes_by, AreKept}
use Rattle.dpl_scopes.specs.Kept.{ArePlaces}
use Rattle.dpl_scopes.proofs.Sights.{drop-add}
use Rattle.dpl_scopes.proofs.Places.{ArePlaces-closed, declared-found}
use Rattle.dpl_scopes.proofs.scopes.Scopes.leave.Goals as goal

pub loop-entry-preserved-in-Some : goal.loop-entry-preserved-in-Some
loop-entry-preserved-in-Some c =
    let now = c.loop-entry.self-inside in
    let so_far = c.loop-entry.invariant in
    let left = c.pop.new.self.items in
    let e = c.in-Some-Declares.entry in
    let popped : reverse now.marks.items ≡ Declares e ∷ reverse left =
    ap reverse (c.in-Some-Declares.ensures.items ∙ ap (λ m. left ++ m ∷ []) c.in-Some-Declares.field-0-is) ∙ reverse-append left (Declares e ∷ []) in
    let kept = subst AreKept popped so_far.0 in
    let placed = subst (λ ms. ArePlaces now.places ms) popped so_far.1 in
    let written = (c.get_mut.follows.holds e.hidden).3 (ap is_some (sym c.in-Some.ensures.value)) in (
      kept.3,
      ArePlaces-closed now.places (c.get_mut.follows.lender e.hidden) (reverse left) e kept placed written,
      sym (ap (λ ms. drop 1 (scopes_by ms)) popped ∙ drop-add (declared_view e.declared) (scopes_by (reverse left))) ∙ so_far.2,
      so_far.3,
    )

-- the name would not be in the map, which never is
pub loop-entry-preserved : goal.loop-entry-preserved
loop-entry-preserved c =
    let now = c.loop-entry.self-inside in
    let left = c.pop.new.self.items in
    let e = c.in-Some-Declares.entry in
    let popped : reverse now.marks.items ≡ Declares e ∷ reverse left =
    ap reverse (c.in-Some-Declares.ensures.items ∙ ap (λ m. left ++ m ∷ []) c.in-Some-Declares.field-0-is) ∙ reverse-append left (Declares e ∷ []) in
    let placed = subst (λ ms. ArePlaces now.places ms) popped c.loop-entry.invariant.1 in
    absurd (declared-found now.places (reverse left) e placed c.get_mut.result c.get_mut.ensures.value c.in_default-get_mut.not-Some)

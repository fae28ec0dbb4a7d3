-- A name's place in the map is a mark that declares it, and that is what the scopes find, in its slot.
use Rattle.std.proofs.Common.{◌∙◌, refl, sym, ap, length, None, Some, slice_get, option_map}
use Rattle.std.proofs.lemmas.Option.{slice_get_past, slice_get_read}
use Rattle.dpl_rules.specs.Sights.{lookup}
use Rattle.dpl_scopes.specs.declared.scopes.Mark.TheVariants.{Opens, Declares}
use Rattle.dpl_scopes.specs.View.{declared_view}
use Rattle.dpl_scopes.specs.Slots.{slot_in}
use Rattle.dpl_scopes.proofs.Places.{lookup-get, lookup-mark}
use Rattle.dpl_scopes.proofs.Slots.{slot-get, slot-mark}
use Rattle.dpl_scopes.proofs.scopes.Scopes.lookup.Goals as goal

-- the name was never declared
pub returns-in_err-get-clause-declared : goal.returns-in_err-get-clause-declared
returns-in_err-get-clause-declared c =
    let s = c.self.inside in
    ap (option_map declared_view) c.from_residual.ensures
    ∙ sym (lookup-get s.marks.items s.places c.self.invariant.placed c.args.name None c.in_err-get.ensures.value)
    ∙ ap (λ ss. lookup ss c.args.name.now) c.self.view_is

pub returns-in_err-get-clause-slot : goal.returns-in_err-get-clause-slot
returns-in_err-get-clause-slot c =
    let s = c.self.inside in
    ap (option_map (λ d. d.slot)) c.from_residual.ensures
    ∙ sym (slot-get s.marks.items s.places s.depth c.self.invariant c.args.name None c.in_err-get.ensures.value)
    ∙ ap (λ ss. slot_in ss c.args.name.now) c.self.view_is

-- it is out of sight again
pub returns-in_err-place-clause-declared : goal.returns-in_err-place-clause-declared
returns-in_err-place-clause-declared c =
    let s = c.self.inside in
    ap (option_map declared_view) c.from_residual-in_err-place.ensures
    ∙ sym (lookup-get s.marks.items s.places c.self.invariant.placed c.args.name (Some None) (ap Some (sym c.in_err-place.was) ∙ c.in_ok-get.ensures.value))
    ∙ ap (λ ss. lookup ss c.args.name.now) c.self.view_is

pub returns-in_err-place-clause-slot : goal.returns-in_err-place-clause-slot
returns-in_err-place-clause-slot c =
    let s = c.self.inside in
    ap (option_map (λ d. d.slot)) c.from_residual-in_err-place.ensures
    ∙ sym (slot-get s.marks.items s.places s.depth c.self.invariant c.args.name (Some None) (ap Some (sym c.in_err-place.was) ∙ c.in_ok-get.ensures.value))
    ∙ ap (λ ss. slot_in ss c.args.name.now) c.self.view_is

-- no mark is there, which never is
pub returns-in_err-entry-clause-declared : goal.returns-in_err-entry-clause-declared
returns-in_err-entry-clause-declared c =
    let s = c.self.inside in
    let there = ap Some (sym c.in_ok-place.was) ∙ c.in_ok-get.ensures.value in
    let past = slice_get_past c.deref.result.now c.in_ok-place.place c.in_err-entry.ensures.lookup.3 in
    let mark = ap (λ l. slice_get l c.in_ok-place.place) (sym c.deref.ensures.value) ∙ past in
    ap (option_map declared_view) c.from_residual-in_err-entry.ensures
    ∙ sym (lookup-mark s.marks.items s.places c.self.invariant.placed c.args.name c.in_ok-place.place None there mark)
    ∙ ap (λ ss. lookup ss c.args.name.now) c.self.view_is

pub returns-in_err-entry-clause-slot : goal.returns-in_err-entry-clause-slot
returns-in_err-entry-clause-slot c =
    let s = c.self.inside in
    let there = ap Some (sym c.in_ok-place.was) ∙ c.in_ok-get.ensures.value in
    let past = slice_get_past c.deref.result.now c.in_ok-place.place c.in_err-entry.ensures.lookup.3 in
    let mark = ap (λ l. slice_get l c.in_ok-place.place) (sym c.deref.ensures.value) ∙ past in
    ap (option_map (λ d. d.slot)) c.from_residual-in_err-entry.ensures
    ∙ sym (slot-mark s.marks.items s.places s.depth c.self.invariant c.args.name c.in_ok-place.place None there mark)
    ∙ ap (λ ss. slot_in ss c.args.name.now) c.self.view_is

pub returns-in-Declares-clause-declared : goal.returns-in-Declares-clause-declared
returns-in-Declares-clause-declared c =
    let s = c.self.inside in
    let there = ap Some (sym c.in_ok-place.was) ∙ c.in_ok-get.ensures.value in
    let read = c.in_ok-entry.ensures.lookup in
    let within = slice_get_read c.deref.result.now (length c.deref.result.now) c.in_ok-place.place c.in_ok-entry.field-0.now refl read.3.0 read.1 in
    let mark = ap (λ l. slice_get l c.in_ok-place.place) (sym c.deref.ensures.value) ∙ within ∙ ap Some c.in-Declares.is in
    sym (lookup-mark s.marks.items s.places c.self.invariant.placed c.args.name c.in_ok-place.place (Some (Declares c.in-Declares.entry)) there mark)
    ∙ ap (λ ss. lookup ss c.args.name.now) c.self.view_is

pub returns-in-Declares-clause-slot : goal.returns-in-Declares-clause-slot
returns-in-Declares-clause-slot c =
    let s = c.self.inside in
    let there = ap Some (sym c.in_ok-place.was) ∙ c.in_ok-get.ensures.value in
    let read = c.in_ok-entry.ensures.lookup in
    let within = slice_get_read c.deref.result.now (length c.deref.result.now) c.in_ok-place.place c.in_ok-entry.field-0.now refl read.3.0 read.1 in
    let mark = ap (λ l. slice_get l c.in_ok-place.place) (sym c.deref.ensures.value) ∙ within ∙ ap Some c.in-Declares.is in
    sym (slot-mark s.marks.items s.places s.depth c.self.invariant c.args.name c.in_ok-place.place (Some (Declares c.in-Declares.entry)) there mark)
    ∙ ap (λ ss. slot_in ss c.args.name.now) c.self.view_is

-- a scope that was opened is there, which never is
pub returns-in-Opens-clause-declared : goal.returns-in-Opens-clause-declared
returns-in-Opens-clause-declared c =
    let s = c.self.inside in
    let there = ap Some (sym c.in_ok-place.was) ∙ c.in_ok-get.ensures.value in
    let read = c.in_ok-entry.ensures.lookup in
    let within = slice_get_read c.deref.result.now (length c.deref.result.now) c.in_ok-place.place c.in_ok-entry.field-0.now refl read.3.0 read.1 in
    let mark = ap (λ l. slice_get l c.in_ok-place.place) (sym c.deref.ensures.value) ∙ within ∙ ap Some c.in-Opens.is in
    sym (lookup-mark s.marks.items s.places c.self.invariant.placed c.args.name c.in_ok-place.place (Some Opens) there mark)
    ∙ ap (λ ss. lookup ss c.args.name.now) c.self.view_is

pub returns-in-Opens-clause-slot : goal.returns-in-Opens-clause-slot
returns-in-Opens-clause-slot c =
    let s = c.self.inside in
    let there = ap Some (sym c.in_ok-place.was) ∙ c.in_ok-get.ensures.value in
    let read = c.in_ok-entry.ensures.lookup in
    let within = slice_get_read c.deref.result.now (length c.deref.result.now) c.in_ok-place.place c.in_ok-entry.field-0.now refl read.3.0 read.1 in
    let mark = ap (λ l. slice_get l c.in_ok-place.place) (sym c.deref.ensures.value) ∙ within ∙ ap Some c.in-Opens.is in
    sym (slot-mark s.marks.items s.places s.depth c.self.invariant c.args.name c.in_ok-place.place (Some Opens) there mark)
    ∙ ap (λ ss. slot_in ss c.args.name.now) c.self.view_is

-- There is a mark for each scope and each declaration, but for a scope that a declaration opened.
use Rattle.std.proofs.Common.{◌≡◌, ◌∙◌, ◌+◌, ap, length, max, slice_get, arith}
use Rattle.dpl_scopes.specs.Marks.{unmarked_by}
use Rattle.dpl_scopes.specs.Slots.{next_slot_in}
use Rattle.dpl_scopes.proofs.Slots.{next_slot-marks}
use Rattle.dpl_scopes.proofs.scopes.Scopes.next_slot.Goals as goal

pub returns : goal.returns
returns c =
    let s = c.self.inside in
    let all : c.len.result ≡ length s.marks.items = omega (arith, c.len.ensures, s.marks.ok) in
    c.max.ensures
    ∙ ap (λ n. max (n + c.unmarked.result) 1) all
    ∙ ap (λ n. max (length s.marks.items + n) 1) (c.unmarked.ensures ∙ ap (λ l. unmarked_by (slice_get l 0)) c.deref.ensures.value)
    ∙ next_slot-marks s.marks.items
    ∙ ap next_slot_in c.self.view_is

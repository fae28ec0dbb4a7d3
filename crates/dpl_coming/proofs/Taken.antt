-- Deeds one after another, and what was to come before both.
use Rattle.std.proofs.Common.{◌≡◌, List, [], ◌++◌, Option, Some, None, refl, ap, ◌∙◌, append_assoc, append-nil}
use Rattle.std.proofs.lemmas.List.{map-append}
use Rattle.dpl_history.specs.declared.cell.Reply.{Reply}
use Rattle.dpl_language.specs.Outcome.{Operation, Entered, Deeds, no_deeds}
use Rattle.dpl_memory.specs.Memory.{Coming}
use Rattle.dpl_coming.specs.Taken.{replies_in, histories_in, behind_replies, before, and_then}

pub behind_replies-nothing : (rest : Option (List Reply)) → behind_replies [] rest ≡ rest
behind_replies-nothing None = refl
behind_replies-nothing (Some rs) = refl

pub before-nothing : (rest : Coming) → before no_deeds rest ≡ rest
before-nothing rest = ap (λ r. record { replies = r; histories = rest.histories }) (behind_replies-nothing rest.replies)

behind_replies-both : (a b : List Reply) (rest : Option (List Reply)) → behind_replies (a ++ b) rest ≡ behind_replies a (behind_replies b rest)
behind_replies-both a b None = refl
behind_replies-both a b (Some rs) = ap Some (append_assoc a b rs)

pub before-both : (a b : Deeds) (rest : Coming) → before (and_then a b) rest ≡ before a (before b rest)
before-both a b rest =
    let histories = histories_in (a.entered ++ b.entered) ++ rest.histories in
    let replies = behind_replies (replies_in a.operations) (behind_replies (replies_in b.operations) rest.replies) in
    ap (λ rs. record { replies = behind_replies rs rest.replies; histories = histories }) (map-append (λ (o : Operation). o.reply) a.operations b.operations)
    ∙ ap (λ rs. record { replies = rs; histories = histories }) (behind_replies-both (replies_in a.operations) (replies_in b.operations) rest.replies)
    ∙ ap (λ hs. record { replies = replies; histories = hs ++ rest.histories }) (map-append (λ (e : Entered). e.history) a.entered b.entered)
    ∙ ap (λ hs. record { replies = replies; histories = hs }) (append_assoc (histories_in a.entered) (histories_in b.entered) rest.histories)

pub and_then-nothing : (a : Deeds) → and_then a no_deeds ≡ a
and_then-nothing a =
    ap (λ t. record (and_then a no_deeds) { text = t }) (append-nil a.text)
    ∙ ap (λ os. record (and_then a no_deeds) { text = a.text; operations = os }) (append-nil a.operations)
    ∙ ap (λ es. record a { entered = es; loops = a.loops ++ [] }) (append-nil a.entered)
    ∙ ap (λ ls. record a { loops = ls }) (append-nil a.loops)

pub and_then-assoc : (a b c : Deeds) → and_then (and_then a b) c ≡ and_then a (and_then b c)
and_then-assoc a b c =
    let before = and_then (and_then a b) c in
    let after = and_then a (and_then b c) in
    ap (λ t. record before { text = t }) (append_assoc a.text b.text c.text)
    ∙ ap (λ os. record before { text = after.text; operations = os }) (append_assoc a.operations b.operations c.operations)
    ∙ ap (λ es. record after { entered = es; loops = before.loops }) (append_assoc a.entered b.entered c.entered)
    ∙ ap (λ ls. record after { loops = ls }) (append_assoc a.loops b.loops c.loops)

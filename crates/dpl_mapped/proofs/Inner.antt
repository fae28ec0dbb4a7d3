-- A map, and then the reductions among what its arguments do: the first breach is that of both.
-- Where nothing was told of the reductions, nothing was told of the map.
use Rattle.std.proofs.Common.{◌≡◌, ◌++◌, ℕ, List, length, map, drop, Option, None, sym, ap, ◌∙◌}
use Rattle.dpl_syntax.specs.declared.refusal.Breach.{Breach}
use Rattle.dpl_rules.specs.Breaches.{least_from}
use Rattle.dpl_rules.specs.Deeds.{Deed, inner_reductions}
use Rattle.dpl_types.proofs.Breaches.{least_from_append}
use Rattle.dpl_types.proofs.Unbroken.{unbroken}
use Rattle.dpl_deeds.specs.declared.deed.Deed.{Deed as DeedNode}
use Rattle.dpl_deeds.specs.View.{deed_view, Adds}
use Rattle.dpl_deeds.proofs.Steps.{added_behind}

pub inner-told : (old new told : List DeedNode) (n : ℕ) (ds : List Deed) (bs : List Breach) (o p q : Option Breach) → Adds ds old new → told ≡ drop n new → n ≡ length old
    → p ≡ least_from o bs → q ≡ least_from p (inner_reductions (map deed_view told)) → q ≡ least_from o (bs ++ inner_reductions ds)
inner-told old new told n ds bs o p q added behind count first then =
    then
    ∙ ap (λ l. least_from p (inner_reductions (map deed_view l))) (behind ∙ ap (λ n. drop n new) count)
    ∙ ap (λ ds. least_from p (inner_reductions ds)) (added_behind old new ds added)
    ∙ ap (λ p. least_from p (inner_reductions ds)) first
    ∙ sym (least_from_append o bs (inner_reductions ds))

pub before-inner : (ds : List Deed) (p q : Option Breach) → q ≡ least_from p (inner_reductions ds) → q ≡ None → p ≡ None
before-inner ds p q told none = (unbroken p (inner_reductions ds) (sym told ∙ none)).0

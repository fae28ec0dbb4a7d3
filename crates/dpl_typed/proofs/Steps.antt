-- One step of a walk along the parts of a form: what is left behind it tells the rest.
-- It is stated of the list of parts and a place in it.
use Rattle.std.proofs.Common.{◌≡◌, ℕ, ◌+◌, ◌<◌, Bool, ◌&&◌, List, length, drop, get_or, map, Option, sym, ap, ◌∙◌}
use Rattle.std.proofs.Math.Bool.{and_assoc}
use Rattle.dpl_syntax.specs.declared.refusal.Breach.{Breach}
use Rattle.dpl_syntax.proofs.Walks.{drop-at}
use Rattle.dpl_rules.specs.Types.{ValueType}
use Rattle.dpl_rules.specs.Verdicts.{wanted, each_wanted}
use Rattle.dpl_rules.specs.Breaches.{least_from}
use Rattle.dpl_types.specs.Owes.{are_none, Owes}
use Rattle.dpl_types.proofs.Breaches.{least_from_append, are_none_append}
use Rattle.dpl_typed.specs.declared.part.Part.{Part as PartNode}
use Rattle.dpl_typed.specs.Typed.{part_view}

pub wanted_step : (test : ValueType → Bool) (xs : List PartNode) (k : ℕ) (x : PartNode) → k < length xs → x ≡ get_or xs k x → (h r : Bool) (o p : Option Breach) →
    Owes (wanted test (part_view x)) r o p →
    (((h && r) && are_none (each_wanted test (map part_view (drop (k + 1) xs)))) ≡ (h && are_none (each_wanted test (map part_view (drop k xs)))))
    × (least_from p (each_wanted test (map part_view (drop (k + 1) xs))) ≡ least_from o (each_wanted test (map part_view (drop k xs))))
wanted_step test xs k x within is h r o p (holds, told) =
    let here = wanted test (part_view x) in
    let left = each_wanted test (map part_view (drop (k + 1) xs)) in
    rw (drop-at xs k x within is) (
      and_assoc h r (are_none left) ∙ ap (λ b. h && (b && are_none left)) holds ∙ ap (λ b. h && b) (sym (are_none_append here left)),
      ap (λ q. least_from q left) told ∙ sym (least_from_append o here left),
    )

-- Breaches that are told part by part.
-- Code that tells the breaches of one part and then those of the next has told those of both.
use Rattle.std.proofs.Common.{◌≡◌, ◌&&◌, List, [], ◌∷◌, ◌++◌, Option, refl}
use Rattle.dpl_syntax.specs.declared.refusal.Breach.{Breach}
use Rattle.dpl_rules.specs.Breaches.{lesser, least_from}
use Rattle.dpl_types.specs.Owes.{are_none}

pub least_from_append : (o : Option Breach) (bs cs : List Breach) → least_from o (bs ++ cs) ≡ least_from (least_from o bs) cs
least_from_append o [] cs = refl
least_from_append o (b ∷ bs) cs = least_from_append (lesser o b) bs cs

pub are_none_append : (bs cs : List Breach) → are_none (bs ++ cs) ≡ are_none bs && are_none cs
are_none_append [] cs = refl
are_none_append (b ∷ bs) cs = refl

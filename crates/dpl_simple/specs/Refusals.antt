-- Which entries a gate may refuse of an array's declaration: those of its elements, by the map of the root that the array gets, or of a
-- reduction between its brackets or in its initial value.
use Rattle.std.specs.Prelude.{◌≡◌, ◌⊎◌, ℕ, Bool, true, false, is_none, List, Ok}
use Rattle.dpl_sets.specs.TextRanges.{TextRange}
use Rattle.dpl_map.specs.Maps.{AxisValue}
use Rattle.dpl_language.specs.Values.{Domain}
use Rattle.dpl_language.specs.Outcome.{Deeds, Done}
use Rattle.dpl_language.specs.Environment.{Limits}
use Rattle.dpl_language.specs.Expressions.{domain_of, whole_in}
use Rattle.dpl_language.specs.Statements.{exec}
use Rattle.dpl_lowered.specs.LoweredExpressions.{EachTurn}
use Rattle.dpl_memory.specs.Memory.{Memory, array_at, in_memory}
use Rattle.dpl_nodes.specs.declared.step.DeclaredOver.{DeclaredOver}
use Rattle.dpl_nodes.specs.declared.step.DeclaredOver.TheVariants as over
use Rattle.dpl_nodes.specs.declared.step.Initial.{Initial}
use Rattle.dpl_nodes.specs.declared.step.Initial.TheVariants.{Zeros, Falses, Ints, Truths}
use Rattle.dpl_nodes.specs.declared.step.ArrayDeclaration.{ArrayDeclaration}
use Rattle.dpl_nodes.specs.Typed.{promoted_int, promoted_truth}
use Rattle.dpl_nodes.specs.Steps.{over_items, array_declared}
use Rattle.dpl_language.specs.Roots.{derived_over}
use Rattle.dpl_nodes.specs.Roots.{slot_by}
use Rattle.dpl_frame.specs.Frames.{Framed, owned_by}
use Rattle.dpl_frame.specs.Roots.{map_of_root}
use Rattle.dpl_loop.specs.Entries.{MayRefuse}
use Rattle.dpl_values.specs.Reductions.{EachInRange, EachInRanges, EachInDomain, EachInInts, EachInTruths, MayRefuseReduction}
use Rattle.dpl_simple.specs.Lineages.{slot_root}

-- what is said of slots holds of the array of each reduction between an array's brackets, and in its initial value
abbrev pub EachInOver : DeclaredOver → (ℕ → Type 0) → Type 0
EachInOver (over.Ranges rs) Holds = EachInRanges rs.now Holds
EachInOver (over.Domain d) Holds = EachInDomain d.now Holds
EachInOver (over.HiddenDomain d) Holds = EachInDomain d.now Holds
EachInOver (over.HiddenRange r) Holds = EachInRange r.now Holds

abbrev pub EachInInitial : Initial → (ℕ → Type 0) → Type 0
EachInInitial Zeros Holds = Unit {0}
EachInInitial Falses Holds = Unit {0}
EachInInitial (Ints at e) Holds = EachInInts e.now Holds
EachInInitial (Truths at e) Holds = EachInTruths e.now Holds

-- of the elements that an array begins with, over a domain and by a map
abbrev pub MayRefuseElements : (ℕ → ℕ → Type 0) → Framed → List AxisValue → List TextRange → ((ℕ → Type 0) → Type 0) → Type 0
MayRefuseElements may f map rs each = MayRefuse may map rs ⊎ MayRefuseReduction may f each

-- of an array's declaration; and by which map, of an array over a domain
abbrev pub array_map : Framed → ArrayDeclaration → List TextRange → List AxisValue
array_map f d rs = map_of_root f.layout (slot_root (slot_by (derived_over (over_items d.over))) rs f.memory)

abbrev pub MayRefuseOwned : (ℕ → ℕ → Type 0) → Framed → ArrayDeclaration → List TextRange → Type 0
MayRefuseOwned may f d rs = MayRefuseElements may f (array_map f d rs) rs (EachInInitial d.initial)

abbrev pub MayRefuseArray : (ℕ → ℕ → Type 0) → Framed → ArrayDeclaration → Type 0
MayRefuseArray may f d =
    ((rs : List TextRange) × (domain_of f.limits in_memory d.from.now (over_items d.over) f.memory ≡ Ok (Domain rs)) × MayRefuseOwned may f d rs)
    ⊎ MayRefuseReduction may f (EachInOver d.over)

-- whether an initial value is evaluated once, and so fills the array
abbrev pub fills : Limits → Initial → Memory → Bool
fills limits Zeros s = false
fills limits Falses s = false
fills limits (Ints at e) s = is_none (whole_in limits in_memory (promoted_int EachTurn e.now) s)
fills limits (Truths at e) s = is_none (whole_in limits in_memory (promoted_truth EachTurn e.now) s)

-- of an array that was filled: over its domain and by the map of its root, as the declaration has left them
abbrev pub MayRefuseFilled : (ℕ → ℕ → Type 0) → Framed → ArrayDeclaration → Type 0
MayRefuseFilled may f d =
    (fills f.limits d.initial f.memory ≡ true)
    × (g : Framed) × (g.layout ≡ f.layout) × ((done : Deeds) → exec f.limits in_memory (array_declared d) f.memory done ≡ Done g.memory done)
    × MayRefuse may (owned_by g d.slot) (array_at d.slot g.memory).ranges

abbrev pub MayRefuseDeclared : (ℕ → ℕ → Type 0) → Framed → ArrayDeclaration → Type 0
MayRefuseDeclared may f d = MayRefuseArray may f d ⊎ MayRefuseFilled may f d

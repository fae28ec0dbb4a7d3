-- Loops that a text spells, that need nothing which doesn't run and that break no rule run over ranges and have one variable, or
-- over domains and have one or as many as the rank.
use Rattle.std.proofs.Common.{◌≡◌, ◌≢◌, Bool, true, List, [], ◌∷◌, ◌++◌, map, length, Some, refl, ap, ◌∙◌, subst}
use Rattle.std.specs.Prelude.{◌==◌}
use Rattle.dpl_language.specs.Tree.{Placed, AfterComma, ItemTree, VariablesTree, OneVariable, ManyVariables, LoopWord}
use Rattle.dpl_language.specs.Names.{Text}
use Rattle.dpl_spelling.specs.Spelt.{ItemSpelt}
use Rattle.dpl_agreement.specs.Untasked.{UntaskedItem}
use Rattle.dpl_rules.specs.Types.{ValueType, Range}
use Rattle.dpl_rules.specs.Sights.{Scopes, enter}
use Rattle.dpl_rules.specs.Loops.{fits_variables, header_of, over_type, over_breaches, header_breaches, each_once, variables_of}
use Rattle.dpl_rules.proofs.Admission.{first_empty, second_empty}
use Rattle.dpl_memory.specs.Memory.{VariableKind}
use Rattle.dpl_typed.specs.Leaves.{value_kind, kind_by}
use Rattle.dpl_nodes.specs.Spots.{IsNear}
use Rattle.dpl_runnable.specs.Kinds.{AreVariables}
use Rattle.dpl_runnable.specs.Runnable.{IsOneVariable, RunsOver, IsRunnableHeader}
use Rattle.dpl_runnable.specs.Written.{HasSeveral}
use Rattle.dpl_runnable.proofs.Kept.{kind-cases}
use Rattle.dpl_runnable.proofs.Expressions.{two_or_more}
use Rattle.dpl_runnable.proofs.Scopes.{IsTurned, header-turned, runs_over-nothing, over-type, runnable_over}

-- ranges give one value a turn
one-variable : (xs : VariablesTree Text) (strided : Bool) → HasSeveral xs → fits_variables xs (Range strided) ≡ true → IsOneVariable xs
one-variable (OneVariable x) strided several h = tt
one-variable (ManyVariables from xs upto) strided several h = by xs.others several h
  where
    by : (others : List (AfterComma (Placed Text))) → others ≢ [] → (length (xs.first ∷ map {A = AfterComma (Placed Text)} {B = Placed Text} (λ x. x.part) others) == 1) ≡ true → ⊥
    by [] several h = several refl
    by (y ∷ ys) several h =
        let no = two_or_more (length (map {A = AfterComma (Placed Text)} {B = Placed Text} (λ x. x.part) ys)) in
        absurd cc

header-runs : (word : LoopWord) (xs : VariablesTree Text) → HasSeveral xs → (t : ValueType) (k : VariableKind) → value_kind t ≡ Some k → IsTurned word xs t → RunsOver xs t
header-runs word xs several =
    kind-cases (λ t. IsTurned word xs t → RunsOver xs t) (λ l h. absurd (runs_over-nothing word h.runs)) (λ s h. one-variable xs s several h.fits) (λ rank s r h. h.fits)
    (λ l over r h. absurd (runs_over-nothing word h.runs)) (λ l over r h. absurd (runs_over-nothing word h.runs)) (λ rank r h. absurd (runs_over-nothing word h.runs))

pub runnable_header : (scopes : Scopes) → AreVariables scopes → (word : LoopWord) (xs : VariablesTree Text) (item : ItemTree Text) → HasSeveral xs → ItemSpelt IsNear ⊥ item → UntaskedItem item
    → header_breaches scopes word xs item ≡ [] → IsRunnableHeader scopes xs item
runnable_header scopes names word xs item several s c h =
    let over = over_breaches scopes item in
    let head = header_of word xs item (over_type scopes item) in
    let front = first_empty (over ++ head) (each_once (enter scopes) (variables_of xs)) h in
    let value = runnable_over scopes IsNear names item s c (first_empty over head front) in
    let p = value.variable in
    let told = subst (λ o. header_of word xs item o ≡ []) (over-type scopes IsNear names item c ∙ p.is) (second_empty over head front) in
    record {
      kind = p.kind;
      over = record { found = value.found; kind = ap kind_by p.is ∙ p.of_kind; near = s };
      type = p.type;
      is = p.is;
      runs = header-runs word xs several p.type p.kind p.of_kind (header-turned word xs item p.type told);
      once = second_empty (over ++ head) (each_once (enter scopes) (variables_of xs)) h;
    }

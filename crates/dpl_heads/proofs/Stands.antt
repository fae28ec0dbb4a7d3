-- The variables of a loop, as they are run, fit what it goes over: over a range there is one, an int.
use Rattle.std.proofs.Common.{◌≡◌, Option, Some, None, ap, ◌∙◌}
use Rattle.std.proofs.lemmas.Option.{none-some}
use Rattle.dpl_language.specs.Tree.{VariablesTree, OneVariable, ManyVariables}
use Rattle.dpl_language.specs.Names.{Text}
use Rattle.dpl_rules.specs.Types.{ValueType}
use Rattle.dpl_rules.specs.Sights.{Scopes}
use Rattle.dpl_sound.proofs.Given.{some-same}
use Rattle.dpl_words.specs.Words.{IntLeaf}
use Rattle.dpl_memory.specs.Memory.{VariableKind, PlainKind, TupleKind, Variable}
use Rattle.dpl_nodes.specs.declared.step.Names.{Names}
use Rattle.dpl_nodes.specs.declared.step.Names.TheVariants as names
use Rattle.dpl_nodes.specs.Steps.{names_view}
use Rattle.dpl_heads.specs.declared.head.Iterable.{Iterable}
use Rattle.dpl_heads.specs.declared.head.Iterable.TheVariants as iterable
use Rattle.dpl_heads.specs.Made.{IsOneInt, IsIntOver, variables_leaves, FitsNames}

abbrev one_kind : VariablesTree Variable → Option VariableKind
one_kind (OneVariable x) = Some x.name.kind
one_kind (ManyVariables from xs upto) = None

pub names-fit : (xs : VariablesTree Text) (t : Option ValueType) (o : Iterable) (n : Names) (rs : Scopes) → IsIntOver xs t o → names_view n ≡ variables_leaves t rs xs → FitsNames o n
names-fit xs t (iterable.Domain d) n rs h e = tt
names-fit xs t iterable.Nothing n rs h e = h
names-fit xs t (iterable.Range r) n rs h e = by n (ap one_kind e ∙ one xs h)
  where
    one : (ys : VariablesTree Text) → IsOneInt ys t → one_kind (variables_leaves t rs ys) ≡ Some (PlainKind IntLeaf)
    one (OneVariable x) int = ap (λ (t : Option ValueType). one_kind (variables_leaves t rs (OneVariable x))) int
    one (ManyVariables from ys upto) int = absurd int

    by : (n : Names) → one_kind (names_view n) ≡ Some (PlainKind IntLeaf) → FitsNames (iterable.Range r) n
    by (names.Int slot) e = tt
    by (names.Tuple slot) e = absurd (let f : TupleKind ≡ PlainKind IntLeaf = some-same TupleKind (PlainKind IntLeaf) e in cc)
    by (names.Each first others) e = absurd (none-some (PlainKind IntLeaf) e)

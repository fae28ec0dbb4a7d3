-- What a lowering knows of variables is so in each memory.
-- So a lowered tree means what the tree means.
use Rattle.std.proofs.Common.{ℕ, refl}
use Rattle.dpl_lowered.specs.Known.{IsAsKnown, IsKnown}
use Rattle.dpl_words.specs.Words.{IntLeaf, TruthLeaf, RangeLeaf, LocaleLeaf}
use Rattle.dpl_memory.specs.Memory.{VariableKind, PlainKind, DomainKind, TupleKind, ArrayKind, CellKind, Memory, known_kind, known_variable, array_at, value_in, in_memory}

value_in-known : (k : VariableKind) (slot : ℕ) (s : Memory) → IsAsKnown (known_kind k) (value_in k slot s)
value_in-known (PlainKind IntLeaf) slot s = (refl, refl)
value_in-known (PlainKind TruthLeaf) slot s = (refl, refl)
value_in-known (PlainKind RangeLeaf) slot s = (refl, refl)
value_in-known (PlainKind LocaleLeaf) slot s = (refl, refl)
value_in-known DomainKind slot s = refl
value_in-known TupleKind slot s = (refl, refl)
value_in-known (ArrayKind k) slot s = ((array_at slot s).ranges, refl)
value_in-known (CellKind k) slot s = (refl, refl)

pub memory-known : IsKnown known_variable in_memory
memory-known x s = value_in-known x.kind x.slot s

-- Where a walk over a range's integers stands after some steps. Private functions of the crate speak of it.
use Rattle.std.specs.Prelude.{ℕ, ℤ, pos, negsuc, ◌+ℤ◌, ◌-ℤ◌}
use Rattle.dpl_sets.specs.Ranges.{RangeValue}

-- the integer that lies `offset` past the lowest, or, where the stride goes down, before the highest
abbrev pub walked : ℤ → ℤ → ℤ → ℕ → ℤ
walked low high (pos _) offset = low +ℤ pos offset
walked low high (negsuc _) offset = high -ℤ pos offset

-- the one of two bounds at which a walk between them begins
abbrev pub nearer : ℤ → ℤ → ℤ → ℤ
nearer (pos _) low high = low
nearer (negsuc _) low high = high

-- the range that begins where a walk of r is after `offset`, ends at the bound `far` and goes the way of r
abbrev pub begun : RangeValue → ℕ → ℤ → ℤ → RangeValue
begun r offset far stride = record {
  low = nearer r.stride (walked r.low r.high r.stride offset) far;
  high = nearer r.stride far (walked r.low r.high r.stride offset);
  stride = stride;
}

-- how far the first integer of a walk lies past c in the direction of the walk
abbrev pub ahead : ℤ → ℤ → ℤ → ℤ → ℤ
ahead low high (pos _) c = low -ℤ c
ahead low high (negsuc _) c = c -ℤ high

-- two strides go the same way
abbrev pub SameWay : ℤ → ℤ → Type 0
SameWay (pos _) (pos _) = Unit {0}
SameWay (pos _) (negsuc _) = ⊥
SameWay (negsuc _) (pos _) = ⊥
SameWay (negsuc _) (negsuc _) = Unit {0}

-- What holds of an axis, and the fields of one that has a given value.
use Rattle.std.specs.Prelude.{◌≡◌, ℕ, pos, ◌≤ℤ◌, refl}
use Rattle.dpl_sets.specs.Ranges.{IsBound}
use Rattle.dpl_map.specs.Grids.{IsGridSize}
use Rattle.dpl_map.specs.Maps.{RuleValue, Block, Cyclic, BlockCyclic, AxisValue}
use Rattle.dpl_map.specs.declared.axis.Rule.{Rule}
use Rattle.dpl_map.specs.declared.axis.Rule.TheVariants.{Block as KeptBlock, Cyclic as KeptCyclic, BlockCyclic as KeptBlockCyclic}
use Rattle.dpl_map.specs.declared.axis.Axis.TheInside.{Inside}

abbrev pub rule_of : Rule → RuleValue
rule_of (KeptBlock low high) = Block low high
rule_of (KeptCyclic start) = Cyclic start
rule_of (KeptBlockCyclic start size) = BlockCyclic start size

abbrev pub kept_rule : RuleValue → Rule
kept_rule (Block low high) = KeptBlock low high
kept_rule (Cyclic start) = KeptCyclic start
kept_rule (BlockCyclic start size) = KeptBlockCyclic start size

abbrev pub axis_of : Inside → AxisValue
axis_of a = record { rule = rule_of a.rule; extent = a.extent }

abbrev pub kept_axis : AxisValue → Inside
kept_axis a = record { rule = kept_rule a.rule; extent = a.extent }

-- the numbers of a rule are within the limits, and a box isn't empty
abbrev pub IsRule : RuleValue → Type 0
IsRule (Block low high) = IsBound low × IsBound high × (low ≤ℤ high)
IsRule (Cyclic start) = IsBound start
IsRule (BlockCyclic start size) = IsBound start × (pos 1 ≤ℤ size)

pub record IsAxis (axis : AxisValue) : Type 0 where
  pub extent : IsGridSize axis.extent
  pub rule : IsRule axis.rule

pub kept_axis-axis_of : (a : Inside) → IsAxis (axis_of a) → kept_axis (axis_of a) ≡ a
kept_axis-axis_of a limits = go a.rule a.extent
  where
    go : (rule : Rule) (extent : ℕ) → kept_axis (axis_of (record { rule = rule; extent = extent })) ≡ record { rule = rule; extent = extent }
    go (KeptBlock low high) extent = refl
    go (KeptCyclic start) extent = refl
    go (KeptBlockCyclic start size) extent = refl

-- What a frame stands for: the memory of its slots, the numbers that a turn may ask for, and how locales are laid out.
-- The memory is all that a meaning sees of it, beside the numbers.
use Rattle.std.specs.Prelude.{ℕ, Option, Some, None, List, [], get_or}
use Rattle.dpl_map.specs.Maps.{AxisValue}
use Rattle.dpl_layout.specs.Layouts.{LayoutValue}
use Rattle.dpl_memory.specs.Resolved.{first_memory}
use Rattle.dpl_language.specs.Distributions.{no_root}
use Rattle.dpl_language.specs.Environment.{Limits}
use Rattle.dpl_words.specs.Words.{Words}
use Rattle.dpl_memory.specs.Memory.{Held, Memory, no_array}
use Rattle.dpl_frame.specs.Roots.{map_of_root}

pub record Framed : Type 0 where
  pub memory : Memory
  pub limits : Limits
  -- how locales are laid out, and which maps roots get
  pub layout : LayoutValue

-- so many slots, which hold nothing yet, and nothing is set
abbrev pub first_frame : ℕ → Limits → LayoutValue → Framed
first_frame slots limits layout = record {
  memory = first_memory (record { slots = slots; cells = 0; texts = []; words = []; histories = None });
  limits = limits;
  layout = layout;
}

-- the same frame with another memory, and with other words
abbrev pub with_memory : Memory → Framed → Framed
with_memory m f = record f { memory = m }

abbrev pub with_words : Words → Framed → Framed
with_words w f = with_memory (record f.memory { words = w }) f

-- the map of the domain or array in a slot: that of its root
abbrev pub owned_by : Framed → ℕ → List AxisValue
owned_by f slot = map_of_root f.layout (get_or f.memory.roots slot no_root)

-- the array in a slot, which may have none
abbrev pub held_in : Option Held → Held
held_in None = no_array
held_in (Some a) = a

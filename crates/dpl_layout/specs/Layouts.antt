-- Layouts: how a run's locales are laid out for domains of one, two and three dimensions, and which maps roots get.
-- A root is a declared domain or array with a map of its own.
use Rattle.std.specs.Prelude.{ℕ, zero, suc, List, [], ◌∷◌}
use Rattle.dpl_layout.specs.declared.maps.Maps.{Maps}
use Rattle.dpl_layout.specs.declared.maps.Maps.TheVariants.{AsIs}

-- a layout: the grids for domains of one, two and three dimensions, and which maps roots get
pub record LayoutValue : Type 0 where
  pub line : List ℕ
  pub plane : List ℕ
  pub space : List ℕ
  pub maps : Maps

-- The grid for domains of so many dimensions: for one the locales in a line, for two and for three the grid that is set
-- for them. A domain has no other number of dimensions.
abbrev pub grid_of : LayoutValue → ℕ → List ℕ
grid_of l (suc zero) = l.line
grid_of l (suc (suc zero)) = l.plane
grid_of l (suc (suc (suc zero))) = l.space
grid_of l _ = []

-- everything on one locale, and maps as the text names them
abbrev pub single_layout : LayoutValue
single_layout = record { line = 1 ∷ []; plane = 1 ∷ 1 ∷ []; space = 1 ∷ 1 ∷ 1 ∷ []; maps = AsIs }

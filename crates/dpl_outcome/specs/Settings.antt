-- What contracts see of a run's settings, and which numbers are settings.
use Rattle.std.specs.Prelude.{◌≡◌, ℕ, ◌≤◌, ◌^◌, List, [], ◌∷◌, ◌*◌, slice_index}
use Rattle.dpl_language.specs.Environment.{Limits}
use Rattle.dpl_layout.specs.declared.maps.Maps.{Maps}
use Rattle.dpl_layout.specs.Layouts.{LayoutValue}

pub record Settings : Type 0 where
  pub locales : ℕ
  pub budget : ℕ
  pub tries : ℕ
  pub grid2 : List ℕ
  pub grid3 : List ℕ
  pub maps : Maps

-- from 1 to 64 locales
abbrev pub AreLocales : ℕ → Type 0
AreLocales n = (1 ≤ n) × (n ≤ 64)

-- a budget, or a number of tries, is from 1 to 2^32
abbrev pub IsCount : ℕ → Type 0
IsCount n = (1 ≤ n) × (n ≤ 2 ^ 32)

-- the extents of a grid multiply to the number of locales
abbrev pub IsGrid2 : ℕ → List ℕ → Type 0
IsGrid2 locales grid = slice_index grid 0 * slice_index grid 1 ≡ locales

abbrev pub IsGrid3 : ℕ → List ℕ → Type 0
IsGrid3 locales grid = slice_index grid 0 * slice_index grid 1 * slice_index grid 2 ≡ locales

-- there are locales, and each grid has all of them
pub record IsLaidOut (locales : ℕ) (grid2 grid3 : List ℕ) : Type 0 where
  pub few : AreLocales locales
  pub plane : IsGrid2 locales grid2
  pub space : IsGrid3 locales grid3

-- how they lay locales out: in a row for domains of one dimension, and by the grids for those of two and three
abbrev pub layout_of : Settings → LayoutValue
layout_of s = record { line = s.locales ∷ []; plane = s.grid2; space = s.grid3; maps = s.maps }

-- what a program's meaning knows of them
abbrev pub limits_of : Settings → Limits
limits_of s = record { budget = s.budget; locales = s.locales }

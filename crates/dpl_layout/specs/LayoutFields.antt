-- What holds of the grids that a layout keeps.
use Rattle.std.specs.Prelude.{◌≡◌, length}
use Rattle.dpl_layout.specs.Layouts.{LayoutValue}

pub record IsLayout (l : LayoutValue) : Type 0 where
  pub line : length l.line ≡ 1
  pub plane : length l.plane ≡ 2
  pub space : length l.space ≡ 3

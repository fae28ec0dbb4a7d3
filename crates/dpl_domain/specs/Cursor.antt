-- What a cursor has still to give, and what holds of it.
use Rattle.std.specs.Prelude.{◌≡◌, ◌<◌, ◌≤◌, List, ◌++◌, ℤ, pos, All}
use Rattle.dpl_domain.specs.declared.walk.Track.{Track}
use Rattle.dpl_domain.specs.declared.walk.Cursor.TheInside.{Inside}
use Rattle.dpl_domain.specs.Progression.{progression, line_of, plane_of, space_of}

abbrev pub terms_of : Track → List ℤ
terms_of t = progression t.next t.step t.left

-- the rest of the line, then the other lines of the plane, then the other planes
abbrev pub rest_of : Inside → List (List ℤ)
rest_of c =
    line_of c.rank c.outer_at c.middle_at (terms_of c.inner)
    ++ plane_of c.rank c.outer_at (terms_of c.middle) (terms_of c.line)
    ++ space_of c.rank (terms_of c.outer) (terms_of c.lines) (terms_of c.line)

-- The coordinates that the indices do not have are 0, and a line or a plane that is to come is not empty.
pub record IsCursor (c : Inside) : Type 0 where
  pub from_one : 1 ≤ c.rank
  pub to_three : c.rank ≤ 3
  pub outer_unused : c.rank < 3 → c.outer_at ≡ pos 0
  pub outer_terms : c.rank < 3 → All (λ x. x ≡ pos 0) (terms_of c.outer)
  pub middle_unused : c.rank < 2 → c.middle_at ≡ pos 0
  pub middle_terms : c.rank < 2 → All (λ y. y ≡ pos 0) (terms_of c.middle)
  pub lines_terms : c.rank < 2 → All (λ y. y ≡ pos 0) (terms_of c.lines)
  pub lines_come : 0 < c.outer.left → 0 < c.lines.left
  pub line_comes : 0 < c.outer.left → 0 < c.line.left
  pub line_of_plane : 0 < c.middle.left → 0 < c.line.left

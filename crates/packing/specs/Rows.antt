-- Where both rectangles of a row lie.
use Rattle.std.specs.Prelude.{◌+◌, ◌≤◌, ℕ}
use Rattle.geometry.specs.declared.place.Sides.{Sides}
use Rattle.sheet.specs.declared.row.Row.{Row}
use Rattle.sheet.specs.Serving.{Sided}

-- A row with a turn that there is, sides, and both of its rectangles inside pictures of these sides.
pub record LiesIn (projected packed : Sides ℕ) (r : Row) : Type 0 where
  pub turn : r.turn ≤ 7
  pub sided : Sided r
  pub right : r.projected.left + r.projected.width ≤ projected.width
  pub bottom : r.projected.top + r.projected.height ≤ projected.height
  pub body_right : r.body.left + r.body.width ≤ packed.width
  pub body_bottom : r.body.top + r.body.height ≤ packed.height

-- A body holds a packed place exactly where the sheet's law of bodies says so.
use Rattle.std.proofs.Common.{◌≡◌, ℕ, ◌+◌, ◌-◌, ◌<◌, ◌≤◌, true, List, Some, arith}
use Rattle.std.specs.List.{slice_get}
use Rattle.std.proofs.lemmas.Bool.{and_parts, and_from}
use Rattle.geometry.specs.declared.place.Place.{Place}
use Rattle.geometry.specs.declared.place.Sides.{Sides}
use Rattle.geometry.specs.Boxes.{lies}
use Rattle.geometry.specs.Places.{inside}
use Rattle.geometry.proofs.Insides.{inside_from}
use Rattle.geometry.proofs.Jumping.{lies_in, in_lies}
use Rattle.sheet.specs.declared.row.Row.{Row}
use Rattle.sheet.specs.Words.{InBody}
use Rattle.packing.specs.Carries.{counted, spans}
use Rattle.packing.specs.Moves.{body_corner, holds}

-- a place in a rectangle, by its four bounds
pub record Among (corner : Place) (sides : Sides ℕ) (p : Place) : Type 0 where
  pub left : corner.x ≤ p.x
  pub right : p.x < corner.x + sides.width
  pub top : corner.y ≤ p.y
  pub bottom : p.y < corner.y + sides.height

pub among : (corner : Place) (sides : Sides ℕ) (p : Place) → spans corner sides p ≡ true → Among corner sides p
among corner sides p h =
    let (x, y) = and_parts (lies corner.x (corner.x + sides.width) p.x) (lies corner.y (corner.y + sides.height) p.y) h in
    let (a, b) = lies_in corner.x (corner.x + sides.width) p.x x in
    let (c, d) = lies_in corner.y (corner.y + sides.height) p.y y in
    record { left = a; right = b; top = c; bottom = d }

pub spanned : (corner : Place) (sides : Sides ℕ) (p : Place) → Among corner sides p → spans corner sides p ≡ true
spanned corner sides p i =
    and_from (lies corner.x (corner.x + sides.width) p.x) (lies corner.y (corner.y + sides.height) p.y)
    (in_lies corner.x (corner.x + sides.width) p.x i.left i.right)
    (in_lies corner.y (corner.y + sides.height) p.y i.top i.bottom)

-- counted from the corner it lies inside the sides
pub counted_inside : (corner : Place) (sides : Sides ℕ) (p : Place) → spans corner sides p ≡ true → inside sides (counted corner p) ≡ true
counted_inside corner sides p h =
    let i : Among corner sides p = among corner sides p h in
    inside_from sides (counted corner p) (omega (arith, i.left, i.right)) (omega (arith, i.top, i.bottom))

pub in_body : (rows : List Row) (n : ℕ) (r : Row) (y x : ℕ) → slice_get rows n ≡ Some r → r.body.left ≤ x →
    x < r.body.left + r.body.width → r.body.top ≤ y → y < r.body.top + r.body.height → InBody rows n y x
in_body rows n r y x here left right top bottom =
    record {
      row = r;
      numbered = here;
      within =
          and_from _ _ (in_lies (r.body.top - 0) (r.body.top + r.body.height + 0) y (omega arith) (omega arith))
          (in_lies (r.body.left - 0) (r.body.left + r.body.width + 0) x (omega arith) (omega arith));
    }

pub held_in : (rows : List Row) (n : ℕ) (r : Row) (p : Place) → slice_get rows n ≡ Some r → holds r p ≡ true → InBody rows n p.y p.x
held_in rows n r p here h =
    let i = among (body_corner r) _ p h in
    in_body rows n r p.y p.x here i.left i.right i.top i.bottom

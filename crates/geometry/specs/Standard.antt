-- The standard's formula for a position, and that ours gives the same.
use Rattle.std.specs.Prelude.{◌≡◌, ℕ, ◌+◌, ◌-◌, ◌*◌, ◌/◌, ◌<◌, true}
use Rattle.geometry.specs.declared.place.Place.{Place}
use Rattle.geometry.specs.declared.place.Rectangle.{Rectangle}
use Rattle.geometry.specs.declared.place.Sides.{Sides}
use Rattle.geometry.specs.declared.position.Fraction.{Fraction}
use Rattle.geometry.specs.declared.turn.Turn.{Turn}
use Rattle.geometry.specs.Centre.{centre}
use Rattle.geometry.specs.Places.{inside, at, by}
use Rattle.geometry.specs.Positions.{position}
use Rattle.geometry.specs.Turns.{turn_of, field, forwards}

-- twice the distance of a sample's middle from the near edge, and from the far edge of a side
abbrev near : ℕ → ℕ
near x = 2 * x + 1

abbrev far : ℕ → ℕ → ℕ
far side x = 2 * side - 2 * x - 1

-- A fraction f is the edge plus the ratio q to side, times half of a doubled distance. No division: both sides are
-- multiplied by f's denominator and by twice the side.
abbrev pub Ratio : Fraction → ℕ → ℕ → ℕ → ℕ → Type 0
Ratio f edge q side distance = f.numerator * (2 * side) ≡ (edge * (2 * side) + q * distance) * f.denominator

-- what the standard says of one code: the side and the distance across, then the side and the distance down
pub record Formula (r : Rectangle ℕ) (code w h x y side distance side' distance' : ℕ) : Type 0 where
  pub across : Ratio (position r (turn_of code) (by w h) (at x y)).across r.left r.width side distance
  pub down : Ratio (position r (turn_of code) (by w h) (at x y)).down r.top r.height side' distance'

-- The standard's formula, code by code.
pub record Standard (r : Rectangle ℕ) (w h x y : ℕ) : Type 0 where
  pub code_0 : Formula r 0 w h x y w (near x) h (near y)
  pub code_1 : Formula r 1 w h x y w (far w x) h (near y)
  pub code_2 : Formula r 2 w h x y w (far w x) h (far h y)
  pub code_3 : Formula r 3 w h x y w (near x) h (far h y)
  pub code_4 : Formula r 4 w h x y h (near y) w (near x)
  pub code_5 : Formula r 5 w h x y h (near y) w (far w x)
  pub code_6 : Formula r 6 w h x y h (far h y) w (far w x)
  pub code_7 : Formula r 7 w h x y h (far h y) w (near x)

-- The whole parts of a position: the rectangle's edge and the centre of the turned place.
pub record Whole (r : Rectangle ℕ) (t : Turn) (body : Sides ℕ) (p : Place) : Type 0 where
  pub across : (position r t body p).across.numerator / (position r t body p).across.denominator ≡ r.left + centre r.width (field t body).width (forwards t body p).x
  pub down : (position r t body p).down.numerator / (position r t body p).down.denominator ≡ r.top + centre r.height (field t body).height (forwards t body p).y

-- The laws of the positions.
pub record PositionLaws : Type 0 where
  pub standard : (r : Rectangle ℕ) (w h x y : ℕ) → x < w → y < h → Standard r w h x y
  pub whole : (r : Rectangle ℕ) (t : Turn) (body : Sides ℕ) (p : Place) → inside body p ≡ true → Whole r t body p

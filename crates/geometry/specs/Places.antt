-- Places inside sides.
use Rattle.std.specs.Prelude.{ℕ, Bool, ◌&&◌, ◌||◌, ◌==◌, nat_lt}
use Rattle.geometry.specs.declared.place.Place.{Place}
use Rattle.geometry.specs.declared.place.Sides.{Sides}
use Rattle.geometry.specs.declared.place.Rectangle.{Rectangle}

-- the place (x, y)
abbrev pub at : ℕ → ℕ → Place
at x y = record { x = x; y = y }

-- sides of w by h
abbrev pub by : ℕ → ℕ → Sides ℕ
by w h = record { width = w; height = h }

-- a place counted from the corner lies inside
abbrev pub inside : Sides ℕ → Place → Bool
inside sides p = nat_lt p.x sides.width && nat_lt p.y sides.height

-- a side is 0
abbrev pub is_empty : Sides ℕ → Bool
is_empty sides = (sides.width == 0) || sides.height == 0

-- a rectangle's sides
abbrev pub sides_of : Rectangle ℕ → Sides ℕ
sides_of body = by body.width body.height

-- What a layout owes, and what a view owes.
use Rattle.std.specs.Prelude.{◌≡◌, ℕ, ◌+◌, ◌<◌, ◌≤◌, ◌^◌, Bool, true, Some}
use Rattle.geometry.specs.declared.place.Place.{Place}
use Rattle.geometry.specs.declared.place.Sides.{Sides}
use Rattle.geometry.specs.Places.{at, inside}
use Rattle.picture.specs.Runs.{Layout, Pieces}
use Rattle.picture.specs.Views.{View, Shift}

-- sides that a run takes are short, and each place inside has a spot within the run
pub record Fits (layout : Layout) (sides : Sides ℕ) (n : ℕ) : Type 0 where
  pub across : sides.width ≤ 65535
  pub down : sides.height ≤ 65535
  pub room : (q : Place) → inside sides q ≡ true → layout.spot sides.width q < n

-- a layout is lawful if the sides that it takes fit
abbrev pub Lawful : Layout → Type 0
Lawful layout = (sides : Sides ℕ) (n : ℕ) → layout.takes sides n ≡ true → Fits layout sides n

-- which spots are shown and as which place; so places inside have spots apart
pub record Inverse {X : Type 0} (sides : Sides ℕ) (spot : Place → X) : Type 0 where
  pub has : X → Bool
  pub back : X → Place
  pub there : (k : X) → has k ≡ true → (inside sides (back k) ≡ true) × (spot (back k) ≡ k)
  pub again : (q : Place) → inside sides q ≡ true → (has (spot q) ≡ true) × (back (spot q) ≡ q)

-- each place of a picture no wider than the layout's width has a spot of its own
abbrev pub Reversible : Layout → Type 0
Reversible layout = (w : ℕ) (sides : Sides ℕ) → sides.width ≤ w → Inverse sides (layout.spot w)

-- the spots of n places of a line follow each other
abbrev pub Together : (Place → ℕ) → Place → ℕ → Type 0
Together spot place n = (k : ℕ) → k < n → spot (at (place.x + k) place.y) ≡ spot place + k

-- from each place on that many places of its line lie together, and that is at least one
abbrev pub InPieces : Layout → Pieces → Type 0
InPieces layout pieces = (w : ℕ) (q : Place) → (0 < pieces q) × Together (layout.spot w) q (pieces q)

-- each place that a view shows lies inside the picture below
abbrev pub Inner : View → Type 0
Inner view = (s : Sides ℕ) (q : Place) → inside (view.sides s) q ≡ true → inside s (view.spot s q) ≡ true

-- each place shown has a place below of its own
abbrev pub Backed : View → Type 0
Backed view = (s : Sides ℕ) → Inverse (view.sides s) (view.spot s)

-- sides that fit 32 bits are shown as sides that do
abbrev pub Narrow : View → Type 0
Narrow view =
    (s : Sides ℕ) → s.width < 2 ^ 32 → s.height < 2 ^ 32 → ((view.sides s).width < 2 ^ 32) × ((view.sides s).height < 2 ^ 32)

-- a view with a shift moves each place by that
abbrev pub Shifts : View → Shift → Type 0
Shifts view shift = (c : Place) → shift ≡ Some c → (s : Sides ℕ) (q : Place) → view.spot s q ≡ at (c.x + q.x) (c.y + q.y)

-- A rectangle of one picture carried onto a rectangle of another.
use Rattle.std.specs.Prelude.{◌≡◌, ℕ, ◌+◌, ◌-◌, ◌≤◌, Bool, cond, ◌&&◌}
use Rattle.std.specs.Bool.{then_some}
use Rattle.geometry.specs.declared.place.Place.{Place}
use Rattle.geometry.specs.declared.place.Sides.{Sides}
use Rattle.geometry.specs.Boxes.{lies}
use Rattle.geometry.specs.Centre.{centre}
use Rattle.geometry.specs.Places.{at, by}
use Rattle.geometry.specs.Turns.{mirror}
use Rattle.picture.specs.Draws.{Sources}
use Rattle.packing.specs.declared.course.Course.{Course}
use Rattle.packing.specs.declared.carry.Carry.{Carry}

-- the place along the other side that place i along a side comes from: the whole part is taken between the two mirrors
abbrev pub step : Course → ℕ → ℕ
step c i = mirror c.after c.side (centre c.side c.parts (mirror c.before c.parts i))

-- along a side of the body, from a side of the projected rectangle: mirrored first, then the whole part
abbrev pub inwards : ℕ → ℕ → Bool → ℕ → ℕ
inwards parts side far i = centre side parts (mirror far parts i)

-- along a side of the projected rectangle, from a side of the body: the whole part first, then mirrored
abbrev pub outwards : ℕ → ℕ → Bool → ℕ → ℕ
outwards parts side far i = mirror far side (centre side parts i)

-- A course along a side of n places from one of m, where place i comes from place f i.
pub record Leads (c : Course) (n m : ℕ) (f : ℕ → ℕ) : Type 0 where
  pub parts : c.parts ≡ n
  pub side : c.side ≡ m
  pub steps : (i : ℕ) → step c i ≡ f i

-- the place that a place of the rectangle written comes from
abbrev pub source : Carry → Place → Place
source c p =
    let k : ℕ = step c.across p.x in
    let m : ℕ = step c.down p.y in
    cond c.crossed (at (c.from.x + m) (c.from.y + k)) (at (c.from.x + k) (c.from.y + m))

-- a place of the picture, counted from a corner
abbrev pub counted : Place → Place → Place
counted corner p = at (p.x - corner.x) (p.y - corner.y)

-- a rectangle with this corner and these sides has the place
abbrev pub spans : Place → Sides ℕ → Place → Bool
spans corner sides p =
    lies corner.x (corner.x + sides.width) p.x && lies corner.y (corner.y + sides.height) p.y

-- the sides of the rectangle written
abbrev pub written : Carry → Sides ℕ
written c = by c.across.parts c.down.parts

-- the sides of the rectangle read
abbrev pub taken_from : Carry → Sides ℕ
taken_from c = cond c.crossed (by c.down.side c.across.side) (by c.across.side c.down.side)

-- each place of the rectangle written takes the sample that it comes from
abbrev pub carried : Carry → Sources
carried c p = then_some (spans c.to (written c) p) (source c (counted c.to p))

-- Both rectangles lie inside pictures of these sides.
pub record CarryFits (c : Carry) (from to : Sides ℕ) : Type 0 where
  pub from_right : c.from.x + (taken_from c).width ≤ from.width
  pub from_bottom : c.from.y + (taken_from c).height ≤ from.height
  pub to_right : c.to.x + c.across.parts ≤ to.width
  pub to_bottom : c.to.y + c.down.parts ≤ to.height

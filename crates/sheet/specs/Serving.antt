-- Positions, centre samples, covering and serving.
use Rattle.std.specs.Prelude.{◌≡◌, ℕ, ◌+◌, ◌-◌, ◌<◌, ◌≤◌, Bool, true, if◌then◌else◌, ◌&&◌, List, [], ◌∷◌, Some, None, Ok, Err, Option, Result}
use Rattle.std.specs.List.{slice_get}
use Rattle.refusal.specs.declared.Refusal.{Refusal}
use Rattle.refusal.specs.declared.Refusal.TheVariants.{NoSuchRow, PlaceOutside, NotCovered}
use Rattle.geometry.specs.declared.place.PackedPlace.{PackedPlace}
use Rattle.geometry.specs.declared.place.Place.{Place}
use Rattle.geometry.specs.declared.place.ProjectedPlace.{ProjectedPlace}
use Rattle.geometry.specs.declared.place.Sides.{Sides}
use Rattle.geometry.specs.declared.position.Position.{Position}
use Rattle.geometry.specs.declared.turn.Turn.{Turn}
use Rattle.geometry.specs.Boxes.{lies}
use Rattle.geometry.specs.Centre.{centre}
use Rattle.geometry.specs.Places.{inside, at, sides_of}
use Rattle.geometry.specs.Positions.{located}
use Rattle.geometry.specs.Turns.{turn_of, field, forwards, backwards}
use Rattle.sheet.specs.declared.row.Row.{Row}
use Rattle.sheet.specs.declared.served.Served.{Served}
use Rattle.sheet.specs.Rules.{Content}

-- a row's turn
abbrev pub turn_in : Row → Turn
turn_in r = turn_of r.turn

-- the sides of the field that a row's turn makes of its body: a across and d down
abbrev pub field_of : Row → Sides ℕ
field_of r = field (turn_in r) (sides_of r.body)

-- the position of a place of a row's body
abbrev pub located_in : Option Row → PackedPlace → Result Position Refusal
located_in None p = Err NoSuchRow
located_in (Some r) p = located r.projected (turn_in r) r.body p

abbrev pub position_answer : Content → ℕ → PackedPlace → Result Position Refusal
position_answer c n p = located_in (slice_get c.rows n) p

-- the centre sample of a place of a row's body, in the projected picture
abbrev pub centre_sample : Row → Place → Place
centre_sample r b =
    let k : Place = forwards (turn_in r) (sides_of r.body) b in
    at (r.projected.left + centre r.projected.width (field_of r).width k.x)
    (r.projected.top + centre r.projected.height (field_of r).height k.y)

-- a row covers the projected places in its projected rectangle
abbrev pub covers_place : Row → Place → Bool
covers_place r p =
    lies r.projected.left (r.projected.left + r.projected.width) p.x
    && lies r.projected.top (r.projected.top + r.projected.height) p.y

-- the body's place that a projected place in a row's rectangle is served from
abbrev pub served_place : Row → Place → Place
served_place r p =
    backwards (turn_in r) (sides_of r.body)
    (at (centre (field_of r).width r.projected.width (p.x - r.projected.left))
    (centre (field_of r).height r.projected.height (p.y - r.projected.top)))

-- the first of these rows, numbered from n, that covers the place serves it
abbrev pub serving : ℕ → List Row → Place → Result Served Refusal
serving n [] p = Err NotCovered
serving n (r ∷ rows) p =
    if covers_place r p then Ok (record { row = n; place = record { 0 = served_place r p } }) else serving (n + 1) rows p

abbrev pub serve_answer : Content → ProjectedPlace → Result Served Refusal
serve_answer c p = if inside c.sides.projected p.0 then serving 0 c.rows p.0 else Err PlaceOutside

-- A row is fine: its field has at least as many columns and lines as its projected rectangle.
pub record Fine (r : Row) : Type 0 where
  pub across : r.projected.width ≤ (field_of r).width
  pub down : r.projected.height ≤ (field_of r).height

-- A row is coarse: its field has at most as many.
pub record Coarse (r : Row) : Type 0 where
  pub across : (field_of r).width ≤ r.projected.width
  pub down : (field_of r).height ≤ r.projected.height

-- A row with sides of at least 1, whatever sheet it is on.
pub record Sided (r : Row) : Type 0 where
  pub across : 0 < r.projected.width
  pub down : 0 < r.projected.height
  pub wide : 0 < r.body.width
  pub high : 0 < r.body.height

-- The laws of serving: centre samples lie in the rectangle and served places in the body, and where a row is fine or
-- coarse, one undoes the other.
pub record ServingLaws : Type 0 where
  pub centred : (r : Row) (b : Place) → Sided r → inside (sides_of r.body) b ≡ true → covers_place r (centre_sample r b) ≡ true
  pub served : (r : Row) (p : Place) → Sided r → covers_place r p ≡ true → inside (sides_of r.body) (served_place r p) ≡ true
  pub fine : (r : Row) (p : Place) → Sided r → Fine r → covers_place r p ≡ true → centre_sample r (served_place r p) ≡ p
  pub coarse : (r : Row) (b : Place) → Sided r → Coarse r → inside (sides_of r.body) b ≡ true → served_place r (centre_sample r b) ≡ b

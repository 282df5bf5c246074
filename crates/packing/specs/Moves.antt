-- Where packed and projected places take their samples from, and what pack and unpack answer and leave.
use Rattle.std.specs.Prelude.{◌≡◌, ℕ, ◌+◌, Bool, cond, ◌&&◌, List, [], ◌∷◌, Some, None, Ok, Err, Option, Result, ◌==◌}
use Rattle.std.specs.Option.{option_map}
use Rattle.refusal.specs.declared.Refusal.{Refusal}
use Rattle.refusal.specs.declared.Refusal.TheVariants.{UnfitSides}
use Rattle.geometry.specs.declared.place.Place.{Place}
use Rattle.geometry.specs.Places.{at, sides_of}
use Rattle.picture.specs.Picture.{Picture}
use Rattle.picture.specs.Draws.{Sources, taken, drawn}
use Rattle.sheet.specs.declared.row.Row.{Row}
use Rattle.sheet.specs.Rules.{Content}
use Rattle.sheet.specs.Serving.{centre_sample, covers_place, served_place}
use Rattle.packing.specs.Carries.{counted, spans}

-- the corner of a row's body in the packed picture
abbrev pub body_corner : Row → Place
body_corner r = at r.body.left r.body.top

-- a row's body holds the packed place
abbrev pub holds : Row → Place → Bool
holds r p = spans (body_corner r) (sides_of r.body) p

-- the centre sample, in the projected picture, of a packed place that the row's body holds
abbrev pub centre_of : Row → Place → Place
centre_of r p = centre_sample r (counted (body_corner r) p)

-- the place of the row's body, in the packed picture, that serves a projected place that the row covers
abbrev pub server_of : Row → Place → Place
server_of r p = at (r.body.left + (served_place r p).x) (r.body.top + (served_place r p).y)

-- the lowest-numbered row that passes
abbrev pub lowest : (Row → Bool) → List Row → Option Row
lowest passes [] = None
lowest passes (r ∷ rows) = cond (passes r) (Some r) (lowest passes rows)

-- each place that a row has takes the sample at the origin that the row gives it; the lowest-numbered row decides
abbrev pub pulled : (Row → Place → Bool) → (Row → Place → Place) → List Row → Sources
pulled has origin rows p = option_map (λ r. origin r p) (lowest (λ r. has r p) rows)

-- a packed place takes the centre sample of the row whose body holds it
abbrev pub pack_source : List Row → Sources
pack_source rows = pulled holds centre_of rows

-- a projected place takes the body place that serves it, of the lowest-numbered row that covers it
abbrev pub unpack_source : List Row → Sources
unpack_source rows = pulled covers_place server_of rows

-- a picture has these sides
abbrev pub has_sides : {A : Type 0} → Picture A → ℕ → ℕ → Bool
has_sides p w h = p.sides.width == w && p.sides.height == h

-- a picture has the sides of the sheet's projected picture
abbrev pub is_projected : {A : Type 0} → Content → Picture A → Bool
is_projected c p = has_sides p c.sides.projected.width c.sides.projected.height

-- a picture has the sides of the sheet's packed picture
abbrev pub is_packed : {A : Type 0} → Content → Picture A → Bool
is_packed c p = has_sides p c.sides.packed.width c.sides.packed.height

-- a projected and a packed picture have the sheet's sides
abbrev pub fit : {A : Type 0} → Content → Picture A → Picture A → Bool
fit c projected packed = is_projected c projected && is_packed c packed

-- granted where the sides fit, else 21
abbrev pub fitted : Bool → Result Unit Refusal
fitted fits = cond fits (Ok tt) (Err UnfitSides)

-- Pack: each body place takes the sample at its centre sample; all other samples stay.
abbrev pub packed_of : {A : Type 0} → Content → Picture A → Picture A → Picture A
packed_of c from to = drawn (pack_source c.rows) from to

-- Unpack: each covered place takes the sample of the body place that serves it; all other samples stay.
abbrev pub unpacked_of : {A : Type 0} → Content → Picture A → Picture A → Picture A
unpacked_of c from to = drawn (unpack_source c.rows) from to

-- what pack gives a packed place: None where it writes nothing
abbrev pub given : {A : Type 0} → Content → Picture A → Place → Option A
given c from p = taken from (pack_source c.rows p) None

-- What a call of pack answers, and the packed picture that it leaves.
pub record Packs {A : Type 0} (c : Content) (answered : Result Unit Refusal) (from to left : Picture A) : Type 0 where
  pub answer : answered ≡ fitted (fit c from to)
  pub after : left ≡ cond (fit c from to) (packed_of c from to) to

-- What a call of unpack answers, and the projected picture that it leaves.
pub record Unpacks {A : Type 0} (c : Content) (answered : Result Unit Refusal) (from to left : Picture A) : Type 0 where
  pub answer : answered ≡ fitted (fit c to from)
  pub after : left ≡ cond (fit c to from) (unpacked_of c from to) to

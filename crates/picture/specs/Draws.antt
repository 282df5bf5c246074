-- What a picture is after some of its places took samples of another.
use Rattle.std.specs.Prelude.{Some, None, Option}
use Rattle.geometry.specs.declared.place.Place.{Place}
use Rattle.picture.specs.Picture.{Picture}

-- for each place, the place that it takes its sample from, if it takes one
abbrev pub Sources : Type 0
Sources = Place → Option Place

-- the sample taken from p, or the old one
abbrev pub taken : {A : Type 0} → Picture A → Option Place → Option A → Option A
taken p None old = old
taken p (Some place) old = p.at place

-- q after each place with a source took the sample of p there; the others stay
abbrev pub drawn : {A : Type 0} → Sources → Picture A → Picture A → Picture A
drawn sources p q = record { sides = q.sides; at = λ place. taken p (sources place) (q.at place) }

-- Places along a line or a column of a picture, and samples one after another.
use Rattle.std.specs.Prelude.{◌≡◌, ℕ, ◌+◌, ◌-◌, ◌<◌, Bool, true, cond, ◌&&◌, List, length, is_some, Option, ◌==◌, slice_index}
use Rattle.std.specs.List.{slice_get}
use Rattle.geometry.specs.declared.place.Place.{Place}
use Rattle.geometry.specs.declared.place.Sides.{Sides}
use Rattle.geometry.specs.Boxes.{lies}
use Rattle.geometry.specs.Places.{at, inside}
use Rattle.picture.specs.declared.track.Track.{Track}
use Rattle.picture.specs.Picture.{Picture}

-- each of the first n samples is there
abbrev pub Full : {A : Type 0} → ℕ → (ℕ → Option A) → Type 0
Full n held = (i : ℕ) → i < n → is_some (held i) ≡ true

-- a run begins with the first n samples
abbrev pub Given : {A : Type 0} → ℕ → (ℕ → Option A) → List A → Type 0
Given n held run = (i : ℕ) → i < n → slice_get run i ≡ held i

-- the place k steps on along a track
abbrev pub along : Track → ℕ → Place
along t k = cond t.down (at t.start.x (t.start.y + k)) (at (t.start.x + k) t.start.y)

-- the place of step i
abbrev pub stepped : Track → List ℕ → ℕ → Place
stepped t steps i = along t (slice_index steps i)

-- what a picture has at the place of step i
abbrev pub picked : {A : Type 0} → Picture A → Track → List ℕ → ℕ → Option A
picked p t steps i = p.at (stepped t steps i)

-- the place of each step lies inside
abbrev pub StepsInside : Sides ℕ → Track → List ℕ → Type 0
StepsInside sides t steps = (i : ℕ) → i < length steps → inside sides (stepped t steps i) ≡ true

-- whether q is one of the n places of a line from a place on
abbrev pub on_stretch : Place → ℕ → Place → Bool
on_stretch place n q = q.y == place.y && lies place.x (place.x + n) q.x

-- the picture in which the n places of a line from a place on show what f has
abbrev pub lined : {A : Type 0} → Picture A → Place → ℕ → (ℕ → Option A) → Picture A
lined p place n f = record { sides = p.sides; at = λ q. cond (on_stretch place n q) (f (q.x - place.x)) (p.at q) }

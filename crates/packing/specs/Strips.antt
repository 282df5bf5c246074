-- A rectangle carried by strips of a few columns, each of them line after line.
use Rattle.std.specs.Prelude.{◌≡◌, ℕ, ◌+◌, ◌<◌, cond, List, length, slice_index}
use Rattle.std.specs.Bool.{then_some}
use Rattle.geometry.specs.Places.{at, by}
use Rattle.picture.specs.declared.track.Track.{Track}
use Rattle.picture.specs.Draws.{Sources}
use Rattle.packing.specs.declared.carry.Carry.{Carry}
use Rattle.packing.specs.declared.course.Course.{Course}
use Rattle.packing.specs.Carries.{step, source, counted, spans}

-- a table has the steps of the places from `start` on
abbrev pub StepsFrom : Course → ℕ → List ℕ → Type 0
StepsFrom c start steps = (i : ℕ) → i < length steps → slice_index steps i ≡ step c (start + i)

-- the line or the column that line j comes from
abbrev pub track_of : Carry → ℕ → Track
track_of c j =
    let m : ℕ = step c.down j in
    record { start = cond c.crossed (at (c.from.x + m) c.from.y) (at c.from.x (c.from.y + m)); down = c.crossed }

-- the first m lines of the n columns from `start` on take the samples that they come from
abbrev pub strip : Carry → ℕ → ℕ → ℕ → Sources
strip c start n m p = then_some (spans (at (c.to.x + start) c.to.y) (by n m) p) (source c (counted c.to p))

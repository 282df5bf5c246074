-- What a layer shows of the picture below it.
use Rattle.std.specs.Prelude.{ℕ, ◌+◌, ◌-◌, min, cond, Some, None, Option, Ok, Err, Result, nat_lt}
use Rattle.refusal.specs.declared.Refusal.{Refusal}
use Rattle.refusal.specs.declared.Refusal.TheVariants.{PlaceOutside, TurnCode}
use Rattle.geometry.specs.declared.place.Place.{Place}
use Rattle.geometry.specs.declared.place.Rectangle.{Rectangle}
use Rattle.geometry.specs.declared.place.Sides.{Sides}
use Rattle.geometry.specs.declared.turn.Turn.{Turn}
use Rattle.geometry.specs.Places.{at, by, inside}
use Rattle.geometry.specs.Turns.{field, backwards, turn_of}
use Rattle.picture.specs.Picture.{Picture, shown_by}

-- the sides shown of sides below, and the place below that a place shows
pub record View : Type 0 where
  pub sides : Sides ℕ → Sides ℕ
  pub spot : Sides ℕ → Place → Place

-- the picture that a view shows
abbrev pub viewed : {A : Type 0} → View → Picture A → Picture A
viewed view p = shown_by (view.sides p.sides) (view.spot p.sides) p.at

-- the place below that a place shows, if it shows one
abbrev pub seen : View → Sides ℕ → Place → Result Place Refusal
seen view s q = cond (inside (view.sides s) q) (Ok (view.spot s q)) (Err PlaceOutside)

-- how much of a stretch lies inside a side
abbrev pub part : ℕ → ℕ → ℕ → ℕ
part from long side = min long (side - from)

-- what of a frame lies inside
abbrev pub window_view : Rectangle ℕ → View
window_view f =
    record {
      sides = λ s. by (part f.left f.width s.width) (part f.top f.height s.height);
      spot = λ s q. at (f.left + q.x) (f.top + q.y);
    }

-- how far from the corner the place below lies that shows as the corner, if all places lie as far apart
abbrev pub Shift : Type 0
Shift = Option Place

-- a frame moves each place by its own corner
abbrev pub window_shift : Rectangle ℕ → Shift
window_shift f = Some (at f.left f.top)

-- a whole picture, turned
abbrev pub turn_view : Turn → View
turn_view t = record { sides = field t; spot = backwards t }

-- a turn does not move all places by as much
abbrev pub turn_shift : Turn → Shift
turn_shift t = None

-- the turn after a call that sets its code
abbrev pub recoded : Turn → ℕ → Turn
recoded old code = cond (nat_lt code 8) (turn_of code) old

-- what that call answers
abbrev pub coding : ℕ → Result (Unit {0}) Refusal
coding code = cond (nat_lt code 8) (Ok tt) (Err TurnCode)

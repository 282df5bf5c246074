-- The position of a body's place in the projected picture, and the standard's formula beside it.
use Rattle.std.specs.Prelude.{List, ◌∷◌, ◌++◌, decimal, ℕ, ◌+◌, ◌*◌, ◌/◌, cond, Some, None, Ok, Err, Option, Result, ◌==◌}
use Rattle.refusal.specs.declared.Refusal.{Refusal}
use Rattle.refusal.specs.declared.Refusal.TheVariants.{PlaceOutside}
use Rattle.geometry.specs.declared.place.PackedPlace.{PackedPlace}
use Rattle.geometry.specs.declared.place.Place.{Place}
use Rattle.geometry.specs.declared.place.Rectangle.{Rectangle}
use Rattle.geometry.specs.declared.place.Sides.{Sides}
use Rattle.geometry.specs.declared.position.Fraction.{Fraction}
use Rattle.geometry.specs.declared.position.Position.{Position}
use Rattle.geometry.specs.declared.turn.Turn.{Turn}
use Rattle.geometry.specs.Places.{inside, sides_of}
use Rattle.geometry.specs.Turns.{field, forwards}

-- a numerator over a denominator, as they are
abbrev pub over : ℕ → ℕ → Fraction
over n d = record { numerator = n; denominator = d }

-- the whole part, where there is one
abbrev pub whole_part : Fraction → Option ℕ
whole_part f = cond (f.denominator == 0) None (Some (f.numerator / f.denominator))

-- a fraction as 12/4, byte by byte; 47 stands for the stroke
abbrev pub fraction_text : Fraction → List ℕ
fraction_text f = decimal f.numerator ++ 47 ∷ decimal f.denominator

-- the middle of cell k of a, over q samples that begin at an edge
abbrev pub coordinate : ℕ → ℕ → ℕ → ℕ → Fraction
coordinate edge q a k = over (2 * a * edge + (2 * k + 1) * q) (2 * a)

-- the position of a place of the body
abbrev pub position : Rectangle ℕ → Turn → Sides ℕ → Place → Position
position r t body p =
    record {
      across = coordinate r.left r.width (field t body).width (forwards t body p).x;
      down = coordinate r.top r.height (field t body).height (forwards t body p).y;
    }

-- what asking for a position answers
abbrev pub located : Rectangle ℕ → Turn → Rectangle ℕ → PackedPlace → Result Position Refusal
located r t body p = cond (inside (sides_of body) p.0) (Ok (position r t (sides_of body) p.0)) (Err PlaceOutside)

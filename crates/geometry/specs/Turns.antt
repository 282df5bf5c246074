-- The eight turns: mirrored left to right, flipped upside down, then rows and columns exchanged.
use Rattle.std.specs.Prelude.{ℕ, ◌+◌, ◌-◌, Bool, true, false, cond, List, [], ◌∷◌, Ok, Err, Result, nat_lt, slice_index_or}
use Rattle.refusal.specs.declared.Refusal.{Refusal}
use Rattle.refusal.specs.declared.Refusal.TheVariants.{TurnCode, PlaceOutside}
use Rattle.geometry.specs.declared.place.Place.{Place}
use Rattle.geometry.specs.declared.place.Sides.{Sides}
use Rattle.geometry.specs.declared.turn.Turn.{Turn}
use Rattle.geometry.specs.Places.{inside, at, by}

-- the turn of these three motions
abbrev pub turn : Bool → Bool → Bool → Turn
turn x y e = record { mirrored = x; flipped = y; transposed = e }

-- the turns in the order of their codes
abbrev pub turns : List Turn
turns =
    turn false false false ∷ turn true false false ∷ turn true true false ∷ turn false true false ∷
    turn false false true ∷ turn true false true ∷ turn true true true ∷ turn false true true ∷ []

-- the turn of a code below 8
abbrev pub turn_of : ℕ → Turn
turn_of code = slice_index_or turns code (turn false false false)

-- the turn of any code
abbrev pub from_code : ℕ → Result Turn Refusal
from_code code = cond (nat_lt code 8) (Ok (turn_of code)) (Err TurnCode)

-- the code of a turn
abbrev pub code_of : Turn → ℕ
code_of t = cond t.transposed 4 0 + cond t.flipped (cond t.mirrored 2 3) (cond t.mirrored 1 0)

-- counted from the other end, if so
abbrev pub mirror : Bool → ℕ → ℕ → ℕ
mirror b n x = cond b (n - 1 - x) x

-- the sides of the field
abbrev pub field : Turn → Sides ℕ → Sides ℕ
field t body = cond t.transposed (by body.height body.width) body

-- the field's place of a body's place
abbrev pub forwards : Turn → Sides ℕ → Place → Place
forwards t body p =
    let x : ℕ = mirror t.mirrored body.width p.x in
    let y : ℕ = mirror t.flipped body.height p.y in
    cond t.transposed (at y x) (at x y)

-- the body's place of a field's place
abbrev pub backwards : Turn → Sides ℕ → Place → Place
backwards t body p =
    at (mirror t.mirrored body.width (cond t.transposed p.y p.x))
    (mirror t.flipped body.height (cond t.transposed p.x p.y))

-- what turning a place answers
abbrev pub turned : Turn → Sides ℕ → Place → Result Place Refusal
turned t body p = cond (inside body p) (Ok (forwards t body p)) (Err PlaceOutside)

-- what turning it back answers
abbrev pub unturned : Turn → Sides ℕ → Place → Result Place Refusal
unturned t body p = cond (inside (field t body) p) (Ok (backwards t body p)) (Err PlaceOutside)

-- What holds of every turn, every body and every place.
use Rattle.std.specs.Prelude.{◌≡◌, ℕ, ◌-◌, ◌<◌, true}
use Rattle.geometry.specs.declared.place.Place.{Place}
use Rattle.geometry.specs.declared.place.Sides.{Sides}
use Rattle.geometry.specs.declared.turn.Turn.{Turn}
use Rattle.geometry.specs.Places.{inside, at, by}
use Rattle.geometry.specs.Turns.{turn_of, code_of, field, forwards, backwards}

-- one line of the table of codes: what becomes of the place (x, y) of a body of w by h
pub record Line (code w h x y k m a d : ℕ) : Type 0 where
  pub place : forwards (turn_of code) (by w h) (at x y) ≡ at k m
  pub sides : field (turn_of code) (by w h) ≡ by a d

-- The table of the eight codes: k and m, then a and d.
pub record Table (w h x y : ℕ) : Type 0 where
  pub line_0 : Line 0 w h x y x y w h
  pub line_1 : Line 1 w h x y (w - 1 - x) y w h
  pub line_2 : Line 2 w h x y (w - 1 - x) (h - 1 - y) w h
  pub line_3 : Line 3 w h x y x (h - 1 - y) w h
  pub line_4 : Line 4 w h x y y x h w
  pub line_5 : Line 5 w h x y y (w - 1 - x) h w
  pub line_6 : Line 6 w h x y (h - 1 - y) (w - 1 - x) h w
  pub line_7 : Line 7 w h x y (h - 1 - y) x h w

-- a place turned lies in the field, and turned back is where it was
pub record There (t : Turn) (body : Sides ℕ) (p : Place) : Type 0 where
  pub within : inside (field t body) (forwards t body p) ≡ true
  pub back : backwards t body (forwards t body p) ≡ p

-- a place turned back lies in the body, and turned again is where it was
pub record Back (t : Turn) (body : Sides ℕ) (p : Place) : Type 0 where
  pub within : inside body (backwards t body p) ≡ true
  pub again : forwards t body (backwards t body p) ≡ p

-- The laws of the turns.
pub record TurnLaws : Type 0 where
  pub table : (w h x y : ℕ) → Table w h x y
  pub decoded : (code : ℕ) → code < 8 → code_of (turn_of code) ≡ code
  pub encoded : (t : Turn) → (code_of t < 8) × (turn_of (code_of t) ≡ t)
  pub there : (t : Turn) (body : Sides ℕ) (p : Place) → inside body p ≡ true → There t body p
  pub back : (t : Turn) (body : Sides ℕ) (p : Place) → inside (field t body) p ≡ true → Back t body p

-- The test of a place inside, by its two bounds.
use Rattle.std.specs.Prelude.{ℕ}
use Rattle.std.proofs.Common.{◌≡◌, ◌<◌, true, ltb}
use Rattle.std.proofs.lemmas.Bool.{and_parts, and_from, ltb-true, lt-ltb}
use Rattle.geometry.specs.declared.place.Place.{Place}
use Rattle.geometry.specs.declared.place.Sides.{Sides}
use Rattle.geometry.specs.Places.{inside}

pub record Within (sides : Sides ℕ) (p : Place) : Type 0 where
  pub across : p.x < sides.width
  pub down : p.y < sides.height

pub within : (sides : Sides ℕ) (p : Place) → inside sides p ≡ true → Within sides p
within sides p h =
    let (a, d) = and_parts (ltb p.x sides.width) (ltb p.y sides.height) h in
    record { across = ltb-true p.x sides.width a; down = ltb-true p.y sides.height d }

pub inside_from : (sides : Sides ℕ) (p : Place) → p.x < sides.width → p.y < sides.height → inside sides p ≡ true
inside_from sides p a d =
    and_from (ltb p.x sides.width) (ltb p.y sides.height) (lt-ltb p.x sides.width a) (lt-ltb p.y sides.height d)

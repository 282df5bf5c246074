-- What a picture store means: its sides, and one sample at each place inside them.
use Rattle.std.specs.Prelude.{◌≡◌, ◌^◌, ◌<◌, Bool, cond, ◌&&◌, is_some, None, Ok, Err, Option, Result, ◌==◌, ℕ}
use Rattle.std.specs.Option.{option_map, ok_or}
use Rattle.refusal.specs.declared.Refusal.{Refusal}
use Rattle.refusal.specs.declared.Refusal.TheVariants.{PlaceOutside}
use Rattle.geometry.specs.declared.place.Place.{Place}
use Rattle.geometry.specs.declared.place.Sides.{Sides}
use Rattle.geometry.specs.Places.{inside}

-- sides, and what stands at each place: None outside
pub record Picture (A : Type 0) : Type 0 where
  pub sides : Sides ℕ
  pub at : Place → Option A

-- sides of 32 bits, and a sample at each place inside and at no other
pub record Sound {A : Type 0} (p : Picture A) : Type 0 where
  pub across : p.sides.width < 2 ^ 32
  pub down : p.sides.height < 2 ^ 32
  pub full : (place : Place) → is_some (p.at place) ≡ inside p.sides place

-- whether two places are one
abbrev pub same_place : Place → Place → Bool
same_place a b = a.x == b.x && a.y == b.y

-- the picture with the sample at one place replaced; the same picture if that place is outside
abbrev pub painted : {A : Type 0} → Picture A → Place → A → Picture A
painted p place v =
    record { sides = p.sides; at = λ q. cond (same_place q place) (option_map (λ _. v) (p.at q)) (p.at q) }

-- what a read answers
abbrev pub reading : {A : Type 0} → Picture A → Place → Result A Refusal
reading p place = ok_or (p.at place) PlaceOutside

-- what a put answers
abbrev pub putting : {A : Type 0} → Picture A → Place → Result (Unit {0}) Refusal
putting p place = cond (inside p.sides place) (Ok tt) (Err PlaceOutside)

-- the picture of these sides that shows at each place what a source has at that place's spot
abbrev pub shown_by : {A X : Type 0} → Sides ℕ → (Place → X) → (X → Option A) → Picture A
shown_by sides spot source = record { sides = sides; at = λ q. cond (inside sides q) (source (spot q)) None }

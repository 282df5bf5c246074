-- What a store keeps beside the picture that it shows.
use Rattle.std.specs.Prelude.{◌≡◌, true, List, length, Option, ◌≢◌, ℕ}
use Rattle.std.specs.List.{slice_get}
use Rattle.geometry.specs.declared.place.Place.{Place}
use Rattle.geometry.specs.declared.place.Sides.{Sides}
use Rattle.geometry.specs.Places.{inside}
use Rattle.picture.specs.Picture.{Picture}
use Rattle.picture.specs.Runs.{Layout, fitting}
use Rattle.picture.specs.Views.{View}

-- a relation that holds of no change, and of two changes if it holds of each
pub record Keeps {S : Type 0} (kept : S → S → Type 0) : Type 0 where
  pub same : (s : S) → kept s s
  pub chain : (s t u : S) → kept s t → kept t u → kept s u

-- two sources agree at each spot that no place inside has
abbrev pub UnshownSame : {A X : Type 0} → Sides ℕ → (Place → X) → (X → Option A) → (X → Option A) → Type 0
UnshownSame {A} {X} sides spot from to = (k : X) → ((q : Place) → inside sides q ≡ true → spot q ≢ k) → to k ≡ from k

-- the same sides and length, and the same samples where the picture keeps none
pub record KeptRun {A : Type 0} (layout : Layout) (sides : Sides ℕ) (run : List A) (sides' : Sides ℕ) (run' : List A) : Type 0 where
  pub same_sides : sides' ≡ sides
  pub same_length : length run' ≡ length run
  pub rest : UnshownSame (fitting layout sides (length run)) (layout.spot sides.width) (slice_get run) (slice_get run')

-- the same sides below, and the same samples where the view shows none
pub record KeptBelow {A : Type 0} (view : View) (p q : Picture A) : Type 0 where
  pub same_sides : q.sides ≡ p.sides
  pub rest : UnshownSame (view.sides p.sides) (view.spot p.sides) p.at q.at

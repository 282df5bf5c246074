-- The first free spot in reading order.
use Rattle.std.specs.Prelude.{◌≡◌, ℕ, ◌<◌, Bool, true, cond, not, ◌⊎◌, List, Some, None, Option, ◌≢◌, nat_lt}
use Rattle.geometry.specs.declared.bounds.Bounds.{Bounds}
use Rattle.geometry.specs.declared.search.Spot.{Spot}
use Rattle.geometry.specs.Boxes.{covers}
use Rattle.geometry.specs.Least.{least}

-- the spot at this top and left
abbrev pub spot : ℕ → ℕ → Spot
spot top left = record { top = top; left = left }

-- the leftmost free left at a top, or the number of lefts where there is none
abbrev pub first_left : (ℕ → ℕ → Bool) → ℕ → ℕ → ℕ
first_left free lefts top = least lefts (λ left. free top left)

-- the highest top with a free spot, or the number of tops where there is none
abbrev pub first_top : (ℕ → ℕ → Bool) → ℕ → ℕ → ℕ
first_top free tops lefts = least tops (λ top. nat_lt (first_left free lefts top) lefts)

-- the first free spot among these tops and lefts, if any
abbrev pub first_spot : (ℕ → ℕ → Bool) → ℕ → ℕ → Option Spot
first_spot free tops lefts =
    let top : ℕ = first_top free tops lefts in cond (nat_lt top tops) (Some (spot top (first_left free lefts top))) None

-- no box has the spot
abbrev pub clear : List Bounds → ℕ → ℕ → Bool
clear boxes top left = not (covers boxes top left)

-- the first spot that no box has
abbrev pub first_free : List Bounds → ℕ → ℕ → Option Spot
first_free boxes tops lefts = first_spot (clear boxes) tops lefts

-- A spot is free: among the tops and lefts, and it passes.
pub record Free (free : ℕ → ℕ → Bool) (tops lefts : ℕ) (s : Spot) : Type 0 where
  pub high : s.top < tops
  pub near : s.left < lefts
  pub passes : free s.top s.left ≡ true

-- t comes after s in reading order: it is lower, or level and further right.
abbrev pub Later : Spot → Spot → Type 0
Later s t = (s.top < t.top) ⊎ ((s.top ≡ t.top) × (s.left < t.left))

-- An answer is first: a free spot, and every other free spot comes later; none exactly where no spot is free.
abbrev pub First : (ℕ → ℕ → Bool) → ℕ → ℕ → Option Spot → Type 0
First free tops lefts (Some s) =
    Free free tops lefts s × ((t : Spot) → Free free tops lefts t → (t ≢ s) → Later s t)
First free tops lefts None = (t : Spot) → Free free tops lefts t → ⊥

-- The law of the search: the first free spot is first, whatever makes a spot free.
abbrev pub SearchLaw : Type 0
SearchLaw = (free : ℕ → ℕ → Bool) (tops lefts : ℕ) → First free tops lefts (first_spot free tops lefts)

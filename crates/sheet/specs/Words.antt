-- What holds of claims, bodies and free spots, in words.
use Rattle.std.specs.Prelude.{◌≡◌, ℕ, ◌+◌, ◌<◌, ◌≤◌, true, false, List, length, Some, Ok, Err, Result, ◌≢◌}
use Rattle.std.specs.List.{AllByRecursion, slice_get}
use Rattle.refusal.specs.declared.Refusal.{Refusal}
use Rattle.refusal.specs.declared.Refusal.TheVariants.{NoFreeSpot}
use Rattle.geometry.specs.declared.bounds.Bounds.{Bounds}
use Rattle.geometry.specs.declared.search.Spot.{Spot}
use Rattle.geometry.specs.Boxes.{has, covers}
use Rattle.geometry.specs.FirstFree.{Later}
use Rattle.sheet.specs.declared.row.Draft.{Draft}
use Rattle.geometry.specs.declared.place.Sides.{Sides}
use Rattle.sheet.specs.declared.row.Row.{Row}
use Rattle.sheet.specs.declared.row.SheetSides.{SheetSides}
use Rattle.sheet.specs.Claims.{no_reach, widened, claim, claim_inside, meets}
use Rattle.sheet.specs.Rules.{Content, empty_row, verdict, shape_checks, drafted, place_answer}
use Rattle.sheet.specs.Serving.{Sided}
use Rattle.sheet.specs.Sound.{sound}

-- Two claims share a sample.
pub record Meet (c d : List Bounds) : Type 0 where
  pub y : ℕ
  pub x : ℕ
  pub first : covers c y x ≡ true
  pub second : covers d y x ≡ true

-- The test for it says so exactly where they do.
pub record Tested (c d : List Bounds) : Type 0 where
  pub shares : meets c d ≡ true → Meet c d
  pub says : Meet c d → meets c d ≡ true

-- The row with number n claims the packed sample (x, y).
pub record Claims (rows : List Row) (n y x : ℕ) : Type 0 where
  pub row : Row
  pub numbered : slice_get rows n ≡ Some row
  pub within : covers (claim row) y x ≡ true

-- The packed sample (x, y) lies in the body of the row with number n.
pub record InBody (rows : List Row) (n y x : ℕ) : Type 0 where
  pub row : Row
  pub numbered : slice_get rows n ≡ Some row
  pub within : has (widened row.body no_reach) y x ≡ true

-- No packed sample is claimed by two rows.
abbrev pub ClaimedOnce : List Row → Type 0
ClaimedOnce rows = (m n y x : ℕ) → Claims rows m y x → Claims rows n y x → m ≡ n

-- Bodies lie inside the packed picture and apart.
pub record Bodies (packed : Sides ℕ) (rows : List Row) : Type 0 where
  pub inside : (n y x : ℕ) → InBody rows n y x → (x < packed.width) × (y < packed.height)
  pub apart : (m n y x : ℕ) → InBody rows m y x → InBody rows n y x → m ≡ n

-- A row is well shaped: a turn that there is, sides of at least 1, and a projected rectangle inside its picture.
pub record Shaped (s : SheetSides) (r : Row) : Type 0 where
  pub turn : r.turn ≤ 7
  pub sided : Sided r
  pub across : r.projected.left + r.projected.width ≤ s.projected.width
  pub down : r.projected.top + r.projected.height ≤ s.projected.height

-- What holds of every sheet, for readers who do not know claims too.
pub record Facts (c : Content) : Type 0 where
  pub few : length c.rows ≤ 255
  pub shaped : AllByRecursion (Shaped c.sides) c.rows
  pub once : ClaimedOnce c.rows
  pub bodies : Bodies c.sides.packed c.rows

-- A spot is free for a draft: its claim there lies inside the packed picture and shares no sample with a row's claim.
pub record FreeSpot (c : Content) (d : Draft) (s : Spot) : Type 0 where
  pub inside : claim_inside c.sides.packed (drafted d s.top s.left) ≡ true
  pub off : (n : ℕ) (r : Row) → slice_get c.rows n ≡ Some r → Meet (claim (drafted d s.top s.left)) (claim r) → ⊥

-- The answer to a place is first: a free spot, and every other is lower, or level and further right; else 17, and none is free.
abbrev pub PlacedFirst : Content → Draft → Result Spot Refusal → Type 0
PlacedFirst c d (Ok s) = FreeSpot c d s × ((t : Spot) → FreeSpot c d t → (t ≢ s) → Later s t)
PlacedFirst c d (Err e) = (e ≡ NoFreeSpot) × ((t : Spot) → FreeSpot c d t → ⊥)

-- The laws of claims and places.
pub record ClaimLaws : Type 0 where
  pub tested : (r s : Row) → empty_row r ≡ false → empty_row s ≡ false → Tested (claim r) (claim s)
  pub placed : (c : Content) (d : Draft) → sound c ≡ true → Ok tt ≡ verdict (shape_checks c (drafted d 0 0)) →
      PlacedFirst c d (place_answer c d)

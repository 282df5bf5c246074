-- Where a bottom keeps each sample in its run.
use Rattle.std.specs.Prelude.{ℕ, ◌+◌, ◌-◌, ◌*◌, ◌/◌, ◌%◌, ◌^◌, Bool, cond, ◌&&◌, List, length, Ok, Err, Result, nat_le}
use Rattle.std.specs.List.{slice_get}
use Rattle.refusal.specs.declared.Refusal.{Refusal}
use Rattle.refusal.specs.declared.Refusal.TheVariants.{PlaceOutside, UnfitSides}
use Rattle.geometry.specs.declared.place.Place.{Place}
use Rattle.geometry.specs.declared.place.Sides.{Sides}
use Rattle.geometry.specs.Places.{by, inside}
use Rattle.picture.specs.Picture.{Picture, shown_by}

-- where a picture of some width keeps a place, and whether a run of some length takes some sides
pub record Layout : Type 0 where
  pub spot : ℕ → Place → ℕ
  pub takes : Sides ℕ → ℕ → Bool

-- the sides that a run of n samples shows: none if it does not take them
abbrev pub fitting : Layout → Sides ℕ → ℕ → Sides ℕ
fitting layout sides n = cond (layout.takes sides n) sides (by 0 0)

-- the picture that a run shows
abbrev pub laid : {A : Type 0} → Layout → Sides ℕ → List A → Picture A
laid layout sides run = shown_by (fitting layout sides (length run)) (layout.spot sides.width) (slice_get run)

-- the spot of a place, if a run of n samples shows it
abbrev pub kept_at : Layout → Sides ℕ → ℕ → Place → Result ℕ Refusal
kept_at layout sides n q = cond (inside (fitting layout sides n) q) (Ok (layout.spot sides.width q)) (Err PlaceOutside)

-- the sides after a sizing call
abbrev pub resized : Layout → Sides ℕ → Sides ℕ → ℕ → Sides ℕ
resized layout old sides n = cond (layout.takes sides n) sides old

-- what a sizing call answers
abbrev pub sizing : Layout → Sides ℕ → ℕ → Result (Unit {0}) Refusal
sizing layout sides n = cond (layout.takes sides n) (Ok tt) (Err UnfitSides)

-- neither side is over the longest that a bottom takes
abbrev pub short : Sides ℕ → Bool
short sides = nat_le sides.width 65535 && nat_le sides.height 65535

-- where rows of width w keep a place: row after row
abbrev pub row_spot : ℕ → Place → ℕ
row_spot w p = p.y * w + p.x

-- whether a run of n samples takes rows of these sides
abbrev pub rows_take : Sides ℕ → ℕ → Bool
rows_take sides n = short sides && nat_le (sides.height * sides.width) n

-- the layout of rows
abbrev pub row_layout : Layout
row_layout = record { spot = row_spot; takes = rows_take }

-- how many blocks of 8 a side takes
abbrev pub blocks : ℕ → ℕ
blocks side = (side + 7) / 8

-- where tiles of width w keep a place: blocks of 8 by 8, block after block along a line of blocks, each block row by row
abbrev pub tile_spot : ℕ → Place → ℕ
tile_spot w p = (p.y / 8 * blocks w + p.x / 8) * 64 + (p.y % 8 * 8 + p.x % 8)

-- whether a run of n samples takes whole blocks for these sides
abbrev pub tiles_take : Sides ℕ → ℕ → Bool
tiles_take sides n = short sides && nat_le (blocks sides.height * blocks sides.width * 64) n

-- the layout of tiles
abbrev pub tile_layout : Layout
tile_layout = record { spot = tile_spot; takes = tiles_take }

-- how many places of a line lie together in the run, from each place on
abbrev pub Pieces : Type 0
Pieces = Place → ℕ

-- among rows: as many as 64 bits count
abbrev pub row_pieces : Pieces
row_pieces p = 2 ^ 64 - 1

-- among tiles: those up to the end of the place's block
abbrev pub tile_pieces : Pieces
tile_pieces p = 8 - p.x % 8

-- One small film, worked through by hand: what the rules give for it, as one fact.
use Rattle.std.specs.Prelude.{◌≡◌, ℕ, false, List, [], ◌∷◌, ◌++◌, take, Some, None, Ok, Err, codes, slice_set}
use Rattle.refusal.specs.declared.Refusal.{Refusal}
use Rattle.refusal.specs.declared.Refusal.TheVariants.{InputEnds, NoPayload, ClaimLeaves, ClaimMeets, NoFreeSpot, NoSuchRow}
use Rattle.geometry.specs.declared.search.Spot.{Spot}
use Rattle.geometry.specs.Places.{at, by}
use Rattle.geometry.specs.Positions.{over}
use Rattle.sheet.specs.declared.row.Draft.{Draft}
use Rattle.sheet.specs.declared.row.GuardBands.{GuardBands}
use Rattle.sheet.specs.declared.row.Row.{Row}
use Rattle.sheet.specs.Rules.{Content, new_sheet, open_next, lay_answer, place_answer, place_next, lift_answer, lift_next}
use Rattle.sheet.specs.Serving.{position_answer, served_place, serve_answer}
use Rattle.rwpk.specs.declared.fault.Fault.{Fault}
use Rattle.rwpk.specs.Loading.{load_answer, load_next}
use Rattle.listing.specs.Listing.{listing}

-- the box of the film: a header, then two rows
abbrev pub film_box : List ℕ
film_box =
    0 ∷ 0 ∷ 0 ∷ 78 ∷ 114 ∷ 119 ∷ 112 ∷ 107 ∷ 0 ∷ 0 ∷ 0 ∷ 0 ∷ 0 ∷ 2 ∷ 0 ∷ 0 ∷ 0 ∷ 8 ∷ 0 ∷ 0 ∷ 0 ∷ 4 ∷ 0 ∷ 6 ∷ 0 ∷ 4 ∷
    0 ∷ 0 ∷ 0 ∷ 0 ∷ 4 ∷ 0 ∷ 0 ∷ 0 ∷ 4 ∷ 0 ∷ 0 ∷ 0 ∷ 0 ∷ 0 ∷ 0 ∷ 0 ∷ 0 ∷ 0 ∷ 0 ∷ 4 ∷ 0 ∷ 4 ∷ 0 ∷ 0 ∷ 0 ∷ 0 ∷
    0 ∷ 0 ∷ 0 ∷ 0 ∷ 4 ∷ 0 ∷ 0 ∷ 0 ∷ 4 ∷ 0 ∷ 0 ∷ 0 ∷ 0 ∷ 0 ∷ 0 ∷ 0 ∷ 4 ∷ 160 ∷ 0 ∷ 2 ∷ 0 ∷ 4 ∷ 0 ∷ 0 ∷ 0 ∷ 4 ∷ []

-- the sheet that it loads
abbrev pub film_sheet : Content
film_sheet = load_next film_box new_sheet

-- a fault at a byte place
abbrev pub fault : Refusal → ℕ → Fault
fault refusal place = record { refusal = refusal; place = place }

-- a spot for a body
abbrev pub spot : ℕ → ℕ → Spot
spot top left = record { top = top; left = left }

-- a text and the end of its line
abbrev pub line : List ℕ → List ℕ
line text = text ++ 10 ∷ []

-- a body of 2 by 2 that looks for its spot
abbrev pub small : Draft
small = record { projected = record { width = 4; height = 4; top = 0; left = 0 }; turn = 0; width = 2; height = 2; bands = None }

-- the sheet once row 1 is lifted, and after one and two such bodies are placed
abbrev pub lifted : Content
lifted = lift_next film_sheet 1

abbrev pub placed_once : Content
placed_once = place_next lifted small

abbrev pub placed_twice : Content
placed_twice = place_next placed_once small

-- a sheet opened with the film's sides
abbrev pub opened : Content
opened = open_next (record { projected = by 8 4; packed = record { width = 6; height = 4 } }) new_sheet

-- a left band of one sample
abbrev pub left_band : GuardBands
left_band =
    record {
      sizes = record { left = 1; right = 0; top = 0; bottom = 0 };
      prediction = false;
      kinds = record { left = 0; right = 0; top = 0; bottom = 0 };
    }

-- a body of 2 by 2 with that band, so far from the left
abbrev pub banded : ℕ → Row
banded left =
    record {
      projected = record { width = 4; height = 4; top = 0; left = 0 };
      turn = 0;
      body = record { width = 2; height = 2; top = 0; left = left };
      bands = Some left_band;
    }

-- a row three columns wide whose body is two columns wide
abbrev pub narrow : ℕ → ℕ → ℕ → ℕ → Row
narrow turn s top h =
    record {
      projected = record { width = 3; height = s; top = top; left = 0 };
      turn = turn;
      body = record { width = 2; height = h; top = 0; left = 0 };
      bands = None;
    }

-- the body column that projected column x takes
abbrev pub column : Row → ℕ → ℕ → ℕ
column r x y = (served_place r (at x y)).x

-- All that is worked out of the film.
pub record WorkedFilm : Type 0 where
  -- the listing of its box
  pub lists : listing film_box ≡
      line (codes "sheet 8 4 6 4 2") ++ line (codes "0 4 4 0 0 0 4 4 0 0") ++ line (codes "1 4 4 0 4 5 2 4 0 4")
  -- with last byte 03, its first 60 bytes with size 3C, its first 12 with size 0C
  pub clashes : load_answer (slice_set film_box 77 3) ≡ Err (fault ClaimMeets 52)
  pub ends : load_answer (slice_set (take 60 film_box) 3 60) ≡ Err (fault InputEnds 57)
  pub empty : load_answer (slice_set (take 12 film_box) 3 12) ≡ Err (fault NoPayload 12)
  -- the position of place (0, 1) of row 1, and what serves projected (5, 3)
  pub position : position_answer film_sheet 1 (record { 0 = at 0 1 }) ≡ Ok (record { across = over 44 8; down = over 12 4 })
  pub serves : serve_answer film_sheet (record { 0 = at 5 3 }) ≡ Ok (record { row = 1; place = record { 0 = at 0 1 } })
  -- three columns onto two, as they are and mirrored, whatever the other sides are
  pub plain : (s top h y : ℕ) → (column (narrow 0 s top h) 0 y ≡ 0) × (column (narrow 0 s top h) 1 y ≡ 1) × (column (narrow 0 s top h) 2 y ≡ 1)
  pub mirrored : (s top h y : ℕ) → (column (narrow 1 s top h) 0 y ≡ 1) × (column (narrow 1 s top h) 1 y ≡ 0) × (column (narrow 1 s top h) 2 y ≡ 0)
  -- there is no row 2 to lift
  pub no_row : lift_answer film_sheet 2 ≡ Err NoSuchRow
  -- bodies of 2 by 2 in the room of row 1
  pub first : place_answer lifted small ≡ Ok (spot 0 4)
  pub second : place_answer placed_once small ≡ Ok (spot 2 4)
  pub third : place_answer placed_twice small ≡ Err NoFreeSpot
  -- a left band wants a column
  pub leaves : lay_answer opened (banded 0) ≡ Err ClaimLeaves
  pub granted : lay_answer opened (banded 1) ≡ Ok tt

-- The content of a sheet, and what each call answers and leaves.
use Rattle.std.specs.Prelude.{ℕ, ◌+◌, Bool, false, if◌then◌else◌, not, ◌&&◌, ◌||◌, List, [], ◌∷◌, ◌++◌, length, Some, None, Ok, Err, Option, Result, ◌==◌, nat_le, nat_lt}
use Rattle.std.specs.List.{remove}
use Rattle.refusal.specs.declared.Refusal.{Refusal}
use Rattle.refusal.specs.declared.Refusal.TheVariants.{EmptySide, GuardBands as BandFault, TurnCode, LeavesProjected, ClaimLeaves, ClaimMeets, SheetFull, NoFreeSpot, NoSuchRow}
use Rattle.geometry.specs.declared.place.Rectangle.{Rectangle}
use Rattle.geometry.specs.declared.place.Sides.{Sides}
use Rattle.geometry.specs.declared.search.Spot.{Spot}
use Rattle.geometry.specs.FirstFree.{first_spot}
use Rattle.geometry.specs.Places.{by}
use Rattle.sheet.specs.declared.row.Draft.{Draft}
use Rattle.sheet.specs.declared.row.FourSides.{FourSides}
use Rattle.sheet.specs.declared.row.GuardBands.{GuardBands}
use Rattle.sheet.specs.declared.row.Row.{Row}
use Rattle.sheet.specs.declared.row.SheetSides.{SheetSides}
use Rattle.sheet.specs.Claims.{claim, claim_inside, meets_any}

-- what a sheet holds: the sides of its pictures, and its rows in order
pub record Content : Type 0 where
  pub sides : SheetSides
  pub rows : List Row

-- the sides of a projected and a packed picture
abbrev pub sides_by : ℕ → ℕ → ℕ → ℕ → SheetSides
sides_by pw ph kw kh = record { projected = by pw ph; packed = record { width = kw; height = kh } }

-- a new sheet: pictures of 1 by 1, and no rows
abbrev pub new_sheet : Content
new_sheet = record { sides = sides_by 1 1 1 1; rows = [] }

-- the same sides with other rows
abbrev pub with_rows : Content → List Row → Content
with_rows c rows = record { sides = c.sides; rows = rows }

-- a side of a picture is 0
abbrev pub empty_picture : SheetSides → Bool
empty_picture s =
    (s.projected.width == 0) || s.projected.height == 0 || s.packed.width == 0 || s.packed.height == 0

-- a side of a row's projected rectangle or body is 0
abbrev pub empty_row : Row → Bool
empty_row r =
    (r.projected.width == 0) || r.projected.height == 0 || r.body.width == 0 || r.body.height == 0

-- all four numbers are 0
abbrev pub all_zero : FourSides → Bool
all_zero s = s.left == 0 && s.right == 0 && s.top == 0 && s.bottom == 0

-- one of four numbers is over 4
abbrev pub over_four : FourSides → Bool
over_four k = nat_lt 4 k.left || nat_lt 4 k.right || nat_lt 4 k.top || nat_lt 4 k.bottom

-- guard bands of no size, or of a kind that there is not
abbrev pub bad_bands : Option GuardBands → Bool
bad_bands None = false
bad_bands (Some b) = all_zero b.sizes || over_four b.kinds

-- a turn code that there is not
abbrev pub bad_turn : Row → Bool
bad_turn r = nat_lt 7 r.turn

-- the projected rectangle leaves its picture
abbrev pub leaves_projected : Sides ℕ → Rectangle ℕ → Bool
leaves_projected s p = nat_lt s.width (p.left + p.width) || nat_lt s.height (p.top + p.height)

-- a check: where it fails, the call is refused with this
pub record Check : Type 0 where
  pub fails : Bool
  pub with : Refusal

abbrev pub check : Bool → Refusal → Check
check fails with = record { fails = fails; with = with }

-- the first check that fails decides
abbrev pub verdict : List Check → Result Unit Refusal
verdict [] = Ok tt
verdict (c ∷ cs) = if c.fails then Err c.with else verdict cs

-- what a call leaves: the one where it is granted, the other where it is refused
abbrev pub after : {X : Type 0} → Result X Refusal → (X → Content) → Content → Content
after (Ok x) granted refused = granted x
after (Err e) granted refused = refused

-- the checks of a row that do not ask where its body lies, in their order
abbrev pub shape_checks : Content → Row → List Check
shape_checks c r =
    check (nat_le 255 (length c.rows)) SheetFull
    ∷ check (bad_turn r) TurnCode
    ∷ check (empty_row r) EmptySide
    ∷ check (bad_bands r.bands) BandFault
    ∷ check (leaves_projected c.sides.projected r.projected) LeavesProjected
    ∷ []

-- the checks of where its body lies
abbrev pub room_checks : Content → Row → List Check
room_checks c r =
    check (not (claim_inside c.sides.packed r)) ClaimLeaves ∷ check (meets_any (claim r) c.rows) ClaimMeets ∷ []

-- open: four sides and no rows
abbrev pub open_answer : SheetSides → Result Unit Refusal
open_answer s = verdict (check (empty_picture s) EmptySide ∷ [])

abbrev pub open_next : SheetSides → Content → Content
open_next s c = after (open_answer s) (λ _. record { sides = s; rows = [] }) c

-- lay: one more row after the last
abbrev pub lay_answer : Content → Row → Result Unit Refusal
lay_answer c r = verdict (shape_checks c r ++ room_checks c r)

abbrev pub lay_next : Content → Row → Content
lay_next c r = after (lay_answer c r) (λ _. with_rows c (c.rows ++ r ∷ [])) c

-- lift: one row less, and later rows move down by one
abbrev pub lift_answer : Content → ℕ → Result Unit Refusal
lift_answer c n = verdict (check (nat_le (length c.rows) n) NoSuchRow ∷ [])

abbrev pub lift_next : Content → ℕ → Content
lift_next c n = after (lift_answer c n) (λ _. with_rows c (remove c.rows n)) c

-- a draft with its body at a spot
abbrev pub drafted : Draft → ℕ → ℕ → Row
drafted d top left =
    record {
      projected = d.projected;
      turn = d.turn;
      body = record { width = d.width; height = d.height; top = top; left = left };
      bands = d.bands;
    }

-- a spot is free: the claim there lies inside the packed picture and meets no row's claim
abbrev pub free : Content → Draft → ℕ → ℕ → Bool
free c d top left =
    claim_inside c.sides.packed (drafted d top left) && not (meets_any (claim (drafted d top left)) c.rows)

-- the highest free spot, and the leftmost of those
abbrev pub found : Content → Draft → Option Spot
found c d = first_spot (free c d) c.sides.packed.height c.sides.packed.width

-- place: the row at the first free spot
abbrev pub spotted : Option Spot → Result Spot Refusal
spotted None = Err NoFreeSpot
spotted (Some s) = Ok s

abbrev pub and_then : {X : Type 0} → Result Unit Refusal → Result X Refusal → Result X Refusal
and_then (Ok u) next = next
and_then (Err e) next = Err e

abbrev pub place_answer : Content → Draft → Result Spot Refusal
place_answer c d = and_then (verdict (shape_checks c (drafted d 0 0))) (spotted (found c d))

abbrev pub place_next : Content → Draft → Content
place_next c d = after (place_answer c d) (λ s. with_rows c (c.rows ++ drafted d s.top s.left ∷ [])) c

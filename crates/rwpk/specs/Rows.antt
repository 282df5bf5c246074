-- A row of a box, in the order in which its fields are judged.
use Rattle.std.specs.Prelude.{ℕ, ◌+◌, ◌*◌, ◌/◌, ◌%◌, Bool, true, false, List, Some, None, Ok, Option, Result, ◌==◌, nat_lt}
use Rattle.refusal.specs.declared.Refusal.TheVariants.{EmptySide, ReservedBit, PackingType, GuardBands as BandFault}
use Rattle.geometry.specs.declared.place.Rectangle.{Rectangle}
use Rattle.geometry.specs.declared.place.Sides.{Sides}
use Rattle.sheet.specs.declared.row.FourSides.{FourSides}
use Rattle.sheet.specs.declared.row.GuardBands.{GuardBands}
use Rattle.sheet.specs.declared.row.Row.{Row}
use Rattle.sheet.specs.Rules.{all_zero, over_four}
use Rattle.rwpk.specs.declared.fault.Fault.{Fault}
use Rattle.rwpk.specs.Fields.{field, refuse, ◌>>=◌, ◌>>◌}

-- a width or a height, which may not be 0, where `read` reads a number at a place
abbrev pub side_by : {X : Type 0} → (X → ℕ) → (ℕ → Result X Fault) → ℕ → Result X Fault
side_by number read p = do
  side ← read p
  refuse (number side == 0) EmptySide p
  Ok side

-- a width or a height in n bytes
abbrev pub side_at : ℕ → List ℕ → ℕ → Result ℕ Fault
side_at n input p = side_by (λ x. x) (field n input) p

-- a width and a height, where `side` reads a side of n bytes
abbrev pub sides_by : {X : Type 0} → ℕ → (ℕ → Result X Fault) → ℕ → Result (Sides X) Fault
sides_by n side p = do
  width ← side p
  height ← side (p + n)
  Ok (record { width = width; height = height })

-- a rectangle, where `side` reads a side of n bytes and `read` any number of n bytes
abbrev pub rectangle_by : {X : Type 0} → ℕ → (ℕ → Result X Fault) → (ℕ → Result X Fault) → ℕ → Result (Rectangle X) Fault
rectangle_by n side read p = do
  width ← side p
  height ← side (p + n)
  top ← read (p + 2 * n)
  left ← read (p + 3 * n)
  Ok (record { width = width; height = height; top = top; left = left })

-- a rectangle whose four numbers have n bytes each
abbrev pub rectangle_at : ℕ → List ℕ → ℕ → Result (Rectangle ℕ) Fault
rectangle_at n input p = rectangle_by n (side_at n input) (field n input) p

-- three reserved bits, the band flag, and four bits of packing type: whether the row has bands
abbrev pub flag_at : List ℕ → ℕ → Result Bool Fault
flag_at input p = do
  byte ← field 1 input p
  refuse (nat_lt 0 (byte / 32)) ReservedBit p
  refuse (nat_lt 0 (byte % 16)) PackingType p
  Ok (byte / 16 == 1)

-- three bits of turn code, and five reserved bits
abbrev pub turn_at : List ℕ → ℕ → Result ℕ Fault
turn_at input p = do
  byte ← field 1 input p
  refuse (nat_lt 0 (byte % 32)) ReservedBit p
  Ok (byte / 32)

-- one number for each side
abbrev pub four_sides : ℕ → ℕ → ℕ → ℕ → FourSides
four_sides left right top bottom = record { left = left; right = right; top = top; bottom = bottom }

-- the four sizes are judged together, once the last is read
abbrev pub sizes_at : List ℕ → ℕ → Result FourSides Fault
sizes_at input p = do
  left ← field 1 input p
  right ← field 1 input (p + 1)
  top ← field 1 input (p + 2)
  bottom ← field 1 input (p + 3)
  refuse (all_zero (four_sides left right top bottom)) BandFault p
  Ok (four_sides left right top bottom)

-- the prediction flag in the top bit, then four kinds of three bits, then three reserved bits
abbrev pub flag_of : ℕ → Bool
flag_of word = word / 32768 == 1

abbrev pub kinds_of : ℕ → FourSides
kinds_of word = four_sides (word / 4096 % 8) (word / 512 % 8) (word / 64 % 8) (word / 8 % 8)

abbrev pub kinds_at : List ℕ → ℕ → Result ℕ Fault
kinds_at input p = do
  word ← field 2 input p
  refuse (nat_lt 0 (word % 8)) ReservedBit p
  refuse (over_four (kinds_of word)) BandFault p
  Ok word

abbrev pub bands_at : List ℕ → ℕ → Result GuardBands Fault
bands_at input p = do
  sizes ← sizes_at input p
  word ← kinds_at input (p + 4)
  Ok (record { sizes = sizes; prediction = flag_of word; kinds = kinds_of word })

-- the bands where the flag says that there are any
abbrev pub bands_if : Bool → List ℕ → ℕ → Result (Option GuardBands) Fault
bands_if false input p = Ok None
bands_if true input p = do
  bands ← bands_at input p
  Ok (Some bands)

-- the row whose first byte stands at p
abbrev pub row_at : List ℕ → ℕ → Result Row Fault
row_at input p = do
  banded ← flag_at input p
  projected ← rectangle_at 4 input (p + 1)
  turn ← turn_at input (p + 17)
  body ← rectangle_at 2 input (p + 18)
  bands ← bands_if banded input (p + 26)
  Ok (record { projected = projected; turn = turn; body = body; bands = bands })
